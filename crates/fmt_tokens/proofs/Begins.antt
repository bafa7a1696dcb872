-- Which byte the text of some inks begins with.
use Rattle.std.proofs.Common.{◌≡◌, ℕ, ℤ, pos, negsuc, ◌≤◌, ◌<◌, Bool, true, false, List, [], ◌∷◌, ◌++◌, length, refl, subst, arith}
use Rattle.std.specs.Prelude.{not, ◌==◌, ◌||◌}
use Rattle.std.specs.List.{list_all}
use Rattle.std.specs.Char.{is_ascii_digit}
use Rattle.std.specs.Fmt.{decimal}
use Rattle.std.proofs.lemmas.Bool.Decides.{nat_tests}
use Rattle.std.proofs.lemmas.Fmt.{decimal_is_IsNumeral}
use Rattle.nf_token.specs.declared.token.PlainKind.{PlainKind}
use Rattle.nf_token.specs.declared.token.PlainKind.TheVariants.{Single, TripleSingle, Slashes}
use Rattle.nf_token.specs.declared.token.TemplateKind.{TemplateKind}
use Rattle.nf_token.specs.declared.token.TemplateKind.TheVariants.{Double, TripleDouble}
use Rattle.nf_lexer.specs.Bytes.{begins_name, is_in_name}
use Rattle.nf_lexer.specs.Word.{limit}
use Rattle.nf_writer.specs.Ink as ink
use Rattle.nf_writer.specs.Ink.{Ink, inked}
use Rattle.nf_printer.specs.Levels.{within}
use Rattle.fmt_tokens.specs.Fits.{is_word, IsName, IsNumber}
use Rattle.fmt_tokens.proofs.Tests.{both}
use Rattle.fmt_tokens.proofs.Codes.{digits_pass}
use Rattle.fmt_tokens.proofs.InkLists.{inked_on}
use Rattle.fmt_tokens.proofs.Stands.{parts_tokens, Apart, Ends, apart_ends}

-- ---- with what parts tokens

-- these inks may follow a token, before what may follow one
abbrev pub Begins : List Ink → Type 0
Begins xs = (rest : List ℕ) → Apart rest → Apart (inked xs ++ rest)

pub begins_on : (xs ys : List Ink) → Begins xs → Begins ys → Begins (xs ++ ys)
begins_on xs ys f g rest a = subst Apart (inked_on xs ys rest) (f (inked ys ++ rest) (g rest a))

-- ---- with no `#`, `=` or `>`

abbrev pub is_never_first : ℕ → Bool
is_never_first b = b == 35 || b == 61 || b == 62

pub record Starts (xs : List Ink) : Type 0 where
  pub starts : (rest : List ℕ) → Ends is_never_first rest → Ends is_never_first (inked xs ++ rest)

-- the same, whatever follows
pub record Fronts (xs : List Ink) : Type 0 where
  pub fronts : (rest : List ℕ) → Ends is_never_first (inked xs ++ rest)

pub by_front : {xs : List Ink} → Fronts xs → Starts xs
by_front f = record { starts = λ rest a. f.fronts rest }

pub starts_none : Starts []
starts_none = record { starts = λ rest a. a }

pub fronts_on : {xs ys : List Ink} → Starts xs → Fronts ys → Fronts (xs ++ ys)
fronts_on {xs} {ys} f g = record { fronts = λ rest. subst (Ends is_never_first) (inked_on xs ys rest) (f.starts (inked ys ++ rest) (g.fronts rest)) }

pub fronts_more : {xs : List Ink} (ys : List Ink) → Fronts xs → Fronts (xs ++ ys)
fronts_more {xs} ys f = record { fronts = λ rest. subst (Ends is_never_first) (inked_on xs ys rest) (f.fronts (inked ys ++ rest)) }

pub starts_within : {xs : List Ink} (b : Bool) → Starts xs → Starts (within b xs)
starts_within true f = record { starts = λ rest a. refl }
starts_within false f = f

apart_first : (b : ℕ) → parts_tokens b ≡ true → is_never_first b ≡ false
apart_first b h = grind (arith, nat_tests)

pub apart_starts : (rest : List ℕ) → Apart rest → Ends is_never_first rest
apart_starts = apart_ends is_never_first apart_first

no_equals : (b : ℕ) → not (is_never_first b) ≡ true → not (b == 61) ≡ true
no_equals b h = grind (arith, nat_tests)

pub starts_not : (rest : List ℕ) → Ends is_never_first rest → Ends (λ b. b == 61) rest
starts_not [] h = refl
starts_not (b ∷ rest) h = no_equals b h

no_arrow : (b : ℕ) → not (is_never_first b) ≡ true → not (b == 62) ≡ true
no_arrow b h = grind (arith, nat_tests)

pub starts_minus : (rest : List ℕ) → Ends is_never_first rest → Ends (λ b. b == 62) rest
starts_minus [] h = refl
starts_minus (b ∷ rest) h = no_arrow b h

-- ---- names, numbers and strings

name_first : (b : ℕ) → begins_name b ≡ true → not (is_never_first b) ≡ true
name_first b h = grind (arith, nat_tests)

named_by : (w rest : List ℕ) → is_word w ≡ true → Ends is_never_first ((w ++ []) ++ rest)
named_by [] rest h = absurd cc
named_by (b ∷ w) rest h = name_first b (both (begins_name b) (list_all is_in_name w) h).0

pub name_starts : (s : List ℕ) → IsName s → Starts (ink.name s ∷ [])
name_starts s h = record { starts = λ rest a. named_by s rest h.word }

digit_first : (b : ℕ) → is_ascii_digit b ≡ true → not (is_never_first b) ≡ true
digit_first b h = grind (arith, nat_tests)

digits_start : (w rest : List ℕ) → 0 < length w → list_all is_ascii_digit w ≡ true → Ends is_never_first ((w ++ []) ++ rest)
digits_start [] rest some h = absurd (omega arith)
digits_start (b ∷ w) rest some h = digit_first b (both (is_ascii_digit b) (list_all is_ascii_digit w) h).0

number_by : (n : ℕ) (rest : List ℕ) → n ≤ limit → Ends is_never_first ((decimal n ++ []) ++ rest)
number_by n rest small =
    let whole = decimal_is_IsNumeral n (omega arith) in
    digits_start (decimal n) rest whole.0.0 (digits_pass (decimal n) whole.0.1)

pub number_starts : (n : ℤ) → IsNumber n → Starts (ink.number n ∷ [])
number_starts (negsuc n) h = absurd h
number_starts (pos n) h = record { starts = λ rest a. number_by n rest h }

pub plain_starts : (q : PlainKind) (l : Bool) (s : List ℕ) → Starts (ink.plain q l s ∷ [])
plain_starts Single l s = record { starts = λ rest a. refl }
plain_starts TripleSingle l s = record { starts = λ rest a. refl }
plain_starts Slashes l s = record { starts = λ rest a. refl }

pub template_starts : (q : TemplateKind) (xs : List Ink) → Starts (ink.open_template q ∷ xs)
template_starts Double xs = record { starts = λ rest a. refl }
template_starts TripleDouble xs = record { starts = λ rest a. refl }

-- ---- a name after a `.`

name_no_dot : (b : ℕ) → begins_name b ≡ true → not (b == 46) ≡ true
name_no_dot b h = grind (arith, nat_tests)

pub name_after_dot : (s rest : List ℕ) → IsName s → Ends (λ b. b == 46) (inked (ink.name s ∷ []) ++ rest)
name_after_dot s rest h = by s h.word
  where
    by : (w : List ℕ) → is_word w ≡ true → Ends (λ b. b == 46) ((w ++ []) ++ rest)
    by [] i = absurd cc
    by (b ∷ w) i = name_no_dot b (both (begins_name b) (list_all is_in_name w) i).0
