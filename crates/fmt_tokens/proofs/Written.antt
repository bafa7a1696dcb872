-- How each byte of a printed string is read, escaped or not.
use Rattle.std.proofs.Common.{◌≡◌, ℕ, Bool, true, false, cond, List, [], ◌∷◌, length, take, Option, Some, None, refl, sym, ap, ◌∙◌, arith}
use Rattle.std.specs.Prelude.{nat_eq, not, ◌==◌, ◌&&◌, take_while}
use Rattle.std.specs.List.{starts_with}
use Rattle.std.specs.Str.{is_utf8}
use lib.Pointwise.{bytes_decides}
use Rattle.std.proofs.lemmas.Bool.Decides.{nat_tests, Decides-eqb}
use Rattle.nf_value.specs.declared.place.Place.{Place}
use Rattle.nf_token.specs.declared.token.PlainKind.TheVariants.{Single, TripleSingle, Slashes}
use Rattle.nf_token.specs.declared.token.TemplateKind.TheVariants.{Double, TripleDouble}
use Rattle.nf_token.specs.declared.token.TextKind.{TextKind}
use Rattle.nf_token.specs.declared.token.TextKind.TheVariants.{Plain, Pattern, Template}
use Rattle.nf_lexer.specs.declared.open.Change.TheVariants.{Keep}
use Rattle.nf_lexer.specs.Bytes.{is_special, is_ordinary}
use Rattle.nf_lexer.specs.Front.{written, passes, checked}
use Rattle.nf_token.specs.Spellings.{closing}
use Rattle.nf_lexer.specs.Escape.{escaped, escape, written_or_bad, kept}
use Rattle.nf_lexer.specs.First.{has_escapes, has_holes, in_text}
use Rattle.nf_writer.specs.Ink.{blank_letter, line_letter, letter}
use Rattle.fmt_tokens.proofs.Tests.{if_true, if_false, not_not}

-- ---- quotes

abbrev pub quote : TextKind → ℕ
quote (Plain Single) = 39
quote (Plain TripleSingle) = 39
quote (Plain Slashes) = 47
quote Pattern = 47
quote (Template k) = 34

abbrev pub more_quotes : TextKind → List ℕ
more_quotes (Plain TripleSingle) = 39 ∷ 39 ∷ []
more_quotes (Template TripleDouble) = 34 ∷ 34 ∷ []
more_quotes _ = []

pub closing_is : (k : TextKind) → closing k ≡ quote k ∷ more_quotes k
closing_is (Plain Single) = refl
closing_is (Plain TripleSingle) = refl
closing_is (Plain Slashes) = refl
closing_is Pattern = refl
closing_is (Template Double) = refl
closing_is (Template TripleDouble) = refl

abbrev head_of : List ℕ → ℕ
head_of [] = 0
head_of (x ∷ xs) = x

front_by : (b x : ℕ) (bs w : List ℕ) (t : Bool) → (b == x) ≡ false → starts_with nat_eq (b ∷ bs) (x ∷ w) ≡ t → t ≡ false
front_by b x bs w true h k =
    let e : x ≡ b = ap head_of ((bytes_decides (x ∷ w) (take (length (x ∷ w)) (b ∷ bs))).0 k) in
    absurd (grind (arith, nat_tests))
front_by b x bs w false h k = refl

pub no_front : (b x : ℕ) (bs w : List ℕ) → (b == x) ≡ false → starts_with nat_eq (b ∷ bs) (x ∷ w) ≡ false
no_front b x bs w h = front_by b x bs w (starts_with nat_eq (b ∷ bs) (x ∷ w)) h refl

pub not_closing : (k : TextKind) (b : ℕ) (bs : List ℕ) → (b == quote k) ≡ false → starts_with nat_eq (b ∷ bs) (closing k) ≡ false
not_closing k b bs h = ap (λ z. starts_with nat_eq (b ∷ bs) z) (closing_is k) ∙ no_front b (quote k) bs (more_quotes k) h

ordinary_quote : (k : TextKind) (b : ℕ) → is_special b ≡ false → (b == quote k) ≡ false
ordinary_quote (Plain Single) b h = grind (arith, nat_tests)
ordinary_quote (Plain TripleSingle) b h = grind (arith, nat_tests)
ordinary_quote (Plain Slashes) b h = grind (arith, nat_tests)
ordinary_quote Pattern b h = grind (arith, nat_tests)
ordinary_quote (Template k) b h = grind (arith, nat_tests)

-- ---- a run

no_slash : (b : ℕ) → is_special b ≡ false → (b == 92) ≡ false
no_slash b h = grind (arith, nat_tests)

no_dollar : (b : ℕ) (holes : Bool) → is_special b ≡ false → (b == 36 && holes) ≡ false
no_dollar b holes h = grind (arith, nat_tests)

checked_passes : (place : Place) (w : List ℕ) → is_utf8 w ≡ true → checked place w (written w) Keep ≡ passes (written w) Keep (length w)
checked_passes place w h = if_true (is_utf8 w) _ _ h

pub run_read : (k : TextKind) (place : Place) (b : ℕ) (bs w : List ℕ) → is_special b ≡ false → take_while is_ordinary (b ∷ bs) ≡ w → is_utf8 w ≡ true → in_text k place b bs ≡ passes (written w) Keep (length w)
unfolding in_text
run_read k place b bs w h e u =
    if_false (starts_with nat_eq (b ∷ bs) (closing k)) _ _ (not_closing k b bs (ordinary_quote k b h))
    ∙ if_false (b == 92) _ _ (no_slash b h)
    ∙ if_false (b == 36 && has_holes k) _ _ (no_dollar b (has_holes k) h)
    ∙ if_false (is_special b) _ _ h
    ∙ ap (λ (z : List ℕ). checked place z (written z) Keep) e
    ∙ checked_passes place w u

-- ---- escapes

abbrev Escapes : ℕ → ℕ → Type 0
Escapes b c = ((c == 117) ≡ false) × (escaped c ≡ Some (b ∷ []))

blank_escapes : (b c : ℕ) → blank_letter b ≡ Some c → Escapes b c
blank_escapes b c h = (grind (arith, nat_tests), grind (arith, nat_tests))

line_escapes : (l : Bool) (b c : ℕ) → line_letter l b ≡ Some c → Escapes b c
line_escapes l b c h = (grind (arith, nat_tests), grind (arith, nat_tests))

letter_escapes : (k : TextKind) (l : Bool) (b c : ℕ) → has_escapes k ≡ true → letter k l b ≡ Some c → Escapes b c
letter_escapes (Plain Single) l b c e h = (grind (arith, nat_tests), grind (arith, nat_tests))
letter_escapes (Plain TripleSingle) l b c e h = (grind (arith, nat_tests), grind (arith, nat_tests))
letter_escapes (Plain Slashes) l b c e h = absurd cc
letter_escapes Pattern l b c e h = absurd cc
letter_escapes (Template Double) l b c e h = (grind (arith, nat_tests), grind (arith, nat_tests))
letter_escapes (Template TripleDouble) l b c e h = (grind (arith, nat_tests), grind (arith, nat_tests))

quote_is_no_slash : (k : TextKind) → (92 == quote k) ≡ false
quote_is_no_slash (Plain Single) = refl
quote_is_no_slash (Plain TripleSingle) = refl
quote_is_no_slash (Plain Slashes) = refl
quote_is_no_slash Pattern = refl
quote_is_no_slash (Template k) = refl

escape_read : (place : Place) (b c : ℕ) (bs : List ℕ) → Escapes b c → escape place (c ∷ bs) ≡ passes (written (b ∷ [])) Keep 2
escape_read place b c bs h = if_false (c == 117) _ _ h.0 ∙ ap (λ (z : Option (List ℕ)). written_or_bad place z 2) h.1

after_slash : (k : TextKind) (place : Place) (bs : List ℕ) → in_text k place 92 bs ≡ cond (has_escapes k) (escape place bs) (kept bs)
unfolding in_text
after_slash k place bs = if_false (starts_with nat_eq (92 ∷ bs) (closing k)) _ _ (not_closing k 92 bs (quote_is_no_slash k))

slashed : (k : TextKind) (l : Bool) (b c : ℕ) → has_escapes k ≡ false → letter k l b ≡ Some c → (b ≡ 47) × (c ≡ 47)
slashed (Plain Single) l b c e h = absurd cc
slashed (Plain TripleSingle) l b c e h = absurd cc
slashed (Plain Slashes) l b c e h = (grind (arith, nat_tests), grind (arith, nat_tests))
slashed Pattern l b c e h = (grind (arith, nat_tests), grind (arith, nat_tests))
slashed (Template k) l b c e h = absurd cc

kept_read : (b c : ℕ) (bs : List ℕ) → (b ≡ 47) × (c ≡ 47) → kept (c ∷ bs) ≡ passes (written (b ∷ [])) Keep 2
kept_read b c bs h = ap (λ z. kept (z ∷ bs)) h.1 ∙ ap (λ z. passes (written (z ∷ [])) Keep 2) (sym h.0)

letter_by : (k : TextKind) (l : Bool) (place : Place) (b c : ℕ) (bs : List ℕ) (t : Bool) → has_escapes k ≡ t → letter k l b ≡ Some c → cond t (escape place (c ∷ bs)) (kept (c ∷ bs)) ≡ passes (written (b ∷ [])) Keep 2
letter_by k l place b c bs true e h = escape_read place b c bs (letter_escapes k l b c e h)
letter_by k l place b c bs false e h = kept_read b c bs (slashed k l b c e h)

-- a byte with a letter is read from the backslash and that letter
pub letter_read : (k : TextKind) (l : Bool) (place : Place) (b c : ℕ) (bs : List ℕ) → letter k l b ≡ Some c → in_text k place 92 (c ∷ bs) ≡ passes (written (b ∷ [])) Keep 2
letter_read k l place b c bs h = after_slash k place (c ∷ bs) ∙ letter_by k l place b c bs (has_escapes k) refl h

-- ---- bytes that are printed as they are, though they could mean something

pub none_quote : (k : TextKind) (l : Bool) (b : ℕ) → letter k l b ≡ None → (b == quote k) ≡ false
none_quote (Plain Single) l b h = grind (arith, nat_tests)
none_quote (Plain TripleSingle) l b h = grind (arith, nat_tests)
none_quote (Plain Slashes) l b h = grind (arith, nat_tests)
none_quote Pattern l b h = grind (arith, nat_tests)
none_quote (Template Double) l b h = grind (arith, nat_tests)
none_quote (Template TripleDouble) l b h = grind (arith, nat_tests)

none_dollar : (k : TextKind) (l : Bool) (b : ℕ) → letter k l b ≡ None → (b == 36 && has_holes k) ≡ false
none_dollar (Plain Single) l b h = grind (arith, nat_tests)
none_dollar (Plain TripleSingle) l b h = grind (arith, nat_tests)
none_dollar (Plain Slashes) l b h = grind (arith, nat_tests)
none_dollar Pattern l b h = grind (arith, nat_tests)
none_dollar (Template Double) l b h = grind (arith, nat_tests)
none_dollar (Template TripleDouble) l b h = grind (arith, nat_tests)

none_slash : (k : TextKind) (l : Bool) (b : ℕ) → letter k l b ≡ None → (b == 92) ≡ true → has_escapes k ≡ false
none_slash (Plain Single) l b h e = absurd (grind (arith, nat_tests))
none_slash (Plain TripleSingle) l b h e = absurd (grind (arith, nat_tests))
none_slash (Plain Slashes) l b h e = refl
none_slash Pattern l b h e = refl
none_slash (Template Double) l b h e = absurd (grind (arith, nat_tests))
none_slash (Template TripleDouble) l b h e = absurd (grind (arith, nat_tests))

-- the first byte is no `/`
abbrev pub no_slash_next : List ℕ → Bool
no_slash_next [] = true
no_slash_next (c ∷ bs) = not (c == 47)

kept_slash : (bs : List ℕ) → no_slash_next bs ≡ true → kept bs ≡ passes (written (92 ∷ [])) Keep 1
kept_slash [] h = refl
kept_slash (c ∷ bs) h = if_false (c == 47) _ _ (not_not (c == 47) h)

special_by : (k : TextKind) (l : Bool) (place : Place) (b : ℕ) (bs : List ℕ) (t : Bool) → letter k l b ≡ None → is_special b ≡ true → ((b == 92) ≡ true → has_escapes k ≡ false → no_slash_next bs ≡ true) → (b == 92) ≡ t → in_text k place b bs ≡ passes (written (b ∷ [])) Keep 1
unfolding in_text
special_by k l place b bs true h s m e =
    let free = none_slash k l b h e in
    if_false (starts_with nat_eq (b ∷ bs) (closing k)) _ _ (not_closing k b bs (none_quote k l b h))
    ∙ if_true (b == 92) _ _ e
    ∙ if_false (has_escapes k) _ _ free
    ∙ kept_slash bs (m e free)
    ∙ ap (λ z. passes (written (z ∷ [])) Keep 1) (sym ((Decides-eqb b 92).0 e))
special_by k l place b bs false h s m e =
    if_false (starts_with nat_eq (b ∷ bs) (closing k)) _ _ (not_closing k b bs (none_quote k l b h))
    ∙ if_false (b == 92) _ _ e
    ∙ if_false (b == 36 && has_holes k) _ _ (none_dollar k l b h)
    ∙ if_true (is_special b) _ _ s

-- such a byte is read as itself; a backslash between slashes is, where no `/` follows
pub special_read : (k : TextKind) (l : Bool) (place : Place) (b : ℕ) (bs : List ℕ) → letter k l b ≡ None → is_special b ≡ true → ((b == 92) ≡ true → has_escapes k ≡ false → no_slash_next bs ≡ true) → in_text k place b bs ≡ passes (written (b ∷ [])) Keep 1
special_read k l place b bs h s m = special_by k l place b bs (b == 92) h s m refl
