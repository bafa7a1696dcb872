-- The tokens of a list of inks, by what the token before each line end is.
use Rattle.std.proofs.Common.{◌≡◌, Bool, true, false, List, [], ◌∷◌, ◌++◌, map, refl, sym, subst, ap, ◌∙◌, append_assoc}
use Rattle.std.specs.Prelude.{not, ◌&&◌, if◌then◌else◌}
use Rattle.std.proofs.lemmas.Grind.{flat_map-append}
use Rattle.nf_token.specs.declared.token.Mark.{Mark}
use Rattle.nf_token.specs.declared.token.Mark.TheVariants as m
use Rattle.nf_token.specs.declared.token.Token.{Token}
use Rattle.nf_token.specs.declared.token.Token.TheVariants as t
use Rattle.nf_token.specs.declared.token.Lexeme.{Lexeme}
use Rattle.nf_lexer.specs.Separators.{awaits_more, goes_on, is_separator}
use Rattle.nf_writer.specs.Ink as ink
use Rattle.nf_writer.specs.Ink.{Ink}
use Rattle.nf_printer.specs.Levels.{within}
use Rattle.fmt_tokens.specs.Bits.{Bit, token, ending}
use Rattle.fmt_tokens.specs.InkTokens.{ink_bits, inks_bits, last_awaits_more, is_after_separator, next_goes_on, settled}
use Rattle.fmt_trees.proofs.TreeTokens.{lx, held, mark, separator}

-- the tests say whether the token before awaits more, and whether it is a separator
abbrev pub settle : Bool → Bool → List Bit → List Lexeme
settle a s [] = []
settle a s (token x ∷ rest) = if is_separator x && s then settle a s rest else lx x ∷ settle (awaits_more x) (is_separator x) rest
settle a s (ending ∷ rest) = if (not a && not (next_goes_on rest)) && not s then lx t.Separator ∷ settle false true rest else settle a s rest

map_if : (b : Bool) (xs ys : List Token) → map lx (if b then xs else ys) ≡ (if b then map lx xs else map lx ys)
map_if true xs ys = refl
map_if false xs ys = refl

if_both : (b : Bool) (xs ys us vs : List Lexeme) → xs ≡ us → ys ≡ vs → (if b then xs else ys) ≡ (if b then us else vs)
if_both true xs ys us vs e f = e
if_both false xs ys us vs e f = f

pub settled_is : (bits : List Bit) (before : List Token) → map lx (settled before bits) ≡ settle (last_awaits_more before) (is_after_separator before) bits
settled_is [] before = refl
settled_is (token x ∷ rest) before = map_if (is_separator x && is_after_separator before) _ _ ∙ if_both (is_separator x && is_after_separator before) _ _ _ _ (settled_is rest before) (ap (λ ys. lx x ∷ ys) (settled_is rest (x ∷ before)))
settled_is (ending ∷ rest) before = map_if ((not (last_awaits_more before) && not (next_goes_on rest)) && not (is_after_separator before)) _ _ ∙ if_both ((not (last_awaits_more before) && not (next_goes_on rest)) && not (is_after_separator before)) _ _ _ _ (ap (λ ys. lx t.Separator ∷ ys) (settled_is rest (t.Separator ∷ before))) (settled_is rest before)

-- ---- tokens after anything, after one that ends, and after one that awaits more

pub record Any (rest : List Bit) (w : List Lexeme) : Type 0 where
  pub is : (a s : Bool) → settle a s rest ≡ w

pub record After (rest : List Bit) (w : List Lexeme) : Type 0 where
  pub is : settle false false rest ≡ w

pub record Await (rest : List Bit) (w : List Lexeme) : Type 0 where
  pub is : settle true false rest ≡ w

pub after_any : {rest : List Bit} {w : List Lexeme} → Any rest w → After rest w
after_any h = record { is = h.is false false }

pub await_any : {rest : List Bit} {w : List Lexeme} → Any rest w → Await rest w
await_any h = record { is = h.is true false }

abbrev pub told : List Ink → List Bit → List Bit
told xs rest = inks_bits xs ++ rest

told_two : (xs ys : List Ink) (rest : List Bit) → told (xs ++ ys) rest ≡ told xs (told ys rest)
told_two xs ys rest = ap (λ zs. zs ++ rest) (flat_map-append ink_bits xs ys) ∙ append_assoc (inks_bits xs) (inks_bits ys) rest

told_three : (xs ys zs : List Ink) (rest : List Bit) → told (xs ++ ys ++ zs) rest ≡ told xs (told ys (told zs rest))
told_three xs ys zs rest = told_two (xs ++ ys) zs rest ∙ told_two xs ys (told zs rest)

told_four : (xs ys zs vs : List Ink) (rest : List Bit) → told (xs ++ ys ++ zs ++ vs) rest ≡ told xs (told ys (told zs (told vs rest)))
told_four xs ys zs vs rest = told_two (xs ++ ys ++ zs) vs rest ∙ told_three xs ys zs (told vs rest)

told_five : (xs ys zs vs us : List Ink) (rest : List Bit) → told (xs ++ ys ++ zs ++ vs ++ us) rest ≡ told xs (told ys (told zs (told vs (told us rest))))
told_five xs ys zs vs us rest = told_two (xs ++ ys ++ zs ++ vs) us rest ∙ told_four xs ys zs vs (told us rest)

pub two : (P : List Bit → Type 0) (xs ys : List Ink) (rest : List Bit) → P (told xs (told ys rest)) → P (told (xs ++ ys) rest)
two P xs ys rest p = subst P (sym (told_two xs ys rest)) p

pub three : (P : List Bit → Type 0) (xs ys zs : List Ink) (rest : List Bit) → P (told xs (told ys (told zs rest))) → P (told (xs ++ ys ++ zs) rest)
three P xs ys zs rest p = subst P (sym (told_three xs ys zs rest)) p

pub four : (P : List Bit → Type 0) (xs ys zs vs : List Ink) (rest : List Bit) → P (told xs (told ys (told zs (told vs rest)))) → P (told (xs ++ ys ++ zs ++ vs) rest)
four P xs ys zs vs rest p = subst P (sym (told_four xs ys zs vs rest)) p

pub five : (P : List Bit → Type 0) (xs ys zs vs us : List Ink) (rest : List Bit) → P (told xs (told ys (told zs (told vs (told us rest))))) → P (told (xs ++ ys ++ zs ++ vs ++ us) rest)
five P xs ys zs vs us rest p = subst P (sym (told_five xs ys zs vs us rest)) p

pub any_two : {w : List Lexeme} (xs ys : List Ink) (rest : List Bit) → Any (told xs (told ys rest)) w → Any (told (xs ++ ys) rest) w
any_two {w} = two (λ b. Any b w)

pub any_three : {w : List Lexeme} (xs ys zs : List Ink) (rest : List Bit) → Any (told xs (told ys (told zs rest))) w → Any (told (xs ++ ys ++ zs) rest) w
any_three {w} = three (λ b. Any b w)

pub any_four : {w : List Lexeme} (xs ys zs vs : List Ink) (rest : List Bit) → Any (told xs (told ys (told zs (told vs rest)))) w → Any (told (xs ++ ys ++ zs ++ vs) rest) w
any_four {w} = four (λ b. Any b w)

pub any_five : {w : List Lexeme} (xs ys zs vs us : List Ink) (rest : List Bit) → Any (told xs (told ys (told zs (told vs (told us rest))))) w → Any (told (xs ++ ys ++ zs ++ vs ++ us) rest) w
any_five {w} = five (λ b. Any b w)

-- ---- tokens

pub any_mark : {rest : List Bit} {w : List Lexeme} (x : Mark) → Any rest w → Any (token (t.Mark x) ∷ rest) (mark x w)
any_mark x h = record { is = λ a s. ap (mark x) (h.is (awaits_more (t.Mark x)) false) }

-- a mark after which a line end is no separator
pub more_mark : {rest : List Bit} {w : List Lexeme} (x : Mark) → awaits_more (t.Mark x) ≡ true → Await rest w → Any (token (t.Mark x) ∷ rest) (mark x w)
more_mark {rest} {w} x e h = record { is = λ a s. ap (mark x) (subst (λ b. settle b false rest ≡ w) (sym e) h.is) }

-- a token that awaits nothing, whatever stands before it
pub any_token : {rest : List Bit} {w : List Lexeme} (x : Token) → is_separator x ≡ false → awaits_more x ≡ false → After rest w → Any (token x ∷ rest) (lx x ∷ w)
any_token {rest} {w} x e f h = record {
  is = λ a s.
      subst (λ b. (if b && s then settle a s rest else lx x ∷ settle (awaits_more x) b rest) ≡ lx x ∷ w) (sym e)
      (subst (λ b. lx x ∷ settle b false rest ≡ lx x ∷ w) (sym f) (ap (λ ys. lx x ∷ ys) h.is));
}

-- in brackets or not
pub held_told : (b : Bool) (xs : List Ink) (f : List Lexeme → List Lexeme) (rest : List Bit) (w : List Lexeme) → ((us : List Bit) (v : List Lexeme) → After us v → Any (told xs us) (f v)) → After rest w → Any (told (within b xs) rest) (held b f w)
held_told true xs f rest w h e = any_mark m.OpenRound (any_two xs (ink.mark m.CloseRound ∷ []) rest (h _ _ (after_any (any_token (t.Mark m.CloseRound) refl refl e))))
held_told false xs f rest w h e = h rest w e

-- ---- line ends

pub after_line : {rest : List Bit} {w : List Lexeme} → next_goes_on rest ≡ false → Any rest w → After (ending ∷ rest) (separator w)
after_line {rest} {w} e h = record { is = subst (λ b. (if not b && true then lx t.Separator ∷ settle false true rest else settle false false rest) ≡ separator w) (sym e) (ap separator (h.is false true)) }

pub await_line : {rest : List Bit} {w : List Lexeme} → Await rest w → Await (ending ∷ rest) w
await_line h = record { is = h.is }

pub after_separator : {rest : List Bit} {w : List Lexeme} → Any rest w → After (token t.Separator ∷ rest) (separator w)
after_separator h = record { is = ap separator (h.is false true) }

first_token : List Lexeme → Token
first_token [] = t.Separator
first_token (x ∷ xs) = x.token

not_extra : (b : Bool) (xs ys : List Lexeme) → (if b && false then xs else ys) ≡ ys
not_extra true xs ys = refl
not_extra false xs ys = refl

-- the first token, past line ends
pub first_goes_on : (bits : List Bit) (x : Token) (w : List Lexeme) → settle true false bits ≡ lx x ∷ w → next_goes_on bits ≡ goes_on x
unfolding first_token
first_goes_on [] x w e = absurd (let f : [] ≡ lx x ∷ w = e in cc)
first_goes_on (token y ∷ rest) x w e = ap (λ ts. goes_on (first_token ts)) (sym (not_extra (is_separator y) _ (lx y ∷ settle (awaits_more y) (is_separator y) rest)) ∙ e)
first_goes_on (ending ∷ rest) x w e = first_goes_on rest x w e
