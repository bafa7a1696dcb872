-- The tokens that the lexer makes of segments are those of their bits.
use Rattle.std.proofs.Common.{◌≡◌, Bool, true, false, cond, List, [], ◌∷◌, refl, ap, ◌∙◌}
use Rattle.std.specs.Prelude.{not, ◌&&◌, map}
use Rattle.nf_token.specs.declared.token.Token.{Token}
use Rattle.nf_token.specs.declared.token.Token.TheVariants as t
use Rattle.nf_token.specs.declared.token.Lexeme.{Lexeme}
use Rattle.nf_lexer.specs.Separators as s
use Rattle.nf_lexer.specs.Separators.{Segment, is_separator}
use Rattle.fmt_tokens.specs.Bits.{token_of, bit_of}
use Rattle.fmt_tokens.specs.InkTokens as r

last_awaits : (before : List Lexeme) → s.last_awaits_more before ≡ r.last_awaits_more (map token_of before)
last_awaits [] = refl
last_awaits (x ∷ before) = refl

after_separator : (before : List Lexeme) → s.is_after_separator before ≡ r.is_after_separator (map token_of before)
after_separator [] = refl
after_separator (x ∷ before) = refl

goes_on : (ps : List Segment) → s.next_goes_on ps ≡ r.next_goes_on (map bit_of ps)
goes_on [] = refl
goes_on (s.lexed x ∷ ps) = refl
goes_on (s.line_end_at place ∷ ps) = goes_on ps

separates : (before : List Lexeme) (ps : List Segment) → (s.line_end_separates before ps && not (s.is_after_separator before)) ≡ r.separates (map token_of before) (map bit_of ps)
separates before ps =
    ap (λ z. (not z && not (s.next_goes_on ps)) && not (s.is_after_separator before)) (last_awaits before)
    ∙ ap (λ z. (not (r.last_awaits_more (map token_of before)) && not z) && not (s.is_after_separator before)) (goes_on ps)
    ∙ ap (λ z. (not (r.last_awaits_more (map token_of before)) && not (r.next_goes_on (map bit_of ps))) && not z) (after_separator before)

chosen : (c d : Bool) (x y : List Lexeme) (v w : List Token) → c ≡ d → map token_of x ≡ v → map token_of y ≡ w → map token_of (cond c x y) ≡ cond d v w
chosen true d x y v w e a b = a ∙ ap (λ z. cond z v w) e
chosen false d x y v w e a b = b ∙ ap (λ z. cond z v w) e

pub settled_bits : (ps : List Segment) (before : List Lexeme) → map token_of (s.settled before ps) ≡ r.settled (map token_of before) (map bit_of ps)
settled_bits [] before = refl
settled_bits (s.lexed x ∷ ps) before =
    chosen (s.is_extra before x) _ (s.settled before ps) (x ∷ s.settled (x ∷ before) ps) _ _
    (ap (λ z. is_separator x.token && z) (after_separator before))
    (settled_bits ps before)
    (ap (λ z. x.token ∷ z) (settled_bits ps (x ∷ before)))
settled_bits (s.line_end_at place ∷ ps) before =
    chosen (s.line_end_separates before ps && not (s.is_after_separator before)) _ (s.separator place ∷ s.settled (s.separator place ∷ before) ps) (s.settled before ps) _ _
    (separates before ps)
    (ap (λ z. t.Separator ∷ z) (settled_bits ps (s.separator place ∷ before)))
    (settled_bits ps before)
