-- The tokens of a list of inks, without places.
use Rattle.std.specs.Prelude.{ℕ, Bool, false, not, ◌&&◌, List, [], ◌∷◌, if◌then◌else◌}
use Rattle.std.specs.List.{flat_map}
use Rattle.nf_token.specs.declared.token.Token.{Token}
use Rattle.nf_token.specs.declared.token.Token.TheVariants as t
use Rattle.nf_lexer.specs.Separators.{awaits_more, goes_on, is_separator}
use Rattle.nf_writer.specs.Ink as ink
use Rattle.nf_writer.specs.Ink.{Ink}
use Rattle.fmt_tokens.specs.Bits.{Bit, token, ending}

-- a text of a template is a token, unless it is empty
abbrev pub text_bits : List ℕ → List Bit
text_bits [] = []
text_bits (b ∷ s) = token (t.TemplateText (b ∷ s)) ∷ []

abbrev pub ink_bits : Ink → List Bit
ink_bits (ink.mark x) = token (t.Mark x) ∷ []
ink_bits (ink.keyword x) = token (t.Keyword x) ∷ []
ink_bits (ink.name s) = token (t.Name s) ∷ []
ink_bits (ink.number n) = token (t.Number n) ∷ []
ink_bits (ink.plain q on_line s) = token (t.Plain q s) ∷ []
ink_bits (ink.pattern s) = token (t.Pattern s) ∷ []
ink_bits (ink.open_template q) = token (t.OpenTemplate q) ∷ []
ink_bits (ink.template_text q on_line s) = text_bits s
ink_bits (ink.close_template q) = token (t.CloseTemplate q) ∷ []
ink_bits ink.open_hole = token t.OpenHole ∷ []
ink_bits ink.close_hole = token t.CloseHole ∷ []
ink_bits ink.separator = token t.Separator ∷ []
ink_bits ink.blank = []
ink_bits (ink.line margin) = ending ∷ []

abbrev pub inks_bits : List Ink → List Bit
inks_bits xs = flat_map ink_bits xs

-- ---- which line ends are separators, by the rules of nf_lexer

abbrev pub last_awaits_more : List Token → Bool
last_awaits_more [] = false
last_awaits_more (x ∷ before) = awaits_more x

abbrev pub is_after_separator : List Token → Bool
is_after_separator [] = false
is_after_separator (x ∷ before) = is_separator x

abbrev pub next_goes_on : List Bit → Bool
next_goes_on [] = false
next_goes_on (token x ∷ rest) = goes_on x
next_goes_on (ending ∷ rest) = next_goes_on rest

-- whether a line end is a separator, by the tokens before it, latest first, and what follows
abbrev pub separates : List Token → List Bit → Bool
separates before rest = (not (last_awaits_more before) && not (next_goes_on rest)) && not (is_after_separator before)

-- the tokens of the bits that follow those before, latest first
abbrev pub settled : List Token → List Bit → List Token
settled before [] = []
settled before (token x ∷ rest) = if is_separator x && is_after_separator before then settled before rest else x ∷ settled (x ∷ before) rest
settled before (ending ∷ rest) = if separates before rest then t.Separator ∷ settled (t.Separator ∷ before) rest else settled before rest

-- the tokens of inks
abbrev pub ink_tokens : List Ink → List Token
ink_tokens xs = settled [] (inks_bits xs)
