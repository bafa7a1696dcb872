-- What holds of every token that the lexer lists.
use Rattle.std.specs.Prelude.{◌≡◌, Bool, true, false, ◌&&◌, List, [], ◌∷◌}
use Rattle.nf_token.specs.declared.token.Token.{Token}
use Rattle.nf_token.specs.declared.token.Token.TheVariants as t
use Rattle.nf_token.specs.declared.token.Lexeme.{Lexeme}
use Rattle.fmt_tokens.specs.Fits.{IsName, IsNumber, IsPlain, IsSlashed, IsPiece}

-- a name is a word and no keyword, a number is within its limit, and a string holds what its kind can spell
abbrev pub FitToken : Token → Type 0
FitToken (t.Name s) = IsName s
FitToken (t.Number n) = IsNumber n
FitToken (t.Plain q s) = IsPlain q s
FitToken (t.Pattern s) = IsSlashed s
FitToken (t.TemplateText s) = IsPiece s
FitToken _ = Unit {0}

abbrev pub is_text : Token → Bool
is_text (t.TemplateText s) = true
is_text _ = false

abbrev pub text_next : List Lexeme → Bool
text_next [] = false
text_next (x ∷ ts) = is_text x.token

-- each token is fit, and no two texts of a template stand in a row
abbrev pub AreFit : List Lexeme → Type 0
AreFit [] = Unit {0}
AreFit (x ∷ ts) = FitToken x.token × ((is_text x.token && text_next ts) ≡ false) × AreFit ts
