-- How keywords, marks and quotes are spelled.
use Rattle.std.specs.Prelude.{ℕ, List, [], ◌∷◌, codes}
use Rattle.nf_token.specs.declared.token.Keyword.{Keyword}
use Rattle.nf_token.specs.declared.token.Keyword.TheVariants as k
use Rattle.nf_token.specs.declared.token.Mark.{Mark}
use Rattle.nf_token.specs.declared.token.Mark.TheVariants as m
use Rattle.nf_token.specs.declared.token.PlainKind.TheVariants.{Single, TripleSingle, Slashes}
use Rattle.nf_token.specs.declared.token.TemplateKind.TheVariants.{Double, TripleDouble}
use Rattle.nf_token.specs.declared.token.TextKind.{TextKind}
use Rattle.nf_token.specs.declared.token.TextKind.TheVariants.{Plain, Pattern, Template}

-- the keywords
abbrev pub keywords : List (List ℕ × Keyword)
keywords =
    (codes "def", k.Def) ∷ (codes "else", k.Else) ∷ (codes "false", k.False) ∷ (codes "if", k.If)
    ∷ (codes "in", k.In) ∷ (codes "null", k.Null) ∷ (codes "return", k.Return) ∷ (codes "true", k.True) ∷ []

-- the marks; of two where one begins the other, the longer stands first
abbrev pub marks : List (List ℕ × Mark)
marks =
    (codes "(", m.OpenRound) ∷ (codes ")", m.CloseRound) ∷ (codes "[", m.OpenSquare) ∷ (codes "]", m.CloseSquare)
    ∷ (codes "{", m.OpenBrace) ∷ (codes "}", m.CloseBrace) ∷ (codes ",", m.Comma) ∷ (codes ":", m.Colon)
    ∷ (codes "+", m.Plus) ∷ (codes "*", m.Times) ∷ (codes "%", m.Percent)
    ∷ (codes "..", m.DotDot) ∷ (codes ".", m.Dot)
    ∷ (codes "->", m.Arrow) ∷ (codes "-", m.Minus)
    ∷ (codes "==~", m.Matches) ∷ (codes "==", m.Same) ∷ (codes "=", m.Equals)
    ∷ (codes "<=", m.AtMost) ∷ (codes "<", m.Less)
    ∷ (codes ">=", m.AtLeast) ∷ (codes ">", m.Greater)
    ∷ (codes "!=", m.Differs) ∷ (codes "!", m.Not)
    ∷ (codes "&&", m.And)
    ∷ (codes "||", m.Or) ∷ (codes "|", m.Pipe)
    ∷ (codes "?.", m.QuestionDot) ∷ (codes "?:", m.Elvis) ∷ (codes "?", m.Question) ∷ []

-- what closes a string, pattern or template: `'` is 39, `"` is 34, `/` is 47
abbrev pub closing : TextKind → List ℕ
closing (Plain Single) = 39 ∷ []
closing (Plain TripleSingle) = 39 ∷ 39 ∷ 39 ∷ []
closing (Plain Slashes) = 47 ∷ []
closing Pattern = 47 ∷ []
closing (Template Double) = 34 ∷ []
closing (Template TripleDouble) = 34 ∷ 34 ∷ 34 ∷ []
