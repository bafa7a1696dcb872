-- Names, keywords and numbers.
use Rattle.std.specs.Prelude.{ℕ, Bool, false, List, [], ◌∷◌, length, nat_lt, pos, Option, Some, None, ◌&&◌, if◌then◌else◌, take_while}
use Rattle.std.specs.Option.{is_none}
use Rattle.std.specs.Char.{is_ascii_digit}
use Rattle.std.specs.Str.{bytes_eq}
use Rattle.std.specs.Str.Parse.{digits_value}
use Rattle.nf_value.specs.declared.place.Place.{Place}
use Rattle.nf_lexer.specs.declared.fault.LexFault.TheVariants.{BigNumber}
use Rattle.nf_lexer.specs.declared.open.Change.TheVariants.{Keep}
use Rattle.nf_token.specs.declared.token.Keyword.{Keyword}
use Rattle.nf_token.specs.declared.token.Token.{Token}
use Rattle.nf_token.specs.declared.token.Token.TheVariants as t
use Rattle.nf_lexer.specs.Bytes.{begins_name, is_in_name}
use Rattle.nf_lexer.specs.Front.{First, lexed, passes, broken}
use Rattle.nf_token.specs.Spellings.{keywords}

-- the keyword of the list that is spelled so
abbrev pub keyword_in : List (List ℕ × Keyword) → List ℕ → Option Keyword
keyword_in [] w = None
keyword_in (k ∷ ks) w = if bytes_eq w k.0 then Some k.1 else keyword_in ks w

abbrev pub keyword_or_name : Option Keyword → List ℕ → Token
keyword_or_name (Some k) w = t.Keyword k
keyword_or_name None w = t.Name w

-- the keyword that is spelled so, or else a name
unfoldable pub word_token : List ℕ → Token
word_token w = keyword_or_name (keyword_in keywords w) w

-- the longest name or keyword
abbrev pub word : List ℕ → First
word bs = let w = take_while is_in_name bs in passes (lexed (word_token w)) Keep (length w)

-- a name that is no keyword stands in front
abbrev pub begins_property : List ℕ → Bool
begins_property [] = false
begins_property (b ∷ bs) = begins_name b && is_none (keyword_in keywords (take_while is_in_name (b ∷ bs)))

-- the greatest number
abbrev pub limit : ℕ
limit = 9223372036854775807

-- the longest number
unfoldable pub number : Place → List ℕ → First
number place bs =
    let digits = take_while is_ascii_digit bs in
    let n = digits_value 10 digits in
    if nat_lt limit n then broken (BigNumber place) else passes (lexed (t.Number (pos n))) Keep (length digits)
