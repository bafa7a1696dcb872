-- What a pattern of one path component matches. Patterns and names are lists of characters.
use Rattle.std.specs.Prelude.{ℕ, Bool, true, false, ◌&&◌, ◌||◌, ◌==◌, List, [], ◌∷◌, ◌++◌, map, Option, Some, None, if◌then◌else◌}
use Rattle.std.specs.List.{list_any, flat_map, slice_split}
use Rattle.nf_pattern.specs.Parting.{has}

-- `*`, `?`, `{`, `,`, `}` and `.`
abbrev pub star : ℕ
star = 42

abbrev pub question : ℕ
question = 63

abbrev pub opening : ℕ
opening = 123

abbrev pub comma : ℕ
comma = 44

abbrev pub closing : ℕ
closing = 125

abbrev pub dot : ℕ
dot = 46

-- the ends of a list, the list itself first
abbrev pub ends : List ℕ → List (List ℕ)
ends [] = [] ∷ []
ends (c ∷ cs) = (c ∷ cs) ∷ ends cs

-- whether a symbol of a pattern other than `*` takes a character
abbrev pub takes_one : ℕ → ℕ → Bool
takes_one p c = (p == question) || (p == c)

-- whether a symbol takes the first of the characters, and the rest of the pattern takes the others
abbrev pub takes_first : ℕ → (List ℕ → Bool) → List ℕ → Bool
takes_first p rest [] = false
takes_first p rest (c ∷ cs) = takes_one p c && rest cs

-- whether a plain pattern takes all the characters: `*` takes any number of them, `?` takes one, and every other character itself
abbrev pub takes : List ℕ → List ℕ → Bool
takes [] [] = true
takes [] (c ∷ cs) = false
takes (p ∷ ps) cs = if p == star then list_any (takes ps) (ends cs) else takes_first p (takes ps) cs

-- whether a plain pattern takes a leading dot and then these characters: only a dot of the pattern takes the dot, and a `*` before it takes nothing
abbrev pub takes_dotted : List ℕ → List ℕ → Bool
takes_dotted [] cs = false
takes_dotted (p ∷ ps) cs = if p == star then takes_dotted ps cs else (p == dot) && takes ps cs

-- whether a plain pattern matches a name
abbrev pub is_plain_match : List ℕ → List ℕ → Bool
is_plain_match ps [] = takes ps []
is_plain_match ps (c ∷ cs) = if c == dot then takes_dotted ps cs else takes ps (c ∷ cs)

-- the pieces of alternatives: what stands between commas
abbrev pub pieces : List ℕ → List (List ℕ)
pieces cs = slice_split (λ c. c == comma) cs

-- each of the first lists followed by each of the others
abbrev pub joined : List (List ℕ) → List (List ℕ) → List (List ℕ)
joined firsts lists = flat_map (λ first. map (λ rest. first ++ rest) lists) firsts

-- The plain patterns that a pattern stands for, one for each choice among its alternatives. It is read from the left: `None` outside
-- alternatives, `Some read` inside them, after the characters `read`. A `{` begins alternatives if a `}` comes after it; the first `}` ends
-- them.
abbrev pub spelled : Option (List ℕ) → List ℕ → List (List ℕ)
spelled None [] = [] ∷ []
spelled None (c ∷ cs) = if (c == opening) && has closing cs then spelled (Some []) cs else map (λ rest. c ∷ rest) (spelled None cs)
spelled (Some read) [] = []
spelled (Some read) (c ∷ cs) = if c == closing then joined (pieces read) (spelled None cs) else spelled (Some (read ++ c ∷ [])) cs

-- the plain patterns of a whole pattern: it begins outside alternatives
abbrev pub plain_patterns : List ℕ → List (List ℕ)
plain_patterns pattern = spelled None pattern

-- whether a pattern matches a name: whether one of its plain patterns does
abbrev pub is_match : List ℕ → List ℕ → Bool
is_match pattern name = list_any (λ plain. is_plain_match plain name) (plain_patterns pattern)
