-- Whole matches, by the grammar and the searches of the crate `regex`.
use Rattle.std.specs.Prelude.{ℕ, ◌<◌, ◌≤◌, List, Bool, Option, option_map, is_some, IsSomeAnd, IfSome, chars}
use Rattle.regex_syntax.specs.Brackets.{Nested}
use Rattle.regex_syntax.specs.Grammar.{Names, read}
use Rattle.regex.specs.Patterns.{Re, find_str, default_config}
use Rattle.nf_pattern.specs.declared.fault.PatternFault.{PatternFault}
use Rattle.nf_pattern.specs.declared.fault.PatternFault.TheVariants.{NoPattern, TooLarge, Mem}

-- the regular expression that the grammar reads in a text, its depth, and the names of its groups
abbrev pub pattern_in : List ℕ → Option (Nested Re × Names)
pattern_in source = read default_config (chars source)

-- the grammar reads one in the text, within the limit of depth
abbrev pub IsPattern : List ℕ → Type 0
IsPattern source = IsSomeAnd (pattern_in source) (λ (found, names). found.depth ≤ default_config.nest_limit)

-- the grammar reads none in the text, or one beyond the limit of depth
abbrev pub IsNoPattern : List ℕ → Type 0
IsNoPattern source = IfSome (pattern_in source) (λ (found, names). default_config.nest_limit < found.depth)

-- what a fault says about a text
abbrev pub IsFaultOf : List ℕ → PatternFault → Type 0
IsFaultOf source NoPattern = IsNoPattern source
IsFaultOf source TooLarge = IsPattern source
IsFaultOf source Mem = Unit {0}

-- whether the regular expression of `source` is found in `text`; nothing where `source` has none
abbrev pub found_in : List ℕ → List ℕ → Option Bool
found_in source text = option_map (λ (found, names). is_some (find_str found.value text 0)) (pattern_in source)
