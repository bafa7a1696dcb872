-- How values compare.
use Rattle.std.specs.Prelude.{ℕ, ℤ, List, Bool, false, not, Option, Some, None, Result, Ok, Err}
use Rattle.std.specs.declared.cmp.Ordering.{Ordering}
use Rattle.std.specs.Ordering.{nat_cmp, int_cmp, is_lt, is_le, is_gt, is_ge}
use Rattle.std.specs.Cmp.Lexicographic.{slice_cmp}
use Rattle.std.specs.List.{list_any}
use Rattle.nf_value.specs.Plain.{Plain, null, truth, int, text, file, list, table, PlainPairs}
use Rattle.nf_value.specs.declared.fault.EvalKind.{EvalKind}
use Rattle.nf_value.specs.declared.fault.EvalKind.TheVariants.{WrongKind}
use Rattle.nf_texts.specs.Outcome.{Outcome, ◌>>=◌}
use Rattle.nf_texts.specs.Args.{int_or, text_or, items_of}
use Rattle.nf_builtins.specs.Lists.{is_same}
use Rattle.nf_builtins.specs.Maps.{has_key}
use Rattle.nf_pattern.specs.Whole.{found_in}
use Rattle.nf_pattern.specs.Wrapped.{wrapped}

abbrev pub compared_int : ℤ → Plain → Result Ordering EvalKind
compared_int a w = int_or WrongKind w >>= λ b. Ok (int_cmp a b)

abbrev pub compared_text : List ℕ → Plain → Result Ordering EvalKind
compared_text t w = text_or WrongKind w >>= λ u. Ok (slice_cmp nat_cmp t u)

-- numbers by size, texts by their bytes
abbrev pub compared : Plain → Plain → Result Ordering EvalKind
compared (int a) w = compared_int a w
compared (text t) w = compared_text t w
compared null w = Err WrongKind
compared (truth c) w = Err WrongKind
compared (file n d l) w = Err WrongKind
compared (list vs) w = Err WrongKind
compared (table ps) w = Err WrongKind

-- `<`, `<=`, `>` and `>=`
abbrev pub less : Plain → Plain → Outcome
less v w = compared v w >>= λ o. Ok (truth (is_lt o))

abbrev pub at_most : Plain → Plain → Outcome
at_most v w = compared v w >>= λ o. Ok (truth (is_le o))

abbrev pub greater : Plain → Plain → Outcome
greater v w = compared v w >>= λ o. Ok (truth (is_gt o))

abbrev pub at_least : Plain → Plain → Outcome
at_least v w = compared v w >>= λ o. Ok (truth (is_ge o))

-- `==` and `!=`
abbrev pub same : Plain → Plain → Outcome
same v w = Ok (truth (is_same v w))

abbrev pub differs : Plain → Plain → Outcome
differs v w = Ok (truth (not (is_same v w)))

abbrev pub is_found : Option Bool → Bool
is_found (Some found) = found
is_found None = false

-- `a ==~ re`
abbrev pub matches : Plain → List ℕ → Outcome
matches v re = text_or WrongKind v >>= λ t. Ok (truth (is_found (found_in (wrapped re) t)))

abbrev pub in_items : Plain → List Plain → Bool
in_items v ws = list_any (λ w. is_same w v) ws

abbrev pub in_keys : Plain → PlainPairs → Outcome
in_keys v ps = text_or WrongKind v >>= λ k. Ok (truth (has_key k ps))

-- `a in b`
abbrev pub is_in : Plain → Plain → Outcome
is_in v (list ws) = Ok (truth (in_items v (items_of ws)))
is_in v (table ps) = in_keys v ps
is_in v null = Err WrongKind
is_in v (truth c) = Err WrongKind
is_in v (int i) = Err WrongKind
is_in v (text t) = Err WrongKind
is_in v (file n d l) = Err WrongKind
