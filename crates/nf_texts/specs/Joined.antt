-- `join` and `toString`.
use Rattle.std.specs.Prelude.{ℕ, List, Ok, Err}
use Rattle.std.specs.List.{join_by}
use Rattle.nf_value.specs.Plain.{Plain, null, text}
use Rattle.nf_value.specs.Text.{value_text}
use Rattle.nf_value.specs.declared.fault.EvalKind.TheVariants.{NoMethod}
use Rattle.nf_texts.specs.Outcome.{Outcome, ◌>>=◌}
use Rattle.nf_texts.specs.Args.{on_list, no_args, text_arg}

-- the texts of these values, with the first text between each two
abbrev pub joined : List ℕ → List Plain → List ℕ
joined between vs = join_by value_text between vs

-- `join(t)`
abbrev pub list_join : Plain → List Plain → Outcome
list_join recv args = on_list recv >>= λ vs. text_arg args >>= λ between. Ok (text (joined between vs))

-- `toString()`
abbrev pub to_text : Plain → List Plain → Outcome
to_text null args = Err NoMethod
to_text v args = no_args args >>= λ _. Ok (text (value_text v))
