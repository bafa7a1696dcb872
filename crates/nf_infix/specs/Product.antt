-- What `*`, `%` and `-` before a number give.
use Rattle.std.specs.Prelude.{ℤ, pos, neg_ℤ, ◌*ℤ◌, int_le, int_rem, ◌&&◌, if◌then◌else◌, Ok, Err}
use Rattle.nf_value.specs.Plain.{Plain, int}
use Rattle.nf_value.specs.declared.fault.EvalKind.TheVariants.{WrongKind, DivZero}
use Rattle.nf_texts.specs.Outcome.{Outcome, ◌>>=◌}
use Rattle.nf_texts.specs.Args.{int_or}
use Rattle.nf_builtins.specs.Numbers.{number}

-- `a * b`
abbrev pub times : Plain → Plain → Outcome
times v w = int_or WrongKind v >>= λ a. int_or WrongKind w >>= λ b. number (a *ℤ b)

-- the remainder with the sign of the dividend
abbrev pub rest : ℤ → ℤ → Outcome
rest a b = if int_le b (pos 0) && int_le (pos 0) b then Err DivZero else Ok (int (int_rem a b))

-- `a % b`
abbrev pub remainder : Plain → Plain → Outcome
remainder v w = int_or WrongKind v >>= λ a. int_or WrongKind w >>= λ b. rest a b

-- `-a`
abbrev pub negative : Plain → Outcome
negative v = int_or WrongKind v >>= λ a. number (neg_ℤ a)
