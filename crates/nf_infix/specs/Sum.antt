-- What `+` and `-` give.
use Rattle.std.specs.Prelude.{ℕ, ℤ, ◌+ℤ◌, ◌-ℤ◌, not, List, [], ◌∷◌, ◌++◌, filter, Bool, Ok, Err}
use Rattle.std.specs.List.{list_any}
use Rattle.nf_value.specs.Plain.{Plain, null, truth, int, text, file, list, table, PlainPairs, plain_pairs_of}
use Rattle.nf_value.specs.Text.{value_text}
use Rattle.nf_value.specs.declared.fault.EvalKind.TheVariants.{WrongKind}
use Rattle.nf_texts.specs.Outcome.{Outcome, ◌>>=◌}
use Rattle.nf_texts.specs.Args.{int_or, list_or, table_or, items_of}
use Rattle.nf_builtins.specs.Lists.{list_of, is_same}
use Rattle.nf_builtins.specs.Numbers.{number}
use Rattle.nf_infix.specs.Pairs.{put_all, pairs_in}

-- what a list gets by `+`: the items of a list, or the value itself
abbrev pub added_items : Plain → List Plain
added_items null = null ∷ []
added_items (truth b) = truth b ∷ []
added_items (int i) = int i ∷ []
added_items (text t) = text t ∷ []
added_items (file n d l) = file n d l ∷ []
added_items (list vs) = items_of vs
added_items (table ps) = table ps ∷ []

abbrev pub int_plus : ℤ → Plain → Outcome
int_plus a w = int_or WrongKind w >>= λ b. number (a +ℤ b)

abbrev pub text_plus : List ℕ → Plain → Outcome
text_plus t w = Ok (text (t ++ value_text w))

abbrev pub list_plus : List Plain → Plain → Outcome
list_plus vs w = Ok (list_of (vs ++ added_items w))

-- of equal keys the second's pair wins
abbrev pub map_plus : PlainPairs → Plain → Outcome
map_plus ps w = table_or WrongKind w >>= λ qs. Ok (table (plain_pairs_of (put_all (pairs_in qs) (pairs_in ps))))

-- `a + b`
abbrev pub plus : Plain → Plain → Outcome
plus (int a) w = int_plus a w
plus (text t) w = text_plus t w
plus (list vs) w = list_plus (items_of vs) w
plus (table ps) w = map_plus ps w
plus null w = Err WrongKind
plus (truth c) w = Err WrongKind
plus (file n d l) w = Err WrongKind

-- whether a value isn't among others
abbrev pub is_missing : List Plain → Plain → Bool
is_missing vs v = not (list_any (λ w. is_same w v) vs)

abbrev pub int_minus : ℤ → Plain → Outcome
int_minus a w = int_or WrongKind w >>= λ b. number (a -ℤ b)

abbrev pub list_minus : List Plain → Plain → Outcome
list_minus vs w = list_or WrongKind w >>= λ ws. Ok (list_of (filter (is_missing ws) vs))

-- `a - b`
abbrev pub minus : Plain → Plain → Outcome
minus (int a) w = int_minus a w
minus (list vs) w = list_minus (items_of vs) w
minus null w = Err WrongKind
minus (truth c) w = Err WrongKind
minus (text t) w = Err WrongKind
minus (file n d l) w = Err WrongKind
minus (table ps) w = Err WrongKind
