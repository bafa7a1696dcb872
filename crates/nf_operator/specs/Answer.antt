-- The answers on items where an operator has no closure, and what `view` prints.
use Rattle.std.specs.Prelude.{ℕ, List, map, Bool, false}
use Rattle.std.specs.Ordering.{eq_by_cmp}
use Rattle.nf_value.specs.Plain.{Plain, null, truth, int, text, file, list, table}
use Rattle.nf_value.specs.Order.{value_cmp}
use Rattle.nf_opstream.specs.Push.{Push}

-- `filter` with a literal: whether the item equals it
abbrev pub literal_answer : Plain → Plain → Plain
literal_answer literal item = truth (eq_by_cmp value_cmp item literal)

-- whether the item is a text that passes the test
abbrev pub is_text_of : (List ℕ → Bool) → Plain → Bool
is_text_of test (text t) = test t
is_text_of test null = false
is_text_of test (truth b) = false
is_text_of test (int i) = false
is_text_of test (file n d l) = false
is_text_of test (list vs) = false
is_text_of test (table ps) = false

-- `filter` with a pattern: whether the item is a text that the pattern matches whole; the test says which texts it does
abbrev pub pattern_answer : (List ℕ → Bool) → Plain → Plain
pattern_answer test item = truth (is_text_of test item)

-- the values that `view` prints for an input: the answer on each item, which is the item itself where it has no closure
abbrev pub printed : List Push → List Plain
printed q = map (λ x. x.answer) q
