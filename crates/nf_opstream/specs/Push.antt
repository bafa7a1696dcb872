-- What an operator gets: items at its ports, each with its closure's answer.
use Rattle.std.specs.Prelude.{◌≡◌, ◌≤◌, ◌==◌, ◌&&◌, ℕ, List, Bool, count_by}
use Rattle.std.specs.Ordering.{eq_by_cmp}
use Rattle.nf_value.specs.Plain.{Plain}
use Rattle.nf_value.specs.Order.{value_cmp}

-- an item at a port, with the answer of the operator's closure on it
pub record Push : Type 0 where
  pub port : ℕ
  pub item : Plain
  pub answer : Plain

abbrev pub push_of : ℕ → Plain → Plain → Push
push_of port item answer = record { port = port; item = item; answer = answer }

abbrev pub is_same_push : Push → Push → Bool
is_same_push x y = (x.port == y.port) && (eq_by_cmp value_cmp x.item y.item && eq_by_cmp value_cmp x.answer y.answer)

-- how often the push is among these
abbrev pub times : Push → List Push → ℕ
times x p = count_by (λ y. is_same_push y x) p

-- q contains p, whatever their order
pub record IsWithin (p q : List Push) : Type 0 where
  pub at : (x : Push) → times x p ≤ times x q

-- p and q are one input, in any order
pub record IsSameInput (p q : List Push) : Type 0 where
  pub at : (x : Push) → times x p ≡ times x q
