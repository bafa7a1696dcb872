-- An operator as a meaning over whole inputs and a way to go on push by push, and the law that ties both.
use Rattle.std.specs.Prelude.{◌≡◌, ◌==◌, ℕ, List, [], ◌∷◌, ◌++◌, Bool, true, cond, Result, Ok, Err, is_ok, count_by}
use Rattle.std.specs.List.{Contains, flat_map}
use Rattle.nf_value.specs.Plain.{Plain}
use Rattle.nf_bag.specs.Bag.{IsSubBag, IsSameBag}
use Rattle.nf_opstream.specs.Push.{Push, IsWithin, IsSameInput}
use Rattle.nf_opstream.specs.Fault.{Fault}

-- The meaning of a whole input: `items` is the bag of each output, `faults` the faults. The way: `gives` is what one more push emits
-- after the pushes so far (latest first), `ends` what the close emits after all
pub record Operator : Type 0 where
  pub items : List Push → ℕ → List Plain
  pub faults : List Push → List Fault
  pub gives : List Push → Push → Result (List (ℕ × Plain)) Fault
  pub ends : List Push → Result (List (ℕ × Plain)) Fault

-- the values that go to an output
abbrev pub to_out : ℕ → List (ℕ × Plain) → List Plain
to_out out es = flat_map (λ e. cond (e.0 == out) (e.1 ∷ []) []) es

abbrev pub oks : Result (List (ℕ × Plain)) Fault → List (ℕ × Plain)
oks (Ok es) = es
oks (Err f) = []

abbrev pub errs : Result (List (ℕ × Plain)) Fault → List Fault
errs (Ok es) = []
errs (Err f) = f ∷ []

-- what these pushes emitted to an output
abbrev pub emitted : Operator → List Push → ℕ → List Plain
emitted op [] out = []
emitted op (x ∷ p) out = emitted op p out ++ to_out out (oks (op.gives p x))

-- no push had a fault
abbrev pub AreFine : Operator → List Push → Type 0
AreFine op [] = Unit {0}
AreFine op (x ∷ p) = (is_ok (op.gives p x) ≡ true) × AreFine op p

-- In any order of the pushes the operator emits the bag that it means, and has a fault only if its meaning has that fault. Its meaning
-- doesn't depend on the order of the input
pub record IsOperator (op : Operator) : Type 0 where
  pub items_by_bag : (p q : List Push) (out : ℕ) → IsSameInput p q → IsSameBag (op.items p out) (op.items q out)
  pub faults_by_bag : (p q : List Push) (test : Fault → Bool) → IsSameInput p q → count_by test (op.faults p) ≡ count_by test (op.faults q)
  pub sound : (p q : List Push) (out : ℕ) → AreFine op p → IsWithin p q → IsSubBag (emitted op p out) (op.items q out)
  pub whole : (p q : List Push) (es : List (ℕ × Plain)) (out : ℕ) → AreFine op p → op.ends p ≡ Ok es → IsSameInput p q → IsSameBag (emitted op p out ++ to_out out es) (op.items q out)
  pub faultless : (p q : List Push) (es : List (ℕ × Plain)) → AreFine op p → op.ends p ≡ Ok es → IsSameInput p q → op.faults q ≡ []
  pub push_fault : (p q : List Push) (x : Push) (f : Fault) → AreFine op p → op.gives p x ≡ Err f → IsWithin (x ∷ p) q → Contains (op.faults q) f
  pub close_fault : (p q : List Push) (f : Fault) → AreFine op p → op.ends p ≡ Err f → IsSameInput p q → Contains (op.faults q) f
