-- How many values an operator emits, and to which outputs.
use Rattle.std.specs.Prelude.{◌≡◌, ◌==◌, ◌<◌, ◌≤◌, ℕ, List, [], length, count_by}
use Rattle.std.specs.List.{AllByRecursion}
use Rattle.nf_value.specs.Plain.{Plain}
use Rattle.nf_opstream.specs.Push.{Push}
use Rattle.nf_opstream.specs.Operator.{Operator, oks}
use Rattle.nf_operator.specs.declared.kinds.OutputKind.{OutputKind}
use Rattle.nf_operator.specs.declared.kinds.OutputKind.TheVariants as kind

-- each of these goes to one of the first n outputs
abbrev pub GoBelow : ℕ → List (ℕ × Plain) → Type 0
GoBelow n es = AllByRecursion (λ e. e.0 < n) es

-- all emits go to the first n outputs, and the operator means none for another
pub record HasOutputs (n : ℕ) (op : Operator) : Type 0 where
  pub gives : (p : List Push) (x : Push) → GoBelow n (oks (op.gives p x))
  pub ends : (p : List Push) → GoBelow n (oks (op.ends p))
  pub items : (q : List Push) (out : ℕ) → n ≤ out → op.items q out ≡ []

-- each of the first n inputs has at most one item, and no other has any
pub record IsOneEach (n : ℕ) (q : List Push) : Type 0 where
  pub at : (port : ℕ) → count_by (λ x. x.port == port) q ≤ 1
  pub ports : AllByRecursion (λ x. x.port < n) q

-- each output gets at most one item
pub record IsClosing (op : Operator) : Type 0 where
  pub at : (q : List Push) (out : ℕ) → length (op.items q out) ≤ 1

-- each output gets at most one item if each of the n inputs has at most one
pub record KeepsOne (n : ℕ) (op : Operator) : Type 0 where
  pub at : (q : List Push) (out : ℕ) → IsOneEach n q → length (op.items q out) ≤ 1

-- the outputs of an operator with n inputs are of this kind
abbrev pub IsOfKind : OutputKind → ℕ → Operator → Type 0
IsOfKind kind.Value n op = IsClosing op
IsOfKind kind.Queue n op = Unit {0}
IsOfKind kind.AsInputs n op = KeepsOne n op
