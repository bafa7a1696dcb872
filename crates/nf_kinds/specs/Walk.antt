-- Going through a workflow's body in the order of its text.
use Rattle.std.specs.Prelude.{◌≡◌, List, [], ◌++◌}
use Rattle.nf_kinds.specs.declared.fault.Broken.{Broken}
use Rattle.nf_kinds.specs.Scope.{Scope}

-- what a part of a body gives, the scope after it, and the rules that it breaks
pub data Out (A : Type 0) : Type 0 where
  came : A → Scope → List Broken → Out A

abbrev pub Walk : Type 0 → Type 0
Walk A = Scope → Out A

-- the same after rules that were broken before
abbrev pub after : {A : Type 0} → List Broken → Out A → Out A
after fs (came x s gs) = came x s (fs ++ gs)

abbrev pub then_by : {A B : Type 0} → (A → Walk B) → Out A → Out B
then_by f (came x s fs) = after fs (f x s)

infixl 10 ◌>>=◌
abbrev pub ◌>>=◌ : {A B : Type 0} → Walk A → (A → Walk B) → Walk B
w >>= f = λ s. then_by f (w s)

abbrev pub gives : {A : Type 0} → A → Walk A
gives x s = came x s []

abbrev pub with_scope : (Scope → Scope) → Walk (Unit {0})
with_scope f s = came tt (f s) []

-- from rules that were broken before a part comes to this, with this scope and all rules that are then broken
abbrev pub Comes : {A : Type 0} → Out A → List Broken → A → Scope → List Broken → Type 0
Comes out before x s all = after before out ≡ came x s all
