-- How a conditional expression is read from the left: which operands are needed, given the frames that wait for the next one.
use Rattle.std.specs.Prelude.{◌≡◌, ℕ, suc, ◌+◌, true, false, List, [], ◌∷◌, Option, Some, None, Result, Ok, Err}
use Rattle.nf_value.specs.Plain.{Plain}
use Rattle.nf_value.specs.Truth.{truth_of}
use Rattle.nf_value.specs.View.{plain_of}
use Rattle.nf_value.specs.declared.place.Place.{Place}
use Rattle.nf_value.specs.declared.fault.EvalRefusal.{EvalRefusal}
use Rattle.nf_value.specs.declared.fault.EvalRefusal.TheVariants as refusal
use Rattle.nf_ast.specs.Tree.{Tree}
use Rattle.nf_ast.specs.View.{BranchTree, Frame, asked, answered, preferred, conditional}
use Rattle.nf_placed.specs.Scope.{Env}
use Rattle.nf_eval.specs.Evaluation.{meaning_of}
use Rattle.nf_eval.specs.declared.turns.Turn.{Turn}
use Rattle.nf_eval.specs.declared.turns.Turn.TheVariants as turn
use Rattle.nf_eval.specs.declared.turns.Next.{Next}
use Rattle.nf_eval.specs.declared.turns.Next.TheVariants as next

-- a condition has a value that is true, or one that is false
pub record IsTrueThere (c : Tree) (env : Env) : Type 0 where
  pub of : Plain
  pub gives : (meaning_of c).value env ≡ Ok of
  pub holds : truth_of of ≡ true

pub record IsFalseThere (c : Tree) (env : Env) : Type 0 where
  pub of : Plain
  pub gives : (meaning_of c).value env ≡ Ok of
  pub fails : truth_of of ≡ false

-- Open env n fs: the next operand is needed, and n true conditions wait for their `:`
pub data Open (env : Env) : ℕ → List Frame → Type 0 where
  nothing_waits : Open env 0 []
  true_asked : (n : ℕ) (fs : List Frame) (p : Place) (c : Tree) → IsTrueThere c env → Open env n fs → Open env (suc n) (asked p c ∷ fs)
  false_answered : (n : ℕ) (fs : List Frame) (p : Place) (c a : Tree) → IsFalseThere c env → Open env n fs → Open env n (answered p c a ∷ fs)
  false_preferred : (n : ℕ) (fs : List Frame) (p : Place) (a : Tree) → IsFalseThere a env → Open env n fs → Open env n (preferred p a ∷ fs)

-- Shut env k o n fs: the next operand isn't needed, since the value in o was chosen, or (none in o) a condition was false. Of the operands that are passed
-- over, k conditions wait for their `:`; around them, n true ones do
pub data Shut (env : Env) : ℕ → Option Plain → ℕ → List Frame → Type 0 where
  chose_answer : (n : ℕ) (fs : List Frame) (p : Place) (c a : Tree) (v : Plain) → IsTrueThere c env → (meaning_of a).value env ≡ Ok v → Open env n fs → Shut env 0 (Some v) n (answered p c a ∷ fs)
  chose_preferred : (n : ℕ) (fs : List Frame) (p : Place) (a : Tree) (v : Plain) → (meaning_of a).value env ≡ Ok v → truth_of v ≡ true → Open env n fs → Shut env 0 (Some v) n (preferred p a ∷ fs)
  false_asked : (n : ℕ) (fs : List Frame) (p : Place) (c : Tree) → IsFalseThere c env → Open env n fs → Shut env 0 None n (asked p c ∷ fs)
  more_asked : (k : ℕ) (o : Option Plain) (n : ℕ) (fs : List Frame) (p : Place) (c : Tree) → Shut env k o n fs → Shut env (suc k) o n (asked p c ∷ fs)
  more_answered : (k : ℕ) (o : Option Plain) (n : ℕ) (fs : List Frame) (p : Place) (c a : Tree) → Shut env k o n fs → Shut env k o n (answered p c a ∷ fs)
  more_preferred : (k : ℕ) (o : Option Plain) (n : ℕ) (fs : List Frame) (p : Place) (a : Tree) → Shut env k o n fs → Shut env k o n (preferred p a ∷ fs)

-- a turn says rightly how far an expression was read
abbrev pub IsAt : Env → List Frame → Tree → Turn → Type 0
IsAt env fs e (turn.Live n v) = Open env n fs × ((meaning_of e).value env ≡ Ok (plain_of v))
IsAt env fs e (turn.Chosen n v k) = Shut env k (Some (plain_of v)) n fs
IsAt env fs e (turn.Skipped n k) = Shut env k None n fs

-- the same after an operator
abbrev pub IsNext : Env → List Frame → Next → Type 0
IsNext env fs (next.Due n) = Open env n fs
IsNext env fs (next.Chosen n v k) = Shut env k (Some (plain_of v)) n fs
IsNext env fs (next.Skipped n k) = Shut env k None n fs

-- the same after the operand that follows it, which may have a fault
abbrev pub Steps : Env → List Frame → Tree → Result Turn EvalRefusal → Type 0
Steps env fs e (Ok t) = IsAt env fs e t
Steps env fs e (Err (refusal.Fault x)) = (bs : List BranchTree) → (meaning_of (conditional fs e bs)).value env ≡ Err x
Steps env fs e (Err refusal.Mem) = Unit {0}

-- how many conditions wait for their `:`
abbrev pub waits : Turn → ℕ
waits (turn.Live n v) = n
waits (turn.Chosen n v k) = n + k
waits (turn.Skipped n k) = n + k

abbrev pub next_waits : Next → ℕ
next_waits (next.Due n) = n
next_waits (next.Chosen n v k) = n + k
next_waits (next.Skipped n k) = n + k
