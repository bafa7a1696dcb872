-- What calls come to where a closure is among the arguments.
use Rattle.std.specs.Prelude.{◌≡◌, ℕ, List, [], ◌∷◌, length, None, Result, Ok, Err}
use Rattle.nf_value.specs.Plain.{Plain}
use Rattle.nf_value.specs.declared.place.Place.{Place}
use Rattle.nf_value.specs.declared.fault.EvalKind.{EvalKind}
use Rattle.nf_value.specs.declared.fault.EvalRefusal.{EvalRefusal}
use Rattle.nf_value.specs.declared.fault.EvalRefusal.TheVariants as refusal
use Rattle.nf_texts.specs.declared.fault.CallFault.{CallFault}
use Rattle.nf_texts.specs.declared.fault.CallFault.TheVariants as call
use Rattle.nf_builtins.specs.declared.method.Method.{Method}
use Rattle.nf_builtins.specs.declared.method.Method.TheVariants as m
use Rattle.nf_infix.specs.Template.{listed}
use Rattle.nf_placed.specs.declared.blocks.BlockMethod.{BlockMethod}
use Rattle.nf_placed.specs.declared.blocks.BlockMethod.TheVariants as b
use Rattle.nf_placed.specs.Placed.{Placed}
use Rattle.nf_placed.specs.Calls.{Argument, block, values_in, before_kinds, over_items, method_call}

-- the row of a method that takes a closure
abbrev pub row_method : BlockMethod → Method
row_method b.Any = m.Any
row_method b.Every = m.Every
row_method b.Find = m.Find
row_method b.FindAll = m.FindAll
row_method b.Collect = m.Collect

-- this is what a call comes to for so many arguments, wherever a closure is among them; want of memory is free
abbrev pub IsFaultOfBlocks : (List Argument → Placed Plain) → ℕ → EvalRefusal → Type 0
IsFaultOfBlocks called k (refusal.Fault e) = (args : List Argument) → length args ≡ k → values_in args ≡ None → called args ≡ Err e
IsFaultOfBlocks called k refusal.Mem = Unit {0}

-- what is wrong with a closure where values have this fault
abbrev pub IsClosureKind : EvalKind → CallFault → Type 0
IsClosureKind l (call.Kind k) = l ≡ before_kinds k
IsClosureKind l call.Mem = ⊥

-- the closure is the only argument, and the method goes over the items of the receiver by it; or what the call comes to without it
abbrev pub GoesOver : Place → Plain → (List Argument → Placed Plain) → ℕ → Result BlockMethod EvalRefusal → Type 0
GoesOver p v called k (Ok method) = (k ≡ 1) × ((f : List Plain → Placed Plain) → called (block f ∷ []) ≡ over_items p (row_method method) f (listed v))
GoesOver p v called k (Err r) = IsFaultOfBlocks called k r

-- the same of a method of a value
abbrev pub IsBlockCall : Place → List ℕ → Plain → ℕ → Result BlockMethod EvalRefusal → Type 0
IsBlockCall p n v k r = GoesOver p v (method_call p n v) k r
