-- What a name calls in a workflow's body, and what its call gives.
use Rattle.std.specs.Prelude.{ℕ, List, [], ◌∷◌, Option, Some, None, if◌then◌else◌}
use Rattle.nf_value.specs.declared.place.Place.{Place}
use Rattle.nf_kinds.specs.Kinds.{Shaped, alone, as_channel, unknown_kind, plain_unless}
use Rattle.nf_kinds.specs.Scope.{call_made}
use Rattle.nf_kinds.specs.Walk.{Walk, came, gives}
use Rattle.nf_kinds.specs.declared.args.Given.{Given}
use Rattle.nf_kinds.specs.Args.{any_unknown}
use Rattle.nf_opkinds.specs.Operators.{Call, member_call}
use Rattle.nf_opkinds.specs.Calls.{process_call}

pub data Callee : Type 0 where
  -- with the names of its outputs, where they have one
  a_process : List (Option (List ℕ)) → Callee
  -- with what its body gives for its arguments, and the rules that it breaks
  a_workflow : (List Given → Call) → Callee
  -- a function of the script or of the program
  a_function : Callee
  an_operator : Callee
  -- a name of a source or a method, which isn't called so
  no_callee : Callee

-- what all bodies of a script have around them: what names call, and the names that call nothing in a closure
pub record Around : Type 0 where
  pub callee : List ℕ → Callee
  pub unknown : List (List ℕ)

-- what an expression with something unknown gives is unknown
abbrev pub unless_unknown : List Given → Shaped → Shaped
unless_unknown xs v = if any_unknown xs then alone unknown_kind else v

-- the body is judged whatever the arguments are
abbrev pub entered : List ℕ → List Given → Call → Walk Shaped
entered n xs k s = came (unless_unknown xs k.gives) (call_made n (unless_unknown xs k.gives) s) k.broken

-- a plain value becomes a value channel
abbrev pub channelled : Shaped → Shaped
channelled v = record v { kinds = as_channel v.kinds }

-- ---- operators, as `view(ch)`: the first argument without a name is what it is called on

pub record Receiver : Type 0 where
  pub of : Given
  pub others : List Given

abbrev pub and_other : Given → Option Receiver → Option Receiver
and_other x (Some r) = Some (record r { others = x ∷ r.others })
and_other x None = None

abbrev pub receiver_or : Option (List ℕ) → Given → List Given → Option Receiver → Option Receiver
receiver_or None x xs later = Some (record { of = x; others = xs })
receiver_or (Some n) x xs later = and_other x later

abbrev pub receiver : List Given → Option Receiver
receiver [] = None
receiver (x ∷ xs) = receiver_or x.option x xs (receiver xs)

abbrev pub operator_for : Place → List ℕ → Option Receiver → Walk Shaped
operator_for p n (Some r) = member_call p n (channelled r.of.shape) r.others
operator_for p n None = gives (alone unknown_kind)

abbrev pub operator_on : Place → List ℕ → List Given → Walk Shaped
operator_on p n xs = operator_for p n (receiver xs)

-- ---- all calls by name

abbrev pub call_of : Callee → Place → List ℕ → List Given → Walk Shaped
call_of (a_process ns) p n xs = process_call p n ns xs
call_of (a_workflow f) p n xs = entered n xs (f xs)
call_of a_function p n xs = gives (alone (plain_unless (any_unknown xs)))
call_of an_operator p n xs = operator_on p n xs
call_of no_callee p n xs = gives (alone unknown_kind)
