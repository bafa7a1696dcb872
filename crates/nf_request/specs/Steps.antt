-- What each step gives, from a command line to an accepted script.
use Rattle.std.specs.Prelude.{◌≡◌, ℕ, List, Option, Some, None, Result, Ok, Err}
use Rattle.nf_ast.specs.Tree.{Tree}
use Rattle.nf_ast.specs.Tops.{view_script}
use Rattle.nf_ast.specs.declared.tops.Script.{Script}
use Rattle.nf_command.specs.declared.command.Command.{Command}
use Rattle.nf_params.specs.Params.{params_in}
use Rattle.nf_order.specs.Accepted.{IsAccepted, BreaksFirst, first_broken}
use Rattle.nf_kinds.specs.declared.fault.Broken.{Broken}
use Rattle.nf_kinds.specs.Fault.{breaks}
use Rattle.nf_order.specs.declared.fault.OrderFault.{OrderFault}
use Rattle.nf_order.specs.declared.fault.OrderFault.TheVariants as order
use Rattle.nf_ends.specs.declared.end.End.{End}
use Rattle.nf_ends.specs.declared.end.End.TheVariants as end
use Rattle.nf_request.specs.Words.{Asks, IsMisuse}
use Rattle.nf_request.specs.Wishes.{Params, Wish, HasParams, LacksParams, AreInFile}
use Rattle.nf_request.specs.Script.{IsOnlyScript, IsOnlyBreak, IsOnlyFault}

-- the command of the words, or why they are none
abbrev pub GivesCommand : List (List ℕ) → Result Command End → Type 0
GivesCommand words (Ok c) = Asks words c
GivesCommand words (Err e) = IsMisuse words e

-- why there is no text of a script: no file, one that is too long, or the host failed, or memory ran out
abbrev pub LacksText : Option (List ℕ) → End → Type 0
LacksText due end.NoScript = due ≡ None
LacksText due (end.Lex f) = (text : List ℕ) × (due ≡ Some text) × IsOnlyFault text f
LacksText due end.HostFault = Unit {0}
LacksText due end.Mem = Unit {0}
LacksText due _ = ⊥

-- the text that is due, or why there is none
abbrev pub GivesText : Option (List ℕ) → Result (List ℕ) End → Type 0
GivesText due (Ok text) = due ≡ Some text
GivesText due (Err e) = LacksText due e

-- why a text has no tree
abbrev pub LacksTree : List ℕ → End → Type 0
LacksTree text (end.Lex f) = IsOnlyFault text f
LacksTree text (end.Parse f) = IsOnlyBreak text f
LacksTree text end.Mem = Unit {0}
LacksTree text _ = ⊥

-- the one tree of a text, or why it has none
abbrev pub GivesTree : List ℕ → Result Script End → Type 0
GivesTree text (Ok s) = IsOnlyScript text (view_script s)
GivesTree text (Err e) = LacksTree text e

-- the parameters in a file of these bytes, or the value that is refused
abbrev pub GivesOfBytes : List ℕ → Result Params End → Type 0
GivesOfBytes bytes (Ok ps) = params_in bytes ≡ Ok ps
GivesOfBytes bytes (Err (end.BadParams pointer)) = params_in bytes ≡ Err pointer
GivesOfBytes bytes (Err end.Mem) = Unit {0}
GivesOfBytes bytes (Err _) = ⊥

-- the parameters in the file at a path, or why there are none
abbrev pub GivesInFile : Option (List ℕ) → Option (List ℕ) → Result Params End → Type 0
GivesInFile path held (Ok ps) = AreInFile path held ps
GivesInFile path held (Err e) = LacksParams path held e

-- the parameters of a wish, or why there are none
abbrev pub GivesParams : Wish → Option (List ℕ) → Result Params End → Type 0
GivesParams w held (Ok ps) = HasParams w held ps
GivesParams w held (Err e) = LacksParams w.params_file held e

-- the tree keeps the rules of order, and nothing else is broken first
pub record IsOrdered (t : Tree) : Type 0 where
  pub accepted : IsAccepted t
  pub none : first_broken t ≡ None

-- it breaks this one first
pub record IsDisordered (t : Tree) (b : Broken) : Type 0 where
  pub breaks : BreaksFirst t b
  pub first : first_broken t ≡ Some b

-- why a script isn't accepted, as an end
abbrev pub end_of_order : OrderFault → End
end_of_order (order.Rule rule place) = end.Order (breaks rule place)
end_of_order order.Mem = end.Mem

abbrev pub IsRefused : Tree → End → Type 0
IsRefused t (end.Order b) = IsDisordered t b
IsRefused t end.Mem = Unit {0}
IsRefused t _ = ⊥
