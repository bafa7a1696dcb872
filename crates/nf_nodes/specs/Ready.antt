-- What the index answers.
use Rattle.std.specs.Prelude.{◌≡◌, ℕ, List, MatchOption}
use Rattle.std.specs.declared.option.Option.{Option}
use Rattle.nf_graph.specs.declared.node.Node.{Node}
use Rattle.nf_graph.specs.WellMade.{plain_graph}
use Rattle.nf_machine.specs.declared.event.Move.{Move}
use Rattle.nf_machine.specs.declared.event.Move.TheVariants as m
use Rattle.nf_machine.specs.State.{State}
use Rattle.nf_machine.specs.Legal.{PassIsLegal, CloseIsLegal}
use Rattle.nf_nodes.specs.Steps.{MayPass, MayTake}

abbrev pub NoPass : List Node → State → Type 0
NoPass nodes s = (i k : ℕ) → PassIsLegal (plain_graph nodes) s i k → ⊥

abbrev pub NoTake : List Node → State → Type 0
NoTake nodes s = (i port place : ℕ) → MayTake nodes s i port place → ⊥

abbrev pub NoClose : List Node → State → Type 0
NoClose nodes s = (i : ℕ) → CloseIsLegal (plain_graph nodes) s i → ⊥

-- the move is legal, and none that comes before it is
abbrev pub IsNext : List Node → State → Move → Type 0
IsNext nodes s (m.Pass port) = MayPass nodes s port
IsNext nodes s (m.Take node port place) = NoPass nodes s × MayTake nodes s node port place
IsNext nodes s (m.Close node) = NoPass nodes s × NoTake nodes s × CloseIsLegal (plain_graph nodes) s node

-- a legal move: a Pass where there is one, else a Take, else a Close
abbrev pub IsReady : List Node → State → Option Move → Type 0
IsReady nodes s r = MatchOption r (NoPass nodes s × NoTake nodes s × NoClose nodes s) (IsNext nodes s)

abbrev pub IsTakeOf : List Node → State → ℕ → Move → Type 0
IsTakeOf nodes s i (m.Pass port) = ⊥
IsTakeOf nodes s i (m.Take node port place) = (node ≡ i) × MayTake nodes s node port place
IsTakeOf nodes s i (m.Close node) = ⊥

-- a legal Take of node i, if there is one
abbrev pub IsReadyAt : List Node → State → ℕ → Option Move → Type 0
IsReadyAt nodes s i r = MatchOption r ((port place : ℕ) → MayTake nodes s i port place → ⊥) (IsTakeOf nodes s i)

-- the move is legal
abbrev pub IsLegalMove : List Node → State → Move → Type 0
IsLegalMove nodes s (m.Pass port) = MayPass nodes s port
IsLegalMove nodes s (m.Take node port place) = MayTake nodes s node port place
IsLegalMove nodes s (m.Close node) = CloseIsLegal (plain_graph nodes) s node
