-- A run has few Starts, and a ticket few attempts.
use Rattle.std.proofs.Common.{◌≡◌, ◌+◌, ◌<◌, ◌≤◌, ◌^◌, List, [], ◌∷◌, ◌++◌, ap, sym, subst, arith, length}
use Rattle.std.proofs.lemmas.List.{append_assoc, append-nil, length-map}
use Rattle.std.proofs.lemmas.List.Sums.{count_by-le-length}
use Rattle.nf_graph.specs.Node.{PlainNode, IsGraph}
use Rattle.nf_graph.specs.Rules.{Rules, IsRules}
use Rattle.nf_machine.specs.Event.{PlainEvent, event_of}
use Rattle.nf_machine.specs.State.{opening}
use Rattle.nf_machine.specs.History.{IsHistory, after}
use Rattle.nf_machine.specs.Going.{work}
use Rattle.nf_machine.proofs.Growing.{replay_grows}
use Rattle.nf_flow.specs.Seen.{Seen, plain_of, events_of}
use Rattle.nf_serial.specs.Serial.{is_start}
use Rattle.nf_serial.proofs.Going.{Falls}
use Rattle.nf_serial.proofs.Still.{lawful_front, lawful_last, opening_work}
use Rattle.nf_locked.specs.Locked.{starts_of}

-- each event leaves less to do, so there are no more events than there was to do
longer : Falls → (g : List PlainNode) (R : Rules) (xs ys : List PlainEvent) → IsGraph g → IsRules R → IsHistory g R (xs ++ ys) → length ys + work g (after g (xs ++ ys)) ≤ work g (after g xs)
longer law g R xs [] graph rules l = let e = ap (λ h. work g (after g h)) (append-nil xs) in omega (arith, e)
longer law g R xs (y ∷ ys) graph rules l =
    let moved : xs ++ y ∷ ys ≡ (xs ++ y ∷ []) ++ ys = sym (append_assoc xs (y ∷ []) ys) in
    let l' : IsHistory g R ((xs ++ y ∷ []) ++ ys) = subst (IsHistory g R) moved l in
    let front = lawful_front g R (opening g) (xs ++ y ∷ []) ys l' in
    let a = longer law g R (xs ++ y ∷ []) ys graph rules l' in
    let b = law g R xs y graph rules (lawful_front g R (opening g) xs (y ∷ []) front) (lawful_last g R (opening g) xs y front) in
    let c = ap (λ h. work g (after g h)) moved in
    let d = ap (work g) (replay_grows g (opening g) xs y) in
    omega (arith, a, b, c, d)

pub few_starts : Falls → (R : Rules) (z : Seen) → IsGraph (plain_of z) → length (plain_of z) ≤ 65536 → IsRules R → IsHistory (plain_of z) R (events_of z) → starts_of z < 2 ^ 34
few_starts law R z graph few rules lawful =
    let a = longer law (plain_of z) R [] (events_of z) graph rules lawful in
    let b = opening_work (plain_of z) (length (plain_of z)) in
    let c = length-map z.history (event_of (plain_of z)) in
    let d = count_by-le-length is_start z.history in
    omega (arith, a, b, c, d, few)
