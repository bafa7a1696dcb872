-- Where a run on one lane ends, and how much it has before it.
use Rattle.std.proofs.Common.{◌≡◌, ℕ, zero, suc, ◌*◌, ◌<◌, ◌≤◌, ◌^◌, List, [], ◌∷◌, ◌++◌, Bool, true, false, cond, refl, ap, sym, ◌∙◌, subst, arith, length}
use Rattle.std.proofs.lemmas.List.{append_assoc, append-nil, length-map}
use Rattle.nf_graph.specs.Node.{Kind, source, operator, process, PlainNode, node_at, IsGraph}
use Rattle.nf_graph.specs.Rules.{Rules, IsRules}
use Rattle.nf_machine.specs.Event.{PlainEvent, pass, taking, give, start, finish, reuse, close, abort, halt}
use Rattle.nf_machine.specs.State.{Take, State, none, opened, opening}
use Rattle.nf_machine.specs.Step.{step, replay}
use Rattle.nf_machine.specs.Legal.{IsLegal}
use Rattle.nf_machine.specs.History.{IsLawful, IsHistory, after, is_over}
use Rattle.nf_machine.specs.Going.{IsMove, HasMove, waits_to, is_new, spot_work, work_to, work}
use Rattle.nf_machine.proofs.Growing.{replay_grows}
use Rattle.nf_flow.specs.Ready.{NoPass, NoTake, NoClose}
use Rattle.nf_flow.specs.Seen.{Seen, plain_of, events_of, state_of}
use Rattle.nf_serial.specs.Serial.{IsIdle, work_of}
use Rattle.nf_graph.specs.declared.node.Node.{Node}
use Rattle.nf_graph.specs.WellMade.{IsWellMade, plain_graph}
use Rattle.nf_bounds.specs.Bounds.{IsBounded}
use Rattle.nf_flight.specs.declared.ticket.Ticket.{Ticket}
use Rattle.nf_flight.specs.Ticket.{attempt_of, number_of}
use Rattle.nf_flow.specs.Questions.{IsFlying}
use Rattle.nf_serial.proofs.Going.{Falls}

-- ---- the end

-- a run that isn't over and has nothing in flight has a move
abbrev pub GoesOn : Type 0
GoesOn = (g : List PlainNode) → (R : Rules) → (h : List PlainEvent) → IsGraph g → IsHistory g R h
    → is_over g (after g h) ≡ false → (after g h).tickets ≡ [] → HasMove g R (after g h)

-- so an idle run without one is over
pub still_is_over : GoesOn → (R : Rules) (z : Seen) → IsGraph (plain_of z) → IsHistory (plain_of z) R (events_of z) → IsIdle z
    → NoPass z.graph (state_of z) → NoTake z.graph (state_of z) → NoClose z.graph (state_of z) → is_over (plain_of z) (state_of z) ≡ true
still_is_over law R z graph lawful idle no_pass no_take no_close = by_test (is_over (plain_of z) (state_of z)) refl where
  no_move : (e : PlainEvent) → IsMove e → IsLegal (plain_of z) R (state_of z) e → ⊥
  no_move (pass i k) m l = no_pass i k l
  no_move (taking i port place t n) m l = no_take i port place (record { running = l.running; ready = l.ready; ticket = refl; number = refl })
  no_move (close i) m l = no_close i l
  no_move (give t a) m l = m
  no_move (start t cause) m l = m
  no_move (finish t r outs) m l = m
  no_move (reuse t r outs) m l = m
  no_move (abort t cause) m l = m
  no_move halt m l = m

  by_test : (b : Bool) → is_over (plain_of z) (state_of z) ≡ b → is_over (plain_of z) (state_of z) ≡ true
  by_test true e = e
  by_test false e = let m = law (plain_of z) R (events_of z) graph lawful e idle in absurd (no_move m.event m.move m.legal)

-- ---- how much is left

pub lawful_front : (g : List PlainNode) (R : Rules) (s : State) (xs ys : List PlainEvent) → IsLawful g R s (xs ++ ys) → IsLawful g R s xs
lawful_front g R s [] ys l = tt
lawful_front g R s (x ∷ xs) ys l = (l.0, lawful_front g R (step g s x) xs ys l.1)

pub lawful_last : (g : List PlainNode) (R : Rules) (s : State) (xs : List PlainEvent) (e : PlainEvent) → IsLawful g R s (xs ++ e ∷ []) → IsLegal g R (replay g s xs) e
lawful_last g R s [] e l = l.0
lawful_last g R s (x ∷ xs) e l = lawful_last g R (step g s x) xs e l.1

-- later there is no more to do than before
pub less_later : Falls → (g : List PlainNode) (R : Rules) (xs ys : List PlainEvent) → IsGraph g → IsRules R → IsHistory g R (xs ++ ys) → work g (after g (xs ++ ys)) ≤ work g (after g xs)
less_later law g R xs [] graph rules l = let e = ap (λ h. work g (after g h)) (append-nil xs) in omega (arith, e)
less_later law g R xs (y ∷ ys) graph rules l =
    let moved : xs ++ y ∷ ys ≡ (xs ++ y ∷ []) ++ ys = sym (append_assoc xs (y ∷ []) ys) in
    let l' : IsHistory g R ((xs ++ y ∷ []) ++ ys) = subst (IsHistory g R) moved l in
    let front = lawful_front g R (opening g) (xs ++ y ∷ []) ys l' in
    let a = less_later law g R (xs ++ y ∷ []) ys graph rules l' in
    let b = law g R xs y graph rules (lawful_front g R (opening g) xs (y ∷ []) front) (lawful_last g R (opening g) xs y front) in
    let c = ap (λ h. work g (after g h)) moved in
    let d = ap (work g) (replay_grows g (opening g) xs y) in
    omega (arith, a, b, c, d)

nothing_waits : (n : ℕ) → waits_to none n ≡ 0
nothing_waits zero = refl
nothing_waits (suc k) = let a = nothing_waits k in omega (arith, a)

new_at_most : (kind : Kind) (ts : List Take) → cond (is_new kind ts) 1 0 ≤ 1
new_at_most kind ts = one (is_new kind ts) where
  one : (b : Bool) → cond b 1 0 ≤ 1
  one true = omega arith
  one false = omega arith

open_work : (node : PlainNode) (kind : Kind) → spot_work node (opened kind) ≤ 2
open_work node (source items) = let a = nothing_waits (length node.ports) in let b = new_at_most node.kind [] in omega (arith, a, b)
open_work node (operator op) = let a = nothing_waits (length node.ports) in let b = new_at_most node.kind [] in omega (arith, a, b)
open_work node (process q) = let a = nothing_waits (length node.ports) in let b = new_at_most node.kind [] in omega (arith, a, b)

pub opening_work : (g : List PlainNode) (n : ℕ) → work_to g (opening g).spots n ≤ 2 * n
opening_work g zero = omega arith
opening_work g (suc i) = let a = opening_work g i in let b = open_work (node_at g i) (node_at g i).kind in omega (arith, a, b)

-- a run has fewer than 2^34 events before it
pub few_left : Falls → (R : Rules) (z : Seen) → IsGraph (plain_of z) → length (plain_of z) ≤ 65536 → IsRules R → IsHistory (plain_of z) R (events_of z) → work_of z < 2 ^ 34
few_left law R z graph few rules lawful =
    let a = less_later law (plain_of z) R [] (events_of z) graph rules lawful in
    let b = opening_work (plain_of z) (length (plain_of z)) in
    omega (arith, a, b, few)

-- ---- the graph

pub well_there : (z f : Seen) (nodes : List Node) → f ≡ z → nodes ≡ f.graph → IsWellMade nodes → IsWellMade z.graph
well_there z f nodes flow graph made = subst IsWellMade (graph ∙ ap (λ y. y.graph) flow) made

pub few_nodes : (nodes : List Node) → IsWellMade nodes → length (plain_graph nodes) ≤ 65536
few_nodes nodes made = let l = made.few_nodes in simp length-map l

-- ---- attempts

pub first_attempt : (z : Seen) (t : Ticket) → IsFlying z t → 1 ≤ attempt_of t
first_attempt z t f = let e = f.is.attempt in omega (arith, e)

pub last_attempts : (z : Seen) (t : Ticket) → IsBounded (plain_of z) (state_of z) → IsFlying z t → attempt_of t ≤ 101
last_attempts z t b f = let e = f.is.attempt in let l = b.attempt (number_of t) f.ticket f.there in omega (arith, e, l)
