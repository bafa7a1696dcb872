-- Items that are answered.
use Rattle.std.proofs.Common.{◌≡◌, ℕ, ◌<◌, List, [], ◌∷◌, ◌++◌, refl, ap, sym, ◌∙◌, arith, get_or, map, length}
use Rattle.std.specs.Prelude.{Result, Ok, Err, IfOk}
use Rattle.std.specs.List.{AllByRecursion}
use Rattle.nf_value.specs.Plain.{Plain}
use Rattle.nf_value.specs.View.{plain_of as plain}
use Rattle.nf_value.specs.declared.value.Value.{Value}
use Rattle.nf_value.specs.declared.fault.EvalFault.{EvalFault}
use Rattle.nf_value.specs.declared.fault.EvalRefusal.{EvalRefusal}
use Rattle.nf_graph.specs.Rules.{Rules}
use Rattle.nf_stored.specs.Answers.{AnswersItem}
use Rattle.nf_machine.specs.Event.{answer_of}
use Rattle.nf_flight.specs.declared.ticket.Ticket.{Ticket}
use Rattle.nf_flight.specs.Ticket.{inputs_of, node_of}
use Rattle.nf_core.specs.Opening.{Opening}
use Rattle.nf_locked.proofs.Turns.{first_plain}
use Rattle.nf_locked.specs.Locked.{AnswersIt, IsItemOf}
use Rattle.nf_worker.specs.declared.items.Answered.{Answered}
use Rattle.nf_worker.specs.Worker.{ticket_of}

-- ---- the answer for one item

pub item_there : (F : Opening) (t : Ticket) (xs : List Value) (ins : List Plain) → IsItemOf F t → map plain xs ≡ ins → ins ≡ inputs_of t → 0 < length xs
item_there F t [] ins item all at = absurd (let l = ap (λ (ps : List Plain). length ps) (all ∙ at) in let o = item.item in omega (arith, l, o))
item_there F t (x ∷ xs) ins item all at = omega arith

-- the answer without its want of memory is the rules'
pub answers_then : {E : Type 0} (F : Opening) (Q : Rules) (t : Ticket) (node : ℕ) (items : List Value) (ins : List Plain) (item : Value) (told : Result Value EvalRefusal) (r : Result (Result Value EvalFault) E)
    → Q ≡ F.rules → node ≡ node_of t → map plain items ≡ ins → ins ≡ inputs_of t → item ≡ get_or items 0 item → AnswersItem (Q.answer node (plain item)) told
    → ((due : Result Plain EvalFault) → AnswersItem due told → IfOk r (λ a. answer_of a ≡ due)) → IfOk r (AnswersIt F t)
answers_then F Q t node items ins item told (Err x) same at_node all at_ins is due settled = tt
answers_then F Q t node items ins item told (Ok a) same at_node all at_ins is due settled = λ x one. (
    let v : plain item ≡ x = first_plain items x item (all ∙ (at_ins ∙ one)) is in
    settled (Q.answer node (plain item)) due ∙ rw (at_node, v, same) refl)

-- ---- one more item

pub all_more : {X : Type 0} (P : X → Type 0) (xs ys : List X) (x : X) → ys ≡ xs ++ x ∷ [] → AllByRecursion P xs → P x → AllByRecursion P ys
all_more {X} P xs ys x is all p = rw is (at_end xs all) where
  at_end : (zs : List X) → AllByRecursion P zs → AllByRecursion P (zs ++ x ∷ [])
  at_end [] h = (p, tt)
  at_end (z ∷ zs) h = (h.0, at_end zs h.1)

pub all_rest : {X : Type 0} (P : X → Type 0) (x : X) (rest left : List X) → left ≡ x ∷ rest → AllByRecursion P left → P x × AllByRecursion P rest
all_rest P x rest left is all = rw is at all

pub tickets_more : (xs ys : List Answered) (x : Answered) (t : Ticket) (rest left items : List Ticket) → ys ≡ xs ++ x ∷ [] → ticket_of x ≡ t → left ≡ t ∷ rest → map ticket_of xs ++ left ≡ items → map ticket_of ys ++ rest ≡ items
tickets_more xs ys x t rest left items is same front all = rw is (sym (at_end xs) ∙ (ap (λ (ts : List Ticket). map ticket_of xs ++ ts) (ap (λ (u : Ticket). u ∷ rest) same ∙ sym front) ∙ all)) where
  at_end : (zs : List Answered) → map ticket_of zs ++ ticket_of x ∷ rest ≡ map ticket_of (zs ++ x ∷ []) ++ rest
  at_end [] = refl
  at_end (z ∷ zs) = ap (λ (ts : List Ticket). ticket_of z ∷ ts) (at_end zs)

pub tickets_all : (xs : List Answered) (rest items : List Ticket) → rest ≡ [] → map ticket_of xs ++ rest ≡ items → map ticket_of xs ≡ items
tickets_all xs rest items none all = no_more xs ∙ (ap (λ (ts : List Ticket). map ticket_of xs ++ ts) (sym none) ∙ all) where
  no_more : (zs : List Answered) → map ticket_of zs ≡ map ticket_of zs ++ []
  no_more [] = refl
  no_more (z ∷ zs) = ap (λ (ts : List Ticket). ticket_of z ∷ ts) (no_more zs)
