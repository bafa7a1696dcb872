-- What came of takes, with one event more.
use Rattle.std.proofs.Common.{◌≡◌, ℕ, ◌+◌, List, [], ◌∷◌, map, Bool, true, false, ◌&&◌, cond, refl, ap, sym, ◌∙◌, arith, inl, inr}
use Rattle.std.specs.Prelude.{◌==◌, if◌then◌else◌, count_by}
use Rattle.std.proofs.lemmas.Bool.{cases_Bool}
use Rattle.std.proofs.lemmas.List.Sums.{sum_by-cons}
use Rattle.nf_machine.specs.Event.{PlainEvent}
use Rattle.nf_trace.specs.declared.task.TaskStatus.{TaskStatus}
use Rattle.nf_traced.specs.declared.taken.Taken.{Taken}
use Rattle.nf_traced.specs.Takes.{came_of, is_retry, status_after, status_by}
use Rattle.nf_traced.specs.Reading.{moved, noted}
use Rattle.nf_traced.proofs.Numbered.{noted_other, noted_own}

one_more : (again : Bool) (a c : ℕ) → a + (cond again 1 0 + c) ≡ (if again then a + 1 else a) + c
one_more true a c = omega arith
one_more false a c = omega arith

-- an event of its ticket
came_moved : (y : Taken) (e : PlainEvent) (rest : List PlainEvent) (again : Bool) (st : TaskStatus) → is_retry y.ticket e ≡ again → status_by y.ticket y.status e ≡ st
    → came_of y (e ∷ rest) ≡ came_of (moved again st y) rest
came_moved y e rest again st retry status =
    let reached : y.reached + count_by (is_retry y.ticket) (e ∷ rest) ≡ (if again then y.reached + 1 else y.reached) + count_by (is_retry y.ticket) rest =
    ap (λ n. y.reached + n) (sum_by-cons (λ x. cond (is_retry y.ticket x) 1 0) e rest)
    ∙ ap (λ b. y.reached + (cond b 1 0 + count_by (is_retry y.ticket) rest)) retry
    ∙ one_more again y.reached (count_by (is_retry y.ticket) rest) in
    λ i. record { ticket = y.ticket; node = y.node; n = y.n; reached = reached i; status = status_after y.ticket (status i) rest }

-- an event that isn't of its ticket
pub came_same : (y : Taken) (e : PlainEvent) (rest : List PlainEvent) → is_retry y.ticket e ≡ false → status_by y.ticket y.status e ≡ y.status → came_of y (e ∷ rest) ≡ came_of y rest
came_same y e rest retry status = came_moved y e rest false y.status retry status

-- an event of ticket t, as each take sees it
pub record Tells (e : PlainEvent) (t : ℕ) (again : Bool) (st : TaskStatus) : Type 0 where
  pub retry : (u : ℕ) → is_retry u e ≡ (t == u) && again
  pub status : (u : ℕ) (was : TaskStatus) → status_by u was e ≡ (if t == u then st else was)

pub came_noted : (e : PlainEvent) (t : ℕ) (again : Bool) (st : TaskStatus) (y : Taken) (rest : List PlainEvent) → Tells e t again st → came_of y (e ∷ rest) ≡ came_of (noted t again st y) rest
came_noted e t again st y rest tells = elim (cases_Bool (t == y.ticket)) [
  | inl own ↦ came_moved y e rest again st (tells.retry y.ticket ∙ ap (λ b. b && again) own) (tells.status y.ticket y.status ∙ ap (λ b. if b then st else y.status) own)
      ∙ ap (λ z. came_of z rest) (sym (noted_own t again st y own))
  | inr other ↦ came_same y e rest (tells.retry y.ticket ∙ ap (λ b. b && again) other) (tells.status y.ticket y.status ∙ ap (λ b. if b then st else y.status) other)
      ∙ ap (λ z. came_of z rest) (sym (noted_other t again st y other))
]

-- ---- all of them

pub all_noted : (e : PlainEvent) (t : ℕ) (again : Bool) (st : TaskStatus) (ys : List Taken) (rest : List PlainEvent) → Tells e t again st
    → map (λ y. came_of y (e ∷ rest)) ys ≡ map (λ y. came_of y rest) (map (noted t again st) ys)
all_noted e t again st [] rest tells = refl
all_noted e t again st (y ∷ ys) rest tells =
    ap (λ z. z ∷ map (λ x. came_of x (e ∷ rest)) ys) (came_noted e t again st y rest tells)
    ∙ ap (λ zs. came_of (noted t again st y) rest ∷ zs) (all_noted e t again st ys rest tells)

-- an event that is of no ticket that came back
pub record IsSilent (e : PlainEvent) : Type 0 where
  pub retry : (u : ℕ) → is_retry u e ≡ false
  pub status : (u : ℕ) (was : TaskStatus) → status_by u was e ≡ was

pub all_same : (e : PlainEvent) (ys : List Taken) (rest : List PlainEvent) → IsSilent e → map (λ y. came_of y (e ∷ rest)) ys ≡ map (λ y. came_of y rest) ys
all_same e [] rest silent = refl
all_same e (y ∷ ys) rest silent =
    ap (λ z. z ∷ map (λ x. came_of x (e ∷ rest)) ys) (came_same y e rest (silent.retry y.ticket) (silent.status y.ticket y.status))
    ∙ ap (λ zs. came_of y rest ∷ zs) (all_same e ys rest silent)

and_none : (n : ℕ) → n + 0 ≡ n
and_none n = omega arith

-- after the last event
pub all_came : (ys : List Taken) → map (λ y. came_of y []) ys ≡ ys
all_came [] = refl
all_came (y ∷ ys) =
    let same : came_of y [] ≡ y = λ i. record { ticket = y.ticket; node = y.node; n = y.n; reached = and_none y.reached i; status = y.status } in
    ap (λ z. z ∷ map (λ x. came_of x []) ys) same ∙ ap (λ zs. y ∷ zs) (all_came ys)
