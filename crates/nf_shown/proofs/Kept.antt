-- What reading one event keeps, in memory.
use Rattle.std.proofs.Common.{◌≡◌, ℕ, zero, suc, ◌<◌, List, [], ◌∷◌, ◌++◌, length, get_or, Bool, true, false, ap, sym, ◌∙◌, subst, arith}
use Rattle.std.specs.Prelude.{Result, Ok, Err, OnOk}
use Rattle.std.proofs.lemmas.Bool.{true≢false}
use Rattle.std.proofs.lemmas.List.{length-set}
use Rattle.nf_value.specs.Plain.{Plain}
use Rattle.nf_value.specs.View.{plain_of}
use Rattle.nf_value.specs.declared.value.Value.{Value}
use Rattle.nf_value.specs.declared.fault.EvalFault.{EvalFault}
use Rattle.nf_machine.specs.declared.event.Event.{Event}
use Rattle.nf_machine.specs.declared.event.Event.TheVariants as e
use Rattle.nf_machine.specs.Event.{event_of, taking, give}
use Rattle.nf_machine.specs.Step.{step}
use Rattle.nf_shown.specs.declared.reading.Reading.{Reading}
use Rattle.nf_shown.specs.Shown.{HasRead, ReadsOn, and_printed, with_more}
use Rattle.nf_shown.proofs.Events.{taken, fault_given, answer_dropped, answer_kept, other_read}

-- a node is a view only within the list
pub view_within : (are : List Bool) (i : ℕ) → get_or are i false ≡ true → i < length are
view_within [] i h = absurd (true≢false (sym h))
view_within (b ∷ bs) zero h = omega arith
view_within (b ∷ bs) (suc i) h = let l = view_within bs i h in omega (arith, l)

pub reads_take : (are : List Bool) (node port place t n : ℕ) (old new : Reading) → new.takers.items ≡ old.takers.items ++ node ∷ []
    → new.lists.items ≡ old.lists.items → ReadsOn are (e.Take node port place t n) old new
reads_take are node port place t n old new more same g R s printed h legal =
    let P : List (List Plain) → Type 0 = λ v. HasRead are (and_printed printed s (taking node port place t n)) (step g s (taking node port place t n)) new.takers.items v in
    subst P (sym same) (taken g R s printed are old.takers.items new.takers.items old.lists.items node port place t n more h)

pub reads_fault : (are : List Bool) (t : ℕ) (f : EvalFault) (r : Reading) → ReadsOn are (e.Give t (Err f)) r r
reads_fault are t f r g R s printed h legal = fault_given g s printed are r.takers.items r.lists.items t f h

pub reads_dropped : (are : List Bool) (t : ℕ) (v : Value) (r : Reading) (node : ℕ) → node ≡ get_or r.takers.items t 0 → get_or are node false ≡ false
    → ReadsOn are (e.Give t (Ok v)) r r
reads_dropped are t v r node is other g R s printed h legal =
    answer_dropped g R s printed are r.takers.items r.lists.items t (plain_of v) h legal (ap (λ i. get_or are i false) (sym is) ∙ other)

pub reads_kept : (are : List Bool) (t : ℕ) (v : Value) (old new : Reading) (node : ℕ) → node ≡ get_or old.takers.items t 0 → get_or are node false ≡ true
    → node < length old.lists.items → new.takers.items ≡ old.takers.items → new.lists.items ≡ with_more old.lists.items node (plain_of v)
    → ReadsOn are (e.Give t (Ok v)) old new
reads_kept are t v old new node is view within same more g R s printed h legal =
    let P : List ℕ → Type 0 = λ ts. HasRead are (and_printed printed s (give t (Ok (plain_of v)))) (step g s (give t (Ok (plain_of v)))) ts new.lists.items in
    subst P (sym same) (answer_kept g R s printed are old.takers.items old.lists.items new.lists.items t (plain_of v) h legal
    (ap (λ i. get_or are i false) (sym is) ∙ view) (subst (λ i. i < length old.lists.items) is within)
    (more ∙ ap (λ i. with_more old.lists.items i (plain_of v)) is))

-- as many lists as before
pub with_more_length : (xs ys : List (List Plain)) (i : ℕ) (v : Plain) → ys ≡ with_more xs i v → length ys ≡ length xs
with_more_length xs ys i v more = ap length more ∙ length-set xs i (get_or xs i [] ++ v ∷ [])

-- an event that neither takes nor answers
abbrev pub IsElse : Event → Type 0
IsElse (e.Take node port place t n) = ⊥
IsElse (e.Give t a) = ⊥
IsElse _ = Unit {0}

pub reads_else : (are : List Bool) (x : Event) (r : Reading) → IsElse x → ReadsOn are x r r
reads_else are (e.Take node port place t n) r o g R s printed h legal = absurd o
reads_else are (e.Give t a) r o g R s printed h legal = absurd o
reads_else are (e.Pass port) r o g R s printed h legal = other_read g s printed are r.takers.items r.lists.items (event_of g (e.Pass port)) tt h
reads_else are (e.Start t cause) r o g R s printed h legal = other_read g s printed are r.takers.items r.lists.items (event_of g (e.Start t cause)) tt h
reads_else are (e.Reuse t report outs) r o g R s printed h legal = other_read g s printed are r.takers.items r.lists.items (event_of g (e.Reuse t report outs)) tt h
reads_else are (e.Finish t report outs) r o g R s printed h legal = other_read g s printed are r.takers.items r.lists.items (event_of g (e.Finish t report outs)) tt h
reads_else are (e.Close node) r o g R s printed h legal = other_read g s printed are r.takers.items r.lists.items (event_of g (e.Close node)) tt h
reads_else are (e.Abort t cause) r o g R s printed h legal = other_read g s printed are r.takers.items r.lists.items (event_of g (e.Abort t cause)) tt h
reads_else are e.Halt r o g R s printed h legal = other_read g s printed are r.takers.items r.lists.items (event_of g e.Halt) tt h

-- what follows from a fact on Ok holds there too
pub on_ok : {A E P Q : Type 0} (r : Result A E) → (P → Q) → OnOk r P → OnOk r Q
on_ok (Ok x) f p = f p
on_ok (Err y) f p = tt
