-- Functions of the program, by their names and answers.
use Rattle.std.proofs.Common.{◌≡◌, ℕ, true, false, zero, suc, ◌+◌, ◌≤◌, List, [], ◌∷◌, drop, length, slice_get, Option, Some, None, Result, Ok, Err, refl, sym, ◌∙◌, ap, subst, add-one}
use Rattle.std.specs.Str.{bytes_eq}
use Rattle.std.proofs.Math.ListN.{drop_of_length-le}
use Rattle.std.proofs.lemmas.Option.{none-some, same_Some}
use Rattle.nf_value.specs.Plain.{Plain}
use Rattle.nf_value.specs.declared.place.Place.{Place}
use Rattle.nf_value.specs.declared.value.Value.{Value}
use Rattle.nf_value.specs.declared.fault.EvalRefusal.{EvalRefusal}
use Rattle.nf_texts.specs.declared.fault.CallFault.{CallFault}
use Rattle.nf_texts.specs.declared.fault.CallFault.TheVariants as call
use Rattle.nf_builtins.specs.Natives.{AnswersNative}
use Rattle.nf_texts.specs.Outcome.{Gives}
use Rattle.nf_value.specs.View.{plain_of}
use Rattle.nf_placed.specs.Placed.{Placed, Evaluates, placed_of}
use Rattle.nf_placed.specs.Calls.{id_from, native_outcome, by_title, native_call}
use Rattle.nf_placed.proofs.Placing.{evaluates}

-- a value is judged by itself, and no answer is a fault
pub judged_answer : (o : Option Plain) (v : Value) (r : Result Value CallFault) → AnswersNative o (Ok v) → Gives (Ok (plain_of v)) r → Gives (native_outcome o) r
judged_answer o v r h g = subst (λ (x : Option Plain). Gives (native_outcome x) r) (sym h) g

pub no_answer : (o : Option Plain) (f : CallFault) → AnswersNative o (Err f) → Gives (native_outcome o) (Err f)
no_answer o (call.Kind k) h = subst (λ (x : Option Plain). Gives (native_outcome x) (Err (call.Kind k))) (sym h.1) (ap Err (sym h.0))
no_answer o call.Mem h = tt

pub native_answers : (p : Place) (n : List ℕ) (titles : List (List ℕ)) (answer : ℕ → List Plain → Option Plain) (vs : List Plain) (id : ℕ) (r : Result Value CallFault) (s : Result Value EvalRefusal) → id_from 0 n titles ≡ Some id → Gives (native_outcome (answer id vs)) r → s ≡ placed_of p r → Evaluates (native_call p n titles answer vs) s
native_answers p n titles answer vs id r s found h e =
    subst (λ (o : Placed Plain). Evaluates o s) (sym (ap (λ i. by_title i p answer vs) found)) (evaluates p (native_outcome (answer id vs)) r s e h)

at_title : (n t : List ℕ) (ts : List (List ℕ)) (i : ℕ) → slice_get ts i ≡ Some t → drop i ts ≡ t ∷ drop (suc i) ts
at_title n t [] i h = absurd (none-some t h)
at_title n t (u ∷ ts) zero h = ap (λ x. x ∷ ts) (same_Some _ _ h)
at_title n t (u ∷ ts) (suc i) h = at_title n t ts i h

pub other_title : (n t : List ℕ) (ts : List (List ℕ)) (i : ℕ) → slice_get ts i ≡ Some t → bytes_eq t n ≡ false → id_from i n (drop i ts) ≡ id_from (i + 1) n (drop (i + 1) ts)
other_title n t ts i h other = ap (id_from i n) (at_title n t ts i h) ∙ rw other (ap (λ k. id_from (i + 1) n (drop k ts)) (sym (add-one i)))

pub this_title : (n t : List ℕ) (ts : List (List ℕ)) (i : ℕ) → slice_get ts i ≡ Some t → bytes_eq t n ≡ true → id_from i n (drop i ts) ≡ Some i
this_title n t ts i h same = ap (id_from i n) (at_title n t ts i h) ∙ rw same refl

pub no_title : (n : List ℕ) (ts : List (List ℕ)) (k : ℕ) → length ts ≤ k → id_from k n (drop k ts) ≡ None
no_title n ts k h = ap (id_from k n) (drop_of_length-le ts h)
