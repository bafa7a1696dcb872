-- What `reduce` makes of a bag, and of an initial value that it refuses.
use Rattle.std.proofs.Common.{◌≡◌, ℕ, suc, ◌^◌, ◌<◌, ◌≤◌, List, [], ◌∷◌, length, Bool, true, false, cond, not, refl, ap, sym, ◌∙◌, subst, arith, length-append, inl, inr}
use Rattle.std.specs.Prelude.{◌&&◌, Option, Some, None, Result, Ok, Err, is_ok}
use Rattle.std.specs.List.{list_all, list_any}
use Rattle.std.specs.Option.{option_map, option_to_list}
use Rattle.std.proofs.lemmas.Bool.{cases_Bool, true≢false}
use Rattle.std.proofs.lemmas.List.Folds.{list_all-append}
use Rattle.nf_value.specs.Plain.{Plain, truth}
use Rattle.nf_value.specs.Truth.{truth_of}
use Rattle.nf_value.specs.View.{plain_of}
use Rattle.nf_value.specs.declared.value.Value.{Value}
use Rattle.nf_bag.specs.Bag.{IsSameBag}
use Rattle.nf_bag.specs.declared.options.Total.{Total}
use Rattle.nf_bag.specs.declared.options.Total.TheVariants as t
use Rattle.nf_opstream.specs.Push.{Push}
use Rattle.nf_opstream.specs.Fault.{Fault, not_a_number}
use Rattle.nf_opstream.specs.Operator.{AreFine}
use Rattle.nf_opstream.specs.Rows.{items_in}
use Rattle.nf_opclose.specs.Closing.{single}
use Rattle.nf_opclose.specs.Gathered.{if_some, first_of, last_of}
use Rattle.nf_opclose.specs.Numbers.{is_number, total_due, of_numbers}
use Rattle.nf_opclose.specs.Reduce.{takes_numbers, refuses, taken, made_of, stray_of, strayed, with_start, values_due, reduced}
use Rattle.nf_opclose.specs.Rows.{reduce_row}
use Rattle.nf_opclose.specs.Kept.{IsReduceAfter}
use Rattle.nf_opclose.specs.Running.{kind_of, IsRunning, HasRoom}
use Rattle.nf_opclose.specs.declared.reduce.ReduceState.{ReduceState}
use Rattle.nf_opclose.specs.declared.running.Running.{Running}
use Rattle.nf_opclose.specs.declared.running.Running.TheVariants as r
use Rattle.nf_opclose.proofs.Bags.{same_both}
use Rattle.nf_opclose.proofs.Inputs.{Sorts, if_any_alike}
use Rattle.nf_opclose.proofs.Totals.{BagSums, list_all_alike, total_alike}

-- what the laws of bags say of lengths
abbrev pub Lengths : Type 0
Lengths = (a : List Plain) → (b : List Plain) → IsSameBag a b → length a ≡ length b

any_is : (test : Plain → Bool) (vs : List Plain) → list_any test vs ≡ not (list_all (λ v. not (test v)) vs)
any_is test [] = refl
any_is test (v ∷ vs) = elim (cases_Bool (test v)) [ inl e ↦ rw e refl | inr e ↦ rw e (any_is test vs) ]

list_any_alike : BagSums → (test : Plain → Bool) (a b : List Plain) → IsSameBag a b → list_any test a ≡ list_any test b
list_any_alike sums test a b s = any_is test a ∙ ap not (list_all_alike sums (λ v. not (test v)) a b s) ∙ sym (any_is test b)

module _ (sorts : Sorts) (sums : BagSums) (lengths : Lengths) where
  made_alike : (kind : Total) (a b : List Plain) → IsSameBag a b → made_of kind a ≡ made_of kind b
  made_alike t.Sum a b s = if_any_alike a b (lengths a b s) (ap total_due (total_alike sums a b s))
  made_alike t.Least a b s = ap (λ vs. if_some (first_of vs)) (sorts a b s)
  made_alike t.Greatest a b s = ap (λ vs. if_some (last_of vs)) (sorts a b s)
  made_alike t.All a b s = if_any_alike a b (lengths a b s) (ap (λ h. single (truth h)) (list_all_alike sums truth_of a b s))
  made_alike t.Any a b s = if_any_alike a b (lengths a b s) (ap (λ h. single (truth h)) (list_any_alike sums truth_of a b s))

  due_of_bag : (kind : Total) (a b : List Plain) → IsSameBag a b → values_due kind a ≡ values_due kind b
  due_of_bag kind a b s =
      let made = made_alike kind a b s in
      let numbers = list_all_alike sums is_number a b s in
      (λ i. cond (takes_numbers kind) (cond (numbers i) (made i) (Ok [])) (made i))

  pub reduced_alike : (kind : Total) (start : Option Plain) (a b : List Plain) → IsSameBag a b → reduced kind start a ≡ reduced kind start b
  reduced_alike kind start a b s = ap (strayed (stray_of kind start)) (due_of_bag kind (with_start start a) (with_start start b) (same_both a b (option_to_list start) (option_to_list start) s refl))

-- the values before the first item
pub start_listed : (start : Option Value) (v copy : Value) → start ≡ Some v → copy ≡ v → plain_of copy ∷ [] ≡ option_to_list (option_map plain_of start)
start_listed start v copy is same = ap (λ w. plain_of w ∷ []) same ∙ sym (ap (λ o. option_to_list (option_map plain_of o)) is)

pub refused_given : (kind : Total) (x : Push) → refuses kind x.item ≡ true → taken kind x ≡ Err (not_a_number x.item)
refused_given kind x h = ap {B = Result (List (ℕ × Plain)) Fault} (λ b. cond b (Err (not_a_number x.item)) (Ok [])) h

pub taken_given : (kind : Total) (x : Push) → refuses kind x.item ≡ false → taken kind x ≡ Ok []
taken_given kind x h = ap {B = Result (List (ℕ × Plain)) Fault} (λ b. cond b (Err (not_a_number x.item)) (Ok [])) h

pub reduce_more : (kind : Total) (start : Option Plain) (p : List Push) (s t : ReduceState) → IsReduceAfter kind start p s → (x : Push) → refuses kind x.item ≡ false → (r : Running) → r ≡ s.running → t.stray ≡ s.stray → kind_of t.running ≡ kind_of r
    → ((vs : List Plain) → IsRunning vs r → IsRunning (x.item ∷ vs) t.running) → IsReduceAfter kind start (x ∷ p) t
reduce_more kind start p s t after x fits r was kept made runs = record {
  fine = (ap is_ok (taken_given kind x fits), after.fine);
  made = made ∙ ap kind_of was ∙ after.made;
  stray = ap (option_map plain_of) kept ∙ after.stray;
  running = runs (with_start start (items_in p)) (subst (IsRunning (with_start start (items_in p))) (sym was) after.running);
}

not_refused : (b : Bool) (v : Plain) → is_ok {T = List (ℕ × Plain)} {E = Fault} (cond b (Err (not_a_number v)) (Ok [])) ≡ true → b ≡ false
not_refused true v h = absurd (true≢false (sym h))
not_refused false v h = refl

number_if : (k n : Bool) → k ≡ true → (k && not n) ≡ false → n ≡ true
number_if true true h e = refl
number_if true false h e = absurd (true≢false e)
number_if false n h e = absurd (true≢false (sym h))

-- if the closure takes only numbers and no push had a fault, all items are numbers
items_taken : (kind : Total) (start : Option Plain) (p : List Push) → takes_numbers kind ≡ true → AreFine (reduce_row kind start) p → list_all is_number (items_in p) ≡ true
items_taken kind start [] takes h = refl
items_taken kind start (x ∷ p) takes h =
    let n : is_number x.item ≡ true = number_if (takes_numbers kind) (is_number x.item) takes (not_refused (refuses kind x.item) x.item h.0) in
    (λ i. n i && items_taken kind start p takes h.1 i)

start_taken : (kind : Total) (start : Option Plain) → takes_numbers kind ≡ true → stray_of kind start ≡ None → list_all is_number (option_to_list start) ≡ true
start_taken kind None takes h = refl
start_taken kind (Some v) takes h = let n : is_number v ≡ true = number_if (takes_numbers kind) (is_number v) takes (kept (refuses kind v) h) in (λ i. n i && true)
  where
    kept : (b : Bool) → ◌≡◌ {A = Option Plain} (cond b (Some v) None) None → b ≡ false
    kept true e = cc
    kept false e = refl

-- the close gives what the closure makes of all values
pub made_due : (kind : Total) (start : Option Plain) (p : List Push) → AreFine (reduce_row kind start) p → stray_of kind start ≡ None → made_of kind (with_start start (items_in p)) ≡ reduced kind start (items_in p)
made_due kind start p fine none =
    let vs = with_start start (items_in p) in
    elim (cases_Bool (takes_numbers kind)) [
      | inl takes ↦ (let all : list_all is_number vs ≡ true = list_all-append is_number (items_in p) (option_to_list start) ∙ (λ i. items_taken kind start p takes fine i && start_taken kind start takes none i) in
          sym ((λ i. strayed (none i) (cond (takes i) (cond (all i) (made_of kind vs) (Ok [])) (made_of kind vs)))))
      | inr other ↦ sym (λ i. strayed (none i) (cond (other i) (of_numbers vs (made_of kind vs)) (made_of kind vs)))
    ]

pub stray_due : (kind : Total) (start : Option Plain) (vs : List Plain) (v : Plain) → stray_of kind start ≡ Some v → reduced kind start vs ≡ Err (not_a_number v)
stray_due kind start vs v h = ap (λ o. strayed o (values_due kind (with_start start vs))) h

pub stray_is : (kind : Total) (start : Option Plain) (p : List Push) (s : ReduceState) → IsReduceAfter kind start p s → (o : Option Value) → o ≡ s.stray → stray_of kind start ≡ option_map plain_of o
stray_is kind start p s after o was = sym after.stray ∙ ap (option_map plain_of) (sym was)

room_left : (vs : List Plain) (r : Running) → IsRunning vs r → length vs ≤ 2 ^ 32 → HasRoom r
room_left vs (r.Sum n) h few = omega (arith, h.0)
room_left vs (r.Least v) h few = tt
room_left vs (r.Greatest v) h few = tt
room_left vs (r.All b) h few = tt
room_left vs (r.Any b) h few = tt

items-length : (p : List Push) → length (items_in p) ≡ length p
items-length [] = refl
items-length (x ∷ p) = ap suc (items-length p)

at_most_one : (start : Option Plain) → length (option_to_list start) ≤ 1
at_most_one None = omega arith
at_most_one (Some v) = omega arith

pub has_room : (kind : Total) (start : Option Plain) (p : List Push) (s : ReduceState) → IsReduceAfter kind start p s → length p < 2 ^ 32 → HasRoom s.running
has_room kind start p s after few = room_left (with_start start (items_in p)) s.running after.running (omega (arith, length-append (items_in p) (option_to_list start), items-length p, at_most_one start))
