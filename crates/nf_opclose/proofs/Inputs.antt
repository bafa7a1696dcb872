-- Functions of an input that depend on its bag alone.
use Rattle.std.proofs.Common.{◌≡◌, ℕ, List, [], ◌∷◌, length, refl, ap, sym, ◌∙◌, arith}
use Rattle.std.specs.Prelude.{sum_by, Result}
use Rattle.std.specs.List.{flat_map}
use Rattle.std.specs.Ordering.{eq_by_cmp}
use Rattle.std.proofs.lemmas.List.Sums.{sum_by-cons}
use Rattle.nf_value.specs.Plain.{Plain, list, plains_of}
use Rattle.nf_value.specs.Order.{value_cmp}
use Rattle.nf_bag.specs.Bag.{count, IsSameBag}
use Rattle.nf_bag.specs.Sorted.{sorted_of}
use Rattle.nf_opstream.specs.Push.{Push, IsSameInput}
use Rattle.nf_opstream.specs.Fault.{Fault}
use Rattle.nf_opstream.specs.Rows.{items_in}
use Rattle.nf_opclose.specs.Closing.{single}
use Rattle.nf_opclose.specs.Gathered.{sorted_list, if_any}
use Rattle.nf_opclose.specs.Rows.{if_none}
use Rattle.nf_opclose.proofs.Bags.{count_by-append}

-- what the laws of the operators say of sums over an input
abbrev pub Sums : Type 0
Sums = (f : Push → ℕ) → (p : List Push) → (q : List Push) → IsSameInput p q → sum_by f p ≡ sum_by f q

length_is : (p : List Push) → sum_by (λ _. 1) p ≡ length p
length_is [] = refl
length_is (x ∷ p) = omega (arith, sum_by-cons (λ _. 1) x p, length_is p)

pub length_alike : Sums → (p q : List Push) → IsSameInput p q → length p ≡ length q
length_alike sums p q s = sym (length_is p) ∙ sums (λ _. 1) p q s ∙ length_is q

count-flat_map : (h : Push → List Plain) (v : Plain) (p : List Push) → count v (flat_map h p) ≡ sum_by (λ x. count v (h x)) p
count-flat_map h v [] = refl
count-flat_map h v (x ∷ p) = omega (arith, count_by-append (λ y. eq_by_cmp value_cmp y v) (h x) (flat_map h p), count-flat_map h v p, sum_by-cons (λ y. count v (h y)) x p)

-- the values of all pushes
pub values_alike : Sums → (h : Push → List Plain) (p q : List Push) → IsSameInput p q → IsSameBag (flat_map h p) (flat_map h q)
values_alike sums h p q s = record { at = λ v. count-flat_map h v p ∙ sums (λ x. count v (h x)) p q s ∙ sym (count-flat_map h v q) }

items_are : (p : List Push) → flat_map (λ x. x.item ∷ []) p ≡ items_in p
items_are [] = refl
items_are (x ∷ p) = ap (λ vs. x.item ∷ vs) (items_are p)

pub items_alike : Sums → (p q : List Push) → IsSameInput p q → IsSameBag (items_in p) (items_in q)
items_alike sums p q s = let k = values_alike sums (λ x. x.item ∷ []) p q s in record { at = λ v. sym (ap (count v) (items_are p)) ∙ k.at v ∙ ap (count v) (items_are q) }

pub if_none_alike : (v : Plain) (p q : List Push) → length p ≡ length q → if_none v p ≡ if_none v q
if_none_alike v [] [] e = refl
if_none_alike v [] (y ∷ q) e = absurd (omega arith)
if_none_alike v (x ∷ p) [] e = absurd (omega arith)
if_none_alike v (x ∷ p) (y ∷ q) e = refl

-- what the laws of bags say of sorting
abbrev pub Sorts : Type 0
Sorts = (a : List Plain) → (b : List Plain) → IsSameBag a b → sorted_of a ≡ sorted_of b

pub sorted_alike : Sorts → {a b : List Plain} → IsSameBag a b → sorted_list a ≡ sorted_list b
sorted_alike sorts {a} {b} s = ap (λ vs. single (list (plains_of vs))) (sorts a b s)

pub if_any_alike : {A : Type 0} {r s : Result (List (ℕ × Plain)) Fault} (p q : List A) → length p ≡ length q → r ≡ s → if_any p r ≡ if_any q s
if_any_alike [] [] e same = refl
if_any_alike [] (y ∷ q) e same = absurd (omega arith)
if_any_alike (x ∷ p) [] e same = absurd (omega arith)
if_any_alike (x ∷ p) (y ∷ q) e same = same
