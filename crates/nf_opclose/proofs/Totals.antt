-- Totals and tests of all values of a bag.
use Rattle.std.proofs.Common.{◌≡◌, ℕ, suc, ◌≤◌, List, [], ◌∷◌, Bool, true, false, cond, refl, ap, sym, ◌∙◌, arith, inl, inr}
use Rattle.std.specs.Prelude.{sum_by, ℤ, pos, negsuc, ◌-ℤ◌, ◌&&◌, Result, Ok, Err, is_ok}
use Rattle.std.specs.List.{list_all}
use Rattle.std.proofs.lemmas.Bool.{cases_Bool, true≢false}
use Rattle.std.proofs.lemmas.Int.{ints}
use Rattle.std.proofs.lemmas.List.Sums.{sum_by-cons}
use Rattle.nf_value.specs.Plain.{Plain}
use Rattle.nf_value.specs.View.{plain_of}
use Rattle.nf_value.specs.declared.value.Value.{Value}
use Rattle.nf_value.specs.declared.value.Value.TheVariants as v
use Rattle.nf_bag.specs.Bag.{IsSameBag}
use Rattle.nf_opstream.specs.Push.{Push}
use Rattle.nf_opstream.specs.Fault.{Fault, not_a_number}
use Rattle.nf_opstream.specs.Operator.{Operator, AreFine}
use Rattle.nf_opstream.specs.Rows.{items_in}
use Rattle.nf_opclose.specs.Numbers.{numeric, is_number, number_of, total_of, total_due, of_numbers}

-- what the laws of bags say of sums
abbrev pub BagSums : Type 0
BagSums = (f : Plain → ℕ) → (a : List Plain) → (b : List Plain) → IsSameBag a b → sum_by f a ≡ sum_by f b

-- how many fail a test
abbrev fails : (Plain → Bool) → Plain → ℕ
fails test v = cond (test v) 0 1

all_pass : (test : Plain → Bool) (vs : List Plain) → list_all test vs ≡ true → sum_by (fails test) vs ≡ 0
all_pass test [] h = refl
all_pass test (v ∷ vs) h = elim (cases_Bool (test v)) [
  | inl e ↦ (let k : list_all test vs ≡ true = rw e at h in omega (arith, sum_by-cons (fails test) v vs, ap {B = ℕ} (λ b. cond b 0 1) e, all_pass test vs k))
  | inr e ↦ (let k : false ≡ true = rw e at h in cc)
]

one_fails : (test : Plain → Bool) (vs : List Plain) → list_all test vs ≡ false → 1 ≤ sum_by (fails test) vs
one_fails test [] h = cc
one_fails test (v ∷ vs) h = elim (cases_Bool (test v)) [
  | inl e ↦ (let k : list_all test vs ≡ false = rw e at h in omega (arith, sum_by-cons (fails test) v vs, one_fails test vs k))
  | inr e ↦ omega (arith, sum_by-cons (fails test) v vs, ap {B = ℕ} (λ b. cond b 0 1) e)
]

-- whether all pass depends on the bag alone
pub list_all_alike : BagSums → (test : Plain → Bool) (a b : List Plain) → IsSameBag a b → list_all test a ≡ list_all test b
list_all_alike sums test a b s = elim (cases_Bool (list_all test a)) [
  | inl e ↦ elim (cases_Bool (list_all test b)) [
    | inl k ↦ e ∙ sym k
    | inr k ↦ absurd (omega (arith, sums (fails test) a b s, all_pass test a e, one_fails test b k))
  ]
  | inr e ↦ elim (cases_Bool (list_all test b)) [
    | inl k ↦ absurd (omega (arith, sums (fails test) a b s, one_fails test a e, all_pass test b k))
    | inr k ↦ e ∙ sym k
  ]
]

-- what a number adds, and what it takes away
abbrev gain_of : ℤ → ℕ
gain_of (pos n) = n
gain_of (negsuc n) = 0

abbrev loss_of : ℤ → ℕ
loss_of (pos n) = 0
loss_of (negsuc n) = suc n

parted : (i : ℤ) → i ≡ pos (gain_of i) -ℤ pos (loss_of i)
parted (pos n) = omega (arith, ints)
parted (negsuc n) = omega (arith, ints)

abbrev gain : Plain → ℕ
gain v = gain_of (number_of v)

abbrev loss : Plain → ℕ
loss v = loss_of (number_of v)

total_parted : (vs : List Plain) → total_of vs ≡ pos (sum_by gain vs) -ℤ pos (sum_by loss vs)
total_parted [] = refl
total_parted (v ∷ vs) = omega (arith, ints, total_parted vs, parted (number_of v), sum_by-cons gain v vs, sum_by-cons loss v vs)

-- the total depends on the bag alone
pub total_alike : BagSums → (a b : List Plain) → IsSameBag a b → total_of a ≡ total_of b
total_alike sums a b s = total_parted a ∙ (λ i. pos (sums gain a b s i) -ℤ pos (sums loss a b s i)) ∙ sym (total_parted b)

pub sum_alike : BagSums → (a b : List Plain) → IsSameBag a b → of_numbers a (total_due (total_of a)) ≡ of_numbers b (total_due (total_of b))
sum_alike sums a b s = (λ i. cond (list_all_alike sums is_number a b s i) (total_due (total_alike sums a b s i)) (Ok []))

-- the test of a value of the code
abbrev judge : Plain → Result (List (ℕ × Plain)) Fault
judge z = cond (is_number z) (Ok []) (Err (not_a_number z))

pub number_given : (x : Push) (w : Value) (n : ℤ) → x.item ≡ plain_of w → w ≡ v.Int n → numeric x ≡ Ok []
number_given x w n is e = ap judge (is ∙ ap plain_of e)

pub no_number : (w : Value) → ((n : ℤ) → w ≡ v.Int n → ⊥) → is_number (plain_of w) ≡ false
no_number v.Null h = refl
no_number (v.Truth b) h = refl
no_number (v.Int i) h = absurd (h i refl)
no_number (v.Text t) h = refl
no_number (v.File f) h = refl
no_number (v.List vs) h = refl
no_number (v.Map ps) h = refl

pub stray_given : (x : Push) → is_number x.item ≡ false → numeric x ≡ Err (not_a_number x.item)
stray_given x h = rw h refl

-- if no push had a fault, all items are numbers
pub all_numbers : (op : Operator) → ((p : List Push) (x : Push) → op.gives p x ≡ numeric x) → (p : List Push) → AreFine op p → list_all is_number (items_in p) ≡ true
all_numbers op judges [] h = refl
all_numbers op judges (x ∷ p) h = both (is_number x.item) (ap is_ok (sym (judges p x)) ∙ h.0) (all_numbers op judges p h.1)
  where
    both : (b : Bool) → is_ok {T = List (ℕ × Plain)} {E = Fault} (cond b (Ok []) (Err (not_a_number x.item))) ≡ true → list_all is_number (items_in p) ≡ true → (b && list_all is_number (items_in p)) ≡ true
    both true h k = k
    both false h k = absurd (true≢false (sym h))

pub of_all_numbers : (vs : List Plain) (due : Result (List (ℕ × Plain)) Fault) → list_all is_number vs ≡ true → due ≡ of_numbers vs due
of_all_numbers vs due h = ap (λ b. cond b due (Ok [])) (sym h)
