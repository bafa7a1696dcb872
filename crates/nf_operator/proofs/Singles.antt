-- Answers that emit to the first outputs alone, or at most one value.
use Rattle.std.proofs.Common.{◌≡◌, ℕ, ◌≤◌, List, [], ◌∷◌, ◌++◌, map, filter, length, Bool, true, false, cond, refl, sym, subst, arith, ◌⊎◌, inl, inr}
use Rattle.std.specs.Prelude.{Option, Some, None, Ok, Err, ℤ}
use Rattle.std.specs.List.{list_all, list_any}
use Rattle.nf_value.specs.Plain.{Plain, truth, int}
use Rattle.nf_value.specs.Truth.{truth_of}
use Rattle.nf_bag.specs.declared.options.Total.{Total}
use Rattle.nf_bag.specs.declared.options.Total.TheVariants as t
use Rattle.nf_opstream.specs.Fault.{Fault, not_a_number, overflow}
use Rattle.nf_opstream.specs.Operator.{oks}
use Rattle.nf_opstream.specs.Alone.{is_too_deep, judged}
use Rattle.nf_opjoin.specs.Pairing.{Due}
use Rattle.nf_opclose.specs.Closing.{single}
use Rattle.nf_opclose.specs.Gathered.{if_any, if_some, least_of, greatest_of}
use Rattle.nf_opclose.specs.Numbers.{fits, total_of, total_due, of_numbers}
use Rattle.nf_opclose.specs.Reduce.{takes_numbers, made_of, stray_of, strayed, with_start, values_due, reduced}
use Rattle.nf_operator.specs.Outputs.{GoBelow}

judged_by_deep : (es : List (ℕ × Plain)) (ds : List Plain) → filter is_too_deep (map (λ e. e.1) es) ≡ ds → (oks (judged es) ≡ es) ⊎ (oks (judged es) ≡ [])
judged_by_deep es [] h = inl (rw h refl)
judged_by_deep es (d ∷ ds) h = inr (rw h refl)

-- all of these, or none
pub judged_is : (es : List (ℕ × Plain)) → (oks (judged es) ≡ es) ⊎ (oks (judged es) ≡ [])
judged_is es = judged_by_deep es (filter is_too_deep (map (λ e. e.1) es)) refl

pub judged_below : (n : ℕ) (es : List (ℕ × Plain)) → GoBelow n es → GoBelow n (oks (judged es))
judged_below n es h = elim (judged_is es) [ inl e ↦ subst (GoBelow n) (sym e) h | inr e ↦ subst (GoBelow n) (sym e) tt ]

pub cond_below : (n : ℕ) (b : Bool) (r s : Due) → GoBelow n (oks r) → GoBelow n (oks s) → GoBelow n (oks (cond b r s))
cond_below n true r s h k = h
cond_below n false r s h k = k

pub append_below : (n : ℕ) (es fs : List (ℕ × Plain)) → GoBelow n es → GoBelow n fs → GoBelow n (es ++ fs)
append_below n [] fs h k = k
append_below n (e ∷ es) fs h k = (h.0, append_below n es fs h.1 k)

-- at most one value, to the first output
pub record IsFew (r : Due) : Type 0 where
  pub below : GoBelow 1 (oks r)
  pub few : length (oks r) ≤ 1

pub none_few : IsFew (Ok [])
none_few = record { below = tt; few = omega arith }

pub fault_few : (f : Fault) → IsFew (Err f)
fault_few f = record { below = tt; few = omega arith }

pub single_few : (v : Plain) → IsFew (single v)
single_few v = record {
  below = judged_below 1 ((0, v) ∷ []) (omega arith, tt);
  few = elim (judged_is ((0, v) ∷ [])) [ inl e ↦ subst (λ z. length z ≤ 1) (sym e) (omega arith) | inr e ↦ subst (λ z. length z ≤ 1) (sym e) (omega arith) ];
}

pub cond_few : (b : Bool) (r s : Due) → IsFew r → IsFew s → IsFew (cond b r s)
cond_few true r s h k = h
cond_few false r s h k = k

pub any_few : {A : Type 0} (xs : List A) (r : Due) → IsFew r → IsFew (if_any xs r)
any_few [] r h = none_few
any_few (x ∷ xs) r h = h

pub some_few : (v : Option Plain) → IsFew (if_some v)
some_few None = none_few
some_few (Some v) = single_few v

pub total_few : (i : ℤ) → IsFew (total_due i)
total_few i = cond_few (fits i) (single (int i)) (Err (overflow i)) (single_few (int i)) (fault_few (overflow i))

pub numbers_few : (vs : List Plain) (r : Due) → IsFew r → IsFew (of_numbers vs r)
numbers_few vs r h = cond_few _ r (Ok []) h none_few

made_few : (kind : Total) (vs : List Plain) → IsFew (made_of kind vs)
made_few t.Sum vs = any_few vs (total_due (total_of vs)) (total_few (total_of vs))
made_few t.Least vs = some_few (least_of vs)
made_few t.Greatest vs = some_few (greatest_of vs)
made_few t.All vs = any_few vs (single (truth (list_all truth_of vs))) (single_few (truth (list_all truth_of vs)))
made_few t.Any vs = any_few vs (single (truth (list_any truth_of vs))) (single_few (truth (list_any truth_of vs)))

strayed_few : (v : Option Plain) (r : Due) → IsFew r → IsFew (strayed v r)
strayed_few None r h = h
strayed_few (Some v) r h = fault_few (not_a_number v)

pub reduced_few : (kind : Total) (start : Option Plain) (vs : List Plain) → IsFew (reduced kind start vs)
reduced_few kind start vs =
    let ws = with_start start vs in
    strayed_few (stray_of kind start) (values_due kind ws) (cond_few (takes_numbers kind) (of_numbers ws (made_of kind ws)) (made_of kind ws) (numbers_few ws (made_of kind ws) (made_few kind ws)) (made_few kind ws))
