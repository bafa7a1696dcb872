-- Names, from the latest on.
use Rattle.std.proofs.Common.{◌≡◌, ℕ, zero, suc, ◌<◌, ◌≤◌, true, false, List, [], ◌∷◌, ◌++◌, ◌-◌, length, take, drop, map, get_or, set, refl, sym, ◌∙◌, ap, subst, arith, append_assoc}
use Rattle.std.specs.Str.{bytes_eq}
use Rattle.std.proofs.lemmas.List.{map-append, reverse-append, take-append-drop, length-map, length-reverse, length-drop, drop_at}
use Rattle.std.proofs.Math.Seq.{take-suc, drop-cons}
use mathlib.Core.List.{reverse}
use Rattle.nf_value.specs.Plain.{Plain}
use Rattle.nf_value.specs.View.{plain_of, pair_of}
use Rattle.nf_value.specs.declared.value.Value.{Value}
use Rattle.nf_placed.specs.Scope.{value_in, rebound_in}
use Rattle.nf_eval.specs.Latest.{bindings, HasNone, IsLatest}

joined : (xs ys : List (List ℕ × Value)) → bindings (xs ++ ys) ≡ bindings ys ++ bindings xs
joined xs ys = ap reverse (map-append pair_of xs ys) ∙ reverse-append (map pair_of xs) (map pair_of ys)

latest : (xs : List (List ℕ × Value)) (i : ℕ) (x : List ℕ × Value) → i < length xs → x ≡ get_or xs i x → bindings (take (suc i) xs) ≡ pair_of x ∷ bindings (take i xs)
latest xs i x h is = ap bindings (take-suc xs i x h ∙ ap (λ y. take i xs ++ y ∷ []) (sym is)) ∙ joined (take i xs) (x ∷ [])

later : (xs : List (List ℕ × Value)) (i : ℕ) (x : List ℕ × Value) → i < length xs → x ≡ get_or xs i x → bindings (drop i xs) ≡ bindings (drop (suc i) xs) ++ pair_of x ∷ []
later xs i x h is = ap bindings (drop-cons xs i x h ∙ ap (λ y. y ∷ drop (suc i) xs) (sym is)) ∙ joined (x ∷ []) (drop (suc i) xs)

-- what is looked up in all is looked up among the first, as far as was looked
pub record IsSought (n : List ℕ) (xs : List (List ℕ × Value)) (end : ℕ) : Type 0 where
  pub within : end ≤ length xs
  pub value : (after : List (List ℕ × Plain)) → value_in n (bindings xs ++ after) ≡ value_in n (bindings (take end xs) ++ after)
  pub rebinds : (v : Plain) → rebound_in n v (bindings xs) ≡ bindings (drop end xs) ++ rebound_in n v (bindings (take end xs))

whole : (xs : List (List ℕ × Value)) → take (length xs) xs ≡ xs
whole [] = refl
whole (x ∷ xs) = ap (λ l. x ∷ l) (whole xs)

past : (xs : List (List ℕ × Value)) → drop (length xs) xs ≡ []
past [] = refl
past (x ∷ xs) = past xs

pub sought_all : (n : List ℕ) (xs : List (List ℕ × Value)) (end : ℕ) → end ≡ length xs → IsSought n xs end
sought_all n xs end e = subst (λ (k : ℕ). IsSought n xs k) (sym e) record {
  within = omega arith;
  value = λ after. ap (λ l. value_in n (bindings l ++ after)) (sym (whole xs));
  rebinds = λ v. ap (λ l. rebound_in n v (bindings l)) (sym (whole xs)) ∙ ap (λ l. bindings l ++ rebound_in n v (bindings (take (length xs) xs))) (sym (past xs));
}

pub sought_none : (n : List ℕ) (xs : List (List ℕ × Value)) → IsSought n xs 0 → HasNone n xs
sought_none n xs h = (h.value, λ v. h.rebinds v ∙ append_nil (bindings xs))
  where
    append_nil : (ys : List (List ℕ × Plain)) → ys ++ [] ≡ ys
    append_nil [] = refl
    append_nil (y ∷ ys) = ap (λ l. y ∷ l) (append_nil ys)

pub sought_more : (n : List ℕ) (xs : List (List ℕ × Value)) (i : ℕ) (x : List ℕ × Value) → i < length xs → x ≡ get_or xs i x → bytes_eq x.0 n ≡ false → IsSought n xs (suc i) → IsSought n xs i
sought_more n xs i x lt is other h = record {
  within = omega arith;
  value = λ after. h.value after ∙ ap (λ l. value_in n (l ++ after)) (latest xs i x lt is) ∙ rw other refl;
  rebinds = λ v. h.rebinds v ∙ ap (λ l. bindings (drop (suc i) xs) ++ rebound_in n v l) (latest xs i x lt is) ∙ rw other (sym (append_assoc (bindings (drop (suc i) xs)) (pair_of x ∷ []) (rebound_in n v (bindings (take i xs))))) ∙ ap (λ l. l ++ rebound_in n v (bindings (take i xs))) (sym (later xs i x lt is));
}

pub back_one : (n : List ℕ) (xs : List (List ℕ × Value)) (end : ℕ) → 0 < end → IsSought n xs end → IsSought n xs (suc (end - 1))
back_one n xs end h sought = let e : end ≡ suc (end - 1) = omega arith in subst (λ (k : ℕ). IsSought n xs k) e sought

pub at_start : (n : List ℕ) (xs : List (List ℕ × Value)) (end : ℕ) → end ≤ 0 → IsSought n xs end → HasNone n xs
at_start n xs end h sought = let e : end ≡ 0 = omega arith in sought_none n xs (subst (λ (k : ℕ). IsSought n xs k) e sought)

set_there : (xs : List (List ℕ × Value)) (i : ℕ) (y : List ℕ × Value) → i < length xs → set xs i y ≡ take i xs ++ y ∷ drop (suc i) xs
set_there [] i y h = absurd (omega arith)
set_there (x ∷ xs) zero y h = refl
set_there (x ∷ xs) (suc i) y h = ap (λ l. x ∷ l) (set_there xs i y (omega arith))

other_default : (xs : List (List ℕ × Value)) (i : ℕ) (d e : List ℕ × Value) → i < length xs → get_or xs i d ≡ get_or xs i e
other_default [] i d e h = absurd (omega arith)
other_default (x ∷ xs) zero d e h = refl
other_default (x ∷ xs) (suc i) d e h = other_default xs i d e (omega arith)

pub sought_here : (n : List ℕ) (xs : List (List ℕ × Value)) (i : ℕ) (x : List ℕ × Value) → i < length xs → x ≡ get_or xs i x → bytes_eq x.0 n ≡ true → x.0 ≡ n → IsSought n xs (suc i) → IsLatest n xs i
sought_here n xs i x lt is same e h =
    let here : (d : List ℕ × Value) → get_or xs i d ≡ x = λ d. other_default xs i d x lt ∙ sym is in (
      lt,
      (
        λ after d. h.value after ∙ ap (λ l. value_in n (l ++ after)) (latest xs i x lt is) ∙ rw same (ap (λ (y : List ℕ × Value). plain_of y.1) (sym (here d))),
        λ d w. h.rebinds (plain_of w) ∙ ap (λ l. bindings (drop (suc i) xs) ++ rebound_in n (plain_of w) l) (latest xs i x lt is) ∙ rw same (of w)
            ∙ ap (λ (y : List ℕ × Value). bindings (set xs i (y.0, w))) (sym (here d)),
      ),
    )
  where
    of : (w : Value) → bindings (drop (suc i) xs) ++ (n, plain_of w) ∷ bindings (take i xs) ≡ bindings (set xs i (x.0, w))
    of w = ap (λ k. bindings (drop (suc i) xs) ++ (k, plain_of w) ∷ bindings (take i xs)) (sym e)
        ∙ sym (ap bindings (set_there xs i (x.0, w) lt) ∙ joined (take i xs) ((x.0, w) ∷ drop (suc i) xs) ∙ ap (λ l. l ++ bindings (take i xs)) (joined ((x.0, w) ∷ []) (drop (suc i) xs)) ∙ append_assoc (bindings (drop (suc i) xs)) ((x.0, plain_of w) ∷ []) (bindings (take i xs)))

-- ---- names that come and go

pub one_defined : (old new : List (List ℕ × Value)) (k : List ℕ) (w : Value) → new ≡ old ++ (k, w) ∷ [] → bindings new ≡ (k, plain_of w) ∷ bindings old
one_defined old new k w e = ap bindings e ∙ joined old ((k, w) ∷ [])

pub length-bindings : (xs : List (List ℕ × Value)) → length (bindings xs) ≡ length xs
length-bindings xs = length-reverse (map pair_of xs) ∙ length-map xs pair_of

pub left : (xs new : List (List ℕ × Value)) (n : ℕ) → new ≡ take n xs → bindings new ≡ drop (length (bindings xs) - n) (bindings xs)
left xs new n e =
    let rest : length (bindings (drop n xs)) ≡ length (bindings xs) - n = omega (arith, length-bindings (drop n xs), length-drop n xs, length-bindings xs) in
    ap bindings e ∙ sym (ap (drop (length (bindings xs) - n)) (ap bindings (sym (take-append-drop n xs)) ∙ joined (take n xs) (drop n xs)) ∙ drop_at (bindings (drop n xs)) (bindings (take n xs)) (length (bindings xs) - n) rest)
