use Rattle.std.proofs.Common.{◌≡◌, ℕ, suc, ◌+◌, ◌<◌, min, ◌≢◌, List, [], ◌∷◌, length, drop, map, get_or, refl, ap, sym, ◌∙◌, arith, add-one, drop-cons}
use Rattle.std.specs.declared.cmp.Ordering.{Ordering}
use Rattle.std.specs.declared.cmp.Ordering.TheVariants.{Less, Equal, Greater}
use Rattle.std.specs.Ordering.{nat_cmp, ordering_then, MatchOrdering}
use Rattle.std.specs.Cmp.{one_rank}
use Rattle.std.specs.Cmp.Lexicographic.{slice_cmp}
use Rattle.std.proofs.lemmas.Cmp.{ranked}
use Rattle.std.proofs.lemmas.Bool.Decides.{nat_tests}
use Rattle.nf_value.specs.Plain.{plains_of, plain_pairs_of}
use Rattle.nf_value.specs.PairOrder.{pair_cmp}
use Rattle.nf_value.specs.View.{plain_of, pair_of}
use Rattle.nf_value.specs.Order.{value_cmp, items_cmp, pairs_cmp}
use Rattle.nf_value.specs.declared.value.Value.{Value}

abbrev pub rest : List Value → List Value → ℕ → Ordering
rest xs ys i = items_cmp (plains_of (map plain_of (drop i xs))) (plains_of (map plain_of (drop i ys)))

rest_at : (xs ys : List Value) (i : ℕ) (x y : Value) → i < length xs → i < length ys → rest xs ys i ≡ ordering_then (value_cmp (plain_of (get_or xs i x)) (plain_of (get_or ys i y))) (rest xs ys (i + 1))
rest_at xs ys i x y h k = rw (add-one, drop-cons xs i x, drop-cons ys i y) refl

then_assoc : (a b c : Ordering) → ordering_then (ordering_then a b) c ≡ ordering_then a (ordering_then b c)
then_assoc Less b c = refl
then_assoc Equal b c = refl
then_assoc Greater b c = refl

stop : (o p : Ordering) → o ≢ Equal → ordering_then o p ≡ o
stop Less p h = refl
stop Equal p h = absurd (h refl)
stop Greater p h = refl

pub ended : (xs ys : List Value) (i : ℕ) (x y : Value) (o : Ordering) → i < length xs → i < length ys → x ≡ get_or xs i x → y ≡ get_or ys i y → o ≡ value_cmp (plain_of x) (plain_of y) → o ≢ Equal → rest xs ys i ≡ o
ended xs ys i x y o h k p q is ne =
    rest_at xs ys i x y h k ∙ (λ j. ordering_then (value_cmp (plain_of (sym p j)) (plain_of (sym q j))) (rest xs ys (i + 1))) ∙ ap (λ w. ordering_then w (rest xs ys (i + 1))) (sym is) ∙ stop o _ ne

pub further : (xs ys : List Value) (i : ℕ) (x y : Value) (o : Ordering) → i < length xs → i < length ys → x ≡ get_or xs i x → y ≡ get_or ys i y → o ≡ value_cmp (plain_of x) (plain_of y) → o ≡ Equal → rest xs ys (i + 1) ≡ rest xs ys i
further xs ys i x y o h k p q is eq =
    sym (rest_at xs ys i x y h k ∙ (λ j. ordering_then (value_cmp (plain_of (sym p j)) (plain_of (sym q j))) (rest xs ys (i + 1))) ∙ ap (λ w. ordering_then w (rest xs ys (i + 1))) (sym is ∙ eq))

nat_cmp_suc : (a b : ℕ) → nat_cmp (suc a) (suc b) ≡ nat_cmp a b
nat_cmp_suc a b =
    one_rank (λ x y. x < y) (λ x h. absurd (omega arith)) (λ x y z h k. omega arith) a b (nat_cmp (suc a) (suc b)) (nat_cmp a b)
    (lower a b (nat_cmp (suc a) (suc b)) (ranked (suc a) (suc b) (nat_cmp (suc a) (suc b)) refl)) (ranked a b (nat_cmp a b) refl)
  where
    lower : (a b : ℕ) (o : Ordering) → MatchOrdering o (suc a < suc b) (suc a ≡ suc b) (suc b < suc a) → MatchOrdering o (a < b) (a ≡ b) (b < a)
    lower a b Less h = omega arith
    lower a b Equal h = omega arith
    lower a b Greater h = omega arith

pub ends : (xs ys : List Value) → rest xs ys (min (length xs) (length ys)) ≡ nat_cmp (length xs) (length ys)
ends [] [] = refl
ends [] (y ∷ ys) = let m : min 0 (length (y ∷ ys)) ≡ 0 = omega arith in rw m (grind (arith, nat_tests))
ends (x ∷ xs) [] = let m : min (length (x ∷ xs)) 0 ≡ 0 = omega arith in rw m (grind (arith, nat_tests))
ends (x ∷ xs) (y ∷ ys) =
    let m : min (length (x ∷ xs)) (length (y ∷ ys)) ≡ suc (min (length xs) (length ys)) = omega arith in
    ap (rest (x ∷ xs) (y ∷ ys)) m ∙ ends xs ys ∙ sym (nat_cmp_suc (length xs) (length ys))

abbrev pub rest_p : List (List ℕ × Value) → List (List ℕ × Value) → ℕ → Ordering
rest_p xs ys i = pairs_cmp (plain_pairs_of (map pair_of (drop i xs))) (plain_pairs_of (map pair_of (drop i ys)))

rest_at_p : (xs ys : List (List ℕ × Value)) (i : ℕ) (x y : List ℕ × Value) → i < length xs → i < length ys → rest_p xs ys i ≡ ordering_then (pair_cmp (get_or xs i x) (get_or ys i y)) (rest_p xs ys (i + 1))
rest_at_p xs ys i x y h k = rw (add-one, drop-cons xs i x, drop-cons ys i y) (sym (then_assoc (slice_cmp nat_cmp (get_or xs i x).0 (get_or ys i y).0) (value_cmp (plain_of (get_or xs i x).1) (plain_of (get_or ys i y).1)) (pairs_cmp (plain_pairs_of (map pair_of (drop (suc i) xs))) (plain_pairs_of (map pair_of (drop (suc i) ys))))))

pub ended_p : (xs ys : List (List ℕ × Value)) (i : ℕ) (x y : List ℕ × Value) (o : Ordering) → i < length xs → i < length ys → x ≡ get_or xs i x → y ≡ get_or ys i y → o ≡ pair_cmp x y → o ≢ Equal → rest_p xs ys i ≡ o
ended_p xs ys i x y o h k p q is ne =
    rest_at_p xs ys i x y h k ∙ (λ j. ordering_then (pair_cmp (sym p j) (sym q j)) (rest_p xs ys (i + 1))) ∙ ap (λ w. ordering_then w (rest_p xs ys (i + 1))) (sym is) ∙ stop o _ ne

pub further_p : (xs ys : List (List ℕ × Value)) (i : ℕ) (x y : List ℕ × Value) (o : Ordering) → i < length xs → i < length ys → x ≡ get_or xs i x → y ≡ get_or ys i y → o ≡ pair_cmp x y → o ≡ Equal → rest_p xs ys (i + 1) ≡ rest_p xs ys i
further_p xs ys i x y o h k p q is eq =
    sym (rest_at_p xs ys i x y h k ∙ (λ j. ordering_then (pair_cmp (sym p j) (sym q j)) (rest_p xs ys (i + 1))) ∙ ap (λ w. ordering_then w (rest_p xs ys (i + 1))) (sym is ∙ eq))

pub ends_p : (xs ys : List (List ℕ × Value)) → rest_p xs ys (min (length xs) (length ys)) ≡ nat_cmp (length xs) (length ys)
ends_p [] [] = refl
ends_p [] (y ∷ ys) = let m : min 0 (length (y ∷ ys)) ≡ 0 = omega arith in rw m (grind (arith, nat_tests))
ends_p (x ∷ xs) [] = let m : min (length (x ∷ xs)) 0 ≡ 0 = omega arith in rw m (grind (arith, nat_tests))
ends_p (x ∷ xs) (y ∷ ys) =
    let m : min (length (x ∷ xs)) (length (y ∷ ys)) ≡ suc (min (length xs) (length ys)) = omega arith in
    ap (rest_p (x ∷ xs) (y ∷ ys)) m ∙ ends_p xs ys ∙ sym (nat_cmp_suc (length xs) (length ys))
