-- Operators that emit at most one value to an output.
use Rattle.std.proofs.Common.{◌≡◌, ℕ, zero, suc, ◌+◌, ◌<◌, ◌≤◌, List, [], ◌∷◌, ◌++◌, filter, length, take, Bool, true, false, cond, refl, ap, sym, ◌∙◌, subst, arith, ◌⊎◌, inl, inr, length-append}
use Rattle.std.specs.Prelude.{◌==◌, ◌&&◌, nat_lt, not, count_by, Option, Some, None, Ok, pos, negsuc}
use Rattle.std.specs.List.{AllByRecursion, flat_map, enumerate_from}
use Rattle.std.specs.Option.{option_to_list}
use Rattle.std.proofs.lemmas.Bool.{cases_Bool}
use Rattle.std.proofs.lemmas.Bool.Decides.{nat_tests}
use Rattle.std.proofs.lemmas.List.{length-map}
use Rattle.std.proofs.lemmas.List.Sums.{sum_by-cons, length-filter, count_by-le-length}
use Rattle.nf_value.specs.Plain.{Plain, null, truth, int, text, file, list, table, plains_of}
use Rattle.nf_bag.specs.Sorted.{sorted_of, distinct_of}
use Rattle.nf_opstream.specs.Push.{Push}
use Rattle.nf_opstream.specs.Operator.{to_out, oks}
use Rattle.nf_opstream.specs.Alone.{is_too_deep, judged, each, alone}
use Rattle.nf_opstream.specs.Nested.{items_of}
use Rattle.nf_opstream.specs.Rows.{branched, labelled, multi_map_row, items_in, unique_row}
use Rattle.nf_opclose.specs.Closing.{closing, single}
use Rattle.nf_opclose.specs.Rows.{if_empty_row}
use Rattle.nf_opjoin.specs.Pairing.{Due, shown}
use Rattle.nf_opjoin.specs.Tuples.{parts_of, key_at, key_or_null, rest_at, same_key, is_left, faces, meets}
use Rattle.nf_opjoin.specs.Combined.{tuple, combine, combine_row}
use Rattle.nf_opjoin.specs.Grouped.{keys_in, rests_with, group_of, groups, group_row}
use Rattle.nf_operator.specs.Outputs.{IsOneEach, IsClosing, KeepsOne}
use Rattle.nf_operator.proofs.Singles.{judged_is, single_few}

-- an output gets no more than there is
out_length : (out : ℕ) (es : List (ℕ × Plain)) → length (to_out out es) ≤ length es
out_length out [] = omega arith
out_length out (e ∷ es) = omega (arith, out_length out es, length-append (cond (e.0 == out) (e.1 ∷ []) []) (to_out out es), one (e.0 == out) e.1)
  where
    one : (b : Bool) (v : Plain) → length (cond b (v ∷ []) []) ≤ 1
    one true v = omega arith
    one false v = omega arith

judged_length : (es : List (ℕ × Plain)) → length (oks (judged es)) ≤ length es
judged_length es = elim (judged_is es) [ inl e ↦ subst (λ z. length z ≤ length es) (sym e) (omega arith) | inr e ↦ subst (λ z. length z ≤ length es) (sym e) (omega arith) ]

-- an operator that emits nothing before the close, and then at most one value
silent_each : (f : Push → Due) (out : ℕ) → ((x : Push) → oks (f x) ≡ []) → (q : List Push) → flat_map (λ x. to_out out (oks (f x))) q ≡ []
silent_each f out h [] = refl
silent_each f out h (x ∷ q) = rw (h x) (silent_each f out h q)

pub closing_closes : (f : Push → Due) (g : List Push → Due) → ((x : Push) → oks (f x) ≡ []) → ((q : List Push) → length (oks (g q)) ≤ 1) → IsClosing (closing f g)
closing_closes f g h k = record { at = λ q out. rw (silent_each f out h q) (omega (arith, k q, out_length out (oks (g q)))) }

-- one input with at most one item
ports_count : (q : List Push) → AllByRecursion (λ x. x.port < 1) q → length q ≡ count_by (λ x. x.port == 0) q
ports_count [] h = refl
ports_count (x ∷ q) h =
    let low : x.port < 1 = h.0 in
    let first : (x.port == 0) ≡ true = grind (arith, nat_tests) in
    let more = sum_by-cons (λ (y : Push). cond (y.port == 0) 1 0) x q in
    omega (arith, ports_count q h.1, more ∙ ap (λ b. cond b 1 0 + count_by (λ (y : Push). y.port == 0) q) first)

pub at_most_one : (q : List Push) → IsOneEach 1 q → length q ≤ 1
at_most_one q h = omega (arith, ports_count q h.ports, h.at 0)

pub each_keeps : (f : Push → Due) → ((x : Push) (out : ℕ) → length (to_out out (oks (f x))) ≤ 1) → KeepsOne 1 (each f)
each_keeps f h = record { at = λ q out one. few q out (at_most_one q one) }
  where
    few : (q : List Push) (out : ℕ) → length q ≤ 1 → length (flat_map (λ x. to_out out (oks (f x))) q) ≤ 1
    few [] out l = omega arith
    few (x ∷ []) out l = omega (arith, h x out, length-append (to_out out (oks (f x))) [])
    few (x ∷ y ∷ q) out l = absurd (omega arith)

pub alone_keeps : (f : Push → List (ℕ × Plain)) → ((x : Push) → length (f x) ≤ 1) → KeepsOne 1 (alone f)
alone_keeps f h = each_keeps (λ x. judged (f x)) (λ x out. omega (arith, h x, judged_length (f x), out_length out (oks (judged (f x)))))

pub one_value : (b : Bool) (e : ℕ × Plain) → length (cond b (e ∷ []) []) ≤ 1
one_value true e = omega arith
one_value false e = omega arith

pub branched_few : (outs : ℕ) (a v : Plain) → length (branched outs a v) ≤ 1
branched_few outs (int (pos i)) v = one_value (nat_lt i outs) (i, v)
branched_few outs (int (negsuc i)) v = omega arith
branched_few outs null v = omega arith
branched_few outs (truth b) v = omega arith
branched_few outs (text t) v = omega arith
branched_few outs (file n d l) v = omega arith
branched_few outs (list vs) v = omega arith
branched_few outs (table ps) v = omega arith

-- of values that are numbered in turn, an output gets at most one
later_out : (out k : ℕ) → out < k → (vs : List Plain) → to_out out (enumerate_from k vs) ≡ []
later_out out k l [] = refl
later_out out k l (v ∷ vs) = let differs : (k == out) ≡ false = grind (arith, nat_tests) in rw differs (later_out out (k + 1) (omega arith) vs)

numbered_few : (out k : ℕ) (vs : List Plain) → length (to_out out (enumerate_from k vs)) ≤ 1
numbered_few out k [] = omega arith
numbered_few out k (v ∷ vs) = elim (cases_Bool (k == out)) [
  | inl e ↦ (let is : k ≡ out = grind (arith, nat_tests) in rw (e, later_out out (k + 1) (omega arith) vs) (omega arith))
  | inr e ↦ rw e (numbered_few out (k + 1) vs)
]

labelled_few : (outs out : ℕ) (a : Plain) → length (to_out out (labelled outs a)) ≤ 1
labelled_few outs out (list vs) = numbered_few out 0 (take outs (items_of vs))
labelled_few outs out null = omega arith
labelled_few outs out (truth b) = omega arith
labelled_few outs out (int i) = omega arith
labelled_few outs out (text t) = omega arith
labelled_few outs out (file n d l) = omega arith
labelled_few outs out (table ps) = omega arith

pub multi_map_keeps : (outs : ℕ) → KeepsOne 1 (multi_map_row outs)
multi_map_keeps outs = each_keeps (λ x. judged (labelled outs x.answer)) (λ x out. one x out (judged_is (labelled outs x.answer)))
  where
    one : (x : Push) (out : ℕ) → (oks (judged (labelled outs x.answer)) ≡ labelled outs x.answer) ⊎ (oks (judged (labelled outs x.answer)) ≡ []) → length (to_out out (oks (judged (labelled outs x.answer)))) ≤ 1
    one x out (inl e) = subst (λ z. length (to_out out z) ≤ 1) (sym e) (labelled_few outs out x.answer)
    one x out (inr e) = subst (λ z. length (to_out out z) ≤ 1) (sym e) (omega arith)

pub if_empty_keeps : (v : Plain) → KeepsOne 1 (if_empty_row v)
if_empty_keeps v = record { at = λ q out one. few q out (at_most_one q one) }
  where
    few : (q : List Push) (out : ℕ) → length q ≤ 1 → length ((if_empty_row v).items q out) ≤ 1
    few [] out l = omega (arith, (single_few v).few, out_length out (oks (single v)))
    few (x ∷ []) out l = omega (arith, (single_few x.item).few, out_length out (oks (single x.item)), length-append (to_out out (oks (single x.item))) [], length-append (to_out out (oks (single x.item)) ++ []) [])
    few (x ∷ y ∷ q) out l = absurd (omega arith)

-- of at most one value, at most one is distinct
few_distinct : (vs : List Plain) → length vs ≤ 1 → length (distinct_of vs) ≤ 1
few_distinct [] l = omega arith
few_distinct (v ∷ []) l = omega arith
few_distinct (v ∷ w ∷ vs) l = absurd (omega arith)

filter_length : {A : Type 0} (test : A → Bool) (xs : List A) → length (filter test xs) ≤ length xs
filter_length test xs = omega (arith, length-filter test xs, count_by-le-length test xs)

cond_length : (b : Bool) (vs : List Plain) → length vs ≤ 1 → length (cond b vs []) ≤ 1
cond_length true vs l = l
cond_length false vs l = omega arith

pub unique_keeps : KeepsOne 1 unique_row
unique_keeps = record {
  at = λ q out one. (
      let vs = filter (λ v. not (is_too_deep v)) (items_in q) in
      let l : length vs ≤ 1 = omega (arith, filter_length (λ v. not (is_too_deep v)) (items_in q), length-map q (λ (x : Push). x.item), at_most_one q one) in
      cond_length (out == 0) (distinct_of vs) (few_distinct vs l));
}

-- `groupTuple`: one item has one key
keys_few : (n : ℕ) (q : List Push) → length (keys_in n q) ≤ length q
keys_few n [] = omega arith
keys_few n (x ∷ q) = omega (arith, keys_few n q, length-append (option_to_list (key_at n x.item)) (keys_in n q), one (key_at n x.item))
  where
    one : (k : Option Plain) → length (option_to_list k) ≤ 1
    one None = omega arith
    one (Some k) = omega arith

none_paired : (q p : List Push) → flat_map {A = Plain} (λ (x : Push). flat_map {A = Plain} (λ (y : Push). []) q) p ≡ []
none_paired q [] = refl
none_paired q (x ∷ p) = rw (none q) (none_paired q p)
  where
    none : (q : List Push) → flat_map {A = Plain} (λ (y : Push). []) q ≡ []
    none [] = refl
    none (y ∷ q) = none q

shown_length : (vs : List Plain) → length (shown vs) ≤ length vs
shown_length vs =
    let first : Plain → ℕ × Plain = λ v. (0, v) in
    omega (arith, length-map (filter (λ v. not (is_too_deep v)) vs) first, filter_length (λ v. not (is_too_deep v)) vs)

pub group_keeps : (n : ℕ) (sort : Bool) → KeepsOne 1 (group_row n sort)
group_keeps n sort = record {
  at = λ q out one. (
      let keys = distinct_of (keys_in n q) in
      let l : length keys ≤ 1 = few_distinct (keys_in n q) (omega (arith, keys_few n q, at_most_one q one)) in
      let made : length (groups n sort q) ≡ length keys = length-map keys (λ k. group_of n sort k (sorted_of (rests_with n k q))) in
      let a : length (to_out out (shown (groups n sort q))) ≤ 1 = omega (arith, l, made, shown_length (groups n sort q), out_length out (shown (groups n sort q))) in
      rw (none_paired q q) a);
}

-- `combine`: one item of each input makes one pair
abbrev one_if : Bool → ℕ
one_if b = cond b 1 0

tuple_few : (out : ℕ) (vs : List Plain) → length (to_out out (oks (tuple vs))) ≤ 1
tuple_few out vs = omega (arith, (single_few (list (plains_of vs))).few, out_length out (oks (tuple vs)))

given_few : (b : Bool) (out : ℕ) (vs : List Plain) → length (to_out out (oks (cond b (tuple vs) (Ok [])))) ≤ one_if b
given_few true out vs = tuple_few out vs
given_few false out vs = omega arith

and_less : (a b : Bool) → one_if (a && b) ≤ one_if a
and_less true true = omega arith
and_less true false = omega arith
and_less false b = omega arith

pair_few : (by_first : Bool) (out : ℕ) (x y : Push) → length (to_out out (oks ((combine by_first).pair x y))) ≤ one_if (faces x y)
pair_few true out x y = omega (arith, given_few (meets 0 x y) out (key_or_null 0 x.item ∷ (rest_at 0 x.item ++ rest_at 0 y.item)), and_less (faces x y) (same_key (key_at 0 x.item) (key_at 0 y.item)))
pair_few false out x y = given_few (faces x y) out (parts_of x.item ++ parts_of y.item)

abbrev is_right : Push → Bool
is_right y = not (is_left y)

more_right : (a b : Bool) (k m n : ℕ) → k ≤ one_if (a && b) → m ≤ cond a n 0 → k + m ≤ cond a (one_if b + n) 0
more_right true true k m n h l = omega arith
more_right true false k m n h l = omega arith
more_right false b k m n h l = omega arith

row_few : (by_first : Bool) (out : ℕ) (x : Push) (q : List Push) → length (flat_map (λ y. to_out out (oks ((combine by_first).pair x y))) q) ≤ cond (is_left x) (count_by is_right q) 0
row_few by_first out x [] = least (is_left x)
  where
    least : (b : Bool) → 0 ≤ cond b 0 0
    least true = omega arith
    least false = omega arith
row_few by_first out x (y ∷ q) =
    let k = length (to_out out (oks ((combine by_first).pair x y))) in
    let m = length (flat_map (λ (z : Push). to_out out (oks ((combine by_first).pair x z))) q) in
    let h = more_right (is_left x) (is_right y) k m (count_by is_right q) (pair_few by_first out x y) (row_few by_first out x q) in
    let a : length (flat_map (λ (z : Push). to_out out (oks ((combine by_first).pair x z))) (y ∷ q)) ≡ k + m = length-append (to_out out (oks ((combine by_first).pair x y))) (flat_map (λ (z : Push). to_out out (oks ((combine by_first).pair x z))) q) in
    let b : count_by is_right (y ∷ q) ≡ one_if (is_right y) + count_by is_right q = sum_by-cons (λ (z : Push). cond (is_right z) 1 0) y q in
    rw b (omega (arith, a, h))

at_most_left : (b : Bool) (r : ℕ) → r ≤ 1 → cond b r 0 ≤ one_if b
at_most_left true r l = l
at_most_left false r l = omega arith

all_few : (by_first : Bool) (out : ℕ) (q : List Push) → count_by is_right q ≤ 1 → (p : List Push)
    → length (flat_map (λ x. flat_map (λ y. to_out out (oks ((combine by_first).pair x y))) q) p) ≤ count_by is_left p
all_few by_first out q r [] = omega arith
all_few by_first out q r (x ∷ p) =
    let row = flat_map (λ (y : Push). to_out out (oks ((combine by_first).pair x y))) q in
    let more = flat_map (λ (z : Push). flat_map (λ (y : Push). to_out out (oks ((combine by_first).pair z y))) q) p in
    let b : count_by is_left (x ∷ p) ≡ one_if (is_left x) + count_by is_left p = sum_by-cons (λ (z : Push). cond (is_left z) 1 0) x p in
    omega (arith, row_few by_first out x q, at_most_left (is_left x) (count_by is_right q) r, all_few by_first out q r p, b, length-append row more)

rights : (q : List Push) → AllByRecursion (λ x. x.port < 2) q → count_by is_right q ≡ count_by (λ x. x.port == 1) q
rights [] h = refl
rights (x ∷ q) h =
    let low : x.port < 2 = h.0 in
    let same : is_right x ≡ (x.port == 1) = second x.port low in
    let a : count_by is_right (x ∷ q) ≡ one_if (is_right x) + count_by is_right q = sum_by-cons (λ (z : Push). cond (is_right z) 1 0) x q in
    let b : count_by (λ (z : Push). z.port == 1) (x ∷ q) ≡ one_if (x.port == 1) + count_by (λ (z : Push). z.port == 1) q = sum_by-cons (λ (z : Push). cond (z.port == 1) 1 0) x q in
    omega (arith, a, b, rights q h.1, ap one_if same)
  where
    second : (n : ℕ) → n < 2 → not (n == 0) ≡ (n == 1)
    second zero l = refl
    second (suc zero) l = refl
    second (suc (suc n)) l = absurd (omega arith)

pub combine_keeps : (by_first : Bool) → KeepsOne 2 (combine_row by_first)
combine_keeps by_first = record {
  at = λ q out one. (
      let pairs = flat_map (λ (x : Push). flat_map (λ (y : Push). to_out out (oks ((combine by_first).pair x y))) q) q in
      let r : count_by is_right q ≤ 1 = omega (arith, rights q one.ports, one.at 1) in
      let l : length pairs ≤ 1 = omega (arith, all_few by_first out q r q, one.at 0) in
      omega (arith, l, length-append pairs []));
}
