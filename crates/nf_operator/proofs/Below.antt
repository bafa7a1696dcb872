-- Operators that emit to the first outputs alone.
use Rattle.std.proofs.Common.{◌≡◌, ℕ, ◌+◌, ◌<◌, ◌≤◌, List, [], ◌∷◌, filter, length, take, Bool, true, false, cond, refl, arith, inl, inr}
use Rattle.std.specs.Prelude.{◌==◌, nat_lt, not, Option, Some, None, Ok, Err, pos, negsuc}
use Rattle.std.specs.List.{flat_map, enumerate_from}
use Rattle.std.proofs.lemmas.Bool.{cases_Bool}
use Rattle.std.proofs.lemmas.Bool.Decides.{nat_tests}
use Rattle.std.proofs.lemmas.List.{length-take}
use Rattle.nf_value.specs.Plain.{Plain, null, truth, int, text, file, list, table}
use Rattle.nf_value.specs.Truth.{truth_of}
use Rattle.nf_bag.specs.Bag.{count}
use Rattle.nf_opstream.specs.Push.{Push}
use Rattle.nf_opstream.specs.Fault.{too_deep}
use Rattle.nf_opstream.specs.Operator.{to_out, oks}
use Rattle.nf_opstream.specs.Alone.{is_too_deep, judged, each, alone}
use Rattle.nf_opstream.specs.Columns.{shortest, tuples_by, transposed}
use Rattle.nf_opstream.specs.Nested.{items_of}
use Rattle.nf_opstream.specs.Rows.{first_out, branched, labelled, items_in, unique_row}
use Rattle.nf_opclose.specs.Closing.{closing}
use Rattle.nf_opjoin.specs.Pairing.{Due, and_then, gathered, given, shown, Matching, twins, first_of_its_kind, pairing}
use Rattle.nf_opjoin.specs.Tuples.{has_key}
use Rattle.nf_operator.specs.Outputs.{GoBelow, HasOutputs}
use Rattle.nf_operator.proofs.Singles.{judged_below, cond_below, append_below}

-- nothing goes to an output past the first n
none_out : (n out : ℕ) → n ≤ out → (es : List (ℕ × Plain)) → GoBelow n es → to_out out es ≡ []
none_out n out l [] h = refl
none_out n out l (e ∷ es) h =
    let below : e.0 < n = h.0 in
    let differs : (e.0 == out) ≡ false = grind (arith, nat_tests) in
    rw differs (none_out n out l es h.1)

none_each : (f : Push → Due) (n out : ℕ) → n ≤ out → ((x : Push) → GoBelow n (oks (f x))) → (q : List Push) → flat_map (λ x. to_out out (oks (f x))) q ≡ []
none_each f n out l h [] = refl
none_each f n out l h (x ∷ q) = rw (none_out n out l (oks (f x)) (h x)) (none_each f n out l h q)

pub each_outputs : (f : Push → Due) (n : ℕ) → ((x : Push) → GoBelow n (oks (f x))) → HasOutputs n (each f)
each_outputs f n h = record { gives = λ p x. h x; ends = λ p. tt; items = λ q out l. none_each f n out l h q }

pub alone_outputs : (f : Push → List (ℕ × Plain)) (n : ℕ) → ((x : Push) → GoBelow n (f x)) → HasOutputs n (alone f)
alone_outputs f n h = each_outputs (λ x. judged (f x)) n (λ x. judged_below n (f x) (h x))

pub closing_outputs : (f : Push → Due) (g : List Push → Due) (n : ℕ) → ((x : Push) → GoBelow n (oks (f x))) → ((q : List Push) → GoBelow n (oks (g q))) → HasOutputs n (closing f g)
closing_outputs f g n h k = record { gives = λ p x. h x; ends = λ p. k p; items = λ q out l. rw (none_each f n out l h q) (none_out n out l (oks (g q)) (k q)) }

then_below : (n : ℕ) (r s : Due) → GoBelow n (oks r) → GoBelow n (oks s) → GoBelow n (oks (and_then r s))
then_below n (Ok es) (Ok fs) h k = append_below n es fs h k
then_below n (Ok es) (Err f) h k = tt
then_below n (Err f) s h k = tt

gathered_below : (n : ℕ) (h : Push → Due) → ((y : Push) → GoBelow n (oks (h y))) → (p : List Push) → GoBelow n (oks (gathered h p))
gathered_below n h k [] = tt
gathered_below n h k (y ∷ p) = then_below n (gathered h p) (h y) (gathered_below n h k p) (k y)

given_below : (vs : List Plain) → GoBelow 1 (oks (given vs))
given_below [] = tt
given_below (v ∷ vs) = then_below 1 (judged ((0, v) ∷ [])) (given vs) (judged_below 1 ((0, v) ∷ []) (omega arith, tt)) (given_below vs)

pub first_below : (vs : List Plain) → GoBelow 1 (first_out vs)
first_below [] = tt
first_below (v ∷ vs) = (omega arith, first_below vs)

none_paired : (m : Matching) (out : ℕ) → 1 ≤ out → ((x y : Push) → GoBelow 1 (oks (m.pair x y))) → (q p : List Push) → flat_map (λ x. flat_map (λ y. to_out out (oks (m.pair x y))) q) p ≡ []
none_paired m out l h q [] = refl
none_paired m out l h q (x ∷ p) = rw (none_each (m.pair x) 1 out l (h x) q) (none_paired m out l h q p)

pub pairing_outputs : (m : Matching) → ((x : Push) → GoBelow 1 (oks (m.judge x))) → ((x y : Push) → GoBelow 1 (oks (m.pair x y))) → HasOutputs 1 (pairing m)
pairing_outputs m j h = record {
  gives = λ p x. then_below 1 (m.judge x) _ (j x)
      (then_below 1 (first_of_its_kind m p x) _ (cond_below 1 (nat_lt 0 (twins m x p)) (Err (m.repeated x)) (Ok []) tt tt)
      (then_below 1 (gathered (m.pair x) p) (gathered (λ y. m.pair y x) p) (gathered_below 1 (m.pair x) (h x) p) (gathered_below 1 (λ y. m.pair y x) (λ y. h y x) p)));
  ends = λ p. given_below (m.left_over p);
  items = λ q out l. rw (none_paired m out l h q q) (none_out 1 out l (shown (m.left_over q)) (first_below (filter (λ v. not (is_too_deep v)) (m.left_over q))));
}

pub keyed_below : (n : ℕ) (k : Option Plain) (v : Plain) → GoBelow n (oks (has_key k v))
keyed_below n (Some k) v = tt
keyed_below n None v = tt

pub branched_below : (outs : ℕ) (a v : Plain) → GoBelow outs (branched outs a v)
branched_below outs (int (pos i)) v = elim (cases_Bool (nat_lt i outs)) [
  | inl e ↦ (let l : i < outs = grind (arith, nat_tests) in rw e (l, tt))
  | inr e ↦ rw e tt
]
branched_below outs (int (negsuc i)) v = tt
branched_below outs null v = tt
branched_below outs (truth b) v = tt
branched_below outs (text t) v = tt
branched_below outs (file n d l) v = tt
branched_below outs (list vs) v = tt
branched_below outs (table ps) v = tt

numbered_below : (n k : ℕ) (vs : List Plain) → k + length vs ≤ n → GoBelow n (enumerate_from k vs)
numbered_below n k [] h = tt
numbered_below n k (v ∷ vs) h = (omega arith, numbered_below n (k + 1) vs (omega arith))

pub labelled_below : (outs : ℕ) (a : Plain) → GoBelow outs (labelled outs a)
labelled_below outs (list vs) = numbered_below outs 0 (take outs (items_of vs)) (omega (arith, length-take outs (items_of vs)))
labelled_below outs null = tt
labelled_below outs (truth b) = tt
labelled_below outs (int i) = tt
labelled_below outs (text t) = tt
labelled_below outs (file n d l) = tt
labelled_below outs (table ps) = tt

pub transposed_below : (v : Plain) → GoBelow 1 (oks (transposed v))
transposed_below (list vs) = judged_below 1 _ (first_below (tuples_by (shortest (items_of vs)) (items_of vs)))
transposed_below null = tt
transposed_below (truth b) = tt
transposed_below (int i) = tt
transposed_below (text t) = tt
transposed_below (file n d l) = tt
transposed_below (table ps) = tt

other_out : (out : ℕ) (vs : List Plain) → 1 ≤ out → cond (out == 0) vs [] ≡ []
other_out out vs l = let differs : (out == 0) ≡ false = grind (arith, nat_tests) in rw differs refl

one_below : (b : Bool) (v : Plain) → GoBelow 1 (cond b ((0, v) ∷ []) [])
one_below true v = (omega arith, tt)
one_below false v = tt

pub filtered_below : (x : Push) → GoBelow 1 (cond (truth_of x.answer) ((0, x.item) ∷ []) [])
filtered_below x = one_below (truth_of x.answer) x.item

pub unique_outputs : HasOutputs 1 unique_row
unique_outputs = record {
  gives = λ p x. cond_below 1 (is_too_deep x.item) (Err (too_deep x.item)) (Ok (cond (count x.item (items_in p) == 0) ((0, x.item) ∷ []) [])) tt (one_below (count x.item (items_in p) == 0) x.item);
  ends = λ p. tt;
  items = λ q out l. other_out out _ l;
}
