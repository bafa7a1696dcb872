-- Pairs that are put into maps, at their places.
use Rattle.std.proofs.Common.{◌≡◌, ℕ, zero, suc, ◌+◌, ◌<◌, ◌≤◌, Bool, true, false, ◌&&◌, List, [], ◌∷◌, ◌++◌, length, take, drop, map, get_or, set, refl, sym, ◌∙◌, ap, subst, arith, append_assoc, add-one, drop-cons}
use Rattle.std.specs.List.{drop-map}
use Rattle.std.specs.declared.cmp.Ordering.{Ordering}
use Rattle.std.specs.declared.cmp.Ordering.TheVariants.{Less, Equal, Greater}
use Rattle.std.specs.Ordering.{nat_cmp, is_lt, ordering_reverse}
use Rattle.std.specs.Cmp.Lexicographic.{slice_cmp}
use Rattle.std.proofs.lemmas.Cmp.{nat_list_cmp_total}
use Rattle.std.proofs.lemmas.Map.Lookups.{exact_bytes}
use Rattle.std.proofs.lemmas.Bool.{false≢true}
use Rattle.std.proofs.lemmas.List.{map-append, length-map, take-map, nil_from_length, length-drop}
use Rattle.std.proofs.Math.Seq.{take-suc}
use Rattle.nf_value.specs.Plain.{Plain}
use Rattle.nf_value.specs.View.{plain_of, pair_of, rises, rising}
use Rattle.nf_value.specs.declared.value.Value.{Value}
use Rattle.nf_pairs.specs.Pairs.{put, put_by, put_all}

-- ---- keys still rise

both : (a b : Bool) → (a && b) ≡ true → (a ≡ true) × (b ≡ true)
both true true h = (refl, refl)
both true false h = absurd (false≢true h)
both false b h = absurd (false≢true h)

under : (k l : List ℕ) → slice_cmp nat_cmp k l ≡ Greater → is_lt (slice_cmp nat_cmp l k) ≡ true
under k l e = ap is_lt (nat_list_cmp_total.antisymm l k ∙ ap ordering_reverse e)

below : (k l : List ℕ) → slice_cmp nat_cmp k l ≡ Less → is_lt (slice_cmp nat_cmp k l) ≡ true
below k l e = ap is_lt e

with_both : (a b : Bool) → a ≡ true → b ≡ true → (a && b) ≡ true
with_both a b ea eb = rw (ea, eb) refl

rises_put : (k : List ℕ) (new : List ℕ × Plain) (ps : List (List ℕ × Plain)) → rises k ps ≡ true → is_lt (slice_cmp nat_cmp k new.0) ≡ true → rises k (put new ps) ≡ true
rises_put k new [] h low = with_both _ _ low refl
rises_put k new (p ∷ ps) h low = of (rises_put p.0 new ps ((both _ _ h).1)) (slice_cmp nat_cmp new.0 p.0) refl
  where
    of : (is_lt (slice_cmp nat_cmp p.0 new.0) ≡ true → rises p.0 (put new ps) ≡ true) → (o : Ordering) → slice_cmp nat_cmp new.0 p.0 ≡ o → rises k (put_by o new p ps (put new ps)) ≡ true
    of later Less e = with_both _ _ low (with_both _ _ (below new.0 p.0 e) ((both _ _ h).1))
    of later Equal e = with_both _ _ low (ap (λ l. rises l ps) (exact_bytes new.0 p.0 e) ∙ (both _ _ h).1)
    of later Greater e = with_both _ _ ((both _ _ h).0) (later (under new.0 p.0 e))

rising_put : (new : List ℕ × Plain) (ps : List (List ℕ × Plain)) → rising ps ≡ true → rising (put new ps) ≡ true
rising_put new [] h = refl
rising_put new (p ∷ ps) h = of (slice_cmp nat_cmp new.0 p.0) refl
  where
    of : (o : Ordering) → slice_cmp nat_cmp new.0 p.0 ≡ o → rising (put_by o new p ps (put new ps)) ≡ true
    of Less e = with_both _ _ (below new.0 p.0 e) h
    of Equal e = ap (λ l. rises l ps) (exact_bytes new.0 p.0 e) ∙ h
    of Greater e = rises_put p.0 new ps h (under new.0 p.0 e)

pub rising_put_all : (more ps : List (List ℕ × Plain)) → rising ps ≡ true → rising (put_all more ps) ≡ true
rising_put_all [] ps h = h
rising_put_all (new ∷ more) ps h = rising_put_all more (put new ps) (rising_put new ps h)

-- ---- where a pair stands

one_more : (xs : List (List ℕ × Value)) (i : ℕ) (x : List ℕ × Value) → i < length xs → x ≡ get_or xs i x → take (i + 1) (map pair_of xs) ≡ take i (map pair_of xs) ++ pair_of x ∷ []
one_more xs i x h is = (let e : i + 1 ≡ suc i = omega arith in ap (λ k. take k (map pair_of xs)) e) ∙ take-map pair_of (suc i) xs ∙ ap (map pair_of) (take-suc xs i x h ∙ ap (λ y. take i xs ++ y ∷ []) (sym is)) ∙ map-append pair_of (take i xs) (x ∷ []) ∙ ap (λ l. l ++ pair_of x ∷ []) (sym (take-map pair_of i xs))

-- what is left of the pairs of a map from a place on
pairs_left_at : (xs : List (List ℕ × Value)) (i : ℕ) (x : List ℕ × Value) → i < length xs → x ≡ get_or xs i x → map pair_of (drop i xs) ≡ pair_of x ∷ map pair_of (drop (i + 1) xs)
pairs_left_at xs i x h is = rw (add-one, drop-cons xs i x, ← is) refl

left_at : (xs : List (List ℕ × Value)) (i : ℕ) (x : List ℕ × Value) → i < length xs → x ≡ get_or xs i x → drop i (map pair_of xs) ≡ pair_of x ∷ drop (i + 1) (map pair_of xs)
left_at xs i x h is = drop-map pair_of i xs ∙ pairs_left_at xs i x h is ∙ ap (λ l. pair_of x ∷ l) (sym (drop-map pair_of (i + 1) xs))

-- what is put among the rest is put among all, as far as was looked
abbrev pub PutsAfter : List ℕ → List (List ℕ × Value) → ℕ → Type 0
PutsAfter key xs i = (v : Plain) → put (key, v) (map pair_of xs) ≡ take i (map pair_of xs) ++ put (key, v) (drop i (map pair_of xs))

at_item : (xs : List (List ℕ × Value)) (i : ℕ) (x : List ℕ × Value) (key : List ℕ) (v : Plain) (o : Ordering) → i < length xs → x ≡ get_or xs i x → slice_cmp nat_cmp key x.0 ≡ o → PutsAfter key xs i → put (key, v) (map pair_of xs) ≡ take i (map pair_of xs) ++ put_by o (key, v) (pair_of x) (drop (i + 1) (map pair_of xs)) (put (key, v) (drop (i + 1) (map pair_of xs)))
at_item xs i x key v o h is e inv = inv v ∙ ap (λ l. take i (map pair_of xs) ++ put (key, v) l) (left_at xs i x h is) ∙ ap (λ p. take i (map pair_of xs) ++ put_by p (key, v) (pair_of x) (drop (i + 1) (map pair_of xs)) (put (key, v) (drop (i + 1) (map pair_of xs)))) e

pub put_before : (xs : List (List ℕ × Value)) (i : ℕ) (x : List ℕ × Value) (key : List ℕ) → i < length xs → x ≡ get_or xs i x → slice_cmp nat_cmp key x.0 ≡ Less → PutsAfter key xs i → (v : Plain) → put (key, v) (map pair_of xs) ≡ take i (map pair_of xs) ++ (key, v) ∷ drop i (map pair_of xs)
put_before xs i x key h is e inv v = at_item xs i x key v Less h is e inv ∙ ap (λ l. take i (map pair_of xs) ++ (key, v) ∷ l) (sym (left_at xs i x h is))

pub put_here : (xs : List (List ℕ × Value)) (i : ℕ) (x : List ℕ × Value) (key : List ℕ) → i < length xs → x ≡ get_or xs i x → slice_cmp nat_cmp key x.0 ≡ Equal → PutsAfter key xs i → (v : Plain) → put (key, v) (map pair_of xs) ≡ take i (map pair_of xs) ++ (key, v) ∷ drop (i + 1) (map pair_of xs)
put_here xs i x key h is e inv v = at_item xs i x key v Equal h is e inv

pub put_later : (xs : List (List ℕ × Value)) (i : ℕ) (x : List ℕ × Value) (key : List ℕ) → i < length xs → x ≡ get_or xs i x → slice_cmp nat_cmp key x.0 ≡ Greater → PutsAfter key xs i → PutsAfter key xs (i + 1)
put_later xs i x key h is e inv = λ v. at_item xs i x key v Greater h is e inv ∙ sym (ap (λ l. l ++ put (key, v) (drop (i + 1) (map pair_of xs))) (one_more xs i x h is) ∙ append_assoc (take i (map pair_of xs)) (pair_of x ∷ []) (put (key, v) (drop (i + 1) (map pair_of xs))))

pub put_last : (xs : List (List ℕ × Value)) (i n : ℕ) (key : List ℕ) → length xs ≤ i → i ≤ length xs → n ≡ length xs → PutsAfter key xs i → (v : Plain) → put (key, v) (map pair_of xs) ≡ take n (map pair_of xs) ++ (key, v) ∷ drop n (map pair_of xs)
put_last xs i n key h g is inv v =
    let all : i ≡ n = omega arith in
    let none : drop i (map pair_of xs) ≡ [] = nil_from_length (drop i (map pair_of xs)) (omega (arith, length-drop i (map pair_of xs), length-map xs pair_of)) in
    inv v ∙ ap (λ l. take i (map pair_of xs) ++ put (key, v) l) none ∙ ap (λ l. take i (map pair_of xs) ++ (key, v) ∷ l) (sym none) ∙ ap (λ k. take k (map pair_of xs) ++ (key, v) ∷ drop k (map pair_of xs)) all

-- ---- where it is written

over : (xs : List (List ℕ × Value)) (i : ℕ) (y : List ℕ × Value) → i < length xs → map pair_of (set xs i y) ≡ take i (map pair_of xs) ++ pair_of y ∷ drop (suc i) (map pair_of xs)
over [] i y h = absurd (omega arith)
over (x ∷ xs) zero y h = refl
over (x ∷ xs) (suc i) y h = ap (λ l. pair_of x ∷ l) (over xs i y (omega arith))

abbrev pub PutsOver : List ℕ → List (List ℕ × Value) → ℕ → Type 0
PutsOver key xs i = (v : Plain) → put (key, v) (map pair_of xs) ≡ take i (map pair_of xs) ++ (key, v) ∷ drop (i + 1) (map pair_of xs)

abbrev pub PutsBetween : List ℕ → List (List ℕ × Value) → ℕ → Type 0
PutsBetween key xs i = (v : Plain) → put (key, v) (map pair_of xs) ≡ take i (map pair_of xs) ++ (key, v) ∷ drop i (map pair_of xs)

pub put_over : (xs ys : List (List ℕ × Value)) (i : ℕ) (key k : List ℕ) (value : Value) → ys ≡ xs → k ≡ key → i < length ys → PutsOver k ys i → map pair_of (set xs i (key, value)) ≡ put (key, plain_of value) (map pair_of xs)
put_over xs ys i key k value same is h found =
    let at : PutsOver key xs i = subst (λ (l : List ℕ). PutsOver l xs i) is (subst (λ (l : List (List ℕ × Value)). PutsOver k l i) same found) in
    let e : suc i ≡ i + 1 = omega arith in
    over xs i (key, value) (omega (arith, ap length same)) ∙ ap (λ k. take i (map pair_of xs) ++ (key, plain_of value) ∷ drop k (map pair_of xs)) e ∙ sym (at (plain_of value))

pub put_between : (xs ys new : List (List ℕ × Value)) (i : ℕ) (key k : List ℕ) (value : Value) → ys ≡ xs → k ≡ key → new ≡ take i xs ++ (key, value) ∷ drop i xs → PutsBetween k ys i → map pair_of new ≡ put (key, plain_of value) (map pair_of xs)
put_between xs ys new i key k value same is e found =
    let at : PutsBetween key xs i = subst (λ (l : List ℕ). PutsBetween l xs i) is (subst (λ (l : List (List ℕ × Value)). PutsBetween k l i) same found) in
    ap (map pair_of) e ∙ map-append pair_of (take i xs) ((key, value) ∷ drop i xs) ∙ (λ j. sym (take-map pair_of i xs) j ++ (key, plain_of value) ∷ sym (drop-map pair_of i xs) j) ∙ sym (at (plain_of value))

-- one pair after another
pub put_next : (rest left : List (List ℕ × Value)) (pairs new : List (List ℕ × Value)) (key : List ℕ) (value : Value) (all : List (List ℕ × Plain)) → left ≡ (key, value) ∷ rest → map pair_of new ≡ put (key, plain_of value) (map pair_of pairs) → put_all (map pair_of left) (map pair_of pairs) ≡ all → put_all (map pair_of rest) (map pair_of new) ≡ all
put_next rest left pairs new key value all e is inv = ap (put_all (map pair_of rest)) is ∙ sym (ap (λ l. put_all (map pair_of l) (map pair_of pairs)) e) ∙ inv

pub put_none : (left pairs : List (List ℕ × Value)) (all : List (List ℕ × Plain)) → left ≡ [] → put_all (map pair_of left) (map pair_of pairs) ≡ all → map pair_of pairs ≡ all
put_none left pairs all e inv = sym (ap (λ l. put_all (map pair_of l) (map pair_of pairs)) e) ∙ inv

pub put_rises : (pairs : List (List ℕ × Value)) (more ps : List (List ℕ × Plain)) → rising ps ≡ true → map pair_of pairs ≡ put_all more ps → rising (map pair_of pairs) ≡ true
put_rises pairs more ps h e = ap rising e ∙ rising_put_all more ps h
