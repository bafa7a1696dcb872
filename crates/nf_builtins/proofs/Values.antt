-- Lists of values, by what each of them is.
use Rattle.std.proofs.Common.{◌≡◌, ℕ, ◌+◌, ◌<◌, ◌≤◌, Bool, true, false, not, ◌&&◌, ◌||◌, List, [], ◌∷◌, ◌++◌, length, take, drop, map, get_or, Option, Some, None, refl, ap, sym, ◌∙◌, arith, append_assoc, min}
use Rattle.std.specs.Prelude.{filter, fold}
use Rattle.std.specs.List.{list_any, position_from, slice_range}
use Rattle.std.proofs.lemmas.Map.Views.{tells_apart}
use Rattle.std.proofs.lemmas.Bool.{false≢true}
use Rattle.std.proofs.lemmas.List.{nil_from_length, length-drop, map-append, take_min, drop_min, take-map, drop-map}
use Rattle.std.proofs.Math.Seq.{take-length}
use mathlib.Core.List.{reverse, reverse-cons}
use Rattle.nf_value.specs.Plain.{Plain}
use Rattle.nf_value.specs.View.{plain_of}
use Rattle.nf_value.specs.Identity.{value_cmp_exact}
use Rattle.nf_value.specs.declared.value.Value.{Value}
use Rattle.nf_texts.proofs.Remaining.{left_at}
use Rattle.nf_builtins.specs.Lists.{is_same, firsts_of}

drop_all : (xs : List Value) (i : ℕ) → length xs ≤ i → drop i xs ≡ []
drop_all xs i h = nil_from_length (drop i xs) (omega (arith, length-drop i xs))

pub any_map : {A B : Type 0} (p : B → Bool) (f : A → B) (xs : List A) → list_any p (map f xs) ≡ list_any (λ x. p (f x)) xs
any_map p f [] = refl
any_map p f (x ∷ xs) = ap (λ b. p (f x) || b) (any_map p f xs)

any_append : {A : Type 0} (p : A → Bool) (xs : List A) (y : A) → list_any p (xs ++ y ∷ []) ≡ (list_any p xs || p y)
any_append p [] y = of (p y)
  where
    of : (b : Bool) → (b || false) ≡ b
    of true = refl
    of false = refl
any_append p (x ∷ xs) y = ap (λ b. p x || b) (any_append p xs y) ∙ of (p x) (list_any p xs) (p y)
  where
    of : (a b c : Bool) → (a || (b || c)) ≡ ((a || b) || c)
    of true b c = refl
    of false b c = refl

-- whether a value isn't among those that are kept
abbrev pub is_new : List Plain → Plain → Bool
is_new kept w = not (list_any (λ k. is_same k w) kept)

filter_twice : (p q r : Plain → Bool) → ((w : Plain) → (q w && p w) ≡ r w) → (xs : List Plain) → filter p (filter q xs) ≡ filter r xs
filter_twice p q r h [] = refl
filter_twice p q r h (x ∷ xs) = of (q x) (p x) (r x) refl refl refl (h x) (filter_twice p q r h xs)
  where
    of : (a b c : Bool) → q x ≡ a → p x ≡ b → r x ≡ c → (q x && p x) ≡ r x → filter p (filter q xs) ≡ filter r xs → filter p (filter q (x ∷ xs)) ≡ filter r (x ∷ xs)
    of true true true ea eb ec e more = rw (ea, ec) (rw eb (ap (λ l. x ∷ l) more))
    of true true false ea eb ec e more = absurd (false≢true (sym (sym (λ i. ea i && eb i) ∙ e ∙ ec)))
    of true false true ea eb ec e more = absurd (false≢true (sym (λ i. ea i && eb i) ∙ e ∙ ec))
    of true false false ea eb ec e more = rw (ea, ec) (rw eb more)
    of false b true ea eb ec e more = absurd (false≢true (sym (λ i. ea i && eb i) ∙ e ∙ ec))
    of false b false ea eb ec e more = rw (ea, ec) more

new_more : (kept : List Plain) (x w : Plain) → (not (is_same x w) && is_new kept w) ≡ is_new (kept ++ x ∷ []) w
new_more kept x w = of (is_same x w) (list_any (λ k. is_same k w) kept) ∙ ap not (sym (any_append (λ k. is_same k w) kept x))
  where
    of : (a b : Bool) → (not a && not b) ≡ not (b || a)
    of true true = refl
    of true false = refl
    of false true = refl
    of false false = refl

same_test : (kept : List Plain) (x w : Plain) → list_any (λ k. is_same k x) kept ≡ true → (not (is_same x w) && is_new kept w) ≡ is_new kept w
same_test kept x w h = of (is_same x w) refl
  where
    of : (b : Bool) → is_same x w ≡ b → (not (is_same x w) && is_new kept w) ≡ is_new kept w
    of true e =
        let among : list_any (λ k. is_same k w) kept ≡ true = ap (λ y. list_any (λ k. is_same k y) kept) (sym (tells_apart value_cmp_exact x w e)) ∙ h in
        rw (e, among) refl
    of false e = rw e refl

-- an item that is new is kept
pub kept_more : (xs : List Value) (i : ℕ) (x : Value) (kept all : List Plain) → i < length xs → x ≡ get_or xs i x → list_any (λ k. is_same k (plain_of x)) kept ≡ false → kept ++ filter (is_new kept) (firsts_of (map plain_of (drop i xs))) ≡ all → (kept ++ plain_of x ∷ []) ++ filter (is_new (kept ++ plain_of x ∷ [])) (firsts_of (map plain_of (drop (i + 1) xs))) ≡ all
kept_more xs i x kept all h is new inv =
    let rest = firsts_of (map plain_of (drop (i + 1) xs)) in
    let step : filter (is_new kept) (plain_of x ∷ filter (λ w. not (is_same (plain_of x) w)) rest) ≡ plain_of x ∷ filter (is_new (kept ++ plain_of x ∷ [])) rest =
    rw new (ap (λ l. plain_of x ∷ l) (filter_twice (is_new kept) (λ w. not (is_same (plain_of x) w)) (is_new (kept ++ plain_of x ∷ [])) (new_more kept (plain_of x)) rest)) in
    append_assoc kept (plain_of x ∷ []) _ ∙ sym (ap (λ l. kept ++ l) (ap (λ l. filter (is_new kept) (firsts_of l)) (left_at xs i x h is) ∙ step)) ∙ inv

-- an item that isn't new is passed over
pub kept_same : (xs : List Value) (i : ℕ) (x : Value) (kept all : List Plain) → i < length xs → x ≡ get_or xs i x → list_any (λ k. is_same k (plain_of x)) kept ≡ true → kept ++ filter (is_new kept) (firsts_of (map plain_of (drop i xs))) ≡ all → kept ++ filter (is_new kept) (firsts_of (map plain_of (drop (i + 1) xs))) ≡ all
kept_same xs i x kept all h is old inv =
    let rest = firsts_of (map plain_of (drop (i + 1) xs)) in
    let step : filter (is_new kept) (plain_of x ∷ filter (λ w. not (is_same (plain_of x) w)) rest) ≡ filter (is_new kept) rest =
    rw old (filter_twice (is_new kept) (λ w. not (is_same (plain_of x) w)) (is_new kept) (λ w. same_test kept (plain_of x) w old) rest) in
    sym (ap (λ l. kept ++ l) (ap (λ l. filter (is_new kept) (firsts_of l)) (left_at xs i x h is) ∙ step)) ∙ inv

pub all_new : (xs : List Plain) → filter (is_new []) xs ≡ xs
all_new [] = refl
all_new (x ∷ xs) = ap (λ l. x ∷ l) (all_new xs)

pub pushed : (old new : List Value) (v x : Value) → new ≡ old ++ v ∷ [] → v ≡ x → map plain_of new ≡ map plain_of old ++ plain_of x ∷ []
pushed old new v x e same = ap (map plain_of) e ∙ map-append plain_of old (v ∷ []) ∙ ap (λ y. map plain_of old ++ plain_of y ∷ []) same

-- what is left of a search
pub place_here : (xs : List Value) (i : ℕ) (x y : Value) (r : Option ℕ) → i < length xs → x ≡ get_or xs i x → is_same (plain_of x) (plain_of y) ≡ true → r ≡ position_from (λ w. is_same w (plain_of y)) i (map plain_of (drop i xs)) → Some i ≡ r
place_here xs i x y r h is same inv = sym (inv ∙ ap (position_from (λ w. is_same w (plain_of y)) i) (left_at xs i x h is) ∙ rw same refl)

pub place_later : (xs : List Value) (i : ℕ) (x y : Value) (r : Option ℕ) → i < length xs → x ≡ get_or xs i x → is_same (plain_of x) (plain_of y) ≡ false → r ≡ position_from (λ w. is_same w (plain_of y)) i (map plain_of (drop i xs)) → r ≡ position_from (λ w. is_same w (plain_of y)) (i + 1) (map plain_of (drop (i + 1) xs))
place_later xs i x y r h is other inv = inv ∙ ap (position_from (λ w. is_same w (plain_of y)) i) (left_at xs i x h is) ∙ rw other refl

pub no_place : (xs : List Value) (i : ℕ) (y : Value) (r : Option ℕ) → length xs ≤ i → r ≡ position_from (λ w. is_same w (plain_of y)) i (map plain_of (drop i xs)) → None ≡ r
no_place xs i y r h inv = sym (inv ∙ ap (λ l. position_from (λ w. is_same w (plain_of y)) i (map plain_of l)) (drop_all xs i h))

-- the best so far of a list
pub best_more : (f : Plain → Plain → Plain) (xs : List Value) (i : ℕ) (x : Value) (best next all : Plain) → i < length xs → x ≡ get_or xs i x → next ≡ f best (plain_of x) → fold f best (map plain_of (drop i xs)) ≡ all → fold f next (map plain_of (drop (i + 1) xs)) ≡ all
best_more f xs i x best next all h is e inv = ap (λ b. fold f b (map plain_of (drop (i + 1) xs))) e ∙ ap (fold f best) (sym (left_at xs i x h is)) ∙ inv

pub best_last : (f : Plain → Plain → Plain) (xs : List Value) (i : ℕ) (best all : Plain) → length xs ≤ i → fold f best (map plain_of (drop i xs)) ≡ all → all ≡ best
best_last f xs i best all h inv = sym (sym (ap (λ l. fold f best (map plain_of l)) (drop_all xs i h)) ∙ inv)

-- fronts and ends of lists
pub front_of : (xs : List Value) (vs out : List Plain) (n m : ℕ) → map plain_of xs ≡ vs → m ≡ min n (length xs) → out ≡ map plain_of (take m xs) → out ≡ take n vs
front_of xs vs out n m is least e =
    e ∙ ap (λ k. map plain_of (take k xs)) least ∙ ap (map plain_of) (take_min n xs) ∙ sym (take-map plain_of n xs) ∙ ap (take n) is

whole_rest : (xs : List Value) (n m : ℕ) → m ≡ min n (length xs) → slice_range xs m (length xs) ≡ drop n xs
whole_rest xs n m least = (ap (λ k. take k (drop m xs)) (sym (length-drop m xs)) ∙ take-length (drop m xs)) ∙ ap (λ k. drop k xs) least ∙ drop_min n xs

pub rest_of : (xs : List Value) (vs out : List Plain) (n m : ℕ) → map plain_of xs ≡ vs → m ≡ min n (length xs) → out ≡ map plain_of (slice_range xs m (length xs)) → out ≡ drop n vs
rest_of xs vs out n m is least e =
    e ∙ ap (map plain_of) (whole_rest xs n m least) ∙ sym (drop-map plain_of n xs) ∙ ap (drop n) is

map-reverse : (f : Value → Plain) (xs : List Value) → map f (reverse xs) ≡ reverse (map f xs)
map-reverse f [] = refl
map-reverse f (x ∷ xs) = ap (map f) (reverse-cons x xs) ∙ map-append f (reverse xs) (x ∷ []) ∙ ap (λ l. l ++ f x ∷ []) (map-reverse f xs) ∙ sym (reverse-cons (f x) (map f xs))

pub reversed_of : (xs ys zs : List Value) (vs out : List Plain) → map plain_of xs ≡ vs → map plain_of ys ≡ map plain_of xs → zs ≡ reverse ys → out ≡ map plain_of zs → out ≡ reverse vs
reversed_of xs ys zs vs out is copied turned e = e ∙ ap (map plain_of) turned ∙ map-reverse plain_of ys ∙ ap reverse (copied ∙ is)
