-- Names in a vector, the latest last, and where the latest of each stands.
use Rattle.std.proofs.Common.{◌≡◌, ◌∙◌, ℕ, ◌+◌, ◌-◌, ◌<◌, Bool, true, false, List, [], ◌∷◌, ◌++◌, length, get_or, take, drop, reverse, is_some, Option, Some, None, string_bytes, bytes_eq, refl, sym, ap, arith}
use Rattle.std.specs.Prelude.{String, if◌then◌else◌}
use Rattle.std.specs.Global.{Global}
use Rattle.std.specs.HashMap.{HashMap, UpdatesBy}
use Rattle.std.specs.String.{string_eq}
use Rattle.std.proofs.Math.ListN.{set}
use Rattle.std.proofs.lemmas.List.{length-reverse, reverse-append, reverse-reverse, get_or_at, get_or_append_left, set_at, set-append_left, take_more, take-append-drop, length-drop, drop_at}
use Rattle.std.proofs.lemmas.Map.Text.{hash_map_updates_text}
use Rattle.nf_kinds.specs.Kinds.{Shaped}
use Rattle.nf_kinds.specs.Scope.{Bindings, shape_in, is_bound, rebound}
use Rattle.nf_kinds.specs.Bindings.{place_of, GivesPlaces}

-- ---- the latest first

pub reverse_push : {X : Type 0} (xs : List X) (x : X) → reverse (xs ++ x ∷ []) ≡ x ∷ reverse xs
reverse_push xs x = reverse-append xs (x ∷ [])

reverse_first : {X : Type 0} (x : X) (xs : List X) → reverse (x ∷ xs) ≡ reverse xs ++ x ∷ []
reverse_first x xs = reverse-append (x ∷ []) xs

pub reverse_more : {X : Type 0} (xs : List X) (i : ℕ) (d : X) → i < length xs → reverse (take (i + 1) xs) ≡ get_or xs i d ∷ reverse (take i xs)
reverse_more xs i d h = ap reverse (take_more xs i d h) ∙ reverse_push (take i xs) (get_or xs i d)

-- the oldest so many
pub oldest_left : {X : Type 0} (v : List X) (k : ℕ) → reverse (take k v) ≡ drop (length (reverse v) - k) (reverse v)
oldest_left v k =
    let parts : reverse v ≡ reverse (drop k v) ++ reverse (take k v) = ap reverse (sym (take-append-drop k v)) ∙ reverse-append (take k v) (drop k v) in
    let gone : length (reverse (drop k v)) ≡ length (reverse v) - k = omega (arith, length-reverse (drop k v), length-reverse v, length-drop k v) in
    sym (ap (drop (length (reverse v) - k)) parts ∙ drop_at (reverse (drop k v)) (reverse (take k v)) (length (reverse v) - k) gone)

below_reversed : (bs : Bindings) (p : ℕ) → p < length bs → p < length (reverse bs)
below_reversed bs p h = omega (arith, length-reverse bs)

-- ---- the place of the latest of a name

module _ (n : List ℕ) where
  -- at this place stands what the name stands for
  abbrev StandsAt : Bindings → ℕ → Option Shaped → Type 0
  StandsAt bs p o = (p < length bs) × ((d : List ℕ × Shaped) → Some (get_or (reverse bs) p d).1 ≡ o)

  stands_by : (b : List ℕ × Shaped) (bs : Bindings) (p : ℕ) → ((q : ℕ) → place_of n bs ≡ Some q → StandsAt bs q (shape_in n bs)) → (t : Bool) → (if t then Some (length bs) else place_of n bs) ≡ Some p
      → StandsAt (b ∷ bs) p (if t then Some b.1 else shape_in n bs)
  stands_by b bs p rest true h =
      let e : length bs ≡ p = cc in
      (omega arith, λ d. ap (λ x. Some x.1) (ap (λ xs. get_or xs p d) (reverse_first b bs) ∙ get_or_at (reverse bs) b [] d p (length-reverse bs ∙ e)))
  stands_by b bs p rest false h =
      let there = rest p h in
      let lt : p < length bs = there.0 in
      (omega arith, λ d. ap (λ x. Some x.1) (ap (λ xs. get_or xs p d) (reverse_first b bs) ∙ get_or_append_left (reverse bs) (b ∷ []) d p (below_reversed bs p lt)) ∙ there.1 d)

  stands_at : (bs : Bindings) (p : ℕ) → place_of n bs ≡ Some p → StandsAt bs p (shape_in n bs)
  stands_at [] p h = cc
  stands_at (b ∷ bs) p h = stands_by b bs p (λ q k. stands_at bs q k) (bytes_eq b.0 n) h

  nowhere_by : (b : List ℕ × Shaped) (bs : Bindings) → (place_of n bs ≡ None → shape_in n bs ≡ None) → (t : Bool) → (if t then Some (length bs) else place_of n bs) ≡ None → (if t then Some b.1 else shape_in n bs) ≡ None
  nowhere_by b bs rest true h = cc
  nowhere_by b bs rest false h = rest h

  pub nowhere : (bs : Bindings) → place_of n bs ≡ None → shape_in n bs ≡ None
  nowhere [] h = refl
  nowhere (b ∷ bs) h = nowhere_by b bs (nowhere bs) (bytes_eq b.0 n) h

  bound_by : (bs : Bindings) → is_bound n bs ≡ is_some (place_of n bs) → (t : Bool) → (if t then true else is_bound n bs) ≡ is_some (if t then Some (length bs) else place_of n bs)
  bound_by bs rest true = refl
  bound_by bs rest false = rest

  pub bound_is : (bs : Bindings) → is_bound n bs ≡ is_some (place_of n bs)
  bound_is [] = refl
  bound_is (b ∷ bs) = bound_by bs (bound_is bs) (bytes_eq b.0 n)

  -- the same of a vector
  pub place_within : (v : Bindings) (p : ℕ) → place_of n (reverse v) ≡ Some p → p < length v
  place_within v p h = let lt : p < length (reverse v) = (stands_at (reverse v) p h).0 in omega (arith, length-reverse v)

  pub shape_at : (v : Bindings) (p : ℕ) (d : List ℕ × Shaped) → place_of n (reverse v) ≡ Some p → Some (get_or v p d).1 ≡ shape_in n (reverse v)
  shape_at v p d h = ap (λ xs. Some (get_or xs p d).1) (sym (reverse-reverse v)) ∙ (stands_at (reverse v) p h).1 d

-- ---- a name is bound

pub places_more : {S : Type 0} (m m' : HashMap (String Global) ℕ S) (k : String Global) (v v' : Bindings) (n : List ℕ) (s : Shaped) (p : ℕ) → string_bytes k ≡ n → p ≡ length v → UpdatesBy string_eq (string_eq k) m m' (Some p)
    → v' ≡ v ++ (n, s) ∷ [] → GivesPlaces m.entries (reverse v) → GivesPlaces m'.entries (reverse v')
places_more m m' k v v' n s p same is updates e gives q =
    let place : p ≡ length (reverse v) = is ∙ sym (length-reverse v) in
    hash_map_updates_text (string_bytes k) m m' (Some p) updates q
    ∙ (λ j. if bytes_eq (same j) q then Some (place j) else gives q j)
    ∙ sym (ap (place_of q) (ap reverse e ∙ reverse_push v (n, s)))

-- ---- the latest of a name stands for something else

module _ (n : List ℕ) (s : Shaped) where
  length_by : (b : List ℕ × Shaped) (bs : Bindings) → length (rebound n s bs) ≡ length bs → (t : Bool) → length (if t then (b.0, s) ∷ bs else b ∷ rebound n s bs) ≡ length (b ∷ bs)
  length_by b bs rest true = refl
  length_by b bs rest false = omega (arith, rest)

  length-rebound : (bs : Bindings) → length (rebound n s bs) ≡ length bs
  length-rebound [] = refl
  length-rebound (b ∷ bs) = length_by b bs (length-rebound bs) (bytes_eq b.0 n)

  place_by : (m : List ℕ) (b : List ℕ × Shaped) (bs : Bindings) → place_of m (rebound n s bs) ≡ place_of m bs → (t : Bool) → place_of m (if t then (b.0, s) ∷ bs else b ∷ rebound n s bs) ≡ place_of m (b ∷ bs)
  place_by m b bs rest true = refl
  place_by m b bs rest false = λ j. if bytes_eq b.0 m then Some (length-rebound bs j) else rest j

  pub place-rebound : (m : List ℕ) (bs : Bindings) → place_of m (rebound n s bs) ≡ place_of m bs
  place-rebound m [] = refl
  place-rebound m (b ∷ bs) = place_by m b bs (place-rebound m bs) (bytes_eq b.0 n)

  unbound_by : (b : List ℕ × Shaped) (bs : Bindings) → (place_of n bs ≡ None → rebound n s bs ≡ bs) → (t : Bool) → (if t then Some (length bs) else place_of n bs) ≡ None → (if t then (b.0, s) ∷ bs else b ∷ rebound n s bs) ≡ b ∷ bs
  unbound_by b bs rest true h = cc
  unbound_by b bs rest false h = ap (λ xs. b ∷ xs) (rest h)

  pub rebound_nowhere : (bs : Bindings) → place_of n bs ≡ None → rebound n s bs ≡ bs
  rebound_nowhere [] h = refl
  rebound_nowhere (b ∷ bs) h = unbound_by b bs (rebound_nowhere bs) (bytes_eq b.0 n) h

  -- what stands at a place, with another shape
  abbrev changed : List ℕ × Shaped → List ℕ × Shaped
  changed b = (b.0, s)

  abbrev SetsAt : Bindings → ℕ → Bindings → Type 0
  SetsAt bs p cs = (d : List ℕ × Shaped) → reverse (set (reverse bs) p (changed (get_or (reverse bs) p d))) ≡ cs

  sets_by : (b : List ℕ × Shaped) (bs : Bindings) (p : ℕ) → ((q : ℕ) → place_of n bs ≡ Some q → (q < length bs) × SetsAt bs q (rebound n s bs)) → (t : Bool) → (if t then Some (length bs) else place_of n bs) ≡ Some p
      → SetsAt (b ∷ bs) p (if t then (b.0, s) ∷ bs else b ∷ rebound n s bs)
  sets_by b bs p rest true h d =
      let e : length (reverse bs) ≡ p = length-reverse bs ∙ cc in
      let here : get_or (reverse (b ∷ bs)) p d ≡ b = ap (λ xs. get_or xs p d) (reverse_first b bs) ∙ get_or_at (reverse bs) b [] d p e in
      (λ j. reverse (set (reverse_first b bs j) p (changed (here j))))
      ∙ ap reverse (set_at (reverse bs) b [] (b.0, s) p e)
      ∙ reverse_push (reverse bs) (b.0, s)
      ∙ ap (λ xs. (b.0, s) ∷ xs) (reverse-reverse bs)
  sets_by b bs p rest false h d =
      let there = rest p h in
      let lt : p < length (reverse bs) = below_reversed bs p there.0 in
      let here : get_or (reverse (b ∷ bs)) p d ≡ get_or (reverse bs) p d = ap (λ xs. get_or xs p d) (reverse_first b bs) ∙ get_or_append_left (reverse bs) (b ∷ []) d p lt in
      (λ j. reverse (set (reverse_first b bs j) p (changed (here j))))
      ∙ ap reverse (set-append_left (reverse bs) (b ∷ []) p (changed (get_or (reverse bs) p d)) lt)
      ∙ reverse_push (set (reverse bs) p (changed (get_or (reverse bs) p d))) b
      ∙ ap (λ xs. b ∷ xs) (there.1 d)

  sets_at : (bs : Bindings) (p : ℕ) → place_of n bs ≡ Some p → SetsAt bs p (rebound n s bs)
  sets_at [] p h = cc
  sets_at (b ∷ bs) p h = sets_by b bs p (λ q k. ((stands_at n bs q k).0, sets_at bs q k)) (bytes_eq b.0 n) h

  -- the same of a vector
  pub rebound_at : (v : Bindings) (p : ℕ) (d : List ℕ × Shaped) → place_of n (reverse v) ≡ Some p → reverse (set v p ((get_or v p d).0, s)) ≡ rebound n s (reverse v)
  rebound_at v p d h = ap (λ xs. reverse (set xs p (changed (get_or xs p d)))) (sym (reverse-reverse v)) ∙ sets_at (reverse v) p h d
