-- Lines as a slice holds them.
use Rattle.std.proofs.Common.{◌≡◌, ℕ, Bool, true, false, cond, List, [], ◌∷◌, ◌++◌, map, Bor, refl, ap}
use Rattle.std.specs.List.{filter, flat_map}
use Rattle.nf_tasks.specs.Script.{outdented, joined}

pub map-filter_map : {A B C : Type 0} (f : B → C) (p : B → Bool) (g : A → B) (xs : List A) → map (λ x. f (g x)) (filter (λ x. p (g x)) xs) ≡ map f (filter p (map g xs))
map-filter_map f p g [] = refl
map-filter_map {A} {B} {C} f p g (x ∷ xs) = by_first (p (g x)) (filter (λ y. p (g y)) xs) (filter p (map g xs)) (map-filter_map f p g xs)
  where
    by_first : (b : Bool) (us : List A) (vs : List B) → map (λ y. f (g y)) us ≡ map f vs → map (λ y. f (g y)) (cond b (x ∷ us) us) ≡ map f (cond b (g x ∷ vs) vs)
    by_first true us vs h = ap (λ r. f (g x) ∷ r) h
    by_first false us vs h = h

after_first : (margin : ℕ) (lines : List (Bor (List ℕ))) → flat_map (λ line. 10 ∷ outdented margin line.now) lines ≡ flat_map (λ line. (10 ∷ []) ++ line) (map (outdented margin) (map (λ line. line.now) lines))
after_first margin [] = refl
after_first margin (line ∷ lines) = ap (λ r. (10 ∷ outdented margin line.now) ++ r) (after_first margin lines)

pub joined_first : (margin : ℕ) (lines others : List (Bor (List ℕ))) (first : Bor (List ℕ)) → lines ≡ first ∷ others
    → outdented margin first.now ++ flat_map (λ line. 10 ∷ outdented margin line.now) others ≡ joined (map (outdented margin) (map (λ line. line.now) lines))
joined_first margin lines others first is = rw is (ap (λ r. outdented margin first.now ++ r) (after_first margin others))
