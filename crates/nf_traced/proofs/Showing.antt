-- What a loop adds up, one item after another.
use Rattle.std.proofs.Common.{◌≡◌, ℕ, ◌+◌, ◌<◌, ◌≤◌, List, ◌∷◌, ◌++◌, length, get_or, drop, ap, sym, ◌∙◌, append-nil}
use Rattle.std.specs.List.{flat_map}
use Rattle.std.proofs.lemmas.List.{append_assoc, drop_more, drop_all, get_or_default}

-- one item more, of a list that is told by what it gives for each of these
given_next : {A B : Type 0} (f : A → List B) (all given new : List B) (xs : List A) (i : ℕ) (x : A) → i < length xs → x ≡ get_or xs i x → given ++ flat_map f (drop i xs) ≡ all
    → new ≡ given ++ f x → new ++ flat_map f (drop (i + 1) xs) ≡ all
given_next f all given new xs i x l is so more =
    let split : drop i xs ≡ x ∷ drop (i + 1) xs = drop_more xs i x l ∙ ap (λ y. y ∷ drop (i + 1) xs) (sym is) in
    ap (λ ys. ys ++ flat_map f (drop (i + 1) xs)) more
    ∙ append_assoc given (f x) (flat_map f (drop (i + 1) xs))
    ∙ ap (λ ys. given ++ flat_map f ys) (sym split) ∙ so

-- the same with the item at its place, whatever stands past the list
pub given_at : {A B : Type 0} (f : A → List B) (all given new : List B) (xs : List A) (i : ℕ) (d : A) → i < length xs → given ++ flat_map f (drop i xs) ≡ all → new ≡ given ++ f (get_or xs i d)
    → new ++ flat_map f (drop (i + 1) xs) ≡ all
given_at f all given new xs i d l so more = given_next f all given new xs i (get_or xs i d) l (get_or_default xs i d (get_or xs i d) l) so more

pub given_all : {A B : Type 0} (f : A → List B) (all given : List B) (xs : List A) (i : ℕ) → length xs ≤ i → given ++ flat_map f (drop i xs) ≡ all → given ≡ all
given_all f all given xs i l so = sym (append-nil given) ∙ ap (λ ys. given ++ flat_map f ys) (sym (drop_all i xs l)) ∙ so
