-- Items that wait, by plain values.
use Rattle.std.proofs.Common.{◌≡◌, ℕ, zero, suc, ◌<◌, List, [], ◌∷◌, ◌++◌, map, length, get_or, take, drop, refl, sym, ◌∙◌, arith}
use Rattle.nf_value.specs.Plain.{Plain}
use Rattle.nf_spot.specs.Heads.{no_inlet}
use Rattle.std.specs.Prelude.{remove}
use Rattle.std.proofs.lemmas.List.{map-append, take-map, drop-map}

pub map_remove : {A B : Type 0} (f : A → B) (xs : List A) (i : ℕ) → map f (remove xs i) ≡ remove (map f xs) i
map_remove f xs i = map-append f (take i xs) (drop (suc i) xs) ∙ (λ j. sym (take-map f i xs) j ++ sym (drop-map f (suc i) xs) j)

-- a port at which something waits is there
pub within : (ports : List (ℕ × List Plain)) (port place : ℕ) → place < length (get_or ports port no_inlet).1 → port < length ports
within [] port place l = absurd (omega arith)
within (p ∷ ports) zero place l = omega arith
within (p ∷ ports) (suc port) place l = (let m = within ports port place l in omega arith)

-- one more of what stands past the end
pub more_default : {A : Type 0} (xs : List A) (d y : A) → y ≡ d → ((i : ℕ) → get_or xs i d ≡ d) → (i : ℕ) → get_or (xs ++ y ∷ []) i d ≡ d
more_default [] d y e all zero = e
more_default [] d y e all (suc i) = refl
more_default (x ∷ xs) d y e all zero = all zero
more_default (x ∷ xs) d y e all (suc i) = more_default xs d y e (λ j. all (suc j)) i
