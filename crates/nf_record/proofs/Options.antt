-- Steps that may find nothing.
use Rattle.std.proofs.Common.{◌≡◌, Option, None, Some, refl}
use Rattle.std.specs.Option.{option_and_then}

-- what a step found, where the whole found something
pub some_then : {A B : Type 0} (k : A → Option B) (o : Option A) (y : B) → option_and_then k o ≡ Some y → (x : A) × (o ≡ Some x) × (k x ≡ Some y)
some_then k None y h = absurd (cc)
some_then k (Some x) y h = (x, refl, h)

module _ {A B C D : Type 0} (k : A → B → C → D) where
  -- k of what three steps find
  abbrev pub of_three : Option A → Option B → Option C → Option D
  of_three o p q = option_and_then (λ x. option_and_then (λ y. option_and_then (λ z. Some (k x y z)) q) p) o

  pub three_steps : (o : Option A) (p : Option B) (q : Option C) (a : A) (b : B) (c : C) → o ≡ Some a → p ≡ Some b → q ≡ Some c → of_three o p q ≡ Some (k a b c)
  three_steps o p q a b c f g h = λ i. of_three (f i) (g i) (h i)

  pub three_found : (o : Option A) (p : Option B) (q : Option C) (d : D) → of_three o p q ≡ Some d → (a : A) × (b : B) × (c : C) × (o ≡ Some a) × (p ≡ Some b) × (q ≡ Some c) × (k a b c ≡ d)
  three_found None p q d h = absurd (cc)
  three_found (Some a) None q d h = absurd (cc)
  three_found (Some a) (Some b) None d h = absurd (cc)
  three_found (Some a) (Some b) (Some c) d h = (a, b, c, refl, refl, refl, cc)
