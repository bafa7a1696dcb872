-- Reading each item of a list from the front.
use Rattle.std.proofs.Common.{◌≡◌, ℕ, ◌+◌, ◌<◌, ◌≤◌, List, [], ◌∷◌, ◌++◌, length, map, get_or, drop, Option, None, Some, option_map, refl, ap, sym, ◌∙◌, add-one, append_assoc, append-nil}
use Rattle.std.specs.Option.{option_and_then}
use Rattle.std.proofs.Math.Seq.{drop-cons}
use Rattle.std.proofs.lemmas.List.{drop_all}
use Rattle.nf_value.specs.Plain.{Plain, plains_of}
use Rattle.nf_value.specs.View.{plain_of}
use Rattle.nf_value.specs.declared.value.Value.{Value}
use Rattle.nf_record.specs.Parts.{all_in}

-- what was found, before what is found in the rest
abbrev pub ahead : {A : Type 0} → List A → Option (List A) → Option (List A)
ahead xs o = option_map (λ ys. xs ++ ys) o

-- what is found in the items from the i-th on
abbrev pub found_from : {A : Type 0} → (Plain → Option A) → List Value → ℕ → Option (List A)
found_from f vs i = all_in f (plains_of (map plain_of (drop i vs)))

pub nothing_ahead : {A : Type 0} (o : Option (List A)) → o ≡ ahead [] o
nothing_ahead None = refl
nothing_ahead (Some xs) = refl

grown : {A : Type 0} (xs : List A) (x : A) (o : Option (List A)) → ahead xs (option_and_then (λ ys. Some (x ∷ ys)) o) ≡ ahead (xs ++ x ∷ []) o
grown xs x None = refl
grown xs x (Some ys) = ap Some (sym (append_assoc xs (x ∷ []) ys))

module _ {A : Type 0} (f : Plain → Option A) (vs : List Value) (i : ℕ) where
  next : (v : Value) → i < length vs → v ≡ get_or vs i v → found_from f vs i ≡ option_and_then (λ x. option_and_then (λ ys. Some (x ∷ ys)) (found_from f vs (i + 1))) (f (plain_of v))
  next v h is = rw (drop-cons vs i v, ← is, add-one) refl

  -- one more item, in which x is found
  pub one_more : (v : Value) (xs : List A) (x : A) (all : Option (List A)) → i < length vs → v ≡ get_or vs i v → Some x ≡ f (plain_of v) → all ≡ ahead xs (found_from f vs i) → all ≡ ahead (xs ++ x ∷ []) (found_from f vs (i + 1))
  one_more v xs x all h is found so =
      so ∙ ap (ahead xs) (next v h is) ∙ ap (λ o. ahead xs (option_and_then (λ y. option_and_then (λ ys. Some (y ∷ ys)) (found_from f vs (i + 1))) o)) (sym found) ∙ grown xs x (found_from f vs (i + 1))

  -- an item in which nothing is found
  pub stops : (v : Value) (xs : List A) (all : Option (List A)) → i < length vs → v ≡ get_or vs i v → None ≡ f (plain_of v) → all ≡ ahead xs (found_from f vs i) → None ≡ all
  stops v xs all h is found so =
      sym (so ∙ ap (ahead xs) (next v h is) ∙ ap (λ o. ahead xs (option_and_then (λ y. option_and_then (λ ys. Some (y ∷ ys)) (found_from f vs (i + 1))) o)) (sym found))

  pub ends : (xs : List A) (all : Option (List A)) → length vs ≤ i → all ≡ ahead xs (found_from f vs i) → Some xs ≡ all
  ends xs all h so = sym (so ∙ ap (λ ws. ahead xs (all_in f (plains_of (map plain_of ws)))) (drop_all i vs h) ∙ ap Some (append-nil xs))
