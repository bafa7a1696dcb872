-- Names in memory, one more each time.
use Rattle.std.proofs.Common.{◌≡◌, ℕ, Bool, true, false, List, [], ◌∷◌, ◌++◌, Ok, Err, refl, ap, sym, ◌∙◌}
use Rattle.std.specs.Prelude.{◌||◌, if◌then◌else◌, bytes_eq}
use Rattle.nf_value.specs.declared.place.Place.{Place}
use Rattle.nf_builtins.specs.Natives.{is_among}
use Rattle.nf_meaning.specs.declared.fault.LowerFault.TheVariants.{TwiceDefined}
use Rattle.nf_meaning.specs.Lowered.{Lowered}
use Rattle.nf_lowered.specs.Given.{HasValue}
use Rattle.nf_called.specs.declared.names.Names.{Names}
use Rattle.nf_called.specs.Names.{Knows, named}

swap : (a b c : Bool) → (a || (b || c)) ≡ (b || (a || c))
swap true true c = refl
swap true false c = refl
swap false true c = refl
swap false false c = refl

-- a name at the end of a list
pub among_push : (k n : List ℕ) (ns : List (List ℕ)) → is_among k (ns ++ n ∷ []) ≡ (bytes_eq n k || is_among k ns)
among_push k n [] = refl
among_push k n (m ∷ ns) = ap (λ b. bytes_eq m k || b) (among_push k n ns) ∙ swap (bytes_eq m k) (bytes_eq n k) (is_among k ns)

abbrev answer : Place → List ℕ → List (List ℕ) → Bool → Lowered (List (List ℕ))
answer p n before b = if b then Err (TwiceDefined p) else Ok (n ∷ before)

pub named_again : (p : Place) (n : List ℕ) (before : List (List ℕ)) (x : Names) → Knows x before → is_among n x.names.items ≡ true → named p n before ≡ Err (TwiceDefined p)
named_again p n before x knows h = ap (answer p n before) (sym (knows.same n) ∙ h)

pub named_first : (p : Place) (n : List ℕ) (before : List (List ℕ)) (x y : Names) → Knows x before → is_among n x.names.items ≡ false → y.names.items ≡ x.names.items ++ n ∷ []
    → HasValue (named p n before) (Knows y)
named_first p n before x y knows h pushed = record {
  value = n ∷ before;
  is = ap (answer p n before) (sym (knows.same n) ∙ h);
  fits = record { same = λ k. ap (is_among k) pushed ∙ among_push k n x.names.items ∙ ap (λ b. bytes_eq n k || b) (knows.same k) };
}
