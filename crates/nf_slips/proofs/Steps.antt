-- What a list breaks, part by part.
use Rattle.std.proofs.Common.{◌≡◌, ℕ, ◌+◌, ◌<◌, List, ◌∷◌, ◌++◌, length, get_or, drop, Result, OnOk, refl, sym, ap, subst, ◌∙◌, append_assoc, add-one, drop-cons}
use Rattle.nf_kinds.specs.declared.fault.Broken.{Broken}

left : {X : Type 0} (xs : List X) (i : ℕ) (x : X) → i < length xs → x ≡ get_or xs i x → drop i xs ≡ x ∷ drop (i + 1) xs
left xs i x h is = rw (add-one, drop-cons xs i x, ← is) refl

pub step : {X : Type 0} (g : List X → List Broken) (xs : List X) (i : ℕ) (x : X) (old new one all : List Broken) → i < length xs → x ≡ get_or xs i x → g (x ∷ drop (i + 1) xs) ≡ one ++ g (drop (i + 1) xs) → new ≡ old ++ one → old ++ g (drop i xs) ≡ all → new ++ g (drop (i + 1) xs) ≡ all
step g xs i x old new one all h is eq e inv =
    ap (λ v. v ++ g (drop (i + 1) xs)) e ∙ append_assoc old one (g (drop (i + 1) xs)) ∙ ap (λ v. old ++ v) (sym eq ∙ sym (ap g (left xs i x h is))) ∙ inv

pub joined : (old mid new one two all : List Broken) → mid ≡ old ++ one → all ≡ one ++ two → new ≡ mid ++ two → new ≡ old ++ all
joined old mid new one two all e a h = h ∙ ap (λ v. v ++ two) e ∙ append_assoc old one two ∙ ap (λ v. old ++ v) (sym a)

pub alike : {A E : Type 0} (r : Result A E) (old new us vs : List Broken) → us ≡ vs → OnOk r (new ≡ old ++ us) → OnOk r (new ≡ old ++ vs)
alike r old new us vs e h = subst (λ (l : List Broken). OnOk r (new ≡ old ++ l)) e h

-- one turn of a loop
pub carried : {X R : Type 0} (f g : List X → R) (xs : List X) (i : ℕ) (x : X) (all : R) → i < length xs → x ≡ get_or xs i x → f (x ∷ drop (i + 1) xs) ≡ g (drop (i + 1) xs) → f (drop i xs) ≡ all → g (drop (i + 1) xs) ≡ all
carried f g xs i x all lt is step inv = sym step ∙ ap f (sym (left xs i x lt is)) ∙ inv
