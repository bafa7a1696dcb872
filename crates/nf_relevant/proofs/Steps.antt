-- What a list adds, part by part.
use Rattle.std.proofs.Common.{◌≡◌, ℕ, ◌+◌, ◌<◌, List, ◌∷◌, ◌++◌, length, get_or, drop, Result, OnOk, refl, sym, ap, subst, ◌∙◌, append_assoc, add-one, drop-cons}

left : {X : Type 0} (xs : List X) (i : ℕ) (x : X) → i < length xs → x ≡ get_or xs i x → drop i xs ≡ x ∷ drop (i + 1) xs
left xs i x h is = rw (add-one, drop-cons xs i x, ← is) refl

-- the list goes on after one more item
pub step : {X Y : Type 0} (g : List X → List Y) (xs : List X) (i : ℕ) (x : X) (old new one all : List Y) → i < length xs → x ≡ get_or xs i x
    → g (x ∷ drop (i + 1) xs) ≡ one ++ g (drop (i + 1) xs) → new ≡ old ++ one → old ++ g (drop i xs) ≡ all → new ++ g (drop (i + 1) xs) ≡ all
step g xs i x old new one all h is eq e inv =
    ap (λ v. v ++ g (drop (i + 1) xs)) e ∙ append_assoc old one (g (drop (i + 1) xs)) ∙ ap (λ v. old ++ v) (sym eq ∙ sym (ap g (left xs i x h is))) ∙ inv

pub joined : {Y : Type 0} (old mid new one two all : List Y) → mid ≡ old ++ one → all ≡ one ++ two → new ≡ mid ++ two → new ≡ old ++ all
joined old mid new one two all e a h = h ∙ ap (λ v. v ++ two) e ∙ append_assoc old one two ∙ ap (λ v. old ++ v) (sym a)

pub same_added : {Y A E : Type 0} (r : Result A E) (old new us vs : List Y) → us ≡ vs → OnOk r (new ≡ old ++ us) → OnOk r (new ≡ old ++ vs)
same_added {Y} r old new us vs e h = subst (λ (l : List Y). OnOk r (new ≡ old ++ l)) e h
