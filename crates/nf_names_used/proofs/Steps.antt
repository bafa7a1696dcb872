-- What a list uses, part by part.
use Rattle.std.proofs.Common.{◌≡◌, ℕ, ◌+◌, ◌<◌, List, [], ◌∷◌, ◌++◌, length, get_or, drop, Result, Ok, Err, OnOk, refl, sym, ap, subst, ◌∙◌, append_assoc, add-one, drop-cons}
use Rattle.nf_ast.specs.Tree.{Tree, cons}
use Rattle.nf_names_used.specs.declared.uses.Use.{Use}
use Rattle.nf_names_used.specs.Uses.{Names, defined, defined_by, uses}
use Rattle.nf_names_used.proofs.Chains.{defined_nothing}

left : {X : Type 0} (xs : List X) (i : ℕ) (x : X) → i < length xs → x ≡ get_or xs i x → drop i xs ≡ x ∷ drop (i + 1) xs
left xs i x h is = rw (add-one, drop-cons xs i x, ← is) refl

pub step : {X : Type 0} (g : List X → List Use) (xs : List X) (i : ℕ) (x : X) (old new one all : List Use) → i < length xs → x ≡ get_or xs i x → g (x ∷ drop (i + 1) xs) ≡ one ++ g (drop (i + 1) xs) → new ≡ old ++ one → old ++ g (drop i xs) ≡ all → new ++ g (drop (i + 1) xs) ≡ all
step g xs i x old new one all h is eq e inv =
    ap (λ v. v ++ g (drop (i + 1) xs)) e ∙ append_assoc old one (g (drop (i + 1) xs)) ∙ ap (λ v. old ++ v) (sym eq ∙ sym (ap g (left xs i x h is))) ∙ inv

pub nothing_defined : (a more : Tree) (names : Names) → defined_by a ≡ [] → uses (cons a more) names ≡ uses a names ++ uses more names
nothing_defined a more names h = ap (λ ns. uses a names ++ uses more ns) (ap (λ l. defined l names) h ∙ defined_nothing names)

-- ---- two parts

pub joined : (old mid new one two all : List Use) → mid ≡ old ++ one → all ≡ one ++ two → new ≡ mid ++ two → new ≡ old ++ all
joined old mid new one two all e a h = h ∙ ap (λ v. v ++ two) e ∙ append_assoc old one two ∙ ap (λ v. old ++ v) (sym a)

pub always : {A E : Type 0} (r : Result A E) (P : Type 0) → P → OnOk r P
always (Ok x) P h = h
always (Err e) P h = tt

pub same_uses : {A E : Type 0} (r : Result A E) (old new us vs : List Use) → us ≡ vs → OnOk r (new ≡ old ++ us) → OnOk r (new ≡ old ++ vs)
same_uses r old new us vs e h = subst (λ (l : List Use). OnOk r (new ≡ old ++ l)) e h
