-- Names after two arms, which have the same names in the same order.
use Rattle.std.proofs.Common.{◌≡◌, [], ◌∷◌, ◌++◌, length, reverse, refl, sym, ap, ◌∙◌, inl, inr}
use Rattle.std.specs.Prelude.{◌⊎◌}
use Rattle.std.proofs.lemmas.List.{append-nil, nil_from_length}
use Rattle.nf_kinds.specs.Scope.{Bindings, aligned}

aligned_nil : (xs : Bindings) → aligned xs [] ≡ []
aligned_nil [] = refl
aligned_nil (x ∷ xs) = refl

-- where one of the two has no more names
none_aligned : (xs bs : Bindings) → (length xs ≡ 0) ⊎ (length bs ≡ 0) → aligned (reverse xs) (reverse bs) ≡ []
none_aligned xs bs (inl h) = ap (λ v. aligned (reverse v) (reverse bs)) (nil_from_length xs h)
none_aligned xs bs (inr h) = ap (λ v. aligned (reverse xs) (reverse v)) (nil_from_length bs h) ∙ aligned_nil (reverse xs)

pub aligned_end : (out xs bs all : Bindings) → (length xs ≡ 0) ⊎ (length bs ≡ 0) → out ++ aligned (reverse xs) (reverse bs) ≡ all → out ≡ all
aligned_end out xs bs all h inv = sym (ap (λ v. out ++ v) (none_aligned xs bs h) ∙ append-nil out) ∙ inv
