-- A store with more digests has all that it had.
use Rattle.std.proofs.Common.{◌≡◌, List, ◌++◌, ◌||◌, bytes_eq, ap, ◌∙◌}
use Rattle.std.proofs.lemmas.List.Folds.{list_any-append}
use Rattle.nf_value.specs.declared.file.Digest.{Digest}
use Rattle.nf_lane.specs.Store.{Grows, holds}

pub grows_by : (xs ys zs : List Digest) → zs ≡ xs ++ ys → Grows (holds xs) (holds zs)
grows_by xs ys zs is d h = ap (λ ws. holds ws d) is ∙ list_any-append (λ s. bytes_eq s.0 d) xs ys ∙ ap (λ b. b || holds ys d) h

pub grows_same : (xs zs : List Digest) → zs ≡ xs → Grows (holds xs) (holds zs)
grows_same xs zs is d h = ap (λ ws. holds ws d) is ∙ h
