-- What is told of a process changes its row alone.
use Rattle.std.proofs.Common.{◌≡◌, ℕ, ◌<◌, zero, suc, List, [], ◌∷◌, refl, ap, ◌∙◌, arith, length, get_or, set}
use Rattle.nf_progress.specs.declared.board.Tasks.{Tasks}
use Rattle.nf_progress.specs.declared.counts.Counts.{Counts}
use Rattle.nf_progress.specs.declared.counts.Step.{Step}
use Rattle.nf_progress.specs.Board.{told_of}
use Rattle.nf_progress.specs.Counts.{counts_after}

abbrev row : List ℕ → Counts → Tasks
row process counts = record { process = process; counts = counts }

pub told_at : (ts : List Tasks) (i : ℕ) (s : Step) (t : Tasks) (c : Counts) → i < length ts → t ≡ get_or ts i t → c ≡ counts_after s t.counts
    → set ts i (record { process = t.process; counts = c }) ≡ told_of ts i s
told_at [] i s t c lt at is = absurd (omega (arith, lt))
told_at (x ∷ xs) zero s t c lt at is = ap (λ r. r ∷ xs) (ap (λ k. row t.process k) is ∙ ap (λ (r : Tasks). row r.process (counts_after s r.counts)) at)
told_at (x ∷ xs) (suc i) s t c lt at is = ap (λ ys. x ∷ ys) (told_at xs i s t c (omega (arith, lt)) at is)

pub told_past : (ts : List Tasks) (i : ℕ) (s : Step) → (i < length ts → ⊥) → ts ≡ told_of ts i s
told_past [] i s past = refl
told_past (x ∷ xs) zero s past = absurd (past (omega arith))
told_past (x ∷ xs) (suc i) s past = ap (λ ys. x ∷ ys) (told_past xs i s (λ lt. past (omega (arith, lt))))
