-- The report that decides a task says what it comes to, and what is published.
use Rattle.std.proofs.Common.{◌≡◌, ◌≢◌, ◌+◌, ℕ, suc, List, [], ◌∷◌, ◌++◌, length, true, Option, None, Result, Ok, Err, is_ok, refl, ap, sym, subst, ◌∙◌, arith}
use Rattle.nf_job.specs.declared.parts.JobParts.{JobParts}
use Rattle.nf_job.specs.declared.report.Report.{Report}
use Rattle.nf_job.specs.declared.fault.TaskFault.{TaskFault}
use Rattle.nf_job.specs.declared.emitted.Outputs.TheVariants.{Emits, Ignored, Failed, Again}
use Rattle.nf_tasks.specs.declared.target_list.Target.{Target}
use Rattle.nf_tasks.specs.Judged.{Judged}
use Rattle.nf_graph.specs.Rules.{Outs, decided_by, decided, AreTriedAgain}
use Rattle.nf_meaning.specs.Meaning.{Instance}
use Rattle.nf_meaning.specs.Tasks.{TaskCall, job, outs, published, reports_of, targets_if, targets_from, targets_in}
use Rattle.nf_meaning.specs.Deciding.{DecidedAt, DecidesAlone, IsUndecided}

-- what comes after a report that isn't tried again has no effect
published_alone : (o : Outs) (p : Judged (List Target)) (later : List Target) → o ≢ Ok Again → targets_if o p later ≡ targets_if o p []
published_alone (Ok Again) p later h = absurd (h refl)
published_alone (Ok (Emits vs)) (Ok ts) later h = refl
published_alone (Ok (Emits vs)) (Err f) later h = refl
published_alone (Ok Ignored) p later h = refl
published_alone (Ok (Failed f)) p later h = refl
published_alone (Err f) p later h = refl

decided_alone : (j : Result JobParts TaskFault) (o : Outs) (later : Option Outs) → o ≢ Ok Again → decided_by j o later ≡ decided_by j o None
decided_alone (Err f) o later h = refl
decided_alone (Ok j) (Ok Again) later h = absurd (h refl)
decided_alone (Ok j) (Ok (Emits vs)) later h = refl
decided_alone (Ok j) (Ok Ignored) later h = refl
decided_alone (Ok j) (Ok (Failed f)) later h = refl
decided_alone (Ok j) (Err f) later h = refl

again_decides : (j : Result JobParts TaskFault) (o : Outs) (rest : Option Outs) → is_ok j ≡ true → o ≡ Ok Again → decided_by j o rest ≡ rest
again_decides (Ok j) o rest h e = ap (λ z. decided_by (Ok j) z rest) e
again_decides (Err f) o rest h e = absurd cc

targets_at : (outs : ℕ → Report → Outs) (published : ℕ → Report → Judged (List Target)) (jobs : ℕ → Result JobParts TaskFault) (a b : ℕ) (earlier : List Report) (r : Report) (later : List Report)
    → AreTriedAgain jobs outs a earlier → a + length earlier ≡ b → outs b r ≢ Ok Again
    → targets_from outs published a (earlier ++ r ∷ later) ≡ targets_if (outs b r) (published b r) []
targets_at outs published jobs a b [] r later t e h =
    let same : a ≡ b = omega (arith, e) in
    subst (λ z. targets_from outs published z (r ∷ later) ≡ targets_if (outs b r) (published b r) []) (sym same) (published_alone (outs b r) (published b r) _ h)
targets_at outs published jobs a b (q ∷ earlier) r later t e h =
    ap (λ z. targets_if z (published a q) (targets_from outs published (suc a) (earlier ++ r ∷ later))) t.1
    ∙ targets_at outs published jobs (suc a) b earlier r later t.2 (omega (arith, e)) h

decided_at : (outs : ℕ → Report → Outs) (jobs : ℕ → Result JobParts TaskFault) (a b : ℕ) (earlier : List Report) (r : Report) (later : List Report)
    → AreTriedAgain jobs outs a earlier → a + length earlier ≡ b → outs b r ≢ Ok Again
    → decided jobs outs a (earlier ++ r ∷ later) ≡ decided_by (jobs b) (outs b r) None
decided_at outs jobs a b [] r later t e h =
    let same : a ≡ b = omega (arith, e) in
    subst (λ z. decided jobs outs z (r ∷ later) ≡ decided_by (jobs b) (outs b r) None) (sym same) (decided_alone (jobs b) (outs b r) _ h)
decided_at outs jobs a b (q ∷ earlier) r later t e h =
    again_decides (jobs a) (outs a q) (decided jobs outs (suc a) (earlier ++ r ∷ later)) t.0 t.1
    ∙ decided_at outs jobs (suc a) b earlier r later t.2 (omega (arith, e)) h

pub decides_alone : (c : TaskCall) (z : Instance) (d : DecidedAt c z) → DecidesAlone c z (1 + length d.earlier) d.report
decides_alone c z d = record {
  decided =
      ap (λ rs. decided (job c.called z.inputs z.n) (outs c.called z.inputs) 1 rs) d.reports
      ∙ decided_at (outs c.called z.inputs) (job c.called z.inputs z.n) 1 (1 + length d.earlier) d.earlier d.report d.later d.before refl d.not_again;
  targets =
      ap (λ rs. targets_from (outs c.called z.inputs) (published c.called z.inputs) 1 rs) d.reports
      ∙ targets_at (outs c.called z.inputs) (published c.called z.inputs) (job c.called z.inputs z.n) 1 (1 + length d.earlier) d.earlier d.report d.later d.before refl d.not_again;
}

none_from : (outs : ℕ → Report → Outs) (published : ℕ → Report → Judged (List Target)) (jobs : ℕ → Result JobParts TaskFault) (a : ℕ) (rs : List Report) → AreTriedAgain jobs outs a rs
    → targets_from outs published a rs ≡ []
none_from outs published jobs a [] t = refl
none_from outs published jobs a (r ∷ rs) t =
    ap (λ z. targets_if z (published a r) (targets_from outs published (suc a) rs)) t.1 ∙ none_from outs published jobs (suc a) rs t.2

pub none_yet : (c : TaskCall) (z : Instance) → IsUndecided c z → targets_in c z ≡ []
none_yet c z h = none_from (outs c.called z.inputs) (published c.called z.inputs) (job c.called z.inputs z.n) 1 (reports_of c z) h
