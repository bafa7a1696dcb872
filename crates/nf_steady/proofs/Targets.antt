-- What a task publishes is told by the reports that decide it.
use Rattle.std.proofs.Common.{◌≡◌, ℕ, suc, List, [], ◌∷◌, ◌++◌, refl, ap, sym, ◌∙◌}
use Rattle.std.specs.Prelude.{Option, Some, None, Result, Ok, Err}
use Rattle.nf_value.specs.Plain.{Plain}
use Rattle.nf_job.specs.declared.emitted.Outputs.TheVariants.{Emits, Ignored, Failed, Again}
use Rattle.nf_job.specs.declared.fault.TaskFault.{TaskFault}
use Rattle.nf_job.specs.declared.parts.JobParts.{JobParts}
use Rattle.nf_job.specs.declared.report.Report.{Report}
use Rattle.nf_graph.specs.Rules.{Outs, Rules, decided, decided_by, fault_of, refused_by}
use Rattle.nf_graph.specs.Meaning.{Instance, Outcomes}
use Rattle.nf_machine.specs.History.{Agrees}
use Rattle.nf_machine.specs.State.{State}
use Rattle.nf_tasks.specs.Judged.{Judged}
use Rattle.nf_tasks.specs.declared.target_list.Target.{Target}
use Rattle.nf_meaning.specs.Tasks.{targets_from, targets_if}
use Rattle.nf_steady.proofs.Deciding.{IsSettled}

-- what decides it is no fault
fault_decides : (f : TaskFault) (x : Outs) → ◌≡◌ {A = Option Outs} (Some (Err f)) (Some x) → fault_of x ≡ [] → ⊥
fault_decides f (Err y) e none = absurd cc
fault_decides f (Ok y) e none = absurd cc

undecided : (x : Outs) → ◌≡◌ {A = Option Outs} None (Some x) → ⊥
undecided x e = absurd cc

module _ (job : ℕ → Result JobParts TaskFault) (outs : ℕ → Report → Outs)
    (published : ℕ → Report → Judged (List Target)) (x : Outs) (fine : fault_of x ≡ []) where
  refused : (j : Result JobParts TaskFault) (a z : List Target) → refused_by j ≡ Some x → a ≡ z
  refused (Err f) a z e = absurd (fault_decides f x e fine)
  refused (Ok p) a z e = absurd (undecided x e)

  -- only after a report that is tried again the later ones matter
  one : (j : Result JobParts TaskFault) (y : Outs) (p : Judged (List Target)) (later : Option Outs) (a z : List Target)
      → decided_by j y later ≡ Some x → (later ≡ Some x → a ≡ z) → targets_if y p a ≡ targets_if y p z
  one (Err f) y p later a z e more = absurd (fault_decides f x e fine)
  one (Ok k) (Ok Again) p later a z e more = more e
  one (Ok k) (Ok (Emits vs)) (Ok ts) later a z e more = refl
  one (Ok k) (Ok (Emits vs)) (Err f) later a z e more = refl
  one (Ok k) (Ok Ignored) p later a z e more = refl
  one (Ok k) (Ok (Failed f)) p later a z e more = refl
  one (Ok k) (Err f) p later a z e more = refl

  on : (a : ℕ) (told xs ys : List Report) → decided job outs a told ≡ Some x
      → targets_from outs published a (told ++ xs) ≡ targets_from outs published a (told ++ ys)
  on a [] xs ys d = refused (job a) (targets_from outs published a xs) (targets_from outs published a ys) d
  on a (r ∷ told) xs ys d =
      one (job a) (outs a r) (published a r) (decided job outs (suc a) told)
      (targets_from outs published (suc a) (told ++ xs)) (targets_from outs published (suc a) (told ++ ys)) d
      (λ e. on (suc a) told xs ys e)

-- all outcomes that agree with the state publish the same for an instance that it settles
pub publish_alike : (R : Rules) (s : State) (published : List Plain → ℕ → Report → Judged (List Target))
    (o u : Outcomes) → Agrees o s → Agrees u s → (i : ℕ) (z : Instance) → IsSettled R s i z
    → targets_from (R.outputs i z.0) (published z.0) 1 (o i z.0 z.1) ≡ targets_from (R.outputs i z.0) (published z.0) 1 (u i z.0 z.1)
publish_alike R s published o u first second i z d =
    let a = d.fronts o first in
    let c = d.fronts u second in
    ap (targets_from (R.outputs i z.0) (published z.0) 1) a.is
    ∙ on (R.job i z.0 z.1) (R.outputs i z.0) (published z.0) d.outs d.fine 1 d.told a.rest c.rest d.by
    ∙ ap (targets_from (R.outputs i z.0) (published z.0) 1) (sym c.is)
