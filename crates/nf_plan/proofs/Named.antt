-- The jobs of a plan have the paths of their calls.
use Rattle.std.proofs.Common.{◌≡◌, ℕ, List, true, false, Ok, Err, refl, ap, sym, ◌∙◌}
use Rattle.std.proofs.lemmas.Bool.{true≢false}
use Rattle.nf_value.specs.Plain.{Plain}
use Rattle.nf_job.specs.declared.parts.JobParts.{JobParts}
use Rattle.nf_job.specs.JobText.{inputs_text}
use Rattle.nf_graph.specs.declared.node.NodeKind.{NodeKind}
use Rattle.nf_graph.specs.declared.node.NodeKind.TheVariants as k
use Rattle.nf_graph.specs.WellMade.{node_in}
use Rattle.nf_bodies.specs.Attempts.{NamesJobs}
use Rattle.nf_tasks.specs.Judged.{Judged, ◌>>=◌}
use Rattle.nf_tasks.specs.Memory.{Program, process_of}
use Rattle.nf_tasks.specs.Meaning.{ProcessMeaning}
use Rattle.nf_tasks.specs.Prepared.{parts_with, prepared_of}
use Rattle.nf_tasks.specs.declared.prepared.Prepared.{Prepared}
use Rattle.nf_bodies.specs.declared.body.NodeBody.{NodeBody}
use Rattle.nf_bodies.specs.declared.body.NodeBody.TheVariants as body
use Rattle.nf_bodies.specs.Bodies.{body_in, job_of, rules_of}
use Rattle.nf_plan.specs.declared.builder.PlanBuilder.{PlanBuilder}
use Rattle.nf_plan.specs.Plans.{name_in, is_process, FitsBody, IsPlan}

-- what a job of an attempt at a process's task has
record HasParts (name : List ℕ) (inputs : List Plain) (n attempt : ℕ) (p : JobParts) : Type 0 where
  process : p.process ≡ name
  inputs_are : p.inputs ≡ inputs_text inputs
  n_is : p.n ≡ n
  attempt_is : p.attempt ≡ attempt

has_parts : (s : ProcessMeaning) (inputs : List Plain) (n attempt : ℕ) (p : JobParts) (due : Judged Prepared) → (due >>= λ x. Ok (parts_with s inputs n attempt x)) ≡ Ok p
    → HasParts s.name inputs n attempt p
has_parts s inputs n attempt p (Ok x) h = let e : parts_with s inputs n attempt x ≡ p = cc in record {
  process = sym (ap (λ (q : JobParts). q.process) e);
  inputs_are = sym (ap (λ (q : JobParts). q.inputs) e);
  n_is = sym (ap (λ (q : JobParts). q.n) e);
  attempt_is = sym (ap (λ (q : JobParts). q.attempt) e);
}
has_parts s inputs n attempt p (Err f) h = absurd cc

no_job : {A : Type 0} (w : Program) (b : NodeBody) (inputs : List Plain) (n attempt : ℕ) (p : JobParts) → is_process b ≡ false → job_of w b inputs n attempt ≡ Ok p → A
no_job w (body.Process s) inputs n attempt p h j = absurd (true≢false h)
no_job w body.Source inputs n attempt p h j = absurd cc
no_job w body.Item inputs n attempt p h j = absurd cc
no_job w (body.Literal v) inputs n attempt p h j = absurd cc
no_job w (body.Pattern re) inputs n attempt p h j = absurd cc
no_job w (body.Applied c) inputs n attempt p h j = absurd cc
no_job w (body.Branch cs) inputs n attempt p h j = absurd cc
no_job w (body.MultiMap cs) inputs n attempt p h j = absurd cc

the_process : (w : Program) (kind : NodeKind) (name : List ℕ) (b : NodeBody) (inputs : List Plain) (n attempt : ℕ) (p : JobParts) → FitsBody kind name b → job_of w b inputs n attempt ≡ Ok p
    → HasParts name inputs n attempt p
the_process w (k.Source items) name b inputs n attempt p f j = no_job w b inputs n attempt p f j
the_process w (k.Op row opts) name b inputs n attempt p f j = no_job w b inputs n attempt p f j
the_process w (k.Process queue) name (body.Process s) inputs n attempt p f j =
    let parts = has_parts (process_of w s) inputs n attempt p (prepared_of (process_of w s) inputs attempt) j in
    record { process = parts.process ∙ f; inputs_are = parts.inputs_are; n_is = parts.n_is; attempt_is = parts.attempt_is }
the_process w (k.Process queue) name body.Source inputs n attempt p f j = absurd f
the_process w (k.Process queue) name body.Item inputs n attempt p f j = absurd f
the_process w (k.Process queue) name (body.Literal v) inputs n attempt p f j = absurd f
the_process w (k.Process queue) name (body.Pattern re) inputs n attempt p f j = absurd f
the_process w (k.Process queue) name (body.Applied c) inputs n attempt p f j = absurd f
the_process w (k.Process queue) name (body.Branch cs) inputs n attempt p f j = absurd f
the_process w (k.Process queue) name (body.MultiMap cs) inputs n attempt p f j = absurd f

-- what has a job is a process's
a_process : (w : Program) (b : NodeBody) (inputs : List Plain) (n attempt : ℕ) (p : JobParts) → job_of w b inputs n attempt ≡ Ok p → is_process b ≡ true
a_process w (body.Process s) inputs n attempt p j = refl
a_process w body.Source inputs n attempt p j = absurd cc
a_process w body.Item inputs n attempt p j = absurd cc
a_process w (body.Literal v) inputs n attempt p j = absurd cc
a_process w (body.Pattern re) inputs n attempt p j = absurd cc
a_process w (body.Applied c) inputs n attempt p j = absurd cc
a_process w (body.Branch cs) inputs n attempt p j = absurd cc
a_process w (body.MultiMap cs) inputs n attempt p j = absurd cc

pub jobs_named : (w : Program) (b : PlanBuilder) → IsPlan b → NamesJobs (rules_of w b.infos.items) (name_in b.infos.items)
jobs_named w b plan = record {
  each = λ x p j. (let h = the_process w (node_in b.nodes.items x.node).kind (name_in b.infos.items x.node) (body_in b.infos.items x.node) x.inputs x.n x.attempt p (plan.bodies x.node) j in
      record { process = h.process; inputs = h.inputs_are; n = h.n_is; attempt = h.attempt_is });
  paths = λ x y p q j l e. plan.paths x.node y.node
      (a_process w (body_in b.infos.items x.node) x.inputs x.n x.attempt p j)
      (a_process w (body_in b.infos.items y.node) y.inputs y.n y.attempt q l) e;
}
