-- The jobs of these rules name their node, inputs, n and attempt.
use Rattle.std.proofs.Common.{◌≡◌, ℕ, zero, suc, List, refl, ap, sym, ◌∙◌}
use Rattle.std.specs.Prelude.{codes, Ok}
use Rattle.nf_value.specs.Plain.{Plain}
use Rattle.nf_job.specs.declared.parts.JobParts.{JobParts}
use Rattle.nf_stored.specs.Attempts.{IsNamed, NamesJobs}
use Rattle.nf_flowbench.specs.Through.{job_at, parts_of, through_rules}

abbrev pub path : ℕ → List ℕ
path node = codes "P"

named : (node n attempt : ℕ) (inputs : List Plain) (p : JobParts) → job_at node inputs n attempt ≡ Ok p → IsNamed path (record { node = node; inputs = inputs; n = n; attempt = attempt }) p
named zero n attempt inputs p is = absurd (cc)
named (suc zero) n attempt inputs p is =
    let e : parts_of inputs n attempt ≡ p = cc in
    record { process = sym (ap (λ (q : JobParts). q.process) e); inputs = sym (ap (λ (q : JobParts). q.inputs) e); n = sym (ap (λ (q : JobParts). q.n) e); attempt = sym (ap (λ (q : JobParts). q.attempt) e) }
named (suc (suc node)) n attempt inputs p is = absurd (cc)

only_process : (node n attempt : ℕ) (inputs : List Plain) (p : JobParts) → job_at node inputs n attempt ≡ Ok p → node ≡ 1
only_process zero n attempt inputs p is = absurd (cc)
only_process (suc zero) n attempt inputs p is = refl
only_process (suc (suc node)) n attempt inputs p is = absurd (cc)

pub names : NamesJobs through_rules path
names = record {
  each = λ x p is. named x.node x.n x.attempt x.inputs p is;
  paths = λ x y p q is at same. only_process x.node x.n x.attempt x.inputs p is ∙ sym (only_process y.node y.n y.attempt y.inputs q at);
}
