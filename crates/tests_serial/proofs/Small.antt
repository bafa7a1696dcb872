-- The rules of the small graph name their jobs.
use Rattle.std.proofs.Common.{◌≡◌, ℕ, zero, suc, List, refl, ap, sym, ◌∙◌}
use Rattle.std.specs.Prelude.{codes, Ok}
use Rattle.nf_value.specs.Plain.{Plain}
use Rattle.nf_job.specs.declared.parts.JobParts.{JobParts}
use Rattle.nf_stored.specs.Attempts.{IsNamed, NamesJobs}
use Rattle.tests_serial.specs.Small.{small_job, small_parts, small_rules}

abbrev pub path : ℕ → List ℕ
path node = codes "P"

named : (node n attempt : ℕ) (inputs : List Plain) (p : JobParts) → small_job node inputs n attempt ≡ Ok p → IsNamed path (record { node = node; inputs = inputs; n = n; attempt = attempt }) p
named zero n attempt inputs p is = absurd (cc)
named (suc zero) n attempt inputs p is = absurd (cc)
named (suc (suc zero)) n attempt inputs p is =
    let e : small_parts inputs n attempt ≡ p = cc in
    record { process = sym (ap (λ (q : JobParts). q.process) e); inputs = sym (ap (λ (q : JobParts). q.inputs) e); n = sym (ap (λ (q : JobParts). q.n) e); attempt = sym (ap (λ (q : JobParts). q.attempt) e) }
named (suc (suc (suc node))) n attempt inputs p is = absurd (cc)

only_process : (node n attempt : ℕ) (inputs : List Plain) (p : JobParts) → small_job node inputs n attempt ≡ Ok p → node ≡ 2
only_process zero n attempt inputs p is = absurd (cc)
only_process (suc zero) n attempt inputs p is = absurd (cc)
only_process (suc (suc zero)) n attempt inputs p is = refl
only_process (suc (suc (suc node))) n attempt inputs p is = absurd (cc)

pub small_names : NamesJobs small_rules path
small_names = record {
  each = λ x p is. named x.node x.n x.attempt x.inputs p is;
  paths = λ x y p q is at same. only_process x.node x.n x.attempt x.inputs p is ∙ sym (only_process y.node y.n y.attempt y.inputs q at);
}
