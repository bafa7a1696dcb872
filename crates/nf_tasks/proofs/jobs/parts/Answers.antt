use Rattle.std.proofs.Common.{ap, sym, ◌∙◌, Ok}
use Rattle.std.specs.List.{list_any}
use Rattle.nf_tasks.specs.Memory.{program, process_of, has_stored_stdout}
use Rattle.nf_tasks.specs.Prepared.{parts_with, prepared_of}
use Rattle.nf_tasks.proofs.Adding.{first_value}
use Rattle.nf_tasks.proofs.Stored.{wants_same}
use Rattle.nf_tasks.proofs.jobs.parts.Goals as goal

pub returns-clause-parts : goal.returns-clause-parts
returns-clause-parts g c =
    let n = program (g.N.Natives.titles c.args.natives.now) (g.N.Natives.answer c.args.natives.now) in
    let p = process_of n c.args.spec.now in
    let x = c.in_ok-prepared.prepared in
    let wants = c.wants_stdout-wants_stdout.ensures ∙ ap (list_any has_stored_stdout) c.deref.ensures.value ∙ wants_same n c.args.spec.now.outputs.items in
    first_value (prepared_of p c.args.inputs.now c.args.attempt) (λ y. Ok (parts_with p c.args.inputs.now c.args.n c.args.attempt y)) x c.in_ok-prepared.ensures
    ∙ (λ i. Ok (record {
      process = sym c.in_ok-process.ensures i;
      script = x.script;
      inputs = sym c.in_ok-code.ensures.code i;
      stdin = x.stdin;
      staged = x.staged;
      patterns = x.patterns;
      wants_stdout = sym wants i;
      n = c.args.n;
      attempt = c.args.attempt;
    }))

pub returns-clause-fit : goal.returns-clause-fit
returns-clause-fit g c = c.in_ok-code.ensures.fit
