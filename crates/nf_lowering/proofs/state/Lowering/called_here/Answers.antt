use Rattle.std.proofs.Common.{ap, map}
use Rattle.std.proofs.lemmas.Result.{err_from_is_err_and}
use Rattle.nf_meaning.specs.Stands.{results}
use Rattle.nf_scopes.specs.Things.{output_of}
use Rattle.nf_lowering.specs.declared.state.Lowering.{Lowering}
use Rattle.nf_lowering.specs.State.{calls_in}
use Rattle.nf_lowering.specs.Workflows.{gives_call}
use Rattle.nf_lowering.proofs.Keeping.{here_walks, kept_extends, kept_keeps, kept_reads}
use Rattle.nf_lowering.proofs.Planned.{lost}
use Rattle.nf_lowering.proofs.state.Lowering.called_here.Goals as goal

pub returns : goal.returns
returns c =
    let old = c.args.self.now in
    let new = c.keep_call.new.self in
    let n = c.args.name.now in
    let os = map output_of c.args.outputs.items in
    let others = c.in_ok-thing.ensures.others in
    record {
      keeps = kept_keeps old new n (results os) others c.requires.before c.requires.reads c.in_ok-thing.ensures.kept;
      reads = kept_reads old new n (results os) others c.requires.reads c.in_ok-thing.thing c.in_ok-thing.ensures.given;
      walk = here_walks old new n os others c.in_ok-thing.ensures.kept c.in_ok-thing.thing c.in_ok-thing.ensures.given c.requires.reads;
      plan = ap (λ (z : Lowering). z.plan) others;
      calls = ap calls_in others;
      within = ap (λ (z : Lowering). z.within) others;
    }

pub returns-in_err-thing-clause-walk : goal.returns-in_err-thing-clause-walk
returns-in_err-thing-clause-walk c braces =
    let old = c.args.self.now in
    let new = c.keep_call.new.self in
    let p = err_from_is_err_and c.from_residual.result c.from_residual.ensures.1 in
    lost (gives_call c.args.name.now (map output_of c.args.outputs.items)) old new braces c.from_residual.result p.0 p.1 p.2 (kept_extends old new c.in_err-thing.ensures.others)

pub returns-in_err-thing-clause-plan : goal.returns-in_err-thing-clause-plan
returns-in_err-thing-clause-plan c = ap (λ (z : Lowering). z.plan) c.in_err-thing.ensures.others

pub returns-in_err-thing-clause-calls : goal.returns-in_err-thing-clause-calls
returns-in_err-thing-clause-calls c = ap calls_in c.in_err-thing.ensures.others

pub returns-in_err-thing-clause-within : goal.returns-in_err-thing-clause-within
returns-in_err-thing-clause-within c = ap (λ (z : Lowering). z.within) c.in_err-thing.ensures.others
