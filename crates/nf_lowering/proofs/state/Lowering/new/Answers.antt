use Rattle.std.proofs.Common.{◌∙◌, refl}
use Rattle.nf_meaning.specs.Script.{opening}
use Rattle.nf_plan.specs.Runs.{bags_of}
use Rattle.nf_lowering.specs.declared.state.Lowering.{Lowering}
use Rattle.nf_lowering.proofs.Opening.{empty_stands, none_called, opened_keeps, opened_stands}
use Rattle.nf_lowering.proofs.state.Lowering.new.Goals as goal

pub returns : goal.returns
returns c =
    let z : Lowering = record { plan = c.new-plan.result; names = c.new-names.result; called = c.new-called.result; calls = c.new-calls.result; path = c.of-path.result; within = c.new-within.result } in
    record {
      keeps = opened_keeps z c.new-none.result.entries c.new-plan.ensures.plan c.new-none.ensures.empty c.new-names.ensures.holds c.new-calls.ensures.empty c.new-plan.ensures.infos;
      stands = λ x. opened_stands z x (c.new-plan.ensures.stands x opening (record { sizes = refl; wants = refl; meant = refl }))
          (c.new-names.ensures.stands (bags_of x c.new-plan.result) opening.scope refl refl (empty_stands (bags_of x c.new-plan.result) c.new-none.result.entries c.new-none.ensures.empty))
          (none_called c.new-called.result c.new-called.ensures.empty) c.new-calls.ensures.empty (c.of-path.ensures ∙ c.new.ensures.bytes) c.new-within.ensures.items;
    }
