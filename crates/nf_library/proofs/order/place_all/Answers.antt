use Rattle.std.proofs.Common.{◌∙◌, arith}
use Rattle.nf_eval.specs.Memory.{definitions_of}
use Rattle.nf_library.proofs.Staged.{added_all, added_more, placed_more}
use Rattle.nf_library.proofs.order.place_all.Goals as goal

pub loop-one-preserved : goal.loop-one-preserved
loop-one-preserved c =
    let ready = c.args.ready.now in
    let i = c.loop-one.one-index in
    let x = c.one-item.result in
    let f = c.in_ok-function.function in (
      added_more ready i x f (definitions_of c.args.library.now) (definitions_of c.loop-one.library) (definitions_of c.add_function.new.self) c.loop-one-test.true c.one-item.is c.in_ok-function.ensures c.in_ok-add_function.ensures.functions c.loop-one.invariant.0,
      λ h. placed_more x f (definitions_of c.loop-one.library) (definitions_of c.add_function.new.self) c.loop-one.placed.keys c.add_key.new.set.keys c.in_ok-function.ensures c.in_ok-add_function.ensures.functions
          (c.loop-one.invariant.1 h) c.in_ok-add_key.ensures,
      c.in_ok-add_function.ensures.patterns ∙ c.loop-one.invariant.2,
    )

pub returns-clause-functions : goal.returns-clause-functions
returns-clause-functions c = added_all c.args.ready.now c.loop-one.one-index (definitions_of c.args.library.now) (definitions_of c.loop-one.library) (omega arith) c.loop-one.invariant.0
