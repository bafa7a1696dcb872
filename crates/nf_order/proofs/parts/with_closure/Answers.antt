use Rattle.std.proofs.Common.{rules}
use Rattle.std.specs.Prelude.{Some, None, option_map}
use Rattle.nf_ast.specs.Tree.{empty}
use Rattle.nf_ast.specs.View.{view_closure}
use Rattle.nf_kinds.specs.declared.args.Given.{Given}
use Rattle.nf_kinds.specs.Kinds.{alone}
use Rattle.nf_order.specs.declared.around.State.{State}
use Rattle.nf_order.specs.Parts.{of_closed, part_of}
use Rattle.nf_order.specs.Standing.{Gives, around_of, rest}
use Rattle.nf_order.proofs.Calling.{is_subject, last_stands}
use Rattle.nf_order.proofs.Entering.{unknown_there}
use Rattle.nf_order.proofs.Expressions.{closure_gives}
use Rattle.nf_order.proofs.parts.with_closure.Goals as goal

pub returns : goal.returns
returns c =
    let a = around_of c.args.around.now in
    let o = option_map (λ v. v.items) c.args.before.args in
    let h = c.args.before.head in
    let k = c.in_ok-kinds.kinds in
    let f = c.in_ok-facts.field-0 in
    let x = (part_of a (view_closure c.args.closure.now)).argument in
    let new : State = record { scope = c.args.state.now.scope; broken = c.closure_kinds.new.broken } in
    let g : Given = record { option = None; shape = alone k; closure = Some f } in
    let e : Gives x c.args.state.now g new = closure_gives a c.args.closure.now c.args.around.now.unknown.now k f c.args.state.now new (unknown_there c.args.around.now) (search rules) (search rules) (search rules) (search rules) in
    is_subject a (of_closed empty (rest a c.args.before) x) (record { head = h; args = Some c.in_ok-with_last.field-0 }) c.called.result c.args.state.now new
    (last_stands a h o x g c.in_ok-with_last.field-0.items c.args.state.now new (search rules) e)
    c.called.ensures
