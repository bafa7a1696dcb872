use Rattle.std.proofs.Common.{rules}
use Rattle.std.specs.Prelude.{None}
use Rattle.nf_ast.specs.Tree.{empty}
use Rattle.nf_order.specs.declared.subject.Head.TheVariants as heads
use Rattle.nf_order.specs.Parts.{of_property}
use Rattle.nf_order.specs.Standing.{around_of, uncalled}
use Rattle.nf_order.proofs.Calling.{head_member, is_result, named_head, no_name}
use Rattle.nf_order.proofs.parts.member_of_head.Goals as goal

pub returns-in-Name : goal.returns-in-Name
returns-in-Name c = named_head (around_of c.args.around.now) c.args.head c.in-Name.field-0 c.in-Name.object c.args.place c.args.name.now c.part_of_name.result c.args.state.now c.in-Name.is (search rules)

pub returns-in_ok-shape-in_default : goal.returns-in_ok-shape-in_default
returns-in_ok-shape-in_default c =
    let a = around_of c.args.around.now in
    let h = c.args.head in
    let p = c.args.place in
    let n = c.args.name.now in
    let s = c.args.state.now in
    let v = c.in_ok-shape-in_default.shape in
    is_result a (of_property empty (uncalled a h) p n) (record { head = heads.Member v p n; args = None }) c.member.result s s
    (head_member a h v p n s (no_name h c.in_default.not-Name) (search rules)) c.member.ensures
