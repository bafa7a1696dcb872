use Rattle.std.proofs.Common.{◌≡◌, rules}
use Rattle.std.specs.Prelude.{None}
use Rattle.nf_kinds.specs.Scope.{bound_in}
use Rattle.nf_order.specs.Memory.{of_member}
use Rattle.nf_order.specs.Standing.{IsFree, around_of, free_head}
use Rattle.nf_order.proofs.Calling.{free_stands, is_result}
use Rattle.nf_order.proofs.parts.part_of_name.Goals as goal

pub returns-in_ok-free-in-None : goal.returns-in_ok-free-in-None
returns-in_ok-free-in-None c =
    let a = around_of c.args.around.now in
    let p = c.args.place in
    let m = c.args.object.now in
    let n = c.args.name.now in
    let s = c.args.state.now in
    let f = c.in_ok-free-in-None.free in
    let none : bound_in m s.scope ≡ None = search rules in
    let is : IsFree s.scope m n f = search rules in
    is_result a (of_member a m p n) (record { head = free_head f p n; args = None }) c.free.result s s (free_stands a p p m n f s none is) (search rules)
