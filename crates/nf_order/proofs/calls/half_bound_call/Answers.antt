use Rattle.std.proofs.Common.{◌≡◌, refl, rules}
use Rattle.nf_kinds.specs.Kinds.{merged}
use Rattle.nf_kinds.specs.Scope.{after_both}
use Rattle.nf_opkinds.specs.Operators.{member_call}
use Rattle.nf_order.specs.declared.around.State.{State}
use Rattle.nf_order.specs.Standing.{Gives, free_now, half_now}
use Rattle.nf_order.proofs.Walks.{if_ok}
use Rattle.nf_order.proofs.Ways.{either_gives}
use Rattle.nf_order.proofs.calls.half_bound_call.Goals as goal

pub returns : goal.returns
returns c =
    let p = c.args.place in
    let n = c.args.name.now in
    let gs = c.args.args.now in
    let old = c.args.state.now in
    let mid = c.method_call.new.state in
    let late = c.free_call.new.state in
    let start : State = record { scope = c.replace-ended.new.dest; broken = mid.broken } in
    let new : State = record { scope = c.merge.new.self; broken = late.broken } in
    let v = c.in_ok-bound.bound in
    let w = c.in_ok-other.other in
    let from : start.scope ≡ old.scope = search rules in
    let both : new.scope ≡ after_both mid.scope late.scope = search rules in
    let first : Gives (member_call p n c.args.shape gs) old v mid = search rules in
    let second : Gives (free_now c.args.free p n gs) start w late = search rules in
    if_ok c.merged.result (λ z. z ≡ merged v w) (λ z. Gives (half_now c.args.shape c.args.free p n gs) old z new)
    (λ z e. either_gives (member_call p n c.args.shape gs) (free_now c.args.free p n gs) v w z old mid start late new first from refl second both refl e) (search rules)
