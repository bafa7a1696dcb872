use Rattle.std.proofs.Common.{◌≡◌, length, inl, inr, subst}
use Rattle.std.specs.Prelude.{◌⊎◌, IfOk}
use Rattle.std.specs.Slice.Iter.{iter_rest}
use Rattle.std.specs.Iterator.Adapters.{rev_source, zip_first, zip_second}
use Rattle.nf_kinds.specs.Scope.{Bindings, aligned}
use Rattle.nf_kinds.proofs.Aligned.{aligned_end}
use Rattle.nf_kinds.proofs.bindings.Bindings.aligned.Goals as goal

pub returns : goal.returns
returns c =
    let names = c.loop-name.latest_first.items in
    let xs = iter_rest (rev_source (zip_first c.loop-name.name-iterator)) in
    let bs = iter_rest (rev_source (zip_second c.loop-name.name-iterator)) in
    let all = aligned c.args.first.now c.args.second.now in
    let none_left : (length xs ≡ 0) ⊎ (length bs ≡ 0) = elim c.in-None.ensures.steps [ inl h ↦ inl h.1.0 | inr h ↦ inr h.1.0 ] in
    let done : names ≡ all = aligned_end names xs bs all none_left c.loop-name.invariant in
    subst (λ (v : Bindings). IfOk c.of.result (λ b. b ≡ v)) done c.of.ensures
