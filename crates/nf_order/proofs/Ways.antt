-- Two ways, one of which is taken.
use Rattle.std.proofs.Common.{◌≡◌, sym, ap, ◌∙◌}
use Rattle.nf_kinds.specs.Kinds.{Shaped, merged}
use Rattle.nf_kinds.specs.Scope.{Scope, after_both}
use Rattle.nf_kinds.specs.Walk.{Walk, came, then_by, gives}
use Rattle.nf_order.specs.declared.around.State.{State}
use Rattle.nf_order.specs.Parts.{both, both_ends, either_way}
use Rattle.nf_order.specs.Standing.{Gives}
use Rattle.nf_order.proofs.Walks.{maps}
use Rattle.nf_order.proofs.Arms.{both_give}

pub either_alike : (m n k : Walk Shaped) (s : Scope) → n s ≡ k s → either_way m n s ≡ either_way m k s
either_alike m n k s h = ap (λ o. then_by (λ (x : Shaped × Shaped). gives (merged x.0 x.1)) (both_ends (m s) o)) h

-- each way begins in the scope before both
pub either_gives : (m n : Walk Shaped) (x y z : Shaped) (old mid start late new : State) → Gives m old x mid → start.scope ≡ old.scope → start.broken.items ≡ mid.broken.items → Gives n start y late → new.scope ≡ after_both mid.scope late.scope → new.broken.items ≡ late.broken.items → z ≡ merged x y → Gives (either_way m n) old z new
either_gives m n x y z old mid start late new e s b f t c is =
    maps (both m n) (λ x. merged x.0 x.1) (x, y) old new (both_give m n x y old mid start late new e s b f t c)
    ∙ ap (λ v. came v new.scope new.broken.items) (sym is)
