use Rattle.std.proofs.Common.{◌≡◌, [], ◌∷◌, ◌+◌, ap, ◌∙◌, arith, length, length-append}
use Rattle.std.proofs.lemmas.List.Elements.{All-push}
use Rattle.nf_host.specs.SharedHost.{faults_of}
use Rattle.nf_host.proofs.shared_host.SharedHost.handles.Goals as goal

pub loop-preserved : goal.loop-preserved
loop-preserved g c = (
  ap length c.in_ok-push.ensures.items ∙ length-append c.loop.handles.items (c.over.result ∷ []) ∙ ap (λ n. n + 1) c.loop.invariant.0,
  omega (arith, c.loop.invariant.1),
  rw c.in_ok-push.ensures.items (All-push (λ h. faults_of h ≡ 0) c.loop.handles.items c.over.result c.loop.invariant.2 c.over.ensures),
)
