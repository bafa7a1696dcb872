-- Parts that break no rule.
use Rattle.std.proofs.Common.{◌≡◌, List, [], ap, ◌∙◌}
use Rattle.std.proofs.lemmas.List.{append-nil}
use Rattle.nf_kinds.specs.declared.fault.Broken.{Broken}
use Rattle.nf_kinds.specs.Scope.{Scope}
use Rattle.nf_kinds.specs.Walk.{Out, came, after, Comes}

pub quiet : {A : Type 0} (out : Out A) (before : List Broken) (x : A) (s : Scope) → out ≡ came x s [] → Comes out before x s before
quiet out before x s e = ap (after before) e ∙ ap (came x s) (append-nil before)
