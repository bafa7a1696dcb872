use Rattle.std.proofs.Common.{◌≡◌, ℕ, List, Bor, map, ap, ◌∙◌, subst}
use Rattle.std.specs.Result.{IfOk}
use Rattle.nf_tasks.specs.Script.{margin_of, outdented, joined}
use Rattle.nf_tasks.proofs.script.without_margin.Goals as goal

pub returns : goal.returns
returns c =
    let seen = λ (lines : List (Bor (List ℕ))). map (λ line. line.now) lines in
    let margin = c.margin-margin.ensures ∙ ap (λ lines. margin_of (seen lines)) c.deref.ensures.value ∙ ap margin_of c.in_ok-lines.ensures in
    let lines = ap seen c.deref-2.ensures.value ∙ c.in_ok-lines.ensures in
    subst (λ (r : List ℕ). IfOk c.joined.result (λ t. t ≡ r)) (λ i. joined (map (outdented (margin i)) (lines i))) c.joined.ensures
