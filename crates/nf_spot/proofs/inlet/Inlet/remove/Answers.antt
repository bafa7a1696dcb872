use Rattle.std.proofs.Common.{◌≡◌, map, ap, ◌∙◌}
use Rattle.std.specs.Prelude.{remove, ℕ, List}
use Rattle.nf_value.specs.Plain.{Plain}
use Rattle.nf_value.specs.View.{plain_of}
use Rattle.nf_spot.proofs.Waiting.{map_remove}
use Rattle.nf_spot.proofs.inlet.Inlet.remove.Goals as goal

pub returns-clause-left : goal.returns-clause-left
returns-clause-left c =
    let w = c.self.inside in
    let e : c.remove.new.self.items ≡ remove w.waiting.items c.args.place = rw c.unwrap.ensures at c.remove.ensures.items in
    (λ i. (w.passed, (ap (λ xs. map plain_of xs) e ∙ map_remove plain_of w.waiting.items c.args.place) i)) ∙ ap (λ (p : ℕ × List Plain). (p.0, remove p.1 c.args.place)) c.self.view_is
