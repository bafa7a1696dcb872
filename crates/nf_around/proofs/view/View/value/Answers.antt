use Rattle.std.proofs.Common.{◌∙◌, ap}
use Rattle.nf_placed.specs.Scope.{value_in}
use Rattle.nf_known.specs.Reading.{reading_of}
use Rattle.nf_around.proofs.Seen.{in_body, around_body}
use Rattle.nf_around.proofs.view.View.value.Goals as goal

pub returns-in-Some : goal.returns-in-Some
returns-in-Some c n a s h =
    in_body (reading_of c.args.self.now.reading) c.args.name.now a s h.names.bags c.value_seen.result c.in-Some.thing.now (c.in-Some.ensures.stands h.names.bags h.names.braces s h.names.stand)
    (λ u is. c.value_seen.ensures h.names.bags u is)

pub returns-in-None : goal.returns-in-None
returns-in-None c n a s h =
    around_body (reading_of c.args.self.now.reading) c.args.name.now a s h.names.bags c.value.result (c.in-None.ensures.stands h.names.bags h.names.braces s h.names.stand)
    (ap (value_in c.args.name.now) h.everywhere.values ∙ c.value.ensures)
