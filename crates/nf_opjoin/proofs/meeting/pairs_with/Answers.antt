use Rattle.nf_value.specs.View.{plain_of}
use Rattle.nf_value.specs.declared.value.Value.{Value}
use Rattle.nf_opstream.specs.Promise.{emits_of}
use Rattle.nf_opjoin.specs.Listed.{paired_as, all_paired}
use Rattle.nf_opjoin.proofs.Listing.{goes_on, appended_emits}
use Rattle.nf_opjoin.proofs.meeting.pairs_with.Goals as goal

pub loop-rest-preserved : goal.loop-rest-preserved
loop-rest-preserved c = (let h = λ (v : Value). paired_as c.args.by_first c.args.first (plain_of c.args.keyed.now.key) c.args.keyed.now.rest (plain_of v) in
    appended_emits h c.args.rests.now (c.loop-rest.rest-index) c.append.new.self.items c.loop-rest.emits.items c.in_ok-more.more.items (all_paired h c.args.rests.now) c.in_ok-append.ensures.items
    (goes_on h c.args.rests.now c.loop-rest.rest-index c.rest-item.result (emits_of c.loop-rest.emits.items) (emits_of c.in_ok-more.more.items) (all_paired h c.args.rests.now) c.loop-rest-test.true c.rest-item.is c.in_ok-more.ensures c.loop-rest.invariant))
