use Rattle.std.proofs.Common.{◌≡◌, Err, false, rules, true}
use Rattle.std.specs.Prelude.{bytes_eq, codes}
use Rattle.nf_meaning.specs.Names.{is_channel_word}
use Rattle.nf_meaning.specs.declared.fault.LowerFault.TheVariants.{BadOption}
use Rattle.nf_walked.specs.Around.{Knows}
use Rattle.nf_calling.proofs.Bound.{other_member, out_member, word_member}
use Rattle.nf_calling.proofs.members.free_member.Goals as goal

pub returns-then-is_channel_word : goal.returns-then-is_channel_word
returns-then-is_channel_word g c =
    let is : is_channel_word c.args.object.now ≡ true = search rules in
    let fault : c.bad_option.result ≡ Err (BadOption c.args.place) = search rules in
    word_member (Knows g.N.Natives.titles g.N.Natives.answer c.args.walker.now) c.args.at c.args.object.now c.args.place c.args.name.now c.args.state.now c.requires.lowering c.bad_option.result is fault

pub returns-then-eq : goal.returns-then-eq
returns-then-eq g c =
    let word : is_channel_word c.args.object.now ≡ false = search rules in
    let is : bytes_eq c.args.name.now (codes "out") ≡ true = search rules in
    out_member (Knows g.N.Natives.titles g.N.Natives.answer c.args.walker.now) c.args.at c.args.object.now c.args.place c.args.name.now c.args.state.now c.requires.lowering word c.called_out.result is c.called_out.ensures

pub returns : goal.returns
returns g c =
    let word : is_channel_word c.args.object.now ≡ false = search rules in
    let other : bytes_eq c.args.name.now (codes "out") ≡ false = search rules in
    let fault : c.bad_option-2.result ≡ Err (BadOption c.args.place) = search rules in
    other_member (Knows g.N.Natives.titles g.N.Natives.answer c.args.walker.now) c.args.at c.args.object.now c.args.place c.args.name.now c.args.state.now c.requires.lowering word c.bad_option-2.result other fault
