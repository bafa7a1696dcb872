use Rattle.std.proofs.Common.{◌≡◌, false, rules}
use Rattle.std.specs.Prelude.{None}
use Rattle.nf_order.specs.Parts.{called_out, is_channel_word}
use Rattle.nf_order.proofs.Calling.{no_call, not_out, word_is_free}
use Rattle.nf_order.proofs.parts.free_object.Goals as goal
use Rattle.nf_order.proofs.parts.free_object.Goals.{in_default-via-in-Some+else-eq-3, in_default-via-in_default}

pub returns-in_default : goal.returns-in_default
returns-in_default c =
    let s = c.args.state.now.scope in
    let m = c.args.object.now in
    let n = c.args.name.now in
    let word : is_channel_word m ≡ false = search rules in
    let none : called_out s m n ≡ None = elim c.in_default.branch [
      | in_default-via-in-Some+else-eq-3 w ↦ not_out s m n (search rules)
      | in_default-via-in_default w ↦ no_call s m n (search rules)
    ] in
    word_is_free s m n c.alone.result word none (search rules)
