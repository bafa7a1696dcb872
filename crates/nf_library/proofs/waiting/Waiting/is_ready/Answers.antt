use Rattle.std.proofs.Common.{◌≡◌, ◌∙◌, ap, rules}
use Rattle.std.specs.List.{list_all}
use Rattle.nf_library.specs.Calls.{calls_in, is_placed}
use Rattle.nf_library.proofs.waiting.Waiting.is_ready.Goals as goal

pub returns : goal.returns
returns c =
    let x = c.args.self.now in
    let are_its : x.calls.items ≡ calls_in x.function.now.body.items = search rules in
    c.are_placed.ensures ∙ ap (list_all (is_placed c.args.names.now.keys c.args.placed.now.keys)) (c.deref.ensures.value ∙ are_its)
