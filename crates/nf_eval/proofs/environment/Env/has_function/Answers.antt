use Rattle.std.proofs.Common.{◌∙◌, ap, sym}
use Rattle.nf_builtins.specs.Natives.{is_among}
use Rattle.nf_eval.specs.declared.library.Library.{Library}
use Rattle.nf_eval.specs.Memory.{definition_names, definitions_of, patterns_of}
use Rattle.nf_eval.proofs.Known.{names-functions_of}
use Rattle.nf_eval.proofs.environment.Env.has_function.Goals as goal

pub returns : goal.returns
returns c titles answer =
    let n = c.args.name.now in
    let l = c.args.self.now.library.value in
    c.has_function.ensures ∙ ap (λ (k : Library). is_among n (definition_names (definitions_of k))) c.deref.ensures
    ∙ sym (ap (is_among n) (names-functions_of (definitions_of l) (patterns_of l) titles answer))
