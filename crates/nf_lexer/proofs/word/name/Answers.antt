use Rattle.std.proofs.Common.{ap, sym, ◌∙◌, subst, take}
use Rattle.std.specs.Str.{IsAscii}
use Rattle.std.proofs.lemmas.Str.{IsUtf8-from_ascii}
use Rattle.nf_lexer.proofs.Runs.{name_ascii}
use Rattle.nf_lexer.proofs.word.name.Goals as goal

pub unreachable-requires : goal.unreachable-requires
unreachable-requires c =
    let e = c.split_at.ensures.front ∙ ap (λ n. take n c.args.bytes.now) c.name_len.ensures.is in
    c.in-Err.ensures.cases.0 (IsUtf8-from_ascii c.split_at.result.0.now (subst IsAscii (sym e) (name_ascii c.args.bytes.now)))
