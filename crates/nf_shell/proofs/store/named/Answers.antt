use Rattle.std.proofs.Common.{sym, subst}
use Rattle.std.specs.Str.{IsUtf8}
use Rattle.nf_shell.proofs.Digests.{IsUtf8-work_path}
use Rattle.nf_shell.proofs.store.named.Goals as goal

pub unreachable-requires : goal.unreachable-requires
unreachable-requires c = c.in-Err.ensures.cases.0 (subst IsUtf8 (sym c.work_name.ensures) (IsUtf8-work_path c.args.digest.now.0))
