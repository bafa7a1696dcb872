use Rattle.std.proofs.Common.{List, take, sym, subst}
use Rattle.nf_paths.specs.Groups.{IsGrouped}
use Rattle.nf_paths.specs.Pairs.{Keyed, keyed}
use Rattle.nf_paths.specs.Texts.{pattern_of}
use Rattle.nf_paths.proofs.Pairing.{keyed_more}
use Rattle.nf_paths.proofs.pairs.grouped.Goals as goal

pub loop-file-preserved : goal.loop-file-preserved
loop-file-preserved c =
    let fs = c.args.files.now in
    let i = c.loop-file.file-index in
    let p = pattern_of c.args.pattern.now in
    let P : List Keyed → Type 0 = λ xs. IsGrouped xs c.add_by_key.new.groups.entries in
    subst P (sym (keyed_more p fs i c.file-item.result c.loop-file-test.true c.file-item.is)) (c.in_ok-add_by_key.ensures (keyed p (take i fs)) c.loop-file.invariant)
