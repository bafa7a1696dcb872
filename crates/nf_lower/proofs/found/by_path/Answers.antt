use Rattle.std.proofs.Common.{◌≡◌, drop, map, subst, arith}
use Rattle.nf_found.specs.All.{found_of}
use Rattle.nf_lower.specs.Files.{HasFiles}
use Rattle.nf_lower.proofs.found.by_path.Goals as goal

pub returns : goal.returns
returns c =
    let done : c.loop-left.left ≡ 0 = omega (arith, c.loop-left-test.false) in
    subst (λ i. HasFiles (map found_of (drop i c.args.found.now)) c.loop-left.table.entries) done c.loop-left.invariant.1
