use Rattle.std.proofs.Common.{◌≡◌, false, arith, rules, tests}
use Rattle.std.proofs.lemmas.Bool.Decides.{nat_tests}
use Rattle.std.specs.BTreeSet.{contains}
use Rattle.nf_tasks.specs.Clash.{is_reserved}
use Rattle.nf_tasks.proofs.Clashes.{name_cmp, seen_one}
use Rattle.nf_tasks.proofs.clash.first_clash.Goals as goal

pub loop-file-preserved : goal.loop-file-preserved
loop-file-preserved c =
    let free : is_reserved c.file-item.result.name ≡ false = search (rules, tests) in
    let fresh : contains name_cmp c.loop-file.seen c.as_str-name.result ≡ false = grind (arith, nat_tests) in
    seen_one c.args.files.now c.loop-file.file-index c.file-item.result c.as_str-name.result c.loop-file.seen c.insert.new.self c.loop-file-test.true c.file-item.is c.as_str-name.ensures free fresh c.in_ok-is_new.ensures.updates.0 c.loop-file.invariant
