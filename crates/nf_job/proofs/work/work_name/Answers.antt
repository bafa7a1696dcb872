use Rattle.std.proofs.Common.{rules, arith, ◌≡◌, length}
use Rattle.std.proofs.lemmas.Grind.{common_steps}
use Rattle.nf_job.proofs.Names.{when_ok, named}
use Rattle.nf_job.proofs.work.work_name.Goals as goal

pub returns : goal.returns
returns c =
    let size : length c.args.key.now.0 ≡ 32 = search rules in
    let whole : length c.args.into.now ≡ 65 = search rules in
    let one = when_ok _ c.encode_to_slice.ensures.written (c.encode_to_slice.ensures.fits.1 (grind (arith, common_steps, c.split_at_mut-first.ensures.front_len))) in
    let two = when_ok _ c.encode_to_slice-2.ensures.written (c.encode_to_slice-2.ensures.fits.1 (grind (arith, common_steps, c.split_at_mut-slash.ensures.back_len, c.split_at_mut-first.ensures.back_len))) in
    named _ _ _ _ size one c.copy_from_slice.ensures.after two
