use Rattle.std.proofs.Common.{arith, ap, length, subst}
use Rattle.std.specs.Prelude.{IsUtf8}
use Rattle.nf_codec.proofs.write.put_file.Goals as goal

pub returns-clause-whole : goal.returns-clause-whole
returns-clause-whole c = (
  (subst IsUtf8 c.as_str-name.ensures c.as_str-name.utf8, omega (arith, ap length c.as_str-name.ensures)),
  c.put_digest.ensures.bytes,
  c.put_digest.ensures.len,
  omega arith,
)
