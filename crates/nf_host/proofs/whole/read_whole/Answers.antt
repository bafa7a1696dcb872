use Rattle.std.proofs.Common.{arith, rules, ap, ◌∙◌, ◌++◌, length}
use Rattle.nf_host.proofs.Reading.{too_long_told, ended_told, further_told}
use Rattle.nf_host.proofs.whole.read_whole.Goals as goal

pub returns-then-items-limit-clause-content : goal.returns-then-items-limit-clause-content
returns-then-items-limit-clause-content g c =
    too_long_told (g.H.Host.files c.args.host.now) (g.H.Host.files c.loop-bytes.host) c.args.path.now c.loop-bytes.bytes.items c.in-Bytes.piece c.in_ok-read_at.field-0 c.len-at.result c.args.limit c.loop-bytes.invariant.1 c.in-Bytes.is (search rules) (omega arith)
    (omega (arith, ap length c.items-items.ensures))
    c.loop-bytes.invariant.3 c.in_ok-read_at.ensures.content

pub returns-then-items-lt-PIECE_LEN-clause-content :
    goal.returns-then-items-lt-PIECE_LEN-clause-content
returns-then-items-lt-PIECE_LEN-clause-content g c =
    ended_told (g.H.Host.files c.args.host.now) (g.H.Host.files c.loop-bytes.host) c.args.path.now c.loop-bytes.bytes.items c.in-Bytes.piece c.of.result c.in_ok-read_at.field-0 c.len-at.result c.args.limit c.loop-bytes.invariant.1 c.in-Bytes.is (search rules) (omega arith)
    (omega (arith, ap length c.items-items.ensures))
    (omega (arith, ap length c.items-items.ensures))
    (c.of.ensures ∙ c.in_ok-extend_from_slice-in-Bytes.ensures.items ∙ ap (λ v. c.loop-bytes.bytes.items ++ v) c.items-items.ensures)
    c.loop-bytes.invariant.3 c.in_ok-read_at.ensures.content

pub loop-bytes-preserved : goal.loop-bytes-preserved
loop-bytes-preserved g c = (
  omega (arith, c.loop-bytes.invariant.0, c.in_ok-read_at.ensures.later),
  c.in_ok-read_at.ensures.same ∙ c.loop-bytes.invariant.1,
  omega (arith, c.in_ok-extend_from_slice-in-Bytes.ensures.len),
  further_told (g.H.Host.files c.args.host.now) (g.H.Host.files c.loop-bytes.host) c.args.path.now c.loop-bytes.bytes.items c.in-Bytes.piece c.extend_from_slice.new.self.items c.in_ok-read_at.field-0 c.len-at.result c.loop-bytes.invariant.1 c.in-Bytes.is (search rules)
      (c.in_ok-extend_from_slice-in-Bytes.ensures.items ∙ ap (λ v. c.loop-bytes.bytes.items ++ v) c.items-items.ensures)
      c.loop-bytes.invariant.3 c.in_ok-read_at.ensures.content,
  c.in_ok-read_at.ensures.no_start ∙ c.loop-bytes.invariant.4,
)
