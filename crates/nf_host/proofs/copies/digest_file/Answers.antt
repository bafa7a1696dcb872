use Rattle.std.proofs.Common.{ℕ, ◌+◌, ◌-◌, ◌<◌, ◌≤◌, List, ◌++◌, arith, ap, subst, ◌∙◌, length}
use Rattle.sha2.specs.Hashers.{Holds256}
use Rattle.nf_host.specs.declared.host.TheConstants.{PIECE_LEN}
use Rattle.nf_host.proofs.Copying.{digested_long, digested_whole, hashed_more}
use Rattle.nf_host.proofs.copies.digest_file.Goals as goal

pub returns-then-len-limit-clause-content : goal.returns-then-len-limit-clause-content
returns-then-len-limit-clause-content g c =
    digested_long c.pieces.invariant.3 c.in-Bytes.piece c.in_ok-read_at.field-0 c.pieces.invariant.1 c.in-Bytes.is (omega (arith, ap length c.items-items.ensures)) c.in_ok-read_at.ensures.content

pub returns-then-items-lt-PIECE_LEN-clause-content :
    goal.returns-then-items-lt-PIECE_LEN-clause-content
returns-then-items-lt-PIECE_LEN-clause-content g c =
    let fits : length c.in-Bytes.piece ≤ c.args.limit - c.pieces.at = omega (arith, ap length c.items-items.ensures) in
    let short : length c.in-Bytes.piece < PIECE_LEN = omega (arith, ap length c.items-items.ensures) in
    digested_whole c.pieces.invariant.3 c.update.new.self (record { 0 = c.finalize.result }) c.in-Bytes.piece c.in_ok-read_at.field-0 (c.pieces.at + length c.items-items.result.now) c.pieces.invariant.1 c.in-Bytes.is fits
    (ap (λ k. c.pieces.at + k) (ap length c.items-items.ensures))
    short (λ m h. subst (λ (v : List ℕ). Holds256 c.update.new.self (m ++ v)) c.items-items.ensures (c.update.ensures m h))
    (λ m h. c.finalize.ensures m h) c.in_ok-read_at.ensures.content

pub pieces-preserved : goal.pieces-preserved
pieces-preserved g c =
    let fits : length c.in-Bytes.piece ≤ c.args.limit - c.pieces.at = omega (arith, ap length c.items-items.ensures) in (
      omega (arith, c.pieces.invariant.0, c.in_ok-read_at.ensures.later),
      c.in_ok-read_at.ensures.same ∙ c.pieces.invariant.1,
      c.in_ok-read_at.ensures.no_start ∙ c.pieces.invariant.2,
      hashed_more c.pieces.invariant.3 c.update.new.self c.in-Bytes.piece c.in_ok-read_at.field-0 (c.pieces.at + length c.items-items.result.now) c.pieces.invariant.1 c.in-Bytes.is fits
          (ap (λ k. c.pieces.at + k) (ap length c.items-items.ensures))
          (λ m h. subst (λ (v : List ℕ). Holds256 c.update.new.self (m ++ v)) c.items-items.ensures (c.update.ensures m h))
          c.in_ok-read_at.ensures.content,
    )
