use Rattle.std.proofs.Common.{◌≡◌, ℕ, ◌+◌, ◌-◌, ◌<◌, ◌≤◌, List, ◌++◌, Option, option_map, arith, ap, subst, ◌∙◌, length, refl}
use Rattle.sha2.specs.Hashers.{Holds256}
use Rattle.nf_host.specs.Copies.{grown}
use Rattle.nf_host.specs.Files.{Files, KeepsOthers}
use Rattle.nf_host.specs.Told.{Both}
use Rattle.nf_host.specs.declared.host.TheConstants.{PIECE_LEN}
use Rattle.nf_host.proofs.Copying.{digested_long, digested_whole, copied_more, copied_whole, of_source, hashed_of, both_then, keeps_then}
use Rattle.nf_host.proofs.copies.copy_file.Goals as goal

pub returns-then-len-limit-clause-content : goal.returns-then-len-limit-clause-content
returns-then-len-limit-clause-content g c =
    λ apart. let z = c.pieces.invariant.4 apart in
    digested_long {o = g.H.Host.files c.args.host.now} (hashed_of z) c.in-Bytes.piece c.in_ok-read_at.field-0 refl c.in-Bytes.is (omega (arith, ap length c.items-items.ensures))
    (of_source (g.H.Host.files c.args.host.now) (g.H.Host.files c.pieces.host) c.args.from.now c.args.to.now c.pieces.at c.in_ok-read_at.field-0 apart z.others c.in_ok-read_at.ensures.content)

pub returns-then-items-lt-PIECE_LEN-clause-content :
    goal.returns-then-items-lt-PIECE_LEN-clause-content
returns-then-items-lt-PIECE_LEN-clause-content g c =
    λ apart. let z = c.pieces.invariant.4 apart in
    let fits : length c.in-Bytes.piece ≤ c.args.limit - c.pieces.at = omega (arith, ap length c.items-items.ensures) in
    let short : length c.in-Bytes.piece < PIECE_LEN = omega (arith, ap length c.items-items.ensures) in
    digested_whole {o = g.H.Host.files c.args.host.now} (hashed_of z) c.update.new.self (record { 0 = c.finalize.result }) c.in-Bytes.piece c.in_ok-read_at.field-0 (c.pieces.at + length c.items-items.result.now) refl c.in-Bytes.is fits
    (ap (λ k. c.pieces.at + k) (ap length c.items-items.ensures))
    short (λ m h. subst (λ (v : List ℕ). Holds256 c.update.new.self (m ++ v)) c.items-items.ensures (c.update.ensures m h))
    (λ m h. c.finalize.ensures m h)
    (of_source (g.H.Host.files c.args.host.now) (g.H.Host.files c.pieces.host) c.args.from.now c.args.to.now c.pieces.at c.in_ok-read_at.field-0 apart z.others c.in_ok-read_at.ensures.content)

pub returns-then-items-lt-PIECE_LEN-clause-copied :
    goal.returns-then-items-lt-PIECE_LEN-clause-copied
returns-then-items-lt-PIECE_LEN-clause-copied g c =
    let added : g.H.Host.files c.write_piece.new.host ≡ option_map (λ f. grown c.pieces.at f c.args.to.now c.in-Bytes.piece) (g.H.Host.files c.read_at.new.self) =
    subst (λ (v : List ℕ). g.H.Host.files c.write_piece.new.host ≡ option_map (λ f. grown c.pieces.at f c.args.to.now v) (g.H.Host.files c.read_at.new.self)) c.items-items.ensures c.in_ok-write_piece-in-Bytes.ensures.added in
    let fits : length c.in-Bytes.piece ≤ c.args.limit - c.pieces.at = omega (arith, ap length c.items-items.ensures) in
    let short : length c.in-Bytes.piece < PIECE_LEN = omega (arith, ap length c.items-items.ensures) in
    λ apart. copied_whole (c.pieces.invariant.4 apart) (g.H.Host.files c.read_at.new.self) (g.H.Host.files c.write_piece.new.host) (record { 0 = c.finalize.result }) c.in-Bytes.piece c.in_ok-read_at.field-0 (c.pieces.at + length c.items-items.result.now) apart c.in_ok-read_at.ensures.same c.in-Bytes.is fits short c.in_ok-read_at.ensures.content added

pub pieces-preserved : goal.pieces-preserved
pieces-preserved g c =
    let added : g.H.Host.files c.write_piece.new.host ≡ option_map (λ f. grown c.pieces.at f c.args.to.now c.in-Bytes.piece) (g.H.Host.files c.read_at.new.self) =
    subst (λ (v : List ℕ). g.H.Host.files c.write_piece.new.host ≡ option_map (λ f. grown c.pieces.at f c.args.to.now v) (g.H.Host.files c.read_at.new.self)) c.items-items.ensures c.in_ok-write_piece-in-Bytes.ensures.added in
    let fits : length c.in-Bytes.piece ≤ c.args.limit - c.pieces.at = omega (arith, ap length c.items-items.ensures) in
    let told = g.H.Host.files c.args.host.now in
    let now = g.H.Host.files c.pieces.host in
    let next = g.H.Host.files c.write_piece.new.host in (
      omega (arith, c.pieces.invariant.0, c.in_ok-read_at.ensures.later, c.in_ok-write_piece-in-Bytes.ensures.later),
      c.in_ok-write_piece-in-Bytes.ensures.no_start ∙ c.in_ok-read_at.ensures.no_start ∙ c.pieces.invariant.1,
      omega (arith, ap length c.items-items.ensures),
      both_then told now next (KeepsOthers c.args.to.now) (KeepsOthers c.args.to.now) (KeepsOthers c.args.to.now) (keeps_then c.args.to.now) c.pieces.invariant.3
          (subst (λ (v : Option Files). Both v next (KeepsOthers c.args.to.now)) c.in_ok-read_at.ensures.same c.in_ok-write_piece-in-Bytes.ensures.others),
      (λ apart. copied_more (c.pieces.invariant.4 apart) (g.H.Host.files c.read_at.new.self) next c.update.new.self c.in-Bytes.piece c.in_ok-read_at.field-0 (c.pieces.at + length c.items-items.result.now) apart c.in_ok-read_at.ensures.same c.in-Bytes.is fits
          (ap (λ k. c.pieces.at + k) (ap length c.items-items.ensures))
          (λ m h. subst (λ (v : List ℕ). Holds256 c.update.new.self (m ++ v)) c.items-items.ensures (c.update.ensures m h))
          c.in_ok-read_at.ensures.content added),
    )
