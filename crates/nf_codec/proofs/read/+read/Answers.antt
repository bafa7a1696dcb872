use Rattle.std.proofs.Common.{◌≡◌, ◌-◌, ◌+◌, ◌∷◌, ◌++◌, [], Some, None, Ok, Err, arith, ap, sym, ◌∙◌, refl, subst, drop, map, length, take}
use Rattle.std.proofs.lemmas.List.{map-append}
use Rattle.nf_value.specs.View.{plain_of, pair_of, rising}
use Rattle.nf_codec.specs.Heads.{head_at}
use Rattle.nf_codec.specs.Fronts.{last_key, IsHead}
use Rattle.nf_codec.specs.Reading.{read, pair_from, many, many_pairs, ReadsBy}
use Rattle.nf_codec.proofs.LastKeys.{last_key-snoc, rising-snoc}
use Rattle.nf_codec.proofs.Series.{ahead, reads_ok, series_fault, series_more, series_end}
use Rattle.nf_codec.proofs.Steps.{value_none, value_found, pair_fault, pair_above}
use Rattle.nf_codec.proofs.read.+read.Goals as goal

pub read_many-returns-in-Err : goal.read_many-returns-in-Err
read_many-returns-in-Err t c =
    series_fault plain_of (λ vs. vs) c.args.bytes.now (λ s. read c.args.left) (λ v. tt {0}) (c.args.count - c.loop.counter) (tt {0}) (drop c.loop.next c.args.bytes.now) _ (map plain_of c.loop.items.items) c.in-Err.fault
    c.loop.invariant.0 (omega arith) c.in-Err.ensures

pub read_many-loop-preserved : goal.read_many-loop-preserved
read_many-loop-preserved t c =
    let next = series_more plain_of c.args.bytes.now (λ s. read c.args.left) (λ v. tt {0}) (c.args.count - c.loop.counter) (tt {0}) (drop c.loop.next c.args.bytes.now) _ (map plain_of c.loop.items.items)
    (c.in-Ok.item, c.in-Ok.after) c.loop.invariant.0 (omega arith) c.in-Ok.ensures in
    let items = c.push_reserved.ensures.items ∙ ap (λ w. w ++ c.in-Ok.item ∷ []) c.reserve.ensures.items in
    let vs = ap (map plain_of) items ∙ map-append plain_of c.loop.items.items (c.in-Ok.item ∷ []) in
    let less : (c.args.count - c.loop.counter) - 1 ≡ c.args.count - (c.loop.counter + 1) = omega arith in (
      next ∙ (λ i. ahead (sym vs i) (many (read c.args.left) (less i) (drop c.in-Ok.after c.args.bytes.now))),
      (reads_ok plain_of c.args.bytes.now _ (c.in-Ok.item, c.in-Ok.after) c.in-Ok.ensures).1,
    )

pub read_many-returns : goal.read_many-returns
read_many-returns t c =
    rw c.of.ensures (series_end c.args.bytes.now (λ s. read c.args.left) (λ v. tt {0}) (c.args.count - c.loop.counter) (tt {0}) _ (map plain_of c.loop.items.items) c.loop.next c.loop.invariant.0 (omega arith) c.loop.invariant.1)

pub read_pair-returns-in-Err : goal.read_pair-returns-in-Err
read_pair-returns-in-Err t c = pair_fault c.args.bytes.now (read c.args.left) (last_key None (map pair_of c.args.before.now)) c.args.at c.in-Err.fault c.in-Err.ensures

pub read_pairs-returns-in-Err : goal.read_pairs-returns-in-Err
read_pairs-returns-in-Err t c =
    let bytes = c.args.bytes.now in
    let read_here = subst (λ xs. ReadsBy pair_of bytes (pair_from (read c.args.left) (last_key None (map pair_of xs)) (drop c.loop.next bytes)) (Err c.in-Err.fault)) c.as_slice.ensures.value c.in-Err.ensures in
    series_fault pair_of (λ ps. ps) bytes (pair_from (read c.args.left)) (λ p. Some p.0) (c.args.count - c.loop.counter) (last_key None (map pair_of c.loop.items.items)) (drop c.loop.next bytes) _ (map pair_of c.loop.items.items) c.in-Err.fault
    c.loop.invariant.0 (omega arith) read_here

pub read_pairs-loop-preserved : goal.read_pairs-loop-preserved
read_pairs-loop-preserved t c =
    let bytes = c.args.bytes.now in
    let pair = c.in-Ok.pair in
    let after = c.in-Ok.after in
    let before = last_key None (map pair_of c.loop.items.items) in
    let read_here = subst (λ xs. ReadsBy pair_of bytes (pair_from (read c.args.left) (last_key None (map pair_of xs)) (drop c.loop.next bytes)) (Ok (pair, after))) c.as_slice.ensures.value c.in-Ok.ensures in
    let ok = reads_ok pair_of bytes (pair_from (read c.args.left) before (drop c.loop.next bytes)) (pair, after) read_here in
    let next = series_more pair_of bytes (pair_from (read c.args.left)) (λ p. Some p.0) (c.args.count - c.loop.counter) before (drop c.loop.next bytes) _ (map pair_of c.loop.items.items)
    (pair, after) c.loop.invariant.0 (omega arith) read_here in
    let items = c.push_reserved.ensures.items ∙ ap (λ w. w ++ pair ∷ []) c.reserve.ensures.items in
    let ps = ap (map pair_of) items ∙ map-append pair_of c.loop.items.items (pair ∷ []) in
    let last = sym (last_key-snoc None (map pair_of c.loop.items.items) (pair_of pair)) ∙ ap (last_key None) (sym ps) in
    let less : (c.args.count - c.loop.counter) - 1 ≡ c.args.count - (c.loop.counter + 1) = omega arith in (
      next ∙ (λ i. ahead (sym ps i) (many_pairs (read c.args.left) (less i) (last i) (drop after bytes))),
      ok.1,
      ap rising ps ∙ rising-snoc (map pair_of c.loop.items.items) (pair_of pair) c.loop.invariant.2 (pair_above (read c.args.left) before (drop c.loop.next bytes) (pair_of pair) (drop after bytes) ok.0),
    )

pub read_pairs-returns : goal.read_pairs-returns
read_pairs-returns t c =
    rw c.of.ensures (series_end c.args.bytes.now (pair_from (read c.args.left)) (λ p. Some p.0) (c.args.count - c.loop.counter) (last_key None (map pair_of c.loop.items.items)) _ (map pair_of c.loop.items.items) c.loop.next c.loop.invariant.0 (omega arith) c.loop.invariant.1)

pub read_value-returns-in-None : goal.read_value-returns-in-None
read_value-returns-in-None t c =
    let bytes = c.args.bytes.now in
    let part = take (length bytes - c.args.at) (drop c.args.at bytes) in
    value_none bytes part c.args.at c.args.left refl c.requires (subst (IsHead (head_at part) part) c.in-None.is c.in_ok-found.ensures)

pub read_value-returns-in-Some : goal.read_value-returns-in-Some
read_value-returns-in-Some t c =
    let bytes = c.args.bytes.now in
    let part = take (length bytes - c.args.at) (drop c.args.at bytes) in
    value_found bytes part c.args.at c.args.left c.in-Some.used c.in-Some.head c.open_head.result refl c.requires (omega arith) (subst (IsHead (head_at part) part) c.in-Some.is c.in_ok-found.ensures) c.open_head.ensures
