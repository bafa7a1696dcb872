use Rattle.std.proofs.Common.{rules, ◌≡◌, ℕ, false}
use Rattle.nf_spot.specs.Numbers.{has}
use Rattle.nf_nodes.proofs.Readying.{no_pass, no_take, no_close, one_takes, one_closes, take_ready, none_ready}
use Rattle.nf_nodes.proofs.nodes.Nodes.ready.Goals as goal

pub returns-in-Some-any : goal.returns-in-Some-any
returns-in-Some-any c s h =
    let ns = c.args.nodes.now in
    let none : (n : ℕ) → has c.args.self.now.index.passable n ≡ false = search (rules, c.in_default.ensures) in
    take_ready ns s c.in-Some-any.node c.ready_at.result h.shows.running (no_pass ns (c.numbers.ensures.each ns) (c.numbers.ensures.within ns) s c.args.self.now h none)
    (one_takes ns (c.numbers.ensures.each ns) (c.numbers.ensures.within ns) s c.args.self.now h c.in-Some-any.node c.in-Some-any.ensures) (c.ready_at.ensures s h)

pub returns-in_err-node : goal.returns-in_err-node
returns-in_err-node c s h =
    let ns = c.args.nodes.now in
    let none : (n : ℕ) → has c.args.self.now.index.passable n ≡ false = search (rules, c.in_default.ensures) in
    let still : (n : ℕ) → has c.args.self.now.index.takeable n ≡ false = search (rules, c.in_default-any.ensures) in
    none_ready ns s c.from_residual.result (search (rules, c.from_residual.ensures)) (no_pass ns (c.numbers.ensures.each ns) (c.numbers.ensures.within ns) s c.args.self.now h none)
    (no_take ns (c.numbers.ensures.each ns) (c.numbers.ensures.within ns) s c.args.self.now h still) (no_close ns (c.numbers.ensures.each ns) (c.numbers.ensures.within ns) s c.args.self.now h c.in_err-node.ensures)

pub returns : goal.returns
returns c s h =
    let ns = c.args.nodes.now in
    let none : (n : ℕ) → has c.args.self.now.index.passable n ≡ false = search (rules, c.in_default.ensures) in
    let still : (n : ℕ) → has c.args.self.now.index.takeable n ≡ false = search (rules, c.in_default-any.ensures) in (
      no_pass ns (c.numbers.ensures.each ns) (c.numbers.ensures.within ns) s c.args.self.now h none,
      no_take ns (c.numbers.ensures.each ns) (c.numbers.ensures.within ns) s c.args.self.now h still,
      one_closes ns (c.numbers.ensures.each ns) (c.numbers.ensures.within ns) s c.args.self.now h c.in_ok-node.node c.in_ok-node.ensures,
    )
