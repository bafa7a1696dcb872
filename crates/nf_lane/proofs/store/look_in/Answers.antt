use Rattle.std.proofs.Common.{◌≡◌, ℕ, List, true, Some, None, sym, subst, rules}
use Rattle.nf_lane.specs.Store.{first_lacking, holds, lacks}
use Rattle.nf_lane.proofs.Lacking.{all_there, one_gone, gone_named}
use Rattle.nf_lane.proofs.store.look_in.Goals as goal

pub returns-in_ok-copy-in-Some-clause-looked : goal.returns-in_ok-copy-in-Some-clause-looked
returns-in_ok-copy-in-Some-clause-looked c =
    let store = holds c.args.stored.now in
    let found = c.args.report.now.found in
    let first : first_lacking store found ≡ Some c.in-Some.file.now = search rules in
    subst (λ (name : List ℕ). lacks store found name ≡ true) (sym c.in_ok-copy-in-Some.ensures) (one_gone store found c.in-Some.file.now first)

pub returns-in_ok-copy-in-Some-clause-named : goal.returns-in_ok-copy-in-Some-clause-named
returns-in_ok-copy-in-Some-clause-named c =
    gone_named (holds c.args.stored.now) c.args.report.now.found c.in_ok-copy-in-Some.field-0 (returns-in_ok-copy-in-Some-clause-looked c)

pub returns-in_ok-of-in-None-clause-looked : goal.returns-in_ok-of-in-None-clause-looked
returns-in_ok-of-in-None-clause-looked c =
    let none : first_lacking (holds c.args.stored.now) c.args.report.now.found ≡ None = search rules in
    all_there (holds c.args.stored.now) c.args.report.now.found none
