use Rattle.std.proofs.Common.{◌≡◌, true, false, rules, ap, sym, ◌∙◌}
use Rattle.std.specs.Prelude.{is_some, option_copied}
use Rattle.nf_record.proofs.Answering.{first_answer, first_found, older_answers, older_found, no_answer, none_found}
use Rattle.nf_record.proofs.look.lookup.Goals as goal

pub returns-then-is_some-clause-exact : goal.returns-then-is_some-clause-exact
returns-then-is_some-clause-exact c =
    let e : is_some c.in_ok-current.current ≡ true = search rules in
    first_answer (option_copied c.args.bytes) (option_copied c.args.old) c.args.job.now c.in_ok-current.current e (rw c.text.ensures at c.in_ok-current.ensures.exact)

pub returns-then-is_some-clause-same : goal.returns-then-is_some-clause-same
returns-then-is_some-clause-same c =
    let e : is_some c.in_ok-current.current ≡ true = search rules in
    first_found (option_copied c.args.bytes) (option_copied c.args.old) c.args.job.now c.in_ok-current.current e (rw c.text.ensures at c.in_ok-current.ensures.same)

pub returns-in-Some-clause-exact : goal.returns-in-Some-clause-exact
returns-in-Some-clause-exact c =
    let e : is_some c.in_ok-current.current ≡ false = search rules in
    older_answers (option_copied c.args.bytes) (option_copied c.args.old) c.args.job.now c.in-Some.older.now c.in_ok-current.current c.older_report.result e (rw c.text.ensures at c.in_ok-current.ensures.exact)
    (ap option_copied (sym c.in-Some.is) ∙ c.old.ensures) c.older_report.ensures.exact

pub returns-in-Some-clause-same : goal.returns-in-Some-clause-same
returns-in-Some-clause-same c =
    let e : is_some c.in_ok-current.current ≡ false = search rules in
    older_found (option_copied c.args.bytes) (option_copied c.args.old) c.args.job.now c.in-Some.older.now c.in_ok-current.current c.older_report.result e (rw c.text.ensures at c.in_ok-current.ensures.same)
    (ap option_copied (sym c.in-Some.is) ∙ c.old.ensures) c.older_report.ensures.same

pub returns-clause-exact : goal.returns-clause-exact
returns-clause-exact c =
    let e : is_some c.in_ok-current.current ≡ false = search rules in
    no_answer (option_copied c.args.bytes) (option_copied c.args.old) c.args.job.now c.in_ok-current.current e (rw c.text.ensures at c.in_ok-current.ensures.exact) (ap option_copied (sym c.in-None.is) ∙ c.old.ensures)

pub returns-clause-same : goal.returns-clause-same
returns-clause-same c =
    let e : is_some c.in_ok-current.current ≡ false = search rules in
    none_found (option_copied c.args.bytes) (option_copied c.args.old) c.args.job.now c.in_ok-current.current e (rw c.text.ensures at c.in_ok-current.ensures.same) (ap option_copied (sym c.in-None.is) ∙ c.old.ensures)
