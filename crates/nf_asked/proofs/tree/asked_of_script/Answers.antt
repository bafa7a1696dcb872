use Rattle.nf_ast.specs.Tops.{view_script}
use Rattle.nf_host.specs.Faults.{Rose}
use Rattle.nf_printer.specs.Tops.{canonical}
use Rattle.nf_asked.proofs.Leading.{fmt_answers, check_answers, run_answers, gen_answers, text_blames, check_blames}
use Rattle.nf_asked.proofs.tree.asked_of_script.Goals as goal

pub returns-in-Fmt-clause-cause : goal.returns-in-Fmt-clause-cause
returns-in-Fmt-clause-cause g c =
    text_blames (canonical (view_script c.args.script)) (Rose (g.H.Host.faults c.args.host.now) (g.H.Host.faults c.args.host.now)) c.formatted.result c.formatted.ensures

pub returns-in-Fmt-clause-answers : goal.returns-in-Fmt-clause-answers
returns-in-Fmt-clause-answers g c =
    fmt_answers (g.H.Host.files c.args.host.now) c.args.command c.in-Fmt.file (view_script c.args.script) c.formatted.result c.in-Fmt.is c.formatted.ensures

pub returns-in-Check-clause-cause : goal.returns-in-Check-clause-cause
returns-in-Check-clause-cause g c =
    check_blames (view_script c.args.script) (Rose (g.H.Host.faults c.args.host.now) (g.H.Host.faults c.args.host.now)) c.checked.result c.checked.ensures

pub returns-in-Check-clause-answers : goal.returns-in-Check-clause-answers
returns-in-Check-clause-answers g c =
    check_answers (g.H.Host.files c.args.host.now) c.args.command c.in-Check.file (view_script c.args.script) c.checked.result c.in-Check.is c.checked.ensures

pub returns-in-Run-clause-answers : goal.returns-in-Run-clause-answers
returns-in-Run-clause-answers g c =
    run_answers (g.H.Host.files c.args.host.now) c.args.command c.in-Run.field-0 (view_script c.args.script) c.run_of.result c.in-Run.is c.run_of.ensures.answers

pub returns-in-Gen-clause-answers : goal.returns-in-Gen-clause-answers
returns-in-Gen-clause-answers g c =
    gen_answers (g.H.Host.files c.args.host.now) c.args.command c.in-Gen.n c.in-Gen.start (view_script c.args.script) c.run_of-in-Gen.result c.in-Gen.is c.run_of-in-Gen.ensures.answers
