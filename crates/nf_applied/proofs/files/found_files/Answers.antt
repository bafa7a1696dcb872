use Rattle.std.proofs.Common.{◌≡◌, ℕ, List, Err, ap, false, map, rules, subst}
use Rattle.nf_job.specs.JobText.{file_plain}
use Rattle.nf_opargs.specs.declared.sources.Source.TheVariants.{FromPath}
use Rattle.nf_value.specs.Plain.{Plain}
use Rattle.nf_meaning.specs.Given.{files_at}
use Rattle.nf_meaning.specs.Things.{queue}
use Rattle.nf_meaning.specs.declared.fault.LowerFault.TheVariants.{Mem}
use Rattle.nf_walked.specs.Around.{Knows}
use Rattle.nf_walked.specs.Steps.{InAll, from}
use Rattle.nf_walked.proofs.Still.{nothing_done}
use Rattle.nf_applied.specs.Sources.{a_path, items_of, with_files}
use Rattle.nf_applied.proofs.Looking.{found_fails, found_given, lost_later}
use Rattle.nf_applied.proofs.files.found_files.Goals as goal

pub returns-in_err-want : goal.returns-in_err-want
returns-in_err-want g c =
    let err : c.from_residual.result ≡ Err Mem = search rules in
    rw err (nothing_done (Knows g.N.Natives.titles g.N.Natives.answer c.args.walker.now) (from a_path c.args.given.now (items_of FromPath) (with_files false (λ x fs. queue (map file_plain fs)))) c.args.state.now)

pub returns-in_err-want-2 : goal.returns-in_err-want-2
returns-in_err-want-2 g c =
    let e = c.in_err-want-2.field-0.0 in
    let err : c.from_residual-in_err-want-2.result ≡ Err e = search rules in
    rw err
    (found_fails (Knows g.N.Natives.titles g.N.Natives.answer c.args.walker.now) c.args.given.now false c.in_ok-want.want c.in_ok-want.ensures (items_of FromPath) (λ x fs. queue (map file_plain fs)) c.args.state.now c.want-2.new.state c.requires.lowering e
    c.in_err-want-2.ensures)

pub returns-in_err-file_items : goal.returns-in_err-file_items
returns-in_err-file_items g c =
    let err : c.from_residual-in_err-file_items.result ≡ Err Mem = search rules in
    rw err
    (lost_later (Knows g.N.Natives.titles g.N.Natives.answer c.args.walker.now) (from a_path c.args.given.now (items_of FromPath) (with_files false (λ x fs. queue (map file_plain fs)))) c.args.state.now c.want-2.new.state c.in_ok-want-2.ensures.later)

pub returns : goal.returns
returns g c =
    let path : c.as_str.result.now ≡ c.args.given.now.path = search rules in
    let P : List ℕ → Type 0 = λ n. InAll (Knows g.N.Natives.titles g.N.Natives.answer c.args.walker.now) (λ a. c.files.result.now ≡ files_at n a.given.found) in
    found_given (Knows g.N.Natives.titles g.N.Natives.answer c.args.walker.now) c.args.given.now false c.in_ok-want.want c.in_ok-want.ensures (items_of FromPath) (λ x fs. queue (map file_plain fs)) c.args.state.now c.want-2.new.state c.requires.lowering c.files.result.now c.in_ok-want-2.field-0 c.in_ok-file_items.field-0
    (subst P path c.files.ensures) tt (λ x. ap (λ (vs : List Plain). queue vs) c.in_ok-file_items.ensures) c.in_ok-want-2.ensures
