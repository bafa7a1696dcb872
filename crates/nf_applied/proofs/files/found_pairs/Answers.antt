use Rattle.std.proofs.Common.{◌≡◌, ◌∙◌, ℕ, List, Err, ap, rules, subst, true}
use Rattle.std.specs.Str.{chars}
use Rattle.nf_opargs.specs.declared.sources.Source.TheVariants.{FromFilePairs}
use Rattle.nf_paths.specs.Pairs as paths
use Rattle.nf_value.specs.Plain.{Plain}
use Rattle.nf_meaning.specs.Given.{files_at}
use Rattle.nf_meaning.specs.Things.{queue}
use Rattle.nf_meaning.specs.declared.fault.LowerFault.TheVariants.{Mem}
use Rattle.nf_walked.specs.Around.{Knows}
use Rattle.nf_walked.specs.Steps.{InAll, from}
use Rattle.nf_walked.proofs.Still.{nothing_done}
use Rattle.nf_applied.specs.Sources.{a_path, items_of, with_files}
use Rattle.nf_applied.proofs.Looking.{found_fails, found_given, lost_later}
use Rattle.nf_applied.proofs.files.found_pairs.Goals as goal

pub returns-in_err-want : goal.returns-in_err-want
returns-in_err-want g c =
    let err : c.from_residual.result ≡ Err Mem = search rules in
    rw err (nothing_done (Knows g.N.Natives.titles g.N.Natives.answer c.args.walker.now) (from a_path c.args.given.now (items_of FromFilePairs) (with_files true (λ x fs. queue (paths.pairs_of (chars x.path) fs)))) c.args.state.now)

pub returns-in_err-want-2 : goal.returns-in_err-want-2
returns-in_err-want-2 g c =
    let e = c.in_err-want-2.field-0.0 in
    let err : c.from_residual-in_err-want-2.result ≡ Err e = search rules in
    rw err
    (found_fails (Knows g.N.Natives.titles g.N.Natives.answer c.args.walker.now) c.args.given.now true c.in_ok-want.want c.in_ok-want.ensures (items_of FromFilePairs) (λ x fs. queue (paths.pairs_of (chars x.path) fs)) c.args.state.now c.want-2.new.state c.requires.lowering e
    c.in_err-want-2.ensures)

pub returns-in_err-pairs : goal.returns-in_err-pairs
returns-in_err-pairs g c =
    let err : c.from_residual-in_err-pairs.result ≡ Err Mem = search rules in
    rw err
    (lost_later (Knows g.N.Natives.titles g.N.Natives.answer c.args.walker.now) (from a_path c.args.given.now (items_of FromFilePairs) (with_files true (λ x fs. queue (paths.pairs_of (chars x.path) fs)))) c.args.state.now c.want-2.new.state c.in_ok-want-2.ensures.later)

pub returns : goal.returns
returns g c =
    let path : c.as_str-path.result.now ≡ c.args.given.now.path = search rules in
    let P : List ℕ → Type 0 = λ n. InAll (Knows g.N.Natives.titles g.N.Natives.answer c.args.walker.now) (λ a. c.files.result.now ≡ files_at n a.given.found) in
    let Q : List ℕ → Type 0 = λ n. c.in_ok-pairs.pairs ≡ paths.pairs_of (chars n) c.files.result.now in
    found_given (Knows g.N.Natives.titles g.N.Natives.answer c.args.walker.now) c.args.given.now true c.in_ok-want.want c.in_ok-want.ensures (items_of FromFilePairs) (λ x fs. queue (paths.pairs_of (chars x.path) fs)) c.args.state.now c.want-2.new.state c.requires.lowering c.files.result.now c.in_ok-want-2.field-0 c.into_items.result
    (subst P path c.files.ensures) tt (λ x. ap (λ (vs : List Plain). queue vs) (c.into_items.ensures ∙ subst Q path c.in_ok-pairs.ensures)) c.in_ok-want-2.ensures
