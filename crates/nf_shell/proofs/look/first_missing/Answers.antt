use Rattle.std.proofs.Common.{◌≡◌, ◌∙◌, ℕ, List, Option, None, Some, option_map, subst, arith}
use Rattle.std.specs.Prelude.{IfSome}
use Rattle.nf_value.specs.declared.file.FileRef.{FileRef}
use Rattle.nf_shell.proofs.Looking.{Lacks, misses_here, misses_past}
use Rattle.nf_shell.proofs.look.first_missing.Goals as goal

pub returns-in-Some-clause-content : goal.returns-in-Some-clause-content
returns-in-Some-clause-content g c =
    let told = g.H.Host.files c.args.host.now in
    let now = g.H.Host.files c.loop-files.host in
    let work = c.args.work.now in
    let lacking : IfSome now (λ f. Some c.in-Some.name ≡ option_map (λ r. r.name) (Lacks f work c.files-item.result)) =
    subst (λ (v : List FileRef). IfSome now (λ f. Some c.in-Some.name ≡ option_map (λ r. r.name) (Lacks f work v))) c.items.ensures
    (subst (λ (v : Option (List ℕ)). IfSome now (λ f. v ≡ option_map (λ r. r.name) (Lacks f work c.items.result.now))) c.in-Some.is c.in_ok-name.ensures.content) in
    misses_here told now work c.args.found.now c.loop-files.files-index c.files-item.result c.in-Some.name c.loop-files.invariant.same c.loop-files-test.true c.files-item.is c.loop-files.invariant.content lacking

pub loop-files-preserved : goal.loop-files-preserved
loop-files-preserved g c =
    let told = g.H.Host.files c.args.host.now in
    let now = g.H.Host.files c.loop-files.host in
    let work = c.args.work.now in
    let there : IfSome now (λ f. None ≡ option_map (λ r. r.name) (Lacks f work c.files-item.result)) =
    subst (λ (v : List FileRef). IfSome now (λ f. None ≡ option_map (λ r. r.name) (Lacks f work v))) c.items.ensures
    (subst (λ (v : Option (List ℕ)). IfSome now (λ f. v ≡ option_map (λ r. r.name) (Lacks f work c.items.result.now))) c.in_default.is c.in_ok-name.ensures.content) in
    record {
      later = omega (arith, c.loop-files.invariant.later, c.missing_in.ensures.later);
      same = c.missing_in.ensures.same ∙ c.loop-files.invariant.same;
      no_start = c.missing_in.ensures.no_start ∙ c.loop-files.invariant.no_start;
      content = misses_past told now work c.args.found.now c.loop-files.files-index c.files-item.result c.loop-files.invariant.same c.loop-files-test.true c.files-item.is c.loop-files.invariant.content there;
    }
