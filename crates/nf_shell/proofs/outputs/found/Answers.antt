use Rattle.std.proofs.Common.{ℕ, Option, List, subst, sym}
use Rattle.std.specs.Prelude.{IfSome}
use Rattle.nf_host.specs.Files.{Files}
use Rattle.nf_host.specs.Folders.{IsListing}
use Rattle.nf_host.specs.Told.{Both}
use Rattle.nf_host.proofs.Copying.{both_same}
use Rattle.nf_shell.specs.Outputs.{AreFoundIn, scratch_in}
use Rattle.nf_shell.specs.Over.{OkOver}
use Rattle.nf_shell.specs.Places.{KeepsOrStores}
use Rattle.nf_shell.proofs.Listed.{found_told}
use Rattle.nf_shell.proofs.Stores.{stores_all}
use Rattle.nf_shell.proofs.outputs.found.Goals as goal

pub returns-in_err-names-clause-kept : goal.returns-in_err-names-clause-kept
returns-in_err-names-clause-kept g c =
    both_same (g.H.Host.files c.args.host.now) (g.H.Host.files c.names_in.new.host) (KeepsOrStores c.args.work.now (scratch_in c.args.dir.now)) (stores_all c.args.work.now (scratch_in c.args.dir.now)) c.names_in.ensures.same

pub returns-clause-kept : goal.returns-clause-kept
returns-clause-kept g c =
    subst (λ (o : Option Files). Both o (g.H.Host.files c.found_among.new.host) (KeepsOrStores c.args.work.now (scratch_in c.args.dir.now))) c.names_in.ensures.same c.found_among.ensures.kept

pub returns-clause-content : goal.returns-clause-content
returns-clause-content g c =
    let told = g.H.Host.files c.names_in.new.host in
    let dir = c.args.dir.now in
    let parts = c.args.parts.now in
    let listed : IfSome told (λ f. IsListing f dir c.deref.result.now) =
    subst (λ (v : List (List ℕ)). IfSome told (λ f. IsListing f dir v)) (sym c.deref.ensures.value)
    (subst (λ (o : Option Files). IfSome o (λ f. IsListing f dir c.in_ok-names.names.items)) (sym c.names_in.ensures.same) c.in_ok-names.ensures.content) in
    subst (λ (o : Option Files). OkOver o c.found_among.result (λ f. AreFoundIn f dir parts)) c.names_in.ensures.same (found_told told dir parts c.deref.result.now c.found_among.result listed c.found_among.ensures.content)
