use Rattle.std.proofs.Common.{ℕ, Option, List, subst, sym}
use Rattle.std.specs.Prelude.{IfSome, IfErr, IfOk}
use Rattle.nf_host.specs.Files.{Files}
use Rattle.nf_host.specs.Folders.{IsListing}
use Rattle.nf_host.specs.Told.{Both}
use Rattle.nf_host.proofs.Copying.{both_same}
use Rattle.nf_shell.specs.Over.{OkOver}
use Rattle.nf_shell.specs.Places.{KeepsOrStores}
use Rattle.nf_shell.proofs.Stores.{stores_all}
use Rattle.nf_sources.specs.Sources.{AreFilesOf, AreMatching, IsLongMatch, OnTooLong, scratch_in}
use Rattle.nf_sources.proofs.Found.{matching_told, over_listed, refused_listed, refused_told}
use Rattle.nf_sources.proofs.matching.matching_files.Goals as goal

pub returns-in_err-names-clause-kept : goal.returns-in_err-names-clause-kept
returns-in_err-names-clause-kept g c =
    both_same (g.H.Host.files c.args.host.now) (g.H.Host.files c.names_in.new.host) (KeepsOrStores c.args.work.now (scratch_in c.args.work.now)) (stores_all c.args.work.now (scratch_in c.args.work.now)) c.names_in.ensures.same

pub returns-clause-kept : goal.returns-clause-kept
returns-clause-kept g c =
    subst (λ (o : Option Files). Both o (g.H.Host.files c.files_among.new.host) (KeepsOrStores c.args.work.now (scratch_in c.args.work.now))) c.names_in.ensures.same c.files_among.ensures.kept

pub returns-clause-refused : goal.returns-clause-refused
returns-clause-refused g c = λ clear.
    let told = g.H.Host.files c.names_in.new.host in
    let folder = c.args.folder.now in
    let pattern = c.args.pattern.now in
    let listed : IfSome told (λ f. IsListing f folder c.deref.result.now) =
    subst (λ (v : List (List ℕ)). IfSome told (λ f. IsListing f folder v)) (sym c.deref.ensures.value)
    (subst (λ (o : Option Files). IfSome o (λ f. IsListing f folder c.in_ok-names.names.items)) (sym c.names_in.ensures.same) c.in_ok-names.ensures.content) in
    subst (λ (o : Option Files). IfErr c.files_among.result (λ e. OnTooLong e (λ path. IfSome o (λ f. IsLongMatch f folder pattern path)))) c.names_in.ensures.same
    (refused_told told folder pattern c.deref.result.now c.files_among.result listed (refused_listed told c.args.work.now folder pattern c.deref.result.now c.files_among.result clear listed c.files_among.ensures.refused))

pub returns-clause-content : goal.returns-clause-content
returns-clause-content g c = λ clear.
    let told = g.H.Host.files c.names_in.new.host in
    let folder = c.args.folder.now in
    let pattern = c.args.pattern.now in
    let listed : IfSome told (λ f. IsListing f folder c.deref.result.now) =
    subst (λ (v : List (List ℕ)). IfSome told (λ f. IsListing f folder v)) (sym c.deref.ensures.value)
    (subst (λ (o : Option Files). IfSome o (λ f. IsListing f folder c.in_ok-names.names.items)) (sym c.names_in.ensures.same) c.in_ok-names.ensures.content) in
    subst (λ (o : Option Files). OkOver o c.files_among.result (λ f v. AreMatching f folder pattern v.items)) c.names_in.ensures.same
    (matching_told told folder pattern c.deref.result.now c.files_among.result listed
    (over_listed told c.args.work.now folder c.deref.result.now clear listed (λ f. IfOk c.files_among.result (λ v. AreFilesOf f folder pattern c.deref.result.now v.items)) c.files_among.ensures.content))
