use Rattle.std.proofs.Common.{◌≡◌, ◌∙◌, ap, subst, codes, bytes_eq, List, ℕ}
use Rattle.nf_host.specs.Folders.{path_in}
use Rattle.nf_host.specs.Told.{Both}
use Rattle.nf_host.proofs.Paths.{same_name}
use Rattle.nf_shell.specs.Places.{KeepsOrStores}
use Rattle.nf_shell.proofs.Listed.{not_scratch}
use Rattle.nf_shell.proofs.outputs.store_output.Goals as goal

pub store_file-requires : goal.store_file-requires
store_file-requires g c =
    let dir = c.args.dir.now in
    let from : c.as_str-2.result.now ≡ path_in dir c.args.name.now = c.as_str-2.ensures.value ∙ c.in_ok-from.ensures ∙ ap (path_in dir) c.as_str.ensures in
    let scratch : c.as_str-3.result.now ≡ path_in dir (codes ".command.new") = c.as_str-3.ensures.value ∙ c.in_ok-scratch.ensures in
    ap (λ (v : List ℕ). bytes_eq v c.as_str-3.result.now) from ∙ ap (bytes_eq (path_in dir c.args.name.now)) scratch ∙ same_name dir c.args.name.now (codes ".command.new") ∙ not_scratch c.args.name.now c.requires.seen

pub returns-in_err-stored-clause-kept : goal.returns-in_err-stored-clause-kept
returns-in_err-stored-clause-kept g c =
    subst (λ (v : List ℕ). Both (g.H.Host.files c.args.host.now) (g.H.Host.files c.store_file.new.host) (KeepsOrStores c.args.work.now v)) (c.as_str-3.ensures.value ∙ c.in_ok-scratch.ensures) c.store_file.ensures.kept

pub returns-in_err-ref_of-in-Some-clause-kept : goal.returns-in_err-ref_of-in-Some-clause-kept
returns-in_err-ref_of-in-Some-clause-kept g c =
    subst (λ (v : List ℕ). Both (g.H.Host.files c.args.host.now) (g.H.Host.files c.store_file.new.host) (KeepsOrStores c.args.work.now v)) (c.as_str-3.ensures.value ∙ c.in_ok-scratch.ensures) c.store_file.ensures.kept

pub returns-in-Some-clause-kept : goal.returns-in-Some-clause-kept
returns-in-Some-clause-kept g c =
    subst (λ (v : List ℕ). Both (g.H.Host.files c.args.host.now) (g.H.Host.files c.store_file.new.host) (KeepsOrStores c.args.work.now v)) (c.as_str-3.ensures.value ∙ c.in_ok-scratch.ensures) c.store_file.ensures.kept

pub returns-clause-kept : goal.returns-clause-kept
returns-clause-kept g c =
    subst (λ (v : List ℕ). Both (g.H.Host.files c.args.host.now) (g.H.Host.files c.store_file.new.host) (KeepsOrStores c.args.work.now v)) (c.as_str-3.ensures.value ∙ c.in_ok-scratch.ensures) c.store_file.ensures.kept
