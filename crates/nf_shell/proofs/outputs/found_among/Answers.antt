use Rattle.std.proofs.Common.{◌≡◌, ℕ, List, [], ◌∷◌, ◌++◌, All, length, refl, sym, ap, ◌∙◌, subst, arith, length-append}
use Rattle.std.specs.Prelude.{IfSome}
use Rattle.nf_value.specs.declared.file.FileRef.{FileRef}
use Rattle.nf_host.specs.Folders.{folder_of}
use Rattle.nf_host.proofs.Copying.{both_then, both_same}
use Rattle.nf_shell.specs.Outputs.{AreStored, files_found, lists_found, scratch_in}
use Rattle.nf_shell.specs.Places.{KeepsOrStores}
use Rattle.nf_shell.proofs.Listed.{lists_first, lists_more, lists_all, all_stored_first, all_stored_more}
use Rattle.nf_shell.proofs.Stores.{stores_all, stores_then}
use Rattle.nf_shell.proofs.outputs.found_among.Goals as goal

pub loop-pattern-init : goal.loop-pattern-init
loop-pattern-init g c =
    let told = g.H.Host.files c.args.host.now in record {
      later = omega arith;
      no_start = refl;
      kept = both_same told told (KeepsOrStores c.args.work.now (scratch_in c.args.dir.now)) (stores_all c.args.work.now (scratch_in c.args.dir.now)) refl;
      number = ap length c.new-lists.ensures.items;
      content = lists_first told c.args.dir.now c.args.parts.now.staged c.args.names.now c.items-pattern-items.result.now c.new-lists.result.items c.new-lists.ensures.items;
      stored = all_stored_first told c.args.work.now c.new-lists.result.items c.new-lists.ensures.items;
    }

pub loop-pattern-preserved : goal.loop-pattern-preserved
loop-pattern-preserved g c =
    let told = g.H.Host.files c.args.host.now in
    let now = g.H.Host.files c.loop-pattern.host in
    let next = g.H.Host.files c.files_of.new.host in
    let parts = c.args.parts.now in
    let stays = KeepsOrStores c.args.work.now (scratch_in c.args.dir.now) in
    let made : c.push.new.self.items ≡ c.loop-pattern.lists.items ++ c.in_ok-files.files.items ∷ [] =
    subst (λ (v : List FileRef). c.push.new.self.items ≡ c.loop-pattern.lists.items ++ v ∷ []) c.of-in-loop-pattern.ensures c.in_ok-push.ensures.items in
    let content : IfSome now (λ f. c.in_ok-files.files.items ≡ files_found (folder_of f c.args.dir.now) c.pattern-item.result parts.staged c.args.names.now) =
    subst (λ (v : List FileRef). IfSome now (λ f. c.in_ok-files.files.items ≡ files_found (folder_of f c.args.dir.now) c.pattern-item.result v c.args.names.now)) (c.in_ok-staged.ensures ∙ c.items.ensures)
    (subst (λ (v : List ℕ). IfSome now (λ f. c.in_ok-files.files.items ≡ files_found (folder_of f c.args.dir.now) v c.in_ok-staged.staged.files.now c.args.names.now)) c.as_str-pattern.ensures c.in_ok-files.ensures.content) in
    record {
      later = omega (arith, c.loop-pattern.invariant.later, c.files_of.ensures.later);
      no_start = c.files_of.ensures.no_start ∙ c.loop-pattern.invariant.no_start;
      kept = both_then told now next stays stays stays (stores_then c.args.work.now (scratch_in c.args.dir.now)) c.loop-pattern.invariant.kept c.files_of.ensures.kept;
      number = let n = ap length made ∙ length-append c.loop-pattern.lists.items (c.in_ok-files.files.items ∷ []) in omega (arith, n, c.loop-pattern.invariant.number);
      content = lists_more told now c.args.work.now c.args.dir.now parts.staged c.args.names.now c.items-pattern-items.result.now c.loop-pattern.pattern-index c.pattern-item.result c.loop-pattern.lists.items c.push.new.self.items c.in_ok-files.files.items c.requires c.loop-pattern-test.true c.pattern-item.is
          c.loop-pattern.invariant.kept c.loop-pattern.invariant.content content made;
      stored = all_stored_more now next c.args.work.now c.args.dir.now c.loop-pattern.lists.items c.push.new.self.items c.in_ok-files.files.items c.requires c.files_of.ensures.kept c.loop-pattern.invariant.stored c.in_ok-files.ensures.stored made;
    }

pub returns-in_err-files-clause-kept : goal.returns-in_err-files-clause-kept
returns-in_err-files-clause-kept g c =
    let stays = KeepsOrStores c.args.work.now (scratch_in c.args.dir.now) in
    both_then (g.H.Host.files c.args.host.now) (g.H.Host.files c.loop-pattern.host) (g.H.Host.files c.files_of.new.host) stays stays stays (stores_then c.args.work.now (scratch_in c.args.dir.now)) c.loop-pattern.invariant.kept c.files_of.ensures.kept

pub returns-in_err-push-clause-kept : goal.returns-in_err-push-clause-kept
returns-in_err-push-clause-kept g c =
    let stays = KeepsOrStores c.args.work.now (scratch_in c.args.dir.now) in
    both_then (g.H.Host.files c.args.host.now) (g.H.Host.files c.loop-pattern.host) (g.H.Host.files c.files_of.new.host) stays stays stays (stores_then c.args.work.now (scratch_in c.args.dir.now)) c.loop-pattern.invariant.kept c.files_of.ensures.kept

pub returns-clause-content : goal.returns-clause-content
returns-clause-content g c =
    let told = g.H.Host.files c.args.host.now in
    let parts = c.args.parts.now in
    let all = lists_all told c.args.dir.now parts.staged c.args.names.now c.items-pattern-items.result.now c.loop-pattern.pattern-index c.loop-pattern.lists.items c.loop-pattern-test.false c.loop-pattern.invariant.content in
    subst (λ (v : List (List FileRef)). IfSome told (λ f. v ≡ lists_found (folder_of f c.args.dir.now) parts.staged c.args.names.now parts.patterns)) (sym c.of-2.ensures)
    (subst (λ (v : List (List ℕ)). IfSome told (λ f. c.loop-pattern.lists.items ≡ lists_found (folder_of f c.args.dir.now) parts.staged c.args.names.now v)) c.items-pattern-items.ensures all)

pub returns-clause-stored : goal.returns-clause-stored
returns-clause-stored g c =
    subst (λ (v : List (List FileRef)). IfSome (g.H.Host.files c.loop-pattern.host) (λ h. All (AreStored c.args.work.now h) v)) (sym c.of-2.ensures) c.loop-pattern.invariant.stored

pub returns-clause-number : goal.returns-clause-number
returns-clause-number g c =
    let whole : length c.items-pattern-items.result.now ≡ length c.args.parts.now.patterns = ap length c.items-pattern-items.ensures in
    let made : length c.of-2.result ≡ length c.loop-pattern.lists.items = ap length c.of-2.ensures in
    omega (arith, whole, made, c.loop-pattern.invariant.number, c.loop-pattern-test.false, c.loop-pattern.auto.pattern-index-end)
