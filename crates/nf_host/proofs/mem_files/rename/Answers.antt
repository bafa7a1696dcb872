use Rattle.std.proofs.Common.{◌≡◌, ℕ, List, Some, true, false, bytes_eq, option_map, ap, sym, ◌∙◌, subst, string_bytes, rules}
use Rattle.nf_host.specs.Files.{moved}
use Rattle.nf_host.specs.MemFiles.{files_in}
use Rattle.nf_host.proofs.MemMaps.{by_not, by_no_not, moved_by, moved_to_itself}
use Rattle.nf_host.proofs.mem_files.rename.Goals as goal

pub returns-then-ne-clause-ok : goal.returns-then-ne-clause-ok
returns-then-ne-clause-ok c =
    let name = string_bytes c.in_ok-name.name in
    let here : name ≡ c.args.to.now = c.in_ok-name.ensures.ok in
    let same : c.in_ok-copy.copy.items ≡ c.in-Some.bytes.now.items = search rules in
    let found : files_in c.args.files.now c.args.from.now ≡ Some c.in_ok-copy.copy.items = ap (option_map (λ v. v.items)) (sym c.in-Some.ensures.value) ∙ ap (λ v. Some v) (sym same) in
    let apart : bytes_eq c.args.from.now c.args.to.now ≡ false = by_not c.ne.result (bytes_eq c.args.from.now c.args.to.now) c.ne.ensures c.if-ne.true in
    subst (λ (to : List ℕ). files_in c.remove.new.self ≡ moved (files_in c.args.files.now) c.args.from.now to) here
    (moved_by c.args.files.now c.insert.new.self c.remove.new.self c.args.from.now name c.in_ok-copy.copy (ap (bytes_eq c.args.from.now) here ∙ apart) found c.in_ok-insert.ensures.updates c.remove.ensures.updates)

pub returns-else-ne-clause-ok : goal.returns-else-ne-clause-ok
returns-else-ne-clause-ok c =
    let name = string_bytes c.in_ok-name.name in
    let here : name ≡ c.args.to.now = c.in_ok-name.ensures.ok in
    let same : c.in_ok-copy.copy.items ≡ c.in-Some.bytes.now.items = search rules in
    let found : files_in c.args.files.now c.args.from.now ≡ Some c.in_ok-copy.copy.items = ap (option_map (λ v. v.items)) (sym c.in-Some.ensures.value) ∙ ap (λ v. Some v) (sym same) in
    let alike : bytes_eq c.args.from.now c.args.to.now ≡ true = by_no_not c.ne.result (bytes_eq c.args.from.now c.args.to.now) c.ne.ensures c.if-ne.false in
    subst (λ (to : List ℕ). files_in c.insert.new.self ≡ moved (files_in c.args.files.now) c.args.from.now to) here
    (moved_to_itself c.args.files.now c.insert.new.self c.args.from.now name c.in_ok-copy.copy (ap (bytes_eq c.args.from.now) here ∙ alike) found c.in_ok-insert.ensures.updates)
