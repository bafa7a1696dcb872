use Rattle.std.proofs.Common.{◌≡◌, List, false, map, sym, ap, ◌∙◌, rules}
use Rattle.std.specs.Prelude.{◌||◌}
use Rattle.std.specs.Str.{bytes_eq}
use Rattle.std.proofs.lemmas.List.Folds.{list_any-append}
use Rattle.nf_builtins.specs.declared.rows.Builtin.{Builtin}
use Rattle.nf_builtins.specs.Method.{method_name}
use Rattle.nf_builtins.specs.Natives.{is_among}
use Rattle.nf_order.specs.Natives.{source_names, method_names}
use Rattle.nf_order.proofs.natives.is_source_or_method.Goals as goal

pub returns : goal.returns
returns c =
    let n = c.args.name.now in
    let none : is_among n source_names ≡ false = search rules in
    let found : c.has_row.result ≡ is_among n method_names = c.has_row.ensures ∙ ap (λ (rs : List Builtin). is_among n (map (λ b. method_name b.method) rs)) (c.rows.ensures.rows ∙ c.in_ok-table.ensures) in
    found ∙ sym (list_any-append (λ m. bytes_eq m n) source_names method_names ∙ ap (λ b. b || is_among n method_names) none)
