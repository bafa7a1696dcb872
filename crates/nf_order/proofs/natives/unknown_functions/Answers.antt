use Rattle.std.proofs.Common.{ℕ, List, ◌++◌, map, ap, ◌∙◌}
use Rattle.nf_ast.specs.Tops.{view_top}
use Rattle.nf_ast.specs.View.{trees}
use Rattle.nf_builtins.specs.declared.rows.Builtin.{Builtin}
use Rattle.nf_builtins.specs.Method.{method_name}
use Rattle.nf_optable.specs.declared.rows.OpRow.{OpRow}
use Rattle.nf_optable.specs.Operator.{operator_name}
use Rattle.nf_order.specs.Accepted.{undefined_of}
use Rattle.nf_order.specs.Natives.{source_names}
use Rattle.nf_order.proofs.Naming.{all_undefined}
use Rattle.nf_order.proofs.natives.unknown_functions.Goals as goal

pub returns : goal.returns
returns c =
    let tops = trees (map view_top c.args.tops.now) in
    all_undefined tops c.add_listed.new.names.items c.add_rows.new.names.items c.add_rows-2.new.names.items
    (c.in_ok-add_listed.ensures ∙ ap (λ (ns : List (List ℕ)). ns ++ undefined_of tops source_names) c.new-names.ensures.items)
    (c.in_ok-add_rows.ensures ∙ ap (λ (rs : List OpRow). c.add_listed.new.names.items ++ undefined_of tops (map (λ r. operator_name r.operator) rs)) (c.rows.ensures.rows ∙ c.in_ok-operators.ensures))
    (c.in_ok-add_rows-2.ensures ∙ ap (λ (rs : List Builtin). c.add_rows.new.names.items ++ undefined_of tops (map (λ b. method_name b.method) rs)) (c.rows-2.ensures.rows ∙ c.in_ok-methods.ensures))
