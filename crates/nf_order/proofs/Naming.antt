-- Names that a script doesn't define.
use Rattle.std.proofs.Common.{◌≡◌, ℕ, List, ◌++◌, map, sym, ap, ◌∙◌, append_assoc}
use Rattle.std.proofs.lemmas.List.Elements.{filter-append}
use Rattle.nf_ast.specs.Tree.{Tree}
use Rattle.nf_slips.specs.Definitions.{definition_in}
use Rattle.nf_optable.specs.Operator.{operator_name}
use Rattle.nf_optable.specs.Rows.{operator_rows}
use Rattle.nf_order.specs.Natives.{source_names, method_names}
use Rattle.nf_order.specs.Accepted.{is_undefined, undefined_of, unknown_functions}

three_rows : (tops : Tree) (xs ys zs : List (List ℕ)) → (undefined_of tops xs ++ undefined_of tops ys) ++ undefined_of tops zs ≡ undefined_of tops (xs ++ (ys ++ zs))
three_rows tops xs ys zs =
    append_assoc (undefined_of tops xs) (undefined_of tops ys) (undefined_of tops zs)
    ∙ ap (λ us. undefined_of tops xs ++ us) (sym (filter-append (λ n. is_undefined (definition_in n tops)) ys zs))
    ∙ sym (filter-append (λ n. is_undefined (definition_in n tops)) xs (ys ++ zs))

-- what is added row by row
pub all_undefined : (tops : Tree) (us vs ws : List (List ℕ)) → us ≡ undefined_of tops source_names → vs ≡ us ++ undefined_of tops (map (λ r. operator_name r.operator) operator_rows) → ws ≡ vs ++ undefined_of tops method_names → ws ≡ unknown_functions tops
all_undefined tops us vs ws e f g =
    g
    ∙ ap (λ l. l ++ undefined_of tops method_names) (f ∙ ap (λ l. l ++ undefined_of tops (map (λ r. operator_name r.operator) operator_rows)) e)
    ∙ three_rows tops source_names (map (λ r. operator_name r.operator) operator_rows) method_names
