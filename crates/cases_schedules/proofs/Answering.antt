-- What the lines of a row answer.
use Rattle.std.proofs.Common.{◌≡◌, Bool, List, map, ap, sym, ◌∙◌}
use Rattle.std.specs.Ordering.{eq_by_cmp}
use Rattle.std.specs.Cmp.Lexicographic.{pointwise}
use Rattle.std.specs.Cmp.Derive.Mapped.{pointwise-map}
use Rattle.nf_value.specs.Plain.{Plain}
use Rattle.nf_value.specs.View.{plain_of}
use Rattle.nf_value.specs.Order.{value_cmp}
use Rattle.nf_value.specs.declared.value.Value.{Value}
use Rattle.nf_graph.specs.Meaning.{same_inputs}

-- two lists in memory are the same inputs
pub same_told : (xs ys : List Value) (us vs : List Plain) (b : Bool) → b ≡ pointwise (λ x y. eq_by_cmp value_cmp (plain_of x) (plain_of y)) xs ys → map plain_of xs ≡ us → map plain_of ys ≡ vs → b ≡ same_inputs us vs
same_told xs ys us vs b e p q = e ∙ sym (pointwise-map plain_of (eq_by_cmp value_cmp) xs ys) ∙ ap (λ zs. same_inputs zs (map plain_of ys)) p ∙ ap (same_inputs us) q
