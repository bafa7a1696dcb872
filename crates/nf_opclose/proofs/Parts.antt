-- The items of a list in its place.
use Rattle.std.proofs.Common.{◌≡◌, List, [], ◌∷◌, ◌++◌, map, refl, ap, sym, ◌∙◌}
use Rattle.std.proofs.lemmas.List.{map-append}
use Rattle.nf_value.specs.Plain.{Plain, plains_of}
use Rattle.nf_value.specs.View.{plain_of}
use Rattle.nf_value.specs.declared.value.Value.{Value}
use Rattle.nf_value.specs.declared.value.Value.TheVariants as v
use Rattle.nf_opstream.specs.Nested.{items_of}
use Rattle.nf_opclose.specs.Gathered.{unlisted}

items_of-plains_of : (vs : List Plain) → items_of (plains_of vs) ≡ vs
items_of-plains_of [] = refl
items_of-plains_of (v ∷ vs) = ap (λ ws. v ∷ ws) (items_of-plains_of vs)

pub listed : (new old items : List Value) (vs : List Plain) (w : Value) → new ≡ old ++ items → map plain_of items ≡ vs → w ≡ v.List vs → map plain_of new ≡ map plain_of old ++ unlisted (plain_of w)
listed new old items vs w added are is =
    ap (map plain_of) added ∙ map-append plain_of old items ∙ ap (λ xs. map plain_of old ++ xs) (are ∙ sym (items_of-plains_of vs) ∙ ap (λ z. unlisted (plain_of z)) (sym is))
