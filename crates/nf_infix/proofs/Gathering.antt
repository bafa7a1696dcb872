-- How much values weigh together, one after the other.
use Rattle.std.proofs.Common.{◌≡◌, ◌∙◌, ◌+◌, List, [], ◌∷◌, ◌++◌, length, map, ap, arith, length-append}
use Rattle.std.proofs.lemmas.List.{map-append}
use Rattle.nf_value.specs.Code.{code, all_code}
use Rattle.nf_value.specs.Plain.{Plain, plains_of}
use Rattle.nf_value.specs.View.{plain_of}
use Rattle.nf_value.specs.declared.value.Value.{Value}
use Rattle.nf_infix.specs.Gathering.{weight_of_all}

-- one more value adds its weight
pub one_heavier : (vs : List Plain) (v : Plain) → weight_of_all (vs ++ v ∷ []) ≡ weight_of_all vs + length (code v)
one_heavier [] v = length-append (code v) [] ∙ omega arith
one_heavier (w ∷ vs) v = length-append (code w) (all_code (plains_of (vs ++ v ∷ []))) ∙ omega (arith, one_heavier vs v, length-append (code w) (all_code (plains_of vs)))

-- one more value is kept
pub one_kept : (vs : List Plain) (held now : List Value) (x : Value) → map plain_of held ≡ vs → now ≡ held ++ x ∷ [] → map plain_of now ≡ vs ++ plain_of x ∷ []
one_kept vs held now x these is = ap (map plain_of) is ∙ map-append plain_of held (x ∷ []) ∙ ap (λ (l : List Plain). l ++ plain_of x ∷ []) these
