-- What a loop has left of a list of values, and what it has pushed.
use Rattle.std.proofs.Common.{◌≡◌, ℕ, ◌+◌, ◌<◌, List, [], ◌∷◌, ◌++◌, length, drop, map, get_or, refl, ap, sym, ◌∙◌, add-one, drop-cons}
use Rattle.std.proofs.lemmas.List.{map-append}
use Rattle.nf_value.specs.Plain.{Plain, text}
use Rattle.nf_value.specs.View.{plain_of}
use Rattle.nf_value.specs.declared.value.Value.{Value}
use Rattle.nf_value.specs.declared.value.Value.TheVariants as v

-- what is left of a list from a place on
pub left_at : (xs : List Value) (i : ℕ) (x : Value) → i < length xs → x ≡ get_or xs i x → map plain_of (drop i xs) ≡ plain_of x ∷ map plain_of (drop (i + 1) xs)
left_at xs i x h is = rw (add-one, drop-cons xs i x, ← is) refl

pub pushed_text : (old new : List Value) (t s : List ℕ) (all : List Plain) → new ≡ old ++ v.Text t ∷ [] → t ≡ s → all ≡ text s ∷ [] → map plain_of new ≡ map plain_of old ++ all
pushed_text old new t s all e same is = ap (map plain_of) e ∙ map-append plain_of old (v.Text t ∷ []) ∙ ap (λ y. map plain_of old ++ text y ∷ []) same ∙ ap (λ l. map plain_of old ++ l) (sym is)
