-- Tuples split into key and rest.
use Rattle.std.proofs.Common.{◌≡◌, ℕ, zero, suc, ◌<◌, List, [], ◌∷◌, map, length, get_or, refl, ap, sym, ◌∙◌}
use Rattle.std.specs.Prelude.{Some, None, slice_get, remove, Result, Ok, Err, MatchResult}
use Rattle.std.specs.Option.{option_map}
use Rattle.std.proofs.lemmas.Option.{slice_get-map, slice_get-get_or}
use Rattle.nf_value.specs.Plain.{Plain, list, plains_of}
use Rattle.nf_value.specs.View.{plain_of}
use Rattle.nf_value.specs.declared.value.Value.{Value}
use Rattle.nf_value.specs.declared.value.Value.TheVariants as v
use Rattle.nf_bag.specs.declared.fault.OpFault.{OpFault}
use Rattle.nf_opstream.specs.Fault.{fault_of, not_a_tuple}
use Rattle.nf_opjoin.specs.Tuples.{key_at, rest_at}
use Rattle.nf_opjoin.specs.Entered.{IsSplit}
use Rattle.nf_opjoin.specs.declared.keyed.Keyed.{Keyed}
use Rattle.nf_opjoin.proofs.Listing.{items_of-plains_of}

map-remove : (xs : List Value) (i : ℕ) → map plain_of (remove xs i) ≡ remove (map plain_of xs) i
map-remove [] zero = refl
map-remove [] (suc i) = refl
map-remove (x ∷ xs) zero = refl
map-remove (x ∷ xs) (suc i) = ap (λ vs. plain_of x ∷ vs) (map-remove xs i)

pub key_taken : (items : List Value) (vs : List Plain) (place : ℕ) (key : Value) → map plain_of items ≡ vs → place < length items → key ≡ get_or items place key → slice_get vs place ≡ Some (plain_of key)
key_taken items vs place key are lt at =
    ap (λ ws. slice_get ws place) (sym are) ∙ slice_get-map plain_of items place ∙ ap (option_map plain_of) (slice_get-get_or items place key lt ∙ ap Some (sym at))

pub rest_taken : (items rest : List Value) (vs : List Plain) (place : ℕ) → map plain_of items ≡ vs → rest ≡ remove items place → map plain_of rest ≡ remove vs place
rest_taken items rest vs place are is = ap (map plain_of) is ∙ map-remove items place ∙ ap (λ ws. remove ws place) are

key_listed : (n : ℕ) (w : Value) (vs : List Plain) → w ≡ v.List vs → key_at n (plain_of w) ≡ slice_get vs n
key_listed n w vs is = ap (λ z. key_at n (plain_of z)) is ∙ ap (λ ws. slice_get ws n) (items_of-plains_of vs)

rest_listed : (n : ℕ) (w : Value) (vs : List Plain) → w ≡ v.List vs → rest_at n (plain_of w) ≡ remove vs n
rest_listed n w vs is = ap (λ z. rest_at n (plain_of z)) is ∙ ap (λ ws. remove ws n) (items_of-plains_of vs)

pub split_listed : (n : ℕ) (w : Value) (vs : List Plain) → w ≡ v.List vs → (r : Result Keyed OpFault)
    → MatchResult r (λ t. (slice_get vs n ≡ Some (plain_of t.key)) × (t.rest ≡ remove vs n)) (λ f. (slice_get vs n ≡ None) × (fault_of f ≡ Some (not_a_tuple (list (plains_of vs)))))
    → MatchResult r (λ t. IsSplit n (plain_of w) (plain_of t.key) t.rest) (λ f. (key_at n (plain_of w) ≡ None) × (fault_of f ≡ Some (not_a_tuple (plain_of w))))
split_listed n w vs is (Ok t) h = record { key = key_listed n w vs is ∙ h.0; rest = rest_listed n w vs is ∙ sym h.1 }
split_listed n w vs is (Err f) h = (key_listed n w vs is ∙ h.0, h.1 ∙ ap (λ z. Some (not_a_tuple (plain_of z))) (sym is))
