-- Pairs of one item with a list of others.
use Rattle.std.proofs.Common.{◌≡◌, ℕ, ◌+◌, ◌<◌, List, [], ◌∷◌, ◌++◌, map, length, drop, get_or, refl, ap, sym, ◌∙◌, append_assoc, append-nil, add-one, drop-cons}
use Rattle.std.specs.Prelude.{Ok, Err}
use Rattle.std.proofs.lemmas.List.{map-append}
use Rattle.nf_value.specs.Plain.{Plain, plains_of}
use Rattle.nf_value.specs.View.{plain_of}
use Rattle.nf_value.specs.declared.value.Value.{Value}
use Rattle.nf_value.specs.declared.value.Value.TheVariants as v
use Rattle.nf_opstream.specs.Nested.{items_of}
use Rattle.nf_opstream.specs.Promise.{emit_of, emits_of}
use Rattle.nf_opjoin.specs.Pairing.{Due, and_then}
use Rattle.nf_opjoin.specs.Tuples.{parts_of}
use Rattle.nf_opjoin.specs.Listed.{all_paired}

pub items_of-plains_of : (vs : List Plain) → items_of (plains_of vs) ≡ vs
items_of-plains_of [] = refl
items_of-plains_of (v ∷ vs) = ap (λ ws. v ∷ ws) (items_of-plains_of vs)

pub parts_listed : (w : Value) (vs : List Plain) → w ≡ v.List vs → vs ≡ parts_of (plain_of w)
parts_listed w vs is = sym (items_of-plains_of vs) ∙ ap (λ z. parts_of (plain_of z)) (sym is)

-- laws of what comes one after the other
pub then_nothing : (r : Due) → and_then r (Ok []) ≡ r
then_nothing (Ok es) = ap Ok (append-nil es)
then_nothing (Err f) = refl

pub nothing_then : (r : Due) → and_then (Ok []) r ≡ r
nothing_then (Ok es) = refl
nothing_then (Err f) = refl

pub then_assoc : (r s t : Due) → and_then (and_then r s) t ≡ and_then r (and_then s t)
then_assoc (Ok es) (Ok fs) (Ok gs) = ap Ok (append_assoc es fs gs)
then_assoc (Ok es) (Ok fs) (Err g) = refl
then_assoc (Ok es) (Err f) t = refl
then_assoc (Err f) s t = refl

pub all_paired-append : {A : Type 0} (h : A → Due) (bs : List A) (b : A) → all_paired h (bs ++ b ∷ []) ≡ and_then (all_paired h bs) (h b)
all_paired-append h [] b = then_nothing (h b) ∙ sym (nothing_then (h b))
all_paired-append h (c ∷ bs) b = ap (and_then (h c)) (all_paired-append h bs b) ∙ sym (then_assoc (h c) (all_paired h bs) (h b))

-- the loop over the others
pub step : {A : Type 0} (h : A → Due) (bs : List A) (i : ℕ) (b : A) → i < length bs → b ≡ get_or bs i b → all_paired h (drop i bs) ≡ and_then (h b) (all_paired h (drop (i + 1) bs))
step h bs i b lt at = ap (all_paired h) (drop-cons bs i b lt) ∙ (λ k. and_then (h (sym at k)) (all_paired h (drop (sym (add-one i) k) bs)))

pub goes_on : {A : Type 0} (h : A → Due) (bs : List A) (i : ℕ) (b : A) (so_far more : List (ℕ × Plain)) (whole : Due) → i < length bs → b ≡ get_or bs i b → h b ≡ Ok more
    → and_then (Ok so_far) (all_paired h (drop i bs)) ≡ whole → and_then (Ok (so_far ++ more)) (all_paired h (drop (i + 1) bs)) ≡ whole
goes_on h bs i b so_far more whole lt at is inv =
    then_assoc (Ok so_far) (Ok more) (all_paired h (drop (i + 1) bs)) ∙ ap (λ r. and_then (Ok so_far) (and_then r (all_paired h (drop (i + 1) bs)))) (sym is) ∙ ap (and_then (Ok so_far)) (sym (step h bs i b lt at)) ∙ inv

pub appended_emits : {A : Type 0} (h : A → Due) (bs : List A) (i : ℕ) (new old more : List (ℕ × Value)) (whole : Due) → new ≡ old ++ more
    → and_then (Ok (emits_of old ++ emits_of more)) (all_paired h (drop (i + 1) bs)) ≡ whole → and_then (Ok (emits_of new)) (all_paired h (drop (i + 1) bs)) ≡ whole
appended_emits h bs i new old more whole is e = ap (λ es. and_then (Ok es) (all_paired h (drop (i + 1) bs))) (ap emits_of is ∙ map-append emit_of old more) ∙ e

-- rests in memory
pub all_paired-map : (h : Plain → Due) (vs : List Value) → all_paired (λ v. h (plain_of v)) vs ≡ all_paired h (map plain_of vs)
all_paired-map h [] = refl
all_paired-map h (v ∷ vs) = ap (and_then (h (plain_of v))) (all_paired-map h vs)
