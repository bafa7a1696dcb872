-- The tuples of columns.
use Rattle.std.proofs.Common.{◌≡◌, ℕ, suc, ◌+◌, ◌-◌, ◌<◌, ◌≤◌, min, List, [], ◌∷◌, ◌++◌, map, refl, ap, sym, ◌∙◌, arith, append_assoc, append-nil}
use Rattle.std.specs.Prelude.{Option, Some, None, Err}
use Rattle.std.specs.List.{range_with_len}
use Rattle.std.proofs.lemmas.List.{map-append}
use Rattle.nf_value.specs.Plain.{Plain}
use Rattle.nf_value.specs.View.{plain_of}
use Rattle.nf_value.specs.declared.value.Value.{Value}
use Rattle.nf_value.specs.declared.value.Value.TheVariants as v
use Rattle.nf_opstream.specs.Fault.{not_a_tuple}
use Rattle.nf_opstream.specs.Promise.{emit_of, emits_of}
use Rattle.nf_opstream.specs.Columns.{lesser, tuple_at, transposed}
use Rattle.nf_opstream.specs.Rows.{first_out}

pub lesser_assoc : (a b c : Option ℕ) → lesser (lesser a b) c ≡ lesser a (lesser b c)
lesser_assoc None b c = refl
lesser_assoc (Some m) None c = refl
lesser_assoc (Some m) (Some n) None = refl
lesser_assoc (Some m) (Some n) (Some k) = let e : min (min m n) k ≡ min m (min n k) = omega arith in ap Some e

pub lesser_none : (a : Option ℕ) → lesser a None ≡ a
lesser_none None = refl
lesser_none (Some m) = refl

-- the tuples of the places from i up to n
abbrev pub tuples_from : List Plain → ℕ → ℕ → List (ℕ × Plain)
tuples_from vs i n = first_out (map (tuple_at vs) (range_with_len i (n - i)))

step : (vs : List Plain) (i n : ℕ) → i < n → tuples_from vs i n ≡ (0, tuple_at vs i) ∷ tuples_from vs (i + 1) n
step vs i n h = let e : n - i ≡ suc (n - (i + 1)) = omega arith in rw e refl

pub tuples_more : (vs : List Plain) (es new : List (ℕ × Value)) (i n : ℕ) (t : Value) (whole : List (ℕ × Plain)) → new ≡ es ++ (0, t) ∷ [] → plain_of t ≡ tuple_at vs i → i < n
    → emits_of es ++ tuples_from vs i n ≡ whole → emits_of new ++ tuples_from vs (i + 1) n ≡ whole
tuples_more vs es new i n t whole is same h k =
    let more = tuples_from vs (i + 1) n in
    ap (λ z. emits_of z ++ more) is ∙ ap (λ z. z ++ more) (map-append emit_of es ((0, t) ∷ [])) ∙ append_assoc (emits_of es) ((0, plain_of t) ∷ []) more
    ∙ ap (λ z. emits_of es ++ ((0, z) ∷ more)) same ∙ ap (λ z. emits_of es ++ z) (sym (step vs i n h)) ∙ k

pub tuples_end : (vs : List Plain) (es whole : List (ℕ × Plain)) (i n : ℕ) → n ≤ i → es ++ tuples_from vs i n ≡ whole → es ≡ whole
tuples_end vs es whole i n h k = let e : n - i ≡ 0 = omega arith in sym (append-nil es) ∙ ap (λ m. es ++ first_out (map (tuple_at vs) (range_with_len i m))) (sym e) ∙ k

-- what is no list is no tuple
pub no_tuple : (w : Value) → ((vs : List Plain) → w ≡ v.List vs → ⊥) → transposed (plain_of w) ≡ Err (not_a_tuple (plain_of w))
no_tuple v.Null h = refl
no_tuple (v.Truth b) h = refl
no_tuple (v.Int i) h = refl
no_tuple (v.Text t) h = refl
no_tuple (v.File f) h = refl
no_tuple (v.List vs) h = absurd (h vs refl)
no_tuple (v.Map ps) h = refl
