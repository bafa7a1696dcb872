-- The first value that is too deep.
use Rattle.std.proofs.Common.{◌≡◌, ℕ, suc, ◌+◌, ◌<◌, ◌≤◌, List, [], ◌∷◌, map, filter, length, drop, get_or, true, false, refl, ap, sym, ◌∙◌, drop-cons, add-one}
use Rattle.std.specs.Prelude.{Ok, Err}
use Rattle.std.proofs.lemmas.List.{get_or_read, drop_all}
use Rattle.nf_value.specs.Plain.{Plain}
use Rattle.nf_value.specs.View.{plain_of}
use Rattle.nf_value.specs.declared.value.Value.{Value}
use Rattle.nf_opstream.specs.Fault.{too_deep}
use Rattle.nf_opstream.specs.Promise.{emits_of}
use Rattle.nf_opstream.specs.Alone.{is_too_deep, judged}

abbrev pub deep_ones : List (ℕ × Value) → List Plain
deep_ones es = filter is_too_deep (map (λ e. e.1) (emits_of es))

pub passed_over : (es : List (ℕ × Value)) (i : ℕ) (d : ℕ × Value) → i < length es → is_too_deep (plain_of (get_or es i d).1) ≡ false → deep_ones (drop (i + 1) es) ≡ deep_ones (drop i es)
passed_over es i d h e = rw (add-one, drop-cons es i d, e) refl

first_deep : (es : List (ℕ × Value)) (v : Plain) (vs : List Plain) → deep_ones es ≡ v ∷ vs → judged (emits_of es) ≡ Err (too_deep v)
first_deep es v vs h = rw h refl

met : (es : List (ℕ × Value)) (i : ℕ) (d : ℕ × Value) → i < length es → is_too_deep (plain_of (get_or es i d).1) ≡ true → deep_ones (drop i es) ≡ deep_ones es → judged (emits_of es) ≡ Err (too_deep (plain_of (get_or es i d).1))
met es i d h e same = first_deep es (plain_of (get_or es i d).1) (deep_ones (drop (suc i) es)) (sym same ∙ (rw (drop-cons es i d, e) refl))

-- the value at i is the first that is too deep
pub met_here : (es whole : List (ℕ × Value)) (i : ℕ) (x y : ℕ × Value) → i < length es → x ≡ get_or es i x → y ≡ get_or es i y → is_too_deep (plain_of x.1) ≡ true → es ≡ whole → deep_ones (drop i es) ≡ deep_ones es
    → judged (emits_of whole) ≡ Err (too_deep (plain_of y.1))
met_here es whole i x y h at there deep is same =
    ap (λ z. judged (emits_of z)) (sym is) ∙ met es i x h (ap (λ (z : ℕ × Value). is_too_deep (plain_of z.1)) (sym at) ∙ deep) same
    ∙ ap (λ (z : ℕ × Value). Err (too_deep (plain_of z.1))) (sym (get_or_read es i y h there x))

-- no value is
pub none_met : (es whole : List (ℕ × Value)) (i : ℕ) → length es ≤ i → es ≡ whole → deep_ones (drop i es) ≡ deep_ones es → judged (emits_of whole) ≡ Ok (emits_of es)
none_met es whole i h is same =
    let none : deep_ones es ≡ [] = sym same ∙ ap deep_ones (drop_all i es h) in
    ap (λ z. judged (emits_of z)) (sym is) ∙ (rw none refl)
