-- Rows of the table of methods by their names.
use Rattle.std.proofs.Common.{◌≡◌, ◌≢◌, ℕ, zero, suc, ◌<◌, length, get_or, arith, Bool, true, false, ◌&&◌, ◌||◌, not, List, [], ◌∷◌, map, slice_get, Some, None, refl, sym, ◌∙◌, ap, subst}
use Rattle.std.specs.Str.{bytes_eq}
use Rattle.std.proofs.lemmas.Slice.Eq.{bytes_eq-Decides}
use Rattle.std.proofs.lemmas.Bool.{false≢true}
use Rattle.std.proofs.lemmas.List.{length-map}
use Rattle.std.proofs.lemmas.Option.{none-some, same_Some, slice_get_within, slice_get-get_or}
use Rattle.nf_builtins.specs.declared.rows.Builtin.{Builtin}
use Rattle.nf_builtins.specs.Method.{method_name}
use Rattle.nf_builtins.specs.Call.{builtin_rows}
use Rattle.nf_builtins.specs.Natives.{is_among, are_distinct}
use Rattle.nf_placed.specs.Calls.{row_of}
use Rattle.nf_placed.specs.Row.{IsRowNamed}

abbrev pub label : Builtin → List ℕ
label b = method_name b.method

not_true : (b : Bool) → (b ≡ true → ⊥) → b ≡ false
not_true true f = absurd (f refl)
not_true false f = refl

pub differs : (m n : List ℕ) → m ≢ n → bytes_eq m n ≡ false
differs m n h = not_true (bytes_eq m n) (λ e. h ((bytes_eq-Decides m n).0 e))

pub equals : (m n : List ℕ) → m ≡ n → bytes_eq m n ≡ true
equals m n h = (bytes_eq-Decides m n).1 h

pub no_row : (n : List ℕ) (rows : List Builtin) → ((i : ℕ) → slice_get (map label rows) i ≢ Some n) → row_of n rows ≡ None
no_row n [] h = refl
no_row n (b ∷ bs) h = rw (differs (label b) n (λ e. h zero (ap Some e))) (no_row n bs (λ i. h (suc i)))

among : (n : List ℕ) (ns : List (List ℕ)) (i : ℕ) → slice_get ns i ≡ Some n → is_among n ns ≡ true
among n [] i h = absurd (none-some n h)
among n (m ∷ ns) zero h = rw (equals m n (same_Some _ _ h)) refl
among n (m ∷ ns) (suc i) h = either (bytes_eq m n) (among n ns i h)
  where
    either : (b : Bool) {c : Bool} → c ≡ true → (b || c) ≡ true
    either true h = refl
    either false h = h

both : (a b : Bool) → (a && b) ≡ true → (a ≡ true) × (b ≡ true)
both true true h = (refl, refl)
both true false h = absurd (false≢true h)
both false b h = absurd (false≢true h)

free : (b : Bool) → not b ≡ true → b ≡ true → ⊥
free true h e = false≢true h
free false h e = false≢true e

pub the_row : (n : List ℕ) (rows : List Builtin) (i : ℕ) → are_distinct (map label rows) ≡ true → slice_get (map label rows) i ≡ Some n → row_of n rows ≡ slice_get rows i
the_row n [] i d h = absurd (none-some n h)
the_row n (b ∷ bs) zero d h = rw (equals (label b) n (same_Some _ _ h)) refl
the_row n (b ∷ bs) (suc i) d h =
    let parts = both (not (is_among (label b) (map label bs))) (are_distinct (map label bs)) d in
    let other : label b ≢ n = λ e. free (is_among (label b) (map label bs)) parts.0 (subst (λ m. is_among m (map label bs) ≡ true) (sym e) (among n (map label bs) i h)) in
    rw (differs (label b) n other) (the_row n bs i parts.1 h)

pub distinct : are_distinct (map label builtin_rows) ≡ true
distinct = refl

pub none_named : (rows : List Builtin) (n : List ℕ) → rows ≡ builtin_rows → ((i : ℕ) → slice_get (map label rows) i ≢ Some n) → row_of n builtin_rows ≡ None
none_named rows n e h = ap (row_of n) (sym e) ∙ no_row n rows h

pub one_named : (rows table : List Builtin) (n : List ℕ) (i : ℕ) (d : Builtin) → rows ≡ table → table ≡ builtin_rows → length table ≡ 48 → slice_get (map label table) i ≡ Some n → IsRowNamed n (Some (i, get_or rows i d))
one_named rows table n i d same e count h =
    let within : i < length table = subst (λ (k : ℕ). i < k) (length-map table label) (slice_get_within (map label table) i n h) in
    let here : slice_get table i ≡ Some (get_or rows i d) = slice_get-get_or table i d within ∙ ap (λ t. Some (get_or t i d)) (sym same) in
    let of : (t : List Builtin) → t ≡ table → are_distinct (map label t) ≡ true → row_of n t ≡ Some (get_or rows i d) = λ t is dist. the_row n t i dist (ap (λ u. slice_get (map label u) i) is ∙ h) ∙ ap (λ u. slice_get u i) is ∙ here in
    (of builtin_rows (sym e) distinct, ap (λ t. slice_get t i) (sym e) ∙ here, omega (arith, within, count))
