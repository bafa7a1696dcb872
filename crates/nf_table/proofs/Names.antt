-- The names of rows, by their places.
use Rattle.std.proofs.Common.{◌≡◌, ◌≢◌, ℕ, ◌+◌, ◌<◌, ◌≤◌, Bool, true, false, List, length, map, get_or, Some, None, refl, ap, sym, ◌∙◌, arith, below_more, slice_get, subst, inl, inr}
use Rattle.std.proofs.lemmas.List.{length-map}
use Rattle.std.specs.Option.{option_map}
use Rattle.std.specs.Cmp.Lexicographic.{pointwise}
use Rattle.std.proofs.lemmas.Option.{slice_get-map, slice_get_read, slice_get_past}
use Rattle.std.proofs.lemmas.Slice.Eq.{bytes_eq-Decides}
use Rattle.std.proofs.lemmas.Bool.{false≢true, cases_lt}
use lib.Dec.{eqb}
use Rattle.nf_table.specs.Table.{HasNone}

-- what stands at a place of the names
pub name_at : {R : Type 0} (label : R → List ℕ) (rows : List R) (i : ℕ) (row : R) (n : List ℕ) → i < length rows → row ≡ get_or rows i row → n ≡ label row → slice_get (map label rows) i ≡ Some n
name_at label rows i row n h is e =
    slice_get-map label rows i ∙ ap (option_map label) (slice_get_read rows (length rows) i row refl h is) ∙ ap Some (sym e)

pub same_name : (n name : List ℕ) (r : Bool) → r ≡ pointwise eqb n name → r ≡ true → n ≡ name
same_name n name r e h = (bytes_eq-Decides n name).0 (sym e ∙ h)

pub other_name : (n name : List ℕ) (r : Bool) → r ≡ pointwise eqb n name → r ≡ false → n ≢ name
other_name n name r e h same = false≢true (sym h ∙ e ∙ (bytes_eq-Decides n name).1 same)

some_same : (n m : List ℕ) → Some n ≡ Some m → n ≡ m
some_same n m h = cc

pub still_none : {R : Type 0} (label : R → List ℕ) (rows : List R) (i : ℕ) (row : R) (n name : List ℕ) → i < length rows → row ≡ get_or rows i row → n ≡ label row → n ≢ name → ((k : ℕ) → k < i → slice_get (map label rows) k ≢ Some name) → (k : ℕ) → k < i + 1 → slice_get (map label rows) k ≢ Some name
still_none label rows i row n name h is e other before =
    below_more (λ k. slice_get (map label rows) k ≢ Some name) i before (λ at. other (some_same n name (sym (name_at label rows i row n h is e) ∙ at)))

-- the same over rows that are a table's
pub found_at : {R : Type 0} (label : R → List ℕ) (rows table : List R) (i : ℕ) (row : R) (n name : List ℕ) → rows ≡ table → i < length rows → row ≡ get_or rows i row → n ≡ label row → n ≡ name → slice_get (map label table) i ≡ Some name
found_at label rows table i row n name same h is e is_name =
    ap (λ t. slice_get (map label t) i) (sym same) ∙ name_at label rows i row n h is e ∙ ap Some is_name

none_past : (names : List (List ℕ)) (k : ℕ) (name : List ℕ) → length names ≤ k → slice_get names k ≢ Some name
none_past names k name h at = let e : None ≡ Some name = sym (slice_get_past names k h) ∙ at in cc

pub none_at_all : {R : Type 0} (label : R → List ℕ) (rows table : List R) (i : ℕ) (name : List ℕ) → rows ≡ table → length rows ≤ i → ((k : ℕ) → k < i → slice_get (map label rows) k ≢ Some name) → HasNone (map label table) name
none_at_all label rows table i name same h before =
    let all : HasNone (map label rows) name = λ k at.
    elim (cases_lt k i) [ inl lt ↦ before k lt at | inr ge ↦ none_past (map label rows) k name (omega (arith, length-map rows label)) at ] in
    subst (λ (t : List _). HasNone (map label t) name) same all
