-- Rows that are added to columns, and the columns of tuples.
use Rattle.std.proofs.Common.{◌≡◌, ℕ, zero, suc, ◌+◌, ◌<◌, ◌≤◌, max, List, [], ◌∷◌, ◌++◌, map, length, take, drop, get_or, refl, ap, sym, ◌∙◌, arith, append_assoc, append-nil, add-one}
use Rattle.std.specs.Prelude.{slice_get}
use Rattle.std.specs.List.{range_with_len}
use Rattle.std.specs.Option.{option_to_list}
use Rattle.std.proofs.lemmas.List.{ext_get_or, map-append}
use Rattle.std.proofs.Math.ListN.{set}
use Rattle.std.proofs.lemmas.List.FromFn.{get_or-map-range_with_len, length-map-range_with_len}
use Rattle.nf_value.specs.Plain.{Plain}
use Rattle.nf_value.specs.View.{plain_of}
use Rattle.nf_value.specs.declared.value.Value.{Value}
use Rattle.nf_opjoin.specs.Tuples.{parts_of}
use Rattle.nf_opjoin.specs.Grouped.{column, width}
use Rattle.nf_opjoin.specs.Columns.{with_cell, with_row, with_rows}

-- the columns from a place on
abbrev pub from_place : ℕ → List (List Plain) → List Plain → List (List Plain)
from_place j cs vs = take j cs ++ with_row (drop j cs) vs

-- one more cell of a row
pub cell_more : (j : ℕ) (cs : List (List Plain)) (v : Plain) (vs : List Plain) → j ≤ length cs → from_place (suc j) (with_cell cs j v) vs ≡ from_place j cs (v ∷ vs)
cell_more zero [] v vs h = refl
cell_more (suc j) [] v vs h = absurd (omega arith)
cell_more zero (c ∷ cs) v vs h = refl
cell_more (suc j) (c ∷ cs) v vs h = ap (λ ds. c ∷ ds) (cell_more j cs v vs (omega arith))

-- a cell in memory
last_cell : (cs : List (List Plain)) (j : ℕ) (v : Plain) → length cs ≤ j → j ≤ length cs → cs ++ (v ∷ []) ∷ [] ≡ with_cell cs j v
last_cell [] j v h k = refl
last_cell (c ∷ cs) zero v h k = absurd (omega arith)
last_cell (c ∷ cs) (suc j) v h k = ap (λ ds. c ∷ ds) (last_cell cs j v (omega arith) (omega arith))

pub cell_pushed : (cs new : List (List Plain)) (j : ℕ) (made : List Plain) (none cells : List Value) (item : Value) → length cs ≤ j → j ≤ length cs → none ≡ [] → cells ≡ none ++ item ∷ [] → made ≡ map plain_of cells → new ≡ cs ++ made ∷ [] → new ≡ with_cell cs j (plain_of item)
cell_pushed cs new j made none cells item h k empty one is all =
    all ∙ ap (λ c. cs ++ c ∷ []) (is ∙ ap (map plain_of) (one ∙ ap (λ z. z ++ item ∷ []) empty)) ∙ last_cell cs j (plain_of item) h k

set_cell : (cs : List (List Plain)) (j : ℕ) (gone old made : List Plain) (v : Plain) → j < length cs → old ≡ get_or cs j old → made ≡ old ++ v ∷ [] → set (set cs j gone) j made ≡ with_cell cs j v
set_cell [] j gone old made v h at is = absurd (omega arith)
set_cell (c ∷ cs) zero gone old made v h at is = ap (λ d. d ∷ cs) (is ∙ ap (λ d. d ++ v ∷ []) at)
set_cell (c ∷ cs) (suc j) gone old made v h at is = ap (λ ds. c ∷ ds) (set_cell cs j gone old made v (omega arith) at is)

pub cell_replaced : (cs : List (List Plain)) (j : ℕ) (gone now old made : List Plain) (cells new : List Value) (item : Value) → j < length cs → now ≡ get_or cs j now → old ≡ now → map plain_of cells ≡ old → new ≡ cells ++ item ∷ [] → made ≡ map plain_of new
    → set (set cs j gone) j made ≡ with_cell cs j (plain_of item)
cell_replaced cs j gone now old made cells new item h at was are one is =
    set_cell cs j gone now made (plain_of item) h at (is ∙ ap (map plain_of) one ∙ map-append plain_of cells (item ∷ []) ∙ ap (λ d. d ++ plain_of item ∷ []) (are ∙ was))

length-with_cell : (cs : List (List Plain)) (j : ℕ) (v : Plain) → j ≤ length cs → j < length (with_cell cs j v)
length-with_cell [] j v h = omega arith
length-with_cell (c ∷ cs) zero v h = omega arith
length-with_cell (c ∷ cs) (suc j) v h = let k : j < length (with_cell cs j v) = length-with_cell cs j v (omega arith) in omega arith

pub row_more : (cs new whole : List (List Plain)) (j : ℕ) (item : Value) (rest left : List Value) → j ≤ length cs → left ≡ item ∷ rest → new ≡ with_cell cs j (plain_of item) → from_place j cs (map plain_of left) ≡ whole → (from_place (j + 1) new (map plain_of rest) ≡ whole) × (j + 1 ≤ length new)
row_more cs new whole j item rest left h front is inv = (
  (λ i. from_place (add-one j i) (is i) (map plain_of rest)) ∙ cell_more j cs (plain_of item) (map plain_of rest) h ∙ ap (λ z. from_place j cs (map plain_of z)) (sym front) ∙ inv,
  (let k : j < length (with_cell cs j (plain_of item)) = length-with_cell cs j (plain_of item) h in omega (arith, ap length is)),
)

no_row : (cs : List (List Plain)) → with_row cs [] ≡ cs
no_row [] = refl
no_row (c ∷ cs) = refl

take_drop : (j : ℕ) (cs : List (List Plain)) → take j cs ++ drop j cs ≡ cs
take_drop zero cs = refl
take_drop (suc j) [] = refl
take_drop (suc j) (c ∷ cs) = ap (λ ds. c ∷ ds) (take_drop j cs)

none_left : (left : List Value) → length left ≡ 0 → left ≡ []
none_left [] h = refl
none_left (w ∷ left) h = absurd (omega arith)

pub row_end : (cs whole : List (List Plain)) (j : ℕ) (left : List Value) → length left ≡ 0 → from_place j cs (map plain_of left) ≡ whole → cs ≡ whole
row_end cs whole j left none inv = sym (take_drop j cs) ∙ ap (λ ds. take j cs ++ ds) (sym (no_row (drop j cs))) ∙ ap (λ z. from_place j cs (map plain_of z)) (sym (none_left left none)) ∙ inv

length-with_row : (cs : List (List Plain)) (vs : List Plain) → length (with_row cs vs) ≡ max (length cs) (length vs)
length-with_row [] [] = refl
length-with_row [] (v ∷ vs) = let h : length (with_row [] vs) ≡ max 0 (length vs) = length-with_row [] vs in omega arith
length-with_row (c ∷ cs) [] = omega arith
length-with_row (c ∷ cs) (v ∷ vs) = let h : length (with_row cs vs) ≡ max (length cs) (length vs) = length-with_row cs vs in omega arith

at-with_row : (cs : List (List Plain)) (vs : List Plain) (i : ℕ) → get_or (with_row cs vs) i [] ≡ get_or cs i [] ++ option_to_list (slice_get vs i)
at-with_row [] [] i = refl
at-with_row [] (v ∷ vs) zero = refl
at-with_row [] (v ∷ vs) (suc i) = at-with_row [] vs i
at-with_row (c ∷ cs) [] i = sym (append-nil (get_or (c ∷ cs) i []))
at-with_row (c ∷ cs) (v ∷ vs) zero = refl
at-with_row (c ∷ cs) (v ∷ vs) (suc i) = at-with_row cs vs i

length-with_rows : (cs : List (List Plain)) (rs : List Plain) → length (with_rows cs rs) ≡ max (length cs) (width rs)
length-with_rows cs [] = omega arith
length-with_rows cs (r ∷ rs) =
    let h : length (with_rows (with_row cs (parts_of r)) rs) ≡ max (length (with_row cs (parts_of r))) (width rs) = length-with_rows (with_row cs (parts_of r)) rs in
    let k : length (with_row cs (parts_of r)) ≡ max (length cs) (length (parts_of r)) = length-with_row cs (parts_of r) in
    omega arith

at-with_rows : (cs : List (List Plain)) (rs : List Plain) (i : ℕ) → get_or (with_rows cs rs) i [] ≡ get_or cs i [] ++ column rs i
at-with_rows cs [] i = sym (append-nil (get_or cs i []))
at-with_rows cs (r ∷ rs) i =
    at-with_rows (with_row cs (parts_of r)) rs i ∙ ap (λ c. c ++ column rs i) (at-with_row cs (parts_of r) i) ∙ append_assoc (get_or cs i []) (option_to_list (slice_get (parts_of r) i)) (column rs i)

pub rows_end : (cs whole : List (List Plain)) (left : List Value) → length left ≡ 0 → with_rows cs (map plain_of left) ≡ whole → cs ≡ whole
rows_end cs whole left none inv = ap (λ z. with_rows cs (map plain_of z)) (sym (none_left left none)) ∙ inv

-- all rows together are the columns
pub columns_are : (rs : List Plain) → with_rows [] rs ≡ map (column rs) (range_with_len 0 (width rs))
columns_are rs =
    let wide : length (with_rows [] rs) ≡ width rs = omega (arith, length-with_rows [] rs) in
    ext_get_or [] (with_rows [] rs) (map (column rs) (range_with_len 0 (width rs))) (wide ∙ sym (length-map-range_with_len (column rs) 0 (width rs)))
    (λ i h. at-with_rows [] rs i ∙ sym (get_or-map-range_with_len (column rs) 0 (width rs) i i [] (omega arith) (omega arith)))
