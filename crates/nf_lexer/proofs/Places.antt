-- Places after a front of a text, byte by byte.
use Rattle.std.proofs.Common.{◌≡◌, ℕ, ◌+◌, ◌-◌, ◌≤◌, true, false, cond, List, [], ◌∷◌, ◌++◌, length, take, refl, sym, ap, ◌∙◌, arith, length-append, append_assoc}
use Rattle.std.specs.Prelude.{not, ◌==◌}
use Rattle.std.specs.List.{suffix_len, prefix_len}
use Rattle.std.proofs.lemmas.List.{take_at, reverse-append}
use Rattle.std.proofs.lemmas.List.Sums.{sum_by-append, count_by-le-length, suffix_len-le-length}
use Rattle.nf_value.specs.declared.place.Place.{Place}
use Rattle.nf_lexer.specs.Bytes.{is_line_feed, is_not_line_feed}
use Rattle.nf_lexer.specs.Place.{place_after, place_of, beyond}

pub same_place : (p q : Place) → p.line ≡ q.line → p.col ≡ q.col → p ≡ q
same_place p q e f = ap (λ x. record { line = x; col = p.col }) e ∙ ap (λ x. record { line = q.line; col = x }) f

pub line-le : (front : List ℕ) → (place_after front).line ≤ 1 + length front
unfolding place_after
line-le front = omega (arith, count_by-le-length is_line_feed front)

pub col-le : (front : List ℕ) → (place_after front).col ≤ 1 + length front
unfolding place_after
col-le front = omega (arith, suffix_len-le-length is_not_line_feed front)

pub at_start : (place_after []).line ≡ 1
unfolding place_after
at_start = refl

pub at_start_col : (place_after []).col ≡ 1
unfolding place_after
at_start_col = refl

pub at_start_place : record { line = 1; col = 1 } ≡ place_after []
unfolding place_after
at_start_place = refl

line-push : (front : List ℕ) (b : ℕ) → (place_after (front ++ b ∷ [])).line ≡ (place_after front).line + cond (b == 10) 1 0
unfolding place_after
line-push front b =
    let e = sum_by-append (λ x. cond (is_line_feed x) 1 0) front (b ∷ []) in
    omega (arith, e)

suffix_push : (front : List ℕ) (b : ℕ) → suffix_len is_not_line_feed (front ++ b ∷ []) ≡ cond (not (b == 10)) (1 + suffix_len is_not_line_feed front) 0
suffix_push front b = ap (prefix_len is_not_line_feed) (reverse-append front (b ∷ []))

pub line_feed-line : (front : List ℕ) (b : ℕ) → (b == 10) ≡ true → (place_after (front ++ b ∷ [])).line ≡ (place_after front).line + 1
line_feed-line front b h = line-push front b ∙ rw h refl

pub line_feed-col : (front : List ℕ) (b : ℕ) → (b == 10) ≡ true → (place_after (front ++ b ∷ [])).col ≡ 1
unfolding place_after
line_feed-col front b h =
    let e : suffix_len is_not_line_feed (front ++ b ∷ []) ≡ 0 = suffix_push front b ∙ rw h refl in
    omega (arith, e)

pub other-line : (front : List ℕ) (b : ℕ) → (b == 10) ≡ false → (place_after (front ++ b ∷ [])).line ≡ (place_after front).line
other-line front b h = line-push front b ∙ rw h (omega arith)

pub other-col : (front : List ℕ) (b : ℕ) → (b == 10) ≡ false → (place_after (front ++ b ∷ [])).col ≡ (place_after front).col + 1
unfolding place_after
other-col front b h =
    let e : suffix_len is_not_line_feed (front ++ b ∷ []) ≡ 1 + suffix_len is_not_line_feed front = suffix_push front b ∙ rw h refl in
    omega (arith, e)

-- the place after one byte more
pub next_line_after : (front : List ℕ) (b : ℕ) (here there : Place) → (b == 10) ≡ true → here ≡ place_after front → there.line ≡ here.line + 1 → there.col ≡ 1 → there ≡ place_after (front ++ b ∷ [])
next_line_after front b here there h e line col =
    let was = ap (λ (x : Place). x.line) e in
    let line_is : there.line ≡ (place_after (front ++ b ∷ [])).line = omega (arith, line, was, line_feed-line front b h) in
    let col_is : there.col ≡ (place_after (front ++ b ∷ [])).col = col ∙ sym (line_feed-col front b h) in
    same_place there _ line_is col_is

pub further_after : (front : List ℕ) (b : ℕ) (here there : Place) → (b == 10) ≡ false → here ≡ place_after front → there ≡ beyond 1 here → there ≡ place_after (front ++ b ∷ [])
further_after front b here there h e next =
    let line = ap (λ (x : Place). x.line) e in
    let col = ap (λ (x : Place). x.col) e in
    let next_line = ap (λ (x : Place). x.line) next in
    let next_col = ap (λ (x : Place). x.col) next in
    let line_is : there.line ≡ (place_after (front ++ b ∷ [])).line = omega (arith, line, next_line, other-line front b h) in
    let col_is : there.col ≡ (place_after (front ++ b ∷ [])).col = omega (arith, col, next_col, other-col front b h) in
    same_place there _ line_is col_is

pub along : (front bs next : List ℕ) (b : ℕ) (there : Place) → next ≡ bs ++ b ∷ [] → there ≡ place_after ((front ++ bs) ++ b ∷ []) → there ≡ place_after (front ++ next)
along front bs next b there e h = h ∙ ap place_after (append_assoc front bs (b ∷ []) ∙ ap (λ (z : List ℕ). front ++ z) (sym e))

-- the place at which what stands after the front is left
pub place_at : (text front rest : List ℕ) → text ≡ front ++ rest → place_of text (length rest) ≡ place_after front
place_at text front rest e =
    let n : length front ≡ length text - length rest = omega (arith, ap length e, length-append front rest) in
    ap place_after (ap (take (length text - length rest)) e ∙ take_at front rest (length text - length rest) n)
