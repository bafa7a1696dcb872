-- The parts of a text between the bytes at which it is cut.
use Rattle.std.proofs.Common.{◌≡◌, ℕ, suc, ◌+◌, ◌-◌, ◌<◌, ◌≤◌, ◌==◌, nat_lt, not, lit<, Bool, true, false, List, [], ◌∷◌, length, take, drop, refl, sym, ◌∙◌, ap, subst, arith}
use Rattle.std.specs.Prelude.{Option, Some, None, MatchOption, cond}
use Rattle.std.specs.List.{slice_split, onto_first, position, position_or_len, before_first, after_first}
use Rattle.std.proofs.lemmas.Bool.{false≢true}
use Rattle.std.proofs.lemmas.Bool.Decides.{nat_tests}
use Rattle.std.proofs.lemmas.List.{take_all, length-drop}
use Rattle.std.proofs.lemmas.List.Sums.{prefix_len-le-length}
use Rattle.std.proofs.lemmas.List.Splits.{slice_split-cons_yes, slice_split-cons_no, slice_split_first}
use Rattle.std.proofs.lemmas.Str.Pattern.{IsSplitOnceResult, split_once_first}
use denote.Bor.{Bor}
use Rattle.nf_trace.specs.Reading.{is_line_end, between_line_ends, columns}

-- without such a byte there is one part
unsplit : (p : ℕ → Bool) (xs : List ℕ) → position_or_len p xs ≡ length xs → slice_split p xs ≡ xs ∷ []
unsplit p [] h = refl
unsplit p (x ∷ xs) h = of (p x) refl (λ f. unsplit p xs f)
  where
    of : (b : Bool) → p x ≡ b → (position_or_len p xs ≡ length xs → slice_split p xs ≡ xs ∷ []) → slice_split p (x ∷ xs) ≡ (x ∷ xs) ∷ []
    of true e more = let f : 0 ≡ suc (length xs) = rw e at h in absurd (omega arith)
    of false e more =
        let f : 1 + position_or_len p xs ≡ suc (length xs) = rw e at h in
        slice_split-cons_no p x xs e ∙ ap (onto_first x) (more (omega arith))

within : (p : ℕ → Bool) (xs : List ℕ) → length xs ≤ position_or_len p xs → position_or_len p xs ≡ length xs
within p xs h = let most : position_or_len p xs ≤ length xs = prefix_len-le-length (λ x. not (p x)) xs in omega arith

-- there is a first part
pub some_part : (p : ℕ → Bool) (xs : List ℕ) → (part : List ℕ) × (parts : List (List ℕ)) × (slice_split p xs ≡ part ∷ parts)
some_part p [] = ([], [], refl)
some_part p (x ∷ xs) = of (p x) refl
  where
    more : (parts : List (List ℕ)) → (part : List ℕ) × (rest : List (List ℕ)) × (onto_first x parts ≡ part ∷ rest)
    more [] = (x ∷ [], [], refl)
    more (part ∷ parts) = (x ∷ part, parts, refl)

    of : (b : Bool) → p x ≡ b → (part : List ℕ) × (parts : List (List ℕ)) × (slice_split p (x ∷ xs) ≡ part ∷ parts)
    of true e = ([], slice_split p xs, slice_split-cons_yes p x xs e)
    of false e = let m = more (slice_split p xs) in (m.0, m.1, slice_split-cons_no p x xs e ∙ m.2)

-- the parts round the first line end
abbrev pub SplitsAt : List ℕ → Option ℕ → Type 0
SplitsAt bs o = MatchOption o (between_line_ends bs ≡ bs ∷ []) (λ i. (i < length bs) × (between_line_ends bs ≡ take i bs ∷ between_line_ends (drop (i + 1) bs)))

pub line_split : (bs : List ℕ) (o : Option ℕ) → o ≡ position is_line_end bs → SplitsAt bs o
line_split bs o e = subst (λ (q : Option ℕ). SplitsAt bs q) (sym e) (of (nat_lt (position_or_len is_line_end bs) (length bs)) refl)
  where
    of : (b : Bool) → nat_lt (position_or_len is_line_end bs) (length bs) ≡ b → SplitsAt bs (cond b (Some (position_or_len is_line_end bs)) None)
    of true h = let lt : position_or_len is_line_end bs < length bs = grind (arith, nat_tests) in (lt, slice_split_first is_line_end bs 0 lt)
    of false h = unsplit is_line_end bs (within is_line_end bs (grind (arith, nat_tests)))

-- the columns round the first tab
pub column_split : (bs : List ℕ) (r : Option (Bor (List ℕ) × Bor (List ℕ))) → IsSplitOnceResult 9 bs r → MatchOption r (columns bs ≡ bs ∷ []) (λ p. columns bs ≡ p.0.now ∷ columns p.1.now)
column_split bs r h = of r (split_once_first 9 bs r h (lit< tt))
  where
    of : (o : Option (Bor (List ℕ) × Bor (List ℕ))) → MatchOption o (position_or_len (λ b. b == 9) bs ≡ length bs) (λ x. (position_or_len (λ b. b == 9) bs < length bs) × (x.0.now ≡ before_first (λ b. b == 9) bs) × (x.1.now ≡ after_first (λ b. b == 9) bs)) → MatchOption o (columns bs ≡ bs ∷ []) (λ p. columns bs ≡ p.0.now ∷ columns p.1.now)
    of None e = unsplit (λ b. b == 9) bs e
    of (Some x) f = slice_split_first (λ b. b == 9) bs 0 f.0 ∙ (λ j. sym f.1 j ∷ columns (sym f.2 j))

-- all that is left
pub tail_is : (bs : List ℕ) (k : ℕ) → take (length bs - k) (drop k bs) ≡ drop k bs
tail_is bs k = take_all (length bs - k) (drop k bs) (omega (arith, length-drop k bs))
