-- How bytes that are added to a string change how it begins and ends.
use Rattle.std.proofs.Common.{◌≡◌, ℕ, Bool, true, false, List, [], ◌∷◌, ◌++◌, take, refl, sym, ap, ◌∙◌, arith}
use Rattle.std.specs.Prelude.{not, ◌==◌, ◌&&◌, ◌||◌, nat_eq}
use Rattle.std.specs.List.{list_all, starts_with}
use lib.Pointwise.{bytes_decides}
use Rattle.std.proofs.lemmas.Bool.Decides.{nat_tests, Decides-eqb}
use Rattle.std.proofs.lemmas.List.Folds.{list_all-append}
use Rattle.nf_lexer.specs.Bytes.{is_not_line_feed, is_ordinary}
use Rattle.fmt_tokens.specs.Fits.{ends_well}
use Rattle.fmt_tokens.proofs.Tests.{both}

pub join : (a b : Bool) → a ≡ true → b ≡ true → (a && b) ≡ true
join true b h k = k
join false b h k = absurd cc

-- ---- the last byte

pub ends_on : (w : List ℕ) (c : ℕ) (x : List ℕ) → ends_well (c ∷ x) ≡ true → ends_well (w ++ c ∷ x) ≡ true
ends_on [] c x h = h
ends_on (b ∷ []) c x h = h
ends_on (b ∷ d ∷ w) c x h = ends_on (d ∷ w) c x h

ordinary_end : (b : ℕ) → is_ordinary b ≡ true → not (b == 92) ≡ true
ordinary_end b h = grind (arith, nat_tests)

pub run_ends : (x : List ℕ) → list_all is_ordinary x ≡ true → ends_well x ≡ true
run_ends [] h = refl
run_ends (b ∷ []) h = ordinary_end b (both (is_ordinary b) true h).0
run_ends (b ∷ c ∷ x) h = run_ends (c ∷ x) (both (is_ordinary b) (list_all is_ordinary (c ∷ x)) h).1

-- ---- line ends

abbrev pub is_one_line : List ℕ → Bool
is_one_line w = list_all is_not_line_feed w

ordinary_line : (b : ℕ) → is_ordinary b ≡ true → is_not_line_feed b ≡ true
ordinary_line b h = grind (arith, nat_tests)

pub run_line : (x : List ℕ) → list_all is_ordinary x ≡ true → is_one_line x ≡ true
run_line [] h = refl
run_line (b ∷ x) h =
    let e = both (is_ordinary b) (list_all is_ordinary x) h in
    join (is_not_line_feed b) (is_one_line x) (ordinary_line b e.0) (run_line x e.1)

pub line_on : (w x : List ℕ) → is_one_line w ≡ true → is_one_line x ≡ true → is_one_line (w ++ x) ≡ true
line_on w x h k = list_all-append is_not_line_feed w x ∙ join (is_one_line w) (is_one_line x) h k

pub one_line : (b : ℕ) → (b == 10) ≡ false → is_one_line (b ∷ []) ≡ true
one_line b h = ap (λ t. not t && true) h

-- ---- what comes next

-- a slash comes next
abbrev pub is_slash_next : List ℕ → Bool
is_slash_next [] = false
is_slash_next (b ∷ bs) = b == 47

-- what comes next makes no comment of a slash before it
abbrev pub is_no_comment : List ℕ → Bool
is_no_comment [] = true
is_no_comment (b ∷ bs) = not (b == 47 || b == 42)

head_of : List ℕ → ℕ
head_of [] = 0
head_of (b ∷ w) = b

pub slash_first : (b : ℕ) (bs : List ℕ) → starts_with nat_eq (b ∷ bs) (47 ∷ []) ≡ true → (b == 47) ≡ true
unfolding head_of
slash_first b bs h =
    let e : 47 ≡ b = ap head_of ((bytes_decides (47 ∷ []) (take 1 (b ∷ bs))).0 h) in
    (Decides-eqb b 47).1 (sym e)
