-- Words that set parameters.
use Rattle.std.proofs.Common.{◌≡◌, ℕ, ◌+◌, ◌<◌, ◌≤◌, ◌==◌, nat_lt, lit<, Bool, true, false, List, [], ◌∷◌, length, refl, sym, ◌∙◌, ap, arith, if◌then◌else◌, ◌≢◌}
use Rattle.std.specs.Prelude.{Option, Some, None, MatchOption, option_map}
use Rattle.std.specs.List.{position_or_len, before_first, after_first}
use Rattle.std.proofs.lemmas.Bool.Decides.{nat_tests}
use Rattle.std.proofs.lemmas.Str.Pattern.{IsSplitOnceResult, split_once_first}
use denote.Bor.{Bor}
use Rattle.nf_command.specs.Words.{is_equals, parts_at_equals, after_dash}

-- the text after a dash
pub stripped : (bs : List ℕ) (r : Option (Bor (List ℕ))) → MatchOption r ((rest : List ℕ) → bs ≢ 45 ∷ rest) (λ x. bs ≡ 45 ∷ x.now) → option_map (λ t. t.now) r ≡ after_dash bs
stripped [] None h = refl
stripped (b ∷ bs) None h = of (b == 45) refl
  where
    of : (t : Bool) → (b == 45) ≡ t → None ≡ after_dash (b ∷ bs)
    of true e = let is : b ≡ 45 = grind (arith, nat_tests) in absurd (h bs (ap (λ x. x ∷ bs) is))
    of false e = rw e refl
stripped bs (Some x) h = ap after_dash (sym h)

-- the texts round `=`
pub split_equals : (bs : List ℕ) (r : Option (Bor (List ℕ) × Bor (List ℕ))) → IsSplitOnceResult 61 bs r → option_map (λ p. (p.0.now, p.1.now)) r ≡ parts_at_equals bs
split_equals bs r h = of r (split_once_first 61 bs r h (lit< tt))
  where
    of : (o : Option (Bor (List ℕ) × Bor (List ℕ))) → MatchOption o (position_or_len is_equals bs ≡ length bs) (λ x. (position_or_len is_equals bs < length bs) × (x.0.now ≡ before_first is_equals bs) × (x.1.now ≡ after_first is_equals bs)) → option_map (λ p. (p.0.now, p.1.now)) o ≡ parts_at_equals bs
    of None e = let f : nat_lt (position_or_len is_equals bs) (length bs) ≡ false = grind (arith, nat_tests) in rw f refl
    of (Some x) f = let g : nat_lt (position_or_len is_equals bs) (length bs) ≡ true = grind (arith, nat_tests) in rw g (λ j. Some (f.1 j, f.2 j))
