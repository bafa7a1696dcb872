-- Bags of appended lists.
use Rattle.std.proofs.Common.{◌≡◌, ◌+◌, List, ◌++◌, Bool, cond, ap, arith}
use Rattle.std.specs.Prelude.{count_by}
use Rattle.std.specs.Ordering.{eq_by_cmp}
use Rattle.std.proofs.lemmas.List.Sums.{sum_by-append}
use Rattle.nf_value.specs.Plain.{Plain}
use Rattle.nf_value.specs.Order.{value_cmp}
use Rattle.nf_bag.specs.Bag.{count, IsSubBag, IsSameBag}

pub count_by-append : {A : Type 0} (test : A → Bool) (xs ys : List A) → count_by test (xs ++ ys) ≡ count_by test xs + count_by test ys
count_by-append test xs ys = sum_by-append (λ x. cond (test x) 1 0) xs ys

count-append : (v : Plain) (xs ys : List Plain) → count v (xs ++ ys) ≡ count v xs + count v ys
count-append v xs ys = count_by-append (λ x. eq_by_cmp value_cmp x v) xs ys

pub same_both : (a b c d : List Plain) → IsSameBag a b → c ≡ d → IsSameBag (a ++ c) (b ++ d)
same_both a b c d s e = record { at = λ v. omega (arith, count-append v a c, count-append v b d, s.at v, ap (count v) e) }

pub sub_more : (a b c : List Plain) → IsSubBag a b → IsSubBag a (b ++ c)
sub_more a b c s = record { at = λ v. omega (arith, count-append v b c, s.at v) }

-- these values after the others, or before them
pub same_turned : (a b c d e : List Plain) → a ≡ b ++ c → IsSameBag b d → e ≡ c ++ d → IsSameBag a e
same_turned a b c d e is s other = record { at = λ v. omega (arith, ap (count v) is, ap (count v) other, count-append v b c, count-append v c d, s.at v) }
