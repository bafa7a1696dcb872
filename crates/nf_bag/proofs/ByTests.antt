-- Bags compared by counts are bags compared by tests.
use Rattle.std.proofs.Common.{List, Bool}
use Rattle.nf_value.specs.Plain.{Plain}
use Rattle.nf_bag.specs.Bag.{IsSubBag, IsSameBag}
use Rattle.nf_bag.specs.Tests.{IsSubByTests, IsSameByTests}
use Rattle.nf_bag.proofs.Bags.{is_same, one_if, sub_sum, same_sum}

pub sub_by_tests : (a b : List Plain) → IsSubBag a b → IsSubByTests a b
sub_by_tests a b h = record { at = λ test. sub_sum (λ x. one_if (test x)) a b h }

pub sub_by_counts : (a b : List Plain) → IsSubByTests a b → IsSubBag a b
sub_by_counts a b h = record { at = λ v. h.at (λ x. is_same x v) }

pub same_by_tests : (a b : List Plain) → IsSameBag a b → IsSameByTests a b
same_by_tests a b h = record { at = λ test. same_sum (λ x. one_if (test x)) a b h }

pub same_by_counts : (a b : List Plain) → IsSameByTests a b → IsSameBag a b
same_by_counts a b h = record { at = λ v. h.at (λ x. is_same x v) }
