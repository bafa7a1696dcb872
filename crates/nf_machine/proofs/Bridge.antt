-- Bags by tests and bags by counts.
use Rattle.std.proofs.Common.{List, sym, ◌∙◌, arith}
use Rattle.nf_value.specs.Plain.{Plain}
use Rattle.nf_bag.specs.Bag.{IsSubBag, IsSameBag}
use Rattle.nf_bag.specs.Tests.{IsSubByTests, IsSameByTests}
use Rattle.nf_bag.proofs.ByTests.{sub_by_tests, same_by_tests}
use Rattle.nf_opstream.specs.Push.{Push, is_same_push, IsWithin, IsSameInput}
use Rattle.nf_opstream.proofs.Tally.{Sub, Same, count_is_passes}

pub sub_of_tests : {A : Type 0} {a b : List A} → IsSubByTests a b → Sub a b
sub_of_tests {A} {a} {b} h = record { at = λ p. omega (arith, h.at p, count_is_passes p a, count_is_passes p b) }

pub tests_of_sub : {A : Type 0} {a b : List A} → Sub a b → IsSubByTests a b
tests_of_sub {A} {a} {b} h = record { at = λ p. omega (arith, h.at p, count_is_passes p a, count_is_passes p b) }

pub same_of_tests : {A : Type 0} {a b : List A} → IsSameByTests a b → Same a b
same_of_tests {A} {a} {b} h = record { at = λ p. sym (count_is_passes p a) ∙ h.at p ∙ count_is_passes p b }

pub tests_of_same : {A : Type 0} {a b : List A} → Same a b → IsSameByTests a b
tests_of_same {A} {a} {b} h = record { at = λ p. count_is_passes p a ∙ h.at p ∙ sym (count_is_passes p b) }

pub sub_of_bag : {a b : List Plain} → IsSubBag a b → Sub a b
sub_of_bag {a} {b} h = sub_of_tests (sub_by_tests a b h)

pub same_of_bag : {a b : List Plain} → IsSameBag a b → Same a b
same_of_bag {a} {b} h = same_of_tests (same_by_tests a b h)

pub within_of_sub : {p q : List Push} → Sub p q → IsWithin p q
within_of_sub {p} {q} h = record { at = λ x. omega (arith, h.at (λ y. is_same_push y x), count_is_passes (λ y. is_same_push y x) p, count_is_passes (λ y. is_same_push y x) q) }

pub input_of_same : {p q : List Push} → Same p q → IsSameInput p q
input_of_same {p} {q} h = record { at = λ x. count_is_passes (λ y. is_same_push y x) p ∙ h.at (λ y. is_same_push y x) ∙ sym (count_is_passes (λ y. is_same_push y x) q) }
