use Rattle.std.proofs.Common.{◌≡◌, ℕ, ◌+◌, ◌*◌, ◌<◌, true, List, length, get_or, take, arith}
use Rattle.std.specs.Char.{is_ascii_digit, digit_value}
use Rattle.std.specs.Str.Parse.{digits_value}
use Rattle.std.proofs.lemmas.Bool.Decides.{nat_tests}
use Rattle.std.proofs.lemmas.Int.Digits.{digits_value_more}
use Rattle.std.proofs.lemmas.Str.{digit_value_digit}
use Rattle.std.proofs.lemmas.Str.Parse.{digits_value-take-le}
use Rattle.nf_lexer.proofs.word.value.Goals as goal

digit_is : (b : ℕ) → is_ascii_digit b ≡ true → (digit_value b + 48 ≡ b) × (b < 58)
digit_is b h = (digit_value_digit b (grind (arith, nat_tests)), grind (arith, nat_tests))

more : (bs : List ℕ) (i : ℕ) → i < length bs → is_ascii_digit (get_or bs i 0) ≡ true → digits_value 10 (take (i + 1) bs) + 48 ≡ 10 * digits_value 10 (take i bs) + get_or bs i 0
more bs i h k = omega (arith, digits_value_more 10 bs i h, (digit_is (get_or bs i 0) k).0)

pub returns-then-value-digit : goal.returns-then-value-digit
returns-then-value-digit c = λ within.
    let bs = c.args.digits.now in
    let i = c.loop-b.b-index in
    let d = c.requires i 0 (omega arith) in
    omega (arith, c.loop-b.invariant, more bs i (omega arith) d, (digit_is (get_or bs i 0) d).0, digits_value-take-le 10 bs (i + 1) (omega arith), c.from-digit.ensures, c.if-value-digit.true)

pub loop-b-preserved : goal.loop-b-preserved
loop-b-preserved c =
    let bs = c.args.digits.now in
    let i = c.loop-b.b-index in
    let d = c.requires i 0 (omega arith) in (
      omega (arith, c.loop-b.invariant, more bs i (omega arith) d, (digit_is (get_or bs i 0) d).0, c.from-digit.ensures),
      omega (arith, c.loop-b.invariant, (digit_is (get_or bs i 0) d).0, c.from-digit.ensures, c.if-value-digit.false),
    )
