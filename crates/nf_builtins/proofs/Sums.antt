-- Totals so far.
use Rattle.std.proofs.Common.{◌≡◌, ℕ, ℤ, ◌+◌, ◌<◌, ◌+ℤ◌, List, length, map, drop, get_or, Result, Ok, Err, refl, ap, ◌∙◌, arith}
use Rattle.std.proofs.lemmas.Int.{ints}
use Rattle.nf_value.specs.View.{plain_of}
use Rattle.nf_value.specs.declared.value.Value.{Value}
use Rattle.nf_value.specs.declared.fault.EvalKind.{EvalKind}
use Rattle.nf_value.specs.declared.fault.EvalKind.TheVariants.{WrongKind}
use Rattle.nf_texts.specs.Outcome.{◌>>=◌}
use Rattle.nf_texts.specs.Args.{int_or}
use Rattle.nf_builtins.specs.Lists.{total_of}
use Rattle.nf_texts.proofs.Remaining.{left_at}

adds : (r : Result ℤ EvalKind) (total n next : ℤ) → next ≡ total +ℤ n → ((r >>= λ m. Ok (n +ℤ m)) >>= λ m. Ok (total +ℤ m)) ≡ (r >>= λ m. Ok (next +ℤ m))
adds (Ok m) total n next e = let same : total +ℤ (n +ℤ m) ≡ next +ℤ m = omega (arith, ints) in ap Ok same
adds (Err k) total n next e = refl

same_number : (r : Result ℤ EvalKind) (total next : ℤ) → Ok next ≡ (r >>= λ n. Ok (total +ℤ n)) → (n : ℤ) × (r ≡ Ok n) × (next ≡ total +ℤ n)
same_number (Ok n) total next e = (n, refl, cc)
same_number (Err k) total next e = absurd (cc)

pub total_more : (xs : List Value) (i : ℕ) (x : Value) (total next back : ℤ) (all : Result ℤ EvalKind) → i < length xs → x ≡ get_or xs i x → Ok next ≡ (int_or WrongKind (plain_of x) >>= λ n. Ok (total +ℤ n)) → back ≡ next → all ≡ (total_of (map plain_of (drop i xs)) >>= λ m. Ok (total +ℤ m)) → all ≡ (total_of (map plain_of (drop (i + 1) xs)) >>= λ m. Ok (back +ℤ m))
total_more xs i x total next back all h is step e inv =
    let more = same_number (int_or WrongKind (plain_of x)) total next step in
    inv ∙ ap (λ l. total_of l >>= λ m. Ok (total +ℤ m)) (left_at xs i x h is) ∙ ap (λ o. (o >>= λ k. total_of (map plain_of (drop (i + 1) xs)) >>= λ m. Ok (k +ℤ m)) >>= λ m. Ok (total +ℤ m)) more.1
    ∙ adds (total_of (map plain_of (drop (i + 1) xs))) total more.0 back (e ∙ more.2)
