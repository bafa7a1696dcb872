-- Heads, part by part.
use Rattle.std.proofs.Common.{◌≡◌, ℕ, ◌+◌, ◌-◌, ◌<◌, ◌≤◌, List, length, take, drop, true, cond, nat_le, Option, Some, None, ap, sym, ◌∙◌, arith}
use Rattle.std.specs.Option.{option_and_then}
use Rattle.std.proofs.lemmas.Bool.Decides.{nat_tests}
use Rattle.std.proofs.lemmas.List.{drop-drop, length-drop}
use Rattle.nf_codec.specs.declared.head.Head.{Head as CodeHead}
use Rattle.nf_codec.specs.Heads.{Head, digest_of, file_length, file_tail, counted, decimal_before}
use Rattle.nf_codec.specs.Fronts.{IsAlike, IsHeadAt}
use Rattle.nf_codec.proofs.Numbers.{tail_is}

tail_from : (bs : List ℕ) → 64 ≤ length bs → file_tail bs ≡ option_and_then (λ digest. option_and_then (λ p. Some ((digest, p.0), p.1)) (file_length (drop 64 bs))) (digest_of (take 64 bs))
tail_from bs h =
    let t : nat_le 64 (length bs) ≡ true = grind (arith, nat_tests) in
    ap (λ b. cond b (option_and_then (λ digest. option_and_then (λ p. Some ((digest, p.0), p.1)) (file_length (drop 64 bs))) (digest_of (take 64 bs))) None) t

pub tail_is_then : (bs digest part : List ℕ) → 64 ≤ length bs → digest_of (take 64 bs) ≡ Some digest → part ≡ take (length bs - 64) (drop 64 bs) → file_tail bs ≡ option_and_then (λ p. Some ((digest, p.0), p.1)) (file_length part)
tail_is_then bs digest part h is part_at =
    tail_from bs h ∙ ap (option_and_then (λ d. option_and_then (λ p. Some ((d, p.0), p.1)) (file_length (drop 64 bs)))) is
    ∙ ap (λ bs'. option_and_then (λ p. Some ((digest, p.0), p.1)) (file_length bs')) (sym (part_at ∙ tail_is bs 64))

pub rest_of : (bs part : List ℕ) (k used : ℕ) → part ≡ take (length bs - k) (drop k bs) → drop used part ≡ drop (k + used) bs
rest_of bs part k used at = ap (drop used) (at ∙ tail_is bs k) ∙ drop-drop used k bs

pub shifted : (F : List ℕ → Option (Head × List ℕ)) (bs part : List ℕ) (g : Head) (h : CodeHead) (used : ℕ) → 0 < length bs → part ≡ take (length bs - 1) (drop 1 bs) → F part ≡ Some (g, drop used part) → used ≤ length part → IsAlike g h
    → IsHeadAt (F (drop 1 bs)) bs h (used + 1)
shifted F bs part g h used some at is fits like =
    let same : 1 + used ≡ used + 1 = omega arith in
    record {
      head = g;
      is = ap F (sym (at ∙ tail_is bs 1)) ∙ is ∙ (λ i. Some (g, rest_of bs part 1 used at i)) ∙ ap (λ n. Some (g, drop n bs)) same;
      alike = like;
      fits = omega (arith, fits, ap length (at ∙ tail_is bs 1), length-drop 1 bs);
    }

pub counted_is : (h : ℕ → Head) (bs rest : List ℕ) (n : ℕ) → decimal_before 58 bs ≡ Some (n, rest) → counted h bs ≡ Some (h n, rest)
counted_is h bs rest n is = ap (option_and_then (λ p. Some (h p.0, p.1))) is
