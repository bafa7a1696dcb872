-- Digests by their hexadecimal digits: these are ASCII, and tell digests apart.
use Rattle.std.proofs.Common.{◌≡◌, ℕ, zero, suc, ◌<◌, ◌/◌, ◌%◌, List, [], ◌∷◌, ◌++◌, length, take, drop, codes, Ok, inl, inr, sym, ap, ◌∙◌, arith}
use Rattle.std.specs.Prelude.{slice_index}
use Rattle.std.specs.Int.{to_be_bytes, w32}
use Rattle.std.specs.List.{All}
use Rattle.std.specs.Str.{IsAscii, IsUtf8}
use Rattle.std.proofs.lemmas.Bool.{cases_lt}
use Rattle.std.proofs.lemmas.List.{get_or_past}
use Rattle.std.proofs.lemmas.List.Elements.{All-from_recursion, All-append, All-nil}
use Rattle.std.proofs.lemmas.Str.{IsUtf8-from_ascii}
use Rattle.hex.specs.Hex.{IsBytes, decode_of, encode_lower, encode_with, lower_digits}
use Rattle.hex.proofs.HexLemmas.{decode_of-encode_lower}
use Rattle.sha2.specs.Sha256.{digest_bytes, final_hash, initial_hash_256, sha256}
use Rattle.sha2.proofs.Facts256.{length-sha256}
use Rattle.nf_job.specs.JobText.{work_path}

-- ---- a digest's bytes

abbrev IsSmall : ℕ → Type 0
IsSmall x = x < 256

small_bytes : (h : List ℕ) (n : ℕ) → All IsSmall (digest_bytes h n)
unfolding digest_bytes
small_bytes h zero = All-nil IsSmall
small_bytes h (suc n) =
    All-append IsSmall (digest_bytes h n) (to_be_bytes w32 (slice_index h n)) (small_bytes h n)
    (All-from_recursion IsSmall (to_be_bytes w32 (slice_index h n)) (omega arith, (omega arith, (omega arith, (omega arith, tt)))))

at_each : (xs : List ℕ) → All IsSmall xs → IsBytes xs
at_each xs h i =
    elim (cases_lt i (length xs)) [
      | inl l ↦ h i 0 l
      | inr g ↦ let past = get_or_past xs i 0 g in omega (arith, past)
    ]

pub IsBytes-sha256 : (m : List ℕ) → IsBytes (sha256 m)
unfolding sha256
IsBytes-sha256 m = at_each (sha256 m) (small_bytes (final_hash initial_hash_256 m) 8)

-- ---- the path of a digest

same_path : (d e : List ℕ) → IsBytes d → IsBytes e → length d ≡ 32 → length e ≡ 32 → work_path d ≡ work_path e → d ≡ e
unfolding encode_with
same_path [] e p q m n same = absurd (omega arith)
same_path (x ∷ d) [] p q m n same = absurd (omega arith)
same_path (x ∷ d) (y ∷ e) p q m n same =
    let all : encode_lower (x ∷ d) ≡ encode_lower (y ∷ e) = cc in
    let both : Ok (x ∷ d) ≡ Ok (y ∷ e) = sym (decode_of-encode_lower (x ∷ d) p) ∙ ap decode_of all ∙ decode_of-encode_lower (y ∷ e) q in
    cc

-- digests with one path are one
pub same_digest : (a b : List ℕ) → work_path (sha256 a) ≡ work_path (sha256 b) → sha256 a ≡ sha256 b
same_digest a b same = same_path (sha256 a) (sha256 b) (IsBytes-sha256 a) (IsBytes-sha256 b) (length-sha256 a) (length-sha256 b) same

-- ---- it is ASCII

abbrev IsPlain : ℕ → Type 0
IsPlain x = x < 128

plain_digit : (n : ℕ) → slice_index lower_digits n < 128
plain_digit zero = omega arith
plain_digit (suc zero) = omega arith
plain_digit (suc (suc zero)) = omega arith
plain_digit (suc (suc (suc zero))) = omega arith
plain_digit (suc (suc (suc (suc zero)))) = omega arith
plain_digit (suc (suc (suc (suc (suc zero))))) = omega arith
plain_digit (suc (suc (suc (suc (suc (suc zero)))))) = omega arith
plain_digit (suc (suc (suc (suc (suc (suc (suc zero))))))) = omega arith
plain_digit (suc (suc (suc (suc (suc (suc (suc (suc zero)))))))) = omega arith
plain_digit (suc (suc (suc (suc (suc (suc (suc (suc (suc zero))))))))) = omega arith
plain_digit (suc (suc (suc (suc (suc (suc (suc (suc (suc (suc zero)))))))))) = omega arith
plain_digit (suc (suc (suc (suc (suc (suc (suc (suc (suc (suc (suc zero))))))))))) = omega arith
plain_digit (suc (suc (suc (suc (suc (suc (suc (suc (suc (suc (suc (suc zero)))))))))))) = omega arith
plain_digit (suc (suc (suc (suc (suc (suc (suc (suc (suc (suc (suc (suc (suc zero))))))))))))) = omega arith
plain_digit (suc (suc (suc (suc (suc (suc (suc (suc (suc (suc (suc (suc (suc (suc zero)))))))))))))) = omega arith
plain_digit (suc (suc (suc (suc (suc (suc (suc (suc (suc (suc (suc (suc (suc (suc (suc zero))))))))))))))) = omega arith
plain_digit (suc (suc (suc (suc (suc (suc (suc (suc (suc (suc (suc (suc (suc (suc (suc (suc n)))))))))))))))) = omega arith

All-two : (x y : ℕ) (xs : List ℕ) → x < 128 → y < 128 → All IsPlain xs → All IsPlain (x ∷ y ∷ xs)
All-two x y xs p q h = All-append IsPlain (x ∷ y ∷ []) xs (All-from_recursion IsPlain (x ∷ y ∷ []) (p, (q, tt))) h

plain_code : (xs : List ℕ) → All IsPlain (encode_lower xs)
unfolding encode_with
plain_code [] = All-nil IsPlain
plain_code (x ∷ xs) =
    All-two (slice_index lower_digits (x / 16)) (slice_index lower_digits (x % 16)) (encode_lower xs) (plain_digit (x / 16)) (plain_digit (x % 16)) (plain_code xs)

plain_each : (xs : List ℕ) → All IsPlain xs → IsAscii xs
plain_each xs h i =
    elim (cases_lt i (length xs)) [
      | inl l ↦ h i 0 l
      | inr g ↦ let past = get_or_past xs i 0 g in omega (arith, past)
    ]

pub IsUtf8-work_path : (k : List ℕ) → IsUtf8 (work_path k)
IsUtf8-work_path k =
    IsUtf8-from_ascii (work_path k) (plain_each (work_path k)
    (All-append IsPlain (encode_lower (take 1 k) ++ codes "/") (encode_lower (drop 1 k))
    (All-append IsPlain (encode_lower (take 1 k)) (codes "/") (plain_code (take 1 k)) (All-from_recursion IsPlain (codes "/") (omega arith, tt)))
    (plain_code (drop 1 k))))
