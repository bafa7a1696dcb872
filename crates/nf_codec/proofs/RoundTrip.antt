-- What is written reads back, for whole values.
use Rattle.std.proofs.Common.{◌≡◌, ℕ, zero, suc, ◌+◌, Result, ℤ, ◌<◌, ◌≤◌, List, [], ◌∷◌, ◌++◌, length, take, drop, true, false, cond, max, nat_le, Option, Some, None, Ok, Err, refl, ap, sym, ◌∙◌, subst, arith, append_assoc, codes, decimal}
use Rattle.std.specs.Fmt.{signed_decimal}
use Rattle.std.specs.Option.{option_and_then}
use Rattle.std.specs.Str.{bytes_eq}
use Rattle.std.proofs.lemmas.Bool.Decides.{nat_tests}
use Rattle.std.proofs.lemmas.List.{length-append, length-drop}
use Rattle.std.proofs.lemmas.Slice.Eq.{bytes_eq-Decides}
use Rattle.std.proofs.Math.Seq.{take-append_seam, drop-append_seam}
use Rattle.hex.specs.Hex.{encode_lower, lower_digits, IsBytes}
use Rattle.hex.proofs.HexLemmas.{length-encode_with, decode_of-encode_lower}
use Rattle.nf_value.specs.Plain.{Plain, null, truth, int, text, file, list, table, Plains, no_items, item, PlainPairs, no_pairs, pair, plains_of, plain_pairs_of}
use Rattle.nf_value.specs.Code.{code, all_code, pairs_code, text_code, file_code, int_code, head_code, count, count_pairs}
use Rattle.nf_value.specs.Depth.{depth_of, deepest, deepest_pair}
use Rattle.nf_codec.specs.Heads.{whole, list_of, table_of, head_at, digest_of, lower_only, fits_length, file_length, file_tail, file_at}
use Rattle.nf_codec.specs.Reading.{Reading, Reads, IsGivenBack, read, inner, met, many, many_pairs, pair_from, key_from, is_above, and_then}
use Rattle.nf_value.specs.declared.value.Value.{Value}
use Rattle.nf_codec.specs.declared.fault.CodeFault.{CodeFault}
use Rattle.nf_codec.specs.declared.fault.CodeFault.TheVariants.{NotAValue, TooDeep, Mem}
use Rattle.nf_codec.specs.Whole.{IsWhole, AreWhole, ArePairs, IsWholeText}
use Rattle.nf_codec.proofs.Series.{prepend}
use Rattle.nf_codec.proofs.Eats.{read_is}
use Rattle.nf_codec.proofs.Steps.{choice}
use Rattle.nf_codec.proofs.Written.{decimal_back, int_back, counted_text_back, counted_back, fits}

-- a letter, a number, `:` and then the rest
pub head_then : (n : ℕ) (rest : List ℕ) (letter : ℕ) → head_code (letter ∷ []) n ++ rest ≡ letter ∷ (decimal n ++ 58 ∷ rest)
head_then n rest letter = ap (λ bs. letter ∷ bs) (append_assoc (decimal n) (58 ∷ []) rest)

pub text_then : (t rest : List ℕ) → text_code t ++ rest ≡ 115 ∷ (decimal (length t) ++ 58 ∷ (t ++ rest))
text_then t rest = append_assoc (head_code (codes "s") (length t)) t rest ∙ head_then (length t) (t ++ rest) 115

pub int_then : (i : ℤ) (rest : List ℕ) → int_code (signed_decimal i) ++ rest ≡ 105 ∷ (signed_decimal i ++ 59 ∷ rest)
int_then i rest = ap (λ bs. 105 ∷ bs) (append_assoc (signed_decimal i) (59 ∷ []) rest)

pub file_then : (n d : List ℕ) (l : ℕ) (rest : List ℕ) → file_code n d l ++ rest ≡ 112 ∷ (decimal (length n) ++ 58 ∷ (n ++ (encode_lower d ++ (decimal l ++ 59 ∷ rest))))
file_then n d l rest =
    let h = head_code (codes "p") (length n) in
    append_assoc (h ++ n ++ encode_lower d ++ decimal l) (59 ∷ []) rest ∙ append_assoc (h ++ n ++ encode_lower d) (decimal l) (59 ∷ rest) ∙ append_assoc (h ++ n) (encode_lower d) (decimal l ++ 59 ∷ rest)
    ∙ append_assoc h n (encode_lower d ++ (decimal l ++ 59 ∷ rest)) ∙ head_then (length n) (n ++ (encode_lower d ++ (decimal l ++ 59 ∷ rest))) 112

same_bytes : (xs : List ℕ) → bytes_eq xs xs ≡ true
same_bytes xs = (bytes_eq-Decides xs xs).1 refl

length-digest : (d : List ℕ) → length d ≡ 32 → length (encode_lower d) ≡ 64
length-digest d h = omega (arith, length-encode_with lower_digits d, h)

digest_back : (d : List ℕ) → IsBytes d → digest_of (encode_lower d) ≡ Some d
digest_back d h = ap (lower_only (encode_lower d)) (decode_of-encode_lower d h) ∙ ap (λ b. cond b (Some d) None) (same_bytes (encode_lower d))

enough : (ds rest : List ℕ) → length ds ≡ 64 → nat_le 64 (length (ds ++ rest)) ≡ true
enough ds rest h = let k : 64 ≤ length (ds ++ rest) = omega (arith, length-append ds rest) in grind (arith, nat_tests)

tail_back : (d : List ℕ) (l : ℕ) (rest : List ℕ) → IsBytes d → length d ≡ 32 → l < 18446744073709551616 → file_tail (encode_lower d ++ (decimal l ++ 59 ∷ rest)) ≡ Some ((d, l), rest)
tail_back d l rest bytes len small =
    let ds = encode_lower d in
    let after = decimal l ++ 59 ∷ rest in
    let n = length-digest d len in
    let first : take 64 (ds ++ after) ≡ ds = ap (λ k. take k (ds ++ after)) (sym n) ∙ take-append_seam ds after in
    let then : drop 64 (ds ++ after) ≡ after = ap (λ k. drop k (ds ++ after)) (sym n) ∙ drop-append_seam ds after in
    let length_is : file_length after ≡ Some (l, rest) = ap (option_and_then fits_length) (decimal_back 59 l rest small refl refl) ∙ ap (λ b. cond b (Some (l, rest)) None) (fits l 18446744073709551616 small) in
    ap (λ b. cond b (option_and_then (λ digest. option_and_then (λ p. Some ((digest, p.0), p.1)) (file_length (drop 64 (ds ++ after)))) (digest_of (take 64 (ds ++ after)))) None) (enough ds after n)
    ∙ (λ i. option_and_then (λ digest. option_and_then (λ p. Some ((digest, p.0), p.1)) (file_length (then i))) (digest_of (first i)))
    ∙ (λ i. option_and_then (λ digest. option_and_then (λ p. Some ((digest, p.0), p.1)) (length_is i)) (digest_back d bytes i))

file_back : (n d : List ℕ) (l : ℕ) (rest : List ℕ) → IsWholeText n → IsBytes d → length d ≡ 32 → l < 18446744073709551616 → file_at (decimal (length n) ++ 58 ∷ (n ++ (encode_lower d ++ (decimal l ++ 59 ∷ rest)))) ≡ Some (whole (file n d l), rest)
file_back n d l rest name bytes len small =
    ap (option_and_then (λ p. option_and_then (λ q. Some (whole (file p.0 q.0.0 q.0.1), q.1)) (file_tail p.1))) (counted_text_back n (encode_lower d ++ (decimal l ++ 59 ∷ rest)) name)
    ∙ ap (option_and_then (λ q. Some (whole (file n q.0.0 q.0.1), q.1))) (tail_back d l rest bytes len small)

-- the head of a text is the whole text
text_head_back : (t rest : List ℕ) → IsWholeText t → head_at (text_code t ++ rest) ≡ Some (whole (text t), rest)
text_head_back t rest h = ap head_at (text_then t rest) ∙ ap (option_and_then (λ p. Some (whole (text p.0), p.1))) (counted_text_back t rest h)

-- a value whose head is all of it
whole_read : (d : ℕ) (bs : List ℕ) (v : Plain) (rest : List ℕ) → head_at bs ≡ Some (whole v, rest) → read d bs ≡ Ok (v, rest)
whole_read d bs v rest h = read_is d bs ∙ ap (met (inner d) (length bs)) h

abbrev listed : Plains → List Plain
listed no_items = []
listed (item v vs) = v ∷ listed vs

plains_of-listed : (vs : Plains) → plains_of (listed vs) ≡ vs
plains_of-listed no_items = refl
plains_of-listed (item v vs) = ap (item v) (plains_of-listed vs)

abbrev paired : PlainPairs → List (List ℕ × Plain)
paired no_pairs = []
paired (pair k v ps) = (k, v) ∷ paired ps

plain_pairs_of-paired : (ps : PlainPairs) → plain_pairs_of (paired ps) ≡ ps
plain_pairs_of-paired no_pairs = refl
plain_pairs_of-paired (pair k v ps) = ap (pair k v) (plain_pairs_of-paired ps)

key_back : (before : Option (List ℕ)) (left : ℕ) (k rest : List ℕ) → is_above before k ≡ true → IsWholeText k → key_from before left (head_at (text_code k ++ rest)) ≡ Ok (k, rest)
key_back before left k rest above h = ap (key_from before left) (text_head_back k rest h) ∙ ap (choice left k rest) above

pair_back : (f : List ℕ → Reading Plain) (before : Option (List ℕ)) (k : List ℕ) (v : Plain) (rest : List ℕ) → is_above before k ≡ true → IsWholeText k → f (code v ++ rest) ≡ Ok (v, rest) → pair_from f before (text_code k ++ (code v ++ rest)) ≡ Ok ((k, v), rest)
pair_back f before k v rest above h is =
    ap (λ o. and_then o (λ j r. and_then (f r) (λ w r'. Ok ((j, w), r')))) (key_back before (length (text_code k ++ (code v ++ rest))) k (code v ++ rest) above h)
    ∙ ap (λ o. and_then o (λ w r'. Ok ((k, w), r'))) is

mutual
  pub back : (v : Plain) (d : ℕ) (rest : List ℕ) → IsWhole v → depth_of v ≤ d → read d (code v ++ rest) ≡ Ok (v, rest)
  back null d rest h k = whole_read d (codes "n" ++ rest) null rest refl
  back (truth true) d rest h k = whole_read d (codes "t" ++ rest) (truth true) rest refl
  back (truth false) d rest h k = whole_read d (codes "f" ++ rest) (truth false) rest refl
  back (int i) d rest h k = whole_read d (int_code (signed_decimal i) ++ rest) (int i) rest (ap head_at (int_then i rest) ∙ int_back i rest h)
  back (text t) d rest h k = whole_read d (text_code t ++ rest) (text t) rest (text_head_back t rest h)
  back (file n e l) d rest h k = whole_read d (file_code n e l ++ rest) (file n e l) rest (ap head_at (file_then n e l rest) ∙ file_back n e l rest h.0 h.1 h.2 h.3)
  back (list vs) zero rest h k = absurd (omega arith)
  back (list vs) (suc d) rest h k =
      let start = append_assoc (head_code (codes "l") (count vs)) (all_code vs) rest ∙ head_then (count vs) (all_code vs ++ rest) 108 in
      let head = ap head_at start ∙ counted_back list_of (count vs) (all_code vs ++ rest) h.0 in
      read_is (suc d) (code (list vs) ++ rest) ∙ ap (met (inner (suc d)) (length (code (list vs) ++ rest))) head
      ∙ ap (λ o. and_then o (λ ws r. Ok (list (plains_of ws), r))) (all_back vs d rest h.1 (omega arith)) ∙ ap (λ ws. Ok (list ws, rest)) (plains_of-listed vs)
  back (table ps) zero rest h k = absurd (omega arith)
  back (table ps) (suc d) rest h k =
      let start = append_assoc (head_code (codes "m") (count_pairs ps)) (pairs_code ps) rest ∙ head_then (count_pairs ps) (pairs_code ps ++ rest) 109 in
      let head = ap head_at start ∙ counted_back table_of (count_pairs ps) (pairs_code ps ++ rest) h.0 in
      read_is (suc d) (code (table ps) ++ rest) ∙ ap (met (inner (suc d)) (length (code (table ps) ++ rest))) head
      ∙ ap (λ o. and_then o (λ qs r. Ok (table (plain_pairs_of qs), r))) (pairs_back ps None d rest h.1 (omega arith)) ∙ ap (λ qs. Ok (table qs, rest)) (plain_pairs_of-paired ps)

  all_back : (vs : Plains) (d : ℕ) (rest : List ℕ) → AreWhole vs → deepest vs ≤ d → many (read d) (count vs) (all_code vs ++ rest) ≡ Ok (listed vs, rest)
  all_back no_items d rest h k = refl
  all_back (item v vs) d rest h k =
      let this = ap (read d) (append_assoc (code v) (all_code vs) rest) ∙ back v d (all_code vs ++ rest) h.0 (omega arith) in
      ap (λ o. and_then o (λ w r. prepend w (many (read d) (count vs) r))) this ∙ ap (prepend v) (all_back vs d rest h.1 (omega arith))

  pairs_back : (ps : PlainPairs) (before : Option (List ℕ)) (d : ℕ) (rest : List ℕ) → ArePairs before ps → deepest_pair ps ≤ d → many_pairs (read d) (count_pairs ps) before (pairs_code ps ++ rest) ≡ Ok (paired ps, rest)
  pairs_back no_pairs before d rest h k = refl
  pairs_back (pair key v ps) before d rest h k =
      let parts = append_assoc (text_code key) (code v ++ pairs_code ps) rest ∙ ap (λ bs. text_code key ++ bs) (append_assoc (code v) (pairs_code ps) rest) in
      let this = ap (pair_from (read d) before) parts ∙ pair_back (read d) before key v (pairs_code ps ++ rest) h.0 h.1 (back v d (pairs_code ps ++ rest) h.2 (omega arith)) in
      ap (λ o. and_then o (λ q r. prepend q (many_pairs (read d) (count_pairs ps) (Some q.0) r))) this ∙ ap (prepend (key, v)) (pairs_back ps (Some key) d rest h.3 (omega arith))

abbrev value_in : Plain → Reading Plain → Plain
value_in d (Ok q) = q.0
value_in d (Err e) = d

abbrev rest_in : List ℕ → Reading Plain → List ℕ
rest_in d (Ok q) = q.1
rest_in d (Err e) = d

abbrev got : Plain → List ℕ → Reading Plain
got v r = Ok (v, r)

met_twice : (v w : Plain) (r s : List ℕ) → IsWhole v → IsWhole w → code v ++ r ≡ code w ++ s → got v r ≡ got w s
met_twice v w r s h k is =
    let d = max (depth_of v) (depth_of w) in
    sym (back v d r h (omega arith)) ∙ ap (read d) is ∙ back w d s k (omega arith)

pub one_code : (v w : Plain) (r s : List ℕ) → IsWhole v → IsWhole w → code v ++ r ≡ code w ++ s → (v ≡ w) × (r ≡ s)
one_code v w r s h k is = (ap (value_in v) (met_twice v w r s h k is), ap (rest_in r) (met_twice v w r s h k is))

pub left_is : (bs rest : List ℕ) (c n : ℕ) → length bs ≡ c + length rest → n ≤ length bs → rest ≡ drop n bs → n ≡ c
left_is bs rest c n all small is = omega (arith, all, small, ap length is, length-drop n bs)

pub given_back : (v : Plain) (rest : List ℕ) (result : Result (Value × ℕ) CodeFault) → IsWhole v → depth_of v ≤ 64 → Reads (code v ++ rest) (read 64 (code v ++ rest)) result → IsGivenBack v result
given_back v rest result h k reads = by result (subst (λ o. Reads (code v ++ rest) o result) (back v 64 rest h k) reads)
  where
    by : (r : Result (Value × ℕ) CodeFault) → Reads (code v ++ rest) (Ok (v, rest)) r → IsGivenBack v r
    by (Ok q) g = (g.0, left_is (code v ++ rest) rest (length (code v)) q.1 (length-append (code v) rest) g.2 g.1)
    by (Err Mem) g = tt
    by (Err (NotAValue at)) g = absurd g
    by (Err (TooDeep at)) g = absurd g
