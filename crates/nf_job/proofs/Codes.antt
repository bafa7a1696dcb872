-- A code is the code of one value only.
use Rattle.std.proofs.Common.{◌≡◌, ℕ, suc, ◌<◌, ◌^◌, ℤ, pos, negsuc, List, [], ◌∷◌, ◌++◌, length, true, false, Ok, refl, ap, sym, ◌∙◌, arith, append_assoc}
use Rattle.std.specs.Fmt.{decimal, signed_decimal}
use Rattle.std.specs.Int.Signed.{mag}
use Rattle.std.specs.Str.Parse.{AllDigits}
use Rattle.std.proofs.lemmas.Fmt.{decimal_is_IsNumeral, decimal_injective, signed_decimal_injective}
use Rattle.std.proofs.lemmas.Str.Parse.{digit_from_value}
use Rattle.hex.specs.Hex.{encode_lower, lower_digits, decode_of}
use Rattle.hex.proofs.HexLemmas.{length-encode_with, decode_of-encode_lower}
use Rattle.nf_value.specs.Plain.{Plain, null, truth, int, text, file, list, table, Plains, no_items, item, PlainPairs, no_pairs, pair, plains_of}
use Rattle.nf_value.specs.Code.{code, all_code, pairs_code, text_code, count, count_pairs}
use Rattle.nf_job.specs.Sizes.{IsFit, AllFit, PairsFit}
use Rattle.nf_job.specs.JobText.{inputs_text}

pub head_is : {x y : ℕ} {xs ys : List ℕ} → x ∷ xs ≡ y ∷ ys → x ≡ y
head_is h = cc

pub tail_is : {x y : ℕ} {xs ys : List ℕ} → x ∷ xs ≡ y ∷ ys → xs ≡ ys
tail_is h = cc

-- no byte of the list is this one
abbrev pub Lacks : ℕ → List ℕ → Type 0
Lacks e [] = Unit {0}
Lacks e (x ∷ xs) = (x ≡ e → ⊥) × Lacks e xs

cut : (e : ℕ) (xs ys r s : List ℕ) → Lacks e xs → Lacks e ys → xs ++ e ∷ r ≡ ys ++ e ∷ s → (xs ≡ ys) × (r ≡ s)
cut e [] [] r s a b h = (refl, tail_is h)
cut e [] (y ∷ ys) r s a b h = absurd (b.0 (sym (head_is h)))
cut e (x ∷ xs) [] r s a b h = absurd (a.0 (head_is h))
cut e (x ∷ xs) (y ∷ ys) r s a b h = let q = cut e xs ys r s a.1 b.1 (tail_is h) in ((λ k. head_is h k ∷ q.0 k), q.1)

digits_lack : (e : ℕ) (ds : List ℕ) → 57 < e → AllDigits 10 ds → Lacks e ds
digits_lack e [] h a = tt
digits_lack e (d ∷ ds) h a = ((λ same. omega (arith, (digit_from_value d a.0).1, same, h)), digits_lack e ds h a.1)

pub decimal_lacks : (e n : ℕ) → 57 < e → n < 2 ^ 64 → Lacks e (decimal n)
decimal_lacks e n h small = digits_lack e (decimal n) h (decimal_is_IsNumeral n small).0.1

signed_lacks : (e : ℕ) (z : ℤ) → 57 < e → mag z < 2 ^ 63 → Lacks e (signed_decimal z)
signed_lacks e (pos n) h small = decimal_lacks e n h (omega arith)
signed_lacks e (negsuc n) h small = ((λ same. omega arith), decimal_lacks e (suc n) h (omega arith))

same_length : (xs ys r s : List ℕ) → length xs ≡ length ys → xs ++ r ≡ ys ++ s → (xs ≡ ys) × (r ≡ s)
same_length [] [] r s l h = (refl, h)
same_length [] (y ∷ ys) r s l h = absurd (omega arith)
same_length (x ∷ xs) [] r s l h = absurd (omega arith)
same_length (x ∷ xs) (y ∷ ys) r s l h = let q = same_length xs ys r s (omega arith) (tail_is h) in ((λ k. head_is h k ∷ q.0 k), q.1)

headed : (d t r : List ℕ) → ((d ++ 58 ∷ []) ++ t) ++ r ≡ d ++ 58 ∷ (t ++ r)
headed d t r = simp append_assoc

counted : (m n : ℕ) (t u r s : List ℕ) → m < 2 ^ 64 → n < 2 ^ 64 → ((decimal m ++ 58 ∷ []) ++ t) ++ r ≡ ((decimal n ++ 58 ∷ []) ++ u) ++ s → (m ≡ n) × (t ++ r ≡ u ++ s)
counted m n t u r s a b h =
    let q = cut 58 (decimal m) (decimal n) (t ++ r) (u ++ s) (decimal_lacks 58 m (omega arith) a) (decimal_lacks 58 n (omega arith) b) (sym (headed (decimal m) t r) ∙ h ∙ headed (decimal n) u s) in
    (decimal_injective m n a b q.0, q.1)

pub text_apart : (t u r s : List ℕ) → length t < 2 ^ 64 → length u < 2 ^ 64 → text_code t ++ r ≡ text_code u ++ s → (t ≡ u) × (r ≡ s)
text_apart t u r s a b h = let q = counted (length t) (length u) t u r s a b (tail_is h) in same_length t u r s q.0 q.1

ended : (d r : List ℕ) → (d ++ 59 ∷ []) ++ r ≡ d ++ 59 ∷ r
ended d r = simp append_assoc

int_apart : (i j : ℤ) (r s : List ℕ) → mag i < 2 ^ 63 → mag j < 2 ^ 63 → code (int i) ++ r ≡ code (int j) ++ s → (i ≡ j) × (r ≡ s)
int_apart i j r s a b h =
    let q = cut 59 (signed_decimal i) (signed_decimal j) r s (signed_lacks 59 i (omega arith) a) (signed_lacks 59 j (omega arith) b) (sym (ended (signed_decimal i) r) ∙ tail_is h ∙ ended (signed_decimal j) s) in
    (signed_decimal_injective i j a b q.0, q.1)

filed : (d n e l r : List ℕ) → (((((d ++ 58 ∷ []) ++ n) ++ e) ++ l) ++ 59 ∷ []) ++ r ≡ ((d ++ 58 ∷ []) ++ n) ++ (e ++ (l ++ 59 ∷ r))
filed d n e l r = simp append_assoc

-- a file that a program holds
abbrev FileFit : List ℕ → List ℕ → ℕ → Type 0
FileFit n d l = IsFit (file n d l)

hex_apart : (d e : List ℕ) (n m : List ℕ) (l o : ℕ) → FileFit n d l → FileFit m e o → encode_lower d ≡ encode_lower e → d ≡ e
hex_apart d e n m l o f g h =
    let is : Ok d ≡ Ok e = sym (decode_of-encode_lower d f.bytes) ∙ ap decode_of h ∙ decode_of-encode_lower e g.bytes in cc

file_apart : (n m d e : List ℕ) (l o : ℕ) (r s : List ℕ) → FileFit n d l → FileFit m e o → code (file n d l) ++ r ≡ code (file m e o) ++ s → (file n d l ≡ file m e o) × (r ≡ s)
file_apart n m d e l o r s f g h =
    let x = encode_lower d ++ (decimal l ++ 59 ∷ r) in
    let y = encode_lower e ++ (decimal o ++ 59 ∷ s) in
    let q = counted (length n) (length m) n m x y f.name g.name (sym (filed (decimal (length n)) n (encode_lower d) (decimal l) r) ∙ tail_is h ∙ filed (decimal (length m)) m (encode_lower e) (decimal o) s) in
    let p = same_length n m x y q.0 q.1 in
    let lengths : length (encode_lower d) ≡ length (encode_lower e) = omega (arith, length-encode_with lower_digits d, length-encode_with lower_digits e, f.digest, g.digest) in
    let k = same_length (encode_lower d) (encode_lower e) (decimal l ++ 59 ∷ r) (decimal o ++ 59 ∷ s) lengths p.1 in
    let w = cut 59 (decimal l) (decimal o) r s (decimal_lacks 59 l (omega arith) f.len) (decimal_lacks 59 o (omega arith) g.len) k.1 in
    let digests = hex_apart d e n m l o f g k.0 in
    let same = decimal_injective l o f.len g.len w.0 in
    ((λ i. file (p.0 i) (digests i) (same i)), w.1)

mutual
  pub apart : (a b : Plain) (r s : List ℕ) → IsFit a → IsFit b → code a ++ r ≡ code b ++ s → (a ≡ b) × (r ≡ s)
  apart null null r s f g h = (refl, tail_is h)
  apart null (truth true) r s f g h = absurd (omega (arith, head_is h))
  apart null (truth false) r s f g h = absurd (omega (arith, head_is h))
  apart null (int j) r s f g h = absurd (omega (arith, head_is h))
  apart null (text u) r s f g h = absurd (omega (arith, head_is h))
  apart null (file m e o) r s f g h = absurd (omega (arith, head_is h))
  apart null (list ws) r s f g h = absurd (omega (arith, head_is h))
  apart null (table qs) r s f g h = absurd (omega (arith, head_is h))
  apart (truth true) null r s f g h = absurd (omega (arith, head_is h))
  apart (truth true) (truth true) r s f g h = (refl, tail_is h)
  apart (truth true) (truth false) r s f g h = absurd (omega (arith, head_is h))
  apart (truth true) (int j) r s f g h = absurd (omega (arith, head_is h))
  apart (truth true) (text u) r s f g h = absurd (omega (arith, head_is h))
  apart (truth true) (file m e o) r s f g h = absurd (omega (arith, head_is h))
  apart (truth true) (list ws) r s f g h = absurd (omega (arith, head_is h))
  apart (truth true) (table qs) r s f g h = absurd (omega (arith, head_is h))
  apart (truth false) null r s f g h = absurd (omega (arith, head_is h))
  apart (truth false) (truth true) r s f g h = absurd (omega (arith, head_is h))
  apart (truth false) (truth false) r s f g h = (refl, tail_is h)
  apart (truth false) (int j) r s f g h = absurd (omega (arith, head_is h))
  apart (truth false) (text u) r s f g h = absurd (omega (arith, head_is h))
  apart (truth false) (file m e o) r s f g h = absurd (omega (arith, head_is h))
  apart (truth false) (list ws) r s f g h = absurd (omega (arith, head_is h))
  apart (truth false) (table qs) r s f g h = absurd (omega (arith, head_is h))
  apart (int i) null r s f g h = absurd (omega (arith, head_is h))
  apart (int i) (truth true) r s f g h = absurd (omega (arith, head_is h))
  apart (int i) (truth false) r s f g h = absurd (omega (arith, head_is h))
  apart (int i) (int j) r s f g h = let q = int_apart i j r s f g h in (ap int q.0, q.1)
  apart (int i) (text u) r s f g h = absurd (omega (arith, head_is h))
  apart (int i) (file m e o) r s f g h = absurd (omega (arith, head_is h))
  apart (int i) (list ws) r s f g h = absurd (omega (arith, head_is h))
  apart (int i) (table qs) r s f g h = absurd (omega (arith, head_is h))
  apart (text t) null r s f g h = absurd (omega (arith, head_is h))
  apart (text t) (truth true) r s f g h = absurd (omega (arith, head_is h))
  apart (text t) (truth false) r s f g h = absurd (omega (arith, head_is h))
  apart (text t) (int j) r s f g h = absurd (omega (arith, head_is h))
  apart (text t) (text u) r s f g h = let q = text_apart t u r s f g h in (ap text q.0, q.1)
  apart (text t) (file m e o) r s f g h = absurd (omega (arith, head_is h))
  apart (text t) (list ws) r s f g h = absurd (omega (arith, head_is h))
  apart (text t) (table qs) r s f g h = absurd (omega (arith, head_is h))
  apart (file n d l) null r s f g h = absurd (omega (arith, head_is h))
  apart (file n d l) (truth true) r s f g h = absurd (omega (arith, head_is h))
  apart (file n d l) (truth false) r s f g h = absurd (omega (arith, head_is h))
  apart (file n d l) (int j) r s f g h = absurd (omega (arith, head_is h))
  apart (file n d l) (text u) r s f g h = absurd (omega (arith, head_is h))
  apart (file n d l) (file m e o) r s f g h = file_apart n m d e l o r s f g h
  apart (file n d l) (list ws) r s f g h = absurd (omega (arith, head_is h))
  apart (file n d l) (table qs) r s f g h = absurd (omega (arith, head_is h))
  apart (list vs) null r s f g h = absurd (omega (arith, head_is h))
  apart (list vs) (truth true) r s f g h = absurd (omega (arith, head_is h))
  apart (list vs) (truth false) r s f g h = absurd (omega (arith, head_is h))
  apart (list vs) (int j) r s f g h = absurd (omega (arith, head_is h))
  apart (list vs) (text u) r s f g h = absurd (omega (arith, head_is h))
  apart (list vs) (file m e o) r s f g h = absurd (omega (arith, head_is h))
  apart (list vs) (list ws) r s f g h = let q = counted (count vs) (count ws) (all_code vs) (all_code ws) r s f.0 g.0 (tail_is h) in let p = all_apart vs ws r s f.1 g.1 q.0 q.1 in (ap list p.0, p.1)
  apart (list vs) (table qs) r s f g h = absurd (omega (arith, head_is h))
  apart (table ps) null r s f g h = absurd (omega (arith, head_is h))
  apart (table ps) (truth true) r s f g h = absurd (omega (arith, head_is h))
  apart (table ps) (truth false) r s f g h = absurd (omega (arith, head_is h))
  apart (table ps) (int j) r s f g h = absurd (omega (arith, head_is h))
  apart (table ps) (text u) r s f g h = absurd (omega (arith, head_is h))
  apart (table ps) (file m e o) r s f g h = absurd (omega (arith, head_is h))
  apart (table ps) (list ws) r s f g h = absurd (omega (arith, head_is h))
  apart (table ps) (table qs) r s f g h = let q = counted (count_pairs ps) (count_pairs qs) (pairs_code ps) (pairs_code qs) r s f.0 g.0 (tail_is h) in let p = pairs_apart ps qs r s f.1 g.1 q.0 q.1 in (ap table p.0, p.1)

  all_apart : (vs ws : Plains) (r s : List ℕ) → AllFit vs → AllFit ws → count vs ≡ count ws → all_code vs ++ r ≡ all_code ws ++ s → (vs ≡ ws) × (r ≡ s)
  all_apart no_items no_items r s f g c h = (refl, h)
  all_apart no_items (item w ws) r s f g c h = absurd (omega arith)
  all_apart (item v vs) no_items r s f g c h = absurd (omega arith)
  all_apart (item v vs) (item w ws) r s f g c h =
      let p = apart v w (all_code vs ++ r) (all_code ws ++ s) f.0 g.0 (sym (append_assoc (code v) (all_code vs) r) ∙ h ∙ append_assoc (code w) (all_code ws) s) in
      let q = all_apart vs ws r s f.1 g.1 (omega arith) p.1 in
      ((λ i. item (p.0 i) (q.0 i)), q.1)

  pairs_apart : (ps qs : PlainPairs) (r s : List ℕ) → PairsFit ps → PairsFit qs → count_pairs ps ≡ count_pairs qs → pairs_code ps ++ r ≡ pairs_code qs ++ s → (ps ≡ qs) × (r ≡ s)
  pairs_apart no_pairs no_pairs r s f g c h = (refl, h)
  pairs_apart no_pairs (pair l w qs) r s f g c h = absurd (omega arith)
  pairs_apart (pair k v ps) no_pairs r s f g c h = absurd (omega arith)
  pairs_apart (pair k v ps) (pair l w qs) r s f g c h =
      let x = code v ++ pairs_code ps in
      let y = code w ++ pairs_code qs in
      let a = text_apart k l (x ++ r) (y ++ s) f.0 g.0 (sym (append_assoc (text_code k) x r) ∙ h ∙ append_assoc (text_code l) y s) in
      let p = apart v w (pairs_code ps ++ r) (pairs_code qs ++ s) f.1 g.1 (sym (append_assoc (code v) (pairs_code ps) r) ∙ a.1 ∙ append_assoc (code w) (pairs_code qs) s) in
      let q = pairs_apart ps qs r s f.2 g.2 (omega arith) p.1 in
      ((λ i. pair (a.0 i) (p.0 i) (q.0 i)), q.1)

pub same_plains : (vs ws : List Plain) → plains_of vs ≡ plains_of ws → vs ≡ ws
same_plains [] [] h = refl
same_plains [] (w ∷ ws) h = cc
same_plains (v ∷ vs) [] h = cc
same_plains (v ∷ vs) (w ∷ ws) h = let first : v ≡ w = cc in let others = same_plains vs ws (cc) in λ i. first i ∷ others i

pub inputs_apart : (vs ws : List Plain) → IsFit (list (plains_of vs)) → IsFit (list (plains_of ws)) → inputs_text vs ≡ inputs_text ws → vs ≡ ws
inputs_apart vs ws f g h =
    let p = (apart (list (plains_of vs)) (list (plains_of ws)) [] [] f g (ap (λ t. t ++ []) h)).0 in
    let q : plains_of vs ≡ plains_of ws = cc in same_plains vs ws q
