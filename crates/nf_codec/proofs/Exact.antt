-- What is read is what is written, for whole values.
use Rattle.std.proofs.Common.{◌≡◌, ℕ, zero, suc, ◌+◌, Result, ◌<◌, ◌≤◌, List, ◌++◌, length, take, drop, Bool, true, false, cond, Option, Some, None, Ok, Err, refl, ap, sym, ◌∙◌, subst, arith, append_assoc, codes}
use Rattle.std.specs.Prelude.{IfOk}
use Rattle.std.proofs.lemmas.List.{length-append}
use Rattle.std.proofs.Math.Seq.{take-append_seam}
use Rattle.nf_value.specs.Plain.{Plain, null, truth, int, text, file, list, table, plains_of, plain_pairs_of}
use Rattle.nf_value.specs.Code.{code, all_code, pairs_code, text_code, head_code, count, count_pairs}
use Rattle.nf_value.specs.Depth.{depth_of, deepest, deepest_pair}
use Rattle.nf_value.specs.View.{plain_of}
use Rattle.nf_value.specs.declared.value.Value.{Value}
use Rattle.nf_codec.specs.declared.fault.CodeFault.{CodeFault}
use Rattle.nf_codec.specs.Heads.{Head, whole, list_of, table_of, head_at}
use Rattle.nf_codec.specs.Reading.{Reading, no_value, and_then, many, many_pairs, pair_from, key_from, key_as, text_of, is_above, opened, met, read, Reads, IsGivenBack}
use Rattle.nf_codec.specs.Whole.{IsWhole, AreWhole, ArePairs, IsWholeText}
use Rattle.nf_codec.proofs.Series.{reads_ok}
use Rattle.nf_codec.proofs.RoundTrip.{left_is, given_back}
use Rattle.nf_codec.proofs.Spelled.{Holds, Spells, IsSpelled, head_spelled}

abbrev OnRead : {A : Type 0} → (A × List ℕ → Type 0) → Reading A → Type 0
OnRead P (Ok p) = P p
OnRead P (Err e) = Unit {0}

read_then : {A B : Type 0} (Q : A × List ℕ → Type 0) (P : B × List ℕ → Type 0) (o : Reading A) (g : A → List ℕ → Reading B) → OnRead Q o → ((a : A) (rest : List ℕ) → Q (a, rest) → OnRead P (g a rest)) → OnRead P (and_then o g)
read_then Q P (Ok p) g h k = k p.0 p.1 h
read_then Q P (Err e) g h k = tt

some_code : (v : Plain) → 0 < length (code v)
some_code null = omega arith
some_code (truth true) = omega arith
some_code (truth false) = omega arith
some_code (int i) = omega arith
some_code (text t) = omega arith
some_code (file n d l) = omega arith
some_code (list vs) = omega arith
some_code (table ps) = omega arith

abbrev IsRead : ℕ → List ℕ → Plain × List ℕ → Type 0
IsRead d bs p = (bs ≡ code p.0 ++ p.1) × IsWhole p.0 × (depth_of p.0 ≤ d)

shorter : (v : Plain) (bs rest : List ℕ) → bs ≡ code v ++ rest → length rest < length bs
shorter v bs rest is = omega (arith, ap length is, length-append (code v) rest, some_code v)

abbrev AreRead : ℕ → List ℕ → ℕ → List Plain × List ℕ → Type 0
AreRead d bs n p = (bs ≡ all_code (plains_of p.0) ++ p.1) × AreWhole (plains_of p.0) × (deepest (plains_of p.0) ≤ d) × (count (plains_of p.0) ≡ n) × (n + length p.1 ≤ length bs)

-- a reader of values reads what is written
abbrev IsExact : ℕ → (List ℕ → Reading Plain) → Type 0
IsExact d f = (bs : List ℕ) → length bs < 18446744073709551616 → OnRead (IsRead d bs) (f bs)

many_read : (d : ℕ) (f : List ℕ → Reading Plain) → IsExact d f → (n : ℕ) (bs : List ℕ) → length bs < 18446744073709551616 → OnRead (AreRead d bs n) (many f n bs)
many_read d f exact zero bs small = (refl, tt, omega arith, refl, omega arith)
many_read d f exact (suc n) bs small =
    read_then (IsRead d bs) (AreRead d bs (suc n)) (f bs) _ (exact bs small)
    (λ v rest w.
    let less = shorter v bs rest w.0 in
    read_then (AreRead d rest n) (AreRead d bs (suc n)) (many f n rest) _ (many_read d f exact n rest (omega (arith, less)))
    (λ vs rest' u. (
      w.0 ∙ ap (λ cs. code v ++ cs) u.0 ∙ sym (append_assoc (code v) (all_code (plains_of vs)) rest'),
      (w.1, u.1),
      omega (arith, w.2, u.2),
      ap suc u.3,
      omega (arith, less, u.4),
    )))

abbrev IsKey : Option (List ℕ) → List ℕ → List ℕ × List ℕ → Type 0
IsKey before bs p = (bs ≡ text_code p.0 ++ p.1) × IsWholeText p.0 × (is_above before p.0 ≡ true)

keyed : (before : Option (List ℕ)) (left : ℕ) (bs : List ℕ) (h : Head) (rest : List ℕ) → Spells bs h rest → OnRead (IsKey before bs) (key_as before left (text_of h) rest)
keyed before left bs (whole null) rest w = tt
keyed before left bs (whole (truth b)) rest w = tt
keyed before left bs (whole (int i)) rest w = tt
keyed before left bs (whole (text t)) rest w = chosen (is_above before t) refl
  where
    chosen : (b : Bool) → is_above before t ≡ b → OnRead (IsKey before bs) (cond b (Ok (t, rest)) (Err (no_value left)))
    chosen true is = (w.0, w.1, is)
    chosen false is = tt
keyed before left bs (whole (file n d l)) rest w = tt
keyed before left bs (whole (list vs)) rest w = tt
keyed before left bs (whole (table ps)) rest w = tt
keyed before left bs (list_of n) rest w = tt
keyed before left bs (table_of n) rest w = tt

key_read : (before : Option (List ℕ)) (left : ℕ) (bs : List ℕ) (o : Option (Head × List ℕ)) → Holds (IsSpelled bs) o → OnRead (IsKey before bs) (key_from before left o)
key_read before left bs None h = tt
key_read before left bs (Some p) h = keyed before left bs p.0 p.1 h

abbrev IsPair : Option (List ℕ) → ℕ → List ℕ → (List ℕ × Plain) × List ℕ → Type 0
IsPair before d bs p = (bs ≡ text_code p.0.0 ++ (code p.0.1 ++ p.1)) × (is_above before p.0.0 ≡ true) × IsWholeText p.0.0 × IsWhole p.0.1 × (depth_of p.0.1 ≤ d)

after_key : (k bs rest : List ℕ) → bs ≡ text_code k ++ rest → length rest ≤ length bs
after_key k bs rest is = omega (arith, ap length is, length-append (text_code k) rest)

pair_read : (d : ℕ) (f : List ℕ → Reading Plain) → IsExact d f → (before : Option (List ℕ)) (bs : List ℕ) → length bs < 18446744073709551616 → OnRead (IsPair before d bs) (pair_from f before bs)
pair_read d f exact before bs small =
    read_then (IsKey before bs) (IsPair before d bs) (key_from before (length bs) (head_at bs)) _ (key_read before (length bs) bs (head_at bs) (head_spelled bs small))
    (λ k rest w. read_then (IsRead d rest) (IsPair before d bs) (f rest) _ (exact rest (omega (arith, after_key k bs rest w.0)))
    (λ v rest' u. (w.0 ∙ ap (λ cs. text_code k ++ cs) u.0, w.2, w.1, u.1, u.2)))

abbrev ArePairsRead : Option (List ℕ) → ℕ → List ℕ → ℕ → List (List ℕ × Plain) × List ℕ → Type 0
ArePairsRead before d bs n p =
    (bs ≡ pairs_code (plain_pairs_of p.0) ++ p.1) × ArePairs before (plain_pairs_of p.0) × (deepest_pair (plain_pairs_of p.0) ≤ d) × (count_pairs (plain_pairs_of p.0) ≡ n) × (n + length p.1 ≤ length bs)

shorter_pair : (k : List ℕ) (v : Plain) (bs rest : List ℕ) → bs ≡ text_code k ++ (code v ++ rest) → length rest < length bs
shorter_pair k v bs rest is = omega (arith, after_key k bs (code v ++ rest) is, length-append (code v) rest, some_code v)

many_pairs_read : (d : ℕ) (f : List ℕ → Reading Plain) → IsExact d f → (n : ℕ) (before : Option (List ℕ)) (bs : List ℕ) → length bs < 18446744073709551616 → OnRead (ArePairsRead before d bs n) (many_pairs f n before bs)
many_pairs_read d f exact zero before bs small = (refl, tt, omega arith, refl, omega arith)
many_pairs_read d f exact (suc n) before bs small =
    read_then (IsPair before d bs) (ArePairsRead before d bs (suc n)) (pair_from f before bs) _ (pair_read d f exact before bs small)
    (λ p rest w.
    let less = shorter_pair p.0 p.1 bs rest w.0 in
    read_then (ArePairsRead (Some p.0) d rest n) (ArePairsRead before d bs (suc n)) (many_pairs f n (Some p.0) rest) _ (many_pairs_read d f exact n (Some p.0) rest (omega (arith, less)))
    (λ ps rest' u. (
      w.0 ∙ ap (λ cs. text_code p.0 ++ (code p.1 ++ cs)) u.0 ∙ ap (λ cs. text_code p.0 ++ cs) (sym (append_assoc (code p.1) (pairs_code (plain_pairs_of ps)) rest'))
          ∙ sym (append_assoc (text_code p.0) (code p.1 ++ pairs_code (plain_pairs_of ps)) rest'),
      (w.1, w.2, w.3, u.1),
      omega (arith, w.4, u.2),
      ap suc u.3,
      omega (arith, less, u.4),
    )))

closed_read : (left : ℕ) (bs : List ℕ) (h : Head) (rest : List ℕ) → Spells bs h rest → OnRead (IsRead 0 bs) (opened None left h rest)
closed_read left bs (whole v) rest w = (w.0, w.1, omega (arith, w.2))
closed_read left bs (list_of n) rest w = tt
closed_read left bs (table_of n) rest w = tt

opened_read : (d : ℕ) (f : List ℕ → Reading Plain) → IsExact d f → (left : ℕ) (bs : List ℕ) → length bs < 18446744073709551616 → (h : Head) (rest : List ℕ) → Spells bs h rest → OnRead (IsRead (suc d) bs) (opened (Some f) left h rest)
opened_read d f exact left bs small (whole v) rest w = (w.0, w.1, omega (arith, w.2))
opened_read d f exact left bs small (list_of n) rest w =
    read_then (AreRead d rest n) (IsRead (suc d) bs) (many f n rest) _ (many_read d f exact n rest (omega (arith, w.0)))
    (λ vs rest' u. (
      w.1 (omega (arith, w.0, u.4)) ∙ (λ i. head_code (codes "l") (sym u.3 i) ++ u.0 i) ∙ sym (append_assoc (head_code (codes "l") (count (plains_of vs))) (all_code (plains_of vs)) rest'),
      (omega (arith, w.0, u.3, u.4), u.1),
      omega (arith, u.2),
    ))
opened_read d f exact left bs small (table_of n) rest w =
    read_then (ArePairsRead None d rest n) (IsRead (suc d) bs) (many_pairs f n None rest) _ (many_pairs_read d f exact n None rest (omega (arith, w.0)))
    (λ ps rest' u. (
      w.1 (omega (arith, w.0, u.4)) ∙ (λ i. head_code (codes "m") (sym u.3 i) ++ u.0 i) ∙ sym (append_assoc (head_code (codes "m") (count_pairs (plain_pairs_of ps))) (pairs_code (plain_pairs_of ps)) rest'),
      (omega (arith, w.0, u.3, u.4), u.1),
      omega (arith, u.2),
    ))

met_read : (P : Plain × List ℕ → Type 0) (f : Option (List ℕ → Reading Plain)) (left : ℕ) (bs : List ℕ) (o : Option (Head × List ℕ)) → ((h : Head) (rest : List ℕ) → Spells bs h rest → OnRead P (opened f left h rest)) → Holds (IsSpelled bs) o → OnRead P (met f left o)
met_read P f left bs None k h = tt
met_read P f left bs (Some p) k h = k p.0 p.1 h

read_exact : (d : ℕ) → IsExact d (read d)
unfolding read
read_exact zero bs small = met_read (IsRead 0 bs) None (length bs) bs (head_at bs) (closed_read (length bs) bs) (head_spelled bs small)
read_exact (suc d) bs small =
    met_read (IsRead (suc d) bs) (Some (read d)) (length bs) bs (head_at bs) (opened_read d (read d) (read_exact d) (length bs) bs small) (head_spelled bs small)

pub only_codes : (d : ℕ) (bs : List ℕ) (v : Plain) (rest : List ℕ) → length bs < 18446744073709551616 → read d bs ≡ Ok (v, rest) → (bs ≡ code v ++ rest) × IsWhole v × (depth_of v ≤ d)
only_codes d bs v rest small is = subst (OnRead (IsRead d bs)) is (read_exact d bs small)

front_is : (v : Plain) (bs rest : List ℕ) (n : ℕ) → bs ≡ code v ++ rest → n ≤ length bs → rest ≡ drop n bs → take n bs ≡ code v
front_is v bs rest n is fits at =
    let len : n ≡ length (code v) = left_is bs rest (length (code v)) n (ap length is ∙ length-append (code v) rest) fits at in
    (λ i. take (len i) (is i)) ∙ take-append_seam (code v) rest

-- of what was read: its code is the front of the bytes, it is whole, and it isn't too deep
abbrev pub IsDecoded : List ℕ → Value × ℕ → Type 0
IsDecoded bytes q = (take q.1 bytes ≡ code (plain_of q.0)) × IsWhole (plain_of q.0) × (depth_of (plain_of q.0) ≤ 64)

pub decoded : (bytes : List ℕ) (r : Result (Value × ℕ) CodeFault) → length bytes < 18446744073709551616 → Reads bytes (read 64 bytes) r → IfOk r (IsDecoded bytes)
decoded bytes (Err e) small h = tt
decoded bytes (Ok q) small h =
    let ok = reads_ok plain_of bytes (read 64 bytes) q h in
    let only = only_codes 64 bytes (plain_of q.0) (drop q.1 bytes) small ok.0 in
    (front_is (plain_of q.0) bytes (drop q.1 bytes) q.1 only.0 ok.1 refl, only.1, only.2)

pub if_ok : (P Q : Value × ℕ → Type 0) (r : Result (Value × ℕ) CodeFault) → ((q : Value × ℕ) → P q → Q q) → IfOk r P → IfOk r Q
if_ok P Q (Ok q) k h = k q h
if_ok P Q (Err e) k h = tt

pub every_code : (bytes : List ℕ) (r : Result (Value × ℕ) CodeFault) → Reads bytes (read 64 bytes) r → (v : Plain) (rest : List ℕ) → bytes ≡ code v ++ rest → IsWhole v → depth_of v ≤ 64 → IsGivenBack v r
every_code bytes r h v rest is good deep = given_back v rest r good deep (subst (λ bs. Reads bs (read 64 bs) r) is h)
