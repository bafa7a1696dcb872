-- Reading leaves no more bytes than it was given.
use Rattle.std.proofs.Common.{◌≡◌, ℕ, zero, suc, ◌<◌, ◌≤◌, min, List, [], ◌∷◌, length, take, drop, Bool, true, false, cond, Option, Some, None, Ok, Err, refl, ap, sym, ◌∙◌, subst, ⊎_elim, arith}
use Rattle.std.specs.Prelude.{nat_lt, nat_le, ◌&&◌, ◌==◌}
use Rattle.std.specs.Char.{is_ascii_digit}
use Rattle.std.specs.List.{take_while}
use Rattle.std.specs.Option.{option_and_then}
use Rattle.std.specs.Str.{is_utf8}
use Rattle.std.specs.Str.Parse.{digits_value}
use Rattle.std.proofs.lemmas.Bool.{cases_lt, true≢false}
use Rattle.std.proofs.lemmas.List.{length-drop}
use Rattle.nf_value.specs.Plain.{Plain, text, file, list, table, plains_of, plain_pairs_of}
use Rattle.nf_codec.specs.declared.head.Head.{Head as CodeHead}
use Rattle.nf_codec.specs.declared.head.Head.TheVariants.{Whole, List as ListHead, Map}
use Rattle.nf_codec.specs.Heads.{Head, whole, list_of, table_of, is_decimal, ended_by, decimal_before, fits_positive, negative_of, fits_negative, int_at, cut_text, counted_text, text_at, digest_of, fits_length, file_length, file_tail, file_at, counted, head_after, head_at}
use Rattle.nf_codec.specs.Fronts.{IsAlike, head_of}
use Rattle.nf_codec.specs.Reading.{Reading, ReadFault, no_value, and_then, series, many, many_pairs, is_above, text_of, key_as, key_from, pair_from, opened, met, step, read, inner}
use Rattle.nf_codec.proofs.Series.{prepend}

abbrev Within : {A : Type 0} → ℕ → Option (A × List ℕ) → Type 0
Within n None = Unit {0}
Within n (Some p) = length p.1 ≤ n

within_cond : {A : Type 0} (n : ℕ) (b : Bool) (x y : Option (A × List ℕ)) → Within n x → Within n y → Within n (cond b x y)
within_cond n true x y h k = h
within_cond n false x y h k = k

within_then : {A B : Type 0} (n : ℕ) (g : A × List ℕ → Option (B × List ℕ)) (o : Option (A × List ℕ)) → Within n o → ((p : A × List ℕ) → length p.1 ≤ n → Within n (g p)) → Within n (option_and_then g o)
within_then n g None h k = tt
within_then n g (Some p) h k = k p h

within_any : {A B : Type 0} (n : ℕ) (g : A → Option (B × List ℕ)) (o : Option A) → ((x : A) → Within n (g x)) → Within n (option_and_then g o)
within_any n g None k = tt
within_any n g (Some x) k = k x

within_more : {A : Type 0} (n m : ℕ) (o : Option (A × List ℕ)) → n ≤ m → Within n o → Within m o
within_more n m None h k = tt
within_more n m (Some p) h k = omega arith

within_ended : {A : Type 0} (end : ℕ) (x : A) (bs : List ℕ) (n : ℕ) → length bs ≤ n → Within n (ended_by end x bs)
within_ended end x [] n h = tt
within_ended end x (b ∷ bs) n h = within_cond n (b == end) (Some (x, bs)) None (omega arith) tt

drop_within : (k : ℕ) (bs : List ℕ) (n : ℕ) → length bs ≤ n → length (drop k bs) ≤ n
drop_within k bs n h = omega (arith, length-drop k bs)

within_decimal : (end : ℕ) (bs : List ℕ) (n : ℕ) → length bs ≤ n → Within n (decimal_before end bs)
within_decimal end bs n h =
    let ds = take_while is_ascii_digit bs in
    within_cond n (is_decimal ds) (ended_by end (digits_value 10 ds) (drop (length ds) bs)) None (within_ended end (digits_value 10 ds) (drop (length ds) bs) n (drop_within (length ds) bs n h)) tt

within_negative : (k : ℕ) (bs : List ℕ) (n : ℕ) → length bs ≤ n → Within n (negative_of k bs)
within_negative zero bs n h = tt
within_negative (suc k) bs n h = within_cond n (nat_lt k 9223372036854775808) _ None h tt

within_int : (bs : List ℕ) (n : ℕ) → length bs ≤ n → Within n (int_at bs)
within_int [] n h = tt
within_int (b ∷ bs) n h =
    within_cond n (b == 45) (option_and_then fits_negative (decimal_before 59 bs)) (option_and_then fits_positive (decimal_before 59 (b ∷ bs)))
    (within_then n fits_negative (decimal_before 59 bs) (within_decimal 59 bs n (omega arith)) (λ p k. within_negative p.0 p.1 n k))
    (within_then n fits_positive (decimal_before 59 (b ∷ bs)) (within_decimal 59 (b ∷ bs) n h) (λ p k. within_cond n (nat_lt p.0 9223372036854775808) _ None k tt))

within_counted_text : (bs : List ℕ) (n : ℕ) → length bs ≤ n → Within n (counted_text bs)
within_counted_text bs n h =
    within_then n cut_text (decimal_before 58 bs) (within_decimal 58 bs n h)
    (λ p k. within_cond n (nat_le p.0 (length p.1) && is_utf8 (take p.0 p.1)) (Some (take p.0 p.1, drop p.0 p.1)) None (drop_within p.0 p.1 n k) tt)

within_text : (bs : List ℕ) (n : ℕ) → length bs ≤ n → Within n (text_at bs)
within_text bs n h = within_then n (λ p. Some (whole (text p.0), p.1)) (counted_text bs) (within_counted_text bs n h) (λ p k. k)

within_length : (bs : List ℕ) (n : ℕ) → length bs ≤ n → Within n (file_length bs)
within_length bs n h = within_then n fits_length (decimal_before 59 bs) (within_decimal 59 bs n h) (λ p k. within_cond n (nat_lt p.0 18446744073709551616) (Some p) None k tt)

within_tail : (bs : List ℕ) (n : ℕ) → length bs ≤ n → Within n (file_tail bs)
within_tail bs n h =
    within_cond n (nat_le 64 (length bs)) (option_and_then (λ digest. option_and_then (λ p. Some ((digest, p.0), p.1)) (file_length (drop 64 bs))) (digest_of (take 64 bs))) None
    (within_any n (λ digest. option_and_then (λ p. Some ((digest, p.0), p.1)) (file_length (drop 64 bs))) (digest_of (take 64 bs))
    (λ digest. within_then n (λ p. Some ((digest, p.0), p.1)) (file_length (drop 64 bs)) (within_length (drop 64 bs) n (drop_within 64 bs n h)) (λ p k. k)))
    tt

within_file : (bs : List ℕ) (n : ℕ) → length bs ≤ n → Within n (file_at bs)
within_file bs n h =
    within_then n (λ p. option_and_then (λ q. Some (whole (file p.0 q.0.0 q.0.1), q.1)) (file_tail p.1)) (counted_text bs) (within_counted_text bs n h)
    (λ p k. within_then n (λ q. Some (whole (file p.0 q.0.0 q.0.1), q.1)) (file_tail p.1) (within_tail p.1 n k) (λ q j. j))

within_counted : (g : ℕ → Head) (bs : List ℕ) (n : ℕ) → length bs ≤ n → Within n (counted g bs)
within_counted g bs n h = within_then n (λ p. Some (g p.0, p.1)) (decimal_before 58 bs) (within_decimal 58 bs n h) (λ p k. k)

within_after : (letter : ℕ) (bs : List ℕ) (n : ℕ) → length bs ≤ n → Within n (head_after letter bs)
within_after letter bs n h =
    within_cond n (letter == 110) _ _ h (within_cond n (letter == 116) _ _ h (within_cond n (letter == 102) _ _ h
    (within_cond n (letter == 105) (int_at bs) _ (within_int bs n h) (within_cond n (letter == 115) (text_at bs) _ (within_text bs n h) (within_cond n (letter == 112) (file_at bs) _ (within_file bs n h)
    (within_cond n (letter == 108) (counted list_of bs) _ (within_counted list_of bs n h) (within_cond n (letter == 109) (counted table_of bs) None (within_counted table_of bs n h) tt)))))))

abbrev Inside : {A : Type 0} → ℕ → Reading A → Type 0
Inside n (Ok p) = length p.1 ≤ n
Inside n (Err e) = Unit {0}

inside_then : {A B : Type 0} (n : ℕ) (o : Reading A) (g : A → List ℕ → Reading B) → Inside n o → ((a : A) (rest : List ℕ) → length rest ≤ n → Inside n (g a rest)) → Inside n (and_then o g)
inside_then n (Ok p) g h k = k p.0 p.1 h
inside_then n (Err e) g h k = tt

and_then_same : {A B : Type 0} (o : Reading A) (g k : A → List ℕ → Reading B) → ((a : A) (rest : List ℕ) → o ≡ Ok (a, rest) → g a rest ≡ k a rest) → and_then o g ≡ and_then o k
and_then_same (Ok p) g k h = h p.0 p.1 refl
and_then_same (Err e) g k h = refl

inside_series : {A S : Type 0} (f : S → List ℕ → Reading A) (next : A → S) → ((s : S) (bs : List ℕ) (n : ℕ) → length bs ≤ n → Inside n (f s bs)) → (k : ℕ) (s : S) (bs : List ℕ) (n : ℕ) → length bs ≤ n → Inside n (series f next k s bs)
inside_series f next eats zero s bs n h = h
inside_series f next eats (suc k) s bs n h =
    inside_then n (f s bs) _ (eats s bs n h) (λ a rest j. inside_then n (series f next k (next a) rest) _ (inside_series f next eats k (next a) rest n j) (λ ms rest' i. i))

inside_key : (before : Option (List ℕ)) (left : ℕ) (o : Option (Head × List ℕ)) (n : ℕ) → Within n o → Inside n (key_from before left o)
inside_key before left None n h = tt
inside_key before left (Some p) n h = by (text_of p.0)
  where
    chosen : (b : Bool) (k : List ℕ) → Inside n (cond b (Ok (k, p.1)) (Err (no_value left)))
    chosen true k = h
    chosen false k = tt

    by : (t : Option (List ℕ)) → Inside n (key_as before left t p.1)
    by None = tt
    by (Some k) = chosen (is_above before k) k

within_head : (bs : List ℕ) (n : ℕ) → length bs ≤ n → Within n (head_at bs)
within_head [] n h = tt
within_head (b ∷ bs) n h = within_after b bs n (omega arith)

inside_pair : (f : List ℕ → Reading Plain) → ((bs : List ℕ) (n : ℕ) → length bs ≤ n → Inside n (f bs)) → (before : Option (List ℕ)) (bs : List ℕ) (n : ℕ) → length bs ≤ n → Inside n (pair_from f before bs)
inside_pair f eats before bs n h =
    inside_then n (key_from before (length bs) (head_at bs)) _ (inside_key before (length bs) (head_at bs) n (within_head bs n h))
    (λ k rest j. inside_then n (f rest) _ (eats rest n j) (λ v rest' i. i))

inside_opened : (f : List ℕ → Reading Plain) → ((bs : List ℕ) (n : ℕ) → length bs ≤ n → Inside n (f bs)) → (left : ℕ) (g : Head) (bs : List ℕ) (n : ℕ) → length bs ≤ n → Inside n (opened (Some f) left g bs)
inside_opened f eats left (whole v) bs n h = h
inside_opened f eats left (list_of k) bs n h =
    inside_then n (many f k bs) _ (inside_series (λ s. f) (λ v. tt {0}) (λ s cs m j. eats cs m j) k (tt {0}) bs n h) (λ vs rest j. j)
inside_opened f eats left (table_of k) bs n h =
    inside_then n (many_pairs f k None bs) _ (inside_series (pair_from f) (λ p. Some p.0) (λ s cs m j. inside_pair f eats s cs m j) k None bs n h) (λ ps rest j. j)

inside_closed : (left : ℕ) (g : Head) (bs : List ℕ) (n : ℕ) → length bs ≤ n → Inside n (opened None left g bs)
inside_closed left (whole v) bs n h = h
inside_closed left (list_of k) bs n h = tt
inside_closed left (table_of k) bs n h = tt

inside_met : (f : Option (List ℕ → Reading Plain)) (left : ℕ) (o : Option (Head × List ℕ)) (n : ℕ) → ((g : Head) (bs : List ℕ) → length bs ≤ n → Inside n (opened f left g bs)) → Within n o → Inside n (met f left o)
inside_met f left None n k h = tt
inside_met f left (Some p) n k h = k p.0 p.1 h

reads_less : (d : ℕ) (bs : List ℕ) (n : ℕ) → length bs ≤ n → Inside n (read d bs)
unfolding read
reads_less zero [] n h = tt
reads_less zero (b ∷ bs) n h = inside_met None (length (b ∷ bs)) (head_after b bs) n (λ g cs k. inside_closed (length (b ∷ bs)) g cs n k) (within_after b bs n (omega arith))
reads_less (suc d) [] n h = tt
reads_less (suc d) (b ∷ bs) n h =
    inside_met (Some (read d)) (length (b ∷ bs)) (head_after b bs) n (λ g cs k. inside_opened (read d) (λ es m j. reads_less d es m j) (length (b ∷ bs)) g cs n k) (within_after b bs n (omega arith))

reads_some : (d : ℕ) (b : ℕ) (bs : List ℕ) → Inside (length bs) (read d (b ∷ bs))
unfolding read
reads_some zero b bs = inside_met None (length (b ∷ bs)) (head_after b bs) (length bs) (λ g cs k. inside_closed (length (b ∷ bs)) g cs (length bs) k) (within_after b bs (length bs) (omega arith))
reads_some (suc d) b bs =
    inside_met (Some (read d)) (length (b ∷ bs)) (head_after b bs) (length bs) (λ g cs k. inside_opened (read d) (λ es m j. reads_less d es m j) (length (b ∷ bs)) g cs (length bs) k) (within_after b bs (length bs) (omega arith))

-- a member takes a byte at least, so counts past the number of bytes read alike
series_capped : {A S : Type 0} (f : S → List ℕ → Reading A) (next : A → S) → ((s : S) (bs : List ℕ) (a : A) (rest : List ℕ) → f s bs ≡ Ok (a, rest) → length rest < length bs) → (n m : ℕ) (s : S) (bs : List ℕ) → length bs < n → length bs < m → series f next n s bs ≡ series f next m s bs
series_capped f next eats zero m s bs h k = absurd (omega arith)
series_capped f next eats (suc n) zero s bs h k = absurd (omega arith)
series_capped f next eats (suc n) (suc m) s bs h k =
    and_then_same (f s bs) (λ a rest. prepend a (series f next n (next a) rest)) (λ a rest. prepend a (series f next m (next a) rest))
    (λ a rest e. let less : length rest < length bs = eats s bs a rest e in ap (prepend a) (series_capped f next eats n m (next a) rest (omega arith) (omega arith)))

read_none : (d : ℕ) → read d [] ≡ Err (no_value 0)
unfolding read
read_none zero = refl
read_none (suc d) = refl

at_inside : {A : Type 0} (n : ℕ) (o : Reading A) (a : A) (rest : List ℕ) → o ≡ Ok (a, rest) → Inside n o → length rest ≤ n
at_inside n o a rest e h = subst (Inside n) e h

not_read : {A : Type 0} (e : ReadFault) (p : A × List ℕ) → Err e ≡ Ok p → ⊥
not_read e p h = true≢false (ap bad h)
  where
    bad : {A : Type 0} → Reading A → Bool
    bad (Ok q) = false
    bad (Err e) = true

read_eats : (d : ℕ) (bs : List ℕ) (v : Plain) (rest : List ℕ) → read d bs ≡ Ok (v, rest) → length rest < length bs
read_eats d [] v rest e = absurd (not_read (no_value 0) (v, rest) (sym (read_none d) ∙ e))
read_eats d (b ∷ bs) v rest e = omega (arith, at_inside (length bs) (read d (b ∷ bs)) v rest e (reads_some d b bs))

-- a pair takes a byte at least
pair_some : (d : ℕ) (before : Option (List ℕ)) (b : ℕ) (bs : List ℕ) → Inside (length bs) (pair_from (read d) before (b ∷ bs))
pair_some d before b bs =
    inside_then (length bs) (key_from before (length (b ∷ bs)) (head_after b bs)) _ (inside_key before (length (b ∷ bs)) (head_after b bs) (length bs) (within_after b bs (length bs) (omega arith)))
    (λ k rest j. inside_then (length bs) (read d rest) _ (reads_less d rest (length bs) j) (λ v rest' i. i))

pair_eats : (d : ℕ) (before : Option (List ℕ)) (bs : List ℕ) (p : List ℕ × Plain) (rest : List ℕ) → pair_from (read d) before bs ≡ Ok (p, rest) → length rest < length bs
pair_eats d before [] p rest e = absurd (not_read (no_value 0) (p, rest) e)
pair_eats d before (b ∷ bs) p rest e = omega (arith, at_inside (length bs) (pair_from (read d) before (b ∷ bs)) p rest e (pair_some d before b bs))

abbrev most : ℕ
most = 18446744073709551615

many_capped : (d n k : ℕ) (bs : List ℕ) → k ≡ min n most → length bs < most → many (read d) n bs ≡ many (read d) k bs
many_capped d n k bs is small =
    ⊎_elim
    (λ big. series_capped (λ s. read d) (λ v. tt {0}) (λ s cs v rest e. read_eats d cs v rest e) n k (tt {0}) bs (omega arith) (omega arith))
    (λ fits. let same : n ≡ k = omega arith in ap (λ m. many (read d) m bs) same)
    (cases_lt most n)

pairs_capped : (d n k : ℕ) (bs : List ℕ) → k ≡ min n most → length bs < most → many_pairs (read d) n None bs ≡ many_pairs (read d) k None bs
pairs_capped d n k bs is small =
    ⊎_elim
    (λ big. series_capped (pair_from (read d)) (λ p. Some p.0) (λ s cs p rest e. pair_eats d s cs p rest e) n k None bs (omega arith) (omega arith))
    (λ fits. let same : n ≡ k = omega arith in ap (λ m. many_pairs (read d) m None bs) same)
    (cases_lt most n)

pub opened_alike : (d left : ℕ) (g : Head) (h : CodeHead) (bs : List ℕ) → IsAlike g h → length bs < most → opened (inner d) left g bs ≡ opened (inner d) left (head_of h) bs
opened_alike d left (whole v) (Whole w) bs like small = ap (λ x. Ok (x, bs)) like
opened_alike d left (whole v) (ListHead k) bs like small = absurd like
opened_alike d left (whole v) (Map k) bs like small = absurd like
opened_alike d left (list_of n) (Whole w) bs like small = absurd like
opened_alike zero left (list_of n) (ListHead k) bs like small = refl
opened_alike (suc d) left (list_of n) (ListHead k) bs like small = ap (λ o. and_then o (λ vs rest. Ok (list (plains_of vs), rest))) (many_capped d n k bs like small)
opened_alike d left (list_of n) (Map k) bs like small = absurd like
opened_alike d left (table_of n) (Whole w) bs like small = absurd like
opened_alike d left (table_of n) (ListHead k) bs like small = absurd like
opened_alike zero left (table_of n) (Map k) bs like small = refl
opened_alike (suc d) left (table_of n) (Map k) bs like small = ap (λ o. and_then o (λ ps rest. Ok (table (plain_pairs_of ps), rest))) (pairs_capped d n k bs like small)

pub read_is : (d : ℕ) (bs : List ℕ) → read d bs ≡ step (inner d) bs
unfolding read
read_is zero bs = refl
read_is (suc d) bs = refl
