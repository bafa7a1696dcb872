-- Files by their keys, one file more.
use Rattle.std.proofs.Common.{◌≡◌, ℕ, Bool, true, false, ◌||◌, if◌then◌else◌, List, [], ◌∷◌, ◌++◌, bytes_eq, string_bytes, Option, None, Some, refl, sym, ◌∙◌, ap, subst, true≢false}
use Rattle.std.specs.Prelude.{String}
use Rattle.std.specs.Global.{Global}
use Rattle.std.specs.Map.{lookup}
use Rattle.std.specs.String.{string_eq}
use Rattle.std.proofs.lemmas.Slice.Eq.{bytes_eq-Decides}
use Rattle.std.proofs.lemmas.List.Folds.{list_any-append}
use Rattle.indexmap.specs.IndexMap.{insert_entry}
use Rattle.nf_value.specs.declared.file.FileRef.{FileRef}
use Rattle.nf_builtins.specs.Natives.{is_among}
use Rattle.nf_paths.specs.Pairs.{Keyed, of_key, keys_from}
use Rattle.nf_paths.specs.Groups.{IsMembers, AreMembers, IsGrouped, Grows}
use Rattle.nf_paths.specs.declared.groups.Members.{Members}

-- ---- tests

left_false : (a b : Bool) → (a || b) ≡ false → a ≡ false
left_false false b h = refl
left_false true b h = h

right_false : (a b : Bool) → (a || b) ≡ false → b ≡ false
right_false false b h = h
right_false true b h = absurd (true≢false h)

both_false : (a b : Bool) → a ≡ false → b ≡ false → (a || b) ≡ false
both_false a b h k = rw (h, k) refl

right_true : (a b : Bool) → b ≡ true → (a || b) ≡ true
right_true true b h = refl
right_true false b h = h

equal_bytes : (a b : List ℕ) → bytes_eq a b ≡ true → a ≡ b
equal_bytes a b = (bytes_eq-Decides a b).0

own_bytes : (a : List ℕ) → bytes_eq a a ≡ true
own_bytes a = (bytes_eq-Decides a a).1 refl

turned_by : (a b : List ℕ) → bytes_eq a b ≡ false → (t : Bool) → bytes_eq b a ≡ t → t ≡ false
turned_by a b h false e = refl
turned_by a b h true e = absurd (true≢false (sym ((bytes_eq-Decides a b).1 (sym (equal_bytes b a e))) ∙ h))

turned : (a b : List ℕ) → bytes_eq a b ≡ false → bytes_eq b a ≡ false
turned a b h = turned_by a b h (bytes_eq b a) refl

-- ---- the keys, of which none stands twice

abbrev and_key : List (List ℕ) → List ℕ → List (List ℕ)
and_key ks k = if is_among k ks then ks else ks ++ k ∷ []

one_more : (before : List (List ℕ)) (xs : List Keyed) (x : Keyed) → keys_from before (xs ++ x ∷ []) ≡ and_key (keys_from before xs) x.key
one_more before [] x = refl
one_more before (y ∷ xs) x = one_more (and_key before y.key) xs x

abbrev AreApart : List (List ℕ) → Type 0
AreApart [] = Unit {0}
AreApart (k ∷ ks) = (is_among k ks ≡ false) × AreApart ks

none_pushed : (n k : List ℕ) (ks : List (List ℕ)) → is_among n ks ≡ false → bytes_eq k n ≡ false → is_among n (ks ++ k ∷ []) ≡ false
none_pushed n k [] h e = both_false (bytes_eq k n) false e refl
none_pushed n k (j ∷ ks) h e =
    both_false (bytes_eq j n) (is_among n (ks ++ k ∷ [])) (left_false (bytes_eq j n) (is_among n ks) h)
    (none_pushed n k ks (right_false (bytes_eq j n) (is_among n ks) h) e)

apart_pushed : (k : List ℕ) (ks : List (List ℕ)) → AreApart ks → is_among k ks ≡ false → AreApart (ks ++ k ∷ [])
apart_pushed k [] a h = (refl, tt)
apart_pushed k (j ∷ ks) a h = (
  none_pushed j k ks a.0 (turned j k (left_false (bytes_eq j k) (is_among k ks) h)),
  apart_pushed k ks a.1 (right_false (bytes_eq j k) (is_among k ks) h),
)

apart_by : (ks : List (List ℕ)) (k : List ℕ) → AreApart ks → (t : Bool) → is_among k ks ≡ t → AreApart (if t then ks else ks ++ k ∷ [])
apart_by ks k a true e = a
apart_by ks k a false e = apart_pushed k ks a e

apart_from : (before : List (List ℕ)) (xs : List Keyed) → AreApart before → AreApart (keys_from before xs)
apart_from before [] a = a
apart_from before (x ∷ xs) a = apart_from (and_key before x.key) xs (apart_by before x.key a (is_among x.key before) refl)

-- ---- the files of a key

same_by : (key : List ℕ) (y x : Keyed) (xs : List Keyed) → of_key key (xs ++ x ∷ []) ≡ of_key key xs ++ x.of ∷ [] → (b : Bool) → bytes_eq y.key key ≡ b
    → of_key key ((y ∷ xs) ++ x ∷ []) ≡ of_key key (y ∷ xs) ++ x.of ∷ []
same_by key y x xs rest true e = rw e (ap (λ fs. y.of ∷ fs) rest)
same_by key y x xs rest false e = rw e rest

same_key : (key : List ℕ) (x : Keyed) (xs : List Keyed) → bytes_eq x.key key ≡ true → of_key key (xs ++ x ∷ []) ≡ of_key key xs ++ x.of ∷ []
same_key key x [] h = rw h refl
same_key key x (y ∷ xs) h = same_by key y x xs (same_key key x xs h) (bytes_eq y.key key) refl

other_by : (key : List ℕ) (y x : Keyed) (xs : List Keyed) → of_key key (xs ++ x ∷ []) ≡ of_key key xs → (b : Bool) → bytes_eq y.key key ≡ b
    → of_key key ((y ∷ xs) ++ x ∷ []) ≡ of_key key (y ∷ xs)
other_by key y x xs rest true e = rw e (ap (λ fs. y.of ∷ fs) rest)
other_by key y x xs rest false e = rw e rest

other_key : (key : List ℕ) (x : Keyed) (xs : List Keyed) → bytes_eq x.key key ≡ false → of_key key (xs ++ x ∷ []) ≡ of_key key xs
other_key key x [] h = rw h refl
other_key key x (y ∷ xs) h = other_by key y x xs (other_key key x xs h) (bytes_eq y.key key) refl

-- ---- a key that is none of the keys has no file

own_pushed : (k : List ℕ) (ks : List (List ℕ)) → is_among k (ks ++ k ∷ []) ≡ true
own_pushed k ks = list_any-append (λ m. bytes_eq m k) ks (k ∷ []) ∙ right_true (is_among k ks) (bytes_eq k k || false) (ap (λ b. b || false) (own_bytes k))

own_by : (k : List ℕ) (ks : List (List ℕ)) (t : Bool) → is_among k ks ≡ t → is_among k (if t then ks else ks ++ k ∷ []) ≡ true
own_by k ks true e = e
own_by k ks false e = own_pushed k ks

kept_by : (n k : List ℕ) (ks : List (List ℕ)) → is_among n ks ≡ true → (t : Bool) → is_among n (if t then ks else ks ++ k ∷ []) ≡ true
kept_by n k ks h true = h
kept_by n k ks h false = list_any-append (λ m. bytes_eq m n) ks (k ∷ []) ∙ ap (λ b. b || is_among n (k ∷ [])) h

kept_from : (n : List ℕ) (before : List (List ℕ)) (xs : List Keyed) → is_among n before ≡ true → is_among n (keys_from before xs) ≡ true
kept_from n before [] h = h
kept_from n before (x ∷ xs) h = kept_from n (and_key before x.key) xs (kept_by n x.key before h (is_among x.key before))

none_by : (key : List ℕ) (before : List (List ℕ)) (x : Keyed) (xs : List Keyed) → is_among key (keys_from (and_key before x.key) xs) ≡ false → of_key key xs ≡ [] → (b : Bool) → bytes_eq x.key key ≡ b
    → of_key key (x ∷ xs) ≡ []
none_by key before x xs h rest false e = rw e rest
none_by key before x xs h rest true e =
    let among : is_among x.key (keys_from (and_key before x.key) xs) ≡ true =
    kept_from x.key (and_key before x.key) xs (own_by x.key before (is_among x.key before) refl) in
    absurd (true≢false (sym among ∙ ap (λ k. is_among k (keys_from (and_key before x.key) xs)) (equal_bytes x.key key e) ∙ h))

none_of : (key : List ℕ) (before : List (List ℕ)) (xs : List Keyed) → is_among key (keys_from before xs) ≡ false → of_key key xs ≡ []
none_of key before [] h = refl
none_of key before (x ∷ xs) h = none_by key before x xs h (none_of key (and_key before x.key) xs h) (bytes_eq x.key key) refl

-- ---- in memory

abbrev Entries : Type 0
Entries = List (String Global × Members)

abbrev pub has_text : List ℕ → String Global → Bool
has_text q k = bytes_eq q (string_bytes k)

none_found_by : (q k : List ℕ) (ks : List (List ℕ)) (e : String Global × Members) (es : Entries) → string_bytes e.0 ≡ k → (lookup (has_text q) es ≡ None → is_among q ks ≡ false)
    → (t : Bool) → has_text q e.0 ≡ t → lookup (has_text q) (e ∷ es) ≡ None → is_among q (k ∷ ks) ≡ false
none_found_by q k ks e es same rest true t h = absurd (let f : Some e.1 ≡ None = rw t at h in cc)
none_found_by q k ks e es same rest false t h =
    both_false (bytes_eq k q) (is_among q ks) (turned q k (sym (ap (bytes_eq q) same) ∙ t)) (rest (rw t at h))

none_found : (q : List ℕ) (files : List ℕ → List FileRef) (ks : List (List ℕ)) (es : Entries) → AreMembers files ks es → lookup (has_text q) es ≡ None → is_among q ks ≡ false
none_found q files [] [] m h = refl
none_found q files [] (e ∷ es) m h = absurd m
none_found q files (k ∷ ks) [] m h = absurd m
none_found q files (k ∷ ks) (e ∷ es) m h = none_found_by q k ks e es m.0 (none_found q files ks es m.2) (has_text q e.0) refl h

some_found_by : (q k : List ℕ) (ks : List (List ℕ)) (e : String Global × Members) (es : Entries) (old : Members) → string_bytes e.0 ≡ k → (lookup (has_text q) es ≡ Some old → is_among q ks ≡ true)
    → (t : Bool) → has_text q e.0 ≡ t → lookup (has_text q) (e ∷ es) ≡ Some old → is_among q (k ∷ ks) ≡ true
some_found_by q k ks e es old same rest true t h =
    let is : q ≡ k = equal_bytes q (string_bytes e.0) t ∙ same in
    rw (ap (bytes_eq k) is ∙ own_bytes k) refl
some_found_by q k ks e es old same rest false t h = right_true (bytes_eq k q) (is_among q ks) (rest (rw t at h))

some_found : (q : List ℕ) (files : List ℕ → List FileRef) (ks : List (List ℕ)) (es : Entries) (old : Members) → AreMembers files ks es → lookup (has_text q) es ≡ Some old → is_among q ks ≡ true
some_found q files [] [] old m h = absurd (cc)
some_found q files [] (e ∷ es) old m h = absurd m
some_found q files (k ∷ ks) [] old m h = absurd m
some_found q files (k ∷ ks) (e ∷ es) old m h = some_found_by q k ks e es old m.0 (some_found q files ks es old m.2) (has_text q e.0) refl h

-- ---- one file more

abbrev files_in : List Keyed → List ℕ → List FileRef
files_in xs k = of_key k xs

module _ (xs : List Keyed) (x : Keyed) where
  abbrev all : List Keyed
  all = xs ++ x ∷ []

  -- other keys keep their files
  others : (ks : List (List ℕ)) (es : Entries) → is_among x.key ks ≡ false → AreMembers (files_in xs) ks es → AreMembers (files_in all) ks es
  others [] [] h m = m
  others [] (e ∷ es) h m = absurd m
  others (k ∷ ks) [] h m = absurd m
  others (k ∷ ks) (e ∷ es) h m = (
    m.0,
    subst (IsMembers e.1) (sym (other_key k x xs (turned k x.key (left_false (bytes_eq k x.key) (is_among x.key ks) h)))) m.1,
    others ks es (right_false (bytes_eq k x.key) (is_among x.key ks) h) m.2,
  )

  new_key : (ks : List (List ℕ)) (es : Entries) (e : String Global × Members) → string_bytes e.0 ≡ x.key → IsMembers e.1 (x.of ∷ []) → of_key x.key xs ≡ [] → is_among x.key ks ≡ false
      → AreMembers (files_in xs) ks es → AreMembers (files_in all) (ks ++ x.key ∷ []) (es ++ e ∷ [])
  new_key [] [] e a b none h m = (a, subst (IsMembers e.1) (sym (same_key x.key x xs (own_bytes x.key) ∙ ap (λ fs. fs ++ x.of ∷ []) none)) b, tt)
  new_key [] (d ∷ es) e a b none h m = absurd m
  new_key (k ∷ ks) [] e a b none h m = absurd m
  new_key (k ∷ ks) (d ∷ es) e a b none h m = (
    m.0,
    subst (IsMembers d.1) (sym (other_key k x xs (turned k x.key (left_false (bytes_eq k x.key) (is_among x.key ks) h)))) m.1,
    new_key ks es e a b none (right_false (bytes_eq k x.key) (is_among x.key ks) h) m.2,
  )

-- an entry of a new key goes last
put_last_by : (key : String Global) (m : Members) (e : String Global × Members) (es : Entries) → insert_entry string_eq es key m ≡ es ++ (key, m) ∷ [] → (t : Bool) → string_eq key e.0 ≡ t → t ≡ false
    → insert_entry string_eq (e ∷ es) key m ≡ (e ∷ es) ++ (key, m) ∷ []
put_last_by key m e es rest false t h = rw t (ap (λ ys. e ∷ ys) rest)
put_last_by key m e es rest true t h = absurd (true≢false h)

put_last : (files : List ℕ → List FileRef) (key : String Global) (m : Members) (ks : List (List ℕ)) (es : Entries) → AreMembers files ks es → is_among (string_bytes key) ks ≡ false
    → insert_entry string_eq es key m ≡ es ++ (key, m) ∷ []
put_last files key m [] [] a h = refl
put_last files key m [] (e ∷ es) a h = absurd a
put_last files key m (k ∷ ks) [] a h = absurd a
put_last files key m (k ∷ ks) (e ∷ es) a h =
    put_last_by key m e es (put_last files key m ks es a.2 (right_false (bytes_eq k (string_bytes key)) (is_among (string_bytes key) ks) h)) (string_eq key e.0) refl
    (ap (bytes_eq (string_bytes key)) a.0 ∙ turned k (string_bytes key) (left_false (bytes_eq k (string_bytes key)) (is_among (string_bytes key) ks) h))

-- an entry whose key is there takes its place
module _ (xs : List Keyed) (key : String Global) (f : FileRef) (old new : Members) (grows : (fs : List FileRef) → IsMembers old fs → IsMembers new (fs ++ f ∷ [])) where
  abbrev q : List ℕ
  q = string_bytes key

  abbrev x : Keyed
  x = record { key = q; of = f }

  old_key_by : (k : List ℕ) (ks : List (List ℕ)) (e : String Global × Members) (es : Entries) → AreApart (k ∷ ks) → AreMembers (files_in xs) (k ∷ ks) (e ∷ es)
      → (lookup (has_text q) es ≡ Some old → AreMembers (files_in (xs ++ x ∷ [])) ks (insert_entry string_eq es key new))
      → (t : Bool) → string_eq key e.0 ≡ t → lookup (has_text q) (e ∷ es) ≡ Some old → AreMembers (files_in (xs ++ x ∷ [])) (k ∷ ks) (insert_entry string_eq (e ∷ es) key new)
  old_key_by k ks e es a m rest true t h =
      let found : Some e.1 ≡ Some old = rw t at h in
      let same : e.1 ≡ old = cc in
      let is : q ≡ k = equal_bytes q (string_bytes e.0) t ∙ m.0 in
      let own : bytes_eq q k ≡ true = ap (bytes_eq q) (sym is) ∙ own_bytes q in
      rw t (
        m.0,
        subst (IsMembers new) (sym (same_key k x xs own)) (grows (of_key k xs) (subst (λ d. IsMembers d (of_key k xs)) same m.1)),
        others xs x ks es (ap (λ n. is_among n ks) is ∙ a.0) m.2,
      )
  old_key_by k ks e es a m rest false t h =
      let apart : bytes_eq q k ≡ false = sym (ap (bytes_eq q) m.0) ∙ t in
      rw t (m.0, subst (IsMembers e.1) (sym (other_key k x xs apart)) m.1, rest (rw t at h))

  old_key : (ks : List (List ℕ)) (es : Entries) → AreApart ks → AreMembers (files_in xs) ks es → lookup (has_text q) es ≡ Some old
      → AreMembers (files_in (xs ++ x ∷ [])) ks (insert_entry string_eq es key new)
  old_key [] [] a m h = absurd (cc)
  old_key [] (e ∷ es) a m h = absurd m
  old_key (k ∷ ks) [] a m h = absurd m
  old_key (k ∷ ks) (e ∷ es) a m h = old_key_by k ks e es a m (old_key ks es a.1 m.2) (string_eq key e.0) refl h

grouped_by : (xs : List Keyed) (key : String Global) (f : FileRef) (new : Members) (es : Entries) (r : Option Members) → lookup (has_text (string_bytes key)) es ≡ r → Grows r f new → IsGrouped xs es
    → IsGrouped (xs ++ record { key = string_bytes key; of = f } ∷ []) (insert_entry string_eq es key new)
grouped_by xs key f new es None h g m =
    let ks : List (List ℕ) = keys_from [] xs in
    let q : List ℕ = string_bytes key in
    let x : Keyed = record { key = q; of = f } in
    let files : List ℕ → List FileRef = files_in (xs ++ x ∷ []) in
    let absent : is_among q ks ≡ false = none_found q (files_in xs) ks es m h in
    let keys : keys_from [] (xs ++ x ∷ []) ≡ ks ++ q ∷ [] = one_more [] xs x ∙ ap (λ t. if t then ks else ks ++ q ∷ []) absent in
    let last : insert_entry string_eq es key new ≡ es ++ (key, new) ∷ [] = put_last (files_in xs) key new ks es m absent in
    let P : List (List ℕ) → Type 0 = λ ls. AreMembers files ls (insert_entry string_eq es key new) in
    let Q : Entries → Type 0 = λ ys. AreMembers files (ks ++ q ∷ []) ys in
    subst P (sym keys) (subst Q (sym last) (new_key xs x ks es (key, new) refl g (none_of q [] xs absent) absent m))
grouped_by xs key f new es (Some old) h g m =
    let ks : List (List ℕ) = keys_from [] xs in
    let q : List ℕ = string_bytes key in
    let x : Keyed = record { key = q; of = f } in
    let files : List ℕ → List FileRef = files_in (xs ++ x ∷ []) in
    let there : is_among q ks ≡ true = some_found q (files_in xs) ks es old m h in
    let keys : keys_from [] (xs ++ x ∷ []) ≡ ks = one_more [] xs x ∙ ap (λ t. if t then ks else ks ++ q ∷ []) there in
    let P : List (List ℕ) → Type 0 = λ ls. AreMembers files ls (insert_entry string_eq es key new) in
    subst P (sym keys) (old_key xs key f old new g ks es (apart_from [] xs tt) m h)

-- the file of a key, as the text that was looked up has it
pub grouped : (xs : List Keyed) (text : List ℕ) (key : String Global) (f : FileRef) (new : Members) (es : Entries) (r : Option Members) → string_bytes key ≡ text → lookup (has_text text) es ≡ r
    → Grows r f new → IsGrouped xs es → IsGrouped (xs ++ record { key = text; of = f } ∷ []) (insert_entry string_eq es key new)
grouped xs text key f new es r same h g m =
    let P : List ℕ → Type 0 = λ q. IsGrouped (xs ++ record { key = q; of = f } ∷ []) (insert_entry string_eq es key new) in
    subst P same (grouped_by xs key f new es r (ap (λ q. lookup (has_text q) es) same ∙ h) g m)
