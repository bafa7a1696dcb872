-- What a folder of records holds after a file of it was written and renamed.
use Rattle.std.proofs.Common.{◌≡◌, ℕ, zero, suc, ◌<◌, ◌/◌, ◌%◌, ◌==◌, List, [], ◌∷◌, Bool, true, false, ◌&&◌, ◌⊎◌, Option, None, Some, Result, Ok, Err, OnOk, OnErr, option_map, length, codes, bytes_eq, inl, inr, refl, sym, ap, ◌∙◌, subst, arith, true≢false, lit<}
use Rattle.std.specs.Prelude.{slice_index, nat_le, if◌then◌else◌}
use Rattle.std.specs.List.{All}
use Rattle.std.proofs.lemmas.Bool.{cases_lt}
use Rattle.std.proofs.lemmas.List.{get_or_past, take_all}
use Rattle.std.proofs.lemmas.List.Elements.{All-from_recursion}
use Rattle.std.proofs.Math.Nat.{div-lt_iff_lt-mul}
use Rattle.hex.specs.Hex.{IsBytes, decode_of, encode_lower, encode_with, lower_digits}
use Rattle.hex.proofs.HexLemmas.{decode_of-encode_lower}
use Rattle.nf_host.specs.Files.{Files, KeepsOthers, moved}
use Rattle.nf_host.specs.Files as files
use Rattle.nf_host.proofs.Paths.{same_name, text_itself, text_same}
use Rattle.nf_keeper.specs.FileKeeper.{HasPut, MayHavePut, path_of, scratch_in, record_in, held_in}
use Rattle.nf_keeper.specs.Held.{Both, Held, HoldTheSame, IsPut, put}
use Rattle.nf_keeper.specs.declared.file_keeper.TheConstants.{RECORD_LIMIT}

-- ---- a key's digits tell it

abbrev IsSome : ℕ → Type 0
IsSome d = 0 < d

-- no digit is the character 0
some_digits : All IsSome lower_digits
some_digits =
    All-from_recursion IsSome lower_digits (
      omega arith,
      (
        omega arith,
        (
          omega arith,
          (
            omega arith,
            (
              omega arith,
              (
                omega arith,
                (
                  omega arith,
                  (
                    omega arith,
                    (omega arith, (omega arith, (omega arith, (omega arith, (omega arith, (omega arith, (omega arith, (omega arith, tt)))))))),
                  ),
                ),
              ),
            ),
          ),
        ),
      ),
    )

few_digits : (n : ℕ) → 0 < slice_index lower_digits n → n < 16
few_digits n some =
    elim (cases_lt n 16) [
      | inl l ↦ l
      | inr g ↦ let past = get_or_past lower_digits n 0 g in omega (arith, past, some)
    ]

-- a number with the first digit of a byte is a byte
small : (x y : ℕ) → y < 256 → slice_index lower_digits (x / 16) ≡ slice_index lower_digits (y / 16) → x < 256
small x y h same =
    let low : y / 16 < 16 = (div-lt_iff_lt-mul {k = 16} {x = y} {y = 16} (lit< tt)).1 h in
    let there : 0 < slice_index lower_digits (x / 16) = subst (λ (d : ℕ). 0 < d) (sym same) (some_digits (y / 16) 0 low) in
    (div-lt_iff_lt-mul {k = 16} {x = x} {y = 16} (lit< tt)).0 (few_digits (x / 16) there)

-- what has the digits of bytes is bytes
all_bytes : (q k : List ℕ) → IsBytes k → encode_lower q ≡ encode_lower k → IsBytes q
unfolding encode_with
all_bytes [] k h e i = lit< tt
all_bytes (x ∷ q) [] h e i = absurd (cc)
all_bytes (x ∷ q) (y ∷ k) h e zero = let first : slice_index lower_digits (x / 16) ≡ slice_index lower_digits (y / 16) = cc in small x y (h 0) first
all_bytes (x ∷ q) (y ∷ k) h e (suc i) = let rest : encode_lower q ≡ encode_lower k = cc in all_bytes q k (λ j. h (suc j)) rest i

same_key : (q k : List ℕ) → IsBytes k → encode_lower q ≡ encode_lower k → q ≡ k
same_key q k h e =
    let both : Ok q ≡ Ok k = sym (decode_of-encode_lower q (all_bytes q k h e)) ∙ ap decode_of e ∙ decode_of-encode_lower k h in
    cc

digits_alike : (q k : List ℕ) → IsBytes k → bytes_eq (encode_lower q) (encode_lower k) ≡ bytes_eq k q
digits_alike q k h =
    elim (bytes_eq k q) as (λ b. bytes_eq k q ≡ b → bytes_eq (encode_lower q) (encode_lower k) ≡ b) [
      | true ↦ λ t. ap (λ z. bytes_eq (encode_lower z) (encode_lower k)) (sym (text_same k q t)) ∙ text_itself (encode_lower k)
      | false ↦ λ f.
          elim (bytes_eq (encode_lower q) (encode_lower k)) as (λ b. bytes_eq (encode_lower q) (encode_lower k) ≡ b → b ≡ false) [
            | true ↦ λ t. absurd (true≢false (sym (text_itself k) ∙ ap (bytes_eq k) (sym (same_key q k h (text_same (encode_lower q) (encode_lower k) t))) ∙ f))
            | false ↦ λ g. refl
          ] refl
    ] refl

-- a key has the path of another exactly where it is that key
one_path : (dir q k : List ℕ) → IsBytes k → bytes_eq (path_of dir q) (path_of dir k) ≡ bytes_eq k q
one_path dir q k h = same_name dir (encode_lower q) (encode_lower k) ∙ digits_alike q k h

-- ---- no key has the path at which files are written

none_of_two : (a b : Bool) → (a && (b && false)) ≡ false
none_of_two true true = refl
none_of_two true false = refl
none_of_two false b = refl

none_of_three : (a b c : Bool) → (a && (b && (c && false))) ≡ false
none_of_three true b c = none_of_two b c
none_of_three false b c = refl

-- keys have an even number of digits
no_digits : (q : List ℕ) → bytes_eq (encode_lower q) (codes "new") ≡ false
unfolding encode_with
no_digits [] = refl
no_digits (x ∷ []) = none_of_two (slice_index lower_digits (x / 16) == 110) (slice_index lower_digits (x % 16) == 101)
no_digits (x ∷ y ∷ q) = none_of_three (slice_index lower_digits (x / 16) == 110) (slice_index lower_digits (x % 16) == 101) (slice_index lower_digits (y / 16) == 119)

not_scratch : (dir q : List ℕ) → bytes_eq (path_of dir q) (scratch_in dir) ≡ false
not_scratch dir q = same_name dir (encode_lower q) (codes "new") ∙ no_digits q

-- ---- what is held

held_same : (dir : List ℕ) (f g : Files) → KeepsOthers (scratch_in dir) f g → HoldTheSame (held_in dir f) (held_in dir g)
held_same dir f g k q = ap record_in (k (path_of dir q) (not_scratch dir q))

written : (path bytes : List ℕ) (f : Files) → KeepsOthers path f (files.put f path bytes)
written path bytes f q other = rw other refl

chosen : (b : Bool) (bytes : List ℕ) (o : Option (List ℕ)) → nat_le (length bytes) RECORD_LIMIT ≡ true → record_in (if b then Some bytes else o) ≡ (if b then Some bytes else record_in o)
chosen true bytes o fits = rw fits refl
chosen false bytes o fits = refl

-- a file that was written whole and has its place is what its key holds
placed : (dir key bytes : List ℕ) (f : Files) → IsBytes key → nat_le (length bytes) RECORD_LIMIT ≡ true →
    IsPut (held_in dir f) key bytes (held_in dir (moved (files.put f (scratch_in dir) bytes) (scratch_in dir) (path_of dir key)))
placed dir key bytes f h fits q =
    rw (one_path dir q key h, not_scratch dir q, text_itself (scratch_in dir)) (chosen (bytes_eq key q) bytes (f (path_of dir q)) fits)

-- ---- the same, where it is told

told_then : {A : Type 0} (a b : Option A) (P Q : A → A → Type 0) → ((m n : A) → P m n → Q m n) → Both a b P → Both a b Q
told_then None None P Q k h = tt
told_then (Some m) (Some n) P Q k h = k m n h
told_then None (Some n) P Q k h = h
told_then (Some m) None P Q k h = h

-- nothing has happened
pub nothing_yet : (o p : Option Files) (dir key bytes : List ℕ) → p ≡ o → Both o p (MayHavePut dir key bytes)
nothing_yet o p dir key bytes same = subst (λ (x : Option Files). Both o x (MayHavePut dir key bytes)) (sym same) (at o)
  where
    at : (x : Option Files) → Both x x (MayHavePut dir key bytes)
    at None = tt
    at (Some f) = inl (λ q. refl)

-- writing has failed
pub not_written : (o p q : Option Files) (dir key bytes path : List ℕ) → path ≡ scratch_in dir → p ≡ o → Both p q (KeepsOthers path) → Both o q (MayHavePut dir key bytes)
not_written o p q dir key bytes path at same kept =
    let there : Both p q (KeepsOthers (scratch_in dir)) = subst (λ (x : List ℕ). Both p q (KeepsOthers x)) at kept in
    let held : Both p q (MayHavePut dir key bytes) = told_then p q (KeepsOthers (scratch_in dir)) (MayHavePut dir key bytes) (λ f g k. inl (held_same dir f g k)) there in
    subst (λ (x : Option Files). Both x q (MayHavePut dir key bytes)) same held

-- the files after writing, and after renaming
abbrev pub written_at : List ℕ → List ℕ → Option Files → Option Files
written_at path bytes o = option_map (λ f. files.put f path bytes) o

abbrev pub placed_at : List ℕ → List ℕ → Option Files → Option Files
placed_at from to o = option_map (λ f. moved f from to) o

-- a file was written, and has or may have its place
pub record Writes (dir key bytes : List ℕ) (o p : Option Files) (scratch path : List ℕ) : Type 0 where
  pub key_is : IsBytes key
  pub fits : nat_le (length bytes) RECORD_LIMIT ≡ true
  pub scratch_is : scratch ≡ scratch_in dir
  pub path_is : path ≡ path_of dir key
  pub written_is : p ≡ written_at scratch bytes o

in_place : (o : Option Files) (dir key bytes : List ℕ) → IsBytes key → nat_le (length bytes) RECORD_LIMIT ≡ true →
    Both o (placed_at (scratch_in dir) (path_of dir key) (written_at (scratch_in dir) bytes o)) (HasPut dir key bytes)
in_place None dir key bytes h fits = tt
in_place (Some f) dir key bytes h fits = placed dir key bytes f h fits

written_only : (o : Option Files) (dir key bytes : List ℕ) → Both o (written_at (scratch_in dir) bytes o) (MayHavePut dir key bytes)
written_only None dir key bytes = tt
written_only (Some f) dir key bytes = inl (held_same dir f (files.put f (scratch_in dir) bytes) (written (scratch_in dir) bytes f))

whole_image : (dir key bytes : List ℕ) (f g : Files) → HasPut dir key bytes f g → MayHavePut dir key bytes f g
whole_image dir key bytes f g p = inr (length bytes, λ q. p q ∙ ap (λ b. put (held_in dir f) key b q) (sym (take_all (length bytes) bytes (omega arith))))

-- what renaming a written file gives, by its own paths
steps_are : (dir key bytes : List ℕ) (o p : Option Files) (scratch path : List ℕ) → Writes dir key bytes o p scratch path →
    placed_at scratch path p ≡ placed_at (scratch_in dir) (path_of dir key) (written_at (scratch_in dir) bytes o)
steps_are dir key bytes o p scratch path w =
    ap (λ x. placed_at x path p) w.scratch_is ∙ ap (λ x. placed_at (scratch_in dir) x p) w.path_is
    ∙ ap (placed_at (scratch_in dir) (path_of dir key)) (w.written_is ∙ ap (λ x. written_at x bytes o) w.scratch_is)

-- it was renamed
pub renamed : (dir key bytes : List ℕ) (o p q : Option Files) (scratch path : List ℕ) → Writes dir key bytes o p scratch path → q ≡ placed_at scratch path p → Both o q (HasPut dir key bytes)
renamed dir key bytes o p q scratch path w is =
    subst (λ (z : Option Files). Both o z (HasPut dir key bytes)) (sym (is ∙ steps_are dir key bytes o p scratch path w)) (in_place o dir key bytes w.key_is w.fits)

-- it may have been
pub maybe_renamed : (dir key bytes : List ℕ) (o p q : Option Files) (scratch path : List ℕ) → Writes dir key bytes o p scratch path → (q ≡ p) ⊎ (q ≡ placed_at scratch path p) → Both o q (MayHavePut dir key bytes)
maybe_renamed dir key bytes o p q scratch path w (inl same) =
    subst (λ (z : Option Files). Both o z (MayHavePut dir key bytes)) (sym (same ∙ w.written_is ∙ ap (λ x. written_at x bytes o) w.scratch_is)) (written_only o dir key bytes)
maybe_renamed dir key bytes o p q scratch path w (inr is) = told_then o q (HasPut dir key bytes) (MayHavePut dir key bytes) (whole_image dir key bytes) (renamed dir key bytes o p q scratch path w is)

-- ---- what an answer tells

pub if_err : {T E : Type 0} (r : Result T E) (P : Type 0) → P → OnErr r P
if_err (Ok x) P h = tt
if_err (Err e) P h = h

pub ok_then : {T E : Type 0} (r : Result T E) (P Q : Type 0) → (P → Q) → OnOk r P → OnOk r Q
ok_then (Ok x) P Q step h = step h
ok_then (Err e) P Q step h = tt

-- ---- the same of the keeper's own content

pub over_held : (dir : List ℕ) (o p : Option Files) (P : Held → Held → Type 0) → Both o p (λ f g. P (held_in dir f) (held_in dir g)) → Both (option_map (held_in dir) o) (option_map (held_in dir) p) P
over_held dir None None P h = tt
over_held dir (Some f) (Some g) P h = h
over_held dir None (Some g) P h = h
over_held dir (Some f) None P h = h
