-- The clauses of the functions that read heads.
use Rattle.std.specs.Prelude.{◌≡◌, ℕ, ◌+◌, ◌-◌, ◌^◌, ◌<◌, ◌≤◌, min, List, [], ◌∷◌, length, take, drop, true, Option, Some, None}
use Rattle.std.specs.Str.{all_ascii_digits}
use Rattle.std.specs.Str.Parse.{digits_value}
use denote.Bor.{Bor}
use Rattle.nf_value.specs.declared.file.Digest.{Digest}
use Rattle.nf_value.specs.Plain.{Plain}
use Rattle.nf_value.specs.View.{plain_of}
use Rattle.nf_codec.specs.declared.head.Head.{Head as CodeHead}
use Rattle.nf_codec.specs.declared.head.Head.TheVariants.{Whole, List as ListHead, Map}
use Rattle.nf_codec.specs.Heads.{Head, whole, list_of, table_of, decimal_before}

-- the count of digits of the decimal at the front, which the byte `end` ends
abbrev pub IsDecimalBefore : ℕ → List ℕ → Option ℕ → Type 0
IsDecimalBefore end bs None = decimal_before end bs ≡ None
IsDecimalBefore end bs (Some k) = (decimal_before end bs ≡ Some (digits_value 10 (take k bs), drop (k + 1) bs)) × (0 < k) × (k < length bs) × (all_ascii_digits (take k bs) ≡ true)

-- what was read at the front, and how many bytes it takes; h views it
abbrev pub IsFront : {A B : Type 0} → (A → B) → Option (B × List ℕ) → List ℕ → Option (A × ℕ) → Type 0
IsFront h o bs None = o ≡ None
IsFront h o bs (Some q) = (o ≡ Some (h q.0, drop q.1 bs)) × (q.1 ≤ length bs)

-- the same of a text that is borrowed from the bytes
abbrev pub IsTextFront : Option (List ℕ × List ℕ) → List ℕ → Option (Bor (List ℕ) × ℕ) → Type 0
IsTextFront o bs None = o ≡ None
IsTextFront o bs (Some q) = (o ≡ Some (q.0.now, drop q.1 bs)) × (q.1 ≤ length bs)

abbrev pub IsDigestOf : Option (List ℕ) → Option Digest → Type 0
IsDigestOf o None = o ≡ None
IsDigestOf o (Some d) = o ≡ Some d.0

abbrev pub IsCount : List ℕ → Option (ℕ × ℕ) → Type 0
IsCount bs None = decimal_before 58 bs ≡ None
IsCount bs (Some q) = (decimal_before 58 bs ≡ Some (digits_value 10 (take (q.1 - 1) bs), drop q.1 bs)) × (q.0 ≡ min (digits_value 10 (take (q.1 - 1) bs)) (2 ^ 64 - 1)) × (q.1 ≤ length bs)

-- the code's head is this head; a count past 64 bits is kept as 2^64 - 1
abbrev pub IsAlike : Head → CodeHead → Type 0
IsAlike (whole v) (Whole w) = v ≡ plain_of w
IsAlike (list_of n) (ListHead k) = k ≡ min n (2 ^ 64 - 1)
IsAlike (table_of n) (Map k) = k ≡ min n (2 ^ 64 - 1)
IsAlike _ _ = ⊥

pub record IsHeadAt (o : Option (Head × List ℕ)) (bs : List ℕ) (h : CodeHead) (used : ℕ) : Type 0 where
  pub head : Head
  pub is : o ≡ Some (head, drop used bs)
  pub alike : IsAlike head h
  pub fits : used ≤ length bs

abbrev pub IsHead : Option (Head × List ℕ) → List ℕ → Option (CodeHead × ℕ) → Type 0
IsHead o bs None = o ≡ None
IsHead o bs (Some q) = IsHeadAt o bs q.0 q.1

-- the code's head as a head of the specs
abbrev pub head_of : CodeHead → Head
head_of (Whole v) = whole (plain_of v)
head_of (ListHead k) = list_of k
head_of (Map k) = table_of k

-- the last key so far
abbrev pub last_key : Option (List ℕ) → List (List ℕ × Plain) → Option (List ℕ)
last_key before [] = before
last_key before (p ∷ ps) = last_key (Some p.0) ps
