-- Going over the files of a report, and over the digests of a store.
use Rattle.std.proofs.Common.{◌≡◌, ℕ, ◌+◌, ◌<◌, ◌≤◌, List, length, get_or, drop, true, false, not, None, Some, bytes_eq, add-one}
use Rattle.std.specs.List.{find}
use Rattle.std.proofs.Math.Seq.{drop-cons}
use Rattle.std.proofs.lemmas.List.{drop_all}
use Rattle.nf_value.specs.declared.file.Digest.{Digest}
use Rattle.nf_value.specs.declared.file.FileRef.{FileRef}
use Rattle.nf_lane.specs.Store.{Store, first_lacking, holds}

-- the lists of a report
pub at_list : (s : Store) (w : List (List FileRef)) (i : ℕ) (e : List FileRef) (f : FileRef) → i < length w → e ≡ get_or w i e → Some f ≡ find (λ k. not (s k.digest.0)) e → first_lacking s (drop i w) ≡ Some f
at_list s w i e f h is found = rw (drop-cons w i e, ← is, ← found)

pub past_list : (s : Store) (w : List (List FileRef)) (i : ℕ) (e : List FileRef) → i < length w → e ≡ get_or w i e → None ≡ find (λ k. not (s k.digest.0)) e → first_lacking s (drop i w) ≡ first_lacking s (drop (i + 1) w)
past_list s w i e h is none = rw (drop-cons w i e, ← is, ← none, add-one)

pub no_list : (s : Store) (w : List (List FileRef)) (i : ℕ) → length w ≤ i → first_lacking s (drop i w) ≡ None
no_list s w i h = rw drop_all

-- the files of a list
pub at_file : (s : Store) (w : List FileRef) (i : ℕ) (e : FileRef) → i < length w → e ≡ get_or w i e → s e.digest.0 ≡ false → find (λ k. not (s k.digest.0)) (drop i w) ≡ Some e
at_file s w i e h is lacks = rw (drop-cons w i e, ← is, lacks)

pub past_file : (s : Store) (w : List FileRef) (i : ℕ) (e : FileRef) → i < length w → e ≡ get_or w i e → s e.digest.0 ≡ true → find (λ k. not (s k.digest.0)) (drop i w) ≡ find (λ k. not (s k.digest.0)) (drop (i + 1) w)
past_file s w i e h is has = rw (drop-cons w i e, ← is, has, add-one)

pub no_file : (s : Store) (w : List FileRef) (i : ℕ) → length w ≤ i → find (λ k. not (s k.digest.0)) (drop i w) ≡ None
no_file s w i h = rw drop_all

-- the digests of a store
pub at_digest : (w : List Digest) (i : ℕ) (e : Digest) (d : List ℕ) → i < length w → e ≡ get_or w i e → bytes_eq e.0 d ≡ true → holds (drop i w) d ≡ true
at_digest w i e d h is same = rw (drop-cons w i e, ← is, same)

pub past_digest : (w : List Digest) (i : ℕ) (e : Digest) (d : List ℕ) → i < length w → e ≡ get_or w i e → bytes_eq e.0 d ≡ false → holds (drop i w) d ≡ holds (drop (i + 1) w) d
past_digest w i e d h is other = rw (drop-cons w i e, ← is, other, add-one)

pub no_digest : (w : List Digest) (i : ℕ) (d : List ℕ) → length w ≤ i → holds (drop i w) d ≡ false
no_digest w i d h = rw drop_all
