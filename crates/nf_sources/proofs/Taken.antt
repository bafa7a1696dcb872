-- What is taken of a file, and what storing it leaves.
use Rattle.std.proofs.Common.{◌≡◌, ℕ, ◌<◌, ◌≤◌, List, length, Bool, true, false, Option, None, Some, inl, inr, refl, sym, ap, ◌∙◌, subst, nat_le, not, arith}
use Rattle.std.proofs.lemmas.Bool.Decides.{nat_tests}
use Rattle.std.specs.Prelude.{if◌then◌else◌, ◌⊎◌, IfSome, IsTrue, Result, Ok, Err}
use Rattle.sha2.specs.Sha256.{sha256}
use Rattle.nf_value.specs.declared.file.Digest.{Digest}
use Rattle.nf_host.specs.Files.{Files}
use Rattle.nf_host.specs.Copies.{IsDigested}
use Rattle.nf_host.specs.Told.{Both}
use Rattle.nf_host.specs.declared.copies.TheConstants.{FILE_LIMIT}
use Rattle.nf_host.specs.declared.copies.Digested.{Digested}
use Rattle.nf_host.specs.declared.copies.Digested.TheVariants as digested
use Rattle.nf_host.specs.declared.host.HostRefusal.{HostRefusal}
use Rattle.nf_host.specs.declared.host.HostRefusal.TheVariants as host
use Rattle.nf_host.proofs.Copying.{both_same}
use Rattle.nf_shell.specs.declared.store.Stored.{Stored}
use Rattle.nf_shell.specs.Outputs.{stored_of}
use Rattle.nf_shell.specs.Over.{OkOver}
use Rattle.nf_shell.specs.Places.{KeepsOrStores, is_short, is_stored}
use Rattle.nf_shell.proofs.Stores.{stores_all}
use Rattle.nf_sources.specs.Sources.{IsLongAt, IsTaken, NamesLong, OnHostFailed, OnTooLong, is_long}
use Rattle.nf_sources.specs.declared.fault.SourceRefusal.{SourceRefusal}
use Rattle.nf_sources.specs.declared.fault.SourceRefusal.TheVariants.{FileTooLong, Host}

-- ---- what stays

pub kept_same : (told now : Option Files) (work path : List ℕ) → now ≡ told → Both told now (KeepsOrStores work path)
kept_same told now work path e = both_same told now (KeepsOrStores work path) (stores_all work path) e

pub kept_after : (told now next : Option Files) (work path : List ℕ) → now ≡ told → Both now next (KeepsOrStores work path) → Both told next (KeepsOrStores work path)
kept_after told now next work path e k = subst (λ (o : Option Files). Both o next (KeepsOrStores work path)) e k

pub kept_at : (told now : Option Files) (work path other : List ℕ) → path ≡ other → Both told now (KeepsOrStores work path) → Both told now (KeepsOrStores work other)
kept_at told now work path other e k = subst (λ (p : List ℕ). Both told now (KeepsOrStores work p)) e k

pub over_same : {T E : Type 0} (told now : Option Files) (r : Result T E) (P : Files → T → Type 0) → now ≡ told → OkOver now r P → OkOver told r P
over_same told now r P e h = subst (λ (o : Option Files). OkOver o r P) e h

-- ---- refusals

long_test : (n most : ℕ) → most < n → nat_le n most ≡ false
long_test n most l = grind (arith, nat_tests)

long_told : (told : Option Files) (path : List ℕ) (d : Digested) → d ≡ digested.TooLong → IfSome told (λ f. IsDigested FILE_LIMIT (f path) d) → IsLongAt told path
long_told None path d is h = tt
long_told (Some f) path d is h = at (f path) (subst (IsDigested FILE_LIMIT (f path)) is h)
  where
    at : (file : Option (List ℕ)) → IsDigested FILE_LIMIT file digested.TooLong → is_long file ≡ true
    at None z = absurd (let e : digested.TooLong ≡ digested.Absent = z in cc)
    at (Some b) z = ap not (long_test (length b) FILE_LIMIT z)

pub long_cause : (T : Type 0) (path : List ℕ) (e : SourceRefusal) (P : Type 0) → NamesLong path e → OnHostFailed {T = T} (Err e) P
long_cause T path (FileTooLong p) P named = tt
long_cause T path (Host host.Failed) P named = absurd named
long_cause T path (Host host.Mem) P named = tt

pub long_refused : (told : Option Files) (path : List ℕ) (d : Digested) (e : SourceRefusal) → d ≡ digested.TooLong → IfSome told (λ f. IsDigested FILE_LIMIT (f path) d) → NamesLong path e → OnTooLong e (λ p. (p ≡ path) × IsLongAt told p)
long_refused told path d (FileTooLong p) is h named = (named, subst (IsLongAt told) (sym named) (long_told told path d is h))
long_refused told path d (Host r) is h named = tt

-- ---- what is taken

pub absent_taken : (told : Option Files) (path : List ℕ) (d : Digested) → d ≡ digested.Absent → IfSome told (λ f. IsDigested FILE_LIMIT (f path) d) → IfSome told (λ f. IsTaken (f path) None)
absent_taken None path d is h = tt
absent_taken (Some f) path d is h = at (f path) (subst (IsDigested FILE_LIMIT (f path)) is h)
  where
    at : (file : Option (List ℕ)) → IsDigested FILE_LIMIT file digested.Absent → IsTaken file None
    at None z = (refl, refl)
    at (Some b) z = absurd z

at_most : (n most : ℕ) → n ≤ most → nat_le n most ≡ true
at_most n most l = grind (arith, nat_tests)

taken : (file : Option (List ℕ)) (o : Option Stored) (d : Digest) (len : ℕ) → IsDigested FILE_LIMIT file (digested.Whole d len) → (o ≡ Some (record { digest = d; len = len })) ⊎ (o ≡ stored_of file) → IsTaken file o
taken None o d len h so = absurd (let e : digested.Whole d len ≡ digested.Absent = h in cc)
taken (Some b) o d len h so = (one so, ap not short)
  where
    short : is_short b ≡ true
    short = at_most (length b) FILE_LIMIT h.0

    kept : stored_of (Some b) ≡ Some (record { digest = d; len = len })
    kept = ap (λ v. if v then Some (record { digest = record { 0 = sha256 b }; len = length b }) else None) short
        ∙ ap (λ (z : List ℕ). Some (record { digest = record { 0 = z }; len = length b })) (sym h.1) ∙ ap (λ n. Some (record { digest = d; len = n })) (sym h.2)

    one : (o ≡ Some (record { digest = d; len = len })) ⊎ (o ≡ stored_of (Some b)) → o ≡ stored_of (Some b)
    one (inl e) = e ∙ sym kept
    one (inr e) = e

-- what was stored anew, or stood there before, is what is taken of the file
pub whole_taken : (told now : Option Files) (path : List ℕ) (read : Digested) (d : Digest) (len : ℕ) (o : Option Stored) → now ≡ told → read ≡ digested.Whole d len → IfSome told (λ f. IsDigested FILE_LIMIT (f path) read)
    → IfSome now (λ f. (o ≡ Some (record { digest = d; len = len })) ⊎ (o ≡ stored_of (f path))) → IfSome told (λ f. IsTaken (f path) o)
whole_taken None now path read d len o same is h so = tt
whole_taken (Some f) now path read d len o same is h so =
    taken (f path) o d len (subst (IsDigested FILE_LIMIT (f path)) is h)
    (subst (λ (v : Option Files). IfSome v (λ g. (o ≡ Some (record { digest = d; len = len })) ⊎ (o ≡ stored_of (g path)))) same so)

-- ---- what stands in the store

pub found_there : (told : Option Files) (path : List ℕ) (found : Stored) → IfSome told (λ f. (Some found ≡ Some found) ⊎ (Some found ≡ stored_of (f path)))
found_there None path found = tt
found_there (Some f) path found = inl refl

pub stored_anew : (told now : Option Files) (path : List ℕ) (found : Stored) (r : Result (Option Stored) HostRefusal) → now ≡ told → OkOver now r (λ f o. o ≡ stored_of (f path)) → OkOver told r (λ f o. (o ≡ Some found) ⊎ (o ≡ stored_of (f path)))
stored_anew told now path found r same h = at told r (over_same told now r (λ f o. o ≡ stored_of (f path)) same h)
  where
    at : (t : Option Files) (s : Result (Option Stored) HostRefusal) → OkOver t s (λ f o. o ≡ stored_of (f path)) → OkOver t s (λ f o. (o ≡ Some found) ⊎ (o ≡ stored_of (f path)))
    at None s z = tt
    at (Some f) (Ok o) z = inr z
    at (Some f) (Err e) z = tt

pub stands_there : (told now : Option Files) (work digest : List ℕ) (there : Bool) → now ≡ told → there ≡ true → IfSome told (λ f. there ≡ is_stored f work digest) → IfSome now (λ g. IsTrue (is_stored g work digest))
stands_there told now work digest there same whole h = subst (λ (o : Option Files). IfSome o (λ g. is_stored g work digest ≡ true)) (sym same) (at told h)
  where
    at : (t : Option Files) → IfSome t (λ f. there ≡ is_stored f work digest) → IfSome t (λ g. is_stored g work digest ≡ true)
    at None z = tt
    at (Some f) z = sym z ∙ whole
