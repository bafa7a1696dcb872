-- What was found in a file's place, and what a damage says of it.
use Rattle.std.specs.Prelude.{◌≡◌, ◌⊎◌, ℕ, Bool, false, bytes_eq, List, [], ◌∷◌, ◌++◌, if◌then◌else◌, option_map, Contains, IfSome, None, Some}
use Rattle.std.specs.declared.option.Option.{Option}
use Rattle.sha2.specs.Sha256.{sha256}
use Rattle.nf_value.specs.declared.file.Digest.{Digest}
use Rattle.nf_value.specs.declared.file.FileRef.{FileRef}
use Rattle.nf_host.specs.Files.{Files}
use Rattle.nf_host.specs.declared.copies.Digested.{Digested}
use Rattle.nf_host.specs.declared.copies.Digested.TheVariants.{Absent, TooLong, Whole}
use Rattle.nf_shell.specs.Places.{is_short, stored_at}
use Rattle.nf_shell.specs.declared.damage.Damage.{Damage}

-- the digest of a whole file; none of one that is absent or too long
abbrev pub found_digest : Digested → Option Digest
found_digest Absent = None
found_digest TooLong = None
found_digest (Whole digest len) = Some digest

-- whether it is a whole file with this digest
abbrev pub has_digest : Digested → List ℕ → Bool
has_digest Absent due = false
has_digest TooLong due = false
has_digest (Whole digest len) due = bytes_eq digest.0 due

-- the digest of these bytes, if they are there and not too long
abbrev pub digest_in : Option (List ℕ) → Option (List ℕ)
digest_in None = None
digest_in (Some b) = if is_short b then Some (sha256 b) else None

-- a damage of this file: it tells the digest that was due, and what was found isn't that digest
pub record IsDamageOf (file : FileRef) (d : Damage) : Type 0 where
  pub name : d.name ≡ file.name
  pub due : d.due ≡ file.digest
  pub other : d.found ≡ Some file.digest → ⊥

-- a damage of one of these files
abbrev pub IsDamageAmong : List FileRef → Damage → Type 0
IsDamageAmong files d = (file : FileRef) × Contains files file × IsDamageOf file d

-- what was found is the digest of the stored file
abbrev pub IsTrueOf : List ℕ → Files → Damage → Type 0
IsTrueOf work g d = option_map (λ x. x.0) d.found ≡ digest_in (g (stored_at work d.due.0))

-- the damages are as they were, or that of one of these files was added, with what is found in its place now, if the
-- files are told
abbrev pub AddsDamage : List ℕ → List FileRef → Option Files → List Damage → List Damage → Type 0
AddsDamage work files told before after =
    (after ≡ before)
    ⊎ ((d : Damage) × (after ≡ before ++ d ∷ []) × IsDamageAmong files d × IfSome told (λ g. IsTrueOf work g d))

-- a damage was added
abbrev pub HasOneMore : List Damage → List Damage → Type 0
HasOneMore before after = (d : Damage) × (after ≡ before ++ d ∷ [])
