-- What copying published files changes, and why it fails.
use Rattle.std.specs.Prelude.{◌≡◌, ℕ, List, Bool, false, bytes_eq, option_map, IfSome, Result, Ok, Err, Some}
use Rattle.std.specs.declared.option.Option.{Option}
use Rattle.std.specs.List.{list_any}
use Rattle.nf_value.specs.declared.file.Digest.{Digest}
use Rattle.nf_host.specs.Files.{Files}
use Rattle.nf_host.specs.declared.host.HostRefusal.TheVariants as host
use Rattle.nf_tasks.specs.declared.target_list.Target.{Target}
use Rattle.nf_publish.specs.declared.fault.CopyRefusal.{CopyRefusal}
use Rattle.nf_publish.specs.declared.fault.CopyRefusal.TheVariants.{Host, Damaged}
use Rattle.nf_shell.specs.Damages.{digest_in}
use Rattle.nf_shell.specs.Folder.{HasDigest}
use Rattle.nf_shell.specs.Places.{stored_at}
use Rattle.nf_publish.specs.Targets.{HaveOneContent, IsPublished}

-- whether a file is published at this path
abbrev pub is_target : List Target → List ℕ → Bool
is_target ts path = list_any (λ t. bytes_eq t.name path) ts

-- all files that are no targets are as they were
abbrev pub KeepsRest : List Target → Files → Files → Type 0
KeepsRest ts f g = (path : List ℕ) → is_target ts path ≡ false → g path ≡ f path

-- each target holds the bytes that are published there, if no target has two contents
abbrev pub AreCopied : List Target → Files → Type 0
AreCopied ts g = HaveOneContent ts → (path digest : List ℕ) → IsPublished ts path digest → HasDigest (g path) digest

-- P, if the host failed
abbrev pub OnHostFailed : {T : Type 0} → Result T CopyRefusal → Type 0 → Type 0
OnHostFailed (Ok x) P = Unit {0}
OnHostFailed (Err (Host host.Failed)) P = P
OnHostFailed (Err (Host host.Mem)) P = Unit {0}
OnHostFailed (Err (Damaged due found)) P = Unit {0}

-- the stored file of a digest doesn't have it: what was found is another digest, and it is that of the file as it
-- stands now, if the files are told
pub record IsDamage (work : List ℕ) (now : Option Files) (due : Digest) (found : Option Digest) : Type 0 where
  pub other : found ≡ Some due → ⊥
  pub stands : IfSome now (λ g. option_map (λ d. d.0) found ≡ digest_in (g (stored_at work due.0)))

-- a damage is that of a file that is published
abbrev pub IsTrueOf : List ℕ → List Target → Option Files → CopyRefusal → Type 0
IsTrueOf work ts now (Host e) = Unit {0}
IsTrueOf work ts now (Damaged due found) = ((path : List ℕ) × IsPublished ts path due.0) × IsDamage work now due found
