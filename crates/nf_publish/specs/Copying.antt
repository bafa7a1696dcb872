-- The copy of one target.
use Rattle.std.specs.Prelude.{◌≡◌, ℕ, List, true, Result, Ok, Err, Some}
use Rattle.std.specs.declared.option.Option.{Option}
use Rattle.nf_value.specs.declared.file.Digest.{Digest}
use Rattle.nf_host.specs.Files.{Files}
use Rattle.nf_host.specs.declared.copies.Digested.{Digested}
use Rattle.nf_tasks.specs.declared.target_list.Target.{Target}
use Rattle.nf_publish.specs.declared.fault.CopyRefusal.{CopyRefusal}
use Rattle.nf_publish.specs.declared.fault.CopyRefusal.TheVariants.{Host, Damaged}
use Rattle.nf_publish.specs.Copies.{IsDamage}
use Rattle.nf_shell.specs.Damages.{found_digest, has_digest}

-- a whole file with the digest that is due was found, or what was found is told, and is another
abbrev pub Checks : Digested → Digest → Result (Unit {0}) CopyRefusal → Type 0
Checks found due (Ok x) = has_digest found due.0 ≡ true
Checks found due (Err (Host e)) = ⊥
Checks found due (Err (Damaged d f)) = (d ≡ due) × (f ≡ found_digest found) × (f ≡ Some due → ⊥)

-- a damage is that of this target's content
abbrev pub IsOneDamage : List ℕ → Target → Option Files → CopyRefusal → Type 0
IsOneDamage work t now (Host e) = Unit {0}
IsOneDamage work t now (Damaged due found) = (due ≡ t.digest) × IsDamage work now due found
