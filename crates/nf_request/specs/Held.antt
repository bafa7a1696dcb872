-- What stands at a path of a host, whose files it may not tell.
use Rattle.std.specs.Prelude.{◌≡◌, ◌<◌, ℕ, List, length, Option, Some, None, IfSome}
use Rattle.nf_host.specs.Files.{Files}
use Rattle.nf_ends.specs.declared.end.End.{End}
use Rattle.nf_ends.specs.declared.end.End.TheVariants as end

-- the host's file at a path, if it tells its files, and else some
abbrev pub IsAt : Option Files → List ℕ → Option (List ℕ) → Type 0
IsAt told path held = IfSome told (λ f. held ≡ f path)

-- the same, if there is a path
abbrev pub IsAtPath : Option Files → Option (List ℕ) → Option (List ℕ) → Type 0
IsAtPath told path held = IfSome path (λ p. IsAt told p held)

-- a file that has more than so many bytes
abbrev pub IsLonger : ℕ → Option (List ℕ) → Type 0
IsLonger limit None = ⊥
IsLonger limit (Some bytes) = limit < length bytes

-- P, if the end is that the host failed
abbrev pub OnHostFault : End → Type 0 → Type 0
OnHostFault end.HostFault P = P
OnHostFault _ P = Unit {0}
