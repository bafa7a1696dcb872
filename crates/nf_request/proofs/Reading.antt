-- What was read stands at the path: of the host, if it tells its files, and else of some.
use Rattle.std.proofs.Common.{◌≡◌, ℕ, ◌+◌, ◌<◌, List, length, replicate, Option, Some, None, IfSome, refl, sym, arith}
use Rattle.std.proofs.lemmas.List.{length-replicate}
use Rattle.nf_host.specs.Files.{Files}
use Rattle.nf_host.specs.Whole.{IsWhole}
use Rattle.nf_host.specs.declared.whole.Whole.TheVariants as whole
use Rattle.nf_request.specs.Held.{IsAt, IsLonger}

absent_file : (file : Option (List ℕ)) (limit : ℕ) → IsWhole file limit whole.Absent → file ≡ None
absent_file None limit h = refl
absent_file (Some bytes) limit h = absurd h

whole_file : (file : Option (List ℕ)) (limit : ℕ) (bytes : List ℕ) → IsWhole file limit (whole.Bytes bytes) → file ≡ Some bytes
whole_file None limit bytes h = absurd (let e : whole.Bytes bytes ≡ whole.Absent = h in cc)
whole_file (Some b) limit bytes h = λ j. Some (sym h.1 j)

long_file : (file : Option (List ℕ)) (limit : ℕ) → IsWhole file limit whole.TooLong → IsLonger limit file
long_file None limit h = absurd (let e : whole.TooLong ≡ whole.Absent = h in cc)
long_file (Some bytes) limit h = h

longer : (n : ℕ) → (bytes : List ℕ) × (n < length bytes)
longer n = (replicate {A = ℕ} (n + 1) 0, omega (arith, length-replicate {A = ℕ} (n + 1) 0))

pub absent_there : (told : Option Files) (path : List ℕ) (limit : ℕ) → IfSome told (λ f. IsWhole (f path) limit whole.Absent) → (held : Option (List ℕ)) × IsAt told path held × (held ≡ None)
absent_there None path limit h = (None, tt, refl)
absent_there (Some f) path limit h = (f path, refl, absent_file (f path) limit h)

pub bytes_there : (told : Option Files) (path : List ℕ) (limit : ℕ) (bytes : List ℕ) → IfSome told (λ f. IsWhole (f path) limit (whole.Bytes bytes)) → (held : Option (List ℕ)) × IsAt told path held × (held ≡ Some bytes)
bytes_there None path limit bytes h = (Some bytes, tt, refl)
bytes_there (Some f) path limit bytes h = (f path, refl, whole_file (f path) limit bytes h)

pub long_there : (told : Option Files) (path : List ℕ) (limit : ℕ) → IfSome told (λ f. IsWhole (f path) limit whole.TooLong) → (held : Option (List ℕ)) × IsAt told path held × IsLonger limit held
long_there None path limit h = let long = longer limit in (Some long.0, tt, long.1)
long_there (Some f) path limit h = (f path, refl, long_file (f path) limit h)

-- nothing need be known of a file
pub some_there : (told : Option Files) (path : List ℕ) → (held : Option (List ℕ)) × IsAt told path held
some_there None path = (None, tt)
some_there (Some f) path = (f path, refl)
