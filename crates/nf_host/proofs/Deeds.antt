-- Looking for a script's child from the front.
use Rattle.std.proofs.Common.{◌≡◌, ℕ, ◌+◌, ◌<◌, ◌≤◌, List, length, get_or, drop, true, false, None, Some, add-one}
use Rattle.std.proofs.Math.Seq.{drop-cons}
use Rattle.std.proofs.lemmas.List.{drop_all}
use Rattle.std.specs.Str.{bytes_eq}
use Rattle.nf_value.specs.declared.file.Digest.{Digest}
use Rattle.nf_host.specs.Children.{Deeds, child_of}
use Rattle.nf_host.specs.declared.children.Child.{Child}

pub at_deed : (w : Deeds) (i : ℕ) (e : Digest × Child) (d : List ℕ) → i < length w → e ≡ get_or w i e → bytes_eq e.0.0 d ≡ true → child_of (drop i w) d ≡ Some e.1
at_deed w i e d h is same = rw (drop-cons w i e, ← is, same)

pub past_deed : (w : Deeds) (i : ℕ) (e : Digest × Child) (d : List ℕ) → i < length w → e ≡ get_or w i e → bytes_eq e.0.0 d ≡ false → child_of (drop i w) d ≡ child_of (drop (i + 1) w) d
past_deed w i e d h is same = rw (drop-cons w i e, ← is, same, add-one)

pub no_deed : (w : Deeds) (i : ℕ) (d : List ℕ) → length w ≤ i → child_of (drop i w) d ≡ None
no_deed w i d h = rw drop_all
