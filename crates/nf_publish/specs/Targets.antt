-- What is published at which path, and targets that have two contents.
use Rattle.std.specs.Prelude.{◌≡◌, ◌⊎◌, ℕ, List, Bool, IsTrue, ◌&&◌, bytes_eq}
use Rattle.std.specs.List.{list_any}
use Rattle.std.specs.Ordering.{nat_cmp}
use Rattle.std.specs.Cmp.Lexicographic.{slice_cmp}
use Rattle.std.specs.declared.cmp.Ordering.TheVariants.{Less}
use Rattle.nf_tasks.specs.declared.target_list.Target.{Target}
use Rattle.nf_publish.specs.declared.fault.Clash.{Clash}

-- whether the file with this digest is published at this path
abbrev pub is_published : List Target → List ℕ → List ℕ → Bool
is_published ts path digest = list_any (λ t. bytes_eq t.name path && bytes_eq t.digest.0 digest) ts

abbrev pub IsPublished : List Target → List ℕ → List ℕ → Type 0
IsPublished ts path digest = IsTrue (is_published ts path digest)

-- no target has two contents
abbrev pub HaveOneContent : List Target → Type 0
HaveOneContent ts = (path d e : List ℕ) → IsPublished ts path d → IsPublished ts path e → d ≡ e

-- a comes before b in the order of bytes
abbrev pub IsBefore : List ℕ → List ℕ → Type 0
IsBefore a b = slice_cmp nat_cmp a b ≡ Less

-- the first target in the order of bytes that has two contents, with the two least of its digests
pub record IsFirstClash (ts : List Target) (c : Clash) : Type 0 where
  pub first : IsPublished ts c.target c.first.0
  pub second : IsPublished ts c.target c.second.0
  pub apart : IsBefore c.first.0 c.second.0
  pub least : (d : List ℕ) → IsPublished ts c.target d → (d ≡ c.first.0) ⊎ ((d ≡ c.second.0) ⊎ IsBefore c.second.0 d)
  pub earliest : (path d e : List ℕ) → IsPublished ts path d → IsPublished ts path e → IsBefore path c.target → d ≡ e
