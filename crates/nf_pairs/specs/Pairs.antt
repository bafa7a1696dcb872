-- Pairs that are put into maps, and what a map has for a key.
use Rattle.std.specs.Prelude.{ℕ, List, [], ◌∷◌, Option, Some, None, bytes_eq, if◌then◌else◌}
use Rattle.std.specs.declared.cmp.Ordering.{Ordering}
use Rattle.std.specs.declared.cmp.Ordering.TheVariants.{Less, Equal, Greater}
use Rattle.std.specs.Ordering.{nat_cmp}
use Rattle.std.specs.Cmp.Lexicographic.{slice_cmp}
use Rattle.nf_value.specs.Plain.{Plain}

-- a pair before the first of these, in its place, or after it
abbrev pub put_by : Ordering → List ℕ × Plain → List ℕ × Plain → List (List ℕ × Plain) → List (List ℕ × Plain) → List (List ℕ × Plain)
put_by Less new p ps later = new ∷ p ∷ ps
put_by Equal new p ps later = new ∷ ps
put_by Greater new p ps later = p ∷ later

-- a pair in the order of keys, in place of one with its key
abbrev pub put : List ℕ × Plain → List (List ℕ × Plain) → List (List ℕ × Plain)
put new [] = new ∷ []
put new (p ∷ ps) = put_by (slice_cmp nat_cmp new.0 p.0) new p ps (put new ps)

-- one pair after another, so that of equal keys the last counts
abbrev pub put_all : List (List ℕ × Plain) → List (List ℕ × Plain) → List (List ℕ × Plain)
put_all [] ps = ps
put_all (new ∷ more) ps = put_all more (put new ps)

-- the value for a key, if there is one
abbrev pub value_at : List ℕ → List (List ℕ × Plain) → Option Plain
value_at key [] = None
value_at key (p ∷ ps) = if bytes_eq key p.0 then Some p.1 else value_at key ps

-- the first, if there is one, and else the second
abbrev pub first_of : Option Plain → Option Plain → Option Plain
first_of (Some v) o = Some v
first_of None o = o
