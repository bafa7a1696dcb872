-- What the names of a workflow's body stand for.
use Rattle.std.specs.Prelude.{ℕ, ◌-◌, Bool, true, false, not, ◌&&◌, ◌||◌, List, [], ◌∷◌, ◌++◌, length, drop, codes, Option, Some, None, if◌then◌else◌}
use Rattle.std.specs.List.{list_any}
use Rattle.std.specs.Str.{bytes_eq}
use Rattle.nf_kinds.specs.declared.kinds.Kinds.{Kinds}
use Rattle.nf_kinds.specs.Kinds.{Shaped, alone, merged, unknown_kind, plain_unless}

abbrev pub Bindings : Type 0
Bindings = List (List ℕ × Shaped)

-- the latest of a name stands first
abbrev pub shape_in : List ℕ → Bindings → Option Shaped
shape_in n [] = None
shape_in n (b ∷ bs) = if bytes_eq b.0 n then Some b.1 else shape_in n bs

abbrev pub shape_or_unknown : Option Shaped → Shaped
shape_or_unknown (Some s) = s
shape_or_unknown None = alone unknown_kind

abbrev pub is_bound : List ℕ → Bindings → Bool
is_bound n [] = false
is_bound n (b ∷ bs) = if bytes_eq b.0 n then true else is_bound n bs

-- the latest of a name stands for something else
abbrev pub rebound : List ℕ → Shaped → Bindings → Bindings
rebound n s [] = []
rebound n s (b ∷ bs) = if bytes_eq b.0 n then (b.0, s) ∷ bs else b ∷ rebound n s bs

-- names after both arms, where both have the same names in the same order
abbrev pub aligned : Bindings → Bindings → Bindings
aligned [] bs = []
aligned (a ∷ xs) [] = []
aligned (a ∷ xs) (b ∷ bs) = (a.0, merged a.1 b.1) ∷ aligned xs bs

-- names after both arms, where each may have names that the other hasn't
abbrev pub both_names : Bindings → Bindings → Bindings
both_names [] bs = []
both_names (a ∷ xs) bs = (a.0, merged a.1 (shape_or_unknown (shape_in a.0 bs))) ∷ both_names xs bs

abbrev pub missing_names : Bindings → Bindings → Bindings
missing_names xs [] = []
missing_names xs (b ∷ bs) = if is_bound b.0 xs then missing_names xs bs else b ∷ missing_names xs bs

abbrev pub merged_names : Bindings → Bindings → Bindings
merged_names xs bs = both_names xs bs ++ missing_names xs bs

-- the names of the first that the second hasn't
abbrev pub names_only : Bindings → Bindings → List (List ℕ)
names_only [] bs = []
names_only (a ∷ xs) bs = if is_bound a.0 bs then names_only xs bs else a.0 ∷ names_only xs bs

-- ---- names of a list

abbrev pub is_named : List ℕ → List (List ℕ) → Bool
is_named n ns = list_any (λ m. bytes_eq m n) ns

-- those of the first that the second hasn't
abbrev pub others : List (List ℕ) → List (List ℕ) → List (List ℕ)
others [] ns = []
others (m ∷ ms) ns = if is_named m ns then others ms ns else m ∷ others ms ns

abbrev pub without : List ℕ → List (List ℕ) → List (List ℕ)
without n [] = []
without n (m ∷ ns) = if bytes_eq m n then without n ns else m ∷ without n ns

-- ---- a body

pub record Scope : Type 0 where
  -- names that `def` defined between the present braces and those around them, the latest first
  pub locals : Bindings
  -- names of the workflow's scope: those that it takes, and those that were assigned
  pub names : Bindings
  -- those of them that one arm of an `if` alone bound: after the other arm nothing may bind them
  pub half_bound : List (List ℕ)
  -- the processes and workflows that were called, with their outputs
  pub calls : Bindings

abbrev pub started : Bindings → Scope
started names = record { locals = []; names = names; half_bound = []; calls = [] }

abbrev pub defined : List ℕ → Shaped → Scope → Scope
defined n k s = record s { locals = (n, k) ∷ s.locals }

-- several names that take one list apart
abbrev pub all_defined : List (List ℕ) → Shaped → Scope → Scope
all_defined [] k s = s
all_defined (n ∷ ns) k s = all_defined ns k (defined n k s)

abbrev pub assigned : List ℕ → Shaped → Scope → Scope
assigned n k s =
    if is_bound n s.locals then record s { locals = rebound n k s.locals }
    else record s { names = (n, k) ∷ s.names; half_bound = without n s.half_bound }

abbrev pub call_made : List ℕ → Shaped → Scope → Scope
call_made n k s = record s { calls = (n, k) ∷ s.calls }

-- the latest so many of the local names are gone
abbrev pub without_latest : ℕ → Scope → Scope
without_latest k s = record s { locals = drop k s.locals }

-- after braces the names that they defined are gone
abbrev pub left_by : Scope → Scope → Scope
left_by outer inner = without_latest (length inner.locals - length outer.locals) inner

-- after both arms
abbrev pub after_both : Scope → Scope → Scope
after_both a b = record {
  locals = aligned a.locals b.locals;
  names = merged_names a.names b.names;
  half_bound =
      a.half_bound ++ others b.half_bound a.half_bound ++ names_only a.names b.names ++ names_only b.names a.names;
  calls = merged_names a.calls b.calls;
}

-- ---- names

-- names that stand for plain values in every workflow
abbrev pub is_given : List ℕ → Bool
is_given n =
    bytes_eq n (codes "params") || (bytes_eq n (codes "projectDir")
    || (bytes_eq n (codes "baseDir") || bytes_eq n (codes "launchDir")))

abbrev pub given_kind : List ℕ → Kinds
given_kind n = plain_unless (not (is_given n))

abbrev pub or_later : Option Shaped → Option Shaped → Option Shaped
or_later None o = o
or_later (Some s) o = Some s

-- what a name stands for that is bound in the body
abbrev pub bound_in : List ℕ → Scope → Option Shaped
bound_in n s = or_later (shape_in n s.locals) (shape_in n s.names)

-- it stands for that after one arm alone
abbrev pub is_half_bound : List ℕ → Scope → Bool
is_half_bound n s = not (is_bound n s.locals) && is_named n s.half_bound

-- what is bound, or what nothing binds
abbrev pub bound_or : Bool → Shaped → Shaped → Shaped
bound_or true v free = merged v free
bound_or false v free = v

abbrev pub or_given : Bool → Option Shaped → List ℕ → Shaped
or_given half (Some s) n = bound_or half s (alone (given_kind n))
or_given half None n = alone (given_kind n)

-- what a name stands for
abbrev pub read_name : List ℕ → Scope → Shaped
read_name n s = or_given (is_half_bound n s) (bound_in n s) n
