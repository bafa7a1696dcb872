-- The paths of calls, which tell the calls of a script apart.
use Rattle.std.specs.Prelude.{◌≡◌, ◌≤◌, ℕ, ◌==◌, Bool, true, false, not, ◌&&◌, List, [], ◌∷◌, ◌++◌, bytes_eq, codes, count_by}
use Rattle.std.specs.List.{list_all}
use Rattle.nf_names_used.specs.Natives.{is_among}
use Rattle.nf_graph.specs.Meaning.{same_inputs}
use Rattle.nf_meaning.specs.Given.{Definitions}
use Rattle.nf_meaning.specs.Meaning.{Instance}

-- a colon joins names to a path, so no name has one; no name that a text can spell does
abbrev pub is_plain_name : List ℕ → Bool
is_plain_name n = list_all (λ b. not (b == 58)) n

pub record NamesArePlain (d : Definitions) : Type 0 where
  pub processes : list_all (λ b. is_plain_name b.0) d.processes ≡ true
  pub workflows : list_all (λ b. is_plain_name b.0) d.workflows ≡ true

-- each task is of a call of one of these paths
abbrev pub MadeBy : List (List ℕ) → List Instance → Type 0
MadeBy paths [] = Unit {0}
MadeBy paths (z ∷ zs) = (is_among z.call paths ≡ true) × MadeBy paths zs

-- the same call, inputs and number
abbrev pub is_same_task : Instance → Instance → Bool
is_same_task a b = bytes_eq a.call b.call && (same_inputs a.inputs b.inputs && (a.n == b.n))

-- no task stands twice
abbrev pub EachOnce : List Instance → Type 0
EachOnce zs = (z : Instance) → count_by (is_same_task z) zs ≤ 1

-- ---- the paths so far, while a body is gone through

-- what comes after the name of a call in a path: nothing, or a colon first
abbrev pub EndsName : List ℕ → Type 0
EndsName [] = Unit {0}
EndsName (c ∷ cs) = c ≡ 58

-- a path that belongs to a call in the body of this path, of a name that wasn't called before, but is after
pub record Belongs (body : List ℕ) (before after : List (List ℕ)) (path : List ℕ) : Type 0 where
  pub name : List ℕ
  pub rest : List ℕ
  pub is : path ≡ body ++ (name ++ rest)
  pub plain : is_plain_name name ≡ true
  pub ends : EndsName rest
  pub new : is_among name before ≡ false
  pub now : is_among name after ≡ true

abbrev pub AllBelong : List ℕ → List (List ℕ) → List (List ℕ) → List (List ℕ) → Type 0
AllBelong body before after [] = Unit {0}
AllBelong body before after (p ∷ ps) = Belongs body before after p × AllBelong body before after ps

-- each name of the first list is in the second
abbrev pub Within : List (List ℕ) → List (List ℕ) → Type 0
Within ns ms = (n : List ℕ) → is_among n ns ≡ true → is_among n ms ≡ true

-- what is known of a body's calls: the path of the body, the names that are called in it, and the paths of the script's calls so far
pub record BodyCalls : Type 0 where
  pub path : List ℕ
  pub called : List (List ℕ)
  pub paths : List (List ℕ)

-- from one point of a body to a later one: each path that came belongs to a call of a name that wasn't called before
pub record GoesOn (s t : BodyCalls) : Type 0 where
  pub path : t.path ≡ s.path
  pub called : Within s.called t.called
  pub added : List (List ℕ)
  pub paths : t.paths ≡ s.paths ++ added
  pub belong : AllBelong s.path s.called t.called added

-- each path so far that belongs to a call in this body is of a name that is called in it
pub record PathsAreCalled (s : BodyCalls) : Type 0 where
  pub called : (p n rest : List ℕ) → is_among p s.paths ≡ true → is_plain_name n ≡ true → EndsName rest
      → p ≡ s.path ++ (n ++ rest) → is_among n s.called ≡ true

-- no path so far belongs to a call of this name in the body
pub record HasNoPath (s : BodyCalls) (n : List ℕ) : Type 0 where
  pub none : (p rest : List ℕ) → is_among p s.paths ≡ true → EndsName rest → p ≡ s.path ++ (n ++ rest) → ⊥

-- in the body of the workflow of this name that is called in the body
abbrev pub inside : List ℕ → BodyCalls → BodyCalls
inside n s = record { path = s.path ++ n ++ codes ":"; called = []; paths = s.paths }
