-- Environments of a few names, which have there the values that they have in a larger one.
use Rattle.std.specs.Prelude.{◌≡◌, ℕ, true, List, [], ◌∷◌, ◌++◌, map}
use Rattle.nf_value.specs.Plain.{Plain}
use Rattle.nf_builtins.specs.Natives.{is_among}
use Rattle.nf_placed.specs.Scope.{Env, value_in}

abbrev pub keys : List (List ℕ × Plain) → List (List ℕ)
keys bs = map (λ b. b.0) bs

-- each name has the value that it has among all
abbrev pub Keeps : List (List ℕ × Plain) → List (List ℕ × Plain) → Type 0
Keeps all [] = Unit {0}
Keeps all (b ∷ bs) = (value_in b.0 all ≡ b.1) × Keeps all bs

-- the environment keeps these names of the other, and has all else as that one has it
pub record KeepsNames (ns : List (List ℕ)) (one all : Env) : Type 0 where
  pub keeps : Keeps all.captured one.captured
  pub has : (n : List ℕ) → is_among n ns ≡ true → is_among n (keys one.captured) ≡ true
  pub names : one.names ≡ all.names
  pub functions : one.functions ≡ all.functions
  pub patterns : one.patterns ≡ all.patterns
  pub titles : one.titles ≡ all.titles
  pub answer : one.answer ≡ all.answer
  pub in_process : one.in_process ≡ all.in_process

-- the new environment keeps what the old one keeps, and this name
abbrev pub KeepsAlso : List ℕ → Env → Env → Env → Type 0
KeepsAlso n old new all = (ns : List (List ℕ)) → KeepsNames ns old all → KeepsNames (ns ++ n ∷ []) new all
