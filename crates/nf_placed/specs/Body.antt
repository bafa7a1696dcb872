-- What parameters, `def` and statements do to names, and what is read of names, keys and patterns in a tree.
use Rattle.std.specs.Prelude.{◌≡◌, ℕ, ◌==◌, nat_lt, Bool, false, List, [], ◌∷◌, length, map, codes, if◌then◌else◌, Option, Some, None, Result, Ok, Err}
use Rattle.std.specs.Global.{Vec}
use Rattle.std.specs.Str.{bytes_eq}
use Rattle.nf_value.specs.Plain.{Plain, null, truth, int, text, file, list, table}
use Rattle.nf_value.specs.View.{pair_of}
use Rattle.nf_value.specs.declared.value.Value.{Value}
use Rattle.nf_value.specs.declared.fault.EvalRefusal.{EvalRefusal}
use Rattle.nf_value.specs.declared.fault.EvalRefusal.TheVariants as refusal
use Rattle.nf_value.specs.declared.place.Place.{Place}
use Rattle.nf_value.specs.declared.fault.EvalKind.TheVariants.{Arity}
use Rattle.nf_texts.specs.Args.{items_of}
use Rattle.nf_ast.specs.Tree as tree
use Rattle.nf_ast.specs.Tree.{Tree, empty, cons}
use Rattle.nf_placed.specs.Placed.{Placed, fault}
use Rattle.nf_placed.specs.Scope.{Env, defined}

-- after a statement a body goes on, with an environment and the statement's value, or it returned a value
pub data Flow : Type 0 where
  going : Env → Plain → Flow
  returned : Plain → Flow

abbrev pub value_of_body : Flow → Plain
value_of_body (going env v) = v
value_of_body (returned v) = v

abbrev pub name_in : Tree → List ℕ
name_in (tree.name p n) = n
name_in _ = []

-- the text of a key
abbrev pub key_text : Tree → List ℕ
key_text (tree.name p n) = n
key_text (tree.text p k s) = s
key_text (tree.template p k (cons (tree.piece q s) empty)) = s
key_text _ = []

abbrev pub pattern_in : Tree → Option (List ℕ)
pattern_in (tree.pattern p s) = Some s
pattern_in (tree.text p k s) = Some s
pattern_in _ = None

-- `Math`, where it stands before a dot
abbrev pub is_math : Tree → Bool
is_math (tree.name p n) = bytes_eq n (codes "Math")
is_math _ = false

abbrev pub names_in : Tree → List (List ℕ)
names_in (cons a more) = name_in a ∷ names_in more
names_in _ = []

-- each name with the value at its place
abbrev pub paired : List (List ℕ) → List Plain → List (List ℕ × Plain)
paired [] vs = []
paired (n ∷ ns) [] = []
paired (n ∷ ns) (v ∷ vs) = (n, v) ∷ paired ns vs

-- names with the items of a list of as many
abbrev pub split : Place → List (List ℕ) → Plain → Placed (List (List ℕ × Plain))
split p ns (list vs) = if length ns == length (items_of vs) then Ok (paired ns (items_of vs)) else fault Arity p
split p ns null = fault Arity p
split p ns (truth b) = fault Arity p
split p ns (int i) = fault Arity p
split p ns (text t) = fault Arity p
split p ns (file n d l) = fault Arity p
split p ns (table ps) = fault Arity p

-- several parameters take one list of as many items apart
abbrev pub spread : Place → List (List ℕ) → List Plain → Placed (List (List ℕ × Plain))
spread p ns [] = fault Arity p
spread p ns (v ∷ []) = if nat_lt 1 (length ns) then split p ns v else fault Arity p
spread p ns (v ∷ w ∷ more) = fault Arity p

abbrev pub named : Place → List (List ℕ) → List Plain → Placed (List (List ℕ × Plain))
named p ns vs = if length ns == length vs then Ok (paired ns vs) else spread p ns vs

-- a closure without an arrow has one parameter, `it`
abbrev pub one_named : Place → List Plain → Placed (List (List ℕ × Plain))
one_named p [] = fault Arity p
one_named p (v ∷ []) = Ok ((codes "it", v) ∷ [])
one_named p (v ∷ w ∷ more) = fault Arity p

abbrev pub bound : Place → Tree → List Plain → Placed (List (List ℕ × Plain))
bound p (tree.params ns) vs = named p (names_in ns) vs
bound p _ vs = one_named p vs

abbrev pub with_all : List (List ℕ × Plain) → Env → Env
with_all [] env = env
with_all (b ∷ bs) env = with_all bs (defined b.0 b.1 env)

-- the call gives these names with their values, or has this fault; want of memory is free
abbrev pub Binds : Placed (List (List ℕ × Plain)) → Result (Vec (List ℕ × Value)) EvalRefusal → Type 0
Binds o (Ok bs) = o ≡ Ok (map pair_of bs.items)
Binds o (Err (refusal.Fault e)) = o ≡ Err e
Binds o (Err refusal.Mem) = Unit {0}
