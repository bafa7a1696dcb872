-- Whether an environment binds all that an expression uses.
use Rattle.std.specs.Prelude.{ℕ, Bool, false, List, [], ◌∷◌, ◌++◌, if◌then◌else◌, Option, Some, None}
use Rattle.nf_value.specs.declared.place.Place.{Place}
use Rattle.nf_builtins.specs.Natives.{is_among}
use Rattle.nf_ast.specs.Tree.{Tree}
use Rattle.nf_placed.specs.Scope.{Env, names_in_scope, function_names}
use Rattle.nf_names_used.specs.declared.uses.Use.{Use}
use Rattle.nf_names_used.specs.declared.uses.UseKind.{UseKind}
use Rattle.nf_names_used.specs.declared.uses.UseKind.TheVariants as kind
use Rattle.nf_names_used.specs.Uses.{uses, no_names}

-- an environment binds names with a value, functions of the script and of the program, and built patterns. Assigning to a name of the environment, and
-- defining a name a second time, are never allowed
abbrev pub is_known : Env → UseKind → List ℕ → Bool
is_known env kind.Name n = is_among n (names_in_scope env)
is_known env kind.Assigned n = false
is_known env kind.Again n = false
is_known env kind.Function n = is_among n (function_names env ++ env.titles)
is_known env kind.Pattern s = is_among s env.patterns

-- the place of the first use that the environment doesn't bind
abbrev pub first_unknown : Env → List Use → Option Place
first_unknown env [] = None
first_unknown env (u ∷ us) = if is_known env u.kind u.text then first_unknown env us else Some u.place

-- the same for all uses of an expression, in the order of the text
abbrev pub unbound_in : Env → Tree → Option Place
unbound_in env t = first_unknown env (uses t no_names)
