-- What a closure uses of the names around it.
use Rattle.std.specs.Prelude.{ℕ, Bool, true, false, List, [], ◌∷◌, if◌then◌else◌}
use Rattle.nf_builtins.specs.Natives.{is_among}
use Rattle.nf_names_used.specs.declared.uses.Use.{Use}
use Rattle.nf_names_used.specs.declared.uses.UseKind.{UseKind}
use Rattle.nf_names_used.specs.declared.uses.UseKind.TheVariants as kind
use Rattle.nf_kinds.specs.declared.kinds.Kinds.{Kinds}
use Rattle.nf_kinds.specs.declared.fault.OrderRule.TheVariants as rule
use Rattle.nf_kinds.specs.declared.fault.Broken.{Broken}
use Rattle.nf_kinds.specs.Fault.{breaks}
use Rattle.nf_kinds.specs.Kinds.{plain_unless}
use Rattle.nf_kinds.specs.Scope.{Scope, read_name}

abbrev pub is_assigned : UseKind → Bool
is_assigned kind.Assigned = true
is_assigned k = false

-- an assignment to a name that isn't the closure's own
abbrev pub shared_by : List Use → List Broken
shared_by [] = []
shared_by (u ∷ us) = if is_assigned u.kind then breaks rule.SharedState u.place ∷ shared_by us else shared_by us

-- A name that is read and unknown, or one that is called as a function: fs are the names that a table has and the
-- script doesn't define.
abbrev pub is_unknown_as : UseKind → List (List ℕ) → List ℕ → Scope → Bool
is_unknown_as kind.Name fs n s = (read_name n s).kinds.unknown
is_unknown_as kind.Function fs n s = is_among n fs
is_unknown_as k fs n s = false

abbrev pub has_unknown : List (List ℕ) → List Use → Scope → Bool
has_unknown fs [] s = false
has_unknown fs (u ∷ us) s = if is_unknown_as u.kind fs u.text s then true else has_unknown fs us s

-- a closure is a plain value, and unknown where it uses an unknown name
abbrev pub closure_kind : List (List ℕ) → List Use → Scope → Kinds
closure_kind fs us s = plain_unless (has_unknown fs us s)

-- then it breaks no rule, and else by each assignment to a name that isn't its own
abbrev pub closure_broken : List (List ℕ) → List Use → Scope → List Broken
closure_broken fs us s = if has_unknown fs us s then [] else shared_by us
