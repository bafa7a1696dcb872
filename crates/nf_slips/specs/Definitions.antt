-- What a script defines.
use Rattle.std.specs.Prelude.{ℕ, suc, zero, List, [], ◌∷◌, codes, Option, Some, None, if◌then◌else◌}
use Rattle.std.specs.Str.{bytes_eq}
use Rattle.nf_ast.specs.Tree as tree
use Rattle.nf_ast.specs.Tree.{Tree, empty, cons}
use Rattle.nf_placed.specs.Body.{name_in, names_in}
use Rattle.nf_slips.specs.Forms.{form_of, name_of}

-- what a name is defined as
pub data Definition : Type 0 where
  nothing : Definition
  -- a process, with its outputs: for each the name that it is emitted under, if it has one
  process : List (Option (List ℕ)) → Definition
  workflow : Tree → Definition
  function : Definition

-- the name that `emit:` gives an output, after the options before it
abbrev pub emitted_with : Option (List ℕ) → Tree → Option (List ℕ)
emitted_with before (tree.label n e) = if bytes_eq (name_in n) (codes "emit") then name_of (form_of e) else before
emitted_with before t = before

-- the last `emit:` counts
abbrev pub emitted_after : Option (List ℕ) → Tree → Option (List ℕ)
emitted_after before (cons o more) = emitted_after (emitted_with before o) more
emitted_after before t = before

abbrev pub emitted_as : Tree → Option (List ℕ)
emitted_as os = emitted_after None os

abbrev pub options_in : Tree → Tree
options_in (tree.output v os) = os
options_in t = empty

abbrev pub output_names : Tree → List (Option (List ℕ))
output_names (cons o more) = emitted_as (options_in o) ∷ output_names more
output_names t = []

abbrev pub names_of_outputs : Tree → List (Option (List ℕ))
names_of_outputs (tree.section p outs) = output_names outs
names_of_outputs t = []

-- what a definition is of a name: nothing, if it has another
abbrev pub defined_as : List ℕ → Tree → Definition
defined_as n (tree.process p m ds is os t s) = if bytes_eq (name_in m) n then process (names_of_outputs os) else nothing
defined_as n (tree.workflow p (tree.name q m) b) = if bytes_eq m n then workflow b else nothing
defined_as n (tree.function p m ps b) = if bytes_eq (name_in m) n then function else nothing
defined_as n t = nothing

abbrev pub or_later : Definition → Definition → Definition
or_later nothing d = d
or_later (process ns) d = process ns
or_later (workflow b) d = workflow b
or_later function d = function

-- the first definition of a name
abbrev pub definition_in : List ℕ → Tree → Definition
definition_in n (cons t more) = or_later (defined_as n t) (definition_in n more)
definition_in n t = nothing

-- how many definitions there are
abbrev pub count_of : Tree → ℕ
count_of (cons t more) = suc (count_of more)
count_of t = zero

abbrev pub entry_at : Tree → Option Tree
entry_at (tree.workflow p empty b) = Some b
entry_at t = None

abbrev pub or_next : Option Tree → Option Tree → Option Tree
or_next None o = o
or_next (Some b) o = Some b

-- the first workflow without a name
abbrev pub entry_in : Tree → Option Tree
entry_in (cons t more) = or_next (entry_at t) (entry_in more)
entry_in t = None

-- ---- parts of a workflow

abbrev pub statements_in : Tree → Tree
statements_in (tree.section p xs) = xs
statements_in t = t

abbrev pub main_of : Tree → Tree
main_of (tree.parts take main emit) = statements_in main
main_of t = t

abbrev pub taken_in : Tree → List (List ℕ)
taken_in (tree.section p ns) = names_in ns
taken_in t = []

abbrev pub taken_by : Tree → List (List ℕ)
taken_by (tree.parts take main emit) = taken_in take
taken_by t = []

abbrev pub emits_in : Tree → Tree
emits_in (tree.section p es) = es
emits_in t = empty

abbrev pub emits_of : Tree → Tree
emits_of (tree.parts take main emit) = emits_in emit
emits_of t = empty
