-- What an expression uses of its environment, in the order of the text.
use Rattle.std.specs.Prelude.{ℕ, Bool, true, false, ◌||◌, List, [], ◌∷◌, ◌++◌, codes, if◌then◌else◌}
use Rattle.nf_value.specs.declared.place.Place.{Place}
use Rattle.nf_placed.specs.Natives.{is_among}
use Rattle.nf_ast.specs.declared.operators.InfixOperator.{InfixOperator}
use Rattle.nf_ast.specs.declared.operators.InfixOperator.TheVariants as infix_operator
use Rattle.nf_ast.specs.Tree as tree
use Rattle.nf_ast.specs.Tree.{Tree, empty, cons, place_of}
use Rattle.nf_placed.specs.Body.{name_in, names_in, is_math}
use Rattle.nf_names_used.specs.declared.uses.Use.{Use}
use Rattle.nf_names_used.specs.declared.uses.UseKind.{UseKind}
use Rattle.nf_names_used.specs.declared.uses.UseKind.TheVariants as kind

-- ---- names

-- the names of a body, in the order in which they were defined, and those around it
pub record Names : Type 0 where
  pub captured : List (List ℕ)
  pub own : List (List ℕ)
  -- those that a `def` between the present braces defined
  pub body : List (List ℕ)

abbrev pub no_names : Names
no_names = record { captured = []; own = []; body = [] }

abbrev pub is_seen : List ℕ → Names → Bool
is_seen n names = is_among n names.captured || is_among n names.own

abbrev pub defined : List (List ℕ) → Names → Names
defined ns names = record { captured = names.captured; own = names.own ++ ns; body = names.body ++ ns }

-- the names at the start of statements that have braces of their own
abbrev pub begun : Names → Names
begun names = record { captured = names.captured; own = names.own; body = [] }

-- the names at the start of a closure: it captures all that are seen, and its parameters are its own, though no `def` defined them
abbrev pub entered : List (List ℕ) → Names → Names
entered params names = record { captured = names.captured ++ names.own; own = params; body = [] }

-- the names that a statement adds
abbrev pub defined_by : Tree → List (List ℕ)
defined_by (tree.define p n e) = name_in n ∷ []
defined_by (tree.define_all p ns e) = names_in ns
defined_by _ = []

abbrev pub params_of : Tree → List (List ℕ)
params_of (tree.params ns) = names_in ns
params_of _ = codes "it" ∷ []

-- ---- uses

abbrev pub used : UseKind → Place → List ℕ → Use
used k p n = record { kind = k; place = p; text = n }

-- a name that is read and isn't seen
abbrev pub name_uses : Place → List ℕ → Names → List Use
name_uses p n names = if is_seen n names then [] else used kind.Name p n ∷ []

-- a name that gets another value and isn't the body's own: an assignment reaches no other
abbrev pub assigned_uses : Tree → Names → List Use
assigned_uses n names = if is_among (name_in n) names.own then [] else used kind.Assigned (place_of n) (name_in n) ∷ []

-- a name that is defined a second time
abbrev pub again_use : List (List ℕ) → Tree → List Use
again_use known n = if is_among (name_in n) known then used kind.Again (place_of n) (name_in n) ∷ [] else []

-- names of one list that are known, or have the name of one before them
abbrev pub again_uses : List (List ℕ) → Tree → List Use
again_uses known (cons n more) = again_use known n ++ again_uses (known ++ name_in n ∷ []) more
again_uses known _ = []

-- parameters that have the name of one before them
abbrev pub params_uses : Tree → List Use
params_uses (tree.params ns) = again_uses [] ns
params_uses _ = []

abbrev pub is_name : Tree → Bool
is_name (tree.name p n) = true
is_name _ = false

-- a name directly before brackets or a closure is that of a function
abbrev pub callee_uses : Tree → List Use → List Use
callee_uses (tree.name p n) us = used kind.Function p n ∷ []
callee_uses _ us = us

-- `Math` before a dot is no name
abbrev pub object_uses : Tree → List Use → List Use
object_uses e us = if is_math e then [] else us

abbrev pub text_uses : Tree → List Use
text_uses (tree.text p k s) = used kind.Pattern p s ∷ []
text_uses _ = []

-- a plain string that is matched against is a pattern
abbrev pub pattern_uses : InfixOperator → Tree → List Use
pattern_uses infix_operator.Matches b = text_uses b
pattern_uses _ b = []

abbrev pub uses : Tree → Names → List Use
uses empty names = []
uses (cons a more) names = uses a names ++ uses more (defined (defined_by a) names)
uses (tree.name p n) names = name_uses p n names
uses (tree.pattern p s) names = used kind.Pattern p s ∷ []
uses (tree.template p k xs) names = uses xs names
uses (tree.hole p e) names = uses e names
uses (tree.list p xs) names = uses xs names
uses (tree.map p xs) names = uses xs names
uses (tree.pair k e) names = uses e names
uses (tree.closure p ps b) names = params_uses ps ++ uses b (entered (params_of ps) names)
uses (tree.label n e) names = uses e names
uses (tree.prefix p k e) names = uses e names
uses (tree.binary p k a b) names = uses a names ++ (pattern_uses k b ++ uses b names)
uses (tree.conditional p c a b) names = uses c names ++ (uses a names ++ uses b names)
uses (tree.elvis p a b) names = uses a names ++ uses b names
uses (tree.property e n) names = object_uses e (uses e names)
uses (tree.safe_property e n) names = uses e names
uses (tree.index p e i) names = uses e names ++ uses i names
uses (tree.call p f xs) names = callee_uses f (uses f names) ++ uses xs names
uses (tree.named n e) names = uses e names
uses (tree.call_with f c) names = callee_uses f (uses f names) ++ uses c names
uses (tree.define p n e) names = again_use names.body n ++ uses e names
uses (tree.define_all p ns e) names = again_uses names.body ns ++ uses e names
uses (tree.assign n e) names = assigned_uses n names ++ uses e names
uses (tree.return_ p e) names = uses e names
uses (tree.choice p c b last) names = uses c names ++ (uses b names ++ uses last names)
uses (tree.statements b) names = uses b (begun names)
uses (tree.println p e) names = uses e names
uses (tree.log p n e) names = uses e names
uses _ names = []
