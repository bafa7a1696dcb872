-- Expressions of which little is asked: names, numbers, closures, and what the closure of `reduce` may be.
use Rattle.std.specs.Prelude.{ℤ, ℕ, Bool, true, false, ◌&&◌, ◌||◌, not, List, [], ◌∷◌, codes, Option, Some, None, if◌then◌else◌}
use Rattle.std.specs.Str.{bytes_eq}
use Rattle.nf_value.specs.declared.place.Place.{Place}
use Rattle.nf_ast.specs.declared.operators.InfixOperator.{InfixOperator}
use Rattle.nf_ast.specs.declared.operators.InfixOperator.TheVariants as infix_operator
use Rattle.nf_ast.specs.Tree as tree
use Rattle.nf_ast.specs.Tree.{Tree, empty, cons}
use Rattle.nf_placed.specs.Body.{name_in, names_in}
use Rattle.nf_kinds.specs.Facts.{Facts}

pub data FormTree : Type 0 where
  name : Place → List ℕ → FormTree
  number : ℤ → FormTree
  closure : Tree → FormTree
  -- `Math.min` or `Math.max`
  extreme : FormTree
  -- a sum, or the least or greatest, or whether all or any are true, of two names
  total : List ℕ → List ℕ → FormTree
  -- a label and its colon
  label : List ℕ → FormTree
  -- parts in a row: the first, and those after it
  row : FormTree → FormTree → FormTree
  -- anything else, and no part
  other : FormTree

abbrev pub adds_up : InfixOperator → Bool
adds_up infix_operator.Plus = true
adds_up infix_operator.And = true
adds_up infix_operator.Or = true
adds_up k = false

abbrev pub of_two : Bool → FormTree → FormTree → FormTree
of_two b (name p m) (name q n) = if b then total m n else other
of_two b x y = other

abbrev pub is_extreme : List ℕ → Bool
is_extreme n = bytes_eq n (codes "min") || bytes_eq n (codes "max")

abbrev pub member_form : FormTree → List ℕ → FormTree
member_form (name p m) n = if bytes_eq m (codes "Math") && is_extreme n then extreme else other
member_form x n = other

-- two names
abbrev pub pair_form : FormTree → FormTree
pair_form (row x (row y other)) = of_two true x y
pair_form x = other

abbrev pub called_form : FormTree → FormTree → FormTree
called_form extreme xs = pair_form xs
called_form f xs = other

abbrev pub form_of : Tree → FormTree
form_of (cons a more) = row (form_of a) (form_of more)
form_of (tree.name p n) = name p n
form_of (tree.number p z) = number z
form_of (tree.closure p ps b) = closure (tree.closure p ps b)
form_of (tree.binary p k a b) = of_two (adds_up k) (form_of a) (form_of b)
form_of (tree.property e n) = member_form (form_of e) (name_in n)
form_of (tree.call p f xs) = called_form (form_of f) (form_of xs)
form_of (tree.label n e) = label (name_in n)
form_of t = other

-- an expression, and no statement, label, part of a template or map, or argument with a name
abbrev pub is_expression : Tree → Bool
is_expression (tree.number p z) = true
is_expression (tree.text p k t) = true
is_expression (tree.pattern p t) = true
is_expression (tree.template p k xs) = true
is_expression (tree.truth p b) = true
is_expression (tree.null p) = true
is_expression (tree.name p n) = true
is_expression (tree.list p xs) = true
is_expression (tree.map p xs) = true
is_expression (tree.closure p ps b) = true
is_expression (tree.prefix p k e) = true
is_expression (tree.binary p k a b) = true
is_expression (tree.conditional p c a b) = true
is_expression (tree.elvis p a b) = true
is_expression (tree.property e n) = true
is_expression (tree.safe_property e n) = true
is_expression (tree.index p e i) = true
is_expression (tree.call p f xs) = true
is_expression (tree.call_with f b) = true
is_expression t = false

-- ---- closures

abbrev pub without_label : FormTree → FormTree
without_label (label n) = other
without_label f = f

-- a body of one statement
abbrev pub sole_of : FormTree → FormTree
sole_of (row f other) = without_label f
sole_of f = other

-- two different names, in either order: of two parameters of one name the first can't be named
abbrev pub are_both : List ℕ → List ℕ → List ℕ → List ℕ → Bool
are_both a b m n = not (bytes_eq a b) && ((bytes_eq m a && bytes_eq n b) || (bytes_eq m b && bytes_eq n a))

abbrev pub are_two : List (List ℕ) → List ℕ → List ℕ → Bool
are_two (a ∷ b ∷ []) m n = are_both a b m n
are_two ns m n = false

abbrev pub is_total_over : List (List ℕ) → FormTree → Bool
is_total_over ns (total m n) = are_two ns m n
is_total_over ns f = false

-- the names before the arrow
abbrev pub params_in : Tree → List (List ℕ)
params_in (tree.params ns) = names_in ns
params_in t = []

abbrev pub labels_in : FormTree → List (List ℕ)
labels_in (row (label n) more) = n ∷ labels_in more
labels_in f = []

abbrev pub name_of : FormTree → Option (List ℕ)
name_of (name p n) = Some n
name_of f = None

-- a closure without an arrow
abbrev pub name_alone : Tree → FormTree → Option (List ℕ)
name_alone empty f = name_of f
name_alone ps f = None

abbrev pub no_facts : Facts
no_facts = record { labels = []; name = None; is_total = false }

abbrev pub facts_in : Tree → Facts
facts_in (tree.closure p ps b) = record {
  labels = labels_in (form_of b);
  name = name_alone ps (sole_of (form_of b));
  is_total = is_total_over (params_in ps) (sole_of (form_of b));
}
facts_in t = no_facts

abbrev pub facts_of : FormTree → Option Facts
facts_of (closure t) = Some (facts_in t)
facts_of f = None
