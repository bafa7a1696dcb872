-- What the parts of a workflow's body come to, by where they stand: what each may be, the scope after it, and the
-- rules that it breaks.
use Rattle.std.specs.Prelude.{ℤ, pos, negsuc, ℕ, zero, suc, Bool, true, false, ◌||◌, List, [], ◌∷◌, ◌++◌, codes, Option, Some, None, option_map, if◌then◌else◌}
use Rattle.std.specs.Str.{bytes_eq}
use Rattle.nf_value.specs.declared.place.Place.{Place}
use Rattle.nf_ast.specs.declared.operators.InfixOperator.{InfixOperator}
use Rattle.nf_ast.specs.declared.operators.InfixOperator.TheVariants as infix_operator
use Rattle.nf_ast.specs.declared.operators.PrefixOperator.{PrefixOperator}
use Rattle.nf_ast.specs.declared.operators.PrefixOperator.TheVariants as prefix_operator
use Rattle.nf_ast.specs.Tree as tree
use Rattle.nf_ast.specs.Tree.{Tree, empty, cons, place_of}
use Rattle.nf_placed.specs.Body.{name_in, names_in}
use Rattle.nf_names_used.specs.Uses.{uses, no_names}
use Rattle.nf_names_used.specs.declared.uses.Use.{Use}
use Rattle.nf_kinds.specs.declared.kinds.Kinds.{Kinds}
use Rattle.nf_kinds.specs.declared.kinds.Key.TheVariants as key
use Rattle.nf_kinds.specs.Kinds.{Shaped, alone, merged, unknown_kind, plain_kind, plain_unless, output_of, some_output_of, part_by}
use Rattle.nf_kinds.specs.Scope.{Scope, defined, all_defined, assigned, left_by, after_both, bound_in, is_half_bound, bound_or, read_name, shape_in, given_kind}
use Rattle.nf_kinds.specs.Walk.{Out, came, Walk, ◌>>=◌, gives, with_scope}
use Rattle.nf_kinds.specs.declared.args.Given.{Given}
use Rattle.nf_kinds.specs.Args.{any_unknown}
use Rattle.nf_opkinds.specs.Operators.{member_call}
use Rattle.nf_opkinds.specs.Results.{or_plain}
use Rattle.nf_opkinds.specs.Calls.{source_call}
use Rattle.nf_slips.specs.Forms.{form_of, facts_of}
use Rattle.nf_slips.specs.Closures.{closure_kind, closure_broken}
use Rattle.nf_order.specs.Callees.{Callee, a_process, a_workflow, Around, call_of}

-- ---- arguments

abbrev pub Arg : Type 0
Arg = Walk Given

abbrev pub all_given : List Arg → Walk (List Given)
all_given [] = gives []
all_given (x ∷ xs) = x >>= λ g. all_given xs >>= λ gs. gives (g ∷ gs)

-- the name before an argument's colon, and what stands after it
abbrev pub option_before : Tree → Option (List ℕ)
option_before (tree.named n e) = Some (name_in n)
option_before t = None

abbrev pub unnamed : Tree → Tree
unnamed (tree.named n e) = e
unnamed t = t

abbrev pub given_as : Tree → Shaped → Given
given_as t v = record { option = option_before t; shape = v; closure = facts_of (form_of (unnamed t)) }

-- what stands before a `|`, as an argument
abbrev pub handed : Shaped → Given
handed v = record { option = None; shape = v; closure = None }

-- ---- parts

pub record Part : Type 0 where
  -- as an expression; and at the head of a pipe
  pub thing : Walk Shaped
  pub head : Walk Shaped
  -- before `.NAME`, and before `.NAME(..)`
  pub member : List ℕ → Walk Shaped
  pub method : Place → List ℕ → List Arg → Walk Shaped
  -- before arguments in brackets; before a closure
  pub called : List Arg → Walk Shaped
  pub closed : List Arg → Walk Shaped
  -- after `|`, with what stands before it: before arguments in brackets; alone; before a closure
  pub named : Given → List Arg → Walk Shaped
  pub piped : Given → Walk Shaped
  pub piped_closed : Given → List Arg → Walk Shaped
  -- as an argument; parts in a row, as arguments, and as items: whether something in them is unknown
  pub argument : Arg
  pub arguments : List Arg
  pub items : Walk Bool
  -- as a statement; parts in a row, as statements
  pub done : Walk (Unit {0})
  pub body : Walk (Unit {0})

-- a plain value, unless something in it is unknown
abbrev pub plain_by : Bool → Walk Shaped
plain_by u = gives (alone (plain_unless u))

abbrev pub member_of : Walk Shaped → List ℕ → Walk Shaped
member_of w n = w >>= λ v. gives (alone (output_of (key.Called n) v))

abbrev pub method_of : Walk Shaped → Place → List ℕ → List Arg → Walk Shaped
method_of w p n xs = w >>= λ v. all_given xs >>= λ gs. member_call p n v gs

-- what isn't called by a name: a closure that is a value
abbrev pub called_thing : Walk Shaped → List Arg → Walk Shaped
called_thing w xs = w >>= λ v. all_given xs >>= λ gs. plain_by (v.kinds.unknown || any_unknown gs)

-- after a `|`, but no process, workflow or operator
abbrev pub beside : Given → Walk Shaped → Walk Shaped
beside g w = w >>= λ v. plain_by (g.shape.kinds.unknown || v.kinds.unknown)

-- an expression that isn't called by a name
abbrev pub expression : Tree → Walk Shaped → Part
expression t w = record {
  thing = w;
  head = w;
  member = λ n. member_of w n;
  method = λ p n xs. method_of w p n xs;
  called = λ xs. called_thing w xs;
  closed = λ xs. called_thing w xs;
  named = λ g xs. beside g (called_thing w xs);
  piped = λ g. beside g w;
  piped_closed = λ g xs. beside g (called_thing w xs);
  argument = w >>= λ v. gives (given_as t v);
  arguments = [];
  items = gives false;
  done = w >>= λ v. gives tt;
  body = gives tt;
}

abbrev pub plain : Tree → Part
plain t = expression t (plain_by false)

-- what isn't looked at, and what is no part
abbrev pub passed : Part
passed = record (plain empty) { done = gives tt }

abbrev pub statement : Walk (Unit {0}) → Part
statement w = record passed { done = w }

-- ---- two ways

-- each begins in the scope before both
abbrev pub both_ends : {A B : Type 0} → Out A → Out B → Out (A × B)
both_ends (came x s fs) (came y t gs) = came (x, y) (after_both s t) (fs ++ gs)

abbrev pub both : {A B : Type 0} → Walk A → Walk B → Walk (A × B)
both m n s = both_ends (m s) (n s)

-- what one or the other gives
abbrev pub either_way : Walk Shaped → Walk Shaped → Walk Shaped
either_way m n = both m n >>= λ x. gives (merged x.0 x.1)

-- what a name gives that is bound, and if so, also what it gives where nothing binds it
abbrev pub bound_or_free : Bool → Walk Shaped → Walk Shaped → Walk Shaped
bound_or_free true m n = either_way m n
bound_or_free false m n = m

-- what a name calls, and if so, also this, where it stands for a value and nothing is called
abbrev pub value_or_call : Bool → Shaped → Walk Shaped → Walk Shaped
value_or_call true v w = either_way (gives v) w
value_or_call false v w = w

-- ---- names

abbrev pub is_channel_word : List ℕ → Bool
is_channel_word n = bytes_eq n (codes "channel") || bytes_eq n (codes "Channel")

abbrev pub is_math_word : List ℕ → Bool
is_math_word n = bytes_eq n (codes "Math")

-- What a name is before a dot may be what it is where nothing binds it: one that one arm of an `if` alone bound, and
-- `Math`, whose functions are found whatever the body binds to the word.
abbrev pub may_be_free : List ℕ → Scope → Bool
may_be_free n s = is_half_bound n s || is_math_word n

-- what a name is before a dot that nothing binds in the body
abbrev pub free_kind : List ℕ → Kinds
free_kind n = if is_math_word n then plain_kind else given_kind n

-- `P.out`, where P was called; a word that stands for a value where nothing binds it, as `params`, may stand for that
-- too
abbrev pub called_out : Scope → List ℕ → List ℕ → Option Shaped
called_out s n m =
    if bytes_eq m (codes "out") then option_map (or_plain (free_kind n).plain) (shape_in n s.calls) else None

abbrev pub or_part : Option Shaped → List ℕ → List ℕ → Shaped
or_part (Some v) n m = v
or_part None n m = alone (output_of (key.Called m) (alone (free_kind n)))

abbrev pub free_member : Scope → List ℕ → List ℕ → Shaped
free_member s n m = if is_channel_word n then alone unknown_kind else or_part (called_out s n m) n m

abbrev pub name_member : Bool → Option Shaped → Scope → List ℕ → List ℕ → Shaped
name_member half (Some v) s n m = bound_or half (alone (output_of (key.Called m) v)) (free_member s n m)
name_member half None s n m = free_member s n m

-- what a call gave isn't called
abbrev pub out_or_method : Option Shaped → List ℕ → Place → List ℕ → List Given → Walk Shaped
out_or_method (Some v) n q m gs = plain_by (v.kinds.unknown || any_unknown gs)
out_or_method None n q m gs = member_call q m (alone (free_kind n)) gs

-- `channel.of(..)`
abbrev pub free_method : Scope → List ℕ → Place → List ℕ → List Given → Walk Shaped
free_method s n q m gs =
    if is_channel_word n then gives (alone (source_call m gs)) else out_or_method (called_out s n m) n q m gs

abbrev pub name_method : Bool → Option Shaped → Scope → List ℕ → Place → List ℕ → List Given → Walk Shaped
name_method half (Some v) s n q m gs = bound_or_free half (member_call q m v gs) (free_method s n q m gs)
name_method half None s n q m gs = free_method s n q m gs

-- the name of a process or a workflow at the head of a pipe is its call; `params` and the like may be a value there too
abbrev pub head_of : Callee → Place → List ℕ → Walk Shaped
head_of (a_process ns) p n = value_or_call (given_kind n).plain (alone (given_kind n)) (call_of (a_process ns) p n [])
head_of (a_workflow f) p n = value_or_call (given_kind n).plain (alone (given_kind n)) (call_of (a_workflow f) p n [])
head_of k p n = gives (alone (given_kind n))

abbrev pub name_head : Bool → Option Shaped → Callee → Place → List ℕ → Walk Shaped
name_head half (Some v) k p n = bound_or_free half (gives v) (head_of k p n)
name_head half None k p n = head_of k p n

-- `a | n`; where n may stand for a value, as in the operand of `false && (a | n)` that isn't evaluated, it may call
-- nothing
abbrev pub name_piped : Callee → Place → List ℕ → Given → Walk Shaped
name_piped k p n g s =
    value_or_call (read_name n s).kinds.plain (alone (plain_unless g.shape.kinds.unknown)) (call_of k p n (g ∷ [])) s

abbrev pub named_call : Around → Place → List ℕ → Walk (List Given) → Walk Shaped
named_call a p n w = w >>= call_of (a.callee n) p n

abbrev pub of_name : Around → Place → List ℕ → Part
of_name a p n = record (expression (tree.name p n) (λ s. came (read_name n s) s [])) {
  head = λ s. name_head (is_half_bound n s) (bound_in n s) (a.callee n) p n s;
  member = λ m s. came (name_member (may_be_free n s) (bound_in n s) s n m) s [];
  method = λ q m xs s. (all_given xs >>= name_method (may_be_free n s) (bound_in n s) s n q m) s;
  called = λ xs. named_call a p n (all_given xs);
  closed = λ xs. named_call a p n (all_given xs);
  named = λ g xs. named_call a p n (all_given xs >>= λ gs. gives (g ∷ gs));
  piped = λ g. name_piped (a.callee n) p n g;
  piped_closed = λ g xs. named_call a p n (all_given xs >>= λ gs. gives (g ∷ gs));
}

-- ---- parts after an expression

abbrev pub with_method : (List Arg → Walk Shaped) → Part → Part
with_method m part = record part {
  called = m;
  closed = m;
  named = λ g xs. beside g (m xs);
  piped_closed = λ g xs. beside g (m xs);
}

abbrev pub of_property : Tree → Part → Place → List ℕ → Part
of_property t before p n = with_method (before.method p n) (expression t (before.member n))

-- `?.` is a dot after what is a name's or an expression's value, and not after a word
abbrev pub of_safe_property : Tree → Part → Place → List ℕ → Part
of_safe_property t before p n = with_method (method_of before.thing p n) (expression t (member_of before.thing n))

abbrev pub of_call : Tree → Part → List Arg → Part
of_call t f xs = record (expression t (f.called xs)) {
  closed = λ more. f.called (xs ++ more);
  piped = λ g. f.named g xs;
  piped_closed = λ g more. f.named g (xs ++ more);
}

-- a closure is the last argument of the call before it
abbrev pub of_closed : Tree → Part → Arg → Part
of_closed t f x = record (expression t (f.closed (x ∷ []))) {
  closed = λ more. f.closed (x ∷ more);
  piped = λ g. f.piped_closed g (x ∷ []);
  piped_closed = λ g more. f.piped_closed g (x ∷ more);
}

-- no output has an index below 0
abbrev pub no_output_of : Shaped → Kinds
no_output_of v = part_by (λ os. unknown_kind) v.outputs v.kinds

abbrev pub at_number : ℤ → Shaped → Kinds
at_number (pos k) v = output_of (key.At k) v
at_number (negsuc k) v = no_output_of v

abbrev pub below : ℤ → ℤ
below (pos zero) = pos zero
below (pos (suc k)) = negsuc k
below (negsuc k) = pos (suc k)

-- what an index is, as far as it is known before a run: a number, a number with a minus before it, or anything else
pub data Reading : Type 0 where
  number : ℤ → Reading
  negative : ℤ → Reading
  other : Reading

abbrev pub negated : Reading → Reading
negated (number z) = negative z
negated i = other

abbrev pub marked : PrefixOperator → Reading → Reading
marked prefix_operator.Minus i = negated i
marked k i = other

abbrev pub index_of : Tree → Reading
index_of (tree.number p z) = number z
index_of (tree.prefix p k e) = marked k (index_of e)
index_of t = other

abbrev pub kind_at : Reading → Shaped → Kinds
kind_at (number z) v = at_number z v
kind_at (negative z) v = at_number (below z) v
kind_at other v = some_output_of v

abbrev pub index_kind : Tree → Shaped → Kinds
index_kind t v = kind_at (index_of t) v

abbrev pub indexed : Tree → Shaped → Kinds → Kinds
indexed i v k = if k.unknown then unknown_kind else index_kind i v

-- ---- two operands, and two arms

abbrev pub of_binary : InfixOperator → Tree → Part → Part → Part
of_binary infix_operator.Pipe t a b = expression t (a.head >>= λ v. b.piped (handed v))
of_binary k t a b = expression t (a.thing >>= λ v. b.thing >>= λ w. plain_by (v.kinds.unknown || w.kinds.unknown))

abbrev pub chosen : Walk Shaped → Walk Shaped → Walk Shaped → Walk Shaped
chosen c a b = c >>= λ k. both a b >>= λ x. gives (if k.kinds.unknown then alone unknown_kind else merged x.0 x.1)

-- ---- closures

abbrev pub closure_walk : List (List ℕ) → List Use → Walk Shaped
closure_walk fs us s = came (alone (closure_kind fs us s)) s (closure_broken fs us s)

-- ---- statements

-- names that are defined between braces are gone after them
abbrev pub braces_end : {A : Type 0} → Scope → Out A → Out A
braces_end s (came x t fs) = came x (left_by s t) fs

abbrev pub in_braces : {A : Type 0} → Walk A → Walk A
in_braces w s = braces_end s (w s)

-- ---- all parts

abbrev pub part_of : Around → Tree → Part
part_of a empty = passed
part_of a (cons x more) = record passed {
  arguments = (part_of a x).argument ∷ (part_of a more).arguments;
  items = (part_of a x).thing >>= λ v. (part_of a more).items >>= λ u. gives (v.kinds.unknown || u);
  body = (part_of a x).done >>= λ t. (part_of a more).body;
}
part_of a (tree.name p n) = of_name a p n
part_of a (tree.template p k xs) = expression (tree.template p k xs) ((part_of a xs).items >>= plain_by)
part_of a (tree.list p xs) = expression (tree.list p xs) ((part_of a xs).items >>= plain_by)
part_of a (tree.map p xs) = expression (tree.map p xs) ((part_of a xs).items >>= plain_by)
part_of a (tree.hole p e) = part_of a e
part_of a (tree.pair k e) = part_of a e
part_of a (tree.named n e) =
    record (part_of a e) { argument = (part_of a e).thing >>= λ v. gives (given_as (tree.named n e) v) }
part_of a (tree.closure p ps b) =
    expression (tree.closure p ps b) (closure_walk a.unknown (uses (tree.closure p ps b) no_names))
part_of a (tree.prefix p k e) = expression (tree.prefix p k e) ((part_of a e).thing >>= λ v. plain_by v.kinds.unknown)
part_of a (tree.binary p k x y) = of_binary k (tree.binary p k x y) (part_of a x) (part_of a y)
part_of a (tree.conditional p c x y) =
    expression (tree.conditional p c x y) (chosen (part_of a c).thing (part_of a x).thing (part_of a y).thing)
part_of a (tree.elvis p x y) = expression (tree.elvis p x y)
    ((part_of a x).thing >>= λ v. (part_of a y).thing >>= λ w. plain_by (v.kinds.unknown || w.kinds.unknown))
part_of a (tree.property e n) = of_property (tree.property e n) (part_of a e) (place_of n) (name_in n)
part_of a (tree.safe_property e n) = of_safe_property (tree.safe_property e n) (part_of a e) (place_of n) (name_in n)
part_of a (tree.index p e i) = expression (tree.index p e i)
    ((part_of a e).thing >>= λ v. (part_of a i).thing >>= λ k. gives (alone (indexed i v k.kinds)))
part_of a (tree.call p f xs) = of_call (tree.call p f xs) (part_of a f) (part_of a xs).arguments
part_of a (tree.call_with f c) = of_closed (tree.call_with f c) (part_of a f) (part_of a c).argument
part_of a (tree.define p n e) = statement ((part_of a e).thing >>= λ v. with_scope (defined (name_in n) v))
part_of a (tree.define_all p ns e) =
    statement ((part_of a e).thing
    >>= λ v. with_scope (all_defined (names_in ns) (alone (plain_unless v.kinds.unknown))))
part_of a (tree.assign n e) = statement ((part_of a e).thing >>= λ v. with_scope (assigned (name_in n) v))
part_of a (tree.return_ p e) = part_of a e
part_of a (tree.choice p c x last) =
    statement ((part_of a c).thing >>= λ v. both (part_of a x).done (part_of a last).done >>= λ t. gives tt)
part_of a (tree.statements b) = statement (in_braces (part_of a b).body)
part_of a (tree.println p e) = passed
part_of a (tree.log p n e) = passed
part_of a t = plain t
