-- How judging goes on in the code: from the state in which a part begins to the state in which what follows it begins.
use denote.Param.Weighed.{most}
use Rattle.std.specs.Prelude.{◌≡◌, ◌≤◌, length, ℕ, zero, suc, Bool, true, false, ◌||◌, List, [], ◌∷◌, ◌++◌, map, Option, Some, None, option_map}
use Rattle.std.specs.Option.{is_none}
use Rattle.nf_value.specs.declared.place.Place.{Place}
use Rattle.nf_builtins.specs.Natives.{is_among}
use Rattle.nf_ast.specs.declared.expr.Prefix.{Prefix}
use Rattle.nf_ast.specs.Tree as tree
use Rattle.nf_ast.specs.Tree.{Tree, empty, cons, place_of}
use Rattle.nf_ast.specs.declared.operators.BranchOperator.{BranchOperator}
use Rattle.nf_ast.specs.declared.operators.BranchOperator.TheVariants as branch
use Rattle.nf_ast.specs.declared.expr.Branch.{Branch, size-Branch}
use Rattle.nf_ast.specs.View.{BranchTree, Frame, asked, conditional, trees}
use Rattle.nf_ast.specs.Tops.{view_top}
use Rattle.nf_placed.specs.Body.{name_in}
use Rattle.nf_kinds.specs.declared.args.Given.{Given}
use Rattle.nf_kinds.specs.declared.kinds.Key.TheVariants as key
use Rattle.nf_kinds.specs.declared.kinds.Kinds.{Kinds}
use Rattle.nf_kinds.specs.Args.{any_unknown}
use Rattle.nf_kinds.specs.Kinds.{Shaped, alone, as_channel, merged, unknown_kind, plain_unless, output_of}
use Rattle.nf_kinds.specs.Scope.{Scope}
use Rattle.nf_kinds.specs.Walk.{Walk, ◌>>=◌, gives, after, Comes}
use Rattle.nf_opkinds.specs.Operators.{Call, member_call}
use Rattle.nf_opkinds.specs.Calls.{source_call}
use Rattle.nf_slips.specs.Definitions as definition
use Rattle.nf_slips.specs.Definitions.{Definition, main_of, emits_of}
use Rattle.nf_order.specs.declared.around.State.{State}
use Rattle.nf_order.specs.declared.around.Around as held
use Rattle.nf_order.specs.declared.subject.Free.{Free}
use Rattle.nf_order.specs.declared.subject.Free.TheVariants as free
use Rattle.nf_order.specs.declared.subject.Head.{Head}
use Rattle.nf_order.specs.declared.subject.Head.TheVariants as head
use Rattle.nf_order.specs.declared.subject.Subject.{Subject}
use Rattle.nf_order.specs.declared.parts.Index.{Index}
use Rattle.nf_order.specs.declared.parts.Index.TheVariants as index
use Rattle.nf_order.specs.Callees.{Around, call_of}
use Rattle.nf_order.specs.Parts.{Arg, Part, all_given, plain_by, beside, expression, with_method, either_way, free_member, free_method, of_name, of_property, of_safe_property, of_call, of_closed, of_binary, part_of, indexed, Reading, number, negative, other, marked}
use Rattle.nf_order.specs.Accepted.{around, emitted, entered_with, led_back, unless_within}

-- what is around a body
abbrev pub around_of : held.Around → Around
around_of a = around a.left (trees (map view_top a.tops.now)) a.unknown.now a.within.now

-- what the call of a workflow with this body comes to, where so many calls are left and these workflows are entered
abbrev pub led_to : ℕ → Tree → List (List ℕ) → List (List ℕ) → List ℕ → Tree → List Given → Call
led_to zero tops fs within n b = led_back
led_to (suc k) tops fs within n b =
    unless_within (is_among n within) (entered_with (around k tops fs (within ++ n ∷ [])) b)

abbrev pub led_from : held.Around → List ℕ → Tree → List Given → Call
led_from a n b = led_to a.left (trees (map view_top a.tops.now)) a.unknown.now a.within.now n b

-- what a workflow emits, after its statements
abbrev pub outputs_by : Around → Tree → Walk (List (Option (List ℕ) × Kinds))
outputs_by a b = (part_of a (main_of b)).body >>= λ t. emitted a (emits_of b)

-- ---- from one state to another

-- a part gives this, from the one state to the other
abbrev pub Gives : {A : Type 0} → Walk A → State → A → State → Type 0
Gives w old x new = Comes (w old.scope) old.broken.items x new.scope new.broken.items

-- what the one comes to from the one state, the other comes to from the other
abbrev pub Leads : {A : Type 0} → Walk A → Walk A → State → State → Type 0
Leads w u old new = after old.broken.items (w old.scope) ≡ after new.broken.items (u new.scope)

-- the same in each place in which a part may stand
pub record Stands (p q : Part) (old new : State) : Type 0 where
  pub thing : Leads p.thing q.thing old new
  pub head : Leads p.head q.head old new
  pub member : (n : List ℕ) → Leads (p.member n) (q.member n) old new
  pub method : (r : Place) (n : List ℕ) (xs : List Arg) → Leads (p.method r n xs) (q.method r n xs) old new
  pub called : (xs : List Arg) → Leads (p.called xs) (q.called xs) old new
  pub closed : (xs : List Arg) → Leads (p.closed xs) (q.closed xs) old new
  pub named : (g : Given) (xs : List Arg) → Leads (p.named g xs) (q.named g xs) old new
  pub piped : (g : Given) → Leads (p.piped g) (q.piped g) old new
  pub piped_closed : (g : Given) (xs : List Arg) → Leads (p.piped_closed g xs) (q.piped_closed g xs) old new
  pub done : Leads p.done q.done old new

-- ---- expressions that may still be called

-- what stands before a dot that nothing in the body binds: a part of it, and its call
abbrev pub free_part : Free → List ℕ → Shaped
free_part free.Channel n = alone unknown_kind
free_part (free.Output v) n = v
free_part (free.Word v) n = alone (output_of (key.Called n) v)

abbrev pub free_now : Free → Place → List ℕ → List Given → Walk Shaped
free_now free.Channel p n gs = gives (alone (source_call n gs))
free_now (free.Output v) p n gs = plain_by (v.kinds.unknown || any_unknown gs)
free_now (free.Word v) p n gs = member_call p n v gs

abbrev pub free_head : Free → Place → List ℕ → Head
free_head free.Channel p n = head.Source n
free_head (free.Output v) p n = head.Value v
free_head (free.Word v) p n = head.Member v p n

-- the name m stands for this before `.n`, where nothing binds it
pub record IsFree (s : Scope) (m n : List ℕ) (f : Free) : Type 0 where
  pub part : free_member s m n ≡ free_part f n
  pub call : (p : Place) (gs : List Given) (r : Scope) → free_method s m p n gs r ≡ free_now f p n gs r

-- what one arm of an `if` alone bound gives by a call
abbrev pub half_now : Shaped → Free → Place → List ℕ → List Given → Walk Shaped
half_now v f p n gs = either_way (member_call p n v gs) (free_now f p n gs)

abbrev pub call_now : Around → Head → List Given → Walk Shaped
call_now a (head.Value v) gs = plain_by (v.kinds.unknown || any_unknown gs)
call_now a (head.Name p n) gs = call_of (a.callee n) p n gs
call_now a (head.Member v p n) gs = member_call p n v gs
call_now a (head.Source n) gs = gives (alone (source_call n gs))
call_now a (head.HalfBound v f p n) gs = half_now v f p n gs

abbrev pub piped_now : Around → Head → Given → List Given → Walk Shaped
piped_now a (head.Name p n) g gs = call_of (a.callee n) p n (g ∷ gs)
piped_now a h g gs = beside g (call_now a h gs)

abbrev pub called_by : Around → Head → List Arg → Walk Shaped
called_by a h xs = all_given xs >>= call_now a h

-- the same after a `|`, with what stands before it
abbrev pub named_by : Around → Head → Given → List Arg → Walk Shaped
named_by a h g xs = all_given xs >>= piped_now a h g

-- arguments after a part are those of this head
pub record IsCalledBy (a : Around) (p : Part) (h : Head) (old new : State) : Type 0 where
  pub called : (xs : List Arg) → Leads (p.called xs) (called_by a h xs) old new
  pub named : (g : Given) (xs : List Arg) → Leads (p.named g xs) (named_by a h g xs) old new

-- what isn't called yet
abbrev pub uncalled : Around → Head → Part
uncalled a (head.Value v) = expression empty (gives v)
uncalled a (head.Name p n) = of_name a p n
uncalled a (head.Member v p n) =
    with_method (called_by a (head.Member v p n)) (expression empty (gives (alone (output_of (key.Called n) v))))
uncalled a (head.Source n) = with_method (called_by a (head.Source n)) (expression empty (gives (alone unknown_kind)))
uncalled a (head.HalfBound v f p n) =
    with_method (called_by a (head.HalfBound v f p n))
    (expression empty (gives (merged (alone (output_of (key.Called n) v)) (free_part f n))))

-- what is called with these arguments; a closure may still follow
abbrev pub called_with : Around → Head → List Given → Part
called_with a h gs = record (expression empty (call_now a h gs)) {
  closed = λ xs. all_given xs >>= λ more. call_now a h (gs ++ more);
  piped = λ g. piped_now a h g gs;
  piped_closed = λ g xs. all_given xs >>= λ more. piped_now a h g (gs ++ more);
}

abbrev pub rest_by : Around → Head → Option (List Given) → Part
rest_by a h None = uncalled a h
rest_by a h (Some gs) = called_with a h gs

-- what may follow an expression as far as it is read
abbrev pub rest : Around → Subject → Part
rest a x = rest_by a x.head (option_map (λ v. v.items) x.args)

-- ---- lists in one node

-- an index after an expression
abbrev pub after_index : Around → Part → Tree → Part
after_index a p i = expression empty (p.thing >>= λ v. (part_of a i).thing >>= λ k. gives (alone (indexed i v k.kinds)))

-- a part after an expression
abbrev pub after_part : Around → Part → Tree → Part
after_part a p (tree.property e n) = of_property empty p (place_of n) (name_in n)
after_part a p (tree.safe_property e n) = of_safe_property empty p (place_of n) (name_in n)
after_part a p (tree.index q e i) = after_index a p i
after_part a p (tree.call q e xs) = of_call empty p (part_of a xs).arguments
after_part a p (tree.call_with e c) = of_closed empty p (part_of a c).argument
after_part a p t = p

abbrev pub after_parts : Around → Part → List Tree → Part
after_parts a p [] = p
after_parts a p (t ∷ ts) = after_parts a (after_part a p t) ts

-- an operand, with all before it
abbrev pub after_operand : Around → Part → Tree → Part
after_operand a p (tree.binary q k x b) = of_binary k empty p (part_of a b)
after_operand a p t = p

abbrev pub after_operands : Around → Part → List Tree → Part
after_operands a p [] = p
after_operands a p (t ∷ ts) = after_operands a (after_operand a p t) ts

-- ---- conditional expressions

-- An operand, and those after it in the order of the text; before it stand conditions and left operands of `?:` that
-- wait for it.
pub record Chain : Type 0 where
  pub waiting : List Frame
  pub first : Tree
  pub more : List BranchTree

abbrev pub chain_of : Tree → List BranchTree → Chain
chain_of e bs = record { waiting = []; first = e; more = bs }

-- after a condition
abbrev pub arms_of : Place → Tree → Tree → List BranchTree → Chain
arms_of p c e bs = record { waiting = asked p c ∷ []; first = e; more = bs }

-- nothing is left, or a `:`
abbrev pub IsElse : BranchOperator → Type 0
IsElse branch.Else = Unit {0}
IsElse branch.Then = ⊥
IsElse branch.Elvis = ⊥

abbrev pub IsEnd : List BranchTree → Type 0
IsEnd [] = Unit {0}
IsEnd (x ∷ xs) = IsElse x.operator

-- All that a chain is before its end is one expression, which gives this; ls are the operands that are left.
pub record Turned (a : Around) (x : Chain) (v : Shaped) (ls : List BranchTree) (old new : State) : Type 0 where
  pub whole : Tree
  pub same : (fs : List Frame) → conditional (x.waiting ++ fs) x.first x.more ≡ conditional fs whole ls
  pub gives : Gives (part_of a whole).thing old v new
  pub ends : IsEnd ls

-- What is read so far of a chain that stands alone; a `:` may follow that no condition waits for.
pub record IsRead (a : Around) (x : Chain) (v : Shaped) (ls : List BranchTree) (old new : State) : Type 0 where
  pub whole : Tree
  pub same : conditional x.waiting x.first x.more ≡ conditional [] whole ls
  pub gives : Gives (part_of a whole).thing old v new
  pub ends : IsEnd ls

-- what a false condition gives, after what a true one gives
pub record IsSecond (a : Around) (bs : List BranchTree) (v : Shaped) (ls : List BranchTree) (old new : State)
    : Type 0 where
  pub whole : Tree
  pub same : (p : Place) (c e : Tree) (fs : List Frame) →
      conditional (asked p c ∷ fs) e bs ≡ conditional fs (tree.conditional p c e whole) ls
  pub gives : Gives (part_of a whole).thing old v new
  pub ends : IsEnd ls

-- operands that are left of others
pub record IsLeft (ls bs : List Branch) : Type 0 where
  pub fewer : length ls ≤ length bs
  pub smaller : most size-Branch ls ≤ most size-Branch bs

-- ---- what the code holds

-- the arguments, or none
abbrev pub args_or_none : Option (List Given) → List Given
args_or_none None = []
args_or_none (Some gs) = gs

abbrev pub is_task : Definition → Bool
is_task definition.nothing = false
is_task definition.function = false
is_task (definition.process ns) = true
is_task (definition.workflow b) = true

-- no name and colon stand before an argument
abbrev pub is_unnamed : Given → Bool
is_unnamed g = is_none g.option

-- the name before an argument's colon
abbrev pub option_name : Option (Place × List ℕ) → Option (List ℕ)
option_name None = None
option_name (Some n) = Some n.1

abbrev pub plain_subject : Bool → Subject
plain_subject u = record { head = head.Value (alone (plain_unless u)); args = None }

-- what a name that a workflow takes may be
abbrev pub taken_kind : Option Given → Kinds
taken_kind None = unknown_kind
taken_kind (Some g) = as_channel g.shape.kinds

abbrev pub view_index : Index → Reading
view_index (index.At z) = number z
view_index (index.Below z) = negative z
view_index index.Other = other

-- a number after these marks
abbrev pub marked_by : List Prefix → Reading → Reading
marked_by [] i = i
marked_by (m ∷ ms) i = marked m.operator (marked_by ms i)
