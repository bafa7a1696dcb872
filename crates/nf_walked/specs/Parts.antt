-- What is due of the parts of a body.
use Rattle.std.specs.Prelude.{◌≡◌, ℕ, Bool, true, false, List, Option, Some, None, if◌then◌else◌, map, option_map}
use Rattle.nf_ast.specs.declared.expr.Arm.{Arm}
use Rattle.nf_ast.specs.declared.expr.Stmt.{Stmt}
use Rattle.std.specs.Global.{Vec}
use Rattle.nf_ast.specs.Tree.{Tree}
use Rattle.nf_ast.specs.View.{choice, last_arm, view_arm, view_stmt}
use Rattle.nf_value.specs.Plain.{Plain}
use Rattle.nf_value.specs.declared.fault.EvalKind.TheVariants.{WrongKind}
use Rattle.nf_value.specs.declared.place.Place.{Place}
use Rattle.nf_value.specs.Truth.{truth_of}
use Rattle.nf_graph.specs.declared.port.Port.{Port}
use Rattle.nf_eval.specs.Evaluation.{nowhere}
use Rattle.nf_meaning.specs.declared.fault.LowerFault.{LowerFault}
use Rattle.nf_meaning.specs.declared.fault.LowerFault.TheVariants.{ParamFault}
use Rattle.nf_meaning.specs.Arguments as meaning
use Rattle.nf_meaning.specs.Arguments.{is_closure, unless_closure}
use Rattle.nf_meaning.specs.Expressions.{Leading, leading, leads_in, value_of, value_wanted}
use Rattle.nf_meaning.specs.Names.{Called, a_process, a_workflow, called_by}
use Rattle.nf_meaning.specs.Places.{begins_at}
use Rattle.nf_meaning.specs.Things.{Thing, Channel, a_value, thing_named}
use Rattle.nf_meaning.specs.Lowered.{known}
use Rattle.nf_meaning.specs.Walk.{Walk, ◌>>=◌, assigning, gives, lifted, things_in, with_scope}
use Rattle.nf_meaning.specs.Workflow as workflow
use Rattle.nf_meaning.specs.Workflow.{already, bind_all, flowing, list_made, name_member, name_method, name_thing, new_names, part_of}
use Rattle.nf_placed.specs.Body.{names_in, split}
use Rattle.nf_scopes.specs.declared.things.Thing as memory
use Rattle.nf_plan.specs.Runs.{bags_of}
use Rattle.nf_arguments.specs.declared.args.Args.{Args}
use Rattle.nf_arguments.specs.declared.args.Before.{Before}
use Rattle.nf_arguments.specs.declared.one.One.{One}
use Rattle.nf_arguments.specs.Args.{AreArgs, IsBefore, IsOne}
use Rattle.nf_walked.specs.Forms.{a_port, a_thing}
use Rattle.nf_walked.specs.Steps.{Due, Form, Point, from}

-- ---- what goes in

-- an argument; all arguments of a call
abbrev pub of_one : {A B : Type 0} → One → Form A B → (meaning.Arg → Walk B) → Due meaning.Arg A B
of_one x f w = record { In = λ p z y. IsOne (bags_of p.run z.plan) x y; walk = w; form = f }

abbrev pub of_args : {A B : Type 0} → Args → Form A B → (List meaning.Arg → Walk B) → Due (List meaning.Arg) A B
of_args x f w = record { In = λ p z ys. AreArgs (bags_of p.run z.plan) x ys; walk = w; form = f }

-- what stands before a pipe
abbrev pub of_before : {A B : Type 0} → Before → Form A B → (meaning.Arg → Walk B) → Due meaning.Arg A B
of_before x f w = record { In = λ p z y. IsBefore (bags_of p.run z.plan) x y; walk = w; form = f }

-- what was made before
abbrev pub of_thing : {A B : Type 0} → memory.Thing → Form A B → (Thing → Walk B) → Due Thing A B
of_thing t f w = from a_thing t f w

-- what was made before, with the arguments of a call
abbrev pub of_call : {A B : Type 0} → memory.Thing → Args → Form A B → (Thing → List meaning.Arg → Walk B)
    → Due (Thing × List meaning.Arg) A B
of_call t x f w = record {
  In = λ p z y. a_thing.Stands p.run z.plan t y.0 × AreArgs (bags_of p.run z.plan) x y.1;
  walk = λ y. w y.0 y.1;
  form = f;
}

-- a channel, with the arguments of a call
abbrev pub of_channel : {A B : Type 0} → Port → Args → Form A B → (Channel → List meaning.Arg → Walk B)
    → Due (Channel × List meaning.Arg) A B
of_channel q x f w = record {
  In = λ p z y. a_port.Stands p.run z.plan q y.0 × AreArgs (bags_of p.run z.plan) x y.1;
  walk = λ y. w y.0 y.1;
  form = f;
}

-- an expression that leads to channels or files
abbrev pub leading_to : {A B : Type 0} → Tree → Form A B → Walk B → Due (Unit {0}) A B
leading_to t f w = record {
  In = λ p z y. (leading (leads_in p.around p.state.scope) t).alone ≡ true;
  walk = λ y. w;
  form = f;
}

-- ---- arguments

-- what an argument stands for; a closure stands for nothing
abbrev pub thing_arg : meaning.Arg → Walk Thing
thing_arg x = unless_closure (is_closure x.tree) (begins_at x.tree) x.thing

-- ---- values

-- a value as a thing
abbrev pub as_known : Walk Plain → Walk Thing
as_known w = w >>= λ v. gives (a_value v)

-- the value that an expression stands for, which may be a file
abbrev pub value_thing_of : Tree → Walk Plain
value_thing_of e = (part_of e).thing >>= value_wanted (begins_at e)

-- ---- leading

abbrev pub leading_at : Point → Tree → Leading
leading_at p t = leading (leads_in p.around p.state.scope) t

-- ---- expressions, by what stands last in them

-- a name that is bound in the body
abbrev pub name_thing_at : List ℕ → Place → Walk Thing
name_thing_at n p a s = name_thing (thing_named n (things_in s.scope)) p a s

-- a list of items in a row
abbrev pub list_at : Place → Tree → Walk Thing
list_at p xs = (part_of xs).items >>= list_made p

-- `c ? a : b`
abbrev pub turn_of : Tree → Tree → Tree → Walk Thing
turn_of c a b = value_of c >>= λ v. if truth_of v then (part_of a).thing else (part_of b).thing

-- no text spells one without its last arm; it has this fault
abbrev pub no_arm : LowerFault
no_arm = ParamFault (record { kind = WrongKind; place = nowhere })

-- `e[i]`
abbrev pub index_at : Tree → Place → Tree → Walk Thing
index_at e p i = (part_of e).thing >>= workflow.index_of (begins_at e) p (begins_at i) (value_of i)

-- `m.n` of a name m
abbrev pub name_member_at : Place → List ℕ → Place → List ℕ → Walk Thing
name_member_at q m p n a s = name_member (thing_named m (things_in s.scope)) s.scope q m p n a s

-- the same of a name that nothing in the body binds
abbrev pub free_member_at : Place → List ℕ → Place → List ℕ → Walk Thing
free_member_at q m p n a s = name_member None s.scope q m p n a s

-- `m.n(..)` of a name m
abbrev pub name_method_at : Place → List ℕ → Place → List ℕ → List meaning.Arg → Walk Thing
name_method_at q m p n xs a s = name_method (thing_named m (things_in s.scope)) q m p n xs a s

-- `a | f`
abbrev pub pipe_of : Tree → Tree → Walk Thing
pipe_of e f = (part_of e).head >>= flowing (begins_at e) >>= λ t. (part_of f).piped (already e t)

-- whether a name is called where it stands alone at the head of a pipe
abbrev pub is_call : Called → Bool
is_call (a_process t) = true
is_call (a_workflow t) = true
is_call _ = false

abbrev pub unless_bound : Option Thing → Bool → Bool
unless_bound (Some t) b = false
unless_bound None b = b

abbrev pub is_called_alone : Point → List ℕ → Bool
is_called_alone p n =
    unless_bound (thing_named n (things_in p.state.scope))
    (is_call (called_by p.around.definitions p.around.given.program.titles n))

-- ---- statements

-- `n = ..`
abbrev pub assign_of : List ℕ → Walk Thing → Walk (Unit {0})
assign_of n w = w >>= λ t. with_scope (assigning n t)

-- each name of a `def` for the first time between its braces
abbrev pub new_names_at : Tree → Walk (Unit {0})
new_names_at ns a s = new_names s.scope.defined ns a s

-- the names of a `def` for the items of this list
abbrev pub names_bound : Place → Tree → Plain → Walk (Unit {0})
names_bound p ns v = lifted (known (split p (names_in ns) v)) >>= bind_all

-- the arms of an `if`, and what stands after the last `else`
abbrev pub choice_of : List Arm → Option (Vec Stmt) → Tree
choice_of arms last = choice (map view_arm arms) (last_arm (option_map (λ v. map view_stmt v.items) last))
