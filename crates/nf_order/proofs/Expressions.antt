-- What expressions are as arguments and as what is emitted, and closures.
use Rattle.std.proofs.Common.{◌≡◌, ℕ, true, false, List, ◌++◌, refl, sym, ap, ◌∙◌, subst}
use Rattle.std.specs.Prelude.{Bool, Option, Some, None, option_map, Result, Ok, Err, IfOk, OnOk}
use Rattle.std.proofs.lemmas.Bool.{false≢true}
use Rattle.nf_value.specs.declared.place.Place.{Place}
use Rattle.nf_ast.specs.declared.operators.InfixOperator.{InfixOperator}
use Rattle.nf_ast.specs.declared.operators.InfixOperator.TheVariants as infix_operator
use Rattle.nf_ast.specs.Tree as tree
use Rattle.nf_ast.specs.Tree.{Tree, empty}
use Rattle.nf_ast.specs.declared.expr.ClosureExpr.{ClosureExpr}
use Rattle.nf_ast.specs.declared.expr.ClosureBody.TheOpen.{ClosureExpr-F}
use Rattle.nf_ast.specs.declared.expr.ClosureBody.TheFolds.{fold_out-ClosureExpr}
use Rattle.nf_ast.specs.View.{BranchTree, ArmTree, view_closure, with_name, body_step, expr_step, piece_step, postfix_step, stmt_step, arg_step, arm_step, branch_step, closure_step, label_step, operand_step, pair_step}
use Rattle.nf_names_used.specs.Uses.{uses, no_names}
use Rattle.nf_kinds.specs.declared.args.Given.{Given}
use Rattle.nf_kinds.specs.declared.kinds.Kinds.{Kinds}
use Rattle.nf_kinds.specs.Facts.{Facts}
use Rattle.nf_kinds.specs.Kinds.{Shaped, alone, as_channel, plain_kind, plain_unless}
use Rattle.nf_kinds.specs.Walk.{Walk, came, after, ◌>>=◌, gives}
use Rattle.nf_slips.specs.Forms.{form_of, facts_in, facts_of, is_expression, name_of}
use Rattle.nf_slips.specs.Closures.{closure_kind, closure_broken}
use Rattle.nf_order.specs.declared.around.State.{State}
use Rattle.nf_order.specs.declared.subject.Head.TheVariants as head
use Rattle.nf_order.specs.Callees.{Around}
use Rattle.nf_order.specs.declared.subject.Head.{Head}
use Rattle.nf_order.specs.declared.subject.Subject.{Subject}
use Rattle.nf_order.specs.Parts.{Arg, Part, expression, of_binary, part_of, plain, plain_by}
use Rattle.nf_order.specs.Accepted.{emitted_one}
use Rattle.nf_order.specs.Standing.{Gives, Stands, option_name, rest, rest_by, uncalled}
use Rattle.nf_order.proofs.Walks.{given, goes, maps, moves}
use Rattle.nf_order.proofs.Standing.{expression_stands}

-- ---- an expression by its tree

pub of_tree : (a : Around) (t e : Tree) (q : Part) (old new : State) → e ≡ t → Stands (part_of a t) q old new → Stands (part_of a e) q old new
of_tree a t e q old new is s = subst (λ (u : Tree). Stands (part_of a u) q old new) (sym is) s

abbrev pub IsLiteral : Tree → Type 0
IsLiteral (tree.number p z) = Unit {0}
IsLiteral (tree.text p k t) = Unit {0}
IsLiteral (tree.pattern p t) = Unit {0}
IsLiteral (tree.truth p b) = Unit {0}
IsLiteral (tree.null p) = Unit {0}
IsLiteral t = ⊥

plain_stands : (a : Around) (t : Tree) (s : State) → Stands (plain t) (uncalled a (head.Value (alone plain_kind))) s s
plain_stands a t s = expression_stands t empty (plain_by false) (gives (alone plain_kind)) s s refl

pub literal_stands : (a : Around) (e : Tree) (s : State) → IsLiteral e → Stands (part_of a e) (uncalled a (head.Value (alone plain_kind))) s s
literal_stands a (tree.number p z) s h = plain_stands a (tree.number p z) s
literal_stands a (tree.text p k t) s h = plain_stands a (tree.text p k t) s
literal_stands a (tree.pattern p t) s h = plain_stands a (tree.pattern p t) s
literal_stands a (tree.truth p b) s h = plain_stands a (tree.truth p b) s
literal_stands a (tree.null p) s h = plain_stands a (tree.null p) s
literal_stands a _ s h = absurd h

-- what is made of parts in a row
pub row_stands : (a : Around) (t : Tree) (w : Walk Bool) (u : Bool) (old new : State) → Gives w old u new → Stands (expression t (w >>= plain_by)) (uncalled a (head.Value (alone (plain_unless u)))) old new
row_stands a t w u old new g = expression_stands t empty (w >>= plain_by) (plain_by u) old new (goes w plain_by u old new g)

-- what is done with an expression is that of what it is read as
rest_done : (a : Around) (h : Head) (o : Option (List Given)) → (rest_by a h o).done ≡ ((rest_by a h o).thing >>= λ v. gives tt)
rest_done a (head.Value v) None = refl
rest_done a (head.Name p n) None = refl
rest_done a (head.Member v p n) None = refl
rest_done a (head.Source n) None = refl
rest_done a (head.HalfBound v f p n) None = refl
rest_done a h (Some gs) = refl

pub done_gives : (a : Around) (p : Part) (x : Subject) (v : Shaped) (old mid new : State) → Stands p (rest a x) old mid → Gives (rest a x).thing mid v new → Gives p.done old tt new
done_gives a p x v old mid new s g =
    s.done
    ∙ ap (λ w. after mid.broken.items (w mid.scope)) (rest_done a x.head (option_map (λ v. v.items) x.args))
    ∙ maps (rest a x).thing (λ v. tt) v mid new g

-- ---- arguments

abbrev given_alone : Tree → Shaped → Given
given_alone e v = record { option = None; shape = v; closure = facts_of (form_of e) }

abbrev argument_by : Part → Tree → Arg
argument_by p e = p.thing >>= λ v. gives (given_alone e v)

binary_argument : (k : InfixOperator) (p : Place) (x y : Tree) (a b : Part) → (of_binary k (tree.binary p k x y) a b).argument ≡ argument_by (of_binary k (tree.binary p k x y) a b) (tree.binary p k x y)
binary_argument infix_operator.Pipe p x y a b = refl
binary_argument _ p x y a b = refl

argument_is : (a : Around) (e : Tree) → is_expression e ≡ true → (part_of a e).argument ≡ argument_by (part_of a e) e
argument_is a (tree.number p z) h = refl
argument_is a (tree.text p k t) h = refl
argument_is a (tree.pattern p t) h = refl
argument_is a (tree.template p k xs) h = refl
argument_is a (tree.truth p b) h = refl
argument_is a (tree.null p) h = refl
argument_is a (tree.name p n) h = refl
argument_is a (tree.list p xs) h = refl
argument_is a (tree.map p xs) h = refl
argument_is a (tree.closure p ps b) h = refl
argument_is a (tree.prefix p k e) h = refl
argument_is a (tree.binary p k x y) h = binary_argument k p x y (part_of a x) (part_of a y)
argument_is a (tree.conditional p c x y) h = refl
argument_is a (tree.elvis p x y) h = refl
argument_is a (tree.property e n) h = refl
argument_is a (tree.safe_property e n) h = refl
argument_is a (tree.index p e i) h = refl
argument_is a (tree.call p f xs) h = refl
argument_is a (tree.call_with f b) h = refl
argument_is a _ h = absurd (false≢true h)

pub argument_gives : (a : Around) (n : Option (Place × List ℕ)) (e : Tree) (v : Shaped) (old new : State) → is_expression e ≡ true → Gives (part_of a e).thing old v new → Gives (part_of a (with_name n e)).argument old (record { option = option_name n; shape = v; closure = facts_of (form_of e) }) new
argument_gives a None e v old new h g =
    ap (λ w. after old.broken.items (w old.scope)) (argument_is a e h) ∙ maps (part_of a e).thing (given_alone e) v old new g
argument_gives a (Some n) e v old new h g = maps (part_of a e).thing (λ v. record { option = Some n.1; shape = v; closure = facts_of (form_of e) }) v old new g

pub argument_as : (a : Around) (t e : Tree) (n : Option (Place × List ℕ)) (v : Shaped) (o : Option (List ℕ)) (k : Option Facts) (old new : State) → t ≡ with_name n e → is_expression e ≡ true → Gives (part_of a e).thing old v new → o ≡ option_name n → k ≡ facts_of (form_of e) → Gives (part_of a t).argument old (record { option = o; shape = v; closure = k }) new
argument_as a t e n v o k old new is h g eo ek =
    ap (λ u. after old.broken.items ((part_of a u).argument old.scope)) is
    ∙ argument_gives a n e v old new h g
    ∙ ap (λ m. came (record { option = m; shape = v; closure = facts_of (form_of e) }) new.scope new.broken.items) (sym eo)
    ∙ ap (λ m. came (record { option = o; shape = v; closure = m }) new.scope new.broken.items) (sym ek)

-- ---- what is emitted

abbrev emitted_alone : Around → Tree → Walk (Option (List ℕ) × Kinds)
emitted_alone a e = (part_of a e).thing >>= λ v. gives (name_of (form_of e), as_channel v.kinds)

emitted_is : (a : Around) (e : Tree) → is_expression e ≡ true → emitted_one a e ≡ emitted_alone a e
emitted_is a (tree.number p z) h = refl
emitted_is a (tree.text p k t) h = refl
emitted_is a (tree.pattern p t) h = refl
emitted_is a (tree.template p k xs) h = refl
emitted_is a (tree.truth p b) h = refl
emitted_is a (tree.null p) h = refl
emitted_is a (tree.name p n) h = refl
emitted_is a (tree.list p xs) h = refl
emitted_is a (tree.map p xs) h = refl
emitted_is a (tree.closure p ps b) h = refl
emitted_is a (tree.prefix p k e) h = refl
emitted_is a (tree.binary p k x y) h = refl
emitted_is a (tree.conditional p c x y) h = refl
emitted_is a (tree.elvis p x y) h = refl
emitted_is a (tree.property e n) h = refl
emitted_is a (tree.safe_property e n) h = refl
emitted_is a (tree.index p e i) h = refl
emitted_is a (tree.call p f xs) h = refl
emitted_is a (tree.call_with f b) h = refl
emitted_is a _ h = absurd (false≢true h)

pub emitted_gives : (a : Around) (e : Tree) (n : Option (List ℕ)) (v : Shaped) (old new : State) → is_expression e ≡ true → n ≡ name_of (form_of e) → Gives (part_of a e).thing old v new → Gives (emitted_one a e) old (n, as_channel v.kinds) new
emitted_gives a e n v old new h is g =
    ap (λ w. after old.broken.items (w old.scope)) (emitted_is a e h)
    ∙ maps (part_of a e).thing (λ v. (name_of (form_of e), as_channel v.kinds)) v old new g
    ∙ ap (λ m. came (m, as_channel v.kinds) new.scope new.broken.items) (sym is)

-- ---- closures

abbrev ClosureLayer : Type 0
ClosureLayer = ClosureExpr-F Tree Tree Tree Tree Tree Tree ArmTree BranchTree Tree Tree Tree Tree

of_closure : (P : Tree → Type 0) → ((z : ClosureLayer) → P (closure_step z)) → (y : ClosureExpr) → P (view_closure y)
of_closure P h y =
    subst P (sym (fold_out-ClosureExpr Tree Tree Tree Tree Tree Tree ArmTree BranchTree Tree Tree Tree Tree body_step expr_step piece_step postfix_step stmt_step arg_step arm_step branch_step closure_step label_step operand_step pair_step y)) (h _)

-- what a closure gives, and the rules that it breaks
record IsJudged (a : Around) (t : Tree) (k : Kinds) (old new : State) : Type 0 where
  kinds : k ≡ closure_kind a.unknown (uses t no_names) old.scope
  scope : new.scope ≡ old.scope
  broken : new.broken.items ≡ old.broken.items ++ closure_broken a.unknown (uses t no_names) old.scope

abbrev ClosureStands : Around → Tree → Type 0
ClosureStands a t = (k : Kinds) (old new : State) → IsJudged a t k old new → Stands (part_of a t) (uncalled a (head.Value (alone k))) old new

abbrev ClosureGives : Around → Tree → Type 0
ClosureGives a t = (k : Kinds) (f : Facts) (old new : State) → f ≡ facts_in t → IsJudged a t k old new → Gives (part_of a t).argument old (record { option = None; shape = alone k; closure = Some f }) new

tree_gives : (a : Around) (p : Place) (ps b : Tree) (k : Kinds) (old new : State) → IsJudged a (tree.closure p ps b) k old new → Gives (part_of a (tree.closure p ps b)).thing old (alone k) new
tree_gives a p ps b k old new j =
    let us = uses (tree.closure p ps b) no_names in
    let fs = closure_broken a.unknown us old.scope in
    moves (part_of a (tree.closure p ps b)).thing (alone k) fs old new
    (ap (λ i. came (alone i) old.scope fs) (sym j.kinds) ∙ ap (λ s. came (alone k) s fs) (sym j.scope)) j.broken

one_stands : (a : Around) (z : ClosureLayer) → ClosureStands a (closure_step z)
one_stands a z k old new j =
    let w = (part_of a (closure_step z)).thing in
    expression_stands (closure_step z) empty w (gives (alone k)) old new (given w (alone k) old new (tree_gives a z.place _ z.body k old new j))

one_gives : (a : Around) (z : ClosureLayer) → ClosureGives a (closure_step z)
one_gives a z k f old new is j =
    maps (part_of a (closure_step z)).thing (λ v. record { option = None; shape = v; closure = Some (facts_in (closure_step z)) }) (alone k) old new (tree_gives a z.place _ z.body k old new j)
    ∙ ap (λ g. came (record { option = None; shape = alone k; closure = Some g }) new.scope new.broken.items) (sym is)

judged : (a : Around) (t : Tree) (us : List (List ℕ)) (k : Kinds) (old new : State) → a.unknown ≡ us → k ≡ closure_kind us (uses t no_names) old.scope → new.scope ≡ old.scope → new.broken.items ≡ old.broken.items ++ closure_broken us (uses t no_names) old.scope → IsJudged a t k old new
judged a t us k old new u is s b = record {
  kinds = is ∙ ap (λ fs. closure_kind fs (uses t no_names) old.scope) (sym u);
  scope = s;
  broken = b ∙ ap (λ fs. old.broken.items ++ closure_broken fs (uses t no_names) old.scope) (sym u);
}

pub closure_stands : (a : Around) (c : ClosureExpr) (us : List (List ℕ)) (k : Kinds) (old new : State) → a.unknown ≡ us → k ≡ closure_kind us (uses (view_closure c) no_names) old.scope → new.scope ≡ old.scope → new.broken.items ≡ old.broken.items ++ closure_broken us (uses (view_closure c) no_names) old.scope → Stands (part_of a (view_closure c)) (uncalled a (head.Value (alone k))) old new
closure_stands a c us k old new u is s b = of_closure (ClosureStands a) (one_stands a) c k old new (judged a (view_closure c) us k old new u is s b)

pub closure_gives : (a : Around) (c : ClosureExpr) (us : List (List ℕ)) (k : Kinds) (f : Facts) (old new : State) → a.unknown ≡ us → f ≡ facts_in (view_closure c) → k ≡ closure_kind us (uses (view_closure c) no_names) old.scope → new.scope ≡ old.scope → new.broken.items ≡ old.broken.items ++ closure_broken us (uses (view_closure c) no_names) old.scope → Gives (part_of a (view_closure c)).argument old (record { option = None; shape = alone k; closure = Some f }) new
closure_gives a c us k f old new u e is s b = of_closure (ClosureGives a) (one_gives a) c k f old new e (judged a (view_closure c) us k old new u is s b)

pub done_on : {E : Type 0} (a : Around) (p : Part) (x : Subject) (r : Result Shaped E) (old mid new : State) → Stands p (rest a x) old mid → IfOk r (λ v. Gives (rest a x).thing mid v new) → OnOk r (Gives p.done old tt new)
done_on a p x (Ok v) old mid new s g = done_gives a p x v old mid new s g
done_on a p x (Err e) old mid new s g = tt

pub emitted_as : (a : Around) (t e : Tree) (n : Option (List ℕ)) (v : Shaped) (k : Kinds) (old new : State) → t ≡ e → is_expression e ≡ true → n ≡ name_of (form_of e) → k ≡ as_channel v.kinds → Gives (part_of a e).thing old v new → Gives (emitted_one a t) old (n, k) new
emitted_as a t e n v k old new is h en ek g =
    ap (λ u. after old.broken.items (emitted_one a u old.scope)) is
    ∙ emitted_gives a e n v old new h en g
    ∙ ap (λ i. came (n, i) new.scope new.broken.items) (sym ek)
