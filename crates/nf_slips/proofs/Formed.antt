-- The forms of chains, statements and labels.
use Rattle.std.proofs.Common.{◌≡◌, Bool, List, [], ◌∷◌, Option, Some, None, map, refl, sym, ap, ◌∙◌}
use Rattle.std.specs.Prelude.{if◌then◌else◌}
use Rattle.nf_ast.specs.declared.expr.Prefix.{Prefix}
use Rattle.nf_ast.specs.declared.expr.Postfix.{Postfix}
use Rattle.nf_ast.specs.declared.expr.Branch.{Branch}
use Rattle.nf_ast.specs.declared.expr.ClosureBody.TheOpen as o
use Rattle.nf_ast.specs.Tree as tree
use Rattle.nf_ast.specs.Tree.{Tree}
use Rattle.nf_ast.specs.View.{BranchTree, ArmTree, Frame, asked, answered, preferred, ended, conditional, operands, prefixes, postfix, applied, choice, last_arm, view_branch, view_postfix, postfix_step}
use Rattle.nf_slips.specs.Forms.{FormTree, other, form_of}
use Rattle.nf_slips.specs.Memory.{is_nil, operand_forms, part_form, part_forms}
use Rattle.nf_slips.proofs.Layers.{Layer, of_part}
use Rattle.nf_slips.proofs.Expressions.{framed_some}

pub operands_form : (a : Tree) (xs : List Tree) → form_of (operands a xs) ≡ operand_forms (form_of a) xs
operands_form a [] = refl
operands_form a (tree.binary p k y b ∷ xs) = operands_form (tree.binary p k a b) xs
operands_form a (_ ∷ xs) = operands_form a xs

pub prefixes_form : (m : Prefix) (ms : List Prefix) (e : Tree) → form_of (prefixes (m ∷ ms) e) ≡ other
prefixes_form m ms e = refl

-- ---- parts

one_part : (e : Tree) (z : Layer) → form_of (applied e (postfix_step z)) ≡ part_form (form_of e) (postfix_step z)
one_part e (o.Property p n) = refl
one_part e (o.SafeProperty p n) = refl
one_part e (o.Index p i) = refl
one_part e (o.Call p xs) = refl
one_part e (o.With b) = refl

pub parts_form : (e : Tree) (ys : List Postfix) → form_of (postfix e (map view_postfix ys)) ≡ part_forms (form_of e) (map view_postfix ys)
parts_form e [] = refl
parts_form e (y ∷ ys) =
    let v = view_postfix y in
    parts_form (applied e v) ys ∙ ap (λ f. part_forms f (map view_postfix ys)) (of_part (λ w. form_of (applied e w) ≡ part_form (form_of e) w) (one_part e) y)

-- ---- conditional expressions

ended_other : (fs : List Frame) (e : Tree) → form_of e ≡ other → form_of (ended fs e) ≡ other
ended_other [] e h = h
ended_other (asked p c ∷ fs) e h = ended_other fs (tree.conditional p c e tree.empty) refl
ended_other (answered p c a ∷ fs) e h = ended_other fs (tree.conditional p c a e) refl
ended_other (preferred p a ∷ fs) e h = ended_other fs (tree.elvis p a e) refl

one_ended : (f : Frame) (fs : List Frame) (e : Tree) → form_of (ended (f ∷ fs) e) ≡ other
one_ended (asked p c) fs e = ended_other fs (tree.conditional p c e tree.empty) refl
one_ended (answered p c a) fs e = ended_other fs (tree.conditional p c a e) refl
one_ended (preferred p a) fs e = ended_other fs (tree.elvis p a e) refl

held_other : (xs : List BranchTree) (f : Frame) (fs : List Frame) (e : Tree) → form_of (conditional (f ∷ fs) e xs) ≡ other
held_other [] f fs e = one_ended f fs e
held_other (x ∷ xs) f fs e = framed_some (λ gs. form_of (conditional gs x.expr xs) ≡ other) (λ g gs. held_other xs g gs x.expr) x.place x.operator (f ∷ fs) e

pub branches_form : (e : Tree) (x : BranchTree) (xs : List BranchTree) → form_of (conditional [] e (x ∷ xs)) ≡ other
branches_form e x xs = framed_some (λ gs. form_of (conditional gs x.expr xs) ≡ other) (λ g gs. held_other xs g gs x.expr) x.place x.operator [] e

-- ---- statements and labels

pub choice_form : (xs : List ArmTree) (last : Option (List Tree)) → form_of (choice xs (last_arm last)) ≡ other
choice_form [] None = refl
choice_form [] (Some ys) = refl
choice_form (x ∷ xs) last = refl

-- ---- expressions that stand alone in their node

pub prefixes_alone : (ms : List Prefix) (e : Tree) → form_of (prefixes ms e) ≡ (if is_nil ms then form_of e else other)
prefixes_alone [] e = refl
prefixes_alone (m ∷ ms) e = refl

pub branches_alone : (a : Tree) (ys : List Branch) → form_of (conditional [] a (map view_branch ys)) ≡ (if is_nil ys then form_of a else other)
branches_alone a [] = refl
branches_alone a (y ∷ ys) = branches_form a (view_branch y) (map view_branch ys)

pub chained : (t u : Tree) (b n : Bool) (r f a : FormTree) → t ≡ u → form_of u ≡ (if n then a else other) → r ≡ (if b then f else other) → b ≡ n → f ≡ a → r ≡ form_of t
chained t u b n r f a is h e eb ef = e ∙ ap (λ x. if x then f else other) eb ∙ ap (λ x. if n then x else other) ef ∙ sym h ∙ ap form_of (sym is)
