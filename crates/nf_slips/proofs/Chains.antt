-- What is broken by operands and arms that stand in one list.
use Rattle.std.proofs.Common.{◌≡◌, List, [], ◌∷◌, ◌++◌, refl, sym, ap, ◌∙◌}
use Rattle.std.proofs.lemmas.List.{append_assoc, append-nil}
use Rattle.std.specs.Prelude.{ℕ, Option, Some, None}
use Rattle.nf_value.specs.declared.place.Place.{Place}
use Rattle.nf_ast.specs.declared.operators.BranchOperator.{BranchOperator}
use Rattle.nf_ast.specs.declared.operators.BranchOperator.TheVariants.{Then, Else, Elvis}
use Rattle.nf_ast.specs.declared.expr.Prefix.{Prefix}
use Rattle.nf_ast.specs.Tree as tree
use Rattle.nf_ast.specs.Tree.{Tree}
use Rattle.nf_ast.specs.View.{ArmTree, BranchTree, Frame, asked, answered, preferred, ended, turned, framed, conditional, operands, prefixes, choice, with_name}
use Rattle.nf_kinds.specs.declared.fault.Broken.{Broken}
use Rattle.nf_slips.specs.Slips.{slips, operands_slips, branches_slips, arms_slips}

pub named_broken : (n : Option (Place × List ℕ)) (e : Tree) → slips (with_name n e) ≡ slips e
named_broken None e = refl
named_broken (Some n) e = refl

pub operands_broken : (a : Tree) (xs : List Tree) → slips (operands a xs) ≡ slips a ++ operands_slips xs
operands_broken a [] = sym (append-nil (slips a))
operands_broken a (tree.binary p k y b ∷ xs) = operands_broken (tree.binary p k a b) xs ∙ append_assoc (slips a) (slips b) (operands_slips xs)
operands_broken a (_ ∷ xs) = operands_broken a xs

pub prefixes_broken : (ms : List Prefix) (e : Tree) → slips (prefixes ms e) ≡ slips e
prefixes_broken [] e = refl
prefixes_broken (m ∷ ms) e = prefixes_broken ms e

-- ---- conditions

abbrev frames_slips : List Frame → List Broken
frames_slips [] = []
frames_slips (asked p c ∷ fs) = frames_slips fs ++ slips c
frames_slips (answered p c a ∷ fs) = frames_slips fs ++ (slips c ++ slips a)
frames_slips (preferred p a ∷ fs) = frames_slips fs ++ slips a

regroup : (f c a e : List Broken) → f ++ (c ++ (a ++ e)) ≡ (f ++ (c ++ a)) ++ e
regroup f c a e = simp append_assoc refl

ended_broken : (fs : List Frame) (e : Tree) → slips (ended fs e) ≡ frames_slips fs ++ slips e
ended_broken [] e = refl
ended_broken (asked p c ∷ fs) e =
    ended_broken fs (tree.conditional p c e tree.empty) ∙ ap (λ v. frames_slips fs ++ (slips c ++ v)) (append-nil (slips e)) ∙ sym (append_assoc (frames_slips fs) (slips c) (slips e))
ended_broken (answered p c a ∷ fs) e = ended_broken fs (tree.conditional p c a e) ∙ regroup (frames_slips fs) (slips c) (slips a) (slips e)
ended_broken (preferred p a ∷ fs) e = ended_broken fs (tree.elvis p a e) ∙ sym (append_assoc (frames_slips fs) (slips a) (slips e))

turned_broken : (q : Place) (fs : List Frame) (e : Tree) → frames_slips (turned q fs e) ≡ frames_slips fs ++ slips e
turned_broken q [] e = refl
turned_broken q (asked p c ∷ fs) e = sym (append_assoc (frames_slips fs) (slips c) (slips e))
turned_broken q (answered p c a ∷ fs) e = turned_broken q fs (tree.conditional p c a e) ∙ regroup (frames_slips fs) (slips c) (slips a) (slips e)
turned_broken q (preferred p a ∷ fs) e = turned_broken q fs (tree.elvis p a e) ∙ sym (append_assoc (frames_slips fs) (slips a) (slips e))

framed_broken : (p : Place) (m : BranchOperator) (fs : List Frame) (e : Tree) → frames_slips (framed p m fs e) ≡ frames_slips fs ++ slips e
framed_broken p Then fs e = refl
framed_broken p Else fs e = turned_broken p fs e
framed_broken p Elvis fs e = refl

within_broken : (fs : List Frame) (e : Tree) (xs : List BranchTree) → slips (conditional fs e xs) ≡ frames_slips fs ++ (slips e ++ branches_slips xs)
within_broken fs e [] = ended_broken fs e ∙ ap (λ v. frames_slips fs ++ v) (sym (append-nil (slips e)))
within_broken fs e (x ∷ xs) =
    let rest = slips x.expr ++ branches_slips xs in
    within_broken (framed x.place x.operator fs e) x.expr xs ∙ ap (λ v. v ++ rest) (framed_broken x.place x.operator fs e) ∙ append_assoc (frames_slips fs) (slips e) rest

pub branches_broken : (e : Tree) (xs : List BranchTree) → slips (conditional [] e xs) ≡ slips e ++ branches_slips xs
branches_broken e xs = within_broken [] e xs

-- ---- arms

pub arms_broken : (xs : List ArmTree) (last : Tree) → slips (choice xs last) ≡ arms_slips xs ++ slips last
arms_broken [] last = refl
arms_broken (x ∷ xs) last =
    let c = slips x.condition in
    let b = slips x.body in
    ap (λ v. c ++ (b ++ v)) (arms_broken xs last) ∙ regroup c b (arms_slips xs) (slips last)
