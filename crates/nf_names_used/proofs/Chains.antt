-- What is used by operands and arms that stand in one list.
use Rattle.std.proofs.Common.{◌≡◌, Bool, true, false, List, [], ◌∷◌, ◌++◌, map, refl, sym, ap, ◌∙◌, subst}
use Rattle.std.proofs.lemmas.Bool.{false≢true}
use Rattle.std.proofs.lemmas.List.{append_assoc, append-nil}
use Rattle.nf_value.specs.declared.place.Place.{Place}
use Rattle.nf_ast.specs.declared.operators.BranchOperator.{BranchOperator}
use Rattle.nf_ast.specs.declared.operators.BranchOperator.TheVariants.{Then, Else, Elvis}
use Rattle.nf_ast.specs.declared.expr.Prefix.{Prefix}
use Rattle.nf_ast.specs.declared.expr.Operand.{Operand}
use Rattle.nf_ast.specs.declared.expr.ClosureBody.TheOpen.{Operand-F}
use Rattle.nf_ast.specs.declared.expr.ClosureBody.TheFolds.{fold_out-Operand}
use Rattle.nf_ast.specs.Tree as tree
use Rattle.nf_ast.specs.Tree.{Tree}
use Rattle.nf_ast.specs.View.{ArmTree, BranchTree, Frame, asked, answered, preferred, ended, turned, framed, conditional, operands, prefixes, choice, view_operand, body_step, expr_step, piece_step, postfix_step, stmt_step, arg_step, arm_step, branch_step, closure_step, label_step, operand_step, pair_step}
use Rattle.nf_names_used.specs.declared.uses.Use.{Use}
use Rattle.nf_names_used.specs.Uses.{Names, begun, defined, defined_by, uses, pattern_uses, is_name}
use Rattle.nf_names_used.specs.Chains.{operands_uses, branches_uses, arms_uses}

pub defined_nothing : (names : Names) → defined [] names ≡ names
defined_nothing names =
    let f : List (List _) → List (List _) → Names = λ own body. record { captured = names.captured; own = own; body = body } in
    ap (λ l. f l (names.body ++ [])) (append-nil names.own) ∙ ap (f names.own) (append-nil names.body)

-- ---- expressions of several operands or parts

abbrev pub is_chain : Tree → Bool
is_chain (tree.prefix p k e) = true
is_chain (tree.binary p k a b) = true
is_chain (tree.conditional p c a b) = true
is_chain (tree.elvis p a b) = true
is_chain (tree.property e n) = true
is_chain (tree.safe_property e n) = true
is_chain (tree.index p e i) = true
is_chain (tree.call p f xs) = true
is_chain (tree.call_with f c) = true
is_chain _ = false

-- no chain is a name or a definition
pub chain_name : (t : Tree) → is_chain t ≡ true → is_name t ≡ false
chain_name (tree.name p n) h = absurd (false≢true h)
chain_name _ h = refl

pub chain_defines : (t : Tree) → is_chain t ≡ true → defined_by t ≡ []
chain_defines (tree.define p n e) h = absurd (false≢true h)
chain_defines (tree.define_all p ns e) h = absurd (false≢true h)
chain_defines _ h = refl

-- ---- operands

pub operands_used : (names : Names) (a : Tree) (xs : List Tree) → uses (operands a xs) names ≡ uses a names ++ operands_uses xs names
operands_used names a [] = sym (append-nil (uses a names))
operands_used names a (tree.binary p k y b ∷ xs) = operands_used names (tree.binary p k a b) xs ∙ append_assoc (uses a names) (pattern_uses k b ++ uses b names) (operands_uses xs names)
operands_used names a (_ ∷ xs) = operands_used names a xs

still_chain : (a : Tree) (xs : List Tree) → is_chain a ≡ true → is_chain (operands a xs) ≡ true
still_chain a [] h = h
still_chain a (tree.binary p k y b ∷ xs) h = still_chain (tree.binary p k a b) xs refl
still_chain a (_ ∷ xs) h = still_chain a xs h

-- an operand with the trees of what is in it
abbrev Layer : Type 0
Layer = Operand-F Tree Tree Tree Tree Tree Tree ArmTree BranchTree Tree Tree Tree Tree

of_operand : (P : Tree → Type 0) → ((z : Layer) → P (operand_step z)) → (y : Operand) → P (view_operand y)
of_operand P h y =
    subst P (sym (fold_out-Operand Tree Tree Tree Tree Tree Tree ArmTree BranchTree Tree Tree Tree Tree body_step expr_step piece_step postfix_step stmt_step arg_step arm_step branch_step closure_step label_step operand_step pair_step y)) (h _)

pub operands_chain : (a : Tree) (y : Operand) (ys : List Operand) → is_chain (operands a (map view_operand (y ∷ ys))) ≡ true
operands_chain a y ys = of_operand (λ t. is_chain (operands a (t ∷ map view_operand ys)) ≡ true) (λ z. still_chain (tree.binary z.place z.operator a z.expr) (map view_operand ys) refl) y

pub prefixes_used : (names : Names) (ms : List Prefix) (e : Tree) → uses (prefixes ms e) names ≡ uses e names
prefixes_used names [] e = refl
prefixes_used names (m ∷ ms) e = prefixes_used names ms e

-- ---- conditions

abbrev frames_uses : List Frame → Names → List Use
frames_uses [] names = []
frames_uses (asked p c ∷ fs) names = frames_uses fs names ++ uses c names
frames_uses (answered p c a ∷ fs) names = frames_uses fs names ++ (uses c names ++ uses a names)
frames_uses (preferred p a ∷ fs) names = frames_uses fs names ++ uses a names

regroup : (f c a e : List Use) → f ++ (c ++ (a ++ e)) ≡ (f ++ (c ++ a)) ++ e
regroup f c a e = simp append_assoc refl

ended_used : (names : Names) (fs : List Frame) (e : Tree) → uses (ended fs e) names ≡ frames_uses fs names ++ uses e names
ended_used names [] e = refl
ended_used names (asked p c ∷ fs) e =
    ended_used names fs (tree.conditional p c e tree.empty) ∙ ap (λ v. frames_uses fs names ++ (uses c names ++ v)) (append-nil (uses e names)) ∙ sym (append_assoc (frames_uses fs names) (uses c names) (uses e names))
ended_used names (answered p c a ∷ fs) e = ended_used names fs (tree.conditional p c a e) ∙ regroup (frames_uses fs names) (uses c names) (uses a names) (uses e names)
ended_used names (preferred p a ∷ fs) e = ended_used names fs (tree.elvis p a e) ∙ sym (append_assoc (frames_uses fs names) (uses a names) (uses e names))

turned_used : (names : Names) (q : Place) (fs : List Frame) (e : Tree) → frames_uses (turned q fs e) names ≡ frames_uses fs names ++ uses e names
turned_used names q [] e = refl
turned_used names q (asked p c ∷ fs) e = sym (append_assoc (frames_uses fs names) (uses c names) (uses e names))
turned_used names q (answered p c a ∷ fs) e = turned_used names q fs (tree.conditional p c a e) ∙ regroup (frames_uses fs names) (uses c names) (uses a names) (uses e names)
turned_used names q (preferred p a ∷ fs) e = turned_used names q fs (tree.elvis p a e) ∙ sym (append_assoc (frames_uses fs names) (uses a names) (uses e names))

framed_used : (names : Names) (p : Place) (m : BranchOperator) (fs : List Frame) (e : Tree) → frames_uses (framed p m fs e) names ≡ frames_uses fs names ++ uses e names
framed_used names p Then fs e = refl
framed_used names p Else fs e = turned_used names p fs e
framed_used names p Elvis fs e = refl

within_used : (names : Names) (fs : List Frame) (e : Tree) (xs : List BranchTree) → uses (conditional fs e xs) names ≡ frames_uses fs names ++ (uses e names ++ branches_uses xs names)
within_used names fs e [] = ended_used names fs e ∙ ap (λ v. frames_uses fs names ++ v) (sym (append-nil (uses e names)))
within_used names fs e (x ∷ xs) =
    let rest = uses x.expr names ++ branches_uses xs names in
    within_used names (framed x.place x.operator fs e) x.expr xs ∙ ap (λ v. v ++ rest) (framed_used names x.place x.operator fs e) ∙ append_assoc (frames_uses fs names) (uses e names) rest

pub branches_used : (names : Names) (e : Tree) (xs : List BranchTree) → uses (conditional [] e xs) names ≡ uses e names ++ branches_uses xs names
branches_used names e xs = within_used names [] e xs

ended_chain : (fs : List Frame) (e : Tree) → is_chain e ≡ true → is_chain (ended fs e) ≡ true
ended_chain [] e h = h
ended_chain (asked p c ∷ fs) e h = ended_chain fs (tree.conditional p c e tree.empty) refl
ended_chain (answered p c a ∷ fs) e h = ended_chain fs (tree.conditional p c a e) refl
ended_chain (preferred p a ∷ fs) e h = ended_chain fs (tree.elvis p a e) refl

one_ended : (f : Frame) (fs : List Frame) (e : Tree) → is_chain (ended (f ∷ fs) e) ≡ true
one_ended (asked p c) fs e = ended_chain fs (tree.conditional p c e tree.empty) refl
one_ended (answered p c a) fs e = ended_chain fs (tree.conditional p c a e) refl
one_ended (preferred p a) fs e = ended_chain fs (tree.elvis p a e) refl

turned_chain : (P : List Frame → Type 0) → ((f : Frame) (fs : List Frame) → P (f ∷ fs)) → (q : Place) (fs : List Frame) (e : Tree) → P (turned q fs e)
turned_chain P h q [] e = h (preferred q e) []
turned_chain P h q (asked p c ∷ fs) e = h (answered p c e) fs
turned_chain P h q (answered p c a ∷ fs) e = turned_chain P h q fs (tree.conditional p c a e)
turned_chain P h q (preferred p a ∷ fs) e = turned_chain P h q fs (tree.elvis p a e)

framed_chain : (P : List Frame → Type 0) → ((f : Frame) (fs : List Frame) → P (f ∷ fs)) → (p : Place) (m : BranchOperator) (fs : List Frame) (e : Tree) → P (framed p m fs e)
framed_chain P h p Then fs e = h (asked p e) fs
framed_chain P h p Else fs e = turned_chain P h p fs e
framed_chain P h p Elvis fs e = h (preferred p e) fs

held_chain : (xs : List BranchTree) (f : Frame) (fs : List Frame) (e : Tree) → is_chain (conditional (f ∷ fs) e xs) ≡ true
held_chain [] f fs e = one_ended f fs e
held_chain (x ∷ xs) f fs e = framed_chain (λ gs. is_chain (conditional gs x.expr xs) ≡ true) (λ g gs. held_chain xs g gs x.expr) x.place x.operator (f ∷ fs) e

pub branches_chain : (e : Tree) (x : BranchTree) (xs : List BranchTree) → is_chain (conditional [] e (x ∷ xs)) ≡ true
branches_chain e x xs = framed_chain (λ gs. is_chain (conditional gs x.expr xs) ≡ true) (λ g gs. held_chain xs g gs x.expr) x.place x.operator [] e

-- ---- arms

pub arms_used : (names : Names) (xs : List ArmTree) (last : Tree) → uses (choice xs last) names ≡ arms_uses xs names ++ uses last names
arms_used names [] last = refl
arms_used names (x ∷ xs) last =
    let c = uses x.condition names in
    let b = uses x.body (begun names) in
    ap (λ v. c ++ (b ++ v)) (arms_used names xs last) ∙ sym (append_assoc c b (arms_uses xs names ++ uses last names)) ∙ sym (append_assoc (c ++ b) (arms_uses xs names) (uses last names))

pub arms_define : (xs : List ArmTree) (last : Tree) → defined_by last ≡ [] → defined_by (choice xs last) ≡ []
arms_define [] last h = h
arms_define (x ∷ xs) last h = refl

-- ---- what chains define: nothing, where their first part defines nothing

pub prefixes_define : (ms : List Prefix) (a : Tree) → defined_by a ≡ [] → defined_by (prefixes ms a) ≡ []
prefixes_define [] a h = h
prefixes_define (m ∷ ms) a h = refl

pub operands_define : (a : Tree) (ys : List Operand) → defined_by a ≡ [] → defined_by (operands a (map view_operand ys)) ≡ []
operands_define a [] h = h
operands_define a (y ∷ ys) h = chain_defines (operands a (map view_operand (y ∷ ys))) (operands_chain a y ys)

pub branches_define : (a : Tree) (xs : List BranchTree) → defined_by a ≡ [] → defined_by (conditional [] a xs) ≡ []
branches_define a [] h = h
branches_define a (x ∷ xs) h = chain_defines (conditional [] a (x ∷ xs)) (branches_chain a x xs)
