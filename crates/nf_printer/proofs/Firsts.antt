-- What a conditional expression begins with: what its first operand begins with, unless brackets open before it.
use Rattle.std.proofs.Common.{◌≡◌, ℕ, zero, suc, Bool, true, false, List, [], ◌∷◌, refl, sym, ap, ◌∙◌}
use Rattle.std.specs.Prelude.{◌&&◌, ◌||◌, not, if◌then◌else◌}
use Rattle.nf_value.specs.declared.place.Place.{Place}
use Rattle.nf_ast.specs.declared.operators.BranchOperator.{BranchOperator}
use Rattle.nf_ast.specs.declared.operators.BranchOperator.TheVariants.{Then, Else, Elvis}
use Rattle.nf_ast.specs.Tree as tree
use Rattle.nf_ast.specs.Tree.{Tree}
use Rattle.nf_ast.specs.View.{Frame, asked, answered, preferred, ended, turned, framed, BranchTree, conditional}
use Rattle.nf_printer.specs.Levels.{level, needs, prints, begins_round, is_name}
use Rattle.nf_printer.specs.Bodies.{is_expr}
use Rattle.nf_printer.specs.Chains.{is_nil, is_late, asked_after, is_condition, none_late, is_held}
use Rattle.nf_printer.proofs.Lists.{and_true, and_false}
use Rattle.nf_printer.proofs.Conditions.{waiting, begun, turns, turned_late, ended_needs}

-- what is told of a conditional expression by its first operand
module _ (X : Type 0) (R F : Tree → X) (z : X) where
  abbrev pub told : Bool → X → X
  told true x = x
  told false x = z

  told_both : (b c : Bool) (x : X) → told b (told c x) ≡ told (b && c) x
  told_both true c x = refl
  told_both false c x = refl

  told_nothing : (b : Bool) → told b z ≡ z
  told_nothing true = refl
  told_nothing false = refl

  module _ (on_conditional : (p : Place) (c a b : Tree) → R (tree.conditional p c a b) ≡ F c) (on_elvis : (p : Place) (a b : Tree) → R (tree.elvis p a b) ≡ F a) (bracketed : (e : Tree) → needs 1 e ≡ true → F e ≡ z) where
    same : (fs : List Frame) (x y : Tree) → R x ≡ R y → R (ended fs x) ≡ R (ended fs y)
    same [] x y h = h
    same (asked p c ∷ fs) x y h = same fs (tree.conditional p c x tree.empty) (tree.conditional p c y tree.empty) (on_conditional p c x tree.empty ∙ sym (on_conditional p c y tree.empty))
    same (answered p c a ∷ fs) x y h = same fs (tree.conditional p c a x) (tree.conditional p c a y) (on_conditional p c a x ∙ sym (on_conditional p c a y))
    same (preferred p a ∷ fs) x y h = same fs (tree.elvis p a x) (tree.elvis p a y) (on_elvis p a x ∙ sym (on_elvis p a y))

    -- what stands in a frame doesn't count
    inner : (f : Frame) (fs : List Frame) (x y : Tree) → R (ended (f ∷ fs) x) ≡ R (ended (f ∷ fs) y)
    inner (asked p c) fs x y = same fs (tree.conditional p c x tree.empty) (tree.conditional p c y tree.empty) (on_conditional p c x tree.empty ∙ sym (on_conditional p c y tree.empty))
    inner (answered p c a) fs x y = same fs (tree.conditional p c a x) (tree.conditional p c a y) (on_conditional p c a x ∙ sym (on_conditional p c a y))
    inner (preferred p a) fs x y = same fs (tree.elvis p a x) (tree.elvis p a y) (on_elvis p a x ∙ sym (on_elvis p a y))

    -- one operator more after a first
    then_more : (p : Place) (f : Frame) (fs : List Frame) (e t : Tree) → R (ended (asked p e ∷ f ∷ fs) t) ≡ R (ended (f ∷ fs) e)
    then_more p f fs e t = inner f fs (tree.conditional p e t tree.empty) e

    elvis_more : (p : Place) (f : Frame) (fs : List Frame) (e t : Tree) → R (ended (preferred p e ∷ f ∷ fs) t) ≡ R (ended (f ∷ fs) e)
    elvis_more p f fs e t = inner f fs (tree.elvis p e t) e

    else_more : (q : Place) (fs : List Frame) (e t : Tree) (n : ℕ) → waiting fs ≡ suc n → R (ended (turned q fs e) t) ≡ R (ended fs e)
    else_more q [] e t n h = absurd cc
    else_more q (asked p c ∷ fs) e t n h = same fs (tree.conditional p c e t) (tree.conditional p c e tree.empty) (on_conditional p c e t ∙ sym (on_conditional p c e tree.empty))
    else_more q (answered p c a ∷ fs) e t n h = else_more q fs (tree.conditional p c a e) t n h
    else_more q (preferred p a ∷ fs) e t n h = else_more q fs (tree.elvis p a e) t n h

    late : (q : Place) (f : Frame) (fs : List Frame) (e t : Tree) → waiting (f ∷ fs) ≡ zero → R (ended (turned q (f ∷ fs) e) t) ≡ z
    late q f fs e t h = ap (λ gs. R (ended gs t)) (turned_late q (f ∷ fs) e h) ∙ on_elvis q (ended (f ∷ fs) e) t ∙ bracketed (ended (f ∷ fs) e) (ended_needs f fs e)

    pub record Framed (k : BranchOperator) (gs : List Frame) (n : ℕ) (t : Tree) (r : X) : Type 0 where
      pub waits : waiting gs ≡ asked_after k n
      pub goes : begun gs ≡ true
      pub first : R (ended gs t) ≡ told (not (is_late k n true)) r

    one_more : (p : Place) (k : BranchOperator) (f : Frame) (fs : List Frame) (e t : Tree) (n : ℕ) → waiting (f ∷ fs) ≡ n → Framed k (framed p k (f ∷ fs) e) n t (R (ended (f ∷ fs) e))
    one_more p Then f fs e t n h = record { waits = ap suc h; goes = refl; first = then_more p f fs e t }
    one_more p Elvis f fs e t n h = record { waits = h; goes = refl; first = elvis_more p f fs e t }
    one_more p Else f fs e t (suc n) h = let r = turns p (f ∷ fs) e n h in record { waits = r.waits; goes = r.goes; first = else_more p (f ∷ fs) e t n h }
    one_more p Else f fs e t zero h = record {
      waits = ap waiting (turned_late p (f ∷ fs) e h);
      goes = ap begun (turned_late p (f ∷ fs) e h);
      first = late p f fs e t h;
    }

    more : (xs : List BranchTree) (gs : List Frame) (e : Tree) (n : ℕ) → begun gs ≡ true → waiting gs ≡ n → R (conditional gs e xs) ≡ told (none_late xs n true) (R (ended gs e))
    more [] gs e n b h = refl
    more (x ∷ xs) [] e n b h = absurd cc
    more (x ∷ xs) (f ∷ fs) e n b h =
        let r = one_more x.place x.operator f fs e x.expr n h in
        more xs (framed x.place x.operator (f ∷ fs) e) x.expr (asked_after x.operator n) r.goes r.waits
        ∙ ap (told (none_late xs (asked_after x.operator n) true)) r.first
        ∙ told_both (none_late xs (asked_after x.operator n) true) (not (is_late x.operator n true)) (R (ended (f ∷ fs) e))
        ∙ ap (λ b. told b (R (ended (f ∷ fs) e))) (swapped (none_late xs (asked_after x.operator n) true) (not (is_late x.operator n true)))
      where
        swapped : (b c : Bool) → b && c ≡ c && b
        swapped true true = refl
        swapped true false = refl
        swapped false true = refl
        swapped false false = refl

    pub record First (k : BranchOperator) (gs : List Frame) (e t : Tree) : Type 0 where
      pub waits : waiting gs ≡ asked_after k zero
      pub goes : begun gs ≡ true
      pub first : R (ended gs t) ≡ F e

    a_first : (p : Place) (k : BranchOperator) (e t : Tree) → First k (framed p k [] e) e t
    a_first p Then e t = record { waits = refl; goes = refl; first = on_conditional p e t tree.empty }
    a_first p Elvis e t = record { waits = refl; goes = refl; first = on_elvis p e t }
    a_first p Else e t = record { waits = refl; goes = refl; first = on_elvis p e t }

    pub of_first : (e : Tree) (x : BranchTree) (xs : List BranchTree) → R (conditional [] e (x ∷ xs)) ≡ told (none_late (x ∷ xs) zero false) (F e)
    of_first e x xs =
        let r = a_first x.place x.operator e x.expr in
        more xs (framed x.place x.operator [] e) x.expr (asked_after x.operator zero) r.goes r.waits ∙ ap (told (none_late xs (asked_after x.operator zero) true)) r.first ∙ ap (λ b. told (not b && none_late xs (asked_after x.operator zero) true) (F e)) (sym (never_late x.operator))
      where
        never_late : (k : BranchOperator) → is_late k zero false ≡ false
        never_late Then = refl
        never_late Else = refl
        never_late Elvis = refl

-- ---- the readings

first_held : (e : Tree) (x : BranchTree) (xs : List BranchTree) → is_held e (x ∷ xs) zero false ≡ needs 1 e
first_held e x xs = ap (λ b. b && needs 1 e) (condition x.operator)
  where
    condition : (k : BranchOperator) → is_condition k zero false ≡ true
    condition Then = refl
    condition Else = refl
    condition Elvis = refl

some_print : (e : Tree) (x : BranchTree) (xs : List BranchTree) (next : Bool) → prints (conditional [] e (x ∷ xs)) next ≡ none_late (x ∷ xs) zero false && (not (is_held e (x ∷ xs) zero false) && prints e false)
some_print e x xs next =
    of_first Bool (λ t. prints t next) (λ t. not (needs 1 t) && prints t false) false (λ p c a b. refl) (λ p a b. refl) (λ t h. ap (λ b. not b && prints t false) h) e x xs
    ∙ as_and (none_late (x ∷ xs) zero false) (not (needs 1 e) && prints e false)
    ∙ ap (λ b. none_late (x ∷ xs) zero false && (not b && prints e false)) (sym (first_held e x xs))
  where
    as_and : (b c : Bool) → told Bool (λ t. prints t next) (λ t. not (needs 1 t) && prints t false) false b c ≡ b && c
    as_and true c = refl
    as_and false c = refl

pub branches_print : (e : Tree) (xs : List BranchTree) (next : Bool) → prints (conditional [] e xs) next ≡ none_late xs zero false && (not (is_held e xs zero false) && prints e (next && is_nil xs))
branches_print e [] next = ap (prints e) (sym (and_true next))
branches_print e (x ∷ xs) next = some_print e x xs next ∙ ap (λ b. none_late (x ∷ xs) zero false && (not (is_held e (x ∷ xs) zero false) && prints e b)) (sym (and_false next))

pub branches_begin : (e : Tree) (xs : List BranchTree) → begins_round (conditional [] e xs) ≡ not (none_late xs zero false) || (is_held e xs zero false || begins_round e)
branches_begin e [] = refl
branches_begin e (x ∷ xs) =
    of_first Bool begins_round (λ t. needs 1 t || begins_round t) true (λ p c a b. refl) (λ p a b. refl) (λ t h. ap (λ b. b || begins_round t) h) e x xs
    ∙ as_or (none_late (x ∷ xs) zero false) (needs 1 e || begins_round e)
    ∙ ap (λ b. not (none_late (x ∷ xs) zero false) || (b || begins_round e)) (sym (first_held e x xs))
  where
    as_or : (b c : Bool) → told Bool begins_round (λ t. needs 1 t || begins_round t) true b c ≡ not b || c
    as_or true c = refl
    as_or false c = refl

pub branches_level : (e : Tree) (xs : List BranchTree) → level (conditional [] e xs) ≡ (if is_nil xs then level e else 0)
branches_level e [] = refl
branches_level e (x ∷ xs) =
    of_first ℕ level (λ t. 0) 0 (λ p c a b. refl) (λ p a b. refl) (λ t h. refl) e x xs ∙ any (none_late (x ∷ xs) zero false)
  where
    any : (b : Bool) → told ℕ level (λ t. 0) 0 b 0 ≡ 0
    any true = refl
    any false = refl

pub branches_name : (w : List ℕ) (e : Tree) (xs : List BranchTree) → is_name w (conditional [] e xs) ≡ is_nil xs && is_name w e
branches_name w e [] = refl
branches_name w e (x ∷ xs) =
    of_first Bool (is_name w) (λ t. false) false (λ p c a b. refl) (λ p a b. refl) (λ t h. refl) e x xs ∙ any (none_late (x ∷ xs) zero false)
  where
    any : (b : Bool) → told Bool (is_name w) (λ t. false) false b false ≡ false
    any true = refl
    any false = refl

pub branches_expr : (e : Tree) (xs : List BranchTree) → is_expr e ≡ true → is_expr (conditional [] e xs) ≡ true
branches_expr e [] h = h
branches_expr e (x ∷ xs) h =
    of_first Bool is_expr (λ t. true) true (λ p c a b. refl) (λ p a b. refl) (λ t k. refl) e x xs ∙ any (none_late (x ∷ xs) zero false)
  where
    any : (b : Bool) → told Bool is_expr (λ t. true) true b true ≡ true
    any true = refl
    any false = refl
