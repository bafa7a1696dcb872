-- The arms of a conditional expression are trees of their own.
use Rattle.std.proofs.Common.{◌≡◌, ℕ, zero, suc, ◌+◌, ◌-◌, ◌<◌, length, map, take, get_or, true, List, [], ◌∷◌, ◌++◌, Option, Some, None, refl, sym, ap, subst, ◌∙◌, arith}
use Rattle.std.proofs.lemmas.List.{append-nil, map_more}
use Rattle.nf_value.specs.declared.place.Place.{Place}
use Rattle.nf_ast.specs.declared.operators.BranchOperator.{BranchOperator}
use Rattle.nf_ast.specs.declared.operators.BranchOperator.TheVariants as branch
use Rattle.nf_ast.specs.Tree as tree
use Rattle.nf_ast.specs.Tree.{Tree, empty}
use Rattle.nf_ast.specs.declared.expr.Branch.{Branch}
use Rattle.nf_ast.specs.View.{view_branch, BranchTree, Frame, answered, asked, conditional, ended, framed, preferred, turned}
use Rattle.nf_fronts.specs.Arms.{AreArms, IsOther, closed_one, waiting, waiting_after, waiting_or_none}
use Rattle.nf_fronts.specs.Lasts.{is_other}

-- how many conditions wait in frames
abbrev waits : List Frame → ℕ
waits [] = 0
waits (asked p c ∷ fs) = suc (waits fs)
waits (answered p c a ∷ fs) = waits fs
waits (preferred p a ∷ fs) = waits fs

ended_both : (gs fs : List Frame) (e : Tree) → ended (gs ++ fs) e ≡ ended fs (ended gs e)
ended_both [] fs e = refl
ended_both (asked p c ∷ gs) fs e = ended_both gs fs (tree.conditional p c e empty)
ended_both (answered p c a ∷ gs) fs e = ended_both gs fs (tree.conditional p c a e)
ended_both (preferred p a ∷ gs) fs e = ended_both gs fs (tree.elvis p a e)

-- at a `:`, one of these frames waits for it
inside : (q : Place) (gs fs : List Frame) (e : Tree) (k : ℕ) → waits gs ≡ suc k → (turned q (gs ++ fs) e ≡ turned q gs e ++ fs) × (waits (turned q gs e) ≡ k)
inside q [] fs e k h = absurd (omega (arith, h))
inside q (asked p c ∷ gs) fs e k h = (refl, omega (arith, h))
inside q (answered p c a ∷ gs) fs e k h = inside q gs fs (tree.conditional p c a e) k h
inside q (preferred p a ∷ gs) fs e k h = inside q gs fs (tree.elvis p a e) k h

-- or none does
past : (q : Place) (gs fs : List Frame) (e : Tree) → waits gs ≡ 0 → turned q (gs ++ fs) e ≡ turned q fs (ended gs e)
past q [] fs e h = refl
past q (asked p c ∷ gs) fs e h = absurd (omega (arith, h))
past q (answered p c a ∷ gs) fs e h = past q gs fs (tree.conditional p c a e) h
past q (preferred p a ∷ gs) fs e h = past q gs fs (tree.elvis p a e) h

-- ---- an arm

module _ (fs : List Frame) (ys : List BranchTree) where
  -- the rest of an arm is a tree of its own, whatever of it is open
  abbrev Rest : Tree → List BranchTree → Type 0
  Rest e xs = (gs : List Frame) → IsOther (waiting_after (waits gs) xs) ys → conditional (gs ++ fs) e (xs ++ ys) ≡ conditional fs (conditional gs e xs) ys

  else_goes : (p : Place) (gs : List Frame) (e x : Tree) (xs : List BranchTree) → Rest x xs → (k : ℕ) → waits gs ≡ k → IsOther (waiting_or_none (closed_one k) (λ m. waiting_after m xs)) ys
      → conditional (turned p (gs ++ fs) e) x (xs ++ ys) ≡ conditional fs (conditional (turned p gs e) x xs) ys
  else_goes p gs e x xs rest zero w h = absurd h
  else_goes p gs e x xs rest (suc k) w h =
      let t = inside p gs fs e k w in
      let o : IsOther (waiting_after (waits (turned p gs e)) xs) ys = subst (λ m. IsOther (waiting_after m xs) ys) (sym t.1) h in
      ap (λ hs. conditional hs x (xs ++ ys)) t.0 ∙ rest (turned p gs e) o

  goes : (p : Place) (o : BranchOperator) (gs : List Frame) (e x : Tree) (xs : List BranchTree) → Rest x xs → IsOther (waiting_or_none (waiting o (waits gs)) (λ m. waiting_after m xs)) ys
      → conditional (framed p o (gs ++ fs) e) x (xs ++ ys) ≡ conditional fs (conditional (framed p o gs e) x xs) ys
  goes p branch.Then gs e x xs rest h = rest (asked p e ∷ gs) h
  goes p branch.Elvis gs e x xs rest h = rest (preferred p e ∷ gs) h
  goes p branch.Else gs e x xs rest h = else_goes p gs e x xs rest (waits gs) refl h

other_begins : (gs fs : List Frame) (e : Tree) (y : BranchTree) (ys : List BranchTree) (k : ℕ) → waits gs ≡ k → IsOther (Some k) (y ∷ ys)
    → conditional (framed y.place y.operator (gs ++ fs) e) y.expr ys ≡ conditional (framed y.place y.operator fs (ended gs e)) y.expr ys
other_begins gs fs e y ys zero w h =
    ap (λ o. conditional (framed y.place o (gs ++ fs) e) y.expr ys) h
    ∙ ap (λ hs. conditional hs y.expr ys) (past y.place gs fs e w)
    ∙ ap (λ o. conditional (framed y.place o fs (ended gs e)) y.expr ys) (sym h)
other_begins gs fs e y ys (suc k) w h = absurd h

arm_is : (fs : List Frame) (ys : List BranchTree) (gs : List Frame) (e : Tree) (xs : List BranchTree) → IsOther (waiting_after (waits gs) xs) ys
    → conditional (gs ++ fs) e (xs ++ ys) ≡ conditional fs (conditional gs e xs) ys
arm_is fs [] gs e [] h = ended_both gs fs e
arm_is fs (y ∷ ys) gs e [] h = other_begins gs fs e y ys (waits gs) refl h
arm_is fs ys gs e (x ∷ xs) h = goes fs ys x.place x.operator gs e x.expr xs (λ hs o. arm_is fs ys hs x.expr xs o) h

is_else : (m : Option ℕ) (y : BranchTree) (ys : List BranchTree) → IsOther m (y ∷ ys) → y.operator ≡ branch.Else
is_else (Some zero) y ys h = h
is_else (Some (suc k)) y ys h = absurd h
is_else None y ys h = absurd h

-- ---- `c ? a : b`

module _ (p : Place) (c e : Tree) (all arm : List BranchTree) where
  abbrev yes : Tree
  yes = conditional [] e arm

  abbrev whole : Tree
  whole = conditional (asked p c ∷ []) e all

  pub arm_alone : AreArms all arm [] → whole ≡ tree.conditional p c yes empty
  arm_alone h = ap (conditional (asked p c ∷ []) e) h.all_are ∙ arm_is (asked p c ∷ []) [] [] e arm h.ends

  -- after the `:`
  second : (y : BranchTree) (ys : List BranchTree) → AreArms all arm (y ∷ ys) → whole ≡ conditional (answered p c yes ∷ []) y.expr ys
  second y ys h =
      ap (conditional (asked p c ∷ []) e) h.all_are ∙ arm_is (asked p c ∷ []) (y ∷ ys) [] e arm h.ends
      ∙ ap (λ o. conditional (framed y.place o (asked p c ∷ []) yes) y.expr ys) (is_else (waiting_after 0 arm) y ys h.ends)

  pub two_arms : (y : BranchTree) (ys more : List BranchTree) → AreArms all arm (y ∷ ys) → AreArms ys more [] → whole ≡ tree.conditional p c yes (conditional [] y.expr ys)
  two_arms y ys more h i =
      let same : more ≡ ys = sym (i.all_are ∙ append-nil more) in
      second y ys h
      ∙ ap (conditional (answered p c yes ∷ []) y.expr) i.all_are
      ∙ arm_is (answered p c yes ∷ []) [] [] y.expr more i.ends
      ∙ ap (λ xs. tree.conditional p c yes (conditional [] y.expr xs)) same

-- ---- `a ?: b`

-- what waits for its right operand below all else stays there
module _ (x : Tree) (xs : List BranchTree) where
  abbrev Stays : Type 0
  Stays = (q : Place) (a : Tree) (fs : List Frame) → is_other (conditional (fs ++ preferred q a ∷ []) x xs) ≡ true

  else_stays : Stays → (p q : Place) (a : Tree) (fs : List Frame) (e : Tree) (k : ℕ) → waits fs ≡ k → is_other (conditional (turned p (fs ++ preferred q a ∷ []) e) x xs) ≡ true
  else_stays stays p q a fs e zero w =
      ap (λ hs. is_other (conditional hs x xs)) (past p fs (preferred q a ∷ []) e w) ∙ stays p (tree.elvis q a (ended fs e)) []
  else_stays stays p q a fs e (suc k) w =
      ap (λ hs. is_other (conditional hs x xs)) (inside p fs (preferred q a ∷ []) e k w).0 ∙ stays q a (turned p fs e)

  operator_stays : Stays → (p q : Place) (o : BranchOperator) (a : Tree) (fs : List Frame) (e : Tree) → is_other (conditional (framed p o (fs ++ preferred q a ∷ []) e) x xs) ≡ true
  operator_stays stays p q branch.Then a fs e = stays q a (asked p e ∷ fs)
  operator_stays stays p q branch.Elvis a fs e = stays q a (preferred p e ∷ fs)
  operator_stays stays p q branch.Else a fs e = else_stays stays p q a fs e (waits fs) refl

pub stays_preferred : (e : Tree) (xs : List BranchTree) (q : Place) (a : Tree) (fs : List Frame) → is_other (conditional (fs ++ preferred q a ∷ []) e xs) ≡ true
stays_preferred e [] q a fs = ap is_other (ended_both fs (preferred q a ∷ []) e)
stays_preferred e (x ∷ xs) q a fs = operator_stays x.expr xs (stays_preferred x.expr xs) x.place q x.operator a fs e

-- operands that begin with `?:`, or with a `:` that no condition waits for
pub elvis_first : (a : Tree) (x : BranchTree) (xs : List BranchTree) → x.operator ≡ branch.Elvis → is_other (conditional [] a (x ∷ xs)) ≡ true
elvis_first a x xs h = ap (λ o. is_other (conditional (framed x.place o [] a) x.expr xs)) h ∙ stays_preferred x.expr xs x.place a []

pub else_first : (a : Tree) (x : BranchTree) (xs : List BranchTree) → x.operator ≡ branch.Else → is_other (conditional [] a (x ∷ xs)) ≡ true
else_first a x xs h = ap (λ o. is_other (conditional (framed x.place o [] a) x.expr xs)) h ∙ stays_preferred x.expr xs x.place a []

-- a second `:` that no condition waits for
pub three_arms : (p : Place) (c e : Tree) (all arm : List BranchTree) (y z : BranchTree) (ys more zs : List BranchTree) → AreArms all arm (y ∷ ys) → AreArms ys more (z ∷ zs)
    → is_other (conditional (asked p c ∷ []) e all) ≡ true
three_arms p c e all arm y z ys more zs h i =
    let yes : Tree = conditional [] e arm in
    let no : Tree = conditional [] y.expr more in
    ap is_other (second p c e all arm y ys h)
    ∙ ap (λ xs. is_other (conditional (answered p c yes ∷ []) y.expr xs)) i.all_are
    ∙ ap is_other (arm_is (answered p c yes ∷ []) (z ∷ zs) [] y.expr more i.ends)
    ∙ ap (λ o. is_other (conditional (framed z.place o (answered p c yes ∷ []) no) z.expr zs)) (is_else (waiting_after 0 more) z zs i.ends)
    ∙ stays_preferred z.expr zs z.place (tree.conditional p c yes no) []

-- ---- operands so far

after_none : (m : Option ℕ) → waiting_or_none m (λ k. Some k) ≡ m
after_none None = refl
after_none (Some k) = refl

append_from : (m : Option ℕ) (xs : List BranchTree) (x : BranchTree) → ((j : ℕ) → waiting_after j (xs ++ x ∷ []) ≡ waiting_or_none (waiting_after j xs) (waiting x.operator))
    → waiting_or_none m (λ j. waiting_after j (xs ++ x ∷ [])) ≡ waiting_or_none (waiting_or_none m (λ j. waiting_after j xs)) (waiting x.operator)
append_from None xs x h = refl
append_from (Some j) xs x h = h j

-- one operand more
pub waiting_after-append : (k : ℕ) (xs : List BranchTree) (x : BranchTree) → waiting_after k (xs ++ x ∷ []) ≡ waiting_or_none (waiting_after k xs) (waiting x.operator)
waiting_after-append k [] x = after_none (waiting x.operator k)
waiting_after-append k (y ∷ xs) x = append_from (waiting y.operator k) xs x (λ j. waiting_after-append j xs x)

pub one_more : (xs : List Branch) (i : ℕ) (x : Branch) (k : ℕ) (o : BranchOperator) → i < length xs → x ≡ get_or xs i x → (view_branch x).operator ≡ o
    → waiting_after 0 (map view_branch (take i xs)) ≡ Some k → waiting_after 0 (map view_branch (take (i + 1) xs)) ≡ waiting o k
one_more xs i x k o within is operator h =
    ap (waiting_after 0) (map_more view_branch xs i x within)
    ∙ ap (λ y. waiting_after 0 (map view_branch (take i xs) ++ view_branch y ∷ [])) (sym is)
    ∙ waiting_after-append 0 (map view_branch (take i xs)) (view_branch x)
    ∙ ap (λ m. waiting_or_none m (waiting (view_branch x).operator)) h
    ∙ ap (λ q. waiting q k) operator

pub closed_by : (k : ℕ) → (k ≡ 0 → ⊥) → closed_one k ≡ Some (k - 1)
closed_by zero h = absurd (h refl)
closed_by (suc m) h = ap Some (omega arith)
