-- Whether an expression leads to channels, by what stands last in it.
use Rattle.std.proofs.Common.{◌≡◌, ◌∙◌, ◌+◌, ◌<◌, ◌≤◌, ℕ, Bool, true, false, List, length, get_or, drop, refl, sym, ap}
use Rattle.std.specs.Prelude.{◌||◌}
use Rattle.std.proofs.lemmas.List.{drop_all}
use Rattle.std.proofs.lemmas.Bool.{false≢true}
use Rattle.nf_ast.specs.declared.expr.Expr.{Expr}
use Rattle.nf_ast.specs.declared.operators.InfixOperator.{InfixOperator}
use Rattle.nf_ast.specs.declared.operators.InfixOperator.TheVariants as infix_operator
use Rattle.nf_value.specs.declared.place.Place.{Place}
use Rattle.nf_ast.specs.Tree as tree
use Rattle.nf_ast.specs.Tree.{Tree}
use Rattle.nf_ast.specs.View.{view, views}
use Rattle.nf_fronts.specs.Lasts.{is_other}
use Rattle.nf_meaning.specs.Expressions.{Leading, Leads, leading, never}
use Rattle.nf_leading.proofs.Lists.{left}

abbrev pub as_alone : Bool → Leading
as_alone b = record { alone = b; called = false }

abbrev pub as_both : Bool → Leading
as_both b = record { alone = b; called = b }

module _ (l : Leads) (t : Tree) (r : Leading) where
  pub name_arm : (p : Place) (n : List ℕ) (b c : Bool) → t ≡ tree.name p n → b ≡ l.name n → c ≡ l.call n → r ≡ record { alone = b; called = c } → r ≡ leading l t
  name_arm p n b c is hb hc m =
      m ∙ ap (λ (x : Bool). let y : Leading = record { alone = x; called = c } in y) hb ∙ ap (λ (x : Bool). let y : Leading = record { alone = l.name n; called = x } in y) hc ∙ sym (ap (leading l) is)

  -- as an expression alone: an item or an arm that leads there
  pub alone_arm : (u : Tree) (b : Bool) → t ≡ u → leading l u ≡ as_alone (leading l u).alone → b ≡ (leading l u).alone → r ≡ as_alone b → r ≡ leading l t
  alone_arm u b is same h m = m ∙ ap as_alone h ∙ sym same ∙ sym (ap (leading l) is)

  pub both_arm : (u : Tree) (b : Bool) → t ≡ u → leading l u ≡ as_both (leading l u).alone → b ≡ (leading l u).alone → r ≡ as_both b → r ≡ leading l t
  both_arm u b is same h m = m ∙ ap as_both h ∙ sym same ∙ sym (ap (leading l) is)

pub or_alike : (a b x y : Bool) → a ≡ b → x ≡ y → (a || x) ≡ (b || y)
or_alike a b x y h k = ap (λ z. z || x) h ∙ ap (λ z. b || z) k

-- ---- anything else leads nowhere

binary_never : (l : Leads) (p : Place) (k : InfixOperator) (a b : Tree) → is_other (tree.binary p k a b) ≡ true → leading l (tree.binary p k a b) ≡ never
binary_never l p infix_operator.Pipe a b h = absurd (false≢true h)
binary_never l p _ a b h = refl

pub other_never : (l : Leads) (t : Tree) → is_other t ≡ true → leading l t ≡ never
other_never l (tree.number p z) h = refl
other_never l (tree.text p k s) h = refl
other_never l (tree.pattern p s) h = refl
other_never l (tree.template p k xs) h = refl
other_never l (tree.truth p b) h = refl
other_never l (tree.null p) h = refl
other_never l (tree.map p xs) h = refl
other_never l (tree.closure p ps b) h = refl
other_never l (tree.prefix p k e) h = refl
other_never l (tree.binary p k a b) h = binary_never l p k a b h
other_never l (tree.elvis p a b) h = refl
other_never l (tree.safe_property e n) h = refl
other_never l _ h = absurd (false≢true h)

pub other_arm : (l : Leads) (t : Tree) (r : Leading) → is_other t ≡ true → r ≡ as_alone false → r ≡ leading l t
other_arm l t r h m = m ∙ sym (other_never l t h)

-- ---- a loop over the items of a list

module _ (l : Leads) (es : List Expr) (i : ℕ) where
  abbrev leads : List Expr → Bool
  leads xs = (leading l (views xs)).alone

  pub one_leads : (e : Expr) (b : Bool) → i < length es → e ≡ get_or es i e → b ≡ (leading l (view e)).alone → b ≡ true → leads (drop i es) ≡ leads es → true ≡ leads es
  one_leads e b lt is h does inv =
      sym (sym inv ∙ ap leads (left es i e lt is) ∙ ap (λ c. c || leads (drop (i + 1) es)) (sym h ∙ does))

  pub one_passed : (e : Expr) (b : Bool) → i < length es → e ≡ get_or es i e → b ≡ (leading l (view e)).alone → b ≡ false → leads (drop i es) ≡ leads es → leads (drop (i + 1) es) ≡ leads es
  one_passed e b lt is h isnt inv =
      sym (ap leads (left es i e lt is) ∙ ap (λ c. c || leads (drop (i + 1) es)) (sym h ∙ isnt)) ∙ inv

  pub none_leads : length es ≤ i → leads (drop i es) ≡ leads es → false ≡ leads es
  none_leads le inv = sym (sym inv ∙ ap leads (drop_all i es le))
