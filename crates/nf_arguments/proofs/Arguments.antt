-- What arguments in brackets are in the meaning of scripts.
use Rattle.std.proofs.Common.{◌≡◌, ◌∙◌, ◌+◌, ◌<◌, ◌≤◌, ℕ, true, false, List, ◌∷◌, length, get_or, map, drop, refl, sym, ap, subst, rules}
use Rattle.std.specs.Prelude.{Option, Some, None}
use Rattle.std.proofs.lemmas.Bool.{false≢true}
use Rattle.std.proofs.lemmas.List.{drop_all}
use Rattle.nf_value.specs.declared.place.Place.{Place}
use Rattle.nf_ast.specs.declared.operators.InfixOperator.{InfixOperator}
use Rattle.nf_ast.specs.declared.operators.InfixOperator.TheVariants as infix_operator
use Rattle.nf_ast.specs.declared.expr.Arg.{Arg, the_lemmas}
use Rattle.nf_ast.specs.Tree as tree
use Rattle.nf_ast.specs.Tree.{Tree}
use Rattle.nf_ast.specs.View.{view, view_arg, with_name}
use Rattle.nf_slips.specs.Forms.{is_expression}
use Rattle.nf_meaning.specs.Arguments as meaning
use Rattle.nf_meaning.specs.Workflow.{Part, argument_of, of_binary, part_of}
use Rattle.nf_arguments.specs.Written.{arg_of, args_in}
use Rattle.nf_arguments.proofs.Lists.{left}

binary_argument : (k : InfixOperator) (p : Place) (x y : Tree) (a b : Part)
    → (of_binary k (tree.binary p k x y) x a b).argument ≡ argument_of (tree.binary p k x y) (of_binary k (tree.binary p k x y) x a b).thing
binary_argument infix_operator.Pipe p x y a b = refl
binary_argument _ p x y a b = refl

-- an expression as an argument
argument_is : (e : Tree) → is_expression e ≡ true → (part_of e).argument ≡ argument_of e (part_of e).thing
argument_is (tree.number p z) h = refl
argument_is (tree.text p k t) h = refl
argument_is (tree.pattern p t) h = refl
argument_is (tree.template p k xs) h = refl
argument_is (tree.truth p b) h = refl
argument_is (tree.null p) h = refl
argument_is (tree.name p n) h = refl
argument_is (tree.list p xs) h = refl
argument_is (tree.map p xs) h = refl
argument_is (tree.closure p ps b) h = refl
argument_is (tree.prefix p k e) h = refl
argument_is (tree.binary p k x y) h = binary_argument k p x y (part_of x) (part_of y)
argument_is (tree.conditional p c x y) h = refl
argument_is (tree.elvis p x y) h = refl
argument_is (tree.property e n) h = refl
argument_is (tree.safe_property e n) h = refl
argument_is (tree.index p e i) h = refl
argument_is (tree.call p f xs) h = refl
argument_is (tree.call_with f b) h = refl
argument_is _ h = absurd (false≢true h)

abbrev with_label : Option (Place × List ℕ) → Tree → meaning.Arg
with_label n e = record { label = n; tree = e; thing = (part_of e).thing }

named_is : (n : Option (Place × List ℕ)) (e : Tree) → is_expression e ≡ true → (part_of (with_name n e)).argument ≡ with_label n e
named_is None e h = argument_is e h
named_is (Some n) e h = refl

view_is : (x : Arg) → view_arg x ≡ with_name x.name (view x.value)
view_is x = search (rules, the_lemmas)

pub arg_is : (x : Arg) → is_expression (view x.value) ≡ true → (part_of (view_arg x)).argument ≡ arg_of x
arg_is x h = ap (λ t. (part_of t).argument) (view_is x) ∙ named_is x.name (view x.value) h

-- ---- one after the other

abbrev pub AreRead : List Arg → Type 0
AreRead xs = args_in xs ≡ map arg_of xs

cons_read : (x : Arg) (xs : List Arg) → is_expression (view x.value) ≡ true → AreRead xs → AreRead (x ∷ xs)
cons_read x xs e h = ap (λ y. y ∷ args_in xs) (arg_is x e) ∙ ap (λ ys. arg_of x ∷ ys) h

module _ (xs : List Arg) (i : ℕ) where
  pub one_read : (x : Arg) → i < length xs → x ≡ get_or xs i x → is_expression (view x.value) ≡ true → (AreRead (drop i xs) → AreRead xs) → AreRead (drop (i + 1) xs) → AreRead xs
  one_read x lt is e go h = go (subst AreRead (sym (left xs i x lt is)) (cons_read x (drop (i + 1) xs) e h))

  pub all_read : length xs ≤ i → (AreRead (drop i xs) → AreRead xs) → AreRead xs
  all_read le go = go (subst AreRead (sym (drop_all i xs le)) refl)
