-- What chains are, where nothing stands beside their first part.
use Rattle.std.proofs.Common.{◌≡◌, Bool, true, false, codes, List, [], ◌∷◌, map, refl, sym, ◌∙◌, ap}
use Rattle.std.specs.Prelude.{if◌then◌else◌}
use Rattle.std.specs.Str.{bytes_eq}
use Rattle.std.proofs.lemmas.Bool.{false≢true}
use Rattle.nf_ast.specs.Tree as tree
use Rattle.nf_ast.specs.Tree.{Tree}
use Rattle.nf_ast.specs.declared.expr.Prefix.{Prefix}
use Rattle.nf_ast.specs.declared.expr.Operand.{Operand}
use Rattle.nf_ast.specs.declared.expr.Branch.{Branch}
use Rattle.nf_ast.specs.declared.expr.Postfix.{Postfix}
use Rattle.nf_ast.specs.View.{operands, prefixes, conditional, postfix, view_operand, view_branch, view_postfix}
use Rattle.nf_placed.specs.Body.{is_math}
use Rattle.nf_names_used.specs.declared.uses.Use.{Use}
use Rattle.nf_names_used.specs.declared.uses.UseKind.TheVariants as kind
use Rattle.nf_names_used.specs.Uses.{used, defined_by, callee_uses, text_uses}
use Rattle.nf_names_used.specs.Leaves.{LeafTree, name, text, other, leaf_of, is_nil}
use Rattle.nf_names_used.proofs.Chains.{is_chain, operands_chain, branches_chain}
use Rattle.nf_names_used.proofs.Parts.{parts_chain}

chain_leaf : (t : Tree) → is_chain t ≡ true → leaf_of t ≡ other
chain_leaf (tree.name p n) h = absurd (false≢true h)
chain_leaf (tree.text p k s) h = absurd (false≢true h)
chain_leaf _ h = refl

pub prefixes_leaf : (ms : List Prefix) (e : Tree) → leaf_of (prefixes ms e) ≡ (if is_nil ms then leaf_of e else other)
prefixes_leaf [] e = refl
prefixes_leaf (m ∷ ms) e = refl

pub operands_leaf : (a : Tree) (ys : List Operand) → leaf_of (operands a (map view_operand ys)) ≡ (if is_nil ys then leaf_of a else other)
operands_leaf a [] = refl
operands_leaf a (y ∷ ys) = chain_leaf (operands a (map view_operand (y ∷ ys))) (operands_chain a y ys)

pub branches_leaf : (a : Tree) (ys : List Branch) → leaf_of (conditional [] a (map view_branch ys)) ≡ (if is_nil ys then leaf_of a else other)
branches_leaf a [] = refl
branches_leaf a (y ∷ ys) = chain_leaf (conditional [] a (map view_branch (y ∷ ys))) (branches_chain a (view_branch y) (map view_branch ys))

pub parts_leaf : (a : Tree) (ys : List Postfix) → leaf_of (postfix a (map view_postfix ys)) ≡ (if is_nil ys then leaf_of a else other)
parts_leaf a [] = refl
parts_leaf a (y ∷ ys) = chain_leaf (postfix a (map view_postfix (y ∷ ys))) (parts_chain a y ys)

pub chained : (t u : Tree) (b n : Bool) (r f a : LeafTree) → t ≡ u → leaf_of u ≡ (if n then a else other) → r ≡ (if b then f else other) → b ≡ n → f ≡ a → r ≡ leaf_of t
chained t u b n r f a is h e eb ef = e ∙ ap (λ x. if x then f else other) eb ∙ ap (λ x. if n then x else other) ef ∙ sym h ∙ ap leaf_of (sym is)

-- ---- what leaves say

-- a name by itself, or what is used otherwise
abbrev pub by_leaf : LeafTree → List Use → List Use
by_leaf (name p n) us = used kind.Function p n ∷ []
by_leaf (text p s) us = us
by_leaf other us = us

pub callee_leaf : (t : Tree) (us : List Use) → callee_uses t us ≡ by_leaf (leaf_of t) us
callee_leaf (tree.name p n) us = refl
callee_leaf (tree.text p k s) us = refl
callee_leaf _ us = refl

abbrev pub math_leaf : LeafTree → Bool
math_leaf (name p n) = bytes_eq n (codes "Math")
math_leaf (text p s) = false
math_leaf other = false

pub is_math_leaf : (t : Tree) → is_math t ≡ math_leaf (leaf_of t)
is_math_leaf (tree.name p n) = refl
is_math_leaf (tree.text p k s) = refl
is_math_leaf _ = refl

abbrev pub pattern_leaf : LeafTree → List Use
pattern_leaf (name p n) = []
pattern_leaf (text p s) = used kind.Pattern p s ∷ []
pattern_leaf other = []

pub text_leaf : (t : Tree) → text_uses t ≡ pattern_leaf (leaf_of t)
text_leaf (tree.name p n) = refl
text_leaf (tree.text p k s) = refl
text_leaf _ = refl

-- a name defines nothing
abbrev pub is_named : LeafTree → Bool
is_named (name p n) = true
is_named (text p s) = false
is_named other = false

pub named_defines : (t : Tree) → is_named (leaf_of t) ≡ true → defined_by t ≡ []
named_defines (tree.define p n e) h = absurd (false≢true h)
named_defines (tree.define_all p ns e) h = absurd (false≢true h)
named_defines _ h = refl
