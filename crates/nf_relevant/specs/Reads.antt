-- Which names an expression reads, and which environments are alike for it.
use Rattle.std.specs.Prelude.{◌≡◌, ℕ, List, true}
use Rattle.nf_builtins.specs.Natives.{is_among}
use Rattle.nf_ast.specs.Tree as tree
use Rattle.nf_ast.specs.Tree.{Tree, empty, cons}
use Rattle.nf_placed.specs.Scope.{Env, value_in}

-- each name that stands in an expression is one of these, also where the expression itself binds it
abbrev pub Reads : List (List ℕ) → Tree → Type 0
Reads among (cons a more) = Reads among a × Reads among more
Reads among (tree.name p n) = is_among n among ≡ true
Reads among (tree.template p k xs) = Reads among xs
Reads among (tree.hole p e) = Reads among e
Reads among (tree.list p xs) = Reads among xs
Reads among (tree.map p xs) = Reads among xs
Reads among (tree.pair k e) = Reads among e
Reads among (tree.closure p ps b) = Reads among b
Reads among (tree.label n e) = Reads among e
Reads among (tree.prefix p k e) = Reads among e
Reads among (tree.binary p k a b) = Reads among a × Reads among b
Reads among (tree.conditional p c a b) = Reads among c × Reads among a × Reads among b
Reads among (tree.elvis p a b) = Reads among a × Reads among b
Reads among (tree.property e n) = Reads among e
Reads among (tree.safe_property e n) = Reads among e
Reads among (tree.index p e i) = Reads among e × Reads among i
Reads among (tree.call p f xs) = Reads among f × Reads among xs
Reads among (tree.named n e) = Reads among e
Reads among (tree.call_with f c) = Reads among f × Reads among c
Reads among (tree.define p n e) = Reads among e
Reads among (tree.define_all p ns e) = Reads among e
Reads among (tree.assign n e) = Reads among e
Reads among (tree.return_ p e) = Reads among e
Reads among (tree.choice p c b last) = Reads among c × Reads among b × Reads among last
Reads among (tree.statements b) = Reads among b
Reads among _ = Unit {0}

-- environments whose captured names may differ, but where these names have the same values
pub record AreAlike (among : List (List ℕ)) (one other : Env) : Type 0 where
  pub names : one.names ≡ other.names
  pub captured : (n : List ℕ) → is_among n among ≡ true → value_in n one.captured ≡ value_in n other.captured
  pub functions : one.functions ≡ other.functions
  pub patterns : one.patterns ≡ other.patterns
  pub titles : one.titles ≡ other.titles
  pub answer : one.answer ≡ other.answer
  pub in_process : one.in_process ≡ other.in_process
