-- What a script is, apart from where it lies in memory.
use Rattle.std.specs.Prelude.{ℤ, ℕ, Bool, List}
use Rattle.nf_value.specs.declared.place.Place.{Place}
use Rattle.nf_ast.specs.declared.operators.InfixOperator.{InfixOperator}
use Rattle.nf_ast.specs.declared.operators.PrefixOperator.{PrefixOperator}
use Rattle.nf_token.specs.declared.token.PlainKind.{PlainKind}
use Rattle.nf_token.specs.declared.token.TemplateKind.{TemplateKind}

pub data Tree : Type 0 where
  -- no part, and a part with those after it
  empty : Tree
  cons : Tree → Tree → Tree
  -- a token of which only its place counts
  point : Place → Tree
  -- a name where a name stands by itself
  name : Place → List ℕ → Tree
  -- ---- expressions
  number : Place → ℤ → Tree
  text : Place → PlainKind → List ℕ → Tree
  pattern : Place → List ℕ → Tree
  -- its parts are texts (`piece`) and holes
  template : Place → TemplateKind → Tree → Tree
  piece : Place → List ℕ → Tree
  hole : Place → Tree → Tree
  truth : Place → Bool → Tree
  null : Place → Tree
  -- items, and pairs
  list : Place → Tree → Tree
  map : Place → Tree → Tree
  pair : Tree → Tree → Tree
  -- its parameters, and its statements or labels
  closure : Place → Tree → Tree → Tree
  params : Tree → Tree
  label : Tree → Tree → Tree
  -- an operator with its operand, or with both; the parser has them with empty operands until these are read
  prefix : Place → PrefixOperator → Tree → Tree
  binary : Place → InfixOperator → Tree → Tree → Tree
  -- `c ? a : b`, and `a ?: b`
  conditional : Place → Tree → Tree → Tree → Tree
  elvis : Place → Tree → Tree → Tree
  -- `e.name` and `e?.name`, with the name
  property : Tree → Tree → Tree
  safe_property : Tree → Tree → Tree
  index : Place → Tree → Tree → Tree
  call : Place → Tree → Tree → Tree
  -- an argument with its name
  named : Tree → Tree → Tree
  -- a call with the closure after it
  call_with : Tree → Tree → Tree
  -- ---- statements
  define : Place → Tree → Tree → Tree
  define_all : Place → Tree → Tree → Tree
  assign : Tree → Tree → Tree
  return_ : Place → Tree → Tree
  -- a condition, its statements, and what stands after `else`: nothing, statements, or a choice
  choice : Place → Tree → Tree → Tree → Tree
  statements : Tree → Tree
  println : Place → Tree → Tree
  log : Place → Tree → Tree → Tree
  -- ---- tops
  -- directives, inputs, outputs, the script and the stub
  process : Place → Tree → Tree → Tree → Tree → Tree → Tree → Tree
  directive : Tree → Tree → Tree
  -- a section with its parts
  section : Place → Tree → Tree
  tuple : Place → Tree → Tree
  -- `val` or `path` of a name or an expression, and a word alone
  val : Place → Tree → Tree
  path : Place → Tree → Tree
  stdin : Place → Tree
  stdout : Place → Tree
  -- an output with its options
  output : Tree → Tree → Tree
  -- a name or none, and its statements or parts
  workflow : Place → Tree → Tree → Tree
  parts : Tree → Tree → Tree → Tree
  function : Place → Tree → Tree → Tree → Tree
  parameter : Place → Tree → Tree → Tree
  dsl : Place → Tree

-- a part at the end of a list
abbrev pub snoc : Tree → Tree → Tree
snoc (cons a more) b = cons a (snoc more b)
snoc _ b = cons b empty

-- where a token stands
abbrev pub place_of : Tree → Place
place_of (point p) = p
place_of (name p n) = p
place_of _ = record { line = 0; col = 0 }
