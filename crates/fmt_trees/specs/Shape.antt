-- Which trees the rules of the grammar make.
use Rattle.std.specs.Prelude.{ℕ, ℤ, Bool, List, ◌∷◌}
use Rattle.nf_value.specs.declared.place.Place.{Place}
use Rattle.nf_token.specs.declared.token.PlainKind.{PlainKind}
use Rattle.nf_token.specs.declared.token.TemplateKind.{TemplateKind}
use Rattle.nf_ast.specs.declared.operators.InfixOperator.{InfixOperator}
use Rattle.nf_ast.specs.declared.operators.PrefixOperator.{PrefixOperator}
use Rattle.nf_ast.specs.Tree as tree
use Rattle.nf_ast.specs.Tree.{Tree, empty, cons, name}

-- the part of a script that a tree stands for
pub data Sort : Type 0 where
  expr a_name arg key pair pieces holes closure params body statement choice block last label : Sort
  directive input inputs output_value outputs output task emit inside top : Sort
  -- any number in a row
  row : Sort → Sort
  -- one, or none
  maybe : Sort → Sort
  -- a section with these parts
  section : Sort → Sort

pub data Shaped : Sort → Tree → Type 0 where
  no_more : {s : Sort} → Shaped (row s) empty
  one_more : {s : Sort} {x xs : Tree} → Shaped s x → Shaped (row s) xs → Shaped (row s) (cons x xs)
  named : {p : Place} {s : List ℕ} → Shaped a_name (name p s)
  -- ---- expressions
  variable : {p : Place} {s : List ℕ} → Shaped expr (name p s)
  number : {p : Place} {n : ℤ} → Shaped expr (tree.number p n)
  text : {p : Place} {q : PlainKind} {s : List ℕ} → Shaped expr (tree.text p q s)
  pattern_text : {p : Place} {s : List ℕ} → Shaped expr (tree.pattern p s)
  truth : {p : Place} {b : Bool} → Shaped expr (tree.truth p b)
  null : {p : Place} → Shaped expr (tree.null p)
  template : {p : Place} {q : TemplateKind} {xs : Tree} → Shaped pieces xs → Shaped expr (tree.template p q xs)
  list : {p : Place} {xs : Tree} → Shaped (row expr) xs → Shaped expr (tree.list p xs)
  map : {p : Place} {xs : Tree} → Shaped (row pair) xs → Shaped expr (tree.map p xs)
  function : {x : Tree} → Shaped closure x → Shaped expr x
  prefixed : {p : Place} {x : PrefixOperator} {e : Tree} → Shaped expr e → Shaped expr (tree.prefix p x e)
  binary : {p : Place} {x : InfixOperator} {a b : Tree} → Shaped expr a → Shaped expr b → Shaped expr (tree.binary p x a b)
  conditional : {p : Place} {c a b : Tree} → Shaped expr c → Shaped expr a → Shaped expr b → Shaped expr (tree.conditional p c a b)
  elvis : {p : Place} {a b : Tree} → Shaped expr a → Shaped expr b → Shaped expr (tree.elvis p a b)
  property : {e n : Tree} → Shaped expr e → Shaped a_name n → Shaped expr (tree.property e n)
  safe_property : {e n : Tree} → Shaped expr e → Shaped a_name n → Shaped expr (tree.safe_property e n)
  index : {p : Place} {e x : Tree} → Shaped expr e → Shaped expr x → Shaped expr (tree.index p e x)
  call : {p : Place} {e xs : Tree} → Shaped expr e → Shaped (row arg) xs → Shaped expr (tree.call p e xs)
  call_with : {e c : Tree} → Shaped expr e → Shaped closure c → Shaped expr (tree.call_with e c)
  -- ---- parts of expressions
  unnamed : {e : Tree} → Shaped expr e → Shaped arg e
  with_name : {n e : Tree} → Shaped a_name n → Shaped expr e → Shaped arg (tree.named n e)
  by_name : {p : Place} {s : List ℕ} → Shaped key (name p s)
  by_text : {p : Place} {q : PlainKind} {s : List ℕ} → Shaped key (tree.text p q s)
  by_nothing : {p : Place} {q : TemplateKind} → Shaped key (tree.template p q empty)
  by_piece : {p r : Place} {q : TemplateKind} {b : ℕ} {s : List ℕ} → Shaped key (tree.template p q (cons (tree.piece r (b ∷ s)) empty))
  pair_of : {k e : Tree} → Shaped key k → Shaped expr e → Shaped pair (tree.pair k e)
  -- no two texts of a template stand in a row, and none is empty
  no_text : {xs : Tree} → Shaped holes xs → Shaped pieces xs
  a_text : {r : Place} {b : ℕ} {s : List ℕ} {xs : Tree} → Shaped holes xs → Shaped pieces (cons (tree.piece r (b ∷ s)) xs)
  no_hole : Shaped holes empty
  a_hole : {r : Place} {e xs : Tree} → Shaped expr e → Shaped pieces xs → Shaped holes (cons (tree.hole r e) xs)
  -- ---- closures
  closure_of : {p : Place} {ps xs : Tree} → Shaped params ps → Shaped body xs → Shaped closure (tree.closure p ps xs)
  no_params : Shaped params empty
  some_params : {ns : Tree} → Shaped (row a_name) ns → Shaped params (tree.params ns)
  of_statements : {xs : Tree} → Shaped (row statement) xs → Shaped body xs
  of_labels : {x xs : Tree} → Shaped label x → Shaped (row label) xs → Shaped body (cons x xs)
  label_of : {n e : Tree} → Shaped a_name n → Shaped expr e → Shaped label (tree.label n e)
  -- ---- statements
  alone : {e : Tree} → Shaped expr e → Shaped statement e
  define : {p : Place} {n e : Tree} → Shaped a_name n → Shaped expr e → Shaped statement (tree.define p n e)
  define_all : {p : Place} {n ns e : Tree} → Shaped a_name n → Shaped (row a_name) ns → Shaped expr e → Shaped statement (tree.define_all p (cons n ns) e)
  assign : {n e : Tree} → Shaped a_name n → Shaped expr e → Shaped statement (tree.assign n e)
  return_ : {p : Place} {e : Tree} → Shaped expr e → Shaped statement (tree.return_ p e)
  println : {p : Place} {e : Tree} → Shaped expr e → Shaped statement (tree.println p e)
  log : {p : Place} {n e : Tree} → Shaped a_name n → Shaped expr e → Shaped statement (tree.log p n e)
  choose : {x : Tree} → Shaped choice x → Shaped statement x
  choice_of : {p : Place} {c b e : Tree} → Shaped expr c → Shaped block b → Shaped last e → Shaped choice (tree.choice p c b e)
  block_of : {xs : Tree} → Shaped (row statement) xs → Shaped block (tree.statements xs)
  no_last : Shaped last empty
  last_block : {x : Tree} → Shaped block x → Shaped last x
  last_choice : {x : Tree} → Shaped choice x → Shaped last x
  -- ---- what may stand or not, and sections
  absent : {s : Sort} → Shaped (maybe s) empty
  present : {s : Sort} {x : Tree} → Shaped s x → Shaped (maybe s) x
  section_of : {s : Sort} {p : Place} {xs : Tree} → Shaped s xs → Shaped (section s) (tree.section p xs)
  -- ---- processes
  directive_of : {n xs : Tree} → Shaped a_name n → Shaped (row arg) xs → Shaped directive (tree.directive n xs)
  val_input : {p : Place} {n : Tree} → Shaped a_name n → Shaped input (tree.val p n)
  path_input : {p : Place} {n : Tree} → Shaped a_name n → Shaped input (tree.path p n)
  stdin_input : {p : Place} → Shaped input (tree.stdin p)
  one_input : {x : Tree} → Shaped input x → Shaped inputs x
  tuple_input : {p : Place} {x xs : Tree} → Shaped input x → Shaped (row input) xs → Shaped inputs (tree.tuple p (cons x xs))
  val_output : {p : Place} {e : Tree} → Shaped expr e → Shaped output_value (tree.val p e)
  path_output : {p : Place} {e : Tree} → Shaped expr e → Shaped output_value (tree.path p e)
  stdout_output : {p : Place} → Shaped output_value (tree.stdout p)
  one_output : {x : Tree} → Shaped output_value x → Shaped outputs x
  tuple_output : {p : Place} {x xs : Tree} → Shaped output_value x → Shaped (row output_value) xs → Shaped outputs (tree.tuple p (cons x xs))
  output_of : {x os : Tree} → Shaped outputs x → Shaped (row label) os → Shaped output (tree.output x os)
  script_section : {x : Tree} → Shaped (section (row statement)) x → Shaped task x
  script_text : {p : Place} {q : PlainKind} {s : List ℕ} → Shaped task (tree.text p q s)
  script_template : {p : Place} {q : TemplateKind} {xs : Tree} → Shaped pieces xs → Shaped task (tree.template p q xs)
  -- ---- workflows and other tops
  emit_assign : {n e : Tree} → Shaped a_name n → Shaped expr e → Shaped emit (tree.assign n e)
  emit_alone : {e : Tree} → Shaped expr e → Shaped emit e
  only_statements : {xs : Tree} → Shaped (row statement) xs → Shaped inside xs
  some_parts : {t b e : Tree} → Shaped (maybe (section (row a_name))) t → Shaped (section (row statement)) b → Shaped (maybe (section (row emit))) e → Shaped inside (tree.parts t b e)
  a_process : {p : Place} {n ds xs ys t s : Tree} → Shaped a_name n → Shaped (row directive) ds → Shaped (maybe (section (row inputs))) xs → Shaped (maybe (section (row output))) ys → Shaped task t → Shaped (maybe (section (row statement))) s → Shaped top (tree.process p n ds xs ys t s)
  a_workflow : {p : Place} {n b : Tree} → Shaped (maybe a_name) n → Shaped inside b → Shaped top (tree.workflow p n b)
  a_function : {p : Place} {n ps b : Tree} → Shaped a_name n → Shaped (row a_name) ps → Shaped (row statement) b → Shaped top (tree.function p n ps b)
  a_parameter : {p : Place} {n e : Tree} → Shaped a_name n → Shaped expr e → Shaped top (tree.parameter p n e)
  a_println : {p : Place} {e : Tree} → Shaped expr e → Shaped top (tree.println p e)
  a_log : {p : Place} {n e : Tree} → Shaped a_name n → Shaped expr e → Shaped top (tree.log p n e)
  a_dsl : {p : Place} → Shaped top (tree.dsl p)
