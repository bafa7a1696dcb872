-- Names that tables have: of sources, operators and methods.
use Rattle.std.specs.Prelude.{ℕ, List, [], ◌∷◌, ◌++◌, map, codes, is_some, if◌then◌else◌}
use Rattle.nf_builtins.specs.Natives.{is_among}
use Rattle.nf_builtins.specs.Method.{method_name}
use Rattle.nf_builtins.specs.Call.{builtin_rows}
use Rattle.nf_optable.specs.Operator.{operator_name}
use Rattle.nf_optable.specs.Rows.{operator_rows, row_of}
use Rattle.nf_order.specs.Callees.{Callee, a_function, an_operator, no_callee}

abbrev pub source_names : List (List ℕ)
source_names =
    codes "value" ∷ codes "of" ∷ codes "fromList" ∷ codes "empty" ∷ codes "fromPath" ∷ codes "fromFilePairs" ∷ []

abbrev pub method_names : List (List ℕ)
method_names = map (λ b. method_name b.method) builtin_rows

abbrev pub table_names : List (List ℕ)
table_names = source_names ++ (map (λ r. operator_name r.operator) operator_rows ++ method_names)

-- a name that the script doesn't define: an operator, or a function of the program, if no table has it
abbrev pub by_tables : List ℕ → Callee
by_tables n =
    if is_some (row_of n operator_rows) then an_operator
    else (if is_among n (source_names ++ method_names) then no_callee else a_function)
