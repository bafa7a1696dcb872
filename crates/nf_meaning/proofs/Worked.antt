-- Worked scripts: what the definition gives for each.
use Rattle.std.proofs.Common.{◌≡◌, ℕ, List, pos, true, false, [], ◌∷◌, ◌++◌, Some, Ok, Err, refl, codes, bytes_eq, if◌then◌else◌}
use Rattle.std.specs.Fmt.{digits}
use Rattle.std.specs.List.{flat_map}
use Rattle.std.specs.Str.{chars}
use Rattle.std.specs.Prelude.{replicate}
use lib.Utf8.{encode}
use Rattle.nf_value.specs.Text.{value_text}
use Rattle.nf_graph.specs.Meaning.{same_inputs as is_same_list}
use Rattle.nf_value.specs.Plain.{Plain, null, int, text, file, list, no_items, item, plains_of}
use Rattle.nf_value.specs.declared.place.Place.{Place}
use Rattle.nf_value.specs.declared.file.FileRef.{FileRef}
use Rattle.nf_value.specs.declared.fault.EvalKind.TheVariants.{DivZero, Arity, WrongKind}
use Rattle.nf_token.specs.declared.token.PlainKind.TheVariants as kind
use Rattle.nf_token.specs.declared.token.TemplateKind.TheVariants as template_kind
use Rattle.nf_ast.specs.declared.operators.InfixOperator.TheVariants as mark
use Rattle.nf_ast.specs.Tree as tree
use Rattle.nf_ast.specs.Tree.{Tree, empty, cons}
use Rattle.nf_graph.specs.Fault.{duplicate_key}
use Rattle.nf_job.specs.declared.fault.TaskFault.TheVariants.{Exit, BadStdout, Eval, StageClash}
use Rattle.nf_job.specs.declared.report.Captured.TheVariants as captured
use Rattle.nf_job.specs.declared.report.Report.{Report}
use Rattle.nf_tasks.specs.declared.target_list.Target.{Target}
use Rattle.nf_meaning.specs.declared.fault.LowerFault.TheVariants.{UnknownName, TwiceDefined, CallCycle, WrongArity, BadOption, NoEntry, ParamFault, PatternRefused, PatternTooLarge}
use Rattle.nf_meaning.specs.Lowered.{Lowered, ◌>>=◌}
use Rattle.nf_meaning.specs.Given.{Given, Outcomes}
use Rattle.nf_meaning.specs.Meaning.{ScriptFault, item_fails, operator_fails, task_fails}
use Rattle.nf_meaning.specs.Script.{meaning_of}
use Rattle.nf_meaning.specs.Report.{view_lines, lines_of}

abbrev at : ℕ → ℕ → Place
at l c = record { line = l; col = c }

-- a script alone: nothing is set from outside, no file is found, and no task has a report
abbrev alone : Tree → Given
alone t = record {
  tops = t;
  params = [];
  folder = codes ".";
  found = [];
  program = record { titles = []; answer = λ k vs. Some null };
  patterns = [];
  large = [];
  outcomes = λ call inputs n. [];
}

abbrev a_file : List ℕ → FileRef
a_file n = record { name = n; digest = record { 0 = [] }; len = 3 }

abbrev short_file : List ℕ → FileRef
short_file n = record { name = n; digest = record { 0 = 1 ∷ 2 ∷ [] }; len = 3 }

-- a task that ended well and wrote this
abbrev wrote : List ℕ → Report
wrote t = record { exit = pos 0; captured = captured.Text t; found = [] }

-- the lines of the report, or why there is none
abbrev prints : Given → Lowered (List (List ℕ))
prints g = meaning_of g >>= λ m. Ok (lines_of m)

-- the first fault alone
abbrev first_of : List ScriptFault → List ScriptFault
first_of [] = []
first_of (f ∷ fs) = f ∷ []

abbrev first_fault : Given → Lowered (List ScriptFault)
first_fault g = meaning_of g >>= λ m. Ok (first_of m.faults)

abbrev targets : Given → Lowered (List Target)
targets g = meaning_of g >>= λ m. Ok m.targets

-- what is printed, and the files that are published
abbrev prints_and_publishes : Given → Lowered (List (List ℕ) × List Target)
prints_and_publishes g = meaning_of g >>= λ m. Ok (flat_map view_lines m.views, m.targets)

-- the first process leaves a file of its key, the second writes one text
abbrev key_in : List Plain → List ℕ
key_in (list (item (text t) vs) ∷ more) = t
key_in _ = []

abbrev left_file : List ℕ → Report
left_file key = record { exit = pos 0; captured = captured.None; found = (a_file (key ++ codes ".txt") ∷ []) ∷ [] }

abbrev joined_outcomes : Outcomes
joined_outcomes call inputs n = if bytes_eq call (codes "JOINED") then left_file (key_in inputs) ∷ [] else wrote (codes "abchello") ∷ []

abbrev faults : Given → Lowered (List ScriptFault)
faults g = meaning_of g >>= λ m. Ok m.faults

-- workflow { channel.of(3, 1, 2).map { it * 10 }.view() }
abbrev mapped_script : Tree
mapped_script = cons (tree.workflow (at 1 1) empty (cons (tree.call (at 1 52) (tree.property (tree.call_with (tree.property (tree.call (at 1 22) (tree.property (tree.name (at 1 12) (codes "channel")) (tree.name (at 1 20) (codes "of"))) (cons (tree.number (at 1 23) (pos 3)) (cons (tree.number (at 1 26) (pos 1)) (cons (tree.number (at 1 29) (pos 2)) empty)))) (tree.name (at 1 32) (codes "map"))) (tree.closure (at 1 36) empty (cons (tree.binary (at 1 41) mark.Times (tree.name (at 1 38) (codes "it")) (tree.number (at 1 43) (pos 10))) empty))) (tree.name (at 1 48) (codes "view"))) empty) empty)) empty

mapped : prints (alone mapped_script) ≡ Ok (codes "10" ∷ codes "20" ∷ codes "30" ∷ [])
unfolding digits
mapped = refl

-- workflow { channel.empty().collect().view() }
abbrev collected_of_none_script : Tree
collected_of_none_script = cons (tree.workflow (at 1 1) empty (cons (tree.call (at 1 42) (tree.property (tree.call (at 1 35) (tree.property (tree.call (at 1 25) (tree.property (tree.name (at 1 12) (codes "channel")) (tree.name (at 1 20) (codes "empty"))) empty) (tree.name (at 1 28) (codes "collect"))) empty) (tree.name (at 1 38) (codes "view"))) empty) empty)) empty

collected_of_none : prints (alone collected_of_none_script) ≡ Ok ([])
unfolding digits
collected_of_none = refl

-- workflow { channel.of([1,'A'],[1,'B'],[2,'C'],[1,'C'],[2,'A']).groupTuple().view() }
abbrev grouped_script : Tree
grouped_script = cons (tree.workflow (at 1 1) empty (cons (tree.call (at 1 81) (tree.property (tree.call (at 1 74) (tree.property (tree.call (at 1 22) (tree.property (tree.name (at 1 12) (codes "channel")) (tree.name (at 1 20) (codes "of"))) (cons (tree.list (at 1 23) (cons (tree.number (at 1 24) (pos 1)) (cons (tree.text (at 1 26) kind.Single (codes "A")) empty))) (cons (tree.list (at 1 31) (cons (tree.number (at 1 32) (pos 1)) (cons (tree.text (at 1 34) kind.Single (codes "B")) empty))) (cons (tree.list (at 1 39) (cons (tree.number (at 1 40) (pos 2)) (cons (tree.text (at 1 42) kind.Single (codes "C")) empty))) (cons (tree.list (at 1 47) (cons (tree.number (at 1 48) (pos 1)) (cons (tree.text (at 1 50) kind.Single (codes "C")) empty))) (cons (tree.list (at 1 55) (cons (tree.number (at 1 56) (pos 2)) (cons (tree.text (at 1 58) kind.Single (codes "A")) empty))) empty)))))) (tree.name (at 1 64) (codes "groupTuple"))) empty) (tree.name (at 1 77) (codes "view"))) empty) empty)) empty

grouped : prints (alone grouped_script) ≡ Ok (codes "[1, [A, B, C]]" ∷ codes "[2, [A, C]]" ∷ [])
unfolding digits
grouped = refl

-- workflow { left = channel.of(['X',1],['Y',2],['Z',3],['P',7])
--  right = channel.of(['Z',6],['Y',5],['X',4])
--  left.join(right).view() }
abbrev joined_script : Tree
joined_script = cons (tree.workflow (at 1 1) empty (cons (tree.assign (tree.name (at 1 12) (codes "left")) (tree.call (at 1 29) (tree.property (tree.name (at 1 19) (codes "channel")) (tree.name (at 1 27) (codes "of"))) (cons (tree.list (at 1 30) (cons (tree.text (at 1 31) kind.Single (codes "X")) (cons (tree.number (at 1 35) (pos 1)) empty))) (cons (tree.list (at 1 38) (cons (tree.text (at 1 39) kind.Single (codes "Y")) (cons (tree.number (at 1 43) (pos 2)) empty))) (cons (tree.list (at 1 46) (cons (tree.text (at 1 47) kind.Single (codes "Z")) (cons (tree.number (at 1 51) (pos 3)) empty))) (cons (tree.list (at 1 54) (cons (tree.text (at 1 55) kind.Single (codes "P")) (cons (tree.number (at 1 59) (pos 7)) empty))) empty)))))) (cons (tree.assign (tree.name (at 2 2) (codes "right")) (tree.call (at 2 20) (tree.property (tree.name (at 2 10) (codes "channel")) (tree.name (at 2 18) (codes "of"))) (cons (tree.list (at 2 21) (cons (tree.text (at 2 22) kind.Single (codes "Z")) (cons (tree.number (at 2 26) (pos 6)) empty))) (cons (tree.list (at 2 29) (cons (tree.text (at 2 30) kind.Single (codes "Y")) (cons (tree.number (at 2 34) (pos 5)) empty))) (cons (tree.list (at 2 37) (cons (tree.text (at 2 38) kind.Single (codes "X")) (cons (tree.number (at 2 42) (pos 4)) empty))) empty))))) (cons (tree.call (at 3 23) (tree.property (tree.call (at 3 11) (tree.property (tree.name (at 3 2) (codes "left")) (tree.name (at 3 7) (codes "join"))) (cons (tree.name (at 3 12) (codes "right")) empty)) (tree.name (at 3 19) (codes "view"))) empty) empty)))) empty

joined : prints (alone joined_script) ≡ Ok (codes "[X, 1, 4]" ∷ codes "[Y, 2, 5]" ∷ codes "[Z, 3, 6]" ∷ [])
unfolding digits
joined = refl

-- workflow { left = channel.of(['X',1],['P',7])
--  right = channel.of(['X',4])
--  left.join(right, remainder: true).view() }
abbrev joined_with_rest_script : Tree
joined_with_rest_script = cons (tree.workflow (at 1 1) empty (cons (tree.assign (tree.name (at 1 12) (codes "left")) (tree.call (at 1 29) (tree.property (tree.name (at 1 19) (codes "channel")) (tree.name (at 1 27) (codes "of"))) (cons (tree.list (at 1 30) (cons (tree.text (at 1 31) kind.Single (codes "X")) (cons (tree.number (at 1 35) (pos 1)) empty))) (cons (tree.list (at 1 38) (cons (tree.text (at 1 39) kind.Single (codes "P")) (cons (tree.number (at 1 43) (pos 7)) empty))) empty)))) (cons (tree.assign (tree.name (at 2 2) (codes "right")) (tree.call (at 2 20) (tree.property (tree.name (at 2 10) (codes "channel")) (tree.name (at 2 18) (codes "of"))) (cons (tree.list (at 2 21) (cons (tree.text (at 2 22) kind.Single (codes "X")) (cons (tree.number (at 2 26) (pos 4)) empty))) empty))) (cons (tree.call (at 3 40) (tree.property (tree.call (at 3 11) (tree.property (tree.name (at 3 2) (codes "left")) (tree.name (at 3 7) (codes "join"))) (cons (tree.name (at 3 12) (codes "right")) (cons (tree.named (tree.name (at 3 19) (codes "remainder")) (tree.truth (at 3 30) true)) empty))) (tree.name (at 3 36) (codes "view"))) empty) empty)))) empty

joined_with_rest : prints (alone joined_with_rest_script) ≡ Ok (codes "[P, 7, null]" ∷ codes "[X, 1, 4]" ∷ [])
unfolding digits
joined_with_rest = refl

-- workflow { channel.of(['X', 1], ['X', 2]).join(channel.of(['X', 3])).view() }
abbrev equal_keys_script : Tree
equal_keys_script = cons (tree.workflow (at 1 1) empty (cons (tree.call (at 1 74) (tree.property (tree.call (at 1 47) (tree.property (tree.call (at 1 22) (tree.property (tree.name (at 1 12) (codes "channel")) (tree.name (at 1 20) (codes "of"))) (cons (tree.list (at 1 23) (cons (tree.text (at 1 24) kind.Single (codes "X")) (cons (tree.number (at 1 29) (pos 1)) empty))) (cons (tree.list (at 1 33) (cons (tree.text (at 1 34) kind.Single (codes "X")) (cons (tree.number (at 1 39) (pos 2)) empty))) empty))) (tree.name (at 1 43) (codes "join"))) (cons (tree.call (at 1 58) (tree.property (tree.name (at 1 48) (codes "channel")) (tree.name (at 1 56) (codes "of"))) (cons (tree.list (at 1 59) (cons (tree.text (at 1 60) kind.Single (codes "X")) (cons (tree.number (at 1 65) (pos 3)) empty))) empty)) empty)) (tree.name (at 1 70) (codes "view"))) empty) empty)) empty

equal_keys : first_fault (alone equal_keys_script) ≡ Ok (operator_fails (at 1 43) (duplicate_key (text (codes "X"))) ∷ [])
unfolding digits
equal_keys = refl

-- workflow { channel.of(5, 1, 7).reduce { a, b -> a + b }.view() }
abbrev reduced_script : Tree
reduced_script = cons (tree.workflow (at 1 1) empty (cons (tree.call (at 1 61) (tree.property (tree.call_with (tree.property (tree.call (at 1 22) (tree.property (tree.name (at 1 12) (codes "channel")) (tree.name (at 1 20) (codes "of"))) (cons (tree.number (at 1 23) (pos 5)) (cons (tree.number (at 1 26) (pos 1)) (cons (tree.number (at 1 29) (pos 7)) empty)))) (tree.name (at 1 32) (codes "reduce"))) (tree.closure (at 1 39) (tree.params (cons (tree.name (at 1 41) (codes "a")) (cons (tree.name (at 1 44) (codes "b")) empty))) (cons (tree.binary (at 1 51) mark.Plus (tree.name (at 1 49) (codes "a")) (tree.name (at 1 53) (codes "b"))) empty))) (tree.name (at 1 57) (codes "view"))) empty) empty)) empty

reduced : prints (alone reduced_script) ≡ Ok (codes "13" ∷ [])
unfolding digits
reduced = refl

-- workflow { channel.value(1).first().view() }
abbrev first_of_a_value_script : Tree
first_of_a_value_script = cons (tree.workflow (at 1 1) empty (cons (tree.call (at 1 41) (tree.property (tree.call (at 1 34) (tree.property (tree.call (at 1 25) (tree.property (tree.name (at 1 12) (codes "channel")) (tree.name (at 1 20) (codes "value"))) (cons (tree.number (at 1 26) (pos 1)) empty)) (tree.name (at 1 29) (codes "first"))) empty) (tree.name (at 1 37) (codes "view"))) empty) empty)) empty

first_of_a_value : prints (alone first_of_a_value_script) ≡ Ok (codes "1" ∷ [])
unfolding digits
first_of_a_value = refl

-- workflow { channel.of(1, 0).map { 10.intdiv(it) }.view() }
abbrev divided_by_zero_script : Tree
divided_by_zero_script = cons (tree.workflow (at 1 1) empty (cons (tree.call (at 1 55) (tree.property (tree.call_with (tree.property (tree.call (at 1 22) (tree.property (tree.name (at 1 12) (codes "channel")) (tree.name (at 1 20) (codes "of"))) (cons (tree.number (at 1 23) (pos 1)) (cons (tree.number (at 1 26) (pos 0)) empty))) (tree.name (at 1 29) (codes "map"))) (tree.closure (at 1 33) empty (cons (tree.call (at 1 44) (tree.property (tree.number (at 1 35) (pos 10)) (tree.name (at 1 38) (codes "intdiv"))) (cons (tree.name (at 1 45) (codes "it")) empty)) empty))) (tree.name (at 1 51) (codes "view"))) empty) empty)) empty

divided_by_zero : faults (alone divided_by_zero_script) ≡ Ok (item_fails (int (pos 0)) (record { kind = DivZero; place = at 1 38 }) ∷ [])
unfolding digits
divided_by_zero = refl

-- workflow {
-- r = channel.of(5, 40, 7).branch { v -> small: v < 10; other: true }
-- r.small.view()
-- r.other.view()
-- }
abbrev branched_script : Tree
branched_script = cons (tree.workflow (at 1 1) empty (cons (tree.assign (tree.name (at 2 1) (codes "r")) (tree.call_with (tree.property (tree.call (at 2 15) (tree.property (tree.name (at 2 5) (codes "channel")) (tree.name (at 2 13) (codes "of"))) (cons (tree.number (at 2 16) (pos 5)) (cons (tree.number (at 2 19) (pos 40)) (cons (tree.number (at 2 23) (pos 7)) empty)))) (tree.name (at 2 26) (codes "branch"))) (tree.closure (at 2 33) (tree.params (cons (tree.name (at 2 35) (codes "v")) empty)) (cons (tree.label (tree.name (at 2 40) (codes "small")) (tree.binary (at 2 49) mark.Less (tree.name (at 2 47) (codes "v")) (tree.number (at 2 51) (pos 10)))) (cons (tree.label (tree.name (at 2 55) (codes "other")) (tree.truth (at 2 62) true)) empty))))) (cons (tree.call (at 3 13) (tree.property (tree.property (tree.name (at 3 1) (codes "r")) (tree.name (at 3 3) (codes "small"))) (tree.name (at 3 9) (codes "view"))) empty) (cons (tree.call (at 4 13) (tree.property (tree.property (tree.name (at 4 1) (codes "r")) (tree.name (at 4 3) (codes "other"))) (tree.name (at 4 9) (codes "view"))) empty) empty)))) empty

branched : prints (alone branched_script) ≡ Ok (codes "5" ∷ codes "7" ∷ codes "40" ∷ [])
unfolding digits
branched = refl

-- workflow { channel.of([b: 2, a: 1], [:]).view() }
abbrev maps_script : Tree
maps_script = cons (tree.workflow (at 1 1) empty (cons (tree.call (at 1 46) (tree.property (tree.call (at 1 22) (tree.property (tree.name (at 1 12) (codes "channel")) (tree.name (at 1 20) (codes "of"))) (cons (tree.map (at 1 23) (cons (tree.pair (tree.name (at 1 24) (codes "b")) (tree.number (at 1 27) (pos 2))) (cons (tree.pair (tree.name (at 1 30) (codes "a")) (tree.number (at 1 33) (pos 1))) empty))) (cons (tree.map (at 1 37) empty) empty))) (tree.name (at 1 42) (codes "view"))) empty) empty)) empty

maps : prints (alone maps_script) ≡ Ok (codes "[:]" ∷ codes "[a:1, b:2]" ∷ [])
unfolding digits
maps = refl

-- workflow { channel.of(1, 2).combine(channel.of('a', 'b')).view() }
abbrev combined_script : Tree
combined_script = cons (tree.workflow (at 1 1) empty (cons (tree.call (at 1 63) (tree.property (tree.call (at 1 36) (tree.property (tree.call (at 1 22) (tree.property (tree.name (at 1 12) (codes "channel")) (tree.name (at 1 20) (codes "of"))) (cons (tree.number (at 1 23) (pos 1)) (cons (tree.number (at 1 26) (pos 2)) empty))) (tree.name (at 1 29) (codes "combine"))) (cons (tree.call (at 1 47) (tree.property (tree.name (at 1 37) (codes "channel")) (tree.name (at 1 45) (codes "of"))) (cons (tree.text (at 1 48) kind.Single (codes "a")) (cons (tree.text (at 1 53) kind.Single (codes "b")) empty))) empty)) (tree.name (at 1 59) (codes "view"))) empty) empty)) empty

combined : prints (alone combined_script) ≡ Ok (codes "[1, a]" ∷ codes "[1, b]" ∷ codes "[2, a]" ∷ codes "[2, b]" ∷ [])
unfolding digits
combined = refl

-- def twice(x) { x * 2 }
-- workflow DOUBLE {
-- take: ch
-- main: res = ch.map { twice(it) }
-- emit: res
-- }
-- workflow {
-- DOUBLE(channel.of(1, 2))
-- DOUBLE.out.view()
-- }
abbrev workflow_called_script : Tree
workflow_called_script = cons (tree.function (at 1 1) (tree.name (at 1 5) (codes "twice")) (cons (tree.name (at 1 11) (codes "x")) empty) (cons (tree.binary (at 1 18) mark.Times (tree.name (at 1 16) (codes "x")) (tree.number (at 1 20) (pos 2))) empty)) (cons (tree.workflow (at 2 1) (tree.name (at 2 10) (codes "DOUBLE")) (tree.parts (tree.section (at 3 1) (cons (tree.name (at 3 7) (codes "ch")) empty)) (tree.section (at 4 1) (cons (tree.assign (tree.name (at 4 7) (codes "res")) (tree.call_with (tree.property (tree.name (at 4 13) (codes "ch")) (tree.name (at 4 16) (codes "map"))) (tree.closure (at 4 20) empty (cons (tree.call (at 4 27) (tree.name (at 4 22) (codes "twice")) (cons (tree.name (at 4 28) (codes "it")) empty)) empty)))) empty)) (tree.section (at 5 1) (cons (tree.name (at 5 7) (codes "res")) empty)))) (cons (tree.workflow (at 7 1) empty (cons (tree.call (at 8 7) (tree.name (at 8 1) (codes "DOUBLE")) (cons (tree.call (at 8 18) (tree.property (tree.name (at 8 8) (codes "channel")) (tree.name (at 8 16) (codes "of"))) (cons (tree.number (at 8 19) (pos 1)) (cons (tree.number (at 8 22) (pos 2)) empty))) empty)) (cons (tree.call (at 9 16) (tree.property (tree.property (tree.name (at 9 1) (codes "DOUBLE")) (tree.name (at 9 8) (codes "out"))) (tree.name (at 9 12) (codes "view"))) empty) empty))) empty))

workflow_called : prints (alone workflow_called_script) ≡ Ok (codes "2" ∷ codes "4" ∷ [])
unfolding digits
workflow_called = refl

-- def twice(x) { x * 2 }
-- workflow DOUBLE {
-- take: ch
-- main: res = ch.map { twice(it) }
-- emit: res
-- }
-- workflow { channel.of(1, 2) | DOUBLE | view }
abbrev workflow_piped_script : Tree
workflow_piped_script = cons (tree.function (at 1 1) (tree.name (at 1 5) (codes "twice")) (cons (tree.name (at 1 11) (codes "x")) empty) (cons (tree.binary (at 1 18) mark.Times (tree.name (at 1 16) (codes "x")) (tree.number (at 1 20) (pos 2))) empty)) (cons (tree.workflow (at 2 1) (tree.name (at 2 10) (codes "DOUBLE")) (tree.parts (tree.section (at 3 1) (cons (tree.name (at 3 7) (codes "ch")) empty)) (tree.section (at 4 1) (cons (tree.assign (tree.name (at 4 7) (codes "res")) (tree.call_with (tree.property (tree.name (at 4 13) (codes "ch")) (tree.name (at 4 16) (codes "map"))) (tree.closure (at 4 20) empty (cons (tree.call (at 4 27) (tree.name (at 4 22) (codes "twice")) (cons (tree.name (at 4 28) (codes "it")) empty)) empty)))) empty)) (tree.section (at 5 1) (cons (tree.name (at 5 7) (codes "res")) empty)))) (cons (tree.workflow (at 7 1) empty (cons (tree.binary (at 7 38) mark.Pipe (tree.binary (at 7 29) mark.Pipe (tree.call (at 7 22) (tree.property (tree.name (at 7 12) (codes "channel")) (tree.name (at 7 20) (codes "of"))) (cons (tree.number (at 7 23) (pos 1)) (cons (tree.number (at 7 26) (pos 2)) empty))) (tree.name (at 7 31) (codes "DOUBLE"))) (tree.name (at 7 40) (codes "view"))) empty)) empty))

workflow_piped : prints (alone workflow_piped_script) ≡ Ok (codes "2" ∷ codes "4" ∷ [])
unfolding digits
workflow_piped = refl

-- workflow { nope.view() }
abbrev unknown_name_script : Tree
unknown_name_script = cons (tree.workflow (at 1 1) empty (cons (tree.call (at 1 21) (tree.property (tree.name (at 1 12) (codes "nope")) (tree.name (at 1 17) (codes "view"))) empty) empty)) empty

unknown_name : prints (alone unknown_name_script) ≡ Err (UnknownName (at 1 12))
unfolding digits
unknown_name = refl

-- def f(x) { x }
abbrev no_entry_script : Tree
no_entry_script = cons (tree.function (at 1 1) (tree.name (at 1 5) (codes "f")) (cons (tree.name (at 1 7) (codes "x")) empty) (cons (tree.name (at 1 12) (codes "x")) empty)) empty

no_entry : prints (alone no_entry_script) ≡ Err (NoEntry (at 1 1))
unfolding digits
no_entry = refl

-- workflow { channel.of(1).foo() }
abbrev unknown_operator_script : Tree
unknown_operator_script = cons (tree.workflow (at 1 1) empty (cons (tree.call (at 1 29) (tree.property (tree.call (at 1 22) (tree.property (tree.name (at 1 12) (codes "channel")) (tree.name (at 1 20) (codes "of"))) (cons (tree.number (at 1 23) (pos 1)) empty)) (tree.name (at 1 26) (codes "foo"))) empty) empty)) empty

unknown_operator : prints (alone unknown_operator_script) ≡ Err (UnknownName (at 1 26))
unfolding digits
unknown_operator = refl

-- workflow { channel.foo(1) }
abbrev unknown_source_script : Tree
unknown_source_script = cons (tree.workflow (at 1 1) empty (cons (tree.call (at 1 23) (tree.property (tree.name (at 1 12) (codes "channel")) (tree.name (at 1 20) (codes "foo"))) (cons (tree.number (at 1 24) (pos 1)) empty)) empty)) empty

unknown_source : prints (alone unknown_source_script) ≡ Err (UnknownName (at 1 20))
unfolding digits
unknown_source = refl

-- def f(x) { f(x) }
-- workflow { channel.of(f(1)).view() }
abbrev function_cycle_script : Tree
function_cycle_script = cons (tree.function (at 1 1) (tree.name (at 1 5) (codes "f")) (cons (tree.name (at 1 7) (codes "x")) empty) (cons (tree.call (at 1 13) (tree.name (at 1 12) (codes "f")) (cons (tree.name (at 1 14) (codes "x")) empty)) empty)) (cons (tree.workflow (at 2 1) empty (cons (tree.call (at 2 33) (tree.property (tree.call (at 2 22) (tree.property (tree.name (at 2 12) (codes "channel")) (tree.name (at 2 20) (codes "of"))) (cons (tree.call (at 2 24) (tree.name (at 2 23) (codes "f")) (cons (tree.number (at 2 25) (pos 1)) empty)) empty)) (tree.name (at 2 29) (codes "view"))) empty) empty)) empty)

function_cycle : prints (alone function_cycle_script) ≡ Err (CallCycle (at 1 12))
unfolding digits
function_cycle = refl

-- workflow A { A() }
-- workflow { A() }
abbrev workflow_cycle_script : Tree
workflow_cycle_script = cons (tree.workflow (at 1 1) (tree.name (at 1 10) (codes "A")) (cons (tree.call (at 1 15) (tree.name (at 1 14) (codes "A")) empty) empty)) (cons (tree.workflow (at 2 1) empty (cons (tree.call (at 2 13) (tree.name (at 2 12) (codes "A")) empty) empty)) empty)

workflow_cycle : prints (alone workflow_cycle_script) ≡ Err (CallCycle (at 1 14))
unfolding digits
workflow_cycle = refl

-- workflow A { }
-- workflow { A()
-- A() }
abbrev called_twice_script : Tree
called_twice_script = cons (tree.workflow (at 1 1) (tree.name (at 1 10) (codes "A")) empty) (cons (tree.workflow (at 2 1) empty (cons (tree.call (at 2 13) (tree.name (at 2 12) (codes "A")) empty) (cons (tree.call (at 3 2) (tree.name (at 3 1) (codes "A")) empty) empty))) empty)

called_twice : prints (alone called_twice_script) ≡ Err (TwiceDefined (at 3 1))
unfolding digits
called_twice = refl

-- workflow { channel.of(1).map() }
abbrev no_closure_script : Tree
no_closure_script = cons (tree.workflow (at 1 1) empty (cons (tree.call (at 1 29) (tree.property (tree.call (at 1 22) (tree.property (tree.name (at 1 12) (codes "channel")) (tree.name (at 1 20) (codes "of"))) (cons (tree.number (at 1 23) (pos 1)) empty)) (tree.name (at 1 26) (codes "map"))) empty) empty)) empty

no_closure : prints (alone no_closure_script) ≡ Err (WrongArity (at 1 26))
unfolding digits
no_closure = refl

-- workflow { channel.of(1).count(foo: 1) }
abbrev no_such_option_script : Tree
no_such_option_script = cons (tree.workflow (at 1 1) empty (cons (tree.call (at 1 31) (tree.property (tree.call (at 1 22) (tree.property (tree.name (at 1 12) (codes "channel")) (tree.name (at 1 20) (codes "of"))) (cons (tree.number (at 1 23) (pos 1)) empty)) (tree.name (at 1 26) (codes "count"))) (cons (tree.named (tree.name (at 1 32) (codes "foo")) (tree.number (at 1 37) (pos 1))) empty)) empty)) empty

no_such_option : prints (alone no_such_option_script) ≡ Err (BadOption (at 1 32))
unfolding digits
no_such_option = refl

-- params.a = 1 % 0
-- workflow { }
abbrev parameter_fault_script : Tree
parameter_fault_script = cons (tree.parameter (at 1 1) (tree.name (at 1 8) (codes "a")) (tree.binary (at 1 14) mark.Remainder (tree.number (at 1 12) (pos 1)) (tree.number (at 1 16) (pos 0)))) (cons (tree.workflow (at 2 1) empty empty) empty)

parameter_fault : prints (alone parameter_fault_script) ≡ Err (ParamFault (record { kind = DivZero; place = at 1 14 }))
unfolding digits
parameter_fault = refl

-- params.a = 1
-- params.a = 2
-- workflow { }
abbrev parameter_twice_script : Tree
parameter_twice_script = cons (tree.parameter (at 1 1) (tree.name (at 1 8) (codes "a")) (tree.number (at 1 12) (pos 1))) (cons (tree.parameter (at 2 1) (tree.name (at 2 8) (codes "a")) (tree.number (at 2 12) (pos 2))) (cons (tree.workflow (at 3 1) empty empty) empty))

parameter_twice : prints (alone parameter_twice_script) ≡ Err (TwiceDefined (at 2 8))
unfolding digits
parameter_twice = refl

-- workflow { x = channel.of(1)
-- x + 1 }
abbrev channel_for_a_value_script : Tree
channel_for_a_value_script = cons (tree.workflow (at 1 1) empty (cons (tree.assign (tree.name (at 1 12) (codes "x")) (tree.call (at 1 26) (tree.property (tree.name (at 1 16) (codes "channel")) (tree.name (at 1 24) (codes "of"))) (cons (tree.number (at 1 27) (pos 1)) empty))) (cons (tree.binary (at 2 3) mark.Plus (tree.name (at 2 1) (codes "x")) (tree.number (at 2 5) (pos 1))) empty))) empty

channel_for_a_value : prints (alone channel_for_a_value_script) ≡ Err (BadOption (at 2 1))
unfolding digits
channel_for_a_value = refl

-- workflow { f = file('a.txt')
-- channel.of(f.name).view() }
abbrev file_in_an_expression_script : Tree
file_in_an_expression_script = cons (tree.workflow (at 1 1) empty (cons (tree.assign (tree.name (at 1 12) (codes "f")) (tree.call (at 1 20) (tree.name (at 1 16) (codes "file")) (cons (tree.text (at 1 21) kind.Single (codes "a.txt")) empty))) (cons (tree.call (at 2 24) (tree.property (tree.call (at 2 11) (tree.property (tree.name (at 2 1) (codes "channel")) (tree.name (at 2 9) (codes "of"))) (cons (tree.property (tree.name (at 2 12) (codes "f")) (tree.name (at 2 14) (codes "name"))) empty)) (tree.name (at 2 20) (codes "view"))) empty) empty))) empty

file_in_an_expression : prints (alone file_in_an_expression_script) ≡ Err (BadOption (at 2 12))
unfolding digits chars encode
file_in_an_expression = refl

-- workflow { if (params.x) { nope.view() } else { channel.of(2).view() } }
abbrev chosen_arm_script : Tree
chosen_arm_script = cons (tree.workflow (at 1 1) empty (cons (tree.choice (at 1 12) (tree.property (tree.name (at 1 16) (codes "params")) (tree.name (at 1 23) (codes "x"))) (tree.statements (cons (tree.call (at 1 37) (tree.property (tree.name (at 1 28) (codes "nope")) (tree.name (at 1 33) (codes "view"))) empty) empty)) (tree.statements (cons (tree.call (at 1 67) (tree.property (tree.call (at 1 59) (tree.property (tree.name (at 1 49) (codes "channel")) (tree.name (at 1 57) (codes "of"))) (cons (tree.number (at 1 60) (pos 2)) empty)) (tree.name (at 1 63) (codes "view"))) empty) empty))) empty)) empty

chosen_arm : prints (alone chosen_arm_script) ≡ Ok (codes "2" ∷ [])
unfolding digits
chosen_arm = refl

-- params.n = 4
-- workflow { channel.of(params.n).view() }
abbrev parameter_from_outside_script : Tree
parameter_from_outside_script = cons (tree.parameter (at 1 1) (tree.name (at 1 8) (codes "n")) (tree.number (at 1 12) (pos 4))) (cons (tree.workflow (at 2 1) empty (cons (tree.call (at 2 37) (tree.property (tree.call (at 2 22) (tree.property (tree.name (at 2 12) (codes "channel")) (tree.name (at 2 20) (codes "of"))) (cons (tree.property (tree.name (at 2 23) (codes "params")) (tree.name (at 2 30) (codes "n"))) empty)) (tree.name (at 2 33) (codes "view"))) empty) empty)) empty)

parameter_from_outside : prints (record (alone parameter_from_outside_script) { params = (codes "n", int (pos 5)) ∷ [] }) ≡ Ok (codes "5" ∷ [])
unfolding digits
parameter_from_outside = refl

-- workflow { 5 | view }
abbrev value_piped_script : Tree
value_piped_script = cons (tree.workflow (at 1 1) empty (cons (tree.binary (at 1 14) mark.Pipe (tree.number (at 1 12) (pos 5)) (tree.name (at 1 16) (codes "view"))) empty)) empty

value_piped : prints (alone value_piped_script) ≡ Ok (codes "5" ∷ [])
unfolding digits
value_piped = refl

-- workflow { channel.of(1, 2).multiMap { v -> a: v; b: v * 10 }.set { r }
-- r.a.view()
-- r[1].view() }
abbrev set_and_taken_by_place_script : Tree
set_and_taken_by_place_script = cons (tree.workflow (at 1 1) empty (cons (tree.call_with (tree.property (tree.call_with (tree.property (tree.call (at 1 22) (tree.property (tree.name (at 1 12) (codes "channel")) (tree.name (at 1 20) (codes "of"))) (cons (tree.number (at 1 23) (pos 1)) (cons (tree.number (at 1 26) (pos 2)) empty))) (tree.name (at 1 29) (codes "multiMap"))) (tree.closure (at 1 38) (tree.params (cons (tree.name (at 1 40) (codes "v")) empty)) (cons (tree.label (tree.name (at 1 45) (codes "a")) (tree.name (at 1 48) (codes "v"))) (cons (tree.label (tree.name (at 1 51) (codes "b")) (tree.binary (at 1 56) mark.Times (tree.name (at 1 54) (codes "v")) (tree.number (at 1 58) (pos 10)))) empty)))) (tree.name (at 1 63) (codes "set"))) (tree.closure (at 1 67) empty (cons (tree.name (at 1 69) (codes "r")) empty))) (cons (tree.call (at 2 9) (tree.property (tree.property (tree.name (at 2 1) (codes "r")) (tree.name (at 2 3) (codes "a"))) (tree.name (at 2 5) (codes "view"))) empty) (cons (tree.call (at 3 10) (tree.property (tree.index (at 3 2) (tree.name (at 3 1) (codes "r")) (tree.number (at 3 3) (pos 1))) (tree.name (at 3 6) (codes "view"))) empty) empty)))) empty

set_and_taken_by_place : prints (alone set_and_taken_by_place_script) ≡ Ok (codes "1" ∷ codes "2" ∷ codes "10" ∷ codes "20" ∷ [])
unfolding digits
set_and_taken_by_place = refl

-- workflow { channel.of(1, 2, 1).filter(1).view() }
abbrev filtered_by_a_value_script : Tree
filtered_by_a_value_script = cons (tree.workflow (at 1 1) empty (cons (tree.call (at 1 46) (tree.property (tree.call (at 1 38) (tree.property (tree.call (at 1 22) (tree.property (tree.name (at 1 12) (codes "channel")) (tree.name (at 1 20) (codes "of"))) (cons (tree.number (at 1 23) (pos 1)) (cons (tree.number (at 1 26) (pos 2)) (cons (tree.number (at 1 29) (pos 1)) empty)))) (tree.name (at 1 32) (codes "filter"))) (cons (tree.number (at 1 39) (pos 1)) empty)) (tree.name (at 1 42) (codes "view"))) empty) empty)) empty

filtered_by_a_value : prints (alone filtered_by_a_value_script) ≡ Ok (codes "1" ∷ codes "1" ∷ [])
unfolding digits
filtered_by_a_value = refl

-- workflow { channel.of('a').filter(~/(/).view() }
abbrev pattern_refused_script : Tree
pattern_refused_script = cons (tree.workflow (at 1 1) empty (cons (tree.call (at 1 45) (tree.property (tree.call (at 1 34) (tree.property (tree.call (at 1 22) (tree.property (tree.name (at 1 12) (codes "channel")) (tree.name (at 1 20) (codes "of"))) (cons (tree.text (at 1 23) kind.Single (codes "a")) empty)) (tree.name (at 1 28) (codes "filter"))) (cons (tree.pattern (at 1 35) (codes "(")) empty)) (tree.name (at 1 41) (codes "view"))) empty) empty)) empty

pattern_refused : prints (alone pattern_refused_script) ≡ Err (PatternRefused (at 1 35))
unfolding digits
pattern_refused = refl

-- workflow { channel.fromPath('none/*.txt').view() }
abbrev of_no_files_script : Tree
of_no_files_script = cons (tree.workflow (at 1 1) empty (cons (tree.call (at 1 47) (tree.property (tree.call (at 1 28) (tree.property (tree.name (at 1 12) (codes "channel")) (tree.name (at 1 20) (codes "fromPath"))) (cons (tree.text (at 1 29) kind.Single (codes "none/*.txt")) empty)) (tree.name (at 1 43) (codes "view"))) empty) empty)) empty

of_no_files : prints (alone of_no_files_script) ≡ Ok ([])
unfolding digits chars
of_no_files = refl

-- workflow { channel.of(1, 2, 3).view { it * 2 } }
abbrev view_with_a_closure_script : Tree
view_with_a_closure_script = cons (tree.workflow (at 1 1) empty (cons (tree.call_with (tree.property (tree.call (at 1 22) (tree.property (tree.name (at 1 12) (codes "channel")) (tree.name (at 1 20) (codes "of"))) (cons (tree.number (at 1 23) (pos 1)) (cons (tree.number (at 1 26) (pos 2)) (cons (tree.number (at 1 29) (pos 3)) empty)))) (tree.name (at 1 32) (codes "view"))) (tree.closure (at 1 37) empty (cons (tree.binary (at 1 42) mark.Times (tree.name (at 1 39) (codes "it")) (tree.number (at 1 44) (pos 2))) empty))) empty)) empty

view_with_a_closure : prints (alone view_with_a_closure_script) ≡ Ok (codes "2" ∷ codes "4" ∷ codes "6" ∷ [])
unfolding digits
view_with_a_closure = refl

-- workflow { channel.fromPath('d/*.txt').map { it.baseName }.view() }
abbrev file_names_script : Tree
file_names_script = cons (tree.workflow (at 1 1) empty (cons (tree.call (at 1 64) (tree.property (tree.call_with (tree.property (tree.call (at 1 28) (tree.property (tree.name (at 1 12) (codes "channel")) (tree.name (at 1 20) (codes "fromPath"))) (cons (tree.text (at 1 29) kind.Single (codes "d/*.txt")) empty)) (tree.name (at 1 40) (codes "map"))) (tree.closure (at 1 44) empty (cons (tree.property (tree.name (at 1 46) (codes "it")) (tree.name (at 1 49) (codes "baseName"))) empty))) (tree.name (at 1 60) (codes "view"))) empty) empty)) empty

file_names : prints (record (alone file_names_script) { found = record { path = codes "d/*.txt"; files = a_file (codes "a.txt") ∷ a_file (codes "b.txt") ∷ [] } ∷ [] }) ≡ Ok (codes "a" ∷ codes "b" ∷ [])
unfolding digits chars
file_names = refl

-- workflow { channel.fromFilePairs('d/*_{1,2}.fq').view() }
abbrev pairs_script : Tree
pairs_script = cons (tree.workflow (at 1 1) empty (cons (tree.call (at 1 54) (tree.property (tree.call (at 1 33) (tree.property (tree.name (at 1 12) (codes "channel")) (tree.name (at 1 20) (codes "fromFilePairs"))) (cons (tree.text (at 1 34) kind.Single (codes "d/*_{1,2}.fq")) empty)) (tree.name (at 1 50) (codes "view"))) empty) empty)) empty

pairs : prints (record (alone pairs_script) { found = record { path = codes "d/*_{1,2}.fq"; files = a_file (codes "s1_1.fq") ∷ a_file (codes "s1_2.fq") ∷ a_file (codes "s3_1.fq") ∷ [] } ∷ [] }) ≡ Ok (codes "[s1, [s1_1.fq, s1_2.fq]]" ∷ [])
unfolding digits chars encode
pairs = refl

-- process P {
-- input:
-- val x
-- output:
-- stdout
-- script:
-- "printf $x"
-- }
-- workflow { P(channel.of('a', 'a')).view() }
abbrev two_tasks_script : Tree
two_tasks_script = cons (tree.process (at 1 1) (tree.name (at 1 9) (codes "P")) empty (tree.section (at 2 1) (cons (tree.val (at 3 1) (tree.name (at 3 5) (codes "x"))) empty)) (tree.section (at 4 1) (cons (tree.output (tree.stdout (at 5 1)) empty) empty)) (tree.section (at 6 1) (cons (tree.template (at 7 1) template_kind.Double (cons (tree.piece (at 7 1) (codes "printf ")) (cons (tree.hole (at 7 1) (tree.name (at 7 1) (codes "x"))) empty))) empty)) empty) (cons (tree.workflow (at 9 1) empty (cons (tree.call (at 9 40) (tree.property (tree.call (at 9 13) (tree.name (at 9 12) (codes "P")) (cons (tree.call (at 9 24) (tree.property (tree.name (at 9 14) (codes "channel")) (tree.name (at 9 22) (codes "of"))) (cons (tree.text (at 9 25) kind.Single (codes "a")) (cons (tree.text (at 9 30) kind.Single (codes "a")) empty))) empty)) (tree.name (at 9 36) (codes "view"))) empty) empty)) empty)

two_tasks : prints (record (alone two_tasks_script) { outcomes = λ call inputs n. (if bytes_eq call (codes "P") then wrote (codes "a") ∷ [] else []) }) ≡ Ok (codes "a" ∷ codes "a" ∷ [])
unfolding digits
two_tasks = refl

-- process P {
-- input:
-- val x
-- output:
-- stdout
-- script:
-- "printf $x"
-- }
-- workflow { P(channel.of(3)).view() }
abbrev failed_task_script : Tree
failed_task_script = cons (tree.process (at 1 1) (tree.name (at 1 9) (codes "P")) empty (tree.section (at 2 1) (cons (tree.val (at 3 1) (tree.name (at 3 5) (codes "x"))) empty)) (tree.section (at 4 1) (cons (tree.output (tree.stdout (at 5 1)) empty) empty)) (tree.section (at 6 1) (cons (tree.template (at 7 1) template_kind.Double (cons (tree.piece (at 7 1) (codes "printf ")) (cons (tree.hole (at 7 1) (tree.name (at 7 1) (codes "x"))) empty))) empty)) empty) (cons (tree.workflow (at 9 1) empty (cons (tree.call (at 9 33) (tree.property (tree.call (at 9 13) (tree.name (at 9 12) (codes "P")) (cons (tree.call (at 9 24) (tree.property (tree.name (at 9 14) (codes "channel")) (tree.name (at 9 22) (codes "of"))) (cons (tree.number (at 9 25) (pos 3)) empty)) empty)) (tree.name (at 9 29) (codes "view"))) empty) empty)) empty)

failed_task : faults (record (alone failed_task_script) { outcomes = λ call inputs n. (record { exit = pos 3; captured = captured.Text (codes "v3"); found = [] } ∷ []) }) ≡ Ok (task_fails (record { call = codes "P"; inputs = int (pos 3) ∷ []; n = 0 }) (Exit (pos 3)) ∷ [])
unfolding digits
failed_task = refl

-- process P {
-- input:
-- val x
-- output:
-- stdout
-- script:
-- "printf $x"
-- }
-- workflow { P().view() }
abbrev no_argument_script : Tree
no_argument_script = cons (tree.process (at 1 1) (tree.name (at 1 9) (codes "P")) empty (tree.section (at 2 1) (cons (tree.val (at 3 1) (tree.name (at 3 5) (codes "x"))) empty)) (tree.section (at 4 1) (cons (tree.output (tree.stdout (at 5 1)) empty) empty)) (tree.section (at 6 1) (cons (tree.template (at 7 1) template_kind.Double (cons (tree.piece (at 7 1) (codes "printf ")) (cons (tree.hole (at 7 1) (tree.name (at 7 1) (codes "x"))) empty))) empty)) empty) (cons (tree.workflow (at 9 1) empty (cons (tree.call (at 9 20) (tree.property (tree.call (at 9 13) (tree.name (at 9 12) (codes "P")) empty) (tree.name (at 9 16) (codes "view"))) empty) empty)) empty)

no_argument : prints (alone no_argument_script) ≡ Err (WrongArity (at 9 12))
unfolding digits
no_argument = refl

-- process P {
-- foo 1
-- output:
-- stdout
-- script:
-- 'a'
-- }
-- workflow { P() }
abbrev unknown_directive_script : Tree
unknown_directive_script = cons (tree.process (at 1 1) (tree.name (at 1 9) (codes "P")) (cons (tree.directive (tree.name (at 2 1) (codes "foo")) (cons (tree.number (at 2 5) (pos 1)) empty)) empty) empty (tree.section (at 3 1) (cons (tree.output (tree.stdout (at 4 1)) empty) empty)) (tree.section (at 5 1) (cons (tree.text (at 6 1) kind.Single (codes "a")) empty)) empty) (cons (tree.workflow (at 8 1) empty (cons (tree.call (at 8 13) (tree.name (at 8 12) (codes "P")) empty) empty)) empty)

unknown_directive : prints (alone unknown_directive_script) ≡ Err (BadOption (at 2 1))
unfolding digits
unknown_directive = refl

-- process P {
-- input:
-- val x
-- output:
-- stdout
-- script:
-- "printf $x"
-- }
-- workflow { P.out.view() }
abbrev out_before_the_call_script : Tree
out_before_the_call_script = cons (tree.process (at 1 1) (tree.name (at 1 9) (codes "P")) empty (tree.section (at 2 1) (cons (tree.val (at 3 1) (tree.name (at 3 5) (codes "x"))) empty)) (tree.section (at 4 1) (cons (tree.output (tree.stdout (at 5 1)) empty) empty)) (tree.section (at 6 1) (cons (tree.template (at 7 1) template_kind.Double (cons (tree.piece (at 7 1) (codes "printf ")) (cons (tree.hole (at 7 1) (tree.name (at 7 1) (codes "x"))) empty))) empty)) empty) (cons (tree.workflow (at 9 1) empty (cons (tree.call (at 9 22) (tree.property (tree.property (tree.name (at 9 12) (codes "P")) (tree.name (at 9 14) (codes "out"))) (tree.name (at 9 18) (codes "view"))) empty) empty)) empty)

out_before_the_call : prints (alone out_before_the_call_script) ≡ Err (UnknownName (at 9 12))
unfolding digits
out_before_the_call = refl

-- process P {
-- publishDir 'results'
-- output:
-- path 'x.txt'
-- script:
-- 'printf abc > x.txt'
-- }
-- workflow { P() }
abbrev published_script : Tree
published_script = cons (tree.process (at 1 1) (tree.name (at 1 9) (codes "P")) (cons (tree.directive (tree.name (at 2 1) (codes "publishDir")) (cons (tree.text (at 2 12) kind.Single (codes "results")) empty)) empty) empty (tree.section (at 3 1) (cons (tree.output (tree.path (at 4 1) (tree.text (at 4 6) kind.Single (codes "x.txt"))) empty) empty)) (tree.section (at 5 1) (cons (tree.text (at 6 1) kind.Single (codes "printf abc > x.txt")) empty)) empty) (cons (tree.workflow (at 8 1) empty (cons (tree.call (at 8 13) (tree.name (at 8 12) (codes "P")) empty) empty)) empty)

published : targets (record (alone published_script) { outcomes = λ call inputs n. (record { exit = pos 0; captured = captured.None; found = (short_file (codes "x.txt") ∷ []) ∷ [] } ∷ []) }) ≡ Ok (record { name = codes "results/x.txt"; digest = record { 0 = 1 ∷ 2 ∷ [] } } ∷ [])
unfolding digits chars
published = refl

-- workflow { channel.of({ it }) }
abbrev closure_as_an_item_script : Tree
closure_as_an_item_script = cons (tree.workflow (at 1 1) empty (cons (tree.call (at 1 22) (tree.property (tree.name (at 1 12) (codes "channel")) (tree.name (at 1 20) (codes "of"))) (cons (tree.closure (at 1 23) empty (cons (tree.name (at 1 25) (codes "it")) empty)) empty)) empty)) empty

closure_as_an_item : prints (alone closure_as_an_item_script) ≡ Err (BadOption (at 1 23))
unfolding digits
closure_as_an_item = refl

-- process P {
-- input:
-- val x
-- output:
-- stdout
-- script:
-- "printf $x"
-- }
-- workflow { x = P }
abbrev process_as_a_value_script : Tree
process_as_a_value_script = cons (tree.process (at 1 1) (tree.name (at 1 9) (codes "P")) empty (tree.section (at 2 1) (cons (tree.val (at 3 1) (tree.name (at 3 5) (codes "x"))) empty)) (tree.section (at 4 1) (cons (tree.output (tree.stdout (at 5 1)) empty) empty)) (tree.section (at 6 1) (cons (tree.template (at 7 1) template_kind.Double (cons (tree.piece (at 7 1) (codes "printf ")) (cons (tree.hole (at 7 1) (tree.name (at 7 1) (codes "x"))) empty))) empty)) empty) (cons (tree.workflow (at 9 1) empty (cons (tree.assign (tree.name (at 9 12) (codes "x")) (tree.name (at 9 16) (codes "P"))) empty)) empty)

process_as_a_value : prints (alone process_as_a_value_script) ≡ Err (BadOption (at 9 16))
unfolding digits
process_as_a_value = refl

-- process P {
-- input:
-- val x
-- output:
-- stdout
-- script:
-- "printf $x"
-- }
-- workflow { P(channel.of(1))
-- P(channel.of(2)) }
abbrev called_twice_in_a_body_script : Tree
called_twice_in_a_body_script = cons (tree.process (at 1 1) (tree.name (at 1 9) (codes "P")) empty (tree.section (at 2 1) (cons (tree.val (at 3 1) (tree.name (at 3 5) (codes "x"))) empty)) (tree.section (at 4 1) (cons (tree.output (tree.stdout (at 5 1)) empty) empty)) (tree.section (at 6 1) (cons (tree.template (at 7 1) template_kind.Double (cons (tree.piece (at 7 1) (codes "printf ")) (cons (tree.hole (at 7 1) (tree.name (at 7 1) (codes "x"))) empty))) empty)) empty) (cons (tree.workflow (at 9 1) empty (cons (tree.call (at 9 13) (tree.name (at 9 12) (codes "P")) (cons (tree.call (at 9 24) (tree.property (tree.name (at 9 14) (codes "channel")) (tree.name (at 9 22) (codes "of"))) (cons (tree.number (at 9 25) (pos 1)) empty)) empty)) (cons (tree.call (at 10 2) (tree.name (at 10 1) (codes "P")) (cons (tree.call (at 10 13) (tree.property (tree.name (at 10 3) (codes "channel")) (tree.name (at 10 11) (codes "of"))) (cons (tree.number (at 10 14) (pos 2)) empty)) empty)) empty))) empty)

called_twice_in_a_body : prints (alone called_twice_in_a_body_script) ≡ Err (TwiceDefined (at 10 1))
unfolding digits
called_twice_in_a_body = refl

-- process P {
-- input:
-- val x
-- output:
-- stdout
-- script:
-- "printf $x"
-- }
-- workflow { P(P(channel.of(1))) }
abbrev called_in_its_argument_script : Tree
called_in_its_argument_script = cons (tree.process (at 1 1) (tree.name (at 1 9) (codes "P")) empty (tree.section (at 2 1) (cons (tree.val (at 3 1) (tree.name (at 3 5) (codes "x"))) empty)) (tree.section (at 4 1) (cons (tree.output (tree.stdout (at 5 1)) empty) empty)) (tree.section (at 6 1) (cons (tree.template (at 7 1) template_kind.Double (cons (tree.piece (at 7 1) (codes "printf ")) (cons (tree.hole (at 7 1) (tree.name (at 7 1) (codes "x"))) empty))) empty)) empty) (cons (tree.workflow (at 9 1) empty (cons (tree.call (at 9 13) (tree.name (at 9 12) (codes "P")) (cons (tree.call (at 9 15) (tree.name (at 9 14) (codes "P")) (cons (tree.call (at 9 26) (tree.property (tree.name (at 9 16) (codes "channel")) (tree.name (at 9 24) (codes "of"))) (cons (tree.number (at 9 27) (pos 1)) empty)) empty)) empty)) empty)) empty)

called_in_its_argument : prints (alone called_in_its_argument_script) ≡ Err (TwiceDefined (at 9 14))
unfolding digits
called_in_its_argument = refl

-- workflow { view(foo: channel.of(1)) }
abbrev no_receiver_script : Tree
no_receiver_script = cons (tree.workflow (at 1 1) empty (cons (tree.call (at 1 16) (tree.name (at 1 12) (codes "view")) (cons (tree.named (tree.name (at 1 17) (codes "foo")) (tree.call (at 1 32) (tree.property (tree.name (at 1 22) (codes "channel")) (tree.name (at 1 30) (codes "of"))) (cons (tree.number (at 1 33) (pos 1)) empty))) empty)) empty)) empty

no_receiver : prints (alone no_receiver_script) ≡ Err (WrongArity (at 1 12))
unfolding digits
no_receiver = refl

-- workflow { collect(flat: false, channel.of([1])).view() }
abbrev option_before_the_receiver_script : Tree
option_before_the_receiver_script = cons (tree.workflow (at 1 1) empty (cons (tree.call (at 1 54) (tree.property (tree.call (at 1 19) (tree.name (at 1 12) (codes "collect")) (cons (tree.named (tree.name (at 1 20) (codes "flat")) (tree.truth (at 1 26) false)) (cons (tree.call (at 1 43) (tree.property (tree.name (at 1 33) (codes "channel")) (tree.name (at 1 41) (codes "of"))) (cons (tree.list (at 1 44) (cons (tree.number (at 1 45) (pos 1)) empty)) empty)) empty))) (tree.name (at 1 50) (codes "view"))) empty) empty)) empty

option_before_the_receiver : prints (alone option_before_the_receiver_script) ≡ Ok (codes "[[1]]" ∷ [])
unfolding digits
option_before_the_receiver = refl

-- workflow { channel.of(1).collect(sort: { it }) }
abbrev closure_as_an_option_script : Tree
closure_as_an_option_script = cons (tree.workflow (at 1 1) empty (cons (tree.call (at 1 33) (tree.property (tree.call (at 1 22) (tree.property (tree.name (at 1 12) (codes "channel")) (tree.name (at 1 20) (codes "of"))) (cons (tree.number (at 1 23) (pos 1)) empty)) (tree.name (at 1 26) (codes "collect"))) (cons (tree.named (tree.name (at 1 34) (codes "sort")) (tree.closure (at 1 40) empty (cons (tree.name (at 1 42) (codes "it")) empty))) empty)) empty)) empty

closure_as_an_option : prints (alone closure_as_an_option_script) ≡ Err (BadOption (at 1 34))
unfolding digits
closure_as_an_option = refl

-- process P {
-- input:
-- val x
-- output:
-- stdout emit: a, emit: a
-- script:
-- "printf $x"
-- }
-- workflow { P(1) }
abbrev label_of_an_output_twice_script : Tree
label_of_an_output_twice_script = cons (tree.process (at 1 1) (tree.name (at 1 9) (codes "P")) empty (tree.section (at 2 1) (cons (tree.val (at 3 1) (tree.name (at 3 5) (codes "x"))) empty)) (tree.section (at 4 1) (cons (tree.output (tree.stdout (at 5 1)) (cons (tree.label (tree.name (at 5 8) (codes "emit")) (tree.name (at 5 14) (codes "a"))) (cons (tree.label (tree.name (at 5 17) (codes "emit")) (tree.name (at 5 23) (codes "a"))) empty))) empty)) (tree.section (at 6 1) (cons (tree.template (at 7 1) template_kind.Double (cons (tree.piece (at 7 1) (codes "printf ")) (cons (tree.hole (at 7 1) (tree.name (at 7 1) (codes "x"))) empty))) empty)) empty) (cons (tree.workflow (at 9 1) empty (cons (tree.call (at 9 13) (tree.name (at 9 12) (codes "P")) (cons (tree.number (at 9 14) (pos 1)) empty)) empty)) empty)

label_of_an_output_twice : prints (alone label_of_an_output_twice_script) ≡ Err (TwiceDefined (at 5 23))
unfolding digits
label_of_an_output_twice = refl

-- workflow W {
-- take: x
-- main: y = x
-- emit: y
-- }
-- workflow { W(W(1)) }
abbrev workflow_in_its_argument_script : Tree
workflow_in_its_argument_script = cons (tree.workflow (at 1 1) (tree.name (at 1 10) (codes "W")) (tree.parts (tree.section (at 2 1) (cons (tree.name (at 2 7) (codes "x")) empty)) (tree.section (at 3 1) (cons (tree.assign (tree.name (at 3 7) (codes "y")) (tree.name (at 3 11) (codes "x"))) empty)) (tree.section (at 4 1) (cons (tree.name (at 4 7) (codes "y")) empty)))) (cons (tree.workflow (at 6 1) empty (cons (tree.call (at 6 13) (tree.name (at 6 12) (codes "W")) (cons (tree.call (at 6 15) (tree.name (at 6 14) (codes "W")) (cons (tree.number (at 6 16) (pos 1)) empty)) empty)) empty)) empty)

workflow_in_its_argument : prints (alone workflow_in_its_argument_script) ≡ Err (TwiceDefined (at 6 14))
unfolding digits
workflow_in_its_argument = refl

-- workflow { channel.of(1).branch { v -> a: v; a: v } }
abbrev label_twice_script : Tree
label_twice_script = cons (tree.workflow (at 1 1) empty (cons (tree.call_with (tree.property (tree.call (at 1 22) (tree.property (tree.name (at 1 12) (codes "channel")) (tree.name (at 1 20) (codes "of"))) (cons (tree.number (at 1 23) (pos 1)) empty)) (tree.name (at 1 26) (codes "branch"))) (tree.closure (at 1 33) (tree.params (cons (tree.name (at 1 35) (codes "v")) empty)) (cons (tree.label (tree.name (at 1 40) (codes "a")) (tree.name (at 1 43) (codes "v"))) (cons (tree.label (tree.name (at 1 46) (codes "a")) (tree.name (at 1 49) (codes "v"))) empty)))) empty)) empty

label_twice : prints (alone label_twice_script) ≡ Err (TwiceDefined (at 1 46))
unfolding digits
label_twice = refl

-- process P {
-- input:
-- val x
-- val x
-- output:
-- stdout
-- script:
-- 'a'
-- }
-- workflow { P(1, 2) }
abbrev input_twice_script : Tree
input_twice_script = cons (tree.process (at 1 1) (tree.name (at 1 9) (codes "P")) empty (tree.section (at 2 1) (cons (tree.val (at 3 1) (tree.name (at 3 5) (codes "x"))) (cons (tree.val (at 4 1) (tree.name (at 4 5) (codes "x"))) empty))) (tree.section (at 5 1) (cons (tree.output (tree.stdout (at 6 1)) empty) empty)) (tree.section (at 7 1) (cons (tree.text (at 8 1) kind.Single (codes "a")) empty)) empty) (cons (tree.workflow (at 10 1) empty (cons (tree.call (at 10 13) (tree.name (at 10 12) (codes "P")) (cons (tree.number (at 10 14) (pos 1)) (cons (tree.number (at 10 17) (pos 2)) empty))) empty)) empty)

input_twice : prints (alone input_twice_script) ≡ Err (TwiceDefined (at 4 5))
unfolding digits
input_twice = refl

-- workflow { return 1 }
abbrev returned_script : Tree
returned_script = cons (tree.workflow (at 1 1) empty (cons (tree.return_ (at 1 12) (tree.number (at 1 19) (pos 1))) empty)) empty

returned : prints (alone returned_script) ≡ Err (BadOption (at 1 12))
unfolding digits
returned = refl

-- workflow { def x = 1
-- def x = 2 }
abbrev defined_twice_script : Tree
defined_twice_script = cons (tree.workflow (at 1 1) empty (cons (tree.define (at 1 12) (tree.name (at 1 16) (codes "x")) (tree.number (at 1 20) (pos 1))) (cons (tree.define (at 2 1) (tree.name (at 2 5) (codes "x")) (tree.number (at 2 9) (pos 2))) empty))) empty

defined_twice : prints (alone defined_twice_script) ≡ Err (TwiceDefined (at 2 5))
unfolding digits
defined_twice = refl

-- workflow { x = 1
-- if (true) { def x = 2
-- x = 3
-- y = x }
-- channel.of(x, y).view() }
abbrev defined_in_braces_script : Tree
defined_in_braces_script = cons (tree.workflow (at 1 1) empty (cons (tree.assign (tree.name (at 1 12) (codes "x")) (tree.number (at 1 16) (pos 1))) (cons (tree.choice (at 2 1) (tree.truth (at 2 5) true) (tree.statements (cons (tree.define (at 2 13) (tree.name (at 2 17) (codes "x")) (tree.number (at 2 21) (pos 2))) (cons (tree.assign (tree.name (at 3 1) (codes "x")) (tree.number (at 3 5) (pos 3))) (cons (tree.assign (tree.name (at 4 1) (codes "y")) (tree.name (at 4 5) (codes "x"))) empty)))) empty) (cons (tree.call (at 5 22) (tree.property (tree.call (at 5 11) (tree.property (tree.name (at 5 1) (codes "channel")) (tree.name (at 5 9) (codes "of"))) (cons (tree.name (at 5 12) (codes "x")) (cons (tree.name (at 5 15) (codes "y")) empty))) (tree.name (at 5 18) (codes "view"))) empty) empty)))) empty

defined_in_braces : prints (alone defined_in_braces_script) ≡ Ok (codes "1" ∷ codes "3" ∷ [])
unfolding digits
defined_in_braces = refl

-- workflow { if (true) { def z = 2 }
-- channel.of(z) }
abbrev gone_after_braces_script : Tree
gone_after_braces_script = cons (tree.workflow (at 1 1) empty (cons (tree.choice (at 1 12) (tree.truth (at 1 16) true) (tree.statements (cons (tree.define (at 1 24) (tree.name (at 1 28) (codes "z")) (tree.number (at 1 32) (pos 2))) empty)) empty) (cons (tree.call (at 2 11) (tree.property (tree.name (at 2 1) (codes "channel")) (tree.name (at 2 9) (codes "of"))) (cons (tree.name (at 2 12) (codes "z")) empty)) empty))) empty

gone_after_braces : prints (alone gone_after_braces_script) ≡ Err (UnknownName (at 2 12))
unfolding digits
gone_after_braces = refl

-- workflow { def (a, b) = [1] }
abbrev list_taken_apart_script : Tree
list_taken_apart_script = cons (tree.workflow (at 1 1) empty (cons (tree.define_all (at 1 12) (cons (tree.name (at 1 17) (codes "a")) (cons (tree.name (at 1 20) (codes "b")) empty)) (tree.list (at 1 25) (cons (tree.number (at 1 26) (pos 1)) empty))) empty)) empty

list_taken_apart : prints (alone list_taken_apart_script) ≡ Err (ParamFault (record { kind = Arity; place = at 1 12 }))
unfolding digits
list_taken_apart = refl

-- workflow { def (a, b) = [1, 2]
-- channel.of(b, a).view() }
abbrev names_of_a_list_script : Tree
names_of_a_list_script = cons (tree.workflow (at 1 1) empty (cons (tree.define_all (at 1 12) (cons (tree.name (at 1 17) (codes "a")) (cons (tree.name (at 1 20) (codes "b")) empty)) (tree.list (at 1 25) (cons (tree.number (at 1 26) (pos 1)) (cons (tree.number (at 1 29) (pos 2)) empty)))) (cons (tree.call (at 2 22) (tree.property (tree.call (at 2 11) (tree.property (tree.name (at 2 1) (codes "channel")) (tree.name (at 2 9) (codes "of"))) (cons (tree.name (at 2 12) (codes "b")) (cons (tree.name (at 2 15) (codes "a")) empty))) (tree.name (at 2 18) (codes "view"))) empty) empty))) empty

names_of_a_list : prints (alone names_of_a_list_script) ≡ Ok (codes "1" ∷ codes "2" ∷ [])
unfolding digits
names_of_a_list = refl

-- def twice(x) { x * 2 }
-- workflow DOUBLE {
-- take: ch
-- main: res = ch.map { twice(it) }
-- emit: res
-- }
-- workflow {
-- DOUBLE(channel.of(1))
-- DOUBLE.out.foo.view()
-- }
abbrev no_such_output_script : Tree
no_such_output_script = cons (tree.function (at 1 1) (tree.name (at 1 5) (codes "twice")) (cons (tree.name (at 1 11) (codes "x")) empty) (cons (tree.binary (at 1 18) mark.Times (tree.name (at 1 16) (codes "x")) (tree.number (at 1 20) (pos 2))) empty)) (cons (tree.workflow (at 2 1) (tree.name (at 2 10) (codes "DOUBLE")) (tree.parts (tree.section (at 3 1) (cons (tree.name (at 3 7) (codes "ch")) empty)) (tree.section (at 4 1) (cons (tree.assign (tree.name (at 4 7) (codes "res")) (tree.call_with (tree.property (tree.name (at 4 13) (codes "ch")) (tree.name (at 4 16) (codes "map"))) (tree.closure (at 4 20) empty (cons (tree.call (at 4 27) (tree.name (at 4 22) (codes "twice")) (cons (tree.name (at 4 28) (codes "it")) empty)) empty)))) empty)) (tree.section (at 5 1) (cons (tree.name (at 5 7) (codes "res")) empty)))) (cons (tree.workflow (at 7 1) empty (cons (tree.call (at 8 7) (tree.name (at 8 1) (codes "DOUBLE")) (cons (tree.call (at 8 18) (tree.property (tree.name (at 8 8) (codes "channel")) (tree.name (at 8 16) (codes "of"))) (cons (tree.number (at 8 19) (pos 1)) empty)) empty)) (cons (tree.call (at 9 20) (tree.property (tree.property (tree.property (tree.name (at 9 1) (codes "DOUBLE")) (tree.name (at 9 8) (codes "out"))) (tree.name (at 9 12) (codes "foo"))) (tree.name (at 9 16) (codes "view"))) empty) empty))) empty))

no_such_output : prints (alone no_such_output_script) ≡ Err (UnknownName (at 9 12))
unfolding digits
no_such_output = refl

-- def twice(x) { x * 2 }
-- workflow DOUBLE {
-- take: ch
-- main: res = ch.map { twice(it) }
-- emit: res
-- }
-- workflow {
-- DOUBLE(channel.of(1))
-- DOUBLE.out[1].view()
-- }
abbrev no_such_place_script : Tree
no_such_place_script = cons (tree.function (at 1 1) (tree.name (at 1 5) (codes "twice")) (cons (tree.name (at 1 11) (codes "x")) empty) (cons (tree.binary (at 1 18) mark.Times (tree.name (at 1 16) (codes "x")) (tree.number (at 1 20) (pos 2))) empty)) (cons (tree.workflow (at 2 1) (tree.name (at 2 10) (codes "DOUBLE")) (tree.parts (tree.section (at 3 1) (cons (tree.name (at 3 7) (codes "ch")) empty)) (tree.section (at 4 1) (cons (tree.assign (tree.name (at 4 7) (codes "res")) (tree.call_with (tree.property (tree.name (at 4 13) (codes "ch")) (tree.name (at 4 16) (codes "map"))) (tree.closure (at 4 20) empty (cons (tree.call (at 4 27) (tree.name (at 4 22) (codes "twice")) (cons (tree.name (at 4 28) (codes "it")) empty)) empty)))) empty)) (tree.section (at 5 1) (cons (tree.name (at 5 7) (codes "res")) empty)))) (cons (tree.workflow (at 7 1) empty (cons (tree.call (at 8 7) (tree.name (at 8 1) (codes "DOUBLE")) (cons (tree.call (at 8 18) (tree.property (tree.name (at 8 8) (codes "channel")) (tree.name (at 8 16) (codes "of"))) (cons (tree.number (at 8 19) (pos 1)) empty)) empty)) (cons (tree.call (at 9 19) (tree.property (tree.index (at 9 11) (tree.property (tree.name (at 9 1) (codes "DOUBLE")) (tree.name (at 9 8) (codes "out"))) (tree.number (at 9 12) (pos 1))) (tree.name (at 9 15) (codes "view"))) empty) empty))) empty))

no_such_place : prints (alone no_such_place_script) ≡ Err (UnknownName (at 9 11))
unfolding digits
no_such_place = refl

-- def twice(x) { x * 2 }
-- workflow DOUBLE {
-- take: ch
-- main: res = ch.map { twice(it) }
-- emit: res
-- }
-- workflow {
-- DOUBLE(channel.of(1))
-- DOUBLE.out.res.view()
-- }
abbrev output_by_name_script : Tree
output_by_name_script = cons (tree.function (at 1 1) (tree.name (at 1 5) (codes "twice")) (cons (tree.name (at 1 11) (codes "x")) empty) (cons (tree.binary (at 1 18) mark.Times (tree.name (at 1 16) (codes "x")) (tree.number (at 1 20) (pos 2))) empty)) (cons (tree.workflow (at 2 1) (tree.name (at 2 10) (codes "DOUBLE")) (tree.parts (tree.section (at 3 1) (cons (tree.name (at 3 7) (codes "ch")) empty)) (tree.section (at 4 1) (cons (tree.assign (tree.name (at 4 7) (codes "res")) (tree.call_with (tree.property (tree.name (at 4 13) (codes "ch")) (tree.name (at 4 16) (codes "map"))) (tree.closure (at 4 20) empty (cons (tree.call (at 4 27) (tree.name (at 4 22) (codes "twice")) (cons (tree.name (at 4 28) (codes "it")) empty)) empty)))) empty)) (tree.section (at 5 1) (cons (tree.name (at 5 7) (codes "res")) empty)))) (cons (tree.workflow (at 7 1) empty (cons (tree.call (at 8 7) (tree.name (at 8 1) (codes "DOUBLE")) (cons (tree.call (at 8 18) (tree.property (tree.name (at 8 8) (codes "channel")) (tree.name (at 8 16) (codes "of"))) (cons (tree.number (at 8 19) (pos 1)) empty)) empty)) (cons (tree.call (at 9 20) (tree.property (tree.property (tree.property (tree.name (at 9 1) (codes "DOUBLE")) (tree.name (at 9 8) (codes "out"))) (tree.name (at 9 12) (codes "res"))) (tree.name (at 9 16) (codes "view"))) empty) empty))) empty))

output_by_name : prints (alone output_by_name_script) ≡ Ok (codes "2" ∷ [])
unfolding digits
output_by_name = refl

-- workflow { a = channel.of(1)
-- b = channel.of(2)
-- (params.x ? a : b).view() }
abbrev arm_over_channels_script : Tree
arm_over_channels_script = cons (tree.workflow (at 1 1) empty (cons (tree.assign (tree.name (at 1 12) (codes "a")) (tree.call (at 1 26) (tree.property (tree.name (at 1 16) (codes "channel")) (tree.name (at 1 24) (codes "of"))) (cons (tree.number (at 1 27) (pos 1)) empty))) (cons (tree.assign (tree.name (at 2 1) (codes "b")) (tree.call (at 2 15) (tree.property (tree.name (at 2 5) (codes "channel")) (tree.name (at 2 13) (codes "of"))) (cons (tree.number (at 2 16) (pos 2)) empty))) (cons (tree.call (at 3 24) (tree.property (tree.conditional (at 3 11) (tree.property (tree.name (at 3 2) (codes "params")) (tree.name (at 3 9) (codes "x"))) (tree.name (at 3 13) (codes "a")) (tree.name (at 3 17) (codes "b"))) (tree.name (at 3 20) (codes "view"))) empty) empty)))) empty

arm_over_channels : prints (alone arm_over_channels_script) ≡ Ok (codes "2" ∷ [])
unfolding digits
arm_over_channels = refl

-- workflow { channel.fromPath('*/a.txt') }
abbrev glob_in_a_folder_script : Tree
glob_in_a_folder_script = cons (tree.workflow (at 1 1) empty (cons (tree.call (at 1 28) (tree.property (tree.name (at 1 12) (codes "channel")) (tree.name (at 1 20) (codes "fromPath"))) (cons (tree.text (at 1 29) kind.Single (codes "*/a.txt")) empty)) empty)) empty

glob_in_a_folder : prints (alone glob_in_a_folder_script) ≡ Err (BadOption (at 1 29))
unfolding digits chars
glob_in_a_folder = refl

-- workflow { channel.fromFilePairs('d/*.fq') }
abbrev pair_pattern_without_alternatives_script : Tree
pair_pattern_without_alternatives_script = cons (tree.workflow (at 1 1) empty (cons (tree.call (at 1 33) (tree.property (tree.name (at 1 12) (codes "channel")) (tree.name (at 1 20) (codes "fromFilePairs"))) (cons (tree.text (at 1 34) kind.Single (codes "d/*.fq")) empty)) empty)) empty

pair_pattern_without_alternatives : prints (alone pair_pattern_without_alternatives_script) ≡ Err (BadOption (at 1 34))
unfolding digits chars encode
pair_pattern_without_alternatives = refl

-- workflow { channel.empty().ifEmpty { 7 }.view() }
abbrev filled_when_empty_script : Tree
filled_when_empty_script = cons (tree.workflow (at 1 1) empty (cons (tree.call (at 1 46) (tree.property (tree.call_with (tree.property (tree.call (at 1 25) (tree.property (tree.name (at 1 12) (codes "channel")) (tree.name (at 1 20) (codes "empty"))) empty) (tree.name (at 1 28) (codes "ifEmpty"))) (tree.closure (at 1 36) empty (cons (tree.number (at 1 38) (pos 7)) empty))) (tree.name (at 1 42) (codes "view"))) empty) empty)) empty

filled_when_empty : prints (alone filled_when_empty_script) ≡ Ok (codes "7" ∷ [])
unfolding digits
filled_when_empty = refl

-- workflow { channel.empty().ifEmpty { 1 % 0 }.view() }
abbrev filling_fault_script : Tree
filling_fault_script = cons (tree.workflow (at 1 1) empty (cons (tree.call (at 1 50) (tree.property (tree.call_with (tree.property (tree.call (at 1 25) (tree.property (tree.name (at 1 12) (codes "channel")) (tree.name (at 1 20) (codes "empty"))) empty) (tree.name (at 1 28) (codes "ifEmpty"))) (tree.closure (at 1 36) empty (cons (tree.binary (at 1 40) mark.Remainder (tree.number (at 1 38) (pos 1)) (tree.number (at 1 42) (pos 0))) empty))) (tree.name (at 1 46) (codes "view"))) empty) empty)) empty

filling_fault : prints (alone filling_fault_script) ≡ Err (ParamFault (record { kind = DivZero; place = at 1 40 }))
unfolding digits
filling_fault = refl

-- workflow { channel.of(1).map { file('a') } }
abbrev file_in_a_closure_script : Tree
file_in_a_closure_script = cons (tree.workflow (at 1 1) empty (cons (tree.call_with (tree.property (tree.call (at 1 22) (tree.property (tree.name (at 1 12) (codes "channel")) (tree.name (at 1 20) (codes "of"))) (cons (tree.number (at 1 23) (pos 1)) empty)) (tree.name (at 1 26) (codes "map"))) (tree.closure (at 1 30) empty (cons (tree.call (at 1 36) (tree.name (at 1 32) (codes "file")) (cons (tree.text (at 1 37) kind.Single (codes "a")) empty)) empty))) empty)) empty

file_in_a_closure : prints (alone file_in_a_closure_script) ≡ Err (BadOption (at 1 32))
unfolding digits chars encode
file_in_a_closure = refl

-- workflow { channel.of(file('a').name) }
abbrev file_before_a_dot_script : Tree
file_before_a_dot_script = cons (tree.workflow (at 1 1) empty (cons (tree.call (at 1 22) (tree.property (tree.name (at 1 12) (codes "channel")) (tree.name (at 1 20) (codes "of"))) (cons (tree.property (tree.call (at 1 27) (tree.name (at 1 23) (codes "file")) (cons (tree.text (at 1 28) kind.Single (codes "a")) empty)) (tree.name (at 1 33) (codes "name"))) empty)) empty)) empty

file_before_a_dot : prints (alone file_before_a_dot_script) ≡ Err (BadOption (at 1 23))
unfolding digits chars encode
file_before_a_dot = refl

-- workflow { channel.of(1).join(channel.of(1), channel.of(2)) }
abbrev too_many_arguments_script : Tree
too_many_arguments_script = cons (tree.workflow (at 1 1) empty (cons (tree.call (at 1 30) (tree.property (tree.call (at 1 22) (tree.property (tree.name (at 1 12) (codes "channel")) (tree.name (at 1 20) (codes "of"))) (cons (tree.number (at 1 23) (pos 1)) empty)) (tree.name (at 1 26) (codes "join"))) (cons (tree.call (at 1 41) (tree.property (tree.name (at 1 31) (codes "channel")) (tree.name (at 1 39) (codes "of"))) (cons (tree.number (at 1 42) (pos 1)) empty)) (cons (tree.call (at 1 56) (tree.property (tree.name (at 1 46) (codes "channel")) (tree.name (at 1 54) (codes "of"))) (cons (tree.number (at 1 57) (pos 2)) empty)) empty))) empty)) empty

too_many_arguments : prints (alone too_many_arguments_script) ≡ Err (WrongArity (at 1 26))
unfolding digits
too_many_arguments = refl

-- workflow { channel.of(1).combine(channel.of(1), by: 1) }
abbrev key_of_combine_script : Tree
key_of_combine_script = cons (tree.workflow (at 1 1) empty (cons (tree.call (at 1 33) (tree.property (tree.call (at 1 22) (tree.property (tree.name (at 1 12) (codes "channel")) (tree.name (at 1 20) (codes "of"))) (cons (tree.number (at 1 23) (pos 1)) empty)) (tree.name (at 1 26) (codes "combine"))) (cons (tree.call (at 1 44) (tree.property (tree.name (at 1 34) (codes "channel")) (tree.name (at 1 42) (codes "of"))) (cons (tree.number (at 1 45) (pos 1)) empty)) (cons (tree.named (tree.name (at 1 49) (codes "by")) (tree.number (at 1 53) (pos 1))) empty))) empty)) empty

key_of_combine : prints (alone key_of_combine_script) ≡ Err (BadOption (at 1 49))
unfolding digits
key_of_combine = refl

-- workflow { }
-- workflow { }
abbrev second_entry_script : Tree
second_entry_script = cons (tree.workflow (at 1 1) empty empty) (cons (tree.workflow (at 2 1) empty empty) empty)

second_entry : prints (alone second_entry_script) ≡ Err (TwiceDefined (at 2 1))
unfolding digits
second_entry = refl

-- def f(x, x) { x }
-- workflow { channel.of(f(1, 2)) }
abbrev parameter_of_a_function_twice_script : Tree
parameter_of_a_function_twice_script = cons (tree.function (at 1 1) (tree.name (at 1 5) (codes "f")) (cons (tree.name (at 1 7) (codes "x")) (cons (tree.name (at 1 10) (codes "x")) empty)) (cons (tree.name (at 1 15) (codes "x")) empty)) (cons (tree.workflow (at 2 1) empty (cons (tree.call (at 2 22) (tree.property (tree.name (at 2 12) (codes "channel")) (tree.name (at 2 20) (codes "of"))) (cons (tree.call (at 2 24) (tree.name (at 2 23) (codes "f")) (cons (tree.number (at 2 25) (pos 1)) (cons (tree.number (at 2 28) (pos 2)) empty))) empty)) empty)) empty)

parameter_of_a_function_twice : prints (alone parameter_of_a_function_twice_script) ≡ Err (TwiceDefined (at 1 10))
unfolding digits
parameter_of_a_function_twice = refl

-- def f(x) { x }
-- workflow { channel.of(1) | f }
abbrev function_after_a_pipe_script : Tree
function_after_a_pipe_script = cons (tree.function (at 1 1) (tree.name (at 1 5) (codes "f")) (cons (tree.name (at 1 7) (codes "x")) empty) (cons (tree.name (at 1 12) (codes "x")) empty)) (cons (tree.workflow (at 2 1) empty (cons (tree.binary (at 2 26) mark.Pipe (tree.call (at 2 22) (tree.property (tree.name (at 2 12) (codes "channel")) (tree.name (at 2 20) (codes "of"))) (cons (tree.number (at 2 23) (pos 1)) empty)) (tree.name (at 2 28) (codes "f"))) empty)) empty)

function_after_a_pipe : prints (alone function_after_a_pipe_script) ≡ Err (BadOption (at 2 28))
unfolding digits
function_after_a_pipe = refl

-- workflow { log.warn 'a' }
abbrev unknown_log_script : Tree
unknown_log_script = cons (tree.workflow (at 1 1) empty (cons (tree.log (at 1 12) (tree.name (at 1 16) (codes "warn")) (tree.text (at 1 21) kind.Single (codes "a"))) empty)) empty

unknown_log : prints (alone unknown_log_script) ≡ Err (BadOption (at 1 16))
unfolding digits
unknown_log = refl

-- workflow { channel.of(1).mix(channel.of(2), 3).view() }
abbrev mixed_script : Tree
mixed_script = cons (tree.workflow (at 1 1) empty (cons (tree.call (at 1 52) (tree.property (tree.call (at 1 29) (tree.property (tree.call (at 1 22) (tree.property (tree.name (at 1 12) (codes "channel")) (tree.name (at 1 20) (codes "of"))) (cons (tree.number (at 1 23) (pos 1)) empty)) (tree.name (at 1 26) (codes "mix"))) (cons (tree.call (at 1 40) (tree.property (tree.name (at 1 30) (codes "channel")) (tree.name (at 1 38) (codes "of"))) (cons (tree.number (at 1 41) (pos 2)) empty)) (cons (tree.number (at 1 45) (pos 3)) empty))) (tree.name (at 1 48) (codes "view"))) empty) empty)) empty

mixed : prints (alone mixed_script) ≡ Ok (codes "1" ∷ codes "2" ∷ codes "3" ∷ [])
unfolding digits
mixed = refl

-- process P {
-- input:
-- val x
-- val y
-- output:
-- stdout
-- script:
-- 'a'
-- }
-- workflow { P(channel.of(1, 2), 5).view() }
abbrev value_input_for_each_script : Tree
value_input_for_each_script = cons (tree.process (at 1 1) (tree.name (at 1 9) (codes "P")) empty (tree.section (at 2 1) (cons (tree.val (at 3 1) (tree.name (at 3 5) (codes "x"))) (cons (tree.val (at 4 1) (tree.name (at 4 5) (codes "y"))) empty))) (tree.section (at 5 1) (cons (tree.output (tree.stdout (at 6 1)) empty) empty)) (tree.section (at 7 1) (cons (tree.text (at 8 1) kind.Single (codes "a")) empty)) empty) (cons (tree.workflow (at 10 1) empty (cons (tree.call (at 10 39) (tree.property (tree.call (at 10 13) (tree.name (at 10 12) (codes "P")) (cons (tree.call (at 10 24) (tree.property (tree.name (at 10 14) (codes "channel")) (tree.name (at 10 22) (codes "of"))) (cons (tree.number (at 10 25) (pos 1)) (cons (tree.number (at 10 28) (pos 2)) empty))) (cons (tree.number (at 10 32) (pos 5)) empty))) (tree.name (at 10 35) (codes "view"))) empty) empty)) empty)

value_input_for_each : prints (record (alone value_input_for_each_script) { outcomes = λ call inputs n. (wrote (value_text (list (plains_of inputs))) ∷ []) }) ≡ Ok (codes "[1, 5]" ∷ codes "[2, 5]" ∷ [])
unfolding digits
value_input_for_each = refl

-- process P {
-- input:
-- val x
-- val y
-- output:
-- stdout
-- script:
-- 'a'
-- }
-- workflow { P(channel.of(1, 2), channel.value(1).filter(2)).view() }
abbrev no_item_for_a_value_input_script : Tree
no_item_for_a_value_input_script = cons (tree.process (at 1 1) (tree.name (at 1 9) (codes "P")) empty (tree.section (at 2 1) (cons (tree.val (at 3 1) (tree.name (at 3 5) (codes "x"))) (cons (tree.val (at 4 1) (tree.name (at 4 5) (codes "y"))) empty))) (tree.section (at 5 1) (cons (tree.output (tree.stdout (at 6 1)) empty) empty)) (tree.section (at 7 1) (cons (tree.text (at 8 1) kind.Single (codes "a")) empty)) empty) (cons (tree.workflow (at 10 1) empty (cons (tree.call (at 10 64) (tree.property (tree.call (at 10 13) (tree.name (at 10 12) (codes "P")) (cons (tree.call (at 10 24) (tree.property (tree.name (at 10 14) (codes "channel")) (tree.name (at 10 22) (codes "of"))) (cons (tree.number (at 10 25) (pos 1)) (cons (tree.number (at 10 28) (pos 2)) empty))) (cons (tree.call (at 10 55) (tree.property (tree.call (at 10 45) (tree.property (tree.name (at 10 32) (codes "channel")) (tree.name (at 10 40) (codes "value"))) (cons (tree.number (at 10 46) (pos 1)) empty)) (tree.name (at 10 49) (codes "filter"))) (cons (tree.number (at 10 56) (pos 2)) empty)) empty))) (tree.name (at 10 60) (codes "view"))) empty) empty)) empty)

no_item_for_a_value_input : prints (record (alone no_item_for_a_value_input_script) { outcomes = λ call inputs n. (wrote (codes "b") ∷ []) }) ≡ Ok ([])
unfolding digits
no_item_for_a_value_input = refl

-- process P {
-- errorStrategy 'ignore'
-- input:
-- val x
-- output:
-- stdout
-- script:
-- 'a'
-- }
-- workflow { P(channel.of(0, 3)).view() }
abbrev ignored_script : Tree
ignored_script = cons (tree.process (at 1 1) (tree.name (at 1 9) (codes "P")) (cons (tree.directive (tree.name (at 2 1) (codes "errorStrategy")) (cons (tree.text (at 2 15) kind.Single (codes "ignore")) empty)) empty) (tree.section (at 3 1) (cons (tree.val (at 4 1) (tree.name (at 4 5) (codes "x"))) empty)) (tree.section (at 5 1) (cons (tree.output (tree.stdout (at 6 1)) empty) empty)) (tree.section (at 7 1) (cons (tree.text (at 8 1) kind.Single (codes "a")) empty)) empty) (cons (tree.workflow (at 10 1) empty (cons (tree.call (at 10 36) (tree.property (tree.call (at 10 13) (tree.name (at 10 12) (codes "P")) (cons (tree.call (at 10 24) (tree.property (tree.name (at 10 14) (codes "channel")) (tree.name (at 10 22) (codes "of"))) (cons (tree.number (at 10 25) (pos 0)) (cons (tree.number (at 10 28) (pos 3)) empty))) empty)) (tree.name (at 10 32) (codes "view"))) empty) empty)) empty)

ignored : prints (record (alone ignored_script) { outcomes = λ call inputs n. (if is_same_list inputs (int (pos 0) ∷ []) then wrote (codes "v0") ∷ [] else record { exit = pos 3; captured = captured.Text (codes "v3"); found = [] } ∷ []) }) ≡ Ok (codes "v0" ∷ [])
unfolding digits
ignored = refl

-- process P {
-- errorStrategy 'retry'
-- input:
-- val x
-- output:
-- stdout
-- script:
-- 'a'
-- }
-- workflow { P(channel.of('q')).view() }
abbrev tried_again_script : Tree
tried_again_script = cons (tree.process (at 1 1) (tree.name (at 1 9) (codes "P")) (cons (tree.directive (tree.name (at 2 1) (codes "errorStrategy")) (cons (tree.text (at 2 15) kind.Single (codes "retry")) empty)) empty) (tree.section (at 3 1) (cons (tree.val (at 4 1) (tree.name (at 4 5) (codes "x"))) empty)) (tree.section (at 5 1) (cons (tree.output (tree.stdout (at 6 1)) empty) empty)) (tree.section (at 7 1) (cons (tree.text (at 8 1) kind.Single (codes "a")) empty)) empty) (cons (tree.workflow (at 10 1) empty (cons (tree.call (at 10 35) (tree.property (tree.call (at 10 13) (tree.name (at 10 12) (codes "P")) (cons (tree.call (at 10 24) (tree.property (tree.name (at 10 14) (codes "channel")) (tree.name (at 10 22) (codes "of"))) (cons (tree.text (at 10 25) kind.Single (codes "q")) empty)) empty)) (tree.name (at 10 31) (codes "view"))) empty) empty)) empty)

tried_again : prints (record (alone tried_again_script) { outcomes = λ call inputs n. (record { exit = pos 3; captured = captured.Text (codes "a1"); found = [] } ∷ wrote (codes "a2") ∷ []) }) ≡ Ok (codes "a2" ∷ [])
unfolding digits
tried_again = refl

-- process P {
-- errorStrategy 'retry'
-- maxRetries 0
-- input:
-- val x
-- output:
-- stdout
-- script:
-- 'a'
-- }
-- workflow { P(channel.of('q')).view() }
abbrev tried_no_more_script : Tree
tried_no_more_script = cons (tree.process (at 1 1) (tree.name (at 1 9) (codes "P")) (cons (tree.directive (tree.name (at 2 1) (codes "errorStrategy")) (cons (tree.text (at 2 15) kind.Single (codes "retry")) empty)) (cons (tree.directive (tree.name (at 3 1) (codes "maxRetries")) (cons (tree.number (at 3 12) (pos 0)) empty)) empty)) (tree.section (at 4 1) (cons (tree.val (at 5 1) (tree.name (at 5 5) (codes "x"))) empty)) (tree.section (at 6 1) (cons (tree.output (tree.stdout (at 7 1)) empty) empty)) (tree.section (at 8 1) (cons (tree.text (at 9 1) kind.Single (codes "a")) empty)) empty) (cons (tree.workflow (at 11 1) empty (cons (tree.call (at 11 35) (tree.property (tree.call (at 11 13) (tree.name (at 11 12) (codes "P")) (cons (tree.call (at 11 24) (tree.property (tree.name (at 11 14) (codes "channel")) (tree.name (at 11 22) (codes "of"))) (cons (tree.text (at 11 25) kind.Single (codes "q")) empty)) empty)) (tree.name (at 11 31) (codes "view"))) empty) empty)) empty)

tried_no_more : faults (record (alone tried_no_more_script) { outcomes = λ call inputs n. (record { exit = pos 3; captured = captured.Text (codes "a1"); found = [] } ∷ wrote (codes "a2") ∷ []) }) ≡ Ok (task_fails (record { call = codes "P"; inputs = text (codes "q") ∷ []; n = 0 }) (Exit (pos 3)) ∷ [])
unfolding digits
tried_no_more = refl

-- process P {
-- input:
-- val x
-- output:
-- stdout
-- script:
-- 'a'
-- }
-- workflow W {
-- take: c
-- main: P(c)
-- }
-- workflow { W(channel.of(1)) }
abbrev path_of_a_call_script : Tree
path_of_a_call_script = cons (tree.process (at 1 1) (tree.name (at 1 9) (codes "P")) empty (tree.section (at 2 1) (cons (tree.val (at 3 1) (tree.name (at 3 5) (codes "x"))) empty)) (tree.section (at 4 1) (cons (tree.output (tree.stdout (at 5 1)) empty) empty)) (tree.section (at 6 1) (cons (tree.text (at 7 1) kind.Single (codes "a")) empty)) empty) (cons (tree.workflow (at 9 1) (tree.name (at 9 10) (codes "W")) (tree.parts (tree.section (at 10 1) (cons (tree.name (at 10 7) (codes "c")) empty)) (tree.section (at 11 1) (cons (tree.call (at 11 8) (tree.name (at 11 7) (codes "P")) (cons (tree.name (at 11 9) (codes "c")) empty)) empty)) empty)) (cons (tree.workflow (at 13 1) empty (cons (tree.call (at 13 13) (tree.name (at 13 12) (codes "W")) (cons (tree.call (at 13 24) (tree.property (tree.name (at 13 14) (codes "channel")) (tree.name (at 13 22) (codes "of"))) (cons (tree.number (at 13 25) (pos 1)) empty)) empty)) empty)) empty))

path_of_a_call : faults (record (alone path_of_a_call_script) { outcomes = λ call inputs n. (record { exit = pos 0; captured = captured.Bad; found = [] } ∷ []) }) ≡ Ok (task_fails (record { call = codes "W:P"; inputs = int (pos 1) ∷ []; n = 0 }) BadStdout ∷ [])
unfolding digits
path_of_a_call = refl

-- process P {
-- cpus nope
-- output:
-- stdout
-- script:
-- 'a'
-- }
-- workflow { P() }
abbrev in_the_definition_after_the_arguments_script : Tree
in_the_definition_after_the_arguments_script = cons (tree.process (at 1 1) (tree.name (at 1 9) (codes "P")) (cons (tree.directive (tree.name (at 2 1) (codes "cpus")) (cons (tree.name (at 2 6) (codes "nope")) empty)) empty) empty (tree.section (at 3 1) (cons (tree.output (tree.stdout (at 4 1)) empty) empty)) (tree.section (at 5 1) (cons (tree.text (at 6 1) kind.Single (codes "a")) empty)) empty) (cons (tree.workflow (at 8 1) empty (cons (tree.call (at 8 13) (tree.name (at 8 12) (codes "P")) empty) empty)) empty)

in_the_definition_after_the_arguments : prints (alone in_the_definition_after_the_arguments_script) ≡ Err (UnknownName (at 2 6))
unfolding digits
in_the_definition_after_the_arguments = refl

-- def f(x) { g(x) + 1 }
-- def g(x) { x * 2 }
-- workflow { channel.of(f(3)).view() }
abbrev functions_in_any_order_script : Tree
functions_in_any_order_script = cons (tree.function (at 1 1) (tree.name (at 1 5) (codes "f")) (cons (tree.name (at 1 7) (codes "x")) empty) (cons (tree.binary (at 1 17) mark.Plus (tree.call (at 1 13) (tree.name (at 1 12) (codes "g")) (cons (tree.name (at 1 14) (codes "x")) empty)) (tree.number (at 1 19) (pos 1))) empty)) (cons (tree.function (at 2 1) (tree.name (at 2 5) (codes "g")) (cons (tree.name (at 2 7) (codes "x")) empty) (cons (tree.binary (at 2 14) mark.Times (tree.name (at 2 12) (codes "x")) (tree.number (at 2 16) (pos 2))) empty)) (cons (tree.workflow (at 3 1) empty (cons (tree.call (at 3 33) (tree.property (tree.call (at 3 22) (tree.property (tree.name (at 3 12) (codes "channel")) (tree.name (at 3 20) (codes "of"))) (cons (tree.call (at 3 24) (tree.name (at 3 23) (codes "f")) (cons (tree.number (at 3 25) (pos 3)) empty)) empty)) (tree.name (at 3 29) (codes "view"))) empty) empty)) empty))

functions_in_any_order : prints (alone functions_in_any_order_script) ≡ Ok (codes "7" ∷ [])
unfolding digits
functions_in_any_order = refl

-- process P {
-- input:
-- val x
-- output:
-- stdout
-- script:
-- 'a'
-- }
-- workflow B {
-- take: c
-- main: P(c)
-- }
-- workflow A {
-- take: c
-- main: B(c)
-- }
-- workflow { A(1) }
abbrev path_through_two_workflows_script : Tree
path_through_two_workflows_script = cons (tree.process (at 1 1) (tree.name (at 1 9) (codes "P")) empty (tree.section (at 2 1) (cons (tree.val (at 3 1) (tree.name (at 3 5) (codes "x"))) empty)) (tree.section (at 4 1) (cons (tree.output (tree.stdout (at 5 1)) empty) empty)) (tree.section (at 6 1) (cons (tree.text (at 7 1) kind.Single (codes "a")) empty)) empty) (cons (tree.workflow (at 9 1) (tree.name (at 9 10) (codes "B")) (tree.parts (tree.section (at 10 1) (cons (tree.name (at 10 7) (codes "c")) empty)) (tree.section (at 11 1) (cons (tree.call (at 11 8) (tree.name (at 11 7) (codes "P")) (cons (tree.name (at 11 9) (codes "c")) empty)) empty)) empty)) (cons (tree.workflow (at 13 1) (tree.name (at 13 10) (codes "A")) (tree.parts (tree.section (at 14 1) (cons (tree.name (at 14 7) (codes "c")) empty)) (tree.section (at 15 1) (cons (tree.call (at 15 8) (tree.name (at 15 7) (codes "B")) (cons (tree.name (at 15 9) (codes "c")) empty)) empty)) empty)) (cons (tree.workflow (at 17 1) empty (cons (tree.call (at 17 13) (tree.name (at 17 12) (codes "A")) (cons (tree.number (at 17 14) (pos 1)) empty)) empty)) empty)))

path_through_two_workflows : faults (record (alone path_through_two_workflows_script) { outcomes = λ call inputs n. (record { exit = pos 0; captured = captured.Bad; found = [] } ∷ []) }) ≡ Ok (task_fails (record { call = codes "A:B:P"; inputs = int (pos 1) ∷ []; n = 0 }) BadStdout ∷ [])
unfolding digits
path_through_two_workflows = refl

-- process P {
-- input:
-- val x
-- output:
-- val x, emit: same
-- stdout
-- script:
-- 'a'
-- }
-- workflow { P(7)
-- P.out.same.view()
-- P.out[1].view() }
abbrev two_outputs_script : Tree
two_outputs_script = cons (tree.process (at 1 1) (tree.name (at 1 9) (codes "P")) empty (tree.section (at 2 1) (cons (tree.val (at 3 1) (tree.name (at 3 5) (codes "x"))) empty)) (tree.section (at 4 1) (cons (tree.output (tree.val (at 5 1) (tree.name (at 5 5) (codes "x"))) (cons (tree.label (tree.name (at 5 8) (codes "emit")) (tree.name (at 5 14) (codes "same"))) empty)) (cons (tree.output (tree.stdout (at 6 1)) empty) empty))) (tree.section (at 7 1) (cons (tree.text (at 8 1) kind.Single (codes "a")) empty)) empty) (cons (tree.workflow (at 10 1) empty (cons (tree.call (at 10 13) (tree.name (at 10 12) (codes "P")) (cons (tree.number (at 10 14) (pos 7)) empty)) (cons (tree.call (at 11 16) (tree.property (tree.property (tree.property (tree.name (at 11 1) (codes "P")) (tree.name (at 11 3) (codes "out"))) (tree.name (at 11 7) (codes "same"))) (tree.name (at 11 12) (codes "view"))) empty) (cons (tree.call (at 12 14) (tree.property (tree.index (at 12 6) (tree.property (tree.name (at 12 1) (codes "P")) (tree.name (at 12 3) (codes "out"))) (tree.number (at 12 7) (pos 1))) (tree.name (at 12 10) (codes "view"))) empty) empty)))) empty)

two_outputs : prints (record (alone two_outputs_script) { outcomes = λ call inputs n. (wrote (codes "b") ∷ []) }) ≡ Ok (codes "7" ∷ codes "b" ∷ [])
unfolding digits
two_outputs = refl

-- process P {
-- input:
-- val x
-- output:
-- val x, emit: same
-- stdout
-- script:
-- 'a'
-- }
-- workflow { P(7).view() }
abbrev view_of_two_outputs_script : Tree
view_of_two_outputs_script = cons (tree.process (at 1 1) (tree.name (at 1 9) (codes "P")) empty (tree.section (at 2 1) (cons (tree.val (at 3 1) (tree.name (at 3 5) (codes "x"))) empty)) (tree.section (at 4 1) (cons (tree.output (tree.val (at 5 1) (tree.name (at 5 5) (codes "x"))) (cons (tree.label (tree.name (at 5 8) (codes "emit")) (tree.name (at 5 14) (codes "same"))) empty)) (cons (tree.output (tree.stdout (at 6 1)) empty) empty))) (tree.section (at 7 1) (cons (tree.text (at 8 1) kind.Single (codes "a")) empty)) empty) (cons (tree.workflow (at 10 1) empty (cons (tree.call (at 10 21) (tree.property (tree.call (at 10 13) (tree.name (at 10 12) (codes "P")) (cons (tree.number (at 10 14) (pos 7)) empty)) (tree.name (at 10 17) (codes "view"))) empty) empty)) empty)

view_of_two_outputs : prints (alone view_of_two_outputs_script) ≡ Err (BadOption (at 10 17))
unfolding digits
view_of_two_outputs = refl

-- workflow A {
-- take: c
-- main: c.view()
-- }
-- workflow { A() }
abbrev no_argument_for_a_workflow_script : Tree
no_argument_for_a_workflow_script = cons (tree.workflow (at 1 1) (tree.name (at 1 10) (codes "A")) (tree.parts (tree.section (at 2 1) (cons (tree.name (at 2 7) (codes "c")) empty)) (tree.section (at 3 1) (cons (tree.call (at 3 13) (tree.property (tree.name (at 3 7) (codes "c")) (tree.name (at 3 9) (codes "view"))) empty) empty)) empty)) (cons (tree.workflow (at 5 1) empty (cons (tree.call (at 5 13) (tree.name (at 5 12) (codes "A")) empty) empty)) empty)

no_argument_for_a_workflow : prints (alone no_argument_for_a_workflow_script) ≡ Err (WrongArity (at 5 12))
unfolding digits
no_argument_for_a_workflow = refl

-- workflow {
-- take: c
-- main: c.view()
-- }
abbrev entry_that_takes_script : Tree
entry_that_takes_script = cons (tree.workflow (at 1 1) empty (tree.parts (tree.section (at 2 1) (cons (tree.name (at 2 7) (codes "c")) empty)) (tree.section (at 3 1) (cons (tree.call (at 3 13) (tree.property (tree.name (at 3 7) (codes "c")) (tree.name (at 3 9) (codes "view"))) empty) empty)) empty)) empty

entry_that_takes : prints (alone entry_that_takes_script) ≡ Err (BadOption (at 2 7))
unfolding digits
entry_that_takes = refl

-- workflow A {
-- take: c
-- c
-- main: c.view()
-- }
-- workflow { A(1, 2) }
abbrev taken_twice_script : Tree
taken_twice_script = cons (tree.workflow (at 1 1) (tree.name (at 1 10) (codes "A")) (tree.parts (tree.section (at 2 1) (cons (tree.name (at 2 7) (codes "c")) (cons (tree.name (at 3 1) (codes "c")) empty))) (tree.section (at 4 1) (cons (tree.call (at 4 13) (tree.property (tree.name (at 4 7) (codes "c")) (tree.name (at 4 9) (codes "view"))) empty) empty)) empty)) (cons (tree.workflow (at 6 1) empty (cons (tree.call (at 6 13) (tree.name (at 6 12) (codes "A")) (cons (tree.number (at 6 14) (pos 1)) (cons (tree.number (at 6 17) (pos 2)) empty))) empty)) empty)

taken_twice : prints (alone taken_twice_script) ≡ Err (TwiceDefined (at 3 1))
unfolding digits
taken_twice = refl

-- process P {
-- input:
-- val x
-- output:
-- val x, emit: same
-- stdout
-- script:
-- 'a'
-- }
-- workflow { P(7).set { r }
-- r.same.view() }
abbrev set_of_a_call_script : Tree
set_of_a_call_script = cons (tree.process (at 1 1) (tree.name (at 1 9) (codes "P")) empty (tree.section (at 2 1) (cons (tree.val (at 3 1) (tree.name (at 3 5) (codes "x"))) empty)) (tree.section (at 4 1) (cons (tree.output (tree.val (at 5 1) (tree.name (at 5 5) (codes "x"))) (cons (tree.label (tree.name (at 5 8) (codes "emit")) (tree.name (at 5 14) (codes "same"))) empty)) (cons (tree.output (tree.stdout (at 6 1)) empty) empty))) (tree.section (at 7 1) (cons (tree.text (at 8 1) kind.Single (codes "a")) empty)) empty) (cons (tree.workflow (at 10 1) empty (cons (tree.call_with (tree.property (tree.call (at 10 13) (tree.name (at 10 12) (codes "P")) (cons (tree.number (at 10 14) (pos 7)) empty)) (tree.name (at 10 17) (codes "set"))) (tree.closure (at 10 21) empty (cons (tree.name (at 10 23) (codes "r")) empty))) (cons (tree.call (at 11 12) (tree.property (tree.property (tree.name (at 11 1) (codes "r")) (tree.name (at 11 3) (codes "same"))) (tree.name (at 11 8) (codes "view"))) empty) empty))) empty)

set_of_a_call : prints (record (alone set_of_a_call_script) { outcomes = λ call inputs n. (wrote (codes "b") ∷ []) }) ≡ Ok (codes "7" ∷ [])
unfolding digits
set_of_a_call = refl

-- workflow { channel.of(projectDir, launchDir).view() }
abbrev folder_of_the_script_script : Tree
folder_of_the_script_script = cons (tree.workflow (at 1 1) empty (cons (tree.call (at 1 50) (tree.property (tree.call (at 1 22) (tree.property (tree.name (at 1 12) (codes "channel")) (tree.name (at 1 20) (codes "of"))) (cons (tree.name (at 1 23) (codes "projectDir")) (cons (tree.name (at 1 35) (codes "launchDir")) empty))) (tree.name (at 1 46) (codes "view"))) empty) empty)) empty

folder_of_the_script : prints (alone folder_of_the_script_script) ≡ Ok (codes "." ∷ codes "." ∷ [])
unfolding digits
folder_of_the_script = refl

-- def f(x) { params.a }
-- workflow { channel.of(f(1)) }
abbrev params_in_a_function_script : Tree
params_in_a_function_script = cons (tree.function (at 1 1) (tree.name (at 1 5) (codes "f")) (cons (tree.name (at 1 7) (codes "x")) empty) (cons (tree.property (tree.name (at 1 12) (codes "params")) (tree.name (at 1 19) (codes "a"))) empty)) (cons (tree.workflow (at 2 1) empty (cons (tree.call (at 2 22) (tree.property (tree.name (at 2 12) (codes "channel")) (tree.name (at 2 20) (codes "of"))) (cons (tree.call (at 2 24) (tree.name (at 2 23) (codes "f")) (cons (tree.number (at 2 25) (pos 1)) empty)) empty)) empty)) empty)

params_in_a_function : prints (alone params_in_a_function_script) ≡ Err (UnknownName (at 1 12))
unfolding digits
params_in_a_function = refl

-- workflow { println nope }
abbrev printed_name_script : Tree
printed_name_script = cons (tree.workflow (at 1 1) empty (cons (tree.println (at 1 12) (tree.name (at 1 20) (codes "nope"))) empty)) empty

printed_name : prints (alone printed_name_script) ≡ Err (UnknownName (at 1 20))
unfolding digits
printed_name = refl

-- workflow { x = channel.of(1)
-- println x
-- x.view() }
abbrev printed_channel_script : Tree
printed_channel_script = cons (tree.workflow (at 1 1) empty (cons (tree.assign (tree.name (at 1 12) (codes "x")) (tree.call (at 1 26) (tree.property (tree.name (at 1 16) (codes "channel")) (tree.name (at 1 24) (codes "of"))) (cons (tree.number (at 1 27) (pos 1)) empty))) (cons (tree.println (at 2 1) (tree.name (at 2 9) (codes "x"))) (cons (tree.call (at 3 7) (tree.property (tree.name (at 3 1) (codes "x")) (tree.name (at 3 3) (codes "view"))) empty) empty)))) empty

printed_channel : prints (alone printed_channel_script) ≡ Ok (codes "1" ∷ [])
unfolding digits
printed_channel = refl

-- workflow { channel.of((1 % 0) + nope) }
abbrev name_before_fault_script : Tree
name_before_fault_script = cons (tree.workflow (at 1 1) empty (cons (tree.call (at 1 22) (tree.property (tree.name (at 1 12) (codes "channel")) (tree.name (at 1 20) (codes "of"))) (cons (tree.binary (at 1 31) mark.Plus (tree.binary (at 1 26) mark.Remainder (tree.number (at 1 24) (pos 1)) (tree.number (at 1 28) (pos 0))) (tree.name (at 1 33) (codes "nope"))) empty)) empty)) empty

name_before_fault : prints (alone name_before_fault_script) ≡ Err (UnknownName (at 1 33))
unfolding digits
name_before_fault = refl

-- workflow { channel.of(1 % 0, nope) }
abbrev first_argument_first_script : Tree
first_argument_first_script = cons (tree.workflow (at 1 1) empty (cons (tree.call (at 1 22) (tree.property (tree.name (at 1 12) (codes "channel")) (tree.name (at 1 20) (codes "of"))) (cons (tree.binary (at 1 25) mark.Remainder (tree.number (at 1 23) (pos 1)) (tree.number (at 1 27) (pos 0))) (cons (tree.name (at 1 30) (codes "nope")) empty))) empty)) empty

first_argument_first : prints (alone first_argument_first_script) ≡ Err (ParamFault (record { kind = DivZero; place = at 1 25 }))
unfolding digits
first_argument_first = refl

-- params.reads = 'data/*_{1,2}.fq'
-- params.outdir = 'results'
-- process JOINED {
-- tag "$id"
-- cpus 2
-- memory '4 GB'
-- publishDir params.outdir, mode: 'copy'
-- input:
-- tuple val(id), path(reads)
-- output:
-- tuple val(id), path("${id}.txt")
-- script:
-- "cat $reads"
-- }
-- process SUMMARY {
-- input:
-- path counts
-- output:
-- stdout
-- script:
-- "cat $counts"
-- }
-- workflow {
-- pairs = channel.fromFilePairs(params.reads, checkIfExists: true)
-- JOINED(pairs)
-- SUMMARY(JOINED.out.map { id, f -> f }.collect())
-- SUMMARY.out.view()
-- }
abbrev script_as_users_write_it_script : Tree
script_as_users_write_it_script = cons (tree.parameter (at 1 1) (tree.name (at 1 8) (codes "reads")) (tree.text (at 1 16) kind.Single (codes "data/*_{1,2}.fq"))) (cons (tree.parameter (at 2 1) (tree.name (at 2 8) (codes "outdir")) (tree.text (at 2 17) kind.Single (codes "results"))) (cons (tree.process (at 3 1) (tree.name (at 3 9) (codes "JOINED")) (cons (tree.directive (tree.name (at 4 1) (codes "tag")) (cons (tree.template (at 4 5) template_kind.Double (cons (tree.hole (at 4 5) (tree.name (at 4 5) (codes "id"))) empty)) empty)) (cons (tree.directive (tree.name (at 5 1) (codes "cpus")) (cons (tree.number (at 5 6) (pos 2)) empty)) (cons (tree.directive (tree.name (at 6 1) (codes "memory")) (cons (tree.text (at 6 8) kind.Single (codes "4 GB")) empty)) (cons (tree.directive (tree.name (at 7 1) (codes "publishDir")) (cons (tree.property (tree.name (at 7 12) (codes "params")) (tree.name (at 7 19) (codes "outdir"))) (cons (tree.named (tree.name (at 7 27) (codes "mode")) (tree.text (at 7 33) kind.Single (codes "copy"))) empty))) empty)))) (tree.section (at 8 1) (cons (tree.tuple (at 9 1) (cons (tree.val (at 9 7) (tree.name (at 9 11) (codes "id"))) (cons (tree.path (at 9 16) (tree.name (at 9 21) (codes "reads"))) empty))) empty)) (tree.section (at 10 1) (cons (tree.output (tree.tuple (at 11 1) (cons (tree.val (at 11 7) (tree.name (at 11 11) (codes "id"))) (cons (tree.path (at 11 16) (tree.template (at 11 21) template_kind.Double (cons (tree.hole (at 11 21) (tree.name (at 11 21) (codes "id"))) (cons (tree.piece (at 11 21) (codes ".txt")) empty)))) empty))) empty) empty)) (tree.section (at 12 1) (cons (tree.template (at 13 1) template_kind.Double (cons (tree.piece (at 13 1) (codes "cat ")) (cons (tree.hole (at 13 1) (tree.name (at 13 1) (codes "reads"))) empty))) empty)) empty) (cons (tree.process (at 15 1) (tree.name (at 15 9) (codes "SUMMARY")) empty (tree.section (at 16 1) (cons (tree.path (at 17 1) (tree.name (at 17 6) (codes "counts"))) empty)) (tree.section (at 18 1) (cons (tree.output (tree.stdout (at 19 1)) empty) empty)) (tree.section (at 20 1) (cons (tree.template (at 21 1) template_kind.Double (cons (tree.piece (at 21 1) (codes "cat ")) (cons (tree.hole (at 21 1) (tree.name (at 21 1) (codes "counts"))) empty))) empty)) empty) (cons (tree.workflow (at 23 1) empty (cons (tree.assign (tree.name (at 24 1) (codes "pairs")) (tree.call (at 24 30) (tree.property (tree.name (at 24 9) (codes "channel")) (tree.name (at 24 17) (codes "fromFilePairs"))) (cons (tree.property (tree.name (at 24 31) (codes "params")) (tree.name (at 24 38) (codes "reads"))) (cons (tree.named (tree.name (at 24 45) (codes "checkIfExists")) (tree.truth (at 24 60) true)) empty)))) (cons (tree.call (at 25 7) (tree.name (at 25 1) (codes "JOINED")) (cons (tree.name (at 25 8) (codes "pairs")) empty)) (cons (tree.call (at 26 8) (tree.name (at 26 1) (codes "SUMMARY")) (cons (tree.call (at 26 46) (tree.property (tree.call_with (tree.property (tree.property (tree.name (at 26 9) (codes "JOINED")) (tree.name (at 26 16) (codes "out"))) (tree.name (at 26 20) (codes "map"))) (tree.closure (at 26 24) (tree.params (cons (tree.name (at 26 26) (codes "id")) (cons (tree.name (at 26 30) (codes "f")) empty))) (cons (tree.name (at 26 35) (codes "f")) empty))) (tree.name (at 26 39) (codes "collect"))) empty) empty)) (cons (tree.call (at 27 17) (tree.property (tree.property (tree.name (at 27 1) (codes "SUMMARY")) (tree.name (at 27 9) (codes "out"))) (tree.name (at 27 13) (codes "view"))) empty) empty))))) empty))))

script_as_users_write_it : prints_and_publishes (record (alone script_as_users_write_it_script) { found = record { path = codes "data/*_{1,2}.fq"; files = a_file (codes "s1_1.fq") ∷ a_file (codes "s1_2.fq") ∷ a_file (codes "s2_1.fq") ∷ a_file (codes "s2_2.fq") ∷ a_file (codes "s3_1.fq") ∷ [] } ∷ []; outcomes = joined_outcomes }) ≡ Ok ((codes "abchello" ∷ []), (record { name = codes "results/s1.txt"; digest = record { 0 = [] } } ∷ record { name = codes "results/s2.txt"; digest = record { 0 = [] } } ∷ []))
unfolding digits chars encode
script_as_users_write_it = refl

-- workflow { Channel.of(1).view() }
abbrev other_word_for_channel_script : Tree
other_word_for_channel_script = cons (tree.workflow (at 1 1) empty (cons (tree.call (at 1 30) (tree.property (tree.call (at 1 22) (tree.property (tree.name (at 1 12) (codes "Channel")) (tree.name (at 1 20) (codes "of"))) (cons (tree.number (at 1 23) (pos 1)) empty)) (tree.name (at 1 26) (codes "view"))) empty) empty)) empty

other_word_for_channel : prints (alone other_word_for_channel_script) ≡ Ok (codes "1" ∷ [])
unfolding digits
other_word_for_channel = refl

-- workflow { channel.fromList([2, 1]).view() }
abbrev items_of_a_list_script : Tree
items_of_a_list_script = cons (tree.workflow (at 1 1) empty (cons (tree.call (at 1 41) (tree.property (tree.call (at 1 28) (tree.property (tree.name (at 1 12) (codes "channel")) (tree.name (at 1 20) (codes "fromList"))) (cons (tree.list (at 1 29) (cons (tree.number (at 1 30) (pos 2)) (cons (tree.number (at 1 33) (pos 1)) empty))) empty)) (tree.name (at 1 37) (codes "view"))) empty) empty)) empty

items_of_a_list : prints (alone items_of_a_list_script) ≡ Ok (codes "1" ∷ codes "2" ∷ [])
unfolding digits
items_of_a_list = refl

-- workflow { channel.fromList(5) }
abbrev no_list_of_items_script : Tree
no_list_of_items_script = cons (tree.workflow (at 1 1) empty (cons (tree.call (at 1 28) (tree.property (tree.name (at 1 12) (codes "channel")) (tree.name (at 1 20) (codes "fromList"))) (cons (tree.number (at 1 29) (pos 5)) empty)) empty)) empty

no_list_of_items : prints (alone no_list_of_items_script) ≡ Err (BadOption (at 1 29))
unfolding digits
no_list_of_items = refl

-- workflow { v = channel.value(3)
-- v.view()
-- v.map { it + 1 }.view() }
abbrev value_channel_read_twice_script : Tree
value_channel_read_twice_script = cons (tree.workflow (at 1 1) empty (cons (tree.assign (tree.name (at 1 12) (codes "v")) (tree.call (at 1 29) (tree.property (tree.name (at 1 16) (codes "channel")) (tree.name (at 1 24) (codes "value"))) (cons (tree.number (at 1 30) (pos 3)) empty))) (cons (tree.call (at 2 7) (tree.property (tree.name (at 2 1) (codes "v")) (tree.name (at 2 3) (codes "view"))) empty) (cons (tree.call (at 3 22) (tree.property (tree.call_with (tree.property (tree.name (at 3 1) (codes "v")) (tree.name (at 3 3) (codes "map"))) (tree.closure (at 3 7) empty (cons (tree.binary (at 3 12) mark.Plus (tree.name (at 3 9) (codes "it")) (tree.number (at 3 14) (pos 1))) empty))) (tree.name (at 3 18) (codes "view"))) empty) empty)))) empty

value_channel_read_twice : prints (alone value_channel_read_twice_script) ≡ Ok (codes "3" ∷ codes "4" ∷ [])
unfolding digits
value_channel_read_twice = refl

-- process P {
-- input:
-- val x
-- output:
-- stdout
-- script:
-- "printf $x"
-- }
-- workflow { P(5)
-- P.out.view() }
abbrev one_task_of_a_value_script : Tree
one_task_of_a_value_script = cons (tree.process (at 1 1) (tree.name (at 1 9) (codes "P")) empty (tree.section (at 2 1) (cons (tree.val (at 3 1) (tree.name (at 3 5) (codes "x"))) empty)) (tree.section (at 4 1) (cons (tree.output (tree.stdout (at 5 1)) empty) empty)) (tree.section (at 6 1) (cons (tree.template (at 7 1) template_kind.Double (cons (tree.piece (at 7 1) (codes "printf ")) (cons (tree.hole (at 7 1) (tree.name (at 7 1) (codes "x"))) empty))) empty)) empty) (cons (tree.workflow (at 9 1) empty (cons (tree.call (at 9 13) (tree.name (at 9 12) (codes "P")) (cons (tree.number (at 9 14) (pos 5)) empty)) (cons (tree.call (at 10 11) (tree.property (tree.property (tree.name (at 10 1) (codes "P")) (tree.name (at 10 3) (codes "out"))) (tree.name (at 10 7) (codes "view"))) empty) empty))) empty)

one_task_of_a_value : prints (record (alone one_task_of_a_value_script) { outcomes = λ call inputs n. (wrote (value_text (list (plains_of inputs))) ∷ []) }) ≡ Ok (codes "[5]" ∷ [])
unfolding digits
one_task_of_a_value = refl

-- process P {
-- input:
-- tuple val a, val b
-- output:
-- stdout
-- script:
-- "printf $a"
-- }
-- workflow { P(channel.of([1])) }
abbrev tuple_of_another_length_script : Tree
tuple_of_another_length_script = cons (tree.process (at 1 1) (tree.name (at 1 9) (codes "P")) empty (tree.section (at 2 1) (cons (tree.tuple (at 3 1) (cons (tree.val (at 3 7) (tree.name (at 3 11) (codes "a"))) (cons (tree.val (at 3 14) (tree.name (at 3 18) (codes "b"))) empty))) empty)) (tree.section (at 4 1) (cons (tree.output (tree.stdout (at 5 1)) empty) empty)) (tree.section (at 6 1) (cons (tree.template (at 7 1) template_kind.Double (cons (tree.piece (at 7 1) (codes "printf ")) (cons (tree.hole (at 7 1) (tree.name (at 7 1) (codes "a"))) empty))) empty)) empty) (cons (tree.workflow (at 9 1) empty (cons (tree.call (at 9 13) (tree.name (at 9 12) (codes "P")) (cons (tree.call (at 9 24) (tree.property (tree.name (at 9 14) (codes "channel")) (tree.name (at 9 22) (codes "of"))) (cons (tree.list (at 9 25) (cons (tree.number (at 9 26) (pos 1)) empty)) empty)) empty)) empty)) empty)

tuple_of_another_length : faults (alone tuple_of_another_length_script) ≡ Ok (task_fails (record { call = codes "P"; inputs = list (item (int (pos 1)) no_items) ∷ []; n = 0 }) (Eval (record { kind = WrongKind; place = at 3 1 })) ∷ [])
unfolding digits
tuple_of_another_length = refl

-- process P {
-- input:
-- path a
-- path b
-- output:
-- stdout
-- script:
-- 'cat x.txt'
-- }
-- workflow { P(file('d/x.txt'), file('e/x.txt')) }
abbrev two_files_of_a_name_script : Tree
two_files_of_a_name_script = cons (tree.process (at 1 1) (tree.name (at 1 9) (codes "P")) empty (tree.section (at 2 1) (cons (tree.path (at 3 1) (tree.name (at 3 6) (codes "a"))) (cons (tree.path (at 4 1) (tree.name (at 4 6) (codes "b"))) empty))) (tree.section (at 5 1) (cons (tree.output (tree.stdout (at 6 1)) empty) empty)) (tree.section (at 7 1) (cons (tree.text (at 8 1) kind.Single (codes "cat x.txt")) empty)) empty) (cons (tree.workflow (at 10 1) empty (cons (tree.call (at 10 13) (tree.name (at 10 12) (codes "P")) (cons (tree.call (at 10 18) (tree.name (at 10 14) (codes "file")) (cons (tree.text (at 10 19) kind.Single (codes "d/x.txt")) empty)) (cons (tree.call (at 10 35) (tree.name (at 10 31) (codes "file")) (cons (tree.text (at 10 36) kind.Single (codes "e/x.txt")) empty)) empty))) empty)) empty)

two_files_of_a_name : faults (alone two_files_of_a_name_script) ≡ Ok (task_fails (record { call = codes "P"; inputs = file (codes "x.txt") (replicate 32 0) 0 ∷ file (codes "x.txt") (replicate 32 0) 0 ∷ []; n = 0 }) (StageClash (codes "x.txt")) ∷ [])
unfolding digits chars encode
two_files_of_a_name = refl

-- process P {
-- errorStrategy 'ignore'
-- output:
-- path 'x.txt'
-- script:
-- 'true'
-- }
-- workflow { P() }
abbrev missing_file_is_ignored_script : Tree
missing_file_is_ignored_script = cons (tree.process (at 1 1) (tree.name (at 1 9) (codes "P")) (cons (tree.directive (tree.name (at 2 1) (codes "errorStrategy")) (cons (tree.text (at 2 15) kind.Single (codes "ignore")) empty)) empty) empty (tree.section (at 3 1) (cons (tree.output (tree.path (at 4 1) (tree.text (at 4 6) kind.Single (codes "x.txt"))) empty) empty)) (tree.section (at 5 1) (cons (tree.text (at 6 1) kind.Single (codes "true")) empty)) empty) (cons (tree.workflow (at 8 1) empty (cons (tree.call (at 8 13) (tree.name (at 8 12) (codes "P")) empty) empty)) empty)

missing_file_is_ignored : faults (record (alone missing_file_is_ignored_script) { outcomes = λ call inputs n. (record { exit = pos 0; captured = captured.None; found = [] ∷ [] } ∷ []) }) ≡ Ok []
unfolding digits chars encode
missing_file_is_ignored = refl

-- process P {
-- output:
-- path 'x.txt', optional: true
-- script:
-- 'true'
-- }
-- workflow { P()
-- P.out.view() }
abbrev file_that_may_be_missing_script : Tree
file_that_may_be_missing_script = cons (tree.process (at 1 1) (tree.name (at 1 9) (codes "P")) empty empty (tree.section (at 2 1) (cons (tree.output (tree.path (at 3 1) (tree.text (at 3 6) kind.Single (codes "x.txt"))) (cons (tree.label (tree.name (at 3 15) (codes "optional")) (tree.truth (at 3 25) true)) empty)) empty)) (tree.section (at 4 1) (cons (tree.text (at 5 1) kind.Single (codes "true")) empty)) empty) (cons (tree.workflow (at 7 1) empty (cons (tree.call (at 7 13) (tree.name (at 7 12) (codes "P")) empty) (cons (tree.call (at 8 11) (tree.property (tree.property (tree.name (at 8 1) (codes "P")) (tree.name (at 8 3) (codes "out"))) (tree.name (at 8 7) (codes "view"))) empty) empty))) empty)

file_that_may_be_missing : prints (record (alone file_that_may_be_missing_script) { outcomes = λ call inputs n. (record { exit = pos 0; captured = captured.None; found = [] ∷ [] } ∷ []) }) ≡ Ok []
unfolding digits chars encode
file_that_may_be_missing = refl

-- process P {
-- publishDir 'r', pattern: '*.txt'
-- publishDir 's'
-- output:
-- path '*'
-- script:
-- 'true'
-- }
-- workflow { P() }
abbrev published_twice_by_pattern_script : Tree
published_twice_by_pattern_script = cons (tree.process (at 1 1) (tree.name (at 1 9) (codes "P")) (cons (tree.directive (tree.name (at 2 1) (codes "publishDir")) (cons (tree.text (at 2 12) kind.Single (codes "r")) (cons (tree.named (tree.name (at 2 17) (codes "pattern")) (tree.text (at 2 26) kind.Single (codes "*.txt"))) empty))) (cons (tree.directive (tree.name (at 3 1) (codes "publishDir")) (cons (tree.text (at 3 12) kind.Single (codes "s")) empty)) empty)) empty (tree.section (at 4 1) (cons (tree.output (tree.path (at 5 1) (tree.text (at 5 6) kind.Single (codes "*"))) empty) empty)) (tree.section (at 6 1) (cons (tree.text (at 7 1) kind.Single (codes "true")) empty)) empty) (cons (tree.workflow (at 9 1) empty (cons (tree.call (at 9 13) (tree.name (at 9 12) (codes "P")) empty) empty)) empty)

published_twice_by_pattern : targets (record (alone published_twice_by_pattern_script) { outcomes = λ call inputs n. (record { exit = pos 0; captured = captured.None; found = (short_file (codes "a.txt") ∷ short_file (codes "b.csv") ∷ []) ∷ [] } ∷ []) })
    ≡ Ok (record { name = codes "r/a.txt"; digest = record { 0 = 1 ∷ 2 ∷ [] } } ∷ record { name = codes "s/a.txt"; digest = record { 0 = 1 ∷ 2 ∷ [] } } ∷ record { name = codes "s/b.csv"; digest = record { 0 = 1 ∷ 2 ∷ [] } } ∷ [])
unfolding digits chars encode
published_twice_by_pattern = refl

-- workflow W {
-- take:
-- x
-- main:
-- y = x
-- emit:
-- y
-- }
-- workflow { W(1).set { r }
-- r.view() }
abbrev set_after_a_workflow_script : Tree
set_after_a_workflow_script = cons (tree.workflow (at 1 1) (tree.name (at 1 10) (codes "W")) (tree.parts (tree.section (at 2 1) (cons (tree.name (at 3 1) (codes "x")) empty)) (tree.section (at 4 1) (cons (tree.assign (tree.name (at 5 1) (codes "y")) (tree.name (at 5 5) (codes "x"))) empty)) (tree.section (at 6 1) (cons (tree.name (at 7 1) (codes "y")) empty)))) (cons (tree.workflow (at 9 1) empty (cons (tree.call_with (tree.property (tree.call (at 9 13) (tree.name (at 9 12) (codes "W")) (cons (tree.number (at 9 14) (pos 1)) empty)) (tree.name (at 9 17) (codes "set"))) (tree.closure (at 9 21) empty (cons (tree.name (at 9 23) (codes "r")) empty))) (cons (tree.call (at 10 7) (tree.property (tree.name (at 10 1) (codes "r")) (tree.name (at 10 3) (codes "view"))) empty) empty))) empty)

set_after_a_workflow : prints (alone set_after_a_workflow_script) ≡ Ok (codes "1" ∷ [])
unfolding digits
set_after_a_workflow = refl

-- process P {
-- output:
-- stdout
-- script:
-- 'true'
-- }
-- workflow { P | view }
abbrev pipe_that_begins_with_a_process_script : Tree
pipe_that_begins_with_a_process_script = cons (tree.process (at 1 1) (tree.name (at 1 9) (codes "P")) empty empty (tree.section (at 2 1) (cons (tree.output (tree.stdout (at 3 1)) empty) empty)) (tree.section (at 4 1) (cons (tree.text (at 5 1) kind.Single (codes "true")) empty)) empty) (cons (tree.workflow (at 7 1) empty (cons (tree.binary (at 7 14) mark.Pipe (tree.name (at 7 12) (codes "P")) (tree.name (at 7 16) (codes "view"))) empty)) empty)

pipe_that_begins_with_a_process : prints (record (alone pipe_that_begins_with_a_process_script) { outcomes = λ call inputs n. (wrote (codes "a") ∷ []) }) ≡ Ok (codes "a" ∷ [])
unfolding digits
pipe_that_begins_with_a_process = refl

-- workflow W {
-- main:
-- x = 1
-- emit:
-- n = x
-- }
-- workflow { W()
-- W.out.n.view() }
abbrev value_that_is_emitted_script : Tree
value_that_is_emitted_script = cons (tree.workflow (at 1 1) (tree.name (at 1 10) (codes "W")) (tree.parts empty (tree.section (at 2 1) (cons (tree.assign (tree.name (at 3 1) (codes "x")) (tree.number (at 3 5) (pos 1))) empty)) (tree.section (at 4 1) (cons (tree.assign (tree.name (at 5 1) (codes "n")) (tree.name (at 5 5) (codes "x"))) empty)))) (cons (tree.workflow (at 7 1) empty (cons (tree.call (at 7 13) (tree.name (at 7 12) (codes "W")) empty) (cons (tree.call (at 8 13) (tree.property (tree.property (tree.property (tree.name (at 8 1) (codes "W")) (tree.name (at 8 3) (codes "out"))) (tree.name (at 8 7) (codes "n"))) (tree.name (at 8 9) (codes "view"))) empty) empty))) empty)

value_that_is_emitted : prints (alone value_that_is_emitted_script) ≡ Ok (codes "1" ∷ [])
unfolding digits
value_that_is_emitted = refl

-- workflow W {
-- take:
-- x
-- main:
-- x = x.map { it + 1 }
-- emit:
-- x
-- }
-- workflow { W(channel.of(1))
-- W.out.view() }
abbrev taken_name_bound_again_script : Tree
taken_name_bound_again_script = cons (tree.workflow (at 1 1) (tree.name (at 1 10) (codes "W")) (tree.parts (tree.section (at 2 1) (cons (tree.name (at 3 1) (codes "x")) empty)) (tree.section (at 4 1) (cons (tree.assign (tree.name (at 5 1) (codes "x")) (tree.call_with (tree.property (tree.name (at 5 5) (codes "x")) (tree.name (at 5 7) (codes "map"))) (tree.closure (at 5 11) empty (cons (tree.binary (at 5 16) mark.Plus (tree.name (at 5 13) (codes "it")) (tree.number (at 5 18) (pos 1))) empty)))) empty)) (tree.section (at 6 1) (cons (tree.name (at 7 1) (codes "x")) empty)))) (cons (tree.workflow (at 9 1) empty (cons (tree.call (at 9 13) (tree.name (at 9 12) (codes "W")) (cons (tree.call (at 9 24) (tree.property (tree.name (at 9 14) (codes "channel")) (tree.name (at 9 22) (codes "of"))) (cons (tree.number (at 9 25) (pos 1)) empty)) empty)) (cons (tree.call (at 10 11) (tree.property (tree.property (tree.name (at 10 1) (codes "W")) (tree.name (at 10 3) (codes "out"))) (tree.name (at 10 7) (codes "view"))) empty) empty))) empty)

taken_name_bound_again : prints (alone taken_name_bound_again_script) ≡ Ok (codes "2" ∷ [])
unfolding digits
taken_name_bound_again = refl

-- workflow { channel.of('a').filter(~/ab/) }
abbrev pattern_too_large_script : Tree
pattern_too_large_script = cons (tree.workflow (at 1 1) empty (cons (tree.call (at 1 34) (tree.property (tree.call (at 1 22) (tree.property (tree.name (at 1 12) (codes "channel")) (tree.name (at 1 20) (codes "of"))) (cons (tree.text (at 1 23) kind.Single (codes "a")) empty)) (tree.name (at 1 28) (codes "filter"))) (cons (tree.pattern (at 1 35) (codes "ab")) empty)) empty)) empty

pattern_too_large : prints (record (alone pattern_too_large_script) { large = codes "ab" ∷ [] }) ≡ Err (PatternTooLarge (at 1 35))
unfolding digits
pattern_too_large = refl

-- workflow { channel.of(seven(1)).view() }
abbrev function_of_the_program_script : Tree
function_of_the_program_script = cons (tree.workflow (at 1 1) empty (cons (tree.call (at 1 37) (tree.property (tree.call (at 1 22) (tree.property (tree.name (at 1 12) (codes "channel")) (tree.name (at 1 20) (codes "of"))) (cons (tree.call (at 1 28) (tree.name (at 1 23) (codes "seven")) (cons (tree.number (at 1 29) (pos 1)) empty)) empty)) (tree.name (at 1 33) (codes "view"))) empty) empty)) empty

function_of_the_program : prints (record (alone function_of_the_program_script) { program = record { titles = codes "seven" ∷ []; answer = λ k vs. Some (int (pos 7)) } }) ≡ Ok (codes "7" ∷ [])
unfolding digits
function_of_the_program = refl

-- def f(x) { x }
-- def f(y) { y }
-- workflow { }
abbrev two_functions_of_a_name_script : Tree
two_functions_of_a_name_script = cons (tree.function (at 1 1) (tree.name (at 1 5) (codes "f")) (cons (tree.name (at 1 7) (codes "x")) empty) (cons (tree.name (at 1 12) (codes "x")) empty)) (cons (tree.function (at 2 1) (tree.name (at 2 5) (codes "f")) (cons (tree.name (at 2 7) (codes "y")) empty) (cons (tree.name (at 2 12) (codes "y")) empty)) (cons (tree.workflow (at 3 1) empty empty) empty))

two_functions_of_a_name : prints (alone two_functions_of_a_name_script) ≡ Err (TwiceDefined (at 2 5))
unfolding digits
two_functions_of_a_name = refl

-- def f(x) { x }
-- workflow { }
abbrev name_of_the_program_script : Tree
name_of_the_program_script = cons (tree.function (at 1 1) (tree.name (at 1 5) (codes "f")) (cons (tree.name (at 1 7) (codes "x")) empty) (cons (tree.name (at 1 12) (codes "x")) empty)) (cons (tree.workflow (at 2 1) empty empty) empty)

name_of_the_program : prints (record (alone name_of_the_program_script) { program = record { titles = codes "f" ∷ []; answer = λ k vs. Some null } }) ≡ Err (TwiceDefined (at 1 5))
unfolding digits
name_of_the_program = refl

-- workflow { channel.fromFilePairs('d/é*_{1,2}.fq').view() }
abbrev pairs_past_ascii_script : Tree
pairs_past_ascii_script = cons (tree.workflow (at 1 1) empty (cons (tree.call (at 1 54) (tree.property (tree.call (at 1 33) (tree.property (tree.name (at 1 12) (codes "channel")) (tree.name (at 1 20) (codes "fromFilePairs"))) (cons (tree.text (at 1 34) kind.Single (codes "d/" ++ 195 ∷ 169 ∷ codes "*_{1,2}.fq")) empty)) (tree.name (at 1 50) (codes "view"))) empty) empty)) empty

pairs_past_ascii : prints (record (alone pairs_past_ascii_script) { found = record { path = codes "d/" ++ 195 ∷ 169 ∷ codes "*_{1,2}.fq"; files = a_file (195 ∷ 169 ∷ codes "7_1.fq") ∷ a_file (195 ∷ 169 ∷ codes "7_2.fq") ∷ [] } ∷ [] }) ≡ Ok ((codes "[7, [" ++ 195 ∷ 169 ∷ codes "7_1.fq, " ++ 195 ∷ 169 ∷ codes "7_2.fq]]") ∷ [])
unfolding digits chars encode
pairs_past_ascii = refl

-- def twice(x) { x * 2 }
-- workflow { channel.of(twice) }
abbrev function_as_a_value_script : Tree
function_as_a_value_script = cons (tree.function (at 1 1) (tree.name (at 1 5) (codes "twice")) (cons (tree.name (at 1 11) (codes "x")) empty) (cons (tree.binary (at 1 18) mark.Times (tree.name (at 1 16) (codes "x")) (tree.number (at 1 20) (pos 2))) empty)) (cons (tree.workflow (at 2 1) empty (cons (tree.call (at 2 22) (tree.property (tree.name (at 2 12) (codes "channel")) (tree.name (at 2 20) (codes "of"))) (cons (tree.name (at 2 23) (codes "twice")) empty)) empty)) empty)

function_as_a_value : prints (alone function_as_a_value_script) ≡ Err (BadOption (at 2 23))
unfolding digits
function_as_a_value = refl

-- workflow { channel.of(1).map(nope) }
abbrev unknown_name_for_a_closure_script : Tree
unknown_name_for_a_closure_script = cons (tree.workflow (at 1 1) empty (cons (tree.call (at 1 29) (tree.property (tree.call (at 1 22) (tree.property (tree.name (at 1 12) (codes "channel")) (tree.name (at 1 20) (codes "of"))) (cons (tree.number (at 1 23) (pos 1)) empty)) (tree.name (at 1 26) (codes "map"))) (cons (tree.name (at 1 30) (codes "nope")) empty)) empty)) empty

unknown_name_for_a_closure : prints (alone unknown_name_for_a_closure_script) ≡ Err (UnknownName (at 1 30))
unfolding digits
unknown_name_for_a_closure = refl

-- workflow { x = 1
-- channel.of(1).map(x) }
abbrev value_for_a_closure_script : Tree
value_for_a_closure_script = cons (tree.workflow (at 1 1) empty (cons (tree.assign (tree.name (at 1 12) (codes "x")) (tree.number (at 1 16) (pos 1))) (cons (tree.call (at 2 18) (tree.property (tree.call (at 2 11) (tree.property (tree.name (at 2 1) (codes "channel")) (tree.name (at 2 9) (codes "of"))) (cons (tree.number (at 2 12) (pos 1)) empty)) (tree.name (at 2 15) (codes "map"))) (cons (tree.name (at 2 19) (codes "x")) empty)) empty))) empty

value_for_a_closure : prints (alone value_for_a_closure_script) ≡ Err (BadOption (at 2 19))
unfolding digits
value_for_a_closure = refl

-- process P {
-- output:
-- val { 1 }
-- script:
-- "true"
-- }
-- workflow { P() }
abbrev closure_as_an_output_script : Tree
closure_as_an_output_script = cons (tree.process (at 1 1) (tree.name (at 1 9) (codes "P")) empty empty (tree.section (at 2 1) (cons (tree.output (tree.val (at 3 1) (tree.closure (at 3 5) empty (cons (tree.number (at 3 7) (pos 1)) empty))) empty) empty)) (tree.section (at 4 1) (cons (tree.template (at 5 1) template_kind.Double (cons (tree.piece (at 5 1) (codes "true")) empty)) empty)) empty) (cons (tree.workflow (at 7 1) empty (cons (tree.call (at 7 13) (tree.name (at 7 12) (codes "P")) empty) empty)) empty)

closure_as_an_output : prints (alone closure_as_an_output_script) ≡ Err (BadOption (at 3 5))
unfolding digits
closure_as_an_output = refl
