use Rattle.std.proofs.Common.{◌+◌, ◌*◌, ◌≡◌, ◌++◌, map, drop, List, [], Ok, ◌≤◌, ℕ}
use Rattle.nf_value.specs.View.{plain_of, pair_of}
use Rattle.nf_ast.specs.View.{views, trees, view_pair, view_piece, view_operand, Frame, conditional, view_branch, postfix, view_postfix, view_arg, view_closure, view_stmts, choice, view_arm, view_label}
use Rattle.nf_placed.specs.Placed.{◌>>=◌}
use Rattle.nf_eval.specs.Evaluation.{meaning_of}
use Rattle.nf_infix.specs.Gathering.{IsGathered}
use Rattle.nf_infix.specs.Template.{IsWritten}
use Rattle.nf_eval.specs.Chains.{going_on, closure_next, IsReady, Stands}
use Rattle.nf_ast.specs.Tree.{Tree}
use Rattle.nf_eval.specs.Turns.{IsAt, waits}
use Rattle.nf_placed.specs.Calls.{Argument, any_of, every_of, found_of, all_found, images_of}
use Rattle.nf_eval.specs.Gives.{Collects}
use Rattle.nf_eval.specs.Shapes.{block_of}
use Rattle.nf_placed.specs.Scope.{with_names, inside}
use Rattle.nf_eval.specs.Latest.{names_of}
use Rattle.nf_eval.specs.Memory.{seen, held}
use Rattle.nf_eval.specs.Functions.{depths}
use Rattle.nf_value.specs.Plain.{Plain, null}
use Rattle.nf_eval.proofs.+value.Given as goal

-- ---- that evaluation ends: a call of a function goes on with those before it, any other call goes down the tree or stays there, with a lower rank

abbrev pub decreases-chains::with : goal.decreases-chains::with
decreases-chains::with g l = (goal.size-chains::with g l + depths (held l.around.now)) * 64 + 44

abbrev pub decreases-calls::over_call : goal.decreases-calls::over_call
decreases-calls::over_call g l = (goal.size-calls::over_call g l + depths (held l.around.now)) * 64 + 43

abbrev pub decreases-chains::call : goal.decreases-chains::call
decreases-chains::call g l = (goal.size-chains::call g l + depths (held l.around.now)) * 64 + 42

abbrev pub decreases-calls::performed : goal.decreases-calls::performed
decreases-calls::performed g l = (goal.size-calls::performed g l + depths (held l.around.now)) * 64 + 41

abbrev pub decreases-calls::of_blocks : goal.decreases-calls::of_blocks
decreases-calls::of_blocks g l = (goal.size-calls::of_blocks g l + depths (held l.around.now)) * 64 + 40

abbrev pub decreases-calls::over_sole : goal.decreases-calls::over_sole
decreases-calls::over_sole g l = (goal.size-calls::over_sole g l + depths (held l.around.now)) * 64 + 39

abbrev pub decreases-calls::over_expr : goal.decreases-calls::over_expr
decreases-calls::over_expr g l = (goal.size-calls::over_expr g l + depths (held l.around.now)) * 64 + 38

abbrev pub decreases-blocks::over : goal.decreases-blocks::over
decreases-blocks::over g l = (goal.size-blocks::over g l + depths (held l.around.now)) * 64 + 37

abbrev pub decreases-blocks::any : goal.decreases-blocks::any
decreases-blocks::any g l = (goal.size-blocks::any g l + depths (held l.around.now)) * 64 + 36

abbrev pub decreases-blocks::every : goal.decreases-blocks::every
decreases-blocks::every g l = (goal.size-blocks::every g l + depths (held l.around.now)) * 64 + 36

abbrev pub decreases-blocks::find : goal.decreases-blocks::find
decreases-blocks::find g l = (goal.size-blocks::find g l + depths (held l.around.now)) * 64 + 36

abbrev pub decreases-blocks::find_all : goal.decreases-blocks::find_all
decreases-blocks::find_all g l = (goal.size-blocks::find_all g l + depths (held l.around.now)) * 64 + 36

abbrev pub decreases-blocks::images : goal.decreases-blocks::images
decreases-blocks::images g l = (goal.size-blocks::images g l + depths (held l.around.now)) * 64 + 36

abbrev pub decreases-blocks::applied : goal.decreases-blocks::applied
decreases-blocks::applied g l = (goal.size-blocks::applied g l + depths (held l.around.now)) * 64 + 35

abbrev pub decreases-calls::arguments : goal.decreases-calls::arguments
decreases-calls::arguments g l = (goal.size-calls::arguments g l + depths (held l.around.now)) * 64 + 34

abbrev pub decreases-calls::argument : goal.decreases-calls::argument
decreases-calls::argument g l = (goal.size-calls::argument g l + depths (held l.around.now)) * 64 + 33

abbrev pub decreases-calls::unnamed : goal.decreases-calls::unnamed
decreases-calls::unnamed g l = (goal.size-calls::unnamed g l + depths (held l.around.now)) * 64 + 32

abbrev pub decreases-bodies::body : goal.decreases-bodies::body
decreases-bodies::body g l = (goal.size-bodies::body g l + depths (held l.around.now)) * 64 + 31

abbrev pub decreases-bodies::arms : goal.decreases-bodies::arms
decreases-bodies::arms g l = (goal.size-bodies::arms g l + depths (held l.around.now)) * 64 + 31

abbrev pub decreases-bodies::run : goal.decreases-bodies::run
decreases-bodies::run g l = (goal.size-bodies::run g l + depths (held l.around.now)) * 64 + 30

abbrev pub decreases-bodies::block : goal.decreases-bodies::block
decreases-bodies::block g l = (goal.size-bodies::block g l + depths (held l.around.now)) * 64 + 30

abbrev pub decreases-bodies::statements : goal.decreases-bodies::statements
decreases-bodies::statements g l = (goal.size-bodies::statements g l + depths (held l.around.now)) * 64 + 29

abbrev pub decreases-bodies::statement : goal.decreases-bodies::statement
decreases-bodies::statement g l = (goal.size-bodies::statement g l + depths (held l.around.now)) * 64 + 28

abbrev pub decreases-bodies::otherwise : goal.decreases-bodies::otherwise
decreases-bodies::otherwise g l = (goal.size-bodies::otherwise g l + depths (held l.around.now)) * 64 + 27

abbrev pub decreases-bodies::labels : goal.decreases-bodies::labels
decreases-bodies::labels g l = (goal.size-bodies::labels g l + depths (held l.around.now)) * 64 + 26

abbrev pub decreases-value_calls::of_values : goal.decreases-value_calls::of_values
decreases-value_calls::of_values g l = depths (held l.around.now) * 64 + 25

abbrev pub decreases-value_calls::by_name : goal.decreases-value_calls::by_name
decreases-value_calls::by_name g l = depths (held l.around.now) * 64 + 24

abbrev pub decreases-value_calls::by_script : goal.decreases-value_calls::by_script
decreases-value_calls::by_script g l = depths (held l.around.now) * 64 + 23

abbrev pub decreases-levels::operands : goal.decreases-levels::operands
decreases-levels::operands g l = (goal.size-levels::operands g l + depths (held l.around.now)) * 64 + 22

abbrev pub decreases-levels::joined : goal.decreases-levels::joined
decreases-levels::joined g l = (goal.size-levels::joined g l + depths (held l.around.now)) * 64 + 21

abbrev pub decreases-levels::matches : goal.decreases-levels::matches
decreases-levels::matches g l = (goal.size-levels::matches g l + depths (held l.around.now)) * 64 + 20

abbrev pub decreases-conditionals::conditional : goal.decreases-conditionals::conditional
decreases-conditionals::conditional g l = (goal.size-conditionals::conditional g l + depths (held l.around.now)) * 64 + 22

abbrev pub decreases-conditionals::step : goal.decreases-conditionals::step
decreases-conditionals::step g l = (goal.size-conditionals::step g l + depths (held l.around.now)) * 64 + 21

abbrev pub decreases-chains::parts : goal.decreases-chains::parts
decreases-chains::parts g l = (goal.size-chains::parts g l + depths (held l.around.now)) * 64 + 22

abbrev pub decreases-chains::part : goal.decreases-chains::part
decreases-chains::part g l = (goal.size-chains::part g l + depths (held l.around.now)) * 64 + 21

abbrev pub decreases-chains::indexed : goal.decreases-chains::indexed
decreases-chains::indexed g l = (goal.size-chains::indexed g l + depths (held l.around.now)) * 64 + 20

abbrev pub decreases-chains::subject : goal.decreases-chains::subject
decreases-chains::subject g l = (goal.size-chains::subject g l + depths (held l.around.now)) * 64 + 19

abbrev pub decreases-chains::flat : goal.decreases-chains::flat
decreases-chains::flat g l = (goal.size-chains::flat g l + depths (held l.around.now)) * 64 + 18

abbrev pub decreases-values::items : goal.decreases-values::items
decreases-values::items g l = (goal.size-values::items g l + depths (held l.around.now)) * 64 + 17

abbrev pub decreases-values::entries : goal.decreases-values::entries
decreases-values::entries g l = (goal.size-values::entries g l + depths (held l.around.now)) * 64 + 17

abbrev pub decreases-values::text : goal.decreases-values::text
decreases-values::text g l = (goal.size-values::text g l + depths (held l.around.now)) * 64 + 17

abbrev pub decreases-values::value : goal.decreases-values::value
decreases-values::value g l = (goal.size-values::value g l + depths (held l.around.now)) * 64 + 16

-- ---- what loops keep

abbrev pub invariant-values::items-loop-item : goal.invariant-values::items-loop-item
invariant-values::items-loop-item g l = (vs : List Plain) × IsGathered vs l.values × (((meaning_of (views (drop l.item-index l.list))).items (seen l.around (g.N.Natives.titles l.natives) (g.N.Natives.answer l.natives)) >>= λ ws. Ok (vs ++ ws)) ≡ (meaning_of (views l.list)).items (seen l.around (g.N.Natives.titles l.natives) (g.N.Natives.answer l.natives)))

abbrev pub invariant-values::entries-loop-pair : goal.invariant-values::entries-loop-pair
invariant-values::entries-loop-pair g l = ((meaning_of (trees (map view_pair (drop l.pair-index l.pairs)))).entries (seen l.around (g.N.Natives.titles l.natives) (g.N.Natives.answer l.natives)) >>= λ vs. Ok (map pair_of l.entries.items ++ vs)) ≡ (meaning_of (trees (map view_pair l.pairs))).entries (seen l.around (g.N.Natives.titles l.natives) (g.N.Natives.answer l.natives))

abbrev pub invariant-values::text-loop-piece : goal.invariant-values::text-loop-piece
invariant-values::text-loop-piece g l = (t : List ℕ) × IsWritten t l.written × (((meaning_of (trees (map view_piece (drop l.piece-index l.pieces)))).text (seen l.around (g.N.Natives.titles l.natives) (g.N.Natives.answer l.natives)) >>= λ u. Ok (t ++ u)) ≡ (meaning_of (trees (map view_piece l.pieces))).text (seen l.around (g.N.Natives.titles l.natives) (g.N.Natives.answer l.natives)))

abbrev pub invariant-levels::operands-loop-operand : goal.invariant-levels::operands-loop-operand
invariant-levels::operands-loop-operand g l = going_on (map view_operand (drop l.operand-index l.rest)) (seen l.around (g.N.Natives.titles l.natives) (g.N.Natives.answer l.natives)) (plain_of l.left) ≡ going_on (map view_operand l.rest) (seen l.around (g.N.Natives.titles l.natives) (g.N.Natives.answer l.natives)) (plain_of l.fn.first)

abbrev pub invariant-conditionals::conditional-loop-branch : goal.invariant-conditionals::conditional-loop-branch
invariant-conditionals::conditional-loop-branch g l = record {
  small : waits l.turn ≤ l.branch-index;
  reads : (e : Tree) → (meaning_of e).value (seen l.around (g.N.Natives.titles l.natives) (g.N.Natives.answer l.natives)) ≡ Ok (plain_of l.fn.first) → (fs : List Frame) × (x : Tree) × IsAt (seen l.around (g.N.Natives.titles l.natives) (g.N.Natives.answer l.natives)) fs x l.turn × (conditional fs x (map view_branch (drop l.branch-index l.rest)) ≡ conditional [] e (map view_branch l.rest));
}

abbrev pub invariant-chains::parts-loop-next : goal.invariant-chains::parts-loop-next
invariant-chains::parts-loop-next g l = record {
  ahead : l.ahead ≡ drop l.next-index l.rest;
  stands : (t : Tree) → Stands t (seen l.around (g.N.Natives.titles l.natives) (g.N.Natives.answer l.natives)) l.fn.first → IsReady (closure_next (map view_postfix l.rest) l.closure) l.fn.first → (u : Tree) × Stands u (seen l.around (g.N.Natives.titles l.natives) (g.N.Natives.answer l.natives)) l.subject × IsReady (closure_next (map view_postfix (drop l.next-index l.rest)) l.closure) l.subject × (postfix u (map view_postfix (drop l.next-index l.rest)) ≡ postfix t (map view_postfix l.rest));
}

abbrev pub invariant-calls::arguments-loop-arg : goal.invariant-calls::arguments-loop-arg
invariant-calls::arguments-loop-arg g l = (xs : List Argument) × Collects xs l.blocks l.values.items × (((meaning_of (trees (map view_arg (drop l.arg-index l.args)))).arguments (seen l.around (g.N.Natives.titles l.natives) (g.N.Natives.answer l.natives)) >>= λ ys. Ok (xs ++ ys)) ≡ (meaning_of (trees (map view_arg l.args))).arguments (seen l.around (g.N.Natives.titles l.natives) (g.N.Natives.answer l.natives)))

abbrev pub invariant-blocks::any-loop-item : goal.invariant-blocks::any-loop-item
invariant-blocks::any-loop-item g l = any_of (block_of (view_closure l.closure) (seen l.around (g.N.Natives.titles l.natives) (g.N.Natives.answer l.natives))) (map plain_of (drop l.item-index l.items)) ≡ any_of (block_of (view_closure l.closure) (seen l.around (g.N.Natives.titles l.natives) (g.N.Natives.answer l.natives))) (map plain_of l.items)

abbrev pub invariant-blocks::every-loop-item : goal.invariant-blocks::every-loop-item
invariant-blocks::every-loop-item g l = every_of (block_of (view_closure l.closure) (seen l.around (g.N.Natives.titles l.natives) (g.N.Natives.answer l.natives))) (map plain_of (drop l.item-index l.items)) ≡ every_of (block_of (view_closure l.closure) (seen l.around (g.N.Natives.titles l.natives) (g.N.Natives.answer l.natives))) (map plain_of l.items)

abbrev pub invariant-blocks::find-loop-item : goal.invariant-blocks::find-loop-item
invariant-blocks::find-loop-item g l = found_of (block_of (view_closure l.closure) (seen l.around (g.N.Natives.titles l.natives) (g.N.Natives.answer l.natives))) (map plain_of (drop l.item-index l.items)) ≡ found_of (block_of (view_closure l.closure) (seen l.around (g.N.Natives.titles l.natives) (g.N.Natives.answer l.natives))) (map plain_of l.items)

abbrev pub invariant-blocks::find_all-loop-item : goal.invariant-blocks::find_all-loop-item
invariant-blocks::find_all-loop-item g l = (all_found (block_of (view_closure l.closure) (seen l.around (g.N.Natives.titles l.natives) (g.N.Natives.answer l.natives))) (map plain_of (drop l.item-index l.items)) >>= λ ws. Ok (map plain_of l.found.items ++ ws)) ≡ all_found (block_of (view_closure l.closure) (seen l.around (g.N.Natives.titles l.natives) (g.N.Natives.answer l.natives))) (map plain_of l.items)

abbrev pub invariant-blocks::images-loop-item : goal.invariant-blocks::images-loop-item
invariant-blocks::images-loop-item g l = (vs : List Plain) × IsGathered vs l.images × ((images_of (block_of (view_closure l.closure) (seen l.around (g.N.Natives.titles l.natives) (g.N.Natives.answer l.natives))) (map plain_of (drop l.item-index l.items)) >>= λ ws. Ok (vs ++ ws)) ≡ images_of (block_of (view_closure l.closure) (seen l.around (g.N.Natives.titles l.natives) (g.N.Natives.answer l.natives))) (map plain_of l.items))

abbrev pub invariant-bodies::statements-loop-stmt : goal.invariant-bodies::statements-loop-stmt
invariant-bodies::statements-loop-stmt g l = (meaning_of (view_stmts (drop l.stmt-index l.code))).body (with_names (names_of l.names) (inside (seen l.around (g.N.Natives.titles l.natives) (g.N.Natives.answer l.natives)))) (plain_of l.last) ≡ (meaning_of (view_stmts l.code)).body (with_names (names_of l.initial.names) (inside (seen l.around (g.N.Natives.titles l.natives) (g.N.Natives.answer l.natives)))) null

abbrev pub invariant-bodies::arms-loop-arm : goal.invariant-bodies::arms-loop-arm
invariant-bodies::arms-loop-arm g l = (last : Tree) → (meaning_of (choice (map view_arm (drop l.arm-index l.list)) last)).done (with_names (names_of l.names) (inside (seen l.around (g.N.Natives.titles l.natives) (g.N.Natives.answer l.natives)))) ≡ (meaning_of (choice (map view_arm l.list) last)).done (with_names (names_of l.initial.names) (inside (seen l.around (g.N.Natives.titles l.natives) (g.N.Natives.answer l.natives))))

abbrev pub invariant-bodies::labels-loop-label : goal.invariant-bodies::labels-loop-label
invariant-bodies::labels-loop-label g l = (meaning_of (trees (map view_label (drop l.label-index l.list)))).body (with_names (names_of l.names) (inside (seen l.around (g.N.Natives.titles l.natives) (g.N.Natives.answer l.natives)))) (plain_of l.last) ≡ (meaning_of (trees (map view_label l.list))).body (with_names (names_of l.names) (inside (seen l.around (g.N.Natives.titles l.natives) (g.N.Natives.answer l.natives)))) null
