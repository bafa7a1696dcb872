use Rattle.std.proofs.Common.{length, map, ℕ, ◌+◌, ◌*◌, ◌≤◌, ◌<◌}
use Rattle.nf_grammar.specs.Gram.{rule, many}
use Rattle.nf_grammar.specs.Parts.{no_next}
use Rattle.nf_ast.specs.View.{view, views, view_arg, view_pair, view_piece, view_label, view_stmts, view_operand, operands, prefixes, trees}
use Rattle.nf_exprs.specs.declared.band.Band.{Band}
use Rattle.nf_exprs.specs.declared.band.Band.TheVariants as band
use Rattle.nf_exprs.specs.Level.{Expr, Pre, Arg, Pair}
use Rattle.nf_exprs.specs.Tokens.{name_of, items_end}
use Rattle.nf_exprs.specs.Rules.{comma_then, no_comma, listed, pieces, piece, no_part, some_labels, label, with_sep}
use Rattle.nf_exprs.proofs.Bands as bands
use Rattle.nf_exprs.proofs.Choices.{ChoiceGoing}
use Rattle.nf_exprs.proofs.Conditionals.{Reading, seen}
use Rattle.nf_exprs.proofs.Leads.{Leads}
use Rattle.nf_exprs.proofs.Chains.{ChainGoing}
use Rattle.nf_exprs.proofs.Steps.{Going, each}
use Rattle.nf_exprs.proofs.Statements.{BodyGoing}
use Rattle.nf_exprs.proofs.+parser.Given as goal

-- how many bands are tighter
abbrev rank : Band → ℕ
rank band.Or = 7
rank band.And = 6
rank band.Pipe = 5
rank band.Same = 4
rank band.Compare = 3
rank band.Range = 2
rank band.Sum = 1
rank band.Term = 0

abbrev pub decreases-exprs::operand : goal.decreases-exprs::operand
decreases-exprs::operand l = 32 * length l.tokens.now + (4 + 2 * rank l.band)

abbrev pub decreases-exprs::operands : goal.decreases-exprs::operands
decreases-exprs::operands l = 32 * length l.tokens.now + (5 + 2 * rank l.band)

abbrev pub decreases-closures::closed : goal.decreases-closures::closed
decreases-closures::closed l = 32 * length l.tokens.now + 24

abbrev pub decreases-closures::closure : goal.decreases-closures::closure
decreases-closures::closure l = 32 * length l.tokens.now + 25

abbrev pub decreases-closures::label : goal.decreases-closures::label
decreases-closures::label l = 32 * length l.tokens.now + 0

abbrev pub decreases-closures::labels : goal.decreases-closures::labels
decreases-closures::labels l = 32 * length l.tokens.now + 2

abbrev pub decreases-closures::separated_label : goal.decreases-closures::separated_label
decreases-closures::separated_label l = 32 * length l.tokens.now + 1

abbrev pub decreases-exprs::expr : goal.decreases-exprs::expr
decreases-exprs::expr l = 32 * length l.tokens.now + 20

abbrev pub decreases-posts::arg : goal.decreases-posts::arg
decreases-posts::arg l = 32 * length l.tokens.now + 21

abbrev pub decreases-posts::args : goal.decreases-posts::args
decreases-posts::args l = 32 * length l.tokens.now + 22

abbrev pub decreases-posts::call : goal.decreases-posts::call
decreases-posts::call l = 32 * length l.tokens.now + 0

abbrev pub decreases-posts::call_with : goal.decreases-posts::call_with
decreases-posts::call_with l = 32 * length l.tokens.now + 0

abbrev pub decreases-posts::index : goal.decreases-posts::index
decreases-posts::index l = 32 * length l.tokens.now + 0

abbrev pub decreases-posts::maybe_args : goal.decreases-posts::maybe_args
decreases-posts::maybe_args l = 32 * length l.tokens.now + 23

abbrev pub decreases-posts::post : goal.decreases-posts::post
decreases-posts::post l = 32 * length l.tokens.now + 2

abbrev pub decreases-posts::post_part : goal.decreases-posts::post_part
decreases-posts::post_part l = 32 * length l.tokens.now + 1

abbrev pub decreases-prims::braced : goal.decreases-prims::braced
decreases-prims::braced l = 32 * length l.tokens.now + 0

abbrev pub decreases-prims::items : goal.decreases-prims::items
decreases-prims::items l = 32 * length l.tokens.now + 21

abbrev pub decreases-prims::maybe_items : goal.decreases-prims::maybe_items
decreases-prims::maybe_items l = 32 * length l.tokens.now + 22

abbrev pub decreases-prims::pair : goal.decreases-prims::pair
decreases-prims::pair l = 32 * length l.tokens.now + 0

abbrev pub decreases-prims::pairs : goal.decreases-prims::pairs
decreases-prims::pairs l = 32 * length l.tokens.now + 1

abbrev pub decreases-prims::piece : goal.decreases-prims::piece
decreases-prims::piece l = 32 * length l.tokens.now + 0

abbrev pub decreases-prims::pieces : goal.decreases-prims::pieces
decreases-prims::pieces l = 32 * length l.tokens.now + 1

abbrev pub decreases-prims::prim : goal.decreases-prims::prim
decreases-prims::prim l = 32 * length l.tokens.now + 1

abbrev pub decreases-prims::round : goal.decreases-prims::round
decreases-prims::round l = 32 * length l.tokens.now + 0

abbrev pub decreases-prims::square : goal.decreases-prims::square
decreases-prims::square l = 32 * length l.tokens.now + 0

abbrev pub decreases-prims::squared : goal.decreases-prims::squared
decreases-prims::squared l = 32 * length l.tokens.now + 23

abbrev pub decreases-prims::template : goal.decreases-prims::template
decreases-prims::template l = 32 * length l.tokens.now + 0

abbrev pub decreases-stmts::arm : goal.decreases-stmts::arm
decreases-stmts::arm l = 32 * length l.tokens.now + 0

abbrev pub decreases-stmts::assigned : goal.decreases-stmts::assigned
decreases-stmts::assigned l = 32 * length l.tokens.now + 0

abbrev pub decreases-stmts::block : goal.decreases-stmts::block
decreases-stmts::block l = 32 * length l.tokens.now + 0

abbrev pub decreases-stmts::body : goal.decreases-stmts::body
decreases-stmts::body l = 32 * length l.tokens.now + 23

abbrev pub decreases-stmts::choice : goal.decreases-stmts::choice
decreases-stmts::choice l = 32 * length l.tokens.now + 1

abbrev pub decreases-stmts::defined : goal.decreases-stmts::defined
decreases-stmts::defined l = 32 * length l.tokens.now + 0

abbrev pub decreases-stmts::logged : goal.decreases-stmts::logged
decreases-stmts::logged l = 32 * length l.tokens.now + 0

abbrev pub decreases-stmts::printed : goal.decreases-stmts::printed
decreases-stmts::printed l = 32 * length l.tokens.now + 0

abbrev pub decreases-stmts::returned : goal.decreases-stmts::returned
decreases-stmts::returned l = 32 * length l.tokens.now + 0

abbrev pub decreases-stmts::separated : goal.decreases-stmts::separated
decreases-stmts::separated l = 32 * length l.tokens.now + 22

abbrev pub decreases-stmts::stmt : goal.decreases-stmts::stmt
decreases-stmts::stmt l = 32 * length l.tokens.now + 21

abbrev pub decreases-exprs::prefixed : goal.decreases-exprs::prefixed
decreases-exprs::prefixed l = 32 * length l.tokens.now + 3

abbrev pub invariant-closures::labels-loop-alloc : goal.invariant-closures::labels-loop-alloc
invariant-closures::labels-loop-alloc l = (length l.rest < length l.tokens) × ((n : ℕ) × Going (many (no_next name_of) (each (with_sep (label l.depth))) n (trees (map view_label l.all.items))) l.rest (some_labels l.depth) l.tokens)

abbrev pub decreases-closures::labels-loop-alloc : goal.decreases-closures::labels-loop-alloc
decreases-closures::labels-loop-alloc l = length l.rest

abbrev pub invariant-exprs::expr-loop-place : goal.invariant-exprs::expr-loop-place
invariant-exprs::expr-loop-place l = (length l.rest < length l.tokens) × (l.nested ≤ 256) × Reading l.depth (seen (view l.first) l.branches.items) l.nested l.asked.items l.rest l.tokens

abbrev pub decreases-exprs::expr-loop-place : goal.decreases-exprs::expr-loop-place
decreases-exprs::expr-loop-place l = length l.rest

abbrev pub invariant-exprs::operands-loop-place : goal.invariant-exprs::operands-loop-place
invariant-exprs::operands-loop-place l = (length l.rest < length l.tokens) × (1 ≤ l.parts) × (l.parts ≤ 256) × bands.Going l.depth l.band l.parts (operands (view l.first) (map view_operand l.others.items)) l.rest l.tokens

abbrev pub decreases-exprs::operands-loop-place : goal.decreases-exprs::operands-loop-place
decreases-exprs::operands-loop-place l = length l.rest

abbrev pub invariant-exprs::prefixed-loop-place : goal.invariant-exprs::prefixed-loop-place
invariant-exprs::prefixed-loop-place l = (length l.rest ≤ length l.tokens) × (l.parts ≤ 256) × Leads (rule (Pre l.depth l.parts)) l.rest (prefixes l.operators.items) (rule (Pre l.depth 0)) l.tokens

abbrev pub decreases-exprs::prefixed-loop-place : goal.decreases-exprs::prefixed-loop-place
decreases-exprs::prefixed-loop-place l = length l.rest

abbrev pub invariant-posts::args-loop-after : goal.invariant-posts::args-loop-after
invariant-posts::args-loop-after l = (length l.rest < length l.tokens) × ((n : ℕ) × Going (many no_comma (comma_then (rule (Arg l.depth))) n (trees (map view_arg l.all.items))) l.rest (listed no_comma (rule (Arg l.depth))) l.tokens)

abbrev pub decreases-posts::args-loop-after : goal.decreases-posts::args-loop-after
decreases-posts::args-loop-after l = length l.rest

abbrev pub invariant-posts::post-loop-alloc : goal.invariant-posts::post-loop-alloc
invariant-posts::post-loop-alloc l = (length l.rest < length l.tokens) × (l.count ≤ 256) × ChainGoing l.depth l.count (view l.first) l.parts.items l.rest l.tokens

abbrev pub decreases-posts::post-loop-alloc : goal.decreases-posts::post-loop-alloc
decreases-posts::post-loop-alloc l = length l.rest

abbrev pub invariant-prims::items-loop-after : goal.invariant-prims::items-loop-after
invariant-prims::items-loop-after l = (length l.rest < length l.tokens) × ((n : ℕ) × Going (many items_end (comma_then (rule (Expr l.depth 0))) n (views l.all.items)) l.rest (listed items_end (rule (Expr l.depth 0))) l.tokens)

abbrev pub decreases-prims::items-loop-after : goal.decreases-prims::items-loop-after
decreases-prims::items-loop-after l = length l.rest

abbrev pub invariant-prims::pairs-loop-after : goal.invariant-prims::pairs-loop-after
invariant-prims::pairs-loop-after l = (length l.rest < length l.tokens) × ((n : ℕ) × Going (many items_end (comma_then (rule (Pair l.depth))) n (trees (map view_pair l.all.items))) l.rest (listed items_end (rule (Pair l.depth))) l.tokens)

abbrev pub decreases-prims::pairs-loop-after : goal.decreases-prims::pairs-loop-after
decreases-prims::pairs-loop-after l = length l.rest

abbrev pub invariant-prims::pieces-loop-alloc : goal.invariant-prims::pieces-loop-alloc
invariant-prims::pieces-loop-alloc l = (length l.rest ≤ length l.tokens) × ((n : ℕ) × Going (many no_part (each (piece l.depth)) n (trees (map view_piece l.all.items))) l.rest (pieces l.depth) l.tokens)

abbrev pub decreases-prims::pieces-loop-alloc : goal.decreases-prims::pieces-loop-alloc
decreases-prims::pieces-loop-alloc l = length l.rest

abbrev pub invariant-stmts::body-loop-alloc : goal.invariant-stmts::body-loop-alloc
invariant-stmts::body-loop-alloc l = (length l.rest ≤ length l.tokens) × ((n : ℕ) × BodyGoing l.depth n (view_stmts l.all.items) l.rest l.tokens)

abbrev pub decreases-stmts::body-loop-alloc : goal.decreases-stmts::body-loop-alloc
decreases-stmts::body-loop-alloc l = length l.rest

abbrev pub invariant-stmts::choice-loop-after : goal.invariant-stmts::choice-loop-after
invariant-stmts::choice-loop-after l = (length l.rest < length l.tokens) × (1 ≤ l.parts) × (l.parts ≤ 256) × ChoiceGoing l.depth l.parts l.arms.items l.rest l.tokens

abbrev pub decreases-stmts::choice-loop-after : goal.decreases-stmts::choice-loop-after
decreases-stmts::choice-loop-after l = length l.rest
