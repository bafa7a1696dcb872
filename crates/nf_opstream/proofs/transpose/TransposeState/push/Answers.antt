use Rattle.std.proofs.Common.{ap, sym, ◌∙◌}
use Rattle.nf_value.specs.View.{plain_of}
use Rattle.nf_opstream.specs.Push.{push_of}
use Rattle.nf_opstream.specs.Fault.{not_a_tuple}
use Rattle.nf_opstream.specs.Columns.{transposed_list, transposed}
use Rattle.nf_opstream.specs.Rows.{transpose_row}
use Rattle.nf_opstream.proofs.Each.{transpose_law}
use Rattle.nf_opstream.proofs.Inner.{items_of-plains_of}
use Rattle.nf_opstream.proofs.Tuples.{no_tuple}
use Rattle.nf_opstream.proofs.Promised.{answered, has_faulted, due_alike}
use Rattle.nf_opstream.proofs.transpose.TransposeState.push.Goals as goal

pub returns-in-List : goal.returns-in-List
returns-in-List c = λ p fine. (let x = push_of c.args.port (plain_of c.args.item) (plain_of c.args.answer) in
    let same = ap transposed_list (sym (items_of-plains_of c.in-List.list)) ∙ ap (λ v. transposed (plain_of v)) (sym c.in-List.is) in
    answered (λ v. v.items) transpose_row transpose_law p fine x c.transposed.result (due_alike (λ v. v.items) same c.transposed.result c.transposed.ensures))

pub returns : goal.returns
returns c = λ p fine. (let x = push_of c.args.port (plain_of c.args.item) (plain_of c.args.answer) in
    has_faulted transpose_row transpose_law p fine x (not_a_tuple (plain_of c.args.item)) (no_tuple c.args.item c.in_default.not-List))
