-- What is due of what a workflow emits.
use Rattle.std.specs.Prelude.{ℕ, List}
use Rattle.nf_ast.specs.Tree.{Tree}
use Rattle.nf_meaning.specs.Places.{begins_at}
use Rattle.nf_meaning.specs.Script.{emit_label, emit_value, emitted, label_fault, label_of}
use Rattle.nf_meaning.specs.Things.{Channel, Output}
use Rattle.nf_meaning.specs.Walk.{◌>>=◌, Walk, gives, unless_fault}
use Rattle.nf_meaning.specs.Workflow.{part_of}

-- what is emitted after outputs of these names
abbrev pub emit_after : List (List ℕ) → Tree → Walk Output
emit_after ns x =
    unless_fault (label_fault ns (emit_label x)) >>= λ _.
    (part_of (emit_value x)).thing >>= emitted (begins_at (emit_value x)) >>= λ c.
    gives (record { label = label_of (emit_label x); channel = c })

-- the channel of an expression that is emitted
abbrev pub emitted_thing : Tree → Walk Channel
emitted_thing e = (part_of e).thing >>= emitted (begins_at e)
