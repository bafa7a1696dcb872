-- What is due of outputs of calls, and of calls at the end of an expression.
use Rattle.std.specs.Prelude.{ℕ, List}
use Rattle.nf_ast.specs.Tree.{Tree}
use Rattle.nf_value.specs.declared.place.Place.{Place}
use Rattle.nf_meaning.specs.Arguments as meaning
use Rattle.nf_meaning.specs.Expressions.{value_of}
use Rattle.nf_meaning.specs.Names.{is_channel_word}
use Rattle.nf_meaning.specs.Places.{begins_at}
use Rattle.nf_meaning.specs.Things.{Thing}
use Rattle.nf_meaning.specs.Walk.{Walk, ◌>>=◌}
use Rattle.nf_meaning.specs.Workflow as workflow
use Rattle.nf_meaning.specs.Workflow.{free_method, part_of}

-- `e.n` of what is no name
abbrev pub member_at : Tree → Place → List ℕ → Walk Thing
member_at e p n = (part_of e).thing >>= workflow.member_of (begins_at e) p n

-- `[i]` after what was made before, whose expression begins at q
abbrev pub indexed : Place → Place → Tree → Thing → Walk Thing
indexed q p i = workflow.index_of q p (begins_at i) (value_of i)

-- `e.n(..)` of what is no name
abbrev pub thing_method_at : Tree → Place → List ℕ → List meaning.Arg → Walk Thing
thing_method_at e p n xs = (part_of e).thing >>= workflow.method_of (begins_at e) p n xs

-- `m.n(..)` of a name m that nothing in the body binds
abbrev pub free_method_at : Place → List ℕ → Place → List ℕ → List meaning.Arg → Walk Thing
free_method_at q m p n xs = free_method (is_channel_word m) q p n xs
