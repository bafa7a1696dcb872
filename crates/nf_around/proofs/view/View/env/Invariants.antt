use Rattle.std.proofs.Common.{take}
use Rattle.nf_eval.specs.Memory.{env_of}
use Rattle.nf_meaning.specs.Closures.{env_for}
use Rattle.nf_meaning.specs.Walk as walk
use Rattle.nf_tasks.specs.Memory.{Program}
use Rattle.nf_known.specs.Reading.{reading_of}
use Rattle.nf_around.specs.Around.{Sees}
use Rattle.nf_around.specs.Kept.{KeepsNames}
use Rattle.nf_around.proofs.view.View.env.Given as goal

abbrev pub invariant-loop-name : goal.invariant-loop-name
invariant-loop-name l = (n : Program) (a : walk.Around) (s : walk.Scope) → Sees l.self n a s
    → KeepsNames (take l.name-index l.names) (env_of l.env n.titles n.answer) (env_for (reading_of l.self.reading) a s)
