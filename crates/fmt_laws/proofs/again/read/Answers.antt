use Rattle.nf_ast.specs.Tops.{view_script}
use Rattle.fmt_laws.proofs.Reading.{same_as}
use Rattle.fmt_laws.proofs.again.read.Goals as goal

pub returns-in-Ok : goal.returns-in-Ok
returns-in-Ok c = record { again = λ tree lexed told. same_as tree told.tree (view_script c.in-Ok.script) (c.in-Ok.ensures.only told.tree told.reads) told.same }
