-- What a tree of a script holds may be shared by threads.
use denote.Param.Send.{IsSend, IsSync, sendable}
use Rattle.std.proofs.Crossing.{crosses}
use Rattle.nf_value.proofs.text.Txt.TheSendSync as text
use Rattle.nf_ast.specs.contracts.expr.ClosureExpr as ClosureExpr
use Rattle.nf_ast.specs.contracts.expr.Stmt as Stmt
use Rattle.nf_ast.specs.contracts.tops.Function as Function
use Rattle.nf_ast.proofs.expr.ClosureBody.TheLaws.TheKnot as knot

pub closure : IsSync (ClosureExpr.the_field).row
closure =
    knot.sync-ClosureExpr (search (crosses, sendable) depth 40) (search (crosses, sendable) depth 40) (search (crosses, sendable) depth 40) (search (crosses, sendable) depth 40)
    (search (text.the_sync, crosses, sendable) depth 40) (search (crosses, sendable) depth 40) (search (crosses, sendable) depth 40) (search (crosses, sendable) depth 40)
    (search (crosses, sendable) depth 40) (search (text.the_sync, crosses, sendable) depth 40) (search (crosses, sendable) depth 40) (search (text.the_sync, crosses, sendable) depth 40)
    (search (crosses, sendable) depth 40) (search (text.the_sync, crosses, sendable) depth 40) (search (crosses, sendable) depth 40) (search (text.the_sync, crosses, sendable) depth 40)

stmt : IsSync (Stmt.the_field).row
stmt =
    knot.sync-Stmt (search (crosses, sendable) depth 40) (search (crosses, sendable) depth 40) (search (crosses, sendable) depth 40) (search (crosses, sendable) depth 40)
    (search (text.the_sync, crosses, sendable) depth 40) (search (crosses, sendable) depth 40) (search (crosses, sendable) depth 40) (search (crosses, sendable) depth 40)
    (search (crosses, sendable) depth 40) (search (text.the_sync, crosses, sendable) depth 40) (search (crosses, sendable) depth 40) (search (text.the_sync, crosses, sendable) depth 40)
    (search (crosses, sendable) depth 40) (search (text.the_sync, crosses, sendable) depth 40) (search (crosses, sendable) depth 40) (search (text.the_sync, crosses, sendable) depth 40)

stmt_send : IsSend (Stmt.the_field).row
stmt_send =
    knot.send-Stmt (search (crosses, sendable) depth 40) (search (crosses, sendable) depth 40) (search (crosses, sendable) depth 40) (search (crosses, sendable) depth 40)
    (search (text.the_send, crosses, sendable) depth 40) (search (crosses, sendable) depth 40) (search (crosses, sendable) depth 40) (search (crosses, sendable) depth 40)
    (search (crosses, sendable) depth 40) (search (text.the_send, crosses, sendable) depth 40) (search (crosses, sendable) depth 40) (search (text.the_send, crosses, sendable) depth 40)
    (search (crosses, sendable) depth 40) (search (text.the_send, crosses, sendable) depth 40) (search (crosses, sendable) depth 40) (search (text.the_send, crosses, sendable) depth 40)

pub function : IsSync (Function.the_field).row
function = search (stmt, text.the_sync, crosses, sendable) depth 40

pub function_send : IsSend (Function.the_field).row
function_send = search (stmt_send, text.the_send, crosses, sendable) depth 40
