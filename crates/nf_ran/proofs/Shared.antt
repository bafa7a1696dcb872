-- What is known of a plan's nodes may be shared by threads. A line for each type that holds a tree, a value or a built pattern.
use denote.Param.Send.{IsSend, IsSync, sendable}
use Rattle.std.proofs.Crossing.{crosses}
use Rattle.nf_value.proofs.text.Txt.TheSendSync as text
use Rattle.nf_value.proofs.list.Vals.TheLaws.TheKnot as knot
use Rattle.nf_value.specs.contracts.list.Vals as Vals
use Rattle.nf_value.specs.contracts.map.Pairs as Pairs
use Rattle.nf_value.specs.contracts.value.Value as Value
use Rattle.nf_eval.specs.contracts.patterns.Pattern as Pattern
use Rattle.nf_eval.specs.contracts.library.Library as Library
use Rattle.nf_eval.specs.contracts.scope.Scope as Scope
use Rattle.nf_eval.specs.contracts.environment.Env as Env
use Rattle.nf_eval.specs.contracts.closures.Closure as Closure
use Rattle.nf_tasks.specs.contracts.process.TaskScript as TaskScript
use Rattle.nf_tasks.specs.contracts.process.Output as Output
use Rattle.nf_tasks.specs.contracts.process.OutputShape as OutputShape
use Rattle.nf_tasks.specs.contracts.process.OutputPart as OutputPart
use Rattle.nf_tasks.specs.contracts.process.Publish as Publish
use Rattle.nf_tasks.specs.contracts.process.ProcessSpec as ProcessSpec
use Rattle.nf_tasks.proofs.inputs.Input.TheSendSync as input
use Rattle.nf_bodies.specs.contracts.body.NodeBody as NodeBody
use Rattle.nf_bodies.specs.contracts.body.NodeInfo as NodeInfo
use Rattle.nf_ran.proofs.Patterns.{whole, whole_send}
use Rattle.nf_ran.proofs.Trees.{closure, function, function_send}

-- ---- values

vals : IsSync Vals.the_row
vals = search (sendable, crosses, knot.sync-Vals) depth 40

pairs : IsSync Pairs.the_row
pairs = search (sendable, crosses, knot.sync-Pairs) depth 40

value : IsSync (Value.the_field).row
value = knot.sync-Value (search sendable depth 40) (search sendable depth 40) (search (sendable, crosses, text.the_sync) depth 40) (search (sendable, crosses, text.the_sync) depth 40) vals pairs

-- ---- closures

pattern : IsSync (Pattern.the_field).row
pattern = search (whole, text.the_sync, crosses, sendable) depth 40

pattern_send : IsSend (Pattern.the_field).row
pattern_send = search (whole_send, text.the_send, crosses, sendable) depth 40

library : IsSync (Library.the_field).row
library = search (function, pattern, crosses, sendable) depth 40

library_send : IsSend (Library.the_field).row
library_send = search (function_send, pattern_send, crosses, sendable) depth 40

scope : IsSync (Scope.the_field).row
scope = search (value, text.the_sync, crosses, sendable) depth 40

env : IsSync (Env.the_field).row
env = search (scope, library, library_send, crosses, sendable) depth 40

closed : IsSync (Closure.the_field).row
closed = search (closure, env, crosses, sendable) depth 40

-- ---- processes

script : IsSync (TaskScript.the_field).row
script = search (closed, crosses, sendable) depth 40

part : IsSync (OutputPart.the_field).row
part = search (closed, crosses, sendable) depth 40

shape : IsSync (OutputShape.the_field).row
shape = search (part, crosses, sendable) depth 40

output : IsSync (Output.the_field).row
output = search (shape, text.the_sync, crosses, sendable) depth 40

publish : IsSync (Publish.the_field).row
publish = search (closed, crosses, sendable) depth 40

process : IsSync (ProcessSpec.the_field).row
process = search (script, output, publish, closed, input.the_field_sync, text.the_sync, crosses, sendable) depth 40

-- ---- nodes

body : IsSync (NodeBody.the_field).row
body = search (value, whole, closed, process, crosses, sendable) depth 40

pub info : IsSync (NodeInfo.the_field).row
info = search (body, text.the_sync, crosses, sendable) depth 40
