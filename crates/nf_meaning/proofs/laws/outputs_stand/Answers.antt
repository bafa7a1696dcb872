use Rattle.nf_meaning.proofs.Outputs.{source_output, call_output, task_output}
use Rattle.nf_meaning.proofs.laws.outputs_stand.Goals as goal

pub returns-clause-call : goal.returns-clause-call
returns-clause-call c g R o i k called is_graph h = call_output g R o i k called (c.node_by_node.ensures g R o is_graph) h

pub returns-clause-tasks : goal.returns-clause-tasks
returns-clause-tasks c g R o i k called is_graph h = task_output g R o i k called (c.node_by_node.ensures g R o is_graph) h

pub returns-clause-source : goal.returns-clause-source
returns-clause-source c g R o i channel is_graph h = source_output g R o i channel (c.node_by_node.ensures g R o is_graph) h
