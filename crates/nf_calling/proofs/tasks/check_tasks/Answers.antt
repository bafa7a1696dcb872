use Rattle.std.proofs.Common.{◌≡◌, length, arith}
use Rattle.std.proofs.lemmas.List.{length-map}
use Rattle.nf_tasks.specs.declared.process.Output.{Output}
use Rattle.nf_lowering.specs.Nodes.{labels_of}
use Rattle.nf_calling.proofs.Queues.{few_queues, passes_tasks, two_refused, wide_refused}
use Rattle.nf_calling.proofs.tasks.check_tasks.Goals as goal

pub returns-then-has_two_queues-clause-fault : goal.returns-then-has_two_queues-clause-fault
returns-then-has_two_queues-clause-fault c =
    two_refused c.args.place c.args.ports.now (labels_of c.args.spec.now.outputs.items) c.has_two_queues.result c.has_two_queues.ensures c.if-has_two_queues.true

pub returns-then-len-ge4294967296-clause-fault : goal.returns-then-len-ge4294967296-clause-fault
returns-then-len-ge4294967296-clause-fault c =
    let os = c.args.spec.now.outputs in
    let e : length (labels_of os.items) ≡ length os.items = length-map os.items (λ (o : Output). o.emit) in
    let k : c.len.result ≡ length (labels_of os.items) = omega (arith, e, c.len.ensures, os.ok.0) in
    wide_refused c.args.place c.args.ports.now (labels_of os.items) c.has_two_queues.result c.has_two_queues.ensures c.if-has_two_queues.false c.len.result k c.if-len-ge4294967296.true

pub returns-clause-fault : goal.returns-clause-fault
returns-clause-fault c =
    let os = c.args.spec.now.outputs in
    let e : length (labels_of os.items) ≡ length os.items = length-map os.items (λ (o : Output). o.emit) in
    let k : c.len.result ≡ length (labels_of os.items) = omega (arith, e, c.len.ensures, os.ok.0) in
    passes_tasks c.args.place c.args.ports.now (labels_of os.items) c.has_two_queues.result c.has_two_queues.ensures c.if-has_two_queues.false c.len.result k c.if-len-ge4294967296.false

pub returns-clause-queue : goal.returns-clause-queue
returns-clause-queue c =
    few_queues c.args.place c.args.ports.now (labels_of c.args.spec.now.outputs.items) c.has_two_queues.result c.has_two_queues.ensures c.if-has_two_queues.false
