-- A node whose ports stand for the channels of a call, under rules that answer as the call does, means what the call means.
use Rattle.std.proofs.Common.{◌≡◌, ◌<◌, ℕ, zero, suc, ◌+◌, ◌==◌, List, [], ◌∷◌, ◌++◌, map, length, get_or, Bool, true, false, cond, Option, Some, None, Result, Ok, Err, refl, ap, sym, ◌∙◌, arith}
use Rattle.std.proofs.lemmas.List.{map-append}
use Rattle.std.specs.List.{flat_map}
use Rattle.nf_value.specs.Plain.{Plain, null}
use Rattle.nf_names_used.specs.Placed.{Placed}
use Rattle.nf_job.specs.declared.parts.JobParts.{JobParts}
use Rattle.nf_job.specs.declared.report.Report.{Report}
use Rattle.nf_job.specs.declared.fault.TaskFault.{TaskFault}
use Rattle.nf_graph.specs.declared.port.Port.{Port}
use Rattle.nf_graph.specs.Rules.{Outs, decided_by, refused_by, decided, emitted_by, fault_by}
use Rattle.nf_graph.specs.Node.{process, port_in}
use Rattle.nf_graph.specs.Meaning as graph
use Rattle.nf_graph.specs.Meaning.{Bags, bag_of, answered, bag_heads, filled, input_of, numbered, same_inputs, instances, decided_under}
use Rattle.nf_graph.specs.Faults as graph_fault
use Rattle.nf_graph.specs.Faults.{GraphFault, item_faults, task_faults}
use Rattle.nf_meaning.specs.Things.{Channel}
use Rattle.nf_meaning.specs.Meaning.{Instance, operator_fails, task_fails}
use Rattle.nf_meaning.specs.Operators as operators
use Rattle.nf_meaning.specs.Operators.{Call, answer, item_fault, operator_in, pushes_of, operator_faults}
use Rattle.nf_meaning.specs.Tasks as tasks
use Rattle.nf_meaning.specs.Tasks.{TaskCall, job, outs, input_list, queue_items, input_lists, decided_in, faults_in, instances_of}
use Rattle.nf_meaning.specs.Nodes.{PortsStand, Site, node_of, in_graph, IsCallSite, MeansCall, IsTaskSite, MeansTasks}

-- ---- lists

mapped_alike : {A B : Type 0} (f g : A → B) → ((x : A) → f x ≡ g x) → (xs : List A) → map f xs ≡ map g xs
mapped_alike f g h [] = refl
mapped_alike f g h (x ∷ xs) = ap (λ z. z ∷ map f xs) (h x) ∙ ap (λ z. g x ∷ z) (mapped_alike f g h xs)

-- a flat map of images
flat_alike : {A B C : Type 0} (f : A → List C) (g : B → List C) (k : A → B) → ((x : A) → f x ≡ g (k x)) → (xs : List A) → flat_map f xs ≡ flat_map g (map k xs)
flat_alike f g k h [] = refl
flat_alike f g k h (x ∷ xs) = ap (λ z. z ++ flat_map f xs) (h x) ∙ ap (λ z. g (k x) ++ z) (flat_alike f g k h xs)

-- the images of a flat map
flat_mapped : {A B C : Type 0} (f : A → List C) (g : A → List B) (k : B → C) → ((x : A) → f x ≡ map k (g x)) → (xs : List A) → flat_map f xs ≡ map k (flat_map g xs)
flat_mapped f g k h [] = refl
flat_mapped f g k h (x ∷ xs) =
    ap (λ z. z ++ flat_map f xs) (h x) ∙ ap (λ z. map k (g x) ++ z) (flat_mapped f g k h xs) ∙ sym (map-append k (g x) (flat_map g xs))

map_twice : {A B C : Type 0} (f : A → B) (g : B → C) (k : A → C) → ((x : A) → k x ≡ g (f x)) → (xs : List A) → map k xs ≡ map g (map f xs)
map_twice f g k h [] = refl
map_twice f g k h (x ∷ xs) = ap (λ z. z ∷ map k xs) (h x) ∙ ap (λ z. g (f x) ∷ z) (map_twice f g k h xs)

-- ---- what comes to the ports

delivered_alike : (bags : Bags) (k : ℕ) (ps : List Port) (cs : List Channel) → PortsStand bags ps cs → graph.delivered bags k ps ≡ operators.delivered k cs
delivered_alike bags k [] [] s = refl
delivered_alike bags k (p ∷ ps) (c ∷ cs) s =
    ap (λ z. map (λ (x : Plain). (k, x)) z ++ graph.delivered bags (suc k) ps) s.0.bag
    ∙ ap (λ z. map (λ (x : Plain). (k, x)) c.bag ++ z) (delivered_alike bags (suc k) ps cs s.1)
delivered_alike bags k [] (c ∷ cs) s = absurd s
delivered_alike bags k (p ∷ ps) [] s = absurd s

bags_alike : (bags : Bags) (ps : List Port) (cs : List Channel) → PortsStand bags ps cs → map (bag_of bags) ps ≡ map (λ c. c.bag) cs
bags_alike bags [] [] s = refl
bags_alike bags (p ∷ ps) (c ∷ cs) s = ap (λ z. z ∷ map (bag_of bags) ps) s.0.bag ∙ ap (λ z. c.bag ∷ z) (bags_alike bags ps cs s.1)
bags_alike bags [] (c ∷ cs) s = absurd s
bags_alike bags (p ∷ ps) [] s = absurd s

-- ---- operators

pushes_alike : (f g : Plain → Placed Plain) → ((v : Plain) → f v ≡ g v) → (ds : List (ℕ × Plain))
    → flat_map (λ d. answered d.0 d.1 (f d.1)) ds ≡ flat_map (λ d. answered d.0 d.1 (g d.1)) ds
pushes_alike f g h [] = refl
pushes_alike f g h (d ∷ ds) =
    ap (λ z. answered d.0 d.1 z ++ flat_map (λ (e : ℕ × Plain). answered e.0 e.1 (f e.1)) ds) (h d.1)
    ∙ ap (λ z. answered d.0 d.1 (g d.1) ++ z) (pushes_alike f g h ds)

item_alike : (i : ℕ) (x : Plain) (r : Placed Plain) → item_faults i x r ≡ map (in_graph i) (item_fault x r)
item_alike i x (Ok v) = refl
item_alike i x (Err f) = refl

-- the pushes at a site of a call
pushed_at : (x : Site) (c : Call) → IsCallSite x c → flat_map (λ d. answered d.0 d.1 (x.rules.answer x.place d.1)) (graph.delivered x.bags 0 x.ports) ≡ pushes_of c
pushed_at x c h =
    ap (λ z. flat_map (λ (d : ℕ × Plain). answered d.0 d.1 (x.rules.answer x.place d.1)) z) (delivered_alike x.bags 0 x.ports c.channels h.ports)
    ∙ pushes_alike (x.rules.answer x.place) (answer c.row c.taken) h.answers (operators.delivered 0 c.channels)

items_at : (x : Site) (c : Call) → IsCallSite x c
    → flat_map (λ d. item_faults x.place d.1 (x.rules.answer x.place d.1)) (graph.delivered x.bags 0 x.ports) ≡ map (in_graph x.place) (operators.item_faults c)
items_at x c h =
    ap (λ z. flat_map (λ (d : ℕ × Plain). item_faults x.place d.1 (x.rules.answer x.place d.1)) z) (delivered_alike x.bags 0 x.ports c.channels h.ports)
    ∙ flat_mapped (λ (d : ℕ × Plain). item_faults x.place d.1 (x.rules.answer x.place d.1)) (λ d. item_fault d.1 (answer c.row c.taken d.1)) (in_graph x.place)
    (λ d. ap (λ z. item_faults x.place d.1 z) (h.answers d.1) ∙ item_alike x.place d.1 (answer c.row c.taken d.1)) (operators.delivered 0 c.channels)

faults_at_call : (x : Site) (c : Call) → IsCallSite x c
    → map (graph_fault.op_fails x.place) ((operator_in c).faults (flat_map (λ d. answered d.0 d.1 (x.rules.answer x.place d.1)) (graph.delivered x.bags 0 x.ports)))
    ≡ map (in_graph x.place) (operator_faults c)
faults_at_call x c h =
    ap (λ z. map (graph_fault.op_fails x.place) ((operator_in c).faults z)) (pushed_at x c h)
    ∙ map_twice (operator_fails c.place) (in_graph x.place) (graph_fault.op_fails x.place) (λ f. refl) ((operator_in c).faults (pushes_of c))

pub call_at : (x : Site) (c : Call) → IsCallSite x c → MeansCall x c
call_at x c h = record {
  bags = λ out. ap (λ z. (operator_in c).items z out) (pushed_at x c h);
  pushed = pushed_at x c h;
  delivered = bags_alike x.bags x.ports c.channels h.ports;
  faults =
      ap (λ z. z ++ flat_map (λ (d : ℕ × Plain). item_faults x.place d.1 (x.rules.answer x.place d.1)) (graph.delivered x.bags 0 x.ports)) (faults_at_call x c h)
      ∙ ap (λ z. map (in_graph x.place) (operator_faults c) ++ z) (items_at x c h)
      ∙ sym (map-append (in_graph x.place) (operator_faults c) (operators.item_faults c));
}

-- ---- the inputs of tasks

lacking_alike : (bags : Bags) (ps : List Port) (cs : List Channel) → PortsStand bags ps cs → graph.is_lacking bags ps ≡ tasks.is_lacking cs
lacking_alike bags [] [] s = refl
lacking_alike bags (p ∷ ps) (c ∷ cs) s =
    ap (λ z. cond z (cond (length (bag_of bags p) == 0) true (graph.is_lacking bags ps)) (graph.is_lacking bags ps)) s.0.kind
    ∙ ap (λ (z : List Plain). cond c.is_value (cond (length z == 0) true (graph.is_lacking bags ps)) (graph.is_lacking bags ps)) s.0.bag
    ∙ ap (λ z. cond c.is_value (cond (length c.bag == 0) true z) z) (lacking_alike bags ps cs s.1)
lacking_alike bags [] (c ∷ cs) s = absurd s
lacking_alike bags (p ∷ ps) [] s = absurd s

-- the heads from place k on are those of these ports
abbrev HeadsFrom : Bags → ℕ → List Port → (ℕ → Plain) → Type 0
HeadsFrom bags k ps heads = (j m : ℕ) → k + j ≡ m → heads m ≡ get_or (bag_of bags (port_in ps j)) 0 null

later_heads : (bags : Bags) (k : ℕ) (p : Port) (ps : List Port) (heads : ℕ → Plain) → HeadsFrom bags k (p ∷ ps) heads → HeadsFrom bags (suc k) ps heads
later_heads bags k p ps heads h j m e = h (suc j) m (omega (arith, e))

filled_alike : (bags : Bags) (k : ℕ) (ps : List Port) (cs : List Channel) (heads : ℕ → Plain) (x : Plain) → PortsStand bags ps cs → HeadsFrom bags k ps heads
    → filled k ps heads x ≡ input_list cs x
filled_alike bags k [] [] heads x s h = refl
filled_alike bags k (p ∷ ps) (c ∷ cs) heads x s h =
    ap (λ z. cond z (heads k) x ∷ filled (suc k) ps heads x) s.0.kind
    ∙ ap (λ z. cond c.is_value z x ∷ filled (suc k) ps heads x) (h 0 k (omega arith) ∙ ap (λ (z : List Plain). get_or z 0 null) s.0.bag)
    ∙ ap (λ z. cond c.is_value (get_or c.bag 0 null) x ∷ z) (filled_alike bags (suc k) ps cs heads x s.1 (later_heads bags k p ps heads h))
filled_alike bags k [] (c ∷ cs) heads x s h = absurd s
filled_alike bags k (p ∷ ps) [] heads x s h = absurd s

heads_are : (bags : Bags) (ps : List Port) → HeadsFrom bags 0 ps (bag_heads bags ps)
heads_are bags ps j m e = ap (λ (z : ℕ). get_or (bag_of bags (port_in ps z)) 0 null) (omega (arith, e))

inputs_alike : (x : Site) (cs : List Channel) (v : Plain) → PortsStand x.bags x.ports cs → filled 0 x.ports (bag_heads x.bags x.ports) v ≡ input_list cs v
inputs_alike x cs v s = filled_alike x.bags 0 x.ports cs (bag_heads x.bags x.ports) v s (heads_are x.bags x.ports)

-- the queue's items

no_false : (b : Bool) → (b ≡ false → ⊥) → b ≡ true
no_false true h = refl
no_false false h = absurd (h refl)

queue_alike : (bags : Bags) (ps : List Port) (cs : List Channel) (q : ℕ) → PortsStand bags ps cs → q < length ps → (port_in ps q).value ≡ false
    → ((k : ℕ) → k < length ps → (port_in ps k).value ≡ false → k ≡ q) → queue_items cs ≡ bag_of bags (port_in ps q)
queue_alike bags [] [] q s l f alone = absurd (omega (arith, l))
queue_alike bags (p ∷ ps) (c ∷ cs) zero s l f alone =
    ap (λ z. cond z (queue_items cs) c.bag) (sym s.0.kind ∙ f) ∙ sym s.0.bag
queue_alike bags (p ∷ ps) (c ∷ cs) (suc q) s l f alone =
    ap (λ z. cond z (queue_items cs) c.bag) (sym s.0.kind ∙ no_false p.value (λ e. let z : 0 ≡ suc q = alone 0 (omega (arith, l)) e in omega (arith, z)))
    ∙ queue_alike bags ps cs q s.1 (omega (arith, l)) f (λ k m e. let z : suc k ≡ suc q = alone (suc k) (omega (arith, m)) e in omega (arith, z))
queue_alike bags [] (c ∷ cs) q s l f alone = absurd s
queue_alike bags (p ∷ ps) [] q s l f alone = absurd s

no_queue : (bags : Bags) (ps : List Port) (cs : List Channel) → PortsStand bags ps cs → ((k : ℕ) → k < length ps → (port_in ps k).value ≡ true) → queue_items cs ≡ null ∷ []
no_queue bags [] [] s h = refl
no_queue bags (p ∷ ps) (c ∷ cs) s h =
    ap (λ z. cond z (queue_items cs) c.bag) (sym s.0.kind ∙ h 0 (omega arith)) ∙ no_queue bags ps cs s.1 (λ k l. h (suc k) (omega (arith, l)))
no_queue bags [] (c ∷ cs) s h = absurd s
no_queue bags (p ∷ ps) [] s h = absurd s

lists_alike : (x : Site) (queue : Option ℕ) (c : TaskCall) → IsTaskSite x queue c → graph.input_lists x.bags (node_of x (process queue)) queue ≡ input_lists c.channels
lists_alike x None c h =
    ap (λ z. cond z [] (filled 0 x.ports (bag_heads x.bags x.ports) null ∷ [])) (lacking_alike x.bags x.ports c.channels h.ports)
    ∙ ap (λ z. cond (tasks.is_lacking c.channels) [] (z ∷ [])) (inputs_alike x c.channels null h.ports)
    ∙ ap (λ z. cond (tasks.is_lacking c.channels) [] (map (input_list c.channels) z)) (sym (no_queue x.bags x.ports c.channels h.ports h.queues))
lists_alike x (Some q) c h =
    ap (λ z. cond z [] (map (λ v. filled 0 x.ports (bag_heads x.bags x.ports) v) (bag_of x.bags (port_in x.ports q)))) (lacking_alike x.bags x.ports c.channels h.ports)
    ∙ ap (λ z. cond (tasks.is_lacking c.channels) [] z) (mapped_alike (λ v. filled 0 x.ports (bag_heads x.bags x.ports) v) (input_list c.channels) (λ v. inputs_alike x c.channels v h.ports) (bag_of x.bags (port_in x.ports q)))
    ∙ ap (λ z. cond (tasks.is_lacking c.channels) [] (map (input_list c.channels) z)) (sym (queue_alike x.bags x.ports c.channels q h.ports h.queues.within h.queues.queue h.queues.alone))

instances_alike : (x : Site) (queue : Option ℕ) (c : TaskCall) → IsTaskSite x queue c → instances x.bags (node_of x (process queue)) queue ≡ numbered same_inputs (input_lists c.channels)
instances_alike x queue c h = ap (λ z. numbered same_inputs z) (lists_alike x queue c h)

-- ---- what decides a task

decided_alike : (j k : ℕ → Result JobParts TaskFault) (f g : ℕ → Report → Outs) → ((a : ℕ) → j a ≡ k a) → ((a : ℕ) (r : Report) → f a r ≡ g a r) → (a : ℕ) (rs : List Report)
    → decided j f a rs ≡ decided k g a rs
decided_alike j k f g h i a [] = ap refused_by (h a)
decided_alike j k f g h i a (r ∷ rs) =
    ap (λ z. decided_by z (f a r) (decided j f (suc a) rs)) (h a)
    ∙ ap (λ z. decided_by (k a) z (decided j f (suc a) rs)) (i a r)
    ∙ ap (λ z. decided_by (k a) (g a r) z) (decided_alike j k f g h i (suc a) rs)

-- an instance of the graph as one of the call
abbrev in_call : TaskCall → List Plain × ℕ → Instance
in_call c z = record { call = c.path; inputs = z.0; n = z.1 }

decided_at : (x : Site) (queue : Option ℕ) (c : TaskCall) → IsTaskSite x queue c → (z : List Plain × ℕ) → decided_under x.rules x.outcomes x.place z ≡ decided_in c (in_call c z)
decided_at x queue c h z =
    ap (λ rs. decided (x.rules.job x.place z.0 z.1) (x.rules.outputs x.place z.0) 1 rs) (h.reports z.0 z.1)
    ∙ decided_alike (x.rules.job x.place z.0 z.1) (job c.called z.0 z.1) (x.rules.outputs x.place z.0) (outs c.called z.0)
    (λ a. h.jobs z.0 z.1 a) (λ a r. h.amounts z.0 a r) 1 (c.outcomes c.path z.0 z.1)

bag_at_tasks : (x : Site) (queue : Option ℕ) (c : TaskCall) → IsTaskSite x queue c → (out : ℕ)
    → flat_map (graph.emits x.rules x.outcomes x.place out) (instances x.bags (node_of x (process queue)) queue) ≡ flat_map (tasks.emits c out) (instances_of c)
bag_at_tasks x queue c h out =
    ap (λ z. flat_map (graph.emits x.rules x.outcomes x.place out) z) (instances_alike x queue c h)
    ∙ flat_alike (graph.emits x.rules x.outcomes x.place out) (tasks.emits c out) (in_call c) (λ z. ap (λ d. emitted_by d out) (decided_at x queue c h z)) (numbered same_inputs (input_lists c.channels))

fault_alike : (i : ℕ) (c : TaskCall) (z : List Plain × ℕ) (d : Option Outs) → map (graph_fault.task_fails i z.0 z.1) (fault_by d) ≡ map (in_graph i) (map (task_fails (in_call c z)) (fault_by d))
fault_alike i c z d = map_twice (task_fails (in_call c z)) (in_graph i) (graph_fault.task_fails i z.0 z.1) (λ f. refl) (fault_by d)

-- the faults of one instance
one_fault : (x : Site) (queue : Option ℕ) (c : TaskCall) → IsTaskSite x queue c → (z : List Plain × ℕ) → task_faults x.rules x.outcomes x.place z ≡ map (in_graph x.place) (faults_in c (in_call c z))
one_fault x queue c h z =
    ap (λ d. map (graph_fault.task_fails x.place z.0 z.1) (fault_by d)) (decided_at x queue c h z) ∙ fault_alike x.place c z (decided_in c (in_call c z))

faults_at_tasks : (x : Site) (queue : Option ℕ) (c : TaskCall) → IsTaskSite x queue c
    → flat_map (task_faults x.rules x.outcomes x.place) (instances x.bags (node_of x (process queue)) queue) ≡ map (in_graph x.place) (flat_map (faults_in c) (instances_of c))
faults_at_tasks x queue c h =
    ap (λ z. flat_map (task_faults x.rules x.outcomes x.place) z) (instances_alike x queue c h)
    ∙ flat_alike (task_faults x.rules x.outcomes x.place) (λ z. map (in_graph x.place) (faults_in c z)) (in_call c) (one_fault x queue c h) (numbered same_inputs (input_lists c.channels))
    ∙ flat_mapped (λ z. map (in_graph x.place) (faults_in c z)) (faults_in c) (in_graph x.place) (λ z. refl) (instances_of c)

pub tasks_at : (x : Site) (queue : Option ℕ) (c : TaskCall) → IsTaskSite x queue c → MeansTasks x queue c
tasks_at x queue c h = record {
  bags = bag_at_tasks x queue c h;
  made = instances_alike x queue c h;
  delivered = bags_alike x.bags x.ports c.channels h.ports;
  faults = faults_at_tasks x queue c h;
}
