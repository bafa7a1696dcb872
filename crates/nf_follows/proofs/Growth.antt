-- Plans to which nodes are added behind.
use Rattle.std.proofs.Common.{◌≡◌, ◌<◌, ℕ, List, [], ◌∷◌, ◌++◌, map, get_or, length, ap, sym, ◌∙◌, subst, arith}
use Rattle.std.proofs.lemmas.List.{append-nil, append_assoc, get_or_append_left, length-append, length-map, map-append}
use Rattle.nf_graph.specs.declared.node.Node.{Node}
use Rattle.nf_graph.specs.Rules.{Rules}
use Rattle.nf_graph.specs.Node.{PlainNode}
use Rattle.nf_graph.specs.Meaning.{Outcomes, bags}
use Rattle.nf_graph.specs.WellMade.{IsValueSource, no_source, node_in, plain_node, plain_graph}
use Rattle.nf_graph.specs.declared.port.Port.{Port}
use Rattle.nf_plan.specs.NodeBody.{NodeBody}
use Rattle.nf_plan.specs.NodeBody.TheVariants as body
use Rattle.nf_plan.specs.NodeInfo.{NodeInfo}
use Rattle.nf_plan.specs.Bodies.{answer_of, body_in, job_of, outputs_of}
use Rattle.nf_plan.specs.declared.builder.PlanBuilder.{PlanBuilder}
use Rattle.nf_meaning.specs.Stands.{PortOutput, PortThing, known, read, results, StandsFor, OutputsStand, ThingStands}
use Rattle.nf_meaning.specs.Things.{Thing, a_value, a_channel, outputs, Channel, Output}
use Rattle.nf_plan.specs.Plans.{Adds, graph_of, name_in}
use Rattle.nf_plan.specs.Runs.{Run, RunsNodes, bags_of}
use Rattle.nf_follows.specs.Extends.{Extends}
use Rattle.nf_follows.specs.Things.{PortReads, OutputsRead, ThingReads}

abbrev pub Later : Type 0
Later = (g h : List PlainNode) (R : Rules) (o : Outcomes) (i : ℕ) → i < length g → bags R o (g ++ h) i ≡ bags R o g i

pub extends_same : (b : PlanBuilder) → Extends b b
extends_same b = record { added = []; known = []; nodes = sym (append-nil b.nodes.items); infos = sym (append-nil b.infos.items) }

pub extends_again : (one two three : PlanBuilder) → Extends one two → Extends two three → Extends one three
extends_again one two three f g = record {
  added = f.added ++ g.added;
  known = f.known ++ g.known;
  nodes = g.nodes ∙ ap (λ (ns : List Node). ns ++ g.added) f.nodes ∙ append_assoc one.nodes.items f.added g.added;
  infos = g.infos ∙ ap (λ (xs : List NodeInfo). xs ++ g.known) f.infos ∙ append_assoc one.infos.items f.known g.known;
}

-- what is read of the first infos
read_first : {A : Type 0} (f : NodeInfo → A) (d : A) (xs ys zs : List NodeInfo) (i : ℕ) → zs ≡ xs ++ ys → i < length xs → get_or (map f zs) i d ≡ get_or (map f xs) i d
read_first f d xs ys zs i e l =
    ap (λ ws. get_or ws i d) (ap (map f) e ∙ map-append f xs ys) ∙ get_or_append_left (map f xs) (map f ys) d i (omega (arith, l, length-map xs f))

pub runs_first : (x : Run) (old new : PlanBuilder) → Extends old new → RunsNodes x new.infos.items → RunsNodes x old.infos.items
runs_first x old new e runs = record {
  answers = λ i v l. runs.answers i v (further i l) ∙ ap (λ (b : NodeBody). answer_of x.program b v) (bodies i l);
  jobs = λ i inputs n attempt l. runs.jobs i inputs n attempt (further i l) ∙ ap (λ (b : NodeBody). job_of x.program b inputs n attempt) (bodies i l);
  amounts = λ i inputs attempt r l. runs.amounts i inputs attempt r (further i l) ∙ ap (λ (b : NodeBody). outputs_of x.program b inputs attempt r) (bodies i l);
  reports = λ i inputs n l. runs.reports i inputs n (further i l) ∙ ap (λ p. x.by_path p inputs n) (names i l);
}
  where
    further : (i : ℕ) → i < length old.infos.items → i < length new.infos.items
    further i l = omega (arith, l, length-append old.infos.items e.known, ap (λ (xs : List NodeInfo). length xs) e.infos)

    bodies : (i : ℕ) → i < length old.infos.items → body_in new.infos.items i ≡ body_in old.infos.items i
    bodies i l = read_first (λ (z : NodeInfo). z.body) body.Source old.infos.items e.known new.infos.items i e.infos l

    names : (i : ℕ) → i < length old.infos.items → name_in new.infos.items i ≡ name_in old.infos.items i
    names i l = read_first (λ (z : NodeInfo). z.name) [] old.infos.items e.known new.infos.items i e.infos l

pub bags_first : Later → (x : Run) (old new : PlanBuilder) → Extends old new → (i : ℕ) → i < length old.nodes.items → bags_of x new i ≡ bags_of x old i
bags_first later x old new e i l =
    ap (λ (g : List PlainNode). bags x.rules x.outcomes g i) (ap plain_graph e.nodes ∙ map-append plain_node old.nodes.items e.added)
    ∙ later (graph_of old) (map plain_node e.added) x.rules x.outcomes i (omega (arith, l, length-map old.nodes.items plain_node))

pub extends_one : (old new : PlanBuilder) (node : Node) (info : NodeInfo) → Adds old new node info → Extends old new
extends_one old new node info adds = record { added = node ∷ []; known = info ∷ []; nodes = adds.nodes; infos = adds.infos }

-- ---- things

port_reads : (old new : PlanBuilder) → Extends old new → (p : Port) → PortReads old p → PortReads new p
port_reads old new e p r =
    let same : node_in new.nodes.items p.from ≡ node_in old.nodes.items p.from =
    ap (λ (ns : List Node). node_in ns p.from) e.nodes ∙ get_or_append_left old.nodes.items e.added no_source p.from r.earlier in
    record {
      earlier = omega (arith, r.earlier, length-append old.nodes.items e.added, ap (λ (ns : List Node). length ns) e.nodes);
      out = subst (λ (m : Node). p.out < m.outs) (sym same) r.out;
      value = λ v. subst (λ (m : Node). IsValueSource m m.kind) (sym same) (r.value v);
    }

outputs_read : (old new : PlanBuilder) → Extends old new → (os : List PortOutput) → OutputsRead old os → OutputsRead new os
outputs_read old new e [] r = tt
outputs_read old new e (o ∷ os) r = (port_reads old new e o.port r.0, outputs_read old new e os r.1)

pub thing_reads : (old new : PlanBuilder) → Extends old new → (t : PortThing) → ThingReads old t → ThingReads new t
thing_reads old new e (known v) r = tt
thing_reads old new e (read port) r = port_reads old new e port r
thing_reads old new e (results os) r = outputs_read old new e os r

module _ (later : Later) (x : Run) (old new : PlanBuilder) (e : Extends old new) where
  port_stands : (p : Port) (c : Channel) → PortReads old p → StandsFor (bags_of x old) p c → StandsFor (bags_of x new) p c
  port_stands p c r h = record { kind = h.kind; bag = ap (λ f. f p.out) (bags_first later x old new e p.from r.earlier) ∙ h.bag }

  outputs_stand : (os : List PortOutput) (qs : List Output) → OutputsRead old os → OutputsStand (bags_of x old) os qs → OutputsStand (bags_of x new) os qs
  outputs_stand [] [] r h = tt
  outputs_stand (o ∷ os) (q ∷ qs) r h =
      (record { label = h.0.label; channel = port_stands o.port q.channel r.0 h.0.channel }, outputs_stand os qs r.1 h.1)
  outputs_stand [] (q ∷ qs) r h = absurd h
  outputs_stand (o ∷ os) [] r h = absurd h

  pub thing_stands : (t : PortThing) (y : Thing) → ThingReads old t → ThingStands (bags_of x old) t y → ThingStands (bags_of x new) t y
  thing_stands (known v) (a_value w) r h = h
  thing_stands (read port) (a_channel c) r h = port_stands port c r h
  thing_stands (results os) (outputs qs) r h = outputs_stand os qs r h
  thing_stands (known v) (a_channel c) r h = absurd h
  thing_stands (known v) (outputs qs) r h = absurd h
  thing_stands (read port) (a_value w) r h = absurd h
  thing_stands (read port) (outputs qs) r h = absurd h
  thing_stands (results os) (a_value w) r h = absurd h
  thing_stands (results os) (a_channel c) r h = absurd h
