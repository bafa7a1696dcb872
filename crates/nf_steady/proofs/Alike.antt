-- Outcomes that decide the instances of a graph's meaning alike give one meaning.
use Rattle.std.proofs.Common.{◌≡◌, ℕ, zero, suc, ◌<◌, List, refl, ap, sym, ◌∙◌, arith}
use Rattle.std.specs.Prelude.{Option}
use Rattle.std.specs.List.{flat_map}
use Rattle.nf_opstream.proofs.Members.{In}
use Rattle.nf_graph.specs.Rules.{Rules, emitted_by}
use Rattle.nf_graph.specs.Node.{Kind, source, operator, process, PlainNode, node_at, port_at, IsGraph}
use Rattle.nf_graph.specs.Meaning.{Bags, Instance, Outcomes, bags, decided_under, emits, instances, node_bag, pushes}
use Rattle.nf_graph.proofs.Fix.{made_by_nodes}
use Rattle.nf_steady.proofs.Lists.{flat_on}
use Rattle.nf_steady.proofs.Reading.{ReadAlike, deliveries_alike, instances_alike}

-- both decide each instance of the meaning under the first alike
abbrev pub DecideAlike : List PlainNode → Rules → Outcomes → Outcomes → Type 0
DecideAlike g R o u =
    (i : ℕ) (q : Option ℕ) (z : Instance) → (node_at g i).kind ≡ process q
    → In z (instances (bags R o g) (node_at g i) q)
    → decided_under R o i z ≡ decided_under R u i z

module _ (g : List PlainNode) (R : Rules) (o u : Outcomes) (ok : IsGraph g) (alike : DecideAlike g R o u) where
  abbrev B : Bags
  B = bags R o g

  abbrev C : Bags
  C = bags R u g

  node_decided : (i : ℕ) (kind : Kind) (out : ℕ) → (node_at g i).kind ≡ kind
      → node_bag R o B i (node_at g i) kind out ≡ node_bag R u B i (node_at g i) kind out
  node_decided i (source items) out is = refl
  node_decided i (operator op) out is = refl
  node_decided i (process q) out is =
      flat_on (emits R o i out) (emits R u i out) (instances B (node_at g i) q)
      (λ z m. ap (λ d. emitted_by d out) (alike i q z is m))

  node_reads : (i : ℕ) (kind : Kind) (out : ℕ) → (node_at g i).kind ≡ kind → ReadAlike B C (node_at g i).ports
      → node_bag R u B i (node_at g i) kind out ≡ node_bag R u C i (node_at g i) kind out
  node_reads i (source items) out is read = refl
  node_reads i (operator op) out is read =
      ap (λ ds. op.items (pushes R i ds) out) (deliveries_alike B C (node_at g i) read)
  node_reads i (process q) out is read =
      ap (flat_map (emits R u i out))
      (instances_alike B C (node_at g i) q read (λ z e. (ok.queues i z (is ∙ ap process e)).within))

  below : (n i : ℕ) → i < n → (out : ℕ) → B i out ≡ C i out
  below zero i l out = absurd (omega (arith, l))
  below (suc n) i l out =
      let nd : PlainNode = node_at g i in
      (made_by_nodes g R o ok).at i out
      ∙ node_decided i nd.kind out refl
      ∙ node_reads i nd.kind out refl
      (λ j w. below n (port_at nd j).from (let e = ok.earlier i j w in omega (arith, e, l)) (port_at nd j).out)
      ∙ sym ((made_by_nodes g R u ok).at i out)

  pub same_bags : B ≡ C
  same_bags = λ k. λ i out. below (suc i) i (omega arith) out k
