-- A scope of ports stands for the same things where the bags that it reads stay.
use Rattle.std.proofs.Common.{◌≡◌, ◌<◌, ℕ, List, [], ◌∷◌, ap, ◌∙◌}
use Rattle.nf_graph.specs.declared.port.Port.{Port}
use Rattle.nf_graph.specs.Meaning.{Bags}
use Rattle.nf_meaning.specs.Things.{Thing, a_value, a_channel, outputs, Channel, Output}
use Rattle.nf_meaning.specs.Stands.{PortOutput, PortThing, known, read, results, StandsFor, OutputStands, OutputsStand, ThingStands, ScopeStands, OutputsBelow, ThingBelow, ScopeBelow}

-- the bags of the first n nodes are the same
abbrev pub SameFirst : ℕ → Bags → Bags → Type 0
SameFirst n b c = (i : ℕ) → i < n → c i ≡ b i

port_kept : (n : ℕ) (b c : Bags) (port : Port) (x : Channel) → SameFirst n b c → port.from < n → StandsFor b port x → StandsFor c port x
port_kept n b c port x same below stands = record { kind = stands.kind; bag = ap (λ f. f port.out) (same port.from below) ∙ stands.bag }

output_kept : (n : ℕ) (b c : Bags) (o : PortOutput) (q : Output) → SameFirst n b c → o.port.from < n → OutputStands b o q → OutputStands c o q
output_kept n b c o q same below stands = record { label = stands.label; channel = port_kept n b c o.port q.channel same below stands.channel }

outputs_kept : (n : ℕ) (b c : Bags) (os : List PortOutput) (qs : List Output) → SameFirst n b c → OutputsBelow n os → OutputsStand b os qs → OutputsStand c os qs
outputs_kept n b c [] [] same below stands = tt
outputs_kept n b c (o ∷ os) (q ∷ qs) same below stands = (output_kept n b c o q same below.0 stands.0, outputs_kept n b c os qs same below.1 stands.1)
outputs_kept n b c [] (q ∷ qs) same below stands = stands
outputs_kept n b c (o ∷ os) [] same below stands = stands

thing_kept : (n : ℕ) (b c : Bags) (x : PortThing) (y : Thing) → SameFirst n b c → ThingBelow n x → ThingStands b x y → ThingStands c x y
thing_kept n b c (known v) (a_value w) same below stands = stands
thing_kept n b c (read port) (a_channel x) same below stands = port_kept n b c port x same below stands
thing_kept n b c (results os) (outputs qs) same below stands = outputs_kept n b c os qs same below stands
thing_kept n b c (known v) (a_channel x) same below stands = stands
thing_kept n b c (known v) (outputs qs) same below stands = stands
thing_kept n b c (read port) (a_value w) same below stands = stands
thing_kept n b c (read port) (outputs qs) same below stands = stands
thing_kept n b c (results os) (a_value w) same below stands = stands
thing_kept n b c (results os) (a_channel x) same below stands = stands

pub scope_kept : (n : ℕ) (b c : Bags) (xs : List (List ℕ × PortThing)) (ys : List (List ℕ × Thing)) → SameFirst n b c → ScopeBelow n xs → ScopeStands b xs ys → ScopeStands c xs ys
scope_kept n b c [] [] same below stands = tt
scope_kept n b c (x ∷ xs) (y ∷ ys) same below stands =
    ((stands.0.0, thing_kept n b c x.1 y.1 same below.0 stands.0.1), scope_kept n b c xs ys same below.1 stands.1)
scope_kept n b c [] (y ∷ ys) same below stands = stands
scope_kept n b c (x ∷ xs) [] same below stands = stands
