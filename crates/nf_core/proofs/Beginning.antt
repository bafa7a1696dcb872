-- A run before its first event.
use Rattle.std.proofs.Common.{◌≡◌, ℕ, List, [], Bool, refl, arith}
use Rattle.std.specs.Prelude.{Option}
use Rattle.nf_graph.specs.declared.node.Node.{Node}
use Rattle.nf_graph.specs.Rules.{IsRules}
use Rattle.nf_stored.specs.Attempts.{TellsApart}
use Rattle.nf_keeper.specs.Held.{Held}
use Rattle.nf_flow.specs.Seen.{Seen}
use Rattle.nf_core.specs.Opening.{Opening}
use Rattle.nf_core.specs.Told.{Ending}
use Rattle.nf_core.specs.Records.{Agrees}
use Rattle.nf_core.specs.Run.{IsRun}
use Rattle.nf_core.proofs.Entering.{both_refl}

begun_at : {F : Opening} {D S : Type 0} (done : D → Ending → Type 0) (seen : S → Ending → Type 0) (graph : List Node) (room : ℕ) → graph ≡ F.graph → IsRules F.rules → TellsApart F.rules
    → IsRun F done seen (record { flow = record { graph = graph; history = []; room = room }; dones = []; seens = []; resumed = F.resumed; held = F.held; faults = F.faults })
begun_at {F} done seen graph room same rules apart = record {
  graph = same;
  resumed = refl;
  rules = rules;
  apart = apart;
  lawful = tt;
  finished = tt;
  reused = tt;
  warranted = tt;
  records = both_refl (λ m n. Agrees m [] n) F.held (λ m q. refl);
  sound = λ w steady s. s;
  later = omega arith;
  blamed = λ t c. absurd (let l = c.1 in omega (arith, l));
}

pub begun : {F : Opening} {D S : Type 0} (done : D → Ending → Type 0) (seen : S → Ending → Type 0) (flow : Seen) (resume : Bool) (held : Option Held) (faults : ℕ)
    → flow.history ≡ [] → flow.graph ≡ F.graph → resume ≡ F.resumed → held ≡ F.held → faults ≡ F.faults → IsRules F.rules → TellsApart F.rules
    → IsRun F done seen (record { flow = flow; dones = []; seens = []; resumed = resume; held = held; faults = faults })
begun {F} done seen flow resume held faults none same resumed has count rules apart =
    rw (none, resumed, has, count) (begun_at done seen flow.graph flow.room same rules apart)

pub begun_with : {F : Opening} {D S : Type 0} (done : D → Ending → Type 0) (seen : S → Ending → Type 0) (flow : Seen) (dones : List D) (seens : List S) (resume : Bool) (held : Option Held) (faults : ℕ)
    → dones ≡ [] → seens ≡ [] → flow.history ≡ [] → flow.graph ≡ F.graph → resume ≡ F.resumed → held ≡ F.held → faults ≡ F.faults → IsRules F.rules → TellsApart F.rules
    → IsRun F done seen (record { flow = flow; dones = dones; seens = seens; resumed = resume; held = held; faults = faults })
begun_with {F} done seen flow dones seens resume held faults no_dones no_seens none same resumed has count rules apart =
    rw (no_dones, no_seens) (begun {F = F} done seen flow resume held faults none same resumed has count rules apart)
