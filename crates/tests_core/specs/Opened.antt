-- How a run of the small graph begins.
use Rattle.std.specs.Prelude.{◌≡◌, ℕ, Bool, [], ◌∷◌}
use Rattle.std.specs.declared.option.Option.{Option}
use Rattle.nf_lane.specs.World.{World}
use Rattle.nf_lane.specs.Store.{Store}
use Rattle.nf_keeper.specs.Held.{Held}
use Rattle.nf_flow.specs.Seen.{Seen}
use Rattle.nf_core.specs.Opening.{Opening, LaneTold}
use Rattle.tests_core.specs.Tried.{tried_nodes, tried_rules}

-- one lane alone, which told this
abbrev pub opening_of : Bool → Option Held → Option World → Option Store → Opening
opening_of resumed held world store = record {
  graph = tried_nodes;
  rules = tried_rules;
  resumed = resumed;
  held = held;
  faults = 0;
  lanes = record { world = world; store = store } ∷ [];
}

-- the run is one of the small graph
pub record IsTried (F : Opening) : Type 0 where
  pub graph : F.graph ≡ tried_nodes
  pub rules : F.rules ≡ tried_rules

-- and begins so, with this keeper
pub record Opens (F : Opening) (flow : Seen) (resumed : Bool) (held : Option Held) (faults : ℕ) : Type 0 where
  pub tried : IsTried F
  pub history : flow.history ≡ []
  pub graph : flow.graph ≡ F.graph
  pub resumed_is : resumed ≡ F.resumed
  pub held_is : held ≡ F.held
  pub faults_are : faults ≡ F.faults
