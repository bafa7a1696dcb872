-- A run on several lanes at once.
use Rattle.std.specs.Prelude.{◌≡◌, ◌≤◌, ◌<◌, ◌^◌, ◌+◌, ◌⊎◌, ℕ, Bool, List, [], ◌∷◌, map, slice_get}
use Rattle.std.specs.declared.option.Option.{Option}
use Rattle.std.specs.declared.option.Option.TheVariants.{Some}
use Rattle.nf_graph.specs.declared.node.Node.{Node}
use Rattle.nf_graph.specs.Rules.{Rules}
use Rattle.nf_host.specs.Faults.{Rose}
use Rattle.nf_host.specs.Told.{Both}
use Rattle.nf_keeper.specs.Held.{Held}
use Rattle.nf_lane.specs.Store.{Store, Grows}
use Rattle.nf_lane.specs.World.{World}
use Rattle.nf_core.specs.Opening.{LaneTold, Opening}
use Rattle.nf_serial.specs.Serial.{LaneNow, Later, lane_now}

-- ---- lanes

abbrev pub told : Option World → Option Store → LaneTold
told world store = record { world = world; store = store }

-- A worker's lane is the one at a place of the opening: its world is the same, and its store has lost nothing
pub record IsLaneAt (F : Opening) (i : ℕ) (world : Option World) (store : Option Store) : Type 0 where
  pub lane : LaneTold
  pub there : slice_get F.lanes i ≡ Some lane
  pub same : world ≡ lane.world
  pub grows : Both lane.store store Grows

-- the lanes are the first of the opening's
abbrev pub AreFirst : List LaneTold → List LaneTold → Type 0
AreFirst [] ys = Unit {0}
AreFirst (x ∷ xs) [] = ⊥
AreFirst (x ∷ xs) (y ∷ ys) = (y ≡ x) × AreFirst xs ys

-- one of the counts rose
abbrev pub AnyRose : List ℕ → List ℕ → Type 0
AnyRose (x ∷ xs) (y ∷ ys) = Rose x y ⊎ AnyRose xs ys
AnyRose [] ys = ⊥
AnyRose (x ∷ xs) [] = ⊥

-- ---- a worker

-- a worker at one time: its lane, the runs that it owes, and the failures of its lane that were entered
pub record WorkerNow : Type 0 where
  pub lane : LaneNow
  pub owed : ℕ
  pub lost : ℕ

abbrev pub worker_now : LaneNow → ℕ → ℕ → WorkerNow
worker_now lane owed lost = record { lane = lane; owed = owed; lost = lost }

-- since then its lane ran once for each run that it came to owe, and was blamed only if its count of faults rose
pub record WorksOn (before after : WorkerNow) : Type 0 where
  pub runs : after.lane.runs + before.owed ≡ before.lane.runs + after.owed
  pub few : after.owed < 2 ^ 34
  pub lane : Later before.lane after.lane
  pub more : before.lost ≤ after.lost
  pub rose : before.lost < after.lost → Rose before.lane.faults after.lane.faults

-- ---- the lanes of all workers

abbrev pub lanes_now : {X : Type 0} → (X → ℕ) → (X → ℕ) → (X → Option World) → (X → Option Store) → List X → List LaneNow
lanes_now runs faults world store xs = map (λ l. lane_now (runs l) (faults l) (world l) (store l)) xs

-- what is known of a lane at the end of its worker
pub record HasWorked (before after : LaneNow) : Type 0 where
  pub later : Later before after
  pub few : after.runs < before.runs + 2 ^ 34

-- the same of each lane, in their order
abbrev pub HaveWorked : List LaneNow → List LaneNow → Type 0
HaveWorked [] [] = Unit {0}
HaveWorked (x ∷ xs) (y ∷ ys) = HasWorked x y × HaveWorked xs ys
HaveWorked [] (y ∷ ys) = ⊥
HaveWorked (x ∷ xs) [] = ⊥

-- each lane is the one that was at its place: its world is the same, and its store has lost nothing
abbrev pub AreLater : List LaneNow → List LaneNow → Type 0
AreLater [] [] = Unit {0}
AreLater (x ∷ xs) (y ∷ ys) = Later x y × AreLater xs ys
AreLater [] (y ∷ ys) = ⊥
AreLater (x ∷ xs) [] = ⊥

-- ---- the opening

-- what is fixed at the opening of a run
abbrev pub opening_of : List Node → Rules → Bool → Option Held → ℕ → List LaneTold → Opening
opening_of graph rules resumed held faults lanes =
    record { graph = graph; rules = rules; resumed = resumed; held = held; faults = faults; lanes = lanes }
