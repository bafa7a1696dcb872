-- Whole runs on one lane.
use Rattle.std.proofs.Common.{◌≡◌, ℕ, zero, suc, List, [], ◌∷◌, map, Bool, true, refl, ap, sym, subst, ◌∙◌}
use Rattle.std.specs.Prelude.{Option, None, Some, slice_get}
use Rattle.nf_graph.specs.declared.node.Node.{Node}
use Rattle.nf_graph.specs.Rules.{Rules}
use Rattle.nf_machine.specs.Event.{event_of}
use Rattle.nf_machine.specs.History.{after, is_over}
use Rattle.nf_lane.specs.Store.{Grows, Store}
use Rattle.nf_lane.specs.World.{World}
use Rattle.nf_keeper.specs.Held.{Held}
use Rattle.nf_flow.specs.Seen.{Seen, plain_of, state_of}
use Rattle.nf_core.specs.Opening.{LaneTold, IsLane}
use Rattle.nf_core.proofs.Entering.{both_refl}
use Rattle.nf_serial.specs.Serial.{IsIdle}

-- the only lane of an opening is one of its lanes
pub only_lane : (l : LaneTold) (graph : List Node) (R : Rules) (resumed : Bool) (held : Option Held) (faults : ℕ) → IsLane (record { graph = graph; rules = R; resumed = resumed; held = held; faults = faults; lanes = l ∷ [] }) l.world l.store
only_lane l graph R resumed held faults = record { place = 0; lane = l; there = refl; same = refl; grows = both_refl Grows l.store (λ s d h. h) }

-- before its first event nothing is in flight
pub idle_first : (z f : Seen) → f ≡ z → z.history ≡ [] → IsIdle f
idle_first z f same begun = subst (λ h. (after (plain_of f) (map (event_of (plain_of f)) h)).tickets ≡ []) (sym (ap (λ (y : Seen). y.history) same ∙ begun)) refl

-- a run that is over is so under another name
pub over_there : (z f : Seen) → f ≡ z → is_over (plain_of z) (state_of z) ≡ true → is_over (plain_of f) (state_of f) ≡ true
over_there z f same over = subst (λ y. is_over (plain_of y) (state_of y) ≡ true) (sym same) over

-- a lane that is one of an opening with one lane tells the world of that
only_told : (l : LaneTold) (place : ℕ) (x : LaneTold) → slice_get (l ∷ []) place ≡ Some x → x ≡ l
only_told l zero x h = let e : Some l ≡ Some x = h in cc
only_told l (suc n) x h = let e : ◌≡◌ {A = Option LaneTold} None (Some x) = h in cc

pub only_world : (l : LaneTold) (graph : List Node) (R : Rules) (resumed : Bool) (held : Option Held) (faults : ℕ) (world : Option World) (store : Option Store)
    → IsLane (record { graph = graph; rules = R; resumed = resumed; held = held; faults = faults; lanes = l ∷ [] }) world store → world ≡ l.world
only_world l graph R resumed held faults world store h = h.same ∙ ap (λ (x : LaneTold). x.world) (only_told l h.place h.lane h.there)
