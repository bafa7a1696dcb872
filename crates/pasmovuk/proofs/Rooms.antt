-- Lanes that are made for a call: there is room for the runs of each.
use Rattle.std.proofs.Common.{◌≡◌, ◌<◌, ◌^◌, All, List, [], ◌∷◌, ◌++◌, ap, ◌∙◌, arith}
use Rattle.std.proofs.lemmas.List.Elements.{All-push, All-same}
use Rattle.nf_shell.specs.declared.shell_lane.ShellLane.{ShellLane}
use Rattle.nf_shell.specs.ShellLane.{runs_of}
use Rattle.nf_watched.specs.declared.watched_lane.WatchedLane.{WatchedLane}
use Rattle.nf_watched.specs.WatchedLane.{inner_of}

module _ {H R : Type 0} where
  abbrev pub HasRoom : WatchedLane (ShellLane H) R → Type 0
  HasRoom lane = runs_of (inner_of lane) < 2 ^ 62

  pub room_more : (lanes more : List (WatchedLane (ShellLane H) R)) (lane : WatchedLane (ShellLane H) R) (inner : ShellLane H)
      → more ≡ lanes ++ lane ∷ [] → inner_of lane ≡ inner → runs_of inner ≡ 0 → All HasRoom lanes → All HasRoom more
  room_more lanes more lane inner is of none h =
      let fresh : runs_of (inner_of lane) ≡ 0 = ap runs_of of ∙ none in
      All-same HasRoom more (lanes ++ lane ∷ []) is (All-push HasRoom lanes lane h (omega (arith, fresh)))
