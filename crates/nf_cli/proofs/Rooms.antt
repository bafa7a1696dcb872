-- Lanes that are made for a call: there is room for the runs of each.
use Rattle.std.proofs.Common.{◌≡◌, ◌<◌, ◌^◌, All, List, [], ◌∷◌, ◌++◌, arith}
use Rattle.std.proofs.lemmas.List.Elements.{All-push, All-same}
use Rattle.nf_shell.specs.declared.shell_lane.ShellLane.{ShellLane}
use Rattle.nf_shell.specs.ShellLane.{runs_of}

module _ {H : Type 0} where
  abbrev pub HasRoom : ShellLane H → Type 0
  HasRoom lane = runs_of lane < 2 ^ 62

  pub room_more : (lanes more : List (ShellLane H)) (lane : ShellLane H) → more ≡ lanes ++ lane ∷ [] → runs_of lane ≡ 0 → All HasRoom lanes → All HasRoom more
  room_more lanes more lane is none h = All-same HasRoom more (lanes ++ lane ∷ []) is (All-push HasRoom lanes lane h (omega (arith, none)))
