-- Lanes that are made for a call: there is room for the runs of each.
use Rattle.std.proofs.Common.{◌≡◌, ℕ, ◌<◌, ◌^◌, All, List, [], ◌∷◌, ◌++◌, arith}
use Rattle.std.proofs.lemmas.List.Elements.{All-push, All-same}

module _ {L : Type 0} (runs : L → ℕ) where
  abbrev pub HasRoom : L → Type 0
  HasRoom lane = runs lane < 2 ^ 62

  pub room_more : (lanes more : List L) (lane : L) → more ≡ lanes ++ lane ∷ [] → runs lane ≡ 0 → All HasRoom lanes → All HasRoom more
  room_more lanes more lane is none h = All-same HasRoom more (lanes ++ lane ∷ []) is (All-push HasRoom lanes lane h (omega (arith, none)))
