-- What a run adds to the damages, and that it starts no child then.
use Rattle.std.proofs.Common.{List, [], ◌∷◌, length, Option, None, Some, ap, ◌∙◌, arith, length-append}
use Rattle.std.specs.Prelude.{IfSome}
use Rattle.nf_host.specs.Files.{Files}
use Rattle.nf_shell.specs.Damages.{HasOneMore}
use Rattle.nf_shell.specs.declared.damage.Damage.{Damage}

-- no list has one more than itself
no_more : (ds : List Damage) → HasOneMore ds ds → ⊥
no_more ds h = let n = ap length h.1 ∙ length-append ds (h.0 ∷ []) in omega (arith, n)

pub none_added : (told : Option Files) (ds : List Damage) (P : Type 0) → IfSome told (λ _. HasOneMore ds ds → P)
none_added None ds P = tt
none_added (Some f) ds P = λ h. absurd (no_more ds h)

pub one_added : (told : Option Files) (Q P : Type 0) → IfSome told (λ _. P) → IfSome told (λ _. Q → P)
one_added None Q P h = tt
one_added (Some f) Q P h = λ q. h
