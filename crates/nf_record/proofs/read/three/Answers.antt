use Rattle.std.proofs.Common.{◌≡◌, length, arith}
use Rattle.std.proofs.lemmas.Bool.{ltb-true, ltb-false}
use Rattle.nf_record.proofs.Missing.{not_three}
use Rattle.nf_record.proofs.read.three.Goals as goal
use Rattle.nf_record.proofs.read.three.Goals.{in_default-items-via-then-items-lt3, in_default-items-via-else-items-lt3+else-this-lt4}

pub returns-in_default-items : goal.returns-in_default-items
returns-in_default-items c =
    let apart : length c.items.result.now ≡ 3 → ⊥ = λ e. elim c.in_default-items.branch [
      | in_default-items-via-then-items-lt3 w ↦ omega (arith, e, ltb-true, ltb-false)
      | in_default-items-via-else-items-lt3+else-this-lt4 w ↦ omega (arith, e, ltb-true, ltb-false)
    ] in
    not_three c.args.value.now c.items.result.now _ c.in-List.is c.items.ensures apart
