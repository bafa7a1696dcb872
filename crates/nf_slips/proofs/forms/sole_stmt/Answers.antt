use Rattle.std.proofs.Common.{◌≡◌, length, sym, arith}
use Rattle.std.proofs.lemmas.Bool.{ltb-true, ltb-false}
use Rattle.nf_slips.proofs.Bodies.{sole_many}
use Rattle.nf_slips.proofs.forms.sole_stmt.Goals as goal
use Rattle.nf_slips.proofs.forms.sole_stmt.Goals.{in_default-via-then-stmts-lt1, in_default-via-else-stmts-lt1+else-stmts-lt2}

pub returns-in_default : goal.returns-in_default
returns-in_default c =
    let apart : length c.args.stmts.now ≡ 1 → ⊥ = λ e. elim c.in_default.branch [
      | in_default-via-then-stmts-lt1 w ↦ omega (arith, e, ltb-true, ltb-false)
      | in_default-via-else-stmts-lt1+else-stmts-lt2 w ↦ omega (arith, e, ltb-true, ltb-false)
    ] in
    sym (sole_many c.args.stmts.now apart)
