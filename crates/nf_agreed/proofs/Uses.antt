-- How operators use closures and arguments.
use Rattle.std.proofs.Common.{◌≡◌, Bool, true, false, refl, sym, true≢false}
use Rattle.nf_optable.specs.declared.rows.Args.{Args}
use Rattle.nf_optable.specs.declared.rows.Args.TheVariants as args
use Rattle.nf_optable.specs.declared.rows.ClosureUse.{ClosureUse}
use Rattle.nf_optable.specs.declared.rows.ClosureUse.TheVariants as closure

-- the closure has no labels, and is no name
unfoldable pub binds_none : ClosureUse → Bool
binds_none closure.Labels = false
binds_none closure.Name = false
binds_none k = true

unfoldable pub is_no_args : Args → Bool
is_no_args args.Nothing = true
is_no_args w = false

pub no_args : (w : Args) → is_no_args w ≡ true → w ≡ args.Nothing
unfolding is_no_args
no_args args.Nothing h = refl
no_args w h = absurd (true≢false (sym h))
