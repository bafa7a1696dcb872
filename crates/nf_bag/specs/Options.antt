-- The options that each operator allows.
use Rattle.std.specs.Prelude.{◌≡◌, IfSome, IsSome}
use Rattle.nf_bag.specs.declared.rows.Row.{Row}
use Rattle.nf_bag.specs.declared.rows.Row.TheVariants.{Combine, IfEmpty}
use Rattle.nf_bag.specs.declared.options.OpOpts.{OpOpts}

-- `combine` allows `by: 0` or no `by`, and `ifEmpty` needs its value; every other operator allows all options
abbrev pub Allows : Row → OpOpts → Type 0
Allows Combine o = IfSome o.by (λ n. n ≡ 0)
Allows IfEmpty o = IsSome o.start
Allows _ o = Unit {0}
