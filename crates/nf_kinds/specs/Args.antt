-- Arguments.
use Rattle.std.specs.Prelude.{Bool, List}
use Rattle.std.specs.List.{list_any}
use Rattle.nf_kinds.specs.declared.args.Given.{Given}

abbrev pub any_unknown : List Given → Bool
any_unknown gs = list_any (λ g. g.shape.kinds.unknown) gs

abbrev pub any_queue : List Given → Bool
any_queue gs = list_any (λ g. g.shape.kinds.queue) gs
