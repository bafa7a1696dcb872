use Rattle.std.proofs.Common.{◌≡◌, drop}
use Rattle.nf_placed.specs.Scope.{Env}
use Rattle.nf_eval.specs.Memory.{env_of}
use Rattle.nf_names_bound.specs.Bound.{first_unknown}
use Rattle.nf_names_bound.proofs.bound.first_unknown.Given as goal

abbrev pub invariant-loop-one : goal.invariant-loop-one
invariant-loop-one g l =
    let env : Env = env_of l.env (g.N.Natives.titles l.natives) (g.N.Natives.answer l.natives) in
    first_unknown env l.uses ≡ first_unknown env (drop l.one-index l.uses)
