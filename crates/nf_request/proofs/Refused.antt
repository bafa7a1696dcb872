-- The ends that refusals are.
use Rattle.std.proofs.Common.{◌≡◌, ℕ, List, Some, Result, Ok, Err, IfErr, IsErrAnd, sym, subst}
use Rattle.nf_host.specs.Faults.{OnFailed}
use Rattle.nf_host.specs.declared.host.HostRefusal.{HostRefusal}
use Rattle.nf_host.specs.declared.host.HostRefusal.TheVariants as host
use Rattle.nf_ast.specs.Tree.{Tree}
use Rattle.nf_command.specs.Commands.{command_of, Reads}
use Rattle.nf_command.specs.declared.command.Command.{Command}
use Rattle.nf_command.specs.declared.fault.UsageFault.{UsageFault}
use Rattle.nf_command.specs.declared.fault.UsageFault.TheVariants as usage
use Rattle.nf_params.specs.Params.{params_in, Gives}
use Rattle.nf_params.specs.declared.fault.ParamsFault.{ParamsFault}
use Rattle.nf_params.specs.declared.fault.ParamsFault.TheVariants as params
use Rattle.nf_order.specs.Fault.{IfRule}
use Rattle.nf_order.specs.Accepted.{BreaksFirst, first_broken}
use Rattle.nf_order.specs.declared.fault.OrderFault.{OrderFault}
use Rattle.nf_order.specs.declared.fault.OrderFault.TheVariants as order
use Rattle.nf_ends.specs.declared.end.End.{End}
use Rattle.nf_ends.specs.declared.end.End.TheVariants as end
use Rattle.nf_ends.specs.Causes.{end_of_usage, end_of_host, end_of_params}
use Rattle.nf_request.specs.Held.{OnHostFault}
use Rattle.nf_request.specs.Words.{IsMisuse}
use Rattle.nf_request.specs.Wishes.{Params}
use Rattle.nf_request.specs.Steps.{GivesOfBytes, IsRefused, end_of_order}

pub misused : (words : List (List ℕ)) (f : UsageFault) → Reads {A = Command} (command_of words) (Err f) → IsMisuse words (end_of_usage f)
misused words usage.NoCommand h = h
misused words (usage.UnknownWord at) h = h
misused words (usage.NoValue at) h = h
misused words (usage.BadNumber at) h = h
misused words (usage.Twice at) h = h
misused words usage.Mem h = tt

pub host_blamed : (T : Type 0) (f : HostRefusal) (P : Type 0) → OnFailed {T = T} (Err f) P → OnHostFault (end_of_host f) P
host_blamed T host.Failed P h = h
host_blamed T host.Mem P h = tt

pub params_refused : (bytes : List ℕ) (f : ParamsFault) → Gives {A = Params} {B = Params} (λ ps. ps) (params_in bytes) (Err f) → GivesOfBytes bytes (Err (end_of_params f))
params_refused bytes (params.BadParams pointer) h = h
params_refused bytes params.Mem h = tt

pub disordered : (t : Tree) (f : OrderFault) → IfRule f (BreaksFirst t) → IfRule f (λ b. first_broken t ≡ Some b) → IsRefused t (end_of_order f)
disordered t (order.Rule rule place) h k = record { breaks = h; first = k }
disordered t order.Mem h k = tt

-- what a `?` hands on
pub err_is : {T : Type 0} (r : Result T End) (e : End) → IsErrAnd r (λ x. x ≡ e) → r ≡ Err e
err_is (Ok x) e h = absurd h
err_is (Err x) e h = λ i. Err (h i)

-- want of memory alone blames no host
pub only_memory : {T : Type 0} (r : Result T End) (P : Type 0) → IfErr r (λ e. e ≡ end.Mem) → IfErr r (λ e. OnHostFault e P)
only_memory (Ok x) P h = tt
only_memory (Err e) P h = subst (λ x. OnHostFault x P) (sym h) tt
