use Rattle.std.proofs.Common.{ap, sym}
use Rattle.nf_meaning.specs.Taken.{args_ports, with_args}
use Rattle.nf_taken.proofs.wanted.plain.Goals as goal

pub returns-in-Channel : goal.returns-in-Channel
returns-in-Channel c = record { walk = λ x. ap (λ k. with_args k x) c.in-Channel.is; ports = sym (ap (λ k. args_ports k 1) c.in-Channel.is); fits = λ r. tt }

pub returns-in-Channels : goal.returns-in-Channels
returns-in-Channels c = record { walk = λ x. ap (λ k. with_args k x) c.in-Channels.is; ports = sym (ap (λ k. args_ports k 1) c.in-Channels.is); fits = λ r. tt }

pub returns-in-Value : goal.returns-in-Value
returns-in-Value c = record { walk = λ x. ap (λ k. with_args k x) c.in-Value.is; ports = sym (ap (λ k. args_ports k 1) c.in-Value.is); fits = λ r. tt }

pub returns-in-MaybeValue : goal.returns-in-MaybeValue
returns-in-MaybeValue c = record { walk = λ x. ap (λ k. with_args k x) c.in-MaybeValue.is; ports = sym (ap (λ k. args_ports k 1) c.in-MaybeValue.is); fits = λ r. tt }

pub returns-in-Values : goal.returns-in-Values
returns-in-Values c = record { walk = λ x. ap (λ k. with_args k x) c.in-Values.is; ports = sym (ap (λ k. args_ports k 1) c.in-Values.is); fits = λ r. tt }

pub returns-in-Nothing : goal.returns-in-Nothing
returns-in-Nothing c = record { walk = λ x. ap (λ k. with_args k x) c.in-Nothing.is; ports = sym (ap (λ k. args_ports k 1) c.in-Nothing.is); fits = λ r. tt }
