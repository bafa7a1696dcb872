use Rattle.nf_called.specs.declared.directives.Strategy.TheVariants as strategy
use Rattle.nf_called.proofs.Settled.{strategy_is}
use Rattle.nf_called.proofs.directives.Settings.strategy.Goals as goal

pub returns-in-Terminate : goal.returns-in-Terminate
returns-in-Terminate c = λ n m are. strategy_is n c.args.self.now m strategy.Terminate c.in-Terminate.is are

pub returns-in-Ignore : goal.returns-in-Ignore
returns-in-Ignore c = λ n m are. strategy_is n c.args.self.now m strategy.Ignore c.in-Ignore.is are

pub returns-in-Retry : goal.returns-in-Retry
returns-in-Retry c = λ n m are. strategy_is n c.args.self.now m strategy.Retry c.in-Retry.is are
