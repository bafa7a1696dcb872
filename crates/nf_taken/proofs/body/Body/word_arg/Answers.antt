use Rattle.std.proofs.Common.{ap}
use Rattle.nf_around.specs.Words.{IsWord}
use Rattle.nf_meaning.specs.Closures.{word_arg}
use Rattle.nf_taken.proofs.Trees.{arg_is, closure_is}
use Rattle.nf_taken.proofs.Walks.{by_walk}
use Rattle.nf_taken.proofs.body.Body.word_arg.Goals as goal

pub returns-in-Arg : goal.returns-in-Arg
returns-in-Arg g c = λ a s here. by_walk (IsWord) _ _ a s _ (ap (word_arg) (arg_is c.args.arg c.in-Arg.arg c.in-Arg.is)) (c.word_arg.ensures a s here)

pub returns-in-Closure : goal.returns-in-Closure
returns-in-Closure g c = λ a s here. by_walk (IsWord) _ _ a s _ (ap (word_arg) (closure_is c.args.arg c.in-Closure.closure c.in-Closure.is)) (c.word_of.ensures a s)
