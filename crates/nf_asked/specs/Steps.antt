-- What the steps give from a tree on.
use Rattle.std.specs.Prelude.{◌≡◌, ℕ, List, codes, Result, Ok, Err}
use Rattle.nf_ast.specs.Tree.{Tree}
use Rattle.nf_ast.specs.declared.tops.Script.{Script}
use Rattle.nf_command.specs.declared.command.Command.{Command}
use Rattle.nf_ends.specs.declared.end.End.{End}
use Rattle.nf_ends.specs.declared.end.End.TheVariants as end
use Rattle.nf_request.specs.Wishes.{Params}
use Rattle.nf_request.specs.Steps.{IsOrdered, IsRefused}
use Rattle.nf_asked.specs.declared.answer.Asked.{Asked}
use Rattle.nf_asked.specs.declared.answer.Asked.TheVariants as asked
use Rattle.nf_asked.specs.declared.answer.AskedRun.{AskedRun}
use Rattle.nf_asked.specs.Answers.{KeepsWish}

-- this text is written, unless memory ran out
abbrev pub GivesText : List ℕ → Result Asked End → Type 0
GivesText text (Ok a) = a ≡ asked.Write text
GivesText text (Err e) = e ≡ end.Mem

-- that the tree keeps the rules of order is written, or it breaks one
abbrev pub GivesChecked : Tree → Result Asked End → Type 0
GivesChecked t (Ok a) = IsOrdered t × (a ≡ asked.Write (codes "accepted\n"))
GivesChecked t (Err e) = IsRefused t e

-- the run of this script by this command, with these parameters
pub record IsRunOf (c : Command) (script : Script) (ps : Params) (run : AskedRun) : Type 0 where
  pub command : run.command ≡ c
  pub is_script : run.script ≡ script
  pub params : run.params ≡ ps
  pub wish : KeepsWish run
