-- What a command line is judged over: its words, and what stands at the paths that they name.
use Rattle.std.specs.Prelude.{◌≡◌, ℕ, List, Option}
use Rattle.nf_host.specs.Files.{Files}
use Rattle.nf_command.specs.declared.command.Command.{Command}
use Rattle.nf_request.specs.Held.{IsAtPath}
use Rattle.nf_request.specs.Words.{Asks, script_path}
use Rattle.nf_request.specs.Wishes.{wish_for}

pub record CommandLine : Type 0 where
  pub words : List (List ℕ)
  -- what stands at the path of its script, and at that of its parameter file
  pub script : Option (List ℕ)
  pub params : Option (List ℕ)

-- both stand at the paths of this command among the host's files, if it tells them; else each is some content
pub record AreAt (told : Option Files) (x : CommandLine) (c : Command) : Type 0 where
  pub script : IsAtPath told (script_path c) x.script
  pub params : IsAtPath told (wish_for c).params_file x.params

-- the command line of these words, over a host that tells this
pub record IsOver (words : List (List ℕ)) (told : Option Files) (x : CommandLine) : Type 0 where
  pub same : x.words ≡ words
  pub at : (c : Command) → Asks words c → AreAt told x c
