-- How a command line is answered.
use Rattle.std.specs.Prelude.{◌≡◌, ℕ, List, codes, Option, Result, Ok, Err}
use Rattle.nf_ast.specs.Tree.{Tree}
use Rattle.nf_ast.specs.Tops.{view_script}
use Rattle.nf_host.specs.Files.{Files}
use Rattle.nf_printer.specs.Tops.{canonical}
use Rattle.nf_command.specs.declared.command.Command.{Command}
use Rattle.nf_ends.specs.declared.end.End.{End}
use Rattle.nf_ends.specs.declared.end.End.TheVariants as end
use Rattle.nf_request.specs.Held.{IsAtPath}
use Rattle.nf_request.specs.Words.{Asks, script_path}
use Rattle.nf_request.specs.Wishes.{wish_for}
use Rattle.nf_asked.specs.declared.answer.Asked.{Asked}
use Rattle.nf_asked.specs.declared.answer.Asked.TheVariants as asked
use Rattle.nf_asked.specs.declared.answer.AskedRun.{AskedRun}
use Rattle.nf_asked.specs.CommandLine.{CommandLine}
use Rattle.nf_asked.specs.Request.{Request, refused, formats, accepts, runs, folder_of, RunComes, TreeComes, Comes}

-- this is asked for, and nothing else
pub record IsOnly (comes : Request → Type 0) (r : Request) : Type 0 where
  pub is : comes r
  pub only : (other : Request) → comes other → other ≡ r

-- the text that is written for a request
abbrev pub IsTextFor : List ℕ → Request → Type 0
IsTextFor text (formats t) = text ≡ canonical t
IsTextFor text accepts = text ≡ codes "accepted\n"
IsTextFor text _ = ⊥

-- a text is written for the one request
pub record Writes (comes : Request → Type 0) (text : List ℕ) : Type 0 where
  pub request : Request
  pub is : IsOnly comes request
  pub text_is : IsTextFor text request

-- the folders of a run, and whether it resumes, are those of its command
pub record KeepsWish (run : AskedRun) : Type 0 where
  pub folder : run.folder ≡ folder_of run.command
  pub work : run.work ≡ (wish_for run.command).work
  pub resume : run.resume ≡ (wish_for run.command).resume

abbrev pub request_of : AskedRun → Request
request_of run = runs run.command (view_script run.script) run.params

-- the one request is that this script is run
pub record Runs (comes : Request → Type 0) (run : AskedRun) : Type 0 where
  pub is : IsOnly comes (request_of run)
  pub wish : KeepsWish run

-- the one request is refused with this end; or the host failed, or memory ran out
abbrev pub Refuses : (Request → Type 0) → End → Type 0
Refuses comes end.HostFault = Unit {0}
Refuses comes end.Mem = Unit {0}
Refuses comes e = IsOnly comes (refused e)

-- what is answered where requests come to this
abbrev pub Answers : (Request → Type 0) → Result Asked End → Type 0
Answers comes (Ok (asked.Write text)) = Writes comes text
Answers comes (Ok (asked.Run run)) = Runs comes run
Answers comes (Err e) = Refuses comes e

-- ---- the same of a part of the work, over what stands at the paths of its files

-- of a command that runs its tree
abbrev pub AnswersRun : Option Files → Command → Tree → Result Asked End → Type 0
AnswersRun told c t r =
    (held : Option (List ℕ)) × IsAtPath told (wish_for c).params_file held × Answers (RunComes c t held) r

-- of a command with a tree
abbrev pub AnswersTree : Option Files → Command → Tree → Result Asked End → Type 0
AnswersTree told c t r =
    (held : Option (List ℕ)) × IsAtPath told (wish_for c).params_file held × Answers (TreeComes c t held) r

abbrev pub line_of : List (List ℕ) → Option (List ℕ) → Option (List ℕ) → CommandLine
line_of words script params = record { words = words; script = script; params = params }

-- of a command, whatever words ask for it
pub record AnswersFor (told : Option Files) (c : Command) (r : Result Asked End) : Type 0 where
  pub script : Option (List ℕ)
  pub params : Option (List ℕ)
  pub script_at : IsAtPath told (script_path c) script
  pub params_at : IsAtPath told (wish_for c).params_file params
  pub answers : (words : List (List ℕ)) → Asks words c → Answers (Comes (line_of words script params)) r
