-- What a call asks for, or how it is refused.
use Rattle.std.specs.Prelude.{◌≡◌, ◌⊎◌, ℕ, max, min}
use Rattle.std.specs.declared.option.Option.{Option}
use Rattle.nf_ast.specs.Tops.{view_script}
use Rattle.nf_ast.specs.Tree.{Tree}
use Rattle.nf_host.specs.Files.{Files}
use Rattle.nf_host.specs.Told.{Both}
use Rattle.nf_shell.specs.Places.{KeepsOrStores}
use Rattle.nf_sources.specs.Sources.{scratch_in}
use Rattle.nf_tasks.specs.Memory.{Program}
use Rattle.nf_meaning.specs.CallPaths.{NamesArePlain}
use Rattle.nf_meaning.specs.Script.{definitions_of}
use Rattle.nf_command.specs.declared.command.Command.{Command}
use Rattle.nf_command.specs.declared.command.Command.TheVariants.{Gen}
use Rattle.nf_ends.specs.declared.end.End.{End}
use Rattle.nf_ends.specs.declared.end.End.TheVariants as end
use Rattle.nf_request.specs.Wishes.{Params, wish_for}
use Rattle.nf_asked.specs.CommandLine.{CommandLine}
use Rattle.nf_asked.specs.Request.{refused, runs, Comes, folder_of}
use Rattle.nf_asked.specs.Answers.{IsOnly, KeepsWish, Writes}
use Rattle.nf_asked.specs.declared.answer.Asked.{Asked}
use Rattle.nf_asked.specs.declared.answer.Asked.TheVariants as asked
use Rattle.nf_carried.specs.declared.work.Shows.{Shows}
use Rattle.nf_carried.specs.declared.work.Shows.TheVariants.{Generated, Report}
use Rattle.nf_carried.specs.declared.work.Way.{Way}
use Rattle.nf_carried.specs.declared.work.Work.{Work}
use Rattle.nf_carried.specs.declared.work.Work.TheVariants as work
use Rattle.nf_cli.specs.Scripts.{Script}
use Rattle.nf_cli.specs.Planned.{IsPlanFor, RefusesScript, script_of}

-- what a call is made with: the host's files, if it tells them, and the functions that the program adds; its command line
-- with the files that this names; and how many lanes it works with
pub record Call : Type 0 where
  pub files : Option Files
  pub program : Program
  pub line : CommandLine
  pub queue : ℕ

-- as many as tasks may run at once
abbrev pub lanes_for : Command → ℕ
lanes_for c = max 1 (min (wish_for c).queue 16)

-- a run is shown by its report, and that of a script that was made by a line
abbrev pub shows_for : Command → Shows
shows_for (Gen n start) = Generated n start
shows_for _ = Report

-- how a command runs its script
abbrev pub way_for : Command → Way
way_for c = record {
  resume = (wish_for c).resume;
  folder = (wish_for c).work;
  trace = (wish_for c).trace;
  shows = shows_for c;
}

-- it asks for the run of this script by this command, and for nothing else
pub record AsksFor (x : Call) : Type 0 where
  pub command : Command
  pub tree : Tree
  pub params : Params
  pub only : IsOnly (Comes x.line) (runs command tree params)

abbrev pub script_in : (x : Call) → AsksFor x → Script
script_in x a = record {
  tree = a.tree;
  params = a.params;
  folder = folder_of a.command;
  work = (wish_for a.command).work;
  program = x.program;
}

-- it asks for a run, and nothing is run of its script
pub record RefusesRun (x : Call) (e : End) : Type 0 where
  pub asks : AsksFor x
  pub why : RefusesScript (script_in x asks) x.files e

-- It is refused: by its words, its script's text and rules, its parameter file; or since nothing is run of its script. The
-- host is blamed only if it failed
abbrev pub IsRefused : Call → Type 0 → End → Type 0
IsRefused x failed end.HostFault = failed
IsRefused x failed end.Mem = Unit {0}
IsRefused x failed e = IsOnly (Comes x.line) (refused e) ⊎ RefusesRun x e

-- ---- what is left to do of a script that is asked to be run

-- the plan of the script, or why nothing is run of it; the host is blamed only if it failed
abbrev pub GivesUpAs : Script → Option Files → Type 0 → End → Type 0
GivesUpAs x told failed end.HostFault = failed
GivesUpAs x told failed end.Mem = Unit {0}
GivesUpAs x told failed e = RefusesScript x told e

abbrev pub IsRunWork : Script → Option Files → Type 0 → Command → Work → Type 0
IsRunWork x told failed c (work.Write text) = ⊥
IsRunWork x told failed c (work.Refuse e) = GivesUpAs x told failed e
IsRunWork x told failed c (work.Run plan way) = IsPlanFor x told plan × (way ≡ way_for c)

-- of what is asked for: a text that is written, or a script that is run on so many lanes
abbrev pub IsWorkAsked : Program → Option Files → Type 0 → Asked → Work → ℕ → Type 0
IsWorkAsked n told failed (asked.Write text) w queue = w ≡ work.Write text
IsWorkAsked n told failed (asked.Run run) w queue =
    IsRunWork (script_of n run) told failed run.command w × (queue ≡ lanes_for run.command)

-- a script that is run is run as its command says
abbrev pub KeepsAsked : Asked → Type 0
KeepsAsked (asked.Write text) = Unit {0}
KeepsAsked (asked.Run run) = KeepsWish run

-- no process or workflow of a script that is run has a name with a colon
abbrev pub HasPlainNames : Asked → Type 0
HasPlainNames (asked.Write text) = Unit {0}
HasPlainNames (asked.Run run) = NamesArePlain (definitions_of (view_script run.script))

-- ---- of a call

abbrev pub call_of : Option Files → Program → CommandLine → ℕ → Call
call_of files program line queue = record { files = files; program = program; line = line; queue = queue }

-- what its work is
abbrev pub IsWorkOf : Call → Type 0 → Work → Type 0
IsWorkOf x failed (work.Write text) = Writes (Comes x.line) text
IsWorkOf x failed (work.Refuse e) = IsRefused x failed e
IsWorkOf x failed (work.Run plan way) =
    (asks : AsksFor x) × IsPlanFor (script_in x asks) x.files plan × (way ≡ way_for asks.command)
    × (x.queue ≡ lanes_for asks.command)

-- What was done so far to the host's files, if it tells them: for a text nothing; for a run the files of its sources
-- were put into the file store of its work folder
abbrev pub StoresFor : Work → Option Files → Option Files → Type 0
StoresFor (work.Write text) before after = after ≡ before
StoresFor (work.Refuse e) before after = Unit {0}
StoresFor (work.Run plan way) before after = Both before after (KeepsOrStores way.folder (scratch_in way.folder))
