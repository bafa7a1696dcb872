-- The command of a command line.
use Rattle.std.specs.Prelude.{◌≡◌, ℕ, List, Option, Some, None, Ok, Err}
use Rattle.nf_command.specs.Commands.{command_of}
use Rattle.nf_command.specs.declared.command.Command.{Command}
use Rattle.nf_command.specs.declared.command.Command.TheVariants.{Run, Fmt, Check, Gen}
use Rattle.nf_gen.specs.Script.{script}
use Rattle.nf_ends.specs.declared.end.End.{End}
use Rattle.nf_ends.specs.declared.end.End.TheVariants as end

-- the command line is this command
abbrev pub Asks : List (List ℕ) → Command → Type 0
Asks words c = command_of words ≡ Ok c

-- why it is no command: its first wrong word, or there was no memory
abbrev pub IsMisuse : List (List ℕ) → End → Type 0
IsMisuse words (end.Usage f) = command_of words ≡ Err f
IsMisuse words end.Mem = Unit {0}
IsMisuse words _ = ⊥

-- the path of its script's file; `gen` makes its script
abbrev pub script_path : Command → Option (List ℕ)
script_path (Run w) = Some w.file
script_path (Fmt file) = Some file
script_path (Check file) = Some file
script_path (Gen n start) = None

-- the text of its script, if the file at that path holds these bytes
abbrev pub text_for : Command → Option (List ℕ) → Option (List ℕ)
text_for (Run w) held = held
text_for (Fmt file) held = held
text_for (Check file) held = held
text_for (Gen n start) held = Some (script n start)
