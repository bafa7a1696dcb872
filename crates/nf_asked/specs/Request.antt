-- What a command line comes to: a row for each refusal, in the order of the work, and then what it asks for.
use Rattle.std.specs.Prelude.{◌≡◌, ℕ, List, [], ◌∷◌, codes, Option, Some, None, Err}
use Rattle.nf_ast.specs.Tree.{Tree}
use Rattle.nf_lexer.specs.Tokens.{Breaks}
use Rattle.nf_lexer.specs.declared.fault.LexFault.{LexFault}
use Rattle.nf_exprs.specs.declared.fault.ParseFault.{ParseFault}
use Rattle.nf_kinds.specs.declared.fault.Broken.{Broken}
use Rattle.nf_sources.specs.Sources.{folder_at}
use Rattle.nf_params.specs.Params.{params_in}
use Rattle.nf_command.specs.declared.command.Command.{Command}
use Rattle.nf_command.specs.declared.command.Command.TheVariants.{Run, Fmt, Check, Gen}
use Rattle.nf_command.specs.declared.fault.UsageFault.{UsageFault}
use Rattle.nf_command.specs.Commands.{command_of}
use Rattle.nf_ends.specs.declared.end.End.{End}
use Rattle.nf_ends.specs.declared.end.End.TheVariants as end
use Rattle.nf_request.specs.Held.{IsLonger}
use Rattle.nf_request.specs.Words.{Asks, text_for}
use Rattle.nf_request.specs.Wishes.{Params, params_limit, wish_for, HasParamsFile, HasParams}
use Rattle.nf_request.specs.Script.{IsScript, BreaksOff}
use Rattle.nf_request.specs.Steps.{IsOrdered, IsDisordered}
use Rattle.nf_asked.specs.CommandLine.{CommandLine}

-- ---- a script up to its tree

-- the command line is a command that has a script with this text
pub record HasText (x : CommandLine) (c : Command) (text : List ℕ) : Type 0 where
  pub asks : Asks x.words c
  pub there : text_for c x.script ≡ Some text

-- and the script has this tree
pub record HasTree (x : CommandLine) (c : Command) (t : Tree) : Type 0 where
  pub text : List ℕ
  pub has : HasText x c text
  pub spells : IsScript text t

-- ---- a script that is run

-- the folder that the program runs in has the name `.`
abbrev pub or_here : List ℕ → List ℕ
or_here [] = codes "."
or_here (c ∷ cs) = c ∷ cs

-- the folder of a command's script; of `gen` the one that the program runs in
abbrev pub folder_of : Command → List ℕ
folder_of (Run w) = or_here (folder_at w.file)
folder_of (Gen n start) = codes "."
folder_of (Fmt file) = codes "."
folder_of (Check file) = codes "."

-- the command names a parameter file at this path
abbrev pub HasParamsPath : Command → List ℕ → Type 0
HasParamsPath c path = (wish_for c).params_file ≡ Some path

-- ---- what is asked for

pub data Request : Type 0 where
  -- nothing: refused, with this end
  refused : End → Request
  -- that the canonical text of this tree is written
  formats : Tree → Request
  -- that it is written that the script is accepted
  accepts : Request
  -- that this command runs this tree with these parameters
  runs : Command → Tree → Params → Request

-- What a command that runs its tree comes to; the parameter file holds this. Each row stands after those above it
pub data RunComes (c : Command) (t : Tree) (held : Option (List ℕ)) : Request → Type 0 where
  no_params : (path : List ℕ) → HasParamsPath c path → held ≡ None → RunComes c t held (refused (end.NoFile path))
  long_params : (path : List ℕ) → HasParamsPath c path → IsLonger params_limit held
      → RunComes c t held (refused (end.FileTooLong path))
  bad_params : (path bytes pointer : List ℕ) → HasParamsPath c path → HasParamsFile held bytes
      → params_in bytes ≡ Err pointer → RunComes c t held (refused (end.BadParams pointer))
  disordered : (ps : Params) (b : Broken) → HasParams (wish_for c) held ps → IsDisordered t b
      → RunComes c t held (refused (end.Order b))
  run : (ps : Params) → HasParams (wish_for c) held ps → IsOrdered t → RunComes c t held (runs c t ps)

-- what `check` comes to
pub data CheckComes (t : Tree) : Request → Type 0 where
  check_fails : (b : Broken) → IsDisordered t b → CheckComes t (refused (end.Order b))
  check : IsOrdered t → CheckComes t accepts

-- what a command comes to whose script has this tree
abbrev pub TreeComes : Command → Tree → Option (List ℕ) → Request → Type 0
TreeComes (Run w) t held r = RunComes (Run w) t held r
TreeComes (Gen n start) t held r = RunComes (Gen n start) t held r
TreeComes (Fmt file) t held r = r ≡ formats t
TreeComes (Check file) t held r = CheckComes t r

-- What a command line comes to. A script with a tree comes to what its command comes to with that tree
pub data Comes (x : CommandLine) : Request → Type 0 where
  misused : (f : UsageFault) → command_of x.words ≡ Err f → Comes x (refused (end.Usage f))
  no_script : (c : Command) → Asks x.words c → text_for c x.script ≡ None → Comes x (refused end.NoScript)
  unlexed : (c : Command) (text : List ℕ) (f : LexFault) → HasText x c text → Breaks text f
      → Comes x (refused (end.Lex f))
  unparsed : (c : Command) (text : List ℕ) (f : ParseFault) → HasText x c text → BreaksOff text f
      → Comes x (refused (end.Parse f))
  with_tree : (c : Command) (t : Tree) (r : Request) → HasTree x c t → TreeComes c t x.params r → Comes x r
