-- What a command says about the run of its script.
use Rattle.std.specs.Prelude.{◌≡◌, ◌≤◌, ℕ, Bool, false, List, [], length, codes, unwrap_or, Option, Some, None, Ok, Err}
use Rattle.nf_value.specs.Plain.{Plain}
use Rattle.nf_pairs.specs.Pairs.{put_all}
use Rattle.nf_params.specs.Params.{params_in}
use Rattle.nf_command.specs.declared.command.Command.{Command}
use Rattle.nf_command.specs.declared.command.RunWords.{RunWords}
use Rattle.nf_command.specs.declared.command.Command.TheVariants.{Run, Fmt, Check, Gen}
use Rattle.nf_ends.specs.declared.end.End.{End}
use Rattle.nf_ends.specs.declared.end.End.TheVariants as end
use Rattle.nf_request.specs.Held.{IsLonger}

abbrev pub Params : Type 0
Params = List (List ℕ × Plain)

pub record Wish : Type 0 where
  -- the work folder
  pub work : List ℕ
  pub resume : Bool
  -- how many tasks run at once
  pub queue : ℕ
  -- parameters, and a file of more
  pub params : Params
  pub params_file : Option (List ℕ)
  -- where the trace is written
  pub trace : Option (List ℕ)

abbrev pub plain_wish : Wish
plain_wish = record { work = codes "work"; resume = false; queue = 4; params = []; params_file = None; trace = None }

-- what the words of `run` say
abbrev pub wish_of_run : RunWords → Wish
wish_of_run w = record {
  work = w.work;
  resume = w.resume;
  queue = w.queue;
  params = w.params;
  params_file = w.params_file;
  trace = w.trace;
}

-- of `run` what its words say, and of `gen` the same as of a `run` without options; the other commands run nothing
abbrev pub wish_of : Command → Option Wish
wish_of (Run w) = Some (wish_of_run w)
wish_of (Gen n start) = Some plain_wish
wish_of (Fmt file) = None
wish_of (Check file) = None

-- the same for every command
abbrev pub wish_for : Command → Wish
wish_for c = unwrap_or (wish_of c) plain_wish

-- ---- its parameters

-- the longest parameter file, in bytes
abbrev pub params_limit : ℕ
params_limit = 16777216

-- the bytes of a parameter file that isn't too long
pub record HasParamsFile (held : Option (List ℕ)) (bytes : List ℕ) : Type 0 where
  pub there : held ≡ Some bytes
  pub short : length bytes ≤ params_limit

-- the parameters in the file at this path, which holds these bytes; there may be no path
abbrev pub AreInFile : Option (List ℕ) → Option (List ℕ) → Params → Type 0
AreInFile None held ps = ps ≡ []
AreInFile (Some path) held ps = (bytes : List ℕ) × HasParamsFile held bytes × (params_in bytes ≡ Ok ps)

-- its parameters: those of the command line win over those of the file
abbrev pub HasParams : Wish → Option (List ℕ) → Params → Type 0
HasParams w held ps = (in_file : Params) × AreInFile w.params_file held in_file × (ps ≡ put_all w.params in_file)

-- why the file at a path gives none: it isn't there, it is too long, a value of it is refused; the host failed, or memory ran out
abbrev pub IsBadFile : List ℕ → Option (List ℕ) → End → Type 0
IsBadFile path held (end.NoFile p) = (p ≡ path) × (held ≡ None)
IsBadFile path held (end.FileTooLong p) = (p ≡ path) × IsLonger params_limit held
IsBadFile path held (end.BadParams pointer) =
    (bytes : List ℕ) × HasParamsFile held bytes × (params_in bytes ≡ Err pointer)
IsBadFile path held end.HostFault = Unit {0}
IsBadFile path held end.Mem = Unit {0}
IsBadFile path held _ = ⊥

-- a file isn't there, or is too long: the end names it, or there was no memory to
abbrev pub LacksFile : List ℕ → End → Type 0
LacksFile path (end.NoFile p) = p ≡ path
LacksFile path end.Mem = Unit {0}
LacksFile path _ = ⊥

abbrev pub HasLongFile : List ℕ → End → Type 0
HasLongFile path (end.FileTooLong p) = p ≡ path
HasLongFile path end.Mem = Unit {0}
HasLongFile path _ = ⊥

-- why there are none: a file is refused, or memory ran out
abbrev pub LacksParams : Option (List ℕ) → Option (List ℕ) → End → Type 0
LacksParams (Some path) held e = IsBadFile path held e
LacksParams None held e = e ≡ end.Mem
