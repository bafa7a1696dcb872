-- Which end an error line tells, and where in the script.
use Rattle.std.specs.Prelude.{◌^◌, ◌<◌}
use Rattle.std.specs.declared.option.Option.{Option}
use Rattle.std.specs.declared.option.Option.TheVariants.{None, Some}
use Rattle.nf_value.specs.declared.place.Place.{Place}
use Rattle.nf_bag.specs.declared.fault.OpFault.TheVariants as op
use Rattle.nf_lexer.specs.declared.fault.LexFault.{LexFault}
use Rattle.nf_lexer.specs.declared.fault.LexFault.TheVariants as lex
use Rattle.nf_exprs.specs.declared.fault.ParseFault.{ParseFault}
use Rattle.nf_exprs.specs.declared.fault.ParseFault.TheVariants as parse
use Rattle.nf_meaning.specs.Fault as lower
use Rattle.nf_ends.specs.declared.end.End.{End}
use Rattle.nf_ends.specs.declared.end.End.TheVariants as end
use Rattle.nf_ends.specs.declared.end.ItemCause.{ItemCause}
use Rattle.nf_ends.specs.declared.end.ItemCause.TheVariants.{Eval, Op}

-- an end without its values
pub data Kind : Type 0 where
  went_well : Kind
  task_failed : Kind
  item_failed : Kind
  has_clash : Kind
  past_charge : Kind
  misused : Kind
  no_script : Kind
  no_file : Kind
  long_file : Kind
  unlexed : Kind
  unparsed : Kind
  unlowered : Kind
  disordered : Kind
  bad_params : Kind
  host_failed : Kind
  lane_failed : Kind
  keeper_failed : Kind
  sink_failed : Kind
  has_damage : Kind
  no_memory : Kind

abbrev pub kind_of : End → Kind
kind_of end.Ok = went_well
kind_of (end.TaskFailed p i n f) = task_failed
kind_of (end.ItemFault p c) = item_failed
kind_of (end.PublishClash c) = has_clash
kind_of (end.Charge s) = past_charge
kind_of (end.Usage f) = misused
kind_of end.NoScript = no_script
kind_of (end.NoFile p) = no_file
kind_of (end.FileTooLong p) = long_file
kind_of (end.Lex f) = unlexed
kind_of (end.Parse f) = unparsed
kind_of (end.Lower f) = unlowered
kind_of (end.Order b) = disordered
kind_of (end.BadParams p) = bad_params
kind_of end.HostFault = host_failed
kind_of end.LaneFault = lane_failed
kind_of end.KeeperFault = keeper_failed
kind_of end.SinkFault = sink_failed
kind_of (end.Damaged d f) = has_damage
kind_of end.Mem = no_memory

-- ---- its place in the script

abbrev pub first_place : Place
first_place = record { line = 1; col = 1 }

abbrev pub lex_place : LexFault → Option Place
lex_place (lex.BadByte p) = Some p
lex_place (lex.OpenString p) = Some p
lex_place (lex.OpenComment p) = Some p
lex_place (lex.BadEscape p) = Some p
lex_place (lex.BigNumber p) = Some p
lex_place lex.ScriptTooLong = Some first_place
lex_place lex.Mem = None

abbrev pub parse_place : ParseFault → Option Place
parse_place (parse.Unexpected p) = Some p
parse_place (parse.TooDeep p) = Some p
parse_place parse.Mem = None

-- the place that its line begins with
abbrev pub place_in : End → Option Place
place_in (end.ItemFault p c) = Some p
place_in (end.Lex f) = lex_place f
place_in (end.Parse f) = parse_place f
place_in (end.Lower f) = lower.place_in f
place_in (end.Order b) = Some b.place
place_in _ = None

-- ---- ends that write a line

-- its numbers have 32 bits
pub record IsPlace (p : Place) : Type 0 where
  pub line : p.line < 2 ^ 32
  pub col : p.col < 2 ^ 32

-- there is a place, and there is one in each line on a script
abbrev pub HasPlace : Option Place → Type 0
HasPlace (Some p) = IsPlace p
HasPlace None = ⊥

-- not for want of memory
abbrev pub IsCause : ItemCause → Type 0
IsCause (Eval item f) = Unit {0}
IsCause (Op op.Mem) = ⊥
IsCause (Op _) = Unit {0}

-- an end that writes a line: not for want of memory, and with its place if it is one of the script
abbrev pub HasLine : End → Type 0
HasLine end.Ok = ⊥
HasLine end.SinkFault = ⊥
HasLine end.Mem = ⊥
HasLine (end.ItemFault p c) = IsPlace p × IsCause c
HasLine (end.Lex f) = HasPlace (lex_place f)
HasLine (end.Parse f) = HasPlace (parse_place f)
HasLine (end.Lower f) = HasPlace (lower.place_in f)
HasLine (end.Order b) = IsPlace b.place
HasLine _ = Unit {0}
