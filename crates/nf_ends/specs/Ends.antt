-- The exit status and the error line of each end.
use Rattle.std.specs.Prelude.{ℕ, List, [], ◌++◌, codes, decimal}
use Rattle.std.specs.Fmt.{signed_decimal}
use Rattle.std.specs.declared.option.Option.{Option}
use Rattle.std.specs.declared.option.Option.TheVariants.{None, Some}
use Rattle.hex.specs.Hex.{encode_lower}
use Rattle.nf_value.specs.Plain.{Plain, list, plains_of}
use Rattle.nf_value.specs.declared.place.Place.{Place}
use Rattle.nf_value.specs.Place.{place_text}
use Rattle.nf_value.specs.Fault.{kind_text}
use Rattle.nf_value.specs.Text.{value_text}
use Rattle.nf_value.specs.View.{plain_of}
use Rattle.nf_bag.specs.Fault.{fault_name}
use Rattle.nf_bag.specs.declared.fault.OpFault.{OpFault}
use Rattle.nf_bag.specs.declared.fault.OpFault.TheVariants as op
use Rattle.nf_job.specs.Fault as task
use Rattle.nf_job.specs.declared.fault.TaskFault.{TaskFault}
use Rattle.nf_kinds.specs.Texts.{rule_text}
use Rattle.nf_kinds.specs.declared.fault.Broken.{Broken}
use Rattle.nf_lexer.specs.Fault as lex
use Rattle.nf_exprs.specs.declared.fault.ParseFault.{ParseFault}
use Rattle.nf_exprs.specs.declared.fault.ParseFault.TheVariants as parse
use Rattle.nf_command.specs.Usage.{usage_text}
use Rattle.nf_meaning.specs.Fault as lower
use Rattle.nf_meaning.specs.declared.fault.LowerFault.{LowerFault}
use Rattle.nf_publish.specs.declared.fault.Clash.{Clash}
use Rattle.nf_ends.specs.Lines.{named_text, damage_text}
use Rattle.nf_ends.specs.declared.end.End.{End}
use Rattle.nf_ends.specs.declared.end.End.TheVariants as end
use Rattle.nf_ends.specs.declared.end.ItemCause.{ItemCause}
use Rattle.nf_ends.specs.declared.end.ItemCause.TheVariants.{Eval, Op}

-- the exit status
abbrev pub status_of : End → ℕ
status_of end.Ok = 0
status_of (end.TaskFailed p i n f) = 1
status_of (end.ItemFault p c) = 1
status_of (end.PublishClash c) = 1
status_of (end.Charge s) = 1
status_of (end.Usage f) = 2
status_of end.NoScript = 3
status_of (end.NoFile p) = 3
status_of (end.FileTooLong p) = 3
status_of (end.Lex f) = 3
status_of (end.Parse f) = 3
status_of (end.Lower f) = 3
status_of (end.Order b) = 3
status_of (end.BadParams p) = 3
status_of end.HostFault = 4
status_of end.LaneFault = 4
status_of end.KeeperFault = 4
status_of end.SinkFault = 4
status_of (end.Damaged d f) = 4
status_of end.Mem = 5

-- ---- the parts of error lines

-- LINE:COL: TEXT
abbrev pub placed : Place → List ℕ → List ℕ
placed p text = place_text p.line p.col ++ codes ": " ++ text

abbrev pub placed_if : Option Place → List ℕ → List ℕ
placed_if (Some p) text = placed p text
placed_if None text = text

-- task PROC INPUTS #n: FAULT
abbrev pub task_text : List ℕ → List Plain → ℕ → TaskFault → List ℕ
task_text process inputs n fault =
    codes "task " ++ process ++ codes " " ++ value_text (list (plains_of inputs)) ++ codes " #" ++ decimal n ++ codes ": "
    ++ task.fault_text fault

-- the item, key or total that an operator fails on
abbrev pub subject_text : OpFault → List ℕ
subject_text (op.DuplicateKey k) = value_text (plain_of k)
subject_text (op.NotATuple x) = value_text (plain_of x)
subject_text (op.NotANumber x) = value_text (plain_of x)
subject_text (op.Overflow t) = signed_decimal t
subject_text (op.TooDeep x) = value_text (plain_of x)
subject_text op.Mem = []

-- NAME on ITEM
abbrev pub cause_text : ItemCause → List ℕ
cause_text (Eval item fault) = kind_text fault.kind ++ codes " on " ++ value_text (plain_of item)
cause_text (Op fault) = fault_name fault ++ codes " on " ++ subject_text fault

-- PublishClash TARGET HEX HEX
abbrev pub clash_text : Clash → List ℕ
clash_text c =
    codes "PublishClash " ++ c.target ++ codes " " ++ encode_lower c.first.0 ++ codes " " ++ encode_lower c.second.0

-- LINE:COL: NAME
abbrev pub parse_text : ParseFault → List ℕ
parse_text (parse.Unexpected p) = placed p (codes "Unexpected")
parse_text (parse.TooDeep p) = placed p (codes "TooDeep")
parse_text parse.Mem = codes "Mem"

abbrev pub lower_text : LowerFault → List ℕ
lower_text f = placed_if (lower.place_in f) (lower.fault_text f)

-- LINE:COL: Order rule N
abbrev pub order_text : Broken → List ℕ
order_text b = placed b.place (rule_text b.rule)

-- ---- error lines

-- an end without `error: ` and the line end
abbrev pub end_text : End → List ℕ
end_text (end.TaskFailed p i n f) = task_text p i n f
end_text (end.ItemFault p c) = placed p (cause_text c)
end_text (end.PublishClash c) = clash_text c
end_text (end.Charge s) = codes "Charge past 67108864"
end_text (end.Usage f) = codes "usage: " ++ usage_text f
end_text end.NoScript = codes "NoScript"
end_text (end.NoFile p) = named_text (codes "NoFile") p
end_text (end.FileTooLong p) = named_text (codes "FileTooLong") p
end_text (end.Lex f) = lex.fault_text f
end_text (end.Parse f) = parse_text f
end_text (end.Lower f) = lower_text f
end_text (end.Order b) = order_text b
end_text (end.BadParams p) = named_text (codes "BadParams") p
end_text end.HostFault = codes "HostFault"
end_text end.LaneFault = codes "LaneFault"
end_text end.KeeperFault = codes "KeeperFault"
end_text (end.Damaged d f) = damage_text d
end_text end.Ok = []
end_text end.SinkFault = []
end_text end.Mem = []

-- the line that each end but Ok, SinkFault and Mem writes
abbrev pub error_line : End → List ℕ
error_line e = codes "error: " ++ end_text e ++ codes "\n"
