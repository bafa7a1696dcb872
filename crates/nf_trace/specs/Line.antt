-- The text of a trace.
use Rattle.std.specs.Prelude.{ℕ, List, ◌++◌, codes, flat_map}
use Rattle.nf_trace.specs.declared.line.TraceLine.{TraceLine}

-- the first line, without its line end
abbrev pub header : List ℕ
header = codes "task_id\thash\tname\tstatus\texit"

abbrev pub line_text : TraceLine → List ℕ
line_text l = l.task_id ++ codes "\t" ++ l.hash ++ codes "\t" ++ l.name ++ codes "\t" ++ l.status ++ codes "\t" ++ l.exit ++ codes "\n"

abbrev pub lines_text : List TraceLine → List ℕ
lines_text = flat_map line_text

-- the header, and a line each
abbrev pub trace_of : List TraceLine → List ℕ
trace_of ls = header ++ codes "\n" ++ lines_text ls
