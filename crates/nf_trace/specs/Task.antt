-- The lines of the tasks of a run.
use Rattle.std.specs.Prelude.{ℕ, suc, List, [], ◌∷◌, ◌++◌, ◌==◌, ◌||◌, map, take, drop, codes, decimal, if◌then◌else◌, Option, Some, None}
use Rattle.hex.specs.Hex.{encode_lower}
use Rattle.nf_trace.specs.declared.line.TraceLine.{TraceLine}
use Rattle.nf_trace.specs.declared.task.Attempt.{Attempt}
use Rattle.nf_trace.specs.declared.task.TaskStatus.{TaskStatus}
use Rattle.nf_trace.specs.declared.task.TracedTask.{TracedTask}
use Rattle.nf_trace.specs.Last.{last_of}
use Rattle.nf_trace.specs.Status.{status_name, exit_column}

-- a blank for a tab or a line end
abbrev pub blank : ℕ → ℕ
blank b = if b == 9 || b == 10 then 32 else b

abbrev pub blanked : List ℕ → List ℕ
blanked = map blank

abbrev pub tag_text : Option (List ℕ) → List ℕ
tag_text None = []
tag_text (Some tag) = codes " (" ++ tag ++ codes ")"

-- the process's name and the tag, on one line and in one column
abbrev pub name_of : List ℕ → Option (List ℕ) → List ℕ
name_of name tag = blanked (name ++ tag_text tag)

-- the first two hexadecimal digits of a key, a slash, and six more
abbrev pub hash_of : List ℕ → List ℕ
hash_of key = encode_lower (take 1 key) ++ codes "/" ++ encode_lower (take 3 (drop 1 key))

-- the line of a task with this number, of which this is the attempt that is shown
abbrev pub line_of : ℕ → List ℕ → Attempt → TaskStatus → TraceLine
line_of id name attempt status = record {
  task_id = decimal id;
  hash = hash_of attempt.key.0;
  name = name_of name attempt.tag;
  status = status_name status;
  exit = exit_column status;
}

abbrev pub lines_by : ℕ → List ℕ → List Attempt → TaskStatus → List TraceLine
lines_by id name [] status = []
lines_by id name (attempt ∷ later) status = line_of id name (last_of attempt later) status ∷ []

-- a line that shows the last attempt, or none for a task without a job
abbrev pub task_lines : ℕ → TracedTask → List TraceLine
task_lines id task = lines_by id task.name task.attempts task.status

-- the lines of tasks that are numbered from `id` on
abbrev pub lines_from : ℕ → List TracedTask → List TraceLine
lines_from id [] = []
lines_from id (task ∷ tasks) = task_lines id task ++ lines_from (suc id) tasks
