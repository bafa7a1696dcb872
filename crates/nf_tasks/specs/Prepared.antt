-- What an attempt at a task is made of, with the order in which its faults are judged.
use Rattle.std.specs.Prelude.{ℕ, ℤ, pos, List, [], ◌∷◌, ◌++◌, decimal, Option, None, Some, Result, Ok, Err}
use Rattle.std.specs.Fmt.{signed_decimal}
use Rattle.nf_value.specs.declared.place.Place.{Place}
use Rattle.nf_value.specs.declared.file.FileRef.{FileRef}
use Rattle.nf_value.specs.Plain.{Plain, null, truth, int, text, file, list, table}
use Rattle.nf_value.specs.Text.{value_text}
use Rattle.nf_job.specs.declared.parts.JobParts.{JobParts}
use Rattle.nf_job.specs.JobText.{inputs_text}
use Rattle.nf_tasks.specs.declared.inputs.Bound.{Bound}
use Rattle.nf_tasks.specs.declared.inputs.Input.{Input}
use Rattle.nf_tasks.specs.declared.prepared.Prepared.{Prepared}
use Rattle.nf_tasks.specs.Judged.{Judged, ◌>>=◌, evaluated, wrong_kind}
use Rattle.nf_tasks.specs.Meaning.{Formula, PatternMeaning, ProcessMeaning, patterns_in, wants_stdout}
use Rattle.nf_tasks.specs.Inputs.{bound_by}
use Rattle.nf_tasks.specs.Clash.{unclashing}
use Rattle.nf_tasks.specs.Script.{script_text}
use Rattle.nf_tasks.specs.Task.{task_map, seen_values}

-- `cpus`, 1 where it is absent. In the directive itself `task.cpus` is null
abbrev pub cpus_of : Option Formula → List Plain → Judged Plain
cpus_of None seen = Ok (int (pos 1))
cpus_of (Some f) seen = evaluated (f seen)

-- the values that expressions see, but for that in `cpus`
abbrev pub seen_by : ProcessMeaning → ℕ → List Plain → Judged (List Plain)
seen_by p attempt values =
    cpus_of p.cpus (seen_values values (task_map p.name attempt null)) >>= λ cpus.
    Ok (seen_values values (task_map p.name attempt cpus))

-- the text of the tag, if there is one
abbrev pub tag_of : Option Formula → List Plain → Judged (Option (List ℕ))
tag_of None seen = Ok None
tag_of (Some f) seen = evaluated (f seen) >>= λ v. Ok (Some (value_text v))

-- a script that isn't a text is of the wrong kind
abbrev pub text_in : Place → Plain → Judged (List ℕ)
text_in p (text t) = Ok (script_text t)
text_in p null = Err (wrong_kind p)
text_in p (truth b) = Err (wrong_kind p)
text_in p (int i) = Err (wrong_kind p)
text_in p (file n d l) = Err (wrong_kind p)
text_in p (list vs) = Err (wrong_kind p)
text_in p (table ps) = Err (wrong_kind p)

abbrev pub script_of : Place → Formula → List Plain → Judged (List ℕ)
script_of p f seen = evaluated (f seen) >>= text_in p

-- what names a file or a folder: a text, a number or a file
abbrev pub name_in : Place → Plain → Judged (List ℕ)
name_in p (text t) = Ok t
name_in p (int i) = Ok (signed_decimal i)
name_in p (file n d l) = Ok n
name_in p null = Err (wrong_kind p)
name_in p (truth b) = Err (wrong_kind p)
name_in p (list vs) = Err (wrong_kind p)
name_in p (table ps) = Err (wrong_kind p)

abbrev pub named_by : Place → Formula → List Plain → Judged (List ℕ)
named_by p f seen = evaluated (f seen) >>= name_in p

abbrev pub texts_of : List PatternMeaning → List Plain → Judged (List (List ℕ))
texts_of [] seen = Ok []
texts_of (x ∷ xs) seen = named_by x.place x.of seen >>= λ t. texts_of xs seen >>= λ ts. Ok (t ∷ ts)

-- once the inputs are bound and it is known what expressions see: the tag, the names of staged files, the script, the patterns
abbrev pub prepared_with : ProcessMeaning → Bound → List Plain → Judged Prepared
prepared_with p b seen =
    tag_of p.tag seen >>= λ tag.
    unclashing b.staged >>= λ staged.
    script_of p.script_place p.script seen >>= λ script.
    texts_of (patterns_in p.outputs) seen >>= λ patterns.
    Ok (record { seen = seen; stdin = b.stdin; staged = staged; tag = tag; script = script; patterns = patterns })

-- first the inputs, then `cpus`
abbrev pub prepared_of : ProcessMeaning → List Plain → ℕ → Judged Prepared
prepared_of p inputs attempt = bound_by p.inputs inputs >>= λ b. seen_by p attempt b.values >>= prepared_with p b

-- the parts of the job of an attempt at an instance
abbrev pub parts_with : ProcessMeaning → List Plain → ℕ → ℕ → Prepared → JobParts
parts_with p inputs n attempt x = record {
  process = p.name;
  script = x.script;
  inputs = inputs_text inputs;
  stdin = x.stdin;
  staged = x.staged;
  patterns = x.patterns;
  wants_stdout = wants_stdout p.outputs;
  n = n;
  attempt = attempt;
}

-- the same, or the attempt's fault
abbrev pub parts_of : ProcessMeaning → List Plain → ℕ → ℕ → Judged JobParts
parts_of p inputs n attempt = prepared_of p inputs attempt >>= λ x. Ok (parts_with p inputs n attempt x)

-- the files that are put into the task's folder, or the first fault of the inputs and of their names
abbrev pub staged_of : List Input → List Plain → Judged (List FileRef)
staged_of is inputs = bound_by is inputs >>= λ b. unclashing b.staged

-- the text of the tag, or the first fault up to it
abbrev pub tag_at : ProcessMeaning → List Plain → ℕ → Judged (Option (List ℕ))
tag_at p inputs attempt = bound_by p.inputs inputs >>= λ b. seen_by p attempt b.values >>= tag_of p.tag
