-- The words of `run`, one after another.
use Rattle.std.specs.Prelude.{ℕ, suc, ◌||◌, Bool, true, false, List, [], ◌∷◌, codes, bytes_eq, Option, Some, None, is_some, unwrap_or, Result, Ok, Err, if◌then◌else◌}
use Rattle.nf_value.specs.Plain.{Plain, truth}
use Rattle.nf_pairs.specs.Pairs.{put, value_at}
use Rattle.nf_command.specs.declared.command.RunWords.{RunWords}
use Rattle.nf_command.specs.declared.fault.UsageFault.{UsageFault}
use Rattle.nf_command.specs.declared.fault.UsageFault.TheVariants.{UnknownWord, NoValue, BadNumber, Twice}
use Rattle.nf_command.specs.declared.run.Setting.{Setting}
use Rattle.nf_command.specs.declared.run.Setting.TheVariants.{Work, ParamsFile, Trace, Queue}
use Rattle.nf_command.specs.declared.run.Awaited.{Awaited}
use Rattle.nf_command.specs.declared.run.Awaited.TheVariants as wait
use Rattle.nf_command.specs.declared.run.Said.{Said}
use Rattle.nf_command.specs.Numbers.{number_within}
use Rattle.nf_command.specs.Words.{Named, is_dashed, setting_of, parameter_in, is_value, value_of}

abbrev pub Judged : Type 0 → Type 0
Judged A = Result A UsageFault

abbrev pub and_then : {A B : Type 0} → Judged A → (A → Judged B) → Judged B
and_then (Ok a) f = f a
and_then (Err e) f = Err e

-- nothing was said yet
abbrev pub nothing : Said
nothing = record { file = None; resume = false; work = None; params_file = None; trace = None; queue = None; params = []; awaited = wait.Nothing }

abbrev pub is_given : Setting → Said → Bool
is_given Work s = is_some s.work
is_given ParamsFile s = is_some s.params_file
is_given Trace s = is_some s.trace
is_given Queue s = is_some s.queue

abbrev pub has_parameter : List ℕ → Said → Bool
has_parameter name s = is_some (value_at name s.params)

-- the parameter is set
abbrev pub with_parameter : List ℕ → Plain → Said → Said
with_parameter name v s = record s { params = put (name, v) s.params }

-- what is awaited
abbrev pub awaiting : Awaited → Said → Said
awaiting a s = record s { awaited = a }

abbrev pub with_queue : ℕ → Option ℕ → Said → Judged Said
with_queue at (Some n) s = Ok (record s { queue = Some n })
with_queue at None s = Err (BadNumber at)

-- the word with the number `at` is the value of an option
abbrev pub with_setting : Setting → ℕ → List ℕ → Said → Judged Said
with_setting Work at w s = Ok (record s { work = Some w })
with_setting ParamsFile at w s = Ok (record s { params_file = Some w })
with_setting Trace at w s = Ok (record s { trace = Some w })
with_setting Queue at w s = with_queue at (number_within 1 16 w) s

-- the word is FILE, or nothing
abbrev pub as_file : ℕ → List ℕ → Said → Judged Said
as_file at w s = if is_dashed w || is_some s.file then Err (UnknownWord at) else Ok (record s { file = Some w })

-- the value of a parameter stands after `=`, or the next word may be it
abbrev pub as_parameter_with : List ℕ → Option (List ℕ) → Said → Said
as_parameter_with name (Some v) s = with_parameter name (value_of v) s
as_parameter_with name None s = awaiting (wait.Parameter name) s

abbrev pub as_named : ℕ → Named → Said → Judged Said
as_named at p s = if has_parameter p.0 s then Err (Twice at) else Ok (as_parameter_with p.0 p.1 s)

-- the word names a parameter, or not
abbrev pub as_parameter : ℕ → Option Named → List ℕ → Said → Judged Said
as_parameter at (Some p) w s = as_named at p s
as_parameter at None w s = as_file at w s

abbrev pub as_given_setting : ℕ → Setting → Said → Judged Said
as_given_setting at o s = if is_given o s then Err (Twice at) else Ok (awaiting (wait.Value o) s)

-- the word is an option that takes a value, or not
abbrev pub as_setting : ℕ → Option Setting → List ℕ → Said → Judged Said
as_setting at (Some o) w s = as_given_setting at o s
as_setting at None w s = as_parameter at (parameter_in w) w s

-- the word begins something
abbrev pub as_new : ℕ → List ℕ → Said → Judged Said
as_new at w s =
    if bytes_eq w (codes "-resume") then (if s.resume then Err (Twice at) else Ok (record s { resume = true }))
    else as_setting at (setting_of w) w s

-- the word is the value of a parameter, or the parameter is true and the word begins something
abbrev pub after_parameter : List ℕ → ℕ → List ℕ → Said → Judged Said
after_parameter name at w s = if is_value w then Ok (with_parameter name (value_of w) s) else as_new at w (with_parameter name (truth true) s)

-- the word after what was awaited
abbrev pub by_awaited : Awaited → ℕ → List ℕ → Said → Judged Said
by_awaited wait.Nothing at w s = as_new at w s
by_awaited (wait.Value o) at w s = with_setting o at w s
by_awaited (wait.Parameter name) at w s = after_parameter name at w s

-- one word more
abbrev pub with_word : ℕ → List ℕ → Said → Judged Said
with_word at w s = by_awaited s.awaited at w (awaiting wait.Nothing s)

-- these words more, of which the first has the number `at`
abbrev pub with_words : ℕ → List (List ℕ) → Said → Judged Said
with_words at [] s = Ok s
with_words at (w ∷ ws) s = and_then (with_word at w s) (with_words (suc at) ws)

-- a parameter without a value is true; there are `count` words
abbrev pub completed : ℕ → Awaited → Said → Judged Said
completed count wait.Nothing s = Ok s
completed count (wait.Value o) s = Err (NoValue count)
completed count (wait.Parameter name) s = Ok (with_parameter name (truth true) s)

abbrev pub run_words : ℕ → Option (List ℕ) → Said → Judged RunWords
run_words count None s = Err (NoValue count)
run_words count (Some file) s = Ok (record {
  file = file;
  resume = s.resume;
  work = unwrap_or s.work (codes "work");
  params_file = s.params_file;
  trace = s.trace;
  queue = unwrap_or s.queue 4;
  params = s.params;
})

-- what is said at the end, after `count` words
abbrev pub ended : ℕ → Said → Judged RunWords
ended count s = and_then (completed count s.awaited (awaiting wait.Nothing s)) (λ t. run_words count t.file t)
