-- The command of a command line, or its first wrong word.
use Rattle.std.specs.Prelude.{◌≡◌, ℕ, suc, ◌-◌, ◌^◌, List, [], ◌∷◌, length, codes, bytes_eq, Option, Some, None, Result, Ok, Err, if◌then◌else◌}
use Rattle.nf_command.specs.declared.command.Command.{Command}
use Rattle.nf_command.specs.declared.command.RunWords.{RunWords}
use Rattle.nf_command.specs.declared.command.Command.TheVariants.{Run, Fmt, Check, Gen}
use Rattle.nf_command.specs.declared.fault.UsageFault.{UsageFault}
use Rattle.nf_command.specs.declared.fault.UsageFault.TheVariants.{NoCommand, UnknownWord, NoValue, BadNumber, Twice, Mem}
use Rattle.nf_command.specs.Numbers.{number_within}
use Rattle.nf_command.specs.Words.{is_dashed}
use Rattle.nf_command.specs.Run.{Judged, and_then, nothing, with_words, ended}

-- what the words after `run` say
abbrev pub run_words_of : List (List ℕ) → Judged RunWords
run_words_of ws = and_then (with_words 1 ws nothing) (ended (suc (length ws)))

-- the one FILE after a command
abbrev pub file_of : List (List ℕ) → Judged (List ℕ)
file_of [] = Err (NoValue 1)
file_of (file ∷ []) = if is_dashed file then Err (UnknownWord 1) else Ok file
file_of (file ∷ more ∷ others) = if is_dashed file then Err (UnknownWord 1) else Err (UnknownWord 2)

abbrev pub number_or_bad : ℕ → Option ℕ → Judged ℕ
number_or_bad at (Some n) = Ok n
number_or_bad at None = Err (BadNumber at)

-- the words after N
abbrev pub start_of : List (List ℕ) → Judged ℕ
start_of [] = Err (NoValue 2)
start_of (start ∷ []) = number_or_bad 2 (number_within 0 (2 ^ 64 - 1) start)
start_of (start ∷ more ∷ others) = and_then (number_or_bad 2 (number_within 0 (2 ^ 64 - 1) start)) (λ n. Err (UnknownWord 3))

-- N and START after `gen`
abbrev pub gen_of : List (List ℕ) → Judged Command
gen_of [] = Err (NoValue 1)
gen_of (n ∷ ws) = and_then (number_or_bad 1 (number_within 1 10000 n)) (λ count. and_then (start_of ws) (λ start. Ok (Gen count start)))

-- the command, or the first wrong word
unfoldable pub command_of : List (List ℕ) → Judged Command
command_of [] = Err NoCommand
command_of (command ∷ ws) =
    if bytes_eq command (codes "run") then and_then (run_words_of ws) (λ r. Ok (Run r))
    else if bytes_eq command (codes "fmt") then and_then (file_of ws) (λ file. Ok (Fmt file))
    else if bytes_eq command (codes "check") then and_then (file_of ws) (λ file. Ok (Check file))
    else if bytes_eq command (codes "gen") then gen_of ws
    else Err (UnknownWord 0)

-- the result is what is due, unless memory ran out
abbrev pub Reads : {A : Type 0} → Judged A → Result A UsageFault → Type 0
Reads due (Ok a) = due ≡ Ok a
Reads due (Err Mem) = Unit {0}
Reads due (Err e) = due ≡ Err e
