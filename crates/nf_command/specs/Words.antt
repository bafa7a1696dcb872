-- What a word is.
use Rattle.std.specs.Prelude.{ℕ, ℤ, ◌==◌, ◌&&◌, ◌||◌, Bool, true, false, not, List, [], ◌∷◌, length, nat_lt, codes, bytes_eq, Option, Some, None, option_and_then, if◌then◌else◌}
use Rattle.std.specs.Char.{is_ascii_digit, is_ascii_alphabetic}
use Rattle.std.specs.List.{list_all, position_or_len, before_first, after_first}
use Rattle.nf_value.specs.Plain.{Plain, truth, int, text}
use Rattle.nf_command.specs.declared.run.Setting.{Setting}
use Rattle.nf_command.specs.declared.run.Setting.TheVariants.{Work, ParamsFile, Trace, Queue}
use Rattle.nf_command.specs.Numbers.{integer_in}

-- the word begins with `-`
abbrev pub is_dashed : List ℕ → Bool
is_dashed [] = false
is_dashed (b ∷ bs) = b == 45

-- the option that takes the next word
abbrev pub setting_of : List ℕ → Option Setting
setting_of w =
    if bytes_eq w (codes "-work-dir") || bytes_eq w (codes "-w") then Some Work
    else if bytes_eq w (codes "-params-file") then Some ParamsFile
    else if bytes_eq w (codes "-with-trace") then Some Trace
    else if bytes_eq w (codes "-queue-size") || bytes_eq w (codes "-qs") then Some Queue
    else None

abbrev pub is_name_byte : ℕ → Bool
is_name_byte b = is_ascii_alphabetic b || is_ascii_digit b || b == 95

-- letters, digits and `_`, of which the first is no digit
abbrev pub is_name : List ℕ → Bool
is_name [] = false
is_name (b ∷ bs) = not (is_ascii_digit b) && list_all is_name_byte (b ∷ bs)

-- a parameter's name; and the value after `=`, if there is one
abbrev pub Named : Type 0
Named = List ℕ × Option (List ℕ)

abbrev pub is_equals : ℕ → Bool
is_equals b = b == 61

-- what stands before and after the first `=`
abbrev pub parts_at_equals : List ℕ → Option (List ℕ × List ℕ)
parts_at_equals t = if nat_lt (position_or_len is_equals t) (length t) then Some (before_first is_equals t, after_first is_equals t) else None

-- a name before `=` with the value after it; or a name alone
abbrev pub name_and_value : List ℕ → Option (List ℕ × List ℕ) → Named
name_and_value t None = (t, None)
name_and_value t (Some p) = (p.0, Some p.1)

abbrev pub if_name : Named → Option Named
if_name p = if is_name p.0 then Some p else None

abbrev pub named : List ℕ → Option Named
named t = if_name (name_and_value t (parts_at_equals t))

abbrev pub after_dash : List ℕ → Option (List ℕ)
after_dash [] = None
after_dash (b ∷ bs) = if b == 45 then Some bs else None

-- the parameter that a word sets: `--NAME` or `--NAME=VALUE`
abbrev pub parameter_in : List ℕ → Option Named
parameter_in w = option_and_then named (option_and_then after_dash (after_dash w))

abbrev pub begins_with_digit : List ℕ → Bool
begins_with_digit [] = false
begins_with_digit (b ∷ bs) = is_ascii_digit b

-- whether the word after `--NAME` is its value: it doesn't begin with `-`, or a digit follows that
abbrev pub is_value : List ℕ → Bool
is_value [] = true
is_value (b ∷ bs) = not (b == 45) || begins_with_digit bs

abbrev pub number_or_text : Option ℤ → List ℕ → Plain
number_or_text (Some n) w = int n
number_or_text None w = text w

-- `true` and `false` are truth values, an integer is a number, and all else is text
abbrev pub value_of : List ℕ → Plain
value_of w =
    if bytes_eq w (codes "true") then truth true
    else if bytes_eq w (codes "false") then truth false
    else number_or_text (integer_in w) w
