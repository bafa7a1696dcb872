-- Reading a trace, line by line.
use Rattle.std.specs.Prelude.{◌≡◌, ℕ, suc, ◌==◌, ◌&&◌, Bool, true, false, not, nat_lt, List, [], ◌∷◌, Option, Some, None, Result, Ok, Err, if◌then◌else◌, bytes_eq}
use Rattle.std.specs.Str.{is_utf8}
use Rattle.std.specs.Global.{Vec}
use Rattle.std.specs.Char.{is_ascii_digit}
use Rattle.std.specs.List.{slice_split, list_all}
use Rattle.std.specs.Str.Parse.{digits_value}
use Rattle.nf_trace.specs.declared.line.TraceLine.{TraceLine}
use Rattle.nf_trace.specs.declared.fault.TraceFault.{TraceFault}
use Rattle.nf_trace.specs.declared.fault.TraceFault.TheVariants.{NotATrace, Mem}
use Rattle.nf_trace.specs.Last.{last_of}
use Rattle.nf_trace.specs.Line.{header}

abbrev pub is_line_end : ℕ → Bool
is_line_end b = b == 10

-- the parts of a text between its line ends; the last of them has no line end
abbrev pub between_line_ends : List ℕ → List (List ℕ)
between_line_ends = slice_split is_line_end

-- the parts of a line between its tabs
abbrev pub columns : List ℕ → List (List ℕ)
columns = slice_split (λ b. b == 9)

-- there is a digit, and no 0 stands first
abbrev pub is_unpadded : List ℕ → Bool
is_unpadded [] = false
is_unpadded (d ∷ ds) = not (d == 48)

-- a decimal number of at least 1, without leading zeros
abbrev pub is_number : List ℕ → Bool
is_number ds = is_unpadded ds && list_all is_ascii_digit ds

-- the first number is below the second; no digits are 0
abbrev pub is_below : List ℕ → List ℕ → Bool
is_below a b = nat_lt (digits_value 10 a) (digits_value 10 b)

-- the five columns of a line, of which the first is a number above the last one
abbrev pub line_after : List ℕ → List (List ℕ) → Option TraceLine
line_after last (id ∷ hash ∷ name ∷ status ∷ exit ∷ []) =
    if is_number id && is_below last id then Some (record { task_id = id; hash = hash; name = name; status = status; exit = exit }) else None
line_after last _ = None

abbrev pub line_in : List ℕ → List ℕ → Option TraceLine
line_in last text = if is_utf8 text then line_after last (columns text) else None

-- a line, then those that come after it
abbrev pub with_line : TraceLine → Result (List TraceLine) ℕ → Result (List TraceLine) ℕ
with_line l (Ok ls) = Ok (l ∷ ls)
with_line l (Err at) = Err at

-- the line if there is one, and what comes after it; else this number
abbrev pub after_line : ℕ → Option TraceLine → (TraceLine → Result (List TraceLine) ℕ) → Result (List TraceLine) ℕ
after_line at None rest = Err at
after_line at (Some l) rest = with_line l (rest l)

-- after the last line end there is nothing
abbrev pub at_end : ℕ → List ℕ → Result (List TraceLine) ℕ
at_end at [] = Ok []
at_end at (b ∷ bs) = Err at

-- the lines of these parts, or the number of the first part that is no line. The parts have numbers from `at` on, and the numbers of tasks
-- rise from above the last one
abbrev pub lines_in : ℕ → List ℕ → List (List ℕ) → Result (List TraceLine) ℕ
lines_in at last [] = Err at
lines_in at last (text ∷ []) = at_end at text
lines_in at last (text ∷ next ∷ texts) = after_line at (line_in last text) (λ l. lines_in (suc at) l.task_id (next ∷ texts))

-- the first line, and the parts after it
abbrev pub after_first : List ℕ → List (List ℕ) → Result (List TraceLine) ℕ
after_first first parts = if bytes_eq first header then lines_in 2 [] parts else Err 1

abbrev pub lines_after_header : List (List ℕ) → Result (List TraceLine) ℕ
lines_after_header (first ∷ next ∷ texts) = after_first first (next ∷ texts)
lines_after_header _ = Err 1

-- the lines of a trace; or the number, from 1, of the first line that is none of a trace
unfoldable pub reading : List ℕ → Result (List TraceLine) ℕ
reading bytes = lines_after_header (between_line_ends bytes)

-- the lines that were read, or the place of the first that is none, unless memory ran out
abbrev pub Reads : Result (List TraceLine) ℕ → Result (Vec TraceLine) TraceFault → Type 0
Reads due (Ok v) = due ≡ Ok v.items
Reads due (Err (NotATrace at)) = due ≡ Err at
Reads due (Err Mem) = Unit {0}

-- a number, or no digits
abbrev pub IsNumberOrNone : List ℕ → Type 0
IsNumberOrNone [] = Unit {0}
IsNumberOrNone (d ∷ ds) = is_number (d ∷ ds) ≡ true

-- the number of the last of these lines, or no digits
abbrev pub last_number : List TraceLine → List ℕ
last_number [] = []
last_number (l ∷ ls) = (last_of l ls).task_id
