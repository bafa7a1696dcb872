-- The line that `gen` writes in place of a report.
use Rattle.std.specs.Prelude.{ℕ, ◌==◌, List, ◌++◌, length, codes, decimal, count_by}
use Rattle.std.specs.List.{after_last}
use Rattle.std.specs.Io.BufRead.{strip_last}

-- the number of lines of a text: its line ends
abbrev pub line_count : List ℕ → ℕ
line_count text = count_by (λ b. b == 10) text

-- the last line of a text without its line end; where the text doesn't end with one, what stands behind the last line end
abbrev pub last_line : List ℕ → List ℕ
last_line text = after_last (λ b. b == 10) (strip_last 10 text)

-- the line of n items and a start: the lines and bytes of the report, and its last line
abbrev pub gen_line : ℕ → ℕ → List ℕ → List ℕ
gen_line n start report =
    codes "gen " ++ decimal n ++ codes " " ++ decimal start ++ codes " lines " ++ decimal (line_count report)
    ++ codes " bytes " ++ decimal (length report) ++ codes " last " ++ last_line report ++ codes "\n"
