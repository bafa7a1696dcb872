-- The text of a script: a template's text without a line end at its start and without the indentation of all its lines.
use Rattle.std.specs.Prelude.{ℕ, min, ◌==◌, ◌||◌, List, [], ◌∷◌, map, filter, drop, Bool, not, unwrap_or, if◌then◌else◌}
use Rattle.std.specs.List.{slice_split, join_by, list_all, prefix_len, reduce}

-- the line end is a line feed
abbrev pub is_line_end : ℕ → Bool
is_line_end b = b == 10

-- a blank is a space or a tab
abbrev pub is_blank : ℕ → Bool
is_blank b = (b == 32) || (b == 9)

-- how many blanks a line begins with
abbrev pub indent_of : List ℕ → ℕ
indent_of line = prefix_len is_blank line

-- a line has more than blanks
abbrev pub is_filled : List ℕ → Bool
is_filled line = not (list_all is_blank line)

-- how many blanks every filled line begins with; 0 if no line is filled
abbrev pub margin_of : List (List ℕ) → ℕ
margin_of lines = unwrap_or (reduce min (map indent_of (filter is_filled lines))) 0

-- a line without that many leading blanks, or without all if it has fewer
abbrev pub outdented : ℕ → List ℕ → List ℕ
outdented margin line = drop (min margin (indent_of line)) line

-- the lines, with line ends between them
abbrev pub joined : List (List ℕ) → List ℕ
joined = join_by (λ line. line) (10 ∷ [])

-- the lines without their shared indentation
abbrev pub flush_left : List (List ℕ) → List (List ℕ)
flush_left lines = map (outdented (margin_of lines)) lines

-- a text without its lines' shared indentation
abbrev pub without_margin : List ℕ → List ℕ
without_margin t = joined (flush_left (slice_split is_line_end t))

-- a text without a line end at its start
abbrev pub without_line_end : List ℕ → List ℕ
without_line_end [] = []
without_line_end (b ∷ bs) = if is_line_end b then bs else b ∷ bs

-- the text of a script, from its template's text
abbrev pub script_text : List ℕ → List ℕ
script_text t = without_margin (without_line_end t)
