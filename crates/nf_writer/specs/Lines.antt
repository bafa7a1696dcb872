-- How the parts of a body stand: each on a line of its own, or all on one line.
use Rattle.std.specs.Prelude.{ℕ, Bool, true, false, List, [], ◌∷◌, ◌++◌, codes}
use Rattle.nf_writer.specs.Ink.{Ink, separator, blank, line}

pub data Layout : Type 0 where
  -- each part on a line that begins with these blanks
  lines : List ℕ → Layout
  -- all parts on one line
  inline : Layout

abbrev pub is_inline : Layout → Bool
is_inline inline = true
is_inline (lines margin) = false

-- inside one more pair of braces
abbrev pub deeper : Layout → Layout
deeper (lines margin) = lines (margin ++ codes "    ")
deeper inline = inline

-- what stands before the first part, between parts, and after the last
abbrev pub before_first : Layout → List Ink
before_first (lines margin) = line margin ∷ []
before_first inline = blank ∷ []

abbrev pub between : Layout → List Ink
between (lines margin) = line margin ∷ []
between inline = separator ∷ blank ∷ []

abbrev pub after_last : Layout → List Ink
after_last = before_first

-- outside of all braces, lines begin with no blank
abbrev pub outside : Layout
outside = lines []
