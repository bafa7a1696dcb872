-- The characters of parts in a row.
use Rattle.std.specs.Prelude.{ℕ, List, [], ◌++◌}
use Rattle.std.specs.Str.{chars}
use Rattle.nf_pattern.specs.declared.parts.Parts.{Parts, fold-Parts}
use Rattle.nf_pattern.specs.declared.parts.Parts.TheOpen.{Parts-F}

abbrev pub characters_step : Parts-F (List ℕ) → List ℕ
characters_step Parts-F.End = []
characters_step (Parts-F.Part part others) = chars part.now ++ others.now

-- where the list names the first part first
abbrev pub characters : Parts → List ℕ
characters = fold-Parts (List ℕ) characters_step

abbrev pub chosen_step : Parts-F (List ℕ) → List ℕ
chosen_step Parts-F.End = []
chosen_step (Parts-F.Part part earlier) = earlier.now ++ chars part.now

-- where the list names the last part first, as the chosen parts are kept
abbrev pub chosen_characters : Parts → List ℕ
chosen_characters = fold-Parts (List ℕ) chosen_step
