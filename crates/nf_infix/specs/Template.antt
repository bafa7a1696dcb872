-- The text of a template.
use Rattle.std.specs.Prelude.{◌≡◌, ℕ, ◌≤◌, ◌^◌, min, Bool, true, false, ◌&&◌, List, [], ◌∷◌, ◌++◌, length, codes, string_bytes, flat_map, if◌then◌else◌}
use Rattle.std.specs.List.{list_all}
use Rattle.nf_value.specs.Plain.{Plain, null, truth, int, text, file, list, table}
use Rattle.nf_value.specs.Text.{value_text}
use Rattle.nf_texts.specs.Args.{items_of}
use Rattle.nf_infix.specs.declared.templates.Written.{Written}

abbrev pub is_file : Plain → Bool
is_file (file n d l) = true
is_file null = false
is_file (truth b) = false
is_file (int i) = false
is_file (text t) = false
is_file (list vs) = false
is_file (table ps) = false

-- the items of a list; none for any other value
abbrev pub listed : Plain → List Plain
listed (list vs) = items_of vs
listed null = []
listed (truth b) = []
listed (int i) = []
listed (text t) = []
listed (file n d l) = []
listed (table ps) = []

-- one file or more, and nothing else
abbrev pub are_files : List Plain → Bool
are_files [] = false
are_files (v ∷ vs) = list_all is_file (v ∷ vs)

-- texts, each after a blank
abbrev pub after_blanks : List Plain → List ℕ
after_blanks vs = flat_map (λ v. codes " " ++ value_text v) vs

-- texts with a blank between each two
abbrev pub with_blanks : List Plain → List ℕ
with_blanks [] = []
with_blanks (v ∷ vs) = value_text v ++ after_blanks vs

-- the text of a hole: the text of its value, but in a process files' names with blanks between them
abbrev pub hole_text : Bool → Plain → List ℕ
hole_text in_process v = if in_process && are_files (listed v) then with_blanks (listed v) else value_text v

-- t was written. It is kept while it has at most 2 ^ 24 bytes
abbrev pub IsWritten : List ℕ → Written → Type 0
IsWritten t w = (w.len ≡ min (length t) (2 ^ 32)) × (w.len ≤ 2 ^ 24 → string_bytes w.text ≡ t)
