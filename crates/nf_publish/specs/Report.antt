-- The report of a run that ended well.
use Rattle.std.specs.Prelude.{ℕ, List, [], ◌∷◌, ◌++◌, map, codes}
use Rattle.std.specs.List.{flat_map}
use Rattle.hex.specs.Hex.{encode_lower}
use Rattle.nf_value.specs.Plain.{Plain, text}
use Rattle.nf_value.specs.Text.{value_text}
use Rattle.nf_bag.specs.Sorted.{sorted_of, distinct_of}
use Rattle.nf_tasks.specs.declared.target_list.Target.{Target}
use Rattle.nf_publish.specs.Targets.{IsFirstClash}
use Rattle.nf_publish.specs.declared.fault.PublishFault.{PublishFault}
use Rattle.nf_publish.specs.declared.fault.PublishFault.TheVariants as fault

-- the lines of a `view`: the texts of its values, in the order of values
abbrev pub view_lines : List Plain → List (List ℕ)
view_lines bag = map value_text (sorted_of bag)

-- a file that is published: its path, and its digest in hexadecimal digits
abbrev pub publish_line : Target → List ℕ
publish_line t = codes "publish " ++ t.name ++ codes " " ++ encode_lower t.digest.0

abbrev pub publish_texts : List Target → List Plain
publish_texts ts = map (λ t. text (publish_line t)) ts

-- the lines of the files that are published, in the order of their bytes, each once
abbrev pub publish_lines : List Target → List (List ℕ)
publish_lines ts = map value_text (distinct_of (publish_texts ts))

-- first the views, in their order, then what is published
abbrev pub report_lines : List (List Plain) → List Target → List (List ℕ)
report_lines views ts = flat_map view_lines views ++ publish_lines ts

-- a line with its end
abbrev pub ended : List ℕ → List ℕ
ended line = line ++ 10 ∷ []

abbrev pub lines_text : List (List ℕ) → List ℕ
lines_text lines = flat_map ended lines

abbrev pub report_text : List (List Plain) → List Target → List ℕ
report_text views ts = lines_text (report_lines views ts)

-- why there is no report
abbrev pub IsCause : List Target → PublishFault → Type 0
IsCause ts (fault.Clash c) = IsFirstClash ts c
IsCause ts fault.Mem = Unit {0}
