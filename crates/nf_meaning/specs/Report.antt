-- The report of a meaning, and what its deliveries cost.
use Rattle.std.specs.Prelude.{ℕ, List, [], ◌∷◌, ◌++◌, map, codes, sum_by}
use Rattle.std.specs.List.{flat_map}
use Rattle.hex.specs.Hex.{encode_lower}
use Rattle.nf_value.specs.Plain.{Plain, text}
use Rattle.nf_value.specs.Text.{value_text}
use Rattle.nf_bag.specs.Bag.{IsSameBag}
use Rattle.nf_bag.specs.Sorted.{sorted_of, distinct_of}
use Rattle.nf_graph.specs.Meaning.{cost}
use Rattle.nf_tasks.specs.declared.target_list.Target.{Target}
use Rattle.nf_meaning.specs.Meaning.{ScriptMeaning}

-- the lines of a `view`: its values in rising order
abbrev pub view_lines : List Plain → List (List ℕ)
view_lines bag = map value_text (sorted_of bag)

abbrev pub publish_line : Target → List ℕ
publish_line t = codes "publish " ++ t.name ++ codes " " ++ encode_lower t.digest.0

abbrev pub publish_texts : List Target → List Plain
publish_texts ts = map (λ t. text (publish_line t)) ts

-- the lines of files that are published, in the order of their bytes, each once
abbrev pub publish_lines : List Target → List (List ℕ)
publish_lines ts = map value_text (distinct_of (publish_texts ts))

abbrev pub lines_of : ScriptMeaning → List (List ℕ)
lines_of m = flat_map view_lines m.views ++ publish_lines m.targets

-- each line with a line end
abbrev pub report_of : ScriptMeaning → List ℕ
report_of m = flat_map (λ line. line ++ 10 ∷ []) (lines_of m)

-- ---- the charge

abbrev pub bag_cost : List Plain → ℕ
bag_cost bag = sum_by cost bag

abbrev pub charge_of : ScriptMeaning → ℕ
charge_of m = sum_by bag_cost m.deliveries

-- ---- what the report and the charge depend on

-- the same bags, one by one
abbrev pub AreSameBags : List (List Plain) → List (List Plain) → Type 0
AreSameBags [] [] = Unit {0}
AreSameBags (a ∷ more) (b ∷ others) = IsSameBag a b × AreSameBags more others
AreSameBags [] (b ∷ others) = ⊥
AreSameBags (a ∷ more) [] = ⊥

-- the same views, and the same files that are published, each in any order
pub record ShowsSame (m n : ScriptMeaning) : Type 0 where
  pub views : AreSameBags m.views n.views
  pub targets : IsSameBag (publish_texts m.targets) (publish_texts n.targets)
