-- Which values count as true.
use Rattle.std.specs.Prelude.{pos, zero, suc, negsuc, [], ◌∷◌, Bool, true, false}
use Rattle.nf_value.specs.Plain.{Plain, null, truth, int, text, file, list, table, no_items, item, no_pairs, pair}

-- null, false, 0 and what is empty are false, all else is true
abbrev pub truth_of : Plain → Bool
truth_of null = false
truth_of (truth b) = b
truth_of (int (pos zero)) = false
truth_of (int (pos (suc n))) = true
truth_of (int (negsuc n)) = true
truth_of (text []) = false
truth_of (text (b ∷ bs)) = true
truth_of (file n d l) = true
truth_of (list no_items) = false
truth_of (list (item v vs)) = true
truth_of (table no_pairs) = false
truth_of (table (pair k v ps)) = true
