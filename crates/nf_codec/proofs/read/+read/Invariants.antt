use Rattle.std.proofs.Common.{◌≡◌, ◌≤◌, ◌+◌, ◌*◌, ◌-◌, length, drop, map, true, None}
use Rattle.nf_value.specs.View.{plain_of, pair_of, rising}
use Rattle.nf_codec.specs.Fronts.{last_key}
use Rattle.nf_codec.specs.Reading.{read, many, many_pairs}
use Rattle.nf_codec.proofs.Series.{ahead}
use Rattle.nf_codec.proofs.read.+read.Given as goal

abbrev pub decreases-read_value : goal.decreases-read_value
decreases-read_value l = 5 * l.left + 4

abbrev pub decreases-open_head : goal.decreases-open_head
decreases-open_head l = 5 * l.left + 3

abbrev pub decreases-read_list : goal.decreases-read_list
decreases-read_list l = 5 * l.left + 2

abbrev pub decreases-read_map : goal.decreases-read_map
decreases-read_map l = 5 * l.left + 2

abbrev pub decreases-read_many : goal.decreases-read_many
decreases-read_many l = 5 * l.left + 5

abbrev pub decreases-read_pairs : goal.decreases-read_pairs
decreases-read_pairs l = 5 * l.left + 6

abbrev pub decreases-read_pair : goal.decreases-read_pair
decreases-read_pair l = 5 * l.left + 5

abbrev pub invariant-read_many-loop : goal.invariant-read_many-loop
invariant-read_many-loop l =
    (many (read l.left) l.count (drop l.at l.bytes) ≡ ahead (map plain_of l.items.items) (many (read l.left) (l.count - l.counter) (drop l.next l.bytes)))
    × (l.next ≤ length l.bytes)

abbrev pub invariant-read_pairs-loop : goal.invariant-read_pairs-loop
invariant-read_pairs-loop l =
    (many_pairs (read l.left) l.count None (drop l.at l.bytes)
    ≡ ahead (map pair_of l.items.items) (many_pairs (read l.left) (l.count - l.counter) (last_key None (map pair_of l.items.items)) (drop l.next l.bytes)))
    × (l.next ≤ length l.bytes)
    × (rising (map pair_of l.items.items) ≡ true)
