-- The script that `gen` runs.
use Rattle.std.specs.Prelude.{ℕ, zero, suc, ◌+◌, ◌*◌, ◌/◌, ◌%◌, ◌^◌, List, [], ◌∷◌, ◌++◌, codes, decimal}
use Rattle.std.specs.List.{join_by}

-- the number after this one, of 64 bits
abbrev pub next : ℕ → ℕ
next x = (x * 6364136223846793005 + 1442695040888963407) % 2 ^ 64

-- the item that a number gives
abbrev pub item_of : ℕ → ℕ
item_of x = x / 2 ^ 33 % 1000

-- the items of the n numbers after this one
abbrev pub items : ℕ → ℕ → List ℕ
items zero x = []
items (suc n) x = item_of (next x) ∷ items n (next x)

-- items as a script has them: `807, 12, 5`
abbrev pub listed : List ℕ → List ℕ
listed = join_by decimal (codes ", ")

abbrev pub before_items : List ℕ
before_items = codes "workflow {\n    ch = channel.of("

abbrev pub after_items : List ℕ
after_items = codes ")\n    ch.map { it * 3 }.filter { it % 2 == 0 }.view()\n    ch.map { [it % 10, it] }.groupTuple().view()\n    ch.reduce { a, b -> a + b }.view()\n}\n"

-- the script of n items
abbrev pub script : ℕ → ℕ → List ℕ
script n start = before_items ++ listed (items n start) ++ after_items
