-- Places in a text.
use Rattle.std.specs.Prelude.{ℕ, ◌+◌, ◌-◌, List, length, take, count_by}
use Rattle.std.specs.List.{suffix_len}
use Rattle.nf_value.specs.declared.place.Place.{Place}
use Rattle.nf_lexer.specs.Bytes.{is_line_feed, is_not_line_feed}

-- the place after the front of a text: its line is one more than its line feeds, its column one more than the bytes after the last of them
unfoldable pub place_after : List ℕ → Place
place_after front = record { line = 1 + count_by is_line_feed front; col = 1 + suffix_len is_not_line_feed front }

-- the place in a text at which so many bytes are left
abbrev pub place_of : List ℕ → ℕ → Place
place_of text left = place_after (take (length text - left) text)

-- so many bytes further on the same line
abbrev pub beyond : ℕ → Place → Place
beyond n place = record { line = place.line; col = place.col + n }
