-- The classes of bytes.
use Rattle.std.specs.Prelude.{ℕ, Bool, not, ◌||◌, ◌==◌}
use Rattle.std.specs.Char.{is_ascii_alphabetic, is_ascii_alphanumeric}

-- a blank, a tab or a carriage return
abbrev pub is_blank : ℕ → Bool
is_blank b = b == 32 || b == 9 || b == 13

abbrev pub is_line_feed : ℕ → Bool
is_line_feed b = b == 10

abbrev pub is_not_line_feed : ℕ → Bool
is_not_line_feed b = not (b == 10)

-- a letter or `_`
abbrev pub begins_name : ℕ → Bool
begins_name b = is_ascii_alphabetic b || b == 95

-- a letter, a digit or `_`
abbrev pub is_in_name : ℕ → Bool
is_in_name b = is_ascii_alphanumeric b || b == 95

-- a byte that may mean something in a string: a line feed, `"`, `$`, `'`, `/` or `\`
abbrev pub is_special : ℕ → Bool
is_special b = b == 10 || b == 34 || b == 36 || b == 39 || b == 47 || b == 92

abbrev pub is_ordinary : ℕ → Bool
is_ordinary b = not (is_special b)

-- neither a line feed nor a `*`
abbrev pub is_in_comment : ℕ → Bool
is_in_comment b = not (b == 10 || b == 42)
