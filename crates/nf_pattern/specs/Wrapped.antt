-- The regular expression that is built from a text.
use Rattle.std.specs.Prelude.{ℕ, List, ◌++◌, codes}

-- `re` between the anchors of the start and the end of a text
abbrev pub wrapped : List ℕ → List ℕ
wrapped re = codes "\\A(?:" ++ re ++ codes ")\\z"
