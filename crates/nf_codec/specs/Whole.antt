-- Whole values: those that a program can hold.
use Rattle.std.specs.Prelude.{◌≡◌, ℕ, ◌<◌, ◌^◌, ℤ, pos, negsuc, List, length, true, Option, None, Some, IsUtf8}
use Rattle.nf_value.specs.Plain.{Plain, null, truth, int, text, file, list, table, Plains, no_items, item, PlainPairs, no_pairs, pair}
use Rattle.nf_value.specs.Code.{count, count_pairs}
use Rattle.hex.specs.Hex.{IsBytes}
use Rattle.nf_codec.specs.Reading.{is_above}

-- a text in UTF-8 whose length fits 64 bits
abbrev pub IsWholeText : List ℕ → Type 0
IsWholeText t = IsUtf8 t × (length t < 2 ^ 64)

-- a number of 64 signed bits
abbrev pub IsWholeInt : ℤ → Type 0
IsWholeInt (pos n) = n < 2 ^ 63
IsWholeInt (negsuc n) = n < 2 ^ 63

-- texts are whole, numbers fit 64 signed bits, digests have 32 bytes, counts and lengths fit 64 bits, and keys rise
abbrev mutual
  pub IsWhole : Plain → Type 0
  IsWhole null = Unit {0}
  IsWhole (truth b) = Unit {0}
  IsWhole (int i) = IsWholeInt i
  IsWhole (text t) = IsWholeText t
  IsWhole (file n d l) = IsWholeText n × IsBytes d × (length d ≡ 32) × (l < 2 ^ 64)
  IsWhole (list vs) = (count vs < 2 ^ 64) × AreWhole vs
  IsWhole (table ps) = (count_pairs ps < 2 ^ 64) × ArePairs None ps

  pub AreWhole : Plains → Type 0
  AreWhole no_items = Unit {0}
  AreWhole (item v vs) = IsWhole v × AreWhole vs

  pub ArePairs : Option (List ℕ) → PlainPairs → Type 0
  ArePairs before no_pairs = Unit {0}
  ArePairs before (pair k v ps) = (is_above before k ≡ true) × IsWholeText k × IsWhole v × ArePairs (Some k) ps
