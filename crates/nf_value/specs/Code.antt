-- The code of a value: bytes from which the value can be read back.
use Rattle.std.specs.Prelude.{ℕ, suc, List, [], ◌++◌, length, true, false, codes, decimal}
use Rattle.std.specs.Fmt.{signed_decimal}
use Rattle.hex.specs.Hex.{encode_lower}
use Rattle.nf_value.specs.Plain.{Plain, null, truth, int, text, file, list, table, Plains, no_items, item, PlainPairs, no_pairs, pair}

abbrev pub count : Plains → ℕ
count no_items = 0
count (item v vs) = suc (count vs)

abbrev pub count_pairs : PlainPairs → ℕ
count_pairs no_pairs = 0
count_pairs (pair k v ps) = suc (count_pairs ps)

-- a letter, a number and a colon
abbrev pub head_code : List ℕ → ℕ → List ℕ
head_code letter n = letter ++ decimal n ++ codes ":"

abbrev pub int_code : List ℕ → List ℕ
int_code digits = codes "i" ++ digits ++ codes ";"

abbrev pub text_code : List ℕ → List ℕ
text_code t = head_code (codes "s") (length t) ++ t

-- a file's name, then its digest in 64 hexadecimal digits, then its length
abbrev pub file_code : List ℕ → List ℕ → ℕ → List ℕ
file_code n d l = head_code (codes "p") (length n) ++ n ++ encode_lower d ++ decimal l ++ codes ";"

abbrev mutual
  pub code : Plain → List ℕ
  code null = codes "n"
  code (truth true) = codes "t"
  code (truth false) = codes "f"
  code (int i) = int_code (signed_decimal i)
  code (text t) = text_code t
  code (file n d l) = file_code n d l
  code (list vs) = head_code (codes "l") (count vs) ++ all_code vs
  code (table ps) = head_code (codes "m") (count_pairs ps) ++ pairs_code ps

  pub all_code : Plains → List ℕ
  all_code no_items = []
  all_code (item v vs) = code v ++ all_code vs

  pub pairs_code : PlainPairs → List ℕ
  pairs_code no_pairs = []
  pairs_code (pair k v ps) = text_code k ++ (code v ++ pairs_code ps)
