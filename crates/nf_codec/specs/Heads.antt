-- Heads at the front of bytes: a whole value, or the letter and count of a list or map.
use Rattle.std.specs.Prelude.{ℕ, suc, zero, ◌^◌, ◌==◌, ◌&&◌, nat_lt, nat_le, not, pos, negsuc, List, [], ◌∷◌, length, take, drop, Bool, true, false, Option, Some, None, if◌then◌else◌, Ok, Err}
use Rattle.std.specs.declared.result.Result.{Result}
use Rattle.std.specs.Char.{is_ascii_digit}
use Rattle.std.specs.List.{take_while}
use Rattle.std.specs.Option.{option_and_then}
use Rattle.std.specs.Str.{is_utf8, bytes_eq}
use Rattle.std.specs.Str.Parse.{digits_value}
use Rattle.hex.specs.Hex.{encode_lower, decode_of}
use Rattle.nf_value.specs.Plain.{Plain, null, truth, int, text, file}

pub data Head : Type 0 where
  -- a value that isn't a list or map
  whole : Plain → Head
  -- a list of this many items
  list_of : ℕ → Head
  -- a map of this many pairs
  table_of : ℕ → Head

-- the digits are a decimal: at least one, and no leading 0
abbrev pub is_decimal : List ℕ → Bool
is_decimal [] = false
is_decimal (d ∷ []) = true
is_decimal (d ∷ e ∷ ds) = not (d == 48)

-- x with the bytes after `end`, if `end` is the next byte
abbrev pub ended_by : {A : Type 0} → ℕ → A → List ℕ → Option (A × List ℕ)
ended_by end x [] = None
ended_by end x (b ∷ bs) = if b == end then Some (x, bs) else None

-- the decimal at the front, which the byte `end` ends, and the bytes after that
abbrev pub decimal_before : ℕ → List ℕ → Option (ℕ × List ℕ)
decimal_before end bs = let ds = take_while is_ascii_digit bs in if is_decimal ds then ended_by end (digits_value 10 ds) (drop (length ds) bs) else None

abbrev pub fits_positive : ℕ × List ℕ → Option (Head × List ℕ)
fits_positive p = if nat_lt p.0 (2 ^ 63) then Some (whole (int (pos p.0)), p.1) else None

-- there is no -0
abbrev pub negative_of : ℕ → List ℕ → Option (Head × List ℕ)
negative_of zero bs = None
negative_of (suc n) bs = if nat_lt n (2 ^ 63) then Some (whole (int (negsuc n)), bs) else None

abbrev pub fits_negative : ℕ × List ℕ → Option (Head × List ℕ)
fits_negative p = negative_of p.0 p.1

abbrev pub int_at : List ℕ → Option (Head × List ℕ)
int_at [] = None
int_at (b ∷ bs) = if b == 45 then option_and_then fits_negative (decimal_before 59 bs) else option_and_then fits_positive (decimal_before 59 (b ∷ bs))

-- the next p.0 bytes, if there are so many and they are UTF-8
abbrev pub cut_text : ℕ × List ℕ → Option (List ℕ × List ℕ)
cut_text p = if nat_le p.0 (length p.1) && is_utf8 (take p.0 p.1) then Some (take p.0 p.1, drop p.0 p.1) else None

-- a length, `:` and a text of that length
abbrev pub counted_text : List ℕ → Option (List ℕ × List ℕ)
counted_text bs = option_and_then cut_text (decimal_before 58 bs)

abbrev pub text_at : List ℕ → Option (Head × List ℕ)
text_at bs = option_and_then (λ p. Some (whole (text p.0), p.1)) (counted_text bs)

-- the bytes that the digits spell, if all are lower-case hexadecimal digits
abbrev pub lower_only : {E : Type 0} → List ℕ → Result (List ℕ) E → Option (List ℕ)
lower_only ds (Ok d) = if bytes_eq (encode_lower d) ds then Some d else None
lower_only ds (Err e) = None

abbrev pub digest_of : List ℕ → Option (List ℕ)
digest_of ds = lower_only ds (decode_of ds)

abbrev pub fits_length : ℕ × List ℕ → Option (ℕ × List ℕ)
fits_length p = if nat_lt p.0 (2 ^ 64) then Some p else None

-- the length of a file, and the bytes after it
abbrev pub file_length : List ℕ → Option (ℕ × List ℕ)
file_length bs = option_and_then fits_length (decimal_before 59 bs)

-- after a file's name: the digest and the length of the file
abbrev pub file_tail : List ℕ → Option ((List ℕ × ℕ) × List ℕ)
file_tail bs = if nat_le 64 (length bs) then option_and_then (λ digest. option_and_then (λ p. Some ((digest, p.0), p.1)) (file_length (drop 64 bs))) (digest_of (take 64 bs)) else None

abbrev pub file_at : List ℕ → Option (Head × List ℕ)
file_at bs = option_and_then (λ p. option_and_then (λ q. Some (whole (file p.0 q.0.0 q.0.1), q.1)) (file_tail p.1)) (counted_text bs)

abbrev pub counted : (ℕ → Head) → List ℕ → Option (Head × List ℕ)
counted h bs = option_and_then (λ p. Some (h p.0, p.1)) (decimal_before 58 bs)

-- the head after its letter
abbrev pub head_after : ℕ → List ℕ → Option (Head × List ℕ)
head_after letter bs =
    if letter == 110 then Some (whole null, bs) else (if letter == 116 then Some (whole (truth true), bs) else (if letter == 102 then Some (whole (truth false), bs)
    else (if letter == 105 then int_at bs else (if letter == 115 then text_at bs else (if letter == 112 then file_at bs
    else (if letter == 108 then counted list_of bs else (if letter == 109 then counted table_of bs else None)))))))

-- the head at the front, and the bytes after it; `None` if there is none
abbrev pub head_at : List ℕ → Option (Head × List ℕ)
head_at [] = None
head_at (b ∷ bs) = head_after b bs
