-- What an escape stands for is UTF-8.
use Rattle.std.proofs.Common.{◌≡◌, ℕ, ◌≤◌, ◌<◌, Bool, true, false, cond, List, [], ◌∷◌, Option, Some, None, refl, subst, arith}
use Rattle.std.specs.Prelude.{◌==◌, ◌&&◌, encode_utf8}
use Rattle.std.specs.Char.{IsScalar, digit_value, is_ascii_hexdigit}
use Rattle.std.specs.Int.{is_in_range}
use Rattle.std.specs.Str.{IsUtf8}
use Rattle.std.specs.Str.Parse.{digits_value}
use Rattle.std.proofs.lemmas.Bool.Decides.{nat_tests}
use Rattle.std.proofs.lemmas.Str.{IsUtf8-nil, IsUtf8-encode, IsUtf8-from_ascii}
use Rattle.nf_lexer.specs.Escape.{escaped, hex_number, character}
use Rattle.nf_lexer.proofs.Runs.{ascii_cons}

-- ---- one byte of ASCII

pub byte_utf8 : (b : ℕ) → b < 128 → IsUtf8 (b ∷ [])
byte_utf8 b h = IsUtf8-from_ascii (b ∷ []) (ascii_cons b [] h (λ i. omega arith))

abbrev Utf8If : Option (List ℕ) → Type 0
Utf8If (Some x) = IsUtf8 x
Utf8If None = Unit {0}

if_utf8 : (c : Bool) (x y : Option (List ℕ)) → Utf8If x → Utf8If y → Utf8If (cond c x y)
if_utf8 true x y h k = h
if_utf8 false x y h k = k

escaped_by : (c : ℕ) → Utf8If (escaped c)
escaped_by c =
    if_utf8 (c == 110) _ _ (byte_utf8 10 (omega arith))
    (if_utf8 (c == 116) _ _ (byte_utf8 9 (omega arith))
    (if_utf8 (c == 114) _ _ (byte_utf8 13 (omega arith))
    (if_utf8 (c == 98) _ _ (byte_utf8 8 (omega arith))
    (if_utf8 (c == 102) _ _ (byte_utf8 12 (omega arith))
    (if_utf8 (c == 92) _ _ (byte_utf8 92 (omega arith))
    (if_utf8 (c == 39) _ _ (byte_utf8 39 (omega arith))
    (if_utf8 (c == 34) _ _ (byte_utf8 34 (omega arith))
    (if_utf8 (c == 36) _ _ (byte_utf8 36 (omega arith))
    (if_utf8 (c == 10) _ _ IsUtf8-nil tt)))))))))

-- ---- a character by its number

digit_small : (c : ℕ) → digit_value c ≤ 36
digit_small c = grind (arith, nat_tests)

four_small : (a b c d : ℕ) → digits_value 16 (a ∷ b ∷ c ∷ d ∷ []) < 1114112
four_small a b c d = omega (arith, digit_small a, digit_small b, digit_small c, digit_small d)

scalar_by : (n : ℕ) → n < 1114112 → is_in_range 55296 57343 n ≡ false → IsScalar n
scalar_by n h k = grind (arith, nat_tests)

number_utf8 : (n : ℕ) → n < 1114112 → Utf8If (character (Some n))
number_utf8 n h = by (is_in_range 55296 57343 n) refl
  where
    by : (c : Bool) → is_in_range 55296 57343 n ≡ c → Utf8If (cond c None (Some (encode_utf8 n)))
    by true e = tt
    by false e = IsUtf8-encode n (scalar_by n h e)

if_number : (c : Bool) (n : ℕ) → n < 1114112 → Utf8If (character (cond c (Some n) None))
if_number true n h = number_utf8 n h
if_number false n h = tt

character_by : (bs : List ℕ) → Utf8If (character (hex_number bs))
character_by [] = tt
character_by (a ∷ []) = tt
character_by (a ∷ b ∷ []) = tt
character_by (a ∷ b ∷ c ∷ []) = tt
character_by (a ∷ b ∷ c ∷ d ∷ bs) =
    if_number ((is_ascii_hexdigit a && is_ascii_hexdigit b) && (is_ascii_hexdigit c && is_ascii_hexdigit d)) (digits_value 16 (a ∷ b ∷ c ∷ d ∷ [])) (four_small a b c d)

-- ---- where it stands for something

pub escaped_utf8 : (c : ℕ) (x : List ℕ) → escaped c ≡ Some x → IsUtf8 x
escaped_utf8 c x e = subst Utf8If e (escaped_by c)

pub character_utf8 : (bs x : List ℕ) → character (hex_number bs) ≡ Some x → IsUtf8 x
character_utf8 bs x e = subst Utf8If e (character_by bs)
