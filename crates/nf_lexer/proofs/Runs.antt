-- Runs of bytes that pass a test.
use Rattle.std.proofs.Common.{◌≡◌, ℕ, zero, suc, ◌+◌, ◌≤◌, ◌<◌, Bool, true, false, cond, List, [], ◌∷◌, length, refl, sym, ap, ◌∙◌, subst, arith}
use Rattle.std.specs.Prelude.{take_while}
use Rattle.std.specs.List.{prefix_len, list_all, AllPass}
use Rattle.std.specs.Char.{is_ascii_digit}
use Rattle.std.specs.Str.{IsAscii, IsUtf8, is_utf8}
use Rattle.std.specs.Str.Lossy.{utf8_valid_len}
use Rattle.std.proofs.lemmas.Bool.Decides.{nat_tests}
use Rattle.std.proofs.lemmas.List.{length-take-le}
use Rattle.std.proofs.lemmas.List.Sums.{prefix_len-le-length, take_while-cons, AllPass-from_list_all}
use Rattle.std.proofs.lemmas.Str.{IsUtf8-from_is_utf8, is_utf8-from_IsUtf8}
use Rattle.nf_value.specs.declared.place.Place.{Place}
use Rattle.nf_lexer.specs.declared.fault.LexFault.TheVariants.{BadByte}
use Rattle.nf_lexer.specs.declared.open.Change.{Change}
use Rattle.nf_lexer.specs.Bytes.{is_in_name}
use Rattle.nf_lexer.specs.declared.open.Change.TheVariants.{Keep}
use Rattle.nf_lexer.specs.Front.{Item, written, passes, broken, checked}
use Rattle.nf_lexer.specs.Place.{beyond}

run_if : (q : ℕ → Bool) (c : Bool) (b : ℕ) (w : List ℕ) → (c ≡ true → q b ≡ true) → list_all q w ≡ true → list_all q (cond c (b ∷ w) []) ≡ true
run_if q true b w h k = rw (h refl) k
run_if q false b w h k = refl

-- what the bytes of a run pass, all of it passes
pub all_of_run : (p q : ℕ → Bool) → ((b : ℕ) → p b ≡ true → q b ≡ true) → (bs : List ℕ) → list_all q (take_while p bs) ≡ true
all_of_run p q h [] = refl
all_of_run p q h (b ∷ bs) = ap (list_all q) (take_while-cons p b bs) ∙ run_if q (p b) b (take_while p bs) (h b) (all_of_run p q h bs)

pub run_le : (p : ℕ → Bool) (bs : List ℕ) → length (take_while p bs) ≤ length bs
run_le p bs = omega (arith, length-take-le (prefix_len p bs) bs (prefix_len-le-length p bs), prefix_len-le-length p bs)

pub run_some : (p : ℕ → Bool) (b : ℕ) (bs : List ℕ) → p b ≡ true → 0 < length (take_while p (b ∷ bs))
run_some p b bs k =
    let one : prefix_len p (b ∷ bs) ≡ 1 + prefix_len p bs = rw k refl in
    omega (arith, one, length-take-le (prefix_len p (b ∷ bs)) (b ∷ bs) (prefix_len-le-length p (b ∷ bs)))

-- ---- names are ASCII, numbers are digits

pub ascii_cons : (b : ℕ) (w : List ℕ) → b < 128 → IsAscii w → IsAscii (b ∷ w)
ascii_cons b w h k zero = h
ascii_cons b w h k (suc i) = k i

ascii_if : (c : Bool) (b : ℕ) (w : List ℕ) → (c ≡ true → b < 128) → IsAscii w → IsAscii (cond c (b ∷ w) [])
ascii_if true b w h k = ascii_cons b w (h refl) k
ascii_if false b w h k = λ i. omega arith

name_below : (b : ℕ) → is_in_name b ≡ true → b < 128
name_below b h = grind (arith, nat_tests)

pub name_ascii : (bs : List ℕ) → IsAscii (take_while is_in_name bs)
name_ascii [] = λ i. omega arith
name_ascii (b ∷ bs) = subst IsAscii (sym (take_while-cons is_in_name b bs)) (ascii_if (is_in_name b) b (take_while is_in_name bs) (name_below b) (name_ascii bs))

pub number_digits : (bs : List ℕ) → AllPass is_ascii_digit (take_while is_ascii_digit bs)
number_digits bs = AllPass-from_list_all is_ascii_digit _ (all_of_run is_ascii_digit is_ascii_digit (λ b h. h) bs)

-- ---- runs that are UTF-8, and others

pub checked_good : (place : Place) (w : List ℕ) (item : Item) (change : Change) → IsUtf8 w → checked place w item change ≡ passes item change (length w)
checked_good place w item change u = rw (is_utf8-from_IsUtf8 w u) refl

not_true : (c : Bool) → (c ≡ true → ⊥) → c ≡ false
not_true true h = absurd (h refl)
not_true false h = refl

pub checked_bad : (place : Place) (w : List ℕ) (item : Item) (change : Change) → ¬ (IsUtf8 w) → checked place w item change ≡ broken (BadByte (beyond (utf8_valid_len w) place))
checked_bad place w item change u =
    let e : is_utf8 w ≡ false = not_true (is_utf8 w) (λ h. u (IsUtf8-from_is_utf8 w h)) in
    rw e refl

pub run_good : (place : Place) (run w : List ℕ) → run ≡ w → IsUtf8 w → passes (written run) Keep (length run) ≡ checked place w (written w) Keep
run_good place run w e u = ap (λ (z : List ℕ). passes (written z) Keep (length z)) e ∙ sym (checked_good place w (written w) Keep u)

pub run_bad : (place p : Place) (w : List ℕ) (item : Item) (change : Change) (n m : ℕ) → ¬ (IsUtf8 w) → p ≡ beyond n place → n ≡ m → m ≡ utf8_valid_len w → broken (BadByte p) ≡ checked place w item change
run_bad place p w item change n m u e a b = ap (λ (z : Place). broken (BadByte z)) (e ∙ ap (λ (k : ℕ). beyond k place) (a ∙ b)) ∙ sym (checked_bad place w item change u)
