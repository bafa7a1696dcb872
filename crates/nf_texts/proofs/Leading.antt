-- Joined texts of the items that a loop has left.
use Rattle.std.proofs.Common.{◌≡◌, ℕ, ◌+◌, ◌<◌, ◌≤◌, ◌^◌, min, List, [], ◌∷◌, ◌++◌, length, map, drop, get_or, refl, ap, sym, ◌∙◌, arith, append_assoc, append-nil, length-append, flat_map}
use Rattle.std.proofs.lemmas.List.{nil_from_length, length-drop}
use Rattle.nf_value.specs.Plain.{Plain}
use Rattle.nf_value.specs.View.{plain_of}
use Rattle.nf_value.specs.Text.{value_text}
use Rattle.nf_value.specs.declared.value.Value.{Value}
use Rattle.nf_texts.specs.Joined.{joined}
use Rattle.nf_texts.proofs.Remaining.{left_at}

-- the texts of these values, the first after one text, each other after another
abbrev pub led : List ℕ → List ℕ → List Plain → List ℕ
led before between [] = []
led before between (v ∷ vs) = before ++ value_text v ++ flat_map (λ w. between ++ value_text w) vs

led-between : (between : List ℕ) (vs : List Plain) → led between between vs ≡ flat_map (λ w. between ++ value_text w) vs
led-between between [] = refl
led-between between (v ∷ vs) = refl

pub led-nil : (between : List ℕ) (vs : List Plain) → led [] between vs ≡ joined between vs
led-nil between [] = refl
led-nil between (v ∷ vs) = refl

abbrev pub left : List Value → ℕ → List Plain
left xs i = map plain_of (drop i xs)

pub led_at : (before between : List ℕ) (xs : List Value) (i : ℕ) (x : Value) → i < length xs → x ≡ get_or xs i x → led before between (left xs i) ≡ (before ++ value_text (plain_of x)) ++ led between between (left xs (i + 1))
led_at before between xs i x h is =
    ap (led before between) (left_at xs i x h is) ∙ ap (λ l. (before ++ value_text (plain_of x)) ++ l) (sym (led-between between (left xs (i + 1))))

pub nothing_left : (before between : List ℕ) (xs : List Value) (i : ℕ) → length xs ≤ i → led before between (left xs i) ≡ []
nothing_left before between xs i h = ap (λ l. led before between (map plain_of l)) (nil_from_length (drop i xs) (omega (arith, length-drop i xs)))

pub text_more : (before between : List ℕ) (xs : List Value) (i : ℕ) (x : Value) (old new all : List ℕ) → i < length xs → x ≡ get_or xs i x → new ≡ old ++ (before ++ value_text (plain_of x)) → old ++ led before between (left xs i) ≡ all → new ++ led between between (left xs (i + 1)) ≡ all
text_more before between xs i x old new all h is e inv =
    ap (λ l. l ++ led between between (left xs (i + 1))) e ∙ append_assoc old (before ++ value_text (plain_of x)) (led between between (left xs (i + 1)))
    ∙ ap (λ l. old ++ l) (sym (led_at before between xs i x h is)) ∙ inv

pub text_done : (before between : List ℕ) (xs : List Value) (vs : List Plain) (i : ℕ) (out : List ℕ) → map plain_of xs ≡ vs → length xs ≤ i → out ++ led before between (left xs i) ≡ joined between (left xs 0) → out ≡ joined between vs
text_done before between xs vs i out is h inv = sym (append-nil out) ∙ ap (λ l. out ++ l) (sym (nothing_left before between xs i h)) ∙ inv ∙ ap (joined between) is

pub len_more : (before between : List ℕ) (xs : List Value) (i : ℕ) (x : Value) (len one size next all : ℕ) → i < length xs → x ≡ get_or xs i x → one ≡ min (len + length before) (2 ^ 32) → size ≡ min (length (value_text (plain_of x))) (2 ^ 32) → next ≡ min (one + size) (2 ^ 32) → min (len + length (led before between (left xs i))) (2 ^ 32) ≡ all → min (next + length (led between between (left xs (i + 1)))) (2 ^ 32) ≡ all
len_more before between xs i x len one size next all h is e f g inv =
    omega (arith, ap length (led_at before between xs i x h is), length-append (before ++ value_text (plain_of x)) (led between between (left xs (i + 1))), length-append before (value_text (plain_of x)))

pub len_done : (before between : List ℕ) (xs : List Value) (vs : List Plain) (i len : ℕ) → map plain_of xs ≡ vs → length xs ≤ i → len ≤ 2 ^ 32 → min (len + length (led before between (left xs i))) (2 ^ 32) ≡ min (length (joined between (left xs 0))) (2 ^ 32) → len ≡ min (length (joined between vs)) (2 ^ 32)
len_done before between xs vs i len is h small inv = omega (arith, ap length (nothing_left before between xs i h), ap (λ l. length (joined between l)) is)
