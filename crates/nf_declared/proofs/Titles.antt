-- Names that a set has.
use Rattle.std.proofs.Common.{◌≡◌, ◌∙◌, ◌≤◌, ◌+◌, ℕ, suc, zero, Bool, true, false, ◌||◌, cond, List, [], ◌∷◌, ◌++◌, Some, None, length, take, string_bytes, refl, sym, ap, arith}
use Rattle.std.specs.Prelude.{String, slice_get}
use Rattle.std.specs.Global.{Global}
use Rattle.std.specs.HashSet.{HashSet, IsEmpty, UpdatesBy, contains_text}
use Rattle.std.specs.List.{list_any}
use Rattle.std.specs.Str.{bytes_eq}
use Rattle.std.specs.String.{string_eq}
use Rattle.std.proofs.lemmas.List.{take_all}
use Rattle.std.proofs.lemmas.Map.Text.{hash_set_updates_text}
use Rattle.nf_builtins.specs.Natives.{is_among}
use Rattle.nf_declared.specs.Names.{HasAlso}

either : (a b : Bool) → cond a true b ≡ (a || b)
either true b = refl
either false b = refl

-- a text that was put in
pub has_also : {S : Type 0} (old new : HashSet (String Global) S) (k : String Global) (n : List ℕ) → string_bytes k ≡ n → UpdatesBy string_eq (string_eq k) old new true → HasAlso n old new
has_also old new k n same h m =
    hash_set_updates_text (string_bytes k) old new true h m ∙ either (bytes_eq (string_bytes k) m) (contains_text old m) ∙ ap (λ b. bytes_eq b m || contains_text old m) same

pub none_in : {S : Type 0} (s : HashSet (String Global) S) → IsEmpty s → (n : List ℕ) → contains_text s n ≡ false
none_in s none n = ap (list_any (λ (k : String Global). bytes_eq n (string_bytes k))) none

-- ---- names in a row

turned_three : (a b c : Bool) → (a || (b || c)) ≡ (b || (a || c))
turned_three true true c = refl
turned_three true false c = refl
turned_three false b c = refl

among_behind : (xs : List (List ℕ)) (x m : List ℕ) → is_among m (xs ++ x ∷ []) ≡ (bytes_eq x m || is_among m xs)
among_behind [] x m = refl
among_behind (y ∷ ys) x m = ap (λ b. bytes_eq y m || b) (among_behind ys x m) ∙ turned_three (bytes_eq y m) (bytes_eq x m) (is_among m ys)

one_more : (xs : List (List ℕ)) (i : ℕ) (x : List ℕ) → slice_get xs i ≡ Some x → take (i + 1) xs ≡ take i xs ++ x ∷ []
one_more [] i x h = absurd (let e : None ≡ Some x = h in cc)
one_more (y ∷ ys) zero x h = (let e : Some y ≡ Some x = h in let same : y ≡ x = cc in ap (λ z. z ∷ []) same)
one_more (y ∷ ys) (suc i) x h = (let e : suc i + 1 ≡ suc (i + 1) = omega arith in rw e (ap (λ zs. y ∷ zs) (one_more ys i x h)))

-- the set has the first of these names
abbrev pub HasFirst : {S : Type 0} → List (List ℕ) → ℕ → HashSet (String Global) S → Type 0
HasFirst xs i s = (n : List ℕ) → contains_text s n ≡ is_among n (take i xs)

pub has_more : {S : Type 0} (xs : List (List ℕ)) (i : ℕ) (x : List ℕ) (old new : HashSet (String Global) S) → slice_get xs i ≡ Some x → HasAlso x old new → HasFirst xs i old → HasFirst xs (i + 1) new
has_more xs i x old new h also first n =
    also n ∙ ap (λ b. bytes_eq x n || b) (first n) ∙ sym (ap (is_among n) (one_more xs i x h) ∙ among_behind (take i xs) x n)

pub has_all : {S : Type 0} (xs : List (List ℕ)) (i : ℕ) (s : HashSet (String Global) S) → length xs ≤ i → HasFirst xs i s → (n : List ℕ) → contains_text s n ≡ is_among n xs
has_all xs i s h first n = first n ∙ ap (is_among n) (take_all i xs h)
