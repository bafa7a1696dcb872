-- Numbers on the way to another.
use Rattle.std.proofs.Common.{◌≡◌, ℕ, zero, suc, ◌+◌, ◌<◌, ◌≤◌, ◌^◌, ℤ, ◌+ℤ◌, true, nat_lt, List, [], ◌∷◌, ◌++◌, length, map, min, Err, refl, sym, ◌∙◌, ap, arith, append_assoc, length-append, codes}
use Rattle.std.specs.Prelude.{◌-ℤ◌, ◌≢◌, unsigned_abs}
use Rattle.std.proofs.lemmas.Int.{ints}
use Rattle.std.proofs.lemmas.List.{map-append}
use Rattle.std.proofs.lemmas.Bool.Decides.{nat_tests}
use Rattle.nf_value.specs.Plain.{Plain, int, plains_of}
use Rattle.nf_value.specs.Code.{code, all_code, head_code, count}
use Rattle.nf_value.specs.View.{plain_of}
use Rattle.nf_value.specs.declared.value.Value.{Value}
use Rattle.nf_value.specs.declared.value.Value.TheVariants as v
use Rattle.nf_value.specs.declared.fault.EvalKind.TheVariants.{TooLarge}
use Rattle.nf_texts.specs.Outcome.{limited}
use Rattle.nf_builtins.specs.Lists.{list_of}
use Rattle.nf_infix.specs.Range.{step_to, steps_from, further, numbers_to}

-- how far one number is from another
unfoldable pub gap : ℤ → ℤ → ℕ
gap a b = unsigned_abs (b -ℤ a)

-- one step nearer
nearer : (a b : ℤ) → a ≢ b → unsigned_abs (b -ℤ a) ≡ suc (unsigned_abs (b -ℤ (a +ℤ step_to a b)))
unfolding step_to
nearer a b h = grind (arith, ints)

same_way : (a b : ℤ) (n : ℕ) → a ≢ b → unsigned_abs (b -ℤ (a +ℤ step_to a b)) ≡ suc n → step_to a b ≡ step_to (a +ℤ step_to a b) b
unfolding step_to
same_way a b n h e = grind (arith, ints)

further_more : (a b : ℤ) → a ≢ b → further a b ≡ (a +ℤ step_to a b) ∷ further (a +ℤ step_to a b) b
unfolding further
further_more a b h = ap (steps_from (step_to a b) a) (nearer a b h) ∙ ap (λ l. (a +ℤ step_to a b) ∷ l) (of (unsigned_abs (b -ℤ (a +ℤ step_to a b))) refl)
  where
    of : (n : ℕ) → unsigned_abs (b -ℤ (a +ℤ step_to a b)) ≡ n → steps_from (step_to a b) (a +ℤ step_to a b) n ≡ steps_from (step_to (a +ℤ step_to a b) b) (a +ℤ step_to a b) n
    of zero e = refl
    of (suc n) e = ap (λ s. steps_from s (a +ℤ step_to a b) (suc n)) (same_way a b n h e)

nothing_further : (a : ℤ) → further a a ≡ []
unfolding further
nothing_further a = ap (steps_from (step_to a a) a) (of a)
  where
    of : (a : ℤ) → unsigned_abs (a -ℤ a) ≡ 0
    of a = grind (arith, ints)

pub falls : (a b next : ℤ) → a ≢ b → next ≡ a +ℤ step_to a b → gap next b < gap a b
unfolding gap
falls a b next h e = omega (arith, nearer a b h, ap (λ n. unsigned_abs (b -ℤ n)) e)

pub first_made : (a b : ℤ) → int a ∷ map int (further a b) ≡ map int (numbers_to a b)
unfolding numbers_to
first_made a b = refl

pub last_made : (numbers : List Value) (a b : ℤ) (all : List Plain) → a ≡ b → map plain_of numbers ++ map int (further a b) ≡ all → map plain_of numbers ≡ all
last_made numbers a b all e inv = sym (append_nil (map plain_of numbers)) ∙ sym (ap (λ n. map plain_of numbers ++ map int (further n b)) e ∙ ap (λ l. map plain_of numbers ++ map int l) (nothing_further b)) ∙ inv
  where
    append_nil : (xs : List Plain) → xs ++ [] ≡ xs
    append_nil [] = refl
    append_nil (x ∷ xs) = ap (λ l. x ∷ l) (append_nil xs)

-- one more number is made
pub made_more : (numbers new : List Value) (a b next : ℤ) (x : Value) (all : List Plain) → a ≢ b → next ≡ a +ℤ step_to a b → x ≡ v.Int next → new ≡ numbers ++ x ∷ [] → map plain_of numbers ++ map int (further a b) ≡ all → map plain_of new ++ map int (further next b) ≡ all
made_more numbers new a b next x all h step is e inv =
    ap (λ l. map plain_of l ++ map int (further next b)) (e ∙ ap (λ y. numbers ++ y ∷ []) is)
    ∙ ap (λ l. l ++ map int (further next b)) (map-append plain_of numbers (v.Int next ∷ []))
    ∙ append_assoc (map plain_of numbers) (int next ∷ []) (map int (further next b))
    ∙ ap (λ n. map plain_of numbers ++ int n ∷ map int (further n b)) step
    ∙ ap (λ l. map plain_of numbers ++ map int l) (sym (further_more a b h))
    ∙ inv

-- ---- what they weigh

all_code-append : (vs ws : List Plain) → all_code (plains_of (vs ++ ws)) ≡ all_code (plains_of vs) ++ all_code (plains_of ws)
all_code-append [] ws = refl
all_code-append (v ∷ vs) ws = ap (λ l. code v ++ l) (all_code-append vs ws) ∙ sym (append_assoc (code v) (all_code (plains_of vs)) (all_code (plains_of ws)))

pub weighs_more : (vs ws : List Plain) → length (all_code (plains_of (vs ++ ws))) ≡ length (all_code (plains_of vs)) + length (all_code (plains_of ws))
weighs_more vs ws = ap length (all_code-append vs ws) ∙ length-append (all_code (plains_of vs)) (all_code (plains_of ws))

-- numbers that weigh too much already
pub too_many : (numbers : List Value) (rest all : List Plain) (sum : ℕ) → sum ≤ length (all_code (plains_of (map plain_of numbers))) → 2 ^ 24 < sum → map plain_of numbers ++ rest ≡ all → limited (list_of all) ≡ Err TooLarge
too_many numbers rest all sum under over is =
    let weight : length (code (list_of all)) ≡ length (head_code (codes "l") (count (plains_of all))) + length (all_code (plains_of all)) = length-append (head_code (codes "l") (count (plains_of all))) (all_code (plains_of all)) in
    let heavy : 2 ^ 24 < length (code (list_of all)) = omega (arith, weight, weighs_more (map plain_of numbers) rest, ap (λ l. length (all_code (plains_of l))) is) in
    let test : nat_lt (2 ^ 24) (length (code (list_of all))) ≡ true = grind (arith, nat_tests) in
    rw test refl

-- ---- the start, and what each number adds

pub started : (numbers new : List Value) (x : Value) (a b : ℤ) → numbers ≡ [] → new ≡ numbers ++ x ∷ [] → x ≡ v.Int a → map plain_of new ++ map int (further a b) ≡ map int (numbers_to a b)
started numbers new x a b none e is = ap (λ l. map plain_of l ++ map int (further a b)) (e ∙ (λ j. none j ++ is j ∷ [])) ∙ first_made a b

pub heavier : (numbers new : List Value) (x : Value) (sum w : ℕ) → new ≡ numbers ++ x ∷ [] → w ≡ min (length (code (plain_of x))) (2 ^ 63) → sum ≤ length (all_code (plains_of (map plain_of numbers))) → sum + w ≤ length (all_code (plains_of (map plain_of new)))
heavier numbers new x sum w e is under =
    let weight : length (all_code (plains_of (map plain_of new))) ≡ length (all_code (plains_of (map plain_of numbers))) + length (code (plain_of x) ++ []) = ap (λ l. length (all_code (plains_of l))) (ap (map plain_of) e ∙ map-append plain_of numbers (x ∷ [])) ∙ weighs_more (map plain_of numbers) (plain_of x ∷ []) in
    omega (arith, weight, length-append (code (plain_of x)) [])
