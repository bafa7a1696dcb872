-- The first of what is broken.
use Rattle.std.proofs.Common.{◌≡◌, ℕ, ◌==◌, nat_lt, ◌+◌, ◌<◌, Bool, true, false, ◌&&◌, ◌||◌, List, [], ◌∷◌, ◌++◌, Option, Some, None, refl, sym, ap, ◌∙◌, subst, arith, length, get_or, take, drop, add-one, drop-cons}
use Rattle.std.specs.Prelude.{MatchOption, if◌then◌else◌}
use Rattle.std.proofs.lemmas.Bool.{false≢true}
use Rattle.std.proofs.lemmas.Bool.Decides.{nat_tests}
use Rattle.std.proofs.lemmas.List.Elements.{All-nil, All-push, All-weaker, Contains-append_left, Contains-push}
use Rattle.std.proofs.Math.Seq.{take-suc}
use Rattle.nf_kinds.specs.declared.fault.Broken.{Broken}
use Rattle.nf_kinds.specs.Fault.{IsFirst, is_before, earlier_of, first_from, rule_number}

-- the first of these, if there is one
abbrev pub IsFirstOf : Option Broken → List Broken → Type 0
IsFirstOf o all = MatchOption o (all ≡ []) (λ f. IsFirst f all)

-- ---- the order of places and rules

abbrev test : ℕ → ℕ → ℕ → ℕ → ℕ → ℕ → Bool
test a b c x y z = nat_lt a x || ((a == x) && (nat_lt b y || ((b == y) && nat_lt c z)))

never_itself : (a b c : ℕ) → test a b c a b c ≡ true → ⊥
never_itself a b c h = grind (arith, nat_tests)

passed_on : (a b c x y z u v w : ℕ) → test a b c x y z ≡ true → test x y z u v w ≡ true → test a b c u v w ≡ true
passed_on a b c x y z u v w g h = grind (arith, nat_tests)

before_itself : (f : Broken) → is_before f f ≡ true → ⊥
before_itself f h = never_itself f.place.line f.place.col (rule_number f.rule) h

before_before : (f g h : Broken) → is_before f g ≡ true → is_before g h ≡ true → is_before f h ≡ true
before_before f g h a b = passed_on f.place.line f.place.col (rule_number f.rule) g.place.line g.place.col (rule_number g.rule) h.place.line h.place.col (rule_number h.rule) a b

-- ---- one more

one_more : (all : List Broken) (f g : Broken) (b : Bool) → is_before g f ≡ b → IsFirst f all → IsFirst (if b then g else f) (all ++ g ∷ [])
one_more all f g true e h =
    (Contains-push all g, All-push (λ x. is_before x g ≡ true → ⊥) all g (All-weaker (λ x. is_before x f ≡ true → ⊥) (λ x. is_before x g ≡ true → ⊥) (λ x k c. k (before_before x g f c e)) all h.1) (before_itself g))
one_more all f g false e h =
    (Contains-append_left all (g ∷ []) f h.0, All-push (λ x. is_before x f ≡ true → ⊥) all g h.1 (λ c. false≢true (sym e ∙ c)))

pub first_more : (o : Option Broken) (all : List Broken) (g : Broken) → IsFirstOf o all → IsFirst (earlier_of o g) (all ++ g ∷ [])
first_more None all g h =
    subst (λ (xs : List Broken). IsFirst g (xs ++ g ∷ [])) (sym h) (Contains-push [] g, All-push (λ x. is_before x g ≡ true → ⊥) [] g (All-nil (λ x. is_before x g ≡ true → ⊥)) (before_itself g))
first_more (Some f) all g h = one_more all f g (is_before g f) refl h

-- the same, at a turn of a loop
pub first_next : (xs : List Broken) (i : ℕ) (d : Broken) (o r : Option Broken) → i < length xs → r ≡ Some (earlier_of o (get_or xs i d)) → IsFirstOf o (take i xs) → IsFirstOf r (take (i + 1) xs)
first_next xs i d o r lt e h =
    let g = get_or xs i d in
    let more : take (i + 1) xs ≡ take i xs ++ g ∷ [] = rw (add-one, take-suc xs i d) refl in
    subst (λ (q : Option Broken). IsFirstOf q (take (i + 1) xs)) (sym e) (subst (λ (l : List Broken). IsFirst (earlier_of o g) l) (sym more) (first_more o (take i xs) g h))

pub only_next : (xs : List Broken) (i : ℕ) (d : Broken) (o r all : Option Broken) → i < length xs → r ≡ Some (earlier_of o (get_or xs i d)) → first_from o (drop i xs) ≡ all → first_from r (drop (i + 1) xs) ≡ all
only_next xs i d o r all lt e h =
    let g = get_or xs i d in
    let here : drop i xs ≡ g ∷ drop (i + 1) xs = rw (add-one, drop-cons xs i d) refl in
    ap (λ q. first_from q (drop (i + 1) xs)) e ∙ sym (ap (first_from o) here) ∙ h
