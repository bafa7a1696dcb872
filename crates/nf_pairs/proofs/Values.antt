-- What a map has for a key, after pairs were put into it.
use Rattle.std.proofs.Common.{◌≡◌, ℕ, Bool, true, false, ◌&&◌, ◌||◌, List, [], ◌∷◌, map, refl, sym, ◌∙◌, ap, subst, if◌then◌else◌}
use Rattle.std.specs.Prelude.{Option, Some, None, is_some, bytes_eq, Result, Ok, Err, IfOk}
use Rattle.std.specs.List.{list_any}
use Rattle.std.specs.declared.cmp.Ordering.{Ordering}
use Rattle.std.specs.declared.cmp.Ordering.TheVariants.{Less, Equal, Greater}
use Rattle.std.specs.Ordering.{nat_cmp, is_lt}
use Rattle.std.specs.Cmp.Lexicographic.{slice_cmp}
use Rattle.std.proofs.lemmas.Bool.{false≢true}
use Rattle.std.proofs.lemmas.Cmp.{nat_list_cmp_total, tied_itself}
use Rattle.std.proofs.lemmas.Map.Lookups.{exact_bytes}
use Rattle.std.proofs.lemmas.Slice.Eq.{bytes_eq-Decides}
use Rattle.nf_value.specs.Plain.{Plain}
use Rattle.nf_value.specs.View.{plain_of, pair_of, rises, rising}
use Rattle.nf_value.specs.declared.mem.Mem.{Mem}
use Rattle.nf_value.specs.declared.value.Value.{Value}
use Rattle.nf_pairs.specs.Pairs.{put, put_by, put_all, value_at, first_of}

pub both : (a b : Bool) → (a && b) ≡ true → (a ≡ true) × (b ≡ true)
both true true h = (refl, refl)
both true false h = absurd (false≢true h)
both false b h = absurd (false≢true h)

-- equal texts aren't ordered
not_same : (o : Ordering) (k j : List ℕ) → slice_cmp nat_cmp k j ≡ o → k ≡ j → o ≡ Equal
not_same o k j e same = sym e ∙ ap (slice_cmp nat_cmp k) (sym same) ∙ tied_itself nat_list_cmp_total k

differ : (k j : List ℕ) → (k ≡ j → ⊥) → bytes_eq k j ≡ false
differ k j never = of (bytes_eq k j) refl
  where
    of : (b : Bool) → bytes_eq k j ≡ b → bytes_eq k j ≡ false
    of true e = absurd (never ((bytes_eq-Decides k j).0 e))
    of false e = e

less : (k j : List ℕ) → is_lt (slice_cmp nat_cmp k j) ≡ true → slice_cmp nat_cmp k j ≡ Less
less k j h = of (slice_cmp nat_cmp k j) refl
  where
    of : (o : Ordering) → slice_cmp nat_cmp k j ≡ o → slice_cmp nat_cmp k j ≡ Less
    of Less e = e
    of Equal e = absurd (false≢true (sym (ap is_lt e) ∙ h))
    of Greater e = absurd (false≢true (sym (ap is_lt e) ∙ h))

apart : (k j : List ℕ) → is_lt (slice_cmp nat_cmp k j) ≡ true → bytes_eq k j ≡ false
apart k j h = differ k j (λ same. let e : Less ≡ Equal = not_same Less k j (less k j h) same in cc)

-- ---- one pair

one_test : (a b : Bool) (x y z : Option Plain) → b ≡ a → (if a then x else z) ≡ (if a then x else (if b then y else z))
one_test true b x y z e = refl
one_test false b x y z e = rw e refl

two_tests : (a b : Bool) (x y z : Option Plain) → (a ≡ true → b ≡ true → ⊥) → (if b then y else (if a then x else z)) ≡ (if a then x else (if b then y else z))
two_tests true true x y z never = absurd (never refl refl)
two_tests true false x y z never = refl
two_tests false b x y z never = refl

pub value_at-put : (k : List ℕ) (new : List ℕ × Plain) (ps : List (List ℕ × Plain)) → value_at k (put new ps) ≡ (if bytes_eq k new.0 then Some new.1 else value_at k ps)
value_at-put k new [] = refl
value_at-put k new (p ∷ ps) = of (value_at-put k new ps) (slice_cmp nat_cmp new.0 p.0) refl
  where
    of : value_at k (put new ps) ≡ (if bytes_eq k new.0 then Some new.1 else value_at k ps) → (o : Ordering) → slice_cmp nat_cmp new.0 p.0 ≡ o → value_at k (put_by o new p ps (put new ps)) ≡ (if bytes_eq k new.0 then Some new.1 else (if bytes_eq k p.0 then Some p.1 else value_at k ps))
    of later Less e = refl
    of later Equal e = one_test (bytes_eq k new.0) (bytes_eq k p.0) (Some new.1) (Some p.1) (value_at k ps) (ap (bytes_eq k) (sym (exact_bytes new.0 p.0 e)))
    of later Greater e =
        let never : bytes_eq k new.0 ≡ true → bytes_eq k p.0 ≡ true → ⊥ = λ a b. (let f : Greater ≡ Equal = not_same Greater new.0 p.0 e (sym ((bytes_eq-Decides k new.0).0 a) ∙ (bytes_eq-Decides k p.0).0 b) in cc) in
        ap (λ (o : Option Plain). if bytes_eq k p.0 then Some p.1 else o) later ∙ two_tests (bytes_eq k new.0) (bytes_eq k p.0) (Some new.1) (Some p.1) (value_at k ps) never

-- ---- many pairs

rises_under : (j k : List ℕ) (ps : List (List ℕ × Plain)) → is_lt (slice_cmp nat_cmp j k) ≡ true → rises k ps ≡ true → rises j ps ≡ true
rises_under j k [] low h = refl
rises_under j k (p ∷ ps) low h =
    let next = both (is_lt (slice_cmp nat_cmp k p.0)) (rises p.0 ps) h in
    let first : is_lt (slice_cmp nat_cmp j p.0) ≡ true = ap is_lt (nat_list_cmp_total.trans j k p.0 (less j k low) (less k p.0 next.0)) in
    rw (first, next.1) refl

rising_after : (k : List ℕ) (ps : List (List ℕ × Plain)) → rises k ps ≡ true → rising ps ≡ true
rising_after k [] h = refl
rising_after k (p ∷ ps) h = (both (is_lt (slice_cmp nat_cmp k p.0)) (rises p.0 ps) h).1

-- a key stands only once
absent : (k : List ℕ) (ps : List (List ℕ × Plain)) → rises k ps ≡ true → value_at k ps ≡ None
absent k [] h = refl
absent k (p ∷ ps) h =
    let next = both (is_lt (slice_cmp nat_cmp k p.0)) (rises p.0 ps) h in
    rw (apart k p.0 next.0) (absent k ps (rises_under k p.0 ps next.0 next.1))

pub value_at-put_all : (k : List ℕ) (more ps : List (List ℕ × Plain)) → rising more ≡ true → value_at k (put_all more ps) ≡ first_of (value_at k more) (value_at k ps)
value_at-put_all k [] ps h = refl
value_at-put_all k (new ∷ more) ps h =
    value_at-put_all k more (put new ps) (rising_after new.0 more h) ∙ ap (first_of (value_at k more)) (value_at-put k new ps) ∙ of (bytes_eq k new.0) refl
  where
    of : (b : Bool) → bytes_eq k new.0 ≡ b → first_of (value_at k more) (if b then Some new.1 else value_at k ps) ≡ first_of (if b then Some new.1 else value_at k more) (value_at k ps)
    of true e =
        let none : value_at k more ≡ None = absent k more (subst (λ (l : List ℕ). rises l more ≡ true) (sym ((bytes_eq-Decides k new.0).0 e)) h) in
        ap (λ (o : Option Plain). first_of o (Some new.1)) none
    of false e = refl

-- ---- the calls

pub any-value_at : (k : List ℕ) (xs : List (List ℕ × Value)) → list_any (λ x. bytes_eq k x.0) xs ≡ is_some (value_at k (map pair_of xs))
any-value_at k [] = refl
any-value_at k (x ∷ xs) = of (bytes_eq k x.0) (any-value_at k xs)
  where
    of : (b : Bool) → list_any (λ y. bytes_eq k y.0) xs ≡ is_some (value_at k (map pair_of xs)) → (b || list_any (λ y. bytes_eq k y.0) xs) ≡ is_some (if b then Some (plain_of x.1) else value_at k (map pair_of xs))
    of true e = refl
    of false e = e

pub wins : (r : Result (List (List ℕ × Plain)) Mem) (first second moved : List (List ℕ × Plain)) → moved ≡ second → rising second ≡ true → IfOk r (λ ps. ps ≡ put_all moved first) → IfOk r (λ ps. (key : List ℕ) → value_at key ps ≡ first_of (value_at key second) (value_at key first))
wins (Ok ps) first second moved e h is = λ key. ap (value_at key) (is ∙ ap (λ m. put_all m first) e) ∙ value_at-put_all key second first h
wins (Err m) first second moved e h is = tt
