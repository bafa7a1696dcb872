-- The first clash, found in the targets' order.
use Rattle.std.proofs.Common.{◌≡◌, ℕ, zero, suc, List, [], ◌∷◌, map, Bool, true, false, ◌&&◌, not, Option, None, Some, bytes_eq, inl, inr, refl, ap, sym, subst, ◌∙◌}
use Rattle.std.specs.Prelude.{◌⊎◌, ◌||◌, MatchOption, if◌then◌else◌, IfOk, Result, Ok, Err}
use Rattle.std.specs.List.{list_any}
use Rattle.std.specs.Ordering.{nat_cmp, ordering_then}
use Rattle.std.specs.Cmp.Lexicographic.{slice_cmp}
use Rattle.std.specs.declared.cmp.Ordering.{Ordering}
use Rattle.std.specs.declared.cmp.Ordering.TheVariants.{Less, Equal, Greater}
use Rattle.std.proofs.lemmas.Cmp.{nat_list_cmp_total, tied_itself}
use Rattle.std.proofs.lemmas.Map.Lookups.{exact_bytes}
use Rattle.nf_host.proofs.Paths.{text_itself, text_same}
use Rattle.nf_value.specs.declared.mem.Mem.{Mem}
use Rattle.nf_value.specs.Plain.{Plain, null, truth, int, text, file, list, table}
use Rattle.nf_value.specs.Order.{value_cmp}
use Rattle.nf_bag.specs.Sorted.{IsBelowAll, IsStrictlyRising, distinct_of}
use Rattle.nf_bag.proofs.Once.{distinct_of_rises}
use Rattle.nf_tasks.specs.declared.target_list.Target.{Target}
use Rattle.nf_publish.specs.Clashes.{clash_after, clash_in, clash_of, target_plain}
use Rattle.nf_publish.specs.Targets.{HaveOneContent, IsBefore, IsFirstClash, IsPublished, is_published}
use Rattle.nf_publish.specs.declared.fault.Clash.{Clash}
use Rattle.nf_publish.proofs.Tests.{any-distinct_of}

-- ---- tests

or_cases : (a b : Bool) → (a || b) ≡ true → (a ≡ true) ⊎ (b ≡ true)
or_cases true b h = inl refl
or_cases false b h = inr h

or_right : (a b : Bool) → b ≡ true → (a || b) ≡ true
or_right true b h = refl
or_right false b h = h

and_both : (a b : Bool) → (a && b) ≡ true → (a ≡ true) × (b ≡ true)
and_both true b h = (refl, h)
and_both false b h = absurd (cc)

-- ---- the order of bytes

not_itself : (a : List ℕ) → IsBefore a a → ⊥
not_itself a h = let t : slice_cmp nat_cmp a a ≡ Equal = tied_itself nat_list_cmp_total a in absurd (cc)

not_back : (a b : List ℕ) → IsBefore a b → IsBefore b a → ⊥
not_back a b p q = not_itself a (nat_list_cmp_total.trans a b a p q)

then_equal : (o : Ordering) → ordering_then o Equal ≡ Less → o ≡ Less
then_equal Less h = refl
then_equal Equal h = h
then_equal Greater h = h

-- ---- what is published

pub published_either : (t : Target) (ts : List Target) (path d : List ℕ) → IsPublished (t ∷ ts) path d → ((t.name ≡ path) × (t.digest.0 ≡ d)) ⊎ IsPublished ts path d
published_either t ts path d h =
    elim (or_cases (bytes_eq t.name path && bytes_eq t.digest.0 d) (is_published ts path d) h) [
      | inl e ↦ let both = and_both (bytes_eq t.name path) (bytes_eq t.digest.0 d) e in inl (text_same t.name path both.0, text_same t.digest.0 d both.1)
      | inr r ↦ inr r
    ]

pub published_first : (t : Target) (ts : List Target) → IsPublished (t ∷ ts) t.name t.digest.0
published_first t ts = rw (text_itself t.name) (rw (text_itself t.digest.0) refl)

pub published_later : (t : Target) (ts : List Target) (path d : List ℕ) → IsPublished ts path d → IsPublished (t ∷ ts) path d
published_later t ts path d h = or_right (bytes_eq t.name path && bytes_eq t.digest.0 d) (is_published ts path d) h

-- ---- targets in their order

after_next : (t u : Target) → value_cmp (target_plain t) (target_plain u) ≡ Less → IsBefore t.name u.name ⊎ ((t.name ≡ u.name) × IsBefore t.digest.0 u.digest.0)
after_next t u h =
    elim (slice_cmp nat_cmp t.name u.name) as (λ o. slice_cmp nat_cmp t.name u.name ≡ o → ordering_then o (ordering_then (slice_cmp nat_cmp t.digest.0 u.digest.0) Equal) ≡ Less → IsBefore t.name u.name ⊎ ((t.name ≡ u.name) × IsBefore t.digest.0 u.digest.0)) [
      | Less ↦ λ e k. inl e
      | Equal ↦ λ e k. inr (exact_bytes t.name u.name e, then_equal (slice_cmp nat_cmp t.digest.0 u.digest.0) k)
      | Greater ↦ λ e k. absurd (cc)
    ] refl h

-- what is published at the others comes after the first
after_first : (t : Target) (us : List Target) → IsBelowAll (target_plain t) (map target_plain us) → (path d : List ℕ) → IsPublished us path d → IsBefore t.name path ⊎ ((t.name ≡ path) × IsBefore t.digest.0 d)
after_first t [] h path d p = absurd (cc)
after_first t (u ∷ us) h path d p =
    elim (published_either u us path d p) [
      | inl e ↦
          subst (λ x. IsBefore t.name x ⊎ ((t.name ≡ x) × IsBefore t.digest.0 d)) e.0
          (subst (λ y. IsBefore t.name u.name ⊎ ((t.name ≡ u.name) × IsBefore t.digest.0 y)) e.1 (after_next t u h.0))
      | inr r ↦ after_first t us h.1 path d r
    ]

-- the next target has another name, so all others have later names
names_after : (t u : Target) (us : List Target) → IsStrictlyRising (map target_plain (t ∷ u ∷ us)) → bytes_eq t.name u.name ≡ false → (path d : List ℕ) → IsPublished (u ∷ us) path d → IsBefore t.name path
names_after t u us h other path d p =
    elim (after_next t u h.0.0) [
      | inl before ↦
          elim (published_either u us path d p) [
            | inl e ↦ subst (IsBefore t.name) e.0 before
            | inr r ↦
                elim (after_first u us h.1.0 path d r) [
                  | inl b ↦ nat_list_cmp_total.trans t.name u.name path before b
                  | inr x ↦ subst (IsBefore t.name) x.0 before
                ]
          ]
      | inr same ↦ let t1 : bytes_eq t.name u.name ≡ true = subst (λ n. bytes_eq t.name n ≡ true) same.0 (text_itself t.name) in absurd (cc)
    ]

-- one content of a target, if the others have one and come later
one_with : (t : Target) (us : List Target) → ((path d : List ℕ) → IsPublished us path d → IsBefore t.name path) → (path d e : List ℕ) → (IsPublished us path d → IsPublished us path e → d ≡ e) → IsPublished (t ∷ us) path d → IsPublished (t ∷ us) path e → d ≡ e
one_with t us after path d e one p q =
    elim (published_either t us path d p) [
      | inl x ↦
          elim (published_either t us path e q) [
            | inl y ↦ sym x.1 ∙ y.1
            | inr s ↦ absurd (not_itself t.name (subst (IsBefore t.name) (sym x.0) (after path e s)))
          ]
      | inr r ↦
          elim (published_either t us path e q) [
            | inl y ↦ absurd (not_itself t.name (subst (IsBefore t.name) (sym y.0) (after path d r)))
            | inr s ↦ one r s
          ]
    ]

none_after : (t : Target) (path d : List ℕ) → IsPublished [] path d → IsBefore t.name path
none_after t path d p = absurd (cc)

-- a clash of the first two
clash_here : (t u : Target) (us : List Target) → IsStrictlyRising (map target_plain (t ∷ u ∷ us)) → t.name ≡ u.name → IsFirstClash (t ∷ u ∷ us) (clash_of t.name t.digest u.digest)
clash_here t u us h same = record {
  first = published_first t (u ∷ us);
  second = published_later t (u ∷ us) t.name u.digest.0 (subst (λ n. IsPublished (u ∷ us) n u.digest.0) (sym same) (published_first u us));
  apart =
      elim (after_next t u h.0.0) [
        | inl b ↦ absurd (not_itself t.name (subst (IsBefore t.name) (sym same) b))
        | inr x ↦ x.1
      ];
  least = λ d p.
      elim (published_either t (u ∷ us) t.name d p) [
        | inl x ↦ inl (sym x.1)
        | inr r ↦
            elim (published_either u us t.name d r) [
              | inl y ↦ inr (inl (sym y.1))
              | inr s ↦
                  elim (after_first u us h.1.0 t.name d s) [
                    | inl b ↦ absurd (not_itself t.name (subst (λ n. IsBefore n t.name) (sym same) b))
                    | inr z ↦ inr (inr z.1)
                  ]
            ]
      ];
  earliest = λ path d e p q before.
      elim (published_either t (u ∷ us) path d p) [
        | inl x ↦ absurd (not_itself t.name (subst (λ n. IsBefore n t.name) (sym x.0) before))
        | inr r ↦
            elim (after_first t (u ∷ us) h.0 path d r) [
              | inl b ↦ absurd (not_back path t.name before b)
              | inr z ↦ absurd (not_itself t.name (subst (λ n. IsBefore n t.name) (sym z.0) before))
            ]
      ];
}

-- a clash of the others
clash_past : (t u : Target) (us : List Target) (o : Option Clash) → IsStrictlyRising (map target_plain (t ∷ u ∷ us)) → bytes_eq t.name u.name ≡ false → MatchOption o (HaveOneContent (u ∷ us)) (IsFirstClash (u ∷ us)) → MatchOption o (HaveOneContent (t ∷ u ∷ us)) (IsFirstClash (t ∷ u ∷ us))
clash_past t u us None h other one = λ path d e p q. one_with t (u ∷ us) (names_after t u us h other) path d e (one path d e) p q
clash_past t u us (Some c) h other k = record {
  first = published_later t (u ∷ us) c.target c.first.0 k.first;
  second = published_later t (u ∷ us) c.target c.second.0 k.second;
  apart = k.apart;
  least = λ d p.
      elim (published_either t (u ∷ us) c.target d p) [
        | inl x ↦ absurd (not_itself t.name (subst (IsBefore t.name) (sym x.0) (names_after t u us h other c.target c.first.0 k.first)))
        | inr r ↦ k.least d r
      ];
  earliest = λ path d e p q before.
      one_with t (u ∷ us) (names_after t u us h other) path d e (λ r s. k.earliest path d e r s before) p q;
}

judged_after : (t : Target) (us : List Target) → IsStrictlyRising (map target_plain (t ∷ us)) → MatchOption (clash_after t.name t.digest (map target_plain us)) (HaveOneContent (t ∷ us)) (IsFirstClash (t ∷ us))
judged_after t [] h = λ path d e p q. one_with t [] (none_after t) path d e (λ r s. absurd (cc)) p q
judged_after t (u ∷ us) h =
    elim (bytes_eq t.name u.name) as (λ b. bytes_eq t.name u.name ≡ b → MatchOption (if b then Some (clash_of t.name t.digest u.digest) else clash_after u.name u.digest (map target_plain us)) (HaveOneContent (t ∷ u ∷ us)) (IsFirstClash (t ∷ u ∷ us))) [
      | true ↦ λ e. clash_here t u us h (text_same t.name u.name e)
      | false ↦ λ f. clash_past t u us (clash_after u.name u.digest (map target_plain us)) h f (judged_after u us h.1)
    ] refl

judged_in : (us : List Target) → IsStrictlyRising (map target_plain us) → MatchOption (clash_in (map target_plain us)) (HaveOneContent us) (IsFirstClash us)
judged_in [] h = λ path d e p q. absurd (cc)
judged_in (t ∷ us) h = judged_after t us h

-- ---- any order

-- the value of this target
is_at : List ℕ → List ℕ → Plain → Bool
is_at path d null = false
is_at path d (truth b) = false
is_at path d (int i) = false
is_at path d (text t) = false
is_at path d (file n e l) = bytes_eq n path && bytes_eq e d
is_at path d (list vs) = false
is_at path d (table ps) = false

is_empty : ℕ → Bool
is_empty zero = true
is_empty (suc l) = false

-- the value of no target
is_other : Plain → Bool
is_other null = true
is_other (truth b) = true
is_other (int i) = true
is_other (text t) = true
is_other (file n e l) = not (is_empty l)
is_other (list vs) = true
is_other (table ps) = true

any_published : (ts : List Target) (path d : List ℕ) → list_any (is_at path d) (map target_plain ts) ≡ is_published ts path d
unfolding is_at
any_published [] path d = refl
any_published (t ∷ ts) path d = ap (λ b. (bytes_eq t.name path && bytes_eq t.digest.0 d) || b) (any_published ts path d)

none_other : (ts : List Target) → list_any is_other (map target_plain ts) ≡ false
unfolding is_other is_empty
none_other [] = refl
none_other (t ∷ ts) = none_other ts

-- values of targets alone
targets_of : (vs : List Plain) → list_any is_other vs ≡ false → (us : List Target) × (vs ≡ map target_plain us)
unfolding is_other is_empty
targets_of [] h = ([], refl)
targets_of (null ∷ vs) h = absurd (cc)
targets_of (truth b ∷ vs) h = absurd (cc)
targets_of (int i ∷ vs) h = absurd (cc)
targets_of (text t ∷ vs) h = absurd (cc)
targets_of (file n e zero ∷ vs) h =
    let rest = targets_of vs h in (record { name = n; digest = record { 0 = e } } ∷ rest.0, ap (λ xs. file n e zero ∷ xs) rest.1)
targets_of (file n e (suc l) ∷ vs) h = absurd (cc)
targets_of (list ws ∷ vs) h = absurd (cc)
targets_of (table ps ∷ vs) h = absurd (cc)

-- what holds of the same targets in another order, each once
judged_of : (us ts : List Target) (o : Option Clash) → ((path d : List ℕ) → is_published us path d ≡ is_published ts path d) → MatchOption o (HaveOneContent us) (IsFirstClash us) → MatchOption o (HaveOneContent ts) (IsFirstClash ts)
judged_of us ts None same one = λ path d e p q. one path d e (same path d ∙ p) (same path e ∙ q)
judged_of us ts (Some c) same k = record {
  first = sym (same c.target c.first.0) ∙ k.first;
  second = sym (same c.target c.second.0) ∙ k.second;
  apart = k.apart;
  least = λ d p. k.least d (same c.target d ∙ p);
  earliest = λ path d e p q before. k.earliest path d e (same path d ∙ p) (same path e ∙ q) before;
}

pub first_clash_judged : (ts : List Target) → MatchOption (clash_in (distinct_of (map target_plain ts))) (HaveOneContent ts) (IsFirstClash ts)
first_clash_judged ts =
    let values = map target_plain ts in
    let sure : list_any is_other (distinct_of values) ≡ false = any-distinct_of is_other values ∙ none_other ts in
    let made = targets_of (distinct_of values) sure in
    let rising : IsStrictlyRising (map target_plain made.0) = subst IsStrictlyRising made.1 (distinct_of_rises values) in
    let same : (path d : List ℕ) → is_published made.0 path d ≡ is_published ts path d = λ path d.
    sym (any_published made.0 path d) ∙ ap (list_any (is_at path d)) (sym made.1) ∙ any-distinct_of (is_at path d) values ∙ any_published ts path d in
    subst (λ (vs : List Plain). MatchOption (clash_in vs) (HaveOneContent ts) (IsFirstClash ts)) (sym made.1)
    (judged_of made.0 ts (clash_in (map target_plain made.0)) same (judged_in made.0 rising))

pub judged_result : (ts : List Target) (r : Result (Option Clash) Mem) (vs : List Plain) → vs ≡ distinct_of (map target_plain ts) → IfOk r (λ c. c ≡ clash_in vs) → IfOk r (λ c. MatchOption c (HaveOneContent ts) (IsFirstClash ts))
judged_result ts (Err e) vs is h = tt
judged_result ts (Ok c) vs is h =
    subst (λ (o : Option Clash). MatchOption o (HaveOneContent ts) (IsFirstClash ts)) (sym (h ∙ ap clash_in is)) (first_clash_judged ts)
