-- The functions of a script are put into an order in which each calls only those before it.
use Rattle.std.proofs.Common.{◌≡◌, ◌≤◌, ◌<◌, ℕ, zero, suc, List, [], ◌∷◌, length, filter, Bool, true, false, cond, not, ◌&&◌, ◌||◌, ◌⊎◌, inl, inr, refl, ap, sym, subst, ◌∙◌, arith, if◌then◌else◌}
use Rattle.std.proofs.lemmas.Bool.{cases_Bool}
use Rattle.std.specs.List.{list_all}
use Rattle.std.specs.Str.{bytes_eq}
use Rattle.nf_names_used.specs.Natives.{is_among}
use Rattle.nf_tasks.specs.Evaluation.{Definition}
use Rattle.nf_names_used.specs.declared.uses.Use.{Use}
use Rattle.nf_names_used.specs.declared.uses.UseKind.{UseKind}
use Rattle.nf_names_used.specs.declared.uses.UseKind.TheVariants as kind
use Rattle.nf_graph.proofs.Members.{In, contains}
use Rattle.nf_meaning.specs.Functions.{names_of, body_uses, is_placed_use, is_ready, with_ready, in_rounds, in_order, CallsOnlyEarlier, NoneLeftOut}

or_more : (a b c : Bool) → (a || c) ≡ true → (a || (b || c)) ≡ true
or_more true b c h = refl
or_more false true c h = refl
or_more false false c h = h

first_true : (a b : Bool) → (a && b) ≡ true → a ≡ true
first_true true b h = refl
first_true false b h = h

second_true : (a b : Bool) → (a && b) ≡ true → b ≡ true
second_true true b h = h
second_true false true h = refl
second_true false false h = h

both_true : (a b : Bool) → a ≡ true → b ≡ true → (a && b) ≡ true
both_true true b h k = k
both_true false b h k = h

-- one more function that is placed
use_kept : (all placed : List (List ℕ)) (n : List ℕ) (k : UseKind) (t : List ℕ) → is_placed_use all placed k t ≡ true → is_placed_use all (n ∷ placed) k t ≡ true
use_kept all placed n kind.Function t h = or_more (not (is_among t all)) (bytes_eq n t) (is_among t placed) h
use_kept all placed n kind.Name t h = refl
use_kept all placed n kind.Assigned t h = refl
use_kept all placed n kind.Again t h = refl
use_kept all placed n kind.Pattern t h = refl

uses_kept : (all placed : List (List ℕ)) (n : List ℕ) (us : List Use) → list_all (λ u. is_placed_use all placed u.kind u.text) us ≡ true
    → list_all (λ u. is_placed_use all (n ∷ placed) u.kind u.text) us ≡ true
uses_kept all placed n [] h = refl
uses_kept all placed n (u ∷ us) h =
    both_true _ _ (use_kept all placed n u.kind u.text (first_true _ _ h)) (uses_kept all placed n us (second_true _ _ h))

ready_still : (all placed : List (List ℕ)) (n : List ℕ) (d : Definition) → is_ready all placed d ≡ true → is_ready all (n ∷ placed) d ≡ true
ready_still all placed n d h = uses_kept all placed n (body_uses d) h

by_test : (b : Bool) (all : List (List ℕ)) (ready : Definition → Bool) (d : Definition) (ds placed : List Definition) → ready d ≡ b
    → (ready d ≡ true → CallsOnlyEarlier all (with_ready ready ds (d ∷ placed))) → CallsOnlyEarlier all (with_ready ready ds placed)
    → CallsOnlyEarlier all (with_ready ready ds (if b then d ∷ placed else placed))
by_test true all ready d ds placed e is_one others = is_one e
by_test false all ready d ds placed e is_one others = others

round_kept : (all : List (List ℕ)) (ready : Definition → Bool) (ds placed : List Definition) → ((d : Definition) → ready d ≡ true → is_ready all (names_of placed) d ≡ true)
    → CallsOnlyEarlier all placed → CallsOnlyEarlier all (with_ready ready ds placed)
round_kept all ready [] placed h kept = kept
round_kept all ready (d ∷ ds) placed h kept =
    by_test (ready d) all ready d ds placed refl
    (λ e. round_kept all ready ds (d ∷ placed) (λ x r. ready_still all (names_of placed) d.name x (h x r)) (h d e, kept))
    (round_kept all ready ds placed h kept)

rounds_kept : (n : ℕ) (all : List (List ℕ)) (left placed : List Definition) → CallsOnlyEarlier all placed → CallsOnlyEarlier all (in_rounds n all left placed)
rounds_kept zero all left placed kept = kept
rounds_kept (suc n) all left placed kept =
    rounds_kept n all _ _ (round_kept all (is_ready all (names_of placed)) left placed (λ d e. e) kept)

pub only_earlier : (ds : List Definition) → CallsOnlyEarlier (names_of ds) (in_order ds)
only_earlier ds = rounds_kept (length ds) (names_of ds) ds [] tt

-- ---- every function that calls only functions of the order stands in it

in_if : (c : Bool) (x : Definition) (placed : List Definition) (d : Definition) → In d placed → In d (if c then x ∷ placed else placed)
in_if true x placed d h = inr h
in_if false x placed d h = h

stays_placed : (ready : Definition → Bool) (ds placed : List Definition) (d : Definition) → In d placed → In d (with_ready ready ds placed)
stays_placed ready [] placed d h = h
stays_placed ready (x ∷ ds) placed d h = stays_placed ready ds (if ready x then x ∷ placed else placed) d (in_if (ready x) x placed d h)

stays_in_rounds : (n : ℕ) (all : List (List ℕ)) (left placed : List Definition) (d : Definition) → In d placed → In d (in_rounds n all left placed)
stays_in_rounds zero all left placed d h = h
stays_in_rounds (suc n) all left placed d h = stays_in_rounds n all _ _ d (stays_placed (is_ready all (names_of placed)) left placed d h)

-- one that is ready is placed in its round
is_placed : (ready : Definition → Bool) (ds placed : List Definition) (d : Definition) → In d ds → ready d ≡ true → In d (with_ready ready ds placed)
is_placed ready [] placed d h e = absurd h
is_placed ready (x ∷ ds) placed d h e = elim h [
  | inl i ↦ stays_placed ready ds (if ready x then x ∷ placed else placed) d
      (subst (λ c. In d (if c then x ∷ placed else placed)) (sym (ap ready (sym i) ∙ e)) (inl i))
  | inr k ↦ is_placed ready ds (if ready x then x ∷ placed else placed) d k e
]

-- those that aren't ready
abbrev late : (Definition → Bool) → List Definition → List Definition
late ready ds = filter (λ d. not (ready d)) ds

-- one that isn't ready is left
is_left : (ready : Definition → Bool) (ds : List Definition) (d : Definition) → In d ds → ready d ≡ false → In d (late ready ds)
is_left ready [] d h e = absurd h
is_left ready (x ∷ ds) d h e = elim h [
  | inl i ↦ subst (λ c. In d (cond (not c) (x ∷ late ready ds) (late ready ds))) (sym (ap ready (sym i) ∙ e)) (inl i)
  | inr k ↦ by (not (ready x)) (is_left ready ds d k e)
]
  where
    by : (c : Bool) → In d (late ready ds) → In d (cond c (x ∷ late ready ds) (late ready ds))
    by true h = inr h
    by false h = h

abbrev AllLate : (Definition → Bool) → List Definition → Type 0
AllLate ready [] = Unit {0}
AllLate ready (x ∷ xs) = (ready x ≡ false) × AllLate ready xs

no_more : (ready : Definition → Bool) (ds : List Definition) → length (late ready ds) ≤ length ds
no_more ready [] = omega arith
no_more ready (x ∷ ds) = by (not (ready x)) (no_more ready ds)
  where
    by : (c : Bool) → length (late ready ds) ≤ length ds → length (cond c (x ∷ late ready ds) (late ready ds)) ≤ length (x ∷ ds)
    by true l = omega (arith, l)
    by false l = omega (arith, l)

-- none is ready, or fewer are left
late_or_fewer : (ready : Definition → Bool) (ds : List Definition) → AllLate ready ds ⊎ (length (late ready ds) < length ds)
late_or_fewer ready [] = inl tt
late_or_fewer ready (x ∷ ds) = elim (cases_Bool (ready x)) [
  | inl e ↦ inr (subst (λ c. length (cond (not c) (x ∷ late ready ds) (late ready ds)) < length (x ∷ ds)) (sym e) (omega (arith, no_more ready ds)))
  | inr e ↦ elim (late_or_fewer ready ds) [
    | inl h ↦ inl (e, h)
    | inr l ↦ inr (subst (λ c. length (cond (not c) (x ∷ late ready ds) (late ready ds)) < length (x ∷ ds)) (sym e) (omega (arith, l)))
  ]
]

none_placed : (ready : Definition → Bool) (ds placed : List Definition) → AllLate ready ds → with_ready ready ds placed ≡ placed
none_placed ready [] placed h = refl
none_placed ready (x ∷ ds) placed h =
    ap (λ c. with_ready ready ds (if c then x ∷ placed else placed)) h.0 ∙ none_placed ready ds placed h.1

all_left : (ready : Definition → Bool) (ds : List Definition) → AllLate ready ds → late ready ds ≡ ds
all_left ready [] h = refl
all_left ready (x ∷ ds) h = ap (λ c. cond (not c) (x ∷ late ready ds) (late ready ds)) h.0 ∙ ap (λ z. x ∷ z) (all_left ready ds h.1)

-- where none is ready, nothing is placed in later rounds
rounds_end : (n : ℕ) (all : List (List ℕ)) (left placed : List Definition) → AllLate (is_ready all (names_of placed)) left → in_rounds n all left placed ≡ placed
rounds_end zero all left placed h = refl
rounds_end (suc n) all left placed h =
    ap (λ z. in_rounds n all z (with_ready (is_ready all (names_of placed)) left placed)) (all_left (is_ready all (names_of placed)) left h)
    ∙ ap (λ z. in_rounds n all left z) (none_placed (is_ready all (names_of placed)) left placed h)
    ∙ rounds_end n all left placed h

is_late : (ready : Definition → Bool) (ds : List Definition) (d : Definition) → AllLate ready ds → In d ds → ready d ≡ false
is_late ready [] d h k = absurd k
is_late ready (x ∷ ds) d h k = elim k [ inl i ↦ ap ready i ∙ h.0 | inr m ↦ is_late ready ds d h.1 m ]

none_there : (d : Definition) (ds : List Definition) → length ds ≤ 0 → In d ds → ⊥
none_there d [] l h = h
none_there d (x ∷ ds) l h = omega (arith, l)

ready_is_in : (n : ℕ) (all : List (List ℕ)) (left placed : List Definition) (d : Definition) → length left ≤ n → In d left
    → is_ready all (names_of (in_rounds n all left placed)) d ≡ true → In d (in_rounds n all left placed)
ready_is_in zero all left placed d l h e = absurd (none_there d left l h)
ready_is_in (suc n) all left placed d l h e = elim (late_or_fewer (is_ready all (names_of placed)) left) [
  | inl k ↦ absurd (let f : true ≡ false =
      sym e ∙ ap (λ z. is_ready all (names_of z) d) (rounds_end (suc n) all left placed k) ∙ is_late (is_ready all (names_of placed)) left d k h in cc)
  | inr k ↦ elim (cases_Bool (is_ready all (names_of placed) d)) [
    | inl t ↦ stays_in_rounds n all (late (is_ready all (names_of placed)) left) (with_ready (is_ready all (names_of placed)) left placed) d
        (is_placed (is_ready all (names_of placed)) left placed d h t)
    | inr f ↦ ready_is_in n all (late (is_ready all (names_of placed)) left) (with_ready (is_ready all (names_of placed)) left placed) d (omega (arith, l, k))
        (is_left (is_ready all (names_of placed)) left d h f) e
  ]
]

none_left_out : (all : List (List ℕ)) (order ds : List Definition) → ((d : Definition) → In d ds → is_ready all (names_of order) d ≡ true → In d order) → NoneLeftOut all order ds
none_left_out all order [] h = tt
none_left_out all order (d ∷ ds) h = (λ e. contains d order (h d (inl refl) e), none_left_out all order ds (λ x k. h x (inr k)))

pub whole_order : (ds : List Definition) → NoneLeftOut (names_of ds) (in_order ds) ds
whole_order ds = none_left_out (names_of ds) (in_order ds) ds (λ d h e. ready_is_in (length ds) (names_of ds) ds [] d (omega arith) h e)
