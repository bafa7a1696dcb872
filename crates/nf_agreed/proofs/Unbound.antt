-- A name that is bound before a run, and that nothing binds in the run, is one that one arm of an `if` alone bound.
use Rattle.std.proofs.Common.{◌≡◌, ℕ, Bool, true, false, ◌||◌, List, [], ◌∷◌, ◌++◌, refl, sym, ap, ◌∙◌, subst, true≢false}
use Rattle.std.specs.Prelude.{if◌then◌else◌}
use Rattle.std.specs.Str.{bytes_eq}
use Rattle.nf_kinds.specs.Scope.{Bindings, is_bound, is_named, others, without, names_only, both_names, missing_names, merged_names}
use Rattle.nf_meaning.specs.Things.{Thing}
use Rattle.nf_agreed.specs.Fits.{UnboundFit}
use Rattle.nf_agreed.proofs.Either.{or_left, or_right}
use Rattle.nf_agreed.proofs.Merging.{text_same}

-- ---- names in lists

pub named_left : (n : List ℕ) (xs ys : List (List ℕ)) → is_named n xs ≡ true → is_named n (xs ++ ys) ≡ true
named_left n [] ys h = absurd (true≢false (sym h))
named_left n (x ∷ xs) ys h = by (bytes_eq x n) h (named_left n xs ys)
  where
    by : (b : Bool) → (b || is_named n xs) ≡ true → (is_named n xs ≡ true → is_named n (xs ++ ys) ≡ true) → (b || is_named n (xs ++ ys)) ≡ true
    by true h rest = refl
    by false h rest = rest h

pub named_right : (n : List ℕ) (xs ys : List (List ℕ)) → is_named n ys ≡ true → is_named n (xs ++ ys) ≡ true
named_right n [] ys h = h
named_right n (x ∷ xs) ys h = or_right (bytes_eq x n) (is_named n (xs ++ ys)) (named_right n xs ys h)

named_other : (n : List ℕ) (gs hs : List (List ℕ)) → is_named n gs ≡ true → is_named n hs ≡ false → is_named n (others gs hs) ≡ true
named_other n [] hs h none = absurd (true≢false (sym h))
named_other n (g ∷ gs) hs h none = by (bytes_eq g n) refl (is_named g hs) refl h (λ k. named_other n gs hs k none)
  where
    by : (b : Bool) → bytes_eq g n ≡ b → (c : Bool) → is_named g hs ≡ c → (b || is_named n gs) ≡ true → (is_named n gs ≡ true → is_named n (others gs hs) ≡ true)
        → is_named n (if c then others gs hs else g ∷ others gs hs) ≡ true
    by true e true f h rest = absurd (true≢false (sym f ∙ ap (λ m. is_named m hs) (text_same g n e) ∙ none))
    by true e false f h rest = or_left (bytes_eq g n) (is_named n (others gs hs)) e
    by false e true f h rest = rest h
    by false e false f h rest = or_right (bytes_eq g n) (is_named n (others gs hs)) (rest h)

-- a name of the second list is in the first, or among those that the first hasn't
named_besides : (n : List ℕ) (gs hs : List (List ℕ)) → is_named n gs ≡ true → is_named n (hs ++ others gs hs) ≡ true
named_besides n gs hs h = by (is_named n hs) refl
  where
    by : (b : Bool) → is_named n hs ≡ b → is_named n (hs ++ others gs hs) ≡ true
    by true e = named_left n hs (others gs hs) e
    by false e = named_right n hs (others gs hs) (named_other n gs hs h e)

-- ---- names that one list alone has

only_named : (n : List ℕ) (xs bs : Bindings) → is_bound n xs ≡ true → is_bound n bs ≡ false → is_named n (names_only xs bs) ≡ true
only_named n [] bs h none = absurd (true≢false (sym h))
only_named n (a ∷ xs) bs h none = by (bytes_eq a.0 n) refl (is_bound a.0 bs) refl h (λ k. only_named n xs bs k none)
  where
    by : (b : Bool) → bytes_eq a.0 n ≡ b → (c : Bool) → is_bound a.0 bs ≡ c → (if b then true else is_bound n xs) ≡ true → (is_bound n xs ≡ true → is_named n (names_only xs bs) ≡ true)
        → is_named n (if c then names_only xs bs else a.0 ∷ names_only xs bs) ≡ true
    by true e true f h rest = absurd (true≢false (sym f ∙ ap (λ m. is_bound m bs) (text_same a.0 n e) ∙ none))
    by true e false f h rest = or_left (bytes_eq a.0 n) (is_named n (names_only xs bs)) e
    by false e true f h rest = rest h
    by false e false f h rest = or_right (bytes_eq a.0 n) (is_named n (names_only xs bs)) (rest h)

-- what is bound after both arms is bound after the one or the other
both_bound : (n : List ℕ) (xs bs more : Bindings) → is_bound n (both_names xs bs ++ more) ≡ (if is_bound n xs then true else is_bound n more)
both_bound n [] bs more = refl
both_bound n (a ∷ xs) bs more = by (bytes_eq a.0 n) (both_bound n xs bs more)
  where
    by : (b : Bool) → is_bound n (both_names xs bs ++ more) ≡ (if is_bound n xs then true else is_bound n more)
        → (if b then true else is_bound n (both_names xs bs ++ more)) ≡ (if (if b then true else is_bound n xs) then true else is_bound n more)
    by true rest = refl
    by false rest = rest

missing_bound : (n : List ℕ) (xs bs : Bindings) → is_bound n (missing_names xs bs) ≡ true → is_bound n bs ≡ true
missing_bound n xs [] h = h
missing_bound n xs (b ∷ bs) h = by (is_bound b.0 xs) (bytes_eq b.0 n) refl h (missing_bound n xs bs)
  where
    by : (c d : Bool) → bytes_eq b.0 n ≡ d → is_bound n (if c then missing_names xs bs else b ∷ missing_names xs bs) ≡ true → (is_bound n (missing_names xs bs) ≡ true → is_bound n bs ≡ true)
        → (if d then true else is_bound n bs) ≡ true
    by c true e h rest = refl
    by true false e h rest = rest h
    by false false e h rest = rest (subst (λ t. (if t then true else is_bound n (missing_names xs bs)) ≡ true) e h)

bound_in_second : (n : List ℕ) (xs bs : Bindings) → is_bound n (merged_names xs bs) ≡ true → is_bound n xs ≡ false → is_bound n bs ≡ true
bound_in_second n xs bs h none =
    missing_bound n xs bs (sym (ap (λ b. if b then true else is_bound n (missing_names xs bs)) none) ∙ sym (both_bound n xs bs (missing_names xs bs)) ∙ h)

-- ---- after both arms

module _ (xs bs : Bindings) (hs gs : List (List ℕ)) (ys : List (List ℕ × Thing)) where
  pub unbound_left : UnboundFit xs hs ys → UnboundFit (merged_names xs bs) (hs ++ others gs hs ++ names_only xs bs ++ names_only bs xs) ys
  unbound_left h n bound none = by (is_bound n xs) refl
    where
      by : (b : Bool) → is_bound n xs ≡ b → is_named n (hs ++ others gs hs ++ names_only xs bs ++ names_only bs xs) ≡ true
      by true e = named_left n (hs ++ others gs hs ++ names_only xs bs) (names_only bs xs) (named_left n (hs ++ others gs hs) (names_only xs bs) (named_left n hs (others gs hs) (h n e none)))
      by false e = named_right n (hs ++ others gs hs ++ names_only xs bs) (names_only bs xs) (only_named n bs xs (bound_in_second n xs bs bound e) e)

  pub unbound_right : UnboundFit bs gs ys → UnboundFit (merged_names xs bs) (hs ++ others gs hs ++ names_only xs bs ++ names_only bs xs) ys
  unbound_right h n bound none = by (is_bound n bs) refl (is_bound n xs) refl
    where
      by : (b : Bool) → is_bound n bs ≡ b → (c : Bool) → is_bound n xs ≡ c → is_named n (hs ++ others gs hs ++ names_only xs bs ++ names_only bs xs) ≡ true
      by true e c f = named_left n (hs ++ others gs hs ++ names_only xs bs) (names_only bs xs) (named_left n (hs ++ others gs hs) (names_only xs bs) (named_besides n gs hs (h n e none)))
      by false e true f = named_left n (hs ++ others gs hs ++ names_only xs bs) (names_only bs xs) (named_right n (hs ++ others gs hs) (names_only xs bs) (only_named n xs bs f e))
      by false e false f = absurd (true≢false (sym (bound_in_second n xs bs bound f) ∙ e))

-- ---- after a name is bound anew

pub without_other : (n m : List ℕ) (ns : List (List ℕ)) → bytes_eq n m ≡ false → is_named m ns ≡ true → is_named m (without n ns) ≡ true
without_other n m [] differ h = h
without_other n m (x ∷ ns) differ h = by (bytes_eq x n) refl (bytes_eq x m) refl h (without_other n m ns differ)
  where
    by : (b : Bool) → bytes_eq x n ≡ b → (c : Bool) → bytes_eq x m ≡ c → (c || is_named m ns) ≡ true → (is_named m ns ≡ true → is_named m (without n ns) ≡ true)
        → is_named m (if b then without n ns else x ∷ without n ns) ≡ true
    by true e true f h rest = absurd (true≢false (sym f ∙ ap (λ q. bytes_eq q m) (text_same x n e) ∙ differ))
    by true e false f h rest = rest h
    by false e true f h rest = or_left (bytes_eq x m) (is_named m (without n ns)) f
    by false e false f h rest = or_right (bytes_eq x m) (is_named m (without n ns)) (rest h)
