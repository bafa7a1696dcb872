-- All that there is to see of a part of a grammar on given tokens, and how it is searched.
use Rattle.std.proofs.Common.{◌≡◌, ℕ, suc, Bool, true, false, List, [], ◌∷◌, Option, Some, None, refl, sym, subst, ◌⊎◌, inl, inr, ⊎_elim}
use Rattle.nf_grammar.specs.Gram.{Gram, token, gives, bind, either, only_where, many, rule}
use Rattle.nf_grammar.specs.Reads.{Reads, reads_token, reads_gives, reads_bind, reads_left, reads_right, reads_where, reads_end, reads_more, reads_rule, Stands, stands_before, stands_after, stands_gives, stands_first, stands_second, stands_left, stands_right, stands_where, stands_end, stands_part, stands_more, stands_rule, Deep, deep_here, deep_first, deep_second, deep_left, deep_right, deep_where, deep_part, deep_more, deep_rule}
use Rattle.nf_grammar.proofs.Outcomes.{turn}
use Rattle.nf_outcomes.proofs.Search.{Search, Among, searched_none, searched_same, searched_among, searched_list, searched_both, searched_next}

-- a tree that is read, with its rest; a rest before which a reading stands; one before which a reading passes a limit
pub data Sight (T V : Type 0) : Type 0 where
  read : V → List T → Sight T V
  stand : List T → Sight T V
  sink : List T → Sight T V

abbrev pub Seen : {T V L : Type 0} → (L → Gram T V L) → Gram T V L → List T → Sight T V → Type 0
Seen rules g ts (read v r) = Reads rules g ts v r
Seen rules g ts (stand r) = Stands rules g ts r
Seen rules g ts (sink r) = Deep rules g ts r

abbrev pub Searched : {T V L : Type 0} → (L → Gram T V L) → Gram T V L → List T → Type 1
Searched rules g ts = Search (Seen rules g ts)

-- what is seen after a sight of a part: what comes after a tree, and else that sight alone
abbrev After : {T V L : Type 0} → (L → Gram T V L) → (V → Gram T V L) → Sight T V → Sight T V → Type 0
After rules k (read a mid) s = Seen rules (k a) mid s
After rules k (stand r) s = s ≡ stand r
After rules k (sink r) s = s ≡ sink r

-- of a sight: where a reading stands; where one passes a limit; the tree, where no token is left
abbrev pub stood : {T V : Type 0} → Sight T V → List (List T)
stood (stand r) = r ∷ []
stood _ = []

abbrev pub sunk : {T V : Type 0} → Sight T V → List (List T)
sunk (sink r) = r ∷ []
sunk _ = []

abbrev pub whole : {T V : Type 0} → Sight T V → List V
whole (read v []) = v ∷ []
whole _ = []

module _ {T V L : Type 0} {rules : L → Gram T V L} where
  -- ---- one token, no token

  searched_before : (past : Bool) (p : T → Option V) (ts : List T) → ((v : V) (r : List T) → Reads rules (token past p) ts v r → ⊥) → Searched rules (token past p) ts
  searched_before past p ts none = searched_list (stand ts ∷ []) (stands_before, tt) (all past ts none)
    where
      all : (b : Bool) (us : List T) → ((v : V) (r : List T) → Reads rules (token b p) us v r → ⊥) → (s : Sight T V) → Seen rules (token b p) us s → Among (stand us ∷ []) s
      all b us h (read v r) x = absurd (h v r x)
      all b us h (stand r) stands_before = inl refl
      all b us h (stand r) (stands_after e) = absurd (h _ _ (reads_token e))
      all b us h (sink r) (deep_here e) = absurd (h _ _ (reads_token e))

  searched_taken : (past : Bool) (p : T → Option V) (t : T) (ts : List T) (v : V) → p t ≡ Some v → Searched rules (token past p) (t ∷ ts)
  searched_taken false p t ts v e = searched_list (read v ts ∷ stand (t ∷ ts) ∷ stand ts ∷ []) (reads_token e, (stands_before, (stands_after e, tt))) all
    where
      all : (s : Sight T V) → Seen rules (token false p) (t ∷ ts) s → Among (read v ts ∷ stand (t ∷ ts) ∷ stand ts ∷ []) s
      all (read w r) (reads_token f) = inl cc
      all (stand r) stands_before = inr (inl refl)
      all (stand r) (stands_after f) = inr (inr (inl refl))
      all (sink r) x = elim x [ ]
  searched_taken true p t ts v e = searched_list (read v ts ∷ stand (t ∷ ts) ∷ stand ts ∷ sink (t ∷ ts) ∷ []) (reads_token e, (stands_before, (stands_after e, (deep_here e, tt)))) all
    where
      all : (s : Sight T V) → Seen rules (token true p) (t ∷ ts) s → Among (read v ts ∷ stand (t ∷ ts) ∷ stand ts ∷ sink (t ∷ ts) ∷ []) s
      all (read w r) (reads_token f) = inl cc
      all (stand r) stands_before = inr (inl refl)
      all (stand r) (stands_after f) = inr (inr (inl refl))
      all (sink r) (deep_here f) = inr (inr (inr (inl refl)))

  pub searched_token : (past : Bool) (p : T → Option V) (ts : List T) → Searched rules (token past p) ts
  searched_token past p [] = searched_before past p [] (λ v r x. elim x [ ])
  searched_token past p (t ∷ ts) = by_kind (p t) refl
    where
      missed : p t ≡ None → (v : V) (r : List T) → Reads rules (token past p) (t ∷ ts) v r → ⊥
      missed e v r (reads_token f) = cc

      by_kind : (o : Option V) → p t ≡ o → Searched rules (token past p) (t ∷ ts)
      by_kind None e = searched_before past p (t ∷ ts) (missed e)
      by_kind (Some v) e = searched_taken past p t ts v e

  pub searched_gives : (v : V) (ts : List T) → Searched rules (gives v) ts
  searched_gives v ts = searched_list (read v ts ∷ stand ts ∷ []) (reads_gives, (stands_gives, tt)) all
    where
      all : (s : Sight T V) → Seen rules (gives v) ts s → Among (read v ts ∷ stand ts ∷ []) s
      all (read w r) reads_gives = inl refl
      all (stand r) stands_gives = inr (inl refl)
      all (sink r) x = elim x [ ]

  -- ---- one part after the other

  pub searched_bind : {g : Gram T V L} {k : V → Gram T V L} {ts : List T} → Searched rules g ts → ((a : V) (mid : List T) → Reads rules g ts a mid → Searched rules (k a) mid) → Searched rules (bind g k) ts
  searched_bind {g} {k} {ts} first second = searched_next {B = After rules k} first after join split
    where
      after : (y : Sight T V) → Seen rules g ts y → Search (After rules k y)
      after (read a mid) x = second a mid x
      after (stand r) x = searched_list (stand r ∷ []) (refl, tt) (λ s e. inl e)
      after (sink r) x = searched_list (sink r ∷ []) (refl, tt) (λ s e. inl e)

      join : (y s : Sight T V) → Seen rules g ts y → After rules k y s → Seen rules (bind g k) ts s
      join (read a mid) (read v r) x z = reads_bind x z
      join (read a mid) (stand r) x z = stands_second x z
      join (read a mid) (sink r) x z = deep_second x z
      join (stand r) s x e = subst (Seen rules (bind g k) ts) (sym e) (stands_first x)
      join (sink r) s x e = subst (Seen rules (bind g k) ts) (sym e) (deep_first x)

      split : (s : Sight T V) → Seen rules (bind g k) ts s → (y : Sight T V) × Seen rules g ts y × After rules k y s
      split (read v r) (reads_bind x z) = (read _ _, x, z)
      split (stand r) (stands_first x) = (stand r, x, refl)
      split (stand r) (stands_second x z) = (read _ _, x, z)
      split (sink r) (deep_first x) = (sink r, x, refl)
      split (sink r) (deep_second x z) = (read _ _, x, z)

  -- ---- arms, tests, parts and rules

  pub searched_either : {g h : Gram T V L} {ts : List T} → Searched rules g ts → Searched rules h ts → Searched rules (either g h) ts
  searched_either {g} {h} {ts} f e = searched_both f e left right split
    where
      left : (s : Sight T V) → Seen rules g ts s → Seen rules (either g h) ts s
      left (read v r) x = reads_left x
      left (stand r) x = stands_left x
      left (sink r) x = deep_left x

      right : (s : Sight T V) → Seen rules h ts s → Seen rules (either g h) ts s
      right (read v r) x = reads_right x
      right (stand r) x = stands_right x
      right (sink r) x = deep_right x

      split : (s : Sight T V) → Seen rules (either g h) ts s → Seen rules g ts s ⊎ Seen rules h ts s
      split (read v r) (reads_left x) = inl x
      split (read v r) (reads_right x) = inr x
      split (stand r) (stands_left x) = inl x
      split (stand r) (stands_right x) = inr x
      split (sink r) (deep_left x) = inl x
      split (sink r) (deep_right x) = inr x

  pub searched_where : {c : List T → Bool} {g : Gram T V L} {ts : List T} → Searched rules g ts → Searched rules (only_where c g) ts
  searched_where {c} {g} {ts} f = by_test (c ts) refl
    where
      into : c ts ≡ true → (s : Sight T V) → Seen rules g ts s → Seen rules (only_where c g) ts s
      into e (read v r) x = reads_where e x
      into e (stand r) x = stands_where e x
      into e (sink r) x = deep_where e x

      back : (s : Sight T V) → Seen rules (only_where c g) ts s → (c ts ≡ true) × Seen rules g ts s
      back (read v r) (reads_where e x) = (e, x)
      back (stand r) (stands_where e x) = (e, x)
      back (sink r) (deep_where e x) = (e, x)

      by_test : (b : Bool) → c ts ≡ b → Searched rules (only_where c g) ts
      by_test true e = searched_same f (into e) (λ s x. (back s x).1)
      by_test false e = searched_none (λ s x. (let q = (back s x).0 in cc))

  pub searched_many : {c : List T → Bool} {f : ℕ → V → Gram T V L} {n : ℕ} {a : V} {ts : List T} → Searched rules (bind (f n a) (many c f (suc n))) ts → Searched rules (many c f n a) ts
  searched_many {c} {f} {n} {a} {ts} h = searched_same (searched_either h (searched_where (searched_gives a ts))) fold unfolds
    where
      fold : (s : Sight T V) → Seen rules (turn c f n a) ts s → Seen rules (many c f n a) ts s
      fold (read v r) (reads_left (reads_bind x z)) = reads_more x z
      fold (read v r) (reads_right (reads_where e reads_gives)) = reads_end e
      fold (stand r) (stands_left (stands_first x)) = stands_part x
      fold (stand r) (stands_left (stands_second x z)) = stands_more x z
      fold (stand r) (stands_right (stands_where e stands_gives)) = stands_end e
      fold (sink r) (deep_left (deep_first x)) = deep_part x
      fold (sink r) (deep_left (deep_second x z)) = deep_more x z
      fold (sink r) (deep_right (deep_where e x)) = elim x [ ]

      unfolds : (s : Sight T V) → Seen rules (many c f n a) ts s → Seen rules (turn c f n a) ts s
      unfolds (read v r) (reads_more x z) = reads_left (reads_bind x z)
      unfolds (read v r) (reads_end e) = reads_right (reads_where e reads_gives)
      unfolds (stand r) (stands_part x) = stands_left (stands_first x)
      unfolds (stand r) (stands_more x z) = stands_left (stands_second x z)
      unfolds (stand r) (stands_end e) = stands_right (stands_where e stands_gives)
      unfolds (sink r) (deep_part x) = deep_left (deep_first x)
      unfolds (sink r) (deep_more x z) = deep_left (deep_second x z)

  pub searched_rule : {l : L} {ts : List T} → Searched rules (rules l) ts → Searched rules (rule l) ts
  searched_rule {l} {ts} f = searched_same f into back
    where
      into : (s : Sight T V) → Seen rules (rules l) ts s → Seen rules (rule l) ts s
      into (read v r) x = reads_rule x
      into (stand r) x = stands_rule x
      into (sink r) x = deep_rule x

      back : (s : Sight T V) → Seen rules (rule l) ts s → Seen rules (rules l) ts s
      back (read v r) (reads_rule x) = x
      back (stand r) (stands_rule x) = x
      back (sink r) (deep_rule x) = x

  -- ---- sights of one kind

  -- where a reading stands
  pub searched_stands : {g : Gram T V L} {ts : List T} → Searched rules g ts → Search (Stands rules g ts)
  searched_stands {g} {ts} f = searched_next {B = λ y. Among (stood y)} f (λ y x. searched_among (stood y)) join split
    where
      join : (y : Sight T V) (r : List T) → Seen rules g ts y → Among (stood y) r → Stands rules g ts r
      join (read v q) r x e = absurd e
      join (stand q) r x e = ⊎_elim (λ i. subst (Stands rules g ts) (sym i) x) (λ z. absurd z) e
      join (sink q) r x e = absurd e

      split : (r : List T) → Stands rules g ts r → (y : Sight T V) × Seen rules g ts y × Among (stood y) r
      split r x = (stand r, x, inl refl)

  -- where one passes a limit
  pub searched_deep : {g : Gram T V L} {ts : List T} → Searched rules g ts → Search (Deep rules g ts)
  searched_deep {g} {ts} f = searched_next {B = λ y. Among (sunk y)} f (λ y x. searched_among (sunk y)) join split
    where
      join : (y : Sight T V) (r : List T) → Seen rules g ts y → Among (sunk y) r → Deep rules g ts r
      join (read v q) r x e = absurd e
      join (stand q) r x e = absurd e
      join (sink q) r x e = ⊎_elim (λ i. subst (Deep rules g ts) (sym i) x) (λ z. absurd z) e

      split : (r : List T) → Deep rules g ts r → (y : Sight T V) × Seen rules g ts y × Among (sunk y) r
      split r x = (sink r, x, inl refl)

  -- what all the tokens are read as
  pub searched_whole : {g : Gram T V L} {ts : List T} → Searched rules g ts → Search (λ v. Reads rules g ts v [])
  searched_whole {g} {ts} f = searched_next {B = λ y. Among (whole y)} f (λ y x. searched_among (whole y)) join split
    where
      join : (y : Sight T V) (v : V) → Seen rules g ts y → Among (whole y) v → Reads rules g ts v []
      join (read w []) v x e = ⊎_elim (λ i. subst (λ u. Reads rules g ts u []) (sym i) x) (λ z. absurd z) e
      join (read w (t ∷ r)) v x e = absurd e
      join (stand q) v x e = absurd e
      join (sink q) v x e = absurd e

      split : (v : V) → Reads rules g ts v [] → (y : Sight T V) × Seen rules g ts y × Among (whole y) v
      split v x = (read v [], x, inl refl)
