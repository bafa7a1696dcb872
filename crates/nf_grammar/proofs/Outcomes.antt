-- How reading each kind of part ends.
use Rattle.std.proofs.Common.{◌≡◌, ℕ, suc, ◌≤◌, Bool, true, false, List, [], ◌∷◌, length, Option, Some, None, refl, sym, subst, arith, ◌⊎◌, inl, inr, ◌∙◌}
use Rattle.nf_grammar.specs.Gram.{Gram, token, gives, bind, either, only_where, many, rule}
use Rattle.nf_grammar.specs.Parts.{no_next, none_of}
use Rattle.nf_grammar.specs.Reads.{Reads, reads_token, reads_gives, reads_bind, reads_left, reads_right, reads_where, reads_end, reads_more, reads_rule, Stands, stands_before, stands_after, stands_gives, stands_first, stands_second, stands_left, stands_right, stands_where, stands_end, stands_part, stands_more, stands_rule, Deep, deep_here, deep_first, deep_second, deep_left, deep_right, deep_where, deep_part, deep_more, deep_rule}
use Rattle.nf_grammar.specs.Outcome.{Out, got, unexpected, too_deep, Got, Unexpected, TooDeep, IsOutcome, Outcome}

-- a first part that was read, and then: the second was read; a reading of it stands here; it passes a limit here
record Mid {T V L : Type 0} (rules : L → Gram T V L) (g : Gram T V L) (h : V → Gram T V L) (ts : List T) (v : V) (rest : List T) : Type 0 where
  a : V
  mid : List T
  first : Reads rules g ts a mid
  second : Reads rules (h a) mid v rest

record Next {T V L : Type 0} (rules : L → Gram T V L) (g : Gram T V L) (h : V → Gram T V L) (ts r : List T) : Type 0 where
  a : V
  mid : List T
  first : Reads rules g ts a mid
  second : Stands rules (h a) mid r

record Below {T V L : Type 0} (rules : L → Gram T V L) (g : Gram T V L) (h : V → Gram T V L) (ts r : List T) : Type 0 where
  a : V
  mid : List T
  first : Reads rules g ts a mid
  second : Deep rules (h a) mid r

-- the outcome stands no less far, unless a limit is passed
abbrev pub Reaches : {T V : Type 0} → Out T V → ℕ → Type 0
Reaches (got v rest left) far = left ≤ far
Reaches (unexpected left) far = left ≤ far
Reaches (too_deep left) far = Unit {0}

-- an arm that spells nothing, and stands no further than this
pub record Adds {T V L : Type 0} (rules : L → Gram T V L) (g : Gram T V L) (ts : List T) (far : ℕ) : Type 0 where
  pub none : (w : V) (r : List T) → Reads rules g ts w r → ⊥
  pub farthest : (r : List T) → Stands rules g ts r → far ≤ length r
  pub shallow : (r : List T) → Deep rules g ts r → ⊥

-- both read the same
pub record Same {T V L : Type 0} (rules : L → Gram T V L) (g h : Gram T V L) (ts : List T) : Type 0 where
  pub reads : {w : V} {r : List T} → Reads rules g ts w r → Reads rules h ts w r
  pub reads_back : {w : V} {r : List T} → Reads rules h ts w r → Reads rules g ts w r
  pub stands : {r : List T} → Stands rules g ts r → Stands rules h ts r
  pub stands_back : {r : List T} → Stands rules h ts r → Stands rules g ts r
  pub deep : {r : List T} → Deep rules g ts r → Deep rules h ts r
  pub deep_back : {r : List T} → Deep rules h ts r → Deep rules g ts r

-- one more part and the others, or the end
abbrev pub turn : {T V L : Type 0} → (List T → Bool) → (ℕ → V → Gram T V L) → ℕ → V → Gram T V L
turn c f n a = either (bind (f n a) (many c f (suc n))) (only_where c (gives a))

module _ {T V L : Type 0} {rules : L → Gram T V L} where
  -- ---- what holds of every reading

  pub reads_le : {g : Gram T V L} {ts rest : List T} {v : V} → Reads rules g ts v rest → length rest ≤ length ts
  reads_le (reads_token e) = omega arith
  reads_le reads_gives = omega arith
  reads_le (reads_bind r s) = omega (arith, reads_le r, reads_le s)
  reads_le (reads_left r) = reads_le r
  reads_le (reads_right r) = reads_le r
  reads_le (reads_where c r) = reads_le r
  reads_le (reads_end c) = omega arith
  reads_le (reads_more r s) = omega (arith, reads_le r, reads_le s)
  reads_le (reads_rule r) = reads_le r

  pub reads_stands : {g : Gram T V L} {ts rest : List T} {v : V} → Reads rules g ts v rest → Stands rules g ts rest
  reads_stands (reads_token e) = stands_after e
  reads_stands reads_gives = stands_gives
  reads_stands (reads_bind r s) = stands_second r (reads_stands s)
  reads_stands (reads_left r) = stands_left (reads_stands r)
  reads_stands (reads_right r) = stands_right (reads_stands r)
  reads_stands (reads_where c r) = stands_where c (reads_stands r)
  reads_stands (reads_end c) = stands_end c
  reads_stands (reads_more r s) = stands_more r (reads_stands s)
  reads_stands (reads_rule r) = stands_rule (reads_stands r)

  pub stands_le : {g : Gram T V L} {ts r : List T} → Stands rules g ts r → length r ≤ length ts
  stands_le stands_before = omega arith
  stands_le (stands_after e) = omega arith
  stands_le stands_gives = omega arith
  stands_le (stands_first s) = stands_le s
  stands_le (stands_second r s) = omega (arith, reads_le r, stands_le s)
  stands_le (stands_left s) = stands_le s
  stands_le (stands_right s) = stands_le s
  stands_le (stands_where c s) = stands_le s
  stands_le (stands_end c) = omega arith
  stands_le (stands_part s) = stands_le s
  stands_le (stands_more r s) = omega (arith, reads_le r, stands_le s)
  stands_le (stands_rule s) = stands_le s

  pub deep_stands : {g : Gram T V L} {ts r : List T} → Deep rules g ts r → Stands rules g ts r
  deep_stands (deep_here e) = stands_before
  deep_stands (deep_first d) = stands_first (deep_stands d)
  deep_stands (deep_second r d) = stands_second r (deep_stands d)
  deep_stands (deep_left d) = stands_left (deep_stands d)
  deep_stands (deep_right d) = stands_right (deep_stands d)
  deep_stands (deep_where c d) = stands_where c (deep_stands d)
  deep_stands (deep_part d) = stands_part (deep_stands d)
  deep_stands (deep_more r d) = stands_more r (deep_stands d)
  deep_stands (deep_rule d) = stands_rule (deep_stands d)

  -- ---- what a reading is made of

  un_bind : {g : Gram T V L} {k : V → Gram T V L} {ts rest : List T} {v : V} → Reads rules (bind g k) ts v rest → Mid rules g k ts v rest
  un_bind (reads_bind r s) = record { a = _; mid = _; first = r; second = s }

  un_either : {g h : Gram T V L} {ts rest : List T} {v : V} → Reads rules (either g h) ts v rest → Reads rules g ts v rest ⊎ Reads rules h ts v rest
  un_either (reads_left r) = inl r
  un_either (reads_right r) = inr r

  un_where : {c : List T → Bool} {g : Gram T V L} {ts rest : List T} {v : V} → Reads rules (only_where c g) ts v rest → (c ts ≡ true) × Reads rules g ts v rest
  un_where (reads_where c r) = (c, r)

  un_rule : {l : L} {ts rest : List T} {v : V} → Reads rules (rule l) ts v rest → Reads rules (rules l) ts v rest
  un_rule (reads_rule r) = r

  un_stands_bind : {g : Gram T V L} {k : V → Gram T V L} {ts r : List T} → Stands rules (bind g k) ts r → Stands rules g ts r ⊎ Next rules g k ts r
  un_stands_bind (stands_first s) = inl s
  un_stands_bind (stands_second r s) = inr (record { a = _; mid = _; first = r; second = s })

  un_stands_either : {g h : Gram T V L} {ts r : List T} → Stands rules (either g h) ts r → Stands rules g ts r ⊎ Stands rules h ts r
  un_stands_either (stands_left s) = inl s
  un_stands_either (stands_right s) = inr s

  un_stands_where : {c : List T → Bool} {g : Gram T V L} {ts r : List T} → Stands rules (only_where c g) ts r → (c ts ≡ true) × Stands rules g ts r
  un_stands_where (stands_where c s) = (c, s)

  un_stands_rule : {l : L} {ts r : List T} → Stands rules (rule l) ts r → Stands rules (rules l) ts r
  un_stands_rule (stands_rule s) = s

  un_deep_bind : {g : Gram T V L} {k : V → Gram T V L} {ts r : List T} → Deep rules (bind g k) ts r → Deep rules g ts r ⊎ Below rules g k ts r
  un_deep_bind (deep_first s) = inl s
  un_deep_bind (deep_second r s) = inr (record { a = _; mid = _; first = r; second = s })

  un_deep_either : {g h : Gram T V L} {ts r : List T} → Deep rules (either g h) ts r → Deep rules g ts r ⊎ Deep rules h ts r
  un_deep_either (deep_left s) = inl s
  un_deep_either (deep_right s) = inr s

  un_deep_where : {c : List T → Bool} {g : Gram T V L} {ts r : List T} → Deep rules (only_where c g) ts r → (c ts ≡ true) × Deep rules g ts r
  un_deep_where (deep_where c s) = (c, s)

  un_deep_rule : {l : L} {ts r : List T} → Deep rules (rule l) ts r → Deep rules (rules l) ts r
  un_deep_rule (deep_rule s) = s

  -- ---- no token, one token

  pub gives_got : (v : V) (ts : List T) → Outcome rules (gives v) ts (got v ts (length ts))
  gives_got v ts = record { ends = record { reads = reads_gives; only = only; stands = (ts, stands_gives, refl); farthest = far; shallow = shallow } }
    where
      only : (w : V) (r : List T) → Reads rules (gives v) ts w r → (w ≡ v) × (r ≡ ts)
      only _ _ reads_gives = (refl, refl)

      far : (r : List T) → Stands rules (gives v) ts r → length ts ≤ length r
      far _ stands_gives = omega arith

      shallow : (r : List T) → Deep rules (gives v) ts r → ⊥
      shallow r d = elim d [ ]

  pub token_got : (p : T → Option V) (t : T) (ts : List T) (v : V) → p t ≡ Some v → Outcome rules (token false p) (t ∷ ts) (got v ts (length ts))
  token_got p t ts v e = record { ends = record { reads = reads_token e; only = only; stands = (ts, stands_after e, refl); farthest = far; shallow = shallow } }
    where
      only : (w : V) (r : List T) → Reads rules (token false p) (t ∷ ts) w r → (w ≡ v) × (r ≡ ts)
      only w _ (reads_token f) = (cc, refl)

      far : (r : List T) → Stands rules (token false p) (t ∷ ts) r → length ts ≤ length r
      far _ stands_before = omega arith
      far _ (stands_after f) = omega arith

      shallow : (r : List T) → Deep rules (token false p) (t ∷ ts) r → ⊥
      shallow r d = elim d [ ]

  pub token_not : (past : Bool) (p : T → Option V) (ts : List T) → no_next p ts ≡ true → Outcome rules (token past p) ts (unexpected (length ts))
  token_not past p ts nt = record { ends = record { none = none ts nt; stands = (ts, stands_before, refl); farthest = far ts nt; shallow = shallow past ts nt } }
    where
      not_both : (o : Option V) (v : V) → none_of o ≡ true → o ≡ Some v → ⊥
      not_both None v e f = cc
      not_both (Some w) v e f = cc

      none : (ts : List T) → no_next p ts ≡ true → (w : V) (r : List T) → Reads rules (token past p) ts w r → ⊥
      none [] nt w r x = elim x [ ]
      none (t ∷ ts) nt w r (reads_token f) = not_both (p t) w nt f

      far : (ts : List T) → no_next p ts ≡ true → (r : List T) → Stands rules (token past p) ts r → length ts ≤ length r
      far ts nt r stands_before = omega arith
      far (t ∷ ts) nt r (stands_after {v = v} f) = absurd (not_both (p t) v nt f)

      shallow : (past : Bool) (ts : List T) → no_next p ts ≡ true → (r : List T) → Deep rules (token past p) ts r → ⊥
      shallow false ts nt r x = elim x [ ]
      shallow true [] nt r x = elim x [ ]
      shallow true (t ∷ ts) nt r (deep_here {v = v} f) = not_both (p t) v nt f

  pub token_deep : (p : T → Option V) (t : T) (ts : List T) (v : V) → p t ≡ Some v → Outcome rules (token true p) (t ∷ ts) (too_deep (suc (length ts)))
  token_deep p t ts v e = record { ends = record { deep = (t ∷ ts, deep_here e, refl); earliest = λ r d. stands_le (deep_stands d); beyond = λ w r d. reads_le d } }

  -- ---- one part after the other

  -- after a part that was read
  pub bind_got : (g : Gram T V L) (k : V → Gram T V L) (ts : List T) (a : V) (mid : List T) (far : ℕ) (o : Out T V) → Outcome rules g ts (got a mid far) → Outcome rules (k a) mid o → Reaches o far → Outcome rules (bind g k) ts o
  bind_got g k ts a mid far o first second reaches = record { ends = ends o second.ends reaches }
    where
      f : Got rules g ts a mid far
      f = first.ends

      same : (P : V → List T → Type 0) (b : V) (m : List T) → Reads rules g ts b m → P b m → P a mid
      same P b m r h = let e = f.only b m r in subst (λ x. P x mid) e.0 (subst (λ y. P b y) e.1 h)

      none : ((w : V) (r : List T) → Reads rules (k a) mid w r → ⊥) → (w : V) (r : List T) → Reads rules (bind g k) ts w r → ⊥
      none no_more w r d = let m = un_bind d in no_more w r (same (λ x y. Reads rules (k x) y w r) m.a m.mid m.first m.second)

      farthest : (left : ℕ) → left ≤ far → ((r : List T) → Stands rules (k a) mid r → left ≤ length r) → (r : List T) → Stands rules (bind g k) ts r → left ≤ length r
      farthest left le h r s = elim (un_stands_bind s) [
        | inl q ↦ omega (arith, f.farthest r q)
        | inr m ↦ h r (same (λ x y. Stands rules (k x) y r) m.a m.mid m.first m.second)
      ]

      shallow : ((r : List T) → Deep rules (k a) mid r → ⊥) → (r : List T) → Deep rules (bind g k) ts r → ⊥
      shallow h r d = elim (un_deep_bind d) [
        | inl q ↦ f.shallow r q
        | inr m ↦ h r (same (λ x y. Deep rules (k x) y r) m.a m.mid m.first m.second)
      ]

      ends : (o : Out T V) → IsOutcome rules (k a) mid o → Reaches o far → IsOutcome rules (bind g k) ts o
      ends (got v rest left) s le = record {
        reads = reads_bind f.reads s.reads;
        only = λ w r d. (let m = un_bind d in s.only w r (same (λ x y. Reads rules (k x) y w r) m.a m.mid m.first m.second));
        stands = (s.stands.0, stands_second f.reads s.stands.1, s.stands.2);
        farthest = farthest left le s.farthest;
        shallow = shallow s.shallow;
      }
      ends (unexpected left) s le = record {
        none = none s.none;
        stands = (s.stands.0, stands_second f.reads s.stands.1, s.stands.2);
        farthest = farthest left le s.farthest;
        shallow = shallow s.shallow;
      }
      ends (too_deep left) s le = record {
        deep = (s.deep.0, deep_second f.reads s.deep.1, s.deep.2);
        earliest = λ r d. elim (un_deep_bind d) [
          | inl q ↦ absurd (f.shallow r q)
          | inr m ↦ s.earliest r (same (λ x y. Deep rules (k x) y r) m.a m.mid m.first m.second)
        ];
        beyond = λ w r d. (let m = un_bind d in s.beyond w r (same (λ x y. Reads rules (k x) y w r) m.a m.mid m.first m.second));
      }

  pub reaches_all : (g : Gram T V L) (ts : List T) (o : Out T V) → Outcome rules g ts o → Reaches o (length ts)
  reaches_all g ts (got v rest left) h = h.ends.farthest rest (reads_stands h.ends.reads) ∙≤ reads_le h.ends.reads
    where
      infixl 5 ◌∙≤◌
      ◌∙≤◌ : {a b c : ℕ} → a ≤ b → b ≤ c → a ≤ c
      p ∙≤ q = omega (arith, p, q)
  reaches_all g ts (unexpected left) h = omega (arith, stands_le h.ends.stands.1, h.ends.stands.2)
  reaches_all g ts (too_deep left) h = tt

  -- after a part that was read as far as any reading stands
  pub bind_next : (g : Gram T V L) (k : V → Gram T V L) (ts : List T) (a : V) (mid : List T) (o : Out T V) → Outcome rules g ts (got a mid (length mid)) → Outcome rules (k a) mid o → Outcome rules (bind g k) ts o
  bind_next g k ts a mid o first second = bind_got g k ts a mid (length mid) o first second (reaches_all (k a) mid o second)

  pub bind_unexpected : (g : Gram T V L) (k : V → Gram T V L) (ts : List T) (left : ℕ) → Outcome rules g ts (unexpected left) → Outcome rules (bind g k) ts (unexpected left)
  bind_unexpected g k ts left first = record {
    ends = record {
      none = λ w r d. (let m = un_bind d in f.none m.a m.mid m.first);
      stands = (f.stands.0, stands_first f.stands.1, f.stands.2);
      farthest = λ r s. elim (un_stands_bind s) [ inl q ↦ f.farthest r q | inr m ↦ absurd (f.none m.a m.mid m.first) ];
      shallow = λ r d. elim (un_deep_bind d) [ inl q ↦ f.shallow r q | inr m ↦ f.none m.a m.mid m.first ];
    };
  }
    where
      f : Unexpected rules g ts left
      f = first.ends

  pub bind_deep : (g : Gram T V L) (k : V → Gram T V L) (ts : List T) (left : ℕ) → Outcome rules g ts (too_deep left) → Outcome rules (bind g k) ts (too_deep left)
  bind_deep g k ts left first = record {
    ends = record {
      deep = (f.deep.0, deep_first f.deep.1, f.deep.2);
      earliest = λ r d. elim (un_deep_bind d) [ inl q ↦ f.earliest r q | inr m ↦ omega (arith, f.beyond m.a m.mid m.first, stands_le (deep_stands m.second)) ];
      beyond = λ w r d. (let m = un_bind d in omega (arith, f.beyond m.a m.mid m.first, reads_le m.second));
    };
  }
    where
      f : TooDeep rules g ts left
      f = first.ends

  -- ---- arms

  pub adds_unexpected : (g : Gram T V L) (ts : List T) (left : ℕ) → Outcome rules g ts (unexpected left) → Adds rules g ts left
  adds_unexpected g ts left h = record { none = h.ends.none; farthest = h.ends.farthest; shallow = h.ends.shallow }

  pub adds_where : (c : List T → Bool) (g : Gram T V L) (ts : List T) (far : ℕ) → c ts ≡ false → Adds rules (only_where c g) ts far
  adds_where c g ts far e = record {
    none = λ w r d. (let p = (un_where d).0 in absurd cc);
    farthest = λ r s. (let p = (un_stands_where s).0 in absurd cc);
    shallow = λ r d. (let p = (un_deep_where d).0 in absurd cc);
  }

  pub either_left : (g h : Gram T V L) (ts : List T) (o : Out T V) (far : ℕ) → Outcome rules g ts o → Adds rules h ts far → Reaches o far → Outcome rules (either g h) ts o
  either_left g h ts o far one other reaches = record { ends = ends o one.ends reaches }
    where
      farthest : (left : ℕ) → left ≤ far → ((r : List T) → Stands rules g ts r → left ≤ length r) → (r : List T) → Stands rules (either g h) ts r → left ≤ length r
      farthest left le f r s = elim (un_stands_either s) [ inl q ↦ f r q | inr q ↦ omega (arith, other.farthest r q) ]

      shallow : ((r : List T) → Deep rules g ts r → ⊥) → (r : List T) → Deep rules (either g h) ts r → ⊥
      shallow f r d = elim (un_deep_either d) [ inl q ↦ f r q | inr q ↦ other.shallow r q ]

      ends : (o : Out T V) → IsOutcome rules g ts o → Reaches o far → IsOutcome rules (either g h) ts o
      ends (got v rest left) s le = record {
        reads = reads_left s.reads;
        only = λ w r d. elim (un_either d) [ inl q ↦ s.only w r q | inr q ↦ absurd (other.none w r q) ];
        stands = (s.stands.0, stands_left s.stands.1, s.stands.2);
        farthest = farthest left le s.farthest;
        shallow = shallow s.shallow;
      }
      ends (unexpected left) s le = record {
        none = λ w r d. elim (un_either d) [ inl q ↦ s.none w r q | inr q ↦ other.none w r q ];
        stands = (s.stands.0, stands_left s.stands.1, s.stands.2);
        farthest = farthest left le s.farthest;
        shallow = shallow s.shallow;
      }
      ends (too_deep left) s le = record {
        deep = (s.deep.0, deep_left s.deep.1, s.deep.2);
        earliest = λ r d. elim (un_deep_either d) [ inl q ↦ s.earliest r q | inr q ↦ absurd (other.shallow r q) ];
        beyond = λ w r d. elim (un_either d) [ inl q ↦ s.beyond w r q | inr q ↦ absurd (other.none w r q) ];
      }

  pub either_right : (g h : Gram T V L) (ts : List T) (o : Out T V) (far : ℕ) → Outcome rules h ts o → Adds rules g ts far → Reaches o far → Outcome rules (either g h) ts o
  either_right g h ts o far one other reaches = record { ends = ends o one.ends reaches }
    where
      farthest : (left : ℕ) → left ≤ far → ((r : List T) → Stands rules h ts r → left ≤ length r) → (r : List T) → Stands rules (either g h) ts r → left ≤ length r
      farthest left le f r s = elim (un_stands_either s) [ inr q ↦ f r q | inl q ↦ omega (arith, other.farthest r q) ]

      shallow : ((r : List T) → Deep rules h ts r → ⊥) → (r : List T) → Deep rules (either g h) ts r → ⊥
      shallow f r d = elim (un_deep_either d) [ inr q ↦ f r q | inl q ↦ other.shallow r q ]

      ends : (o : Out T V) → IsOutcome rules h ts o → Reaches o far → IsOutcome rules (either g h) ts o
      ends (got v rest left) s le = record {
        reads = reads_right s.reads;
        only = λ w r d. elim (un_either d) [ inr q ↦ s.only w r q | inl q ↦ absurd (other.none w r q) ];
        stands = (s.stands.0, stands_right s.stands.1, s.stands.2);
        farthest = farthest left le s.farthest;
        shallow = shallow s.shallow;
      }
      ends (unexpected left) s le = record {
        none = λ w r d. elim (un_either d) [ inr q ↦ s.none w r q | inl q ↦ other.none w r q ];
        stands = (s.stands.0, stands_right s.stands.1, s.stands.2);
        farthest = farthest left le s.farthest;
        shallow = shallow s.shallow;
      }
      ends (too_deep left) s le = record {
        deep = (s.deep.0, deep_right s.deep.1, s.deep.2);
        earliest = λ r d. elim (un_deep_either d) [ inr q ↦ s.earliest r q | inl q ↦ absurd (other.shallow r q) ];
        beyond = λ w r d. elim (un_either d) [ inr q ↦ s.beyond w r q | inl q ↦ absurd (other.none w r q) ];
      }

  -- where the other arm can't even begin
  pub left_arm : (g h : Gram T V L) (ts : List T) (o : Out T V) → Outcome rules g ts o → Outcome rules h ts (unexpected (length ts)) → Outcome rules (either g h) ts o
  left_arm g h ts o one other = either_left g h ts o (length ts) one (adds_unexpected h ts (length ts) other) (reaches_all g ts o one)

  pub right_arm : (g h : Gram T V L) (ts : List T) (o : Out T V) → Outcome rules h ts o → Outcome rules g ts (unexpected (length ts)) → Outcome rules (either g h) ts o
  right_arm g h ts o one other = either_right g h ts o (length ts) one (adds_unexpected g ts (length ts) other) (reaches_all h ts o one)

  -- ---- parts that read the same

  pub same_outcome : (g h : Gram T V L) (ts : List T) (o : Out T V) → Same rules g h ts → Outcome rules g ts o → Outcome rules h ts o
  same_outcome g h ts (got v rest left) e q = record {
    ends = record {
      reads = e.reads q.ends.reads;
      only = λ w r d. q.ends.only w r (e.reads_back d);
      stands = (q.ends.stands.0, e.stands q.ends.stands.1, q.ends.stands.2);
      farthest = λ r s. q.ends.farthest r (e.stands_back s);
      shallow = λ r d. q.ends.shallow r (e.deep_back d);
    };
  }
  same_outcome g h ts (unexpected left) e q = record {
    ends = record {
      none = λ w r d. q.ends.none w r (e.reads_back d);
      stands = (q.ends.stands.0, e.stands q.ends.stands.1, q.ends.stands.2);
      farthest = λ r s. q.ends.farthest r (e.stands_back s);
      shallow = λ r d. q.ends.shallow r (e.deep_back d);
    };
  }
  same_outcome g h ts (too_deep left) e q = record {
    ends = record {
      deep = (q.ends.deep.0, e.deep q.ends.deep.1, q.ends.deep.2);
      earliest = λ r d. q.ends.earliest r (e.deep_back d);
      beyond = λ w r d. q.ends.beyond w r (e.reads_back d);
    };
  }

  pub by_rule : (l : L) (ts : List T) (o : Out T V) → Outcome rules (rules l) ts o → Outcome rules (rule l) ts o
  by_rule l ts o = same_outcome (rules l) (rule l) ts o (record { reads = reads_rule; reads_back = un_rule; stands = stands_rule; stands_back = un_stands_rule; deep = deep_rule; deep_back = un_deep_rule })

  pub where_yes : (c : List T → Bool) (g : Gram T V L) (ts : List T) (o : Out T V) → c ts ≡ true → Outcome rules g ts o → Outcome rules (only_where c g) ts o
  where_yes c g ts o e = same_outcome g (only_where c g) ts o (record { reads = reads_where e; reads_back = λ d. (un_where d).1; stands = stands_where e; stands_back = λ d. (un_stands_where d).1; deep = deep_where e; deep_back = λ d. (un_deep_where d).1 })

  -- the arms of a choice may each be followed by what comes after it
  split_reads : {g h : Gram T V L} {k : V → Gram T V L} {ts rest : List T} {v : V} → Reads rules (bind (either g h) k) ts v rest → Reads rules (either (bind g k) (bind h k)) ts v rest
  split_reads (reads_bind (reads_left q) s) = reads_left (reads_bind q s)
  split_reads (reads_bind (reads_right q) s) = reads_right (reads_bind q s)

  split_stands : {g h : Gram T V L} {k : V → Gram T V L} {ts r : List T} → Stands rules (bind (either g h) k) ts r → Stands rules (either (bind g k) (bind h k)) ts r
  split_stands (stands_first (stands_left q)) = stands_left (stands_first q)
  split_stands (stands_first (stands_right q)) = stands_right (stands_first q)
  split_stands (stands_second (reads_left q) s) = stands_left (stands_second q s)
  split_stands (stands_second (reads_right q) s) = stands_right (stands_second q s)

  split_deep : {g h : Gram T V L} {k : V → Gram T V L} {ts r : List T} → Deep rules (bind (either g h) k) ts r → Deep rules (either (bind g k) (bind h k)) ts r
  split_deep (deep_first (deep_left q)) = deep_left (deep_first q)
  split_deep (deep_first (deep_right q)) = deep_right (deep_first q)
  split_deep (deep_second (reads_left q) s) = deep_left (deep_second q s)
  split_deep (deep_second (reads_right q) s) = deep_right (deep_second q s)

  join_reads : {g h : Gram T V L} {k : V → Gram T V L} {ts rest : List T} {v : V} → Reads rules (either (bind g k) (bind h k)) ts v rest → Reads rules (bind (either g h) k) ts v rest
  join_reads (reads_left (reads_bind q s)) = reads_bind (reads_left q) s
  join_reads (reads_right (reads_bind q s)) = reads_bind (reads_right q) s

  join_stands : {g h : Gram T V L} {k : V → Gram T V L} {ts r : List T} → Stands rules (either (bind g k) (bind h k)) ts r → Stands rules (bind (either g h) k) ts r
  join_stands (stands_left (stands_first q)) = stands_first (stands_left q)
  join_stands (stands_right (stands_first q)) = stands_first (stands_right q)
  join_stands (stands_left (stands_second q s)) = stands_second (reads_left q) s
  join_stands (stands_right (stands_second q s)) = stands_second (reads_right q) s

  join_deep : {g h : Gram T V L} {k : V → Gram T V L} {ts r : List T} → Deep rules (either (bind g k) (bind h k)) ts r → Deep rules (bind (either g h) k) ts r
  join_deep (deep_left (deep_first q)) = deep_first (deep_left q)
  join_deep (deep_right (deep_first q)) = deep_first (deep_right q)
  join_deep (deep_left (deep_second q s)) = deep_second (reads_left q) s
  join_deep (deep_right (deep_second q s)) = deep_second (reads_right q) s

  pub arms_first : (g h : Gram T V L) (k : V → Gram T V L) (ts : List T) (o : Out T V) → Outcome rules (either (bind g k) (bind h k)) ts o → Outcome rules (bind (either g h) k) ts o
  arms_first g h k ts o = same_outcome (either (bind g k) (bind h k)) (bind (either g h) k) ts o (record { reads = join_reads; reads_back = split_reads; stands = join_stands; stands_back = split_stands; deep = join_deep; deep_back = split_deep })

  -- ---- any number of parts

  module _ (c : List T → Bool) (f : ℕ → V → Gram T V L) (n : ℕ) (a : V) (ts : List T) where
    fold_reads : {w : V} {r : List T} → Reads rules (turn c f n a) ts w r → Reads rules (many c f n a) ts w r
    fold_reads (reads_left (reads_bind q s)) = reads_more q s
    fold_reads (reads_right (reads_where e reads_gives)) = reads_end e

    unfold_reads : {w : V} {r : List T} → Reads rules (many c f n a) ts w r → Reads rules (turn c f n a) ts w r
    unfold_reads (reads_more q s) = reads_left (reads_bind q s)
    unfold_reads (reads_end e) = reads_right (reads_where e reads_gives)

    fold_stands : {r : List T} → Stands rules (turn c f n a) ts r → Stands rules (many c f n a) ts r
    fold_stands (stands_left (stands_first q)) = stands_part q
    fold_stands (stands_left (stands_second q s)) = stands_more q s
    fold_stands (stands_right (stands_where e stands_gives)) = stands_end e

    unfold_stands : {r : List T} → Stands rules (many c f n a) ts r → Stands rules (turn c f n a) ts r
    unfold_stands (stands_part q) = stands_left (stands_first q)
    unfold_stands (stands_more q s) = stands_left (stands_second q s)
    unfold_stands (stands_end e) = stands_right (stands_where e stands_gives)

    fold_deep : {r : List T} → Deep rules (turn c f n a) ts r → Deep rules (many c f n a) ts r
    fold_deep (deep_left (deep_first q)) = deep_part q
    fold_deep (deep_left (deep_second q s)) = deep_more q s
    fold_deep (deep_right (deep_where e d)) = elim d [ ]

    unfold_deep : {r : List T} → Deep rules (many c f n a) ts r → Deep rules (turn c f n a) ts r
    unfold_deep (deep_part q) = deep_left (deep_first q)
    unfold_deep (deep_more q s) = deep_left (deep_second q s)

    by_turn : (o : Out T V) → Outcome rules (turn c f n a) ts o → Outcome rules (many c f n a) ts o
    by_turn o = same_outcome (turn c f n a) (many c f n a) ts o (record { reads = fold_reads; reads_back = unfold_reads; stands = fold_stands; stands_back = unfold_stands; deep = fold_deep; deep_back = unfold_deep })

    -- the end, where the next part stands no further than this
    pub many_ends : (far : ℕ) → c ts ≡ true → Outcome rules (f n a) ts (unexpected far) → far ≤ length ts → Outcome rules (many c f n a) ts (got a ts far)
    many_ends far e q le = record {
      ends = record {
        reads = reads_end e;
        only = λ w r d. elim (un_either (unfold_reads d)) [ inl x ↦ absurd (q.ends.none _ _ (un_bind x).first) | inr x ↦ un_gives (un_where x).1 ];
        stands = (q.ends.stands.0, stands_part q.ends.stands.1, q.ends.stands.2);
        farthest = λ r s. far_of r (unfold_stands s);
        shallow = λ r d. elim (un_deep_bind_only (unfold_deep d)) [ inl x ↦ q.ends.shallow r x | inr m ↦ q.ends.none m.a m.mid m.first ];
      };
    }
      where
        un_gives : {w : V} {r : List T} → Reads rules (gives a) ts w r → (w ≡ a) × (r ≡ ts)
        un_gives reads_gives = (refl, refl)

        far_of : (r : List T) → Stands rules (turn c f n a) ts r → far ≤ length r
        far_of r (stands_left (stands_first s)) = q.ends.farthest r s
        far_of r (stands_left (stands_second x s)) = absurd (q.ends.none _ _ x)
        far_of r (stands_right (stands_where x stands_gives)) = le

        un_deep_bind_only : {r : List T} → Deep rules (turn c f n a) ts r → Deep rules (f n a) ts r ⊎ Below rules (f n a) (many c f (suc n)) ts r
        un_deep_bind_only (deep_left d) = un_deep_bind d
        un_deep_bind_only (deep_right (deep_where x d)) = elim d [ ]

    -- it goes on
    pub many_goes : (o : Out T V) → c ts ≡ false → Outcome rules (bind (f n a) (many c f (suc n))) ts o → Outcome rules (many c f n a) ts o
    many_goes o e q = by_turn o (either_left (bind (f n a) (many c f (suc n))) (only_where c (gives a)) ts o (length ts) q (adds_where c (gives a) ts (length ts) e) (reaches_all (bind (f n a) (many c f (suc n))) ts o q))

    pub many_next : (b : V) (mid : List T) (o : Out T V) → c ts ≡ false → Outcome rules (f n a) ts (got b mid (length mid)) → Outcome rules (many c f (suc n) b) mid o → Outcome rules (many c f n a) ts o
    many_next b mid o e p q = many_goes o e (bind_next (f n a) (many c f (suc n)) ts b mid o p q)

    pub many_unexpected : (left : ℕ) → c ts ≡ false → Outcome rules (f n a) ts (unexpected left) → Outcome rules (many c f n a) ts (unexpected left)
    many_unexpected left e p = many_goes (unexpected left) e (bind_unexpected (f n a) (many c f (suc n)) ts left p)

    pub many_deep : (left : ℕ) → c ts ≡ false → Outcome rules (f n a) ts (too_deep left) → Outcome rules (many c f n a) ts (too_deep left)
    many_deep left e p = many_goes (too_deep left) e (bind_deep (f n a) (many c f (suc n)) ts left p)

  -- an arm that is read, beside one that stands further
  pub either_right_got : (g h : Gram T V L) (ts : List T) (v : V) (rest : List T) (left far : ℕ) → Outcome rules g ts (unexpected far) → Outcome rules h ts (got v rest left) → far ≤ left → Outcome rules (either g h) ts (got v rest far)
  either_right_got g h ts v rest left far one two le = record {
    ends = record {
      reads = reads_right two.ends.reads;
      only = λ w r d. elim (un_either d) [ inr q ↦ two.ends.only w r q | inl q ↦ absurd (one.ends.none w r q) ];
      stands = (one.ends.stands.0, stands_left one.ends.stands.1, one.ends.stands.2);
      farthest = λ r s. elim (un_stands_either s) [ inl q ↦ one.ends.farthest r q | inr q ↦ omega (arith, le, two.ends.farthest r q) ];
      shallow = λ r d. elim (un_deep_either d) [ inl q ↦ one.ends.shallow r q | inr q ↦ two.ends.shallow r q ];
    };
  }

  pub stands_reaches : (g : Gram T V L) (ts r : List T) (o : Out T V) → Stands rules g ts r → Outcome rules g ts o → Reaches o (length r)
  stands_reaches g ts r (got v rest left) s p = p.ends.farthest r s
  stands_reaches g ts r (unexpected left) s p = p.ends.farthest r s
  stands_reaches g ts r (too_deep left) s p = tt

  -- ---- parts in a row group either way

  assoc_reads : {g : Gram T V L} {f k : V → Gram T V L} {ts rest : List T} {v : V} → Reads rules (bind g (λ a. bind (f a) k)) ts v rest → Reads rules (bind (bind g f) k) ts v rest
  assoc_reads (reads_bind q (reads_bind s u)) = reads_bind (reads_bind q s) u

  back_reads : {g : Gram T V L} {f k : V → Gram T V L} {ts rest : List T} {v : V} → Reads rules (bind (bind g f) k) ts v rest → Reads rules (bind g (λ a. bind (f a) k)) ts v rest
  back_reads (reads_bind (reads_bind q s) u) = reads_bind q (reads_bind s u)

  assoc_stands : {g : Gram T V L} {f k : V → Gram T V L} {ts r : List T} → Stands rules (bind g (λ a. bind (f a) k)) ts r → Stands rules (bind (bind g f) k) ts r
  assoc_stands (stands_first q) = stands_first (stands_first q)
  assoc_stands (stands_second q (stands_first s)) = stands_first (stands_second q s)
  assoc_stands (stands_second q (stands_second s u)) = stands_second (reads_bind q s) u

  back_stands : {g : Gram T V L} {f k : V → Gram T V L} {ts r : List T} → Stands rules (bind (bind g f) k) ts r → Stands rules (bind g (λ a. bind (f a) k)) ts r
  back_stands (stands_first (stands_first q)) = stands_first q
  back_stands (stands_first (stands_second q s)) = stands_second q (stands_first s)
  back_stands (stands_second (reads_bind q s) u) = stands_second q (stands_second s u)

  assoc_deep : {g : Gram T V L} {f k : V → Gram T V L} {ts r : List T} → Deep rules (bind g (λ a. bind (f a) k)) ts r → Deep rules (bind (bind g f) k) ts r
  assoc_deep (deep_first q) = deep_first (deep_first q)
  assoc_deep (deep_second q (deep_first s)) = deep_first (deep_second q s)
  assoc_deep (deep_second q (deep_second s u)) = deep_second (reads_bind q s) u

  back_deep : {g : Gram T V L} {f k : V → Gram T V L} {ts r : List T} → Deep rules (bind (bind g f) k) ts r → Deep rules (bind g (λ a. bind (f a) k)) ts r
  back_deep (deep_first (deep_first q)) = deep_first q
  back_deep (deep_first (deep_second q s)) = deep_second q (deep_first s)
  back_deep (deep_second (reads_bind q s) u) = deep_second q (deep_second s u)

  pub grouped : {g : Gram T V L} {f k : V → Gram T V L} {ts : List T} {o : Out T V} → Outcome rules (bind g (λ a. bind (f a) k)) ts o → Outcome rules (bind (bind g f) k) ts o
  grouped {g} {f} {k} {ts} {o} = same_outcome (bind g (λ a. bind (f a) k)) (bind (bind g f) k) ts o (record { reads = assoc_reads; reads_back = back_reads; stands = assoc_stands; stands_back = back_stands; deep = assoc_deep; deep_back = back_deep })

  -- after a part beside which a reading stands further than what comes next does
  pub bind_short : (g : Gram T V L) (k : V → Gram T V L) (ts : List T) (a : V) (mid : List T) (far left : ℕ) → Outcome rules g ts (got a mid far) → Outcome rules (k a) mid (unexpected left) → far ≤ left → Outcome rules (bind g k) ts (unexpected far)
  bind_short g k ts a mid far left one two le = record {
    ends = record {
      none = λ w r d. (let m = un_bind d in two.ends.none w r (same (λ x y. Reads rules (k x) y w r) m.a m.mid m.first m.second));
      stands = (one.ends.stands.0, stands_first one.ends.stands.1, one.ends.stands.2);
      farthest = λ r s. elim (un_stands_bind s) [ inl q ↦ one.ends.farthest r q | inr m ↦ omega (arith, le, two.ends.farthest r (same (λ x y. Stands rules (k x) y r) m.a m.mid m.first m.second)) ];
      shallow = λ r d. elim (un_deep_bind d) [ inl q ↦ one.ends.shallow r q | inr m ↦ two.ends.shallow r (same (λ x y. Deep rules (k x) y r) m.a m.mid m.first m.second) ];
    };
  }
    where
      same : (P : V → List T → Type 0) (b : V) (m : List T) → Reads rules g ts b m → P b m → P a mid
      same P b m r h = let e = one.ends.only b m r in subst (λ x. P x mid) e.0 (subst (λ y. P b y) e.1 h)

  -- a part that goes on though a reading of what comes next would stand less far: the same, where it is read
  pub bind_got_short : (g : Gram T V L) (k : V → Gram T V L) (ts : List T) (a v : V) (mid rest : List T) (far left : ℕ) → Outcome rules g ts (got a mid far) → Outcome rules (k a) mid (got v rest left) → far ≤ left → Outcome rules (bind g k) ts (got v rest far)
  bind_got_short g k ts a v mid rest far left one two le = record {
    ends = record {
      reads = reads_bind one.ends.reads two.ends.reads;
      only = λ w r d. (let m = un_bind d in two.ends.only w r (same (λ x y. Reads rules (k x) y w r) m.a m.mid m.first m.second));
      stands = (one.ends.stands.0, stands_first one.ends.stands.1, one.ends.stands.2);
      farthest = λ r s. elim (un_stands_bind s) [ inl q ↦ one.ends.farthest r q | inr m ↦ omega (arith, le, two.ends.farthest r (same (λ x y. Stands rules (k x) y r) m.a m.mid m.first m.second)) ];
      shallow = λ r d. elim (un_deep_bind d) [ inl q ↦ one.ends.shallow r q | inr m ↦ two.ends.shallow r (same (λ x y. Deep rules (k x) y r) m.a m.mid m.first m.second) ];
    };
  }
    where
      same : (P : V → List T → Type 0) (b : V) (m : List T) → Reads rules g ts b m → P b m → P a mid
      same P b m r h = let e = one.ends.only b m r in subst (λ x. P x mid) e.0 (subst (λ y. P b y) e.1 h)

  -- ---- a rule, nothing after a part, and an arm that is off, before what follows

  in_rule_reads : {l : L} {k : V → Gram T V L} {ts rest : List T} {v : V} → Reads rules (bind (rules l) k) ts v rest → Reads rules (bind (rule l) k) ts v rest
  in_rule_reads (reads_bind q s) = reads_bind (reads_rule q) s

  of_rule_reads : {l : L} {k : V → Gram T V L} {ts rest : List T} {v : V} → Reads rules (bind (rule l) k) ts v rest → Reads rules (bind (rules l) k) ts v rest
  of_rule_reads (reads_bind (reads_rule q) s) = reads_bind q s

  in_rule_stands : {l : L} {k : V → Gram T V L} {ts r : List T} → Stands rules (bind (rules l) k) ts r → Stands rules (bind (rule l) k) ts r
  in_rule_stands (stands_first s) = stands_first (stands_rule s)
  in_rule_stands (stands_second q s) = stands_second (reads_rule q) s

  of_rule_stands : {l : L} {k : V → Gram T V L} {ts r : List T} → Stands rules (bind (rule l) k) ts r → Stands rules (bind (rules l) k) ts r
  of_rule_stands (stands_first (stands_rule s)) = stands_first s
  of_rule_stands (stands_second (reads_rule q) s) = stands_second q s

  in_rule_deep : {l : L} {k : V → Gram T V L} {ts r : List T} → Deep rules (bind (rules l) k) ts r → Deep rules (bind (rule l) k) ts r
  in_rule_deep (deep_first s) = deep_first (deep_rule s)
  in_rule_deep (deep_second q s) = deep_second (reads_rule q) s

  of_rule_deep : {l : L} {k : V → Gram T V L} {ts r : List T} → Deep rules (bind (rule l) k) ts r → Deep rules (bind (rules l) k) ts r
  of_rule_deep (deep_first (deep_rule s)) = deep_first s
  of_rule_deep (deep_second (reads_rule q) s) = deep_second q s

  pub ruled_first : {l : L} {k : V → Gram T V L} {ts : List T} {o : Out T V} → Outcome rules (bind (rules l) k) ts o → Outcome rules (bind (rule l) k) ts o
  ruled_first {l} {k} {ts} {o} = same_outcome (bind (rules l) k) (bind (rule l) k) ts o (record { reads = in_rule_reads; reads_back = of_rule_reads; stands = in_rule_stands; stands_back = of_rule_stands; deep = in_rule_deep; deep_back = of_rule_deep })

  alone_reads : {g : Gram T V L} {ts rest : List T} {v : V} → Reads rules (bind g gives) ts v rest → Reads rules g ts v rest
  alone_reads (reads_bind q reads_gives) = q

  then_reads : {g : Gram T V L} {ts rest : List T} {v : V} → Reads rules g ts v rest → Reads rules (bind g gives) ts v rest
  then_reads q = reads_bind q reads_gives

  alone_stands : {g : Gram T V L} {ts r : List T} → Stands rules (bind g gives) ts r → Stands rules g ts r
  alone_stands (stands_first s) = s
  alone_stands (stands_second q stands_gives) = reads_stands q

  alone_deep : {g : Gram T V L} {ts r : List T} → Deep rules (bind g gives) ts r → Deep rules g ts r
  alone_deep (deep_first s) = s
  alone_deep (deep_second q s) = elim s [ ]

  -- what is read isn't changed
  pub alone : {g : Gram T V L} {ts : List T} {o : Out T V} → Outcome rules (bind g gives) ts o → Outcome rules g ts o
  alone {g} {ts} {o} = same_outcome (bind g gives) g ts o (record { reads = alone_reads; reads_back = then_reads; stands = alone_stands; stands_back = λ s. stands_first s; deep = alone_deep; deep_back = λ s. deep_first s })

  off_reads : {c : List T → Bool} {h : Gram T V L} {k : V → Gram T V L} {ts rest : List T} {v : V} → c ts ≡ false → Reads rules (bind (only_where c h) k) ts v rest → ⊥
  off_reads e (reads_bind (reads_where d q) s) = absurd (let f : true ≡ false = sym d ∙ e in cc)

  off_stands : {c : List T → Bool} {h : Gram T V L} {k : V → Gram T V L} {ts r : List T} → c ts ≡ false → Stands rules (bind (only_where c h) k) ts r → ⊥
  off_stands e (stands_first (stands_where d q)) = absurd (let f : true ≡ false = sym d ∙ e in cc)
  off_stands e (stands_second (reads_where d q) s) = absurd (let f : true ≡ false = sym d ∙ e in cc)

  -- an arm that is off by its test, before what follows
  pub maybe_is_then : {g h : Gram T V L} {c : List T → Bool} {k : V → Gram T V L} {ts : List T} {o : Out T V} → c ts ≡ false → Outcome rules (bind g k) ts o → Outcome rules (bind (either g (only_where c h)) k) ts o
  maybe_is_then {g} {h} {c} {k} {ts} {o} e p = arms_first g (only_where c h) k ts o (either_left (bind g k) (bind (only_where c h) k) ts o (length ts) p (record { none = λ w r q. off_reads e q; farthest = λ r s. absurd (off_stands e s); shallow = λ r d. off_stands e (deep_stands d) }) (reaches_all (bind g k) ts o p))

  -- arms that add nothing
  pub adds_either : {g h : Gram T V L} {ts : List T} {far : ℕ} → Adds rules g ts far → Adds rules h ts far → Adds rules (either g h) ts far
  adds_either a b = record { none = λ w r q. elim (un_either q) [ inl x ↦ a.none w r x | inr x ↦ b.none w r x ]; farthest = λ r s. elim (un_stands_either s) [ inl x ↦ a.farthest r x | inr x ↦ b.farthest r x ]; shallow = λ r s. elim (un_deep_either s) [ inl x ↦ a.shallow r x | inr x ↦ b.shallow r x ] }

  -- an arm that is off by its test, before the other
  pub not_where : {g h : Gram T V L} {c : List T → Bool} {ts : List T} {o : Out T V} → c ts ≡ false → Outcome rules h ts o → Outcome rules (either (only_where c g) h) ts o
  not_where {g} {h} {c} {ts} {o} e p = either_right (only_where c g) h ts o (length ts) p (adds_where c g ts (length ts) e) (reaches_all h ts o p)
