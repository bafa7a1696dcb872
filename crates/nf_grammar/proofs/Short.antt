-- The same lemmas, with what can be inferred left out.
use Rattle.std.proofs.Common.{◌≡◌, ℕ, suc, Bool, true, false, List, ◌∷◌, length, Option, Some, sym, subst, arith}
use Rattle.nf_grammar.specs.Gram.{Gram, token, gives, bind, either, only_where, many, rule}
use Rattle.nf_grammar.specs.Parts.{no_next}
use Rattle.nf_grammar.specs.Outcome.{Out, got, unexpected, too_deep, Outcome}
use Rattle.nf_grammar.proofs.Outcomes.{gives_got, token_got, token_not, token_deep, Reaches, reaches_all, bind_got, bind_next, bind_unexpected, bind_deep, adds_where, either_left, left_arm, right_arm, by_rule, where_yes, many_ends, many_next, many_unexpected, many_deep}

-- it doesn't go on
abbrev pub IsStop : {T V : Type 0} → Out T V → Type 0
IsStop (got v rest left) = ⊥
IsStop (unexpected left) = Unit {0}
IsStop (too_deep left) = Unit {0}

module _ {T V L : Type 0} {rules : L → Gram T V L} where
  pub at : {g : Gram T V L} {ts us : List T} {o : Out T V} → ts ≡ us → Outcome rules g us o → Outcome rules g ts o
  at {g} {ts} {us} {o} e h = subst (λ x. Outcome rules g x o) (sym e) h

  -- the same, where the place is where it begins
  pub at_deep : {g : Gram T V L} {ts us : List T} → ts ≡ us → Outcome rules g us (too_deep (length us)) → Outcome rules g ts (too_deep (length ts))
  at_deep {g} {ts} {us} e h = subst (λ x. Outcome rules g x (too_deep (length x))) (sym e) h

  pub ret : {v : V} {ts : List T} → Outcome rules (gives v) ts (got v ts (length ts))
  ret {v} {ts} = gives_got v ts

  -- a token that is there, within the limits
  pub takes : {b : Bool} {p : T → Option V} {t : T} {ts : List T} {v : V} → b ≡ false → p t ≡ Some v → Outcome rules (token b p) (t ∷ ts) (got v ts (length ts))
  takes {b} {p} {t} {ts} {v} f e = subst (λ x. Outcome rules (token x p) (t ∷ ts) (got v ts (length ts))) (sym f) (token_got p t ts v e)

  -- a token that isn't there
  pub misses : {b : Bool} {p : T → Option V} {ts : List T} → no_next p ts ≡ true → Outcome rules (token b p) ts (unexpected (length ts))
  misses {b} {p} {ts} e = token_not b p ts e

  -- a token that is there, past a limit
  pub sinks : {b : Bool} {p : T → Option V} {t : T} {ts : List T} {v : V} → b ≡ true → p t ≡ Some v → Outcome rules (token b p) (t ∷ ts) (too_deep (suc (length ts)))
  sinks {b} {p} {t} {ts} {v} f e = subst (λ x. Outcome rules (token x p) (t ∷ ts) (too_deep (suc (length ts)))) (sym f) (token_deep p t ts v e)

  pub seq : {g : Gram T V L} {k : V → Gram T V L} {ts mid : List T} {a : V} {o : Out T V} → Outcome rules g ts (got a mid (length mid)) → Outcome rules (k a) mid o → Outcome rules (bind g k) ts o
  seq {g} {k} {ts} {mid} {a} {o} p q = bind_next g k ts a mid o p q

  pub seq_far : {g : Gram T V L} {k : V → Gram T V L} {ts mid : List T} {a : V} {far : ℕ} {o : Out T V} → Outcome rules g ts (got a mid far) → Outcome rules (k a) mid o → Reaches o far → Outcome rules (bind g k) ts o
  seq_far {g} {k} {ts} {mid} {a} {far} {o} p q le = bind_got g k ts a mid far o p q le

  pub fails : {g : Gram T V L} {k : V → Gram T V L} {ts : List T} {left : ℕ} → Outcome rules g ts (unexpected left) → Outcome rules (bind g k) ts (unexpected left)
  fails {g} {k} {ts} {left} p = bind_unexpected g k ts left p

  pub dives : {g : Gram T V L} {k : V → Gram T V L} {ts : List T} {left : ℕ} → Outcome rules g ts (too_deep left) → Outcome rules (bind g k) ts (too_deep left)
  dives {g} {k} {ts} {left} p = bind_deep g k ts left p

  -- an arm whose first token isn't there
  pub off : {b : Bool} {p : T → Option V} {k : V → Gram T V L} {ts : List T} → no_next p ts ≡ true → Outcome rules (bind (token b p) k) ts (unexpected (length ts))
  off e = fails (misses e)

  pub first_arm : {g h : Gram T V L} {ts : List T} {o : Out T V} → Outcome rules g ts o → Outcome rules h ts (unexpected (length ts)) → Outcome rules (either g h) ts o
  first_arm {g} {h} {ts} {o} p q = left_arm g h ts o p q

  pub second_arm : {g h : Gram T V L} {ts : List T} {o : Out T V} → Outcome rules g ts (unexpected (length ts)) → Outcome rules h ts o → Outcome rules (either g h) ts o
  second_arm {g} {h} {ts} {o} q p = right_arm g h ts o p q

  pub ruled : {l : L} {ts : List T} {o : Out T V} → Outcome rules (rules l) ts o → Outcome rules (rule l) ts o
  ruled {l} {ts} {o} p = by_rule l ts o p

  -- [ x ], which isn't there, as no token of it comes
  pub maybe_not : {g : Gram T V L} {c : List T → Bool} {v : V} {ts : List T} → c ts ≡ true → Outcome rules g ts (unexpected (length ts)) → Outcome rules (either g (only_where c (gives v))) ts (got v ts (length ts))
  maybe_not {g} {c} {v} {ts} e p = second_arm p (where_yes c (gives v) ts (got v ts (length ts)) e ret)

  -- [ x ], which is there
  pub maybe_is : {g : Gram T V L} {c : List T → Bool} {h : Gram T V L} {ts : List T} {o : Out T V} → c ts ≡ false → Outcome rules g ts o → Outcome rules (either g (only_where c h)) ts o
  maybe_is {g} {c} {h} {ts} {o} e p = either_left g (only_where c h) ts o (length ts) p (adds_where c h ts (length ts) e) (reaches_all g ts o p)

  -- { x }
  pub stops : {c : List T → Bool} {f : ℕ → V → Gram T V L} {n : ℕ} {a : V} {ts : List T} → c ts ≡ true → Outcome rules (f n a) ts (unexpected (length ts)) → Outcome rules (many c f n a) ts (got a ts (length ts))
  stops {c} {f} {n} {a} {ts} e p = many_ends c f n a ts (length ts) e p (omega arith)

  pub goes : {c : List T → Bool} {f : ℕ → V → Gram T V L} {n : ℕ} {a b : V} {ts mid : List T} {o : Out T V} → c ts ≡ false → Outcome rules (f n a) ts (got b mid (length mid)) → Outcome rules (many c f (suc n) b) mid o → Outcome rules (many c f n a) ts o
  goes {c} {f} {n} {a} {b} {ts} {mid} {o} e p q = many_next c f n a ts b mid o e p q

  pub part_fails : {c : List T → Bool} {f : ℕ → V → Gram T V L} {n : ℕ} {a : V} {ts : List T} {left : ℕ} → c ts ≡ false → Outcome rules (f n a) ts (unexpected left) → Outcome rules (many c f n a) ts (unexpected left)
  part_fails {c} {f} {n} {a} {ts} {left} e p = many_unexpected c f n a ts left e p

  pub part_dives : {c : List T → Bool} {f : ℕ → V → Gram T V L} {n : ℕ} {a : V} {ts : List T} {left : ℕ} → c ts ≡ false → Outcome rules (f n a) ts (too_deep left) → Outcome rules (many c f n a) ts (too_deep left)
  part_dives {c} {f} {n} {a} {ts} {left} e p = many_deep c f n a ts left e p

  pub with_acc : {c : List T → Bool} {f : ℕ → V → Gram T V L} {n : ℕ} {a b : V} {ts : List T} {o : Out T V} → a ≡ b → Outcome rules (many c f n a) ts o → Outcome rules (many c f n b) ts o
  with_acc {c} {f} {n} {a} {b} {ts} {o} e p = subst (λ x. Outcome rules (many c f n x) ts o) e p

  -- ---- parts that go no further

  pub stop : {g : Gram T V L} {k : V → Gram T V L} {ts : List T} (o : Out T V) → IsStop o → Outcome rules g ts o → Outcome rules (bind g k) ts o
  stop (got v rest left) s p = absurd s
  stop (unexpected left) s p = fails p
  stop (too_deep left) s p = dives p

  pub part_stop : {c : List T → Bool} {f : ℕ → V → Gram T V L} {n : ℕ} {a : V} {ts : List T} (o : Out T V) → IsStop o → c ts ≡ false → Outcome rules (f n a) ts o → Outcome rules (many c f n a) ts o
  part_stop (got v rest left) s e p = absurd s
  part_stop (unexpected left) s e p = part_fails e p
  part_stop (too_deep left) s e p = part_dives e p

  -- ---- small steps

  pub sees : {g : Gram T V L} {ts rest : List T} {v w : V} {left : ℕ} → v ≡ w → Outcome rules g ts (got w rest left) → Outcome rules g ts (got v rest left)
  sees {g} {ts} {rest} {v} {w} {left} e p = subst (λ x. Outcome rules g ts (got x rest left)) (sym e) p
