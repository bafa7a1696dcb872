-- Names with their values.
use Rattle.std.proofs.Common.{◌≡◌, ℕ, suc, ◌<◌, ◌≤◌, true, false, List, [], ◌∷◌, ◌++◌, map, drop, length, Result, Ok, Err, refl, sym, ◌∙◌, ap, subst, arith}
use Rattle.std.proofs.Math.ListN.{drop_of_length-le}
use Rattle.std.proofs.lemmas.List.{append-nil, length-map}
use Rattle.std.specs.Prelude.{◌==◌, if◌then◌else◌}
use Rattle.std.specs.Global.{Vec}
use Rattle.std.proofs.lemmas.Bool.{eq-eqb, ne_eqb, lt-ltb, le-ltb}
use Rattle.nf_value.specs.Plain.{Plain, list, plains_of}
use Rattle.nf_value.specs.declared.fault.EvalKind.{EvalKind}
use Rattle.nf_value.specs.declared.fault.EvalKind.TheVariants.{Arity}
use Rattle.nf_value.specs.declared.fault.EvalRefusal.{EvalRefusal}
use Rattle.nf_value.specs.declared.fault.EvalRefusal.TheVariants as refusal
use Rattle.nf_texts.proofs.Inside.{items_of-plains_of}
use Rattle.nf_value.specs.View.{plain_of}
use Rattle.nf_value.specs.declared.place.Place.{Place}
use Rattle.nf_value.specs.declared.value.Value.{Value}
use Rattle.nf_ast.specs.View.{names}
use Rattle.nf_placed.specs.Placed.{Placed, fault}
use Rattle.nf_placed.specs.Body.{Binds, names_in, paired, split, spread, named}

pub length-names : (ns : List (Place × List ℕ)) → length (names_in (names ns)) ≡ length ns
length-names [] = refl
length-names (n ∷ ns) = ap suc (length-names ns)

-- names with values in memory
abbrev pub pairs_of : List (Place × List ℕ) → List Value → List (List ℕ × Plain)
pairs_of ns vs = paired (names_in (names ns)) (map plain_of vs)

pub all_named : (ps all : List (List ℕ × Plain)) (ns : List (Place × List ℕ)) (vs : List Value) (i : ℕ) → length ns ≤ i → ps ++ pairs_of (drop i ns) (drop i vs) ≡ all → ps ≡ all
all_named ps all ns vs i h e = sym (append-nil ps) ∙ ap (λ l. ps ++ pairs_of l (drop i vs)) (sym (drop_of_length-le ns h)) ∙ e

-- ---- lists of one length, and others

module _ (p : Place) (ns : List (Place × List ℕ)) where
  abbrev of : List (List ℕ)
  of = names_in (names ns)

  as_many : (k : ℕ) → length ns ≡ k → (length of == k) ≡ true
  as_many k e = eq-eqb (length of) k (length-names ns ∙ e)

  other_number : (k : ℕ) → (length ns ≡ k → ⊥) → (length of == k) ≡ false
  other_number k h = ne_eqb (length of) k (λ e. h (sym (length-names ns) ∙ e))

  by_list : (vs : List Plain) → split p of (list (plains_of vs)) ≡ (if length of == length vs then Ok (paired of vs) else fault Arity p)
  by_list vs = ap (λ ws. if length of == length ws then Ok (paired of ws) else fault Arity p) (items_of-plains_of vs)

  pub split_there : (vs ws : List Plain) (bs : List (List ℕ × Plain)) → length ns ≡ length vs → ws ≡ vs → bs ≡ paired of ws → split p of (list (plains_of vs)) ≡ Ok bs
  split_there vs ws bs e same h = by_list vs ∙ rw (as_many (length vs) e) (ap (λ us. Ok (paired of us)) (sym same) ∙ ap Ok (sym h))

  pub split_other : (vs : List Plain) (k : ℕ) → k ≡ length vs → (length ns ≡ k → ⊥) → split p of (list (plains_of vs)) ≡ fault Arity p
  split_other vs k is h = by_list vs ∙ rw (other_number (length vs) (λ e. h (e ∙ sym is))) refl

  pub spread_several : (v : Plain) → 1 < length ns → spread p of (v ∷ []) ≡ split p of v
  spread_several v h = rw (lt-ltb 1 (length of) (omega (arith, h, length-names ns))) refl

  pub spread_few : (v : Plain) → length ns ≤ 1 → spread p of (v ∷ []) ≡ fault Arity p
  spread_few v h = rw (le-ltb 1 (length of) (omega (arith, h, length-names ns))) refl

  pub named_each : (us : List Value) (bs : List (List ℕ × Plain)) → length ns ≡ length us → bs ≡ paired of (map plain_of us) → named p of (map plain_of us) ≡ Ok bs
  named_each us bs e h = rw (as_many (length (map plain_of us)) (e ∙ sym (length-map us plain_of))) (ap Ok (sym h))

  pub named_spread : (us : List Value) → (length ns ≡ length us → ⊥) → named p of (map plain_of us) ≡ spread p of (map plain_of us)
  named_spread us h = rw (other_number (length (map plain_of us)) (λ e. h (e ∙ length-map us plain_of))) refl

pub binds : (o q : Placed (List (List ℕ × Plain))) (r : Result (Vec (List ℕ × Value)) EvalRefusal) → o ≡ q → Binds q r → Binds o r
binds o q r e h = subst (λ (x : Placed (List (List ℕ × Plain))). Binds x r) (sym e) h

pub faults : (o : Placed (List (List ℕ × Plain))) (k : EvalKind) (p : Place) (r : EvalRefusal) → o ≡ fault k p → r ≡ refusal.Fault (record { kind = k; place = p }) → Binds o (Err r)
faults o k p r e is = subst (λ (x : EvalRefusal). Binds o (Err x)) (sym is) e
