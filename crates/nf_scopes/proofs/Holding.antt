-- What the tables of a body hold after a step.
use Rattle.std.proofs.Common.{◌≡◌, ◌∙◌, ◌<◌, ℕ, zero, suc, Bool, true, false, if◌then◌else◌, List, [], ◌∷◌, ◌++◌, length, get_or, bytes_eq, Option, Some, None, sym, ap, subst, arith, ◌⊎◌, inl, inr}
use Rattle.std.specs.Borrow.{Bor}
use Rattle.std.specs.Option.{IfSome, option_copied}
use Rattle.nf_scopes.specs.declared.names.BodyNames.{BodyNames}
use Rattle.nf_scopes.specs.declared.things.Thing.{Thing}
use Rattle.nf_scopes.specs.Tables.{Table, held, Puts}
use Rattle.nf_scopes.specs.Standing.{tables_of}
use Rattle.nf_scopes.specs.Held.{OneHas, Holds, HoldsNoMore, HoldsAlso}

-- ---- where a table has it

pub one_before : (xs ys : List Table) (n : List ℕ) (t : Thing) → OneHas xs n t → OneHas (xs ++ ys) n t
one_before [] ys n t h = absurd h
one_before (x ∷ xs) ys n t (inl e) = inl e
one_before (x ∷ xs) ys n t (inr h) = inr (one_before xs ys n t h)

pub one_last : (xs : List Table) (es : Table) (n : List ℕ) (t : Thing) → held n es ≡ Some t → OneHas (xs ++ es ∷ []) n t
one_last [] es n t e = inl e
one_last (x ∷ xs) es n t e = inr (one_last xs es n t e)

pub one_at : (xs : List Table) (i : ℕ) (n : List ℕ) (t : Thing) → i < length xs → held n (get_or xs i []) ≡ Some t → OneHas xs n t
one_at [] i n t l e = absurd (omega (arith, l))
one_at (x ∷ xs) zero n t l e = inl e
one_at (x ∷ xs) (suc i) n t l e = inr (one_at xs i n t (omega (arith, l)) e)

one_empty : (xs : List Table) (n : List ℕ) (t : Thing) → OneHas (xs ++ [] ∷ []) n t → OneHas xs n t
one_empty [] n t (inl e) = absurd (let f : None ≡ Some t = e in cc)
one_empty [] n t (inr h) = h
one_empty (x ∷ xs) n t (inl e) = inl e
one_empty (x ∷ xs) n t (inr h) = inr (one_empty xs n t h)

-- what a look-up gives
pub some_held : (r : Option (Bor Thing)) (o : Option Thing) (P : Thing → Type 0) → option_copied r ≡ o → ((t : Thing) → o ≡ Some t → P t) → IfSome r (λ t. P t.now)
some_held None o P e f = tt
some_held (Some t) o P e f = f t.now (sym e)

-- ---- a table in which one name stands for another thing

put_by : (b : Bool) (t u : Thing) (o : Option Thing) → (if b then Some t else o) ≡ Some u → (o ≡ Some u) ⊎ (u ≡ t)
put_by true t u o e = inr (let f : t ≡ u = cc in sym f)
put_by false t u o e = inl e

module _ (key : List ℕ) (t : Thing) (es es' : Table) (puts : Puts key t es es') where
  put_here : (n : List ℕ) (u : Thing) → held n es' ≡ Some u → (held n es ≡ Some u) ⊎ (u ≡ t)
  put_here n u e = put_by (bytes_eq key n) t u (held n es) (sym (puts n) ∙ e)

  one_put : (before after : List Table) (n : List ℕ) (u : Thing) → OneHas (before ++ es' ∷ after) n u → OneHas (before ++ es ∷ after) n u ⊎ (u ≡ t)
  one_put [] after n u (inl e) = elim (put_here n u e) [ inl a ↦ inl (inl a) | inr b ↦ inr b ]
  one_put [] after n u (inr h) = inl (inr h)
  one_put (x ∷ before) after n u (inl e) = inl (inl e)
  one_put (x ∷ before) after n u (inr h) = elim (one_put before after n u h) [ inl a ↦ inl (inr a) | inr b ↦ inr b ]

  -- of the braces that are open
  pub holds_put : (old new : BodyNames) (before after : List Table) → new.names.entries ≡ old.names.entries → tables_of old ≡ before ++ es ∷ after → tables_of new ≡ before ++ es' ∷ after → HoldsAlso old t new
  holds_put old new before after names was is = record { each = by }
    where
      by : (n : List ℕ) (u : Thing) → Holds new n u → Holds old n u ⊎ (u ≡ t)
      by n u (inl e) = inl (inl (ap (held n) (sym names) ∙ e))
      by n u (inr h) = elim (one_put before after n u (subst (λ xs. OneHas xs n u) is h)) [
        | inl a ↦ inl (inr (subst (λ xs. OneHas xs n u) (sym was) a))
        | inr b ↦ inr b
      ]

  -- of the workflow
  pub holds_named : (old new : BodyNames) → old.names.entries ≡ es → new.names.entries ≡ es' → tables_of new ≡ tables_of old → HoldsAlso old t new
  holds_named old new was is same = record { each = by }
    where
      by : (n : List ℕ) (u : Thing) → Holds new n u → Holds old n u ⊎ (u ≡ t)
      by n u (inl e) = elim (put_here n u (ap (held n) (sym is) ∙ e)) [ inl a ↦ inl (inl (ap (held n) was ∙ a)) | inr b ↦ inr b ]
      by n u (inr h) = inl (inr (subst (λ xs. OneHas xs n u) same h))

-- ---- braces

pub holds_entered : (old new : BodyNames) → new.names.entries ≡ old.names.entries → tables_of new ≡ tables_of old ++ [] ∷ [] → HoldsNoMore old new
holds_entered old new names is = record { each = by }
  where
    by : (n : List ℕ) (t : Thing) → Holds new n t → Holds old n t
    by n t (inl e) = inl (ap (held n) (sym names) ∙ e)
    by n t (inr h) = inr (one_empty (tables_of old) n t (subst (λ xs. OneHas xs n t) is h))

pub holds_left : (old new : BodyNames) (es : Table) → new.names.entries ≡ old.names.entries → tables_of old ≡ tables_of new ++ es ∷ [] → HoldsNoMore old new
holds_left old new es names was = record { each = by }
  where
    by : (n : List ℕ) (t : Thing) → Holds new n t → Holds old n t
    by n t (inl e) = inl (ap (held n) (sym names) ∙ e)
    by n t (inr h) = inr (subst (λ xs. OneHas xs n t) (sym was) (one_before (tables_of new) (es ∷ []) n t h))

-- a body that begins
pub holds_begun : (x : BodyNames) (es : Table) (n : List ℕ) (t : Thing) → x.names.entries ≡ es → tables_of x ≡ [] ∷ [] → Holds x n t → held n es ≡ Some t
holds_begun x es n t names is (inl e) = ap (held n) (sym names) ∙ e
holds_begun x es n t names is (inr h) = absurd (one_empty [] n t (subst (λ xs. OneHas xs n t) is h))
