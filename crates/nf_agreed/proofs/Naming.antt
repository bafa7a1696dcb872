-- What a name of a body stands for, before a run and in it.
use Rattle.std.proofs.Common.{◌≡◌, ◌⊎◌, inl, inr, ℕ, Bool, true, false, ◌&&◌, List, [], ◌∷◌, ◌++◌, Option, Some, None, IfSome, IsSomeAnd, refl, sym, ap, ◌∙◌, true≢false}
use Rattle.std.specs.Prelude.{if◌then◌else◌, not}
use Rattle.std.specs.Str.{bytes_eq}
use Rattle.nf_kinds.specs.Kinds.{Shaped}
use Rattle.nf_kinds.specs.Scope as order
use Rattle.nf_kinds.specs.Scope.{Bindings, shape_in, is_bound, is_named, or_later, bound_in, is_half_bound}
use Rattle.nf_meaning.specs.Things.{Thing, thing_named}
use Rattle.nf_meaning.specs.Walk.{Scope, things_in}
use Rattle.nf_agreed.specs.Fits.{Fits, InOrderFit, ScopeFits}

-- a name that is bound in both, to what fits
pub record IsBoundTo (o : order.Scope) (x : Scope) (n : List ℕ) : Type 0 where
  pub shape : Shaped
  pub thing : Thing
  pub before : bound_in n o ≡ Some shape
  pub here : thing_named n (things_in x) ≡ Some thing
  pub fits : Fits shape thing

-- a name that nothing binds in the run: nothing binds it before, or one arm alone did
pub record IsUnbound (o : order.Scope) (x : Scope) (n : List ℕ) : Type 0 where
  pub here : thing_named n (things_in x) ≡ None
  pub before : (bound_in n o ≡ None) ⊎ (is_half_bound n o ≡ true)

in_both : (n : List ℕ) (xs ys : List (List ℕ × Thing)) (t : Thing) → thing_named n xs ≡ Some t → thing_named n (xs ++ ys) ≡ Some t
in_both n [] ys t h = absurd (let e : ◌≡◌ {A = Option Thing} None (Some t) = h in cc)
in_both n (x ∷ xs) ys t h = by (bytes_eq x.0 n) h (in_both n xs ys t)
  where
    by : (b : Bool) → (if b then Some x.1 else thing_named n xs) ≡ Some t → (thing_named n xs ≡ Some t → thing_named n (xs ++ ys) ≡ Some t) → (if b then Some x.1 else thing_named n (xs ++ ys)) ≡ Some t
    by true h rest = h
    by false h rest = rest h

in_second : (n : List ℕ) (xs ys : List (List ℕ × Thing)) → thing_named n xs ≡ None → thing_named n (xs ++ ys) ≡ thing_named n ys
in_second n [] ys h = refl
in_second n (x ∷ xs) ys h = by (bytes_eq x.0 n) h (in_second n xs ys)
  where
    by : (b : Bool) → (if b then Some x.1 else thing_named n xs) ≡ None → (thing_named n xs ≡ None → thing_named n (xs ++ ys) ≡ thing_named n ys) → (if b then Some x.1 else thing_named n (xs ++ ys)) ≡ thing_named n ys
    by true h rest = absurd (let e : ◌≡◌ {A = Option Thing} (Some x.1) None = h in cc)
    by false h rest = rest h

-- a local name
pub record IsLocal (ks : Bindings) (xs : List (List ℕ × Thing)) (n : List ℕ) : Type 0 where
  pub shape : Shaped
  pub thing : Thing
  pub before : shape_in n ks ≡ Some shape
  pub here : thing_named n xs ≡ Some thing
  pub fits : Fits shape thing

pub record IsNoLocal (ks : Bindings) (xs : List (List ℕ × Thing)) (n : List ℕ) : Type 0 where
  pub shape : shape_in n ks ≡ None
  pub bound : is_bound n ks ≡ false
  pub here : thing_named n xs ≡ None

local_or_not : (n : List ℕ) (ks : Bindings) (xs : List (List ℕ × Thing)) → InOrderFit ks xs → IsLocal ks xs n ⊎ IsNoLocal ks xs n
local_or_not n [] [] h = inr (record { shape = refl; bound = refl; here = refl })
local_or_not n [] (x ∷ xs) h = absurd h
local_or_not n (k ∷ ks) [] h = absurd h
local_or_not n (k ∷ ks) (x ∷ xs) h = by (bytes_eq k.0 n) refl (bytes_eq x.0 n) (ap (λ q. bytes_eq q n) h.0) (local_or_not n ks xs h.1.1)
  where
    first : bytes_eq k.0 n ≡ true → bytes_eq x.0 n ≡ true → IsLocal (k ∷ ks) (x ∷ xs) n
    first e f = record {
      shape = k.1;
      thing = x.1;
      before = ap (λ b. if b then Some k.1 else shape_in n ks) e;
      here = ap (λ b. if b then Some x.1 else thing_named n xs) f;
      fits = h.1.0;
    }

    later : bytes_eq k.0 n ≡ false → bytes_eq x.0 n ≡ false → IsLocal ks xs n ⊎ IsNoLocal ks xs n → IsLocal (k ∷ ks) (x ∷ xs) n ⊎ IsNoLocal (k ∷ ks) (x ∷ xs) n
    later e f (inl z) = inl (record {
      shape = z.shape;
      thing = z.thing;
      before = ap (λ b. if b then Some k.1 else shape_in n ks) e ∙ z.before;
      here = ap (λ b. if b then Some x.1 else thing_named n xs) f ∙ z.here;
      fits = z.fits;
    })
    later e f (inr z) = inr (record {
      shape = ap (λ b. if b then Some k.1 else shape_in n ks) e ∙ z.shape;
      bound = ap (λ b. if b then true else is_bound n ks) e ∙ z.bound;
      here = ap (λ b. if b then Some x.1 else thing_named n xs) f ∙ z.here;
    })

    by : (b : Bool) → bytes_eq k.0 n ≡ b → (c : Bool) → b ≡ c → IsLocal ks xs n ⊎ IsNoLocal ks xs n → IsLocal (k ∷ ks) (x ∷ xs) n ⊎ IsNoLocal (k ∷ ks) (x ∷ xs) n
    by true e true f rest = inl (first e (sym (ap (λ q. bytes_eq q n) h.0) ∙ e))
    by true e false f rest = absurd (true≢false f)
    by false e true f rest = absurd (true≢false (sym f))
    by false e false f rest = later e (sym (ap (λ q. bytes_eq q n) h.0) ∙ e) rest

bound_or_none : (n : List ℕ) (ks : Bindings) (o : Option Shaped) → shape_in n ks ≡ o → (is_bound n ks ≡ true) ⊎ (o ≡ None)
bound_or_none n [] o e = inr (sym e)
bound_or_none n (k ∷ ks) o e = by (bytes_eq k.0 n) e (bound_or_none n ks o)
  where
    by : (b : Bool) → (if b then Some k.1 else shape_in n ks) ≡ o → (shape_in n ks ≡ o → (is_bound n ks ≡ true) ⊎ (o ≡ None)) → ((if b then true else is_bound n ks) ≡ true) ⊎ (o ≡ None)
    by true e rest = inl refl
    by false e rest = rest e

module _ (o : order.Scope) (x : Scope) (n : List ℕ) (fit : ScopeFits o x) where
  not_local : IsNoLocal o.locals x.own n → (t : Option Thing) → thing_named n x.names ≡ t → (s : Option Shaped) → shape_in n o.names ≡ s → IfSome t (λ y. IsSomeAnd s (λ z. Fits z y)) → IsBoundTo o x n ⊎ IsUnbound o x n
  not_local gone (Some t) here None before h = absurd h
  not_local gone (Some t) here (Some s) before h = inl (record {
    shape = s;
    thing = t;
    before = ap (λ b. or_later b (shape_in n o.names)) gone.shape ∙ before;
    here = in_second n x.own x.names gone.here ∙ here;
    fits = h;
  })
  not_local gone None here s before h = inr (record {
    here = in_second n x.own x.names gone.here ∙ here;
    before = by s before (bound_or_none n o.names s before);
  })
    where
      by : (s : Option Shaped) → shape_in n o.names ≡ s → (is_bound n o.names ≡ true) ⊎ (s ≡ None) → (bound_in n o ≡ None) ⊎ (is_half_bound n o ≡ true)
      by s e (inr none) = inl (ap (λ b. or_later b (shape_in n o.names)) gone.shape ∙ e ∙ none)
      by s e (inl bound) = inr (ap (λ b. not b && is_named n o.half_bound) gone.bound ∙ fit.unbound n bound here)

  pub name_is : IsBoundTo o x n ⊎ IsUnbound o x n
  name_is = by (local_or_not n o.locals x.own fit.locals)
    where
      by : IsLocal o.locals x.own n ⊎ IsNoLocal o.locals x.own n → IsBoundTo o x n ⊎ IsUnbound o x n
      by (inl z) = inl (record {
        shape = z.shape;
        thing = z.thing;
        before = ap (λ b. or_later b (shape_in n o.names)) z.before;
        here = in_both n x.own x.names z.thing z.here;
        fits = z.fits;
      })
      by (inr gone) = not_local gone (thing_named n x.names) refl (shape_in n o.names) refl (fit.names n)
