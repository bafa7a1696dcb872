-- What is known of a body fits its names after a name is bound, after a call, and after braces.
use Rattle.std.proofs.Common.{◌≡◌, ℕ, zero, suc, ◌-◌, Bool, true, false, List, [], ◌∷◌, length, drop, Option, Some, None, is_some, IfSome, IsSomeAnd, refl, sym, ap, ◌∙◌, subst, true≢false}
use Rattle.std.specs.Prelude.{if◌then◌else◌}
use Rattle.std.specs.Str.{bytes_eq}
use Rattle.nf_kinds.specs.Kinds.{Shaped}
use Rattle.nf_kinds.specs.Scope as order
use Rattle.nf_kinds.specs.Scope.{Bindings, shape_in, is_named, without, rebound, defined, assigned, call_made, left_by}
use Rattle.nf_meaning.specs.Things.{Thing, outputs, Output, thing_named}
use Rattle.nf_meaning.specs.Walk as walk
use Rattle.nf_meaning.specs.Walk.{Scope, replaced, put, defining, assigning, calling, leaving}
use Rattle.nf_agreed.specs.Fits.{Fits, NamesFit, UnboundFit, InOrderFit, ScopeFits}
use Rattle.nf_agreed.proofs.Merging.{text_same, text_itself}
use Rattle.nf_agreed.proofs.Unbound.{without_other}

-- a name that is bound anew
pub names_more : (n : List ℕ) (s : Shaped) (t : Thing) (ks : Bindings) (xs : List (List ℕ × Thing)) → Fits s t → NamesFit ks xs → NamesFit ((n, s) ∷ ks) ((n, t) ∷ xs)
names_more n s t ks xs here h m = by (bytes_eq n m)
  where
    by : (b : Bool) → IfSome (if b then Some t else thing_named m xs) (λ y. IsSomeAnd (if b then Some s else shape_in m ks) (λ z. Fits z y))
    by true = here
    by false = h m

-- what a name stands for where one stands for another thing
seen : List ℕ → List ℕ → Thing → List (List ℕ × Thing) → Option Thing
seen m n t xs = if bytes_eq n m then Some t else thing_named m xs

replaced_seen : (m n : List ℕ) (t : Thing) (xs : List (List ℕ × Thing)) → walk.is_bound n xs ≡ true → thing_named m (replaced n t xs) ≡ seen m n t xs
unfolding seen
replaced_seen m n t [] bound = absurd (true≢false (sym bound))
replaced_seen m n t (x ∷ xs) bound = by (bytes_eq x.0 n) refl bound (replaced_seen m n t xs)
  where
    under : (c : Bool) → bytes_eq x.0 m ≡ c → x.0 ≡ n → (if bytes_eq n m then Some t else thing_named m xs) ≡ (if bytes_eq n m then Some t else (if c then Some x.1 else thing_named m xs))
    under true e same = ap (λ b. if b then Some t else thing_named m xs) (ap (λ q. bytes_eq q m) (sym same) ∙ e) ∙ sym (ap (λ b. if b then Some t else Some x.1) (ap (λ q. bytes_eq q m) (sym same) ∙ e))
    under false e same = refl

    other : (c d : Bool) → bytes_eq x.0 m ≡ c → bytes_eq n m ≡ d → bytes_eq x.0 n ≡ false → (if c then Some x.1 else (if d then Some t else thing_named m xs)) ≡ (if d then Some t else (if c then Some x.1 else thing_named m xs))
    other true true e f differ = absurd (true≢false (sym (text_itself n) ∙ ap (λ q. bytes_eq q n) (text_same n m f ∙ sym (text_same x.0 m e)) ∙ differ))
    other true false e f differ = refl
    other false true e f differ = refl
    other false false e f differ = refl

    by : (b : Bool) → bytes_eq x.0 n ≡ b → is_some (if b then Some x.1 else thing_named n xs) ≡ true → (walk.is_bound n xs ≡ true → thing_named m (replaced n t xs) ≡ (if bytes_eq n m then Some t else thing_named m xs))
        → thing_named m (if b then (n, t) ∷ xs else x ∷ replaced n t xs) ≡ (if bytes_eq n m then Some t else (if bytes_eq x.0 m then Some x.1 else thing_named m xs))
    by true e bound rest = under (bytes_eq x.0 m) refl (text_same x.0 n e)
    by false e bound rest = ap (λ v. if bytes_eq x.0 m then Some x.1 else v) (rest bound) ∙ other (bytes_eq x.0 m) (bytes_eq n m) refl refl e

put_seen : (m n : List ℕ) (t : Thing) (xs : List (List ℕ × Thing)) → thing_named m (put n t xs) ≡ seen m n t xs
unfolding seen
put_seen m n t xs = by (walk.is_bound n xs) refl
  where
    by : (b : Bool) → walk.is_bound n xs ≡ b → thing_named m (if b then replaced n t xs else (n, t) ∷ xs) ≡ (if bytes_eq n m then Some t else thing_named m xs)
    by true e = replaced_seen m n t xs e
    by false e = refl

pub names_put : (n : List ℕ) (s : Shaped) (t : Thing) (ks : Bindings) (xs : List (List ℕ × Thing)) → Fits s t → NamesFit ks xs → NamesFit ((n, s) ∷ ks) (put n t xs)
unfolding seen
names_put n s t ks xs here h m = subst (λ o. IfSome o (λ y. IsSomeAnd (shape_in m ((n, s) ∷ ks)) (λ z. Fits z y))) (sym (put_seen m n t xs)) (names_more n s t ks xs here h m)

pub unbound_put : (n : List ℕ) (s : Shaped) (t : Thing) (ks : Bindings) (half : List (List ℕ)) (xs : List (List ℕ × Thing)) → UnboundFit ks half xs → UnboundFit ((n, s) ∷ ks) (without n half) (put n t xs)
unfolding seen
unbound_put n s t ks half xs h m bound none = by (bytes_eq n m) refl bound (sym (put_seen m n t xs) ∙ none)
  where
    by : (b : Bool) → bytes_eq n m ≡ b → (if b then true else order.is_bound m ks) ≡ true → (if b then Some t else thing_named m xs) ≡ None → is_named m (without n half) ≡ true
    by true e bound none = absurd (let f : ◌≡◌ {A = Option Thing} (Some t) None = none in cc)
    by false e bound none = without_other n m half e (h m bound none)

-- ---- local names

pub rebound_fits : (n : List ℕ) (s : Shaped) (t : Thing) (ks : Bindings) (xs : List (List ℕ × Thing)) → Fits s t → InOrderFit ks xs → InOrderFit (rebound n s ks) (replaced n t xs)
rebound_fits n s t [] [] here h = tt
rebound_fits n s t [] (x ∷ xs) here h = absurd h
rebound_fits n s t (k ∷ ks) [] here h = absurd h
rebound_fits n s t (k ∷ ks) (x ∷ xs) here h =
    by (bytes_eq k.0 n) refl (bytes_eq x.0 n) (ap (λ q. bytes_eq q n) (sym h.0)) (rebound_fits n s t ks xs here h.1.1)
  where
    by : (b : Bool) → bytes_eq k.0 n ≡ b → (c : Bool) → c ≡ bytes_eq k.0 n → InOrderFit (rebound n s ks) (replaced n t xs)
        → InOrderFit (if b then (k.0, s) ∷ ks else k ∷ rebound n s ks) (if c then (n, t) ∷ xs else x ∷ replaced n t xs)
    by true e true f rest = (text_same k.0 n e, (here, h.1.1))
    by true e false f rest = absurd (true≢false (sym e ∙ sym f))
    by false e true f rest = absurd (true≢false (f ∙ e))
    by false e false f rest = (h.0, (h.1.0, rest))

pub bound_alike : (n : List ℕ) (ks : Bindings) (xs : List (List ℕ × Thing)) → InOrderFit ks xs → order.is_bound n ks ≡ walk.is_bound n xs
bound_alike n [] [] h = refl
bound_alike n [] (x ∷ xs) h = absurd h
bound_alike n (k ∷ ks) [] h = absurd h
bound_alike n (k ∷ ks) (x ∷ xs) h = by (bytes_eq k.0 n) (bytes_eq x.0 n) (ap (λ q. bytes_eq q n) h.0) (bound_alike n ks xs h.1.1)
  where
    by : (b c : Bool) → b ≡ c → order.is_bound n ks ≡ walk.is_bound n xs → (if b then true else order.is_bound n ks) ≡ is_some (if c then Some x.1 else thing_named n xs)
    by true true e rest = refl
    by true false e rest = absurd (true≢false e)
    by false true e rest = absurd (true≢false (sym e))
    by false false e rest = rest

pub drop_fits : (m : ℕ) (ks : Bindings) (xs : List (List ℕ × Thing)) → InOrderFit ks xs → InOrderFit (drop m ks) (drop m xs)
drop_fits m [] [] h = by m
  where
    by : (m : ℕ) → InOrderFit (drop m []) (drop m [])
    by zero = tt
    by (suc m) = tt
drop_fits m [] (x ∷ xs) h = absurd h
drop_fits m (k ∷ ks) [] h = absurd h
drop_fits zero (k ∷ ks) (x ∷ xs) h = h
drop_fits (suc m) (k ∷ ks) (x ∷ xs) h = drop_fits m ks xs h.1.1

pub long_alike : (ks : Bindings) (xs : List (List ℕ × Thing)) → InOrderFit ks xs → length ks ≡ length xs
long_alike [] [] h = refl
long_alike [] (x ∷ xs) h = absurd h
long_alike (k ∷ ks) [] h = absurd h
long_alike (k ∷ ks) (x ∷ xs) h = ap suc (long_alike ks xs h.1.1)

-- ---- scopes

pub defined_fits : (n : List ℕ) (s : Shaped) (t : Thing) (o : order.Scope) (x : Scope) → Fits s t → ScopeFits o x → ScopeFits (defined n s o) (defining n t x)
defined_fits n s t o x here h = record { locals = (refl, (here, h.locals)); names = h.names; unbound = h.unbound; calls = h.calls }

pub assigned_fits : (n : List ℕ) (s : Shaped) (t : Thing) (o : order.Scope) (x : Scope) → Fits s t → ScopeFits o x → ScopeFits (assigned n s o) (assigning n t x)
assigned_fits n s t o x here h = by (order.is_bound n o.locals) (walk.is_bound n x.own) (bound_alike n o.locals x.own h.locals)
  where
    by : (b c : Bool) → b ≡ c
        → ScopeFits (if b then record o { locals = rebound n s o.locals } else record o { names = (n, s) ∷ o.names; half_bound = without n o.half_bound }) (if c then record x { own = replaced n t x.own } else record x { names = put n t x.names })
    by true true e = record { locals = rebound_fits n s t o.locals x.own here h.locals; names = h.names; unbound = h.unbound; calls = h.calls }
    by true false e = absurd (true≢false e)
    by false true e = absurd (true≢false (sym e))
    by false false e = record {
      locals = h.locals;
      names = names_put n s t o.names x.names here h.names;
      unbound = unbound_put n s t o.names o.half_bound x.names h.unbound;
      calls = h.calls;
    }

pub called_fits : (n : List ℕ) (s : Shaped) (os : List Output) (o : order.Scope) (x : Scope) → Fits s (outputs os) → ScopeFits o x → ScopeFits (call_made n s o) (calling n os x)
called_fits n s os o x here h = record { locals = h.locals; names = h.names; unbound = h.unbound; calls = names_more n s (outputs os) o.calls x.calls here h.calls }

pub left_fits : (o p : order.Scope) (x y : Scope) → ScopeFits o x → ScopeFits p y → ScopeFits (left_by o p) (leaving x y)
left_fits o p x y before h = record {
  locals =
      subst (λ m. InOrderFit (drop (length p.locals - length o.locals) p.locals) (drop m y.own))
      (ap (λ m. m - length o.locals) (long_alike p.locals y.own h.locals) ∙ ap (λ m. length y.own - m) (long_alike o.locals x.own before.locals))
      (drop_fits (length p.locals - length o.locals) p.locals y.own h.locals);
  names = h.names;
  unbound = h.unbound;
  calls = h.calls;
}
