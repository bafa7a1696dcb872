-- What is known of a body fits its names after `set`, and what a name is read as.
use Rattle.std.proofs.Common.{◌≡◌, ◌⊎◌, inl, inr, ℕ, Bool, true, false, List, [], ◌∷◌, Option, Some, None, refl, sym, ◌∙◌, subst}
use Rattle.std.specs.Prelude.{if◌then◌else◌}
use Rattle.std.specs.Str.{bytes_eq}
use Rattle.nf_kinds.specs.Kinds.{Shaped, alone}
use Rattle.nf_kinds.specs.Scope as order
use Rattle.nf_kinds.specs.Scope.{Bindings, without, rebound, assigned, given_kind, is_half_bound, or_given, read_name}
use Rattle.nf_opkinds.specs.Operators.{set_to}
use Rattle.nf_meaning.specs.Things.{Thing, thing_named}
use Rattle.nf_meaning.specs.Walk.{Scope, things_in, assigning}
use Rattle.nf_agreed.specs.Fits.{Fits, SameNames, ScopeFits}
use Rattle.nf_agreed.proofs.Merging.{thing_left}
use Rattle.nf_agreed.proofs.Arms.{scope_left, scope_right}
use Rattle.nf_agreed.proofs.Assigning.{assigned_fits}
use Rattle.nf_agreed.proofs.Naming.{IsBoundTo, IsUnbound, name_is}

-- ---- `set`

same_itself : (ks : Bindings) → SameNames ks ks
same_itself [] = tt
same_itself (k ∷ ks) = (refl, same_itself ks)

same_rebound : (n : List ℕ) (s : Shaped) (ks : Bindings) → SameNames ks (rebound n s ks)
same_rebound n s [] = tt
same_rebound n s (k ∷ ks) = by (bytes_eq k.0 n) (same_rebound n s ks)
  where
    by : (b : Bool) → SameNames ks (rebound n s ks) → SameNames (k ∷ ks) (if b then (k.0, s) ∷ ks else k ∷ rebound n s ks)
    by true rest = (refl, same_itself ks)
    by false rest = (refl, rest)

same_assigned : (n : List ℕ) (s : Shaped) (o : order.Scope) → SameNames o.locals (assigned n s o).locals
same_assigned n s o = by (order.is_bound n o.locals)
  where
    by : (b : Bool) → SameNames o.locals (if b then record o { locals = rebound n s o.locals } else record o { names = (n, s) ∷ o.names; half_bound = without n o.half_bound }).locals
    by true = same_rebound n s o.locals
    by false = same_itself o.locals

-- the name stands for all that `set` is called on
pub set_bound : (n : List ℕ) (s : Shaped) (t : Thing) (o : order.Scope) (x : Scope) → Fits s t → ScopeFits o x → ScopeFits (set_to s.kinds.plain n s o) (assigning n t x)
set_bound n s t o x here h = by s.kinds.plain
  where
    by : (b : Bool) → ScopeFits (set_to b n s o) (assigning n t x)
    by true = scope_right o (assigned n s o) (assigning n t x) (same_assigned n s o) (assigned_fits n s t o x here h)
    by false = assigned_fits n s t o x here h

-- or it is what it was
pub set_kept : (n : List ℕ) (s : Shaped) (o : order.Scope) (x : Scope) → s.kinds.plain ≡ true → ScopeFits o x → ScopeFits (set_to s.kinds.plain n s o) x
set_kept n s o x plain h = subst (λ b. ScopeFits (set_to b n s o) x) (sym plain) (scope_left o (assigned n s o) x (same_assigned n s o) h)

-- ---- names

read_bound : (half : Bool) (s : Shaped) (n : List ℕ) (t : Thing) → Fits s t → Fits (or_given half (Some s) n) t
read_bound true s n t h = thing_left s (alone (given_kind n)) t h
read_bound false s n t h = h

pub read_fits : (n : List ℕ) (t : Thing) (o : order.Scope) (x : Scope) → ScopeFits o x → thing_named n (things_in x) ≡ Some t → Fits (read_name n o) t
read_fits n t o x fit is = by (name_is o x n fit)
  where
    by : IsBoundTo o x n ⊎ IsUnbound o x n → Fits (read_name n o) t
    by (inl z) =
        subst (λ v. Fits (or_given (is_half_bound n o) v n) t) (sym z.before)
        (read_bound (is_half_bound n o) z.shape n t (subst (λ y. Fits z.shape y) (let e : ◌≡◌ {A = Option Thing} (Some z.thing) (Some t) = sym z.here ∙ is in cc) z.fits))
    by (inr z) = absurd (let e : ◌≡◌ {A = Option Thing} None (Some t) = sym z.here ∙ is in cc)
