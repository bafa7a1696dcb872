-- The first file that a store lacks, and what a look says by it.
use Rattle.std.proofs.Common.{◌≡◌, ℕ, List, [], ◌∷◌, Bool, true, false, not, ◌&&◌, ◌||◌, Option, None, Some, bytes_eq, cond, refl, ap, ◌∙◌}
use Rattle.std.specs.List.{list_any, list_all, find}
use Rattle.std.proofs.lemmas.Slice.Eq.{bytes_eq-Decides}
use Rattle.nf_value.specs.declared.file.FileRef.{FileRef}
use Rattle.nf_lane.specs.Store.{Store, has_all, has_name, lacks, first_of, first_lacking}

itself : (xs : List ℕ) → bytes_eq xs xs ≡ true
itself xs = (bytes_eq-Decides xs xs).1 refl

or_true : (b : Bool) → (b || true) ≡ true
or_true true = refl
or_true false = refl

-- ---- in one list

none_lacking : (s : Store) (files : List FileRef) → find (λ f. not (s f.digest.0)) files ≡ None → list_all (λ f. s f.digest.0) files ≡ true
none_lacking s [] e = refl
none_lacking s (f ∷ files) e =
    elim (s f.digest.0) as (λ b. cond (not b) (Some f) (find (λ g. not (s g.digest.0)) files) ≡ None → (b && list_all (λ g. s g.digest.0) files) ≡ true) [
      | true ↦ λ h. none_lacking s files h
      | false ↦ λ h. absurd (cc)
    ] e

one_lacking : (s : Store) (files : List FileRef) (f : FileRef) → find (λ g. not (s g.digest.0)) files ≡ Some f → list_any (λ g. bytes_eq g.name f.name && not (s g.digest.0)) files ≡ true
one_lacking s [] f e = absurd (cc)
one_lacking s (g ∷ files) f e =
    elim (s g.digest.0) as (λ b. cond (not b) (Some g) (find (λ k. not (s k.digest.0)) files) ≡ Some f → ((bytes_eq g.name f.name && not b) || list_any (λ k. bytes_eq k.name f.name && not (s k.digest.0)) files) ≡ true) [
      | true ↦ λ h. ap (λ b. (bytes_eq g.name f.name && false) || b) (one_lacking s files f h) ∙ or_true (bytes_eq g.name f.name && false)
      | false ↦ λ h. let same : g ≡ f = cc in ap (λ b. (b && true) || list_any (λ k. bytes_eq k.name f.name && not (s k.digest.0)) files) (ap (λ k. bytes_eq k.name f.name) same ∙ itself f.name)
    ] e

-- a file with a property more has the property less
any_less : {A : Type 0} (p q : A → Bool) (xs : List A) → ((x : A) → p x ≡ true → q x ≡ true) → list_any p xs ≡ true → list_any q xs ≡ true
any_less p q [] step h = h
any_less p q (x ∷ xs) step h =
    elim (p x) as (λ b. p x ≡ b → (b || list_any p xs) ≡ true → (q x || list_any q xs) ≡ true) [
      | true ↦ λ t k. ap (λ b. b || list_any q xs) (step x t)
      | false ↦ λ f k. ap (λ b. q x || b) (any_less p q xs step k) ∙ or_true (q x)
    ] refl h

and_first : (a b : Bool) → (a && b) ≡ true → a ≡ true
and_first true b h = refl
and_first false b h = h

-- ---- in all lists

pub all_there : (s : Store) (found : List (List FileRef)) → first_lacking s found ≡ None → has_all s found ≡ true
all_there s [] e = refl
all_there s (files ∷ found) e = here (find (λ f. not (s f.digest.0)) files) refl (all_there s found) e
  where
    here : (o : Option FileRef) → find (λ f. not (s f.digest.0)) files ≡ o → (first_lacking s found ≡ None → has_all s found ≡ true) → first_of o (first_lacking s found) ≡ None → (list_all (λ f. s f.digest.0) files && has_all s found) ≡ true
    here None is later h = ap (λ b. b && has_all s found) (none_lacking s files is) ∙ later h
    here (Some f) is later h = absurd (cc)

pub one_gone : (s : Store) (found : List (List FileRef)) (f : FileRef) → first_lacking s found ≡ Some f → lacks s found f.name ≡ true
one_gone s [] f e = absurd (cc)
one_gone s (files ∷ found) f e = here (find (λ g. not (s g.digest.0)) files) refl (one_gone s found f) e
  where
    here : (o : Option FileRef) → find (λ g. not (s g.digest.0)) files ≡ o → (first_lacking s found ≡ Some f → lacks s found f.name ≡ true) → first_of o (first_lacking s found) ≡ Some f → (list_any (λ g. bytes_eq g.name f.name && not (s g.digest.0)) files || lacks s found f.name) ≡ true
    here None is later h = ap (λ b. list_any (λ g. bytes_eq g.name f.name && not (s g.digest.0)) files || b) (later h) ∙ or_true (list_any (λ g. bytes_eq g.name f.name && not (s g.digest.0)) files)
    here (Some g) is later h = ap (λ b. b || lacks s found f.name) (one_lacking s files f (is ∙ h))

pub gone_named : (s : Store) (found : List (List FileRef)) (name : List ℕ) → lacks s found name ≡ true → has_name found name ≡ true
gone_named s found name h =
    any_less (list_any (λ f. bytes_eq f.name name && not (s f.digest.0))) (list_any (λ f. bytes_eq f.name name)) found
    (λ files. any_less (λ f. bytes_eq f.name name && not (s f.digest.0)) (λ f. bytes_eq f.name name) files (λ f. and_first (bytes_eq f.name name) (not (s f.digest.0)))) h
