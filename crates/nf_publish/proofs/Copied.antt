-- The copies of targets, one after the other.
use Rattle.std.proofs.Common.{◌≡◌, ℕ, ◌+◌, ◌<◌, ◌≤◌, List, [], ◌∷◌, length, drop, true, false, ◌&&◌, Option, None, Some, option_map, bytes_eq, inl, inr, refl, ap, sym, subst, ◌∙◌, get_or, true≢false, arith}
use Rattle.std.specs.Prelude.{◌⊎◌, IfSome, IfOk, IfErr, OnOk, Result, Ok, Err, nat_le}
use Rattle.std.proofs.lemmas.Bool.{le-leb}
use Rattle.std.proofs.lemmas.List.{drop_all, drop_more}
use Rattle.std.proofs.lemmas.Bool.Decides.{nat_tests}
use Rattle.std.proofs.lemmas.List.Folds.{list_any_at}
use Rattle.nf_value.specs.declared.file.Digest.{Digest}
use Rattle.nf_host.specs.Copies.{IsCopied, IsDigested}
use Rattle.nf_host.specs.Files.{Files, KeepsOthers}
use Rattle.nf_host.specs.Told.{Both}
use Rattle.nf_host.specs.declared.host.HostRefusal.{HostRefusal}
use Rattle.nf_host.specs.declared.copies.Digested.{Digested}
use Rattle.nf_host.specs.declared.copies.Digested.TheVariants.{Absent, TooLong, Whole}
use Rattle.nf_host.specs.declared.copies.TheConstants.{FILE_LIMIT}
use Rattle.nf_host.proofs.Copying.{both_then}
use Rattle.nf_host.proofs.Paths.{text_itself, text_same}
use Rattle.nf_tasks.specs.declared.target_list.Target.{Target}
use Rattle.nf_publish.specs.declared.fault.CopyRefusal.{CopyRefusal}
use Rattle.nf_publish.specs.declared.fault.CopyRefusal.TheVariants.{Host, Damaged}
use Rattle.nf_publish.specs.Copies.{AreCopied, IsDamage, IsTrueOf, KeepsRest, is_target}
use Rattle.nf_publish.specs.Copying.{Checks, IsOneDamage}
use Rattle.nf_shell.specs.Damages.{digest_in, found_digest, has_digest}
use Rattle.nf_shell.specs.Folder.{HasDigest}
use Rattle.nf_shell.specs.Places.{stored_at}
use Rattle.nf_publish.specs.Targets.{HaveOneContent, IsPublished}
use Rattle.nf_publish.proofs.Clashing.{published_either}

-- ---- between two paths

-- of a file that is copied to its own path
pub copied_there : (now : Option Files) (from to : List ℕ) (r : Result Digested HostRefusal) → bytes_eq from to ≡ true → IfSome now (λ g. IfOk r (IsCopied (g from) (g to)))
copied_there None from to r e = tt
copied_there (Some g) from to (Err x) e = tt
copied_there (Some g) from to (Ok Absent) e = tt
copied_there (Some g) from to (Ok TooLong) e = tt
copied_there (Some g) from to (Ok (Whole digest len)) e = ap g (sym (text_same from to e))

-- the file that was read is as it was
pub read_still : (told now : Option Files) (from to : List ℕ) (r : Result Digested HostRefusal) → bytes_eq from to ≡ false → Both told now (KeepsOthers to) → IfSome told (λ f. IfOk r (IsDigested FILE_LIMIT (f from))) → IfSome now (λ g. IfOk r (IsDigested FILE_LIMIT (g from)))
read_still None None from to r apart k h = tt
read_still None (Some g) from to r apart k h = absurd k
read_still (Some f) None from to r apart k h = absurd k
read_still (Some f) (Some g) from to r apart k h = subst (λ (o : Option (List ℕ)). IfOk r (IsDigested FILE_LIMIT o)) (sym (k from apart)) h

pub copied_still : (told now : Option Files) (from to : List ℕ) (r : Result Digested HostRefusal) → bytes_eq from to ≡ false → Both told now (KeepsOthers to) → Both told now (λ f g. IfOk r (IsCopied (f from) (g to))) → IfSome now (λ g. IfOk r (IsCopied (g from) (g to)))
copied_still None None from to r apart k h = tt
copied_still None (Some g) from to r apart k h = absurd k
copied_still (Some f) None from to r apart k h = absurd k
copied_still (Some f) (Some g) from to r apart k h = subst (λ (o : Option (List ℕ)). IfOk r (IsCopied o (g to))) (sym (k from apart)) h

-- ---- one target

long : (b : List ℕ) → FILE_LIMIT < length b → nat_le (length b) FILE_LIMIT ≡ false
long b h = grind (arith, nat_tests)

digest_found : (o : Option (List ℕ)) (found : Digested) → IsDigested FILE_LIMIT o found → option_map (λ d. d.0) (found_digest found) ≡ digest_in o
digest_found None found h = ap (λ d. option_map (λ (x : Digest). x.0) (found_digest d)) h
digest_found (Some b) Absent h = absurd h
digest_found (Some b) TooLong h = rw (long b h) refl
digest_found (Some b) (Whole digest len) h = rw (le-leb (length b) FILE_LIMIT h.0) (ap (λ (v : List ℕ). Some v) h.1)

digest_right : (o : Option (List ℕ)) (due : List ℕ) (found : Digested) → IsDigested FILE_LIMIT o found → has_digest found due ≡ true → HasDigest o due
digest_right None due found h e =
    let none : has_digest found due ≡ false = ap (λ d. has_digest d due) h in absurd (true≢false (sym e ∙ none))
digest_right (Some b) due Absent h e = absurd h
digest_right (Some b) due TooLong h e = absurd (cc)
digest_right (Some b) due (Whole digest len) h e = sym h.1 ∙ text_same digest.0 due e

right_at : (g : Files) (from to due : List ℕ) (found : Digested) → IsDigested FILE_LIMIT (g from) found → IsCopied (g from) (g to) found → has_digest found due ≡ true → HasDigest (g to) due
right_at g from to due Absent h k e = absurd (cc)
right_at g from to due TooLong h k e = absurd (cc)
right_at g from to due (Whole digest len) h k e =
    subst (λ (o : Option (List ℕ)). HasDigest o due) (sym k) (digest_right (g from) due (Whole digest len) h e)

-- a copy that passes its check has the bytes that are due
pub copied_right : (now : Option Files) (from to : List ℕ) (due : Digest) (found : Digested) (r : Result (Unit {0}) CopyRefusal) → Checks found due r → IfSome now (λ g. IsDigested FILE_LIMIT (g from) found) → IfSome now (λ g. IsCopied (g from) (g to) found) → IfSome now (λ g. OnOk r (HasDigest (g to) due.0))
copied_right None from to due found r c h k = tt
copied_right (Some g) from to due found (Err e) c h k = tt
copied_right (Some g) from to due found (Ok x) c h k = right_at g from to due.0 found h k c

stands : (now : Option Files) (work from : List ℕ) (due : Digest) (found : Digested) → from ≡ stored_at work due.0 → IfSome now (λ g. IsDigested FILE_LIMIT (g from) found) → IfSome now (λ g. option_map (λ d. d.0) (found_digest found) ≡ digest_in (g (stored_at work due.0)))
stands None work from due found e h = tt
stands (Some g) work from due found e h = digest_found (g from) found h ∙ ap (λ p. digest_in (g p)) e

-- a copy that fails its check is a damage
pub refused_right : (now : Option Files) (work from : List ℕ) (t : Target) (found : Digested) (r : Result (Unit {0}) CopyRefusal) → from ≡ stored_at work t.digest.0 → Checks found t.digest r → IfSome now (λ g. IsDigested FILE_LIMIT (g from) found) → IfErr r (IsOneDamage work t now)
refused_right now work from t found (Ok x) e c h = tt
refused_right now work from t found (Err (Host x)) e c h = tt
refused_right now work from t found (Err (Damaged d f)) e c h = (c.0, damage)
  where
    same : IfSome now (λ g. option_map (λ x. x.0) f ≡ digest_in (g (stored_at work t.digest.0)))
    same = subst (λ (v : Option Digest). IfSome now (λ g. option_map (λ x. x.0) v ≡ digest_in (g (stored_at work t.digest.0)))) (sym c.1) (stands now work from t.digest found e h)

    damage : IsDamage work now d f
    damage = record {
      other = λ is. c.2 (is ∙ ap (λ (x : Digest). Some x) c.0);
      stands = subst (λ (v : Digest). IfSome now (λ g. option_map (λ x. x.0) f ≡ digest_in (g (stored_at work v.0)))) (sym c.0) same;
    }

-- ---- all targets

published_at : (ts : List Target) (i : ℕ) (t : Target) → i < length ts → t ≡ get_or ts i t → IsPublished ts t.name t.digest.0
published_at ts i t h is =
    list_any_at (λ (u : Target). bytes_eq u.name t.name && bytes_eq u.digest.0 t.digest.0) ts i t h
    (subst (λ (u : Target). (bytes_eq u.name t.name && bytes_eq u.digest.0 t.digest.0) ≡ true) is (rw (text_itself t.name) (text_itself t.digest.0)))

target_at : (ts : List Target) (i : ℕ) (t : Target) → i < length ts → t ≡ get_or ts i t → is_target ts t.name ≡ true
target_at ts i t h is =
    list_any_at (λ (u : Target). bytes_eq u.name t.name) ts i t h
    (subst (λ (u : Target). bytes_eq u.name t.name ≡ true) is (text_itself t.name))

-- a path that is no target is another than this one's
elsewhere : (ts : List Target) (i : ℕ) (t : Target) (path : List ℕ) → i < length ts → t ≡ get_or ts i t → is_target ts path ≡ false → bytes_eq path t.name ≡ false
elsewhere ts i t path h is none =
    elim (bytes_eq path t.name) as (λ b. bytes_eq path t.name ≡ b → b ≡ false) [
      | true ↦ λ e. absurd (true≢false (sym (target_at ts i t h is) ∙ ap (is_target ts) (sym (text_same path t.name e)) ∙ none))
      | false ↦ λ e. refl
    ] refl

-- one more target was written
pub rest_kept : (told now next : Option Files) (ts : List Target) (i : ℕ) (t : Target) → i < length ts → t ≡ get_or ts i t → Both told now (KeepsRest ts) → Both now next (KeepsOthers t.name) → Both told next (KeepsRest ts)
rest_kept told now next ts i t h is =
    both_then told now next (KeepsRest ts) (KeepsOthers t.name) (KeepsRest ts)
    (λ f g k p q path none. q path (elsewhere ts i t path h is none) ∙ p path none)

-- each target from here on, or it holds what is published there
pub LeftFrom : List Target → ℕ → Files → Type 0
LeftFrom ts i g = HaveOneContent ts → (path d : List ℕ) → IsPublished ts path d → IsPublished (drop i ts) path d ⊎ HasDigest (g path) d

pub left_first : (now : Option Files) (ts : List Target) → IfSome now (LeftFrom ts 0)
unfolding LeftFrom
left_first None ts = tt
left_first (Some g) ts = λ one path d p. inl p

at_target : (g h : Files) (t : Target) (path d : List ℕ) → (t.name ≡ path → t.digest.0 ≡ d) → KeepsOthers t.name g h → HasDigest (h t.name) t.digest.0 → HasDigest (g path) d → HasDigest (h path) d
at_target g h t path d same k right before =
    elim (bytes_eq path t.name) as (λ b. bytes_eq path t.name ≡ b → HasDigest (h path) d) [
      | true ↦ λ e.
          let is : t.name ≡ path = sym (text_same path t.name e) in
          subst (λ x. HasDigest (h x) d) is (subst (λ y. HasDigest (h t.name) y) (same is) right)
      | false ↦ λ f. subst (λ (o : Option (List ℕ)). HasDigest o d) (sym (k path f)) before
    ] refl

left_step : (g h : Files) (ts : List Target) (i : ℕ) (t : Target) → i < length ts → t ≡ get_or ts i t → LeftFrom ts i g → KeepsOthers t.name g h → HasDigest (h t.name) t.digest.0 → LeftFrom ts (i + 1) h
unfolding LeftFrom
left_step g h ts i t less is left k right = λ one path d p.
    let next : drop i ts ≡ t ∷ drop (i + 1) ts = drop_more ts i t less ∙ ap (λ (x : Target). x ∷ drop (i + 1) ts) (sym is) in
    let same : t.name ≡ path → t.digest.0 ≡ d = λ e. one path t.digest.0 d (subst (λ x. IsPublished ts x t.digest.0) e (published_at ts i t less is)) p in
    elim (left one path d p) [
      | inl q ↦
          elim (published_either t (drop (i + 1) ts) path d (subst (λ (us : List Target). IsPublished us path d) next q)) [
            | inl e ↦ inr (subst (λ x. HasDigest (h x) d) e.0 (subst (λ y. HasDigest (h t.name) y) e.1 right))
            | inr r ↦ inl r
          ]
      | inr there ↦ inr (at_target g h t path d same k right there)
    ]

pub left_next : (now next : Option Files) (ts : List Target) (i : ℕ) (t : Target) → i < length ts → t ≡ get_or ts i t → IfSome now (LeftFrom ts i) → Both now next (KeepsOthers t.name) → IfSome next (λ h. HasDigest (h t.name) t.digest.0) → IfSome next (LeftFrom ts (i + 1))
left_next None None ts i t less is left k right = tt
left_next None (Some h) ts i t less is left k right = absurd k
left_next (Some g) None ts i t less is left k right = absurd k
left_next (Some g) (Some h) ts i t less is left k right = left_step g h ts i t less is left k right

none_left : (ts : List Target) (i : ℕ) (path d : List ℕ) → length ts ≤ i → IsPublished (drop i ts) path d → ⊥
none_left ts i path d past p =
    let e : drop i ts ≡ [] = drop_all i ts past in
    let none : IsPublished [] path d = subst (λ (us : List Target). IsPublished us path d) e p in absurd (cc)

pub all_copied : (now : Option Files) (ts : List Target) (i : ℕ) → length ts ≤ i → IfSome now (LeftFrom ts i) → IfSome now (AreCopied ts)
unfolding LeftFrom
all_copied None ts i past left = tt
all_copied (Some g) ts i past left = λ one path d p.
    elim (left one path d p) [
      | inl q ↦ absurd (none_left ts i path d past q)
      | inr there ↦ there
    ]

-- a damage of one target is one of all
pub damage_among : (now : Option Files) (work : List ℕ) (ts : List Target) (i : ℕ) (t : Target) (e : CopyRefusal) → i < length ts → t ≡ get_or ts i t → IsOneDamage work t now e → IsTrueOf work ts now e
damage_among now work ts i t (Host x) h is k = tt
damage_among now work ts i t (Damaged due found) h is k =
    ((t.name, subst (λ (d : Digest). IsPublished ts t.name d.0) (sym k.0) (published_at ts i t h is)), k.1)
