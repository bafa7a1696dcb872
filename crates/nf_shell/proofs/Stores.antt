-- What storing a file leaves of the other files, and what the file store has after it.
use Rattle.std.proofs.Common.{◌≡◌, ℕ, List, Bool, true, false, ◌&&◌, Option, None, Some, option_map, inl, inr, codes, bytes_eq, refl, sym, ap, ◌∙◌, subst, true≢false}
use Rattle.sha2.specs.Sha256.{sha256}
use Rattle.nf_job.specs.declared.parts.JobParts.{JobParts}
use Rattle.nf_host.specs.Files.{Files, KeepsOthers}
use Rattle.nf_host.specs.Folders.{path_in, is_in, KeepsOutside}
use Rattle.nf_host.specs.Told.{Both}
use Rattle.nf_host.proofs.Paths.{in_folder, one_name, text_itself, text_same}
use Rattle.nf_lane.specs.Store.{Grows}
use Rattle.nf_job.specs.JobText.{work_path}
use Rattle.nf_shell.specs.Places.{IsInPlace, IsApart, KeepsOrStores, StaysOrStored, StoresOutside, is_short, is_whole, stored_at, stored_in, task_dir}
use Rattle.nf_shell.proofs.Apart.{outside}
use Rattle.nf_shell.proofs.Digests.{same_digest}

and_true : (b : Bool) → (b && true) ≡ b
and_true true = refl
and_true false = refl

-- ---- what stays

-- what follows from a fact of both follows from both
pub weaken : {A : Type 0} (a b : Option A) (P Q : A → A → Type 0) → ((x y : A) → P x y → Q x y) → Both a b P → Both a b Q
weaken None None P Q step h = tt
weaken None (Some y) P Q step h = h
weaken (Some x) None P Q step h = h
weaken (Some x) (Some y) P Q step h = step x y h

pub keeps_others : (work path : List ℕ) (f g : Files) → KeepsOthers path f g → KeepsOrStores work path f g
keeps_others work path f g k q other = inl (k q other)

stays_then : (work q : List ℕ) (a b c : Option (List ℕ)) → StaysOrStored work q a b → StaysOrStored work q b c → StaysOrStored work q a c
stays_then work q a b c (inl e) (inl d) = inl (d ∙ e)
stays_then work q a b c (inr z) (inl d) = inr (subst (IsInPlace work q) (sym d) z)
stays_then work q a b c s (inr z) = inr z

pub stores_all : (work path : List ℕ) (f : Files) → KeepsOrStores work path f f
stores_all work path f q other = inl refl

pub stores_then : (work path : List ℕ) (f g h : Files) → KeepsOrStores work path f g → KeepsOrStores work path g h → KeepsOrStores work path f h
stores_then work path f g h p r q other = stays_then work q (f q) (g q) (h q) (p q other) (r q other)

pub outside_all : (work dir : List ℕ) (f : Files) → StoresOutside work dir f f
outside_all work dir f q out = inl refl

pub outside_then : (work dir : List ℕ) (f g h : Files) → StoresOutside work dir f g → StoresOutside work dir g h → StoresOutside work dir f h
outside_then work dir f g h p r q out = stays_then work q (f q) (g q) (h q) (p q out) (r q out)

pub outside_kept : (work dir : List ℕ) (f g : Files) → KeepsOutside dir f g → StoresOutside work dir f g
outside_kept work dir f g k q out = inl (k q out)

-- a path outside of the folder is none of its names'
not_inside : (dir name q : List ℕ) → is_in dir q ≡ false → bytes_eq q (path_in dir name) ≡ false
not_inside dir name q out =
    elim (bytes_eq q (path_in dir name)) as (λ b. bytes_eq q (path_in dir name) ≡ b → b ≡ false) [
      | true ↦ λ t. absurd (true≢false (sym (in_folder dir name) ∙ ap (is_in dir) (sym (text_same q (path_in dir name) t)) ∙ out))
      | false ↦ λ f. refl
    ] refl

pub outside_stores : (work dir name : List ℕ) (f g : Files) → KeepsOrStores work (path_in dir name) f g → StoresOutside work dir f g
outside_stores work dir name f g k q out = k q (not_inside dir name q out)

pub keeps_outside : (dir name : List ℕ) (f g : Files) → KeepsOthers (path_in dir name) f g → KeepsOutside dir f g
keeps_outside dir name f g k q out = k q (not_inside dir name q out)

-- ---- the store only grows

place_of : (w a b : List ℕ) → stored_at w (sha256 a) ≡ stored_at w (sha256 b) → sha256 a ≡ sha256 b
place_of w a b e = same_digest a b (one_name (path_in w (codes ".files")) (work_path (sha256 a)) (work_path (sha256 b)) e)

and_left : (a b : Bool) → (a && b) ≡ true → a ≡ true
and_left true b h = refl
and_left false b h = h

still_whole : (w d : List ℕ) (a b : Option (List ℕ)) → StaysOrStored w (stored_at w d) a b → is_whole d a ≡ true → is_whole d b ≡ true
still_whole w d a b (inl e) h = ap (is_whole d) e ∙ h
still_whole w d a None (inr z) h = absurd z
still_whole w d None (Some c) (inr z) h = absurd (true≢false (sym h))
still_whole w d (Some x) (Some c) (inr z) h =
    let was : sha256 x ≡ d = text_same (sha256 x) d (and_left (bytes_eq (sha256 x) d) (is_short x) h) in
    let is : sha256 x ≡ sha256 c = place_of w x c (ap (stored_at w) was ∙ z.0) in
    ap (λ v. bytes_eq (sha256 c) d && v) z.1 ∙ and_true (bytes_eq (sha256 c) d) ∙ ap (λ v. bytes_eq v d) (sym is ∙ was) ∙ text_itself d

pub grows_outside : (w : List ℕ) (p : JobParts) (f g : Files) → StoresOutside w (task_dir w p) f g → Grows (stored_in f w) (stored_in g w)
grows_outside w p f g k d h = still_whole w d (f (stored_at w d)) (g (stored_at w d)) (k (stored_at w d) (outside w _ d)) h

pub grows_beside : (w dir name : List ℕ) (f g : Files) → IsApart w dir → KeepsOrStores w (path_in dir name) f g → Grows (stored_in f w) (stored_in g w)
grows_beside w dir name f g apart k d h = still_whole w d (f (stored_at w d)) (g (stored_at w d)) (k (stored_at w d) (apart d name)) h

grows_both : (told now : Option Files) (w : List ℕ) (p : JobParts) → Both told now (StoresOutside w (task_dir w p)) → Both (option_map (λ f. stored_in f w) told) (option_map (λ f. stored_in f w) now) Grows
grows_both None None w p k = tt
grows_both None (Some g) w p k = k
grows_both (Some f) None w p k = k
grows_both (Some f) (Some g) w p k = grows_outside w p f g k

pub grows_told : (told now : Option Files) (v w : List ℕ) (p : JobParts) → v ≡ w → Both told now (StoresOutside v (task_dir v p)) → Both (option_map (λ f. stored_in f w) told) (option_map (λ f. stored_in f w) now) Grows
grows_told told now v w p e k = subst (λ (u : List ℕ). Both (option_map (λ f. stored_in f u) told) (option_map (λ f. stored_in f u) now) Grows) e (grows_both told now v p k)
