-- The files of a folder that are outputs, name by name, and that storing them changes none of them.
use Rattle.std.proofs.Common.{◌≡◌, ℕ, ◌+◌, ◌<◌, ◌≤◌, List, [], ◌∷◌, ◌++◌, map, length, get_or, take, Bool, true, false, not, ◌&&◌, ◌||◌, All, Option, None, Some, is_some, option_map, inl, inr, cond, codes, bytes_eq, refl, sym, ap, ◌∙◌, subst, true≢false, add-one}
use Rattle.std.specs.Prelude.{if◌then◌else◌, IfSome, IsTrue, option_to_list, Result, Ok, Err}
use Rattle.std.specs.List.{AllZip, filter, filter_map, list_any, cons_option}
use Rattle.std.specs.List.Sorted.{IsStrictlySortedBy}
use Rattle.std.specs.Ordering.{nat_cmp}
use Rattle.std.specs.Cmp.Lexicographic.{slice_cmp}
use Rattle.std.proofs.Math.Seq.{take-suc}
use Rattle.std.proofs.lemmas.List.{take_all}
use Rattle.std.proofs.lemmas.List.Elements.{All-nil, All-cons, All-append, All-push, All-weaker, filter_map-append}
use Rattle.std.proofs.lemmas.List.Kept.{IsStrictlySortedBy-filter}
use Rattle.sha2.specs.Sha256.{sha256}
use Rattle.nf_value.specs.declared.file.FileRef.{FileRef}
use Rattle.nf_job.specs.declared.parts.JobParts.{JobParts}
use Rattle.nf_host.specs.Files.{Files}
use Rattle.nf_host.specs.Folders.{path_in, folder_of, is_name, IsListing, IsListed}
use Rattle.nf_host.specs.Told.{Both}
use Rattle.nf_host.specs.declared.host.HostRefusal.{HostRefusal}
use Rattle.nf_host.proofs.Paths.{same_name, text_itself, text_same}
use Rattle.nf_shell.specs.Outputs.{AreFoundIn, AreStored, IsFileOf, IsFound, begins_with_dot, file_found, files_found, is_fit, is_matched, is_output, is_among, lists_found, ref_of, scratch_in, stored_of}
use Rattle.nf_shell.specs.Over.{OkOver}
use Rattle.nf_shell.specs.Places.{IsApart, IsInPlace, KeepsOrStores, StaysOrStored, is_short, is_stored, stored_at}
use Rattle.nf_shell.specs.declared.store.Stored.{Stored}
use Rattle.nf_shell.proofs.Stores.{grows_beside}

-- ---- what storing leaves of the folder

pub not_scratch : (name : List ℕ) → begins_with_dot name ≡ false → bytes_eq name (codes ".command.new") ≡ false
not_scratch [] h = refl
not_scratch (c ∷ name) h = rw h refl

pub not_status : (name : List ℕ) → begins_with_dot name ≡ false → bytes_eq name (codes ".exitcode") ≡ false
not_status [] h = refl
not_status (c ∷ name) h = rw h refl

pub inside_stays : (work dir name : List ℕ) (f g : Files) → IsApart work dir → KeepsOrStores work (scratch_in dir) f g → bytes_eq name (codes ".command.new") ≡ false → g (path_in dir name) ≡ f (path_in dir name)
inside_stays work dir name f g apart k other = at (k (path_in dir name) (same_name dir name (codes ".command.new") ∙ other))
  where
    placed : (o : Option (List ℕ)) → IsInPlace work (path_in dir name) o → o ≡ f (path_in dir name)
    placed None z = absurd z
    placed (Some b) z = absurd (true≢false (sym (ap (bytes_eq (stored_at work (sha256 b))) z.0 ∙ text_itself (stored_at work (sha256 b))) ∙ apart (sha256 b) name))

    at : StaysOrStored work (path_in dir name) (f (path_in dir name)) (g (path_in dir name)) → g (path_in dir name) ≡ f (path_in dir name)
    at (inl e) = e
    at (inr z) = placed (g (path_in dir name)) z

pub shown_stays : (work dir name : List ℕ) (f g : Files) → IsApart work dir → KeepsOrStores work (scratch_in dir) f g → begins_with_dot name ≡ false → g (path_in dir name) ≡ f (path_in dir name)
shown_stays work dir name f g apart k shown = inside_stays work dir name f g apart k (not_scratch name shown)

-- two folders' files are the same, but for names with a dot in front
abbrev pub Shows : Files → Files → Type 0
Shows left right = (name : List ℕ) → begins_with_dot name ≡ false → right name ≡ left name

pub folder_shows : (work dir : List ℕ) (f g : Files) → IsApart work dir → KeepsOrStores work (scratch_in dir) f g → Shows (folder_of f dir) (folder_of g dir)
folder_shows work dir f g apart k name s = shown_stays work dir name f g apart k s

-- so the same files are outputs
file_stays : (pattern : List ℕ) (staged : List FileRef) (name : List ℕ) (left right : Files) → Shows left right → file_found right pattern staged name ≡ file_found left pattern staged name
file_stays pattern staged name left right k =
    elim (begins_with_dot name) as (λ b. begins_with_dot name ≡ b → (if not b && is_matched pattern staged name then ref_of name (stored_of (right name)) else None) ≡ (if not b && is_matched pattern staged name then ref_of name (stored_of (left name)) else None)) [
      | true ↦ λ t. refl
      | false ↦ λ s. ap (λ o. if is_matched pattern staged name then ref_of name (stored_of o) else None) (k name s)
    ] refl

-- ---- one name after another

as_list : (h : List ℕ → Option FileRef) (e : List ℕ) → filter_map h (e ∷ []) ≡ option_to_list (h e)
as_list h e = at (h e)
  where
    at : (o : Option FileRef) → cons_option o [] ≡ option_to_list o
    at None = refl
    at (Some r) = refl

take_more : {A : Type 0} (xs : List A) (i : ℕ) (e : A) → i < length xs → e ≡ get_or xs i e → take (i + 1) xs ≡ take i xs ++ e ∷ []
take_more xs i e l is = ap (λ k. take k xs) (add-one i) ∙ take-suc xs i e l ∙ ap (λ r. take i xs ++ r ∷ []) (sym is)

pushed : (h : List ℕ → Option FileRef) (names : List (List ℕ)) (i : ℕ) (e : List ℕ) (xs ys : List FileRef) (o : Option FileRef) → i < length names → e ≡ get_or names i e → xs ≡ filter_map h (take i names) → o ≡ h e → ys ≡ xs ++ option_to_list o → ys ≡ filter_map h (take (i + 1) names)
pushed h names i e xs ys o l is so found made =
    made ∙ ap (λ v. v ++ option_to_list o) so ∙ ap (λ v. filter_map h (take i names) ++ option_to_list v) found
    ∙ ap (λ v. filter_map h (take i names) ++ v) (sym (as_list h e)) ∙ sym (filter_map-append h (take i names) (e ∷ [])) ∙ ap (filter_map h) (sym (take_more names i e l is))

pub content_first : (told : Option Files) (dir pattern : List ℕ) (staged : List FileRef) (names : List (List ℕ)) (xs : List FileRef) → xs ≡ [] → IfSome told (λ f. xs ≡ files_found (folder_of f dir) pattern staged (take 0 names))
content_first None dir pattern staged names xs e = tt
content_first (Some f) dir pattern staged names xs e = e

pub content_more : (told now : Option Files) (work dir pattern : List ℕ) (staged : List FileRef) (names : List (List ℕ)) (i : ℕ) (e : List ℕ) (xs ys : List FileRef) (o : Option FileRef) → IsApart work dir → i < length names → e ≡ get_or names i e
    → Both told now (KeepsOrStores work (scratch_in dir)) → IfSome told (λ f. xs ≡ filter_map (file_found (folder_of f dir) pattern staged) (take i names)) → IfSome now (λ g. o ≡ file_found (folder_of g dir) pattern staged e) → ys ≡ xs ++ option_to_list o
    → IfSome told (λ f. ys ≡ filter_map (file_found (folder_of f dir) pattern staged) (take (i + 1) names))
content_more None now work dir pattern staged names i e xs ys o apart l is k so found made = tt
content_more (Some f) None work dir pattern staged names i e xs ys o apart l is k so found made = absurd k
content_more (Some f) (Some g) work dir pattern staged names i e xs ys o apart l is k so found made =
    pushed (file_found (folder_of f dir) pattern staged) names i e xs ys o l is so (found ∙ file_stays pattern staged e (folder_of f dir) (folder_of g dir) (folder_shows work dir f g apart k)) made

pub content_all : (told : Option Files) (dir pattern : List ℕ) (staged : List FileRef) (names : List (List ℕ)) (i : ℕ) (xs : List FileRef) → length names ≤ i → IfSome told (λ f. xs ≡ filter_map (file_found (folder_of f dir) pattern staged) (take i names)) → IfSome told (λ f. xs ≡ filter_map (file_found (folder_of f dir) pattern staged) names)
content_all None dir pattern staged names i xs l so = tt
content_all (Some f) dir pattern staged names i xs l so = so ∙ ap (filter_map (file_found (folder_of f dir) pattern staged)) (take_all i names l)

-- ---- what is stored stays stored

still_stored : (work dir : List ℕ) (f g : Files) (xs : List FileRef) → IsApart work dir → KeepsOrStores work (scratch_in dir) f g → AreStored work f xs → AreStored work g xs
still_stored work dir f g xs apart k h = All-weaker (λ r. is_stored f work r.digest.0 ≡ true) (λ r. is_stored g work r.digest.0 ≡ true) (λ r. grows_beside work dir (codes ".command.new") f g apart k r.digest.0) xs h

pub stored_first : (now : Option Files) (work : List ℕ) (xs : List FileRef) → xs ≡ [] → IfSome now (λ g. AreStored work g xs)
stored_first None work xs e = tt
stored_first (Some g) work xs e = subst (λ (v : List FileRef). AreStored work g v) (sym e) (All-nil (λ r. is_stored g work r.digest.0 ≡ true))

pub stored_more : (now next : Option Files) (work dir : List ℕ) (xs ys : List FileRef) (o : Option FileRef) → IsApart work dir → Both now next (KeepsOrStores work (scratch_in dir)) → IfSome now (λ g. AreStored work g xs) → IfSome next (λ g. IfSome o (λ r. IsTrue (is_stored g work r.digest.0))) → ys ≡ xs ++ option_to_list o → IfSome next (λ g. AreStored work g ys)
stored_more now None work dir xs ys o apart k h one made = tt
stored_more None (Some g) work dir xs ys o apart k h one made = absurd k
stored_more (Some f) (Some g) work dir xs ys o apart k h one made =
    subst (AreStored work g) (sym made) (All-append (λ r. is_stored g work r.digest.0 ≡ true) xs (option_to_list o) (still_stored work dir f g xs apart k h) (at o one))
  where
    at : (o' : Option FileRef) → IfSome o' (λ r. IsTrue (is_stored g work r.digest.0)) → AreStored work g (option_to_list o')
    at None t = All-nil (λ r. is_stored g work r.digest.0 ≡ true)
    at (Some r) t = All-push (λ r'. is_stored g work r'.digest.0 ≡ true) [] r (All-nil (λ r'. is_stored g work r'.digest.0 ≡ true)) t

-- ---- one pattern after another

map_push : {A B : Type 0} (h : A → B) (xs : List A) (x : A) → map h (xs ++ x ∷ []) ≡ map h xs ++ h x ∷ []
map_push h [] x = refl
map_push h (y ∷ xs) x = ap (λ v. h y ∷ v) (map_push h xs x)

all_stay : (pattern : List ℕ) (staged : List FileRef) (names : List (List ℕ)) (left right : Files) → Shows left right → filter_map (file_found right pattern staged) names ≡ filter_map (file_found left pattern staged) names
all_stay pattern staged [] left right k = refl
all_stay pattern staged (n ∷ names) left right k =
    ap (λ o. cons_option o (filter_map (file_found right pattern staged) names)) (file_stays pattern staged n left right k)
    ∙ ap (cons_option (file_found left pattern staged n)) (all_stay pattern staged names left right k)

pub lists_first : (told : Option Files) (dir : List ℕ) (staged : List FileRef) (names patterns : List (List ℕ)) (xs : List (List FileRef)) → xs ≡ [] → IfSome told (λ f. xs ≡ lists_found (folder_of f dir) staged names (take 0 patterns))
lists_first None dir staged names patterns xs e = tt
lists_first (Some f) dir staged names patterns xs e = e

pub lists_more : (told now : Option Files) (work dir : List ℕ) (staged : List FileRef) (names patterns : List (List ℕ)) (i : ℕ) (e : List ℕ) (xs ys : List (List FileRef)) (x : List FileRef) → IsApart work dir → i < length patterns → e ≡ get_or patterns i e
    → Both told now (KeepsOrStores work (scratch_in dir)) → IfSome told (λ f. xs ≡ lists_found (folder_of f dir) staged names (take i patterns)) → IfSome now (λ g. x ≡ filter_map (file_found (folder_of g dir) e staged) names) → ys ≡ xs ++ x ∷ []
    → IfSome told (λ f. ys ≡ lists_found (folder_of f dir) staged names (take (i + 1) patterns))
lists_more None now work dir staged names patterns i e xs ys x apart l is k so found made = tt
lists_more (Some f) None work dir staged names patterns i e xs ys x apart l is k so found made = absurd k
lists_more (Some f) (Some g) work dir staged names patterns i e xs ys x apart l is k so found made =
    made ∙ ap (λ v. v ++ x ∷ []) so ∙ ap (λ v. lists_found (folder_of f dir) staged names (take i patterns) ++ v ∷ []) (found ∙ all_stay e staged names (folder_of f dir) (folder_of g dir) (folder_shows work dir f g apart k))
    ∙ sym (map_push (λ pattern. filter_map (file_found (folder_of f dir) pattern staged) names) (take i patterns) e) ∙ ap (lists_found (folder_of f dir) staged names) (sym (take_more patterns i e l is))

pub lists_all : (told : Option Files) (dir : List ℕ) (staged : List FileRef) (names patterns : List (List ℕ)) (i : ℕ) (xs : List (List FileRef)) → length patterns ≤ i → IfSome told (λ f. xs ≡ lists_found (folder_of f dir) staged names (take i patterns)) → IfSome told (λ f. xs ≡ lists_found (folder_of f dir) staged names patterns)
lists_all None dir staged names patterns i xs l so = tt
lists_all (Some f) dir staged names patterns i xs l so = so ∙ ap (lists_found (folder_of f dir) staged names) (take_all i patterns l)

pub all_stored_first : (now : Option Files) (work : List ℕ) (xs : List (List FileRef)) → xs ≡ [] → IfSome now (λ g. All (AreStored work g) xs)
all_stored_first None work xs e = tt
all_stored_first (Some g) work xs e = subst (λ (v : List (List FileRef)). All (AreStored work g) v) (sym e) (All-nil (AreStored work g))

pub all_stored_more : (now next : Option Files) (work dir : List ℕ) (xs ys : List (List FileRef)) (x : List FileRef) → IsApart work dir → Both now next (KeepsOrStores work (scratch_in dir)) → IfSome now (λ g. All (AreStored work g) xs) → IfSome next (λ g. AreStored work g x) → ys ≡ xs ++ x ∷ [] → IfSome next (λ g. All (AreStored work g) ys)
all_stored_more now None work dir xs ys x apart k h one made = tt
all_stored_more None (Some g) work dir xs ys x apart k h one made = absurd k
all_stored_more (Some f) (Some g) work dir xs ys x apart k h one made =
    subst (λ (v : List (List FileRef)). All (AreStored work g) v) (sym made)
    (All-push (AreStored work g) xs x (All-weaker (AreStored work f) (AreStored work g) (λ r. still_stored work dir f g r apart k) xs h) one)

-- ---- exactly the outputs

-- whether a name is that of an output that may be stored
is_kept : Files → List ℕ → List FileRef → List ℕ → Bool
is_kept left pattern staged name = is_output pattern staged name && is_fit (left name)

-- a file that is found has its name
found_named : (left : Files) (pattern : List ℕ) (staged : List FileRef) (name : List ℕ) → option_map (λ r. r.name) (file_found left pattern staged name) ≡ (if is_kept left pattern staged name then Some name else None)
unfolding is_kept
found_named left pattern staged name = at (is_output pattern staged name) (left name)
  where
    short_or : (b : Bool) (d : Stored) → option_map (λ r. r.name) (ref_of name (if b then Some d else None)) ≡ (if b then Some name else None)
    short_or true d = refl
    short_or false d = refl

    at : (b : Bool) (o : Option (List ℕ)) → option_map (λ r. r.name) (if b then ref_of name (stored_of o) else None) ≡ (if b && is_fit o then Some name else None)
    at true None = refl
    at true (Some c) = short_or (is_short c) (record { digest = record { 0 = sha256 c }; len = length c })
    at false o = refl

kept_names : (left : Files) (pattern : List ℕ) (staged : List FileRef) (names : List (List ℕ)) → map (λ r. r.name) (filter_map (file_found left pattern staged) names) ≡ filter (is_kept left pattern staged) names
kept_names left pattern staged [] = refl
kept_names left pattern staged (n ∷ names) = at (file_found left pattern staged n) (is_kept left pattern staged n) (found_named left pattern staged n) (kept_names left pattern staged names)
  where
    at : (o : Option FileRef) (b : Bool) → option_map (λ r. r.name) o ≡ (if b then Some n else None) → map (λ r. r.name) (filter_map (file_found left pattern staged) names) ≡ filter (is_kept left pattern staged) names → map (λ r. r.name) (cons_option o (filter_map (file_found left pattern staged) names)) ≡ cond b (n ∷ filter (is_kept left pattern staged) names) (filter (is_kept left pattern staged) names)
    at None true e later = absurd (cc)
    at None false e later = later
    at (Some r) true e later = let name : r.name ≡ n = cc in ap (λ v. v ∷ map (λ r. r.name) (filter_map (file_found left pattern staged) names)) name ∙ ap (λ v. n ∷ v) later
    at (Some r) false e later = absurd (cc)

any_name : (files : List FileRef) (name : List ℕ) → is_among files name ≡ list_any (λ n. bytes_eq n name) (map (λ r. r.name) files)
any_name [] name = refl
any_name (r ∷ files) name = ap (λ b. bytes_eq r.name name || b) (any_name files name)

flip : (m n : List ℕ) → bytes_eq m n ≡ bytes_eq n m
flip m n =
    elim (bytes_eq m n) as (λ b. bytes_eq m n ≡ b → b ≡ bytes_eq n m) [
      | true ↦ λ t. sym (ap (λ v. bytes_eq v m) (sym (text_same m n t)) ∙ text_itself m)
      | false ↦ λ f.
          elim (bytes_eq n m) as (λ b. bytes_eq n m ≡ b → false ≡ b) [
            | true ↦ λ t. absurd (true≢false (sym (ap (λ v. bytes_eq m v) (text_same n m t) ∙ text_itself m) ∙ f))
            | false ↦ λ e. refl
          ] refl
    ] refl

-- a name among those that pass a test
any_kept : (t : List ℕ → Bool) (names : List (List ℕ)) (name : List ℕ) → list_any (λ n. bytes_eq n name) (filter t names) ≡ (list_any (bytes_eq name) names && t name)
any_kept t [] name = refl
any_kept t (n ∷ names) name =
    elim (bytes_eq n name) as (λ b. bytes_eq n name ≡ b → list_any (λ n. bytes_eq n name) (cond (t n) (n ∷ filter t names) (filter t names)) ≡ ((bytes_eq name n || list_any (bytes_eq name) names) && t name)) [
      | true ↦ λ e.
          let same : n ≡ name = text_same n name e in
          let back : bytes_eq name n ≡ true = flip name n ∙ e in
          rw back (here (t n) (ap t same) e (any_kept t names name))
      | false ↦ λ e. let back : bytes_eq name n ≡ false = flip name n ∙ e in rw back (past (t n) e (any_kept t names name))
    ] refl
  where
    or_self : (b c : Bool) → c ≡ (b && true) → (b || true) ≡ true
    or_self true c h = refl
    or_self false c h = refl

    there : (b : Bool) → list_any (λ n. bytes_eq n name) (filter t names) ≡ (b && t name) → t name ≡ false → list_any (λ n. bytes_eq n name) (filter t names) ≡ false
    there true h f = h ∙ f
    there false h f = h

    here : (b : Bool) → b ≡ t name → bytes_eq n name ≡ true → list_any (λ n. bytes_eq n name) (filter t names) ≡ (list_any (bytes_eq name) names && t name) → list_any (λ n. bytes_eq n name) (cond b (n ∷ filter t names) (filter t names)) ≡ t name
    here true h e later = rw e h
    here false h e later = there (list_any (bytes_eq name) names) later (sym h) ∙ h

    past : (b : Bool) → bytes_eq n name ≡ false → list_any (λ n. bytes_eq n name) (filter t names) ≡ (list_any (bytes_eq name) names && t name) → list_any (λ n. bytes_eq n name) (cond b (n ∷ filter t names) (filter t names)) ≡ (list_any (bytes_eq name) names && t name)
    past true e later = rw e later
    past false e later = later

-- a listing, but for names with a dot in front
pub record IsShown (left : Files) (names : List (List ℕ)) : Type 0 where
  pub rising : IsStrictlySortedBy (slice_cmp nat_cmp) names
  pub exact : (name : List ℕ) → begins_with_dot name ≡ false → list_any (bytes_eq name) names ≡ (is_name name && is_some (left name))

shown : (f : Files) (dir : List ℕ) (names : List (List ℕ)) (left : Files) → Shows (folder_of f dir) left → IsListing f dir names → IsShown left names
shown f dir names left k z = record {
  rising = z.rising;
  exact = λ name s. z.exact name ∙ ap (λ o. is_name name && is_some o) (sym (k name s));
}

exactly : (left : Files) (pattern : List ℕ) (staged : List FileRef) (names : List (List ℕ)) (name : List ℕ) → IsShown left names → (list_any (bytes_eq name) names && is_kept left pattern staged name) ≡ (is_name name && is_output pattern staged name && is_fit (left name))
unfolding is_kept
exactly left pattern staged names name z =
    elim (begins_with_dot name) as (λ b. begins_with_dot name ≡ b → (list_any (bytes_eq name) names && ((not b && is_matched pattern staged name) && is_fit (left name))) ≡ ((is_name name && (not b && is_matched pattern staged name)) && is_fit (left name))) [
      | true ↦ λ t. hidden (list_any (bytes_eq name) names) (is_name name)
      | false ↦ λ s. ap (λ b. b && (is_matched pattern staged name && is_fit (left name))) (z.exact name s) ∙ grouped (is_name name) (is_matched pattern staged name) (left name)
    ] refl
  where
    hidden : (a b : Bool) → (a && false) ≡ ((b && false) && is_fit (left name))
    hidden true true = refl
    hidden true false = refl
    hidden false true = refl
    hidden false false = refl

    last : (a b : Bool) → ((a && true) && b) ≡ (a && b)
    last true b = refl
    last false b = refl

    none : (a b : Bool) → ((a && false) && (b && false)) ≡ ((a && b) && false)
    none true true = refl
    none true false = refl
    none false b = refl

    some : (a b c : Bool) → ((a && true) && (b && c)) ≡ ((a && b) && c)
    some true b c = refl
    some false b c = refl

    grouped : (a b : Bool) (o : Option (List ℕ)) → ((a && is_some o) && (b && is_fit o)) ≡ ((a && b) && is_fit o)
    grouped a b None = none a b
    grouped a b (Some c) = some a b (is_short c)

-- a file that is found has its bytes
file_bytes : (left : Files) (pattern : List ℕ) (staged : List FileRef) (name : List ℕ) (r : FileRef) → file_found left pattern staged name ≡ Some r → IsFileOf (left r.name) r
file_bytes left pattern staged name r e = at (is_output pattern staged name) (left name) refl e
  where
    of_short : (c : List ℕ) (b : Bool) → left name ≡ Some c → ref_of name (if b then Some (record { digest = record { 0 = sha256 c }; len = length c }) else None) ≡ Some r → IsFileOf (left r.name) r
    of_short c true is h =
        let same : record { name = name; digest = record { 0 = sha256 c }; len = length c } ≡ r = cc in
        subst (λ (v : FileRef). IsFileOf (left v.name) v) same (subst (λ (o : Option (List ℕ)). IsFileOf o (record { name = name; digest = record { 0 = sha256 c }; len = length c })) (sym is) (refl, refl))
    of_short c false is h = absurd (cc)

    at : (b : Bool) (o : Option (List ℕ)) → left name ≡ o → (if b then ref_of name (stored_of o) else None) ≡ Some r → IsFileOf (left r.name) r
    at true None is h = absurd (cc)
    at true (Some c) is h = of_short c (is_short c) is h
    at false o is h = absurd (cc)

all_bytes : (left : Files) (pattern : List ℕ) (staged : List FileRef) (names : List (List ℕ)) → All (λ r. IsFileOf (left r.name) r) (filter_map (file_found left pattern staged) names)
all_bytes left pattern staged [] = All-nil (λ r. IsFileOf (left r.name) r)
all_bytes left pattern staged (n ∷ names) = at (file_found left pattern staged n) refl (all_bytes left pattern staged names)
  where
    at : (o : Option FileRef) → file_found left pattern staged n ≡ o → All (λ r. IsFileOf (left r.name) r) (filter_map (file_found left pattern staged) names) → All (λ r. IsFileOf (left r.name) r) (cons_option o (filter_map (file_found left pattern staged) names))
    at None e later = later
    at (Some r) e later = All-cons (λ r. IsFileOf (left r.name) r) r (filter_map (file_found left pattern staged) names) (file_bytes left pattern staged n r e) later

is_found : (left : Files) (pattern : List ℕ) (staged : List FileRef) (names : List (List ℕ)) → IsShown left names → IsFound left pattern staged (filter_map (file_found left pattern staged) names)
is_found left pattern staged names z = record {
  rising = subst (IsStrictlySortedBy (slice_cmp nat_cmp)) (sym (kept_names left pattern staged names)) (IsStrictlySortedBy-filter (slice_cmp nat_cmp) (is_kept left pattern staged) names z.rising);
  exact = λ name.
      any_name (filter_map (file_found left pattern staged) names) name
      ∙ ap (list_any (λ n. bytes_eq n name)) (kept_names left pattern staged names)
      ∙ any_kept (is_kept left pattern staged) names name
      ∙ exactly left pattern staged names name z;
  bytes = all_bytes left pattern staged names;
}

each_found : (staged : List FileRef) (names patterns : List (List ℕ)) (left right : Files) → Shows left right → IsShown right names → AllZip (λ pattern files. IsFound right pattern staged files) patterns (lists_found left staged names patterns)
each_found staged names [] left right k z = tt
each_found staged names (p ∷ patterns) left right k z = (
  subst (IsFound right p staged) (all_stay p staged names left right k) (is_found right p staged names z),
  each_found staged names patterns left right k z,
)

-- what was found among a folder's names is exactly what such files have
pub all_found : (f : Files) (dir : List ℕ) (p : JobParts) (v : List (List FileRef)) (left : Files) → Shows (folder_of f dir) left → AreFoundIn f dir p v → AllZip (λ pattern files. IsFound left pattern p.staged files) p.patterns v
all_found f dir p v left k h =
    subst (AllZip (λ pattern files. IsFound left pattern p.staged files) p.patterns) (sym h.2) (each_found p.staged h.0 p.patterns (folder_of f dir) left k (shown f dir h.0 left k h.1))

-- the same of the names that were listed before
pub found_told : (told : Option Files) (dir : List ℕ) (p : JobParts) (names : List (List ℕ)) (r : Result (List (List FileRef)) HostRefusal) → IfSome told (λ f. IsListing f dir names) → OkOver told r (λ f v. v ≡ lists_found (folder_of f dir) p.staged names p.patterns) → OkOver told r (λ f. AreFoundIn f dir p)
found_told None dir p names r z so = tt
found_told (Some f) dir p names (Ok v) z so = (names, z, so)
found_told (Some f) dir p names (Err e) z so = tt

-- ---- the names of a folder

no_file_there : (f : Files) (dir : List ℕ) → IsListed f dir None → IsListing f dir []
unfolding IsStrictlySortedBy
no_file_there f dir h = record { rising = tt; exact = λ name. sym (ap (λ o. is_name name && is_some o) (h name) ∙ none (is_name name)) }
  where
    none : (b : Bool) → (b && false) ≡ false
    none true = refl
    none false = refl

pub listing_none : (told : Option Files) (dir : List ℕ) (o : Option (List (List ℕ))) (names : List (List ℕ)) → o ≡ None → names ≡ [] → IfSome told (λ f. IsListed f dir o) → IfSome told (λ f. IsListing f dir names)
listing_none None dir o names none empty h = tt
listing_none (Some f) dir o names none empty h =
    subst (λ (v : List (List ℕ)). IsListing f dir v) (sym empty) (no_file_there f dir (subst (λ (v : Option (List (List ℕ))). IsListed f dir v) none h))
