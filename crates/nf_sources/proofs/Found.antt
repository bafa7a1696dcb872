-- The files of a folder that match a pattern, name by name, and that storing them changes none of them.
use Rattle.std.proofs.Common.{◌≡◌, ℕ, zero, suc, ◌+◌, ◌<◌, ◌≤◌, ◌==◌, ◌/◌, ◌&&◌, ◌||◌, drop, is_some, slice_index, List, [], ◌∷◌, ◌++◌, length, get_or, take, Bool, true, false, All, Option, None, Some, inl, inr, codes, bytes_eq, refl, sym, ap, ◌∙◌, subst, true≢false, add-one, arith}
use Rattle.std.specs.Prelude.{if◌then◌else◌, IfSome, IfErr, IsErrAnd, IsTrue, option_to_list, Result, Ok, Err, Vec}
use Rattle.std.specs.Global.{Global}
use Rattle.std.specs.List.Sorted.{IsStrictlySortedBy}
use Rattle.hex.specs.Hex.{encode_with, lower_digits}
use Rattle.std.specs.List.{filter_map, cons_option, list_any}
use Rattle.std.specs.Str.{chars}
use Rattle.std.proofs.Math.Seq.{take-suc}
use Rattle.std.proofs.lemmas.List.{take_all, take-append-drop, at_drop_more}
use Rattle.std.proofs.lemmas.List.Elements.{All-nil, All-append, All-push, All-weaker, filter_map-append}
use Rattle.sha2.specs.Sha256.{sha256}
use Rattle.nf_value.specs.declared.file.FileRef.{FileRef}
use Rattle.nf_job.specs.JobText.{work_path}
use Rattle.nf_pattern.specs.Glob.{is_match}
use Rattle.nf_host.specs.Files.{Files}
use Rattle.nf_host.specs.Folders.{path_in, is_in, is_name, IsListing, IsListed}
use Rattle.nf_host.specs.Told.{Both}
use Rattle.nf_shell.specs.declared.store.Stored.{Stored}
use Rattle.nf_host.proofs.Paths.{in_folder, one_name, same_name, text_itself, text_same}
use Rattle.nf_shell.specs.Outputs.{AreStored, ref_of, stored_of}
use Rattle.nf_shell.specs.Places.{IsInPlace, KeepsOrStores, StaysOrStored, is_short, is_stored, is_whole, stored_at}
use Rattle.nf_shell.specs.Over.{OkOver}
use Rattle.nf_shell.proofs.Digests.{same_digest}
use Rattle.nf_sources.specs.Sources.{AreFilesOf, AreMatching, IsClear, IsFirstLong, IsLongMatch, IsOutside, IsTaken, NoneLong, OnTooLong, file_at, is_long, is_long_at, scratch_in, store_in}
use Rattle.nf_sources.specs.declared.fault.SourceRefusal.{SourceRefusal}
use Rattle.nf_sources.specs.declared.fault.SourceRefusal.TheVariants.{FileTooLong, Host}

-- ---- what storing leaves of a folder outside of the store

not_inside : (dir name q : List ℕ) → is_in dir q ≡ false → bytes_eq q (path_in dir name) ≡ false
not_inside dir name q out =
    elim (bytes_eq q (path_in dir name)) as (λ b. bytes_eq q (path_in dir name) ≡ b → b ≡ false) [
      | true ↦ λ t. absurd (true≢false (sym (in_folder dir name) ∙ ap (is_in dir) (sym (text_same q (path_in dir name) t)) ∙ out))
      | false ↦ λ f. refl
    ] refl

pub clear_stays : (work folder name : List ℕ) (f g : Files) → IsOutside work (path_in folder name) → KeepsOrStores work (scratch_in work) f g → g (path_in folder name) ≡ f (path_in folder name)
clear_stays work folder name f g clear k = at (k (path_in folder name) (not_inside (store_in work) (codes ".new") (path_in folder name) clear))
  where
    placed : (o : Option (List ℕ)) → IsInPlace work (path_in folder name) o → o ≡ f (path_in folder name)
    placed None z = absurd z
    placed (Some b) z = absurd (true≢false (sym (in_folder (store_in work) (work_path (sha256 b))) ∙ ap (is_in (store_in work)) (sym z.0) ∙ clear))

    at : StaysOrStored work (path_in folder name) (f (path_in folder name)) (g (path_in folder name)) → g (path_in folder name) ≡ f (path_in folder name)
    at (inl e) = e
    at (inr z) = placed (g (path_in folder name)) z

file_stays : (work folder pattern name : List ℕ) (f g : Files) → IsOutside work (path_in folder name) → KeepsOrStores work (scratch_in work) f g → file_at g folder pattern name ≡ file_at f folder pattern name
file_stays work folder pattern name f g clear k =
    ap (λ o. if is_match (chars pattern) (chars name) then ref_of name (stored_of o) else None) (clear_stays work folder name f g clear k)

-- ---- one name after another

as_list : (h : List ℕ → Option FileRef) (e : List ℕ) → filter_map h (e ∷ []) ≡ option_to_list (h e)
as_list h e = at (h e)
  where
    at : (o : Option FileRef) → cons_option o [] ≡ option_to_list o
    at None = refl
    at (Some r) = refl

take_more : {A : Type 0} (xs : List A) (i : ℕ) (e : A) → i < length xs → e ≡ get_or xs i e → take (i + 1) xs ≡ take i xs ++ e ∷ []
take_more xs i e l is = ap (λ k. take k xs) (add-one i) ∙ take-suc xs i e l ∙ ap (λ r. take i xs ++ r ∷ []) (sym is)

pushed : (h : List ℕ → Option FileRef) (names : List (List ℕ)) (i : ℕ) (e : List ℕ) (xs ys : List FileRef) (o : Option FileRef) → i < length names → e ≡ get_or names i e → xs ≡ filter_map h (take i names) → o ≡ h e → ys ≡ xs ++ option_to_list o → ys ≡ filter_map h (take (i + 1) names)
pushed h names i e xs ys o l is so found made =
    made ∙ ap (λ v. v ++ option_to_list o) so ∙ ap (λ v. filter_map h (take i names) ++ option_to_list v) found
    ∙ ap (λ v. filter_map h (take i names) ++ v) (sym (as_list h e)) ∙ sym (filter_map-append h (take i names) (e ∷ [])) ∙ ap (filter_map h) (sym (take_more names i e l is))

long_stays : (work folder pattern name : List ℕ) (f g : Files) → IsOutside work (path_in folder name) → KeepsOrStores work (scratch_in work) f g → is_long_at g folder pattern name ≡ is_long_at f folder pattern name
long_stays work folder pattern name f g clear k =
    ap (λ o. is_match (chars pattern) (chars name) && is_long o) (clear_stays work folder name f g clear k)

short_more : (f : Files) (folder pattern : List ℕ) (names : List (List ℕ)) (i : ℕ) (e : List ℕ) → i < length names → e ≡ get_or names i e → NoneLong f folder pattern (take i names) → is_long_at f folder pattern e ≡ false → NoneLong f folder pattern (take (i + 1) names)
short_more f folder pattern names i e l is all one =
    subst (NoneLong f folder pattern) (sym (take_more names i e l is)) (All-push (λ n. is_long_at f folder pattern n ≡ false) (take i names) e all one)

-- what one more file says, over the files that it was found in
abbrev pub IsNext : Files → List ℕ → List ℕ → List ℕ → Option FileRef → Type 0
IsNext g folder pattern e o = (o ≡ file_at g folder pattern e) × (is_long_at g folder pattern e ≡ false)

pub content_first : (told : Option Files) (folder pattern : List ℕ) (names : List (List ℕ)) (xs : List FileRef) → xs ≡ [] → IfSome told (λ f. AreFilesOf f folder pattern (take 0 names) xs)
content_first None folder pattern names xs e = tt
content_first (Some f) folder pattern names xs e = record { are = e; short = All-nil (λ n. is_long_at f folder pattern n ≡ false) }

pub content_more : (told now : Option Files) (work folder pattern : List ℕ) (names : List (List ℕ)) (i : ℕ) (e : List ℕ) (xs ys : List FileRef) (o : Option FileRef) → i < length names → e ≡ get_or names i e
    → Both told now (KeepsOrStores work (scratch_in work)) → ys ≡ xs ++ option_to_list o → IsOutside work (path_in folder e)
    → IfSome told (λ f. AreFilesOf f folder pattern (take i names) xs) → IfSome now (λ g. IsNext g folder pattern e o)
    → IfSome told (λ f. AreFilesOf f folder pattern (take (i + 1) names) ys)
content_more None now work folder pattern names i e xs ys o l is k made clear so found = tt
content_more (Some f) None work folder pattern names i e xs ys o l is k made clear so found = absurd k
content_more (Some f) (Some g) work folder pattern names i e xs ys o l is k made clear so found = record {
  are = pushed (file_at f folder pattern) names i e xs ys o l is so.are (found.0 ∙ file_stays work folder pattern e f g clear k) made;
  short = short_more f folder pattern names i e l is so.short (sym (long_stays work folder pattern e f g clear k) ∙ found.1);
}

pub content_all : (told : Option Files) (folder pattern : List ℕ) (names : List (List ℕ)) (i : ℕ) (xs : List FileRef) → length names ≤ i → IfSome told (λ f. AreFilesOf f folder pattern (take i names) xs) → IfSome told (λ f. AreFilesOf f folder pattern names xs)
content_all None folder pattern names i xs l so = tt
content_all (Some f) folder pattern names i xs l so =
    subst (λ (v : List (List ℕ)). AreFilesOf f folder pattern v xs) (take_all i names l) so

-- names up to one, that one, and those after it
split_at : {A : Type 0} (xs : List A) (i : ℕ) (e : A) → i < length xs → e ≡ get_or xs i e → xs ≡ take i xs ++ e ∷ drop (i + 1) xs
split_at xs i e l is =
    sym (take-append-drop i xs) ∙ ap (λ r. take i xs ++ r) (at_drop_more (λ r. r) xs i e l ∙ ap (λ x. x ∷ drop (i + 1) xs) (sym is))

-- a file that is too long, after others that aren't
pub long_first : (told now : Option Files) (work folder pattern : List ℕ) (names : List (List ℕ)) (i : ℕ) (e : List ℕ) (xs : List FileRef) (r : SourceRefusal) → i < length names → e ≡ get_or names i e
    → Both told now (KeepsOrStores work (scratch_in work)) → IsOutside work (path_in folder e)
    → IfSome told (λ f. AreFilesOf f folder pattern (take i names) xs)
    → OnTooLong r (λ path. (path ≡ path_in folder e) × IfSome now (λ g. is_long_at g folder pattern e ≡ true))
    → OnTooLong r (λ path. IfSome told (λ f. IsFirstLong f folder pattern names path))
long_first told now work folder pattern names i e xs (Host h) l is k clear so long = tt
long_first None now work folder pattern names i e xs (FileTooLong p) l is k clear so long = tt
long_first (Some f) None work folder pattern names i e xs (FileTooLong p) l is k clear so long = absurd k
long_first (Some f) (Some g) work folder pattern names i e xs (FileTooLong p) l is k clear so long = record {
  before = take i names;
  name = e;
  later = drop (i + 1) names;
  split = split_at names i e l is;
  short = so.short;
  long = sym (long_stays work folder pattern e f g clear k) ∙ long.1;
  is = long.0;
}

-- ---- what is stored stays stored

no_dot : (n : ℕ) → (slice_index lower_digits n == 46) ≡ false
no_dot zero = refl
no_dot (suc zero) = refl
no_dot (suc (suc zero)) = refl
no_dot (suc (suc (suc zero))) = refl
no_dot (suc (suc (suc (suc zero)))) = refl
no_dot (suc (suc (suc (suc (suc zero))))) = refl
no_dot (suc (suc (suc (suc (suc (suc zero)))))) = refl
no_dot (suc (suc (suc (suc (suc (suc (suc zero))))))) = refl
no_dot (suc (suc (suc (suc (suc (suc (suc (suc zero)))))))) = refl
no_dot (suc (suc (suc (suc (suc (suc (suc (suc (suc zero))))))))) = refl
no_dot (suc (suc (suc (suc (suc (suc (suc (suc (suc (suc zero)))))))))) = refl
no_dot (suc (suc (suc (suc (suc (suc (suc (suc (suc (suc (suc zero))))))))))) = refl
no_dot (suc (suc (suc (suc (suc (suc (suc (suc (suc (suc (suc (suc zero)))))))))))) = refl
no_dot (suc (suc (suc (suc (suc (suc (suc (suc (suc (suc (suc (suc (suc zero))))))))))))) = refl
no_dot (suc (suc (suc (suc (suc (suc (suc (suc (suc (suc (suc (suc (suc (suc zero)))))))))))))) = refl
no_dot (suc (suc (suc (suc (suc (suc (suc (suc (suc (suc (suc (suc (suc (suc (suc zero))))))))))))))) = refl
no_dot (suc (suc (suc (suc (suc (suc (suc (suc (suc (suc (suc (suc (suc (suc (suc (suc n)))))))))))))))) = refl

-- no file of the store stands where files are copied before they are stored
dotless : (d s : List ℕ) → bytes_eq (work_path d) (46 ∷ s) ≡ false
unfolding encode_with
dotless [] s = refl
dotless (x ∷ d) s = rw (no_dot (x / 16)) refl

not_scratch : (work d : List ℕ) → bytes_eq (stored_at work d) (scratch_in work) ≡ false
not_scratch work d = same_name (store_in work) (work_path d) (codes ".new") ∙ dotless d (drop 1 (codes ".new"))

and_true : (b : Bool) → (b && true) ≡ b
and_true true = refl
and_true false = refl

and_left : (a b : Bool) → (a && b) ≡ true → a ≡ true
and_left true b h = refl
and_left false b h = h

place_of : (w a b : List ℕ) → stored_at w (sha256 a) ≡ stored_at w (sha256 b) → sha256 a ≡ sha256 b
place_of w a b e = same_digest a b (one_name (store_in w) (work_path (sha256 a)) (work_path (sha256 b)) e)

still_whole : (w d : List ℕ) (a b : Option (List ℕ)) → StaysOrStored w (stored_at w d) a b → is_whole d a ≡ true → is_whole d b ≡ true
still_whole w d a b (inl e) h = ap (is_whole d) e ∙ h
still_whole w d a None (inr z) h = absurd z
still_whole w d None (Some c) (inr z) h = absurd (true≢false (sym h))
still_whole w d (Some x) (Some c) (inr z) h =
    let was : sha256 x ≡ d = text_same (sha256 x) d (and_left (bytes_eq (sha256 x) d) (is_short x) h) in
    let is : sha256 x ≡ sha256 c = place_of w x c (ap (stored_at w) was ∙ z.0) in
    ap (λ v. bytes_eq (sha256 c) d && v) z.1 ∙ and_true (bytes_eq (sha256 c) d) ∙ ap (λ v. bytes_eq v d) (sym is ∙ was) ∙ text_itself d

whole_stays : (work d : List ℕ) (f g : Files) → KeepsOrStores work (scratch_in work) f g → is_stored f work d ≡ true → is_stored g work d ≡ true
whole_stays work d f g k h = still_whole work d (f (stored_at work d)) (g (stored_at work d)) (k (stored_at work d) (not_scratch work d)) h

still_stored : (work : List ℕ) (f g : Files) (xs : List FileRef) → KeepsOrStores work (scratch_in work) f g → AreStored work f xs → AreStored work g xs
still_stored work f g xs k h =
    All-weaker (λ r. is_stored f work r.digest.0 ≡ true) (λ r. is_stored g work r.digest.0 ≡ true) (λ r. whole_stays work r.digest.0 f g k) xs h

pub stored_first : (now : Option Files) (work : List ℕ) (xs : List FileRef) → xs ≡ [] → IfSome now (λ g. AreStored work g xs)
stored_first None work xs e = tt
stored_first (Some g) work xs e = subst (λ (v : List FileRef). AreStored work g v) (sym e) (All-nil (λ r. is_stored g work r.digest.0 ≡ true))

pub stored_more : (now next : Option Files) (work : List ℕ) (xs ys : List FileRef) (o : Option FileRef) → Both now next (KeepsOrStores work (scratch_in work)) → IfSome now (λ g. AreStored work g xs) → IfSome next (λ g. IfSome o (λ r. IsTrue (is_stored g work r.digest.0))) → ys ≡ xs ++ option_to_list o → IfSome next (λ g. AreStored work g ys)
stored_more now None work xs ys o k h one made = tt
stored_more None (Some g) work xs ys o k h one made = absurd k
stored_more (Some f) (Some g) work xs ys o k h one made =
    subst (AreStored work g) (sym made) (All-append (λ r. is_stored g work r.digest.0 ≡ true) xs (option_to_list o) (still_stored work f g xs k h) (at o one))
  where
    at : (o' : Option FileRef) → IfSome o' (λ r. IsTrue (is_stored g work r.digest.0)) → AreStored work g (option_to_list o')
    at None t = All-nil (λ r. is_stored g work r.digest.0 ≡ true)
    at (Some r) t = All-push (λ r'. is_stored g work r'.digest.0 ≡ true) [] r (All-nil (λ r'. is_stored g work r'.digest.0 ≡ true)) t

-- ---- a folder's names

no_file_there : (f : Files) (dir : List ℕ) → IsListed f dir None → IsListing f dir []
unfolding IsStrictlySortedBy
no_file_there f dir h = record { rising = tt; exact = λ name. sym (ap (λ o. is_name name && is_some o) (h name) ∙ none (is_name name)) }
  where
    none : (b : Bool) → (b && false) ≡ false
    none true = refl
    none false = refl

among : (names : List (List ℕ)) (k : ℕ) (d : List ℕ) → k < length names → list_any (bytes_eq (get_or names k d)) names ≡ true
among [] k d lt = absurd (omega arith)
among (x ∷ xs) zero d lt = rw (text_itself x) refl
among (x ∷ xs) (suc k) d lt = or_right (bytes_eq (get_or xs k d) x) (list_any (bytes_eq (get_or xs k d)) xs) (among xs k d (omega (arith, lt)))
  where
    or_right : (a b : Bool) → b ≡ true → (a || b) ≡ true
    or_right true b h = refl
    or_right false b h = h

-- all that a folder lists are names
names_listed : (f : Files) (dir : List ℕ) (names : List (List ℕ)) → IsListing f dir names → All (λ n. is_name n ≡ true) names
names_listed f dir names z = λ k d lt. and_left (is_name (get_or names k d)) (is_some (f (path_in dir (get_or names k d)))) (sym (z.exact (get_or names k d)) ∙ among names k d lt)

-- what holds over the files of a listing holds if they are told
pub over_listed : (told : Option Files) (work folder : List ℕ) (names : List (List ℕ)) → IsClear work folder → IfSome told (λ f. IsListing f folder names) → (P : Files → Type 0)
    → (All (λ n. IsOutside work (path_in folder n)) names → IfSome told P) → IfSome told P
over_listed None work folder names clear z P h = tt
over_listed (Some f) work folder names clear z P h =
    h (All-weaker (λ n. is_name n ≡ true) (λ n. IsOutside work (path_in folder n)) clear names (names_listed f folder names z))

pub refused_listed : (told : Option Files) (work folder pattern : List ℕ) (names : List (List ℕ)) (r : Result (Vec FileRef Global) SourceRefusal) → IsClear work folder → IfSome told (λ f. IsListing f folder names)
    → (All (λ n. IsOutside work (path_in folder n)) names → IfErr r (λ e. OnTooLong e (λ path. IfSome told (λ f. IsFirstLong f folder pattern names path)))) → IfErr r (λ e. OnTooLong e (λ path. IfSome told (λ f. IsFirstLong f folder pattern names path)))
refused_listed None work folder pattern names (Ok v) clear z h = tt
refused_listed None work folder pattern names (Err (Host e)) clear z h = tt
refused_listed None work folder pattern names (Err (FileTooLong p)) clear z h = tt
refused_listed (Some f) work folder pattern names r clear z h =
    h (All-weaker (λ n. is_name n ≡ true) (λ n. IsOutside work (path_in folder n)) clear names (names_listed f folder names z))

pub listing_none : (told : Option Files) (dir : List ℕ) (o : Option (List (List ℕ))) (names : List (List ℕ)) → o ≡ None → names ≡ [] → IfSome told (λ f. IsListed f dir o) → IfSome told (λ f. IsListing f dir names)
listing_none None dir o names none empty h = tt
listing_none (Some f) dir o names none empty h =
    subst (λ (v : List (List ℕ)). IsListing f dir v) (sym empty) (no_file_there f dir (subst (λ (v : Option (List (List ℕ))). IsListed f dir v) none h))

pub matching_told : (told : Option Files) (folder pattern : List ℕ) (names : List (List ℕ)) (r : Result (Vec FileRef Global) SourceRefusal) → IfSome told (λ f. IsListing f folder names)
    → OkOver told r (λ f v. AreFilesOf f folder pattern names v.items) → OkOver told r (λ f v. AreMatching f folder pattern v.items)
matching_told None folder pattern names r z so = tt
matching_told (Some f) folder pattern names (Ok v) z so = (names, z, so)
matching_told (Some f) folder pattern names (Err e) z so = tt

long_told : (told : Option Files) (folder pattern : List ℕ) (names : List (List ℕ)) (e : SourceRefusal) → IfSome told (λ f. IsListing f folder names)
    → OnTooLong e (λ path. IfSome told (λ f. IsFirstLong f folder pattern names path)) → OnTooLong e (λ path. IfSome told (λ f. IsLongMatch f folder pattern path))
long_told told folder pattern names (Host h) z long = tt
long_told None folder pattern names (FileTooLong p) z long = tt
long_told (Some f) folder pattern names (FileTooLong p) z long = (names, z, long)

pub refused_told : (told : Option Files) (folder pattern : List ℕ) (names : List (List ℕ)) (r : Result (Vec FileRef Global) SourceRefusal) → IfSome told (λ f. IsListing f folder names)
    → IfErr r (λ e. OnTooLong e (λ path. IfSome told (λ f. IsFirstLong f folder pattern names path))) → IfErr r (λ e. OnTooLong e (λ path. IfSome told (λ f. IsLongMatch f folder pattern path)))
refused_told told folder pattern names (Ok v) z long = tt
refused_told told folder pattern names (Err e) z long = long_told told folder pattern names e z long

-- ---- one file

on_told : (told : Option Files) (P Q : Files → Type 0) → ((f : Files) → P f → Q f) → IfSome told P → IfSome told Q
on_told None P Q step h = tt
on_told (Some f) P Q step h = step f h

-- what was taken of the file of a name that matches
pub file_taken : (told : Option Files) (work folder pattern name path : List ℕ) (o : Option Stored) (r : Option FileRef) → path ≡ path_in folder name → is_match (chars pattern) (chars name) ≡ true → r ≡ ref_of name o
    → (bytes_eq path (scratch_in work) ≡ false → IfSome told (λ f. IsTaken (f path) o)) → IsOutside work (path_in folder name)
    → IfSome told (λ f. (r ≡ file_at f folder pattern name) × (is_long_at f folder pattern name ≡ false))
file_taken told work folder pattern name path o r is matched made taken clear =
    let other : bytes_eq path (scratch_in work) ≡ false = ap (λ p. bytes_eq p (scratch_in work)) is ∙ not_inside (store_in work) (codes ".new") (path_in folder name) clear in
    on_told told (λ f. IsTaken (f path) o) (λ f. (r ≡ file_at f folder pattern name) × (is_long_at f folder pattern name ≡ false)) (λ f z. (
      made ∙ ap (ref_of name) (z.0 ∙ ap (λ p. stored_of (f p)) is) ∙ sym (ap (λ b. if b then ref_of name (stored_of (f (path_in folder name))) else None) matched),
      ap (λ b. b && is_long (f (path_in folder name))) matched ∙ ap (λ p. is_long (f p)) (sym is) ∙ z.1,
    )) (taken other)

-- what a `?` hands on
pub err_is : {T E : Type 0} (r : Result T E) (e : E) → IsErrAnd r (λ x. x ≡ e) → r ≡ Err e
err_is (Ok x) e h = absurd h
err_is (Err x) e h = λ i. Err (h i)
