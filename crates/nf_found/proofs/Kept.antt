-- What is found of a path that leads to no file of the store stays as it was, however files are stored.
use Rattle.std.proofs.Common.{◌≡◌, ℕ, zero, suc, ◌<◌, ◌&&◌, ◌||◌, is_some, List, [], ◌∷◌, ◌++◌, length, get_or, Bool, true, false, All, Option, None, Some, codes, bytes_eq, refl, sym, ap, ◌∙◌, subst, true≢false, arith}
use Rattle.std.specs.Prelude.{if◌then◌else◌, IfSome, MatchBool}
use Rattle.std.specs.List.{filter_map, cons_option, list_any}
use Rattle.std.specs.Str.{chars}
use Rattle.std.proofs.lemmas.List.Elements.{All-nil, All-cons, All-head, All-tail}
use Rattle.nf_value.specs.declared.file.FileRef.{FileRef}
use Rattle.nf_pattern.specs.Glob.{is_match}
use Rattle.nf_host.specs.Files.{Files}
use Rattle.nf_host.specs.Folders.{path_in, is_in, is_name, IsListing}
use Rattle.nf_host.specs.Told.{Both}
use Rattle.nf_host.proofs.Paths.{in_folder, text_itself, text_same}
use Rattle.nf_shell.specs.Outputs.{ref_of, stored_of}
use Rattle.nf_shell.specs.Places.{KeepsOrStores}
use Rattle.nf_sources.specs.Sources.{AreMatching, IsClear, IsLongMatch, IsOutside, IsTaken, NoneLong, file_at, folder_at, is_long, is_long_at, scratch_in, store_in, stored_as}
use Rattle.nf_sources.proofs.Found.{clear_stays}
use Rattle.nf_found.specs.Found.{AreFound, IsApart, IsFileAt, IsFirstLongAt, IsLongOf, is_literal, last_of}

-- the path at which a source is copied before it is stored is one of the store
pub not_scratch : (work path : List ℕ) → IsOutside work path → bytes_eq path (scratch_in work) ≡ false
not_scratch work path out =
    elim (bytes_eq path (scratch_in work)) as (λ b. bytes_eq path (scratch_in work) ≡ b → b ≡ false) [
      | true ↦ λ t. absurd (true≢false (sym (in_folder (store_in work) (codes ".new")) ∙ ap (is_in (store_in work)) (sym (text_same path (scratch_in work) t)) ∙ out))
      | false ↦ λ f. refl
    ] refl

-- ---- the names of a folder

and_left : (a b : Bool) → (a && b) ≡ true → a ≡ true
and_left true b h = refl
and_left false b h = h

or_right : (a b : Bool) → b ≡ true → (a || b) ≡ true
or_right true b h = refl
or_right false b h = h

among : (names : List (List ℕ)) (k : ℕ) (d : List ℕ) → k < length names → list_any (bytes_eq (get_or names k d)) names ≡ true
among [] k d lt = absurd (omega arith)
among (x ∷ xs) zero d lt = rw (text_itself x) refl
among (x ∷ xs) (suc k) d lt = or_right (bytes_eq (get_or xs k d) x) (list_any (bytes_eq (get_or xs k d)) xs) (among xs k d (omega (arith, lt)))

-- all that a folder lists are names
names_listed : (f : Files) (dir : List ℕ) (names : List (List ℕ)) → IsListing f dir names → All (λ n. is_name n ≡ true) names
names_listed f dir names z = λ k d lt. and_left (is_name (get_or names k d)) (is_some (f (path_in dir (get_or names k d)))) (sym (z.exact (get_or names k d)) ∙ among names k d lt)

-- ---- parts of a list

front : {A : Type 0} (P : A → Type 0) (xs ys : List A) → All P (xs ++ ys) → All P xs
front P [] ys h = All-nil P
front P (x ∷ xs) ys h = All-cons P x xs (All-head P x (xs ++ ys) h) (front P xs ys (All-tail P x (xs ++ ys) h))

middle : {A : Type 0} (P : A → Type 0) (xs : List A) (y : A) (ys : List A) → All P (xs ++ y ∷ ys) → P y
middle P [] y ys h = All-head P y ys h
middle P (x ∷ xs) y ys h = middle P xs y ys (All-tail P x (xs ++ y ∷ ys) h)

-- ---- a folder that isn't in the store

module _ (work folder : List ℕ) (f g : Files) (clear : IsClear work folder) (k : KeepsOrStores work (scratch_in work) f g) where
  same_file : (name : List ℕ) → is_name name ≡ true → g (path_in folder name) ≡ f (path_in folder name)
  same_file name named = clear_stays work folder name f g (clear name named) k

  listing_back : (names : List (List ℕ)) → IsListing g folder names → IsListing f folder names
  listing_back names z = record { rising = z.rising; exact = λ name. z.exact name ∙ at name (is_name name) refl }
    where
      at : (name : List ℕ) (b : Bool) → is_name name ≡ b → (b && is_some (g (path_in folder name))) ≡ (b && is_some (f (path_in folder name)))
      at name true e = ap is_some (same_file name e)
      at name false e = refl

  file_back : (pattern name : List ℕ) → is_name name ≡ true → file_at g folder pattern name ≡ file_at f folder pattern name
  file_back pattern name named = ap (λ o. if is_match (chars pattern) (chars name) then ref_of name (stored_of o) else None) (same_file name named)

  long_back : (pattern name : List ℕ) → is_name name ≡ true → is_long_at g folder pattern name ≡ is_long_at f folder pattern name
  long_back pattern name named = ap (λ o. is_match (chars pattern) (chars name) && is_long o) (same_file name named)

  files_back : (pattern : List ℕ) (names : List (List ℕ)) → All (λ n. is_name n ≡ true) names → filter_map (file_at g folder pattern) names ≡ filter_map (file_at f folder pattern) names
  files_back pattern [] named = refl
  files_back pattern (x ∷ xs) named =
      ap (λ o. cons_option o (filter_map (file_at g folder pattern) xs)) (file_back pattern x (All-head (λ n. is_name n ≡ true) x xs named))
      ∙ ap (cons_option (file_at f folder pattern x)) (files_back pattern xs (All-tail (λ n. is_name n ≡ true) x xs named))

  short_back : (pattern : List ℕ) (names : List (List ℕ)) → All (λ n. is_name n ≡ true) names → NoneLong g folder pattern names → NoneLong f folder pattern names
  short_back pattern names named short = λ i d lt. sym (long_back pattern (get_or names i d) (named i d lt)) ∙ short i d lt

  matching_back : (pattern : List ℕ) (files : List FileRef) → AreMatching g folder pattern files → AreMatching f folder pattern files
  matching_back pattern files z =
      let named = names_listed g folder z.0 z.1 in (
        z.0,
        listing_back z.0 z.1,
        record { are = z.2.are ∙ files_back pattern z.0 named; short = short_back pattern z.0 named z.2.short },
      )

  long_match_back : (pattern path : List ℕ) → IsLongMatch g folder pattern path → IsLongMatch f folder pattern path
  long_match_back pattern path z =
      let first = z.2 in
      let named : All (λ n. is_name n ≡ true) (first.before ++ first.name ∷ first.later) = subst (λ (v : List (List ℕ)). All (λ n. is_name n ≡ true) v) first.split (names_listed g folder z.0 z.1) in (
        z.0,
        listing_back z.0 z.1,
        record {
          before = first.before;
          name = first.name;
          later = first.later;
          split = first.split;
          short = short_back pattern first.before (front (λ n. is_name n ≡ true) first.before (first.name ∷ first.later) named) first.short;
          long = sym (long_back pattern first.name (middle (λ n. is_name n ≡ true) first.before first.name first.later named)) ∙ first.long;
          is = first.is;
        },
      )

-- ---- a path

module _ (work path : List ℕ) (f g : Files) (k : KeepsOrStores work (scratch_in work) f g) where
  outside_same : IsOutside work path → g path ≡ f path
  outside_same out = clear_stays work [] path f g out k

  one_back : (files : List FileRef) → IsOutside work path → IsFileAt g path files → IsFileAt f path files
  one_back [] out z = sym (outside_same out) ∙ z
  one_back (r ∷ []) out z = (subst (λ (o : Option (List ℕ)). IsTaken o (Some (stored_as r))) (outside_same out) z.0, z.1)
  one_back (r ∷ s ∷ more) out z = absurd z

  found_back : (files : List FileRef) → IsApart work path → AreFound g path files → AreFound f path files
  found_back files apart z = at (is_literal path) apart z
    where
      at : (b : Bool) → MatchBool b (IsOutside work path) (IsClear work (folder_at path)) → MatchBool b (IsFileAt g path files) (AreMatching g (folder_at path) (last_of path) files)
          → MatchBool b (IsFileAt f path files) (AreMatching f (folder_at path) (last_of path) files)
      at true out y = one_back files out y
      at false clear y = matching_back work (folder_at path) f g clear k (last_of path) files y

  first_long_back : (long : List ℕ) → IsApart work path → IsFirstLongAt g path long → IsFirstLongAt f path long
  first_long_back long apart z = at (is_literal path) apart z
    where
      at : (b : Bool) → MatchBool b (IsOutside work path) (IsClear work (folder_at path)) → MatchBool b ((long ≡ path) × (is_long (g path) ≡ true)) (IsLongMatch g (folder_at path) (last_of path) long)
          → MatchBool b ((long ≡ path) × (is_long (f path) ≡ true)) (IsLongMatch f (folder_at path) (last_of path) long)
      at true out y = (y.0, ap is_long (sym (outside_same out)) ∙ y.1)
      at false clear y = long_match_back work (folder_at path) f g clear k (last_of path) long y

-- ---- over what a host tells

pub told_found : (told now : Option Files) (work path : List ℕ) (files : List FileRef) → Both told now (KeepsOrStores work (scratch_in work)) → IsApart work path
    → IfSome now (λ g. AreFound g path files) → IfSome told (λ f. AreFound f path files)
told_found None None work path files k apart z = tt
told_found None (Some g) work path files k apart z = absurd k
told_found (Some f) None work path files k apart z = absurd k
told_found (Some f) (Some g) work path files k apart z = found_back work path f g k files apart z

pub told_long : (told now : Option Files) (work path long : List ℕ) → Both told now (KeepsOrStores work (scratch_in work)) → IsApart work path → IsLongOf now path long → IsLongOf told path long
told_long None None work path long k apart z = tt
told_long None (Some g) work path long k apart z = absurd k
told_long (Some f) None work path long k apart z = absurd k
told_long (Some f) (Some g) work path long k apart z = first_long_back work path f g k long apart z
