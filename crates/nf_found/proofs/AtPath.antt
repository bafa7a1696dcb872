-- The files at one path: that of a path without a pattern, and those that match one.
use Rattle.std.proofs.Common.{◌≡◌, ℕ, List, [], length, Bool, true, false, not, Option, None, Some, bytes_eq, refl, sym, ap, ◌∙◌, subst, true≢false}
use Rattle.std.specs.Prelude.{if◌then◌else◌, IfSome, IfErr, IsTrue, MatchBool, Result, Ok, Err, Vec, option_map, option_to_list}
use Rattle.std.specs.Global.{Global}
use Rattle.std.specs.Str.{chars, encode_utf8_all, IsUtf8}
use Rattle.std.proofs.lemmas.List.Elements.{All-nil}
use Rattle.std.proofs.lemmas.Str.{encodes-chars}
use Rattle.sha2.specs.Sha256.{sha256}
use Rattle.nf_value.specs.declared.file.FileRef.{FileRef}
use Rattle.nf_paths.specs.Paths.{name_at}
use Rattle.nf_host.specs.Files.{Files}
use Rattle.nf_shell.proofs.Stores.{stores_all}
use Rattle.nf_shell.specs.declared.store.Stored.{Stored}
use Rattle.nf_shell.specs.Outputs.{AreStored}
use Rattle.nf_shell.specs.Over.{OkOver}
use Rattle.nf_shell.specs.Places.{is_short, is_stored}
use Rattle.nf_sources.specs.Sources.{AreMatching, IsClear, IsLongAt, IsLongMatch, IsOutside, IsTaken, OnTooLong, folder_at, is_long, scratch_in, stored_as}
use Rattle.nf_sources.specs.declared.fault.SourceRefusal.{SourceRefusal}
use Rattle.nf_sources.specs.declared.fault.SourceRefusal.TheVariants as source
use Rattle.nf_sources.proofs.Found.{stored_more}
use Rattle.nf_found.specs.Found.{AreFound, IsApart, IsFileAt, IsLongOf, is_literal, last_of}
use Rattle.nf_found.proofs.Kept.{not_scratch}

-- ---- cases

if_true : (b : Bool) (P Q : Type 0) → b ≡ true → P → MatchBool b P Q
if_true true P Q e p = p
if_true false P Q e p = absurd (true≢false (sym e))

if_false : (b : Bool) (P Q : Type 0) → b ≡ false → Q → MatchBool b P Q
if_false true P Q e q = absurd (true≢false e)
if_false false P Q e q = q

of_true : (b : Bool) (P Q : Type 0) → b ≡ true → MatchBool b P Q → P
of_true true P Q e h = h
of_true false P Q e h = absurd (true≢false (sym e))

of_false : (b : Bool) (P Q : Type 0) → b ≡ false → MatchBool b P Q → Q
of_false true P Q e h = absurd (true≢false e)
of_false false P Q e h = h

over_ok : {T E : Type 0} (told : Option Files) (r : Result T E) (P Q : Files → T → Type 0) → ((f : Files) (x : T) → P f x → Q f x) → OkOver told r P → OkOver told r Q
over_ok None r P Q step h = tt
over_ok (Some f) (Ok x) P Q step h = step f x h
over_ok (Some f) (Err e) P Q step h = tt

-- ---- a path without a pattern

taken_none : (file : Option (List ℕ)) → IsTaken file None → file ≡ None
taken_none None z = refl
taken_none (Some b) z = absurd (at (is_short b) (record { digest = record { 0 = sha256 b }; len = length b }) z.0 z.1)
  where
    at : (s : Bool) (d : Stored) → None ≡ (if s then Some d else None) → not s ≡ false → ⊥
    at true d e h = absurd (cc)
    at false d e h = true≢false h

one_file : (f : Files) (path : List ℕ) (o : Option FileRef) → IsTaken (f path) (option_map stored_as o) → IfSome o (λ r. chars r.name ≡ name_at (chars path)) → IsFileAt f path (option_to_list o)
one_file f path None z named = taken_none (f path) z
one_file f path (Some r) z named = (z, named)

-- the file that was read at a path, as a list
pub file_there : (told : Option Files) (work path : List ℕ) (o : Option FileRef) (xs : List FileRef) → xs ≡ option_to_list o → (bytes_eq path (scratch_in work) ≡ false → IfSome told (λ f. IsTaken (f path) (option_map stored_as o)))
    → IfSome o (λ r. chars r.name ≡ name_at (chars path)) → IsOutside work path → IfSome told (λ f. IsFileAt f path xs)
file_there None work path o xs is z named out = tt
file_there (Some f) work path o xs is z named out =
    subst (λ (v : List FileRef). IsFileAt f path v) (sym is) (one_file f path o (z (not_scratch work path out)) named)

pub file_stored : (now : Option Files) (work : List ℕ) (o : Option FileRef) (xs : List FileRef) → xs ≡ option_to_list o → IfSome now (λ g. IfSome o (λ r. IsTrue (is_stored g work r.digest.0))) → IfSome now (λ g. AreStored work g xs)
file_stored None work o xs is h = tt
file_stored (Some g) work o xs is h =
    stored_more (Some g) (Some g) work [] xs o (stores_all work (scratch_in work) g) (All-nil (λ r. is_stored g work r.digest.0 ≡ true)) h is

pub literal_found : (told : Option Files) (work path : List ℕ) (r : Result (Vec FileRef Global) SourceRefusal) → is_literal path ≡ true → (IsOutside work path → OkOver told r (λ f v. IsFileAt f path v.items))
    → IsApart work path → OkOver told r (λ f v. AreFound f path v.items)
literal_found told work path r is h apart =
    over_ok told r (λ f v. IsFileAt f path v.items) (λ f v. AreFound f path v.items)
    (λ f v z. if_true (is_literal path) (IsFileAt f path v.items) (AreMatching f (folder_at path) (last_of path) v.items) is z)
    (h (of_true (is_literal path) (IsOutside work path) (IsClear work (folder_at path)) is apart))

long_literal : (told : Option Files) (path : List ℕ) (e : SourceRefusal) → is_literal path ≡ true → OnTooLong e (λ p. (p ≡ path) × IsLongAt told p) → OnTooLong e (IsLongOf told path)
long_literal told path (source.Host e) is h = tt
long_literal None path (source.FileTooLong p) is h = tt
long_literal (Some f) path (source.FileTooLong p) is h =
    if_true (is_literal path) ((p ≡ path) × (is_long (f path) ≡ true)) (IsLongMatch f (folder_at path) (last_of path) p) is (h.0, ap (λ q. is_long (f q)) (sym h.0) ∙ h.1)

pub literal_refused : (told : Option Files) (work path : List ℕ) (r : Result (Vec FileRef Global) SourceRefusal) → is_literal path ≡ true → IfErr r (λ e. OnTooLong e (λ p. (p ≡ path) × IsLongAt told p))
    → IsApart work path → IfErr r (λ e. OnTooLong e (IsLongOf told path))
literal_refused told work path (Ok v) is h apart = tt
literal_refused told work path (Err e) is h apart = long_literal told path e is h

-- ---- a path with one

-- the last component as it was cut off
pub last_is : (path last : List ℕ) → IsUtf8 last → chars last ≡ name_at (chars path) → last ≡ last_of path
last_is path last text e = sym (encodes-chars last text) ∙ ap encode_utf8_all e

pub matching_found : (told : Option Files) (work path folder last : List ℕ) (r : Result (Vec FileRef Global) SourceRefusal) → is_literal path ≡ false → folder ≡ folder_at path → last ≡ last_of path
    → (IsClear work folder → OkOver told r (λ f v. AreMatching f folder last v.items)) → IsApart work path → OkOver told r (λ f v. AreFound f path v.items)
matching_found told work path folder last r is at ends h apart =
    over_ok told r (λ f v. AreMatching f folder last v.items) (λ f v. AreFound f path v.items)
    (λ f v z. if_false (is_literal path) (IsFileAt f path v.items) (AreMatching f (folder_at path) (last_of path) v.items) is
    (subst (λ (d : List ℕ). AreMatching f d (last_of path) v.items) at (subst (λ (p : List ℕ). AreMatching f folder p v.items) ends z)))
    (h (subst (λ (d : List ℕ). IsClear work d) (sym at) (of_false (is_literal path) (IsOutside work path) (IsClear work (folder_at path)) is apart)))

long_matching : (told : Option Files) (path folder last : List ℕ) (e : SourceRefusal) → is_literal path ≡ false → folder ≡ folder_at path → last ≡ last_of path
    → OnTooLong e (λ p. IfSome told (λ f. IsLongMatch f folder last p)) → OnTooLong e (IsLongOf told path)
long_matching told path folder last (source.Host e) is at ends h = tt
long_matching None path folder last (source.FileTooLong p) is at ends h = tt
long_matching (Some f) path folder last (source.FileTooLong p) is at ends h =
    if_false (is_literal path) ((p ≡ path) × (is_long (f path) ≡ true)) (IsLongMatch f (folder_at path) (last_of path) p) is
    (subst (λ (d : List ℕ). IsLongMatch f d (last_of path) p) at (subst (λ (q : List ℕ). IsLongMatch f folder q p) ends h))

pub matching_refused : (told : Option Files) (work path folder last : List ℕ) (r : Result (Vec FileRef Global) SourceRefusal) → is_literal path ≡ false → folder ≡ folder_at path → last ≡ last_of path
    → (IsClear work folder → IfErr r (λ e. OnTooLong e (λ p. IfSome told (λ f. IsLongMatch f folder last p)))) → IsApart work path → IfErr r (λ e. OnTooLong e (IsLongOf told path))
matching_refused told work path folder last (Ok v) is at ends h apart = tt
matching_refused told work path folder last (Err e) is at ends h apart =
    long_matching told path folder last e is at ends (h (subst (λ (d : List ℕ). IsClear work d) (sym at) (of_false (is_literal path) (IsOutside work path) (IsClear work (folder_at path)) is apart)))
