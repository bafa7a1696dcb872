-- How a job's folder becomes ready, file by file.
use Rattle.std.proofs.Common.{◌≡◌, ℕ, zero, suc, ◌+◌, ◌<◌, ◌≤◌, List, [], ◌∷◌, ◌++◌, length, get_or, take, Bool, true, false, not, ◌&&◌, ◌||◌, All, Option, None, Some, option_map, codes, bytes_eq, refl, sym, ap, ◌∙◌, subst, true≢false, add-one, arith}
use Rattle.std.specs.Prelude.{IfSome, Result, Ok, Err}
use Rattle.std.specs.List.{list_any}
use Rattle.std.proofs.lemmas.List.Elements.{All-nil, All-cons, All-head, All-tail, All-push}
use Rattle.std.proofs.lemmas.List.{take_all}
use Rattle.std.proofs.Math.Seq.{take-suc}
use Rattle.nf_value.specs.declared.file.FileRef.{FileRef}
use Rattle.nf_job.specs.declared.parts.JobParts.{JobParts}
use Rattle.nf_host.specs.Files.{Files, KeepsOthers, put}
use Rattle.nf_host.specs.Folders.{path_in, folder_of, cleared, KeepsOutside}
use Rattle.nf_host.specs.Told.{Both}
use Rattle.nf_host.specs.declared.host.HostRefusal.{HostRefusal}
use Rattle.nf_host.proofs.Copying.{both_then}
use Rattle.nf_host.proofs.Paths.{in_folder, same_name, text_itself, text_same}
use Rattle.nf_shell.specs.Folder.{is_stageable, are_stageable, HasDigest, is_prepared, IsReady, IsReadyFor, Readies, EndsWith, stdin_of}
use Rattle.nf_shell.specs.Outputs.{is_among}
use Rattle.nf_shell.specs.declared.damage.Damage.{Damage}
use Rattle.nf_shell.proofs.Stores.{keeps_outside, weaken}

or_first : (a b : Bool) → (a || b) ≡ false → a ≡ false
or_first true b h = h
or_first false b h = refl

or_second : (a b : Bool) → (a || b) ≡ false → b ≡ false
or_second true b h = absurd (true≢false h)
or_second false b h = h

-- after the script and the standard input were written into a cleared folder
pub ready_first : (f' : Files) (dir script stdin : List ℕ) → IsReady script stdin [] (folder_of (put (put (cleared f' dir) (path_in dir (codes ".command.sh")) (script ++ 10 ∷ [])) (path_in dir (codes ".command.in")) stdin) dir)
ready_first f' dir script stdin = record {
  script = rw (same_name dir (codes ".command.sh") (codes ".command.in")) (rw (text_itself (path_in dir (codes ".command.sh"))) refl);
  stdin = rw (text_itself (path_in dir (codes ".command.in"))) refl;
  staged = All-nil (λ f. HasDigest (folder_of (put (put (cleared f' dir) (path_in dir (codes ".command.sh")) (script ++ 10 ∷ [])) (path_in dir (codes ".command.in")) stdin) dir f.name) f.digest.0);
  others = λ name h.
      let a : bytes_eq name (codes ".command.sh") ≡ false = or_first (bytes_eq name (codes ".command.sh")) (bytes_eq name (codes ".command.in") || false) h in
      let b : bytes_eq name (codes ".command.in") ≡ false = or_first (bytes_eq name (codes ".command.in")) false (or_second (bytes_eq name (codes ".command.sh")) (bytes_eq name (codes ".command.in") || false) h) in
      rw (same_name dir name (codes ".command.in") ∙ b) (rw (same_name dir name (codes ".command.sh") ∙ a) (rw (in_folder dir name) refl));
}

-- a stageable name is none of the lane's own
not_own : (own name : List ℕ) → is_stageable own ≡ false → is_stageable name ≡ true → bytes_eq own name ≡ false
not_own own name no_own fits =
    elim (bytes_eq own name) as (λ b. bytes_eq own name ≡ b → b ≡ false) [
      | true ↦ λ t. absurd (true≢false (sym fits ∙ ap is_stageable (sym (text_same own name t)) ∙ no_own))
      | false ↦ λ f. refl
    ] refl

-- a file that is written changes no other of the folder
other_name : (dir n m : List ℕ) (g g' : Files) → KeepsOthers (path_in dir m) g g' → bytes_eq n m ≡ false → g' (path_in dir n) ≡ g (path_in dir n)
other_name dir n m g g' k apart = k (path_in dir n) (same_name dir n m ∙ apart)

staged_kept : (dir m : List ℕ) (g g' : Files) (staged : List FileRef) → KeepsOthers (path_in dir m) g g' → is_among staged m ≡ false → All (λ f. HasDigest (g (path_in dir f.name)) f.digest.0) staged → All (λ f. HasDigest (g' (path_in dir f.name)) f.digest.0) staged
staged_kept dir m g g' [] k apart h = All-nil (λ f. HasDigest (g' (path_in dir f.name)) f.digest.0)
staged_kept dir m g g' (f ∷ staged) k apart h =
    All-cons (λ f. HasDigest (g' (path_in dir f.name)) f.digest.0) f staged
    (subst (λ (o : Option (List ℕ)). HasDigest o f.digest.0) (sym (other_name dir f.name m g g' k (or_first (bytes_eq f.name m) (is_among staged m) apart))) (All-head (λ f. HasDigest (g (path_in dir f.name)) f.digest.0) f staged h))
    (staged_kept dir m g g' staged k (or_second (bytes_eq f.name m) (is_among staged m) apart) (All-tail (λ f. HasDigest (g (path_in dir f.name)) f.digest.0) f staged h))

any_append : (p : FileRef → Bool) (xs : List FileRef) (f : FileRef) → list_any p (xs ++ f ∷ []) ≡ (list_any p xs || p f)
any_append p [] f = or_none (p f)
  where
    or_none : (b : Bool) → (b || false) ≡ b
    or_none true = refl
    or_none false = refl
any_append p (x ∷ xs) f = ap (λ b. p x || b) (any_append p xs f) ∙ or_again (p x) (list_any p xs) (p f)
  where
    or_again : (a b c : Bool) → (a || (b || c)) ≡ ((a || b) || c)
    or_again true b c = refl
    or_again false b c = refl

flip : (m n : List ℕ) → bytes_eq m n ≡ bytes_eq n m
flip m n =
    elim (bytes_eq m n) as (λ b. bytes_eq m n ≡ b → b ≡ bytes_eq n m) [
      | true ↦ λ t. sym (ap (λ v. bytes_eq v m) (sym (text_same m n t)) ∙ text_itself m)
      | false ↦ λ f.
          elim (bytes_eq n m) as (λ b. bytes_eq n m ≡ b → false ≡ b) [
            | true ↦ λ t. absurd (true≢false (sym (ap (λ v. bytes_eq m v) (text_same n m t) ∙ text_itself m) ∙ f))
            | false ↦ λ e. refl
          ] refl
    ] refl

-- one more file was staged
pub ready_more : (script stdin dir : List ℕ) (staged : List FileRef) (f : FileRef) (g g' : Files) → IsReady script stdin staged (folder_of g dir) → is_stageable f.name ≡ true → is_among staged f.name ≡ false → KeepsOthers (path_in dir f.name) g g' → HasDigest (g' (path_in dir f.name)) f.digest.0 → IsReady script stdin (staged ++ f ∷ []) (folder_of g' dir)
ready_more script stdin dir staged f g g' z fits apart k has = record {
  script = other_name dir (codes ".command.sh") f.name g g' k (not_own (codes ".command.sh") f.name refl fits) ∙ z.script;
  stdin = other_name dir (codes ".command.in") f.name g g' k (not_own (codes ".command.in") f.name refl fits) ∙ z.stdin;
  staged = All-push (λ r. HasDigest (g' (path_in dir r.name)) r.digest.0) staged f (staged_kept dir f.name g g' staged k apart z.staged) has;
  others = λ name h.
      let e : is_prepared (staged ++ f ∷ []) name ≡ ((bytes_eq name (codes ".command.sh") || (bytes_eq name (codes ".command.in") || is_among staged name)) || bytes_eq f.name name) =
      ap (λ b. bytes_eq name (codes ".command.sh") || (bytes_eq name (codes ".command.in") || b)) (any_append (λ r. bytes_eq r.name name) staged f)
      ∙ regroup (bytes_eq name (codes ".command.sh")) (bytes_eq name (codes ".command.in")) (is_among staged name) (bytes_eq f.name name) in
      let k1 = sym e ∙ h in
      other_name dir name f.name g g' k (flip name f.name ∙ or_second (is_prepared staged name) (bytes_eq f.name name) k1)
      ∙ z.others name (or_first (is_prepared staged name) (bytes_eq f.name name) k1);
}
  where
    regroup : (a b c d : Bool) → (a || (b || (c || d))) ≡ ((a || (b || c)) || d)
    regroup true b c d = refl
    regroup false true c d = refl
    regroup false false c d = refl

-- ---- in a loop over the files

-- the first files are staged, if all may be staged together
abbrev pub ReadiesTo : List ℕ → List FileRef → ℕ → Files → Files → Type 0
ReadiesTo dir files n f g =
    are_stageable files ≡ true → (script stdin : List ℕ) → IsReady script stdin [] (folder_of f dir) → IsReady script stdin (take n files) (folder_of g dir)

and_left : (a b : Bool) → (a && b) ≡ true → a ≡ true
and_left true b h = refl
and_left false b h = h

and_right : (a b : Bool) → (a && b) ≡ true → b ≡ true
and_right true b h = h
and_right false b h = absurd (true≢false (sym h))

not_true : (b : Bool) → not b ≡ true → b ≡ false
not_true true h = absurd (true≢false (sym h))
not_true false h = refl

none_at : (p : FileRef → Bool) (files : List FileRef) (i : ℕ) (d : FileRef) → list_any p files ≡ false → i < length files → p (get_or files i d) ≡ false
none_at p [] i d h l = absurd (omega arith)
none_at p (f ∷ files) zero d h l = or_first (p f) (list_any p files) h
none_at p (f ∷ files) (suc i) d h l = none_at p files i d (or_second (p f) (list_any p files) h) (omega arith)

fits_at : (files : List FileRef) (i : ℕ) (d : FileRef) → are_stageable files ≡ true → i < length files → is_stageable (get_or files i d).name ≡ true
fits_at [] i d h l = absurd (omega arith)
fits_at (f ∷ files) zero d h l = and_left (is_stageable f.name) (not (is_among files f.name)) (and_left (is_stageable f.name && not (is_among files f.name)) (are_stageable files) h)
fits_at (f ∷ files) (suc i) d h l = fits_at files i d (and_right (is_stageable f.name && not (is_among files f.name)) (are_stageable files) h) (omega arith)

apart_at : (files : List FileRef) (i : ℕ) (d : FileRef) → are_stageable files ≡ true → i < length files → is_among (take i files) (get_or files i d).name ≡ false
apart_at [] i d h l = absurd (omega arith)
apart_at (f ∷ files) zero d h l = refl
apart_at (f ∷ files) (suc i) d h l =
    let first = and_left (is_stageable f.name && not (is_among files f.name)) (are_stageable files) h in
    let none : is_among files f.name ≡ false = not_true (is_among files f.name) (and_right (is_stageable f.name) (not (is_among files f.name)) first) in
    let here : bytes_eq (get_or files i d).name f.name ≡ false = none_at (λ g. bytes_eq g.name f.name) files i d none (omega arith) in
    ap (λ b. b || is_among (take i files) (get_or files i d).name) (flip f.name (get_or files i d).name ∙ here)
    ∙ apart_at files i d (and_right (is_stageable f.name && not (is_among files f.name)) (are_stageable files) h) (omega arith)

take_more : (files : List FileRef) (i : ℕ) (d : FileRef) → i < length files → take (i + 1) files ≡ take i files ++ get_or files i d ∷ []
take_more files i d l = ap (λ k. take k files) (add-one i) ∙ take-suc files i d l

readies_more : (dir : List ℕ) (files : List FileRef) (i : ℕ) (e : FileRef) (f g g' : Files) → i < length files → e ≡ get_or files i e → ReadiesTo dir files i f g → KeepsOthers (path_in dir e.name) g g' → HasDigest (g' (path_in dir e.name)) e.digest.0 → ReadiesTo dir files (i + 1) f g'
readies_more dir files i e f g g' l is z k has fits script stdin first =
    let all : take (i + 1) files ≡ take i files ++ e ∷ [] = take_more files i e l ∙ ap (λ r. take i files ++ r ∷ []) (sym is) in
    subst (λ (rs : List FileRef). IsReady script stdin rs (folder_of g' dir)) (sym all)
    (ready_more script stdin dir (take i files) e g g' (z fits script stdin first)
    (ap (λ r. is_stageable r.name) is ∙ fits_at files i e fits l)
    (ap (λ r. is_among (take i files) r.name) is ∙ apart_at files i e fits l)
    k has)

pub readies_next : (told now next : Option Files) (dir : List ℕ) (files : List FileRef) (i : ℕ) (e : FileRef) → i < length files → e ≡ get_or files i e → Both told now (ReadiesTo dir files i) → Both now next (KeepsOthers (path_in dir e.name)) → IfSome next (λ g. HasDigest (g (path_in dir e.name)) e.digest.0) → Both told next (ReadiesTo dir files (i + 1))
readies_next None None None dir files i e l is z k has = tt
readies_next None None (Some h) dir files i e l is z k has = k
readies_next None (Some g) next dir files i e l is z k has = absurd z
readies_next (Some f) None next dir files i e l is z k has = absurd z
readies_next (Some f) (Some g) None dir files i e l is z k has = k
readies_next (Some f) (Some g) (Some h) dir files i e l is z k has = readies_more dir files i e f g h l is z k has

-- all files were staged
pub readies_all : (told now : Option Files) (work dir : List ℕ) (files : List FileRef) (i : ℕ) → length files ≤ i → Both told now (ReadiesTo dir files i) → Both told now (λ f g. EndsWith work g (Ok None) (Readies dir files f g))
readies_all None None work dir files i l z = tt
readies_all None (Some g) work dir files i l z = z
readies_all (Some f) None work dir files i l z = z
readies_all (Some f) (Some g) work dir files i l z = λ fits script stdin first. subst (λ (rs : List FileRef). IsReady script stdin rs (folder_of g dir)) (take_all i files l) (z fits script stdin first)

-- a file in whose place no damage was found
pub staged_whole : (next : Option Files) (work : List ℕ) (o : Option Damage) (P : Files → Type 0) → o ≡ None → IfSome next (λ g. EndsWith work g (Ok o) (P g)) → IfSome next P
staged_whole next work o P none h = subst (λ (v : Option Damage). IfSome next (λ g. EndsWith work g (Ok v) (P g))) none h

-- ---- what stays outside of the folder

pub made_outside : (o0 o1 o2 : Option Files) (dir : List ℕ) → Both o0 o1 (KeepsOutside dir) → o2 ≡ o1 → Both o0 o2 (KeepsOutside dir)
made_outside o0 o1 o2 dir k same = subst (λ (o : Option Files). Both o0 o (KeepsOutside dir)) (sym same) k

pub both_outside : (o0 o1 o2 : Option Files) (dir : List ℕ) → Both o0 o1 (KeepsOutside dir) → Both o1 o2 (KeepsOutside dir) → Both o0 o2 (KeepsOutside dir)
both_outside o0 o1 o2 dir a b = both_then o0 o1 o2 (KeepsOutside dir) (KeepsOutside dir) (KeepsOutside dir) (λ f g h p q path out. q path out ∙ p path out) a b

pub written_outside : (o0 o1 o2 : Option Files) (dir name : List ℕ) → Both o0 o1 (KeepsOutside dir) → Both o1 o2 (KeepsOthers (path_in dir name)) → Both o0 o2 (KeepsOutside dir)
written_outside o0 o1 o2 dir name a b = both_outside o0 o1 o2 dir a (weaken o1 o2 (KeepsOthers (path_in dir name)) (KeepsOutside dir) (keeps_outside dir name) b)

-- ---- from the cleared folder on

abbrev Prepared : Files → List ℕ → List ℕ → List ℕ → Files
Prepared f dir script stdin = put (put (cleared f dir) (path_in dir (codes ".command.sh")) (script ++ 10 ∷ [])) (path_in dir (codes ".command.in")) stdin

ends_ready : (work dir : List ℕ) (p : JobParts) (f g : Files) (r : Result (Option Damage) HostRefusal) → EndsWith work g r (Readies dir p.staged (Prepared f dir p.script (stdin_of p.stdin)) g) → EndsWith work g r (IsReadyFor p (folder_of g dir))
ends_ready work dir p f g (Ok None) h = λ fits. h fits p.script (stdin_of p.stdin) (ready_first f dir p.script (stdin_of p.stdin))
ends_ready work dir p f g (Ok (Some d)) h = h
ends_ready work dir p f g (Err e) h = h

pub prepared_told : (o0 o1 o2 o3 o4 o5 : Option Files) (work dir : List ℕ) (p : JobParts) (r : Result (Option Damage) HostRefusal) →
    o1 ≡ option_map (λ f. cleared f dir) o0 → o2 ≡ o1 → o3 ≡ option_map (λ f. put f (path_in dir (codes ".command.sh")) (p.script ++ 10 ∷ [])) o2 → o4 ≡ option_map (λ f. put f (path_in dir (codes ".command.in")) (stdin_of p.stdin)) o3
    → Both o4 o5 (λ f g. EndsWith work g r (Readies dir p.staged f g)) → IfSome o5 (λ g. EndsWith work g r (IsReadyFor p (folder_of g dir)))
prepared_told o0 o1 o2 o3 o4 o5 work dir p r a b c d h =
    at o0 o5 (subst (λ (o : Option Files). Both o o5 (λ f g. EndsWith work g r (Readies dir p.staged f g)))
    (d ∙ ap (option_map (λ f. put f (path_in dir (codes ".command.in")) (stdin_of p.stdin))) (c ∙ ap (option_map (λ f. put f (path_in dir (codes ".command.sh")) (p.script ++ 10 ∷ []))) (b ∙ a))) h)
  where
    at : (o q : Option Files) → Both (option_map (λ f. put f (path_in dir (codes ".command.in")) (stdin_of p.stdin)) (option_map (λ f. put f (path_in dir (codes ".command.sh")) (p.script ++ 10 ∷ [])) (option_map (λ f. cleared f dir) o))) q (λ f g. EndsWith work g r (Readies dir p.staged f g)) → IfSome q (λ g. EndsWith work g r (IsReadyFor p (folder_of g dir)))
    at o None k = tt
    at None (Some g) k = absurd k
    at (Some f) (Some g) k = ends_ready work dir p f g r k
