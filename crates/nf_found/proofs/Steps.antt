-- The files of one source after those of others.
use Rattle.std.proofs.Common.{◌≡◌, ℕ, ◌+◌, ◌<◌, ◌≤◌, List, [], ◌∷◌, ◌++◌, length, map, get_or, take, drop, Option, None, Some, refl, sym, ap, ◌∙◌, subst, add-one, Bool}
use Rattle.std.specs.Prelude.{IfSome, IsErrAnd, Result, Ok, Err, Vec}
use Rattle.std.specs.Global.{Global}
use Rattle.std.proofs.Math.Seq.{take-suc}
use Rattle.std.proofs.lemmas.List.{take_all, take-append-drop, at_drop_more, map-append}
use Rattle.nf_value.specs.declared.file.FileRef.{FileRef}
use Rattle.nf_host.specs.Files.{Files}
use Rattle.nf_host.specs.Told.{Both}
use Rattle.nf_shell.specs.Outputs.{AreStored}
use Rattle.nf_shell.specs.Over.{OkOver}
use Rattle.nf_shell.specs.Places.{KeepsOrStores}
use Rattle.nf_sources.specs.Sources.{OnTooLong, scratch_in}
use Rattle.nf_sources.specs.declared.fault.SourceRefusal.{SourceRefusal}
use Rattle.nf_sources.specs.declared.fault.SourceRefusal.TheVariants as source
use Rattle.nf_meaning.specs.Given as given
use Rattle.nf_meaning.specs.Walk as walk
use Rattle.nf_plan.specs.declared.want.Want.{Want}
use Rattle.nf_plan.specs.Plans.{want_of}
use Rattle.nf_found.specs.Found.{AreFound, IsApart, IsFound, IsLongOf, must_exist}
use Rattle.nf_found.specs.All.{AreAllFound, FindsAll, FindsOne, GivesFound, IsFirst, IsWithout, found_of}
use Rattle.nf_found.specs.declared.found.Found.{Found}
use Rattle.nf_found.specs.declared.refusal.FoundRefusal.{FoundRefusal}
use Rattle.nf_found.specs.declared.refusal.FoundRefusal.TheVariants.{NoFile, Source}
use Rattle.nf_found.proofs.Kept.{told_found, told_long}

-- ---- what was found later is what stood there at the entry

found_earlier : (told now : Option Files) (work : List ℕ) (w : walk.Want) (x : given.Found) → Both told now (KeepsOrStores work (scratch_in work)) → IsFound work now w x → IsFound work told w x
found_earlier told now work w x k z = record {
  path = z.path;
  files = λ apart. told_found told now work w.path x.files k apart (z.files apart);
  some = z.some;
}

without_earlier : (told now : Option Files) (work : List ℕ) (w : walk.Want) (e : FoundRefusal) → Both told now (KeepsOrStores work (scratch_in work)) → IsWithout work now e w → IsWithout work told e w
without_earlier told now work w (NoFile p) k z = record { is = z.is; must = z.must; none = λ apart. told_found told now work w.path [] k apart (z.none apart) }
without_earlier told now work w (Source (source.FileTooLong p)) k z = λ apart. told_long told now work w.path p k apart (z apart)
without_earlier told now work w (Source (source.Host h)) k z = tt

-- ---- one source after another

all_more : (work : List ℕ) (told : Option Files) (ws : List walk.Want) (xs : List given.Found) (w : walk.Want) (x : given.Found) → AreAllFound work told ws xs → IsFound work told w x → AreAllFound work told (ws ++ w ∷ []) (xs ++ x ∷ [])
all_more work told [] [] w x h z = (z, h)
all_more work told [] (y ∷ xs) w x h z = absurd h
all_more work told (v ∷ ws) [] w x h z = absurd h
all_more work told (v ∷ ws) (y ∷ xs) w x h z = (h.0, all_more work told ws xs w x h.1 z)

take_more : {A : Type 0} (xs : List A) (i : ℕ) (e : A) → i < length xs → e ≡ get_or xs i e → take (i + 1) xs ≡ take i xs ++ e ∷ []
take_more xs i e l is = ap (λ k. take k xs) (add-one i) ∙ take-suc xs i e l ∙ ap (λ r. take i xs ++ r ∷ []) (sym is)

split_at : {A : Type 0} (xs : List A) (i : ℕ) (e : A) → i < length xs → e ≡ get_or xs i e → xs ≡ take i xs ++ e ∷ drop (i + 1) xs
split_at xs i e l is =
    sym (take-append-drop i xs) ∙ ap (λ r. take i xs ++ r) (at_drop_more (λ r. r) xs i e l ∙ ap (λ x. x ∷ drop (i + 1) xs) (sym is))

-- the sources up to one
abbrev pub wants_to : ℕ → List Want → List walk.Want
wants_to i ws = map want_of (take i ws)

pub found_none : (work : List ℕ) (told : Option Files) (ws : List Want) (xs : List Found) → xs ≡ [] → AreAllFound work told (wants_to 0 ws) (map found_of xs)
found_none work told ws xs e = subst (λ (v : List Found). AreAllFound work told [] (map found_of v)) (sym e) tt

pub found_more : (told now : Option Files) (work : List ℕ) (ws : List Want) (i : ℕ) (w : Want) (xs ys : List Found) (x : Found) → i < length ws → w ≡ get_or ws i w
    → Both told now (KeepsOrStores work (scratch_in work)) → AreAllFound work told (wants_to i ws) (map found_of xs) → IsFound work now (want_of w) (found_of x) → ys ≡ xs ++ x ∷ []
    → AreAllFound work told (wants_to (i + 1) ws) (map found_of ys)
found_more told now work ws i w xs ys x l is k h z made =
    subst (λ (vs : List walk.Want). AreAllFound work told vs (map found_of ys)) (sym (ap (map want_of) (take_more ws i w l is) ∙ map-append want_of (take i ws) (w ∷ [])))
    (subst (λ (v : List given.Found). AreAllFound work told (wants_to i ws ++ want_of w ∷ []) v) (sym (ap (map found_of) made ∙ map-append found_of xs (x ∷ [])))
    (all_more work told (wants_to i ws) (map found_of xs) (want_of w) (found_of x) h (found_earlier told now work (want_of w) (found_of x) k z)))

pub found_all : (told : Option Files) (work : List ℕ) (ws : List Want) (i : ℕ) (xs : List Found) → length ws ≤ i → AreAllFound work told (wants_to i ws) (map found_of xs) → AreAllFound work told (map want_of ws) (map found_of xs)
found_all told work ws i xs l h = subst (λ (v : List Want). AreAllFound work told (map want_of v) (map found_of xs)) (take_all i ws l) h

-- ---- the first source without files

first_of : (told now : Option Files) (work : List ℕ) (ws : List Want) (i : ℕ) (w : Want) (xs : List Found) (P : walk.Want → Type 0) → i < length ws → w ≡ get_or ws i w
    → AreAllFound work told (wants_to i ws) (map found_of xs) → P (want_of w) → IsFirst work told (map want_of ws) P
first_of told now work ws i w xs P l is h z = record {
  before = wants_to i ws;
  want = want_of w;
  later = map want_of (drop (i + 1) ws);
  split = ap (map want_of) (split_at ws i w l is) ∙ map-append want_of (take i ws) (w ∷ drop (i + 1) ws);
  found = map found_of xs;
  are_found = h;
  here = z;
}

pub without_here : (told now : Option Files) (work : List ℕ) (ws : List Want) (i : ℕ) (w : Want) (xs : List Found) (e : FoundRefusal) → i < length ws → w ≡ get_or ws i w
    → Both told now (KeepsOrStores work (scratch_in work)) → AreAllFound work told (wants_to i ws) (map found_of xs) → IsWithout work now e (want_of w) → FindsAll work told (map want_of ws) (Err e)
without_here told now work ws i w xs (NoFile p) l is k h z =
    first_of told now work ws i w xs (IsWithout work told (NoFile p)) l is h (without_earlier told now work (want_of w) (NoFile p) k z)
without_here told now work ws i w xs (Source (source.FileTooLong p)) l is k h z =
    first_of told now work ws i w xs (IsWithout work told (Source (source.FileTooLong p))) l is h (without_earlier told now work (want_of w) (Source (source.FileTooLong p)) k z)
without_here told now work ws i w xs (Source (source.Host e)) l is k h z = tt

-- what a `?` hands on
pub err_is : {T E : Type 0} (r : Result T E) (e : E) → IsErrAnd r (λ x. x ≡ e) → r ≡ Err e
err_is (Ok x) e h = absurd h
err_is (Err x) e h = λ i. Err (h i)

pub as_refused : (told : Option Files) (work : List ℕ) (ws : List walk.Want) (r : Result (Vec Found Global) FoundRefusal) (e : FoundRefusal) → IsErrAnd r (λ x. x ≡ e) → FindsAll work told ws (Err e) → FindsAll work told ws r
as_refused told work ws r e h z = subst (λ (v : Result (Vec Found Global) FoundRefusal). FindsAll work told ws v) (sym (err_is r e h)) z

pub one_refused : (told : Option Files) (work : List ℕ) (w : walk.Want) (r : Result Found FoundRefusal) (e : FoundRefusal) → IsErrAnd r (λ x. x ≡ e) → FindsOne work told w (Err e) → FindsOne work told w r
one_refused told work w r e h z = subst (λ (v : Result Found FoundRefusal). FindsOne work told w v) (sym (err_is r e h)) z

-- ---- one source

-- the files of a path under another name of it
pub found_at : (told : Option Files) (work q path : List ℕ) (files : List FileRef) → q ≡ path → (IsApart work q → IfSome told (λ f. AreFound f q files)) → IsApart work path → IfSome told (λ f. AreFound f path files)
found_at told work q path files is h = subst (λ (v : List ℕ). IsApart work v → IfSome told (λ f. AreFound f v files)) is h

pub long_at : (told : Option Files) (work q path : List ℕ) (r : SourceRefusal) → q ≡ path → (IsApart work q → OnTooLong r (IsLongOf told q)) → IsApart work path → OnTooLong r (IsLongOf told path)
long_at told work q path r is h = subst (λ (v : List ℕ). IsApart work v → OnTooLong r (IsLongOf told v)) is h

given_at : (told : Option Files) (work : List ℕ) (w : walk.Want) (files : List FileRef) (r : Result Found FoundRefusal) → (IsApart work w.path → IfSome told (λ f. AreFound f w.path files))
    → GivesFound w.path files (must_exist w) r → FindsOne work told w r
given_at told work w files (Ok x) found z = record {
  path = z.0;
  files = λ apart. subst (λ (v : List FileRef). IfSome told (λ f. AreFound f w.path v)) (sym z.1) (found apart);
  some = λ must. subst (λ (v : List FileRef). 0 < length v) (sym z.1) (z.2 must);
}
given_at told work w files (Err e) found z =
    subst (λ (v : FoundRefusal). IsWithout work told v w) (sym z.0)
    (record { is = refl; must = z.1; none = λ apart. subst (λ (v : List FileRef). IfSome told (λ f. AreFound f w.path v)) z.2 (found apart) })

-- what is given of the files of one path
pub gives_one : (told : Option Files) (work : List ℕ) (w : walk.Want) (path : List ℕ) (must : Bool) (files : List FileRef) (r : Result Found FoundRefusal) → path ≡ w.path → must ≡ must_exist w
    → (IsApart work w.path → IfSome told (λ f. AreFound f w.path files)) → GivesFound path files must r → FindsOne work told w r
gives_one told work w path must files r at asks found z =
    given_at told work w files r found (subst (λ (q : List ℕ). GivesFound q files (must_exist w) r) at (subst (λ (b : Bool). GivesFound path files b r) asks z))

-- and that they are stored
pub stored_given : (now : Option Files) (work path : List ℕ) (files : List FileRef) (must : Bool) (r : Result Found FoundRefusal) → GivesFound path files must r → IfSome now (λ g. AreStored work g files) → OkOver now r (λ g x. AreStored work g x.files.items)
stored_given None work path files must r z h = tt
stored_given (Some g) work path files must (Ok x) z h = subst (λ (v : List FileRef). AreStored work g v) (sym z.1) h
stored_given (Some g) work path files must (Err e) z h = tt

-- why there are no files of one path
pub source_refused : (told : Option Files) (work : List ℕ) (w : walk.Want) (r : SourceRefusal) → (IsApart work w.path → OnTooLong r (IsLongOf told w.path)) → IsWithout work told (Source r) w
source_refused told work w (source.FileTooLong p) h = h
source_refused told work w (source.Host e) h = tt
