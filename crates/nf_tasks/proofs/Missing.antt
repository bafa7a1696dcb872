-- The patterns whose files are missing, one after the other.
use Rattle.std.proofs.Common.{◌≡◌, ℕ, zero, suc, ◌+◌, ◌<◌, ◌≤◌, List, [], ◌∷◌, length, drop, get_or, Bool, true, false, not, ◌&&◌, Option, None, Some, refl, ap, sym, ◌∙◌, add-one, drop-cons}
use Rattle.std.proofs.lemmas.List.{drop_all}
use Rattle.nf_value.specs.declared.file.FileRef.{FileRef}
use Rattle.nf_job.specs.declared.fault.TaskFault.{TaskFault}
use Rattle.nf_tasks.specs.Failure.{files_failure, first_files, other_files, is_due, is_there, missing_one, or_else}

abbrev tail_of : {A : Type 0} → List A → List A
tail_of [] = []
tail_of (x ∷ xs) = xs

tail-drop : {A : Type 0} (xs : List A) (i : ℕ) → drop (suc i) xs ≡ tail_of (drop i xs)
tail-drop [] zero = refl
tail-drop [] (suc i) = refl
tail-drop (x ∷ xs) zero = refl
tail-drop (x ∷ xs) (suc i) = tail-drop xs i

other_is_tail : (fs : List (List FileRef)) → tail_of fs ≡ other_files fs
other_is_tail [] = refl
other_is_tail (f ∷ fs) = refl

none_here : (o : Bool) (t : List ℕ) (fs : List FileRef) (more : Option TaskFault) → (not o && not (is_there fs)) ≡ false → or_else (missing_one o t fs) more ≡ more
none_here o t (f ∷ fs) more h = refl
none_here true t [] more h = refl
none_here false t [] more h = cc

passes : (os : List Bool) (t : List ℕ) (ts : List (List ℕ)) (fs : List (List FileRef)) → (is_due os && not (is_there (first_files fs))) ≡ false → files_failure os (t ∷ ts) fs ≡ files_failure (tail_of os) ts (other_files fs)
passes [] t ts fs h = refl
passes (o ∷ os) t ts fs h = none_here o t (first_files fs) (files_failure os ts (other_files fs)) h

pub passes_at : (os : List Bool) (ts : List (List ℕ)) (fs : List (List FileRef)) (i : ℕ) (all : Option TaskFault) → i < length ts → (is_due (drop i os) && not (is_there (first_files (drop i fs)))) ≡ false → files_failure (drop i os) (drop i ts) (drop i fs) ≡ all → files_failure (drop (i + 1) os) (drop (i + 1) ts) (drop (i + 1) fs) ≡ all
passes_at os ts fs i all lt isnt h =
    let texts : drop i ts ≡ get_or ts i [] ∷ drop (i + 1) ts = rw (add-one, drop-cons ts i []) refl in
    let options : drop (i + 1) os ≡ tail_of (drop i os) = rw add-one (tail-drop os i) in
    let files : drop (i + 1) fs ≡ other_files (drop i fs) = rw add-one (tail-drop fs i ∙ other_is_tail (drop i fs)) in
    (λ j. files_failure (options j) (drop (i + 1) ts) (files j)) ∙ sym (passes (drop i os) (get_or ts i []) (drop (i + 1) ts) (drop i fs) isnt) ∙ sym (ap (λ l. files_failure (drop i os) l (drop i fs)) texts) ∙ h

none_left : (os : List Bool) (fs : List (List FileRef)) → files_failure os [] fs ≡ None
none_left [] fs = refl
none_left (o ∷ os) fs = refl

pub none_at : (os : List Bool) (ts : List (List ℕ)) (fs : List (List FileRef)) (i : ℕ) (all : Option TaskFault) → length ts ≤ i → files_failure (drop i os) (drop i ts) (drop i fs) ≡ all → all ≡ None
none_at os ts fs i all end h = sym h ∙ ap (λ l. files_failure (drop i os) l (drop i fs)) (drop_all i ts end) ∙ none_left (drop i os) (drop i fs)
