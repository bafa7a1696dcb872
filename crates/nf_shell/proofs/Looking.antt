-- A look for the files of a report, file by file and list by list.
use Rattle.std.proofs.Common.{◌≡◌, ℕ, zero, suc, ◌+◌, ◌<◌, List, [], ◌∷◌, length, get_or, drop, Bool, true, false, not, ◌||◌, Option, None, Some, option_map, bytes_eq, refl, sym, ap, ◌∙◌, subst, arith}
use Rattle.std.specs.Prelude.{IfSome}
use Rattle.std.specs.List.{find}
use Rattle.nf_value.specs.declared.file.FileRef.{FileRef}
use Rattle.nf_host.specs.Files.{Files}
use Rattle.nf_host.proofs.Paths.{text_itself}
use Rattle.nf_lane.specs.Store.{first_lacking, has_all, lacks}
use Rattle.nf_lane.proofs.Lacking.{all_there, one_gone}
use Rattle.nf_lane.proofs.Steps.{at_list, past_list}
use Rattle.nf_shell.specs.Outputs.{is_among}
use Rattle.nf_shell.specs.Places.{is_stored, stored_in}
use Rattle.nf_shell.specs.ShellLane.{store_of}

-- ---- a file that is there has its name

pub named_at : (files : List FileRef) (i : ℕ) (e : FileRef) → i < length files → e ≡ get_or files i e → is_among files e.name ≡ true
named_at [] i e l is = absurd (omega arith)
named_at (f ∷ files) zero e l is = ap (λ (r : FileRef). bytes_eq r.name e.name || is_among files e.name) (sym is) ∙ ap (λ b. b || is_among files e.name) (text_itself e.name)
named_at (f ∷ files) (suc i) e l is = ap (λ b. bytes_eq f.name e.name || b) (named_at files i e (omega arith) is) ∙ or_true (bytes_eq f.name e.name)
  where
    or_true : (b : Bool) → (b || true) ≡ true
    or_true true = refl
    or_true false = refl

-- ---- the files of a list

abbrev pub Lacks : Files → List ℕ → List FileRef → Option FileRef
Lacks f work files = find (λ r. not (is_stored f work r.digest.0)) files

-- ---- the lists of a report

abbrev pub Misses : Files → List ℕ → List (List FileRef) → Option FileRef
Misses f work found = first_lacking (stored_in f work) found

some_name : (o : Option FileRef) (name : List ℕ) → Some name ≡ option_map (λ r. r.name) o → (r : FileRef) × (o ≡ Some r) × (Some name ≡ option_map (λ r. r.name) (Some r))
some_name None name h = absurd (cc)
some_name (Some r) name h = (r, refl, h)

no_name : (o : Option FileRef) → None ≡ option_map (λ r. r.name) o → None ≡ o
no_name None h = refl
no_name (Some r) h = absurd (cc)

pub misses_here : (told now : Option Files) (work : List ℕ) (found : List (List FileRef)) (i : ℕ) (e : List FileRef) (name : List ℕ) → now ≡ told → i < length found → e ≡ get_or found i e → IfSome told (λ f. Misses f work (drop i found) ≡ Misses f work found) → IfSome now (λ f. Some name ≡ option_map (λ r. r.name) (Lacks f work e))
    → IfSome told (λ f. Some name ≡ option_map (λ r. r.name) (Misses f work found))
misses_here None now work found i e name same l is so there = tt
misses_here (Some f) now work found i e name same l is so there =
    let z = some_name (Lacks f work e) name (subst (λ (o : Option Files). IfSome o (λ f. Some name ≡ option_map (λ r. r.name) (Lacks f work e))) same there) in
    z.2 ∙ ap (option_map (λ r. r.name)) (sym (at_list (stored_in f work) found i e z.0 l is (sym z.1)) ∙ so)

pub misses_past : (told now : Option Files) (work : List ℕ) (found : List (List FileRef)) (i : ℕ) (e : List FileRef) → now ≡ told → i < length found → e ≡ get_or found i e → IfSome told (λ f. Misses f work (drop i found) ≡ Misses f work found) → IfSome now (λ f. None ≡ option_map (λ r. r.name) (Lacks f work e))
    → IfSome told (λ f. Misses f work (drop (i + 1) found) ≡ Misses f work found)
misses_past None now work found i e same l is so there = tt
misses_past (Some f) now work found i e same l is so there =
    sym (past_list (stored_in f work) found i e l is (no_name (Lacks f work e) (subst (λ (o : Option Files). IfSome o (λ f. None ≡ option_map (λ r. r.name) (Lacks f work e))) same there))) ∙ so

-- ---- what a look says

pub look_told : (told : Option Files) (v w : List ℕ) (xs found : List (List FileRef)) (o q : Option (List ℕ)) → v ≡ w → xs ≡ found → o ≡ q → IfSome told (λ f. o ≡ option_map (λ r. r.name) (Misses f v xs)) → IfSome told (λ f. q ≡ option_map (λ r. r.name) (Misses f w found))
look_told None v w xs found o q e d is h = tt
look_told (Some f) v w xs found o q e d is h =
    sym is ∙ h ∙ ap (λ (u : List ℕ). option_map (λ r. r.name) (Misses f u xs)) e ∙ ap (λ (ys : List (List FileRef)). option_map (λ r. r.name) (Misses f w ys)) d

pub all_in : (told : Option Files) (work : List ℕ) (found : List (List FileRef)) → IfSome told (λ f. None ≡ option_map (λ r. r.name) (Misses f work found)) → IfSome (store_of told work) (λ s. has_all s found ≡ true)
all_in None work found h = tt
all_in (Some f) work found h = all_there (stored_in f work) found (sym (no_name (Misses f work found) h))

pub one_out : (told : Option Files) (work : List ℕ) (found : List (List FileRef)) (name : List ℕ) → IfSome told (λ f. Some name ≡ option_map (λ r. r.name) (Misses f work found)) → IfSome (store_of told work) (λ s. lacks s found name ≡ true)
one_out None work found name h = tt
one_out (Some f) work found name h =
    let z = some_name (Misses f work found) name h in
    let same : name ≡ z.0.name = let e = z.2 in cc in
    subst (λ (v : List ℕ). lacks (stored_in f work) found v ≡ true) (sym same) (one_gone (stored_in f work) found z.0 z.1)
