-- What is stored for one source stays stored while those of others are.
use Rattle.std.proofs.Common.{◌≡◌, List, [], ◌∷◌, ◌++◌, ℕ, All, Option, None, Some, sym, subst}
use Rattle.std.specs.Prelude.{IfSome}
use Rattle.std.proofs.lemmas.List.{append-nil}
use Rattle.std.proofs.lemmas.List.Elements.{All-nil, All-push, All-weaker}
use Rattle.nf_value.specs.declared.file.FileRef.{FileRef}
use Rattle.nf_host.specs.Files.{Files}
use Rattle.nf_host.specs.Told.{Both}
use Rattle.nf_shell.specs.Outputs.{AreStored}
use Rattle.nf_shell.specs.Places.{KeepsOrStores}
use Rattle.nf_sources.specs.Sources.{scratch_in}
use Rattle.nf_sources.proofs.Found.{stored_more}
use Rattle.nf_found.specs.declared.found.Found.{Found}

-- all files that were found so far are stored
abbrev pub AllStored : List ℕ → Files → List Found → Type 0
AllStored work g found = All (λ x. AreStored work g x.files.items) found

still : (work : List ℕ) (f g : Files) (xs : List FileRef) → KeepsOrStores work (scratch_in work) f g → AreStored work f xs → AreStored work g xs
still work f g xs k h = stored_more (Some f) (Some g) work xs xs None k h tt (sym (append-nil xs))

pub stored_none : (now : Option Files) (work : List ℕ) (xs : List Found) → xs ≡ [] → IfSome now (λ g. AllStored work g xs)
stored_none None work xs e = tt
stored_none (Some g) work xs e = subst (λ (v : List Found). AllStored work g v) (sym e) (All-nil (λ x. AreStored work g x.files.items))

pub stored_one : (now next : Option Files) (work : List ℕ) (xs ys : List Found) (x : Found) → Both now next (KeepsOrStores work (scratch_in work)) → IfSome now (λ g. AllStored work g xs)
    → IfSome next (λ g. AreStored work g x.files.items) → ys ≡ xs ++ x ∷ [] → IfSome next (λ g. AllStored work g ys)
stored_one now None work xs ys x k h one made = tt
stored_one None (Some g) work xs ys x k h one made = absurd k
stored_one (Some f) (Some g) work xs ys x k h one made =
    let P = λ (y : Found). AreStored work g y.files.items in
    subst (λ (v : List Found). AllStored work g v) (sym made)
    (All-push P xs x (All-weaker (λ y. AreStored work f y.files.items) P (λ y. still work f g y.files.items k) xs h) one)
