-- The files of all sources of a script, or the first source that has none.
use Rattle.std.specs.Prelude.{◌≡◌, ◌<◌, ℕ, List, [], ◌∷◌, ◌++◌, length, map, Bool, IsTrue, Result, Ok, Err, Vec}
use Rattle.std.specs.Global.{Global}
use Rattle.std.specs.declared.option.Option.{Option}
use Rattle.nf_value.specs.declared.file.FileRef.{FileRef}
use Rattle.nf_host.specs.Files.{Files}
use Rattle.nf_sources.specs.declared.fault.SourceRefusal.TheVariants as source
use Rattle.nf_meaning.specs.Given as given
use Rattle.nf_meaning.specs.Walk.{Want}
use Rattle.nf_found.specs.Found.{IsFound, LacksFile, HasLongFile}
use Rattle.nf_found.specs.declared.found.Found.{Found}
use Rattle.nf_found.specs.declared.refusal.FoundRefusal.{FoundRefusal}
use Rattle.nf_found.specs.declared.refusal.FoundRefusal.TheVariants.{NoFile, Source}

-- as the meaning of a script has it
abbrev pub found_of : Found → given.Found
found_of x = record { path = x.path; files = x.files.items }

-- for each source what was found, in their order
abbrev pub AreAllFound : List ℕ → Option Files → List Want → List given.Found → Type 0
AreAllFound work told [] [] = Unit {0}
AreAllFound work told (w ∷ ws) (x ∷ xs) = IsFound work told w x × AreAllFound work told ws xs
AreAllFound work told [] (x ∷ xs) = ⊥
AreAllFound work told (w ∷ ws) [] = ⊥

-- P holds of a source, and for those before it files are found
pub record IsFirst (work : List ℕ) (told : Option Files) (ws : List Want) (P : Want → Type 0) : Type 0 where
  pub before : List Want
  pub want : Want
  pub later : List Want
  pub split : ws ≡ before ++ want ∷ later
  pub found : List given.Found
  pub are_found : AreAllFound work told before found
  pub here : P want

-- why a source has no files; the host may fail, and memory run out, at any of them
abbrev pub IsWithout : List ℕ → Option Files → FoundRefusal → Want → Type 0
IsWithout work told (NoFile path) w = LacksFile work told w path
IsWithout work told (Source (source.FileTooLong path)) w = HasLongFile work told w path
IsWithout work told (Source (source.Host e)) w = Unit {0}

-- what was found for one source, or why there is nothing
abbrev pub FindsOne : List ℕ → Option Files → Want → Result Found FoundRefusal → Type 0
FindsOne work told w (Ok x) = IsFound work told w (found_of x)
FindsOne work told w (Err e) = IsWithout work told e w

-- what was found for each source, or why the first that has no files has none
abbrev pub FindsAll : List ℕ → Option Files → List Want → Result (Vec Found Global) FoundRefusal → Type 0
FindsAll work told ws (Ok xs) = AreAllFound work told ws (map found_of xs.items)
FindsAll work told ws (Err (Source (source.Host e))) = Unit {0}
FindsAll work told ws (Err e) = IsFirst work told ws (IsWithout work told e)

-- these files at this path, unless there are none and one must be
abbrev pub GivesFound : List ℕ → List FileRef → Bool → Result Found FoundRefusal → Type 0
GivesFound path files must (Ok x) = (x.path ≡ path) × (x.files.items ≡ files) × (IsTrue must → 0 < length files)
GivesFound path files must (Err e) = (e ≡ NoFile path) × IsTrue must × (files ≡ [])
