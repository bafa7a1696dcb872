-- Which files a task publishes.
use Rattle.std.specs.Prelude.{ℕ, List, [], ◌∷◌, ◌++◌, Bool, true, codes, map, filter, Option, None, Some, Ok}
use Rattle.std.specs.List.{flat_map}
use Rattle.std.specs.Str.{chars}
use Rattle.nf_value.specs.declared.file.FileRef.{FileRef}
use Rattle.nf_value.specs.Plain.{Plain}
use Rattle.nf_value.specs.declared.place.Place.{Place}
use Rattle.nf_pattern.specs.Glob.{is_match}
use Rattle.nf_tasks.specs.declared.target_list.Target.{Target}
use Rattle.nf_tasks.specs.Judged.{Judged, ◌>>=◌}
use Rattle.nf_tasks.specs.Meaning.{Formula, PublishMeaning}
use Rattle.nf_tasks.specs.Prepared.{named_by}

-- in the folder, by the file's name
abbrev pub target_in : List ℕ → FileRef → Target
target_in folder f = record { name = folder ++ codes "/" ++ f.name; digest = f.digest }

abbrev pub is_published : Option (List ℕ) → FileRef → Bool
is_published None f = true
is_published (Some t) f = is_match (chars t) (chars f.name)

abbrev pub targets_among : List ℕ → Option (List ℕ) → List FileRef → List Target
targets_among folder pattern fs = map (target_in folder) (filter (is_published pattern) fs)

-- the files of all patterns, in the order of the report
abbrev pub targets_in : List ℕ → Option (List ℕ) → List (List FileRef) → List Target
targets_in folder pattern lists = flat_map (targets_among folder pattern) lists

abbrev pub pattern_by : Place → Option Formula → List Plain → Judged (Option (List ℕ))
pattern_by p None seen = Ok None
pattern_by p (Some f) seen = named_by p f seen >>= λ t. Ok (Some t)

-- what one directive publishes of these files: first its folder is evaluated, then its pattern
abbrev pub published_by : PublishMeaning → List Plain → List (List FileRef) → Judged (List Target)
published_by x seen lists =
    named_by x.place x.folder seen >>= λ folder.
    pattern_by x.place x.pattern seen >>= λ pattern.
    Ok (targets_in folder pattern lists)

-- what all directives publish
abbrev pub published : List PublishMeaning → List Plain → List (List FileRef) → Judged (List Target)
published [] seen lists = Ok []
published (x ∷ xs) seen lists = published_by x seen lists >>= λ ts. published xs seen lists >>= λ us. Ok (ts ++ us)
