-- A process as its tasks see it, apart from how it lies in memory.
use Rattle.std.specs.Prelude.{ℕ, List, [], ◌∷◌, ◌++◌, Bool, true, false, Option}
use Rattle.std.specs.List.{list_any}
use Rattle.nf_value.specs.declared.place.Place.{Place}
use Rattle.nf_value.specs.Plain.{Plain}
use Rattle.nf_eval.specs.Placed.{Placed}
use Rattle.nf_tasks.specs.declared.inputs.Input.{Input}
use Rattle.nf_tasks.specs.declared.process.ErrorStrategy.{ErrorStrategy}

-- an expression, or the statements of a script: its value or its fault, for the values of the names that it sees
abbrev pub Formula : Type 0
Formula = List Plain → Placed Plain

-- a part of an output: a value, the files of a pattern, or the standard output
pub data PartMeaning : Type 0 where
  value : Formula → PartMeaning
  files : Formula → PartMeaning
  captured : PartMeaning

-- one part, or a tuple of parts
pub data ShapeMeaning : Type 0 where
  one : PartMeaning → ShapeMeaning
  tuple : List PartMeaning → ShapeMeaning

pub record OutputMeaning : Type 0 where
  pub place : Place
  pub optional : Bool
  pub shape : ShapeMeaning

pub record PublishMeaning : Type 0 where
  pub place : Place
  pub folder : Formula
  pub pattern : Option Formula

pub record ProcessMeaning : Type 0 where
  pub name : List ℕ
  pub inputs : List Input
  pub cpus : Option Formula
  pub tag : Option Formula
  pub strategy : ErrorStrategy
  pub publishes : List PublishMeaning
  pub script_place : Place
  pub script : Formula
  pub outputs : List OutputMeaning

abbrev pub parts_in : ShapeMeaning → List PartMeaning
parts_in (one x) = x ∷ []
parts_in (tuple xs) = xs

-- ---- its patterns

-- a pattern of a `path` output, with the place of its output
pub record PatternMeaning : Type 0 where
  pub place : Place
  pub of : Formula

abbrev pub part_patterns : Place → PartMeaning → List PatternMeaning
part_patterns p (value f) = []
part_patterns p (files f) = record { place = p; of = f } ∷ []
part_patterns p captured = []

abbrev pub parts_patterns : Place → List PartMeaning → List PatternMeaning
parts_patterns p [] = []
parts_patterns p (x ∷ xs) = part_patterns p x ++ parts_patterns p xs

-- the patterns of all `path` outputs, in their order
abbrev pub patterns_in : List OutputMeaning → List PatternMeaning
patterns_in [] = []
patterns_in (o ∷ os) = parts_patterns o.place (parts_in o.shape) ++ patterns_in os

abbrev pub part_options : Bool → PartMeaning → List Bool
part_options b (value f) = []
part_options b (files f) = b ∷ []
part_options b captured = []

abbrev pub parts_options : Bool → List PartMeaning → List Bool
parts_options b [] = []
parts_options b (x ∷ xs) = part_options b x ++ parts_options b xs

-- for each of these patterns whether it is optional
abbrev pub options_in : List OutputMeaning → List Bool
options_in [] = []
options_in (o ∷ os) = parts_options o.optional (parts_in o.shape) ++ options_in os

-- ---- whether the standard output is an output

abbrev pub is_captured : PartMeaning → Bool
is_captured (value f) = false
is_captured (files f) = false
is_captured captured = true

abbrev pub wants_stdout : List OutputMeaning → Bool
wants_stdout os = list_any (λ o. list_any is_captured (parts_in o.shape)) os
