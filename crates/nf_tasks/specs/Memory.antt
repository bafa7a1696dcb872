-- What a process in memory means.
use Rattle.std.specs.Prelude.{ℕ, List, [], ◌∷◌, Bool, true, false, Option, option_map, map}
use Rattle.std.specs.List.{list_any}
use Rattle.nf_value.specs.Plain.{Plain}
use Rattle.nf_eval.specs.Closing.{closing_of}
use Rattle.nf_eval.specs.Evaluation.{apply_of}
use Rattle.nf_eval.specs.declared.closures.Closure.{Closure}
use Rattle.nf_tasks.specs.declared.process.ProcessSpec.{ProcessSpec}
use Rattle.nf_tasks.specs.declared.process.Output.{Output}
use Rattle.nf_tasks.specs.declared.process.OutputShape.{OutputShape}
use Rattle.nf_tasks.specs.declared.process.OutputShape.TheVariants.{One, Tuple}
use Rattle.nf_tasks.specs.declared.process.OutputPart.{OutputPart}
use Rattle.nf_tasks.specs.declared.process.OutputPart.TheVariants.{Val, Path, Stdout}
use Rattle.nf_tasks.specs.declared.process.Publish.{Publish}
use Rattle.nf_tasks.specs.Meaning.{Formula, PartMeaning, value, files, captured, ShapeMeaning, one, tuple, OutputMeaning, PublishMeaning, ProcessMeaning}

-- the program's functions: their names, and their answers
pub record Program : Type 0 where
  pub titles : List (List ℕ)
  pub answer : ℕ → List Plain → Option Plain

abbrev pub program : List (List ℕ) → (ℕ → List Plain → Option Plain) → Program
program titles answer = record { titles = titles; answer = answer }

-- an expression in memory, by what the closure gives
unfoldable pub formula_of : Program → Closure → Formula
formula_of n c = λ vs. apply_of (closing_of c n.titles n.answer) vs

abbrev pub part_of : Program → OutputPart → PartMeaning
part_of n (Val c) = value (formula_of n c)
part_of n (Path c) = files (formula_of n c)
part_of n Stdout = captured

abbrev pub shape_of : Program → OutputShape → ShapeMeaning
shape_of n (One x) = one (part_of n x)
shape_of n (Tuple xs) = tuple (map (part_of n) xs.items)

abbrev pub stored_parts : OutputShape → List OutputPart
stored_parts (One x) = x ∷ []
stored_parts (Tuple xs) = xs.items

abbrev pub is_stored_stdout : OutputPart → Bool
is_stored_stdout (Val c) = false
is_stored_stdout (Path c) = false
is_stored_stdout Stdout = true

-- whether the standard output is a part of an output
abbrev pub has_stored_stdout : Output → Bool
has_stored_stdout o = list_any is_stored_stdout (stored_parts o.shape)

abbrev pub output_of : Program → Output → OutputMeaning
output_of n o = record { place = o.place; optional = o.optional; shape = shape_of n o.shape }

abbrev pub publish_of : Program → Publish → PublishMeaning
publish_of n x =
    record { place = x.place; folder = formula_of n x.folder; pattern = option_map (formula_of n) x.pattern }

abbrev pub process_of : Program → ProcessSpec → ProcessMeaning
process_of n s = record {
  name = s.name;
  inputs = s.inputs.items;
  cpus = option_map (formula_of n) s.cpus;
  tag = option_map (formula_of n) s.tag;
  strategy = s.strategy;
  publishes = map (publish_of n) s.publishes.items;
  script_place = s.script.place;
  script = formula_of n s.script.body;
  outputs = map (output_of n) s.outputs.items;
}
