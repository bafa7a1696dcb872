-- What expressions of a process see in memory.
use Rattle.std.specs.Prelude.{ℕ, Bool, List, [], ◌∷◌, ◌++◌, map, Option, Err, string_bytes, ◌+◌, if◌then◌else◌}
use Rattle.nf_value.specs.Plain.{Plain}
use Rattle.nf_value.specs.declared.place.Place.{Place}
use Rattle.nf_ast.specs.Tops.{view_top}
use Rattle.nf_ast.specs.Tree as tree
use Rattle.nf_ast.specs.Tree.{Tree}
use Rattle.nf_ast.specs.View.{names, trees}
use Rattle.nf_builtins.specs.Natives.{is_among}
use Rattle.nf_eval.specs.Evaluation.{functions_of}
use Rattle.nf_eval.specs.Memory as memory
use Rattle.nf_eval.specs.Memory.{patterns_of}
use Rattle.nf_meaning.specs.declared.fault.LowerFault.TheVariants.{CallCycle}
use Rattle.nf_meaning.specs.Directives.{Inside, inside}
use Rattle.nf_meaning.specs.Given.{Given}
use Rattle.nf_meaning.specs.Walk as walk
use Rattle.nf_tasks.specs.Memory.{Program, program}
use Rattle.nf_known.specs.Known.{definitions_in}
use Rattle.nf_around.specs.declared.surroundings.Surroundings.{Surroundings}
use Rattle.nf_around.specs.Around.{IsAround}
use Rattle.nf_around.specs.Values.{values_of}

module _ {N : Type 0} (titles_of : N → List (List ℕ)) (answer_of : N → ℕ → List Plain → Option Plain)
    (x : Surroundings N) where
  -- what the meaning rests on, but for the parameters, the folders and what a run adds
  abbrev pub given_of : Given
  given_of = record {
    tops = trees (map view_top x.known.top.definitions);
    params = [];
    folder = [];
    found = [];
    program = program (titles_of x.natives.now) (answer_of x.natives.now);
    patterns = patterns_of x.everywhere.library.value;
    large = map string_bytes x.known.top.patterns.now.large.keys;
    outcomes = λ path inputs number. [];
  }

  -- surroundings in which no workflow can be called
  abbrev pub around_of : walk.Around
  around_of = record {
    given = given_of;
    definitions = definitions_in x.known;
    everywhere = values_of x.everywhere;
    functions = functions_of (memory.definitions_of x.everywhere.library.value) (patterns_of x.everywhere.library.value)
        (titles_of x.natives.now) (answer_of x.natives.now);
    enter = λ p n t cs s. Err (CallCycle p);
  }

  -- what expressions of a process see, with these names of its inputs and `task`
  abbrev pub inside_of : List (List ℕ) → Inside
  inside_of seen = inside around_of seen

  -- the surroundings are those of some script
  abbrev pub StandSomewhere : Type 0
  StandSomewhere = (a : walk.Around) × IsAround titles_of answer_of x a

-- how many of these names stand there already, after those
abbrev pub repeats : List (List ℕ) → List (List ℕ) → ℕ
repeats before [] = 0
repeats before (n ∷ ns) = (if is_among n before then 1 else 0) + repeats (before ++ n ∷ []) ns

-- names as parameters that stand at one place
abbrev pub placed_at : Place → List (List ℕ) → List (Place × List ℕ)
placed_at p ns = map (λ n. (p, n)) ns

-- a closure with these parameters
abbrev pub code_at : Place → List (List ℕ) → Tree → Tree
code_at p ns b = tree.closure p (tree.params (names (placed_at p ns))) b
