-- The definition of a process, as a call of it has it.
use Rattle.std.specs.Prelude.{ℕ, Bool, false, List, [], ◌∷◌, codes, bytes_eq, if◌then◌else◌, Option, Some, None, Ok, Err}
use Rattle.nf_value.specs.declared.place.Place.{Place}
use Rattle.nf_names_used.specs.Natives.{is_among}
use Rattle.nf_ast.specs.Tree as tree
use Rattle.nf_ast.specs.Tree.{Tree, empty, cons, place_of}
use Rattle.nf_names_used.specs.Body.{name_in}
use Rattle.nf_tasks.specs.declared.inputs.Input.{Input}
use Rattle.nf_tasks.specs.declared.inputs.InputShape.{InputShape}
use Rattle.nf_tasks.specs.declared.inputs.InputShape.TheVariants.{One, Tuple}
use Rattle.nf_tasks.specs.declared.input_parts.InputPart.{InputPart}
use Rattle.nf_tasks.specs.declared.input_parts.InputPart.TheVariants.{Val, Path, Stdin}
use Rattle.nf_tasks.specs.Inputs.{seen_names}
use Rattle.nf_tasks.specs.Meaning.{PartMeaning, value, files, captured, ShapeMeaning, one, tuple, OutputMeaning}
use Rattle.nf_meaning.specs.declared.fault.LowerFault.{LowerFault}
use Rattle.nf_meaning.specs.declared.fault.LowerFault.TheVariants.{TwiceDefined, BadOption}
use Rattle.nf_meaning.specs.Lowered.{Lowered, ◌>>=◌, unless, or_else, fault_if}
use Rattle.nf_meaning.specs.Places.{begins_at, is_before}
use Rattle.nf_meaning.specs.Walk.{Around}
use Rattle.nf_meaning.specs.Tasks.{CalledProcess}
use Rattle.nf_meaning.specs.Directives.{Inside, inside, formula, expression, expression_wanted, no_directives, strategy_of, directives_in}

-- ---- inputs

abbrev pub input_part : Tree → InputPart
input_part (tree.val p n) = Val (name_in n)
input_part (tree.path p n) = Path (name_in n)
input_part _ = Stdin

abbrev pub input_parts : Tree → List InputPart
input_parts (cons a more) = input_part a ∷ input_parts more
input_parts _ = []

abbrev pub input_shape : Tree → InputShape
input_shape (tree.tuple p xs) = Tuple (input_parts xs)
input_shape e = One (input_part e)

-- each with the place of its first word
abbrev pub inputs_in : Tree → List Input
inputs_in (tree.section p xs) = inputs_in xs
inputs_in (cons a more) = record { place = begins_at a; shape = input_shape a } ∷ inputs_in more
inputs_in _ = []

-- a name that stands a second time
pub record NamesSoFar : Type 0 where
  pub names : List (List ℕ)
  pub fault : Option LowerFault

abbrev pub and_name : Tree → NamesSoFar → NamesSoFar
and_name n x =
    record {
      names = name_in n ∷ x.names;
      fault = or_else x.fault (fault_if (is_among (name_in n) x.names) (TwiceDefined (place_of n)));
    }

abbrev pub and_names : Tree → NamesSoFar → NamesSoFar
and_names (tree.section p xs) x = and_names xs x
and_names (tree.tuple p xs) x = and_names xs x
and_names (tree.val p n) x = and_name n x
and_names (tree.path p n) x = and_name n x
and_names (cons a more) x = and_names more (and_names a x)
and_names _ x = x

abbrev pub twice_named : Tree → Option LowerFault
twice_named inputs = (and_names inputs (record { names = []; fault = None })).fault

-- ---- outputs

abbrev pub output_part : Inside → Tree → Lowered PartMeaning
output_part x (tree.val p e) = expression_wanted (begins_at e) e >>= expression x >>= λ f. Ok (value f)
output_part x (tree.path p e) = expression_wanted (begins_at e) e >>= expression x >>= λ f. Ok (files f)
output_part x _ = Ok captured

abbrev pub output_parts : Inside → Tree → Lowered (List PartMeaning)
output_parts x (cons a more) = output_part x a >>= λ y. output_parts x more >>= λ ys. Ok (y ∷ ys)
output_parts x _ = Ok []

abbrev pub output_shape : Inside → Tree → Lowered ShapeMeaning
output_shape x (tree.tuple p xs) = output_parts x xs >>= λ ys. Ok (tuple ys)
output_shape x e = output_part x e >>= λ y. Ok (one y)

-- the options of an output: a name, by which a workflow takes it, and whether its files may be missing
pub record OutputOptions : Type 0 where
  pub label : Option (List ℕ)
  pub optional : Bool

abbrev pub no_options : OutputOptions
no_options = record { label = None; optional = false }

abbrev pub and_label : Option (List ℕ) → List (List ℕ) → List (List ℕ)
and_label (Some n) before = n ∷ before
and_label None before = before

-- `emit: NAME`, with a name that no output before it has, nor this one already
abbrev pub emit_in : List (List ℕ) → Place → Tree → OutputOptions → Lowered OutputOptions
emit_in before p (tree.name q n) o =
    unless (fault_if (is_among n (and_label o.label before)) (TwiceDefined q)) (Ok (record o { label = Some n }))
emit_in before p _ o = Err (BadOption p)

abbrev pub optional_in : Place → Tree → OutputOptions → Lowered OutputOptions
optional_in p (tree.truth q b) o = Ok (record o { optional = b })
optional_in p _ o = Err (BadOption p)

abbrev pub with_option : List (List ℕ) → Place → List ℕ → Tree → OutputOptions → Lowered OutputOptions
with_option before p n e o =
    if bytes_eq n (codes "emit") then emit_in before p e o
    else if bytes_eq n (codes "optional") then optional_in p e o
    else Err (BadOption p)

abbrev pub options_in : List (List ℕ) → Tree → OutputOptions → Lowered OutputOptions
options_in before (cons (tree.label n e) more) o =
    with_option before (place_of n) (name_in n) e o >>= options_in before more
options_in before (cons e more) o = options_in before more o
options_in before _ o = Ok o

pub record NamedOutput : Type 0 where
  pub label : Option (List ℕ)
  pub output : OutputMeaning

abbrev pub named_output : Inside → List (List ℕ) → Tree → Tree → Lowered NamedOutput
named_output x before v os =
    output_shape x v >>= λ shape. options_in before os no_options >>= λ o.
    Ok (record { label = o.label; output = record { place = begins_at v; optional = o.optional; shape = shape } })

abbrev pub outputs_in : Inside → List (List ℕ) → Tree → Lowered (List NamedOutput)
outputs_in x before (tree.section p xs) = outputs_in x before xs
outputs_in x before (cons (tree.output v os) more) =
    named_output x before v os >>= λ y. outputs_in x (and_label y.label before) more >>= λ ys. Ok (y ∷ ys)
outputs_in x before (cons e more) = outputs_in x before more
outputs_in x before _ = Ok []

-- ---- the script: the statements of its section, or one string

pub record ScriptPart : Type 0 where
  pub place : Place
  pub body : Tree

abbrev pub script_part : Tree → ScriptPart
script_part (tree.section p xs) = record { place = p; body = xs }
script_part e = record { place = begins_at e; body = cons e empty }

-- ---- the whole

-- the parts of a definition: its inputs and its outputs are looked at in the order of the text
abbrev pub in_text_order : Tree → Tree → Option LowerFault → Lowered (List NamedOutput) → Lowered (List NamedOutput)
in_text_order ins os fault ys =
    if is_before (begins_at os) (begins_at ins) then (ys >>= λ zs. unless fault (Ok zs)) else unless fault ys

abbrev pub outputs_of : List NamedOutput → List OutputMeaning
outputs_of [] = []
outputs_of (y ∷ ys) = y.output ∷ outputs_of ys

abbrev pub labels_of : List NamedOutput → List (Option (List ℕ))
labels_of [] = []
labels_of (y ∷ ys) = y.label ∷ labels_of ys

-- a process whose call has this path
abbrev pub process_with : Inside → List ℕ → Tree → Tree → Tree → Tree → Lowered CalledProcess
process_with x path ds ins os task =
    directives_in x ds no_directives >>= λ d.
    in_text_order ins os (twice_named ins) (outputs_in x [] os) >>= λ ys.
    formula x (script_part task).place (script_part task).body >>= λ f.
    Ok (record {
      labels = labels_of ys;
      process = record {
        name = path;
        inputs = inputs_in ins;
        cpus = d.cpus;
        tag = d.tag;
        strategy = strategy_of d;
        publishes = d.publishes;
        script_place = (script_part task).place;
        script = f;
        outputs = outputs_of ys;
      };
    })

abbrev pub called_process : Around → List ℕ → Tree → Lowered CalledProcess
called_process a path (tree.process p n ds ins os task stub) =
    process_with (inside a (seen_names (inputs_in ins))) path ds ins os task
called_process a path e = Err (BadOption (begins_at e))

-- the inputs of a definition
abbrev pub inputs_of : Tree → List Input
inputs_of (tree.process p n ds ins os task stub) = inputs_in ins
inputs_of _ = []
