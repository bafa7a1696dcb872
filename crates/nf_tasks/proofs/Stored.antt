-- What is known of a process in memory without its expressions.
use Rattle.std.proofs.Common.{◌≡◌, List, [], ◌∷◌, ◌||◌, ℕ, ◌+◌, Bool, true, false, ◌&&◌, drop, map, Option, Ok, Err, refl, ap, sym, ◌∙◌}
use Rattle.std.specs.List.{list_any}
use Rattle.std.specs.Result.{IfOk}
use Rattle.std.specs.declared.result.Result.{Result}
use Rattle.nf_value.specs.declared.mem.Mem.{Mem}
use Rattle.nf_job.specs.declared.fault.TaskFault.{TaskFault}
use Rattle.nf_tasks.specs.declared.process.Output.{Output}
use Rattle.nf_tasks.specs.declared.process.OutputShape.{OutputShape}
use Rattle.nf_tasks.specs.declared.process.OutputShape.TheVariants.{One, Tuple}
use Rattle.nf_tasks.specs.declared.process.OutputPart.{OutputPart}
use Rattle.nf_tasks.specs.declared.process.OutputPart.TheVariants.{Val, Path, Stdout}
use Rattle.nf_value.specs.declared.file.FileRef.{FileRef}
use Rattle.nf_tasks.specs.Failure.{first_files}
use Rattle.nf_tasks.specs.Emission.{all_there, part_left, part_there}
use Rattle.nf_tasks.specs.Meaning.{is_captured, parts_in, wants_stdout}
use Rattle.nf_tasks.specs.Memory.{Program, output_of, part_of, shape_of, stored_parts, is_stored_stdout, has_stored_stdout}

pub parts_meant : (n : Program) (s : OutputShape) → map (part_of n) (stored_parts s) ≡ parts_in (shape_of n s)
parts_meant n (One x) = refl
parts_meant n (Tuple xs) = refl

captured_same : (n : Program) (x : OutputPart) → is_stored_stdout x ≡ is_captured (part_of n x)
captured_same n (Val c) = refl
captured_same n (Path c) = refl
captured_same n Stdout = refl

any_same : (n : Program) (xs : List OutputPart) → list_any is_stored_stdout xs ≡ list_any is_captured (map (part_of n) xs)
any_same n [] = refl
any_same n (x ∷ xs) = λ i. captured_same n x i || any_same n xs i

pub wants_same : (n : Program) (os : List Output) → list_any has_stored_stdout os ≡ wants_stdout (map (output_of n) os)
wants_same n [] = refl
wants_same n (o ∷ os) = λ i. (any_same n (stored_parts o.shape) ∙ ap (list_any is_captured) (parts_meant n o.shape)) i || wants_same n os i

-- a fault that doesn't rest on the program's functions
pub failing : (r : Result (Option TaskFault) Mem) (due : Option TaskFault) (want : Program → Option TaskFault) → ((n : Program) → due ≡ want n) → IfOk r (λ f. f ≡ due) → IfOk r (λ f. (n : Program) → f ≡ want n)
failing (Ok f) due want e h = λ n. h ∙ e n
failing (Err x) due want e h = h

-- the first part of those that are left has its files, or not
pub stops_first : (n : Program) (x : OutputPart) (parts : List OutputPart) (i : ℕ) (left : List (List FileRef)) (fs : List FileRef) (b : Bool) → b ≡ false → fs ≡ first_files left → b ≡ part_there (part_of n x) fs → all_there (map (part_of n) (x ∷ drop (i + 1) parts)) left ≡ false
stops_first n x parts i left fs b no_files is there =
    ap (λ t. t && all_there (map (part_of n) (drop (i + 1) parts)) (part_left (part_of n x) left)) (ap (part_there (part_of n x)) (sym is) ∙ sym there ∙ no_files)

pub passes_first : (n : Program) (x : OutputPart) (parts : List OutputPart) (i : ℕ) (left next : List (List FileRef)) (fs : List FileRef) (b : Bool) → b ≡ true → fs ≡ first_files left → b ≡ part_there (part_of n x) fs → next ≡ part_left (part_of n x) left
    → all_there (map (part_of n) (x ∷ drop (i + 1) parts)) left ≡ all_there (map (part_of n) (drop (i + 1) parts)) next
passes_first n x parts i left next fs b all is there goes =
    ap (λ t. t && all_there (map (part_of n) (drop (i + 1) parts)) (part_left (part_of n x) left)) (ap (part_there (part_of n x)) (sym is) ∙ sym there ∙ all)
    ∙ ap (all_there (map (part_of n) (drop (i + 1) parts))) (sym goes)
