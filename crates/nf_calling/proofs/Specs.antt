-- A process in memory, as its call has it.
use Rattle.std.proofs.Common.{◌≡◌, ℕ, List, Option, Result, Ok, Err, IfOk, sym, ap, ◌∙◌, subst}
use Rattle.nf_value.specs.Plain.{Plain}
use Rattle.nf_ast.specs.Tree.{Tree}
use Rattle.nf_tasks.specs.declared.process.ProcessSpec.{ProcessSpec}
use Rattle.nf_tasks.specs.Meaning.{ProcessMeaning}
use Rattle.nf_tasks.specs.Memory.{Program, program}
use Rattle.nf_meaning.specs.declared.fault.LowerFault.{LowerFault}
use Rattle.nf_meaning.specs.Directives.{Inside, inside}
use Rattle.nf_meaning.specs.Lowered.{Lowered}
use Rattle.nf_meaning.specs.Processes.{process_with}
use Rattle.nf_meaning.specs.Tasks.{CalledProcess}
use Rattle.nf_meaning.specs.Walk.{Around}
use Rattle.nf_lowered.specs.Given.{Gives}
use Rattle.nf_called.specs.Called.{IsCalled}
use Rattle.nf_around.specs.Around.{IsAround}
use Rattle.nf_around.specs.Processes.{inside_of}
use Rattle.nf_around.specs.declared.surroundings.Surroundings.{Surroundings}
use Rattle.nf_calling.proofs.Naming.{is_named}

-- what it means, whatever is around the body
pub spec_means : {N : Type 0} (titles_of : N → List (List ℕ)) (answer_of : N → ℕ → List Plain → Option Plain) (x y : Surroundings N) (seen ns names : List (List ℕ)) (q path : List ℕ)
    (due : List ℕ → Inside → Lowered CalledProcess) (r : Result ProcessSpec LowerFault) → y ≡ x → seen ≡ ns → ns ≡ names → q ≡ path
    → ((a : Around) → IsAround titles_of answer_of x a → inside_of titles_of answer_of x ns ≡ inside a ns)
    → Gives (IsCalled (program (titles_of y.natives.now) (answer_of y.natives.now))) (due q (inside_of titles_of answer_of y seen)) r
    → (a : Around) → IsAround titles_of answer_of x a → Gives (IsCalled a.given.program) (due path (inside a names)) r
spec_means titles_of answer_of x y seen ns names q path due r around as_seen as_named at_path insides means a h =
    let P : Surroundings _ → Type 0 = λ z. Gives (IsCalled (program (titles_of z.natives.now) (answer_of z.natives.now))) (due q (inside_of titles_of answer_of z seen)) r in
    let n : Program = program (titles_of x.natives.now) (answer_of x.natives.now) in
    let one : Gives (IsCalled n) (due q (inside_of titles_of answer_of x seen)) r = subst P around means in
    let two : Gives (IsCalled n) (due q (inside_of titles_of answer_of x ns)) r = subst (λ (ms : List (List ℕ)). Gives (IsCalled n) (due q (inside_of titles_of answer_of x ms)) r) as_seen one in
    let three : Gives (IsCalled n) (due q (inside a ns)) r = subst (λ (i : Inside). Gives (IsCalled n) (due q i) r) (insides a h) two in
    let four : Gives (IsCalled n) (due q (inside a names)) r = subst (λ (ms : List (List ℕ)). Gives (IsCalled n) (due q (inside a ms)) r) as_named three in
    let five : Gives (IsCalled n) (due path (inside a names)) r = subst (λ (m : List ℕ). Gives (IsCalled n) (due m (inside a names)) r) at_path four in
    subst (λ (m : Program). Gives (IsCalled m) (due path (inside a names)) r) (sym h.everywhere.program) five

-- its name is the path of the call
pub named_spec : (n : Program) (i : Inside) (path : List ℕ) (ds ins os task : Tree) (r : Result ProcessSpec LowerFault) → Gives (IsCalled n) (process_with i path ds ins os task) r
    → IfOk r (λ spec. spec.name ≡ path)
named_spec n i path ds ins os task (Ok spec) h = ap (λ (m : ProcessMeaning). m.name) h.fits.process ∙ is_named i path ins os task ds h.value h.is
named_spec n i path ds ins os task (Err e) h = tt
