-- A process, from its parts.
use Rattle.std.proofs.Common.{◌≡◌, ℕ, Bool, true, List, [], map, Ok, Err, refl, ap, subst, sym, ◌∙◌}
use Rattle.std.specs.Prelude.{if◌then◌else◌, Option, Some, None, option_map}
use Rattle.std.proofs.lemmas.Bool.{true≢false}
use Rattle.nf_ast.specs.declared.expr.Expr.{Expr}
use Rattle.nf_ast.specs.declared.tops.Section.{Section}
use Rattle.nf_ast.specs.declared.tops.Task.{Task}
use Rattle.nf_ast.specs.declared.tops.Task.TheVariants as task_of
use Rattle.nf_ast.specs.Tops.{view_task}
use Rattle.nf_ast.specs.Tree as tree
use Rattle.nf_ast.specs.Tree.{Tree, cons, empty}
use Rattle.nf_ast.specs.View.{view, view_stmts}
use Rattle.nf_tasks.specs.Meaning.{Formula}
use Rattle.nf_tasks.specs.Memory.{Program, formula_of, publish_of}
use Rattle.nf_tasks.specs.declared.process.ProcessSpec.{ProcessSpec}
use Rattle.nf_tasks.specs.declared.process.TaskScript.{TaskScript}
use Rattle.nf_meaning.specs.declared.fault.LowerFault.{LowerFault}
use Rattle.nf_meaning.specs.Lowered.{Lowered, ◌>>=◌, unless}
use Rattle.nf_meaning.specs.Places.{begins_at, is_before}
use Rattle.nf_meaning.specs.Tasks.{CalledProcess}
use Rattle.nf_meaning.specs.Directives as meaning
use Rattle.nf_meaning.specs.Directives.{Inside, directives_in, expression, formula, no_directives, strategy_of}
use Rattle.nf_meaning.specs.Processes.{NamedOutput, ScriptPart, in_text_order, inputs_in, labels_of, outputs_in, outputs_of, process_with, script_part, twice_named}
use Rattle.nf_lowered.specs.Given.{HasFault, HasValue}
use Rattle.nf_lowered.proofs.Joining.{fault_by, fault_on}
use Rattle.nf_called.specs.declared.directives.Settings.{Settings}
use Rattle.nf_called.specs.Called.{IsCalled, IsScript, script_of}
use Rattle.nf_called.specs.Directives.{AreSettings}
use Rattle.nf_called.specs.Formulas.{IsFormula}
use Rattle.nf_called.specs.Leaves.{is_alone}
use Rattle.nf_called.specs.Outputs.{AreOutputs}
use Rattle.nf_called.proofs.Steps.{nothing, then_gives}

module _ (x : Inside) (path : List ℕ) (ds ins os task : Tree) where
  abbrev outputs : Lowered (List NamedOutput)
  outputs = in_text_order ins os (twice_named ins) (outputs_in x [] os)

  abbrev made : meaning.Directives → List NamedOutput → Formula → CalledProcess
  made d ys f = record {
    labels = labels_of ys;
    process = record {
      name = path;
      inputs = inputs_in ins;
      cpus = d.cpus;
      tag = d.tag;
      strategy = strategy_of d;
      publishes = d.publishes;
      script_place = (script_part task).place;
      script = f;
      outputs = outputs_of ys;
    };
  }

  abbrev from_script : meaning.Directives → List NamedOutput → Lowered CalledProcess
  from_script d ys = script_of x task >>= λ f. Ok (made d ys f)

  abbrev from_outputs : meaning.Directives → Lowered CalledProcess
  from_outputs d = outputs >>= from_script d

  pub settings_fault : (e : LowerFault) → HasFault (directives_in x ds no_directives) e → HasFault (process_with x path ds ins os task) e
  settings_fault e h = fault_on (directives_in x ds no_directives) from_outputs e h

  pub outputs_fault : (P : meaning.Directives → Type 0) (e : LowerFault) → HasValue (directives_in x ds no_directives) P → HasFault outputs e → HasFault (process_with x path ds ins os task) e
  outputs_fault P e d h =
      then_gives {C = CalledProcess} P (λ _ _. Unit {0}) (directives_in x ds no_directives) from_outputs (Err e) d (λ y _. fault_on outputs (from_script y) e h)

  pub script_fault : (P : meaning.Directives → Type 0) (Q : List NamedOutput → Type 0) (e : LowerFault) → HasValue (directives_in x ds no_directives) P → HasValue outputs Q
      → HasFault (script_of x task) e → HasFault (process_with x path ds ins os task) e
  script_fault P Q e d ys h =
      then_gives {C = CalledProcess} P (λ _ _. Unit {0}) (directives_in x ds no_directives) from_outputs (Err e) d
      (λ y _. then_gives {C = CalledProcess} Q (λ _ _. Unit {0}) outputs (from_script y) (Err e) ys (λ z _. fault_on (script_of x task) (λ f. Ok (made y z f)) e h))

  pub all_given : (n : Program) (s : ProcessSpec) (settings : Settings) → HasValue (directives_in x ds no_directives) (AreSettings n settings) → HasValue outputs (AreOutputs n s.outputs.items)
      → HasValue (script_of x task) (IsScript n task s.script) → s.name ≡ path → s.inputs.items ≡ inputs_in ins → s.cpus ≡ settings.cpus → s.tag ≡ settings.tag
      → s.publishes.items ≡ settings.publishes.items → ((m : meaning.Directives) → AreSettings n settings m → s.strategy ≡ strategy_of m)
      → HasValue (process_with x path ds ins os task) (IsCalled n s)
  all_given n s settings d ys f name inputs cpus tag publishes strategy = record {
    value = made d.value ys.value f.value;
    is = ap (λ w. w >>= from_outputs) d.is ∙ ap (λ w. w >>= from_script d.value) ys.is ∙ ap (λ w. w >>= λ g. Ok (made d.value ys.value g)) f.is;
    fits = record {
      process = λ i. record {
        name = name i;
        inputs = inputs i;
        cpus = (ap (option_map (formula_of n)) cpus ∙ d.fits.cpus) i;
        tag = (ap (option_map (formula_of n)) tag ∙ d.fits.tag) i;
        strategy = strategy d.value d.fits i;
        publishes = (ap (map (publish_of n)) publishes ∙ d.fits.publishes) i;
        script_place = f.fits.place i;
        script = f.fits.body i;
        outputs = ys.fits.outputs i;
      };
      labels = ys.fits.labels;
    };
  }

-- ---- inputs and outputs in the order of the text

-- what both parts come to, by which stands first
abbrev pub in_order : Bool → Option LowerFault → Lowered (List NamedOutput) → Lowered (List NamedOutput)
in_order b fault ys = if b then (ys >>= λ zs. unless fault (Ok zs)) else unless fault ys

pub order_is : (ins os : Tree) (fault : Option LowerFault) (ys : Lowered (List NamedOutput)) (b : Bool) → b ≡ is_before (begins_at os) (begins_at ins)
    → in_text_order ins os fault ys ≡ in_order b fault ys
order_is ins os fault ys b h = ap (λ c. in_order c fault ys) (sym h)

-- a name that stands twice
twice : {A : Type 0} (o : Option LowerFault) (w : Lowered A) (e : LowerFault) → unless o nothing ≡ Err e → unless o w ≡ Err e
twice None w e h = cc
twice (Some f) w e h = cc

once : {A : Type 0} (o : Option LowerFault) (w : Lowered A) → unless o nothing ≡ Ok tt → unless o w ≡ w
once None w h = refl
once (Some f) w h = cc

-- what comes after names that were looked at
pub names_fault : {A : Type 0} (o : Option LowerFault) (w : Lowered A) (e : LowerFault) → HasFault (unless o nothing) e → HasFault (unless o w) e
names_fault o w e h = fault_by (unless o nothing) (unless o w) e (twice o w e) h

pub names_pass : {A : Type 0} (o : Option LowerFault) (w : Lowered A) (P : Unit {0} → Type 0) → HasValue (unless o nothing) P → unless o w ≡ w
names_pass o w P h = once o w h.is

-- outputs, and then the names of inputs
pub outputs_pass : (o : Option LowerFault) (w : Lowered (List NamedOutput)) (P : Unit {0} → Type 0) (Q : List NamedOutput → Type 0) → HasValue (unless o nothing) P → HasValue w Q
    → HasValue (w >>= λ zs. unless o (Ok zs)) Q
outputs_pass o w P Q names ys = record {
  value = ys.value;
  is = ap (λ z. z >>= λ zs. unless o (Ok zs)) ys.is ∙ names_pass o (Ok ys.value) P names;
  fits = ys.fits;
}

pub outputs_twice : (o : Option LowerFault) (w : Lowered (List NamedOutput)) (Q : List NamedOutput → Type 0) (e : LowerFault) → HasValue w Q → HasFault (unless o nothing) e
    → HasFault (w >>= λ zs. unless o (Ok zs)) e
outputs_twice o w Q e ys h =
    then_gives {C = List NamedOutput} Q (λ _ _. Unit {0}) w (λ zs. unless o (Ok zs)) (Err e) ys (λ zs _. names_fault o (Ok zs) e h)

-- by which of the two stands first
pub order_at : (ins os : Tree) (fault : Option LowerFault) (ys : Lowered (List NamedOutput)) (b v : Bool) → b ≡ is_before (begins_at os) (begins_at ins) → b ≡ v
    → in_text_order ins os fault ys ≡ in_order v fault ys
order_at ins os fault ys b v h is = order_is ins os fault ys b h ∙ ap (λ c. in_order c fault ys) is

-- ---- the script

text_part : (e : Tree) → is_alone e ≡ true → script_part e ≡ record { place = begins_at e; body = cons e empty }
text_part (tree.section p xs) h = absurd (true≢false (sym h))
text_part _ h = refl

module _ (x : Inside) (t : Task) where
  pub section_given : (n : Program) (s : Section) → t ≡ task_of.Script s → (r : TaskScript) → r.place ≡ s.place → HasValue (formula x s.place (view_stmts s.body.items)) (IsFormula n r.body)
      → HasValue (script_of x (view_task t)) (IsScript n (view_task t) r)
  section_given n s is r place v =
      subst (λ u. HasValue (script_of x (view_task u)) (IsScript n (view_task u) r)) (sym is) (record { value = v.value; is = v.is; fits = record { place = place; body = v.fits } })

  pub section_fault : (s : Section) → t ≡ task_of.Script s → (e : LowerFault) → HasFault (formula x s.place (view_stmts s.body.items)) e → HasFault (script_of x (view_task t)) e
  section_fault s is e h = subst (λ u. HasFault (script_of x (view_task u)) e) (sym is) h

  pub text_given : (n : Program) (e : Expr) → t ≡ task_of.Text e → is_alone (view e) ≡ true → (r : TaskScript) → r.place ≡ begins_at (view e) → HasValue (expression x (view e)) (IsFormula n r.body)
      → HasValue (script_of x (view_task t)) (IsScript n (view_task t) r)
  text_given n e is alone r place v =
      subst (λ u. HasValue (script_of x (view_task u)) (IsScript n (view_task u) r)) (sym is) (record {
        value = v.value;
        is = ap (λ (z : ScriptPart). formula x z.place z.body) (text_part (view e) alone) ∙ v.is;
        fits = record { place = place ∙ ap (λ (z : ScriptPart). z.place) (sym (text_part (view e) alone)); body = v.fits };
      })

  pub text_fault : (e : Expr) → t ≡ task_of.Text e → is_alone (view e) ≡ true → (f : LowerFault) → HasFault (expression x (view e)) f → HasFault (script_of x (view_task t)) f
  text_fault e is alone f h =
      subst (λ u. HasFault (script_of x (view_task u)) f) (sym is) (subst (λ w. HasFault w f) (sym (ap (λ (z : ScriptPart). formula x z.place z.body) (text_part (view e) alone))) h)
