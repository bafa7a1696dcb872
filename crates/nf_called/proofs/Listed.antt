-- Outputs, one after another.
use Rattle.std.proofs.Common.{◌≡◌, ℕ, ◌+◌, ◌<◌, ◌≤◌, List, [], ◌∷◌, ◌++◌, length, get_or, map, Ok, Err, refl, sym, ap, subst, ◌∙◌, append_assoc}
use Rattle.std.specs.Global.{Vec}
use Rattle.std.proofs.lemmas.List.{map-append}
use Rattle.nf_value.specs.declared.place.Place.{Place}
use Rattle.nf_ast.specs.Tree.{Tree}
use Rattle.nf_ast.specs.declared.expr.Expr.{Expr}
use Rattle.nf_ast.specs.View.{trees, view}
use Rattle.nf_ast.specs.Tops.{view_input_part, view_output, view_output_part, view_output_value}
use Rattle.nf_ast.specs.declared.tops.InputPart as ast_input
use Rattle.nf_ast.specs.declared.tops.InputPart.TheVariants as input_part
use Rattle.nf_ast.specs.declared.tops.OutputPart as ast_output
use Rattle.nf_ast.specs.declared.tops.OutputPart.TheVariants as output_part
use Rattle.nf_ast.specs.declared.tops.Output as ast
use Rattle.nf_ast.specs.declared.tops.OutputValue as ast_value
use Rattle.nf_ast.specs.declared.tops.OutputValue.TheVariants as output_value
use Rattle.nf_eval.specs.declared.closures.Closure.{Closure}
use Rattle.nf_tasks.specs.Meaning.{files, one, tuple, value, ShapeMeaning}
use Rattle.nf_tasks.specs.Memory.{Program, output_of, shape_of}
use Rattle.nf_tasks.specs.declared.inputs.InputShape.TheVariants.{One}
use Rattle.nf_tasks.specs.declared.process.Output.{Output}
use Rattle.nf_tasks.specs.declared.process.OutputPart.{OutputPart}
use Rattle.nf_tasks.specs.declared.process.OutputPart.TheVariants as task_part
use Rattle.nf_tasks.specs.declared.process.OutputShape.{OutputShape}
use Rattle.nf_tasks.specs.declared.process.OutputShape.TheVariants as task_shape
use Rattle.nf_meaning.specs.declared.fault.LowerFault.{LowerFault}
use Rattle.nf_meaning.specs.Lowered.{Lowered, ◌>>=◌}
use Rattle.nf_meaning.specs.Places.{begins_at}
use Rattle.nf_meaning.specs.Directives.{Inside}
use Rattle.nf_meaning.specs.Processes as process
use Rattle.nf_meaning.specs.Processes.{NamedOutput, and_label, input_shape, labels_of, named_output, no_options, options_in, output_shape, outputs_in, outputs_of}
use Rattle.nf_lowered.specs.Given.{HasFault, HasValue}
use Rattle.nf_lowered.proofs.Joining.{fault_on}
use Rattle.nf_called.specs.declared.options.OutputOptions as own
use Rattle.nf_called.specs.Options as mine
use Rattle.nf_called.specs.Options.{AreOptions}
use Rattle.nf_called.specs.Formulas.{IsFormula}
use Rattle.nf_called.specs.Outputs.{AreOutputs, ArePartsOf, IsOutput, IsPartOf, IsShapeOf, output_in, wanted_expression}
use Rattle.nf_called.proofs.Labels.{labels_push}
use Rattle.nf_called.proofs.Steps.{fault_as, mapped, then_gives, value_as}
use Rattle.nf_called.proofs.Turns.{behind, next, rest, thing_end}

pub one_shape : (x : Inside) (part : ast_output.OutputPart) → output_shape x (view_output_part part) ≡ (process.output_part x (view_output_part part) >>= λ y. Ok (one y))
one_shape x (output_part.Val p e) = refl
one_shape x (output_part.Path p e) = refl
one_shape x (output_part.Stdout p) = refl

pub one_input : (part : ast_input.InputPart) → input_shape (view_input_part part) ≡ One (process.input_part (view_input_part part))
one_input (input_part.Val p q n) = refl
one_input (input_part.Path p q n) = refl
one_input (input_part.Stdin p) = refl

-- ---- a list of outputs

outputs_push : (ms : List NamedOutput) (m : NamedOutput) → outputs_of (ms ++ m ∷ []) ≡ outputs_of ms ++ m.output ∷ []
outputs_push [] m = refl
outputs_push (x ∷ ms) m = ap (λ ys. x.output ∷ ys) (outputs_push ms m)

names_push : (ms : List NamedOutput) (m : NamedOutput) → labels_of (ms ++ m ∷ []) ≡ labels_of ms ++ m.label ∷ []
names_push [] m = refl
names_push (x ∷ ms) m = ap (λ ys. x.label ∷ ys) (names_push ms m)

pub outputs_more : (n : Program) (os : List Output) (o : Output) (ms : List NamedOutput) (m : NamedOutput) → AreOutputs n os ms → IsOutput n o m → AreOutputs n (os ++ o ∷ []) (ms ++ m ∷ [])
outputs_more n os o ms m are is = record {
  labels = map-append (λ (z : Output). z.emit) os (o ∷ []) ∙ (λ i. are.labels i ++ is.label i ∷ []) ∙ sym (names_push ms m);
  outputs = map-append (output_of n) os (o ∷ []) ∙ (λ i. are.outputs i ++ is.output i ∷ []) ∙ sym (outputs_push ms m);
}

behind_one : (done : List NamedOutput) (m : NamedOutput) (w : Lowered (List NamedOutput)) → behind done (w >>= λ ys. Ok (m ∷ ys)) ≡ behind (done ++ m ∷ []) w
behind_one done m (Ok ys) = ap Ok (sym (append_assoc done (m ∷ []) ys))
behind_one done m (Err e) = refl

module _ (n : Program) (x : Inside) (xs : List ast.Output) (i : ℕ) (item : ast.Output) (l : i < length xs) (is : item ≡ get_or xs i item) where
  pub output_turn : (os : List Output) (o : Output) (done : List NamedOutput) (m : NamedOutput) (whole : Lowered (List NamedOutput)) → IsOutput n o m
      → output_in x (mine.labels_of os) (view_output item) ≡ Ok m → behind done (outputs_in x (mine.labels_of os) (rest view_output xs i)) ≡ whole
      → behind (done ++ m ∷ []) (outputs_in x (mine.labels_of (os ++ o ∷ [])) (rest view_output xs (i + 1))) ≡ whole
  output_turn os o done m whole made h inv =
      let more = rest view_output xs (i + 1) in
      ap (λ ls. behind (done ++ m ∷ []) (outputs_in x ls more)) (labels_push [] os o ∙ ap (λ e. and_label e (mine.labels_of os)) made.label)
      ∙ sym (behind_one done m (outputs_in x (and_label m.label (mine.labels_of os)) more))
      ∙ sym (ap (λ w. behind done (w >>= λ y. outputs_in x (and_label y.label (mine.labels_of os)) more >>= λ ys. Ok (y ∷ ys))) h)
      ∙ sym (ap (λ r. behind done (outputs_in x (mine.labels_of os) r)) (next view_output xs i item l is)) ∙ inv

  pub output_pushed : (os : List Output) (o : Output) (pushed : List Output) (done : List NamedOutput) (m : NamedOutput) (whole : Lowered (List NamedOutput)) → IsOutput n o m
      → output_in x (mine.labels_of os) (view_output item) ≡ Ok m → pushed ≡ os ++ o ∷ [] → behind done (outputs_in x (mine.labels_of os) (rest view_output xs i)) ≡ whole
      → behind (done ++ m ∷ []) (outputs_in x (mine.labels_of pushed) (rest view_output xs (i + 1))) ≡ whole
  output_pushed os o pushed done m whole made h is inv =
      ap (λ l. behind (done ++ m ∷ []) (outputs_in x (mine.labels_of l) (rest view_output xs (i + 1)))) is ∙ output_turn os o done m whole made h inv

  pub output_fault : (os : List Output) (done : List NamedOutput) (whole : Lowered (List NamedOutput)) (e : LowerFault)
      → behind done (outputs_in x (mine.labels_of os) (rest view_output xs i)) ≡ whole → HasFault (output_in x (mine.labels_of os) (view_output item)) e → HasFault whole e
  output_fault os done whole e inv h =
      let more = rest view_output xs (i + 1) in
      subst (λ w. HasFault w e)
      (sym (ap (λ r. behind done (outputs_in x (mine.labels_of os) r)) (next view_output xs i item l is)) ∙ inv)
      (fault_on (output_in x (mine.labels_of os) (view_output item) >>= λ y. outputs_in x (and_label y.label (mine.labels_of os)) more >>= λ ys. Ok (y ∷ ys)) (λ ys. Ok (done ++ ys)) e
      (fault_on (output_in x (mine.labels_of os) (view_output item)) (λ y. outputs_in x (and_label y.label (mine.labels_of os)) more >>= λ ys. Ok (y ∷ ys)) e h))

pub output_end : (x : Inside) (xs : List ast.Output) (i : ℕ) (os : List Output) (done : List NamedOutput) (whole : Lowered (List NamedOutput)) → length xs ≤ i
    → behind done (outputs_in x (mine.labels_of os) (rest view_output xs i)) ≡ whole → whole ≡ Ok done
output_end x xs i os done whole h inv = thing_end view_output (outputs_in x (mine.labels_of os)) refl xs i done whole h inv

-- ---- one output

module _ (x : Inside) (before : List (List ℕ)) (v os : Tree) where
  abbrev made : ShapeMeaning → process.OutputOptions → NamedOutput
  made shape o = record { label = o.label; output = record { place = begins_at v; optional = o.optional; shape = shape } }

  abbrev after_shape : ShapeMeaning → Lowered NamedOutput
  after_shape shape = options_in before os no_options >>= λ o. Ok (made shape o)

  pub shape_fault : (e : LowerFault) → HasFault (output_shape x v) e → HasFault (named_output x before v os) e
  shape_fault e h = fault_on (output_shape x v) after_shape e h

  pub options_fault : (n : Program) (s : OutputShape) (e : LowerFault) → HasValue (output_shape x v) (IsShapeOf n s) → HasFault (options_in before os no_options) e
      → HasFault (named_output x before v os) e
  options_fault n s e shape h =
      then_gives {C = NamedOutput} (IsShapeOf n s) (λ _ _. Unit {0}) (output_shape x v) after_shape (Err e) shape (λ y _. fault_on (options_in before os no_options) (λ o. Ok (made y o)) e h)

  pub output_given : (n : Program) (s : OutputShape) (r : own.OutputOptions) (o : Output) → HasValue (output_shape x v) (IsShapeOf n s)
      → HasValue (options_in before os no_options) (AreOptions r) → o.emit ≡ r.label → o.optional ≡ r.optional → o.place ≡ begins_at v → o.shape ≡ s
      → HasValue (named_output x before v os) (IsOutput n o)
  output_given n s r o shape options emit optional place is = record {
    value = made shape.value options.value;
    is = ap (λ w. w >>= after_shape) shape.is ∙ ap (λ w. w >>= λ z. Ok (made shape.value z)) options.is;
    fits = record {
      label = emit ∙ ap (λ (z : process.OutputOptions). z.label) options.fits;
      output = λ i. record {
        place = place i;
        optional = (optional ∙ ap (λ (z : process.OutputOptions). z.optional) options.fits) i;
        shape = (ap (shape_of n) is ∙ shape.fits) i;
      };
    };
  }

-- ---- the parts of an output

module _ (x : Inside) (part : ast_output.OutputPart) (p : Place) (e : Expr) where
  pub val_part : (n : Program) → part ≡ output_part.Val p e → (c : Closure) → HasValue (wanted_expression x (view e)) (IsFormula n c)
      → HasValue (process.output_part x (view_output_part part)) (IsPartOf n (task_part.Val c))
  val_part n is c v =
      value_as (IsPartOf n (task_part.Val c)) _ _ (ap (λ z. process.output_part x (view_output_part z)) is)
      (mapped (IsFormula n c) (IsPartOf n (task_part.Val c)) (wanted_expression x (view e)) value v (λ f h. ap value h))

  pub val_fault : part ≡ output_part.Val p e → (f : LowerFault) → HasFault (wanted_expression x (view e)) f → HasFault (process.output_part x (view_output_part part)) f
  val_fault is f h = fault_as _ _ f (ap (λ z. process.output_part x (view_output_part z)) is) (fault_on (wanted_expression x (view e)) (λ y. Ok (value y)) f h)

  pub path_part : (n : Program) → part ≡ output_part.Path p e → (c : Closure) → HasValue (wanted_expression x (view e)) (IsFormula n c)
      → HasValue (process.output_part x (view_output_part part)) (IsPartOf n (task_part.Path c))
  path_part n is c v =
      value_as (IsPartOf n (task_part.Path c)) _ _ (ap (λ z. process.output_part x (view_output_part z)) is)
      (mapped (IsFormula n c) (IsPartOf n (task_part.Path c)) (wanted_expression x (view e)) files v (λ f h. ap files h))

  pub path_fault : part ≡ output_part.Path p e → (f : LowerFault) → HasFault (wanted_expression x (view e)) f → HasFault (process.output_part x (view_output_part part)) f
  path_fault is f h = fault_as _ _ f (ap (λ z. process.output_part x (view_output_part z)) is) (fault_on (wanted_expression x (view e)) (λ y. Ok (files y)) f h)

-- ---- what an output gives

module _ (x : Inside) (whole : ast_value.OutputValue) where
  pub one_given : (n : Program) (part : ast_output.OutputPart) → whole ≡ output_value.One part → (y : OutputPart) → HasValue (process.output_part x (view_output_part part)) (IsPartOf n y)
      → HasValue (output_shape x (view_output_value whole)) (IsShapeOf n (task_shape.One y))
  one_given n part is y v =
      value_as (IsShapeOf n (task_shape.One y)) _ _ (ap (λ z. output_shape x (view_output_value z)) is ∙ one_shape x part)
      (mapped (IsPartOf n y) (IsShapeOf n (task_shape.One y)) (process.output_part x (view_output_part part)) one v (λ m h. ap one h))

  pub one_fault : (part : ast_output.OutputPart) → whole ≡ output_value.One part → (f : LowerFault) → HasFault (process.output_part x (view_output_part part)) f
      → HasFault (output_shape x (view_output_value whole)) f
  one_fault part is f h =
      fault_as _ _ f (ap (λ z. output_shape x (view_output_value z)) is ∙ one_shape x part) (fault_on (process.output_part x (view_output_part part)) (λ y. Ok (one y)) f h)

  pub tuple_given : (n : Program) (p : Place) (parts : Vec ast_output.OutputPart) → whole ≡ output_value.Tuple p parts → (ys : Vec OutputPart)
      → HasValue (process.output_parts x (trees (map view_output_part parts.items))) (ArePartsOf n ys.items) → HasValue (output_shape x (view_output_value whole)) (IsShapeOf n (task_shape.Tuple ys))
  tuple_given n p parts is ys v =
      value_as (IsShapeOf n (task_shape.Tuple ys)) _ _ (ap (λ z. output_shape x (view_output_value z)) is)
      (mapped (ArePartsOf n ys.items) (IsShapeOf n (task_shape.Tuple ys)) (process.output_parts x (trees (map view_output_part parts.items))) tuple v (λ ms h. ap tuple h))

  pub tuple_fault : (p : Place) (parts : Vec ast_output.OutputPart) → whole ≡ output_value.Tuple p parts → (f : LowerFault)
      → HasFault (process.output_parts x (trees (map view_output_part parts.items))) f → HasFault (output_shape x (view_output_value whole)) f
  tuple_fault p parts is f h =
      fault_as _ _ f (ap (λ z. output_shape x (view_output_value z)) is) (fault_on (process.output_parts x (trees (map view_output_part parts.items))) (λ ys. Ok (tuple ys)) f h)
