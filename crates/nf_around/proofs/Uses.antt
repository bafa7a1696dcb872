-- What is wrong with the uses of a closure: those of its parameters, and then those of what stands in it.
use Rattle.std.proofs.Common.{◌≡◌, ◌∙◌, ℕ, Bool, true, false, List, [], ◌∷◌, ◌++◌, Option, Some, None, refl, sym, ap}
use Rattle.std.specs.Prelude.{if◌then◌else◌, length}
use Rattle.std.proofs.lemmas.List.{append-nil}
use Rattle.nf_value.specs.declared.place.Place.{Place}
use Rattle.nf_builtins.specs.Natives.{is_among}
use Rattle.nf_ast.specs.Tree as tree
use Rattle.nf_ast.specs.Tree.{Tree, empty, cons, place_of}
use Rattle.nf_placed.specs.Body.{name_in}
use Rattle.nf_names_used.specs.declared.uses.Use.{Use}
use Rattle.nf_names_used.specs.declared.uses.UseKind.TheVariants as kind
use Rattle.nf_names_used.specs.Uses.{uses, used, again_use, again_uses, params_uses, params_of, entered, no_names}
use Rattle.nf_meaning.specs.declared.fault.LowerFault.{LowerFault}
use Rattle.nf_meaning.specs.Lowered.{or_else}
use Rattle.nf_meaning.specs.Functions.{Judge, calls_fault, call_use_fault, judged_within, names_fault, reached_fault}
use Rattle.nf_meaning.specs.Given.{Given, Definitions}
use Rattle.nf_meaning.specs.Names.{Known, Reading, use_fault, uses_fault}

or_joined : (x y z : Option LowerFault) → or_else x (or_else y z) ≡ or_else (or_else x y) z
or_joined None y z = refl
or_joined (Some f) y z = refl

pub or_none : (x : Option LowerFault) → or_else x None ≡ x
or_none None = refl
or_none (Some f) = refl

-- ---- no call is among the uses of parameters

module _ (d : Definitions) (judge : Judge) (within : List (List ℕ)) where
  calls_joined : (us vs : List Use) → calls_fault d judge within (us ++ vs) ≡ or_else (calls_fault d judge within us) (calls_fault d judge within vs)
  calls_joined [] vs = refl
  calls_joined (u ∷ us) vs =
      ap (or_else (call_use_fault d judge within u.kind u.place u.text)) (calls_joined us vs)
      ∙ or_joined (call_use_fault d judge within u.kind u.place u.text) (calls_fault d judge within us) (calls_fault d judge within vs)

  again_calls : (b : Bool) (p : Place) (n : List ℕ) → calls_fault d judge within (if b then used kind.Again p n ∷ [] else []) ≡ None
  again_calls true p n = refl
  again_calls false p n = refl

  none_called : (known : List (List ℕ)) (t : Tree) → calls_fault d judge within (again_uses known t) ≡ None
  none_called known (cons n more) =
      calls_joined (again_use known n) (again_uses (known ++ name_in n ∷ []) more)
      ∙ ap (λ x. or_else x (calls_fault d judge within (again_uses (known ++ name_in n ∷ []) more))) (again_calls (is_among (name_in n) known) (place_of n) (name_in n))
      ∙ none_called (known ++ name_in n ∷ []) more
  none_called known _ = refl

  params_call_none : (ps : Tree) → calls_fault d judge within (params_uses ps) ≡ None
  params_call_none (tree.params ns) = none_called [] ns
  params_call_none _ = refl

-- ---- the uses of parameters come first

module _ (g : Given) (d : Definitions) (k : Known) (r : Reading) where
  uses_joined : (us vs : List Use) → uses_fault g d k r (us ++ vs) ≡ or_else (uses_fault g d k r us) (uses_fault g d k r vs)
  uses_joined [] vs = refl
  uses_joined (u ∷ us) vs =
      ap (or_else (use_fault g d k r u.kind u.place u.text)) (uses_joined us vs)
      ∙ or_joined (use_fault g d k r u.kind u.place u.text) (uses_fault g d k r us) (uses_fault g d k r vs)

  joined_by : (p v c w : Option LowerFault) → c ≡ None → or_else (or_else p v) (or_else c w) ≡ or_else p (or_else v w)
  joined_by p v c w h = ap (λ x. or_else (or_else p v) (or_else x w)) h ∙ sym (or_joined p v w)

  pub params_first : (judge : Judge) (within : List (List ℕ)) (ps : Tree) (vs : List Use)
      → reached_fault g d k r judge within (params_uses ps ++ vs) ≡ or_else (uses_fault g d k r (params_uses ps)) (reached_fault g d k r judge within vs)
  params_first judge within ps vs =
      ap (λ x. or_else x (calls_fault d judge within (params_uses ps ++ vs))) (uses_joined (params_uses ps) vs)
      ∙ ap (or_else (or_else (uses_fault g d k r (params_uses ps)) (uses_fault g d k r vs))) (calls_joined d judge within (params_uses ps) vs)
      ∙ joined_by (uses_fault g d k r (params_uses ps)) (uses_fault g d k r vs) (calls_fault d judge within (params_uses ps)) (calls_fault d judge within vs) (params_call_none d judge within ps)

  -- a closure of which only the parameters are there
  pub params_alone : (p : Place) (ps : Tree) → names_fault g d k r (tree.closure p ps empty) no_names ≡ uses_fault g d k r (params_uses ps)
  params_alone p ps =
      params_first (judged_within (length d.functions) g d) [] ps [] ∙ or_none (uses_fault g d k r (params_uses ps))

  -- one with one label, whose parameters have different names
  pub label_alone : (p : Place) (ps n e : Tree) → uses_fault g d k r (params_uses ps) ≡ None
      → names_fault g d k r (tree.closure p ps (cons (tree.label n e) empty)) no_names ≡ names_fault g d k r e (entered (params_of ps) no_names)
  label_alone p ps n e h =
      ap (λ vs. reached_fault g d k r (judged_within (length d.functions) g d) [] (params_uses ps ++ vs)) (append-nil (uses e (entered (params_of ps) no_names)))
      ∙ params_first (judged_within (length d.functions) g d) [] ps (uses e (entered (params_of ps) no_names))
      ∙ ap (λ x. or_else x (names_fault g d k r e (entered (params_of ps) no_names))) h
