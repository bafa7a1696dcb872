-- Arguments that are values.
use Rattle.std.proofs.Common.{◌≡◌, ℕ, List, [], ◌∷◌, length, map, slice_get, Option, Some, IfSome, Result, refl, ap, sym, subst, ◌∙◌}
use Rattle.nf_value.specs.Plain.{Plain}
use Rattle.nf_value.specs.declared.place.Place.{Place}
use Rattle.nf_value.specs.declared.value.Value.{Value}
use Rattle.nf_value.specs.declared.fault.EvalRefusal.{EvalRefusal}
use Rattle.nf_texts.specs.declared.fault.CallFault.{CallFault}
use Rattle.nf_texts.specs.Outcome.{Gives}
use Rattle.nf_builtins.specs.declared.method.Method.{Method}
use Rattle.nf_builtins.specs.declared.rows.Builtin.{Builtin}
use Rattle.nf_builtins.specs.declared.rows.Form.{Form}
use Rattle.nf_builtins.specs.declared.rows.Form.TheVariants as form
use Rattle.nf_builtins.specs.Call.{answer_of}
use Rattle.nf_placed.specs.Placed.{Placed, Evaluates, made, placed_of}
use Rattle.nf_placed.specs.Calls.{plain, values_in, with_one, by_values, unfit, by_form}
use Rattle.nf_placed.proofs.Placing.{evaluates}

pub all_values : (vs : List Plain) → values_in (map plain vs) ≡ Some vs
all_values [] = refl
all_values (v ∷ vs) = ap (with_one v) (all_values vs)

pub called : (p : Place) (f : Form) (k : Method) (recv : Plain) (vs : List Plain) (r : Result Value CallFault) (s : Result Value EvalRefusal) → f ≡ form.Call → Gives (answer_of k recv vs) r → s ≡ placed_of p r → Evaluates (by_form f p k recv (map plain vs)) s
called p f k recv vs r s is h e =
    let due : by_form f p k recv (map plain vs) ≡ made p (answer_of k recv vs) = ap (λ g. by_form g p k recv (map plain vs)) is ∙ ap (λ o. by_values p (unfit k recv (length (map plain vs))) o (λ ws. made p (answer_of k recv ws))) (all_values vs) in
    subst (λ (o : Placed Plain). Evaluates o s) (sym due) (evaluates p (answer_of k recv vs) r s e h)

pub at_row : (rows : List Builtin) (i : ℕ) (b : Builtin) (P : Builtin → Type 0) → slice_get rows i ≡ Some b → IfSome (slice_get rows i) P → P b
at_row rows i b P is h = subst (λ (o : Option Builtin). IfSome o P) is h
