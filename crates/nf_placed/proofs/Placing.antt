-- Answers that get their places.
use Rattle.std.proofs.Common.{◌≡◌, Bool, true, false, not, Result, Ok, Err, refl, sym, ◌∙◌, ap, subst}
use Rattle.nf_value.specs.Plain.{truth}
use Rattle.nf_value.specs.declared.place.Place.{Place}
use Rattle.nf_value.specs.declared.value.Value.{Value}
use Rattle.nf_value.specs.declared.value.Value.TheVariants as v
use Rattle.nf_value.specs.declared.fault.EvalRefusal.{EvalRefusal}
use Rattle.nf_texts.specs.declared.fault.CallFault.{CallFault}
use Rattle.nf_texts.specs.declared.fault.CallFault.TheVariants as call
use Rattle.nf_texts.specs.Outcome.{Outcome, Gives, limited, ◌>>=◌}
use Rattle.nf_placed.specs.Placed.{Evaluates, made, at_place, placed_of}

made_is : (p : Place) (o : Outcome) → made p o ≡ at_place p (o >>= limited)
made_is p (Ok x) = refl
made_is p (Err k) = refl

answered : (p : Place) (o : Outcome) (r : Result Value CallFault) → Gives o r → Evaluates (made p o) (placed_of p r)
answered p o (Ok x) h = made_is p o ∙ ap (at_place p) h
answered p o (Err (call.Kind k)) h = made_is p o ∙ ap (at_place p) h
answered p o (Err call.Mem) h = tt

pub evaluates : (p : Place) (o : Outcome) (r : Result Value CallFault) (s : Result Value EvalRefusal) → s ≡ placed_of p r → Gives o r → Evaluates (made p o) s
evaluates p o r s e h = subst (λ (t : Result Value EvalRefusal). Evaluates (made p o) t) (sym e) (answered p o r h)

truth_fits : (b : Bool) → limited (truth b) ≡ Ok (truth b)
truth_fits true = refl
truth_fits false = refl

pub turned : (a b : Bool) → a ≡ b → Gives (Ok (truth (not b))) (Ok (v.Truth (not a)))
turned a b e = truth_fits (not b) ∙ ap (λ c. Ok (truth (not c))) (sym e)
