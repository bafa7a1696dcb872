-- Lists that are weighed as if their files had lengths of 20 digits.
use Rattle.std.proofs.Common.{◌≡◌, ◌∙◌, ℕ, List, [], ◌∷◌, map, Ok, refl, sym, ap}
use Rattle.nf_value.specs.Plain.{Plain, item, list, plains_of}
use Rattle.nf_value.specs.declared.place.Place.{Place}
use Rattle.nf_builtins.specs.Lists.{list_of}
use Rattle.nf_infix.specs.Literal.{new_list}
use Rattle.nf_placed.specs.Placed.{at_place, made}
use Rattle.nf_texts.specs.Outcome.{limited}
use Rattle.nf_lowered.specs.Given.{HasFault}
use Rattle.nf_lowered.proofs.Joining.{fault_by}
use Rattle.nf_meaning.specs.declared.fault.LowerFault.{LowerFault}
use Rattle.nf_meaning.specs.Lowered.{known}
use Rattle.nf_meaning.specs.Things.{a_value, all_widened, widened}
use Rattle.nf_meaning.specs.Walk.{Around, State, ◌>>=◌, gives, lifted}
use Rattle.nf_meaning.specs.Workflow.{list_made}

pub all_wide : (vs : List Plain) → all_widened (plains_of vs) ≡ plains_of (map widened vs)
all_wide [] = refl
all_wide (v ∷ vs) = ap (item (widened v)) (all_wide vs)

pub wide_list : (vs ws : List Plain) → ws ≡ map widened vs → list (plains_of ws) ≡ widened (list (plains_of vs))
wide_list vs ws h = ap (λ xs. list (plains_of xs)) h ∙ ap list (sym (all_wide vs))

module _ (p : Place) (vs ws : List Plain) (wide : ws ≡ map widened vs) (a : Around) (s : State) where
  due_is : at_place p (limited (widened (list_of vs))) ≡ made p (new_list ws)
  due_is = ap (λ v. at_place p (limited v)) (sym (wide_list vs ws wide))

  pub list_right : (v : Plain) → made p (new_list ws) ≡ Ok v → list_made p vs a s ≡ Ok (a_value (list_of vs), s)
  list_right v h = ap (λ d. (lifted (known d) >>= λ _. gives (a_value (list_of vs))) a s) (due_is ∙ h)

  pub list_wrong : (e : LowerFault) → HasFault (known (made p (new_list ws))) e → HasFault (list_made p vs a s) e
  list_wrong e h = fault_by (known (made p (new_list ws))) (list_made p vs a s) e (λ k. ap (λ d. (lifted d >>= λ _. gives (a_value (list_of vs))) a s) (ap known due_is ∙ k)) h
