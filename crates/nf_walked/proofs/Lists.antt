-- A list of values that were gathered.
use Rattle.std.proofs.Common.{map, Result, Ok, Err, refl, sym, ap, subst, ◌∙◌}
use Rattle.std.specs.Global.{Vec}
use Rattle.nf_value.specs.View.{plain_of}
use Rattle.nf_value.specs.declared.place.Place.{Place}
use Rattle.nf_value.specs.declared.value.Value.{Value}
use Rattle.nf_lowered.specs.Given.{HasFault}
use Rattle.nf_meaning.specs.declared.fault.LowerFault.{LowerFault}
use Rattle.nf_meaning.specs.Things as meaning
use Rattle.nf_meaning.specs.Walk.{Around, State}
use Rattle.nf_meaning.specs.Workflow.{list_made}
use Rattle.nf_scopes.specs.declared.things.Thing.TheVariants as thing
use Rattle.nf_around.specs.Gives.{IsKnown, Reads}
use Rattle.nf_lowering.specs.declared.state.Lowering.{Lowering}
use Rattle.nf_lowering.specs.State.{IsLowering}
use Rattle.nf_walked.specs.Forms.{a_thing, values}
use Rattle.nf_walked.specs.Steps.{Known, Walked, from}
use Rattle.nf_walked.proofs.Stills.{given, still_in}

module _ (K : Known) (vs : Vec Value) (q : Place) (z : Lowering) where
  abbrev pub ListReads : Result Value LowerFault → Type 0
  ListReads r = (a : Around) (s : State) → Reads IsKnown (list_made q (map plain_of vs.items)) a s r

  pub list_known : (v : Value) → IsLowering z → ListReads (Ok v) → Walked K (from values vs a_thing (list_made q)) z z (Ok (thing.Known v))
  list_known v keeps reads =
      given K (from values vs a_thing (list_made q)) z (thing.Known v) keeps tt
      (λ p ys stands is.
      (let it = reads p.around p.state in (
        meaning.a_value (plain_of v),
        ap (λ us. list_made q us p.around p.state) (sym is) ∙ it.is ∙ ap (λ t. Ok (t, it.value.1)) it.fits.0 ∙ ap (λ s. Ok (meaning.a_value (plain_of v), s)) it.fits.1,
        refl,
      )))

  pub list_fails : (e : LowerFault) → IsLowering z → ListReads (Err e) → Walked K (from values vs a_thing (list_made q)) z z (Err e)
  list_fails e keeps reads =
      still_in K (from values vs a_thing (list_made q)) z (Err e) keeps tt
      (λ p ys stands is. subst (λ us. HasFault (list_made q us p.around p.state) e) is (reads p.around p.state))
