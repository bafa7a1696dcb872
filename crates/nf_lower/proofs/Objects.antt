-- Methods of names, where the body binds the name and where it does not.
use Rattle.std.proofs.Common.{◌≡◌, ℕ, true, false, List, Result, Err, sym, ap, subst}
use Rattle.std.specs.Prelude.{Some, None}
use Rattle.nf_value.specs.declared.place.Place.{Place}
use Rattle.nf_meaning.specs.declared.fault.LowerFault.{LowerFault}
use Rattle.nf_meaning.specs.declared.fault.LowerFault.TheVariants.{BadOption}
use Rattle.nf_meaning.specs.Arguments.{Arg}
use Rattle.nf_meaning.specs.Names.{is_channel_word}
use Rattle.nf_meaning.specs.Sources.{source_call}
use Rattle.nf_meaning.specs.Stands.{ThingStands}
use Rattle.nf_meaning.specs.Things as meaning
use Rattle.nf_meaning.specs.Things.{thing_named}
use Rattle.nf_meaning.specs.Walk.{Walk, things_in}
use Rattle.nf_meaning.specs.Workflow as workflow
use Rattle.nf_meaning.specs.Workflow.{free_method, name_method}
use Rattle.nf_scopes.specs.declared.things.Thing.{Thing}
use Rattle.nf_scopes.specs.Things.{thing_of}
use Rattle.nf_plan.specs.Runs.{bags_of}
use Rattle.nf_lowering.specs.declared.state.Lowering.{Lowering}
use Rattle.nf_lowering.specs.State.{IsLowering}
use Rattle.nf_arguments.specs.declared.args.Args.{Args}
use Rattle.nf_arguments.specs.Args.{AreArgs}
use Rattle.nf_walked.specs.Forms.{a_thing}
use Rattle.nf_walked.specs.Members.{free_method_at}
use Rattle.nf_walked.specs.Parts.{name_method_at, of_args, of_call}
use Rattle.nf_walked.specs.Steps.{Known, Walked}
use Rattle.nf_walked.proofs.Leads.{Ins, begins, ends, is_refused}
use Rattle.nf_walked.proofs.Still.{by_walk}
use Rattle.nf_walked.proofs.Names.{IsFound, found_none, found_some}

-- ---- `m.n(..)`

module _ (K : Known) (x : Args) (q : Place) (m : List ℕ) (p : Place) (n : List ℕ) (old : Lowering) (keeps : IsLowering old) where
  abbrev In : Ins (List Arg)
  In pt z ys = AreArgs (bags_of pt.run z.plan) x ys

  abbrev walk : List Arg → Walk meaning.Thing
  walk = name_method_at q m p n

  pub bound_method : (new : Lowering) (t copy : Thing) (r : Result Thing LowerFault) → IsFound K old m (Some t) → thing_of copy ≡ thing_of t
      → Walked K (of_call copy x a_thing (λ y ys. workflow.method_of q p n ys y)) old new r → Walked K (of_args x a_thing walk) old new r
  bound_method new t copy r found same h =
      ends K In walk In walk old old (of_call copy x a_thing (λ y ys. workflow.method_of q p n ys y)) new r (begins K In walk old keeps) h
      (λ pt ys here are.
      (let bags = bags_of pt.run old.plan in
      let it = found_some bags t (thing_named m (things_in pt.state.scope)) (found pt here) in
      let P : _ → Type 0 = λ v. ThingStands bags v it.0 in
      record {
        first = (it.0, ys);
        stands = (subst P (sym same) it.2, are);
        same = ap (λ o. name_method o q m p n ys pt.around pt.state) it.1;
      }))

  pub free_method_of : (new : Lowering) (r : Result Thing LowerFault) → IsFound K old m None → Walked K (of_args x a_thing (free_method_at q m p n)) old new r
      → Walked K (of_args x a_thing walk) old new r
  free_method_of new r found h =
      ends K In walk In walk old old (of_args x a_thing (free_method_at q m p n)) new r (begins K In walk old keeps) h
      (λ pt ys here are.
      record {
        first = ys;
        stands = are;
        same = ap (λ o. name_method o q m p n ys pt.around pt.state) (found_none (bags_of pt.run old.plan) (thing_named m (things_in pt.state.scope)) (found pt here));
      })

  abbrev free : List Arg → Walk meaning.Thing
  free = free_method_at q m p n

  pub source_method : (new : Lowering) (r : Result Thing LowerFault) → is_channel_word m ≡ true → Walked K (of_args x a_thing (source_call p n)) old new r
      → Walked K (of_args x a_thing free) old new r
  source_method new r word h =
      by_walk K a_thing In (source_call p n) free old new r (λ ys a s. ap (λ b. free_method b q p n ys a s) word) h

  pub no_method : (r : Result Thing LowerFault) → is_channel_word m ≡ false → r ≡ Err (BadOption q) → Walked K (of_args x a_thing free) old old r
  no_method r word fails =
      let P : Result Thing LowerFault → Type 0 = λ v. Walked K (of_args x a_thing free) old old v in
      subst P (sym fails)
      (is_refused K In free In free old old a_thing (BadOption q) (begins K In free old keeps) (λ pt ys here are. ap (λ b. free_method b q p n ys pt.around pt.state) word))
