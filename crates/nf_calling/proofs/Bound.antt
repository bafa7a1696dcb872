-- Members of names, where the body binds the name and where it does not.
use Rattle.std.proofs.Common.{◌≡◌, ◌∙◌, ℕ, true, false, List, Result, Ok, Err, sym, ap, subst}
use Rattle.std.specs.Prelude.{Option, Some, None, if◌then◌else◌, codes, bytes_eq}
use Rattle.nf_value.specs.declared.place.Place.{Place}
use Rattle.nf_meaning.specs.declared.fault.LowerFault.{LowerFault}
use Rattle.nf_meaning.specs.declared.fault.LowerFault.TheVariants.{BadOption, UnknownName}
use Rattle.nf_meaning.specs.Names.{is_channel_word}
use Rattle.nf_meaning.specs.Stands.{PortThing, ThingStands}
use Rattle.nf_meaning.specs.Things as meaning
use Rattle.nf_meaning.specs.Things.{thing_named}
use Rattle.nf_meaning.specs.Walk.{State, Walk, refused, things_in}
use Rattle.nf_meaning.specs.Workflow as workflow
use Rattle.nf_meaning.specs.Workflow.{free_member, name_member, out_of}
use Rattle.nf_scopes.specs.declared.things.Thing.{Thing}
use Rattle.nf_scopes.specs.Tables.{FoundStands}
use Rattle.nf_scopes.specs.Things.{thing_of}
use Rattle.nf_plan.specs.Runs.{Run, bags_of}
use Rattle.nf_follows.specs.Things.{ThingReads}
use Rattle.nf_lowering.specs.declared.state.Lowering.{Lowering}
use Rattle.nf_lowering.specs.State.{IsLowering, StandsIn}
use Rattle.nf_walked.specs.Forms.{a_thing}
use Rattle.nf_walked.specs.Parts.{free_member_at, name_member_at}
use Rattle.nf_walked.specs.Steps.{Known, Point, StandsAt, Walked, due, from}
use Rattle.nf_walked.proofs.Leads.{Ins, begins, ends, is_refused}
use Rattle.nf_walked.proofs.Names.{IsFound, found_none, found_some}
use Rattle.nf_walked.proofs.Still.{by_walk}
use Rattle.nf_walked.proofs.Stills.{given, refused_here}
use Rattle.nf_calling.specs.Outs.{out_at}

-- ---- `m.n`

module _ (K : Known) (q : Place) (m : List ℕ) (p : Place) (n : List ℕ) (old : Lowering) (keeps : IsLowering old) where
  abbrev Nothing : Ins (Unit {0})
  Nothing pt z j = Unit {0}

  abbrev member : Unit {0} → Walk meaning.Thing
  member j = name_member_at q m p n

  abbrev free_one : Unit {0} → Walk meaning.Thing
  free_one j = free_member_at q m p n

  pub bound_member : (t : Thing) (r : Result Thing LowerFault) → IsFound K old m (Some t) → Walked K (from a_thing t a_thing (workflow.member_of q p n)) old old r
      → Walked K (due a_thing (name_member_at q m p n)) old old r
  bound_member t r found h =
      ends K Nothing member Nothing member old old (from a_thing t a_thing (workflow.member_of q p n)) old r (begins K Nothing member old keeps) h
      (λ pt j here k.
      (let it = found_some (bags_of pt.run old.plan) t (thing_named m (things_in pt.state.scope)) (found pt here) in
      record { first = it.0; stands = it.2; same = ap (λ o. name_member o pt.state.scope q m p n pt.around pt.state) it.1 }))

  pub free_member_of : (r : Result Thing LowerFault) → IsFound K old m None → Walked K (due a_thing (free_member_at q m p n)) old old r
      → Walked K (due a_thing (name_member_at q m p n)) old old r
  free_member_of r found h =
      ends K Nothing member Nothing member old old (due a_thing (free_member_at q m p n)) old r (begins K Nothing member old keeps) h
      (λ pt j here k.
      record {
        first = tt;
        stands = tt;
        same = ap (λ o. name_member o pt.state.scope q m p n pt.around pt.state) (found_none (bags_of pt.run old.plan) (thing_named m (things_in pt.state.scope)) (found pt here));
      })

  -- `channel` has no parts, and of a process or a workflow `out` alone is one
  pub word_member : (r : Result Thing LowerFault) → is_channel_word m ≡ true → r ≡ Err (BadOption p) → Walked K (due a_thing (free_member_at q m p n)) old old r
  word_member r word fails =
      let P : Result Thing LowerFault → Type 0 = λ v. Walked K (due a_thing (free_member_at q m p n)) old old v in
      subst P (sym fails)
      (is_refused K Nothing free_one Nothing free_one old old a_thing (BadOption p) (begins K Nothing free_one old keeps)
      (λ pt j here k. ap (λ b. free_member b pt.state.scope q m p n pt.around pt.state) word))

  module _ (word : is_channel_word m ≡ false) where
    pub other_member : (r : Result Thing LowerFault) → bytes_eq n (codes "out") ≡ false → r ≡ Err (BadOption p) → Walked K (due a_thing (free_member_at q m p n)) old old r
    other_member r other fails =
        let P : Result Thing LowerFault → Type 0 = λ v. Walked K (due a_thing (free_member_at q m p n)) old old v in
        subst P (sym fails)
        (is_refused K Nothing free_one Nothing free_one old old a_thing (BadOption p) (begins K Nothing free_one old keeps)
        (λ pt j here k.
        ap (λ b. free_member b pt.state.scope q m p n pt.around pt.state) word
        ∙ ap (λ b. (if b then out_of q (thing_named m pt.state.scope.calls) else refused (BadOption p)) pt.around pt.state) other))

    pub out_member : (r : Result Thing LowerFault) → bytes_eq n (codes "out") ≡ true → Walked K (due a_thing (out_at q m)) old old r → Walked K (due a_thing (free_member_at q m p n)) old old r
    out_member r is h =
        by_walk K a_thing Nothing (λ j. out_at q m) free_one old old r
        (λ j a s.
        ap (λ b. free_member b s.scope q m p n a s) word
        ∙ ap (λ b. (if b then out_of q (thing_named m s.scope.calls) else refused (BadOption p)) a s) is) h

-- ---- `P.out`

module _ (K : Known) (q : Place) (m : List ℕ) (old : Lowering) (keeps : IsLowering old) where
  -- what the call gave, at each point
  abbrev pub HasCalled : Option Thing → Type 0
  HasCalled o = (pt : Point) → StandsAt K pt old → FoundStands (bags_of pt.run old.plan) o (thing_named m pt.state.scope.calls)

  pub called_at_all : (o : Option Thing)
      → ((braces : List (List (List ℕ))) (x : Run) (s : State) → StandsIn braces x old s → FoundStands (bags_of x old.plan) o (thing_named m s.scope.calls)) → HasCalled o
  called_at_all o finds pt stands = finds pt.braces pt.run pt.state stands.body

  pub out_given : (t copy : Thing) → HasCalled (Some t) → thing_of copy ≡ thing_of t → ThingReads old.plan (thing_of t) → Walked K (due a_thing (out_at q m)) old old (Ok copy)
  out_given t copy called same reads =
      given K (due a_thing (out_at q m)) old copy keeps (subst (λ (v : PortThing). ThingReads old.plan v) (sym same) reads)
      (λ pt y stands is.
      (let it = found_some (bags_of pt.run old.plan) t (thing_named m pt.state.scope.calls) (called pt stands) in
      (it.0, ap (λ o. out_of q o pt.around pt.state) it.1, subst (λ (v : PortThing). ThingStands (bags_of pt.run old.plan) v it.0) (sym same) it.2)))

  pub out_missed : HasCalled None → Walked K (due a_thing (out_at q m)) old old (Err (UnknownName q))
  out_missed called =
      refused_here K (due a_thing (out_at q m)) old (UnknownName q) keeps
      (λ pt y stands is. ap (λ o. out_of q o pt.around pt.state) (found_none (bags_of pt.run old.plan) (thing_named m pt.state.scope.calls) (called pt stands)))
