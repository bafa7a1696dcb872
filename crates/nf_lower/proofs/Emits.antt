-- One thing that a workflow emits, after its name is judged.
use Rattle.std.proofs.Common.{◌≡◌, ℕ, List, Result, Ok, Err, Option, subst, ap}
use Rattle.nf_ast.specs.Tree.{Tree}
use Rattle.nf_graph.specs.declared.port.Port.{Port}
use Rattle.nf_meaning.specs.declared.fault.LowerFault.{LowerFault}
use Rattle.nf_meaning.specs.declared.fault.LowerFault.TheVariants.{Mem}
use Rattle.nf_meaning.specs.Script.{emit_label, emit_value, label_fault, label_of}
use Rattle.nf_meaning.specs.Things.{Channel, Output}
use Rattle.nf_meaning.specs.Walk.{◌>>=◌, Walk, gives}
use Rattle.nf_scopes.specs.declared.things.CallOutput.{CallOutput}
use Rattle.nf_lowering.specs.declared.state.Lowering.{Lowering}
use Rattle.nf_lowering.specs.State.{IsLowering}
use Rattle.nf_takes.specs.Takes.{FaultIs}
use Rattle.nf_walked.specs.Emits.{emit_after, emitted_thing}
use Rattle.nf_walked.specs.Forms.{a_port, an_output}
use Rattle.nf_walked.specs.Steps.{Known, Walked, due}
use Rattle.nf_walked.proofs.Checks.{checked}
use Rattle.nf_walked.proofs.Emitting.{emitted_given}
use Rattle.nf_walked.proofs.Joins.{fails_first, lost_after, then_due, then_from}
use Rattle.nf_walked.proofs.Stills.{as_walk}

module _ (K : Known) (ns : List (List ℕ)) (x : Tree) (old : Lowering) (keeps : IsLowering old) where
  abbrev given_so : Channel → Walk Output
  given_so c = gives (record { label = label_of (emit_label x); channel = c })

  abbrev IsEmitted : Lowering → Result CallOutput LowerFault → Type 0
  IsEmitted new r = Walked K (due an_output (emit_after ns x)) old new r

  module _ (o : Option Tree) (named : o ≡ emit_label x) where
    pub label_fails : (e : LowerFault) → FaultIs (label_fault ns o) (Err e) → IsEmitted old (Err e)
    label_fails e h =
        fails_first an_output (λ v. emitted_thing (emit_value x) >>= given_so) keeps
        (checked K (label_fault ns (emit_label x)) old (Err e) keeps (subst (λ (p : Option Tree). FaultIs (label_fault ns p) (Err e)) named h))

    module _ (new : Lowering) (passes : FaultIs (label_fault ns o) (Ok tt)) (v : Tree) (same : v ≡ emit_value x) where
      after_label : (r : Result CallOutput LowerFault) → Walked K (due an_output (emitted_thing (emit_value x) >>= given_so)) old new r → IsEmitted new r
      after_label r step =
          then_due keeps (checked K (label_fault ns (emit_label x)) old (Ok tt) keeps (subst (λ (p : Option Tree). FaultIs (label_fault ns p) (Ok tt)) named passes)) step

      pub emitted_fails : (e : LowerFault) → Walked K (due a_port (emitted_thing v)) old new (Err e) → IsEmitted new (Err e)
      emitted_fails e step = after_label (Err e) (fails_first an_output given_so keeps (as_walk step (ap emitted_thing same)))

      pub output_given : (port : Port) (q : CallOutput) → Walked K (due a_port (emitted_thing v)) old new (Ok port) → q.port ≡ port → q.label ≡ label_of (emit_label x) → IsEmitted new (Ok q)
      output_given port q step at label =
          let here : Walked K (due a_port (emitted_thing (emit_value x))) old new (Ok port) = as_walk step (ap emitted_thing same) in
          after_label (Ok q) (then_from keeps here (emitted_given K port (label_of (emit_label x)) q new here.goes.keeps here.fits at label))

  -- want of memory for its name
  pub label_lost : (new : Lowering) (v : Tree) (port : Port) → Walked K (due a_port (emitted_thing v)) old new (Ok port) → IsEmitted new (Err Mem)
  label_lost new v port step = lost_after (due an_output (emit_after ns x)) step
