-- What operators take of their arguments, one after the other.
use Rattle.std.proofs.Common.{◌≡◌, ◌∙◌, ◌+◌, ◌++◌, ℕ, Bool, List, [], ◌∷◌, length, Result, Ok, Err, IfOk, refl, sym, ap, subst, arith}
use Rattle.std.specs.Prelude.{◌==◌, Option, None, Some}
use Rattle.nf_value.specs.declared.place.Place.{Place}
use Rattle.nf_value.specs.Plain.{Plain}
use Rattle.nf_value.specs.declared.value.Value.{Value}
use Rattle.nf_value.specs.View.{plain_of}
use Rattle.nf_bag.specs.declared.rows.Row.{Row}
use Rattle.nf_graph.specs.Meaning.{Bags}
use Rattle.nf_graph.specs.declared.port.Port.{Port}
use Rattle.nf_optable.specs.declared.rows.Args as table
use Rattle.nf_optable.specs.declared.rows.Args.TheVariants as args
use Rattle.nf_optable.specs.declared.rows.OpRow.{OpRow}
use Rattle.nf_tasks.specs.Memory.{Program}
use Rattle.nf_arguments.specs.declared.args.Args.{Args}
use Rattle.nf_arguments.specs.declared.args.Before.{Before}
use Rattle.nf_arguments.specs.declared.one.One.{One}
use Rattle.nf_arguments.specs.declared.one.One.TheVariants as one
use Rattle.nf_arguments.specs.declared.written.Written.{Written}
use Rattle.nf_arguments.specs.Args.{AreArgs, HasFirst, IsOne, before_in, written_arg, written_args, written_in}
use Rattle.nf_meaning.specs.declared.fault.LowerFault.{LowerFault}
use Rattle.nf_meaning.specs.Arguments.{Arg, channel_arg, is_unnamed, unnamed, value_arg}
use Rattle.nf_meaning.specs.Stands.{StandsFor}
use Rattle.nf_meaning.specs.Taken as meaning
use Rattle.nf_meaning.specs.Taken.{args_ports}
use Rattle.nf_meaning.specs.Things.{Channel}
use Rattle.nf_meaning.specs.Walk.{Walk, ◌>>=◌, gives, then_by}
use Rattle.nf_plan.specs.Runs.{bags_of}
use Rattle.nf_lowering.specs.declared.state.Lowering.{Lowering}
use Rattle.nf_lowering.specs.State.{IsLowering}
use Rattle.nf_applied.specs.DeclaredTaken.{Taken}
use Rattle.nf_plan.specs.Plans.{ReadPlan}
use Rattle.nf_applied.specs.Taken.{FitsClosing, IsTaken, Keeps, with_channel}
use Rattle.nf_walked.specs.Arguing.{of_step}
use Rattle.nf_walked.specs.Forms.{a_port, a_value}
use Rattle.nf_walked.specs.Parts.{of_args, of_one}
use Rattle.nf_walked.specs.Steps.{Form, Known, Walked, from}
use Rattle.nf_walked.proofs.ArgLoops.{SoFar, loop_begins, loop_ends, loop_fails, loop_goes, rest}
use Rattle.nf_walked.proofs.Leads.{Ins, Leads}
use Rattle.nf_walked.proofs.Stills.{alike}
use Rattle.nf_applied.specs.Taking.{TakenFits, a_taken}
use Rattle.nf_applied.proofs.Arguments.{port_more, ports_later, step_taken}
use Rattle.nf_applied.proofs.Counting.{alone}

-- ---- an argument as it is written

-- a step of what is written is one of the argument
pub written_step : {A B : Type 0} (K : Known) (f : Form A B) (x : One) (w : Written) (made : A) (u : Arg → B → Walk B) (old new : Lowering) (r : Result A LowerFault) → x ≡ one.Written w
    → Walked K (from f made f (u (written_arg w))) old new r → Walked K (of_step x made f u) old new r
written_step K f x w made u old new r is h =
    let P : One → Type 0 = λ o. Walked K (of_step o made f u) old new r in
    subst P (sym is)
    (alike K (from f made f (u (written_arg w))) (λ p z j. f.Stands p.run z.plan made j.0 × IsOne (bags_of p.run z.plan) (one.Written w) j.1) (λ j. u j.1 j.0) old new r h
    (λ p j stands k. (j.0, k.0, ap (λ (y : Arg). u y j.0 p.around p.state) (sym k.1))))

-- what stands before a pipe isn't written
pub never_before : {A : Type 0} (x : One) (b : Before) → x ≡ one.Before b → before_in x ≡ None → A
never_before x b is none =
    absurd (let e : ◌≡◌ {A = Option Before} (Some b) None = sym (ap before_in is) ∙ none in cc)

pub one_written : (x : One) (w : Written) → x ≡ one.Written w → unnamed (written_in x) ≡ is_unnamed (written_arg w).label
one_written x w is = ap (λ o. unnamed (written_in o)) is ∙ (let e : is_unnamed (written_arg w).label + 0 ≡ is_unnamed (written_arg w).label = omega arith in e)

-- ---- how many channels

pub unnamed_append : (xs ys : List Arg) → unnamed (xs ++ ys) ≡ unnamed xs + unnamed ys
unnamed_append [] ys = omega arith
unnamed_append (x ∷ xs) ys = let more = unnamed_append xs ys in omega (arith, more)

ports_add : (k : table.Args) (m n : ℕ) → args_ports k (m + n) ≡ args_ports k m + args_ports k n
ports_add args.Channel m n = refl
ports_add args.Channels m n = refl
ports_add args.Nothing m n = refl
ports_add args.Value m n = refl
ports_add args.MaybeValue m n = refl
ports_add args.Values m n = refl

pub ports_none : (k : table.Args) → args_ports k 0 ≡ 0
ports_none args.Channel = refl
ports_none args.Channels = refl
ports_none args.Nothing = refl
ports_none args.Value = refl
ports_none args.MaybeValue = refl
ports_none args.Values = refl

pub unnamed_left : (x : One) (old new : Args) → HasFirst x old new → unnamed (written_args old) ≡ unnamed (written_in x) + unnamed (written_args new)
unnamed_left x old new h = ap unnamed h.written ∙ unnamed_append (written_in x) (written_args new)

pub none_unnamed : (x : Args) → x.before ≡ None → ((bags : Bags) (ys : List Arg) → AreArgs bags x ys → ys ≡ []) → unnamed (written_args x) ≡ 0
none_unnamed x before none = ap unnamed (none (λ i out. []) (written_args x) (alone (λ i out. []) x before))

module _ (k : table.Args) (made whole : ℕ) where
  pub ports_go : (x : One) (old new : Args) (more : ℕ) → HasFirst x old new → more ≡ made + args_ports k (unnamed (written_in x)) → made + args_ports k (unnamed (written_args old)) ≡ args_ports k whole
      → more + args_ports k (unnamed (written_args new)) ≡ args_ports k whole
  ports_go x old new more h is so_far =
      let e = ap (args_ports k) (unnamed_left x old new h) ∙ ports_add k (unnamed (written_in x)) (unnamed (written_args new)) in
      omega (arith, e, is, so_far)

  pub ports_end : (x : Args) → unnamed (written_args x) ≡ 0 → made + args_ports k (unnamed (written_args x)) ≡ args_ports k whole → made ≡ args_ports k whole
  ports_end x none so_far = let e = ap (args_ports k) none ∙ ports_none k in omega (arith, e, so_far)

-- ---- the loop

module _ (K : Known) (k : OpRow) (r : Row) (whole : Args) where
  abbrev pub each : List Arg → meaning.Taken → Walk meaning.Taken
  each xs t = meaning.take_args k r xs t

  abbrev pub All : Ins (List Arg)
  All p z ys = AreArgs (bags_of p.run z.plan) whole ys

  abbrev pub all_of : List Arg → Walk meaning.Taken
  all_of ys = each ys meaning.nothing_taken

  abbrev pub TakesLead : Taken → Args → Lowering → Lowering → Type 0
  TakesLead made args old now = Leads K All all_of (SoFar K (a_taken r) each made args) (rest K (a_taken r) each) old now

  pub takes_begin : (z : Lowering) (made : Taken) → ((n : Program) (bags : Bags) → IsTaken n bags made meaning.nothing_taken) → IsLowering z → TakesLead made whole z z
  takes_begin z made nothing keeps = loop_begins K (a_taken r) each whole z made meaning.nothing_taken keeps (λ p stands. nothing p.run.program (bags_of p.run z.plan))

  module _ (old mid : Lowering) (x : One) (args left : Args) (made : Taken) (is_last : Bool) (last : (bags : Bags) (ys : List Arg) → AreArgs bags left ys → is_last ≡ (unnamed ys == 0)) (first : HasFirst x args left)
      (so_far : TakesLead made args old mid) where
    abbrev one_arg : Arg → meaning.Taken → Walk meaning.Taken
    one_arg y t = meaning.take_arg k r is_last y.label y t

    pub takes_go : (new : Lowering) (more : Taken) → Walked K (of_step x made (a_taken r) one_arg) mid new (Ok more) → TakesLead more left old new
    takes_go new more step =
        loop_goes K (a_taken r) each All all_of old mid x args left made one_arg first
        (λ bags y ys are b a s. ap (λ l. then_by a (meaning.take_args k r ys) (meaning.take_arg k r l y.label y b a s)) (sym (last bags ys are))) so_far new more step

    pub takes_fail : (new : Lowering) (e : LowerFault) → Walked K (of_step x made (a_taken r) one_arg) mid new (Err e) → Walked K (of_args whole (a_taken r) all_of) old new (Err e)
    takes_fail new e step =
        loop_fails K (a_taken r) each All all_of old mid x args left made one_arg first
        (λ bags y ys are b a s. ap (λ l. then_by a (meaning.take_args k r ys) (meaning.take_arg k r l y.label y b a s)) (sym (last bags ys are))) so_far new e step

  pub takes_end : (old now : Lowering) (args : Args) (made : Taken) → ((bags : Bags) (ys : List Arg) → AreArgs bags args ys → ys ≡ []) → TakenFits r now.plan made → TakesLead made args old now
      → Walked K (of_args whole (a_taken r) all_of) old now (Ok made)
  takes_end old now args made none fits so_far = loop_ends K (a_taken r) each All all_of old now args made none (λ b a s. refl) fits so_far

-- ---- one that is taken for what it stands for

-- as many channels as were wanted
pub ports_as : (k : OpRow) (n : ℕ) (old new : Taken) → length new.ports.items ≡ length old.ports.items + n → n ≡ args_ports k.args 1 → length new.ports.items ≡ length old.ports.items + args_ports k.args 1
ports_as k n old new is wants = is ∙ ap (λ m. length old.ports.items + m) wants

pub ports_as_on : (k : OpRow) (n : ℕ) (old : Taken) (r : Result Taken LowerFault) → IfOk r (λ x. length x.ports.items ≡ length old.ports.items + n) → n ≡ args_ports k.args 1
    → IfOk r (λ x. length x.ports.items ≡ length old.ports.items + args_ports k.args 1)
ports_as_on k n old (Ok x) is wants = ports_as k n old x is wants
ports_as_on k n old (Err e) is wants = tt

pub same_ports_on : (old : Taken) (r : Result Taken LowerFault) → IfOk r (λ x. x.ports.items ≡ old.ports.items) → IfOk r (λ x. length x.ports.items ≡ length old.ports.items + 0)
same_ports_on old (Ok x) is = let e = ap (λ (ps : List Port). length ps) is in omega (arith, e)
same_ports_on old (Err e) is = tt

-- a value is taken
pub value_taken : (K : Known) (r : Row) (v : Taken) (w : Written) (old mid : Lowering) → IsLowering old → TakenFits r old.plan v → (more : Plain → meaning.Taken → meaning.Taken) (value : Value) (new : Taken)
    → Walked K (of_one (one.Written w) a_value value_arg) old mid (Ok value) → Keeps r v new
    → ((n : Program) (bags : Bags) (t : meaning.Taken) → IsTaken n bags v t → IsTaken n bags new (more (plain_of value) t))
    → Walked K (from (a_taken r) v (a_taken r) (λ t. value_arg (written_arg w) >>= λ u. gives (more u t))) old mid (Ok new)
value_taken K r v w old mid keeps fits more value new step kept taken =
    step_taken K r v w old mid keeps fits a_value value_arg more value new step
    (record { reads = subst (λ ps. ReadPlan mid.plan ps) (sym kept.ports) (ports_later old.plan mid.plan step.later v.ports.items fits.reads); closing = kept.closing fits.closing })
    (λ x t b is out. subst (λ u. IsTaken x.program (bags_of x mid.plan) new (more u t)) out (taken x.program (bags_of x mid.plan) t is))

-- a channel is taken
pub port_taken : (K : Known) (r : Row) (v : Taken) (w : Written) (old mid : Lowering) → IsLowering old → TakenFits r old.plan v → (port : Port) (new : Taken)
    → Walked K (of_one (one.Written w) a_port channel_arg) old mid (Ok port) → new.ports.items ≡ v.ports.items ++ port ∷ [] → new.closing ≡ v.closing
    → ((n : Program) (bags : Bags) (t : meaning.Taken) (c : Channel) → IsTaken n bags v t → StandsFor bags port c → IsTaken n bags new (with_channel c t))
    → Walked K (from (a_taken r) v (a_taken r) (λ t. channel_arg (written_arg w) >>= λ c. gives (with_channel c t))) old mid (Ok new)
port_taken K r v w old mid keeps fits port new step ports closing taken =
    step_taken K r v w old mid keeps fits a_port channel_arg with_channel port new step
    (record {
      reads = subst (λ ps. ReadPlan mid.plan ps) (sym ports) (port_more old.plan mid.plan step.later v.ports.items port fits.reads step.fits);
      closing = subst (λ k. FitsClosing r k) (sym closing) fits.closing;
    })
    (λ x t c is out. taken x.program (bags_of x mid.plan) t c is out)

pub none_more : (k : OpRow) (old : Taken) (r : Result Taken LowerFault) → IfOk r (λ x. x.ports.items ≡ old.ports.items) → IfOk r (λ x. length x.ports.items ≡ length old.ports.items + args_ports k.args 0)
none_more k old (Ok x) is = let e = ap (λ (ps : List Port). length ps) is in let z = ports_none k.args in omega (arith, e, z)
none_more k old (Err e) is = tt
