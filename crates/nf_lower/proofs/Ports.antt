-- The channels of the arguments of a call, one after the other.
use Rattle.std.proofs.Common.{◌≡◌, ◌+◌, ℕ, suc, List, [], ◌∷◌, ◌++◌, length, Result, Ok, Err, Option, sym, ap, subst, arith}
use Rattle.std.specs.Global.{Vec}
use Rattle.std.proofs.lemmas.List.{append-nil, length-append}
use Rattle.nf_graph.specs.declared.port.Port.{Port}
use Rattle.nf_graph.specs.Meaning.{Bags}
use Rattle.nf_meaning.specs.declared.fault.LowerFault.{LowerFault}
use Rattle.nf_meaning.specs.declared.fault.LowerFault.TheVariants.{Mem}
use Rattle.nf_meaning.specs.Arguments.{Arg, channel_args}
use Rattle.nf_meaning.specs.Nodes.{PortsStand}
use Rattle.nf_meaning.specs.Things.{Channel}
use Rattle.nf_meaning.specs.Walk.{Walk}
use Rattle.nf_plan.specs.declared.builder.PlanBuilder.{PlanBuilder}
use Rattle.nf_plan.specs.Plans.{ReadPlan}
use Rattle.nf_plan.specs.Runs.{bags_of}
use Rattle.nf_lowering.specs.declared.state.Lowering.{Lowering}
use Rattle.nf_lowering.specs.State.{IsLowering}
use Rattle.nf_arguments.specs.declared.args.Args.{Args}
use Rattle.nf_arguments.specs.declared.args.Before.{Before}
use Rattle.nf_arguments.specs.declared.one.One.{One}
use Rattle.nf_arguments.specs.declared.one.One.TheVariants as one
use Rattle.nf_arguments.specs.Args.{AreArgs, HasFirst, before_in, count_in}
use Rattle.nf_walked.specs.Args.{BeforeReads, OneReads}
use Rattle.nf_walked.specs.Arguing.{and_more, of_step, one_channel}
use Rattle.nf_walked.specs.Forms.{ports}
use Rattle.nf_walked.specs.Parts.{of_args}
use Rattle.nf_walked.specs.Steps.{Due, Known, Walked}
use Rattle.nf_walked.proofs.ArgLoops.{SoFar, loop_begins, loop_ends, loop_fails, loop_goes, rest}
use Rattle.nf_walked.proofs.Leads.{Ins, Leads}
use Rattle.nf_walked.proofs.Rowing.{behind, channels_both, from_nothing, goes_behind}
use Rattle.nf_walked.proofs.Still.{by_walk}
use Rattle.nf_calling.proofs.Present.{none_left, one_less}

-- ---- what goes with the first argument

-- an argument that is taken off reads the plan as they all did
one_reads_as : (b : PlanBuilder) (x : One) → BeforeReads b (before_in x) → OneReads b x
one_reads_as b (one.Before y) h = h
one_reads_as b (one.Written w) h = tt

pub first_reads : (b : PlanBuilder) (x : One) (old new : Args) → HasFirst x old new → BeforeReads b old.before → OneReads b x
first_reads b x old new h reads = let P : Option Before → Type 0 = λ o. BeforeReads b o in one_reads_as b x (subst P h.was reads)

pub rest_reads : (b : PlanBuilder) (x : One) (old new : Args) → HasFirst x old new → BeforeReads b new.before
rest_reads b x old new h = let P : Option Before → Type 0 = λ o. BeforeReads b o in subst P (sym h.left) tt

pub none_read : (b : PlanBuilder) (ps : List Port) → ps ≡ [] → ReadPlan b ps
none_read b ps none i lt = let e : length ps ≡ 0 = ap length none in absurd (omega (arith, e, lt))

pub one_longer : (ps qs : List Port) (p : Port) → qs ≡ ps ++ p ∷ [] → length qs ≡ suc (length ps)
one_longer ps qs p is = let e : length qs ≡ length (ps ++ p ∷ []) = ap length is in omega (arith, e, length-append ps (p ∷ []))

pub count_begins : (ps : List Port) (n : ℕ) → ps ≡ [] → length ps + n ≡ n
count_begins ps n none = let e : length ps ≡ 0 = ap length none in omega (arith, e)

pub count_goes : (x : One) (old new : Args) (made more whole : ℕ) → HasFirst x old new → more ≡ suc made → made + count_in old ≡ whole → more + count_in new ≡ whole
count_goes x old new made more whole h is so_far = let less = one_less x old new h in omega (arith, less, is, so_far)

pub count_ends : (x : Args) (made whole : ℕ) → ((bags : Bags) (ys : List Arg) → AreArgs bags x ys → ys ≡ []) → made + count_in x ≡ whole → made ≡ whole
count_ends x made whole none so_far = let zero_left = none_left x none in omega (arith, zero_left, so_far)

-- want of memory after a step
pub lost_with : {I A B J C D : Type 0} (K : Known) (one : Due I A B) (d : Due J C D) (old new : Lowering) (r : Result A LowerFault) → Walked K one old new r → Walked K d old new (Err Mem)
lost_with K one d old new r step = record { later = step.later; goes = tt; fits = tt; follows = λ p y runs stands is. tt }

-- ---- the loop

module _ (K : Known) (whole : Args) where
  abbrev pub each : List Arg → List Channel → Walk (List Channel)
  each = behind channel_args

  abbrev pub All : Ins (List Arg)
  All p z ys = AreArgs (bags_of p.run z.plan) whole ys

  abbrev pub all_of : List Arg → Walk (List Channel)
  all_of ys = each ys []

  abbrev pub ChannelsLead : Vec Port → Args → Lowering → Lowering → Type 0
  ChannelsLead made args old now = Leads K All all_of (SoFar K ports each made args) (rest K ports each) old now

  pub channels_begin : (z : Lowering) (made : Vec Port) → made.items ≡ [] → IsLowering z → ChannelsLead made whole z z
  channels_begin z made empty keeps =
      loop_begins K ports each whole z made [] keeps (λ p stands. (let P : List Port → Type 0 = λ ps. PortsStand (bags_of p.run z.plan) ps [] in subst P (sym empty) tt))

  module _ (old mid : Lowering) (x : One) (args left : Args) (made : Vec Port) (first : HasFirst x args left) (so_far : ChannelsLead made args old mid) where
    pub channels_go : (new : Lowering) (more : Vec Port) → Walked K (of_step x made ports (and_more one_channel)) mid new (Ok more) → ChannelsLead more left old new
    channels_go new more step =
        loop_goes K ports each All all_of old mid x args left made (and_more one_channel) first (λ bags y ys are b a s. goes_behind channel_args one_channel y ys a s (channels_both y ys a s) b) so_far new more step

    pub channels_fail : (new : Lowering) (e : LowerFault) → Walked K (of_step x made ports (and_more one_channel)) mid new (Err e) → Walked K (of_args whole ports channel_args) old new (Err e)
    channels_fail new e step =
        by_walk K ports All all_of channel_args old new (Err e) (λ ys a s. from_nothing channel_args ys a s)
        (loop_fails K ports each All all_of old mid x args left made (and_more one_channel) first (λ bags y ys are b a s. goes_behind channel_args one_channel y ys a s (channels_both y ys a s) b) so_far new e step)

  pub channels_end : (old now : Lowering) (args : Args) (made : Vec Port) → ((bags : Bags) (ys : List Arg) → AreArgs bags args ys → ys ≡ []) → ReadPlan now.plan made.items → ChannelsLead made args old now
      → Walked K (of_args whole ports channel_args) old now (Ok made)
  channels_end old now args made none reads so_far =
      by_walk K ports All all_of channel_args old now (Ok made) (λ ys a s. from_nothing channel_args ys a s)
      (loop_ends K ports each All all_of old now args made none (λ b a s. ap (λ cs. Ok (cs, s)) (append-nil b)) reads so_far)
