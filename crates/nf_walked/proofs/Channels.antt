-- The channels of arguments, one after the other.
use Rattle.std.proofs.Common.{◌≡◌, ◌∙◌, zero, suc, List, [], ◌∷◌, ◌++◌, Ok, Err, refl, sym, ap, subst, arith}
use Rattle.std.specs.Global.{Vec}
use Rattle.nf_graph.specs.declared.port.Port.{Port}
use Rattle.nf_graph.specs.Meaning.{Bags}
use Rattle.nf_meaning.specs.declared.fault.LowerFault.{LowerFault}
use Rattle.nf_meaning.specs.Arguments.{Arg, unnamed_channel}
use Rattle.nf_meaning.specs.Lowered.{Lowered}
use Rattle.nf_meaning.specs.Nodes.{PortsStand}
use Rattle.nf_meaning.specs.Stands.{StandsFor, read}
use Rattle.nf_meaning.specs.Things.{Channel, a_channel}
use Rattle.nf_meaning.specs.Walk.{Around, State, Walk, ◌>>=◌, gives, then_by}
use Rattle.nf_plan.specs.declared.builder.PlanBuilder.{PlanBuilder}
use Rattle.nf_plan.specs.Plans.{ReadPlan}
use Rattle.nf_plan.specs.Runs.{Run, bags_of}
use Rattle.nf_follows.specs.Things.{PortReads}
use Rattle.nf_lowering.specs.declared.state.Lowering.{Lowering}
use Rattle.nf_lowering.specs.State.{IsLowering}
use Rattle.nf_arguments.specs.declared.one.One.{One}
use Rattle.nf_arguments.specs.Args.{IsOne}
use Rattle.nf_walked.specs.Arguing.{and_more, of_step, one_channel}
use Rattle.nf_walked.specs.Forms.{a_port, ports}
use Rattle.nf_walked.specs.Parts.{of_one}
use Rattle.nf_walked.specs.Steps.{Known, Later, Point, Walked}
use Rattle.nf_walked.proofs.Leads.{Ins, begins, fails, goes_further, is_given}

-- ---- ports that read the plan

EachReads : PlanBuilder → List Port → Type 0
EachReads b [] = Unit {0}
EachReads b (p ∷ ps) = PortReads b p × EachReads b ps

module _ (b : PlanBuilder) where
  each_reads : (ps : List Port) → ReadPlan b ps → EachReads b ps
  unfolding EachReads
  each_reads [] h = tt
  each_reads (p ∷ ps) h = (h 0 (omega arith), each_reads ps (λ i lt. h (suc i) (omega (arith, lt))))

  plan_read : (ps : List Port) → EachReads b ps → ReadPlan b ps
  unfolding EachReads
  plan_read [] h i lt = absurd (omega (arith, lt))
  plan_read (p ∷ ps) h zero lt = h.0
  plan_read (p ∷ ps) h (suc i) lt = plan_read ps h.1 i (omega (arith, lt))

  one_more_reads : (ps : List Port) (p : Port) → EachReads b ps → PortReads b p → EachReads b (ps ++ p ∷ [])
  unfolding EachReads
  one_more_reads [] p h k = (k, tt)
  one_more_reads (q ∷ ps) p h k = (h.0, one_more_reads ps p h.1 k)

later_reads : (old new : PlanBuilder) (l : Later old new) (ps : List Port) → EachReads old ps → EachReads new ps
unfolding EachReads
later_reads old new l [] h = tt
later_reads old new l (p ∷ ps) h = (l.reads (read p) h.0, later_reads old new l ps h.1)

later_stand : (old new : PlanBuilder) (l : Later old new) (x : Run) (ps : List Port) (cs : List Channel) → EachReads old ps → PortsStand (bags_of x old) ps cs → PortsStand (bags_of x new) ps cs
unfolding EachReads
later_stand old new l x [] [] h k = tt
later_stand old new l x [] (c ∷ cs) h k = absurd k
later_stand old new l x (p ∷ ps) [] h k = absurd k
later_stand old new l x (p ∷ ps) (c ∷ cs) h k = (l.stands x (read p) (a_channel c) h.0 k.0, later_stand old new l x ps cs h.1 k.1)

one_more_stands : (bags : Bags) (ps : List Port) (cs : List Channel) (p : Port) (c : Channel) → PortsStand bags ps cs → StandsFor bags p c → PortsStand bags (ps ++ p ∷ []) (cs ++ c ∷ [])
one_more_stands bags [] [] p c h k = (k, tt)
one_more_stands bags [] (d ∷ cs) p c h k = absurd h
one_more_stands bags (q ∷ ps) [] p c h k = absurd h
one_more_stands bags (q ∷ ps) (d ∷ cs) p c h k = (h.0, one_more_stands bags ps cs p c h.1 k)

-- ---- one more channel

abbrev unnamed : Arg → Walk Channel
unnamed y = unnamed_channel y.label y

abbrev behind_it : List Channel → Channel → Walk (List Channel)
behind_it cs c = gives (c ∷ []) >>= λ more. gives (cs ++ more)

joined : (cs : List Channel) (a : Around) (u : Lowered (Channel × State)) → then_by a (λ more. gives (cs ++ more)) (then_by a (λ c. gives (c ∷ [])) u) ≡ then_by a (behind_it cs) u
joined cs a (Ok x) = refl
joined cs a (Err e) = refl

module _ (K : Known) (x : One) (so_far : Vec Port) (old mid : Lowering) (keeps : IsLowering old) where
  abbrev In : Ins (List Channel × Arg)
  In p z j = ports.Stands p.run z.plan so_far j.0 × IsOne (bags_of p.run z.plan) x j.1

  abbrev walk : List Channel × Arg → Walk (List Channel)
  walk j = and_more one_channel j.1 j.0

  pub channel_fails : (e : LowerFault) → Walked K (of_one x a_port (λ y. unnamed_channel y.label y)) old mid (Err e) → Walked K (of_step x so_far ports (and_more one_channel)) old mid (Err e)
  channel_fails e step =
      fails K In walk In walk old old (of_one x a_port unnamed) ports mid e (begins K In walk old keeps) step
      (λ p j here k. record { first = j.1; stands = k.1; rest = behind_it j.0; same = joined j.0 p.around (unnamed j.1 p.around p.state) })

  pub channel_added : (port : Port) (more : Vec Port) → ReadPlan old.plan so_far.items → more.items ≡ so_far.items ++ port ∷ []
      → Walked K (of_one x a_port (λ y. unnamed_channel y.label y)) old mid (Ok port) → Walked K (of_step x so_far ports (and_more one_channel)) old mid (Ok more)
  channel_added port more reads is step =
      let before = each_reads old.plan so_far.items reads in
      let U = λ (p : Point) (z : Lowering) (j : List Channel × Channel). PortsStand (bags_of p.run z.plan) so_far.items j.0 × StandsFor (bags_of p.run z.plan) port j.1 in
      let R : List Port → Type 0 = λ ps. ReadPlan mid.plan ps in
      is_given K In walk U (λ j. behind_it j.0 j.1) old mid ports more
      (subst R (sym is) (plan_read mid.plan (so_far.items ++ port ∷ []) (one_more_reads mid.plan so_far.items port (later_reads old.plan mid.plan step.later so_far.items before) step.fits)))
      (goes_further K In walk In walk old old (of_one x a_port unnamed) U (λ j. behind_it j.0 j.1) mid port (begins K In walk old keeps) step
      (λ p j here k.
      record {
        first = j.1;
        stands = k.1;
        goes = λ c s there out came. (
          (j.0, c),
          (later_stand old.plan mid.plan step.later p.run so_far.items j.0 before k.0, out),
          joined j.0 p.around (unnamed j.1 p.around p.state) ∙ ap (then_by p.around (behind_it j.0)) came,
        );
      }))
      (λ p j here k.
      (let S : List Port → Type 0 = λ ps. PortsStand (bags_of p.run mid.plan) ps (j.0 ++ j.1 ∷ []) in
      (j.0 ++ j.1 ∷ [], subst S (sym is) (one_more_stands (bags_of p.run mid.plan) so_far.items j.0 port j.1 k.0 k.1), refl)))
