-- What an operator takes of an argument.
use Rattle.std.proofs.Common.{◌≡◌, ℕ, zero, suc, List, [], ◌∷◌, ◌++◌, Result, Ok, Err, Option, IfOk, refl, sym, ap, subst, arith}
use Rattle.nf_value.specs.Plain.{Plain}
use Rattle.nf_bag.specs.declared.rows.Row.{Row}
use Rattle.nf_graph.specs.declared.port.Port.{Port}
use Rattle.nf_tasks.specs.Memory.{Program}
use Rattle.nf_arguments.specs.declared.one.One.TheVariants as one
use Rattle.nf_arguments.specs.declared.written.Written.{Written}
use Rattle.nf_arguments.specs.Args.{written_arg}
use Rattle.nf_meaning.specs.declared.fault.LowerFault.{LowerFault}
use Rattle.nf_meaning.specs.Arguments.{Arg}
use Rattle.nf_meaning.specs.Nodes.{PortsStand}
use Rattle.nf_meaning.specs.Stands.{read}
use Rattle.nf_meaning.specs.Taken as meaning
use Rattle.nf_meaning.specs.Things.{Channel, a_channel}
use Rattle.nf_meaning.specs.Walk.{Walk, ◌>>=◌, gives, then_by}
use Rattle.nf_walked.specs.Gives.{Reads}
use Rattle.nf_walked.specs.Surroundings.{Surroundings}
use Rattle.nf_plan.specs.declared.builder.PlanBuilder.{PlanBuilder}
use Rattle.nf_plan.specs.Plans.{ReadPlan}
use Rattle.nf_plan.specs.Runs.{Run, bags_of}
use Rattle.nf_follows.specs.Things.{PortReads}
use Rattle.nf_lowering.specs.declared.state.Lowering.{Lowering}
use Rattle.nf_lowering.specs.State.{IsLowering}
use Rattle.nf_taken.specs.Bodies.{IsIn, Takes}
use Rattle.nf_taken.specs.declared.body.Body.{Body}
use Rattle.nf_taken.specs.declared.taken.Taken.{Taken}
use Rattle.nf_taken.specs.Taken.{FitsClosing, IsTaken, Keeps}
use Rattle.nf_walked.specs.declared.walker.Walker.{Walker}
use Rattle.nf_walked.specs.Around.{Knows}
use Rattle.nf_walked.specs.Parts.{of_one}
use Rattle.nf_walked.specs.Steps.{Form, Here, Known, Later, Point, Walked, from}
use Rattle.nf_walked.proofs.Leads.{Ins, begins, fails, goes_further, is_given}
use Rattle.nf_walked.proofs.Stills.{still_in}
use Rattle.nf_applied.specs.Taking.{TakenFits, a_taken}

-- ---- what was taken stays, in a later plan

EachReads : PlanBuilder → List Port → Type 0
EachReads b [] = Unit {0}
EachReads b (p ∷ ps) = PortReads b p × EachReads b ps

module _ (b : PlanBuilder) where
  each_reads : (ps : List Port) → ReadPlan b ps → EachReads b ps
  unfolding EachReads
  each_reads [] h = tt
  each_reads (p ∷ ps) h = (h 0 (omega arith), each_reads ps (λ i lt. h (suc i) (omega (arith, lt))))

  plan_read : (ps : List Port) → EachReads b ps → ReadPlan b ps
  unfolding EachReads
  plan_read [] h i lt = absurd (omega (arith, lt))
  plan_read (p ∷ ps) h zero lt = h.0
  plan_read (p ∷ ps) h (suc i) lt = plan_read ps h.1 i (omega (arith, lt))

  one_more_reads : (ps : List Port) (p : Port) → EachReads b ps → PortReads b p → EachReads b (ps ++ p ∷ [])
  unfolding EachReads
  one_more_reads [] p h k = (k, tt)
  one_more_reads (q ∷ ps) p h k = (h.0, one_more_reads ps p h.1 k)

module _ (old new : PlanBuilder) (l : Later old new) where
  later_reads : (ps : List Port) → EachReads old ps → EachReads new ps
  unfolding EachReads
  later_reads [] h = tt
  later_reads (p ∷ ps) h = (l.reads (read p) h.0, later_reads ps h.1)

  pub ports_later : (ps : List Port) → ReadPlan old ps → ReadPlan new ps
  ports_later ps h = plan_read new ps (later_reads ps (each_reads old ps h))

  pub port_more : (ps : List Port) (p : Port) → ReadPlan old ps → PortReads new p → ReadPlan new (ps ++ p ∷ [])
  port_more ps p h k = plan_read new (ps ++ p ∷ []) (one_more_reads new ps p (later_reads ps (each_reads old ps h)) k)

  later_stand : (x : Run) (ps : List Port) (cs : List Channel) → EachReads old ps → PortsStand (bags_of x old) ps cs → PortsStand (bags_of x new) ps cs
  unfolding EachReads
  later_stand x [] [] h k = tt
  later_stand x [] (c ∷ cs) h k = absurd k
  later_stand x (p ∷ ps) [] h k = absurd k
  later_stand x (p ∷ ps) (c ∷ cs) h k = (l.stands x (read p) (a_channel c) h.0 k.0, later_stand x ps cs h.1 k.1)

  pub taken_later : (x : Run) (v : Taken) (t : meaning.Taken) → ReadPlan old v.ports.items → IsTaken x.program (bags_of x old) v t → IsTaken x.program (bags_of x new) v t
  taken_later x v t reads h = record {
    channels = later_stand x v.ports.items t.channels (each_reads old v.ports.items reads) h.channels;
    literal = h.literal;
    pattern = h.pattern;
    start = h.start;
    closing = h.closing;
    labels = h.labels;
    word = h.word;
    options = h.options;
  }

-- ---- an argument that stands for a channel or a value

module _ (K : Known) (r : Row) (v : Taken) (w : Written) (old mid : Lowering) (keeps : IsLowering old) (fits : TakenFits r old.plan v) where
  abbrev pub In : Ins meaning.Taken
  In p z t = IsTaken p.run.program (bags_of p.run z.plan) v t

  module _ {A B : Type 0} (f : Form A B) (one_walk : Arg → Walk B) (more : B → meaning.Taken → meaning.Taken) where
    abbrev pub walk : meaning.Taken → Walk meaning.Taken
    walk t = one_walk (written_arg w) >>= λ b. gives (more b t)

    pub step_fails : (e : LowerFault) → Walked K (of_one (one.Written w) f one_walk) old mid (Err e) → Walked K (from (a_taken r) v (a_taken r) walk) old mid (Err e)
    step_fails e step =
        fails K In walk In walk old old (of_one (one.Written w) f one_walk) (a_taken r) mid e (begins K In walk old keeps) step
        (λ p t here is. record { first = written_arg w; stands = refl; rest = λ b. gives (more b t); same = refl })

    pub step_taken : (a : A) (new : Taken) → Walked K (of_one (one.Written w) f one_walk) old mid (Ok a) → TakenFits r mid.plan new
        → ((x : Run) (t : meaning.Taken) (b : B) → IsTaken x.program (bags_of x mid.plan) v t → f.Stands x mid.plan a b → IsTaken x.program (bags_of x mid.plan) new (more b t))
        → Walked K (from (a_taken r) v (a_taken r) walk) old mid (Ok new)
    step_taken a new step fits_new taken =
        let U = λ (p : Point) (z : Lowering) (j : meaning.Taken × B). IsTaken p.run.program (bags_of p.run z.plan) v j.0 × f.Stands p.run z.plan a j.1 in
        is_given K In walk U (λ j. gives (more j.1 j.0)) old mid (a_taken r) new fits_new
        (goes_further K In walk In walk old old (of_one (one.Written w) f one_walk) U (λ j. gives (more j.1 j.0)) mid a (begins K In walk old keeps) step
        (λ p t here is.
        record {
          first = written_arg w;
          stands = refl;
          goes = λ b s there out came. (
            (t, b),
            (taken_later old.plan mid.plan step.later p.run v t fits.reads is, out),
            ap (then_by p.around (λ b. gives (more b t))) came,
          );
        }))
        (λ p j here k. (more j.1 j.0, taken p.run j.0 j.1 k.0 k.1, refl))

-- ---- one that is taken whatever it stands for

-- the functions of the program are those that are around all bodies
pub keeps_same : {N : Type 0} (keeps_of : N → Type 0) (x y : Surroundings N) → x ≡ y → keeps_of y.natives.now → keeps_of x.natives.now
keeps_same {N} keeps_of x y is h = subst (λ (s : Surroundings N). keeps_of s.natives.now) (sym is) h

pub fits_kept : (r : Row) (b : PlanBuilder) (v : Taken) (q : Result Taken LowerFault) → TakenFits r b v → IfOk q (Keeps r v) → IfOk q (TakenFits r b)
fits_kept r b v (Ok w) fits k = record { reads = subst (λ ps. ReadPlan b ps) (sym k.ports) fits.reads; closing = k.closing fits.closing }
fits_kept r b v (Err e) fits k = tt

pub ports_kept : (r : Row) (v : Taken) (q : Result Taken LowerFault) → IfOk q (Keeps r v) → IfOk q (λ w. w.ports.items ≡ v.ports.items)
ports_kept r v (Ok w) k = k.ports
ports_kept r v (Err e) k = tt

module _ {N : Type 0} (titles_of : N → List (List ℕ)) (answer_of : N → ℕ → List Plain → Option Plain) (x : Walker N) (body : Body N) (z : Lowering) where
  pub taken_here : IsLowering z → Here (Knows titles_of answer_of x) z (λ p. IsIn titles_of answer_of body p.around p.state)
      → (r : Row) (v : Taken) (u : meaning.Taken → Walk meaning.Taken) (q : Result Taken LowerFault) → IfOk q (TakenFits r z.plan)
      → Takes (IsIn titles_of answer_of body) v u q → Walked (Knows titles_of answer_of x) (from (a_taken r) v (a_taken r) u) z z q
  taken_here keeps here r v u q fits takes =
      still_in (Knows titles_of answer_of x) (from (a_taken r) v (a_taken r) u) z q keeps fits
      (λ p t stands is.
      (let P : Program → Type 0 = λ n. IsTaken n (bags_of p.run z.plan) v t in
      let Q : Program → Type 0 = λ n. Reads (IsTaken n (bags_of p.run z.plan)) (u t) p.around p.state q in
      subst Q (sym stands.around.program) (takes p.around p.state (bags_of p.run z.plan) t (here p stands) (subst P stands.around.program is))))

-- nothing was taken
pub none_fits : (r : Row) (b : PlanBuilder) (v : Taken) → v.ports.items ≡ [] → FitsClosing r v.closing → TakenFits r b v
none_fits r b v none closing = record { reads = subst (λ ps. ReadPlan b ps) (sym none) (λ i lt. absurd (omega (arith, lt))); closing = closing }
