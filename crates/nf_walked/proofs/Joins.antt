-- Two steps after each other.
use Rattle.std.proofs.Common.{◌≡◌, Result, Ok, Err, IfOk, refl, ap}
use Rattle.nf_meaning.specs.declared.fault.LowerFault.{LowerFault}
use Rattle.nf_meaning.specs.declared.fault.LowerFault.TheVariants.{Mem}
use Rattle.nf_meaning.specs.Things as meaning
use Rattle.nf_meaning.specs.Walk.{◌>>=◌, State, Walk, then_by}
use Rattle.nf_lowered.specs.Given.{Gives}
use Rattle.nf_graph.specs.Meaning.{Bags}
use Rattle.nf_meaning.specs.Lowered.{Lowered}
use Rattle.nf_plan.specs.Runs.{Run, bags_of}
use Rattle.nf_leading.specs.Wanted.{AnswersFor}
use Rattle.nf_scopes.specs.declared.things.Thing.{Thing}
use Rattle.nf_lowering.specs.declared.state.Lowering.{Lowering}
use Rattle.nf_lowering.specs.State.{IsLowering}
use Rattle.nf_walked.specs.Forms.{a_thing, nothing}
use Rattle.nf_walked.specs.Steps.{Due, Form, Known, Point, Walked, at, due, from}
use Rattle.nf_walked.proofs.Goings.{later_same}
use Rattle.nf_walked.proofs.Leads.{Ins, begins, ends, fails, goes_further}
use Rattle.nf_walked.proofs.Stepping.{later_as}
use Rattle.nf_walked.proofs.Stills.{still_in}

-- ---- of which nothing goes in

-- one step, and then another of what came out of it
pub then_from : {A B C D : Type 0} {K : Known} {f : Form A B} {g : Form C D} {w : Walk B} {u : B → Walk D} {old mid new : Lowering} {m : A} {r : Result C LowerFault} → IsLowering old
    → Walked K (due f w) old mid (Ok m) → Walked K (from f m g u) mid new r → Walked K (due g (w >>= u)) old new r
then_from {K} {f} {g} {w} {u} {old} {mid} {new} {m} {r} keeps one two =
    ends K (λ p z y. Unit {0}) (λ y. w >>= u) (λ p z y. f.Stands p.run z.plan m y) u old mid (from f m g u) new r
    (goes_further K (λ p z y. Unit {0}) (λ y. w >>= u) (λ p z y. Unit {0}) (λ y. w >>= u) old old (due f w) (λ p z y. f.Stands p.run z.plan m y) u mid m
    (begins K (λ p z y. Unit {0}) (λ y. w >>= u) old keeps) one
    (λ p j stands is. record { first = tt; stands = tt; goes = λ y s there out came. (y, out, ap (then_by p.around u) came) }))
    two (λ p j stands is. record { first = j; stands = is; same = refl })

-- a fault of the first
pub fails_first : {A B C D : Type 0} {K : Known} {f : Form A B} {w : Walk B} {old new : Lowering} {e : LowerFault} (g : Form C D) (u : B → Walk D) → IsLowering old → Walked K (due f w) old new (Err e)
    → Walked K (due g (w >>= u)) old new (Err e)
fails_first {K} {f} {w} {old} {new} {e} g u keeps one =
    fails K (λ p z y. Unit {0}) (λ y. w >>= u) (λ p z y. Unit {0}) (λ y. w >>= u) old old (due f w) g new e (begins K (λ p z y. Unit {0}) (λ y. w >>= u) old keeps) one
    (λ p j stands is. record { first = tt; stands = tt; rest = u; same = refl })

-- a step that gives nothing, and then another
pub then_due : {C D : Type 0} {K : Known} {f : Form (Unit {0}) (Unit {0})} {g : Form C D} {w : Walk (Unit {0})} {u : Walk D} {old mid new : Lowering} {m : Unit {0}} {r : Result C LowerFault} → IsLowering old
    → Walked K (due f w) old mid (Ok m) → Walked K (due g u) mid new r → Walked K (due g (w >>= λ y. u)) old new r
then_due {K} {f} {g} {w} {u} {old} {mid} {new} {m} {r} keeps one two =
    ends K (λ p z y. Unit {0}) (λ y. w >>= λ v. u) (λ p z (y : Unit {0}). Unit {0}) (λ y. u) old mid (due g u) new r
    (goes_further K (λ p z y. Unit {0}) (λ y. w >>= λ v. u) (λ p z y. Unit {0}) (λ y. w >>= λ v. u) old old (due f w) (λ p z (y : Unit {0}). Unit {0}) (λ y. u) mid m
    (begins K (λ p z y. Unit {0}) (λ y. w >>= λ v. u) old keeps) one
    (λ p j stands is. record { first = tt; stands = tt; goes = λ y s there out came. (tt, tt, ap (then_by p.around (λ v. u)) came) }))
    two (λ p j stands is. record { first = tt; stands = tt; same = refl })

-- ---- of the same that goes in

-- a check that changes nothing, and then a step
pub then_check : {I C D : Type 0} {K : Known} {In : Ins I} {c : I → Walk (Unit {0})} {u : I → Walk D} {g : Form C D} {z new : Lowering} {m : Unit {0}} {r : Result C LowerFault} → IsLowering z
    → ((p : Point) (s : State) (y : I) → In p z y → In (at s p) z y) → Walked K (record { In = In; walk = c; form = nothing }) z z (Ok m)
    → Walked K (record { In = In; walk = u; form = g }) z new r → Walked K (record { In = In; walk = λ y. c y >>= λ v. u y; form = g }) z new r
then_check {I} {C} {D} {K} {In} {c} {u} {g} {z} {new} {m} {r} keeps same one two =
    ends K In (λ y. c y >>= λ v. u y) In u z z (record { In = In; walk = u; form = g }) new r
    (goes_further K In (λ y. c y >>= λ v. u y) In (λ y. c y >>= λ v. u y) z z (record { In = In; walk = c; form = nothing }) In u z m
    (begins K In (λ y. c y >>= λ v. u y) z keeps) one
    (λ p j stands is. record { first = j; stands = is; goes = λ y s there out came. (j, same p s j is, ap (then_by p.around (λ v. u j)) came) }))
    two (λ p j stands is. record { first = j; stands = is; same = refl })

pub fails_check : {I C D : Type 0} {K : Known} {In : Ins I} {c : I → Walk (Unit {0})} {z : Lowering} {e : LowerFault} (g : Form C D) (u : I → Walk D) → IsLowering z
    → Walked K (record { In = In; walk = c; form = nothing }) z z (Err e) → Walked K (record { In = In; walk = λ y. c y >>= λ v. u y; form = g }) z z (Err e)
fails_check {I} {C} {D} {K} {In} {c} {z} {e} g u keeps one =
    fails K In (λ y. c y >>= λ v. u y) In (λ y. c y >>= λ v. u y) z z (record { In = In; walk = c; form = nothing }) g z e (begins K In (λ y. c y >>= λ v. u y) z keeps) one
    (λ p j stands is. record { first = j; stands = is; rest = λ v. u j; same = refl })

-- ---- want of memory

-- want of memory after a step
pub lost_after : {A B C D : Type 0} {K : Known} {f : Form A B} {w : Walk B} {old mid : Lowering} {m : A} (d : Due (Unit {0}) C D) → Walked K (due f w) old mid (Ok m) → Walked K d old mid (Err Mem)
lost_after d one = record { later = one.later; goes = tt; fits = tt; follows = λ p y runs stands is. tt }

-- want of memory where nothing was done
pub lost_here : {I C D : Type 0} (K : Known) (d : Due I C D) (z : Lowering) → Walked K d z z (Err Mem)
lost_here K d z = record { later = later_same z.plan; goes = tt; fits = tt; follows = λ p y runs stands is. tt }

-- ---- of a thing

-- what is answered of what it stands for, in any bags
pub answers_for : {C D : Type 0} {K : Known} {g : Form C D} {z : Lowering} {r : Result C LowerFault} (t : Thing) (u : meaning.Thing → Walk D) (stands : Bags → C → D → Type 0) → IsLowering z → IfOk r (g.Fits z.plan)
    → AnswersFor t stands u r → ((x : Run) (v : C) (y : D) → stands (bags_of x z.plan) v y → g.Stands x z.plan v y) → Walked K (from a_thing t g u) z z r
answers_for {C} {D} {K} {g} {z} {r} t u stands keeps fits answers weakens =
    still_in K (from a_thing t g u) z r keeps fits
    (λ p y there is. weaker p.run p.state r (u y p.around p.state) (answers (bags_of p.run z.plan) y is p.around p.state))
  where
    weaker : (x : Run) (s : State) (q : Result C LowerFault) (w : Lowered (D × State)) → Gives (λ v o. stands (bags_of x z.plan) v o.0 × (o.1 ≡ s)) w q
        → Gives (λ v o. g.Stands x z.plan v o.0 × (o.1 ≡ s)) w q
    weaker x s (Ok v) w h = record { value = h.value; is = h.is; fits = (weakens x v h.value.0 h.fits.0, h.fits.1) }
    weaker x s (Err e) w h = h

-- what is answered of a thing alone
pub of_answer : {C D : Type 0} (K : Known) (t : Thing) (g : Form C D) (u : meaning.Thing → Walk D) (z : Lowering) (r : Result C LowerFault) → IsLowering z → IfOk r (g.Fits z.plan)
    → ((p : Point) (y : meaning.Thing) → a_thing.Stands p.run z.plan t y → Gives (λ x v. g.Stands p.run z.plan x v.0 × (v.1 ≡ p.state)) (u y p.around p.state) r)
    → Walked K (from a_thing t g u) z z r
of_answer K t g u z r keeps fits go = still_in K (from a_thing t g u) z r keeps fits (λ p y stands is. go p y is)

-- want of memory, after a step that leaves the plan as it is
pub lost_as : {I C D : Type 0} (K : Known) (d : Due I C D) (old new : Lowering) → new.plan ≡ old.plan → Walked K d old new (Err Mem)
lost_as K d old new same = record { later = later_as old.plan new.plan same; goes = tt; fits = tt; follows = λ p y runs stands is. tt }
