-- The files of a path, which are wanted.
use Rattle.std.proofs.Common.{◌≡◌, ◌∙◌, ℕ, Bool, List, Result, Ok, Err, refl, sym, ap, subst}
use Rattle.std.specs.Prelude.{Option, Some, None}
use Rattle.nf_value.specs.Plain.{Plain}
use Rattle.nf_value.specs.declared.file.FileRef.{FileRef}
use Rattle.nf_value.specs.declared.place.Place.{Place}
use Rattle.nf_meaning.specs.declared.fault.LowerFault.{LowerFault}
use Rattle.nf_meaning.specs.declared.fault.LowerFault.TheVariants.{Mem}
use Rattle.nf_meaning.specs.Arguments.{Arg}
use Rattle.nf_meaning.specs.Given.{files_at}
use Rattle.nf_meaning.specs.Sources as meaning
use Rattle.nf_meaning.specs.Walk.{Around, State, Walk, gives, then_by, wants}
use Rattle.nf_arguments.specs.declared.args.Before.{Before}
use Rattle.nf_arguments.specs.declared.one.One.{One}
use Rattle.nf_arguments.specs.declared.one.One.TheVariants as one
use Rattle.nf_arguments.specs.declared.written.Written.{Written}
use Rattle.nf_arguments.specs.Args.{IsOne, written_arg}
use Rattle.nf_walked.specs.Gives.{Reads}
use Rattle.nf_graph.specs.Meaning.{Bags}
use Rattle.nf_callees.specs.Found.{held}
use Rattle.nf_plan.specs.Plans.{want_of}
use Rattle.nf_plan.specs.Runs.{Run, bags_of}
use Rattle.nf_plan.specs.declared.want.Want.{Want}
use Rattle.nf_lowering.specs.declared.state.Lowering.{Lowering}
use Rattle.nf_lowering.specs.State.{IsLowering}
use Rattle.nf_taken.specs.Bodies.{IsIn, IsPathArgs, path_args_of}
use Rattle.nf_taken.specs.Paths.{wanted_as}
use Rattle.nf_taken.specs.declared.body.Body.{Body}
use Rattle.nf_taken.specs.declared.paths.PathArgs.{PathArgs}
use Rattle.nf_walked.specs.declared.walker.Walker.{Walker}
use Rattle.nf_walked.specs.Around.{Knows, files_of}
use Rattle.nf_walked.specs.Arguing.{of_step}
use Rattle.nf_walked.specs.Forms.{nothing}
use Rattle.nf_walked.specs.Steps.{Due, Form, Here, InAll, Known, Later, Walked, due, from}
use Rattle.nf_walked.proofs.Goings.{anything, later_same}
use Rattle.nf_walked.proofs.Leads.{Ins, begins, fails, goes_further, is_given}
use Rattle.nf_walked.proofs.Stills.{alike, still_in}
use Rattle.nf_applied.specs.Sources.{a_path, with_files}

-- ---- what was found

pub is_found : {N : Type 0} (titles_of : N → List (List ℕ)) (answer_of : N → ℕ → List Plain → Option Plain) (x : Walker N) (path : List ℕ) (fs : List FileRef)
    → fs ≡ files_of (held path x.found.now.entries) → InAll (Knows titles_of answer_of x) (λ a. fs ≡ files_at path a.given.found)
is_found titles_of answer_of x path fs is r a knows = is ∙ knows.found path

-- ---- what is made of it

module _ {C D : Type 0} (K : Known) (v : PathArgs) (pairs : Bool) (want : Want) (is : want_of want ≡ wanted_as pairs (path_args_of v)) (f : Form C D) (make : meaning.PathArgs → List FileRef → D) (old new : Lowering)
    (keeps : IsLowering old) where
  abbrev In : Ins meaning.PathArgs
  In p z y = IsPathArgs v y

  abbrev walk : meaning.PathArgs → Walk D
  walk y = with_files pairs make y

  -- what is left once the files are wanted
  abbrev rest : meaning.PathArgs → Walk D
  rest y a s = gives (make y (files_at y.path a.given.found)) a s

  same : (y : meaning.PathArgs) (a : Around) (s : State) → path_args_of v ≡ y → walk y a s ≡ then_by a (λ _. rest y) (wants (want_of want) a s)
  same y a s h =
      ap (λ w. then_by a (λ _. rest y) (wants w a s)) (sym (is ∙ ap (wanted_as pairs) h))

  pub found_fails : (e : LowerFault) → Walked K (due nothing (wants (want_of want))) old new (Err e) → Walked K (from a_path v f walk) old new (Err e)
  found_fails e step =
      fails K In walk In walk old old (due nothing (wants (want_of want))) f new e (begins K In walk old keeps) step
      (λ p y here h. record { first = tt; stands = tt; rest = λ _. rest y; same = same y p.around p.state h })

  pub found_given : (fs : List FileRef) (u : Unit {0}) (c : C) → InAll K (λ a. fs ≡ files_at v.path a.given.found) → f.Fits new.plan c → ((x : Run) → f.Stands x new.plan c (make (path_args_of v) fs))
      → Walked K (due nothing (wants (want_of want))) old new (Ok u) → Walked K (from a_path v f walk) old new (Ok c)
  found_given fs u c found fits stands step =
      is_given K In walk In rest old new f c fits
      (goes_further K In walk In walk old old (due nothing (wants (want_of want))) In rest new u (begins K In walk old keeps) step
      (λ p y here h. record { first = tt; stands = tt; goes = λ w s there out came. (y, h, same y p.around p.state h ∙ ap (then_by p.around (λ _. rest y)) came) }))
      (λ p y here h.
      (let P : meaning.PathArgs → Type 0 = λ j. f.Stands p.run new.plan c (make j (files_at j.path p.around.given.found)) in
      let Q : List FileRef → Type 0 = λ gs. f.Stands p.run new.plan c (make (path_args_of v) gs) in
      (make y (files_at y.path p.around.given.found), subst P h (subst Q (found p.run p.around here.around) (stands p.run)), refl)))

-- ---- an option

pub option_read : {N : Type 0} (titles_of : N → List (List ℕ)) (answer_of : N → ℕ → List Plain → Option Plain) (x : Walker N) (body : Body N) (z : Lowering) (n : Place × List ℕ) (v : PathArgs) (r : Result PathArgs LowerFault) (y : Arg)
    → IsLowering z → Here (Knows titles_of answer_of x) z (λ p. IsIn titles_of answer_of body p.around p.state)
    → ((a : Around) (s : State) → IsIn titles_of answer_of body a s → Reads IsPathArgs (meaning.must_exist n y (path_args_of v)) a s r)
    → Walked (Knows titles_of answer_of x) (from a_path v a_path (meaning.must_exist n y)) z z r
option_read titles_of answer_of x body z n v r y keeps here reads =
    still_in (Knows titles_of answer_of x) (from a_path v a_path (meaning.must_exist n y)) z r keeps (anything r)
    (λ p so_far stands is. subst (λ j. Reads IsPathArgs (meaning.must_exist n y j) p.around p.state r) is (reads p.around p.state (here p stands)))

-- ---- an argument

module _ (K : Known) (x : One) (v : PathArgs) (u : Arg → meaning.PathArgs → Walk meaning.PathArgs) (z : Lowering) (r : Result PathArgs LowerFault) where
  pub written_read : (w : Written) → x ≡ one.Written w → Walked K (from a_path v a_path (u (written_arg w))) z z r → Walked K (of_step x v a_path u) z z r
  written_read w is h =
      let P : One → Type 0 = λ o. Walked K (of_step o v a_path u) z z r in
      subst P (sym is)
      (alike K (from a_path v a_path (u (written_arg w))) (λ p y j. IsPathArgs v j.0 × IsOne (bags_of p.run y.plan) (one.Written w) j.1) (λ j. u j.1 j.0) z z r h
      (λ p j stands k. (j.0, k.0, ap (λ (y : Arg). u y j.0 p.around p.state) (sym k.1))))

  -- what stands before a pipe has no label
  pub no_label_before : (b : Before) (q : Place) (n : List ℕ) → x ≡ one.Before b → ((bags : Bags) (y : Arg) → IsOne bags x y → y.label ≡ Some (q, n)) → (bags : Bags) (y : Arg) → IsOne bags x y → ⊥
  no_label_before b q n is label bags y k =
      let P : One → Type 0 = λ o. IsOne bags o y in
      let before = subst P is k in
      let e : ◌≡◌ {A = Option (Place × List ℕ)} None (Some (q, n)) = sym before.label ∙ label bags y k in
      cc

  pub never_read : ((bags : Bags) (y : Arg) → IsOne bags x y → ⊥) → (e : LowerFault) → Walked K (of_step x v a_path u) z z (Err e)
  never_read never e = record { later = later_same z.plan; goes = tt; fits = tt; follows = λ p j runs stands k. absurd (never (bags_of p.run z.plan) j.1 k.1) }

-- want of memory after a step
pub lost_later : {I A B : Type 0} (K : Known) (d : Due I A B) (old new : Lowering) → Later old.plan new.plan → Walked K d old new (Err Mem)
lost_later K d old new later = record { later = later; goes = tt; fits = tt; follows = λ p y runs stands is. tt }
