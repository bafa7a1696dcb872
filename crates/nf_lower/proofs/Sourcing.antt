-- The items, values and paths that arguments of sources give.
use Rattle.std.proofs.Common.{◌≡◌, ◌∙◌, ◌≤◌, ◌+◌, ◌++◌, ℕ, Bool, true, false, List, [], ◌∷◌, length, map, Result, Ok, Err, IfOk, refl, sym, ap, subst, arith, append_assoc}
use Rattle.std.proofs.lemmas.Bool.{eqb-true, false≢true}
use Rattle.std.proofs.lemmas.List.{append-nil, map-append}
use Rattle.std.specs.Global.{Vec}
use Rattle.std.specs.Prelude.{◌==◌, Option, None, Some, if◌then◌else◌, option_map}
use Rattle.std.specs.Borrow.{Bor}
use Rattle.nf_value.specs.Plain.{Plain}
use Rattle.nf_value.specs.View.{plain_of}
use Rattle.nf_value.specs.declared.place.Place.{Place}
use Rattle.nf_value.specs.declared.value.Value.{Value}
use Rattle.nf_ast.specs.Tree.{Tree}
use Rattle.nf_ast.specs.View.{view}
use Rattle.nf_ast.specs.declared.expr.Expr.{Expr}
use Rattle.nf_graph.specs.Meaning.{Bags}
use Rattle.nf_arguments.specs.declared.args.Args.{Args}
use Rattle.nf_arguments.specs.declared.args.Before.{Before}
use Rattle.nf_arguments.specs.declared.one.One.{One}
use Rattle.nf_arguments.specs.declared.one.One.TheVariants as one
use Rattle.nf_arguments.specs.declared.written.Written.{Written}
use Rattle.nf_arguments.specs.Args.{AreArgs, HasFirst, IsOne, before_in, written_arg, written_args, written_in}
use Rattle.nf_arguments.specs.Written.{plain_label}
use Rattle.nf_meaning.specs.declared.fault.LowerFault.{LowerFault}
use Rattle.nf_meaning.specs.declared.fault.LowerFault.TheVariants.{BadOption, Mem, WrongArity}
use Rattle.nf_meaning.specs.Arguments.{Arg, is_unnamed, unnamed, value_arg}
use Rattle.nf_meaning.specs.Lowered.{Lowered}
use Rattle.nf_meaning.specs.Places.{begins_at}
use Rattle.nf_meaning.specs.Sizes.{counted}
use Rattle.nf_meaning.specs.Sources as meaning
use Rattle.nf_meaning.specs.Things.{Channel, Thing, a_channel, a_value as known_value, queue}
use Rattle.nf_meaning.specs.Walk.{Around, State, Walk, ◌>>=◌, gives, refused, then_by}
use Rattle.nf_lowered.proofs.Joining.{fault_by}
use Rattle.nf_opargs.specs.Sources.{fits_kind, source_of}
use Rattle.nf_opargs.specs.declared.sources.PathKind.{PathKind}
use Rattle.nf_opargs.specs.declared.sources.Source.{Source}
use Rattle.nf_opargs.specs.declared.sources.Source.TheVariants as source
use Rattle.nf_pattern.specs.Literal.{is_literal_path}
use Rattle.nf_around.specs.Gives.{Reads}
use Rattle.nf_scopes.specs.declared.things.Thing as memory
use Rattle.nf_plan.specs.Runs.{Run, bags_of}
use Rattle.nf_plan.specs.declared.builder.PlanBuilder.{PlanBuilder}
use Rattle.nf_lowering.specs.declared.state.Lowering.{Lowering}
use Rattle.nf_lowering.specs.State.{IsLowering}
use Rattle.nf_applied.specs.Bodies.{IsPathArgs, path_args_of, range_walk}
use Rattle.nf_applied.specs.Paths.{path_walk}
use Rattle.nf_applied.specs.Shapes.{IsTheRange}
use Rattle.nf_applied.specs.TakenSources.{IsMadeBy, IsRefused, made_by}
use Rattle.nf_applied.specs.PathArgs.{PathArgs}
use Rattle.nf_walked.specs.Args.{OneReads}
use Rattle.nf_walked.specs.Arguing.{and_more, of_step}
use Rattle.nf_walked.specs.Forms.{a_thing, a_value, nothing, values}
use Rattle.nf_walked.specs.Parts.{of_args, of_one}
use Rattle.nf_walked.specs.Steps.{Form, Goes, Known, Point, StandsAt, Walked, due, from}
use Rattle.nf_walked.proofs.ArgLoops.{SoFar, loop_begins, loop_ends, loop_fails, loop_goes, moved, rest}
use Rattle.nf_walked.proofs.Goings.{anything}
use Rattle.nf_walked.proofs.Leads.{Ins, Leads, begins, ends, fails, goes_further, is_given}
use Rattle.nf_walked.proofs.Rowing.{behind, both, from_nothing, goes_behind}
use Rattle.nf_walked.proofs.Still.{by_walk}
use Rattle.nf_walked.proofs.Stills.{alike, given, refused_here, still_in}
use Rattle.nf_applied.specs.Rooms.{LeavesRoom, Used}
use Rattle.nf_applied.proofs.Counting.{alone}
use Rattle.nf_applied.proofs.Rooms.{goes_keeps, leaves_on}
use Rattle.nf_applied.proofs.Using.{ends_used}
use Rattle.nf_applied.specs.Sources.{GivesItems, a_path, gives_value, items_of, of_items, placed, plain_pair, range_more}
use Rattle.nf_lower.specs.Sources.{HasAsMany, TakesSoMany}
use Rattle.nf_lower.proofs.Takes.{unnamed_left}

-- ---- a step of one argument

-- without a name
pub plain_step : {A B : Type 0} (K : Known) (f : Form A B) (x : One) (made : A) (w : Option (Place × List ℕ) → Arg → B → Walk B) (old new : Lowering) (r : Result A LowerFault) → ((bags : Bags) (y : Arg) → IsOne bags x y → y.label ≡ None)
    → Walked K (of_step x made f (w None)) old new r → Walked K (of_step x made f (λ y. w y.label y)) old new r
plain_step K f x made w old new r none h =
    alike K (of_step x made f (w None)) (λ p z j. f.Stands p.run z.plan made j.0 × IsOne (bags_of p.run z.plan) x j.1) (λ j. w j.1.label j.1 j.0) old new r h
    (λ p j stands k. (j, k, ap (λ l. w l j.1 j.0 p.around p.state) (sym (none (bags_of p.run old.plan) j.1 k.1))))

-- with this name
pub named_step : {A B : Type 0} (K : Known) (f : Form A B) (x : One) (made : A) (w : Option (Place × List ℕ) → Arg → B → Walk B) (n : Place × List ℕ) (old new : Lowering) (r : Result A LowerFault)
    → ((bags : Bags) (y : Arg) → IsOne bags x y → y.label ≡ Some n) → Walked K (of_step x made f (w (Some n))) old new r → Walked K (of_step x made f (λ y. w y.label y)) old new r
named_step K f x made w n old new r some h =
    alike K (of_step x made f (w (Some n))) (λ p z j. f.Stands p.run z.plan made j.0 × IsOne (bags_of p.run z.plan) x j.1) (λ j. w j.1.label j.1 j.0) old new r h
    (λ p j stands k. (j, k, ap (λ l. w l j.1 j.0 p.around p.state) (sym (some (bags_of p.run old.plan) j.1 k.1))))

-- an option where none may stand
pub option_refused : {A B : Type 0} (K : Known) (f : Form A B) (x : One) (made : A) (w : Option (Place × List ℕ) → Arg → B → Walk B) (n : Place × List ℕ) (z : Lowering) → IsLowering z
    → ((bags : Bags) (y : Arg) → IsOne bags x y → y.label ≡ Some n) → ((y : Arg) (b : B) (a : Around) (s : State) → w (Some n) y b a s ≡ Err (BadOption n.0)) → Walked K (of_step x made f (λ y. w y.label y)) z z (Err (BadOption n.0))
option_refused K f x made w n z keeps some refuses =
    refused_here K (of_step x made f (λ y. w y.label y)) z (BadOption n.0) keeps
    (λ p j stands k. ap (λ l. w l j.1 j.0 p.around p.state) (some (bags_of p.run z.plan) j.1 k.1) ∙ refuses j.1 j.0 p.around p.state)

-- the value of an argument, and what is made of it
module _ {A B : Type 0} (K : Known) (f : Form A B) (x : One) (made : A) (h : Arg → Plain → B → Walk B) (old mid : Lowering) (keeps : IsLowering old) (last : (r : Run) (b c : PlanBuilder) (v : A) (y : B) → f.Stands r b v y → f.Stands r c v y) where
  abbrev Has : Ins (B × Arg)
  Has p z j = f.Stands p.run z.plan made j.0 × IsOne (bags_of p.run z.plan) x j.1

  abbrev pub valued : Arg → B → Walk B
  valued y b = value_arg y >>= λ v. h y v b

  abbrev walk : B × Arg → Walk B
  walk j = valued j.1 j.0

  pub value_fails : (e : LowerFault) → Walked K (of_one x a_value value_arg) old mid (Err e) → Walked K (of_step x made f valued) old mid (Err e)
  value_fails e step =
      fails K Has walk Has walk old old (of_one x a_value value_arg) f mid e (begins K Has walk old keeps) step
      (λ p j stands k. record { first = j.1; stands = k.1; rest = λ v. h j.1 v j.0; same = refl })

  pub value_goes : (v : Value) (r : Result A LowerFault) → Walked K (of_one x a_value value_arg) old mid (Ok v) → IfOk r (f.Fits mid.plan)
      → ((p : Point) (bags : Bags) (y : Arg) (b : B) → IsOne bags x y → f.Stands p.run mid.plan made b → Reads (λ u c. f.Stands p.run mid.plan u c) (h y (plain_of v) b) p.around p.state r)
      → Walked K (of_step x made f valued) old mid r
  value_goes v r step fits reads =
      let Has_value = λ (p : Point) (z : Lowering) (j : B × Arg × Plain). f.Stands p.run z.plan made j.0 × ((bags : Bags) × IsOne bags x j.1) × (plain_of v ≡ j.2) in
      let rest = λ (j : B × Arg × Plain). h j.1 j.2 j.0 in
      ends K Has walk Has_value rest old mid (record { In = Has_value; walk = rest; form = f }) mid r
      (goes_further K Has walk Has walk old old (of_one x a_value value_arg) Has_value rest mid v (begins K Has walk old keeps) step
      (λ p j stands k.
      record {
        first = j.1;
        stands = k.1;
        goes = λ u s there out came. ((j.0, j.1, u), (last p.run old.plan mid.plan made j.0 k.0, (bags_of p.run old.plan, k.1), out), ap (then_by p.around (λ w. h j.1 w j.0)) came);
      }))
      (still_in K (record { In = Has_value; walk = rest; form = f }) mid r step.goes.keeps fits
      (λ p j stands k. subst (λ u. Reads (λ w c. f.Stands p.run mid.plan w c) (h j.1 u j.0) p.around p.state r) k.2 (reads p k.1.0 j.1 j.0 k.1.1 k.0)))
      (λ p j stands k. record { first = j; stands = k; same = refl })

-- ---- all arguments, and what is made of what they give

module _ {A B C D : Type 0} (K : Known) (x : Args) (f : Form A B) (w : List Arg → Walk B) (g : Form C D) (u : B → Walk D) (old mid : Lowering) (keeps : IsLowering old) where
  abbrev pub All : Ins (List Arg)
  All p z ys = AreArgs (bags_of p.run z.plan) x ys

  abbrev pub both_walks : List Arg → Walk D
  both_walks ys = w ys >>= u

  pub all_fail : (e : LowerFault) → Walked K (of_args x f w) old mid (Err e) → Walked K (of_args x g both_walks) old mid (Err e)
  all_fail e step =
      fails K All both_walks All both_walks old old (of_args x f w) g mid e (begins K All both_walks old keeps) step
      (λ p ys stands k. record { first = ys; stands = k; rest = u; same = refl })

  pub all_then : (new : Lowering) (v : A) (r : Result C LowerFault) → Walked K (of_args x f w) old mid (Ok v) → Walked K (from f v g u) mid new r → Walked K (of_args x g both_walks) old new r
  all_then new v r one two =
      let Made = λ (p : Point) (z : Lowering) (y : B). f.Stands p.run z.plan v y in
      ends K All both_walks Made u old mid (from f v g u) new r
      (goes_further K All both_walks All both_walks old old (of_args x f w) Made u mid v (begins K All both_walks old keeps) one
      (λ p ys stands k. record { first = ys; stands = k; goes = λ y s there out came. (y, out, ap (then_by p.around u) came) }))
      two (λ p y stands k. record { first = y; stands = k; same = refl })

-- ---- the items of `channel.of`

-- one after the other
module _ {A C : Type 0} (K : Known) (f : Form (Vec A) (List C)) (each : List Arg → Walk (List C)) (one_arg : Arg → Walk (List C)) (cons : (y : Arg) (ys : List Arg) (a : Around) (s : State) → each (y ∷ ys) a s ≡ both one_arg each y ys a s)
    (ends_so : (a : Around) (s : State) → each [] a s ≡ Ok ([], s)) (whole : Args) where
  abbrev pub Rows : Ins (List Arg)
  Rows p z ys = AreArgs (bags_of p.run z.plan) whole ys

  abbrev pub row_of : List Arg → Walk (List C)
  row_of ys = behind each ys []

  abbrev pub RowLeads : Vec A → Args → Lowering → Lowering → Type 0
  RowLeads made args old now = Leads K Rows row_of (SoFar K f (behind each) made args) (rest K f (behind each)) old now

  pub row_begins : (z : Lowering) (made : Vec A) → ((p : Point) → f.Stands p.run z.plan made []) → IsLowering z → RowLeads made whole z z
  row_begins z made stands keeps = loop_begins K f (behind each) whole z made [] keeps (λ p here. stands p)

  module _ (old mid : Lowering) (x : One) (args left : Args) (made : Vec A) (first : HasFirst x args left) (so_far : RowLeads made args old mid) where
    pub row_goes : (new : Lowering) (more : Vec A) → Walked K (of_step x made f (and_more one_arg)) mid new (Ok more) → RowLeads more left old new
    row_goes new more step =
        loop_goes K f (behind each) Rows row_of old mid x args left made (and_more one_arg) first (λ bags y ys are b a s. goes_behind each one_arg y ys a s (cons y ys a s) b) so_far new more step

    pub row_fails : (new : Lowering) (e : LowerFault) → Walked K (of_step x made f (and_more one_arg)) mid new (Err e) → Walked K (of_args whole f each) old new (Err e)
    row_fails new e step =
        by_walk K f Rows row_of each old new (Err e) (λ ys a s. from_nothing each ys a s)
        (loop_fails K f (behind each) Rows row_of old mid x args left made (and_more one_arg) first (λ bags y ys are b a s. goes_behind each one_arg y ys a s (cons y ys a s) b) so_far new e step)

  pub row_ends : (old now : Lowering) (args : Args) (made : Vec A) → ((bags : Bags) (ys : List Arg) → AreArgs bags args ys → ys ≡ []) → f.Fits now.plan made → RowLeads made args old now → Walked K (of_args whole f each) old now (Ok made)
  row_ends old now args made none fits so_far =
      by_walk K f Rows row_of each old now (Ok made) (λ ys a s. from_nothing each ys a s)
      (loop_ends K f (behind each) Rows row_of old now args made none
      (λ b a s. ap (then_by a (λ more. gives (b ++ more))) (ends_so a s) ∙ ap (λ l. Ok (l, s)) (append-nil b)) fits so_far)

-- ---- one item

-- a step of an argument that is written, as one of what was made before
pub of_written : {A B : Type 0} (K : Known) (f : Form A B) (w : Written) (made : A) (u : Arg → B → Walk B) (old new : Lowering) (r : Result A LowerFault) → Walked K (of_step (one.Written w) made f u) old new r
    → Walked K (from f made f (u (written_arg w))) old new r
of_written K f w made u old new r h =
    alike K (of_step (one.Written w) made f u) (λ p z b. f.Stands p.run z.plan made b) (u (written_arg w)) old new r h (λ p b stands is. ((b, written_arg w), (is, refl), refl))

joined_item : (b : List Plain) (a : Around) (r : Lowered (Plain × State)) → then_by a (λ more. gives (b ++ more)) (then_by a meaning.one_item r) ≡ then_by a (λ v. gives (b ++ v ∷ [])) r
joined_item b a (Ok x) = refl
joined_item b a (Err e) = refl

abbrev pub and_item : Arg → Plain → List Plain → Walk (List Plain)
and_item y v b = gives (b ++ v ∷ [])

module _ (K : Known) (w : Written) (items : Vec Value) (old mid : Lowering) (keeps : IsLowering old) where
  as_item : (r : Result (Vec Value) LowerFault) → Walked K (of_step (one.Written w) items values (λ y b. value_arg y >>= λ v. and_item y v b)) old mid r
      → Walked K (from values items values (and_more (meaning.items_by false) (written_arg w))) old mid r
  as_item r h =
      of_written K values w items (and_more (meaning.items_by false)) old mid r
      (by_walk K values (λ p z j. values.Stands p.run z.plan items j.0 × IsOne (bags_of p.run z.plan) (one.Written w) j.1) (λ j. value_arg j.1 >>= λ v. and_item j.1 v j.0)
      (λ j. and_more (meaning.items_by false) j.1 j.0) old mid r (λ j a s. joined_item j.0 a (value_arg j.1 a s)) h)

  pub item_fails : (e : LowerFault) → Walked K (of_one (one.Written w) a_value value_arg) old mid (Err e) → Walked K (from values items values (and_more (meaning.items_by false) (written_arg w))) old mid (Err e)
  item_fails e step = as_item (Err e) (value_fails K values (one.Written w) items and_item old mid keeps (λ r b c v y k. k) e step)

  pub item_given : (v : Value) (new : Vec Value) → Walked K (of_one (one.Written w) a_value value_arg) old mid (Ok v) → new.items ≡ items.items ++ v ∷ []
      → Walked K (from values items values (and_more (meaning.items_by false) (written_arg w))) old mid (Ok new)
  item_given v new step added =
      as_item (Ok new)
      (value_goes K values (one.Written w) items and_item old mid keeps (λ r b c u y k. k) v (Ok new) step tt
      (λ p bags y b is was.
      record {
        value = (b ++ plain_of v ∷ [], p.state);
        is = refl;
        fits = (ap (map plain_of) added ∙ map-append plain_of items.items (v ∷ []) ∙ ap (λ l. l ++ plain_of v ∷ []) was, refl);
      }))

-- ---- one argument of `channel.of`

module _ (K : Known) (y : Arg) (items : Vec Value) (old new : Lowering) (r : Result (Vec Value) LowerFault) where
  abbrev pub GivesItem : (Arg → Walk (List Plain)) → Type 0
  GivesItem one_arg = Walked K (from values items values (and_more one_arg y)) old new r

  pub item_plain : y.label ≡ None → GivesItem (meaning.item_arg None) → GivesItem (λ x. meaning.item_arg x.label x)
  item_plain none h = let P : Option (Place × List ℕ) → Type 0 = λ l. GivesItem (λ x. meaning.item_arg l x) in subst P (sym none) h

  pub item_value : meaning.is_range y.tree ≡ false → GivesItem (meaning.items_by false) → GivesItem (meaning.item_arg None)
  item_value is h = let P : Bool → Type 0 = λ b. GivesItem (meaning.items_by b) in subst P (sym is) h

  pub item_range : (e : Expr) → IsTheRange y.tree e → Walked K (from values items values (range_more (view e))) old new r → GivesItem (meaning.item_arg None)
  item_range e range h =
      let Q : Tree → Type 0 = λ t. Walked K (from values items values (range_more t)) old new r in
      let P : Bool → Type 0 = λ b. GivesItem (meaning.items_by b) in
      subst P (sym range.range) (subst Q (sym range.is) h)

pub item_named : (K : Known) (y : Arg) (items : Vec Value) (z : Lowering) (n : Place × List ℕ) → IsLowering z → y.label ≡ Some n
    → Walked K (from values items values (and_more (λ x. meaning.item_arg x.label x) y)) z z (Err (BadOption n.0))
item_named K y items z n keeps is =
    refused_here K (from values items values (and_more (λ x. meaning.item_arg x.label x) y)) z (BadOption n.0) keeps
    (λ p b stands k. ap (λ l. then_by p.around (λ more. gives (b ++ more)) (meaning.item_arg l y p.around p.state)) is)

-- ---- values with their places

joined_pair : (q : Place) (b : List (Place × Plain)) (a : Around) (r : Lowered (Plain × State))
    → then_by a (λ more. gives (b ++ more)) (then_by a (λ v. gives ((q, v) ∷ [])) r) ≡ then_by a (λ v. gives (b ++ (q, v) ∷ [])) r
joined_pair q b a (Ok x) = refl
joined_pair q b a (Err e) = refl

abbrev pub and_pair : Arg → Plain → List (Place × Plain) → Walk (List (Place × Plain))
and_pair y v b = gives (b ++ (begins_at y.tree, v) ∷ [])

module _ (K : Known) (x : One) (vs : Vec (Place × Value)) (old mid : Lowering) (keeps : IsLowering old) where
  as_pair : (r : Result (Vec (Place × Value)) LowerFault) → Walked K (of_step x vs placed (λ y b. value_arg y >>= λ v. and_pair y v b)) old mid r
      → Walked K (of_step x vs placed (and_more (meaning.only_value None))) old mid r
  as_pair r h =
      by_walk K placed (λ p z j. placed.Stands p.run z.plan vs j.0 × IsOne (bags_of p.run z.plan) x j.1) (λ j. value_arg j.1 >>= λ v. and_pair j.1 v j.0) (λ j. and_more (meaning.only_value None) j.1 j.0) old mid r
      (λ j a s. joined_pair (begins_at j.1.tree) j.0 a (value_arg j.1 a s)) h

  pub pair_fails : (e : LowerFault) → Walked K (of_one x a_value value_arg) old mid (Err e) → Walked K (of_step x vs placed (and_more (meaning.only_value None))) old mid (Err e)
  pair_fails e step = as_pair (Err e) (value_fails K placed x vs and_pair old mid keeps (λ r b c v y k. k) e step)

  pub pair_given : (q : Place) (v : Value) (new : Vec (Place × Value)) → ((bags : Bags) (y : Arg) → IsOne bags x y → q ≡ begins_at y.tree) → Walked K (of_one x a_value value_arg) old mid (Ok v)
      → new.items ≡ vs.items ++ (q, v) ∷ [] → Walked K (of_step x vs placed (and_more (meaning.only_value None))) old mid (Ok new)
  pair_given q v new place step added =
      as_pair (Ok new)
      (value_goes K placed x vs and_pair old mid keeps (λ r b c u y k. k) v (Ok new) step tt
      (λ p bags y b is was.
      record {
        value = (b ++ (begins_at y.tree, plain_of v) ∷ [], p.state);
        is = refl;
        fits = (
          ap (map plain_pair) added ∙ map-append plain_pair vs.items ((q, v) ∷ []) ∙ ap (λ l. l ++ (q, plain_of v) ∷ []) was ∙ ap (λ (t : Place). b ++ (t, plain_of v) ∷ []) (place bags y is),
          refl,
        );
      }))

-- ---- how many values

pub is_one_more : (x : One) (bags : Bags) (y : Arg) → before_in x ≡ None → IsOne bags x y → y.label ≡ None → unnamed (written_in x) ≡ 1
is_one_more (one.Before b) bags y none is label = absurd (let e : ◌≡◌ {A = Option Before} (Some b) None = none in cc)
is_one_more (one.Written w) bags y none is label =
    let e = ap is_unnamed (ap (λ (z : Arg). z.label) (sym is) ∙ label) in
    omega (arith, e)

pub written_is : (x : One) → before_in x ≡ None → (w : Written) × (x ≡ one.Written w)
written_is (one.Before b) none = absurd (let e : ◌≡◌ {A = Option Before} (Some b) None = none in cc)
written_is (one.Written w) none = (w, refl)

-- as many as the label says
pub pairs_more : (x : One) (n k : ℕ) → before_in x ≡ None → ((bags : Bags) (y : Arg) → IsOne bags x y → y.label ≡ None) → n ≡ k + 1 → n ≡ k + unnamed (written_in x)
pairs_more x n k written none is =
    let it = written_is x written in
    let w = it.0 in
    let P : One → Type 0 = λ o. IsOne (λ i out. []) o (written_arg w) in
    let iso = subst P (sym it.1) refl in
    let e = is_one_more x (λ i out. []) (written_arg w) written iso (none (λ i out. []) (written_arg w) iso) in
    omega (arith, e, is)

pub pairs_on : {A E : Type 0} (x : One) (k : ℕ) (r : Result (Vec A) E) → before_in x ≡ None → ((bags : Bags) (y : Arg) → IsOne bags x y → y.label ≡ None) → IfOk r (λ vs. length vs.items ≡ k + 1)
    → IfOk r (λ vs. length vs.items ≡ k + unnamed (written_in x))
pairs_on x k (Ok vs) written none is = pairs_more x (length vs.items) k written none is
pairs_on x k (Err e) written none is = tt

pub pairs_go : (x : One) (old new : Args) (n k whole : ℕ) → HasFirst x old new → n ≡ k + unnamed (written_in x) → k + unnamed (written_args old) ≡ whole → n + unnamed (written_args new) ≡ whole
pairs_go x old new n k whole h is so_far = let e = unnamed_left x old new h in omega (arith, e, is, so_far)

-- ---- the items of sources

-- items as those of a source's channel
pub as_channel : (K : Known) (x : Args) (t : Source) (w : List Arg → Walk (List Plain)) (old new : Lowering) (r : Result (Vec Value) LowerFault) → Walked K (of_args x values w) old new r
    → Walked K (of_args x (items_of t) (λ ys. w ys >>= λ vs. gives (record { is_value = gives_value t; bag = vs }))) old new r
as_channel K x t w old new (Ok us) h = record {
  later = h.later;
  goes = h.goes;
  fits = tt;
  follows = λ p ys runs stands is.
      (let it = h.follows p ys runs stands is in
      record {
        value = (record { is_value = gives_value t; bag = it.value.0 }, it.value.1);
        is = ap (then_by p.around (λ vs. gives (record { is_value = gives_value t; bag = vs }))) it.is;
        fits = record { stands = it.fits.stands; out = ap (λ vs. record { is_value = gives_value t; bag = vs }) it.fits.out };
      });
}
as_channel K x t w old new (Err e) h = record {
  later = h.later;
  goes = tt;
  fits = tt;
  follows = λ p ys runs stands is.
      fault_by (w ys p.around p.state) (then_by p.around (λ vs. gives (record { is_value = gives_value t; bag = vs })) (w ys p.around p.state)) e
      (λ k. ap (then_by p.around (λ vs. gives (record { is_value = gives_value t; bag = vs }))) k) (h.follows p ys runs stands is);
}

-- the source that is wanted
pub for_source : (K : Known) (x : Args) (t want : Source) (old new : Lowering) (r : Result (Vec Value) LowerFault) → want ≡ t → Walked K (of_args x (items_of t) (meaning.source (source_of t))) old new r
    → Walked K (of_args x (items_of want) (meaning.source (source_of want))) old new r
for_source K x t want old new r is h = let P : Source → Type 0 = λ s. Walked K (of_args x (items_of s) (meaning.source (source_of s))) old new r in subst P (sym is) h

pub no_single : {A E : Type 0} (t want : Source) (r : Result (Vec A) E) → want ≡ t → gives_value t ≡ false → gives_value want ≡ true → IfOk r (λ vs. length vs.items ≤ 1)
no_single t want r is not h = absurd (false≢true (sym not ∙ ap gives_value (sym is) ∙ h))

-- the list of only one value
pub items_from : (K : Known) (vs : Vec (Place × Value)) (u : List (Place × Plain) → Walk (List Plain)) (z : Lowering) (r : Result (Vec Value) LowerFault) → IsLowering z → GivesItems u vs r → Walked K (from placed vs values u) z z r
items_from K vs u z r keeps h =
    still_in K (from placed vs values u) z r keeps (anything r)
    (λ p ys stands is. subst (λ zs. Reads (λ (us : Vec Value) zs. map plain_of us.items ≡ zs) (u zs) p.around p.state r) is (h p.around p.state))

seconds : (vs : List (Place × Value)) → map plain_of (map (λ v. v.1) vs) ≡ map (λ v. v.1) (map plain_pair vs)
seconds [] = refl
seconds (v ∷ vs) = ap (λ us. plain_of v.1 ∷ us) (seconds vs)

pub alone_from : (K : Known) (vs : Vec (Place × Value)) (us : Vec Value) (z : Lowering) → IsLowering z → us.items ≡ map (λ v. v.1) vs.items
    → Walked K (from placed vs (items_of source.Value) (λ ys. gives (record { is_value = true; bag = map (λ v. v.1) ys }))) z z (Ok us)
alone_from K vs us z keeps is =
    given K (from placed vs (items_of source.Value) (λ ys. gives (record { is_value = true; bag = map (λ v. v.1) ys }))) z us keeps tt
    (λ p ys stands k. (
      record { is_value = true; bag = map (λ v. v.1) ys },
      refl,
      ap (λ (xs : List Plain). record { is_value = true; bag = xs }) (ap (map plain_of) is ∙ seconds vs.items ∙ ap (map (λ v. v.1)) k),
    ))

pub none_from : (K : Known) (vs : Vec (Place × Value)) (us : Vec Value) (z : Lowering) → IsLowering z → us.items ≡ [] → Walked K (from placed vs (items_of source.Empty) (λ ys. gives (queue []))) z z (Ok us)
none_from K vs us z keeps is =
    given K (from placed vs (items_of source.Empty) (λ ys. gives (queue []))) z us keeps tt (λ p ys stands k. (queue [], refl, ap (λ (xs : List Plain). queue xs) (ap (map plain_of) is)))

-- ---- the call of a source

module _ (K : Known) (p : Place) (name : List ℕ) (x : Args) (n : ℕ) (counts : (bags : Bags) (ys : List Arg) → AreArgs bags x ys → n ≡ unnamed ys) (old : Lowering) (keeps : IsLowering old) where
  pub source_refused : (e : LowerFault) → IsRefused (meaning.source_call p name) n e → Walked K (of_args x a_thing (meaning.source_call p name)) old old (Err e)
  source_refused e h =
      refused_here K (of_args x a_thing (meaning.source_call p name)) old e keeps
      (λ q ys stands is. ap (λ (w : Walk Thing). w q.around q.state) (h ys (sym (counts (bags_of q.run old.plan) ys is))))

  module _ (t : Source) (made : IsMadeBy (meaning.source_call p name) p n t) (none : x.before ≡ None) (mid : Lowering) where
    abbrev pub Given : Ins (List Arg)
    Given q z ys = AreArgs (bags_of q.run z.plan) x ys

    abbrev called : List Arg → Walk Thing
    called ys = meaning.source_call p name ys

    abbrev giving : List Arg → Walk Thing
    giving ys = meaning.source (source_of t) ys >>= λ c. gives (a_channel c)

    called_is : (ys : List Arg) (q : Point) → AreArgs (bags_of q.run old.plan) x ys → called ys q.around q.state ≡ then_by q.around (λ _. giving ys) (counted p 0 q.around q.state)
    called_is ys q is = ap (λ (w : Walk Thing). w q.around q.state) (made.goes_on ys (sym (counts (bags_of q.run old.plan) ys is)))

    pub source_uncounted : (e : LowerFault) → Walked K (due nothing (counted p 0)) old mid (Err e) → Walked K (of_args x a_thing (meaning.source_call p name)) old mid (Err e)
    source_uncounted e step =
        fails K Given called Given called old old (due nothing (counted p 0)) a_thing mid e (begins K Given called old keeps) step
        (λ q ys stands is. record { first = tt; stands = tt; rest = λ _. giving ys; same = called_is ys q is })

    module _ (u : Unit {0}) (one : Walked K (due nothing (counted p 0)) old mid (Ok u)) where
      counted_source : Leads K Given called Given giving old mid
      counted_source =
          goes_further K Given called Given called old old (due nothing (counted p 0)) Given giving mid u (begins K Given called old keeps) one
          (λ q ys stands is.
          record {
            first = tt;
            stands = tt;
            goes = λ v s there out came. (ys, moved (bags_of q.run old.plan) (bags_of q.run mid.plan) x ys none is, called_is ys q is ∙ ap (then_by q.around (λ _. giving ys)) came);
          })

      pub source_items_fail : (new : Lowering) (e : LowerFault) → Walked K (of_args x (items_of t) (meaning.source (source_of t))) mid new (Err e) → Walked K (of_args x a_thing (meaning.source_call p name)) old new (Err e)
      source_items_fail new e step =
          fails K Given called Given giving old mid (of_args x (items_of t) (meaning.source (source_of t))) a_thing new e counted_source step
          (λ q ys stands is. record { first = ys; stands = is; rest = λ c. gives (a_channel c); same = refl })

      pub source_items_given : (last new : Lowering) (vs : Vec Value) (r : Result memory.Thing LowerFault) → Walked K (of_args x (items_of t) (meaning.source (source_of t))) mid last (Ok vs) → LeavesRoom 1 0 old.plan mid.plan
          → Used K 1 0 (of_items t vs) last new r → Walked K (of_args x a_thing (meaning.source_call p name)) old new r
      source_items_given last new vs r two room three =
          let Has_items = λ (q : Point) (z : Lowering) (c : Channel). (items_of t).Stands q.run z.plan vs c in
          let last_walk = λ (c : Channel). gives (a_channel c) in
          ends_used K Given called Has_items last_walk old last (of_items t vs) 1 0 new r
          (goes_further K Given called Given giving old mid (of_args x (items_of t) (meaning.source (source_of t))) Has_items last_walk last vs counted_source two
          (λ q ys stands is. record { first = ys; stands = is; goes = λ c s there out came. (c, out, ap (then_by q.around last_walk) came) }))
          three (λ q c stands is. record { first = c; stands = is; same = refl }) (leaves_on 1 0 old.plan mid.plan last.plan room (goes_keeps mid last two.goes))

-- ---- a file

abbrev pub file_walk : List Arg → Walk Thing
file_walk ys = meaning.path_args is_literal_path ys meaning.no_path >>= λ x. meaning.files_of false x >>= λ fs. gives (known_value (meaning.first_file x.path fs))

-- another number of arguments
abbrev if_one : Bool → Place → Walk Thing → Walk Thing
if_one b p w = if b then w else refused (WrongArity p)

module _ (K : Known) (p : Place) (x : Args) (n : ℕ) (counts : (bags : Bags) (ys : List Arg) → AreArgs bags x ys → n ≡ unnamed ys) (old : Lowering) where
  pub file_refused : IsLowering old → (n == 1) ≡ false → Walked K (of_args x a_thing (meaning.file_call p)) old old (Err (WrongArity p))
  file_refused keeps other =
      refused_here K (of_args x a_thing (meaning.file_call p)) old (WrongArity p) keeps
      (λ q ys stands is.
      (let e : (unnamed ys == 1) ≡ false = ap (λ m. m == 1) (sym (counts (bags_of q.run old.plan) ys is)) ∙ other in
      ap (λ b. if_one b p (file_walk ys) q.around q.state) e))

  pub file_given : (new : Lowering) (r : Result memory.Thing LowerFault) → (n == 1) ≡ true → Walked K (of_args x a_thing file_walk) old new r → Walked K (of_args x a_thing (meaning.file_call p)) old new r
  file_given new r one h =
      alike K (of_args x a_thing file_walk) (λ q z ys. AreArgs (bags_of q.run z.plan) x ys) (meaning.file_call p) old new r h
      (λ q ys stands is.
      (let e : (unnamed ys == 1) ≡ true = ap (λ m. m == 1) (sym (counts (bags_of q.run old.plan) ys is)) ∙ one in
      (ys, is, sym (ap (λ b. if_one b p (file_walk ys) q.around q.state) e))))

-- ---- paths

abbrev pub path_each : PathKind → List Arg → meaning.PathArgs → Walk meaning.PathArgs
path_each k ys b = meaning.path_args (fits_kind k) ys b

abbrev pub one_path : PathKind → Arg → meaning.PathArgs → Walk meaning.PathArgs
one_path k y b = meaning.path_arg (fits_kind k) y.label y b

module _ (K : Known) (k : PathKind) (whole : Args) where
  abbrev pub Paths : Ins (List Arg)
  Paths p z ys = AreArgs (bags_of p.run z.plan) whole ys

  abbrev pub paths_of : List Arg → Walk meaning.PathArgs
  paths_of ys = path_each k ys meaning.no_path

  abbrev pub PathLeads : PathArgs → Args → Lowering → Lowering → Type 0
  PathLeads made args old now = Leads K Paths paths_of (SoFar K a_path (path_each k) made args) (rest K a_path (path_each k)) old now

  pub paths_begin : (z : Lowering) (made : PathArgs) → path_args_of made ≡ meaning.no_path → IsLowering z → PathLeads made whole z z
  paths_begin z made is keeps = loop_begins K a_path (path_each k) whole z made meaning.no_path keeps (λ p stands. is)

  module _ (old mid : Lowering) (x : One) (args left : Args) (made : PathArgs) (first : HasFirst x args left) (so_far : PathLeads made args old mid) where
    pub paths_go : (new : Lowering) (more : PathArgs) → Walked K (of_step x made a_path (one_path k)) mid new (Ok more) → PathLeads more left old new
    paths_go new more step = loop_goes K a_path (path_each k) Paths paths_of old mid x args left made (one_path k) first (λ bags y ys are b a s. refl) so_far new more step

    pub paths_fail : (new : Lowering) (e : LowerFault) → Walked K (of_step x made a_path (one_path k)) mid new (Err e) → Walked K (of_args whole a_path paths_of) old new (Err e)
    paths_fail new e step = loop_fails K a_path (path_each k) Paths paths_of old mid x args left made (one_path k) first (λ bags y ys are b a s. refl) so_far new e step

  pub paths_end : (old now : Lowering) (args : Args) (made : PathArgs) → ((bags : Bags) (ys : List Arg) → AreArgs bags args ys → ys ≡ []) → PathLeads made args old now → Walked K (of_args whole a_path paths_of) old now (Ok made)
  paths_end old now args made none so_far = loop_ends K a_path (path_each k) Paths paths_of old now args made none (λ b a s. refl) tt so_far

-- a value as the path
abbrev pub and_path : PathKind → Arg → Plain → meaning.PathArgs → Walk meaning.PathArgs
and_path k y v b = path_walk (fits_kind k) (begins_at y.tree) v b

joined_path : (fit : List ℕ → Bool) (q : Place) (b : meaning.PathArgs) (a : Around) (r : Lowered (Plain × State))
    → then_by a (λ t. gives (record b { path = t })) (then_by a (meaning.path_wanted fit q) r) ≡ then_by a (λ v. path_walk fit q v b) r
joined_path fit q b a (Ok x) = refl
joined_path fit q b a (Err e) = refl

module _ (K : Known) (k : PathKind) (x : One) (made : PathArgs) (old mid : Lowering) (keeps : IsLowering old) where
  as_path : (r : Result PathArgs LowerFault) → Walked K (of_step x made a_path (λ y b. value_arg y >>= λ v. and_path k y v b)) old mid r
      → Walked K (of_step x made a_path (λ y b. meaning.path_arg (fits_kind k) None y b)) old mid r
  as_path r h =
      by_walk K a_path (λ p z j. a_path.Stands p.run z.plan made j.0 × IsOne (bags_of p.run z.plan) x j.1) (λ j. value_arg j.1 >>= λ v. and_path k j.1 v j.0) (λ j. meaning.path_arg (fits_kind k) None j.1 j.0) old mid r
      (λ j a s. joined_path (fits_kind k) (begins_at j.1.tree) j.0 a (value_arg j.1 a s)) h

  pub path_fails : (e : LowerFault) → Walked K (of_one x a_value value_arg) old mid (Err e) → Walked K (of_step x made a_path (λ y b. meaning.path_arg (fits_kind k) None y b)) old mid (Err e)
  path_fails e step = as_path (Err e) (value_fails K a_path x made (and_path k) old mid keeps (λ r b c v y h. h) e step)

  pub path_given : (q : Place) (v : Value) (r : Result PathArgs LowerFault) → ((bags : Bags) (y : Arg) → IsOne bags x y → q ≡ begins_at y.tree) → Walked K (of_one x a_value value_arg) old mid (Ok v)
      → ((a : Around) (s : State) → Reads IsPathArgs (path_walk (fits_kind k) q (plain_of v) (path_args_of made)) a s r) → Walked K (of_step x made a_path (λ y b. meaning.path_arg (fits_kind k) None y b)) old mid r
  path_given q v r place step reads =
      as_path r
      (value_goes K a_path x made (and_path k) old mid keeps (λ r b c u y h. h) v r step (anything r)
      (λ p bags y b is was.
      (let P : meaning.PathArgs → Type 0 = λ c. Reads IsPathArgs (path_walk (fits_kind k) (begins_at y.tree) (plain_of v) c) p.around p.state r in
      let Q : Place → Type 0 = λ t. Reads IsPathArgs (path_walk (fits_kind k) t (plain_of v) (path_args_of made)) p.around p.state r in
      subst P was (subst Q (place bags y is) (reads p.around p.state)))))

-- ---- what is written reads no plan

pub one_reads : (b : PlanBuilder) (x : One) → before_in x ≡ None → OneReads b x
one_reads b (one.Before y) none = absurd (let e : ◌≡◌ {A = Option Before} (Some y) None = none in cc)
one_reads b (one.Written w) none = tt

-- ---- `channel.value` takes one argument

one_if : (n : ℕ) → (n == 1) ≡ true → n ≤ 1
one_if n h = omega (arith, eqb-true n 1 h)

pub at_most_one : {A : Type 0} (want : Source) (x : Args) (r : Result (Vec A) LowerFault) → want ≡ source.Value → TakesSoMany want x → HasAsMany x r → IfOk r (λ vs. length vs.items ≤ 1)
at_most_one want x (Ok vs) is takes many =
    let P : Source → Type 0 = λ t. TakesSoMany t x in
    let one = one_if (unnamed (written_args x)) (subst P is takes) in
    omega (arith, one, many)
at_most_one want x (Err e) is takes many = tt

-- ---- the name of a source, as it lies in memory

pub refused_so : (p : Place) (n m : List ℕ) (k : ℕ) (e : LowerFault) → n ≡ m → IsRefused (meaning.source_call p n) k e → IsRefused (meaning.source_call p m) k e
refused_so p n m k e is h = let P : List ℕ → Type 0 = λ l. IsRefused (meaning.source_call p l) k e in subst P is h

pub made_so : (p : Place) (n m : List ℕ) (k : ℕ) (t : Source) → n ≡ m → IsMadeBy (meaning.source_call p n) p k t → IsMadeBy (meaning.source_call p m) p k t
made_so p n m k t is h = let P : List ℕ → Type 0 = λ l. IsMadeBy (meaning.source_call p l) p k t in subst P is h

pub takes_so_many : (t : Source) (x : Args) (n : ℕ) → x.before ≡ None → ((bags : Bags) (ys : List Arg) → AreArgs bags x ys → n ≡ unnamed ys) → meaning.takes (source_of t) n ≡ true → TakesSoMany t x
takes_so_many t x n before counts h =
    ap (meaning.takes (source_of t)) (sym (counts (λ i out. []) (written_args x) (alone (λ i out. []) x before))) ∙ h
