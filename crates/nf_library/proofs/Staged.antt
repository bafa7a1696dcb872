-- Functions that are gathered, parted and placed.
use Rattle.std.proofs.Common.{◌≡◌, ◌∙◌, ◌+◌, ◌<◌, ◌≤◌, ℕ, Bool, true, false, not, List, [], ◌∷◌, ◌++◌, drop, take, length, get_or, Option, Some, None, refl, sym, ap, subst, subst₂, arith, add-one, drop-cons}
use Rattle.std.proofs.lemmas.List.{append_assoc, append-nil, take_more, take_all, drop_all, map-append, length-map}
use Rattle.std.specs.Prelude.{String}
use Rattle.std.specs.Global.{Global}
use Rattle.std.specs.List.{filter}
use Rattle.nf_value.specs.declared.place.Place.{Place}
use Rattle.nf_ast.specs.declared.tops.Function.{Function}
use Rattle.nf_ast.specs.declared.tops.Top.{Top}
use Rattle.nf_ast.specs.declared.tops.Top.TheVariants as top
use Rattle.nf_ast.specs.declared.tops.Workflow.{Workflow}
use Rattle.nf_ast.specs.Tree as tree
use Rattle.nf_ast.specs.Tops.{maybe, view_workflow_body}
use Rattle.nf_ast.specs.View.{name_tree}
use Rattle.nf_builtins.specs.Natives.{is_among}
use Rattle.nf_callees.specs.Found.{defined_in}
use Rattle.nf_eval.specs.Evaluation.{Definition}
use Rattle.nf_eval.specs.Functions.{definition_of}
use Rattle.nf_eval.specs.Memory.{definitions_of}
use Rattle.nf_eval.specs.declared.library.Library.{Library}
use Rattle.nf_known.specs.Patterns.{HasTexts, has_text}
use Rattle.nf_known.specs.Stuck.{HasOneMore}
use Rattle.nf_meaning.specs.Functions as meaning
use Rattle.nf_meaning.specs.Functions.{in_order, names_of}
use Rattle.nf_meaning.specs.Given.{Definitions}
use Rattle.nf_meaning.specs.Script.{and_definition}
use Rattle.nf_library.specs.declared.waiting.Waiting.{Waiting}
use Rattle.nf_library.specs.Calls.{is_ready}
use Rattle.nf_library.specs.Stages.{IsStage, Rounds, added, defined_by, if_chosen, top_functions}
use Rattle.nf_library.proofs.Rounded.{all_placed, begun, fewer_left, goes_on, stuck}
use Rattle.nf_library.proofs.Steady.{filter_same, rest_same}
use Rattle.nf_library.proofs.Sets.{one_before}

-- ---- the functions of a script

workflow_none : (o : Option (Place × List ℕ)) (w : Workflow) (d : Definitions) → (and_definition (tree.workflow w.place (maybe name_tree o) (view_workflow_body w.body)) d).functions ≡ d.functions
workflow_none None w d = refl
workflow_none (Some n) w d = refl

pub one_top : (t : Top) (ts : List Top) → (defined_in (t ∷ ts)).functions ≡ top_functions t ++ (defined_in ts).functions
one_top (top.Function f) ts = refl
one_top (top.Workflow w) ts = workflow_none w.name w (defined_in ts)
one_top _ ts = refl

-- those so far, before those of the tops from this one on
pub top_more : (tops : List Top) (i : ℕ) (t : Top) (xs ys : List Waiting) → i < length tops → t ≡ get_or tops i t → defined_by ys ≡ defined_by xs ++ top_functions t
    → defined_by xs ++ (defined_in (drop i tops)).functions ≡ (defined_in tops).functions → defined_by ys ++ (defined_in (drop (i + 1) tops)).functions ≡ (defined_in tops).functions
top_more tops i t xs ys lt is more h =
    let left : drop i tops ≡ t ∷ drop (i + 1) tops = rw (add-one, drop-cons tops i t, ← is) refl in
    let rest = (defined_in (drop (i + 1) tops)).functions in
    ap (λ ds. ds ++ rest) more
    ∙ append_assoc (defined_by xs) (top_functions t) rest
    ∙ ap (λ ds. defined_by xs ++ ds) (sym (ap (λ ts. (defined_in ts).functions) left ∙ one_top t (drop (i + 1) tops)))
    ∙ h

pub tops_all : (tops : List Top) (i : ℕ) (xs : List Waiting) → length tops ≤ i → defined_by xs ++ (defined_in (drop i tops)).functions ≡ (defined_in tops).functions → defined_by xs ≡ (defined_in tops).functions
tops_all tops i xs h k =
    sym (append-nil (defined_by xs)) ∙ ap (λ ts. defined_by xs ++ (defined_in ts).functions) (sym (drop_all i tops h)) ∙ k

-- one function more
pub push_more : (xs : List Waiting) (w : Waiting) (f : Function) → w.function.now ≡ f → defined_by (xs ++ w ∷ []) ≡ defined_by xs ++ definition_of f ∷ []
push_more xs w f is = map-append (λ (x : Waiting). definition_of x.function.now) xs (w ∷ []) ∙ ap (λ g. defined_by xs ++ definition_of g ∷ []) is

-- ---- lists that grow

pub names_more : (xs : List Waiting) (i : ℕ) (x : Waiting) → i < length xs → x ≡ get_or xs i x → names_of (defined_by (take (i + 1) xs)) ≡ names_of (defined_by (take i xs)) ++ x.function.now.name ∷ []
names_more xs i x lt is =
    ap (λ ys. names_of (defined_by ys)) (take_more xs i x lt ∙ ap (λ y. take i xs ++ y ∷ []) (sym is))
    ∙ ap names_of (map-append (λ (y : Waiting). definition_of y.function.now) (take i xs) (x ∷ []))
    ∙ map-append (λ (d : Definition). d.name) (defined_by (take i xs)) (definition_of x.function.now ∷ [])

pub names_all : (xs : List Waiting) (i : ℕ) → length xs ≤ i → names_of (defined_by (take i xs)) ≡ names_of (defined_by xs)
names_all xs i h = ap (λ ys. names_of (defined_by ys)) (take_all i xs h)

pub wait_more : (xs : List Waiting) (x : Waiting) → defined_by (xs ++ x ∷ []) ≡ defined_by xs ++ definition_of x.function.now ∷ []
wait_more xs x = map-append (λ (f : Waiting). definition_of f.function.now) xs (x ∷ [])

pub wait_length : (xs : List Waiting) → length (defined_by xs) ≡ length xs
wait_length xs = length-map xs (λ (f : Waiting). definition_of f.function.now)

ahead : (left : List Waiting) (i : ℕ) (x : Waiting) → i < length left → x ≡ get_or left i x → defined_by (drop i left) ≡ definition_of x.function.now ∷ defined_by (drop (i + 1) left)
ahead left i x lt is =
    let next : drop i left ≡ x ∷ drop (i + 1) left = rw (add-one, drop-cons left i x, ← is) refl in
    ap defined_by next

filter_first : (p : Definition → Bool) (d : Definition) (ds : List Definition) (b : Bool) → p d ≡ b → filter p (d ∷ ds) ≡ if_chosen b d ++ filter p ds
filter_first p d ds true h = rw h refl
filter_first p d ds false h = rw h refl

-- with the next function
pub part_more : (p : Definition → Bool) (x : Waiting) (front rest : List Waiting) (b : Bool) (whole xs ys : List Definition) → front ≡ x ∷ rest
    → p (definition_of x.function.now) ≡ b → ys ≡ xs ++ if_chosen b (definition_of x.function.now) → xs ++ filter p (defined_by front) ≡ whole → ys ++ filter p (defined_by rest) ≡ whole
part_more p x front rest b whole xs ys is chosen more h =
    let d = definition_of x.function.now in
    let left = filter p (defined_by rest) in
    ap (λ ds. ds ++ left) more
    ∙ append_assoc xs (if_chosen b d) left
    ∙ ap (λ ds. xs ++ ds) (sym (ap (λ fs. filter p (defined_by fs)) is ∙ filter_first p d (defined_by rest) b chosen))
    ∙ h

pub part_all : (p : Definition → Bool) (rest : List Waiting) (whole xs : List Definition) → rest ≡ [] → xs ++ filter p (defined_by rest) ≡ whole → xs ≡ whole
part_all p rest whole xs none h = sym (append-nil xs) ∙ ap (λ fs. xs ++ filter p (defined_by fs)) (sym none) ∙ h

-- ---- placing

pub added_more : (ready : List Waiting) (i : ℕ) (x : Waiting) (f : Function) (old before new : List Definition) → i < length ready → x ≡ get_or ready i x
    → definition_of f ≡ definition_of x.function.now → new ≡ definition_of f ∷ before
    → added (defined_by (drop i ready)) before ≡ added (defined_by ready) old → added (defined_by (drop (i + 1) ready)) new ≡ added (defined_by ready) old
added_more ready i x f old before new lt is copy put h =
    ap (added (defined_by (drop (i + 1) ready))) (put ∙ ap (λ d. d ∷ before) copy)
    ∙ sym (ap (λ ds. added ds before) (ahead ready i x lt is))
    ∙ h

pub added_all : (ready : List Waiting) (i : ℕ) (old new : List Definition) → length ready ≤ i → added (defined_by (drop i ready)) new ≡ added (defined_by ready) old → new ≡ added (defined_by ready) old
added_all ready i old new h k = ap (λ xs. added (defined_by xs) new) (sym (drop_all i ready h)) ∙ k

pub placed_more : (x : Waiting) (f : Function) (old new : List Definition) (ks ls : List (String Global)) → definition_of f ≡ definition_of x.function.now → new ≡ definition_of f ∷ old
    → HasTexts ks (names_of old) → HasOneMore x.function.now.name ks ls → HasTexts ls (names_of new)
placed_more x f old new ks ls copy put h more =
    subst (λ ds. HasTexts ls (names_of ds)) (sym (put ∙ ap (λ d. d ∷ old) copy)) (one_before x.function.now.name ks ls (names_of old) h more)

-- ---- a round

module _ (ds : List Definition) (names done : List (String Global)) (left : List Definition) (l : Library) (stage : IsStage ds names done left l) where
  abbrev now_ready : Definition → Bool
  now_ready = meaning.is_ready (names_of ds) (names_of (definitions_of l))

  ready_is : filter (is_ready names done) left ≡ filter now_ready left
  ready_is = filter_same names done (names_of ds) (names_of (definitions_of l)) stage.all stage.placed left

  -- none is ready
  pub round_ends : filter (is_ready names done) left ≡ [] → definitions_of l ≡ in_order ds
  round_ends none = stuck ds left (definitions_of l) stage.rounds (sym ready_is ∙ none)

  -- some are
  pub round_goes : (more : List (String Global)) (new : Library) (rest : List Definition) → 0 < length (filter (is_ready names done) left)
      → definitions_of new ≡ added (filter (is_ready names done) left) (definitions_of l) → rest ≡ filter (λ d. not (is_ready names done d)) left
      → (HasTexts done (names_of (definitions_of l)) → HasTexts more (names_of (definitions_of new))) → IsStage ds names more rest new
  round_goes more new rest some put others placed = record {
    all = stage.all;
    placed = placed stage.placed;
    rounds = subst₂ (Rounds ds)
        (sym (others ∙ rest_same names done (names_of ds) (names_of (definitions_of l)) stage.all stage.placed left))
        (sym (put ∙ ap (λ es. added es (definitions_of l)) ready_is))
        (goes_on ds left (definitions_of l) stage.rounds (subst (λ es. 0 < length es) ready_is some));
  }

-- fewer are left after a round in which one was ready
pub round_falls : (p : Definition → Bool) (old new ready : List Waiting) → 0 < length ready → defined_by ready ≡ filter p (defined_by old) → defined_by new ≡ filter (λ d. not (p d)) (defined_by old) → length new < length old
round_falls p old new ready some chosen others =
    let some_chosen : 0 < length (filter p (defined_by old)) = subst (λ n. 0 < n) (sym (wait_length ready) ∙ ap length chosen) some in
    omega (arith, fewer_left p (defined_by old) some_chosen, ap length others, wait_length new, wait_length old)

-- the first stage
pub first_stage : (ds : List Definition) (names done : List (String Global)) (left : List Definition) (l : Library) → HasTexts names (names_of ds) → done ≡ [] → left ≡ ds → definitions_of l ≡ [] → IsStage ds names done left l
first_stage ds names done left l all none same empty = record {
  all = all;
  placed = λ n. ap (has_text n) none ∙ ap (λ es. is_among n (names_of es)) (sym empty);
  rounds = subst₂ (Rounds ds) (sym same) (sym empty) (begun ds);
}

-- nothing is left
pub last_stage : (ds : List Definition) (names done : List (String Global)) (left : List Definition) (l : Library) → left ≡ [] → IsStage ds names done left l → definitions_of l ≡ in_order ds
last_stage ds names done left l none stage = all_placed ds (definitions_of l) (subst (λ es. Rounds ds es (definitions_of l)) none stage.rounds)
