-- What a name calls, and how a workflow is entered.
use Rattle.std.proofs.Common.{◌≡◌, ℕ, zero, suc, ◌-◌, ◌≤◌, Bool, true, false, List, [], ◌∷◌, ◌++◌, length, map, drop, slice_get, refl, sym, ap, ◌∙◌, subst, arith, append-nil}
use Rattle.std.specs.Borrow.{Bor}
use Rattle.std.specs.Prelude.{◌||◌, ◌==◌, Option, Some, None, is_some, if◌then◌else◌, Result, IfOk}
use Rattle.nf_value.specs.declared.place.Place.{Place}
use Rattle.std.proofs.lemmas.Bool.{false≢true, ne_eqb}
use Rattle.nf_builtins.specs.Natives.{is_among}
use Rattle.nf_ast.specs.declared.tops.Top.{Top}
use Rattle.nf_ast.specs.Tree.{Tree}
use Rattle.nf_ast.specs.declared.tops.WorkflowBody.{WorkflowBody}
use Rattle.nf_ast.specs.Tops.{view_top, view_workflow_body}
use Rattle.nf_slips.specs.Memory.{view_entry}
use Rattle.nf_ast.specs.View.{trees}
use Rattle.nf_kinds.specs.declared.args.Given.{Given}
use Rattle.nf_kinds.specs.declared.fault.Broken.{Broken}
use Rattle.nf_kinds.specs.declared.kinds.Kinds.{Kinds}
use Rattle.nf_kinds.specs.Kinds.{Shaped, alone}
use Rattle.nf_kinds.specs.Scope.{Scope, call_made, given_kind}
use Rattle.nf_kinds.specs.Walk.{Out, came, Walk, after, gives}
use Rattle.nf_opkinds.specs.Operators.{Call}
use Rattle.nf_opkinds.specs.Results.{shape_of}
use Rattle.nf_optable.specs.Rows.{operator_rows, row_of}
use Rattle.nf_slips.specs.Definitions as definition
use Rattle.nf_slips.specs.Definitions.{Definition, definition_in, count_of, entry_in, taken_by}
use Rattle.nf_order.specs.Accepted.{all_broken, around, broken_from, callee_by, definitions_broken, ended, entered_with, led_back, taken_with, unknown_functions, unless_within}
use Rattle.nf_order.specs.declared.around.State.{State}
use Rattle.nf_order.specs.declared.around.Around as held
use Rattle.nf_order.specs.Callees.{Around, Callee, a_function, an_operator, no_callee, call_of, entered, unless_unknown}
use Rattle.nf_order.specs.Natives.{source_names, method_names}
use Rattle.nf_order.specs.Parts.{head_of, part_of, value_or_call}
use Rattle.nf_order.specs.Standing.{Gives, around_of, is_task, led_from, led_to, outputs_by, taken_kind}
use Rattle.nf_order.proofs.Walks.{maps, moves, still}

-- by its definition
pub callee_is : (k : ℕ) (tops : Tree) (fs within : List (List ℕ)) (n : List ℕ) → (around k tops fs within).callee n ≡ callee_by (definition_in n tops) n (led_to k tops fs within n)
callee_is zero tops fs within n = refl
callee_is (suc k) tops fs within n = refl

pub unknown_is : (k : ℕ) (tops : Tree) (fs within : List (List ℕ)) → (around k tops fs within).unknown ≡ fs
unknown_is zero tops fs within = refl
unknown_is (suc k) tops fs within = refl

-- no call is left, or it leads back
pub none_left : (k : ℕ) (tops : Tree) (fs within : List (List ℕ)) (n : List ℕ) (b : Tree) (args : List Given) → k ≡ 0 → led_to k tops fs within n b args ≡ led_back args
none_left zero tops fs within n b args h = refl
none_left (suc k) tops fs within n b args h = absurd (omega arith)

pub leads_back : (k : ℕ) (tops : Tree) (fs within : List (List ℕ)) (n : List ℕ) (b : Tree) (args : List Given) → is_among n within ≡ true → led_to k tops fs within n b args ≡ led_back args
leads_back zero tops fs within n b args h = refl
leads_back (suc k) tops fs within n b args h = ap (λ x. unless_within x (entered_with (around k tops fs (within ++ n ∷ [])) b) args) h

pub enters : (k : ℕ) (tops : Tree) (fs within : List (List ℕ)) (n : List ℕ) (b : Tree) (args : List Given) → (k ≡ 0 → ⊥) → is_among n within ≡ false → led_to k tops fs within n b args ≡ entered_with (around (k - 1) tops fs (within ++ n ∷ [])) b args
enters zero tops fs within n b args h g = absurd (h refl)
enters (suc k) tops fs within n b args h g =
    let e : k ≡ suc k - 1 = omega arith in
    ap (λ x. unless_within x (entered_with (around k tops fs (within ++ n ∷ [])) b) args) g ∙ ap (λ j. entered_with (around j tops fs (within ++ n ∷ [])) b args) e

-- ---- definitions, and names that a workflow takes

pub count_told : (ts : List Top) → count_of (trees (map view_top ts)) ≡ length ts
count_told [] = refl
count_told (t ∷ ts) = ap suc (count_told ts)

pub taken_more : (n : List ℕ) (ns : List (List ℕ)) (gs : List Given) (i : ℕ) (o : Option Given) → o ≡ slice_get gs i → taken_with (n ∷ ns) (drop i gs) ≡ (n, alone (taken_kind o)) ∷ taken_with ns (drop (suc i) gs)
taken_more n ns [] zero o h = ap (λ p. (n, alone (taken_kind p)) ∷ taken_with ns []) (sym h)
taken_more n ns [] (suc i) o h = ap (λ p. (n, alone (taken_kind p)) ∷ taken_with ns []) (sym h)
taken_more n ns (g ∷ gs) zero o h = ap (λ p. (n, alone (taken_kind p)) ∷ taken_with ns gs) (sym h)
taken_more n ns (g ∷ gs) (suc i) o h = taken_more n ns gs i o h

-- ---- what a workflow comes to

abbrev given_in : {A : Type 0} → Out A → A
given_in (came x s fs) = x

abbrev broken_in : {A : Type 0} → Out A → List Broken
broken_in (came x s fs) = fs

ended_shape : (o : Out (List (Option (List ℕ) × Kinds))) (before all : List Broken) (os : List (Option (List ℕ) × Kinds)) (s : Scope) → after before o ≡ came os s all → shape_of os ≡ (ended o).gives
ended_shape (came x r fs) before all os s h = ap shape_of (sym (ap given_in h))

ended_broken : (o : Out (List (Option (List ℕ) × Kinds))) (before all : List Broken) (os : List (Option (List ℕ) × Kinds)) (s : Scope) → after before o ≡ came os s all → all ≡ before ++ (ended o).broken
ended_broken (came x r fs) before all os s h = sym (ap broken_in h)

pub run_gives : (w : Walk (List (Option (List ℕ) × Kinds))) (os : List (Option (List ℕ) × Kinds)) (s : Scope) (v : Shaped) (old new : State) → Gives w old os new → old.scope ≡ s → v ≡ shape_of os → v ≡ (ended (w s)).gives
run_gives w os s v old new g e is = is ∙ ended_shape (w old.scope) old.broken.items new.broken.items os new.scope g ∙ ap (λ r. (ended (w r)).gives) e

pub run_broken : (w : Walk (List (Option (List ℕ) × Kinds))) (os : List (Option (List ℕ) × Kinds)) (s : Scope) (old new : State) → Gives w old os new → old.scope ≡ s → new.broken.items ≡ old.broken.items ++ (ended (w s)).broken
run_broken w os s old new g e = ended_broken (w old.scope) old.broken.items new.broken.items os new.scope g ∙ ap (λ r. old.broken.items ++ (ended (w r)).broken) e

-- ---- whether a workflow is entered

-- no number after 0 is 0
not_zero : (k : ℕ) (b : Bool) → (suc k == 0 || b) ≡ b
not_zero k b = ap (λ x. x || b) (ne_eqb (suc k) 0 (λ e. omega (arith, e)))

pub back_if : (k : ℕ) (tops : Tree) (fs within : List (List ℕ)) (n : List ℕ) (b : Tree) (args : List Given) → (k == 0 || is_among n within) ≡ true → led_to k tops fs within n b args ≡ led_back args
back_if zero tops fs within n b args h = refl
back_if (suc k) tops fs within n b args h = leads_back (suc k) tops fs within n b args (sym (not_zero k (is_among n within)) ∙ h)

pub in_if : (k : ℕ) (tops : Tree) (fs within : List (List ℕ)) (n : List ℕ) (b : Tree) (args : List Given) → (k == 0 || is_among n within) ≡ false → led_to k tops fs within n b args ≡ entered_with (around (k - 1) tops fs (within ++ n ∷ [])) b args
in_if zero tops fs within n b args h = absurd (false≢true (sym h))
in_if (suc k) tops fs within n b args h = enters (suc k) tops fs within n b args (λ e. omega (arith, e)) (sym (not_zero k (is_among n within)) ∙ h)

pub not_among : (k : ℕ) (b : Bool) → (k == 0 || b) ≡ false → b ≡ false
not_among zero b h = absurd (false≢true (sym h))
not_among (suc k) b h = sym (not_zero k b) ∙ h

pub some_left : (k : ℕ) (b : Bool) → (k == 0 || b) ≡ false → 1 ≤ k
some_left zero b h = absurd (false≢true (sym h))
some_left (suc k) b h = omega arith

pub enter_gives : (n : List ℕ) (xs : List Given) (k : Call) (v x y : Shaped) (old mid new : State) → v ≡ k.gives → x ≡ unless_unknown xs v → y ≡ x → mid.scope ≡ old.scope → mid.broken.items ≡ old.broken.items ++ k.broken → new.scope ≡ call_made n y mid.scope → new.broken.items ≡ mid.broken.items → Gives (entered n xs k) old x new
enter_gives n xs k v x y old mid new e is copied s b r c =
    let due : unless_unknown xs k.gives ≡ x = ap (unless_unknown xs) (sym e) ∙ sym is in
    moves (entered n xs k) x k.broken old new
    (ap (λ u. came u (call_made n u old.scope) k.broken) due
    ∙ ap (λ u. came x (call_made n u old.scope) k.broken) (sym copied)
    ∙ ap (λ q. came x (call_made n y q) k.broken) (sym s)
    ∙ ap (λ q. came x q k.broken) (sym r))
    (c ∙ b)

-- ---- what a name calls

callee_of : (a : held.Around) (n : List ℕ) (d : Definition) → d ≡ definition_in n (trees (map view_top a.tops.now)) → callee_by d n (led_from a n) ≡ (around_of a).callee n
callee_of a n d h = ap (λ c. callee_by c n (led_from a n)) h ∙ sym (callee_is a.left (trees (map view_top a.tops.now)) a.unknown.now a.within.now n)

-- a call by what its name is defined as
pub called_as : {E : Type 0} (a : held.Around) (p : Place) (n : List ℕ) (xs : List Given) (d : Definition) (r : Result Shaped E) (old new : State) → d ≡ definition_in n (trees (map view_top a.tops.now)) → IfOk r (λ v. Gives (call_of (callee_by d n (led_from a n)) p n xs) old v new) → IfOk r (λ v. Gives (call_of ((around_of a).callee n) p n xs) old v new)
called_as a p n xs d r old new h g = subst (λ (c : Callee). IfOk r (λ v. Gives (call_of c p n xs) old v new)) (callee_of a n d h) g

-- ---- a name at the head of a pipe

-- the call of a task's name, which may stand for a value too
abbrev pub called_head : Callee → Place → List ℕ → Walk Shaped
called_head c p n = value_or_call (given_kind n).plain (alone (given_kind n)) (call_of c p n [])

task_head : (d : Definition) (n : List ℕ) (f : Tree → List Given → Call) (p : Place) → is_task d ≡ true → head_of (callee_by d n f) p n ≡ called_head (callee_by d n f) p n
task_head definition.nothing n f p h = absurd (false≢true h)
task_head definition.function n f p h = absurd (false≢true h)
task_head (definition.process ns) n f p h = refl
task_head (definition.workflow b) n f p h = refl

table_head : (o m : Bool) (p : Place) (n : List ℕ) → head_of (if o then an_operator else (if m then no_callee else a_function)) p n ≡ gives (alone (given_kind n))
table_head true m p n = refl
table_head false true p n = refl
table_head false false p n = refl

other_head : (d : Definition) (n : List ℕ) (f : Tree → List Given → Call) (p : Place) → is_task d ≡ false → head_of (callee_by d n f) p n ≡ gives (alone (given_kind n))
other_head definition.nothing n f p h = table_head (is_some (row_of n operator_rows)) (is_among n (source_names ++ method_names)) p n
other_head definition.function n f p h = refl
other_head (definition.process ns) n f p h = absurd (false≢true (sym h))
other_head (definition.workflow b) n f p h = absurd (false≢true (sym h))

pub task_at_head : {E : Type 0} (a : held.Around) (p : Place) (n : List ℕ) (r : Result Shaped E) (old new : State) → is_task (definition_in n (trees (map view_top a.tops.now))) ≡ true → IfOk r (λ v. Gives (called_head ((around_of a).callee n) p n) old v new) → IfOk r (λ v. Gives (head_of ((around_of a).callee n) p n) old v new)
task_at_head a p n r old new h g =
    let d = definition_in n (trees (map view_top a.tops.now)) in
    let is : head_of ((around_of a).callee n) p n ≡ called_head ((around_of a).callee n) p n =
    ap (λ c. head_of c p n) (sym (callee_of a n d refl)) ∙ task_head d n (led_from a n) p h ∙ ap (λ c. called_head c p n) (callee_of a n d refl) in
    subst (λ (w : Walk Shaped). IfOk r (λ v. Gives w old v new)) (sym is) g

pub name_at_head : (a : held.Around) (p : Place) (n : List ℕ) (v : Shaped) (s : State) → is_task (definition_in n (trees (map view_top a.tops.now))) ≡ false → v ≡ alone (given_kind n) → Gives (head_of ((around_of a).callee n) p n) s v s
name_at_head a p n v s h e =
    let d = definition_in n (trees (map view_top a.tops.now)) in
    let is : head_of ((around_of a).callee n) p n ≡ gives (alone (given_kind n)) = ap (λ c. head_of c p n) (sym (callee_of a n d refl)) ∙ other_head d n (led_from a n) p h in
    still (head_of ((around_of a).callee n) p n) v s (ap (λ w. w s.scope) is ∙ ap (λ u. came u s.scope []) (sym e))

pub unknown_there : (a : held.Around) → (around_of a).unknown ≡ a.unknown.now
unknown_there a = unknown_is a.left (trees (map view_top a.tops.now)) a.unknown.now a.within.now

-- ---- a workflow that is its statements

pub statements_give : (a : Around) (ts : List Tree) (old new : State) → Gives (part_of a (trees ts)).body old tt new → Gives (outputs_by a (trees ts)) old [] new
statements_give a [] old new g = maps (part_of a (trees [])).body (λ t. []) tt old new g
statements_give a (t ∷ ts) old new g = maps (part_of a (trees (t ∷ ts))).body (λ u. []) tt old new g

pub statements_alone : (a : Around) (b : Tree) (ts : List Tree) (old new : State) → b ≡ trees ts → Gives (part_of a (trees ts)).body old tt new → Gives (outputs_by a b) old [] new
statements_alone a b ts old new is g = ap (λ u. after old.broken.items (outputs_by a u old.scope)) is ∙ statements_give a ts old new g

pub none_taken : (ts : List Tree) → taken_by (trees ts) ≡ []
none_taken [] = refl
none_taken (t ∷ ts) = refl

pub called_gives : (a : held.Around) (p : Place) (n : List ℕ) (xs : List Given) (d : Definition) (v : Shaped) (old new : State) → d ≡ definition_in n (trees (map view_top a.tops.now)) → Gives (call_of (callee_by d n (led_from a n)) p n xs) old v new → Gives (call_of ((around_of a).callee n) p n xs) old v new
called_gives a p n xs d v old new h g = subst (λ (c : Callee). Gives (call_of c p n xs) old v new) (callee_of a n d h) g

-- ---- the whole script

pub entry_broken : (ts : List Top) (fs within : List (List ℕ)) (k : ℕ) (b : Tree) (args : List Given) → k ≡ length ts → fs ≡ unknown_functions (trees (map view_top ts)) → within ≡ [] → args ≡ [] → (entered_with (around k (trees (map view_top ts)) fs within) b args).broken ≡ broken_from (Some b) (trees (map view_top ts))
entry_broken ts fs within k b args ek ef ew ea =
    let tops = trees (map view_top ts) in
    ap (λ j. (entered_with (around j tops fs within) b args).broken) (ek ∙ sym (count_told ts))
    ∙ ap (λ us. (entered_with (around (count_of tops) tops us within) b args).broken) ef
    ∙ ap (λ ws. (entered_with (around (count_of tops) tops (unknown_functions tops) ws) b args).broken) ew
    ∙ ap (λ gs. (entered_with (around (count_of tops) tops (unknown_functions tops) []) b gs).broken) ea

-- a script without an entry, and one with this entry
pub from_no_entry : (ts : List Top) (o : Option (Bor WorkflowBody)) (ds new : List Broken) → o ≡ None → view_entry o ≡ entry_in (trees (map view_top ts)) → ds ≡ definitions_broken (trees (map view_top ts)) → new ≡ ds → new ≡ all_broken (trees (map view_top ts))
from_no_entry ts o ds new none is from n =
    let tops = trees (map view_top ts) in
    n ∙ from ∙ sym (append-nil (definitions_broken tops)) ∙ ap (λ b. definitions_broken tops ++ broken_from b tops) (ap view_entry (sym none) ∙ is)

pub from_one_entry : (ts : List Top) (o : Option (Bor WorkflowBody)) (b : Bor WorkflowBody) (ds new : List Broken) → o ≡ Some b → view_entry o ≡ entry_in (trees (map view_top ts)) → ds ≡ definitions_broken (trees (map view_top ts)) → new ≡ ds ++ broken_from (Some (view_workflow_body b.now)) (trees (map view_top ts)) → new ≡ all_broken (trees (map view_top ts))
from_one_entry ts o b ds new some is from n =
    let tops = trees (map view_top ts) in
    n ∙ ap (λ fs. fs ++ broken_from (Some (view_workflow_body b.now)) tops) from ∙ ap (λ x. definitions_broken tops ++ broken_from x tops) (ap view_entry (sym some) ∙ is)
