-- The functions of a script: an order in which each calls only those before it, and calls that lead back.
use Rattle.std.specs.Prelude.{◌≡◌, ℕ, zero, suc, Bool, true, false, not, ◌||◌, List, [], ◌∷◌, ◌++◌, map, filter, length, if◌then◌else◌, Option, Some, None}
use Rattle.std.specs.List.{Contains, list_all}
use Rattle.nf_value.specs.declared.place.Place.{Place}
use Rattle.nf_names_used.specs.Natives.{is_among}
use Rattle.nf_ast.specs.Tree as tree
use Rattle.nf_ast.specs.Tree.{Tree}
use Rattle.nf_tasks.specs.Evaluation.{Definition}
use Rattle.nf_names_used.specs.declared.uses.Use.{Use}
use Rattle.nf_names_used.specs.declared.uses.UseKind.{UseKind}
use Rattle.nf_names_used.specs.declared.uses.UseKind.TheVariants as kind
use Rattle.nf_names_used.specs.Uses.{Names, uses, params_uses}
use Rattle.nf_meaning.specs.declared.fault.LowerFault.{LowerFault}
use Rattle.nf_meaning.specs.declared.fault.LowerFault.TheVariants.{CallCycle}
use Rattle.nf_meaning.specs.Lowered.{or_else}
use Rattle.nf_meaning.specs.Given.{Given, Definitions, tree_named, function_named}
use Rattle.nf_meaning.specs.Names.{Known, Reading, in_run, uses_fault}

-- ---- an order

abbrev pub names_of : List Definition → List (List ℕ)
names_of ds = map (λ d. d.name) ds

-- the parameters of a function are its body's own names
abbrev pub body_uses : Definition → List Use
body_uses d = uses d.body (record { captured = []; own = d.params; body = [] })

-- parameters of one name, and then the body
abbrev pub params_in : Option Tree → Tree
params_in (Some ns) = tree.params ns
params_in None = tree.empty

abbrev pub function_uses : Definitions → Definition → List Use
function_uses d f = params_uses (params_in (tree_named f.name d.parameters)) ++ body_uses f

-- whether a use calls none of these functions but those that are placed
abbrev pub is_placed_use : List (List ℕ) → List (List ℕ) → UseKind → List ℕ → Bool
is_placed_use all placed kind.Function n = not (is_among n all) || is_among n placed
is_placed_use all placed kind.Name n = true
is_placed_use all placed kind.Assigned n = true
is_placed_use all placed kind.Again n = true
is_placed_use all placed kind.Pattern n = true

abbrev pub is_ready : List (List ℕ) → List (List ℕ) → Definition → Bool
is_ready all placed d = list_all (λ u. is_placed_use all placed u.kind u.text) (body_uses d)

-- the functions that are ready, each before those that were placed so far
abbrev pub with_ready : (Definition → Bool) → List Definition → List Definition → List Definition
with_ready ready [] placed = placed
with_ready ready (d ∷ ds) placed = with_ready ready ds (if ready d then d ∷ placed else placed)

-- Rounds: each adds, in the order of the text, the functions that call only those of the rounds before. The latest
-- stands first. A function that leads back to itself is in no round
abbrev pub in_rounds : ℕ → List (List ℕ) → List Definition → List Definition → List Definition
in_rounds zero all left placed = placed
in_rounds (suc n) all left placed =
    in_rounds n all
    (filter (λ d. not (is_ready all (names_of placed) d)) left)
    (with_ready (is_ready all (names_of placed)) left placed)

abbrev pub in_order : List Definition → List Definition
in_order ds = in_rounds (length ds) (names_of ds) ds []

-- each calls only those after it in the list
abbrev pub CallsOnlyEarlier : List (List ℕ) → List Definition → Type 0
CallsOnlyEarlier all [] = Unit {0}
CallsOnlyEarlier all (d ∷ earlier) = (is_ready all (names_of earlier) d ≡ true) × CallsOnlyEarlier all earlier

-- each of these that calls only functions of the order stands in it
abbrev pub NoneLeftOut : List (List ℕ) → List Definition → List Definition → Type 0
NoneLeftOut all order [] = Unit {0}
NoneLeftOut all order (d ∷ ds) = (is_ready all (names_of order) d ≡ true → Contains order d) × NoneLeftOut all order ds

-- ---- the functions that an expression calls

-- the body of a function sees its parameters alone
abbrev pub no_names_known : Known
no_names_known = record { things = []; everywhere = [] }

-- what is wrong in a function that a call leads to, in the functions `within`
abbrev pub Judge : Type 0
Judge = List (List ℕ) → Definition → Option LowerFault

abbrev pub led_back : Bool → Place → Option LowerFault → Option LowerFault
led_back true p deeper = Some (CallCycle p)
led_back false p deeper = deeper

abbrev pub function_fault : Judge → List (List ℕ) → Place → Option Definition → Option LowerFault
function_fault judge within p None = None
function_fault judge within p (Some d) = led_back (is_among d.name within) p (judge within d)

abbrev pub call_use_fault : Definitions → Judge → List (List ℕ) → UseKind → Place → List ℕ → Option LowerFault
call_use_fault d judge within kind.Function p n = function_fault judge within p (function_named n d.functions)
call_use_fault d judge within kind.Name p n = None
call_use_fault d judge within kind.Assigned p n = None
call_use_fault d judge within kind.Again p n = None
call_use_fault d judge within kind.Pattern p n = None

abbrev pub calls_fault : Definitions → Judge → List (List ℕ) → List Use → Option LowerFault
calls_fault d judge within [] = None
calls_fault d judge within (u ∷ us) =
    or_else (call_use_fault d judge within u.kind u.place u.text) (calls_fault d judge within us)

-- the first fault of these uses, and then of the functions that they call
abbrev pub reached_fault : Given → Definitions → Known → Reading → Judge → List (List ℕ) → List Use → Option LowerFault
reached_fault g d k r judge within us = or_else (uses_fault g d k r us) (calls_fault d judge within us)

-- the fault of a function, where at most so many stand within each other
abbrev pub judged_within : ℕ → Given → Definitions → Judge
judged_within zero g d within f = None
judged_within (suc n) g d within f =
    reached_fault g d no_names_known in_run (judged_within n g d) (f.name ∷ within) (function_uses d f)

-- the first fault of an expression's names and of all functions that it leads to
abbrev pub names_fault : Given → Definitions → Known → Reading → Tree → Names → Option LowerFault
names_fault g d k r e own = reached_fault g d k r (judged_within (length d.functions) g d) [] (uses e own)
