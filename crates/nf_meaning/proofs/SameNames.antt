-- In two runs of a script the same names stand for what is alike, and have the same faults.
use Rattle.std.proofs.Common.{◌≡◌, ℕ, zero, suc, List, [], ◌∷◌, ◌++◌, map, length, Bool, true, false, Option, Some, None, refl, ap, ◌∙◌, if◌then◌else◌}
use Rattle.std.specs.Prelude.{is_some}
use Rattle.std.specs.Str.{bytes_eq}
use Rattle.nf_value.specs.Plain.{Plain}
use Rattle.nf_value.specs.declared.place.Place.{Place}
use Rattle.nf_names_used.specs.Natives.{is_among}
use Rattle.nf_ast.specs.Tree.{Tree}
use Rattle.nf_names_used.specs.Scope.{Function, Env}
use Rattle.nf_tasks.specs.Evaluation.{Definition}
use Rattle.nf_names_used.specs.declared.uses.Use.{Use}
use Rattle.nf_names_used.specs.declared.uses.UseKind.{UseKind}
use Rattle.nf_names_used.specs.declared.uses.UseKind.TheVariants as kind
use Rattle.nf_names_used.specs.Uses.{Names}
use Rattle.nf_tasks.specs.Memory.{Program}
use Rattle.nf_meaning.specs.declared.fault.LowerFault.TheVariants.{BadOption, PatternRefused, PatternTooLarge}
use Rattle.nf_meaning.specs.Lowered.{or_else, fault_if}
use Rattle.nf_meaning.specs.Things.{Thing, a_value, a_channel, outputs, thing_named, value_before_run}
use Rattle.nf_meaning.specs.Given.{Given, Definitions, function_named}
use Rattle.nf_meaning.specs.Names.{Reading, before_run, in_run, unread, Known, value_fault, thing_fault, bound_fault, is_no_value, name_fault, leads_to_channels, called_by, call_fault, pattern_fault, use_fault, uses_fault}
use Rattle.nf_meaning.specs.Functions.{Judge, no_names_known, function_fault, call_use_fault, calls_fault, reached_fault, judged_within, function_uses, names_fault, led_back}
use Rattle.nf_meaning.specs.Walk.{Around, Scope, things_in, known_in, values_before_run, env_with, env_before_run, is_bound}
use Rattle.nf_meaning.specs.Expressions.{is_tied, name_leads, call_leads, Leads, leads_in, leading, is_leading}
use Rattle.nf_meaning.proofs.Widened.{Alike, holds_alike, hidden_alike}
use Rattle.nf_meaning.proofs.Twins.{Things, Named, Scopes, Arounds}

-- ---- what a name stands for

abbrev pub MaybeThings : Option Thing → Option Thing → Type 0
MaybeThings None None = Unit {0}
MaybeThings (Some t) (Some u) = Things t u
MaybeThings None (Some u) = ⊥
MaybeThings (Some t) None = ⊥

by_test : (c d : Bool) (t u : Thing) (m n : Option Thing) → c ≡ d → Things t u → MaybeThings m n → MaybeThings (if c then Some t else m) (if d then Some u else n)
by_test true true t u m n e h k = h
by_test false false t u m n e h k = k
by_test true false t u m n e h k = absurd cc
by_test false true t u m n e h k = absurd cc

pub found : (n : List ℕ) (xs ys : List (List ℕ × Thing)) → Named xs ys → MaybeThings (thing_named n xs) (thing_named n ys)
found n [] [] h = tt
found n (x ∷ xs) (y ∷ ys) h = by_test (bytes_eq x.0 n) (bytes_eq y.0 n) x.1 y.1 _ _ (ap (λ z. bytes_eq z n) h.0.0) h.0.1 (found n xs ys h.1)
found n [] (y ∷ ys) h = absurd h
found n (x ∷ xs) [] h = absurd h

pub both_named : (xs ys zs ws : List (List ℕ × Thing)) → Named xs ys → Named zs ws → Named (xs ++ zs) (ys ++ ws)
both_named [] [] zs ws h k = k
both_named (x ∷ xs) (y ∷ ys) zs ws h k = (h.0, both_named xs ys zs ws h.1 k)
both_named [] (y ∷ ys) zs ws h k = absurd h
both_named (x ∷ xs) [] zs ws h k = absurd h

pub all_things : (x y : Scope) → Scopes x y → Named (things_in x) (things_in y)
all_things x y e = both_named x.own y.own x.names y.names e.own e.names

maybe_some : (m n : Option Thing) → MaybeThings m n → is_some m ≡ is_some n
maybe_some None None h = refl
maybe_some (Some t) (Some u) h = refl
maybe_some None (Some u) h = absurd h
maybe_some (Some t) None h = absurd h

pub bound_alike : (n : List ℕ) (xs ys : List (List ℕ × Thing)) → Named xs ys → is_bound n xs ≡ is_bound n ys
bound_alike n xs ys h = maybe_some (thing_named n xs) (thing_named n ys) (found n xs ys h)

-- ---- the values that expressions see

value_alike : (t u : Thing) → Things t u → value_before_run t ≡ value_before_run u
value_alike (a_value v) (a_value w) h = hidden_alike v w h
value_alike (a_channel c) (a_channel d) h = refl
value_alike (outputs os) (outputs qs) h = refl
value_alike (a_value v) (a_channel d) h = absurd h
value_alike (a_value v) (outputs qs) h = absurd h
value_alike (a_channel c) (a_value w) h = absurd h
value_alike (a_channel c) (outputs qs) h = absurd h
value_alike (outputs os) (a_value w) h = absurd h
value_alike (outputs os) (a_channel d) h = absurd h

pub values_alike : (xs ys : List (List ℕ × Thing)) → Named xs ys → values_before_run xs ≡ values_before_run ys
values_alike [] [] h = refl
values_alike (x ∷ xs) (y ∷ ys) h =
    ap (λ n. (n, value_before_run x.1) ∷ values_before_run xs) h.0.0 ∙ ap (λ v. (y.0, v) ∷ values_before_run xs) (value_alike x.1 y.1 h.0.1)
    ∙ ap (λ z. (y.0, value_before_run y.1) ∷ z) (values_alike xs ys h.1)
values_alike [] (y ∷ ys) h = absurd h
values_alike (x ∷ xs) [] h = absurd h

abbrev env_from : List (List ℕ × Plain) → List (List ℕ × Plain) → List Function → List (List ℕ) → Program → Bool → Env
env_from names everywhere functions patterns program in_process = record {
  names = [];
  captured = names ++ everywhere;
  functions = functions;
  patterns = patterns;
  titles = program.titles;
  answer = program.answer;
  in_process = in_process;
}

pub env_with_alike : (a b : Around) → Arounds a b → (ns ms : List (List ℕ × Plain)) (p : Bool) → ns ≡ ms → env_with a ns p ≡ env_with b ms p
env_with_alike a b h ns ms p e =
    ap (λ z. env_from z a.everywhere a.functions a.given.patterns a.given.program p) e
    ∙ ap (λ z. env_from ms z a.functions a.given.patterns a.given.program p) h.everywhere
    ∙ ap (λ z. env_from ms b.everywhere z a.given.patterns a.given.program p) h.functions
    ∙ ap (λ z. env_from ms b.everywhere b.functions z a.given.program p) h.patterns
    ∙ ap (λ z. env_from ms b.everywhere b.functions b.given.patterns z p) h.program

pub env_alike : (a b : Around) → Arounds a b → (x y : Scope) → Scopes x y → env_before_run a x ≡ env_before_run b y
env_alike a b h x y e =
    env_with_alike a b h (values_before_run (things_in x)) (values_before_run (things_in y)) false (values_alike (things_in x) (things_in y) (all_things x y e))

-- ---- which expressions lead to channels

tied_alike : (t u : Thing) → Things t u → is_tied t ≡ is_tied u
tied_alike (a_value v) (a_value w) h = holds_alike v w h
tied_alike (a_channel c) (a_channel d) h = refl
tied_alike (outputs os) (outputs qs) h = refl
tied_alike (a_value v) (a_channel d) h = absurd h
tied_alike (a_value v) (outputs qs) h = absurd h
tied_alike (a_channel c) (a_value w) h = absurd h
tied_alike (a_channel c) (outputs qs) h = absurd h
tied_alike (outputs os) (a_value w) h = absurd h
tied_alike (outputs os) (a_channel d) h = absurd h

name_leads_alike : (m n : Option Thing) (free : Bool) → MaybeThings m n → name_leads m free ≡ name_leads n free
name_leads_alike None None free h = refl
name_leads_alike (Some t) (Some u) free h = tied_alike t u h
name_leads_alike None (Some u) free h = absurd h
name_leads_alike (Some t) None free h = absurd h

leads_same : (l m : Leads) → ((n : List ℕ) → l.name n ≡ m.name n) → ((n : List ℕ) → l.call n ≡ m.call n) → l ≡ m
leads_same l m h k = λ i. record { name = λ n. h n i; call = λ n. k n i }

leads_alike : (a b : Around) → Arounds a b → (x y : Scope) → Scopes x y → leads_in a x ≡ leads_in b y
leads_alike a b h x y e =
    leads_same (leads_in a x) (leads_in b y)
    (λ n. name_leads_alike (thing_named n (things_in x)) (thing_named n (things_in y)) (leads_to_channels a.definitions n) (found n (things_in x) (things_in y) (all_things x y e))
    ∙ ap (λ d. name_leads (thing_named n (things_in y)) (leads_to_channels d n)) h.definitions)
    (λ n. ap (λ d. call_leads (called_by d a.given.program.titles n)) h.definitions ∙ ap (λ (z : Program). call_leads (called_by b.definitions z.titles n)) h.program)

pub leading_alike : (a b : Around) → Arounds a b → (x y : Scope) → Scopes x y → (t : Tree) → is_leading a x t ≡ is_leading b y t
leading_alike a b h x y e t = ap (λ l. (leading l t).alone) (leads_alike a b h x y e)

-- ---- faults of names

pub record Givens (g h : Given) : Type 0 where
  pub patterns : g.patterns ≡ h.patterns
  pub large : g.large ≡ h.large
  pub program : g.program ≡ h.program

pub record Knowns (k l : Known) : Type 0 where
  pub things : Named k.things l.things
  pub everywhere : k.everywhere ≡ l.everywhere

held_alike : (r : Reading) (p : Place) (v w : Plain) → Alike v w → value_fault r p v ≡ value_fault r p w
held_alike before_run p v w h = ap (λ b. fault_if b (BadOption p)) (holds_alike v w h)
held_alike in_run p v w h = refl
held_alike unread p v w h = refl

thing_fault_alike : (r : Reading) (p : Place) (t u : Thing) → Things t u → thing_fault r p t ≡ thing_fault r p u
thing_fault_alike r p (a_value v) (a_value w) h = held_alike r p v w h
thing_fault_alike r p (a_channel c) (a_channel d) h = refl
thing_fault_alike r p (outputs os) (outputs qs) h = refl
thing_fault_alike r p (a_value v) (a_channel d) h = absurd h
thing_fault_alike r p (a_value v) (outputs qs) h = absurd h
thing_fault_alike r p (a_channel c) (a_value w) h = absurd h
thing_fault_alike r p (a_channel c) (outputs qs) h = absurd h
thing_fault_alike r p (outputs os) (a_value w) h = absurd h
thing_fault_alike r p (outputs os) (a_channel d) h = absurd h

bound_fault_alike : (m n : Option Thing) (c leads : Bool) (r : Reading) (p : Place) → MaybeThings m n → bound_fault m c leads r p ≡ bound_fault n c leads r p
bound_fault_alike None None c leads r p h = refl
bound_fault_alike (Some t) (Some u) c leads r p h = thing_fault_alike r p t u h
bound_fault_alike None (Some u) c leads r p h = absurd h
bound_fault_alike (Some t) None c leads r p h = absurd h

pub name_fault_alike : (d : Definitions) (titles : List (List ℕ)) (k l : Known) (r : Reading) (p : Place) (n : List ℕ) → Knowns k l
    → name_fault d titles k r p n ≡ name_fault d titles l r p n
name_fault_alike d titles k l r p n h =
    bound_fault_alike (thing_named n k.things) (thing_named n l.things) (is_among n k.everywhere) (is_no_value d titles n) r p (found n k.things l.things h.things)
    ∙ ap (λ z. bound_fault (thing_named n l.things) (is_among n z) (is_no_value d titles n) r p) h.everywhere

pub pattern_fault_alike : (g h : Given) (p : Place) (s : List ℕ) → Givens g h → pattern_fault g p s ≡ pattern_fault h p s
pattern_fault_alike g h p s e =
    ap (λ z. if is_among s z then None else if is_among s g.large then Some (PatternTooLarge p) else Some (PatternRefused p)) e.patterns
    ∙ ap (λ z. if is_among s h.patterns then None else if is_among s z then Some (PatternTooLarge p) else Some (PatternRefused p)) e.large

use_alike : (g h : Given) (d : Definitions) (k l : Known) (r : Reading) (u : UseKind) (p : Place) (n : List ℕ) → Givens g h → Knowns k l
    → use_fault g d k r u p n ≡ use_fault h d l r u p n
use_alike g h d k l r kind.Name p n e f =
    name_fault_alike d g.program.titles k l r p n f ∙ ap (λ (z : Program). name_fault d z.titles l r p n) e.program
use_alike g h d k l r kind.Assigned p n e f = refl
use_alike g h d k l r kind.Again p n e f = refl
use_alike g h d k l r kind.Function p n e f = ap (λ (z : Program). call_fault (called_by d z.titles n) p) e.program
use_alike g h d k l r kind.Pattern p n e f = pattern_fault_alike g h p n e

pub uses_alike : (g h : Given) (d : Definitions) (k l : Known) (r : Reading) (us : List Use) → Givens g h → Knowns k l
    → uses_fault g d k r us ≡ uses_fault h d l r us
uses_alike g h d k l r [] e f = refl
uses_alike g h d k l r (u ∷ us) e f =
    ap (λ z. or_else z (uses_fault g d k r us)) (use_alike g h d k l r u.kind u.place u.text e f)
    ∙ ap (λ z. or_else (use_fault h d l r u.kind u.place u.text) z) (uses_alike g h d k l r us e f)

-- two judges of functions
abbrev Judges : Judge → Judge → Type 0
Judges i j = (within : List (List ℕ)) (f : Definition) → i within f ≡ j within f

function_alike : (i j : Judge) → Judges i j → (within : List (List ℕ)) (p : Place) (f : Option Definition) → function_fault i within p f ≡ function_fault j within p f
function_alike i j h within p None = refl
function_alike i j h within p (Some f) = ap (λ z. led_back (is_among f.name within) p z) (h within f)

call_use_alike : (d : Definitions) (i j : Judge) → Judges i j → (within : List (List ℕ)) (u : UseKind) (p : Place) (n : List ℕ)
    → call_use_fault d i within u p n ≡ call_use_fault d j within u p n
call_use_alike d i j h within kind.Function p n = function_alike i j h within p (function_named n d.functions)
call_use_alike d i j h within kind.Name p n = refl
call_use_alike d i j h within kind.Assigned p n = refl
call_use_alike d i j h within kind.Again p n = refl
call_use_alike d i j h within kind.Pattern p n = refl

calls_alike : (d : Definitions) (i j : Judge) → Judges i j → (within : List (List ℕ)) (us : List Use) → calls_fault d i within us ≡ calls_fault d j within us
calls_alike d i j h within [] = refl
calls_alike d i j h within (u ∷ us) =
    ap (λ z. or_else z (calls_fault d i within us)) (call_use_alike d i j h within u.kind u.place u.text)
    ∙ ap (λ z. or_else (call_use_fault d j within u.kind u.place u.text) z) (calls_alike d i j h within us)

reached_alike : (g h : Given) (d : Definitions) (k l : Known) (r : Reading) (i j : Judge) (within : List (List ℕ)) (us : List Use) → Givens g h → Knowns k l → Judges i j
    → reached_fault g d k r i within us ≡ reached_fault h d l r j within us
reached_alike g h d k l r i j within us e f q =
    ap (λ z. or_else z (calls_fault d i within us)) (uses_alike g h d k l r us e f)
    ∙ ap (λ z. or_else (uses_fault h d l r us) z) (calls_alike d i j q within us)

judged_alike : (n : ℕ) (g h : Given) (d : Definitions) → Givens g h → Judges (judged_within n g d) (judged_within n h d)
judged_alike zero g h d e within f = refl
judged_alike (suc n) g h d e within f =
    reached_alike g h d no_names_known no_names_known _ (judged_within n g d) (judged_within n h d) (f.name ∷ within) (function_uses d f) e
    (record { things = tt; everywhere = refl }) (judged_alike n g h d e)

pub names_alike : (g h : Given) (d : Definitions) (k l : Known) (r : Reading) (t : Tree) (own : Names) → Givens g h → Knowns k l
    → names_fault g d k r t own ≡ names_fault h d l r t own
names_alike g h d k l r t own e f =
    reached_alike g h d k l r (judged_within (length d.functions) g d) (judged_within (length d.functions) h d) [] _ e f (judged_alike (length d.functions) g h d e)

-- ---- in two runs

pub givens_of : (a b : Around) → Arounds a b → Givens a.given b.given
givens_of a b h = record { patterns = h.patterns; large = h.large; program = h.program }

pub knowns_of : (a b : Around) → Arounds a b → (x y : Scope) → Scopes x y → Knowns (known_in a x) (known_in b y)
knowns_of a b h x y e = record { things = all_things x y e; everywhere = ap (λ z. map (λ (c : List ℕ × Plain). c.0) z) h.everywhere }

pub names_here : (a b : Around) → Arounds a b → (k l : Known) → Knowns k l → (r : Reading) (t : Tree) (own : Names)
    → names_fault a.given a.definitions k r t own ≡ names_fault b.given b.definitions l r t own
names_here a b h k l f r t own =
    names_alike a.given b.given a.definitions k l r t own (givens_of a b h) f ∙ ap (λ d. names_fault b.given d l r t own) h.definitions

pub uses_here : (a b : Around) → Arounds a b → (k l : Known) → Knowns k l → (r : Reading) (us : List Use)
    → uses_fault a.given a.definitions k r us ≡ uses_fault b.given b.definitions l r us
uses_here a b h k l f r us =
    uses_alike a.given b.given a.definitions k l r us (givens_of a b h) f ∙ ap (λ d. uses_fault b.given d l r us) h.definitions

pub name_here : (a b : Around) → Arounds a b → (x y : Scope) → Scopes x y → (r : Reading) (p : Place) (n : List ℕ)
    → name_fault a.definitions a.given.program.titles (known_in a x) r p n ≡ name_fault b.definitions b.given.program.titles (known_in b y) r p n
name_here a b h x y e r p n =
    name_fault_alike a.definitions a.given.program.titles (known_in a x) (known_in b y) r p n (knowns_of a b h x y e)
    ∙ ap (λ d. name_fault d a.given.program.titles (known_in b y) r p n) h.definitions
    ∙ ap (λ (z : Program). name_fault b.definitions z.titles (known_in b y) r p n) h.program
