-- Arguments that are collected one by one.
use Rattle.std.proofs.Common.{◌≡◌, ◌∙◌, ℕ, true, false, Bool, List, [], ◌∷◌, ◌++◌, map, Ok, Err, refl, sym, ap, subst, append_assoc}
use Rattle.std.specs.Prelude.{Option, Some, None, Result}
use Rattle.std.proofs.lemmas.List.{map-append}
use Rattle.nf_value.specs.Plain.{Plain}
use Rattle.nf_value.specs.View.{plain_of}
use Rattle.nf_value.specs.declared.value.Value.{Value}
use Rattle.nf_value.specs.declared.place.Place.{Place}
use Rattle.nf_value.specs.declared.fault.EvalRefusal.{EvalRefusal}
use Rattle.nf_builtins.specs.declared.method.Method.{Method}
use Rattle.nf_ast.specs.Tree as tree
use Rattle.nf_ast.specs.Tree.{Tree}
use Rattle.nf_ast.specs.View.{trees, with_name}
use Rattle.nf_placed.specs.Placed.{Placed, ◌>>=◌, Evaluates}
use Rattle.nf_placed.specs.Scope.{Env}
use Rattle.nf_placed.specs.Calls.{Argument, plain, block, values_in, with_one, over_items}
use Rattle.nf_eval.specs.Evaluation.{meaning_of}
use Rattle.nf_eval.specs.Shapes.{is_closure, block_of}
use Rattle.nf_eval.specs.Gives.{Collects}
use Rattle.nf_eval.proofs.Passing.{no_values, both}
use Rattle.nf_eval.proofs.Blocking.{values_are}

-- none so far
pub nothing_before : (r : Placed (List Argument)) → (r >>= λ ys. Ok ([] ++ ys)) ≡ r
nothing_before (Ok ys) = refl
nothing_before (Err e) = refl

-- one more
moved : (xs : List Argument) (a : Argument) (r : Placed (List Argument)) → ((r >>= λ ys. Ok (a ∷ ys)) >>= λ ys. Ok (xs ++ ys)) ≡ (r >>= λ ys. Ok ((xs ++ a ∷ []) ++ ys))
moved xs a (Ok ys) = ap (λ l. Ok l) (sym (append_assoc xs (a ∷ []) ys))
moved xs a (Err e) = refl

pub one_passed : (t : Tree) (ts : List Tree) (env : Env) (xs : List Argument) (a : Argument) → (meaning_of t).argument env ≡ Ok a → ((meaning_of (trees ts)).arguments env >>= λ ys. Ok ((xs ++ a ∷ []) ++ ys)) ≡ ((meaning_of (trees (t ∷ ts))).arguments env >>= λ ys. Ok (xs ++ ys))
one_passed t ts env xs a h =
    sym (ap (λ (r : Placed Argument). (r >>= λ x. (meaning_of (trees ts)).arguments env >>= λ ys. Ok (x ∷ ys)) >>= λ ys. Ok (xs ++ ys)) h ∙ moved xs a ((meaning_of (trees ts)).arguments env))

none_mapped : (v : Plain) (o : Option (List Plain)) → with_one v o ≡ None → o ≡ None
none_mapped v (Some ws) h = absurd (cc)
none_mapped v None h = refl

stays_none : (xs : List Argument) (a : Argument) → values_in xs ≡ None → values_in (xs ++ a ∷ []) ≡ None
stays_none [] a h = absurd (cc)
stays_none (plain v ∷ xs) a h = ap (with_one v) (stays_none xs a (none_mapped v (values_in xs) h))
stays_none (block f ∷ xs) a h = refl

all_values : (ws : List Plain) (w : Plain) → values_in (map plain ws ++ plain w ∷ []) ≡ Some (ws ++ w ∷ [])
all_values [] w = refl
all_values (v ∷ ws) w = ap (with_one v) (all_values ws w)

pub collects_value : (b : Bool) (xs : List Argument) (vs : List Value) (v : Value) → Collects xs b vs → Collects (xs ++ plain (plain_of v) ∷ []) b (vs ++ v ∷ [])
collects_value true xs vs v h = stays_none xs (plain (plain_of v)) h
collects_value false xs vs v h =
    ap (λ l. values_in (l ++ plain (plain_of v) ∷ [])) (values_are xs (map plain_of vs) h) ∙ all_values (map plain_of vs) (plain_of v) ∙ ap (λ l. Some l) (sym (map-append plain_of vs (v ∷ [])))

pub collects_block : (xs : List Argument) (vs : List Value) (f : List Plain → Placed Plain) → Collects (xs ++ block f ∷ []) true vs
collects_block xs vs f = no_values xs f

-- ---- an argument that is a closure

pub record IsBlock (t : Tree) (env : Env) (f : List Plain → Placed Plain) : Type 0 where
  pub closes : is_closure t ≡ true
  pub gives : f ≡ block_of t env

no_block : (r : Placed Plain) (f : List Plain → Placed Plain) → (r >>= λ v. Ok (plain v)) ≡ Ok (block f) → ⊥
no_block (Ok v) f h = cc
no_block (Err e) f h = cc

block_is : (t : Tree) (env : Env) (f : List Plain → Placed Plain) → (meaning_of t).argument env ≡ Ok (block f) → IsBlock t env f
block_is (tree.closure p ps b) env f h = record { closes = refl; gives = cc }
block_is (tree.number p i) env f h = absurd (no_block ((meaning_of (tree.number p i)).value env) f h)
block_is (tree.text p k x) env f h = absurd (no_block ((meaning_of (tree.text p k x)).value env) f h)
block_is (tree.pattern p x) env f h = absurd (no_block ((meaning_of (tree.pattern p x)).value env) f h)
block_is (tree.template p k xs) env f h = absurd (no_block ((meaning_of (tree.template p k xs)).value env) f h)
block_is (tree.truth p b) env f h = absurd (no_block ((meaning_of (tree.truth p b)).value env) f h)
block_is (tree.null p) env f h = absurd (no_block ((meaning_of (tree.null p)).value env) f h)
block_is (tree.name p n) env f h = absurd (no_block ((meaning_of (tree.name p n)).value env) f h)
block_is (tree.list p xs) env f h = absurd (no_block ((meaning_of (tree.list p xs)).value env) f h)
block_is (tree.map p xs) env f h = absurd (no_block ((meaning_of (tree.map p xs)).value env) f h)
block_is (tree.label n e) env f h = absurd (no_block ((meaning_of (tree.label n e)).value env) f h)
block_is (tree.prefix p k e) env f h = absurd (no_block ((meaning_of (tree.prefix p k e)).value env) f h)
block_is (tree.binary p k a b) env f h = absurd (no_block ((meaning_of (tree.binary p k a b)).value env) f h)
block_is (tree.conditional p c a b) env f h = absurd (no_block ((meaning_of (tree.conditional p c a b)).value env) f h)
block_is (tree.elvis p a b) env f h = absurd (no_block ((meaning_of (tree.elvis p a b)).value env) f h)
block_is (tree.property e n) env f h = absurd (no_block ((meaning_of (tree.property e n)).value env) f h)
block_is (tree.safe_property e n) env f h = absurd (no_block ((meaning_of (tree.safe_property e n)).value env) f h)
block_is (tree.index p e i) env f h = absurd (no_block ((meaning_of (tree.index p e i)).value env) f h)
block_is (tree.call p g xs) env f h = absurd (no_block ((meaning_of (tree.call p g xs)).value env) f h)
block_is (tree.call_with g c) env f h = absurd (no_block ((meaning_of (tree.call_with g c)).value env) f h)
block_is _ env f h = absurd (cc)

unnamed_is : (o : Option (Place × List ℕ)) (e : Tree) (env : Env) (f : List Plain → Placed Plain) → (meaning_of (with_name o e)).argument env ≡ Ok (block f) → IsBlock e env f
unnamed_is None e env f h = block_is e env f h
unnamed_is (Some n) e env f h = absurd (cc)

-- the only argument is a closure
pub sole_evaluates : (p : Place) (m : Method) (items : List Plain) (o : Option (Place × List ℕ)) (e x all : Tree) (ts : List Tree) (env : Env) (f : List Plain → Placed Plain) (s : Result Value EvalRefusal) → x ≡ with_name o e → all ≡ trees (x ∷ ts) → (meaning_of all).arguments env ≡ Ok (block f ∷ []) → (is_closure e ≡ true → Evaluates (over_items p m (block_of e env) items) s) → Evaluates (over_items p m f items) s
sole_evaluates p m items o e x all ts env f s is these given goes =
    let one = both ((meaning_of x).argument env) (λ a. (meaning_of (trees ts)).arguments env >>= λ ys. Ok (a ∷ ys)) (block f ∷ []) (ap (λ (t : Tree). (meaning_of t).arguments env) (sym these) ∙ given) in
    let more = both ((meaning_of (trees ts)).arguments env) (λ ys. Ok (one.first ∷ ys)) (block f ∷ []) one.then_is in
    let first : one.first ≡ block f = let k = more.then_is in cc in
    let closed = unnamed_is o e env f (ap (λ (t : Tree). (meaning_of t).argument env) (sym is) ∙ one.is_first ∙ ap (λ a. Ok a) first) in
    subst (λ (g : List Plain → Placed Plain). Evaluates (over_items p m g items) s) (sym closed.gives) (goes closed.closes)
