-- Options, whose number of labels is kept apart, and totals.
use Rattle.std.proofs.Common.{◌≡◌, ◌∙◌, ℕ, length, pos, negsuc, Bool, true, false, List, codes, Option, Some, None, Result, Ok, Err, refl, sym, ap, subst, true≢false}
use Rattle.std.proofs.lemmas.Bool.{false≢true}
use Rattle.std.specs.Prelude.{if◌then◌else◌}
use Rattle.std.specs.Str.{bytes_eq}
use Rattle.nf_value.specs.Plain.{Plain, null, truth, int, text, file, list, table}
use Rattle.nf_value.specs.View.{plain_of}
use Rattle.nf_value.specs.declared.place.Place.{Place}
use Rattle.nf_value.specs.declared.value.Value.{Value}
use Rattle.nf_builtins.specs.Natives.{is_among}
use Rattle.nf_graph.specs.Meaning.{Bags}
use Rattle.nf_ast.specs.Tree as tree
use Rattle.nf_ast.specs.Tree.{Tree}
use Rattle.nf_bag.specs.declared.options.OpOpts.{OpOpts}
use Rattle.nf_bag.specs.declared.options.Total.{Total}
use Rattle.nf_optable.specs.declared.rows.Options.{Options}
use Rattle.nf_optable.specs.Rows.{option_names}
use Rattle.nf_lowered.proofs.Joining.{fault_by, fault_is}
use Rattle.nf_lowered.specs.Given.{HasFault}
use Rattle.nf_meaning.specs.declared.fault.LowerFault.{LowerFault}
use Rattle.nf_meaning.specs.declared.fault.LowerFault.TheVariants.{BadOption}
use Rattle.nf_meaning.specs.Arguments.{Arg, flag_in, is_closure, option_value}
use Rattle.nf_meaning.specs.Closures.{bare_fault, no_closure}
use Rattle.nf_meaning.specs.Lowered.{Lowered}
use Rattle.nf_meaning.specs.Options.{allows_key, key_in, with_flag, with_option, with_value}
use Rattle.nf_meaning.specs.Places.{begins_at}
use Rattle.nf_meaning.specs.Taken as meaning
use Rattle.nf_meaning.specs.Taken.{total_wanted}
use Rattle.nf_meaning.specs.Totals.{total_of}
use Rattle.nf_meaning.specs.Walk.{Around, State, Walk, ◌>>=◌, at_state, gives, refused, then_by, unless_fault, wanted}
use Rattle.nf_around.specs.Gives.{IsValue, Reads}
use Rattle.nf_taken.specs.declared.taken.Taken.{Taken}
use Rattle.nf_taken.specs.Bodies.{IsSame, option_walk}
use Rattle.nf_taken.specs.Taken.{IsTaken, with_options, with_outs}
use Rattle.nf_taken.proofs.Things.{an_option}
use Rattle.nf_taken.proofs.Walks.{StaysAt, by_walk, fails_first, goes_on, is_given}

-- ---- the number of labels

abbrev pub outs_after : ℕ → Walk OpOpts → Walk OpOpts
outs_after k w = w >>= λ o. gives (with_outs k o)

flag_apart : (n : List ℕ) (b : Bool) (k : ℕ) (o : OpOpts) → with_flag n b (with_outs k o) ≡ with_outs k (with_flag n b o)
flag_apart n b k o = by (bytes_eq n (codes "remainder")) (bytes_eq n (codes "sort")) (bytes_eq n (codes "flat"))
  where
    by : (x y z : Bool)
        → (if x then record (with_outs k o) { remainder = b } else if y then record (with_outs k o) { sort = b } else if z then record (with_outs k o) { flat = b } else with_outs k o)
        ≡ with_outs k (if x then record o { remainder = b } else if y then record o { sort = b } else if z then record o { flat = b } else o)
    by true y z = refl
    by false true z = refl
    by false false true = refl
    by false false false = refl

key_if : (b : Bool) (p : Place) (j k : ℕ) (o : OpOpts) → (if b then gives (record (with_outs k o) { by = Some j }) else refused (BadOption p)) ≡ outs_after k (if b then gives (record o { by = Some j }) else refused (BadOption p))
key_if true p j k o = refl
key_if false p j k o = refl

module _ (row : Options) (p : Place) (n : List ℕ) (k : ℕ) (o : OpOpts) where
  abbrev value_if : Bool → Plain → OpOpts → Walk OpOpts
  value_if b v q = if b then key_in row p v q else (flag_in p v >>= λ f. gives (with_flag n f q))

  pub value_apart : (v : Plain) → with_value row p n v (with_outs k o) ≡ outs_after k (with_value row p n v o)
  value_apart v = by (bytes_eq n (codes "by")) v
    where
      by : (b : Bool) (v : Plain) → value_if b v (with_outs k o) ≡ outs_after k (value_if b v o)
      by true (int (pos j)) = key_if (allows_key row j) p j k o
      by true (int (negsuc j)) = refl
      by true null = refl
      by true (truth b) = refl
      by true (text t) = refl
      by true (file m d l) = refl
      by true (list vs) = refl
      by true (table ps) = refl
      by false (truth b) = λ i a s. Ok (flag_apart n b k o i, s)
      by false null = refl
      by false (int z) = refl
      by false (text t) = refl
      by false (file m d l) = refl
      by false (list vs) = refl
      by false (table ps) = refl

  abbrev option_if : Bool → Arg → OpOpts → Walk OpOpts
  option_if b x q = if b then (option_value p x.tree >>= λ v. with_value row p n v q) else refused (BadOption p)

  after_value : (a : Around) (u : Lowered (Plain × State)) → then_by a (λ v. with_value row p n v (with_outs k o)) u ≡ then_by a (λ q. gives (with_outs k q)) (then_by a (λ v. with_value row p n v o) u)
  after_value a (Ok v) = λ i. value_apart v.0 i a v.1
  after_value a (Err e) = refl

  option_apart : (x : Arg) (a : Around) (s : State) → with_option row (p, n) x (with_outs k o) a s ≡ outs_after k (with_option row (p, n) x o) a s
  option_apart x a s = by (is_among n (option_names row))
    where
      by : (b : Bool) → option_if b x (with_outs k o) a s ≡ outs_after k (option_if b x o) a s
      by true = after_value a (option_value p x.tree a s)
      by false = refl

-- ---- an option that is taken

module _ (row : Options) (n : Place × List ℕ) (x : Arg) (a : Around) (s : State) (bags : Bags) (old : Taken) (t : meaning.Taken) (is : IsTaken a.given.program bags old t) where
  same_walk : with_option row n x t.options a s ≡ outs_after (length old.labels.items) (with_option row n x old.opts) a s
  same_walk = ap (λ o. with_option row n x o a s) (sym is.options) ∙ option_apart row n.0 n.1 (length old.labels.items) old.opts x a s

  pub option_read : (o : OpOpts) → Reads IsSame (with_option row n x old.opts) a s (Ok o) → Reads (IsTaken a.given.program bags) (option_walk row n x t) a s (Ok (record old { opts = o }))
  option_read o h =
      let k = length old.labels.items in
      goes_on (λ p q. with_outs k p ≡ q) (IsTaken a.given.program bags) (with_option row n x t.options) (λ q. gives (with_options q t)) a s o (Ok (record old { opts = o }))
      (subst (StaysAt (λ p q. with_outs k p ≡ q) s (Ok o)) (sym same_walk)
      (goes_on IsSame (λ p q. with_outs k p ≡ q) (with_option row n x old.opts) (λ q. gives (with_outs k q)) a s o (Ok o) h
      (λ y q. is_given (λ u v. with_outs k u ≡ v) o (with_outs k y) a s (ap (with_outs k) q))))
      (λ y q. is_given (IsTaken a.given.program bags) (record old { opts = o }) (with_options y t) a s (an_option a.given.program bags old t is o y q))

  pub option_fails : (e : LowerFault) → Reads (IsSame {A = OpOpts}) (with_option row n x old.opts) a s (Err e) → Reads (IsTaken a.given.program bags) (option_walk row n x t) a s (Err e)
  option_fails e h =
      let k = length old.labels.items in
      fault_by (with_option row n x old.opts a s) (option_walk row n x t a s) e
      (λ q. ap (then_by a (λ o. gives (with_options o t))) (same_walk ∙ ap (then_by a (λ o. gives (with_outs k o))) q)) h

-- an answer that takes no step
pub still_read : {A : Type 0} (w : Walk A) (a : Around) (s : State) (r : Result A LowerFault) → w a s ≡ at_state s r → Reads IsSame w a s r
still_read w a s (Ok x) h = record { value = (x, s); is = h; fits = (refl, refl) }
still_read w a s (Err e) h = fault_is (w a s) e h

module _ (row : Options) (p : Place) (n : List ℕ) (x : Arg) (o : OpOpts) (a : Around) (s : State) where
  pub no_option : false ≡ is_among n (option_names row) → Reads IsSame (with_option row (p, n) x o) a s (Err (BadOption p))
  no_option h = ap (λ b. option_if row p n 0 o b x o a s) (sym h)

  by_value : true ≡ is_among n (option_names row) → with_option row (p, n) x o ≡ (option_value p x.tree >>= λ v. with_value row p n v o)
  by_value h = ap (λ b. option_if row p n 0 o b x o) (sym h)

  pub option_wrong : (t : Tree) (e : LowerFault) → true ≡ is_among n (option_names row) → x.tree ≡ t → Reads IsValue (option_value p t) a s (Err e) → Reads IsSame (with_option row (p, n) x o) a s (Err e)
  option_wrong t e h is k =
      by_walk IsSame (with_option row (p, n) x o) (option_value p x.tree >>= λ v. with_value row p n v o) a s (Err e) (by_value h)
      (fails_first IsValue IsSame (option_value p x.tree) (λ v. with_value row p n v o) a s e (subst (λ u. Reads IsValue (option_value p u) a s (Err e)) (sym is) k))

  pub option_right : (t : Tree) (v : Value) (r : Result OpOpts LowerFault) → true ≡ is_among n (option_names row) → x.tree ≡ t → Reads IsValue (option_value p t) a s (Ok v)
      → with_value row p n (plain_of v) o a s ≡ at_state s r → Reads IsSame (with_option row (p, n) x o) a s r
  option_right t v r h is k still =
      by_walk IsSame (with_option row (p, n) x o) (option_value p x.tree >>= λ w. with_value row p n w o) a s r (by_value h)
      (goes_on IsValue IsSame (option_value p x.tree) (λ w. with_value row p n w o) a s v r (subst (λ u. Reads IsValue (option_value p u) a s (Ok v)) (sym is) k)
      (λ y q. subst (λ w. Reads IsSame (with_value row p n w o) a s r) q (still_read (with_value row p n (plain_of v) o) a s r still)))

-- ---- totals

-- what is wrong is wrong for whatever is wanted
wrong_for : {A B : Type 0} (t : Tree) (a : Around) (s : State) (f : LowerFault) → no_closure {A = A} t a s ≡ Err f → no_closure {A = B} t a s ≡ Err f
wrong_for {A = A} {B = B} t a s f h = by (bare_fault a s.scope t) h
  where
    by : (o : Option LowerFault) → (unless_fault o >>= λ _. refused {A = A} (BadOption (begins_at t))) a s ≡ Err f → (unless_fault o >>= λ _. refused {A = B} (BadOption (begins_at t))) a s ≡ Err f
    by None k = let same : BadOption (begins_at t) ≡ f = cc in λ i. Err (same i)
    by (Some g) k = let same : g ≡ f = cc in λ i. Err (same i)

total_is_none : (t : Tree) → is_closure t ≡ false → total_wanted t ≡ no_closure t
total_is_none (tree.closure p ps b) h = absurd (true≢false h)
total_is_none _ h = refl

pub no_total : (t : Tree) (a : Around) (s : State) (f : LowerFault) → is_closure t ≡ false → no_closure {A = Unit {0}} t a s ≡ Err f → HasFault (total_wanted t a s) f
no_total t a s f apart wrong = fault_is (total_wanted t a s) f (ap (λ w. w a s) (total_is_none t apart) ∙ wrong_for t a s f wrong)

total_by : (t : Tree) → is_closure t ≡ true → total_wanted t ≡ wanted (total_of t) (BadOption (begins_at t))
total_by (tree.closure p ps b) h = refl
total_by _ h = absurd (false≢true h)

module _ (t : Tree) (p : Place) (is : is_closure t ≡ true) (place : begins_at t ≡ p) (a : Around) (s : State) where
  pub a_total : (k : Total) → Some k ≡ total_of t → Reads IsSame (total_wanted t) a s (Ok k)
  a_total k h = record {
    value = (k, s);
    is = ap (λ w. w a s) (total_by t is ∙ ap (λ o. wanted o (BadOption (begins_at t))) (sym h));
    fits = (refl, refl);
  }

  pub bad_total : None ≡ total_of t → Reads IsSame (total_wanted t) a s (Err (BadOption p))
  bad_total h = ap (λ w. w a s) (total_by t is ∙ ap (λ o. wanted o (BadOption (begins_at t))) (sym h)) ∙ (λ i. Err (BadOption (place i)))
