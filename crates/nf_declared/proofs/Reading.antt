-- Reading goes on from top to top.
use Rattle.std.proofs.Common.{◌≡◌, ◌∙◌, ◌<◌, ◌≤◌, ◌+◌, ℕ, Bool, true, false, ◌||◌, List, [], ◌∷◌, map, length, get_or, drop, Option, Some, Result, Ok, Err, refl, sym, ap, subst, inl, inr, add-one, drop-cons}
use Rattle.std.specs.Prelude.{bytes_eq, if◌then◌else◌, is_some}
use Rattle.std.specs.HashSet.{contains_text}
use Rattle.std.proofs.lemmas.Bool.{cases_Bool}
use Rattle.std.proofs.lemmas.List.{drop_all}
use Rattle.std.proofs.lemmas.Slice.Eq.{bytes_eq-Decides}
use Rattle.nf_value.specs.Plain.{Plain, plain_pairs_of, table}
use Rattle.nf_value.specs.View.{plain_of}
use Rattle.nf_value.specs.declared.place.Place.{Place}
use Rattle.nf_value.specs.declared.value.Value.{Value}
use Rattle.nf_ast.specs.Tops.{view_top, view_workflow}
use Rattle.nf_ast.specs.Tree as tree
use Rattle.nf_ast.specs.Tree.{Tree, cons, empty}
use Rattle.nf_ast.specs.View.{trees, view}
use Rattle.nf_ast.specs.declared.expr.Expr.{Expr}
use Rattle.nf_ast.specs.declared.tops.Function.{Function}
use Rattle.nf_ast.specs.declared.tops.Process.{Process}
use Rattle.nf_ast.specs.declared.tops.Top.{Top}
use Rattle.nf_ast.specs.declared.tops.Top.TheVariants as top
use Rattle.nf_ast.specs.declared.tops.Workflow.{Workflow}
use Rattle.nf_builtins.specs.Natives.{is_among}
use Rattle.nf_lowered.specs.Given.{Gives, HasFault}
use Rattle.nf_lowered.proofs.Joining.{fault_by}
use Rattle.nf_meaning.specs.declared.fault.LowerFault.{LowerFault}
use Rattle.nf_meaning.specs.declared.fault.LowerFault.TheVariants.{TwiceDefined}
use Rattle.nf_meaning.specs.Expressions.{only_read, value_of}
use Rattle.nf_meaning.specs.Given.{Given}
use Rattle.nf_meaning.specs.Lowered.{Lowered, goes_on}
use Rattle.nf_meaning.specs.Script as script
use Rattle.nf_meaning.specs.Script.{Read, after, around, begun, only, opening, top_read, tops_read, with_param}
use Rattle.nf_meaning.specs.Walk as walk
use Rattle.nf_meaning.specs.Walk.{Walk}
use Rattle.nf_meaning.specs.Workflow.{logged}
use Rattle.nf_pairs.specs.Pairs.{put, value_at}
use Rattle.nf_around.specs.Around.{IsAround}
use Rattle.nf_around.specs.Gives.{IsUnit, IsValue, Reads}
use Rattle.nf_tasks.specs.Memory.{Program}
use Rattle.nf_around.specs.declared.surroundings.Surroundings.{Surroundings}
use Rattle.nf_declared.specs.declared.read.TopReader.{TopReader}
use Rattle.nf_declared.specs.Names.{HasAlso, NamesGoOn, NamesKept, NamesRead}
use Rattle.nf_declared.specs.Reads.{ReadingGoesOn, StandsRead, top_walk}

gives_as : {A B : Type 0} (P Q : A → B → Type 0) (w : Lowered B) (r : Result A LowerFault) → ((v : A) (b : B) → P v b → Q v b) → Gives P w r → Gives Q w r
gives_as P Q w (Ok v) f h = record { value = h.value; is = h.is; fits = f v h.value h.fits }
gives_as P Q w (Err e) f h = h

-- ---- the tops that are left

left : {X : Type 0} (xs : List X) (i : ℕ) (x : X) → i < length xs → x ≡ get_or xs i x → drop i xs ≡ x ∷ drop (i + 1) xs
left xs i x h is = rw (add-one, drop-cons xs i x, ← is) refl

abbrev pub rest_of : List Top → ℕ → Tree
rest_of xs i = trees (map view_top (drop i xs))

rest_is : (xs : List Top) (i : ℕ) (x : Top) → i < length xs → x ≡ get_or xs i x → rest_of xs i ≡ cons (view_top x) (rest_of xs (i + 1))
rest_is xs i x h is = ap (λ ys. trees (map view_top ys)) (left xs i x h is)

none_left : (xs : List Top) (i : ℕ) → length xs ≤ i → rest_of xs i ≡ empty
none_left xs i h = ap (λ ys. trees (map view_top ys)) (drop_all i xs h)

-- ---- the keys of pairs

turned : (a b : List ℕ) → bytes_eq a b ≡ bytes_eq b a
turned a b = elim (cases_Bool (bytes_eq a b)) [
  | inl t ↦ t ∙ sym ((bytes_eq-Decides b a).1 (sym ((bytes_eq-Decides a b).0 t)))
  | inr f ↦ elim (cases_Bool (bytes_eq b a)) [
    | inl t ↦ absurd (let e : true ≡ false = sym ((bytes_eq-Decides a b).1 (sym ((bytes_eq-Decides b a).0 t))) ∙ f in cc)
    | inr g ↦ f ∙ sym g
  ]
]

some_or : (b : Bool) (v : Plain) (o : Option Plain) → is_some (if b then Some v else o) ≡ (b || is_some o)
some_or true v o = refl
some_or false v o = refl

pub has_is_among : (n : List ℕ) (ps : List (List ℕ × Plain)) → is_some (value_at n ps) ≡ is_among n (map (λ b. b.0) ps)
has_is_among n [] = refl
has_is_among n (p ∷ ps) =
    some_or (bytes_eq n p.0) p.1 (value_at n ps) ∙ ap (λ b. b || is_some (value_at n ps)) (turned n p.0) ∙ ap (λ b. bytes_eq p.0 n || b) (has_is_among n ps)

module _ {N : Type 0} (titles_of : N → List (List ℕ)) (answer_of : N → ℕ → List Plain → Option Plain) where
  abbrev Stands : TopReader N → Given → Read → Type 0
  Stands x g q = StandsRead titles_of answer_of x g q

  -- where reading begins
  pub stands_begun : (x : TopReader N) (g : Given) → x.params ≡ g.params → x.outside.now ≡ g.params → IsAround titles_of answer_of x.around (around g g.params)
      → (n : N) → n ≡ x.around.natives.now → ((h : Given) → h.program.titles ≡ titles_of n → NamesRead x.names (begun h)) → Stands x g (begun g)
  stands_begun x g params outside is n same names = record {
    names = names g (ap (λ (p : Program). p.titles) is.everywhere.program ∙ ap titles_of (sym same));
    params = params;
    outside = outside;
    around = is;
  }

  -- ---- one top

  -- a name
  pub name_goes : (x y : TopReader N) (w : Given → Read → Lowered Read) (r : Result (Unit {0}) LowerFault) → ((g : Given) → NamesGoOn (w g) x.names y.names r)
      → y ≡ record x { names = y.names } → ReadingGoesOn titles_of answer_of w x y r
  name_goes x y w r names same g q h =
      gives_as (λ u k. NamesKept y.names q k) (λ u k. Stands y g k) (w g q) r
      (λ u k kept. record {
        names = kept.read;
        params = ap (λ (z : TopReader N). z.params) same ∙ h.params ∙ sym kept.params;
        outside = ap (λ (z : TopReader N). z.outside.now) same ∙ h.outside;
        around =
            (let P : Surroundings N → Type 0 = λ s. IsAround titles_of answer_of s (around g k.params) in
            let Q : List (List ℕ × Plain) → Type 0 = λ ps. IsAround titles_of answer_of x.around (around g ps) in
            subst P (sym (ap (λ (z : TopReader N). z.around) same)) (subst Q (sym kept.params) h.around));
      })
      (names g q h.names)

  -- what is only read
  pub read_goes : (x : TopReader N) (w : Walk (Unit {0})) (v : Given → Read → Lowered Read) (r : Result (Unit {0}) LowerFault)
      → ((a : walk.Around) → IsAround titles_of answer_of x.around a → Reads IsUnit w a opening r) → ((g : Given) (q : Read) → v g q ≡ after q (only (w (around g q.params) opening)))
      → ReadingGoesOn titles_of answer_of v x x r
  read_goes x w v (Ok u) reads is g q h =
      (let it = reads (around g q.params) h.around in record { value = q; is = is g q ∙ ap (λ z. after q (only z)) it.is; fits = h })
  read_goes x w v (Err e) reads is g q h =
      fault_by (w (around g q.params) opening) (v g q) e (λ k. is g q ∙ ap (λ z. after q (only z)) k) (reads (around g q.params) h.around)

  pub nothing_goes : (x : TopReader N) (v : Given → Read → Lowered Read) → ((g : Given) (q : Read) → v g q ≡ Ok q) → ReadingGoesOn titles_of answer_of v x x (Ok tt)
  nothing_goes x v is g q h = record { value = q; is = is g q; fits = h }

  -- each kind of top
  pub process_goes : (t : Top) (p : Process) (x y : TopReader N) (r : Result (Unit {0}) LowerFault) → t ≡ top.Process p → NamesGoOn (script.new_name (tree.name p.name_place p.name)) x.names y.names r
      → y ≡ record x { names = y.names } → ReadingGoesOn titles_of answer_of (top_walk t) x y r
  process_goes t p x y r is names same =
      let P : Top → Type 0 = λ u. ReadingGoesOn titles_of answer_of (top_walk u) x y r in
      subst P (sym is) (name_goes x y (top_walk (top.Process p)) r (λ g. names) same)

  pub function_goes : (t : Top) (f : Function) (x y : TopReader N) (r : Result (Unit {0}) LowerFault) → t ≡ top.Function f → NamesGoOn (script.new_name (tree.name f.name_place f.name)) x.names y.names r
      → y ≡ record x { names = y.names } → ReadingGoesOn titles_of answer_of (top_walk t) x y r
  function_goes t f x y r is names same =
      let P : Top → Type 0 = λ u. ReadingGoesOn titles_of answer_of (top_walk u) x y r in
      subst P (sym is) (name_goes x y (top_walk (top.Function f)) r (λ g. names) same)

  pub workflow_goes : (t : Top) (w : Workflow) (x y : TopReader N) (r : Result (Unit {0}) LowerFault) → t ≡ top.Workflow w → ((g : Given) → NamesGoOn (top_read g (view_workflow w)) x.names y.names r)
      → y ≡ record x { names = y.names } → ReadingGoesOn titles_of answer_of (top_walk t) x y r
  workflow_goes t w x y r is names same =
      let P : Top → Type 0 = λ u. ReadingGoesOn titles_of answer_of (top_walk u) x y r in
      subst P (sym is) (name_goes x y (top_walk (top.Workflow w)) r names same)

  pub println_goes : (t : Top) (p : Place) (e : Expr) (x : TopReader N) (r : Result (Unit {0}) LowerFault) → t ≡ top.Println p e
      → ((a : walk.Around) → IsAround titles_of answer_of x.around a → Reads IsUnit (only_read (view e)) a opening r) → ReadingGoesOn titles_of answer_of (top_walk t) x x r
  println_goes t p e x r is reads =
      let P : Top → Type 0 = λ u. ReadingGoesOn titles_of answer_of (top_walk u) x x r in
      subst P (sym is) (read_goes x (only_read (view e)) (top_walk (top.Println p e)) r reads (λ g q. refl))

  pub log_goes : (t : Top) (p q : Place) (n : List ℕ) (e : Expr) (x : TopReader N) (r : Result (Unit {0}) LowerFault) → t ≡ top.Log p q n e
      → ((a : walk.Around) → IsAround titles_of answer_of x.around a → Reads IsUnit (logged q n (view e)) a opening r) → ReadingGoesOn titles_of answer_of (top_walk t) x x r
  log_goes t p q n e x r is reads =
      let P : Top → Type 0 = λ u. ReadingGoesOn titles_of answer_of (top_walk u) x x r in
      subst P (sym is) (read_goes x (logged q n (view e)) (top_walk (top.Log p q n e)) r reads (λ g k. refl))

  -- ---- parameters

  module _ (p : Place) (n : List ℕ) (e : Tree) where
    abbrev param_walk : Given → Read → Lowered Read
    param_walk g = script.parameter g (tree.name p n) e

    is_param : (b : Bool) (g : Given) (q : Read) → is_among n q.set ≡ b → param_walk g q
        ≡ (if b then Err (TwiceDefined p) else goes_on (only (value_of e (around g q.params) opening)) (λ v. Ok (with_param g n q v)))
    is_param b g q h = ap (λ c. if c then Err (TwiceDefined p) else goes_on (only (value_of e (around g q.params) opening)) (λ v. Ok (with_param g n q v))) h

    pub param_twice : (x : TopReader N) → contains_text x.names.set n ≡ true → ReadingGoesOn titles_of answer_of param_walk x x (Err (TwiceDefined p))
    param_twice x is g q h = is_param true g q (sym (h.names.set n) ∙ is)

    abbrev IsValueOf : TopReader N → Result Value LowerFault → Type 0
    IsValueOf x r = (a : walk.Around) → IsAround titles_of answer_of x.around a → Reads IsValue (value_of e) a opening r

    pub param_fails : (x : TopReader N) (f : LowerFault) → contains_text x.names.set n ≡ false → IsValueOf x (Err f) → ReadingGoesOn titles_of answer_of param_walk x x (Err f)
    param_fails x f is_not reads g q h =
        fault_by (value_of e (around g q.params) opening) (param_walk g q) f
        (λ k. is_param false g q (sym (h.names.set n) ∙ is_not) ∙ ap (λ z. goes_on (only z) (λ v. Ok (with_param g n q v))) k) (reads (around g q.params) h.around)

    pub param_set : (x y : TopReader N) (v : Value) → contains_text x.names.set n ≡ false → IsValueOf x (Ok v)
        → ((g : Given) (q : Read) → Stands x g q → Stands y g (with_param g n q (plain_of v))) → ReadingGoesOn titles_of answer_of param_walk x y (Ok tt)
    param_set x y v is_not reads set g q h =
        (let it = reads (around g q.params) h.around in
        record {
          value = with_param g n q (plain_of v);
          is =
              is_param false g q (sym (h.names.set n) ∙ is_not) ∙ ap (λ z. goes_on (only z) (λ u. Ok (with_param g n q u))) it.is
              ∙ ap (λ u. Ok (with_param g n q u)) (sym it.fits.0);
          fits = set g q h;
        })

  abbrev SetsParam : TopReader N → TopReader N → List ℕ → Value → Type 0
  SetsParam x y n v = (g : Given) (q : Read) → Stands x g q → Stands y g (with_param g n q (plain_of v))

  with_outside : (b : Bool) (g : Given) (n : List ℕ) (q : Read) (v : Plain) → is_among n (map (λ b. b.0) g.params) ≡ b
      → with_param g n q v ≡ record q { set = n ∷ q.set; params = if b then q.params else put (n, v) q.params }
  with_outside b g n q v h = ap (λ c. record q { set = n ∷ q.set; params = if c then q.params else put (n, v) q.params }) h

  -- one that is set from outside
  pub set_outside : (x y : TopReader N) (n : List ℕ) (v : Value) → HasAlso n x.names.set y.names.set → y ≡ record x { names = record x.names { set = y.names.set } }
      → is_some (value_at n x.outside.now) ≡ true → SetsParam x y n v
  set_outside x y n v also same has g q h =
      let is = with_outside true g n q (plain_of v) (sym (has_is_among n g.params) ∙ ap (λ ps. is_some (value_at n ps)) (sym h.outside) ∙ has) in
      let P : Read → Type 0 = λ k. Stands y g k in
      let S : Surroundings N → Type 0 = λ s. IsAround titles_of answer_of s (around g q.params) in
      subst P (sym is)
      (record {
        names = record {
          names = λ m. ap (λ (z : TopReader N). contains_text z.names.names m) same ∙ h.names.names m;
          entry = ap (λ (z : TopReader N). z.names.has_entry) same ∙ h.names.entry;
          set = λ m. also m ∙ ap (λ b. bytes_eq n m || b) (h.names.set m);
        };
        params = ap (λ (z : TopReader N). z.params) same ∙ h.params;
        outside = ap (λ (z : TopReader N). z.outside.now) same ∙ h.outside;
        around = subst S (sym (ap (λ (z : TopReader N). z.around) same)) h.around;
      })

  -- any other
  pub set_here : (x y : TopReader N) (n : List ℕ) (v : Value) (value : Value) → HasAlso n x.names.set y.names.set
      → y ≡ record x { names = record x.names { set = y.names.set }; params = y.params; around = y.around } → is_some (value_at n x.outside.now) ≡ false
      → y.params ≡ put (n, plain_of v) x.params → plain_of value ≡ table (plain_pairs_of y.params)
      → ((g : Given) (ps qs : List (List ℕ × Plain)) → IsAround titles_of answer_of x.around (around g ps) → plain_of value ≡ table (plain_pairs_of qs)
      → IsAround titles_of answer_of y.around (around g qs))
      → SetsParam x y n v
  set_here x y n v value also same has puts is_value set g q h =
      let is = with_outside false g n q (plain_of v) (sym (has_is_among n g.params) ∙ ap (λ ps. is_some (value_at n ps)) (sym h.outside) ∙ has) in
      let all : y.params ≡ put (n, plain_of v) q.params = puts ∙ ap (λ ps. put (n, plain_of v) ps) h.params in
      let P : Read → Type 0 = λ k. Stands y g k in
      subst P (sym is)
      (record {
        names = record {
          names = λ m. ap (λ (z : TopReader N). contains_text z.names.names m) same ∙ h.names.names m;
          entry = ap (λ (z : TopReader N). z.names.has_entry) same ∙ h.names.entry;
          set = λ m. also m ∙ ap (λ b. bytes_eq n m || b) (h.names.set m);
        };
        params = all;
        outside = ap (λ (z : TopReader N). z.outside.now) same ∙ h.outside;
        around = set g q.params (put (n, plain_of v) q.params) h.around (is_value ∙ ap (λ ps. table (plain_pairs_of ps)) all);
      })

  -- ---- all tops

  -- so far: what was read, and what is left of the walk
  pub record SoFar (x : TopReader N) (xs : List Top) (i : ℕ) (g : Given) : Type 0 where
    pub read : Read
    pub stands : StandsRead titles_of answer_of x g read
    pub same : tops_read g (trees (map view_top xs)) (begun g) ≡ tops_read g (rest_of xs i) read

  -- wherever reading began with these parameters and these surroundings
  abbrev pub LeadsOn : List (List ℕ × Plain) → Surroundings N → List Top → ℕ → TopReader N → Type 0
  LeadsOn ps s xs i x = (g : Given) → ps ≡ g.params → IsAround titles_of answer_of s (around g g.params) → SoFar x xs i g

  module _ (ps : List (List ℕ × Plain)) (s : Surroundings N) (xs : List Top) where
    pub tops_begin : (x : TopReader N) → ((g : Given) → ps ≡ g.params → IsAround titles_of answer_of s (around g g.params) → StandsRead titles_of answer_of x g (begun g)) → LeadsOn ps s xs 0 x
    tops_begin x h g params is = record { read = begun g; stands = h g params is; same = refl }

    pub tops_go : (i : ℕ) (t : Top) (x y : TopReader N) (u : Unit {0}) → i < length xs → t ≡ get_or xs i t → LeadsOn ps s xs i x → ReadingGoesOn titles_of answer_of (top_walk t) x y (Ok u)
        → LeadsOn ps s xs (i + 1) y
    tops_go i t x y u h is so_far step g params around_is =
        (let it = so_far g params around_is in
        let next = step g it.read it.stands in
        record {
          read = next.value;
          stands = next.fits;
          same = it.same ∙ ap (λ v. tops_read g v it.read) (rest_is xs i t h is) ∙ ap (λ r. goes_on r (tops_read g (rest_of xs (i + 1)))) next.is;
        })

    pub tops_fail : (i : ℕ) (t : Top) (x y : TopReader N) (e : LowerFault) → i < length xs → t ≡ get_or xs i t → LeadsOn ps s xs i x
        → ReadingGoesOn titles_of answer_of (top_walk t) x y (Err e) → (g : Given) → ps ≡ g.params → IsAround titles_of answer_of s (around g g.params)
        → HasFault (tops_read g (trees (map view_top xs)) (begun g)) e
    tops_fail i t x y e h is so_far step g params around_is =
        (let it = so_far g params around_is in
        fault_by (top_walk t g it.read) (tops_read g (trees (map view_top xs)) (begun g)) e
        (λ k. it.same ∙ ap (λ u. tops_read g u it.read) (rest_is xs i t h is) ∙ ap (λ r. goes_on r (tops_read g (rest_of xs (i + 1)))) k)
        (step g it.read it.stands))

    pub tops_end : (i : ℕ) (x : TopReader N) → length xs ≤ i → LeadsOn ps s xs i x → (g : Given) → ps ≡ g.params → IsAround titles_of answer_of s (around g g.params)
        → Gives (λ (z : Surroundings N) (q : Read). IsAround titles_of answer_of z (around g q.params)) (tops_read g (trees (map view_top xs)) (begun g)) (Ok x.around)
    tops_end i x h so_far g params around_is =
        (let it = so_far g params around_is in
        record { value = it.read; is = it.same ∙ ap (λ u. tops_read g u it.read) (none_left xs i h); fits = it.stands.around })
