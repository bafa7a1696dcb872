-- Rounds over the functions, until none is ready.
use Rattle.std.proofs.Common.{◌≡◌, ◌∙◌, ◌<◌, ◌≤◌, ◌+◌, ◌++◌, below_more, ℕ, suc, Bool, true, false, not, ◌||◌, cond, List, [], ◌∷◌, length, slice_get, is_some, bytes_eq, string_bytes, option_map, Option, Some, None, refl, sym, ap, subst, true≢false, arith}
use Rattle.std.specs.Prelude.{String, IfSome}
use Rattle.std.specs.Global.{Global}
use Rattle.std.proofs.lemmas.Option.{none-some, same_Some}
use Rattle.nf_eval.specs.Evaluation.{Definition}
use Rattle.nf_meaning.specs.Functions.{function_uses, params_in, body_uses}
use Rattle.nf_meaning.specs.Given.{Definitions, function_named, tree_named}
use Rattle.nf_names_used.specs.Uses.{params_uses}
use Rattle.nf_names_used.specs.declared.uses.UseKind.{UseKind}
use Rattle.nf_names_used.specs.declared.uses.UseKind.TheVariants as kind
use Rattle.nf_callees.specs.declared.functions.DefinedFunction.{DefinedFunction}
use Rattle.nf_callees.specs.Found.{definition_of, params_tree, held, HasFunctions, HasUses}
use Rattle.nf_known.specs.Judged.{Faults, Functions, is_judged, is_ready_use, is_ready, left_count, nowhere, NoneIsReady, IsDefined, is_settled, IsMore, JudgesAt, JudgesAll}
use Rattle.nf_known.proofs.Among.{is_some_map, name_is}

-- ---- a function in the table is that of its name

module _ (ds : Definitions) (fs : Functions) (h : HasFunctions ds fs) (n : List ℕ) where
  pub is_function : is_some (held n fs) ≡ is_some (function_named n ds.functions)
  is_function = sym (is_some_map definition_of (held n fs)) ∙ ap is_some (h.functions n)

  pub no_function : held n fs ≡ None → function_named n ds.functions ≡ None
  no_function e = sym (h.functions n) ∙ ap (option_map definition_of) e

  module _ (f : DefinedFunction) (here : held n fs ≡ Some f) where
    pub named : function_named n ds.functions ≡ Some (definition_of f)
    named = sym (h.functions n) ∙ ap (option_map definition_of) here

    pub has_name : f.function.now.name ≡ n
    has_name = name_is n ds.functions (definition_of f) named

    with_params : tree_named n ds.parameters ≡ Some (params_tree f)
    with_params = sym (h.parameters n) ∙ ap (option_map params_tree) here

    has_uses : HasUses f
    has_uses = subst (λ o. IfSome o HasUses) here (h.uses n)

    pub defined : IsDefined ds f
    defined = record {
      named = ap (λ m. function_named m ds.functions) has_name ∙ named;
      uses = has_uses ∙ ap (λ o. params_uses (params_in o) ++ body_uses (definition_of f)) (sym (ap (λ m. tree_named m ds.parameters) has_name ∙ with_params));
    }

-- ---- a use that calls no function of the script but judged ones

module _ (ds : Definitions) (es : Faults) (fs : Functions) (h : HasFunctions ds fs) (n : List ℕ) (k : UseKind) (is : k ≡ kind.Function) where
  by_table : (b : Bool) → is_some (held n fs) ≡ b → is_ready_use ds es k n ≡ (not b || is_judged es n)
  by_table b e = ap (λ z. is_ready_use ds es z n) is ∙ ap (λ z. not z || is_judged es n) (sym (is_function ds fs h n) ∙ e)

  pub ready_unknown : is_some (held n fs) ≡ false → true ≡ is_ready_use ds es k n
  ready_unknown e = sym (by_table false e)

  pub ready_known : is_some (held n fs) ≡ true → is_judged es n ≡ is_ready_use ds es k n
  ready_known e = sym (by_table true e)

-- ---- a function that is settled

or_true : (a b : Bool) → b ≡ true → (a || b) ≡ true
or_true true b h = refl
or_true false b h = h

module _ (ds : Definitions) (es : Faults) (fs : Functions) (i : ℕ) where
  pub none_at : slice_get fs i ≡ None → JudgesAt ds fs i es false
  none_at e = subst (λ o. IfSome o (λ x. is_settled ds es x.1 ≡ true)) (sym e) tt

  settled_at : (x : String Global × DefinedFunction) → slice_get fs i ≡ Some x → is_settled ds es x.1 ≡ true → JudgesAt ds fs i es false
  settled_at x e h = subst (λ o. IfSome o (λ y. is_settled ds es y.1 ≡ true)) (sym e) h

  module _ (h : HasFunctions ds fs) (x : String Global × DefinedFunction) (at : slice_get fs i ≡ Some x) (here : held (string_bytes x.0) fs ≡ Some x.1) where
    pub judged_at : is_judged es (string_bytes x.0) ≡ true → JudgesAt ds fs i es false
    judged_at e =
        settled_at x at
        (ap (λ b. b || not (is_ready ds es x.1.uses.items)) (ap (is_judged es) (has_name ds fs h (string_bytes x.0) x.1 here) ∙ e))

    pub waits_at : is_ready ds es x.1.uses.items ≡ false → JudgesAt ds fs i es false
    waits_at e = settled_at x at (or_true (is_judged es x.1.function.now.name) (not (is_ready ds es x.1.uses.items)) (ap not e))

-- ---- one place after another

-- what a round came to as far as it has come
pub record Goes (ds : Definitions) (fs : Functions) (count : ℕ) (more : Bool) (old new : Faults) : Type 0 where
  pub is_more : IsMore ds more old new
  pub settled : more ≡ false → (i : ℕ) → i < count → JudgesAt ds fs i new false

module _ (ds : Definitions) (fs : Functions) where
  pub goes_first : (es : Faults) → Goes ds fs 0 false es es
  goes_first es = record { is_more = refl; settled = λ e i l. absurd (omega (arith, l)) }

  less_by : (more : Bool) (old mid new : Faults) → IsMore ds more old mid → left_count ds new nowhere < left_count ds mid nowhere → left_count ds new nowhere < left_count ds old nowhere
  less_by true old mid new h l = omega (arith, h, l)
  less_by false old mid new h l = subst (λ z. left_count ds new nowhere < left_count ds z nowhere) h l

  -- one more is judged
  pub goes_more : (count : ℕ) (more : Bool) (old mid new : Faults) → Goes ds fs count more old mid → IsMore ds true mid new → Goes ds fs (count + 1) true old new
  goes_more count more old mid new h l = record {
    is_more = less_by more old mid new h.is_more l;
    settled = λ e i l. absurd (true≢false e);
  }

  -- none is
  pub goes_on : (count : ℕ) (more : Bool) (old mid new : Faults) → Goes ds fs count more old mid → IsMore ds false mid new → JudgesAt ds fs count new false → Goes ds fs (count + 1) more old new
  goes_on count more old mid new h same last = record {
    is_more = subst (IsMore ds more old) (sym same) h.is_more;
    settled = λ e. below_more (λ i. JudgesAt ds fs i new false) count (λ j k. subst (λ z. JudgesAt ds fs j z false) (sym same) (h.settled e j k)) last;
  }

  -- ---- all places

  held_by : (P : DefinedFunction → Type 0) (n : List ℕ) (e : String Global × DefinedFunction) (es : Functions) → P e.1 → IfSome (held n es) P → (t : Bool) → IfSome (cond t (Some e.1) (held n es)) P
  held_by P n e es here rest true = here
  held_by P n e es here rest false = rest

  pub each_held : (P : DefinedFunction → Type 0) (n : List ℕ) (es : Functions) → ((i : ℕ) → i < length es → IfSome (slice_get es i) (λ e. P e.1)) → IfSome (held n es) P
  each_held P n [] h = tt
  each_held P n (e ∷ es) h = held_by P n e es (h 0 (omega arith)) (each_held P n es (λ i l. h (suc i) (omega (arith, l)))) (bytes_eq n (string_bytes e.0))

  not_ready : (a b : Bool) → a ≡ false → (a || not b) ≡ true → b ≡ false
  not_ready true b e h = absurd (true≢false e)
  not_ready false true e h = sym h
  not_ready false false e h = refl

  module _ (es : Faults) (h : HasFunctions ds fs) (n : List ℕ) (f : Definition) (named_f : function_named n ds.functions ≡ Some f) (waits : is_judged es n ≡ false) where
    none_by : (o : Option DefinedFunction) → held n fs ≡ o → IfSome o (λ x. is_settled ds es x ≡ true) → is_ready ds es (function_uses ds f) ≡ false
    none_by None e s = absurd (none-some f (sym (no_function ds fs h n e) ∙ named_f))
    none_by (Some x) e s =
        let is : definition_of x ≡ f = same_Some (definition_of x) f (sym (named ds fs h n x e) ∙ named_f) in
        let d : IsDefined ds x = defined ds fs h n x e in
        ap (is_ready ds es) (ap (function_uses ds) (sym is) ∙ sym d.uses)
        ∙ not_ready (is_judged es x.function.now.name) (is_ready ds es x.uses.items) (ap (is_judged es) (has_name ds fs h n x e) ∙ waits) s

  none_ready : (es : Faults) → HasFunctions ds fs → ((i : ℕ) → i < length fs → JudgesAt ds fs i es false) → NoneIsReady ds es
  none_ready es h all n f named_f waits = none_by es h n f named_f waits (held n fs) refl (each_held (λ x. is_settled ds es x ≡ true) n fs all)

  -- where a round ends
  pub round_ends : (count : ℕ) (more : Bool) (old new : Faults) → HasFunctions ds fs → length fs ≤ count → Goes ds fs count more old new → JudgesAll ds new more
  round_ends count true old new h l goes = tt
  round_ends count false old new h l goes = none_ready new h (λ i k. goes.settled refl i (omega (arith, k, l)))
