-- The closures of a process's expressions.
use Rattle.std.proofs.Common.{◌≡◌, ◌∙◌, ◌+◌, ◌<◌, ℕ, Bool, true, false, List, [], ◌∷◌, ◌++◌, length, drop, map, Result, Ok, Err, Option, Some, None, refl, sym, ap, ap₂, subst, arith}
use Rattle.std.specs.Prelude.{if◌then◌else◌}
use Rattle.std.proofs.Math.Seq.{drop-append_seam}
use Rattle.std.proofs.lemmas.List.{drop_all, length-append}
use Rattle.nf_value.specs.Plain.{Plain}
use Rattle.nf_value.specs.declared.place.Place.{Place}
use Rattle.nf_builtins.specs.Natives.{is_among}
use Rattle.nf_ast.specs.Tree as tree
use Rattle.nf_ast.specs.Tree.{Tree, empty, cons}
use Rattle.nf_ast.specs.View.{names}
use Rattle.nf_placed.specs.Body.{names_in}
use Rattle.nf_called.specs.Formulas.{IsFormula}
use Rattle.nf_bodies.specs.Means.{GivesAs}
use Rattle.nf_eval.specs.Memory.{closing}
use Rattle.nf_eval.specs.declared.closures.Closure.{Closure}
use Rattle.nf_lowered.specs.Given.{Gives, HasFault, HasValue}
use Rattle.nf_names_used.specs.declared.uses.Use.{Use}
use Rattle.nf_names_used.specs.declared.uses.UseKind.TheVariants as kind
use Rattle.nf_names_used.specs.Uses.{Names, again_use, again_uses, entered, no_names, params_uses, used, uses}
use Rattle.nf_meaning.specs.declared.fault.LowerFault.{LowerFault}
use Rattle.nf_meaning.specs.Directives as directives
use Rattle.nf_meaning.specs.Directives.{Inside, inside, seen_fault}
use Rattle.nf_meaning.specs.Functions.{judged_within, names_fault, reached_fault}
use Rattle.nf_meaning.specs.Lowered.{unless}
use Rattle.nf_meaning.specs.Names.{Known, in_run}
use Rattle.nf_meaning.specs.Script.{definitions_of}
use Rattle.nf_meaning.specs.Walk as walk
use Rattle.nf_meaning.specs.Walk.{env_with}
use Rattle.nf_known.specs.declared.around.Around.TheVariants as around
use Rattle.nf_known.specs.Around.{names_everywhere}
use Rattle.nf_known.specs.Known.{IsAsked, Question, wrong_with_uses}
use Rattle.nf_around.specs.declared.surroundings.Surroundings.{Surroundings}
use Rattle.nf_around.specs.Around.{IsAround}
use Rattle.nf_around.specs.Gives.{Judges}
use Rattle.nf_around.specs.Processes.{code_at, placed_at, repeats}
use Rattle.nf_around.proofs.Walks.{is_none, unless_right, unless_wrong}

-- ---- parameters that stand twice

pub none_after : {A : Type 0} (n : ℕ) (xs : List A) → length xs < n → [] ≡ drop n xs
none_after n xs h = sym (drop_all n xs (omega (arith, h)))

placed_names : (p : Place) (ns : List (List ℕ)) → names_in (names (placed_at p ns)) ≡ ns
placed_names p [] = refl
placed_names p (n ∷ ns) = ap (λ ms. n ∷ ms) (placed_names p ns)

one_repeat : (b : Bool) (p : Place) (n : List ℕ) → length (if b then used kind.Again p n ∷ [] else []) ≡ (if b then 1 else 0)
one_repeat true p n = refl
one_repeat false p n = refl

repeats_are : (p : Place) (before ns : List (List ℕ)) → length (again_uses before (names (placed_at p ns))) ≡ repeats before ns
repeats_are p before [] = refl
repeats_are p before (n ∷ ns) =
    length-append (again_use before (tree.name p n)) (again_uses (before ++ n ∷ []) (names (placed_at p ns)))
    ∙ ap₂ ◌+◌ (one_repeat (is_among n before) p n) (repeats_are p (before ++ n ∷ []) ns)

-- the uses after those of the parameters
pub uses_left : (p : Place) (ns : List (List ℕ)) (b : Tree) (us : List Use) → us ≡ uses (code_at p ns b) no_names
    → drop (repeats [] ns) us ≡ uses b (record { captured = []; own = ns; body = [] })
uses_left p ns b us h =
    let params = params_uses (tree.params (names (placed_at p ns))) in
    let inner : Names = record { captured = []; own = names_in (names (placed_at p ns)); body = [] } in
    ap (drop (repeats [] ns)) h
    ∙ ap (λ k. drop k (params ++ uses b inner)) (sym (repeats_are p [] ns))
    ∙ drop-append_seam params (uses b inner)
    ∙ ap (λ own. uses b (record { captured = []; own = own; body = [] })) (placed_names p ns)

-- ---- what is wrong

module _ {N : Type 0} (titles_of : N → List (List ℕ)) (answer_of : N → ℕ → List Plain → Option Plain) (x : Surroundings N) (a : walk.Around) (h : IsAround titles_of answer_of x a) where
  pub asked_everywhere : IsAsked titles_of x.known around.Everywhere (record { given = a.given; known = names_everywhere })
  asked_everywhere = record { script = h.script; names = refl }

  pub wrong_inside : (seen : List (List ℕ)) (b : Tree) (us : List Use) → us ≡ uses b (record { captured = []; own = seen; body = [] })
      → wrong_with_uses (record { given = a.given; known = names_everywhere }) in_run us ≡ seen_fault a seen b
  wrong_inside seen b us is =
      let own : Names = record { captured = []; own = seen; body = [] } in
      ap (λ vs. wrong_with_uses (record { given = a.given; known = names_everywhere }) in_run vs) is
      ∙ ap (λ d. names_fault a.given d names_everywhere in_run b own) (sym h.definitions)
      ∙ ap (λ es. names_fault a.given a.definitions (record { things = []; everywhere = map (λ e. e.0) es }) in_run b own) (sym h.everywhere.values)

-- ---- the formula

same_params : (p : Place) (seen : List (List ℕ)) → tree.params (names (placed_at p seen)) ≡ tree.params (names (map (λ n. (p, n)) seen))
same_params p seen = refl

module _ (a : walk.Around) (seen : List (List ℕ)) (p : Place) (b : Tree) where
  pub formula_wrong : (e : LowerFault) → Judges (seen_fault a seen b) (Err e) → HasFault (directives.formula (inside a seen) p b) e
  formula_wrong e h = unless_wrong (seen_fault a seen b) (Ok (directives.formula_of (inside a seen) p b)) e h

  pub formula_right : (u : Unit {0}) (stored : Closure) → Judges (seen_fault a seen b) (Ok u) → GivesAs a.given.program stored (closing (code_at p seen b) (env_with a [] true))
      → HasValue (directives.formula (inside a seen) p b) (IsFormula a.given.program stored)
  formula_right u stored h g = record {
    value = directives.formula_of (inside a seen) p b;
    is = ap (λ f. unless f (Ok (directives.formula_of (inside a seen) p b))) (is_none (seen_fault a seen b) u h);
    fits = λ i vs. g vs i;
  }
