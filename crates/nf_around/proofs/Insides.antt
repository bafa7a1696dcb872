-- What expressions of a process see is the same in all surroundings that a memory stands for.
use Rattle.std.proofs.Common.{◌≡◌, ◌∙◌, ℕ, zero, suc, Bool, true, false, List, [], ◌∷◌, ◌++◌, length, map, Option, Some, None, string_bytes, String, refl, sym, ap, ap₂}
use Rattle.std.specs.Prelude.{if◌then◌else◌, ◌||◌}
use Rattle.std.proofs.lemmas.Bool.Decides.{same_from_decides}
use Rattle.std.proofs.lemmas.Slice.Eq.{bytes_eq-Decides}
use Rattle.std.specs.Global.{Global}
use Rattle.std.specs.Str.{bytes_eq}
use Rattle.nf_value.specs.Plain.{Plain}
use Rattle.nf_value.specs.declared.place.Place.{Place}
use Rattle.nf_builtins.specs.Natives.{is_among}
use Rattle.nf_ast.specs.Tree as tree
use Rattle.nf_ast.specs.Tree.{Tree, empty, cons}
use Rattle.nf_eval.specs.Evaluation.{Definition}
use Rattle.nf_names_used.specs.Uses.{Names, uses}
use Rattle.nf_names_used.specs.declared.uses.Use.{Use}
use Rattle.nf_names_used.specs.declared.uses.UseKind.{UseKind}
use Rattle.nf_names_used.specs.declared.uses.UseKind.TheVariants as kind
use Rattle.nf_meaning.specs.declared.fault.LowerFault.{LowerFault}
use Rattle.nf_meaning.specs.declared.fault.LowerFault.TheVariants.{PatternRefused, PatternTooLarge}
use Rattle.nf_meaning.specs.Lowered.{or_else}
use Rattle.nf_meaning.specs.Functions.{Judge, calls_fault, function_uses, judged_within, no_names_known, reached_fault, names_fault}
use Rattle.nf_meaning.specs.Directives.{inside, seen_fault}
use Rattle.nf_meaning.specs.Given.{Given, Definitions}
use Rattle.nf_meaning.specs.Script.{definitions_of}
use Rattle.nf_meaning.specs.Walk as walk
use Rattle.nf_meaning.specs.Walk.{env_with}
use Rattle.nf_known.specs.Known.{definitions_in}
use Rattle.nf_known.specs.Patterns.{has_text}
use Rattle.nf_around.specs.declared.surroundings.Surroundings.{Surroundings}
use Rattle.nf_around.specs.Around.{IsAround}
use Rattle.nf_around.specs.Processes.{around_of, given_of, inside_of}
use Rattle.nf_around.specs.Values.{values_of}
use Rattle.nf_meaning.specs.Names.{Known, Reading, in_run, use_fault, uses_fault, name_fault, call_fault, called_by, pattern_fault}

-- two scripts with the same functions of the program, and the same patterns
pub record SameTexts (g h : Given) : Type 0 where
  pub titles : g.program.titles ≡ h.program.titles
  pub built : (n : List ℕ) → is_among n g.patterns ≡ is_among n h.patterns
  pub large : (n : List ℕ) → is_among n g.large ≡ is_among n h.large

module _ (g h : Given) (same : SameTexts g h) (d : Definitions) where
  same_pattern : (p : Place) (s : List ℕ) → pattern_fault g p s ≡ pattern_fault h p s
  same_pattern p s =
      ap (λ (b : Bool). if b then None else if is_among s g.large then Some (PatternTooLarge p) else Some (PatternRefused p)) (same.built s)
      ∙ ap (λ (b : Bool). if is_among s h.patterns then None else if b then Some (PatternTooLarge p) else Some (PatternRefused p)) (same.large s)

  same_use : (k : Known) (r : Reading) (u : UseKind) (p : Place) (n : List ℕ) → use_fault g d k r u p n ≡ use_fault h d k r u p n
  same_use k r kind.Name p n = ap (λ ts. name_fault d ts k r p n) same.titles
  same_use k r kind.Assigned p n = refl
  same_use k r kind.Again p n = refl
  same_use k r kind.Function p n = ap (λ ts. call_fault (called_by d ts n) p) same.titles
  same_use k r kind.Pattern p n = same_pattern p n

  same_uses : (k : Known) (r : Reading) (us : List Use) → uses_fault g d k r us ≡ uses_fault h d k r us
  same_uses k r [] = refl
  same_uses k r (u ∷ us) =
      ap (λ f. or_else f (uses_fault g d k r us)) (same_use k r u.kind u.place u.text)
      ∙ ap (or_else (use_fault h d k r u.kind u.place u.text)) (same_uses k r us)

  reached_by : (k : Known) (r : Reading) (j j' : Judge) (within : List (List ℕ)) (us : List Use) → j ≡ j' → reached_fault g d k r j within us ≡ reached_fault h d k r j' within us
  reached_by k r j j' within us e =
      ap (λ f. or_else f (calls_fault d j within us)) (same_uses k r us)
      ∙ ap (λ i. or_else (uses_fault h d k r us) (calls_fault d i within us)) e

  same_judge : (n : ℕ) → judged_within n g d ≡ judged_within n h d
  same_judge zero = refl
  same_judge (suc n) = λ i within f. reached_by no_names_known in_run (judged_within n g d) (judged_within n h d) (f.name ∷ within) (function_uses d f) (same_judge n) i

  pub same_reached : (k : Known) (r : Reading) (us : List Use)
      → reached_fault g d k r (judged_within (length d.functions) g d) [] us ≡ reached_fault h d k r (judged_within (length d.functions) h d) [] us
  same_reached k r us = reached_by k r (judged_within (length d.functions) g d) (judged_within (length d.functions) h d) [] us (same_judge (length d.functions))

-- ---- the surroundings of one memory

flip : (xs ys : List ℕ) → bytes_eq xs ys ≡ bytes_eq ys xs
flip xs ys =
    same_from_decides (bytes_eq xs ys) (bytes_eq ys xs) (bytes_eq-Decides xs ys)
    (λ h. sym ((bytes_eq-Decides ys xs).0 h), λ e. (bytes_eq-Decides ys xs).1 (sym e))

keys_among : (n : List ℕ) (ks : List (String Global)) → is_among n (map string_bytes ks) ≡ has_text n ks
keys_among n [] = refl
keys_among n (k ∷ ks) = ap₂ ◌||◌ (flip (string_bytes k) n) (keys_among n ks)

module _ {N : Type 0} (titles_of : N → List (List ℕ)) (answer_of : N → ℕ → List Plain → Option Plain) (x : Surroundings N) (a : walk.Around) (h : IsAround titles_of answer_of x a) where
  texts : SameTexts (given_of titles_of answer_of x) a.given
  texts = record {
    titles = ap (λ p. p.titles) (sym h.everywhere.program);
    built = λ n. ap (is_among n) (sym h.everywhere.patterns);
    large = λ n. keys_among n x.known.top.patterns.now.large.keys ∙ h.script.program.patterns.large n;
  }

  same_definitions : definitions_in x.known ≡ a.definitions
  same_definitions = ap definitions_of (sym h.script.tops) ∙ sym h.definitions

  same_fault : (seen : List (List ℕ)) (e : Tree) → seen_fault (around_of titles_of answer_of x) seen e ≡ seen_fault a seen e
  same_fault seen e =
      let own : Names = record { captured = []; own = seen; body = [] } in
      ap (λ d. names_fault (given_of titles_of answer_of x) d (record { things = []; everywhere = map (λ b. b.0) (values_of x.everywhere) }) in_run e own) same_definitions
      ∙ ap (λ es. names_fault (given_of titles_of answer_of x) a.definitions (record { things = []; everywhere = map (λ b. b.0) es }) in_run e own) (sym h.everywhere.values)
      ∙ same_reached (given_of titles_of answer_of x) a.given texts a.definitions (record { things = []; everywhere = map (λ b. b.0) a.everywhere }) in_run (uses e own)

  same_env : env_with (around_of titles_of answer_of x) [] true ≡ env_with a [] true
  same_env = λ i. record {
    names = [];
    captured = sym h.everywhere.values i;
    functions = sym h.everywhere.functions i;
    patterns = sym h.everywhere.patterns i;
    titles = (ap (λ p. p.titles) (sym h.everywhere.program)) i;
    answer = (ap (λ p. p.answer) (sym h.everywhere.program)) i;
    in_process = true;
  }

  pub same_inside : (seen : List (List ℕ)) → inside_of titles_of answer_of x seen ≡ inside a seen
  same_inside seen = λ i. record { seen = seen; env = same_env i; fault = λ e. same_fault seen e i }
