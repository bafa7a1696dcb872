-- A closure of labels is what its labels are, each as a closure of its own.
use Rattle.std.proofs.Common.{◌≡◌, ℕ, pos, ◌+◌, List, [], ◌∷◌, map, cond, Ok, Err, refl, ap, sym, ◌∙◌}
use Rattle.nf_value.specs.Plain.{Plain, int}
use Rattle.nf_value.specs.Truth.{truth_of}
use Rattle.nf_builtins.specs.Lists.{list_of}
use Rattle.nf_ast.specs.Tree.{Tree, empty, cons}
use Rattle.nf_ast.specs.View.{trees}
use Rattle.nf_eval.specs.Placed.{Placed, ◌>>=◌}
use Rattle.nf_eval.specs.Scope.{Env, inside}
use Rattle.nf_eval.specs.Body.{going, value_of_body, bound, with_all}
use Rattle.nf_eval.specs.Evaluation.{meaning_of, next, body_of, Closing, apply_of, branch_of, labels_of}
use Rattle.nf_tasks.specs.Meaning.{Formula}
use Rattle.nf_bodies.specs.Labels.{Label, label_tree, HasLabels, with_label, first_true, all_values}

-- a value, as the only statement of a body
one_value : (env : Env) (r : Placed Plain)
    → ((r >>= λ v. Ok (going env v)) >>= next (λ e last. Ok (going e last)) >>= λ f. Ok (value_of_body f)) ≡ r
one_value env (Ok v) = refl
one_value env (Err f) = refl

-- a body of one label is its expression
one_label : (l : Label) (env : Env) → body_of (cons (label_tree l) empty) env ≡ (meaning_of l.value).value env
one_label l env = one_value env ((meaning_of l.value).value env)

-- ---- once the parameters are bound

module _ (env : Env) (g : Label → Formula) (vs : List Plain) (h : (l : Label) → g l vs ≡ body_of (cons (label_tree l) empty) env) where
  value_is : (l : Label) → (meaning_of l.value).value env ≡ g l vs
  value_is l = sym (h l ∙ one_label l env)

  first_by : (ls : List Label) (k : ℕ) → (meaning_of (trees (map label_tree ls))).first_true env k ≡ first_true (map g ls) k vs
  first_by [] k = refl
  first_by (l ∷ ls) k =
      ap (λ (r : Placed Plain). r >>= λ v. cond (truth_of v) (Ok (int (pos k))) ((meaning_of (trees (map label_tree ls))).first_true env (k + 1))) (value_is l)
      ∙ ap (λ (r : Placed Plain). g l vs >>= λ v. cond (truth_of v) (Ok (int (pos k))) r) (first_by ls (k + 1))

  all_by : (ls : List Label) → (meaning_of (trees (map label_tree ls))).items env ≡ all_values (map g ls) vs
  all_by [] = refl
  all_by (l ∷ ls) =
      ap (λ (r : Placed Plain). r >>= λ v. (meaning_of (trees (map label_tree ls))).items env >>= λ ws. Ok (v ∷ ws)) (value_is l)
      ∙ ap (λ (r : Placed (List Plain)). g l vs >>= λ v. r >>= λ ws. Ok (v ∷ ws)) (all_by ls)

-- ---- with or without them

-- what is bound, and for each label what it then gives
branch_by : {X : Type 0} (b : Placed X) (env : X → Env) (g : Label → Formula) (vs : List Plain) (first : Label) (more : List Label)
    → ((l : Label) → g l vs ≡ (b >>= λ ns. body_of (cons (label_tree l) empty) (env ns)))
    → (b >>= λ ns. (meaning_of (trees (map label_tree (first ∷ more)))).first_true (env ns) 0) ≡ first_true (map g (first ∷ more)) 0 vs
branch_by (Ok ns) env g vs first more h = first_by (env ns) g vs h (first ∷ more) 0
branch_by (Err f) env g vs first more h =
    sym (ap (λ (r : Placed Plain). r >>= λ v. cond (truth_of v) (Ok (int (pos 0))) (first_true (map g more) 1 vs)) (h first))

labels_by : {X : Type 0} (b : Placed X) (env : X → Env) (g : Label → Formula) (vs : List Plain) (first : Label) (more : List Label)
    → ((l : Label) → g l vs ≡ (b >>= λ ns. body_of (cons (label_tree l) empty) (env ns)))
    → (b >>= λ ns. (meaning_of (trees (map label_tree (first ∷ more)))).items (env ns) >>= λ ws. Ok (list_of ws))
    ≡ (all_values (map g (first ∷ more)) vs >>= λ ws. Ok (list_of ws))
labels_by (Ok ns) env g vs first more h = ap (λ (r : Placed (List Plain)). r >>= λ ws. Ok (list_of ws)) (all_by (env ns) g vs h (first ∷ more))
labels_by (Err f) env g vs first more h =
    sym (ap (λ (r : Placed Plain). (r >>= λ w. all_values (map g more) vs >>= λ ws. Ok (w ∷ ws)) >>= λ ws. Ok (list_of ws)) (h first))

-- what a closure of labels gives, label by label
abbrev pub applied_to : Closing → Label → Formula
applied_to c l vs = apply_of (with_label c l) vs

pub branch_alike : (c : Closing) (first : Label) (more : List Label) (vs : List Plain) → HasLabels c first more
    → branch_of c vs ≡ first_true (map (applied_to c) (first ∷ more)) 0 vs
branch_alike c first more vs h =
    ap (λ (b : Tree). bound c.place c.params vs >>= λ ns. (meaning_of b).first_true (with_all ns (inside c.env)) 0) h.body
    ∙ branch_by (bound c.place c.params vs) (λ ns. with_all ns (inside c.env)) (applied_to c) vs first more (λ l. refl)

pub labels_alike : (c : Closing) (first : Label) (more : List Label) (vs : List Plain) → HasLabels c first more
    → labels_of c vs ≡ (all_values (map (applied_to c) (first ∷ more)) vs >>= λ ws. Ok (list_of ws))
labels_alike c first more vs h =
    ap (λ (b : Tree). bound c.place c.params vs >>= λ ns. (meaning_of b).items (with_all ns (inside c.env)) >>= λ ws. Ok (list_of ws)) h.body
    ∙ labels_by (bound c.place c.params vs) (λ ns. with_all ns (inside c.env)) (applied_to c) vs first more (λ l. refl)
