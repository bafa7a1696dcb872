-- Bodies answer as calls of operators do.
use Rattle.std.proofs.Common.{◌≡◌, ℕ, pos, ◌+◌, List, [], ◌∷◌, map, cond, Option, None, Some, Ok, refl, ap, sym, ◌∙◌}
use Rattle.std.specs.Global.{Vec}
use Rattle.nf_value.specs.Plain.{Plain, int}
use Rattle.nf_value.specs.View.{plain_of}
use Rattle.nf_value.specs.Truth.{truth_of}
use Rattle.nf_value.specs.declared.value.Value.{Value}
use Rattle.nf_bag.specs.declared.rows.Row.{Row}
use Rattle.nf_bag.specs.declared.rows.Row.TheVariants as row
use Rattle.nf_builtins.specs.Lists.{list_of}
use Rattle.nf_eval.specs.Placed.{Placed, ◌>>=◌}
use Rattle.nf_eval.specs.Evaluation.{Closing, apply_of}
use Rattle.nf_eval.specs.declared.closures.Closure.{Closure}
use Rattle.nf_tasks.specs.Memory.{Program, formula_of, process_of}
use Rattle.nf_tasks.specs.Meaning.{ProcessMeaning}
use Rattle.nf_tasks.specs.Prepared.{parts_of}
use Rattle.nf_tasks.specs.Outcome.{outputs_of, targets_of}
use Rattle.nf_tasks.specs.declared.process.ProcessSpec.{ProcessSpec}
use Rattle.nf_meaning.specs.Taken.{Taken}
use Rattle.nf_meaning.specs.Operators.{answer_by, without_closure, closure_answer}
use Rattle.nf_meaning.specs.Tasks.{CalledProcess}
use Rattle.nf_bodies.specs.declared.body.NodeBody.TheVariants as body
use Rattle.nf_bodies.specs.Labels.{Label, HasLabels, with_label, first_true, all_values}
use Rattle.nf_bodies.specs.Means.{AnswersAs, GivesAs, GiveLabels, HasNothing, HasTasksOf, IsApplied}
use Rattle.nf_bodies.proofs.Labelled.{applied_to, branch_alike, labels_alike}

-- ---- without a closure

pub item_answers : (n : Program) (r : Row) (t : Taken) → HasNothing t → AnswersAs n body.Item r t
item_answers n r t h = record {
  each = λ x. sym (
      ap (λ (o : Option Closing). answer_by r o t x) h.closing
      ∙ ap (λ (o : Option (List ℕ)). without_closure o t.literal x) h.pattern
      ∙ ap (λ (o : Option Plain). without_closure None o x) h.literal);
}

pub literal_answers : (n : Program) (r : Row) (t : Taken) (v : Value) → t.closing ≡ None → t.pattern ≡ None
    → t.literal ≡ Some (plain_of v) → AnswersAs n (body.Literal v) r t
literal_answers n r t v h p l = record {
  each = λ x. sym (
      ap (λ (o : Option Closing). answer_by r o t x) h
      ∙ ap (λ (o : Option (List ℕ)). without_closure o t.literal x) p
      ∙ ap (λ (o : Option Plain). without_closure None o x) l);
}

pub pattern_answers : (n : Program) (r : Row) (t : Taken) (re : List ℕ) → t.closing ≡ None → t.pattern ≡ Some re
    → AnswersAs n (body.Pattern re) r t
pattern_answers n r t re h p = record {
  each = λ x. sym (
      ap (λ (o : Option Closing). answer_by r o t x) h
      ∙ ap (λ (o : Option (List ℕ)). without_closure o t.literal x) p);
}

-- ---- with a closure

as_a_whole : (r : Row) (c : Closing) (x : Plain) → IsApplied r → closure_answer r c x ≡ apply_of c (x ∷ [])
as_a_whole row.Branch c x h = absurd h
as_a_whole row.MultiMap c x h = absurd h
as_a_whole _ c x h = refl

pub applied_answers : (n : Program) (r : Row) (t : Taken) (stored : Closure) (c : Closing) → IsApplied r
    → t.closing ≡ Some c → GivesAs n stored c → AnswersAs n (body.Applied stored) r t
applied_answers n r t stored c a h g = record {
  each = λ x. g (x ∷ []) ∙ sym (ap (λ (o : Option Closing). answer_by r o t x) h ∙ as_a_whole r c x a);
}

-- ---- with labels

first_alike : (n : Program) (stored : List Closure) (c : Closing) (ls : List Label) (k : ℕ) (vs : List Plain) → GiveLabels n stored c ls
    → first_true (map (formula_of n) stored) k vs ≡ first_true (map (applied_to c) ls) k vs
first_alike n [] c [] k vs g = refl
first_alike n (s ∷ stored) c (l ∷ ls) k vs g =
    ap (λ (r : Placed Plain). r >>= λ v. cond (truth_of v) (Ok (int (pos k))) (first_true (map (formula_of n) stored) (k + 1) vs)) (g.0 vs)
    ∙ ap (λ (r : Placed Plain). apply_of (with_label c l) vs >>= λ v. cond (truth_of v) (Ok (int (pos k))) r) (first_alike n stored c ls (k + 1) vs g.1)
first_alike n [] c (l ∷ ls) k vs g = absurd g
first_alike n (s ∷ stored) c [] k vs g = absurd g

all_alike : (n : Program) (stored : List Closure) (c : Closing) (ls : List Label) (vs : List Plain) → GiveLabels n stored c ls
    → all_values (map (formula_of n) stored) vs ≡ all_values (map (applied_to c) ls) vs
all_alike n [] c [] vs g = refl
all_alike n (s ∷ stored) c (l ∷ ls) vs g =
    ap (λ (r : Placed Plain). r >>= λ w. all_values (map (formula_of n) stored) vs >>= λ ws. Ok (w ∷ ws)) (g.0 vs)
    ∙ ap (λ (r : Placed (List Plain)). apply_of (with_label c l) vs >>= λ w. r >>= λ ws. Ok (w ∷ ws)) (all_alike n stored c ls vs g.1)
all_alike n [] c (l ∷ ls) vs g = absurd g
all_alike n (s ∷ stored) c [] vs g = absurd g

pub branch_answers : (n : Program) (t : Taken) (stored : Vec Closure) (c : Closing) (first : Label) (more : List Label) → t.closing ≡ Some c
    → HasLabels c first more → GiveLabels n stored.items c (first ∷ more) → AnswersAs n (body.Branch stored) row.Branch t
branch_answers n t stored c first more h labels g = record {
  each = λ x.
      first_alike n stored.items c (first ∷ more) 0 (x ∷ []) g
      ∙ sym (ap (λ (o : Option Closing). answer_by row.Branch o t x) h ∙ branch_alike c first more (x ∷ []) labels);
}

pub multi_map_answers : (n : Program) (t : Taken) (stored : Vec Closure) (c : Closing) (first : Label) (more : List Label) → t.closing ≡ Some c
    → HasLabels c first more → GiveLabels n stored.items c (first ∷ more) → AnswersAs n (body.MultiMap stored) row.MultiMap t
multi_map_answers n t stored c first more h labels g = record {
  each = λ x.
      ap (λ (r : Placed (List Plain)). r >>= λ ws. Ok (list_of ws)) (all_alike n stored.items c (first ∷ more) (x ∷ []) g)
      ∙ sym (ap (λ (o : Option Closing). answer_by row.MultiMap o t x) h ∙ labels_alike c first more (x ∷ []) labels);
}

-- ---- processes

pub tasks_alike : (n : Program) (s : ProcessSpec) (c : CalledProcess) → process_of n s ≡ c.process → HasTasksOf n (body.Process s) c
tasks_alike n s c h = record {
  jobs = λ inputs number attempt. ap (λ (p : ProcessMeaning). parts_of p inputs number attempt) h;
  amounts = λ inputs attempt r. ap (λ (p : ProcessMeaning). outputs_of p inputs attempt r) h;
  publishes = λ inputs attempt r. ap (λ (p : ProcessMeaning). targets_of p inputs attempt r) h;
}
