-- The outputs of a call, in memory and in the meaning.
use Rattle.std.proofs.Common.{◌≡◌, ◌<◌, ◌≤◌, ◌+◌, ℕ, suc, Bool, List, [], ◌∷◌, ◌++◌, add-one, drop, get_or, map, length, Option, refl, sym, ap, ◌∙◌, subst, arith}
use Rattle.std.proofs.lemmas.List.{append_assoc, length-map, map-append}
use Rattle.std.proofs.Math.Seq.{drop-cons}
use Rattle.nf_bag.specs.declared.options.OpOpts.{OpOpts}
use Rattle.nf_bag.specs.declared.rows.Row.{Row}
use Rattle.nf_bag.specs.declared.rows.Row.TheVariants as row
use Rattle.nf_graph.specs.declared.port.Port.{Port}
use Rattle.nf_graph.specs.Meaning.{Bags}
use Rattle.nf_operator.specs.Row.{outs_of}
use Rattle.nf_meaning.specs.Operators as operators
use Rattle.nf_meaning.specs.Operators.{Call, labelled, result_of}
use Rattle.nf_meaning.specs.Stands.{PortOutput, read, StandsFor, OutputsStand, ThingStands}
use Rattle.nf_meaning.specs.Tasks as tasks
use Rattle.nf_meaning.specs.Tasks.{TaskCall}
use Rattle.nf_scopes.specs.declared.things.CallOutput.{CallOutput}
use Rattle.nf_scopes.specs.Things.{output_of}
use Rattle.nf_plan.specs.declared.builder.PlanBuilder.{PlanBuilder}
use Rattle.nf_plan.specs.Calls.{PortsRead, next_port}
use Rattle.nf_follows.specs.Things.{OutputsRead, ThingReads}
use Rattle.nf_lowering.specs.Nodes.{named_at, outputs_from, as_name, operator_gives, HasLabels}

-- ---- they read the plan

pub outputs_read : (old new : PlanBuilder) (value : Bool) (outs : ℕ) → PortsRead old new value outs → (k : ℕ) (ls : List (Option (List ℕ))) → k + length ls ≤ outs
    → OutputsRead new (outputs_from (next_port old value 0) k ls)
outputs_read old new value outs reads k [] l = tt
outputs_read old new value outs reads k (n ∷ ls) l = (reads k (omega (arith, l)), outputs_read old new value outs reads (suc k) ls (omega (arith, l)))

pub gives_read : (old new : PlanBuilder) (value : Bool) (r : Row) (o : OpOpts) (ns : List (List ℕ)) → PortsRead old new value (outs_of r o) → HasLabels r o ns
    → ThingReads new (operator_gives r (next_port old value 0) ns)
gives_read old new value row.Branch o ns reads has = outputs_read old new value o.outs reads 0 (map as_name ns) (omega (arith, has, length-map ns as_name))
gives_read old new value row.MultiMap o ns reads has = outputs_read old new value o.outs reads 0 (map as_name ns) (omega (arith, has, length-map ns as_name))
gives_read old new value _ o ns reads has = reads 0 (omega arith)

-- ---- they stand for those of the call

module _ (bags : Bags) (old : PlanBuilder) (value : Bool) where
  labels_stand : (c : Call) → ((out : ℕ) → StandsFor bags (next_port old value out) (operators.given_at c out)) → (k : ℕ) (ns : List (List ℕ))
      → OutputsStand bags (outputs_from (next_port old value 0) k (map as_name ns)) (labelled c k ns)
  labels_stand c each k [] = tt
  labels_stand c each k (n ∷ ns) = (record { label = refl; channel = each k }, labels_stand c each (suc k) ns)

  labels_as : (c : Call) → ((out : ℕ) → StandsFor bags (next_port old value out) (operators.given_at c out)) → (ns : List (List ℕ)) → ns ≡ c.taken.labels
      → OutputsStand bags (outputs_from (next_port old value 0) 0 (map as_name ns)) (labelled c 0 c.taken.labels)
  labels_as c each ns same = subst (λ ms. OutputsStand bags (outputs_from (next_port old value 0) 0 (map as_name ns)) (labelled c 0 ms)) same (labels_stand c each 0 ns)

  pub gives_stand : (c : Call) → ((out : ℕ) → StandsFor bags (next_port old value out) (operators.given_at c out)) → (r : Row) (ns : List (List ℕ)) → ns ≡ c.taken.labels
      → ThingStands bags (operator_gives r (next_port old value 0) ns) (result_of r c)
  gives_stand c each row.Branch ns same = labels_as c each ns same
  gives_stand c each row.MultiMap ns same = labels_as c each ns same
  gives_stand c each _ ns same = each 0

  pub tasks_stand : (c : TaskCall) → ((out : ℕ) → StandsFor bags (next_port old value out) (tasks.given_at c out)) → (k : ℕ) (ls : List (Option (List ℕ)))
      → OutputsStand bags (outputs_from (next_port old value 0) k ls) (tasks.outputs_from c k ls)
  tasks_stand c each k [] = tt
  tasks_stand c each k (l ∷ ls) = (record { label = refl; channel = each k }, tasks_stand c each (suc k) ls)

-- ---- an output more

pub one_more : (p : Port) (ls : List (Option (List ℕ))) (i : ℕ) (l : Option (List ℕ)) (os new : List CallOutput) (o : CallOutput) → i < length ls → l ≡ get_or ls i l → new ≡ os ++ o ∷ []
    → output_of o ≡ named_at p i l → map output_of os ++ outputs_from p i (drop i ls) ≡ outputs_from p 0 ls → map output_of new ++ outputs_from p (i + 1) (drop (i + 1) ls) ≡ outputs_from p 0 ls
one_more p ls i l os new o lt at added is inv =
    let front : drop i ls ≡ l ∷ drop (i + 1) ls = rw (add-one, drop-cons ls i l, ← at) refl in
    let rest = outputs_from p (i + 1) (drop (i + 1) ls) in
    let next : outputs_from p (suc i) (drop (i + 1) ls) ≡ rest = ap (λ k. outputs_from p k (drop (i + 1) ls)) (sym (add-one i)) in
    ap (λ xs. map output_of xs ++ rest) added ∙ ap (λ ys. ys ++ rest) (map-append output_of os (o ∷ [])) ∙ append_assoc (map output_of os) (output_of o ∷ []) rest
    ∙ ap (λ q. map output_of os ++ q ∷ rest) is ∙ ap (λ ys. map output_of os ++ named_at p i l ∷ ys) (sym next) ∙ ap (λ ys. map output_of os ++ outputs_from p i ys) (sym front) ∙ inv

-- ---- copies

abbrev pub named_port : Port → Option (List ℕ) → PortOutput
named_port p l = record { label = l; port = p }

pub same_output : (x : CallOutput) (l : Option (List ℕ)) → l ≡ x.label → named_port x.port l ≡ output_of x
same_output x l e = ap (named_port x.port) e

-- an operator without labels
pub gives_one : (r : Row) (p : Port) (ns : List (List ℕ)) → (r ≡ row.Branch → ⊥) → (r ≡ row.MultiMap → ⊥) → read p ≡ operator_gives r p ns
gives_one row.Branch p ns a b = absurd (a refl)
gives_one row.MultiMap p ns a b = absurd (b refl)
gives_one _ p ns a b = refl
