-- A run that ended well has a meaning without faults.
use Rattle.std.proofs.Common.{◌≡◌, ℕ, zero, suc, ◌<◌, List, [], ◌∷◌, map, length, Bool, true, false, ◌&&◌, refl, ap, sym, ◌∙◌, subst, arith, inl, inr}
use Rattle.std.specs.Prelude.{Some, None, is_none, is_ok, Ok, Err}
use Rattle.std.specs.List.{AllByRecursion, flat_map}
use Rattle.std.proofs.lemmas.Bool.{cases_eq, true≢false}
use Rattle.nf_value.specs.Plain.{Plain}
use Rattle.nf_opstream.specs.Push.{Push}
use Rattle.nf_opstream.proofs.Tally.{same_flat_map}
use Rattle.nf_opstream.proofs.Members.{In, contains}
use Rattle.nf_graph.specs.Rules.{Rules, decided, fault_of, fault_by}
use Rattle.nf_graph.specs.Node.{Kind, source, operator, process, PlainNode, node_at, IsGraph}
use Rattle.nf_graph.specs.Meaning.{Outcomes, Bags, deliveries, pushes, instances}
use Rattle.nf_graph.specs.Faults.{task_fails, item_faults, task_faults, node_faults, faults_to}
use Rattle.nf_graph.specs.Singles.{HasSingles, IsMadeByNodes}
use Rattle.nf_machine.specs.State.{Ended, Spot, State, instance}
use Rattle.nf_machine.specs.Step.{Given}
use Rattle.nf_machine.specs.History.{closed_to, all_closed, IsPrefix, Agrees}
use Rattle.nf_opstream.proofs.Pushes.{none_of_same}
use Rattle.nf_machine.proofs.Bridge.{input_of_same}
use Rattle.nf_machine.proofs.Good.{OpMade, ProcessMade, Good}
use Rattle.nf_machine.proofs.Gives.{ended_prefix}
use Rattle.nf_machine.proofs.Confluence.{op_items, op_whole}
use Rattle.nf_machine.proofs.Theorem.{all_fit, proc_ended}

item_well : (R : Rules) (i : ℕ) (xs : List Push) → AllByRecursion (λ x. R.answer i x.item ≡ Ok x.answer) xs → flat_map (λ (d : ℕ × Plain). item_faults i d.1 (R.answer i d.1)) (map (λ (x : Push). (x.port, x.item)) xs) ≡ []
item_well R i [] h = refl
item_well R i (x ∷ xs) h = rw h.0 (item_well R i xs h.1)

task_well : (R : Rules) (o : Outcomes) (i : ℕ) (es : List Ended) → AllByRecursion (λ e. decided (R.job i e.take.inputs e.take.n) (R.outputs i e.take.inputs) 1 e.told ≡ Some e.outs) es → AllByRecursion (λ e. fault_of e.outs ≡ []) es
    → ((e : Ended) → In e es → IsPrefix e.told (o i e.take.inputs e.take.n)) → flat_map (task_faults R o i) (map (λ e. instance e.take) es) ≡ []
task_well R o i [] d q a = refl
task_well R o i (e ∷ es) d q a =
    let pre = a e (inl refl) in
    let is : decided (R.job i e.take.inputs e.take.n) (R.outputs i e.take.inputs) 1 (o i e.take.inputs e.take.n) ≡ Some e.outs = rw pre.is (ended_prefix (R.job i e.take.inputs e.take.n) (R.outputs i e.take.inputs) 1 e.told pre.rest e.outs d.0) in
    let none : task_faults R o i (instance e.take) ≡ [] = ap (λ z. map (task_fails i e.take.inputs e.take.n) (fault_by z)) is ∙ ap (map (task_fails i e.take.inputs e.take.n)) q.0 in
    rw (none, task_well R o i es d.1 q.1 (λ u w. a u (inr w))) refl

ends_ok : {P : Type 0} (r : Given) → is_ok r ≡ true → ((es : List (ℕ × Plain)) → r ≡ Ok es → P) → P
ends_ok (Ok es) h f = f es refl
ends_ok (Err x) h f = absurd cc

pub closed_at : (E : ℕ → Spot) (n i : ℕ) → closed_to E n ≡ true → i < n → (E i).closed ≡ true
closed_at E zero i h l = absurd (omega arith)
closed_at E (suc j) i h l =
    let b = both (E j).closed (closed_to E j) h in
    elim (cases_eq i j) [ inl e ↦ subst (λ m. (E m).closed ≡ true) (sym e) b.0 | inr n ↦ closed_at E j i b.1 (grind arith) ]
  where
    both : (a b : Bool) → (a && b) ≡ true → (a ≡ true) × (b ≡ true)
    both true b h = (refl, h)
    both false b h = absurd (true≢false (sym h))

module _ (g : List PlainNode) (R : Rules) (ok : IsGraph g) (o : Outcomes) (s : State) (good : Good g R s) (agree : Agrees o s) (B : Bags) (means : IsMadeByNodes g R o B) (lone : HasSingles g B) (run : s.stop ≡ None) where
  node_well : (i : ℕ) (kind : Kind) → (node_at g i).kind ≡ kind → (s.spots i).closed ≡ true → node_faults R o B i (node_at g i) kind ≡ []
  node_well i (source items) is shut = refl
  node_well i (operator op) is shut =
      let made : OpMade R i op (s.spots i) = (rw is at (good.spots i).made) in
      let before = λ (j : ℕ) (l : j < i). all_fit g R ok o s good agree B means lone j in
      let q = pushes R i (deliveries B (node_at g i)) in
      let clean : is_ok (op.ends (s.spots i).pushed) ≡ true = rw is at ((good.spots i).clean (ap is_none run) shut) in
      let a : op.faults q ≡ [] = ends_ok (op.ends (s.spots i).pushed) clean (λ es e. (ok.operators i op is).faultless (s.spots i).pushed q es made.fine e (input_of_same (op_whole g R ok s good B i before op is made shut))) in
      let f = λ (d : ℕ × Plain). item_faults i d.1 (R.answer i d.1) in
      let b : flat_map f (deliveries B (node_at g i)) ≡ [] = none_of_same (flat_map f (map (λ x. (x.port, x.item)) (s.spots i).pushed)) (flat_map f (deliveries B (node_at g i)))
      (same_flat_map f (op_items g R ok s good B i before op is made shut)) (item_well R i (s.spots i).pushed made.by_rule) in
      rw (a, b) refl
  node_well i (process q) is shut =
      let made : ProcessMade R i (s.spots i) = (rw is at (good.spots i).made) in
      let before = λ (j : ℕ) (l : j < i). all_fit g R ok o s good agree B means lone j in
      none_of_same (flat_map (task_faults R o i) (map (λ e. instance e.take) (s.spots i).ended)) (flat_map (task_faults R o i) (instances B (node_at g i) q))
      (same_flat_map (task_faults R o i) (proc_ended g R ok o s good agree B means lone i before q is made shut))
      (task_well R o i (s.spots i).ended made.decision ((good.spots i).quiet (ap is_none run)) (λ e h. agree.ended i e (contains e (s.spots i).ended h)))

  faults_none : (n : ℕ) → ((i : ℕ) → i < n → (s.spots i).closed ≡ true) → faults_to R o B g n ≡ []
  faults_none zero h = refl
  faults_none (suc i) h = rw (node_well i (node_at g i).kind refl (h i (omega arith)), faults_none i (λ j l. h j (omega arith))) refl

  pub no_faults : all_closed g s ≡ true → faults_to R o B g (length g) ≡ []
  no_faults h = faults_none (length g) (λ i l. closed_at s.spots (length g) i h l)
