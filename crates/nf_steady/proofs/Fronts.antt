-- What a task in flight was told begins what it is given in a world.
use Rattle.std.proofs.Common.{◌≡◌, ℕ, zero, suc, ◌+◌, List, [], ◌∷◌, ◌++◌, length, false, refl, ap, sym, ◌∙◌, arith, append_assoc, length-append}
use Rattle.std.specs.Prelude.{Result, Ok}
use Rattle.nf_job.specs.declared.emitted.Outputs.TheVariants.{Again}
use Rattle.nf_job.specs.declared.fault.TaskFault.{TaskFault}
use Rattle.nf_job.specs.declared.parts.JobParts.{JobParts}
use Rattle.nf_job.specs.declared.report.Report.{Report}
use Rattle.nf_job.specs.JobText.{job_text}
use Rattle.nf_graph.specs.Rules.{IsRules, Outs, Rules, last_attempt}
use Rattle.nf_lane.specs.World.{World, report_of}
use Rattle.nf_machine.specs.History.{IsPrefix}
use Rattle.nf_machine.specs.State.{Take, Ticket, attempt_of}
use Rattle.nf_steady.specs.Given.{and_later, given_in, if_again, reports_from}

-- the first report of so many attempts, and what follows it
first_of : (w : World) (job : ℕ → Result JobParts TaskFault) (outputs : ℕ → Report → Outs) (more attempt : ℕ)
    (p : JobParts) (r : Report) → job attempt ≡ Ok p → r ≡ report_of w (job_text p)
    → reports_from w job outputs (suc more) attempt ≡ r ∷ if_again (outputs attempt r) (reports_from w job outputs more (suc attempt))
unfolding reports_from
first_of w job outputs more attempt p r has is =
    let later : List Report = reports_from w job outputs more (suc attempt) in
    ap (λ j. and_later w (outputs attempt) j later) has
    ∙ ap (λ (x : Report). x ∷ if_again (outputs attempt x) later) (sym is)

module _ (w : World) (R : Rules) where
  -- what the task of a take at node i is given
  abbrev pub given_at : ℕ → Take → List Report
  given_at i t = given_in w R i t.inputs t.n

  abbrev pub from_on : ℕ → Take → ℕ → ℕ → List Report
  from_on i t more attempt = reports_from w (R.job i t.inputs t.n) (R.outputs i t.inputs) more attempt

  -- a ticket's reports come first, and then those of its attempt and of all that may follow
  pub record Front (k : Ticket) : Type 0 where
    pub more : ℕ
    pub left : suc more + length k.told ≡ last_attempt
    pub is : given_at k.node k.take ≡ k.told ++ from_on k.node k.take (suc more) (attempt_of k)

  -- the report is that of the ticket's attempt
  pub record IsGiven (k : Ticket) (r : Report) : Type 0 where
    pub job : JobParts
    pub has : R.job k.node k.take.inputs k.take.n (attempt_of k) ≡ Ok job
    pub is : r ≡ report_of w (job_text job)

  pub nothing_told : (k : Ticket) → k.told ≡ [] → Front k
  nothing_told k none = record {
    more = 100;
    left = ap (λ (rs : List Report). 101 + length rs) none;
    is = ap (λ (rs : List Report). rs ++ from_on k.node k.take 101 (suc (length rs))) (sym none);
  }

  -- the ticket's reports with that of its attempt
  one_more : (k : Ticket) (r : Report) (given : IsGiven k r) (front : Front k) (outs : Outs)
      → outs ≡ R.outputs k.node k.take.inputs (attempt_of k) r
      → given_at k.node k.take ≡ (k.told ++ r ∷ []) ++ if_again outs (from_on k.node k.take front.more (suc (attempt_of k)))
  one_more k r given front outs rule =
      let i : ℕ = k.node in
      let t : Take = k.take in
      let later : List Report = from_on i t front.more (suc (attempt_of k)) in
      front.is
      ∙ ap (λ rs. k.told ++ rs)
      (first_of w (R.job i t.inputs t.n) (R.outputs i t.inputs) front.more (attempt_of k) given.job r given.has given.is)
      ∙ ap (λ x. k.told ++ r ∷ if_again x later) (sym rule)
      ∙ sym (append_assoc k.told (r ∷ []) (if_again outs later))

  -- the task came back
  pub came_back : (k : Ticket) (r : Report) → IsGiven k r → Front k → IsPrefix (k.told ++ r ∷ [])
      (given_at k.node k.take)
  came_back k r given front = record {
    rest =
        if_again (R.outputs k.node k.take.inputs (attempt_of k) r)
        (from_on k.node k.take front.more (suc (attempt_of k)));
    is = one_more k r given front (R.outputs k.node k.take.inputs (attempt_of k) r) refl;
  }

  -- the ticket after an attempt that is tried again
  abbrev pub back_with : Ticket → Report → Ticket
  back_with k r = record k { told = k.told ++ r ∷ []; started = false }

  tried_on : (k : Ticket) (r : Report) (m : ℕ) → suc (suc m) + length k.told ≡ last_attempt
      → given_at k.node k.take ≡ (k.told ++ r ∷ []) ++ from_on k.node k.take (suc m) (suc (attempt_of k))
      → Front (back_with k r)
  tried_on k r m left is =
      let long : length (k.told ++ r ∷ []) ≡ suc (length k.told) =
      (let l = length-append k.told (r ∷ []) in omega (arith, l)) in
      record {
        more = m;
        left = omega (arith, long, left);
        is = is ∙ ap (λ a. (k.told ++ r ∷ []) ++ from_on k.node k.take (suc m) (suc a)) (sym long);
      }

  -- the task is tried again, so the attempt wasn't the last
  pub tried_again : IsRules R → (k : Ticket) (r : Report) → IsGiven k r
      → Ok Again ≡ R.outputs k.node k.take.inputs (attempt_of k) r → Front k → Front (back_with k r)
  tried_again rules k r given rule front = by front.more front.left (one_more k r given front (Ok Again) rule)
    where
      by : (more : ℕ) → suc more + length k.told ≡ last_attempt
          → given_at k.node k.take ≡ (k.told ++ r ∷ []) ++ from_on k.node k.take more (suc (attempt_of k))
          → Front (back_with k r)
      by zero left is = absurd (
          let last : attempt_of k ≡ last_attempt = omega (arith, left) in
          rules.last k.node k.take.inputs r (ap (λ a. R.outputs k.node k.take.inputs a r) (sym last) ∙ sym rule))
      by (suc m) left is = tried_on k r m left is
