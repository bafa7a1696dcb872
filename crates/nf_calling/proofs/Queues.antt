-- How many queues are among the ports of a process.
use Rattle.std.proofs.Common.{◌≡◌, ◌<◌, ◌≤◌, ◌+◌, ℕ, zero, suc, Bool, true, false, cond, not, ◌&&◌, List, [], ◌∷◌, length, refl, sym, ap, ◌∙◌, subst, arith}
use Rattle.std.specs.Prelude.{nat_le, nat_lt, Option, Result, Ok, Err}
use Rattle.std.proofs.lemmas.Bool.{le-leb}
use Rattle.std.proofs.lemmas.Bool.Decides.{nat_tests}
use Rattle.std.proofs.lemmas.List.Sums.{sum_by-cons}
use Rattle.nf_value.specs.declared.place.Place.{Place}
use Rattle.nf_graph.specs.declared.port.Port.{Port}
use Rattle.nf_graph.specs.Node.{port_in}
use Rattle.nf_graph.specs.Meaning.{Bags}
use Rattle.nf_meaning.specs.declared.fault.LowerFault.{LowerFault}
use Rattle.nf_meaning.specs.declared.fault.LowerFault.TheVariants.{BadOption, TooManyNodes}
use Rattle.nf_meaning.specs.Calls.{call_fault, has_two_queues}
use Rattle.nf_meaning.specs.Lowered.{fault_if}
use Rattle.nf_meaning.specs.Nodes.{PortsStand}
use Rattle.nf_meaning.specs.Tasks.{CalledProcess}
use Rattle.nf_meaning.specs.Things.{Channel, are_values}
use Rattle.nf_plan.specs.Calls.{HasOneQueue}
use Rattle.nf_takes.specs.Takes.{FaultIs}
use Rattle.nf_calling.specs.Calls.{queues_in}
use Rattle.nf_calling.proofs.Checking.{first_fault, is_fault, no_fault, then_fault}

-- one port more
more : (p : Port) (ps : List Port) (b : Bool) → p.value ≡ b → queues_in (p ∷ ps) ≡ cond (not b) 1 0 + queues_in ps
more p ps b is = sum_by-cons (λ (q : Port). cond (not q.value) 1 0) p ps ∙ ap (λ v. cond (not v) 1 0 + queues_in ps) is

-- ---- as the meaning counts them

-- no queue, or some
abbrev Counts : ℕ → Bool → Type 0
Counts k true = k ≡ 0
Counts k false = 1 ≤ k

counts_more : (p : Port) (ps : List Port) (b r : Bool) → p.value ≡ b → Counts (queues_in ps) r → Counts (queues_in (p ∷ ps)) (b && r)
counts_more p ps true true is h = more p ps true is ∙ (let k : queues_in ps ≡ 0 = h in omega arith)
counts_more p ps true false is h = let e = more p ps true is in let k : 1 ≤ queues_in ps = h in omega (arith, e)
counts_more p ps false r is h = let e = more p ps false is in omega (arith, e)

counts : (bags : Bags) (ps : List Port) (cs : List Channel) → PortsStand bags ps cs → Counts (queues_in ps) (are_values cs)
counts bags [] [] s = refl
counts bags (p ∷ ps) (c ∷ cs) s = counts_more p ps c.is_value (are_values cs) s.0.kind (counts bags ps cs s.1)
counts bags [] (c ∷ cs) s = absurd s
counts bags (p ∷ ps) [] s = absurd s

two_of : (k : ℕ) (r : Bool) → Counts k r → nat_lt 1 (1 + k) ≡ not r
two_of k true h = let e : k ≡ 0 = h in grind (arith, nat_tests)
two_of k false h = let l : 1 ≤ k = h in grind (arith, nat_tests)

two_more : (p : Port) (ps : List Port) (b r two : Bool) → p.value ≡ b → Counts (queues_in ps) r → nat_lt 1 (queues_in ps) ≡ two
    → nat_lt 1 (queues_in (p ∷ ps)) ≡ cond b two (not r)
two_more p ps true r two is h k = ap (nat_lt 1) (more p ps true is ∙ omega arith) ∙ k
two_more p ps false r two is h k = ap (nat_lt 1) (more p ps false is) ∙ two_of (queues_in ps) r h

pub two_queues : (bags : Bags) (ps : List Port) (cs : List Channel) → PortsStand bags ps cs → nat_lt 1 (queues_in ps) ≡ has_two_queues cs
two_queues bags [] [] s = refl
two_queues bags (p ∷ ps) (c ∷ cs) s =
    two_more p ps c.is_value (are_values cs) (has_two_queues cs) s.0.kind (counts bags ps cs s.1) (two_queues bags ps cs s.1)
two_queues bags [] (c ∷ cs) s = absurd s
two_queues bags (p ∷ ps) [] s = absurd s

-- ---- at most one

is_counted : (ps : List Port) (j : ℕ) → j < length ps → (port_in ps j).value ≡ false → 1 ≤ queues_in ps
is_counted [] j l v = absurd (omega (arith, l))
is_counted (p ∷ ps) zero l v = let e = more p ps false v in omega (arith, e)
is_counted (p ∷ ps) (suc j) l v =
    let e = more p ps p.value refl in let k = is_counted ps j (omega (arith, l)) v in omega (arith, e, k)

tail_few : (p : Port) (ps : List Port) → queues_in (p ∷ ps) ≤ 1 → queues_in ps ≤ 1
tail_few p ps h = let e = more p ps p.value refl in omega (arith, e, h)

pub one_queue : (ps : List Port) → queues_in ps ≤ 1 → HasOneQueue ps
one_queue [] h i j li lj vi vj = absurd (omega (arith, li))
one_queue (p ∷ ps) h zero zero li lj vi vj = refl
one_queue (p ∷ ps) h zero (suc j) li lj vi vj =
    absurd (let e = more p ps false vi in let k = is_counted ps j (omega (arith, lj)) vj in omega (arith, e, h, k))
one_queue (p ∷ ps) h (suc i) zero li lj vi vj =
    absurd (let e = more p ps false vj in let k = is_counted ps i (omega (arith, li)) vi in omega (arith, e, h, k))
one_queue (p ∷ ps) h (suc i) (suc j) li lj vi vj =
    ap (λ k. suc k) (one_queue ps (tail_few p ps h) i j (omega (arith, li)) (omega (arith, lj)) vi vj)

-- ---- what no accepted call has

module _ (p : Place) (ports : List Port) (os : List (Option (List ℕ))) where
  -- of whatever channels and process these stand for
  abbrev pub ChecksCall : Result (Unit {0}) LowerFault → Type 0
  ChecksCall r = (bags : Bags) (cs : List Channel) (c : CalledProcess) → PortsStand bags ports cs → os ≡ c.labels → FaultIs (call_fault p c cs) r

  pub two_refused : (b : Bool) → b ≡ nat_lt 1 (queues_in ports) → b ≡ true → ChecksCall (Err (BadOption p))
  two_refused b is so bags cs c stand labels =
      let two : has_two_queues cs ≡ true = sym (two_queues bags ports cs stand) ∙ sym is ∙ so in
      first_fault (fault_if (has_two_queues cs) (BadOption p)) (fault_if (nat_le 4294967296 (length c.labels)) (TooManyNodes p)) (BadOption p) (is_fault (has_two_queues cs) (BadOption p) two)

  module _ (b : Bool) (is : b ≡ nat_lt 1 (queues_in ports)) (no : b ≡ false) where
    not_two : (bags : Bags) (cs : List Channel) → PortsStand bags ports cs → FaultIs (fault_if (has_two_queues cs) (BadOption p)) (Ok tt)
    not_two bags cs stand = no_fault (has_two_queues cs) (BadOption p) (sym (two_queues bags ports cs stand) ∙ sym is ∙ no)

    pub wide_refused : (k : ℕ) → k ≡ length os → 4294967296 ≤ k → ChecksCall (Err (TooManyNodes p))
    wide_refused k count wide bags cs c stand labels =
        let many : nat_le 4294967296 (length c.labels) ≡ true = subst (λ (ls : List (Option (List ℕ))). nat_le 4294967296 (length ls) ≡ true) labels (subst (λ (j : ℕ). nat_le 4294967296 j ≡ true) count (le-leb 4294967296 k wide)) in
        then_fault (fault_if (has_two_queues cs) (BadOption p)) (fault_if (nat_le 4294967296 (length c.labels)) (TooManyNodes p)) tt (Err (TooManyNodes p)) (not_two bags cs stand)
        (is_fault (nat_le 4294967296 (length c.labels)) (TooManyNodes p) many)

    pub passes_tasks : (k : ℕ) → k ≡ length os → k < 4294967296 → ChecksCall (Ok tt)
    passes_tasks k count few bags cs c stand labels =
        let many : nat_le 4294967296 (length c.labels) ≡ false = subst (λ (ls : List (Option (List ℕ))). nat_le 4294967296 (length ls) ≡ false) labels (subst (λ (j : ℕ). nat_le 4294967296 j ≡ false) count (over k few)) in
        then_fault (fault_if (has_two_queues cs) (BadOption p)) (fault_if (nat_le 4294967296 (length c.labels)) (TooManyNodes p)) tt (Ok tt) (not_two bags cs stand)
        (no_fault (nat_le 4294967296 (length c.labels)) (TooManyNodes p) many)
      where
        over : (j : ℕ) → j < 4294967296 → nat_le 4294967296 j ≡ false
        over j l = grind (arith, nat_tests)

    pub few_queues : HasOneQueue ports
    few_queues = one_queue ports (by (queues_in ports) (sym is ∙ no))
      where
        by : (k : ℕ) → nat_lt 1 k ≡ false → k ≤ 1
        by k h = grind (arith, nat_tests)
