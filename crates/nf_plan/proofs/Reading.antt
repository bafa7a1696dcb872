-- What follows from the ports of a node.
use Rattle.std.proofs.Common.{◌≡◌, ◌<◌, ◌≤◌, ℕ, zero, suc, Bool, true, false, cond, not, ◌&&◌, List, [], ◌∷◌, length, refl, ap, sym, ◌∙◌, arith, inl, inr}
use Rattle.std.specs.Prelude.{nat_lt, Option, Some, None}
use Rattle.std.specs.List.{position_or_len}
use Rattle.std.proofs.lemmas.Bool.{cases_Bool, true≢false}
use Rattle.std.proofs.lemmas.Bool.Decides.{nat_tests}
use Rattle.std.proofs.lemmas.List.Sums.{passes_at_first, fails_before_first}
use Rattle.nf_operator.specs.declared.kinds.OutputKind.{OutputKind}
use Rattle.nf_operator.specs.declared.kinds.OutputKind.TheVariants as output
use Rattle.nf_graph.specs.declared.port.Port.{Port}
use Rattle.nf_graph.specs.Node.{port_in, no_port}
use Rattle.nf_graph.specs.Meaning.{Bags}
use Rattle.nf_meaning.specs.Things as things
use Rattle.nf_meaning.specs.Things.{Channel}
use Rattle.nf_meaning.specs.Operators.{is_value_kind}
use Rattle.nf_meaning.specs.Nodes.{PortsStand}
use Rattle.nf_plan.specs.Calls.{are_values, gives_value, queue_in, HasOneQueue}

-- ---- the queue

abbrev reads_queue : Port → Bool
reads_queue p = not p.value

-- what the found place says of the ports
abbrev pub QueueAt : List Port → Option ℕ → Type 0
QueueAt ports None = (k : ℕ) → k < length ports → (port_in ports k).value ≡ true
QueueAt ports (Some q) =
    (q < length ports) × ((port_in ports q).value ≡ false)
    × ((k : ℕ) → k < length ports → (port_in ports k).value ≡ false → k ≡ q)

not_true : (b : Bool) → not b ≡ true → b ≡ false
not_true true h = absurd (true≢false (sym h))
not_true false h = refl

not_false : (b : Bool) → not b ≡ false → b ≡ true
not_false true h = refl
not_false false h = absurd (true≢false h)

pub queue_is : (ports : List Port) → HasOneQueue ports → QueueAt ports (queue_in ports)
queue_is ports one = by (position_or_len reads_queue ports) refl
  where
    by : (q : ℕ) → position_or_len reads_queue ports ≡ q → QueueAt ports (cond (nat_lt (position_or_len reads_queue ports) (length ports)) (Some (position_or_len reads_queue ports)) None)
    by q is = elim (cases_Bool (nat_lt (position_or_len reads_queue ports) (length ports))) [
      | inl t ↦ (let l : position_or_len reads_queue ports < length ports = grind (arith, nat_tests) in
          let found : (port_in ports (position_or_len reads_queue ports)).value ≡ false = not_true (port_in ports (position_or_len reads_queue ports)).value (passes_at_first reads_queue ports no_port l) in
          rw t (l, found, λ k lk f. one k (position_or_len reads_queue ports) lk l f found))
      | inr f ↦ (let past : length ports ≤ position_or_len reads_queue ports = grind (arith, nat_tests) in
          rw f (λ k lk. not_false (port_in ports k).value (fails_before_first reads_queue ports k no_port (omega (arith, lk, past)))))
    ]

-- ---- value channels

both : (a b : Bool) → (a && b) ≡ true → (a ≡ true) × (b ≡ true)
both true b h = (refl, h)
both false b h = absurd (true≢false (sym h))

pub each_value : (ps : List Port) → are_values ps ≡ true → (k : ℕ) → k < length ps → (port_in ps k).value ≡ true
each_value [] h k l = absurd (omega (arith, l))
each_value (p ∷ ps) h zero l = (both p.value (are_values ps) h).0
each_value (p ∷ ps) h (suc k) l = each_value ps (both p.value (are_values ps) h).1 k (omega (arith, l))

pub values_alike : (bags : Bags) (ps : List Port) (cs : List Channel) → PortsStand bags ps cs → are_values ps ≡ things.are_values cs
values_alike bags [] [] s = refl
values_alike bags (p ∷ ps) (c ∷ cs) s =
    ap (λ b. b && are_values ps) s.0.kind ∙ ap (λ b. c.is_value && b) (values_alike bags ps cs s.1)
values_alike bags [] (c ∷ cs) s = absurd s
values_alike bags (p ∷ ps) [] s = absurd s

pub kind_alike : (k : OutputKind) (bags : Bags) (ps : List Port) (cs : List Channel) → PortsStand bags ps cs → gives_value k ps ≡ is_value_kind k cs
kind_alike output.Value bags ps cs s = refl
kind_alike output.Queue bags ps cs s = refl
kind_alike output.AsInputs bags ps cs s = values_alike bags ps cs s
