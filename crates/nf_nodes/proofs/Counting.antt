-- How many nodes aren't closed.
use Rattle.std.proofs.Common.{◌≡◌, ℕ, zero, suc, ◌+◌, ◌<◌, ◌≤◌, List, length, get_or, take, Bool, true, false, refl, ap, sym, ◌∙◌, subst, arith, inl, inr}
use Rattle.std.specs.Prelude.{not, cond, count_by}
use Rattle.std.proofs.lemmas.Bool.{cases_Bool, true≢false}
use Rattle.std.proofs.lemmas.List.{take_all}
use Rattle.std.proofs.lemmas.List.Sums.{count_by_more_no, count_by_more_yes}
use Rattle.nf_graph.specs.declared.node.Node.{Node}
use Rattle.nf_machine.specs.State.{Spot, State}
use Rattle.nf_nodes.specs.Nodes.{Shows}
use Rattle.nf_nodes.specs.Steps.{open_in, open_to}
use Rattle.nf_nodes.specs.declared.nodes.Nodes.{Nodes}

closed_adds : (b : Bool) → b ≡ true → ◌≡◌ {A = ℕ} (cond b 0 1) 0
closed_adds true e = refl
closed_adds false e = absurd (true≢false (sym e))

open_adds : (b : Bool) → b ≡ false → ◌≡◌ {A = ℕ} (cond b 0 1) 1
open_adds true e = absurd (true≢false e)
open_adds false e = refl

open_below : (closed : List Bool) (spots : ℕ → Spot) (n : ℕ) → n ≤ length closed → ((i : ℕ) → i < n → get_or closed i false ≡ (spots i).closed) → count_by not (take n closed) ≡ open_to spots n
open_below closed spots zero l each = refl
open_below closed spots (suc n) l each =
    let e : n + 1 ≡ suc n = omega arith in
    let before = open_below closed spots n (omega arith) (λ i b. each i (omega arith)) in
    subst (λ m. count_by not (take m closed) ≡ open_to spots (suc n)) e (elim (cases_Bool (spots n).closed) [
      | inl t ↦ (let a = count_by_more_no not closed n false (omega arith) (ap not (each n (omega arith) ∙ t)) in let w = closed_adds (spots n).closed t in omega (arith, a, before, w))
      | inr f ↦ (let a = count_by_more_yes not closed n false (omega arith) (ap not (each n (omega arith) ∙ f)) in let w = open_adds (spots n).closed f in omega (arith, a, before, w))
    ])

pub open_there : (nodes : List Node) (s : State) (c : Nodes) → Shows nodes s c → count_by not c.closed.items ≡ open_in nodes s
open_there nodes s c h =
    ap (count_by not) (sym (take_all (length nodes) c.closed.items (let e = h.closed_count in omega arith)))
    ∙ open_below c.closed.items s.spots (length nodes) (let e = h.closed_count in omega arith) h.closed
