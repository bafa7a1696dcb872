-- A ticket and its copy.
use Rattle.std.proofs.Common.{◌≡◌, List, [], ◌∷◌, Bool, true, false, refl, ap, ◌∙◌, map}
use lib.Pointwise.{pointwise}
use Rattle.std.specs.Prelude.{◌&&◌}
use Rattle.std.specs.Ordering.{on, eq_by_cmp}
use Rattle.nf_value.specs.View.{plain_of}
use Rattle.nf_value.specs.Order.{value_cmp}
use Rattle.nf_value.specs.declared.value.Value.{Value}
use Rattle.nf_flight.specs.declared.ticket.Ticket.{Ticket}
use Rattle.nf_flight.specs.Ticket.{number_of, node_of, port_of, inputs_of, n_of, attempt_of}

-- tickets with the same parts are the same
pub same_ticket : (t u : Ticket) → number_of t ≡ number_of u → node_of t ≡ node_of u → port_of t ≡ port_of u → inputs_of t ≡ inputs_of u → n_of t ≡ n_of u → attempt_of t ≡ attempt_of u → t ≡ u
same_ticket t u a b c d e f =
    ap (λ x. record t { number = x }) a
    ∙ ap (λ x. record t { number = u.number; node = x }) b
    ∙ ap (λ x. record t { number = u.number; node = u.node; port = x }) c
    ∙ ap (λ x. record t { number = u.number; node = u.node; port = u.port; inputs = x }) d
    ∙ ap (λ x. record t { number = u.number; node = u.node; port = u.port; inputs = u.inputs; n = x }) e
    ∙ ap (λ x. record t { number = u.number; node = u.node; port = u.port; inputs = u.inputs; n = u.n; attempt = x }) f

-- values that are equal one by one are the same
pub same_values : ((a b : Value) → eq_by_cmp (on plain_of value_cmp) a b ≡ true → plain_of a ≡ plain_of b) → (xs ys : List Value) → pointwise (eq_by_cmp (on plain_of value_cmp)) xs ys ≡ true
    → map plain_of xs ≡ map plain_of ys
same_values law [] [] h = refl
same_values law [] (y ∷ ys) h = absurd (cc)
same_values law (x ∷ xs) [] h = absurd (cc)
same_values law (x ∷ xs) (y ∷ ys) h = by_head (same_values law xs ys) (eq_by_cmp (on plain_of value_cmp) x y) refl h where
  by_head : (pointwise (eq_by_cmp (on plain_of value_cmp)) xs ys ≡ true → map plain_of xs ≡ map plain_of ys) → (b : Bool) → eq_by_cmp (on plain_of value_cmp) x y ≡ b → (b && pointwise (eq_by_cmp (on plain_of value_cmp)) xs ys) ≡ true → map plain_of (x ∷ xs) ≡ map plain_of (y ∷ ys)
  by_head rest false e k = absurd (cc)
  by_head rest true e k = ap (λ p. p ∷ map plain_of xs) (law x y e) ∙ ap (λ ps. plain_of y ∷ ps) (rest k)
