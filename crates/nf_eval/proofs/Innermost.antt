-- Operators before a value, from the innermost.
use Rattle.std.proofs.Common.{◌≡◌, ◌∙◌, ℕ, ◌+◌, ◌<◌, List, [], ◌∷◌, ◌++◌, length, take, get_or, Ok, Err, refl, ap}
use Rattle.std.proofs.lemmas.List.{take_more}
use Rattle.nf_value.specs.Plain.{Plain}
use Rattle.nf_ast.specs.declared.expr.Prefix.{Prefix}
use Rattle.nf_placed.specs.Placed.{Placed, ◌>>=◌, made}
use Rattle.nf_placed.specs.Operators.{prefix_of}
use Rattle.nf_eval.specs.Chains.{prefixed}

prefixed_none : (r : Placed Plain) → r ≡ (r >>= prefixed [])
prefixed_none (Ok v) = refl
prefixed_none (Err e) = refl

prefixed_outside : (r : Placed Plain) (x : Prefix) (ms : List Prefix) → ((r >>= prefixed ms) >>= λ w. made x.place (prefix_of x.operator w)) ≡ (r >>= prefixed (x ∷ ms))
prefixed_outside (Ok v) x ms = refl
prefixed_outside (Err e) x ms = refl

-- the last operator comes first
innermost : (ms : List Prefix) (x : Prefix) (v : Plain) → prefixed (ms ++ x ∷ []) v ≡ (made x.place (prefix_of x.operator v) >>= prefixed ms)
innermost [] x v = prefixed_none (made x.place (prefix_of x.operator v))
innermost (y ∷ ms) x v = ap (λ (r : Placed Plain). r >>= λ w. made y.place (prefix_of y.operator w)) (innermost ms x v) ∙ prefixed_outside (made x.place (prefix_of x.operator v)) y ms

-- the first n operators, of which the last has the number i
pub from_innermost : (ms : List Prefix) (n i : ℕ) (d : Prefix) (v : Plain) → n ≡ i + 1 → i < length ms → prefixed (take n ms) v ≡ (made (get_or ms i d).place (prefix_of (get_or ms i d).operator v) >>= prefixed (take i ms))
from_innermost ms n i d v is h = ap (λ k. prefixed (take k ms) v) is ∙ ap (λ l. prefixed l v) (take_more ms i d h) ∙ innermost (take i ms) (get_or ms i d) v
