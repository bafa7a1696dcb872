-- The values of a list, one after the other.
use Rattle.std.proofs.Common.{◌≡◌, ◌∙◌, List, [], ◌∷◌, ◌++◌, Ok, Err, refl, sym, ap, append_assoc}
use Rattle.nf_value.specs.Plain.{Plain}
use Rattle.nf_placed.specs.Placed.{Placed, ◌>>=◌}

-- before all values there is none
pub none_gathered : (r : Placed (List Plain)) → (r >>= λ ws. Ok ([] ++ ws)) ≡ r
none_gathered (Ok ws) = refl
none_gathered (Err e) = refl

gathered_after : (r : Placed (List Plain)) (vs : List Plain) (v : Plain) → ((r >>= λ ws. Ok (v ∷ ws)) >>= λ ws. Ok (vs ++ ws)) ≡ (r >>= λ ws. Ok ((vs ++ v ∷ []) ++ ws))
gathered_after (Ok ws) vs v = ap (λ (l : List Plain). Ok l) (sym (append_assoc vs (v ∷ []) ws))
gathered_after (Err e) vs v = refl

-- a value that is this one, after those that were gathered before it
pub gathers_one : (first : Placed Plain) (more : Placed (List Plain)) (vs : List Plain) (v : Plain) (all : Placed (List Plain)) → first ≡ Ok v → ((first >>= λ w. more >>= λ ws. Ok (w ∷ ws)) >>= λ ws. Ok (vs ++ ws)) ≡ all → (more >>= λ ws. Ok ((vs ++ v ∷ []) ++ ws)) ≡ all
gathers_one first more vs v all h is = sym (ap (λ (r : Placed Plain). (r >>= λ w. more >>= λ ws. Ok (w ∷ ws)) >>= λ ws. Ok (vs ++ ws)) h ∙ gathered_after more vs v) ∙ is
