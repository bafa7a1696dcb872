-- What is wrong with uses, one after another.
use Rattle.std.proofs.Common.{◌≡◌, ◌∙◌, ◌<◌, ◌+◌, ℕ, suc, List, ◌∷◌, drop, length, get_or, drop-cons, add-one, Option, Some, None, sym, ap}
use Rattle.nf_names_used.specs.declared.uses.Use.{Use}
use Rattle.nf_meaning.specs.declared.fault.LowerFault.{LowerFault}
use Rattle.nf_meaning.specs.Lowered.{or_else}

-- nothing is wrong with the first
pub none_first : (a b : Option LowerFault) → a ≡ None → or_else a b ≡ b
none_first a b e = ap (λ z. or_else z b) e

-- this is wrong with the first
pub some_first : (a b : Option LowerFault) (f : LowerFault) → a ≡ Some f → or_else a b ≡ Some f
some_first a b f e = ap (λ z. or_else z b) e

-- ---- at a place

module _ (us : List Use) (i : ℕ) (u : Use) (within : i < length us) (at : u ≡ get_or us i u) where
  pub use_here : drop i us ≡ u ∷ drop (i + 1) us
  use_here = drop-cons us i u within ∙ ap (λ z. z ∷ drop (suc i) us) (sym at) ∙ ap (λ j. u ∷ drop j us) (sym (add-one i))

  module _ (one : Use → Option LowerFault) (all : List Use → Option LowerFault) (law : (v : Use) (vs : List Use) → all (v ∷ vs) ≡ or_else (one v) (all vs)) where
    pub none_here : one u ≡ None → all (drop i us) ≡ all (drop (i + 1) us)
    none_here e = ap all use_here ∙ law u (drop (i + 1) us) ∙ none_first (one u) (all (drop (i + 1) us)) e

    pub some_here : (f : LowerFault) → one u ≡ Some f → all (drop i us) ≡ Some f
    some_here f e = ap all use_here ∙ law u (drop (i + 1) us) ∙ some_first (one u) (all (drop (i + 1) us)) f e
