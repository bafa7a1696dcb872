-- Lists of inks, their text, and tests.
use Rattle.std.proofs.Common.{◌≡◌, ℕ, Bool, true, false, List, [], ◌∷◌, ◌++◌, refl, sym, ap, ◌∙◌}
use Rattle.std.specs.Prelude.{◌&&◌}
use Rattle.std.proofs.lemmas.List.{append_assoc, append-nil}
use Rattle.std.proofs.lemmas.Grind.{flat_map-append}
use Rattle.nf_token.specs.declared.token.Mark.TheVariants as m
use Rattle.nf_writer.specs.Ink.{Ink, ink_text, inked}
use Rattle.nf_printer.specs.Levels.{within}
use Rattle.nf_printer.specs.Chains.{bracket}

-- what was printed, and more after it
pub inked_more : (o a b : List ℕ) (xs ys : List Ink) → a ≡ o ++ inked xs → b ≡ a ++ inked ys → b ≡ o ++ inked (xs ++ ys)
inked_more o a b xs ys p q = q ∙ ap (λ v. v ++ inked ys) p ∙ append_assoc o (inked xs) (inked ys) ∙ ap (λ v. o ++ v) (sym (flat_map-append ink_text xs ys))

pub and_true : (b : Bool) → b && true ≡ b
and_true true = refl
and_true false = refl

pub and_false : (b : Bool) → b && false ≡ false
and_false true = refl
and_false false = refl

pub and_assoc : (a b c : Bool) → (a && b) && c ≡ a && (b && c)
and_assoc true b c = refl
and_assoc false b c = refl

pub and_swap : (a b c : Bool) → (a && b) && c ≡ a && (c && b)
and_swap false b c = refl
and_swap true true true = refl
and_swap true true false = refl
and_swap true false true = refl
and_swap true false false = refl

-- brackets are one before and one after
pub within_split : (b : Bool) (xs : List Ink) → within b xs ≡ bracket b m.OpenRound ++ xs ++ bracket b m.CloseRound
within_split true xs = refl
within_split false xs = sym (append-nil xs)

-- one item goes past a list of its like
pub shift : (p r : List Ink) (o : Ink) → p ++ o ∷ [] ≡ o ∷ p → p ++ o ∷ r ≡ o ∷ (p ++ r)
shift p r o e = sym (append_assoc p (o ∷ []) r) ∙ ap (λ v. v ++ r) e

-- an answer equals what the definition comes to
pub ends : {A : Type 0} {x y z : A} → z ≡ y → x ≡ y → x ≡ z
ends p q = q ∙ sym p
