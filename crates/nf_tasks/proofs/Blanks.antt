-- A line may be cut after any of its leading blanks.
use Rattle.std.proofs.Common.{◌≡◌, ℕ, zero, suc, ◌+◌, ◌<◌, ◌≤◌, Bool, true, false, cond, List, [], ◌∷◌, length, get_or, refl, subst, sym, add-one, arith}
use Rattle.std.specs.Str.{IsUtf8}
use Rattle.std.proofs.lemmas.Bool.Decides.{nat_tests}
use Rattle.std.proofs.lemmas.Str.{lead_after_ascii}
use Rattle.nf_tasks.specs.Script.{is_blank, indent_of}

blank_small : (b : ℕ) → is_blank b ≡ true → b < 128
blank_small b h = grind (arith, nat_tests)

indent-le : (line : List ℕ) → indent_of line ≤ length line
indent-le [] = omega arith
indent-le (x ∷ xs) = by_first (is_blank x) (indent-le xs)
  where
    by_first : (b : Bool) → indent_of xs ≤ length xs → cond b (1 + indent_of xs) 0 ≤ suc (length xs)
    by_first true h = omega arith
    by_first false h = omega arith

-- a leading blank is one byte of its own
blank_at : (line : List ℕ) (i : ℕ) → i < indent_of line → get_or line i 0 < 128
blank_at [] i h = absurd (omega arith)
blank_at (x ∷ xs) i h = by_first (is_blank x) i (blank_at xs) refl h
  where
    by_first : (b : Bool) (j : ℕ) → ((k : ℕ) → k < indent_of xs → get_or xs k 0 < 128) → is_blank x ≡ b → j < cond b (1 + indent_of xs) 0 → get_or (x ∷ xs) j 0 < 128
    by_first true zero others e h = blank_small x e
    by_first true (suc j) others e h = others j (omega arith)
    by_first false j others e h = absurd (omega arith)

pub after_blanks : (line : List ℕ) (k : ℕ) → IsUtf8 line → k ≤ indent_of line → 0 < k → (k ≤ length line) × (k < length line → 128 ≤ get_or line k 0 → 192 ≤ get_or line k 0)
after_blanks line zero utf8 h some = absurd (omega arith)
after_blanks line (suc j) utf8 h some =
    (omega (arith, indent-le line), λ inside high. subst (λ k. 192 ≤ get_or line k 0) (add-one j) (lead_after_ascii line j utf8 (blank_at line j (omega arith)) (omega arith) (subst (λ k. 128 ≤ get_or line k 0) (sym (add-one j)) high)))
