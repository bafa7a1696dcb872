-- Literal components as patterns.
use Rattle.std.proofs.Common.{◌≡◌, ◌↔◌, ℕ, Bool, true, false, not, ◌==◌, ◌||◌, ◌&&◌, List, [], ◌∷◌, None, refl, sym, ◌∙◌, ap₂, subst, arith}
use Rattle.std.proofs.lemmas.Bool.Decides.{nat_tests}
use Rattle.nf_pattern.specs.Parting.{has}
use Rattle.nf_pattern.specs.Glob.{star, question, opening, closing, dot, takes, takes_one, takes_dotted, is_plain_match, spelled, is_match}
use Rattle.nf_pattern.specs.Literal.{has_alternatives, is_literal_component}
use Rattle.nf_pattern.proofs.Spelling.{or_false}

and_both : (a b : Bool) → (a && b) ≡ true → (a ≡ true) × (b ≡ true)
and_both true b h = (refl, h)
and_both false b h = absurd (cc)

not_true : (a : Bool) → not a ≡ true → a ≡ false
not_true true h = absurd (cc)
not_true false h = refl

or_nothing : (a : Bool) → (a || false) ≡ a
or_nothing true = refl
or_nothing false = refl

-- without alternatives, a pattern stands for itself alone
alone : (cs : List ℕ) → has_alternatives cs ≡ false → spelled None cs ≡ cs ∷ []
alone [] h = refl
alone (c ∷ cs) h =
    let parts = or_false ((c == opening) && has closing cs) (has_alternatives cs) h in
    rw (parts.0, alone cs parts.1) refl

-- a symbol but `?` takes itself alone
no_question : (p c : ℕ) → (p == question) ≡ false → takes_one p c ≡ true → p ≡ c
no_question p c h t = grind (arith, nat_tests)

symbol_itself : (p : ℕ) → takes_one p p ≡ true
symbol_itself p = grind (arith, nat_tests)

takes_itself : (ps : List ℕ) → has star ps ≡ false → takes ps ps ≡ true
takes_itself [] h = refl
takes_itself (p ∷ ps) h =
    let parts = or_false (p == star) (has star ps) h in
    rw (parts.0, symbol_itself p) (takes_itself ps parts.1)

taken_is : (ps cs : List ℕ) → has star ps ≡ false → has question ps ≡ false → takes ps cs ≡ true → ps ≡ cs
taken_is [] [] h k t = refl
taken_is [] (c ∷ cs) h k t = absurd (cc)
taken_is (p ∷ ps) [] h k t =
    let stars = or_false (p == star) (has star ps) h in
    absurd (let e : false ≡ true = rw stars.0 at t in cc)
taken_is (p ∷ ps) (c ∷ cs) h k t =
    let stars = or_false (p == star) (has star ps) h in
    let questions = or_false (p == question) (has question ps) k in
    let both : (takes_one p c ≡ true) × (takes ps cs ≡ true) = and_both (takes_one p c) (takes ps cs) (rw stars.0 at t) in
    ap₂ (λ x xs. x ∷ xs) (no_question p c questions.0 both.0) (taken_is ps cs stars.1 questions.1 both.1)

same_code : (p c : ℕ) → (p == c) ≡ true → p ≡ c
same_code p c h = grind (arith, nat_tests)

-- a leading dot
dotted_is : (ps cs : List ℕ) (c : ℕ) → (c == dot) ≡ true → has star ps ≡ false → has question ps ≡ false → takes_dotted ps cs ≡ true → ps ≡ c ∷ cs
dotted_is [] cs c d h k t = absurd (cc)
dotted_is (p ∷ ps) cs c d h k t =
    let stars = or_false (p == star) (has star ps) h in
    let questions = or_false (p == question) (has question ps) k in
    let both : ((p == dot) ≡ true) × (takes ps cs ≡ true) = and_both (p == dot) (takes ps cs) (rw stars.0 at t) in
    ap₂ (λ x xs. x ∷ xs) (same_code p dot both.0 ∙ sym (same_code c dot d)) (taken_is ps cs stars.1 questions.1 both.1)

at_first : (ps cs : List ℕ) (c : ℕ) (b : Bool) → (c == dot) ≡ b → has star ps ≡ false → has question ps ≡ false → is_plain_match ps (c ∷ cs) ≡ true → ps ≡ c ∷ cs
at_first ps cs c true d h k t = dotted_is ps cs c d h k (rw d at t)
at_first ps cs c false d h k t = taken_is ps (c ∷ cs) h k (rw d at t)

matched_is : (ps cs : List ℕ) → has star ps ≡ false → has question ps ≡ false → is_plain_match ps cs ≡ true → ps ≡ cs
matched_is ps [] h k t = taken_is ps [] h k t
matched_is ps (c ∷ cs) h k t = at_first ps cs c (c == dot) refl h k t

itself_at_first : (p : ℕ) (ps : List ℕ) (b : Bool) → (p == dot) ≡ b → has star (p ∷ ps) ≡ false → is_plain_match (p ∷ ps) (p ∷ ps) ≡ true
itself_at_first p ps true d h =
    let stars = or_false (p == star) (has star ps) h in
    rw (d, stars.0) (takes_itself ps stars.1)
itself_at_first p ps false d h = rw d (takes_itself (p ∷ ps) h)

matched_itself : (ps : List ℕ) → has star ps ≡ false → is_plain_match ps ps ≡ true
matched_itself [] h = refl
matched_itself (p ∷ ps) h = itself_at_first p ps (p == dot) refl h

by_itself : (pattern name : List ℕ) → has_alternatives pattern ≡ false → is_match pattern name ≡ is_plain_match pattern name
by_itself pattern name h = rw (alone pattern h) (or_nothing (is_plain_match pattern name))

pub matches_itself : (pattern name : List ℕ) → is_literal_component pattern ≡ true → ((is_match pattern name ≡ true) ↔ (pattern ≡ name))
matches_itself pattern name h =
    let symbols = and_both (not (has star pattern) && not (has question pattern)) (not (has_alternatives pattern)) h in
    let each = and_both (not (has star pattern)) (not (has question pattern)) symbols.0 in
    let stars : has star pattern ≡ false = not_true (has star pattern) each.0 in
    let questions : has question pattern ≡ false = not_true (has question pattern) each.1 in
    let plain = by_itself pattern name (not_true (has_alternatives pattern) symbols.1) in (
      λ t. matched_is pattern name stars questions (sym plain ∙ t),
      λ same. plain ∙ subst (λ (n : List ℕ). is_plain_match pattern n ≡ true) same (matched_itself pattern stars),
    )
