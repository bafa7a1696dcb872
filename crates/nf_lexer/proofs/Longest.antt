-- Of the marks that stand in front the longest is taken.
use Rattle.std.proofs.Common.{◌≡◌, ℕ, zero, suc, ◌≤◌, Bool, true, false, List, [], ◌∷◌, ◌++◌, length, Option, Some, None, ◌⊎◌, inl, inr, refl, sym, ap, ◌∙◌, arith, eq-eqb}
use Rattle.std.specs.Prelude.{◌&&◌, ◌==◌, cond, not, is_some}
use Rattle.std.proofs.lemmas.Bool.Decides.{Decides-eqb}
use Rattle.std.specs.List.{Contains}
use Rattle.nf_token.specs.declared.token.Mark.{Mark}
use Rattle.nf_lexer.specs.Mark.{mark, mark_in, mark_or, past}
use Rattle.nf_token.specs.Spellings.{marks}
use Rattle.nf_lexer.specs.Longest.{IsLongest}

past_if : (c : Bool) (b x : ℕ) (w bs rest : List ℕ) → (c ≡ true → b ≡ x) → (past w bs ≡ Some rest → bs ≡ w ++ rest) → cond c (past w bs) None ≡ Some rest → b ∷ bs ≡ x ∷ (w ++ rest)
past_if true b x w bs rest h k e = ap (λ z. z ∷ bs) (h refl) ∙ ap (λ z. x ∷ z) (k e)
past_if false b x w bs rest h k e = absurd cc

past_is : (w bs rest : List ℕ) → past w bs ≡ Some rest → bs ≡ w ++ rest
past_is [] bs rest e = cc
past_is (x ∷ w) [] rest e = absurd cc
past_is (x ∷ w) (b ∷ bs) rest e = past_if (b == x) b x w bs rest (Decides-eqb b x).0 (past_is w bs rest) e

past_of : (w more : List ℕ) → past w (w ++ more) ≡ Some more
past_of [] more = refl
past_of (b ∷ w) more = rw (eq-eqb b b refl) (past_of w more)

same_head : (b c : ℕ) (xs ys : List ℕ) → b ∷ xs ≡ c ∷ ys → (b ≡ c) × (xs ≡ ys)
same_head b c xs ys e = (cc, cc)

-- of two fronts of one text the shorter begins the longer
begins_longer : (w v rest more : List ℕ) → w ++ rest ≡ v ++ more → length w ≤ length v → is_some (past w v) ≡ true
begins_longer [] v rest more e h = refl
begins_longer (b ∷ w) [] rest more e h = absurd (omega arith)
begins_longer (b ∷ w) (c ∷ v) rest more e h =
    let k = same_head b c (w ++ rest) (v ++ more) e in
    rw (eq-eqb c b (sym k.0)) (begins_longer w v rest more k.1 (omega arith))

-- the spelling begins none of the list's
abbrev begins_none : List ℕ → List (List ℕ × Mark) → Bool
begins_none w [] = true
begins_none w (m ∷ ms) = not (is_some (past w m.0)) && begins_none w ms

-- no spelling begins a later one
abbrev is_in_order : List (List ℕ × Mark) → Bool
is_in_order [] = true
is_in_order (m ∷ ms) = begins_none m.0 ms && is_in_order ms

both : (a b : Bool) → (a && b) ≡ true → (a ≡ true) × (b ≡ true)
both true b h = (refl, h)
both false b h = absurd cc

not_true : (a : Bool) → not a ≡ true → a ≡ true → ⊥
not_true true h e = cc
not_true false h e = cc

head_or_tail : (m x : List ℕ × Mark) (ms : List (List ℕ × Mark)) → Contains (m ∷ ms) x → (m ≡ x) ⊎ Contains ms x
head_or_tail m x ms (zero, h, e) = inl e
head_or_tail m x ms (suc k, h, e) = inr (k, omega arith, e)

later : (m x : List ℕ × Mark) (ms : List (List ℕ × Mark)) → Contains ms x → Contains (m ∷ ms) x
later m x ms (k, h, e) = (suc k, omega arith, e)

begins_not : (w : List ℕ) (ms : List (List ℕ × Mark)) → begins_none w ms ≡ true → (x : List ℕ × Mark) → Contains ms x → is_some (past w x.0) ≡ true → ⊥
begins_not w [] h x c e = absurd (omega (arith, c.1))
begins_not w (m ∷ ms) h x c e =
    let k = both (not (is_some (past w m.0))) (begins_none w ms) h in
    elim (head_or_tail m x ms c) [
      | inl s ↦ not_true (is_some (past w m.0)) k.0 (ap (λ (y : List ℕ × Mark). is_some (past w y.0)) s ∙ e)
      | inr d ↦ begins_not w ms k.1 x d e
    ]

-- a first row that fits is the longest that fits
first_longest : (m x : List ℕ × Mark) (ms : List (List ℕ × Mark)) (bs rest more : List ℕ) → begins_none m.0 ms ≡ true → bs ≡ m.0 ++ rest → Contains (m ∷ ms) x → bs ≡ x.0 ++ more → length x.0 ≤ length m.0
first_longest m x ms bs rest more h e c f =
    elim (head_or_tail m x ms c) [
      | inl s ↦ omega (arith, ap (λ (y : List ℕ × Mark). length y.0) s)
      | inr d ↦
          let no : length m.0 ≤ length x.0 → ⊥ = λ le. begins_not m.0 ms h x d (begins_longer m.0 x.0 rest more (sym e ∙ f) le) in
          omega (arith, no)
    ]

step : (o : Option (List ℕ)) (m x : List ℕ × Mark) (ms : List (List ℕ × Mark)) (bs more : List ℕ) → past m.0 bs ≡ o → begins_none m.0 ms ≡ true → Contains (m ∷ ms) x → bs ≡ x.0 ++ more → (Contains ms x → IsLongest ms (mark_in ms bs) bs x) → IsLongest (m ∷ ms) (mark_or o m.1 (length m.0) (mark_in ms bs)) bs x
step (Some rest) m x ms bs more p h c f k =
    record {
      row = m;
      rest = rest;
      listed = (zero, omega arith, refl);
      stands = past_is m.0 bs rest p;
      taken = refl;
      longest = first_longest m x ms bs rest more h (past_is m.0 bs rest p) c f;
    }
step None m x ms bs more p h c f k =
    elim (head_or_tail m x ms c) [
      | inl s ↦ absurd (let e : past m.0 bs ≡ Some more = ap (past m.0) (f ∙ ap (λ (y : List ℕ × Mark). y.0 ++ more) (sym s)) ∙ past_of m.0 more in cc)
      | inr d ↦
          let r = k d in
          record {
            row = r.row;
            rest = r.rest;
            listed = later m r.row ms r.listed;
            stands = r.stands;
            taken = r.taken;
            longest = r.longest;
          }
    ]

longest_in : (ms : List (List ℕ × Mark)) → is_in_order ms ≡ true → (bs : List ℕ) (x : List ℕ × Mark) (more : List ℕ) → Contains ms x → bs ≡ x.0 ++ more → IsLongest ms (mark_in ms bs) bs x
longest_in [] h bs x more c f = absurd (omega (arith, c.1))
longest_in (m ∷ ms) h bs x more c f =
    let k = both (begins_none m.0 ms) (is_in_order ms) h in
    step (past m.0 bs) m x ms bs more refl k.0 c f (λ d. longest_in ms k.1 bs x more d f)

pub longest_mark : (bs : List ℕ) (x : List ℕ × Mark) (more : List ℕ) → Contains marks x → bs ≡ x.0 ++ more → IsLongest marks (mark bs) bs x
unfolding mark
longest_mark bs x more c f = longest_in marks refl bs x more c f
