-- What plain patterns take, followed from one character to the next.
use Rattle.std.proofs.Common.{◌≡◌, ℕ, ◌+◌, ◌≤◌, Bool, true, false, ◌==◌, ◌||◌, ◌&&◌, List, [], ◌∷◌, length, refl, sym, ◌∙◌, ap, subst, arith}
use Rattle.nf_pattern.specs.Glob.{star, takes, takes_one}
use Rattle.nf_pattern.specs.Reach.{takes_some, Reaches, ReachesStar}
use Rattle.nf_pattern.specs.declared.plain.Reach.{Reach}
use Rattle.nf_pattern.specs.declared.plain.Reach.TheVariants.{Whole, Nothing, Star}

-- The start of a plain pattern was followed from cs0 to cs, with ps left of it, and has no `*`.
pub record IsFollowed (ps0 cs0 ps cs : List ℕ) : Type 0 where
  pub here : takes ps0 cs0 ≡ takes ps cs
  pub later : takes_some ps0 cs0 ≡ true → takes_some ps cs ≡ true
  pub falls : length ps + length cs ≤ length ps0 + length cs0

same_truth : (a b : Bool) → (a ≡ true → b ≡ true) → (b ≡ true → a ≡ true) → a ≡ b
same_truth true true f g = refl
same_truth true false f g = sym (f refl)
same_truth false true f g = g refl
same_truth false false f g = refl

or_right : (a b : Bool) → b ≡ true → (a || b) ≡ true
or_right true b h = refl
or_right false b h = h

or_left : (a b : Bool) → a ≡ true → (a || b) ≡ true
or_left true b h = refl
or_left false b h = absurd (cc)

and_right : (a b : Bool) → (a && b) ≡ true → b ≡ true
and_right true b h = h
and_right false b h = absurd (cc)

-- some end of the characters
pub some_here : (ps cs : List ℕ) → takes ps cs ≡ true → takes_some ps cs ≡ true
some_here ps [] h = or_left (takes ps []) false h
some_here ps (c ∷ cs) h = or_left (takes ps (c ∷ cs)) (takes_some ps cs) h

pub some_next : (ps cs : List ℕ) (c : ℕ) → takes ps (c ∷ cs) ≡ false → takes_some ps (c ∷ cs) ≡ takes_some ps cs
some_next ps cs c h = rw h refl

pub some_end : (ps : List ℕ) → takes ps [] ≡ false → takes_some ps [] ≡ false
some_end ps h = rw h refl

-- a character but `*` takes one
next_of : (p : ℕ) (ps : List ℕ) (c : ℕ) (cs : List ℕ) → (p == star) ≡ false → takes (p ∷ ps) (c ∷ cs) ≡ (takes_one p c && takes ps cs)
next_of p ps c cs h = rw h refl

end_of : (p : ℕ) (ps : List ℕ) → (p == star) ≡ false → takes (p ∷ ps) [] ≡ false
end_of p ps h = rw h refl

or_cases : (a b : Bool) (P : Type 0) → (a || b) ≡ true → (a ≡ true → P) → (b ≡ true → P) → P
or_cases true b P h f g = f refl
or_cases false b P h f g = g h

pub some_one : (p : ℕ) (ps : List ℕ) (c : ℕ) (cs : List ℕ) → (p == star) ≡ false → takes_some (p ∷ ps) (c ∷ cs) ≡ true → takes_some ps cs ≡ true
some_one p ps c [] h s =
    or_cases (takes (p ∷ ps) (c ∷ [])) (takes_some (p ∷ ps) []) (takes_some ps [] ≡ true) s
    (λ e. some_here ps [] (and_right (takes_one p c) (takes ps []) (sym (next_of p ps c [] h) ∙ e)))
    (λ e. absurd (cc (some_end (p ∷ ps) (end_of p ps h), e)))
some_one p ps c (d ∷ ds) h s =
    or_cases (takes (p ∷ ps) (c ∷ d ∷ ds)) (takes_some (p ∷ ps) (d ∷ ds)) (takes_some ps (d ∷ ds) ≡ true) s
    (λ e. some_here ps (d ∷ ds) (and_right (takes_one p c) (takes ps (d ∷ ds)) (sym (next_of p ps c (d ∷ ds) h) ∙ e)))
    (λ e. or_right (takes ps (d ∷ ds)) (takes_some ps ds) (some_one p ps d ds h e))

-- an end of an end is an end
some_star : (qs cs : List ℕ) → takes_some (star ∷ qs) cs ≡ true → takes_some qs cs ≡ true
some_star qs [] s =
    or_cases (takes_some qs []) false (takes_some qs [] ≡ true) s (λ e. e) (λ e. absurd (cc))
some_star qs (c ∷ cs) s =
    or_cases (takes_some qs (c ∷ cs)) (takes_some (star ∷ qs) cs) (takes_some qs (c ∷ cs) ≡ true) s (λ e. e)
    (λ e. or_right (takes qs (c ∷ cs)) (takes_some qs cs) (some_star qs cs e))

-- following a pattern
pub follows_start : (ps cs : List ℕ) → IsFollowed ps cs ps cs
follows_start ps cs = record { here = refl; later = λ h. h; falls = omega arith }

pub follows_one : (ps0 cs0 rs ps bs cs : List ℕ) (p c : ℕ) → IsFollowed ps0 cs0 rs bs → rs ≡ p ∷ ps → bs ≡ c ∷ cs → (p == star) ≡ false → takes_one p c ≡ true → IsFollowed ps0 cs0 ps cs
follows_one ps0 cs0 rs ps bs cs p c so left_ps left_cs h t = record {
  here = so.here ∙ rw (left_ps, left_cs) (next_of p ps c cs h ∙ rw t refl);
  later = λ s. some_one p ps c cs h (subst (λ (xs : List ℕ). takes_some xs (c ∷ cs) ≡ true) left_ps (subst (λ (xs : List ℕ). takes_some rs xs ≡ true) left_cs (so.later s)));
  falls = omega (arith, so.falls, ap length left_ps, ap length left_cs);
}

at_star : (qs cs : List ℕ) → ReachesStar (star ∷ qs) cs qs cs
at_star qs cs = record {
  here = refl;
  later = same_truth (takes_some (star ∷ qs) cs) (takes_some qs cs) (some_star qs cs) (λ h. some_here (star ∷ qs) cs h);
  falls = omega arith;
}

along : (ps0 cs0 ps cs qs ds : List ℕ) → IsFollowed ps0 cs0 ps cs → ReachesStar ps cs qs ds → ReachesStar ps0 cs0 qs ds
along ps0 cs0 ps cs qs ds so star_at = record {
  here = so.here ∙ star_at.here;
  later = same_truth (takes_some ps0 cs0) (takes_some qs ds) (λ h. sym star_at.later ∙ so.later h) (λ h. some_here ps0 cs0 (so.here ∙ star_at.here ∙ h));
  falls = omega (arith, so.falls, star_at.falls);
}

pub reaches_along : (ps0 cs0 ps cs : List ℕ) (r : Reach) → IsFollowed ps0 cs0 ps cs → Reaches ps cs r → Reaches ps0 cs0 r
reaches_along ps0 cs0 ps cs Whole so h = so.here ∙ h
reaches_along ps0 cs0 ps cs Nothing so h = so.here ∙ h
reaches_along ps0 cs0 ps cs (Star place) so h = along ps0 cs0 ps cs _ _ so h

pub reaches_star : (ps0 cs0 ps qs cs : List ℕ) (p : ℕ) → IsFollowed ps0 cs0 ps cs → ps ≡ p ∷ qs → p ≡ star → ReachesStar ps0 cs0 qs cs
reaches_star ps0 cs0 ps qs cs p so left_ps h =
    let starts : ps ≡ star ∷ qs = left_ps ∙ ap (λ c. c ∷ qs) h in
    along ps0 cs0 ps cs qs cs so (rw starts (at_star qs cs))

-- a pattern that doesn't take the next character, or has more characters than there are
pub takes_not : (ps0 cs0 rs ps bs cs : List ℕ) (p c : ℕ) → IsFollowed ps0 cs0 rs bs → rs ≡ p ∷ ps → bs ≡ c ∷ cs → (p == star) ≡ false → takes_one p c ≡ false → takes ps0 cs0 ≡ false
takes_not ps0 cs0 rs ps bs cs p c so left_ps left_cs h t = so.here ∙ rw (left_ps, left_cs) (next_of p ps c cs h ∙ rw t refl)

pub takes_none : (ps0 cs0 rs ps bs : List ℕ) (p : ℕ) → IsFollowed ps0 cs0 rs bs → rs ≡ p ∷ ps → bs ≡ [] → (p == star) ≡ false → takes ps0 cs0 ≡ false
takes_none ps0 cs0 rs ps bs p so left_ps left_cs h = so.here ∙ rw (left_ps, left_cs) (end_of p ps h)
