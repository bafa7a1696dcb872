-- What stands before and after the first mark of a list.
use Rattle.std.proofs.Common.{◌≡◌, ℕ, Bool, true, false, ◌==◌, ◌||◌, ◌&&◌, if◌then◌else◌, List, [], ◌∷◌, ◌++◌, Option, None, Some, MatchOption, Bor, option_map, is_some, refl, sym, ◌∙◌, ap, subst}
use Rattle.std.specs.Str.{chars}
use Rattle.std.proofs.lemmas.Bool.{eq-eqb, eqb-true}
use Rattle.nf_pattern.specs.Parting.{has, IsParted}
use Rattle.nf_pattern.specs.Glob.{opening, closing}
use Rattle.nf_pattern.specs.Literal.{has_alternatives}
use Rattle.nf_paths.specs.Pairs.{parted_at}
use Rattle.nf_paths.specs.Texts.{parts_of}

-- ---- from the parts

none_by : (d c : ℕ) (cs : List ℕ) → (has d cs ≡ false → parted_at d cs ≡ None) → (b : Bool) → (c == d) ≡ b → (b || has d cs) ≡ false → parted_at d (c ∷ cs) ≡ None
none_by d c cs rest false e k = rw (e, rest k) refl
none_by d c cs rest true e k = absurd (cc)

none_at : (d : ℕ) (cs : List ℕ) → has d cs ≡ false → parted_at d cs ≡ None
none_at d [] h = refl
none_at d (c ∷ cs) h = none_by d c cs (none_at d cs) (c == d) refl h

some_by : (d c : ℕ) (cs after : List ℕ) → (has d cs ≡ false → parted_at d (cs ++ d ∷ after) ≡ Some (cs, after)) → (b : Bool) → (c == d) ≡ b → (b || has d cs) ≡ false
    → parted_at d ((c ∷ cs) ++ d ∷ after) ≡ Some (c ∷ cs, after)
some_by d c cs after rest false e k = rw (e, rest k) refl
some_by d c cs after rest true e k = absurd (cc)

some_at : (d : ℕ) (before after : List ℕ) → has d before ≡ false → parted_at d (before ++ d ∷ after) ≡ Some (before, after)
some_at d [] after h = rw (eq-eqb d d refl) refl
some_at d (c ∷ cs) after h = some_by d c cs after (some_at d cs after) (c == d) refl h

at_parts : (d : ℕ) (cs before after : List ℕ) → IsParted d cs before after → parted_at d cs ≡ Some (before, after)
at_parts d cs before after p = ap (parted_at d) p.whole ∙ some_at d before after p.first

pub parted_same : (d : ℕ) (cs : List ℕ) (r : Option (Bor (List ℕ) × Bor (List ℕ))) → MatchOption r (has d cs ≡ false) (λ x. IsParted d cs (chars x.0.now) (chars x.1.now))
    → option_map parts_of r ≡ parted_at d cs
parted_same d cs None h = sym (none_at d cs h)
parted_same d cs (Some x) h = sym (at_parts d cs (chars x.0.now) (chars x.1.now) h)

-- ---- whether there is one

abbrev put_front : ℕ → List ℕ × List ℕ → List ℕ × List ℕ
put_front c x = (c ∷ x.0, x.1)

some_kept : (c : ℕ) (o : Option (List ℕ × List ℕ)) → is_some (option_map (put_front c) o) ≡ is_some o
some_kept c None = refl
some_kept c (Some x) = refl

has_by : (d c : ℕ) (cs : List ℕ) → is_some (parted_at d cs) ≡ has d cs → (b : Bool) → (c == d) ≡ b → is_some (parted_at d (c ∷ cs)) ≡ has d (c ∷ cs)
has_by d c cs rest true e = rw e refl
has_by d c cs rest false e = rw e (some_kept c (parted_at d cs) ∙ rest)

pub has_parted : (d : ℕ) (cs : List ℕ) → is_some (parted_at d cs) ≡ has d cs
has_parted d [] = refl
has_parted d (c ∷ cs) = has_by d c cs (has_parted d cs) (c == d) refl

pub same_some : (d : ℕ) (cs : List ℕ) (r : Option (Bor (List ℕ) × Bor (List ℕ))) → option_map parts_of r ≡ parted_at d cs → is_some r ≡ has d cs
same_some d cs None h = ap is_some h ∙ has_parted d cs
same_some d cs (Some x) h = ap is_some h ∙ has_parted d cs

-- ---- alternatives begin at the first brace

abbrev pub closes : Option (List ℕ × List ℕ) → Bool
closes None = false
closes (Some x) = has closing x.1

closes_kept : (c : ℕ) (o : Option (List ℕ × List ℕ)) → closes (option_map (λ x. (c ∷ x.0, x.1)) o) ≡ closes o
closes_kept c None = refl
closes_kept c (Some x) = refl

and_false : (t : Bool) → ((t && false) || false) ≡ false
and_false true = refl
and_false false = refl

unclosed_by : (b : ℕ) (bs : List ℕ) → (has closing bs ≡ false → has_alternatives bs ≡ false) → (t : Bool) → (b == closing) ≡ t → (t || has closing bs) ≡ false → has_alternatives (b ∷ bs) ≡ false
unclosed_by b bs rest false e k = rw (k, rest k) (and_false (b == opening))
unclosed_by b bs rest true e k = absurd (cc)

unclosed : (bs : List ℕ) → has closing bs ≡ false → has_alternatives bs ≡ false
unclosed [] h = refl
unclosed (b ∷ bs) h = unclosed_by b bs (unclosed bs) (b == closing) refl h

or_less : (cs : List ℕ) (t : Bool) → has closing cs ≡ t → t ≡ (t || has_alternatives cs)
or_less cs true e = refl
or_less cs false e = sym (unclosed cs e)

alternatives_by : (c : ℕ) (cs : List ℕ) → closes (parted_at opening cs) ≡ has_alternatives cs → (b : Bool) → (c == opening) ≡ b → closes (parted_at opening (c ∷ cs)) ≡ has_alternatives (c ∷ cs)
alternatives_by c cs rest true e = rw e (or_less cs (has closing cs) refl)
alternatives_by c cs rest false e = rw e (closes_kept c (parted_at opening cs) ∙ rest)

pub alternatives_same : (cs : List ℕ) → closes (parted_at opening cs) ≡ has_alternatives cs
alternatives_same [] = refl
alternatives_same (c ∷ cs) = alternatives_by c cs (alternatives_same cs) (c == opening) refl

pub alternatives_of : (cs : List ℕ) (r : Option (Bor (List ℕ) × Bor (List ℕ))) → option_map parts_of r ≡ parted_at opening cs → closes (option_map parts_of r) ≡ has_alternatives cs
alternatives_of cs r h = ap closes h ∙ alternatives_same cs

-- ---- to the parts

some_is : {A : Type 0} {x y : A} → Some x ≡ Some y → x ≡ y
some_is e = cc

grown : (d c : ℕ) (cs : List ℕ) (x : List ℕ × List ℕ) (o : Option (List ℕ × List ℕ)) → ((y : List ℕ × List ℕ) → o ≡ Some y → IsParted d cs y.0 y.1) → (c == d) ≡ false
    → option_map (λ y. (c ∷ y.0, y.1)) o ≡ Some x → IsParted d (c ∷ cs) x.0 x.1
grown d c cs x (Some y) rest e k = let P : List ℕ × List ℕ → Type 0 = λ z. IsParted d (c ∷ cs) z.0 z.1 in
    subst P (some_is k) (record { whole = ap (λ bs. c ∷ bs) (rest y refl).whole; first = rw e (rest y refl).first })
grown d c cs x None rest e k = absurd (cc)

parted_by : (d c : ℕ) (cs : List ℕ) (x : List ℕ × List ℕ) → ((y : List ℕ × List ℕ) → parted_at d cs ≡ Some y → IsParted d cs y.0 y.1) → (b : Bool) → (c == d) ≡ b
    → (if b then Some ([], cs) else option_map (λ y. (c ∷ y.0, y.1)) (parted_at d cs)) ≡ Some x → IsParted d (c ∷ cs) x.0 x.1
parted_by d c cs x rest true e k = let P : List ℕ × List ℕ → Type 0 = λ z. IsParted d (c ∷ cs) z.0 z.1 in
    subst P (some_is k) (record { whole = ap (λ b. b ∷ cs) (eqb-true c d e); first = refl })
parted_by d c cs x rest false e k = grown d c cs x (parted_at d cs) rest e k

-- what a mark parts is parted by it
pub is_parted : (d : ℕ) (cs : List ℕ) (x : List ℕ × List ℕ) → parted_at d cs ≡ Some x → IsParted d cs x.0 x.1
is_parted d [] x h = absurd (cc)
is_parted d (c ∷ cs) x h = parted_by d c cs x (is_parted d cs) (c == d) refl h
