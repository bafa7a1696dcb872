-- What a pattern is spelled as, by its first alternatives, and the pieces by their first comma.
use Rattle.std.proofs.Common.{◌≡◌, ℕ, ◌<◌, Bool, true, false, ◌==◌, ◌||◌, ◌&&◌, List, [], ◌∷◌, ◌++◌, map, length, Option, None, Some, refl, sym, ◌∙◌, ap, arith, append_assoc, append-nil, length-append, MatchOption, IfSome, Bor}
use Rattle.std.specs.Str.{chars}
use Rattle.nf_pattern.specs.Parting.{has, IsParted}
use Rattle.nf_pattern.specs.Glob.{opening, comma, closing, pieces, joined, spelled}

pub or_false : (a b : Bool) → (a || b) ≡ false → (a ≡ false) × (b ≡ false)
or_false true b h = absurd (cc)
or_false false b h = (refl, h)

and_false : (a : Bool) → (a && false) ≡ false
and_false true = refl
and_false false = refl

map_same : (xss : List (List ℕ)) → map (λ (rest : List ℕ). [] ++ rest) xss ≡ xss
map_same [] = refl
map_same (xs ∷ xss) = ap (λ r. xs ∷ r) (map_same xss)

map_longer : (x : ℕ) (xs : List ℕ) (xss : List (List ℕ)) → map (λ (rest : List ℕ). x ∷ rest) (map (λ rest. xs ++ rest) xss) ≡ map (λ rest. (x ∷ xs) ++ rest) xss
map_longer x xs [] = refl
map_longer x xs (ys ∷ xss) = ap (λ r. (x ∷ (xs ++ ys)) ∷ r) (map_longer x xs xss)

has_here : (delimiter : ℕ) (xs ys : List ℕ) → (delimiter == delimiter) ≡ true → has delimiter (xs ++ delimiter ∷ ys) ≡ true
has_here delimiter [] ys e = rw e refl
has_here delimiter (x ∷ xs) ys e = rw (has_here delimiter xs ys e) (or_true (x == delimiter))
  where
    or_true : (a : Bool) → (a || true) ≡ true
    or_true true = refl
    or_true false = refl

unclosed : (cs : List ℕ) → has closing cs ≡ false → spelled None cs ≡ cs ∷ []
unclosed [] h = refl
unclosed (c ∷ cs) h =
    let rest = (or_false (c == closing) (has closing cs) h).1 in
    rw (rest, and_false (c == opening), unclosed cs rest) refl

unopened : (cs : List ℕ) → has opening cs ≡ false → spelled None cs ≡ cs ∷ []
unopened [] h = refl
unopened (c ∷ cs) h =
    let parts = or_false (c == opening) (has opening cs) h in
    rw (parts.0, unopened cs parts.1) refl

never_closed : (xs ys : List ℕ) → has opening xs ≡ false → has closing ys ≡ false → spelled None (xs ++ opening ∷ ys) ≡ (xs ++ opening ∷ ys) ∷ []
never_closed [] ys h k = rw (k, unclosed ys k) refl
never_closed (x ∷ xs) ys h k =
    let parts = or_false (x == opening) (has opening xs) h in
    rw (parts.0, never_closed xs ys parts.1 k) refl

inside : (read ws ys : List ℕ) → has closing ws ≡ false → spelled (Some read) (ws ++ closing ∷ ys) ≡ joined (pieces (read ++ ws)) (spelled None ys)
inside read [] ys h = rw (append-nil read) refl
inside read (w ∷ ws) ys h =
    let parts = or_false (w == closing) (has closing ws) h in
    rw parts.0 (inside (read ++ w ∷ []) ws ys parts.1 ∙ ap (λ r. joined (pieces r) (spelled None ys)) (append_assoc read (w ∷ []) ws))

chosen : (xs ws ys : List ℕ) → has opening xs ≡ false → has closing ws ≡ false → spelled None (xs ++ opening ∷ (ws ++ closing ∷ ys)) ≡ map (λ rest. xs ++ rest) (joined (pieces ws) (spelled None ys))
chosen [] ws ys h k = rw (has_here closing ws ys refl) (inside [] ws ys k ∙ sym (map_same (joined (pieces ws) (spelled None ys))))
chosen (x ∷ xs) ws ys h k =
    let parts = or_false (x == opening) (has opening xs) h in
    rw (parts.0, chosen xs ws ys parts.1 k) (map_longer x xs (joined (pieces ws) (spelled None ys)))

-- by the parts that the code finds
pub spelled_alone : (cs xs ys : List ℕ) → IsParted opening cs xs ys → has closing ys ≡ false → spelled None cs ≡ cs ∷ []
spelled_alone cs xs ys h k = rw h.whole (never_closed xs ys h.first k)

pub spelled_plain : (cs : List ℕ) → has opening cs ≡ false → spelled None cs ≡ cs ∷ []
spelled_plain cs h = unopened cs h

pub spelled_choices : (cs xs os ws ys : List ℕ) → IsParted opening cs xs os → IsParted closing os ws ys → spelled None cs ≡ map (λ rest. xs ++ rest) (joined (pieces ws) (spelled None ys))
spelled_choices cs xs os ws ys h k = rw (h.whole, k.whole) (chosen xs ws ys h.first k.first)

pub parted_falls : (delimiter : ℕ) (cs xs ys : List ℕ) → IsParted delimiter cs xs ys → length ys < length cs
parted_falls delimiter cs xs ys h = rw (h.whole, length-append xs (delimiter ∷ ys)) (omega arith)

pub after_falls : (cs xs os ws ys : List ℕ) → IsParted opening cs xs os → IsParted closing os ws ys → length ys < length cs
after_falls cs xs os ws ys h k = omega (arith, parted_falls _ _ _ _ h, parted_falls _ _ _ _ k)

-- pieces
pub pieces_alone : (cs : List ℕ) → has comma cs ≡ false → pieces cs ≡ cs ∷ []
pieces_alone [] h = refl
pieces_alone (c ∷ cs) h =
    let parts = or_false (c == comma) (has comma cs) h in
    rw (parts.0, pieces_alone cs parts.1) refl

at_comma : (xs ys : List ℕ) → has comma xs ≡ false → pieces (xs ++ comma ∷ ys) ≡ xs ∷ pieces ys
at_comma [] ys h = refl
at_comma (x ∷ xs) ys h =
    let parts = or_false (x == comma) (has comma xs) h in
    rw (parts.0, at_comma xs ys parts.1) refl

pub pieces_parted : (cs xs ys : List ℕ) → IsParted comma cs xs ys → pieces cs ≡ xs ∷ pieces ys
pieces_parted cs xs ys h = rw h.whole (at_comma xs ys h.first)

-- by what `parted` answers
abbrev Parted : List ℕ → Option (Bor (List ℕ) × Bor (List ℕ)) → Type 0
Parted cs r = MatchOption r (has comma cs ≡ false) (λ found. IsParted comma cs (chars found.0.now) (chars found.1.now))

pub piece_of : (text : List ℕ) (r : Option (Bor (List ℕ) × Bor (List ℕ))) → Parted (chars text) r → MatchOption r (pieces (chars text) ≡ chars text ∷ []) (λ found. pieces (chars text) ≡ chars found.0.now ∷ pieces (chars found.1.now))
piece_of text None h = pieces_alone (chars text) h
piece_of text (Some found) h = pieces_parted _ _ _ h

pub piece_falls : (text : List ℕ) (r : Option (Bor (List ℕ) × Bor (List ℕ))) → Parted (chars text) r → IfSome r (λ found. length (chars found.1.now) < length (chars text))
piece_falls text None h = tt
piece_falls text (Some found) h = parted_falls _ _ _ _ h
