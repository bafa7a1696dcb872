-- The choices among the alternatives of a pattern.
use Rattle.std.proofs.Common.{◌≡◌, ℕ, Bool, true, false, ◌||◌, List, [], ◌∷◌, ◌++◌, map, None, Bor, refl, sym, ◌∙◌, ap, append_assoc, append-nil, rules}
use Rattle.std.specs.List.{list_any}
use Rattle.std.proofs.lemmas.List.Folds.{list_any-append}
use Rattle.nf_pattern.specs.Glob.{joined, is_plain_match, spelled, pieces}
use Rattle.nf_pattern.specs.Parts.{characters, chosen_characters}
use Rattle.std.specs.Str.{chars}
use Rattle.nf_pattern.specs.declared.parts.Parts.{Parts, End, Part, the_lemmas}
use Rattle.nf_pattern.specs.Choices.{some_match}

abbrev pub some_piece : List ℕ → List (List ℕ) → List (List ℕ) → List ℕ → Bool
some_piece chosen ps lists name = list_any (λ piece. some_match (chosen ++ piece) lists name) ps

one_piece : (b before p : List ℕ) (lists : List (List ℕ)) (name : List ℕ) → some_match b (map (λ rest. before ++ rest) (map (λ rest. p ++ rest) lists)) name ≡ some_match ((b ++ before) ++ p) lists name
one_piece b before p [] name = refl
one_piece b before p (s ∷ lists) name =
    let same : b ++ (before ++ (p ++ s)) ≡ ((b ++ before) ++ p) ++ s = sym (append_assoc b before (p ++ s)) ∙ sym (append_assoc (b ++ before) p s) in
    rw (same, one_piece b before p lists name) refl

map_append : (before : List ℕ) (xs ys : List (List ℕ)) → map (λ (rest : List ℕ). before ++ rest) (xs ++ ys) ≡ map (λ rest. before ++ rest) xs ++ map (λ rest. before ++ rest) ys
map_append before [] ys = refl
map_append before (x ∷ xs) ys = ap (λ r. (before ++ x) ∷ r) (map_append before xs ys)

pub some_choice : (b before : List ℕ) (ps lists : List (List ℕ)) (name : List ℕ) → some_match b (map (λ rest. before ++ rest) (joined ps lists)) name ≡ some_piece (b ++ before) ps lists name
some_choice b before [] lists name = refl
some_choice b before (p ∷ ps) lists name =
    rw (map_append before (map (λ rest. p ++ rest) lists) (joined ps lists), list_any-append (λ rest. is_plain_match (b ++ rest) name) (map (λ rest. before ++ rest) (map (λ rest. p ++ rest) lists)) (map (λ rest. before ++ rest) (joined ps lists)))
    (λ i. one_piece b before p lists name i || some_choice b before ps lists name i)

or_left : (a b : Bool) → a ≡ true → (a || b) ≡ true
or_left true b h = refl
or_left false b h = absurd (cc)

or_nothing : (a : Bool) → (a || false) ≡ a
or_nothing true = refl
or_nothing false = refl

-- a pattern without alternatives
pub alone : (b cs name : List ℕ) (r : Bool) → spelled None cs ≡ cs ∷ [] → r ≡ is_plain_match (b ++ (cs ++ [])) name → r ≡ some_match b (spelled None cs) name
alone b cs name r e h = h ∙ rw (e, append-nil cs) (sym (or_nothing (is_plain_match (b ++ cs) name)))

-- a pattern with alternatives: the pieces one after the other
pub by_pieces : (b b' before within after name cs : List ℕ) → b' ≡ b ++ before → spelled None cs ≡ map (λ rest. before ++ rest) (joined (pieces within) (spelled None after)) → some_match b (spelled None cs) name ≡ some_piece b' (pieces within) (spelled None after) name
by_pieces b b' before within after name cs longer e = ap (λ lists. some_match b lists name) e ∙ some_choice b before (pieces within) (spelled None after) name ∙ ap (λ chosen. some_piece chosen (pieces within) (spelled None after) name) (sym longer)

pub found_piece : (w : Bool) (b piece name : List ℕ) (ps others lists : List (List ℕ)) → w ≡ some_piece b ps lists name → ps ≡ piece ∷ others → true ≡ some_match (b ++ piece) lists name → true ≡ w
found_piece w b piece name ps others lists h e t = sym (h ∙ rw e (or_left (some_match (b ++ piece) lists name) (some_piece b others lists name) (sym t)))

pub next_piece : (w : Bool) (b piece name : List ℕ) (ps others lists : List (List ℕ)) → w ≡ some_piece b ps lists name → ps ≡ piece ∷ others → false ≡ some_match (b ++ piece) lists name → w ≡ some_piece b others lists name
next_piece w b piece name ps others lists h e f = h ∙ rw (e, ← f) refl

pub last_piece : (w r : Bool) (b piece name : List ℕ) (ps lists : List (List ℕ)) → w ≡ some_piece b ps lists name → ps ≡ piece ∷ [] → r ≡ some_match (b ++ piece) lists name → r ≡ w
last_piece w r b piece name ps lists h e s = s ∙ sym (h ∙ rw e (or_nothing (some_match (b ++ piece) lists name)))

-- the parts of a row
pub chosen-Part : (part : Bor (List ℕ)) (earlier : Bor Parts) → chosen_characters (Part part earlier) ≡ chosen_characters earlier.now ++ chars part.now
chosen-Part part earlier = search (rules, the_lemmas)

pub characters-Part : (part : Bor (List ℕ)) (others : Bor Parts) → characters (Part part others) ≡ chars part.now ++ characters others.now
characters-Part part others = search (rules, the_lemmas)

pub chosen-End : chosen_characters End ≡ []
chosen-End = search (rules, the_lemmas)

pub characters-End : characters End ≡ []
characters-End = search (rules, the_lemmas)
