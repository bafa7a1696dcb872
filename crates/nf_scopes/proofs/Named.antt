-- Names in a list, and the same names with one changed.
use Rattle.std.proofs.Common.{◌≡◌, ◌∙◌, ℕ, Bool, true, false, if◌then◌else◌, List, [], ◌∷◌, ◌++◌, map, bytes_eq, Option, Some, None, refl, sym, ap, subst, true≢false}
use Rattle.std.proofs.lemmas.Slice.Eq.{bytes_eq-Decides}
use Rattle.nf_graph.specs.Meaning.{Bags}
use Rattle.nf_meaning.specs.Things.{Thing, thing_named}
use Rattle.nf_meaning.specs.Stands.{ThingStands}
use Rattle.nf_meaning.specs.Walk.{replaced, is_bound, put}
use Rattle.nf_scopes.specs.declared.things.Thing.{Thing as Stored}
use Rattle.nf_scopes.specs.Things.{thing_of}
use Rattle.nf_scopes.specs.Tables.{Names, Table, held, Puts, FoundStands, TableStands}

-- ---- bytes

pub equal : (a b : List ℕ) → bytes_eq a b ≡ true → a ≡ b
equal a b = (bytes_eq-Decides a b).0

pub own_bytes : (a : List ℕ) → bytes_eq a a ≡ true
own_bytes a = (bytes_eq-Decides a a).1 refl

turned_by : (a b : List ℕ) → bytes_eq a b ≡ false → (t : Bool) → bytes_eq b a ≡ t → t ≡ false
turned_by a b h false e = refl
turned_by a b h true e = absurd (true≢false (sym ((bytes_eq-Decides a b).1 (sym (equal b a e))) ∙ h))

pub turned : (a b : List ℕ) → bytes_eq a b ≡ false → bytes_eq b a ≡ false
turned a b h = turned_by a b h (bytes_eq b a) refl

-- ---- one list after another

-- the thing that a name stands for in a list, or else in another
abbrev pub or_in : Option Thing → Option Thing → Option Thing
or_in (Some t) later = Some t
or_in None later = later

named_by : (n : List ℕ) (b : List ℕ × Thing) (bs cs : Names) → thing_named n (bs ++ cs) ≡ or_in (thing_named n bs) (thing_named n cs) → (t : Bool) → bytes_eq b.0 n ≡ t
    → thing_named n ((b ∷ bs) ++ cs) ≡ or_in (thing_named n (b ∷ bs)) (thing_named n cs)
named_by n b bs cs rest true e = rw e refl
named_by n b bs cs rest false e = rw e rest

pub named_append : (n : List ℕ) (bs cs : Names) → thing_named n (bs ++ cs) ≡ or_in (thing_named n bs) (thing_named n cs)
named_append n [] cs = refl
named_append n (b ∷ bs) cs = named_by n b bs cs (named_append n bs cs) (bytes_eq b.0 n) refl

pub named_later : (n : List ℕ) (bs cs : Names) → thing_named n bs ≡ None → thing_named n (bs ++ cs) ≡ thing_named n cs
named_later n bs cs h = named_append n bs cs ∙ ap (λ o. or_in o (thing_named n cs)) h

-- ---- a name that stands for another thing

replaced_by : (n key : List ℕ) (u : Thing) (b : List ℕ × Thing) (bs : Names) → (thing_named n (replaced key u bs) ≡ (if bytes_eq key n then Some u else thing_named n bs)) → bytes_eq b.0 key ≡ false
    → (t : Bool) → bytes_eq b.0 n ≡ t → (if t then Some b.1 else thing_named n (replaced key u bs)) ≡ (if bytes_eq key n then Some u else (if t then Some b.1 else thing_named n bs))
replaced_by n key u b bs rest other false e = rest
replaced_by n key u b bs rest other true e =
    rw (ap (bytes_eq key) (sym (equal b.0 n e)) ∙ turned b.0 key other) refl

here_by : (n key : List ℕ) (u : Thing) (b : List ℕ × Thing) (bs : Names) → bytes_eq b.0 key ≡ true → (t : Bool) → bytes_eq key n ≡ t
    → (if t then Some u else thing_named n bs) ≡ (if t then Some u else thing_named n (b ∷ bs))
here_by n key u b bs same true e = refl
here_by n key u b bs same false e = rw (ap (λ m. bytes_eq m n) (equal b.0 key same) ∙ e) refl

named_replaced_by : (n key : List ℕ) (u : Thing) (b : List ℕ × Thing) (bs : Names)
    → (is_bound key bs ≡ true → thing_named n (replaced key u bs) ≡ (if bytes_eq key n then Some u else thing_named n bs)) → (t : Bool) → bytes_eq b.0 key ≡ t → is_bound key (b ∷ bs) ≡ true
    → thing_named n (replaced key u (b ∷ bs)) ≡ (if bytes_eq key n then Some u else thing_named n (b ∷ bs))
named_replaced_by n key u b bs rest true e h = rw e (here_by n key u b bs e (bytes_eq key n) refl)
named_replaced_by n key u b bs rest false e h = rw e (replaced_by n key u b bs (rest (rw e at h)) e (bytes_eq b.0 n) refl)

pub named_replaced : (n key : List ℕ) (u : Thing) (bs : Names) → is_bound key bs ≡ true → thing_named n (replaced key u bs) ≡ (if bytes_eq key n then Some u else thing_named n bs)
named_replaced n key u [] h = absurd (true≢false (sym h))
named_replaced n key u (b ∷ bs) h = named_replaced_by n key u b bs (named_replaced n key u bs) (bytes_eq b.0 key) refl h

named_put_by : (n key : List ℕ) (u : Thing) (bs : Names) (t : Bool) → is_bound key bs ≡ t → thing_named n (if t then replaced key u bs else (key, u) ∷ bs) ≡ (if bytes_eq key n then Some u else thing_named n bs)
named_put_by n key u bs true e = named_replaced n key u bs e
named_put_by n key u bs false e = refl

pub named_put : (n key : List ℕ) (u : Thing) (bs : Names) → thing_named n (put key u bs) ≡ (if bytes_eq key n then Some u else thing_named n bs)
named_put n key u bs = named_put_by n key u bs (is_bound key bs) refl

-- its names stay
kept_by : (key : List ℕ) (u : Thing) (b : List ℕ × Thing) (bs : Names) → map (λ x. x.0) (replaced key u bs) ≡ map (λ x. x.0) bs → (t : Bool) → bytes_eq b.0 key ≡ t
    → map (λ x. x.0) (replaced key u (b ∷ bs)) ≡ map (λ x. x.0) (b ∷ bs)
kept_by key u b bs rest true e = rw e (ap (λ n. n ∷ map (λ x. x.0) bs) (sym (equal b.0 key e)))
kept_by key u b bs rest false e = rw e (ap (λ ns. b.0 ∷ ns) rest)

pub names_kept : (key : List ℕ) (u : Thing) (bs : Names) → map (λ x. x.0) (replaced key u bs) ≡ map (λ x. x.0) bs
names_kept key u [] = refl
names_kept key u (b ∷ bs) = kept_by key u b bs (names_kept key u bs) (bytes_eq b.0 key) refl

-- in the first of two lists that has it
front_by : (key : List ℕ) (u : Thing) (b : List ℕ × Thing) (bs cs : Names) → (is_bound key bs ≡ true → replaced key u (bs ++ cs) ≡ replaced key u bs ++ cs) → (t : Bool) → bytes_eq b.0 key ≡ t → is_bound key (b ∷ bs) ≡ true
    → replaced key u ((b ∷ bs) ++ cs) ≡ replaced key u (b ∷ bs) ++ cs
front_by key u b bs cs rest true e h = rw e refl
front_by key u b bs cs rest false e h = rw e (ap (λ xs. b ∷ xs) (rest (rw e at h)))

pub replaced_front : (key : List ℕ) (u : Thing) (bs cs : Names) → is_bound key bs ≡ true → replaced key u (bs ++ cs) ≡ replaced key u bs ++ cs
replaced_front key u [] cs h = absurd (true≢false (sym h))
replaced_front key u (b ∷ bs) cs h = front_by key u b bs cs (replaced_front key u bs cs) (bytes_eq b.0 key) refl h

back_by : (key : List ℕ) (u : Thing) (b : List ℕ × Thing) (bs cs : Names) → (is_bound key bs ≡ false → replaced key u (bs ++ cs) ≡ bs ++ replaced key u cs) → (t : Bool) → bytes_eq b.0 key ≡ t → is_bound key (b ∷ bs) ≡ false
    → replaced key u ((b ∷ bs) ++ cs) ≡ (b ∷ bs) ++ replaced key u cs
back_by key u b bs cs rest true e h = absurd (let yes : true ≡ false = rw e at h in true≢false yes)
back_by key u b bs cs rest false e h = rw e (ap (λ xs. b ∷ xs) (rest (rw e at h)))

pub replaced_back : (key : List ℕ) (u : Thing) (bs cs : Names) → is_bound key bs ≡ false → replaced key u (bs ++ cs) ≡ bs ++ replaced key u cs
replaced_back key u [] cs h = refl
replaced_back key u (b ∷ bs) cs h = back_by key u b bs cs (replaced_back key u bs cs) (bytes_eq b.0 key) refl h

-- ---- tables

found_put : (bags : Bags) (t : Stored) (u : Thing) (o : Option Stored) (p : Option Thing) → ThingStands bags (thing_of t) u → FoundStands bags o p → (b : Bool)
    → FoundStands bags (if b then Some t else o) (if b then Some u else p)
found_put bags t u o p k h true = k
found_put bags t u o p k h false = h

-- a name that stands for another thing in both
pub table_put : (bags : Bags) (key : List ℕ) (t : Stored) (u : Thing) (es es' : Table) (bs bs' : Names) → ThingStands bags (thing_of t) u → Puts key t es es'
    → ((n : List ℕ) → thing_named n bs' ≡ (if bytes_eq key n then Some u else thing_named n bs)) → TableStands bags es bs → TableStands bags es' bs'
table_put bags key t u es es' bs bs' k puts named h n =
    let P : Option Stored → Type 0 = λ o. FoundStands bags o (thing_named n bs') in
    let Q : Option Thing → Type 0 = λ p. FoundStands bags (if bytes_eq key n then Some t else held n es) p in
    subst P (sym (puts n)) (subst Q (sym (named n)) (found_put bags t u (held n es) (thing_named n bs) k (h n) (bytes_eq key n)))
