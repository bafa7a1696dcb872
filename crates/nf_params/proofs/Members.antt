-- Items of lists and members of objects, one after another.
use Rattle.std.proofs.Common.{◌≡◌, ℕ, suc, ◌+◌, ◌<◌, Bool, true, ◌&&◌, List, [], ◌∷◌, ◌++◌, length, drop, map, get_or, String, Global, string_bytes, string_cmp, Less, refl, sym, ◌∙◌, ap, subst, arith, append_assoc, add-one, drop-cons}
use Rattle.std.specs.Prelude.{Result, Ok, Err, decimal}
use Rattle.std.specs.Ordering.{nat_cmp, is_lt}
use Rattle.std.specs.Cmp.Lexicographic.{slice_cmp}
use Rattle.std.specs.List.{AllByRecursion}
use Rattle.std.specs.List.Sorted.{IsStrictlySortedBy}
use Rattle.std.specs.Map.{keys_of}
use Rattle.std.proofs.lemmas.List.{map-append, append-nil}
use Rattle.serde_json.specs.View.{view, items_of, items_view, members_view}
use Rattle.serde_json.specs.declared.value.Value as j
use Rattle.nf_value.specs.Plain.{Plain}
use Rattle.nf_value.specs.View.{plain_of, pair_of, rises, rising}
use Rattle.nf_value.specs.declared.value.Value.{Value}
use Rattle.nf_params.specs.Pointer.{part_text, escaped, IsUnder}
use Rattle.nf_params.specs.Params.{Pointed, and_then, under, plain_in, items_in, members_in, Gives}
use Rattle.nf_params.specs.declared.fault.ParamsFault.{ParamsFault}
use Rattle.nf_params.specs.declared.fault.ParamsFault.TheVariants.{BadParams, Mem}

abbrev pub Entry : Type 0
Entry = String Global × j.Value

-- ---- what was read before, and what the rest gives

abbrev pub after : {A : Type 0} → List A → Pointed (List A) → Pointed (List A)
after vs (Ok ws) = Ok (vs ++ ws)
after vs (Err p) = Err p

after_none : {A : Type 0} (r : Pointed (List A)) → r ≡ after [] r
after_none (Ok ws) = refl
after_none (Err p) = refl

after_one : {A : Type 0} (vs : List A) (v : A) (r : Pointed (List A)) → after vs (and_then r (λ ws. Ok (v ∷ ws))) ≡ after (vs ++ v ∷ []) r
after_one {A} vs v (Ok ws) = ap (λ (xs : List A). Ok xs) (sym (append_assoc vs (v ∷ []) ws))
after_one vs v (Err p) = refl

-- ---- items

-- these values were read, and the items from an index on are left
abbrev pub IsReadTo : ℕ → List j.Value → List Value → ℕ → Type 0
IsReadTo depth items values i = items_in depth 0 (items_view items) ≡ after (map plain_of values) (items_in depth i (items_view (drop i items)))

pub items_start : (depth : ℕ) (items : List j.Value) → IsReadTo depth items [] 0
items_start depth items = after_none (items_in depth 0 (items_view items))

item_left : (depth : ℕ) (items : List j.Value) (i : ℕ) (x : j.Value) → i < length items → x ≡ get_or items i x → items_in depth i (items_view (drop i items)) ≡ and_then (under (decimal i) (plain_in depth (view x))) (λ v. and_then (items_in depth (suc i) (items_view (drop (i + 1) items))) (λ vs. Ok (v ∷ vs)))
item_left depth items i x lt is = let e : drop i items ≡ x ∷ drop (i + 1) items = rw (add-one, drop-cons items i x, ← is) refl in ap (λ (l : List j.Value). items_in depth i (items_view l)) e

pub item_read : (depth : ℕ) (items : List j.Value) (values new : List Value) (i : ℕ) (x : j.Value) (v : Value) → i < length items → x ≡ get_or items i x → plain_in depth (view x) ≡ Ok (plain_of v) → new ≡ values ++ v ∷ [] → IsReadTo depth items values i → IsReadTo depth items new (i + 1)
item_read depth items values new i x v lt is due n inv =
    let one : suc i ≡ i + 1 = omega arith in
    inv
    ∙ ap (after (map plain_of values)) (item_left depth items i x lt is ∙ ap (λ (r : Pointed Plain). and_then (under (decimal i) r) (λ w. and_then (items_in depth (suc i) (items_view (drop (i + 1) items))) (λ vs. Ok (w ∷ vs)))) due)
    ∙ after_one (map plain_of values) (plain_of v) (items_in depth (suc i) (items_view (drop (i + 1) items)))
    ∙ ap (λ k. after (map plain_of values ++ plain_of v ∷ []) (items_in depth k (items_view (drop (i + 1) items)))) one
    ∙ ap (λ (l : List Plain). after l (items_in depth (i + 1) (items_view (drop (i + 1) items)))) (sym (ap (map plain_of) n ∙ map-append plain_of values (v ∷ [])))

pub item_refused : (depth : ℕ) (items : List j.Value) (values : List Value) (i : ℕ) (x : j.Value) (e f : ParamsFault) → i < length items → x ≡ get_or items i x → Gives plain_of (plain_in depth (view x)) (Err e) → IsUnder (decimal i) e f → IsReadTo depth items values i → Gives (λ (l : List Plain). l) (items_in depth 0 (items_view items)) (Err f)
item_refused depth items values i x e Mem lt is due h inv = tt
item_refused depth items values i x Mem (BadParams whole) lt is due h inv = absurd h
item_refused depth items values i x (BadParams p) (BadParams whole) lt is due h inv =
    inv
    ∙ ap (after (map plain_of values)) (item_left depth items i x lt is ∙ ap (λ (r : Pointed Plain). and_then (under (decimal i) r) (λ w. and_then (items_in depth (suc i) (items_view (drop (i + 1) items))) (λ vs. Ok (w ∷ vs)))) due)
    ∙ ap (λ (q : List ℕ). Err q) (sym h)

pub items_end : (depth : ℕ) (items : List j.Value) (values : List Value) (i : ℕ) → drop i items ≡ [] → IsReadTo depth items values i → items_in depth 0 (items_view items) ≡ Ok (map plain_of values)
items_end depth items values i none inv = inv ∙ ap (λ (l : List j.Value). after (map plain_of values) (items_in depth i (items_view l))) none ∙ ap (λ (l : List Plain). Ok l) (append-nil (map plain_of values))

-- ---- members

abbrev pub key_bytes : List Entry → List (List ℕ)
key_bytes = map (λ e. string_bytes e.0)

abbrev pub pair_keys : List (List ℕ × Plain) → List (List ℕ)
pair_keys = map (λ p. p.0)

-- these pairs were read, and the entries that are left
pub record AreReadTo (depth : ℕ) (entries : List Entry) (pairs : List (List ℕ × Plain)) (left : List Entry) : Type 0 where
  pub same : members_in depth (members_view entries) ≡ after pairs (members_in depth (members_view left))
  pub keys : pair_keys pairs ++ key_bytes left ≡ key_bytes entries

pub members_start : (depth : ℕ) (entries : List Entry) → AreReadTo depth entries [] entries
members_start depth entries = record { same = after_none (members_in depth (members_view entries)); keys = refl }

pub member_read : (depth : ℕ) (entries : List Entry) (pairs new : List (List ℕ × Plain)) (left rest : List Entry) (e : Entry) (v : Value) → left ≡ e ∷ rest → plain_in depth (view e.1) ≡ Ok (plain_of v) → new ≡ pairs ++ (string_bytes e.0, plain_of v) ∷ [] → AreReadTo depth entries pairs left → AreReadTo depth entries new rest
member_read depth entries pairs new left rest e v l due n inv =
    let p : List ℕ × Plain = (string_bytes e.0, plain_of v) in
    record {
      same =
          inv.same
          ∙ ap (λ (es : List Entry). after pairs (members_in depth (members_view es))) l
          ∙ ap (λ (r : Pointed Plain). after pairs (and_then (under (escaped (string_bytes e.0)) r) (λ w. and_then (members_in depth (members_view rest)) (λ ps. Ok ((string_bytes e.0, w) ∷ ps))))) due
          ∙ after_one pairs (string_bytes e.0, plain_of v) (members_in depth (members_view rest))
          ∙ ap (λ (ps : List (List ℕ × Plain)). after ps (members_in depth (members_view rest))) (sym n);
      keys =
          ap (λ (ps : List (List ℕ × Plain)). pair_keys ps ++ key_bytes rest) n
          ∙ ap (λ ks. ks ++ key_bytes rest) (map-append (λ (q : List ℕ × Plain). q.0) pairs ((string_bytes e.0, plain_of v) ∷ []))
          ∙ append_assoc (pair_keys pairs) (string_bytes e.0 ∷ []) (key_bytes rest)
          ∙ ap (λ (es : List Entry). pair_keys pairs ++ key_bytes es) (sym l)
          ∙ inv.keys;
    }

pub member_refused : (depth : ℕ) (entries : List Entry) (pairs : List (List ℕ × Plain)) (left rest : List Entry) (e : Entry) (f g : ParamsFault) → left ≡ e ∷ rest → Gives plain_of (plain_in depth (view e.1)) (Err f) → IsUnder (escaped (string_bytes e.0)) f g → AreReadTo depth entries pairs left → Gives (λ (l : List (List ℕ × Plain)). l) (members_in depth (members_view entries)) (Err g)
member_refused depth entries pairs left rest e f Mem l due h inv = tt
member_refused depth entries pairs left rest e Mem (BadParams whole) l due h inv = absurd h
member_refused depth entries pairs left rest e (BadParams p) (BadParams whole) l due h inv =
    inv.same
    ∙ ap (λ (es : List Entry). after pairs (members_in depth (members_view es))) l
    ∙ ap (λ (r : Pointed Plain). after pairs (and_then (under (escaped (string_bytes e.0)) r) (λ w. and_then (members_in depth (members_view rest)) (λ ps. Ok ((string_bytes e.0, w) ∷ ps))))) due
    ∙ ap (λ (q : List ℕ). Err q) (sym h)

pub members_end : (depth : ℕ) (entries : List Entry) (pairs : List (List ℕ × Plain)) (left : List Entry) → left ≡ [] → AreReadTo depth entries pairs left → members_in depth (members_view entries) ≡ Ok pairs
members_end depth entries pairs left none inv = inv.same ∙ ap (λ (es : List Entry). after pairs (members_in depth (members_view es))) none ∙ ap (λ (ps : List (List ℕ × Plain)). Ok ps) (append-nil pairs)

-- ---- keys rise

with_both : (a b : Bool) → a ≡ true → b ≡ true → (a && b) ≡ true
with_both a b ea eb = rw (ea, eb) refl

-- the keys of pairs rise as those of the entries do
rises_as : (k : String Global) (entries : List Entry) (pairs : List (List ℕ × Plain)) → pair_keys pairs ≡ key_bytes entries → AllByRecursion (λ y. string_cmp k y ≡ Less) (keys_of entries) → IsStrictlySortedBy string_cmp (keys_of entries) → rises (string_bytes k) pairs ≡ true
unfolding IsStrictlySortedBy
rises_as k [] [] same above sorted = refl
rises_as k [] (p ∷ ps) same above sorted = cc
rises_as k (e ∷ es) [] same above sorted = cc
rises_as k (e ∷ es) (p ∷ ps) same above sorted =
    let head : p.0 ≡ string_bytes e.0 = cc in
    let tail : pair_keys ps ≡ key_bytes es = cc in
    let first : is_lt (slice_cmp nat_cmp (string_bytes k) p.0) ≡ true = ap (λ l. is_lt (slice_cmp nat_cmp (string_bytes k) l)) head ∙ ap is_lt above.0 in
    with_both _ _ first (ap (λ l. rises l ps) head ∙ rises_as e.0 es ps tail sorted.0 sorted.1)

pub rising_as : (entries : List Entry) (pairs : List (List ℕ × Plain)) → pair_keys pairs ≡ key_bytes entries → IsStrictlySortedBy string_cmp (keys_of entries) → rising pairs ≡ true
unfolding IsStrictlySortedBy
rising_as [] [] same sorted = refl
rising_as [] (p ∷ ps) same sorted = cc
rising_as (e ∷ es) [] same sorted = cc
rising_as (e ∷ es) (p ∷ ps) same sorted =
    let head : p.0 ≡ string_bytes e.0 = cc in
    let tail : pair_keys ps ≡ key_bytes es = cc in
    ap (λ l. rises l ps) head ∙ rises_as e.0 es ps tail sorted.0 sorted.1

-- when nothing is left, the keys of the pairs rise
pub rising_at_end : (entries : List Entry) (pairs : List (List ℕ × Plain)) (left : List Entry) → left ≡ [] → pair_keys pairs ++ key_bytes left ≡ key_bytes entries → IsStrictlySortedBy string_cmp (keys_of entries) → rising pairs ≡ true
rising_at_end entries pairs left none keys sorted = rising_as entries pairs (sym (append-nil (pair_keys pairs)) ∙ ap (λ (es : List Entry). pair_keys pairs ++ key_bytes es) (sym none) ∙ keys) sorted
