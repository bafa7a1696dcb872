-- The last of several tables that has a name, by its place.
use Rattle.std.proofs.Common.{◌≡◌, ◌<◌, ℕ, zero, suc, true, false, List, [], ◌∷◌, ◌++◌, map, length, take, drop, get_or, is_some, string_bytes, Some, refl, sym, ◌∙◌, ap, subst, arith}
use Rattle.std.specs.Prelude.{String}
use Rattle.std.specs.Global.{Global}
use Rattle.std.specs.HashMap.{HashMap, UpdatesBy}
use Rattle.std.specs.String.{string_eq}
use Rattle.std.proofs.lemmas.Map.Text.{hash_map_updates_text}
use Rattle.std.proofs.Math.ListN.{set}
use Rattle.std.proofs.lemmas.List.{map-append, map-set, length-map}
use Rattle.std.proofs.Math.Seq.{drop-cons, drop-length}
use Rattle.nf_scopes.specs.declared.things.Thing.{Thing}
use Rattle.nf_scopes.specs.Tables.{Table, held, Puts, NoneHas}
use Rattle.nf_scopes.specs.Last.{IsLast}

-- a list around one of its places
pub parted : (ess : List Table) (i : ℕ) → i < length ess → ess ≡ take i ess ++ get_or ess i [] ∷ drop (suc i) ess
parted [] i h = absurd (omega (arith, h))
parted (es ∷ ess) zero h = refl
parted (es ∷ ess) (suc i) h = ap (λ xs. es ∷ xs) (parted ess i (omega (arith, h)))

pub none_after : (key : List ℕ) (xs ys : List Table) → NoneHas key xs → NoneHas key ys → NoneHas key (xs ++ ys)
none_after key [] ys h k = k
none_after key (x ∷ xs) ys h k = (h.0, none_after key xs ys h.1 k)

one_less : (key : List ℕ) (ess : List Table) (i : ℕ) → i < length ess → is_some (held key (get_or ess i [])) ≡ false → NoneHas key (drop (suc i) ess) → NoneHas key (drop i ess)
one_less key ess i h e n = subst (NoneHas key) (sym (drop-cons ess i [] h)) (e, n)

-- ---- tables in memory

abbrev Stored : Type 0 → Type 0
Stored S = HashMap (String Global) Thing S

abbrev pub entries_of : {S : Type 0} → Stored S → Table
entries_of m = m.entries

pub puts_of : {S : Type 0} (m n : Stored S) (k : String Global) (key : List ℕ) (t : Thing) → string_bytes k ≡ key → UpdatesBy string_eq (string_eq k) m n (Some t) → Puts key t m.entries n.entries
puts_of m n k key t same h = subst (λ q. Puts q t m.entries n.entries) same (λ cs. hash_map_updates_text (string_bytes k) m n (Some t) h cs)

pub one_table_more : {S : Type 0} (old new : List (Stored S)) (m n : Stored S) → new ≡ old ++ n ∷ [] → n ≡ m → map entries_of new ≡ map entries_of old ++ m.entries ∷ []
one_table_more old new m n h same = ap (map entries_of) h ∙ map-append entries_of old (n ∷ []) ∙ ap (λ k. map entries_of old ++ entries_of k ∷ []) same

pub entries_at : {S : Type 0} (ms : List (Stored S)) (i : ℕ) (m : Stored S) → i < length ms → m ≡ get_or ms i m → get_or (map entries_of ms) i [] ≡ m.entries
entries_at [] i m h is = absurd (omega (arith, h))
entries_at (x ∷ xs) zero m h is = ap entries_of (sym is)
entries_at (x ∷ xs) (suc i) m h is = entries_at xs i m (omega (arith, h)) is

pub last_is : {S : Type 0} (key : List ℕ) (ms : List (Stored S)) (i : ℕ) (m : Stored S) → i < length ms → m ≡ get_or ms i m → is_some (held key m.entries) ≡ true → NoneHas key (drop (suc i) (map entries_of ms))
    → IsLast key i (map entries_of ms)
last_is key ms i m h is e n = record {
  place = omega (arith, h, length-map ms entries_of);
  here = ap (λ es. is_some (held key es)) (entries_at ms i m h is) ∙ e;
  later = n;
}

pub one_table_less : {S : Type 0} (key : List ℕ) (ms : List (Stored S)) (i : ℕ) (m : Stored S) → i < length ms → m ≡ get_or ms i m → is_some (held key m.entries) ≡ false → NoneHas key (drop (suc i) (map entries_of ms))
    → NoneHas key (drop i (map entries_of ms))
one_table_less key ms i m h is e n = one_less key (map entries_of ms) i (omega (arith, h, length-map ms entries_of)) (ap (λ es. is_some (held key es)) (entries_at ms i m h is) ∙ e) n

pub none_beyond : {S : Type 0} (key : List ℕ) (ms : List (Stored S)) (k : ℕ) → k ≡ length ms → NoneHas key (drop k (map entries_of ms))
none_beyond key ms k h =
    let none : drop k (map entries_of ms) ≡ [] = ap (λ j. drop j (map entries_of ms)) (h ∙ sym (length-map ms entries_of)) ∙ drop-length (map entries_of ms) in
    subst (NoneHas key) (sym none) tt

set_parts : (ess : List Table) (i : ℕ) (es : Table) → i < length ess → set ess i es ≡ take i ess ++ es ∷ drop (suc i) ess
set_parts [] i es h = absurd (omega (arith, h))
set_parts (x ∷ xs) zero es h = refl
set_parts (x ∷ xs) (suc i) es h = ap (λ ys. x ∷ ys) (set_parts xs i es (omega (arith, h)))

-- tables of which one is another
pub one_table_set : {S : Type 0} (ms : List (Stored S)) (i : ℕ) (m : Stored S) → i < length ms → map entries_of (set ms i m) ≡ take i (map entries_of ms) ++ m.entries ∷ drop (suc i) (map entries_of ms)
one_table_set ms i m h = map-set entries_of ms i m ∙ set_parts (map entries_of ms) i m.entries (omega (arith, h, length-map ms entries_of))

-- what the last table with a name is
pub last_at : {S : Type 0} (key : List ℕ) (xs ms : List (Stored S)) (i : ℕ) → xs ≡ ms → IsLast key i (map entries_of xs) → IsLast key i (map entries_of ms)
last_at key xs ms i same h = subst (λ ys. IsLast key i (map entries_of ys)) same h

pub within : {S : Type 0} (key : List ℕ) (ms : List (Stored S)) (i : ℕ) → IsLast key i (map entries_of ms) → i < length ms
within key ms i h = omega (arith, h.place, length-map ms entries_of)
