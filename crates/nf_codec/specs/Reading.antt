-- Reading values from the front, a list or map before its members. A fault has the count of bytes from its value on.
use Rattle.std.specs.Prelude.{◌≡◌, ℕ, zero, suc, ◌+◌, ◌≤◌, drop, List, [], ◌∷◌, length, Bool, true, Option, Some, None, if◌then◌else◌, Ok, Err}
use Rattle.std.specs.declared.result.Result.{Result}
use Rattle.std.specs.Ordering.{nat_cmp, is_lt}
use Rattle.std.specs.Cmp.Lexicographic.{slice_cmp}
use Rattle.nf_value.specs.Plain.{Plain, text, list, table, plains_of, plain_pairs_of}
use Rattle.nf_value.specs.Code.{code}
use Rattle.nf_value.specs.View.{plain_of}
use Rattle.nf_value.specs.declared.value.Value.{Value}
use Rattle.nf_codec.specs.declared.fault.CodeFault.{CodeFault}
use Rattle.nf_codec.specs.declared.fault.CodeFault.TheVariants.{NotAValue, TooDeep, Mem}
use Rattle.nf_codec.specs.Heads.{Head, whole, list_of, table_of, head_at}

pub data ReadFault : Type 0 where
  -- there is no head, or a key is no text above the key before
  no_value : ℕ → ReadFault
  -- a list or map is too deep
  too_deep : ℕ → ReadFault

-- what was read, and the bytes after it
abbrev pub Reading : Type 0 → Type 0
Reading A = Result (A × List ℕ) ReadFault

-- reading goes on with what was read
abbrev pub and_then : {A B : Type 0} → Reading A → (A → List ℕ → Reading B) → Reading B
and_then (Ok p) g = g p.0 p.1
and_then (Err e) g = Err e

-- n members, one after another, each read by f; s is what f knows of the member before
abbrev pub series : {A S : Type 0} → (S → List ℕ → Reading A) → (A → S) → ℕ → S → List ℕ → Reading (List A)
series f next zero s bs = Ok ([], bs)
series f next (suc n) s bs = and_then (f s bs) (λ a rest. and_then (series f next n (next a) rest) (λ ms rest'. Ok (a ∷ ms, rest')))

-- n values
abbrev pub many : (List ℕ → Reading Plain) → ℕ → List ℕ → Reading (List Plain)
many f n bs = series (λ (s : Unit {0}). f) (λ v. tt {0}) n (tt {0}) bs

abbrev pub is_above : Option (List ℕ) → List ℕ → Bool
is_above None k = true
is_above (Some j) k = is_lt (slice_cmp nat_cmp j k)

abbrev pub text_of : Head → Option (List ℕ)
text_of (whole (text t)) = Some t
text_of _ = None

abbrev pub key_as : Option (List ℕ) → ℕ → Option (List ℕ) → List ℕ → Reading (List ℕ)
key_as before left None rest = Err (no_value left)
key_as before left (Some k) rest = if is_above before k then Ok (k, rest) else Err (no_value left)

-- a key: a text above the key before
abbrev pub key_from : Option (List ℕ) → ℕ → Option (Head × List ℕ) → Reading (List ℕ)
key_from before left None = Err (no_value left)
key_from before left (Some p) = key_as before left (text_of p.0) p.1

-- a key and its value
abbrev pub pair_from : (List ℕ → Reading Plain) → Option (List ℕ) → List ℕ → Reading (List ℕ × Plain)
pair_from f before bs = and_then (key_from before (length bs) (head_at bs)) (λ k rest. and_then (f rest) (λ v rest'. Ok ((k, v), rest')))

-- n pairs, whose keys rise
abbrev pub many_pairs : (List ℕ → Reading Plain) → ℕ → Option (List ℕ) → List ℕ → Reading (List (List ℕ × Plain))
many_pairs f n before bs = series (pair_from f) (λ p. Some p.0) n before bs

-- the value of a head. f reads its members; without f no list or map is allowed here
abbrev pub opened : Option (List ℕ → Reading Plain) → ℕ → Head → List ℕ → Reading Plain
opened f left (whole v) rest = Ok (v, rest)
opened None left (list_of n) rest = Err (too_deep left)
opened None left (table_of n) rest = Err (too_deep left)
opened (Some f) left (list_of n) rest = and_then (many f n rest) (λ vs rest'. Ok (list (plains_of vs), rest'))
opened (Some f) left (table_of n) rest = and_then (many_pairs f n None rest) (λ ps rest'. Ok (table (plain_pairs_of ps), rest'))

abbrev pub met : Option (List ℕ → Reading Plain) → ℕ → Option (Head × List ℕ) → Reading Plain
met f left None = Err (no_value left)
met f left (Some p) = opened f left p.0 p.1

abbrev pub step : Option (List ℕ → Reading Plain) → List ℕ → Reading Plain
step f bs = met f (length bs) (head_at bs)

-- one value, of at most this depth
unfoldable pub read : ℕ → List ℕ → Reading Plain
read zero bs = step None bs
read (suc d) bs = step (Some (read d)) bs

-- how the members of a list or map at this depth are read
abbrev pub inner : ℕ → Option (List ℕ → Reading Plain)
inner zero = None
inner (suc d) = Some (read d)

-- a call answers a reading of these bytes: the value and the count of bytes before the rest, or the place of the fault
abbrev pub ReadsBy : {A B : Type 0} → (B → A) → List ℕ → Reading A → Result (B × ℕ) CodeFault → Type 0
ReadsBy view bytes (Ok p) (Ok q) = (p.0 ≡ view q.0) × (p.1 ≡ drop q.1 bytes) × (q.1 ≤ length bytes)
ReadsBy view bytes (Ok p) (Err (NotAValue at)) = ⊥
ReadsBy view bytes (Ok p) (Err (TooDeep at)) = ⊥
ReadsBy view bytes (Ok p) (Err Mem) = Unit {0}
ReadsBy view bytes (Err (no_value k)) (Ok q) = ⊥
ReadsBy view bytes (Err (no_value k)) (Err (NotAValue at)) = k + at ≡ length bytes
ReadsBy view bytes (Err (no_value k)) (Err (TooDeep at)) = ⊥
ReadsBy view bytes (Err (no_value k)) (Err Mem) = Unit {0}
ReadsBy view bytes (Err (too_deep k)) (Ok q) = ⊥
ReadsBy view bytes (Err (too_deep k)) (Err (NotAValue at)) = ⊥
ReadsBy view bytes (Err (too_deep k)) (Err (TooDeep at)) = k + at ≡ length bytes
ReadsBy view bytes (Err (too_deep k)) (Err Mem) = Unit {0}

abbrev pub Reads : List ℕ → Reading Plain → Result (Value × ℕ) CodeFault → Type 0
Reads = ReadsBy plain_of

-- the answer is v and the length of its code, unless memory ran out
abbrev pub IsGivenBack : Plain → Result (Value × ℕ) CodeFault → Type 0
IsGivenBack v (Ok q) = (v ≡ plain_of q.0) × (q.1 ≡ length (code v))
IsGivenBack v (Err Mem) = Unit {0}
IsGivenBack v (Err (NotAValue at)) = ⊥
IsGivenBack v (Err (TooDeep at)) = ⊥
