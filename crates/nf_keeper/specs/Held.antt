-- What a keeper holds, and what a put leaves. A key is the bytes of a digest.
use Rattle.std.specs.Prelude.{◌≡◌, ◌⊎◌, ℕ, List, take, if◌then◌else◌, Result, MatchResult, None, Some, bytes_eq}
use Rattle.std.specs.declared.option.Option.{Option}
use Rattle.nf_host.specs.Told as told

-- the bytes at each key that holds some
abbrev pub Held : Type 0
Held = List ℕ → Option (List ℕ)

-- no key holds bytes
abbrev pub nothing_held : Held
nothing_held = λ key. None

-- the same, with these bytes at this key
abbrev pub put : Held → List ℕ → List ℕ → Held
put m key bytes = λ q. if bytes_eq key q then Some bytes else m q

-- both hold the same
abbrev pub HoldTheSame : Held → Held → Type 0
HoldTheSame m n = (q : List ℕ) → n q ≡ m q

-- n is m with these bytes at this key
abbrev pub IsPut : Held → List ℕ → List ℕ → Held → Type 0
IsPut m key bytes n = HoldTheSame (put m key bytes) n

-- what a put that failed or was stopped may leave: n is as m was, or holds a front of the bytes at the key
abbrev pub IsStopImage : Held → List ℕ → List ℕ → Held → Type 0
IsStopImage m key bytes n = HoldTheSame m n ⊎ ((k : ℕ) × IsPut m key (take k bytes) n)

-- what a put with this answer leaves
abbrev pub Leaves : {T E : Type 0} → List ℕ → List ℕ → Result T E → Held → Held → Type 0
Leaves key bytes answer m n = MatchResult answer (λ _. IsPut m key bytes n) (λ _. IsStopImage m key bytes n)

-- P of two contents, if both are told; otherwise neither is
abbrev pub Both : {A : Type 0} → Option A → Option A → (A → A → Type 0) → Type 0
Both a b P = told.Both a b P
