-- Whole runs on several lanes.
use Rattle.std.proofs.Common.{◌≡◌, ℕ, ◌+◌, ◌<◌, List, [], ap, sym, ◌∙◌, subst, arith, length, map}
use Rattle.std.specs.Prelude.{Option, count_by}
use Rattle.std.proofs.lemmas.List.{length-map}
use Rattle.nf_keeper.specs.Held.{Held}
use Rattle.nf_flow.specs.Seen.{Seen, events_of, plain_of}
use Rattle.nf_core.specs.Opening.{LaneTold, Opening}
use Rattle.nf_core.specs.Promises.{Keeps, Promises}
use Rattle.nf_serial.specs.Serial.{is_start}
use Rattle.nf_locked.specs.Locked.{failures_of, is_failure, starts_of}
use Rattle.nf_pool.specs.Pool.{AreFirst}
use Rattle.nf_pool.proofs.Lanes.{first_whole}

-- before its first event a run has no Start and no failure
pub no_starts : (z f : Seen) → f ≡ z → z.history ≡ [] → starts_of f ≡ 0
no_starts z f same begun = ap (λ (y : Seen). count_by is_start y.history) same ∙ ap (count_by is_start) begun

pub no_failures : (z f : Seen) → f ≡ z → z.history ≡ [] → failures_of f ≡ 0
no_failures z f same begun = ap (λ (y : Seen). count_by is_failure y.history) same ∙ ap (count_by is_failure) begun

-- the lanes that are handed in are those of the opening
pub lanes_are : {X : Type 0} (f : X → LaneTold) (xs : List X) (ys : List LaneTold) → map f xs ≡ ys → AreFirst (map f xs) ys
lanes_are f xs ys same = subst (AreFirst (map f xs)) same (first_whole (map f xs))

pub lanes_len : {X : Type 0} (f : X → LaneTold) (xs : List X) (ys : List LaneTold) (n m : ℕ) → map f xs ≡ ys → n ≡ m → m ≡ length xs → n ≡ length ys
lanes_len f xs ys n m same a b = let p = ap (λ (zs : List LaneTold). length zs) same in let q = length-map xs f in omega (arith, p, q, a, b)

-- a run under another name has as many Starts and failures
pub starts_there : (z f : Seen) → f ≡ z → (m n : ℕ) → m ≡ n + starts_of z → m ≡ n + starts_of f
starts_there z f same m n is = subst (λ (y : Seen). m ≡ n + starts_of y) (sym same) is

pub failures_there : {P : Type 0} (z f : Seen) → f ≡ z → (0 < failures_of z → P) → 0 < failures_of f → P
failures_there {P} z f same h = subst (λ (y : Seen). 0 < failures_of y → P) (sym same) h

-- what is promised of a run holds of it under another name
pub promised_there : (F : Opening) (z f : Seen) → f ≡ z → Promises F (plain_of z) (events_of z) → Promises F (plain_of f) (events_of f)
promised_there F z f same h = subst (λ (y : Seen). Promises F (plain_of y) (events_of y)) (sym same) h

pub kept_there : (F : Opening) (held : Option Held) (z f : Seen) → f ≡ z → Keeps F (plain_of z) (events_of z) held → Keeps F (plain_of f) (events_of f) held
kept_there F held z f same h = subst (λ (y : Seen). Keeps F (plain_of y) (events_of y) held) (sym same) h
