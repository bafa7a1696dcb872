-- Members that a loop reads one after another.
use Rattle.std.proofs.Common.{◌≡◌, ℕ, zero, suc, ◌-◌, ◌<◌, ◌≤◌, ◌++◌, List, [], ◌∷◌, length, drop, refl, ap, sym, ◌∙◌, arith, Ok, Err}
use Rattle.nf_codec.specs.Reading.{Reading, ReadFault, no_value, too_deep, and_then, series, ReadsBy}
use Rattle.nf_codec.specs.declared.fault.CodeFault.{CodeFault}
use Rattle.nf_codec.specs.declared.fault.CodeFault.TheVariants.{NotAValue, TooDeep, Mem}

-- where a member was read, and then the rest
abbrev pub prepend : {A : Type 0} → A → Reading (List A) → Reading (List A)
prepend a o = and_then o (λ ms rest. Ok (a ∷ ms, rest))

-- where some members were read, and then the rest
abbrev pub ahead : {A : Type 0} → List A → Reading (List A) → Reading (List A)
ahead [] o = o
ahead (a ∷ ms) o = prepend a (ahead ms o)

ahead_snoc : {A : Type 0} (ms : List A) (a : A) (o : Reading (List A)) → ahead (ms ++ a ∷ []) o ≡ ahead ms (prepend a o)
ahead_snoc [] a o = refl
ahead_snoc (b ∷ ms) a o = ap (prepend b) (ahead_snoc ms a o)

ahead_ok : {A : Type 0} (ms : List A) (rest : List ℕ) → ahead ms (Ok ([], rest)) ≡ Ok (ms, rest)
ahead_ok [] rest = refl
ahead_ok (b ∷ ms) rest = ap (prepend b) (ahead_ok ms rest)

ahead_err : {A : Type 0} (ms : List A) (e : ReadFault) → ahead ms (Err e) ≡ Err e
ahead_err [] e = refl
ahead_err (b ∷ ms) e = ap (prepend b) (ahead_err ms e)

series_ok : {A S : Type 0} (f : S → List ℕ → Reading A) (next : A → S) (n : ℕ) (s : S) (bs rest : List ℕ) (a : A) → 0 < n → f s bs ≡ Ok (a, rest) → series f next n s bs ≡ prepend a (series f next (n - 1) (next a) rest)
series_ok f next zero s bs rest a h e = absurd (omega arith)
series_ok f next (suc n) s bs rest a h e =
    ap (λ o. and_then o (λ b r. prepend b (series f next n (next b) r))) e ∙ ap (λ m. prepend a (series f next m (next a) rest)) (omega arith)

series_bad : {A S : Type 0} (f : S → List ℕ → Reading A) (next : A → S) (n : ℕ) (s : S) (bs : List ℕ) (e : ReadFault) → 0 < n → f s bs ≡ Err e → series f next n s bs ≡ Err e
series_bad f next zero s bs e h is = absurd (omega arith)
series_bad f next (suc n) s bs e h is = ap (λ o. and_then o (λ b r. prepend b (series f next n (next b) r))) is

pub reads_ok : {A B : Type 0} (view : B → A) (bytes : List ℕ) (o : Reading A) (q : B × ℕ) → ReadsBy view bytes o (Ok q) → (o ≡ Ok (view q.0, drop q.1 bytes)) × (q.1 ≤ length bytes)
reads_ok view bytes (Ok p) q h = (λ i. Ok (h.0 i, h.1 i), h.2)
reads_ok view bytes (Err (no_value k)) q h = absurd h
reads_ok view bytes (Err (too_deep k)) q h = absurd h

pub mem_any : {A B : Type 0} (view : B → A) (bytes : List ℕ) (o : Reading A) → ReadsBy view bytes o (Err Mem)
mem_any view bytes (Ok p) = tt
mem_any view bytes (Err (no_value k)) = tt
mem_any view bytes (Err (too_deep k)) = tt

-- a fault of a part is that of the whole
pub same_fault : {A B C D : Type 0} (view : B → A) (all : D → C) (bytes : List ℕ) (o : Reading A) (whole : Reading C) (fault : CodeFault) → ((e : ReadFault) → o ≡ Err e → whole ≡ Err e) → ReadsBy view bytes o (Err fault) → ReadsBy all bytes whole (Err fault)
same_fault view all bytes o whole Mem h r = mem_any all bytes whole
same_fault view all bytes (Ok p) whole (NotAValue at) h r = absurd r
same_fault view all bytes (Ok p) whole (TooDeep at) h r = absurd r
same_fault view all bytes (Err (no_value k)) whole (NotAValue at) h r = rw (h (no_value k) refl) r
same_fault view all bytes (Err (no_value k)) whole (TooDeep at) h r = absurd r
same_fault view all bytes (Err (too_deep k)) whole (NotAValue at) h r = absurd r
same_fault view all bytes (Err (too_deep k)) whole (TooDeep at) h r = rw (h (too_deep k) refl) r

pub series_fault : {A B D S : Type 0} (view : B → A) (all : D → List A) (bytes : List ℕ) (f : S → List ℕ → Reading A) (next : A → S) (n : ℕ) (s : S) (bs : List ℕ) (whole : Reading (List A)) (ms : List A) (fault : CodeFault) → whole ≡ ahead ms (series f next n s bs) → 0 < n → ReadsBy view bytes (f s bs) (Err fault) → ReadsBy all bytes whole (Err fault)
series_fault view all bytes f next n s bs whole ms fault is h r =
    same_fault view all bytes (f s bs) whole fault (λ e at. is ∙ ap (ahead ms) (series_bad f next n s bs e h at) ∙ ahead_err ms e) r

pub series_more : {A B S : Type 0} (view : B → A) (bytes : List ℕ) (f : S → List ℕ → Reading A) (next : A → S) (n : ℕ) (s : S) (bs : List ℕ) (whole : Reading (List A)) (ms : List A) (q : B × ℕ) → whole ≡ ahead ms (series f next n s bs) → 0 < n → ReadsBy view bytes (f s bs) (Ok q)
    → whole ≡ ahead (ms ++ view q.0 ∷ []) (series f next (n - 1) (next (view q.0)) (drop q.1 bytes))
series_more view bytes f next n s bs whole ms q is h r =
    is ∙ ap (ahead ms) (series_ok f next n s bs (drop q.1 bytes) (view q.0) h (reads_ok view bytes (f s bs) q r).0) ∙ sym (ahead_snoc ms (view q.0) (series f next (n - 1) (next (view q.0)) (drop q.1 bytes)))

pub series_end : {A S : Type 0} (bytes : List ℕ) (f : S → List ℕ → Reading A) (step : A → S) (n : ℕ) (s : S) (whole : Reading (List A)) (ms : List A) (next : ℕ) → whole ≡ ahead ms (series f step n s (drop next bytes)) → n ≡ 0 → next ≤ length bytes → ReadsBy (λ xs. xs) bytes whole (Ok (ms, next))
series_end bytes f step n s whole ms next is none fits =
    let whole_is : whole ≡ Ok (ms, drop next bytes) = is ∙ ap (λ m. ahead ms (series f step m s (drop next bytes))) none ∙ ahead_ok ms (drop next bytes) in
    rw whole_is (refl, refl, fits)
