-- What each function of `read.rt` reads, by its position in the bytes.
use Rattle.std.proofs.Common.{◌≡◌, ℕ, ◌+◌, ◌-◌, ◌<◌, ◌≤◌, List, length, take, drop, Bool, true, false, cond, Option, Some, None, Ok, Err, refl, ap, sym, ◌∙◌, subst, ⊎_elim, arith}
use Rattle.std.proofs.lemmas.Bool.{cases_Bool, true≢false}
use Rattle.std.proofs.lemmas.List.{length-drop}
use Rattle.std.specs.declared.result.Result.{Result}
use Rattle.nf_value.specs.Plain.{Plain}
use Rattle.nf_value.specs.View.{pair_of}
use Rattle.nf_value.specs.declared.value.Value.{Value}
use Rattle.nf_codec.specs.declared.head.Head.{Head as CodeHead}
use Rattle.nf_codec.specs.declared.fault.CodeFault.{CodeFault}
use Rattle.nf_codec.specs.declared.fault.CodeFault.TheVariants.{NotAValue}
use Rattle.nf_codec.specs.Heads.{Head, head_at}
use Rattle.nf_codec.specs.Fronts.{IsHeadAt, head_of}
use Rattle.nf_codec.specs.Reading.{Reading, no_value, and_then, is_above, text_of, key_as, key_from, pair_from, opened, met, read, inner, Reads, ReadsBy}
use Rattle.nf_codec.proofs.Numbers.{tail_is}
use Rattle.nf_codec.proofs.Heads.{rest_of}
use Rattle.nf_codec.proofs.Series.{same_fault}
use Rattle.nf_codec.proofs.Eats.{opened_alike, read_is}

none_read : (bytes : List ℕ) (at left : ℕ) → head_at (drop at bytes) ≡ None → read left (drop at bytes) ≡ Err (no_value (length bytes - at))
none_read bytes at left is = read_is left (drop at bytes) ∙ ap (met (inner left) (length (drop at bytes))) is ∙ ap (λ k. Err (no_value k)) (length-drop at bytes)

pub value_none : (bytes part : List ℕ) (at left : ℕ) → part ≡ take (length bytes - at) (drop at bytes) → at ≤ length bytes → head_at part ≡ None → Reads bytes (read left (drop at bytes)) (Err (NotAValue at))
value_none bytes part at left is fits none =
    let r = none_read bytes at left (ap head_at (sym (is ∙ tail_is bytes at)) ∙ none) in
    rw r (omega arith)

found_read : (bytes part : List ℕ) (at left used : ℕ) (h : CodeHead) → part ≡ take (length bytes - at) (drop at bytes) → at ≤ length bytes → length bytes < 18446744073709551615 → IsHeadAt (head_at part) part h used
    → read left (drop at bytes) ≡ opened (inner left) (length bytes - at) (head_of h) (drop (at + used) bytes)
found_read bytes part at left used h is fits small found =
    let front : head_at (drop at bytes) ≡ Some (found.head, drop (at + used) bytes) = ap head_at (sym (is ∙ tail_is bytes at)) ∙ found.is ∙ (λ i. Some (found.head, rest_of bytes part at used is i)) in
    read_is left (drop at bytes) ∙ ap (met (inner left) (length (drop at bytes))) front ∙ ap (λ k. opened (inner left) k found.head (drop (at + used) bytes)) (length-drop at bytes)
    ∙ opened_alike left (length bytes - at) found.head h (drop (at + used) bytes) found.alike (omega (arith, length-drop (at + used) bytes))

pub value_found : (bytes part : List ℕ) (at left used : ℕ) (h : CodeHead) (r : Result (Value × ℕ) CodeFault) → part ≡ take (length bytes - at) (drop at bytes) → at ≤ length bytes → length bytes < 18446744073709551615 → IsHeadAt (head_at part) part h used
    → Reads bytes (opened (inner left) (length bytes - at) (head_of h) (drop (at + used) bytes)) r → Reads bytes (read left (drop at bytes)) r
value_found bytes part at left used h r is fits small found reads = rw (found_read bytes part at left used h is fits small found) reads

pub pair_fault : (bytes : List ℕ) (f : List ℕ → Reading Plain) (before : Option (List ℕ)) (at : ℕ) (fault : CodeFault) → ReadsBy (λ k. k) bytes (key_from before (length bytes - at) (head_at (drop at bytes))) (Err fault) → ReadsBy pair_of bytes (pair_from f before (drop at bytes)) (Err fault)
pair_fault bytes f before at fault r =
    same_fault (λ k. k) pair_of bytes (key_from before (length bytes - at) (head_at (drop at bytes))) (pair_from f before (drop at bytes)) fault
    (λ e is. ap (λ o. and_then o (λ k rest. and_then (f rest) (λ v rest'. Ok ((k, v), rest')))) (ap (λ n. key_from before n (head_at (drop at bytes))) (length-drop at bytes) ∙ is)) r

abbrev key_in : {A : Type 0} → A → Reading A → A
key_in d (Ok q) = q.0
key_in d (Err e) = d

abbrev is_read : {A : Type 0} → Reading A → Bool
is_read (Ok q) = true
is_read (Err e) = false

abbrev pub choice : ℕ → List ℕ → List ℕ → Bool → Reading (List ℕ)
choice left j rest b = cond b (Ok (j, rest)) (Err (no_value left))

key_above : (before : Option (List ℕ)) (left : ℕ) (o : Option (Head × List ℕ)) (k rest : List ℕ) → key_from before left o ≡ Ok (k, rest) → is_above before k ≡ true
key_above before left None k rest e = absurd (true≢false (sym (ap is_read e)))
key_above before left (Some p) k rest e = by (text_of p.0) e
  where
    chosen : (j : List ℕ) → choice left j p.1 (is_above before j) ≡ Ok (k, rest) → is_above before k ≡ true
    chosen j h =
        ⊎_elim
        (λ t. subst (λ m. is_above before m ≡ true) (ap (key_in k) (sym (ap (choice left j p.1) t) ∙ h)) t)
        (λ f. absurd (true≢false (sym (ap is_read (sym (ap (choice left j p.1) f) ∙ h)))))
        (cases_Bool (is_above before j))

    by : (t : Option (List ℕ)) → key_as before left t p.1 ≡ Ok (k, rest) → is_above before k ≡ true
    by None h = absurd (true≢false (sym (ap is_read h)))
    by (Some j) h = chosen j h

pub pair_above : (f : List ℕ → Reading Plain) (before : Option (List ℕ)) (bs : List ℕ) (p : List ℕ × Plain) (rest : List ℕ) → pair_from f before bs ≡ Ok (p, rest) → is_above before p.0 ≡ true
pair_above f before bs p rest h = by (key_from before (length bs) (head_at bs)) refl h
  where
    valued : (k : List ℕ) (o : Reading Plain) → and_then o (λ v rest'. Ok ((k, v), rest')) ≡ Ok (p, rest) → k ≡ p.0
    valued k (Ok q) e = ap (λ r. (key_in p r).0) e
    valued k (Err x) e = absurd (true≢false (sym (ap is_read e)))

    by : (o : Reading (List ℕ)) → key_from before (length bs) (head_at bs) ≡ o → and_then o (λ k rest. and_then (f rest) (λ v rest'. Ok ((k, v), rest'))) ≡ Ok (p, rest) → is_above before p.0 ≡ true
    by (Ok q) is e = subst (λ k. is_above before k ≡ true) (valued q.0 (f q.1) e) (key_above before (length bs) (head_at bs) q.0 q.1 is)
    by (Err x) is e = absurd (true≢false (sym (ap is_read e)))
