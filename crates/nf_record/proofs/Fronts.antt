-- No proper front of a record is a record.
use Rattle.std.proofs.Common.{◌≡◌, ℕ, ◌<◌, ◌^◌, List, [], ◌++◌, length, take, drop, Option, None, Some, refl, ap, sym, ◌∙◌, arith, append-nil, length-drop, length-take}
use Rattle.std.proofs.lemmas.List.{take-append-drop}
use Rattle.nf_value.specs.Plain.{Plain}
use Rattle.nf_value.specs.Code.{code}
use Rattle.nf_codec.specs.Whole.{IsWhole}
use Rattle.nf_record.specs.declared.stored.Record.{Record}
use Rattle.nf_record.specs.Record.{record_plain, record_code}
use Rattle.nf_record.specs.Reading.{record_in}
use Rattle.nf_record.specs.Laws.{OnlyRecordsAreRead, NoFrontIsARecord, NoFrontIsRead}

-- no code is the front of another value's code
abbrev pub CodesDiffer : Type 0
CodesDiffer = (v w : Plain) (r s : List ℕ) → IsWhole v → IsWhole w → code v ++ r ≡ code w ++ s → (v ≡ w) × (r ≡ s)

pub no_front : CodesDiffer → NoFrontIsARecord
unfolding record_code
no_front differ r s n w short h =
    let all = code (record_plain r) in
    let joined : code (record_plain s) ++ drop n all ≡ all ++ [] = ap (λ bs. bs ++ drop n all) (sym h.spelled) ∙ take-append-drop n all ∙ sym (append-nil all) in
    let rest : drop n all ≡ [] = (differ (record_plain s) (record_plain r) (drop n all) [] h.well_formed.whole w.whole joined).1 in
    omega (arith, short, ap length rest, length-drop n all)

nothing_read : (bs : List ℕ) (o : Option Record) → record_in bs ≡ o → ((s : Record) → record_in bs ≡ Some s → ⊥) → record_in bs ≡ None
nothing_read bs None is none = is
nothing_read bs (Some s) is none = absurd (none s is)

length-front : (n : ℕ) (bs : List ℕ) → length bs < 2 ^ 64 → length (take n bs) < 2 ^ 64
length-front n bs small = let e = length-take n bs in omega (arith, e)

pub no_front_read : NoFrontIsARecord → OnlyRecordsAreRead → NoFrontIsRead
no_front_read front only r n w small short =
    let bs = take n (record_code r) in
    nothing_read bs (record_in bs) refl (λ s h. front r s n w short (only bs s (length-front n (record_code r) small) h))
