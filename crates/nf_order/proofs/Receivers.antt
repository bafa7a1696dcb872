-- What an operator is called on that is called by its name.
use Rattle.std.proofs.Common.{◌≡◌, ℕ, zero, suc, ◌<◌, ◌≤◌, Bool, true, false, nat_lt, List, [], ◌∷◌, length, get_or, slice_index_or, refl, sym, ap, ◌∙◌, arith}
use Rattle.std.specs.Prelude.{Option, Some, None, if◌then◌else◌}
use Rattle.std.specs.Option.{is_none}
use Rattle.std.specs.List.{position, position_or_len, remove}
use Rattle.std.proofs.lemmas.List.Quantifiers.{position-Some}
use Rattle.std.proofs.lemmas.List.Sums.{fails_before_first}
use Rattle.std.proofs.lemmas.Bool.{false≢true, ltb-false}
use Rattle.std.proofs.lemmas.Option.{none-some}
use Rattle.nf_kinds.specs.declared.args.Given.{Given}
use Rattle.nf_order.specs.Callees.{Receiver, and_other, receiver, receiver_or}
use Rattle.nf_order.specs.Standing.{is_unnamed}

taken : (o : Option (List ℕ)) (x : Given) (xs : List Given) (later : Option Receiver) → is_none o ≡ true → receiver_or o x xs later ≡ Some (record { of = x; others = xs })
taken None x xs later h = refl
taken (Some n) x xs later h = absurd (false≢true h)

passed : (o : Option (List ℕ)) (x : Given) (xs : List Given) (later : Option Receiver) (r : Receiver) → is_none o ≡ false → later ≡ Some r → receiver_or o x xs later ≡ Some (record r { others = x ∷ r.others })
passed None x xs later r h e = absurd (false≢true (sym h))
passed (Some n) x xs later r h e = ap (and_other x) e

missed : (o : Option (List ℕ)) (x : Given) (xs : List Given) (later : Option Receiver) → is_none o ≡ false → later ≡ None → receiver_or o x xs later ≡ None
missed None x xs later h e = absurd (false≢true (sym h))
missed (Some n) x xs later h e = ap (and_other x) e

pub first_unnamed : (xs : List Given) (i : ℕ) (d : Given) → i < length xs → is_none (get_or xs i d).option ≡ true → ((k : ℕ) → k < i → is_none (get_or xs k d).option ≡ false) → receiver xs ≡ Some (record { of = get_or xs i d; others = remove xs i })
first_unnamed [] i d h t f = absurd (omega arith)
first_unnamed (x ∷ xs) zero d h t f = taken x.option x xs (receiver xs) t
first_unnamed (x ∷ xs) (suc i) d h t f = passed x.option x xs (receiver xs) (record { of = get_or xs i d; others = remove xs i }) (f 0 (omega arith)) (first_unnamed xs i d (omega (arith, h)) t (λ k l. f (suc k) (omega (arith, l))))

pub all_named : (xs : List Given) (d : Given) → ((k : ℕ) → k < length xs → is_none (get_or xs k d).option ≡ false) → receiver xs ≡ None
all_named [] d f = refl
all_named (x ∷ xs) d f = missed x.option x xs (receiver xs) (f 0 (omega arith)) (all_named xs d (λ k l. f (suc k) (omega (arith, l))))

pub unnamed_taken : (xs : List Given) (i : ℕ) (x : Given) (ys : List Given) → position is_unnamed xs ≡ Some i → x ≡ slice_index_or xs i x → ys ≡ remove xs i → receiver xs ≡ Some (record { of = x; others = ys })
unnamed_taken xs i x ys at is left =
    let p = position-Some is_unnamed xs i x at in
    first_unnamed xs i x p.0 p.1 p.2 ∙ ap (λ y. Some (record { of = y; others = remove xs i })) (sym is) ∙ ap (λ zs. Some (record { of = x; others = zs })) (sym left)

found_none : (b : Bool) (i : ℕ) → (if b then Some i else None) ≡ None → b ≡ false
found_none true i h = absurd (none-some i (sym h))
found_none false i h = refl

pub unnamed_none : (xs : List Given) → position is_unnamed xs ≡ None → receiver xs ≡ None
unnamed_none [] h = refl
unnamed_none (x ∷ xs) h =
    let n = position_or_len is_unnamed (x ∷ xs) in
    let past : length (x ∷ xs) ≤ n = ltb-false n (length (x ∷ xs)) (found_none (nat_lt n (length (x ∷ xs))) n h) in
    all_named (x ∷ xs) x (λ k l. fails_before_first is_unnamed (x ∷ xs) k x (omega (arith, l, past)))
