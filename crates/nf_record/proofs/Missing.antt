-- Where a value or its parts aren't what a record has.
use Rattle.std.proofs.Common.{◌≡◌, ℕ, List, [], ◌∷◌, length, map, Option, None, Some, Result, Ok, Err, refl, ap, sym, ◌∙◌, arith, length-drop}
use Rattle.nf_value.specs.Plain.{Plain, plains_of}
use Rattle.nf_value.specs.View.{plain_of}
use Rattle.nf_value.specs.declared.value.Value.{Value}
use Rattle.nf_value.specs.declared.value.Value.TheVariants as value
use Rattle.std.specs.Prelude.{option_map, IfOk}
use Rattle.std.specs.Option.{option_and_then}
use Rattle.nf_codec.specs.Reading.{Reading, no_value, too_deep, read, Reads}
use Rattle.nf_record.specs.Parts.{three_of, three_in}
use Rattle.nf_record.specs.declared.stored.Record.{Record}
use Rattle.nf_record.specs.Reading.{if_last, whole_in, record_of, record_in}

more : (v : Plain) (rest : List ℕ) → (rest ≡ [] → ⊥) → None ≡ if_last v rest
more v [] h = absurd (h refl)
more v (b ∷ bs) h = refl

-- bytes follow the value
pub not_whole : (bytes : List ℕ) (o : Reading Plain) (q : Value × ℕ) → Reads bytes o (Ok q) → (q.1 ≡ length bytes → ⊥) → None ≡ whole_in o
not_whole bytes (Ok p) q h apart = more p.0 p.1 (λ e. apart (let n = ap length (sym h.1 ∙ e) in omega (arith, n, length-drop q.1 bytes, h.2)))
not_whole bytes (Err (no_value k)) q h apart = absurd h
not_whole bytes (Err (too_deep k)) q h apart = absurd h

no_three : (vs : List Value) → (length vs ≡ 3 → ⊥) → None ≡ three_of (plains_of (map plain_of vs))
no_three [] h = refl
no_three (a ∷ []) h = refl
no_three (a ∷ b ∷ []) h = refl
no_three (a ∷ b ∷ c ∷ []) h = absurd (h (omega arith))
no_three (a ∷ b ∷ c ∷ d ∷ vs) h = refl

-- a list of another length than three
pub not_three : (v : Value) (vs : List Value) (items : List Plain) → v ≡ value.List items → map plain_of vs ≡ items → (length vs ≡ 3 → ⊥) → None ≡ three_in (plain_of v)
not_three v vs items is all apart = no_three vs apart ∙ ap (λ ws. three_of (plains_of ws)) all ∙ ap (λ w. three_in (plain_of w)) (sym is)

-- no whole value was read
pub none_read : (bytes : List ℕ) (o : Option Value) → o ≡ None → option_map plain_of o ≡ whole_in (read 64 bytes) → None ≡ record_in bytes
unfolding record_in
none_read bytes o e h = ap (option_and_then record_of) (ap (option_map plain_of) (sym e) ∙ h)

is_record_of : (bytes : List ℕ) (o : Option Value) (v : Value) → o ≡ Some v → option_map plain_of o ≡ whole_in (read 64 bytes) → record_of (plain_of v) ≡ record_in bytes
unfolding record_in
is_record_of bytes o v e h = ap (option_and_then record_of) (ap (option_map plain_of) (sym e) ∙ h)

-- a whole value was read
pub value_read : {E : Type 0} (bytes : List ℕ) (o : Option Value) (v : Value) (r : Result (Option Record) E) → o ≡ Some v → option_map plain_of o ≡ whole_in (read 64 bytes) → IfOk r (λ p. p ≡ record_of (plain_of v))
    → IfOk r (λ p. p ≡ record_in bytes)
value_read bytes o v (Ok p) e h k = k ∙ is_record_of bytes o v e h
value_read bytes o v (Err x) e h k = tt
