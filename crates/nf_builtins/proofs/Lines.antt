-- Rows of the table, and what they give for a list.
use Rattle.std.proofs.Common.{◌≡◌, ℕ, zero, suc, ◌<◌, Bool, true, false, ◌&&◌, ◌||◌, List, [], ◌∷◌, length, get_or, Option, IfSome, slice_get, Result, refl, sym, subst, arith}
use Rattle.std.specs.List.{list_all}
use Rattle.std.proofs.lemmas.Option.{slice_get-get_or}
use Rattle.std.proofs.lemmas.Bool.{false≢true}
use Rattle.nf_value.specs.Plain.{Plain, plains_of}
use Rattle.nf_value.specs.declared.value.Value.{Value}
use Rattle.nf_texts.specs.declared.fault.CallFault.{CallFault}
use Rattle.nf_builtins.specs.declared.rows.Builtin.{Builtin}
use Rattle.nf_texts.specs.Args.{items_of}
use Rattle.nf_texts.specs.Outcome.{Outcome, Gives}
use Rattle.nf_builtins.specs.Rows.{is_closure}
use Rattle.nf_builtins.specs.Call.{is_plain, builtin_rows}
use Rattle.nf_texts.proofs.Inside.{items_of-plains_of}

pub list_gives : (vs : List Plain) (g : List Plain → Outcome) (r : Result Value CallFault) → Gives (g vs) r → Gives (g (items_of (plains_of vs))) r
list_gives vs g r h = subst (λ (ws : List Plain). Gives (g ws) r) (sym (items_of-plains_of vs)) h

-- a row takes a closure, or its method needs none
abbrev pub is_fit : Builtin → Bool
is_fit b = is_closure b.form || is_plain b.method

all_fit : list_all is_fit builtin_rows ≡ true
all_fit = refl

both : (a b : Bool) → (a && b) ≡ true → (a ≡ true) × (b ≡ true)
both true true h = (refl, refl)
both true false h = absurd (false≢true h)
both false b h = absurd (false≢true h)

second : (a b : Bool) → (a || b) ≡ true → a ≡ false → b ≡ true
second true b h e = absurd (false≢true (sym e))
second false b h e = h

plain_of_fit : (rows : List Builtin) (i : ℕ) (d : Builtin) → list_all is_fit rows ≡ true → i < length rows → IfSome (slice_get rows i) (λ b. is_closure b.form ≡ false) → is_plain (get_or rows i d).method ≡ true
plain_of_fit [] i d all h free = absurd (omega arith)
plain_of_fit (b ∷ rows) zero d all h free = second (is_closure b.form) (is_plain b.method) ((both (is_fit b) (list_all is_fit rows) all).0) free
plain_of_fit (b ∷ rows) (suc i) d all h free = plain_of_fit rows i d ((both (is_fit b) (list_all is_fit rows) all).1) (omega arith) free

pub plain_at : (i : ℕ) (d : Builtin) → i < 48 → IfSome (slice_get builtin_rows i) (λ b. is_closure b.form ≡ false) → is_plain (get_or builtin_rows i d).method ≡ true
plain_at i d h free = plain_of_fit builtin_rows i d all_fit h free

pub at_row : (i : ℕ) (d : Builtin) (P : Builtin → Type 0) → i < 48 → P (get_or builtin_rows i d) → IfSome (slice_get builtin_rows i) P
at_row i d P h p = subst (λ (o : Option Builtin). IfSome o P) (sym (slice_get-get_or builtin_rows i d h)) p
