-- A text has one list of tokens or breaks one rule first, and not both.
use Rattle.std.proofs.Common.{◌≡◌, ℕ, zero, suc, ◌+◌, ◌*◌, ◌≤◌, ◌<◌, ◌⊎◌, ◌↔◌, inl, inr, List, [], ◌∷◌, length, drop, Option, Some, None, Result, Err, MatchResult, refl, sym, ap, ◌∙◌, subst, arith}
use Rattle.std.proofs.lemmas.Bool.{cases_lt}
use Rattle.nf_value.specs.declared.place.Place.{Place}
use Rattle.nf_lexer.specs.declared.fault.LexFault.{LexFault}
use Rattle.nf_lexer.specs.declared.fault.LexFault.TheVariants.{ScriptTooLong}
use Rattle.nf_token.specs.declared.token.Lexeme.{Lexeme}
use Rattle.nf_lexer.specs.declared.open.Open.{Open}
use Rattle.nf_lexer.specs.declared.open.Change.{Change}
use Rattle.nf_lexer.specs.Front.{Item, First, passes, finished, broken}
use Rattle.nf_lexer.specs.First.{first}
use Rattle.nf_lexer.specs.Joined.{Placed, at, nothing, joined}
use Rattle.nf_lexer.specs.Open.{changed}
use Rattle.nf_lexer.specs.Place.{place_after, place_of}
use Rattle.nf_lexer.specs.Separators.{settled}
use Rattle.nf_lexer.specs.Tokens.{Reads, ends, breaks, goes, at_start, most_bytes, IsTokensOf, Breaks, too_long, breaks_at, Refuses}
use Rattle.nf_lexer.proofs.Steps.{Steps, IsPlaced, IsPlacedIfAny, first_steps, less_left}

-- ---- at most one

same_item : (i j : Item) (c d : Change) (n m : ℕ) → passes i c n ≡ passes j d m → (i ≡ j) × (c ≡ d) × (n ≡ m)
same_item i j c d n m e = (cc, cc, cc)

same_fault : (f g : LexFault) → broken f ≡ broken g → f ≡ g
same_fault f g e = cc

one_reading : {text : List ℕ} {o : List Open} {bs : List ℕ} {v : List Placed} {e : Option LexFault} → Reads text o bs v e → (w : List Placed) (f : Option LexFault) → Reads text o bs w f → (v ≡ w) × (e ≡ f)
one_reading (ends e) _ _ (ends f) = (refl, refl)
one_reading (ends e) _ _ (breaks f) = absurd cc
one_reading (ends e) _ _ (goes f q) = absurd cc
one_reading (breaks e) _ _ (ends f) = absurd cc
one_reading (breaks {fault = a} e) _ _ (breaks {fault = b} f) = (refl, ap Some (same_fault a b (sym e ∙ f)))
one_reading (breaks e) _ _ (goes f q) = absurd cc
one_reading (goes e p) _ _ (ends f) = absurd cc
one_reading (goes e p) _ _ (breaks f) = absurd cc
one_reading {text} {o} {bs} (goes {v = v} {item = i} {change = c} {n = n} e p) _ _ (goes {v = w} {e = b} {item = j} {change = d} {n = m} f q) =
    let k = same_item j i d c m n (sym f ∙ e) in
    let q1 = subst (λ (z : Change). Reads text (changed z o) (drop m bs) w b) k.1 q in
    let q2 = subst (λ (z : ℕ). Reads text (changed c o) (drop z bs) w b) k.2 q1 in
    let r = one_reading p w b q2 in
    (ap (λ (z : List Placed). at i (place_of text (length bs)) ∷ z) r.0 ∙ ap (λ (z : Item). at z (place_of text (length bs)) ∷ w) (sym k.0), r.1)

pub one_list : (text : List ℕ) (t u : List Lexeme × Place) → IsTokensOf text t → IsTokensOf text u → t ≡ u
one_list text t u p q =
    let e : p.items ≡ q.items = (one_reading p.reads q.items None q.reads).0 in
    let tokens : t.0 ≡ u.0 = p.tokens ∙ ap (λ (z : List Placed). settled [] (joined nothing z)) e ∙ sym q.tokens in
    let end : t.1 ≡ u.1 = p.end ∙ sym q.end in
    let P : List Lexeme → Place → List Lexeme × Place = λ a b. (a, b) in
    ap (λ a. P a t.1) tokens ∙ ap (λ b. P u.0 b) end

same_some : (f g : LexFault) → Some f ≡ Some g → f ≡ g
same_some f g e = cc

pub one_break : {text : List ℕ} {f : LexFault} → Breaks text f → (g : LexFault) → Breaks text g → f ≡ g
one_break (too_long h) _ (too_long k) = refl
one_break (too_long h) g (breaks_at k q) = absurd (omega arith)
one_break (breaks_at h p) _ (too_long k) = absurd (omega arith)
one_break (breaks_at {fault = f} h p) g (breaks_at {items = w} k q) = same_some f g (one_reading p w (Some g) q).1

-- ---- only a text that is too long breaks that rule

reads_placed : {text : List ℕ} {o : List Open} {bs : List ℕ} {v : List Placed} {e : Option LexFault} → Reads text o bs v e → IsPlacedIfAny e
reads_placed (ends e) = tt
reads_placed {text} {o} {bs} (breaks e) = subst (Steps o bs) e (first_steps o (place_of text (length bs)) bs)
reads_placed (goes e p) = reads_placed p

breaks_long : {text : List ℕ} {f : LexFault} → Breaks text f → f ≡ ScriptTooLong → most_bytes < length text
breaks_long (too_long h) e = h
breaks_long (breaks_at h p) e = absurd (subst IsPlaced e (reads_placed p))

pub long_exactly : (text : List ℕ) → Breaks text ScriptTooLong ↔ most_bytes < length text
long_exactly text = (λ h. breaks_long h refl, too_long)

pub refused_long : (text : List ℕ) (r : Result (List Lexeme × Place) LexFault) → MatchResult r (λ t. IsTokensOf text t) (λ e. Refuses text e) → r ≡ Err ScriptTooLong → most_bytes < length text
refused_long text r h e = (long_exactly text).0 (subst (λ (z : Result (List Lexeme × Place) LexFault). MatchResult z (λ t. IsTokensOf text t) (λ e. Refuses text e)) e h)

never_some : (f : LexFault) → None ≡ Some f → ⊥
never_some f e = cc

pub never_both : {text : List ℕ} (t : List Lexeme × Place) → IsTokensOf text t → (f : LexFault) → Breaks text f → ⊥
never_both t p _ (too_long h) = omega (arith, p.within)
never_both t p f (breaks_at {items = w} h q) = never_some f (one_reading p.reads w (Some f) q).1

-- ---- at least one

abbrev Read : List ℕ → List Open → List ℕ → Type 0
Read text o bs = (v : List Placed) × (e : Option LexFault) × Reads text o bs v e

step : (text : List ℕ) (o : List Open) (bs : List ℕ) (x : First) → first o (place_of text (length bs)) bs ≡ x → Steps o bs x → ((now : List Open) (rest : List ℕ) → 2 * length rest + length now < 2 * length bs + length o → Read text now rest) → Read text o bs
step text o bs finished e s k = ([], None, ends e)
step text o bs (broken f) e s k = ([], Some f, breaks e)
step text o bs (passes item c n) e s k =
    let q = k (changed c o) (drop n bs) (less_left o bs item c n s) in
    (at item (place_of text (length bs)) ∷ q.0, q.1, goes e q.2)

all_read : (n : ℕ) (text : List ℕ) (o : List Open) (bs : List ℕ) → 2 * length bs + length o ≤ n → Read text o bs
all_read zero text o bs h = step text o bs (first o (place_of text (length bs)) bs) refl (first_steps o (place_of text (length bs)) bs) (λ now rest less. absurd (omega arith))
all_read (suc n) text o bs h = step text o bs (first o (place_of text (length bs)) bs) refl (first_steps o (place_of text (length bs)) bs) (λ now rest less. all_read n text now rest (omega arith))

answered : (text : List ℕ) (v : List Placed) (e : Option LexFault) → length text ≤ most_bytes → Reads text (at_start text) text v e → ((t : List Lexeme × Place) × IsTokensOf text t) ⊎ ((f : LexFault) × Breaks text f)
answered text v None h r = inl ((settled [] (joined nothing v), place_after text), record { within = h; items = v; reads = r; tokens = refl; end = refl })
answered text v (Some f) h r = inr (f, breaks_at h r)

pub some_answer : (text : List ℕ) → ((t : List Lexeme × Place) × IsTokensOf text t) ⊎ ((f : LexFault) × Breaks text f)
some_answer text =
    elim (cases_lt most_bytes (length text)) [
      | inr h ↦
          let q = all_read (2 * length text + length (at_start text)) text (at_start text) text (omega arith) in
          answered text q.0 q.1 h q.2
      | inl h ↦ inr (ScriptTooLong, too_long h)
    ]
