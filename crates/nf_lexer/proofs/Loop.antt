-- The steps of the loop over a text.
use Rattle.std.proofs.Common.{◌≡◌, ℕ, ◌+◌, ◌≤◌, List, [], ◌∷◌, ◌++◌, length, take, drop, Option, Some, None, refl, sym, ap, ◌∙◌, subst, arith, append_assoc, length-append}
use Rattle.std.proofs.lemmas.List.{append-nil, take-append-drop}
use Rattle.nf_value.specs.declared.place.Place.{Place}
use Rattle.nf_lexer.specs.declared.fault.LexFault.{LexFault}
use Rattle.nf_lexer.specs.declared.fault.LexFault.TheVariants.{BadByte, OpenString, OpenComment, BadEscape, BigNumber, ScriptTooLong, Mem}
use Rattle.nf_token.specs.declared.token.Lexeme.{Lexeme}
use Rattle.nf_lexer.specs.declared.open.Open.{Open}
use Rattle.nf_lexer.specs.declared.open.Change.{Change}
use Rattle.nf_lexer.specs.declared.joiner.Joiner.{Joiner}
use Rattle.nf_lexer.specs.Front.{Item, First, passes, finished, broken}
use Rattle.nf_lexer.specs.First.{first}
use Rattle.nf_lexer.specs.Joined.{Placed, at, nothing, joined}
use Rattle.nf_lexer.specs.Open.{changed}
use Rattle.nf_lexer.specs.Place.{place_after, place_of}
use Rattle.nf_lexer.specs.Separators.{settled}
use Rattle.nf_lexer.specs.Tokens.{Reads, ends, breaks, goes, at_start, most_bytes, IsTokensOf, Breaks, breaks_at, Refuses}
use Rattle.nf_lexer.specs.View.{joined_outcome}
use Rattle.nf_lexer.proofs.Places.{at_start_place, line-le, col-le, place_at}
use Rattle.nf_lexer.proofs.Steps.{Steps, first_steps}

-- ---- places

abbrev pub Stands : List ℕ → Place → List ℕ → Type 0
Stands text place rest = (front : List ℕ) × (text ≡ front ++ rest) × (place ≡ place_after front)

pub at_place : (text : List ℕ) (place : Place) (rest : List ℕ) → Stands text place rest → place ≡ place_of text (length rest)
at_place text place rest p = p.2 ∙ sym (place_at text p.0 rest p.1)

-- how far the line and the column are, and how many bytes are left
pub front_small : (text : List ℕ) (place : Place) (rest : List ℕ) → Stands text place rest → (place.line + length rest ≤ 1 + length text) × (place.col + length rest ≤ 1 + length text)
front_small text place rest p =
    let n = ap length p.1 in
    let line = ap (λ (x : Place). x.line) p.2 in
    let col = ap (λ (x : Place). x.col) p.2 in
    (omega (arith, n, length-append p.0 rest, line, line-le p.0), omega (arith, n, length-append p.0 rest, col, col-le p.0))

pub starts : (text : List ℕ) → Stands text (record { line = 1; col = 1 }) text
starts text = ([], refl, at_start_place)

pub moves : (text : List ℕ) (place next : Place) (rest taken after : List ℕ) (n : ℕ) → Stands text place rest → taken ≡ take n rest → after ≡ drop n rest → ((front : List ℕ) → place ≡ place_after front → next ≡ place_after (front ++ taken)) → Stands text next after
moves text place next rest taken after n p t a h =
    let e : rest ≡ taken ++ after = sym (ap (λ (z : List ℕ). z ++ after) t ∙ ap (λ (z : List ℕ). take n rest ++ z) a ∙ take-append-drop n rest) in
    (p.0 ++ taken, p.1 ∙ ap (λ (z : List ℕ). p.0 ++ z) e ∙ sym (append_assoc p.0 taken after), h p.0 p.2)

-- ---- what was read

-- whatever the rest is read as, the whole is read as something of the same outcome, and ends as it does
abbrev pub Reading : List ℕ → Joiner → List Open → List ℕ → Type 0
Reading text j o rest = (v : List Placed) (e : Option LexFault) → Reads text o rest v e → (w : List Placed) × Reads text (at_start text) text w e × (joined_outcome j v ≡ settled [] (joined nothing w))

pub reading_starts : (text : List ℕ) (j : Joiner) (o : List Open) → o ≡ at_start text → ((v : List Placed) → joined_outcome j v ≡ settled [] (joined nothing v)) → Reading text j o text
reading_starts text j o k h = λ v e r. (v, subst (λ (z : List Open). Reads text z text v e) k r, h v)

pub here : (text : List ℕ) (place : Place) (o : List Open) (rest : List ℕ) (x : First) → Stands text place rest → x ≡ first o place rest → first o (place_of text (length rest)) rest ≡ x
here text place o rest x p e = ap (λ (z : Place). first o z rest) (sym (at_place text place rest p)) ∙ sym e

pub reading_goes : (text : List ℕ) (j next : Joiner) (place : Place) (o now : List Open) (rest after : List ℕ) (item : Item) (change : Change) (n : ℕ) → Reading text j o rest → Stands text place rest → passes item change n ≡ first o place rest → now ≡ changed change o → after ≡ drop n rest → ((v : List Placed) → joined_outcome next v ≡ joined_outcome j (at item place ∷ v)) → Reading text next now after
reading_goes text j next place o now rest after item change n reading p x k a h = λ v e r.
    let r1 = subst (λ (z : List Open). Reads text z after v e) k r in
    let r2 = subst (λ (z : List ℕ). Reads text (changed change o) z v e) a r1 in
    let q = reading _ e (goes (here text place o rest (passes item change n) p x) r2) in
    (q.0, q.1, h v ∙ ap (λ (z : Place). joined_outcome j (at item z ∷ v)) (at_place text place rest p) ∙ q.2)

-- ---- the end

pub finishes : (text : List ℕ) (j : Joiner) (place : Place) (o : List Open) (rest : List ℕ) (tokens : List Lexeme) → length text ≤ most_bytes → Reading text j o rest → Stands text place rest → finished ≡ first o place rest → tokens ≡ joined_outcome j [] → IsTokensOf text (tokens, place)
finishes text j place o rest tokens short reading p x t =
    let nothing_left : rest ≡ [] = subst (Steps o rest) (sym x) (first_steps o place rest) in
    let all : text ≡ p.0 = p.1 ∙ ap (λ (z : List ℕ). p.0 ++ z) nothing_left ∙ append-nil p.0 in
    let q = reading [] None (ends (here text place o rest finished p x)) in
    record {
      within = short;
      items = q.0;
      reads = q.1;
      tokens = t ∙ q.2;
      end = p.2 ∙ ap place_after (sym all);
    }

pub stops : (text : List ℕ) (j : Joiner) (place : Place) (o : List Open) (rest : List ℕ) (fault : LexFault) → length text ≤ most_bytes → Reading text j o rest → Stands text place rest → broken fault ≡ first o place rest → Breaks text fault
stops text j place o rest fault short reading p x =
    let q = reading [] (Some fault) (breaks (here text place o rest (broken fault) p x)) in
    breaks_at short q.1

pub refuses : (text : List ℕ) (fault : LexFault) → Breaks text fault → Refuses text fault
refuses text (BadByte place) h = h
refuses text (OpenString place) h = h
refuses text (OpenComment place) h = h
refuses text (BadEscape place) h = h
refuses text (BigNumber place) h = h
refuses text ScriptTooLong h = h
refuses text Mem h = tt
