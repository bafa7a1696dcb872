-- The words of `run`, one after another.
use Rattle.std.proofs.Common.{◌≡◌, ℕ, suc, ◌+◌, ◌<◌, List, [], ◌∷◌, length, map, drop, get_or, String, Global, string_bytes, refl, sym, ◌∙◌, ap, subst, arith, add-one, drop-cons}
use Rattle.std.specs.Prelude.{Result, Ok, Err}
use Rattle.nf_command.specs.declared.fault.UsageFault.{UsageFault}
use Rattle.nf_command.specs.declared.fault.UsageFault.TheVariants.{NoCommand, UnknownWord, NoValue, BadNumber, Twice, Mem}
use Rattle.nf_command.specs.declared.run.Said.{Said}
use Rattle.nf_command.specs.Run.{Judged, and_then, nothing, with_word, with_words}
use Rattle.nf_command.specs.Commands.{Reads}

abbrev pub words_from : List (String Global) → ℕ → List (List ℕ)
words_from ws i = map string_bytes (drop i ws)

-- what was said up to a word, and what the words from there on say
abbrev pub IsSaidTo : List (String Global) → ℕ → Said → Type 0
IsSaidTo ws i s = with_words 1 (map string_bytes ws) nothing ≡ with_words (i + 1) (words_from ws i) s

word_left : (ws : List (String Global)) (i : ℕ) (w : String Global) (s : Said) → i < length ws → w ≡ get_or ws i w → with_words (i + 1) (words_from ws i) s ≡ and_then (with_word (i + 1) (string_bytes w) s) (with_words (suc (i + 1)) (words_from ws (i + 1)))
word_left ws i w s lt is = let e : drop i ws ≡ w ∷ drop (i + 1) ws = rw (add-one, drop-cons ws i w, ← is) refl in ap (λ (l : List (String Global)). with_words (i + 1) (map string_bytes l) s) e

pub word_said : (ws : List (String Global)) (i : ℕ) (w : String Global) (s t : Said) → i < length ws → w ≡ get_or ws i w → with_word (i + 1) (string_bytes w) s ≡ Ok t → IsSaidTo ws i s → IsSaidTo ws (i + 1) t
word_said ws i w s t lt is due inv =
    let one : suc (i + 1) ≡ i + 1 + 1 = omega arith in
    inv ∙ word_left ws i w s lt is ∙ ap (λ (r : Judged Said). and_then r (with_words (suc (i + 1)) (words_from ws (i + 1)))) due ∙ ap (λ k. with_words k (words_from ws (i + 1)) t) one

-- a wrong word
pub word_wrong : (ws : List (String Global)) (i : ℕ) (w : String Global) (s : Said) (e : UsageFault) → i < length ws → w ≡ get_or ws i w → Reads (with_word (i + 1) (string_bytes w) s) (Err e) → IsSaidTo ws i s → Reads (with_words 1 (map string_bytes ws) nothing) (Err e)
word_wrong ws i w s Mem lt is due inv = tt
word_wrong ws i w s NoCommand lt is due inv = inv ∙ word_left ws i w s lt is ∙ ap (λ (r : Judged Said). and_then r (with_words (suc (i + 1)) (words_from ws (i + 1)))) due
word_wrong ws i w s (UnknownWord at) lt is due inv = inv ∙ word_left ws i w s lt is ∙ ap (λ (r : Judged Said). and_then r (with_words (suc (i + 1)) (words_from ws (i + 1)))) due
word_wrong ws i w s (NoValue at) lt is due inv = inv ∙ word_left ws i w s lt is ∙ ap (λ (r : Judged Said). and_then r (with_words (suc (i + 1)) (words_from ws (i + 1)))) due
word_wrong ws i w s (BadNumber at) lt is due inv = inv ∙ word_left ws i w s lt is ∙ ap (λ (r : Judged Said). and_then r (with_words (suc (i + 1)) (words_from ws (i + 1)))) due
word_wrong ws i w s (Twice at) lt is due inv = inv ∙ word_left ws i w s lt is ∙ ap (λ (r : Judged Said). and_then r (with_words (suc (i + 1)) (words_from ws (i + 1)))) due

pub all_said : (ws : List (String Global)) (i : ℕ) (s : Said) → drop i ws ≡ [] → IsSaidTo ws i s → with_words 1 (map string_bytes ws) nothing ≡ Ok s
all_said ws i s none inv = inv ∙ ap (λ (l : List (String Global)). with_words (i + 1) (map string_bytes l) s) none

-- ---- one step after another

-- a fault of the first step is the whole's
pub fails : {A B : Type 0} (due : Judged A) (f : A → Judged B) (e : UsageFault) → Reads due (Err e) → Reads (and_then due f) (Err e)
fails due f Mem h = tt
fails due f NoCommand h = ap (λ r. and_then r f) h
fails due f (UnknownWord at) h = ap (λ r. and_then r f) h
fails due f (NoValue at) h = ap (λ r. and_then r f) h
fails due f (BadNumber at) h = ap (λ r. and_then r f) h
fails due f (Twice at) h = ap (λ r. and_then r f) h

-- after a first step the second decides
pub goes_on : {A B : Type 0} (due : Judged A) (f : A → Judged B) (a : A) (r : Result B UsageFault) → due ≡ Ok a → Reads (f a) r → Reads (and_then due f) r
goes_on {A} {B} due f a r h next = subst (λ (d : Judged B). Reads d r) (ap (λ (x : Judged A). and_then x f) (sym h)) next

pub same_due : {A : Type 0} (d e : Judged A) (r : Result A UsageFault) → d ≡ e → Reads d r → Reads e r
same_due {A} d e r h = subst (λ (x : Judged A). Reads x r) h
