-- The characters of a text from the back.
use Rattle.std.proofs.Common.{◌≡◌, ℕ, List, [], ◌∷◌, ◌++◌, length, Result, Ok, Err, ap, sym, ◌∙◌, append_assoc, append-nil}
use mathlib.Core.List.{reverse, reverse-cons, reverse-reverse}
use Rattle.std.specs.Bool.{⊤}
use Rattle.std.specs.Result.{MatchResult, IfOk}
use Rattle.std.specs.Str.{chars, IsUtf8}
use Rattle.std.specs.Str.Iter.{chars_rest, chars_steps_back}
use Rattle.std.specs.Iterator.{Yields, DrainsIf}
use Rattle.std.specs.Iterator.Adapters.{rev_source, rev_steps}
use Rattle.std.specs.String.{string_bytes}
use Rattle.std.specs.declared.string.String.{String}
use Rattle.std.specs.declared.str.Chars.{Chars}
use Rattle.std.specs.declared.iter.Rev.{Rev}
use lib.Utf8.{encode, encodes}
use Rattle.std.proofs.lemmas.Str.{encodes-append, chars_from_encodes}
use Rattle.std.proofs.lemmas.List.{nil_from_length}

-- the characters that came stand behind what is left
spelt_back : (cs : List ℕ) (s t : Rev Chars) → Yields (rev_steps chars_steps_back) s cs t → chars_rest (rev_source s) ≡ chars_rest (rev_source t) ++ encodes (reverse cs)
spelt_back [] s t y = ap (λ r. chars_rest (rev_source r)) y ∙ sym (append-nil (chars_rest (rev_source t)))
spelt_back (c ∷ cs) s t y =
    y.1 ∙ ap {B = List ℕ} (λ l. l ++ encode c) (spelt_back cs y.0 t y.2) ∙ append_assoc (chars_rest (rev_source t)) (encodes (reverse cs)) (encode c)
    ∙ ap {B = List ℕ} (λ l. chars_rest (rev_source t) ++ l) (sym (ap encodes (reverse-cons c cs) ∙ encodes-append (reverse cs) (c ∷ []) ∙ ap {B = List ℕ} (λ l. encodes (reverse cs) ++ l) (append-nil (encode c))))

all_back : (bs xs : List ℕ) (s t : Rev Chars) → IsUtf8 bs → chars_rest (rev_source s) ≡ bs → Yields (rev_steps chars_steps_back) s xs t → length (chars_rest (rev_source t)) ≡ 0 → xs ≡ reverse (chars bs)
all_back bs xs s t u is y none =
    let spelt : encodes (reverse xs) ≡ bs = sym (spelt_back xs s t y ∙ ap {B = List ℕ} (λ l. l ++ encodes (reverse xs)) (nil_from_length (chars_rest (rev_source t)) none)) ∙ is in
    sym (reverse-reverse xs) ∙ ap reverse (chars_from_encodes (reverse xs) bs u spelt)

pub reversed_from_collect : {Z E : Type 0} (r : Result (String Z) E) (s : Rev Chars) (bs : List ℕ) → IsUtf8 bs → chars_rest (rev_source s) ≡ bs → MatchResult r (λ w. (xs : List ℕ) × DrainsIf (rev_steps chars_steps_back) ⊤ s xs × (string_bytes w ≡ encodes xs)) (λ _. ⊤) → IfOk r (λ w. string_bytes w ≡ encodes (reverse (chars bs)))
reversed_from_collect (Ok w) s bs u is h = h.2 ∙ ap encodes (all_back bs h.0 s h.1.0 u is h.1.1 ((h.1.2 tt).1.0))
reversed_from_collect (Err e) s bs u is h = tt
