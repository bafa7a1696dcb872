-- The names of what is emitted.
use Rattle.std.proofs.Common.{◌≡◌, ◌<◌, ◌≤◌, ◌+◌, ℕ, Bool, true, false, Option, Some, None, List, [], ◌∷◌, length, get_or, drop, refl, sym, ap, ◌∙◌, add-one, drop-cons}
use Rattle.std.specs.Prelude.{◌||◌}
use Rattle.std.proofs.lemmas.List.{drop_all}
use Rattle.nf_builtins.specs.Natives.{is_among}
use Rattle.nf_meaning.specs.Things.{has_label}
use Rattle.nf_scopes.specs.declared.things.CallOutput.{CallOutput}
use Rattle.nf_takes.specs.Takes.{and_label, labels_after, labels_of}

-- ---- names of outputs

among_label : (n : List ℕ) (l : Option (List ℕ)) (ns : List (List ℕ)) → is_among n (and_label l ns) ≡ has_label n l || is_among n ns
among_label n (Some m) ns = refl
among_label n None ns = refl

or_true : (a : Bool) → a || true ≡ true
or_true true = refl
or_true false = refl

among_stays : (n : List ℕ) (ns : List (List ℕ)) (os : List CallOutput) → is_among n ns ≡ true → is_among n (labels_after ns os) ≡ true
among_stays n ns [] h = h
among_stays n ns (o ∷ os) h =
    among_stays n (and_label o.label ns) os (among_label n o.label ns ∙ ap (λ b. has_label n o.label || b) h ∙ or_true (has_label n o.label))

left : {X : Type 0} (xs : List X) (i : ℕ) (x : X) → i < length xs → x ≡ get_or xs i x → drop i xs ≡ x ∷ drop (i + 1) xs
left xs i x h is = rw (add-one, drop-cons xs i x, ← is) refl

-- no output so far has the name
pub record NoneSoFar (os : List CallOutput) (n : List ℕ) (i : ℕ) : Type 0 where
  pub before : List (List ℕ)
  pub same : labels_of os ≡ labels_after before (drop i os)
  pub none : is_among n before ≡ false

pub none_first : (os : List CallOutput) (n : List ℕ) → NoneSoFar os n 0
none_first os n = record { before = []; same = refl; none = refl }

-- from the next output on
from_next : (os : List CallOutput) (n : List ℕ) (i : ℕ) (o : CallOutput) (s : NoneSoFar os n i) → i < length os → o ≡ get_or os i o
    → labels_of os ≡ labels_after (and_label o.label s.before) (drop (i + 1) os)
from_next os n i o s h is = s.same ∙ ap (labels_after s.before) (left os i o h is)

pub none_next : (os : List CallOutput) (n : List ℕ) (i : ℕ) (o : CallOutput) → i < length os → o ≡ get_or os i o → has_label n o.label ≡ false → NoneSoFar os n i → NoneSoFar os n (i + 1)
none_next os n i o h is other s = record {
  before = and_label o.label s.before;
  same = from_next os n i o s h is;
  none = among_label n o.label s.before ∙ ap (λ b. b || is_among n s.before) other ∙ s.none;
}

pub one_has : (os : List CallOutput) (n : List ℕ) (i : ℕ) (o : CallOutput) → i < length os → o ≡ get_or os i o → has_label n o.label ≡ true → NoneSoFar os n i → true ≡ is_among n (labels_of os)
one_has os n i o h is same s =
    sym (ap (is_among n) (from_next os n i o s h is)
    ∙ among_stays n (and_label o.label s.before) (drop (i + 1) os) (among_label n o.label s.before ∙ ap (λ b. b || is_among n s.before) same))

pub none_has : (os : List CallOutput) (n : List ℕ) (i : ℕ) → length os ≤ i → NoneSoFar os n i → false ≡ is_among n (labels_of os)
none_has os n i h s = sym (ap (is_among n) (s.same ∙ ap (labels_after s.before) (drop_all i os h)) ∙ s.none)
