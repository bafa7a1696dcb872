-- Environments of a few names that have there the values that they have in a larger one.
use Rattle.std.proofs.Common.{◌≡◌, ℕ, Bool, true, false, List, [], ◌∷◌, ◌++◌, map, refl, sym, ◌∙◌, ap, subst}
use Rattle.std.proofs.lemmas.Bool.{false≢true}
use Rattle.std.specs.Str.{bytes_eq}
use Rattle.std.proofs.lemmas.Slice.Eq.{bytes_eq-Decides}
use Rattle.nf_value.specs.Plain.{Plain}
use Rattle.nf_builtins.specs.Natives.{is_among}
use Rattle.nf_placed.specs.Scope.{Env, value_in}
use Rattle.nf_relevant.specs.Reads.{AreAlike}
use Rattle.nf_around.specs.Kept.{Keeps, KeepsNames, keys}

abbrev Values : Type 0
Values = List (List ℕ × Plain)

kept_value : (all bs : Values) (n : List ℕ) → Keeps all bs → is_among n (keys bs) ≡ true → value_in n bs ≡ value_in n all
kept_value all [] n h p = absurd (false≢true p)
kept_value all (b ∷ bs) n h p = first (bytes_eq b.0 n) refl p (kept_value all bs n h.1)
  where
    first : (t : Bool) → bytes_eq b.0 n ≡ t → is_among n (keys (b ∷ bs)) ≡ true → (is_among n (keys bs) ≡ true → value_in n bs ≡ value_in n all) → value_in n (b ∷ bs) ≡ value_in n all
    first true is p rest = rw is (sym h.0 ∙ ap (λ m. value_in m all) ((bytes_eq-Decides b.0 n).0 is))
    first false is p rest = rw is (rest (sym (rw is refl) ∙ p))

pub alike : (ns : List (List ℕ)) (one all : Env) → KeepsNames ns one all → AreAlike ns one all
alike ns one all h = record {
  names = h.names;
  captured = λ n p. kept_value all.captured one.captured n h.keeps (h.has n p);
  functions = h.functions;
  patterns = h.patterns;
  titles = h.titles;
  answer = h.answer;
  in_process = h.in_process;
}

-- ---- a name more

-- m is the last of these, or one of those before it
by_end : {A : Type 0} (n m : List ℕ) (ns : List (List ℕ)) → is_among m (ns ++ n ∷ []) ≡ true → (is_among m ns ≡ true → A) → (bytes_eq n m ≡ true → A) → A
by_end {A = A} n m [] p earlier last = one (bytes_eq n m) refl p
  where
    one : (t : Bool) → bytes_eq n m ≡ t → is_among m (n ∷ []) ≡ true → A
    one true is p = last is
    one false is p = absurd (false≢true (sym (rw is refl) ∙ p))
by_end {A = A} n m (k ∷ ns) p earlier last = one (bytes_eq k m) refl p (λ q front. by_end n m ns q front last)
  where
    one : (t : Bool) → bytes_eq k m ≡ t → is_among m ((k ∷ ns) ++ n ∷ []) ≡ true → (is_among m (ns ++ n ∷ []) ≡ true → (is_among m ns ≡ true → A) → A) → A
    one true is p rest = earlier (rw is refl)
    one false is p rest = rest (sym (rw is refl) ∙ p) (λ q. earlier (rw is q))

there : (n m : List ℕ) (bs : Values) (v : Plain) → bytes_eq n m ≡ true → is_among m (keys ((n, v) ∷ bs)) ≡ true
there n m bs v is = rw is refl

later : (n m : List ℕ) (bs : Values) (v : Plain) → is_among m (keys bs) ≡ true → is_among m (keys ((n, v) ∷ bs)) ≡ true
later n m bs v p = by (bytes_eq n m) refl
  where
    by : (t : Bool) → bytes_eq n m ≡ t → is_among m (keys ((n, v) ∷ bs)) ≡ true
    by true is = rw is refl
    by false is = rw is p

-- it is bound here
pub one_more : (ns : List (List ℕ)) (n : List ℕ) (v : Plain) (one all : Env) → value_in n all.captured ≡ v → KeepsNames ns one all
    → KeepsNames (ns ++ n ∷ []) (record one { captured = (n, v) ∷ one.captured }) all
one_more ns n v one all is h = record {
  keeps = (is, h.keeps);
  has = λ m p. by_end n m ns p (λ q. later n m one.captured v (h.has m q)) (λ q. there n m one.captured v q);
  names = h.names;
  functions = h.functions;
  patterns = h.patterns;
  titles = h.titles;
  answer = h.answer;
  in_process = h.in_process;
}

-- it was bound before
pub no_more : (ns : List (List ℕ)) (n : List ℕ) (one all : Env) → is_among n (keys one.captured) ≡ true → KeepsNames ns one all → KeepsNames (ns ++ n ∷ []) one all
no_more ns n one all p h = record {
  keeps = h.keeps;
  has = λ m q. by_end n m ns q (h.has m) (λ is. subst (λ k. is_among k (keys one.captured) ≡ true) ((bytes_eq-Decides n m).0 is) p);
  names = h.names;
  functions = h.functions;
  patterns = h.patterns;
  titles = h.titles;
  answer = h.answer;
  in_process = h.in_process;
}
