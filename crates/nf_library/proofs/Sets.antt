-- Sets of texts.
use Rattle.std.proofs.Common.{◌≡◌, ◌∙◌, ℕ, Bool, true, false, ◌||◌, cond, List, [], ◌∷◌, ◌++◌, map, bytes_eq, string_bytes, refl, sym, ap, ap₂}
use Rattle.std.proofs.lemmas.Bool.{false≢true}
use Rattle.std.proofs.lemmas.Slice.Eq.{bytes_eq-Decides}
use Rattle.std.specs.Prelude.{String}
use Rattle.std.specs.Global.{Global}
use Rattle.std.specs.HashSet.{HashSet, UpdatesBy}
use Rattle.std.specs.String.{string_eq}
use Rattle.std.proofs.lemmas.Map.Text.{hash_set_updates_text}
use Rattle.nf_builtins.specs.Natives.{is_among}
use Rattle.nf_known.specs.Patterns.{has_text, HasTexts}
use Rattle.nf_known.specs.Stuck.{HasOneMore}

either : (a b : Bool) → cond a true b ≡ (a || b)
either true b = refl
either false b = refl

pub has_one_more : {S : Type 0} (s n : HashSet (String Global) S) (k : String Global) (name : List ℕ) → string_bytes k ≡ name → UpdatesBy string_eq (string_eq k) s n true → HasOneMore name s.keys n.keys
has_one_more s n k name same h cs =
    hash_set_updates_text (string_bytes k) s n true h cs ∙ either (bytes_eq (string_bytes k) cs) (has_text cs s.keys)
    ∙ ap (λ z. bytes_eq z cs || has_text cs s.keys) same

-- the same texts, and one more in front
pub one_before : (name : List ℕ) (old new : List (String Global)) (ts : List (List ℕ)) → HasTexts old ts → HasOneMore name old new → HasTexts new (name ∷ ts)
one_before name old new ts h more n = more n ∙ ap (λ b. bytes_eq name n || b) (h n)

-- or at the end
or_swap : (a b c : Bool) → (a || (b || c)) ≡ (b || (a || c))
or_swap true true c = refl
or_swap true false c = refl
or_swap false b c = refl

pub among_last : (n m : List ℕ) (ts : List (List ℕ)) → is_among n (ts ++ m ∷ []) ≡ (bytes_eq m n || is_among n ts)
among_last n m [] = refl
among_last n m (t ∷ ts) = ap (λ b. bytes_eq t n || b) (among_last n m ts) ∙ or_swap (bytes_eq t n) (bytes_eq m n) (is_among n ts)

pub one_last : (name : List ℕ) (old new : List (String Global)) (ts : List (List ℕ)) → HasTexts old ts → HasOneMore name old new → HasTexts new (ts ++ name ∷ [])
one_last name old new ts h more n = more n ∙ ap (λ b. bytes_eq name n || b) (h n) ∙ sym (among_last n name ts)

-- keys are their own texts
eq_either : (t : Bool) (a b : List ℕ) → bytes_eq a b ≡ t → t ≡ bytes_eq b a
eq_either true a b h = sym ((bytes_eq-Decides b a).1 (sym ((bytes_eq-Decides a b).0 h)))
eq_either false a b h = not_equal (bytes_eq b a) refl
  where
    not_equal : (t : Bool) → bytes_eq b a ≡ t → false ≡ bytes_eq b a
    not_equal true k = absurd (false≢true (sym h ∙ (bytes_eq-Decides a b).1 (sym ((bytes_eq-Decides b a).0 k))))
    not_equal false k = sym k

pub own_texts : (ks : List (String Global)) → HasTexts ks (map string_bytes ks)
own_texts [] n = refl
own_texts (k ∷ ks) n = ap₂ (λ a b. a || b) (eq_either (bytes_eq n (string_bytes k)) n (string_bytes k) refl) (own_texts ks n)
