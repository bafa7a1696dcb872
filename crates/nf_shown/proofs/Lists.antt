-- The lists of the views, in memory.
use Rattle.std.proofs.Common.{◌≡◌, ℕ, ◌+◌, ◌<◌, List, [], ◌∷◌, ◌++◌, length, get_or, set, drop, Bool, true, false, refl, ap, sym, ◌∙◌}
use Rattle.std.specs.Prelude.{if◌then◌else◌}
use Rattle.std.proofs.lemmas.List.{append_assoc, drop_more, get_or_default, set-set}
use Rattle.nf_value.specs.Plain.{Plain}
use Rattle.nf_shown.specs.Shown.{chosen_from, with_more}

-- a value more at the end of the list that was taken out
pub with_pushed : (xs : List (List Plain)) (i : ℕ) (d was new : List Plain) (v : Plain) → i < length xs → was ≡ get_or xs i was → new ≡ was ++ v ∷ [] → set (set xs i d) i new ≡ with_more xs i v
with_pushed xs i d was new v l is more = set-set xs i d new ∙ ap (set xs i) (more ∙ ap (λ (p : List Plain). p ++ v ∷ []) (is ∙ get_or_default xs i was [] l))

chosen_one : (b : Bool) (bs : List Bool) (x : List Plain) (xs : List (List Plain)) → chosen_from (b ∷ bs) (x ∷ xs) ≡ (if b then x ∷ [] else []) ++ chosen_from bs xs
chosen_one true bs x xs = refl
chosen_one false bs x xs = refl

-- the next list is chosen if its node is a view
pub chosen_next : (are : List Bool) (i : ℕ) (x : List Plain) (xs ys zs all : List (List Plain)) → i < length are → ys ++ chosen_from (drop i are) (x ∷ xs) ≡ all
    → zs ≡ ys ++ (if get_or are i false then x ∷ [] else []) → zs ++ chosen_from (drop (i + 1) are) xs ≡ all
chosen_next are i x xs ys zs all l so more =
    ap (λ v. v ++ chosen_from (drop (i + 1) are) xs) more
    ∙ append_assoc ys (if get_or are i false then x ∷ [] else []) (chosen_from (drop (i + 1) are) xs)
    ∙ ap (λ v. ys ++ v) (sym (ap (λ bs. chosen_from bs (x ∷ xs)) (drop_more are i false l) ∙ chosen_one (get_or are i false) (drop (i + 1) are) x xs)) ∙ so
