-- Loops over lists whose definition goes by the first item. The loop has the item x at the place i.
use Rattle.std.proofs.Common.{◌≡◌, ℕ, ◌+◌, ◌<◌, ◌≤◌, List, [], ◌∷◌, ◌++◌, length, drop, get_or, refl, ap, sym, ◌∙◌, add-one, drop-cons, append_assoc, Ok, Err}
use Rattle.std.proofs.lemmas.List.{drop_all}
use Rattle.nf_job.specs.declared.fault.TaskFault.{TaskFault}
use Rattle.nf_tasks.specs.Judged.{Judged, ◌>>=◌, added}
use Rattle.nf_tasks.proofs.Adding.{one_more, fault_kept, list_more}

-- the item at a place stands before the rest
pub front : {A : Type 0} (xs : List A) (i : ℕ) (x : A) → i < length xs → x ≡ get_or xs i x → drop i xs ≡ x ∷ drop (i + 1) xs
front xs i x lt at =
    let whole : drop i xs ≡ get_or xs i x ∷ drop (i + 1) xs = rw (add-one, drop-cons xs i x) refl in
    whole ∙ ap (λ y. y ∷ drop (i + 1) xs) (sym at)

-- a list that is added whole
pub joins : {X Y : Type 0} (F : List X → List Y) (one : X → List Y) → ((x : X) (xs : List X) → F (x ∷ xs) ≡ one x ++ F xs)
    → (xs : List X) (i : ℕ) (x : X) (ys zs all : List Y) → i < length xs → x ≡ get_or xs i x → zs ≡ ys ++ one x → ys ++ F (drop i xs) ≡ all → zs ++ F (drop (i + 1) xs) ≡ all
joins F one cons xs i x ys zs all lt at is h =
    ap (λ l. l ++ F (drop (i + 1) xs)) is ∙ append_assoc ys (one x) (F (drop (i + 1) xs)) ∙ ap (λ l. ys ++ l) (sym (cons x (drop (i + 1) xs)) ∙ sym (ap F (front xs i x lt at))) ∙ h

-- each item gives one value, and leaves a state to the rest
pub walk_step : {X S Y : Type 0} (F : List X → S → Judged (List Y)) (first : X → S → Judged Y) (next : X → S → S) → ((x : X) (xs : List X) (s : S) → F (x ∷ xs) s ≡ (first x s >>= λ v. F xs (next x s) >>= λ vs. Ok (v ∷ vs)))
    → (xs : List X) (i : ℕ) (x : X) (s t : S) (ys zs : List Y) (y : Y) (all : Judged (List Y)) → i < length xs → x ≡ get_or xs i x → first x s ≡ Ok y → zs ≡ ys ++ y ∷ [] → t ≡ next x s → added ys (F (drop i xs) s) ≡ all → added zs (F (drop (i + 1) xs) t) ≡ all
walk_step F first next cons xs i x s t ys zs y all lt at is more left h =
    ap (λ u. added zs (F (drop (i + 1) xs) u)) left
    ∙ ap (λ l. added l (F (drop (i + 1) xs) (next x s))) more
    ∙ sym (one_more ys (first x s) (F (drop (i + 1) xs) (next x s)) y is)
    ∙ sym (ap (added ys) (cons x (drop (i + 1) xs) s))
    ∙ sym (ap (λ l. added ys (F l s)) (front xs i x lt at)) ∙ h

-- each item gives a list
module _ {X Y : Type 0} (F : List X → Judged (List Y)) (first : X → Judged (List Y)) (cons : (x : X) (xs : List X) → F (x ∷ xs) ≡ (first x >>= λ ts. F xs >>= λ us. Ok (ts ++ us))) where
  pub grow_step : (xs : List X) (i : ℕ) (x : X) (ys zs : List Y) (all : Judged (List Y)) → i < length xs → x ≡ get_or xs i x → added ys (first x) ≡ Ok zs → added ys (F (drop i xs)) ≡ all → added zs (F (drop (i + 1) xs)) ≡ all
  grow_step xs i x ys zs all lt at is h =
      sym (list_more ys zs (first x) (F (drop (i + 1) xs)) is) ∙ sym (ap (added ys) (cons x (drop (i + 1) xs))) ∙ sym (ap (λ l. added ys (F l)) (front xs i x lt at)) ∙ h

  pub grow_fault : (xs : List X) (i : ℕ) (x : X) (ys : List Y) (e : TaskFault) (all : Judged (List Y)) → i < length xs → x ≡ get_or xs i x → first x ≡ Err e → added ys (F (drop i xs)) ≡ all → all ≡ Err e
  grow_fault xs i x ys e all lt at is h =
      sym h ∙ ap (λ l. added ys (F l)) (front xs i x lt at) ∙ ap (added ys) (cons x (drop (i + 1) xs)) ∙ fault_kept ys (first x) (λ ts. F (drop (i + 1) xs) >>= λ us. Ok (ts ++ us)) e is

-- a test of an item after the other
pub goes_on : {X T : Type 0} (F : List X → T) (xs : List X) (i : ℕ) (x : X) (next all : T) → i < length xs → x ≡ get_or xs i x → F (x ∷ drop (i + 1) xs) ≡ next → F (drop i xs) ≡ all → next ≡ all
goes_on F xs i x next all lt at is h = sym is ∙ sym (ap F (front xs i x lt at)) ∙ h

pub ends : {X T : Type 0} (F : List X → T) (xs : List X) (i : ℕ) (all : T) → length xs ≤ i → F (drop i xs) ≡ all → F [] ≡ all
ends F xs i all end h = sym (ap F (drop_all i xs end)) ∙ h
