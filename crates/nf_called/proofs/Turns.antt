-- Turns of loops over parts in a row.
use Rattle.std.proofs.Common.{◌≡◌, ℕ, ◌+◌, ◌<◌, ◌≤◌, List, [], ◌∷◌, ◌++◌, length, get_or, drop, map, Ok, Err, refl, sym, ap, subst, ◌∙◌, append_assoc, append-nil, add-one, drop-cons}
use Rattle.std.proofs.lemmas.List.{drop_all}
use Rattle.nf_ast.specs.Tree.{Tree, cons, empty}
use Rattle.nf_ast.specs.View.{trees}
use Rattle.nf_meaning.specs.declared.fault.LowerFault.{LowerFault}
use Rattle.nf_meaning.specs.Lowered.{Lowered, ◌>>=◌}
use Rattle.nf_lowered.specs.Given.{HasFault}
use Rattle.nf_lowered.proofs.Joining.{fault_on}

pub left : {X : Type 0} (xs : List X) (i : ℕ) (x : X) → i < length xs → x ≡ get_or xs i x → drop i xs ≡ x ∷ drop (i + 1) xs
left xs i x h is = rw (add-one, drop-cons xs i x, ← is) refl

-- the parts that are still to come
abbrev pub rest : {A : Type 0} → (A → Tree) → List A → ℕ → Tree
rest view xs i = trees (map view (drop i xs))

pub next : {A : Type 0} (view : A → Tree) (xs : List A) (i : ℕ) (x : A) → i < length xs → x ≡ get_or xs i x → rest view xs i ≡ cons (view x) (rest view xs (i + 1))
next view xs i x h is = ap (λ ys. trees (map view ys)) (left xs i x h is)

-- after the last part
pub over : {A : Type 0} (view : A → Tree) (xs : List A) (i : ℕ) → length xs ≤ i → rest view xs i ≡ empty
over view xs i h = ap (λ ys. trees (map view ys)) (drop_all i xs h)

-- ---- each part makes a new state of the one before it

module _ {A S : Type 0} (view : A → Tree) (all one : Tree → S → Lowered S) (steps : (a more : Tree) (s : S) → all (cons a more) s ≡ (one a s >>= all more)) where
  pub state_turn : (xs : List A) (i : ℕ) (x : A) (s t : S) (whole : Lowered S) → i < length xs → x ≡ get_or xs i x → one (view x) s ≡ Ok t
      → all (rest view xs i) s ≡ whole → all (rest view xs (i + 1)) t ≡ whole
  state_turn xs i x s t whole l is h inv =
      let more = rest view xs (i + 1) in
      sym (ap (λ w. w >>= all more) h) ∙ sym (steps (view x) more s) ∙ sym (ap (λ r. all r s) (next view xs i x l is)) ∙ inv

  pub state_fault : (xs : List A) (i : ℕ) (x : A) (s : S) (whole : Lowered S) (e : LowerFault) → i < length xs → x ≡ get_or xs i x
      → all (rest view xs i) s ≡ whole → HasFault (one (view x) s) e → HasFault whole e
  state_fault xs i x s whole e l is inv h =
      let more = rest view xs (i + 1) in
      subst (λ w. HasFault w e) (sym (steps (view x) more s) ∙ sym (ap (λ r. all r s) (next view xs i x l is)) ∙ inv)
      (fault_on (one (view x) s) (all more) e h)

-- a state that the last part made
pub state_end : {A S : Type 0} (view : A → Tree) (all : Tree → S → Lowered S) → ((s : S) → all empty s ≡ Ok s) → (xs : List A) (i : ℕ) (s : S) (whole : Lowered S)
    → length xs ≤ i → all (rest view xs i) s ≡ whole → whole ≡ Ok s
state_end view all ends xs i s whole h inv = sym inv ∙ ap (λ r. all r s) (over view xs i h) ∙ ends s

-- ---- each part gives a thing

-- with the things that were given before
abbrev pub behind : {Y : Type 0} → List Y → Lowered (List Y) → Lowered (List Y)
behind done w = w >>= λ ys. Ok (done ++ ys)

pub behind_none : {Y : Type 0} (w : Lowered (List Y)) → behind [] w ≡ w
behind_none (Ok ys) = refl
behind_none (Err e) = refl

one_more : {Y : Type 0} (done : List Y) (y : Y) (w : Lowered (List Y)) → behind done (w >>= λ ys. Ok (y ∷ ys)) ≡ behind (done ++ y ∷ []) w
one_more done y (Ok ys) = ap Ok (sym (append_assoc done (y ∷ []) ys))
one_more done y (Err e) = refl

module _ {A Y : Type 0} (view : A → Tree) (all : Tree → Lowered (List Y)) (one : Tree → Lowered Y)
    (steps : (a more : Tree) → all (cons a more) ≡ (one a >>= λ y. all more >>= λ ys. Ok (y ∷ ys))) where
  pub thing_turn : (xs : List A) (i : ℕ) (x : A) (done : List Y) (y : Y) (whole : Lowered (List Y)) → i < length xs → x ≡ get_or xs i x → one (view x) ≡ Ok y
      → behind done (all (rest view xs i)) ≡ whole → behind (done ++ y ∷ []) (all (rest view xs (i + 1))) ≡ whole
  thing_turn xs i x done y whole l is h inv =
      let more = rest view xs (i + 1) in
      sym (one_more done y (all more))
      ∙ sym (ap (λ w. behind done (w >>= λ z. all more >>= λ ys. Ok (z ∷ ys))) h)
      ∙ sym (ap (behind done) (steps (view x) more))
      ∙ sym (ap (λ r. behind done (all r)) (next view xs i x l is)) ∙ inv

  pub thing_fault : (xs : List A) (i : ℕ) (x : A) (done : List Y) (whole : Lowered (List Y)) (e : LowerFault) → i < length xs → x ≡ get_or xs i x
      → behind done (all (rest view xs i)) ≡ whole → HasFault (one (view x)) e → HasFault whole e
  thing_fault xs i x done whole e l is inv h =
      let more = rest view xs (i + 1) in
      subst (λ w. HasFault w e)
      (sym (ap (behind done) (steps (view x) more)) ∙ sym (ap (λ r. behind done (all r)) (next view xs i x l is)) ∙ inv)
      (fault_on (one (view x) >>= λ y. all more >>= λ ys. Ok (y ∷ ys)) (λ ys. Ok (done ++ ys)) e
      (fault_on (one (view x)) (λ y. all more >>= λ ys. Ok (y ∷ ys)) e h))

-- all things
pub thing_end : {A Y : Type 0} (view : A → Tree) (all : Tree → Lowered (List Y)) → all empty ≡ Ok [] → (xs : List A) (i : ℕ) (done : List Y) (whole : Lowered (List Y))
    → length xs ≤ i → behind done (all (rest view xs i)) ≡ whole → whole ≡ Ok done
thing_end view all ends xs i done whole h inv =
    sym inv ∙ ap (λ r. behind done (all r)) (over view xs i h) ∙ ap (behind done) ends ∙ ap (λ l. Ok l) (append-nil done)
