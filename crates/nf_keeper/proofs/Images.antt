-- What puts leave, where a keeper's content is told.
use Rattle.std.proofs.Common.{◌≡◌, ℕ, ◌<◌, ◌≤◌, List, take, cond, Option, None, Some, ap, ◌∙◌, inl, inr, ⊎_elim, arith, length-take}
use Rattle.std.specs.Ordering.{nat_cmp}
use Rattle.std.specs.Cmp.Lexicographic.{slice_cmp}
use Rattle.std.specs.BTreeMap.{BTreeMap, get, Updates}
use Rattle.std.proofs.lemmas.Bool.{cases_lt}
use Rattle.std.proofs.lemmas.List.{take_all, take-take}
use Rattle.std.proofs.lemmas.Map.Text.{is_eq-slice_cmp}
use Rattle.nf_keeper.specs.Held.{Held, put, IsPut, IsStopImage, Both}
use Rattle.nf_keeper.specs.FuseKeeper.{LeavesFront}

-- a fact of both contents follows from another
both_then : {A : Type 0} (a b : Option A) (P Q : A → A → Type 0) → ((m n : A) → P m n → Q m n) → Both a b P → Both a b Q
both_then None None P Q k h = tt
both_then (Some m) (Some n) P Q k h = k m n h
both_then None (Some n) P Q k h = h
both_then (Some m) None P Q k h = h

-- a front of a front is a front
front_of_front : (j k : ℕ) (bytes : List ℕ) → (i : ℕ) × (take j (take k bytes) ≡ take i bytes)
front_of_front j k bytes =
    ⊎_elim (λ (h : j < k). (j, take-take j k bytes (omega (arith, h)))) (λ (h : k ≤ j). (k, take_all j (take k bytes) (let e = length-take k bytes in omega (arith, e, h)))) (cases_lt j k)

-- what a stopped put of a front may leave, a stopped put of all may leave
image_of_front : (m : Held) (key bytes : List ℕ) (k : ℕ) (n : Held) → IsStopImage m key (take k bytes) n → IsStopImage m key bytes n
image_of_front m key bytes k n (inl h) = inl h
image_of_front m key bytes k n (inr p) = let i = front_of_front p.0 k bytes in inr (i.0, λ q. p.1 q ∙ ap (λ bs. put m key bs q) i.1)

image_left : (key bytes : List ℕ) (front : Option ℕ) (m n : Held) → LeavesFront key bytes front m n → IsStopImage m key bytes n
image_left key bytes None m n h = inl h
image_left key bytes (Some k) m n h = image_of_front m key bytes k n h

-- a put that fails leaves what a stopped put may leave
pub failed_put : (a b : Option Held) (key bytes : List ℕ) (front : Option ℕ) → Both a b (LeavesFront key bytes front) → Both a b (λ m n. IsStopImage m key bytes n)
failed_put a b key bytes front h = both_then a b (LeavesFront key bytes front) (λ m n. IsStopImage m key bytes n) (image_left key bytes front) h

-- what a map holds after an insert
pub held_after : (m n : BTreeMap (List ℕ) (List ℕ)) (key bytes : List ℕ) → Updates (slice_cmp nat_cmp) m n key (Some bytes) → IsPut (get (slice_cmp nat_cmp) m) key bytes (get (slice_cmp nat_cmp) n)
held_after m n key bytes h = λ q. h.0 q ∙ ap (λ b. cond b (Some bytes) (get (slice_cmp nat_cmp) m q)) (is_eq-slice_cmp key q)
