-- Parts in a row, one after the other.
use Rattle.std.proofs.Common.{◌≡◌, ℕ, suc, ◌+◌, ◌-◌, take, ◌<◌, ◌≤◌, Bool, true, false, List, [], ◌∷◌, ◌++◌, length, get_or, drop, refl, sym, ap, ◌∙◌, append_assoc, add-one, drop-cons, arith}
use Rattle.std.specs.Prelude.{◌||◌}
use Rattle.std.proofs.lemmas.List.{append-nil, drop_all, take_all}
use Rattle.std.proofs.Math.Bool.{or_assoc}
use Rattle.nf_kinds.specs.Kinds.{Shaped}
use Rattle.nf_kinds.specs.Walk.{Walk, came, after, ◌>>=◌, gives}
use Rattle.nf_order.specs.declared.around.State.{State}
use Rattle.nf_order.specs.Standing.{Gives, Leads}
use Rattle.nf_order.proofs.Walks.{alike, given_back, goes, regroups, then_gives}

-- ---- lists in memory

pub left : {X : Type 0} (xs : List X) (i : ℕ) (x : X) → i < length xs → x ≡ get_or xs i x → drop i xs ≡ x ∷ drop (i + 1) xs
left xs i x h is = rw (add-one, drop-cons xs i x, ← is) refl

-- what a pattern `[x, more @ ..]` gives
pub after_first : {X : Type 0} (xs : List X) → take (length xs - 1) (drop 1 xs) ≡ drop 1 xs
after_first [] = refl
after_first (y ∷ ys) = take_all (suc (length ys) - 1) ys (omega arith)

pub first_of : {X : Type 0} (xs : List X) (x : X) → 0 < length xs → x ≡ get_or xs 0 x → xs ≡ x ∷ take (length xs - 1) (drop 1 xs)
first_of [] x h is = absurd (omega arith)
first_of (y ∷ ys) x h is = ap (λ z. z ∷ ys) (sym is) ∙ ap (λ l. x ∷ l) (sym (after_first (y ∷ ys)))

-- ---- rows that give lists

-- what was given so far, and what the rest gives
abbrev pub with_more : {A : Type 0} → List A → Walk (List A) → Walk (List A)
with_more ys w = w >>= λ os. gives (ys ++ os)

abbrev pub one_then : {A : Type 0} → Walk A → Walk (List A) → Walk (List A)
one_then w more = w >>= λ o. more >>= λ os. gives (o ∷ os)

pub row_begins : {A : Type 0} (w : Walk (List A)) (s : State) → Leads w (with_more [] w) s s
row_begins w s = ap (after s.broken.items) (sym (then_gives (w s.scope)))

pub row_goes : {A : Type 0} (w : Walk A) (more : Walk (List A)) (ys : List A) (x : A) (old new : State) → Gives w old x new → Leads (with_more ys (one_then w more)) (with_more (ys ++ x ∷ []) more) old new
row_goes w more ys x old new h =
    regroups w (λ o. more >>= λ os. gives (o ∷ os)) (λ os. gives (ys ++ os)) old
    ∙ goes w (λ o. (more >>= λ os. gives (o ∷ os)) >>= λ os. gives (ys ++ os)) x old new h
    ∙ regroups more (λ os. gives (x ∷ os)) (λ os. gives (ys ++ os)) new
    ∙ alike more (λ os. gives (x ∷ os) >>= λ os. gives (ys ++ os)) (λ os. gives ((ys ++ x ∷ []) ++ os)) new (λ os r. ap (λ l. came l r []) (sym (append_assoc ys (x ∷ []) os)))

pub row_ends : {A : Type 0} (w : Walk (List A)) (ys : List A) (old new : State) → Leads w (with_more ys (gives [])) old new → Gives w old ys new
row_ends w ys old new h = given_back w ys old new (h ∙ ap (λ l. after new.broken.items (came l new.scope [])) (append-nil ys))

-- ---- rows of which is asked whether something is unknown

abbrev pub or_more : Bool → Walk Bool → Walk Bool
or_more b w = w >>= λ u. gives (b || u)

abbrev pub unknown_or : Walk Shaped → Walk Bool → Walk Bool
unknown_or w more = w >>= λ v. more >>= λ u. gives (v.kinds.unknown || u)

or_false : (a : Bool) → a || false ≡ a
or_false true = refl
or_false false = refl

pub asked_begins : (w : Walk Bool) (s : State) → Leads w (or_more false w) s s
asked_begins w s = ap (after s.broken.items) (sym (then_gives (w s.scope)))

pub asked_goes : (w : Walk Shaped) (more : Walk Bool) (b : Bool) (v : Shaped) (old new : State) → Gives w old v new → Leads (or_more b (unknown_or w more)) (or_more (b || v.kinds.unknown) more) old new
asked_goes w more b v old new h =
    regroups w (λ v. more >>= λ u. gives (v.kinds.unknown || u)) (λ u. gives (b || u)) old
    ∙ goes w (λ v. (more >>= λ u. gives (v.kinds.unknown || u)) >>= λ u. gives (b || u)) v old new h
    ∙ regroups more (λ u. gives (v.kinds.unknown || u)) (λ u. gives (b || u)) new
    ∙ alike more (λ u. gives (v.kinds.unknown || u) >>= λ u. gives (b || u)) (λ u. gives ((b || v.kinds.unknown) || u)) new (λ u r. ap (λ x. came x r []) (sym (or_assoc b v.kinds.unknown u)))

pub asked_ends : (w : Walk Bool) (b : Bool) (old new : State) → Leads w (or_more b (gives false)) old new → Gives w old b new
asked_ends w b old new h = given_back w b old new (h ∙ ap (λ x. after new.broken.items (came x new.scope [])) (or_false b))

-- ---- loops over rows: one turn, and the end

pub asked_step : {X : Type 0} (f : List X → Walk Bool) (w : Walk Shaped) (xs : List X) (i : ℕ) (x : X) (b c : Bool) (v : Shaped) (start old new : State) → i < length xs → x ≡ get_or xs i x → f (x ∷ drop (i + 1) xs) ≡ unknown_or w (f (drop (i + 1) xs)) → Gives w old v new → c ≡ b || v.kinds.unknown → Leads (f xs) (or_more b (f (drop i xs))) start old → Leads (f xs) (or_more c (f (drop (i + 1) xs))) start new
asked_step f w xs i x b c v start old new h is e g d inv =
    inv
    ∙ ap (λ ys. after old.broken.items (or_more b (f ys) old.scope)) (left xs i x h is)
    ∙ ap (λ u. after old.broken.items (or_more b u old.scope)) e
    ∙ asked_goes w (f (drop (i + 1) xs)) b v old new g
    ∙ ap (λ u. after new.broken.items (or_more u (f (drop (i + 1) xs)) new.scope)) (sym d)

pub row_step : {X A : Type 0} (f : List X → Walk (List A)) (w : Walk A) (xs : List X) (i : ℕ) (x : X) (ys zs : List A) (o : A) (start old new : State) → i < length xs → x ≡ get_or xs i x → f (x ∷ drop (i + 1) xs) ≡ one_then w (f (drop (i + 1) xs)) → Gives w old o new → zs ≡ ys ++ o ∷ [] → Leads (f xs) (with_more ys (f (drop i xs))) start old → Leads (f xs) (with_more zs (f (drop (i + 1) xs))) start new
row_step f w xs i x ys zs o start old new h is e g d inv =
    inv
    ∙ ap (λ us. after old.broken.items (with_more ys (f us) old.scope)) (left xs i x h is)
    ∙ ap (λ u. after old.broken.items (with_more ys u old.scope)) e
    ∙ row_goes w (f (drop (i + 1) xs)) ys o old new g
    ∙ ap (λ us. after new.broken.items (with_more us (f (drop (i + 1) xs)) new.scope)) (sym d)

pub done_step : {X A B : Type 0} (f : List X → Walk B) (w : Walk A) (xs : List X) (i : ℕ) (x : X) (o : A) (start old new : State) → i < length xs → x ≡ get_or xs i x → f (x ∷ drop (i + 1) xs) ≡ (w >>= λ t. f (drop (i + 1) xs)) → Gives w old o new → Leads (f xs) (f (drop i xs)) start old → Leads (f xs) (f (drop (i + 1) xs)) start new
done_step f w xs i x o start old new h is e g inv =
    inv
    ∙ ap (λ us. after old.broken.items (f us old.scope)) (left xs i x h is)
    ∙ ap (λ u. after old.broken.items (u old.scope)) e
    ∙ goes w (λ t. f (drop (i + 1) xs)) o old new g

pub asked_finish : {X : Type 0} (f : List X → Walk Bool) (xs : List X) (i : ℕ) (b : Bool) (start new : State) → length xs ≤ i → f [] ≡ gives false → Leads (f xs) (or_more b (f (drop i xs))) start new → Gives (f xs) start b new
asked_finish f xs i b start new h e inv =
    asked_ends (f xs) b start new
    (inv ∙ ap (λ ys. after new.broken.items (or_more b (f ys) new.scope)) (drop_all i xs h) ∙ ap (λ u. after new.broken.items (or_more b u new.scope)) e)

pub row_finish : {X A : Type 0} (f : List X → Walk (List A)) (xs : List X) (i : ℕ) (ys : List A) (start new : State) → length xs ≤ i → f [] ≡ gives [] → Leads (f xs) (with_more ys (f (drop i xs))) start new → Gives (f xs) start ys new
row_finish f xs i ys start new h e inv =
    row_ends (f xs) ys start new
    (inv ∙ ap (λ us. after new.broken.items (with_more ys (f us) new.scope)) (drop_all i xs h) ∙ ap (λ u. after new.broken.items (with_more ys u new.scope)) e)

pub done_finish : {X A : Type 0} (f : List X → Walk A) (xs : List X) (i : ℕ) (o : A) (start new : State) → length xs ≤ i → f [] ≡ gives o → Leads (f xs) (f (drop i xs)) start new → Gives (f xs) start o new
done_finish f xs i o start new h e inv =
    given_back (f xs) o start new
    (inv ∙ ap (λ us. after new.broken.items (f us new.scope)) (drop_all i xs h) ∙ ap (λ u. after new.broken.items (u new.scope)) e)
