-- How walks go on.
use Rattle.std.proofs.Common.{◌≡◌, List, [], ◌++◌, Result, Ok, Err, IfOk, OnOk, refl, sym, ap, ◌∙◌, append_assoc}
use Rattle.std.proofs.lemmas.List.{append-nil}
use Rattle.nf_kinds.specs.declared.fault.Broken.{Broken}
use Rattle.nf_kinds.specs.Scope.{Scope}
use Rattle.nf_kinds.specs.Walk.{Out, came, Walk, after, then_by, ◌>>=◌, gives}
use Rattle.nf_order.specs.declared.around.State.{State}
use Rattle.nf_order.specs.Standing.{Gives, Leads}
use Rattle.std.specs.Prelude.{ℕ, Option}
use Rattle.nf_kinds.specs.declared.kinds.Kinds.{Kinds}
use Rattle.nf_order.specs.Accepted.{ended}

pub after_none : {A : Type 0} (o : Out A) → after [] o ≡ o
after_none (came x s fs) = refl

pub after_twice : {A : Type 0} (fs gs : List Broken) (o : Out A) → after fs (after gs o) ≡ after (fs ++ gs) o
after_twice fs gs (came x s hs) = ap (λ l. came x s l) (sym (append_assoc fs gs hs))

-- what follows a part comes after what was broken before it
pub after_then : {A B : Type 0} (fs : List Broken) (f : A → Walk B) (o : Out A) → after fs (then_by f o) ≡ then_by f (after fs o)
after_then fs f (came x s gs) = after_twice fs gs (f x s)

abbrev broken_in : {A : Type 0} → Out A → List Broken
broken_in (came x s fs) = fs

-- what is broken at the end of a body stands behind what was broken before
pub ended_broken : (before : List Broken) (o : Out (List (Option (List ℕ) × Kinds))) (x : List (Option (List ℕ) × Kinds)) (s : Scope) (all : List Broken) → after before o ≡ came x s all → all ≡ before ++ (ended o).broken
ended_broken before (came y t gs) x s all e = sym (ap broken_in e)

pub then_twice : {A B C : Type 0} (f : A → Walk B) (g : B → Walk C) (o : Out A) → then_by g (then_by f o) ≡ then_by (λ x. f x >>= g) o
then_twice f g (came x s fs) = sym (after_then fs g (f x s))

pub then_alike : {A B : Type 0} (f g : A → Walk B) (o : Out A) → ((x : A) (s : Scope) → f x s ≡ g x s) → then_by f o ≡ then_by g o
then_alike f g (came x s fs) h = ap (after fs) (h x s)

pub then_gives : {A : Type 0} (o : Out A) → then_by (λ x. gives x) o ≡ o
then_gives (came x s fs) = ap (λ l. came x s l) (append-nil fs)

-- ---- in states

-- what follows goes on alike
pub leads_on : {A B : Type 0} (w u : Walk A) (f : A → Walk B) (old new : State) → Leads w u old new → Leads (w >>= f) (u >>= f) old new
leads_on w u f old new h =
    after_then old.broken.items f (w old.scope) ∙ ap (then_by f) h ∙ sym (after_then new.broken.items f (u new.scope))

-- what follows a part that gives this
pub goes : {A B : Type 0} (w : Walk A) (f : A → Walk B) (x : A) (old new : State) → Gives w old x new → Leads (w >>= f) (f x) old new
goes w f x old new h = after_then old.broken.items f (w old.scope) ∙ ap (then_by f) h

pub leads_gives : {A : Type 0} (w u : Walk A) (x : A) (old mid new : State) → Leads w u old mid → Gives u mid x new → Gives w old x new
leads_gives w u x old mid new e h = e ∙ h

-- a part that gives this, as one that leads there
pub given : {A : Type 0} (w : Walk A) (x : A) (old new : State) → Gives w old x new → Leads w (gives x) old new
given w x old new h = h ∙ ap (λ l. came x new.scope l) (sym (append-nil new.broken.items))

pub given_back : {A : Type 0} (w : Walk A) (x : A) (old new : State) → Leads w (gives x) old new → Gives w old x new
given_back w x old new h = h ∙ ap (λ l. came x new.scope l) (append-nil new.broken.items)

-- a part that changes nothing
pub still : {A : Type 0} (w : Walk A) (x : A) (s : State) → w s.scope ≡ came x s.scope [] → Gives w s x s
still w x s h = ap (after s.broken.items) h ∙ ap (λ l. came x s.scope l) (append-nil s.broken.items)

-- a part that changes the scope alone, or breaks rules
pub moves : {A : Type 0} (w : Walk A) (x : A) (fs : List Broken) (old new : State) → w old.scope ≡ came x new.scope fs → new.broken.items ≡ old.broken.items ++ fs → Gives w old x new
moves w x fs old new h e = ap (after old.broken.items) h ∙ ap (λ l. came x new.scope l) (sym e)

-- a part whose result is changed
pub maps : {A B : Type 0} (w : Walk A) (f : A → B) (x : A) (old new : State) → Gives w old x new → Gives (w >>= λ v. gives (f v)) old (f x) new
maps w f x old new h = given_back (w >>= λ v. gives (f v)) (f x) old new (goes w (λ v. gives (f v)) x old new h)

-- three parts after each other
pub regroups : {A B C : Type 0} (w : Walk A) (f : A → Walk B) (g : B → Walk C) (s : State) → Leads ((w >>= f) >>= g) (w >>= λ x. f x >>= g) s s
regroups w f g s = ap (after s.broken.items) (then_twice f g (w s.scope))

pub alike : {A B : Type 0} (w : Walk A) (f g : A → Walk B) (s : State) → ((x : A) (r : Scope) → f x r ≡ g x r) → Leads (w >>= f) (w >>= g) s s
alike w f g s h = ap (after s.broken.items) (then_alike f g (w s.scope) h)

-- ---- results

pub if_ok : {A E : Type 0} (r : Result A E) (P Q : A → Type 0) → ((x : A) → P x → Q x) → IfOk r P → IfOk r Q
if_ok (Ok x) P Q f h = f x h
if_ok (Err e) P Q f h = tt

pub on_ok : {A E : Type 0} (r : Result A E) (P Q : Type 0) → (P → Q) → OnOk r P → OnOk r Q
on_ok (Ok x) P Q f h = f h
on_ok (Err e) P Q f h = tt

-- the last call of a function gives what it gives
pub lasts : {A E : Type 0} (r : Result A E) (w u : Walk A) (old mid new : State) → Leads w u old mid → IfOk r (λ v. Gives u mid v new) → IfOk r (λ v. Gives w old v new)
lasts r w u old mid new e h = if_ok r (λ v. Gives u mid v new) (λ v. Gives w old v new) (λ v g. e ∙ g) h
