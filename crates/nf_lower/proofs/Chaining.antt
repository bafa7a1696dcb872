-- Calls at the end of an expression, by what stands last before them.
use Rattle.std.proofs.Common.{◌≡◌, ℕ, Bool, true, false, List, refl, sym, ap, subst, ◌⊎◌, inl, inr}
use Rattle.std.proofs.lemmas.Bool.{false≢true, true≢false}
use Rattle.nf_ast.specs.declared.operators.InfixOperator.{InfixOperator}
use Rattle.nf_ast.specs.declared.operators.InfixOperator.TheVariants as infix_operator
use Rattle.nf_ast.specs.Tree as tree
use Rattle.nf_ast.specs.Tree.{Tree}
use Rattle.nf_value.specs.declared.place.Place.{Place}
use Rattle.nf_fronts.specs.declared.last.Last.{Last}
use Rattle.nf_fronts.specs.declared.last.Last.TheVariants as last
use Rattle.nf_fronts.specs.Lasts.{IsLast, is_other}
use Rattle.nf_meaning.specs.declared.fault.LowerFault.TheVariants.{BadOption}
use Rattle.nf_meaning.specs.Arguments.{Arg}
use Rattle.nf_meaning.specs.Places.{begins_at}
use Rattle.nf_meaning.specs.Things.{Thing}
use Rattle.nf_meaning.specs.Walk.{Walk, ◌>>=◌, refused}
use Rattle.nf_meaning.specs.Workflow.{Part, expression, of_binary, part_of}
use Rattle.nf_meaning.specs.Workflow as workflow
use Rattle.nf_walked.specs.Members.{member_at, thing_method_at}

-- ---- what can't be called; and what has members and methods as any thing

-- an arm of several patterns: what holds in each holds
pub one_of : {A B : Type 0} (P : Type 0) → A ⊎ B → (A → P) → (B → P) → P
one_of P (inl a) f g = f a
one_of P (inr b) f g = g b

abbrev pub is_name : Last → Bool
is_name (last.Name p n) = true
is_name _ = false

abbrev pub is_callable : Last → Bool
is_callable (last.Name p n) = true
is_callable (last.Property f p n) = true
is_callable _ = false

-- what a part is that no call may follow, and that is no name
pub record IsPlain (t : Tree) (part : Part) : Type 0 where
  pub member : part.member ≡ λ p n. part.thing >>= workflow.member_of (begins_at t) p n
  pub method : part.method ≡ λ p n xs. part.thing >>= workflow.method_of (begins_at t) p n xs
  pub called : part.called ≡ λ p xs. refused (BadOption p)

plain : (t : Tree) (w : Walk Thing) → IsPlain t (expression t w)
plain t w = record { member = refl; method = refl; called = refl }

binary_plain : (p : Place) (k : InfixOperator) (a b : Tree) (x y : Part) → IsPlain (tree.binary p k a b) (of_binary k (tree.binary p k a b) a x y)
binary_plain p infix_operator.Pipe a b x y = record { member = refl; method = refl; called = refl }
binary_plain p _ a b x y = record { member = refl; method = refl; called = refl }

other_plain : (t : Tree) → is_other t ≡ true → IsPlain t (part_of t)
other_plain (tree.number p z) h = record { member = refl; method = refl; called = refl }
other_plain (tree.text p k s) h = record { member = refl; method = refl; called = refl }
other_plain (tree.pattern p s) h = record { member = refl; method = refl; called = refl }
other_plain (tree.template p k xs) h = record { member = refl; method = refl; called = refl }
other_plain (tree.truth p b) h = record { member = refl; method = refl; called = refl }
other_plain (tree.null p) h = record { member = refl; method = refl; called = refl }
other_plain (tree.map p xs) h = record { member = refl; method = refl; called = refl }
other_plain (tree.closure p ps b) h = record { member = refl; method = refl; called = refl }
other_plain (tree.prefix p k e) h = record { member = refl; method = refl; called = refl }
other_plain (tree.binary p k a b) h = binary_plain p k a b (part_of a) (part_of b)
other_plain (tree.elvis p a b) h = record { member = refl; method = refl; called = refl }
other_plain (tree.safe_property e n) h = record { member = refl; method = refl; called = refl }
other_plain _ h = absurd (false≢true h)

abbrev PlainAt : Tree → Type 0
PlainAt t = IsPlain t (part_of t)

uncallable_plain : (t : Tree) (l : Last) → IsLast t l → is_callable l ≡ false → PlainAt t
uncallable_plain t (last.Name p n) h isnt = absurd (true≢false isnt)
uncallable_plain t (last.Property f p n) h isnt = absurd (true≢false isnt)
uncallable_plain t (last.List p xs) h isnt = subst PlainAt (sym h) (record { member = refl; method = refl; called = refl })
uncallable_plain t (last.Index f p i) h isnt = subst PlainAt (sym h) (record { member = refl; method = refl; called = refl })
uncallable_plain t (last.Call f p xs) h isnt = subst PlainAt (sym h) (record { member = refl; method = refl; called = refl })
uncallable_plain t (last.With f c) h isnt = subst PlainAt (sym h) (record { member = refl; method = refl; called = refl })
uncallable_plain t (last.Pipe f p e) h isnt = subst PlainAt (sym h) (record { member = refl; method = refl; called = refl })
uncallable_plain t (last.Conditional p c a b) h isnt = subst PlainAt (sym h) (record { member = refl; method = refl; called = refl })
uncallable_plain t last.Other h isnt = other_plain t h

pub not_called : (t : Tree) (l : Last) (p : Place) (xs : List Arg) → IsLast t l → is_callable l ≡ false → (part_of t).called p xs ≡ refused (BadOption p)
not_called t l p xs h isnt = ap (λ (f : Place → List Arg → Walk Thing). f p xs) (uncallable_plain t l h isnt).called

abbrev HasMember : Tree → Type 0
HasMember t = (p : Place) (n : List ℕ) → (part_of t).member p n ≡ member_at t p n

abbrev HasMethod : Tree → Type 0
HasMethod t = (p : Place) (n : List ℕ) (xs : List Arg) → (part_of t).method p n xs ≡ thing_method_at t p n xs

plain_member : (t : Tree) → PlainAt t → HasMember t
plain_member t h p n = ap (λ (f : Place → List ℕ → Walk Thing). f p n) h.member

plain_method : (t : Tree) → PlainAt t → HasMethod t
plain_method t h p n xs = ap (λ (f : Place → List ℕ → List Arg → Walk Thing). f p n xs) h.method

pub has_member : (t : Tree) (l : Last) → IsLast t l → is_name l ≡ false → HasMember t
has_member t (last.Name p n) h isnt = absurd (true≢false isnt)
has_member t (last.Property f q m) h isnt = subst HasMember (sym h) (λ p n. refl)
has_member t (last.List p xs) h isnt = plain_member t (uncallable_plain t (last.List p xs) h refl)
has_member t (last.Index f p i) h isnt = plain_member t (uncallable_plain t (last.Index f p i) h refl)
has_member t (last.Call f p xs) h isnt = plain_member t (uncallable_plain t (last.Call f p xs) h refl)
has_member t (last.With f c) h isnt = plain_member t (uncallable_plain t (last.With f c) h refl)
has_member t (last.Pipe f p e) h isnt = plain_member t (uncallable_plain t (last.Pipe f p e) h refl)
has_member t (last.Conditional p c a b) h isnt = plain_member t (uncallable_plain t (last.Conditional p c a b) h refl)
has_member t last.Other h isnt = plain_member t (uncallable_plain t last.Other h refl)

pub has_method : (t : Tree) (l : Last) → IsLast t l → is_name l ≡ false → HasMethod t
has_method t (last.Name p n) h isnt = absurd (true≢false isnt)
has_method t (last.Property f q m) h isnt = subst HasMethod (sym h) (λ p n xs. refl)
has_method t (last.List p xs) h isnt = plain_method t (uncallable_plain t (last.List p xs) h refl)
has_method t (last.Index f p i) h isnt = plain_method t (uncallable_plain t (last.Index f p i) h refl)
has_method t (last.Call f p xs) h isnt = plain_method t (uncallable_plain t (last.Call f p xs) h refl)
has_method t (last.With f c) h isnt = plain_method t (uncallable_plain t (last.With f c) h refl)
has_method t (last.Pipe f p e) h isnt = plain_method t (uncallable_plain t (last.Pipe f p e) h refl)
has_method t (last.Conditional p c a b) h isnt = plain_method t (uncallable_plain t (last.Conditional p c a b) h refl)
has_method t last.Other h isnt = plain_method t (uncallable_plain t last.Other h refl)

-- ---- before a closure

abbrev pub is_call : Last → Bool
is_call (last.Call f p xs) = true
is_call _ = false

-- what is no call is called with the closure alone
abbrev ClosesAsCalled : Tree → Type 0
ClosesAsCalled t = (p : Place) (xs : List Arg) → (part_of t).closed p xs ≡ (part_of t).called p xs

binary_closes : (p : Place) (k : InfixOperator) (a b : Tree) (x y : Part) (q : Place) (xs : List Arg)
    → (of_binary k (tree.binary p k a b) a x y).closed q xs ≡ (of_binary k (tree.binary p k a b) a x y).called q xs
binary_closes p infix_operator.Pipe a b x y q xs = refl
binary_closes p _ a b x y q xs = refl

other_closes : (t : Tree) → is_other t ≡ true → ClosesAsCalled t
other_closes (tree.number p z) h q xs = refl
other_closes (tree.text p k s) h q xs = refl
other_closes (tree.pattern p s) h q xs = refl
other_closes (tree.template p k ys) h q xs = refl
other_closes (tree.truth p b) h q xs = refl
other_closes (tree.null p) h q xs = refl
other_closes (tree.map p ys) h q xs = refl
other_closes (tree.closure p ps b) h q xs = refl
other_closes (tree.prefix p k e) h q xs = refl
other_closes (tree.binary p k a b) h q xs = binary_closes p k a b (part_of a) (part_of b) q xs
other_closes (tree.elvis p a b) h q xs = refl
other_closes (tree.safe_property e n) h q xs = refl
other_closes _ h q xs = absurd (false≢true h)

pub closes_as_called : (t : Tree) (l : Last) → IsLast t l → is_call l ≡ false → ClosesAsCalled t
closes_as_called t (last.Name p n) h isnt = subst ClosesAsCalled (sym h) (λ q xs. refl)
closes_as_called t (last.Property f p n) h isnt = subst ClosesAsCalled (sym h) (λ q xs. refl)
closes_as_called t (last.List p ys) h isnt = subst ClosesAsCalled (sym h) (λ q xs. refl)
closes_as_called t (last.Index f p i) h isnt = subst ClosesAsCalled (sym h) (λ q xs. refl)
closes_as_called t (last.Call f p ys) h isnt = absurd (true≢false isnt)
closes_as_called t (last.With f c) h isnt = subst ClosesAsCalled (sym h) (λ q xs. refl)
closes_as_called t (last.Pipe f p e) h isnt = subst ClosesAsCalled (sym h) (λ q xs. refl)
closes_as_called t (last.Conditional p c a b) h isnt = subst ClosesAsCalled (sym h) (λ q xs. refl)
closes_as_called t last.Other h isnt = other_closes t h
