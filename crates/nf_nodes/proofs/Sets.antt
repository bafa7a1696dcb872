-- The sets of an index.
use Rattle.std.proofs.Common.{◌≡◌, ℕ, zero, suc, ◌+◌, ◌<◌, ◌≤◌, List, [], ◌∷◌, ◌++◌, length, get_or, set, Bool, true, false, ◌&&◌, refl, ap, sym, ◌∙◌, subst, arith, inl, inr, length-set}
use Rattle.std.specs.Prelude.{◌==◌, ◌↔◌, not, Option, None, Some, is_some, MatchOption, if◌then◌else◌, slice_index_or}
use Rattle.std.proofs.lemmas.Bool.{cases_eq, true≢false}
use Rattle.std.proofs.lemmas.Bool.Decides.{nat_tests}
use Rattle.std.proofs.lemmas.List.{get_or-set_same, get_or-set_other, get_or_default, get_or_append_left, get_or_push}
use Rattle.nf_graph.specs.declared.node.Node.{Node}
use Rattle.nf_graph.specs.WellMade.{node_in, no_source}
use Rattle.nf_spot.specs.Numbers.{has, limit_of}
use Rattle.nf_spot.specs.declared.numbers.NumberSet.{NumberSet}

-- one set of a list was set, at one number
pub lives_set : (live : List NumberSet) (node port : ℕ) (b : Bool) (old new : NumberSet) → node < length live → old ≡ get_or live node old → ((x : ℕ) → has new x ≡ (if x == port then b else has old x))
    → (i k : ℕ) (d : NumberSet) → has (get_or (set live node new) i d) k ≡ (if (i == node) && (k == port) then b else has (get_or live i d) k)
lives_set live node port b old new l e h i k d = elim (cases_eq i node) [
  | inl m ↦ (let t : (i == node) ≡ true = grind (arith, nat_tests) in
      let here : get_or (set live node new) i d ≡ new = subst (λ j. get_or (set live node new) j d ≡ new) (sym m) (get_or-set_same live node new d l) in
      let was : get_or live i d ≡ old = subst (λ j. get_or live j d ≡ old) (sym m) (get_or_default live node d old l ∙ sym e) in
      rw t (ap (λ z. has z k) here ∙ h k ∙ ap (λ z. if k == port then b else has z k) (sym was)))
  | inr n ↦ (let t : (i == node) ≡ false = grind (arith, nat_tests) in rw t (ap (λ z. has z k) (get_or-set_other live node i new d n)))
]

-- and keeps its limit
pub limits_set : (live : List NumberSet) (node : ℕ) (old new : NumberSet) → node < length live → old ≡ get_or live node old → limit_of new ≡ limit_of old
    → (i : ℕ) (d : NumberSet) → limit_of (get_or (set live node new) i d) ≡ limit_of (get_or live i d)
limits_set live node old new l e h i d = elim (cases_eq i node) [
  | inl m ↦ ap limit_of (subst (λ j. get_or (set live node new) j d ≡ new) (sym m) (get_or-set_same live node new d l)) ∙ h
      ∙ ap limit_of (sym (subst (λ j. get_or live j d ≡ old) (sym m) (get_or_default live node d old l ∙ sym e)))
  | inr n ↦ ap limit_of (get_or-set_other live node i new d n)
]

not_true : (b : Bool) → not b ≡ true → b ≡ false
not_true true e = absurd (true≢false (sym e))
not_true false e = refl

not_false : (b : Bool) → not b ≡ false → b ≡ true
not_false true e = refl
not_false false e = absurd (true≢false e)

-- nothing is in a set of the list
pub none_in : (live : List NumberSet) (node : ℕ) (y : NumberSet) (r : Option ℕ) (b : Bool) → node < length live → y ≡ get_or live node y → is_some r ≡ not b
    → MatchOption r ((x : ℕ) → has y x ≡ false) (λ x. has y x ≡ true) → (b ≡ true) ↔ ((k : ℕ) (d : NumberSet) → has (get_or live node d) k ≡ false)
none_in live node y None b l e s none = (
  (λ t k d. ap (λ z. has z k) (get_or_default live node d y l ∙ sym e) ∙ none k),
  (λ all. not_false b (sym s)),
)
none_in live node y (Some x) b l e s one = (
  (λ t. absurd (true≢false (sym t ∙ not_true b (sym s)))),
  (λ all. absurd (true≢false (sym one ∙ ap (λ z. has z x) e ∙ all x y))),
)

-- a set more, for the next node
pub limits_more : (nodes : List Node) (sets : List NumberSet) (y : NumberSet) (node : Node) (n : ℕ) → length sets ≡ n → n < length nodes → node ≡ get_or nodes n node → limit_of y ≡ length node.ports
    → ((i : ℕ) (d : NumberSet) → i < n → limit_of (get_or sets i d) ≡ length (node_in nodes i).ports)
    → (i : ℕ) (d : NumberSet) → i < n + 1 → limit_of (get_or (sets ++ y ∷ []) i d) ≡ length (node_in nodes i).ports
limits_more nodes sets y node n e l en h before i d k = elim (cases_eq i n) [
  | inl m ↦ ap limit_of (get_or_push sets y d i (e ∙ sym m)) ∙ h ∙ ap (λ (q : Node). length q.ports) (en ∙ get_or_default nodes n node no_source l ∙ ap (node_in nodes) (sym m))
  | inr ne ↦ (let o : i < n = less i k ne in let p : i < length sets = omega arith in ap limit_of (get_or_append_left sets (y ∷ []) d i p) ∙ before i d o)
]
  where
    less : (i : ℕ) → i < n + 1 → (i ≡ n → ⊥) → i < n
    less i k ne = grind arith
