-- Parts are less deep than what they stand in.
use Rattle.std.proofs.Common.{◌≡◌, ◌<◌, ◌≤◌, ◌+◌, ◌*◌, ◌-◌, ℕ, zero, suc, List, [], ◌∷◌, map, length, get_or, refl, sym, ap, subst, ◌∙◌, arith, Option, Some, None, Bool, true, false}
use Rattle.std.specs.Prelude.{bytes_eq, if◌then◌else◌}
use Rattle.nf_ast.specs.Tree as tree
use Rattle.nf_ast.specs.Tree.{Tree}
use Rattle.nf_ast.specs.View.{trees}
use Rattle.nf_meaning.specs.Given.{tree_named}
use Rattle.nf_walked.specs.Depth.{deepest, depth}

-- ---- rows

pub first_within : (x : Tree) (ts : List Tree) → depth x ≤ depth (trees (x ∷ ts))
first_within x ts = omega arith

pub later_within : (x : Tree) (ts : List Tree) → depth (trees ts) ≤ depth (trees (x ∷ ts))
later_within x ts = omega arith

-- a part of a row
pub part_within : {X : Type 0} (f : X → Tree) (xs : List X) (i : ℕ) (x : X) → i < length xs → x ≡ get_or xs i x → depth (f x) ≤ depth (trees (map f xs))
part_within f [] i x h is = absurd (omega arith)
part_within f (y ∷ ys) zero x h is = let e : f x ≡ f y = ap f is in subst (λ t. depth t ≤ depth (trees (f y ∷ map f ys))) (sym e) (first_within (f y) (map f ys))
part_within f (y ∷ ys) (suc i) x h is =
    let r = part_within f ys i x (omega arith) is in
    omega (arith, r, later_within (f y) (map f ys))

-- ---- definitions

abbrev or_empty : Option Tree → Tree
or_empty (Some u) = u
or_empty None = tree.empty

of_some : (t u : Tree) → Some t ≡ Some u → t ≡ u
of_some t u e = ap or_empty e

within_first : (n : List ℕ) (t : Tree) (d : List ℕ × Tree) (ds : List (List ℕ × Tree)) → (tree_named n ds ≡ Some t → depth t ≤ deepest ds) → (b : Bool) → bytes_eq d.0 n ≡ b
    → (if bytes_eq d.0 n then Some d.1 else tree_named n ds) ≡ Some t → depth t ≤ deepest (d ∷ ds)
within_first n t d ds rest true e h =
    let same : Some d.1 ≡ Some t = sym (ap (λ c. if c then Some d.1 else tree_named n ds) e) ∙ h in
    let is : d.1 ≡ t = of_some d.1 t same in
    let w : depth d.1 ≤ deepest (d ∷ ds) = omega arith in
    subst (λ u. depth u ≤ deepest (d ∷ ds)) is w
within_first n t d ds rest false e h =
    let r = rest (sym (ap (λ c. if c then Some d.1 else tree_named n ds) e) ∙ h) in
    let w : deepest ds ≤ deepest (d ∷ ds) = omega arith in
    omega (arith, r, w)

-- a workflow that is called is no deeper than the deepest
pub named_within : (n : List ℕ) (t : Tree) (ds : List (List ℕ × Tree)) → tree_named n ds ≡ Some t → depth t ≤ deepest ds
named_within n t [] h = absurd (let e : None ≡ Some t = h in cc)
named_within n t (d ∷ ds) h = within_first n t d ds (named_within n t ds) (bytes_eq d.0 n) refl h

-- a call fewer may lead on: what its body may still lead to is less than what the call might
pub call_within : (left most body : ℕ) → 0 < left → body ≤ most → body + (left - 1) * suc most < left * suc most
call_within zero most body h w = absurd (omega arith)
call_within (suc k) most body h w = let e : suc k - 1 ≡ k = omega arith in rw e (omega (arith, w))
