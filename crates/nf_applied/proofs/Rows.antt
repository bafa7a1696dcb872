-- The row of `set` in the table of operators.
use Rattle.std.proofs.Common.{◌≡◌, ◌∙◌, ℕ, Bool, true, false, List, [], ◌∷◌, Option, Some, None, refl, sym, ap}
use Rattle.std.proofs.lemmas.Bool.{false≢true}
use Rattle.std.specs.Prelude.{◌&&◌, if◌then◌else◌}
use Rattle.std.specs.Str.{bytes_eq}
use Rattle.nf_bag.specs.declared.rows.Row.TheVariants as row
use Rattle.nf_optable.specs.Operator.{operator_name}
use Rattle.nf_optable.specs.Rows.{operator_rows, row_of}
use Rattle.nf_optable.specs.declared.operator.Operator.{Operator}
use Rattle.nf_optable.specs.declared.operator.Operator.TheVariants.{Bag}
use Rattle.nf_optable.specs.declared.rows.ClosureUse.{ClosureUse}
use Rattle.nf_optable.specs.declared.rows.ClosureUse.TheVariants as closure
use Rattle.nf_optable.specs.declared.rows.OpRow.{OpRow}
use Rattle.nf_taken.specs.Rows.{IsRowOf}

abbrev pub is_name : ClosureUse → Bool
is_name closure.Name = true
is_name _ = false

-- `set` takes a name as its closure
abbrev pub names_if : Operator → ClosureUse → Bool
names_if (Bag row.Set) u = is_name u
names_if _ u = true

abbrev pub names : OpRow → Bool
names k = names_if k.operator k.closure

abbrev each : (OpRow → Bool) → List OpRow → Bool
each p [] = true
each p (k ∷ ks) = p k && each p ks

all_name : each names operator_rows ≡ true
all_name = refl

left : (a b : Bool) → (a && b) ≡ true → a ≡ true
left true b h = refl
left false b h = absurd (false≢true h)

right : (a b : Bool) → (a && b) ≡ true → b ≡ true
right true b h = h
right false b h = absurd (false≢true h)

found_or : (p : OpRow → Bool) (x k : OpRow) (later : Option OpRow) (b : Bool) → p x ≡ true → (later ≡ Some k → p k ≡ true) → (if b then Some x else later) ≡ Some k → p k ≡ true
found_or p x k later true h more is = let same : x ≡ k = (let q : ◌≡◌ {A = Option OpRow} (Some x) (Some k) = is in cc) in ap p (sym same) ∙ h
found_or p x k later false h more is = more is

found : (p : OpRow → Bool) (n : List ℕ) (ks : List OpRow) (k : OpRow) → each p ks ≡ true → row_of n ks ≡ Some k → p k ≡ true
found p n [] k h is = absurd (let e : ◌≡◌ {A = Option OpRow} None (Some k) = is in cc)
found p n (x ∷ ks) k h is = found_or p x k (row_of n ks) (bytes_eq (operator_name x.operator) n) (left (p x) (each p ks) h) (λ e. found p n ks k (right (p x) (each p ks) h) e) is

by_test : (u : ClosureUse) → is_name u ≡ true → u ≡ closure.Name
by_test closure.Name h = refl
by_test closure.Never h = absurd (false≢true h)
by_test closure.May h = absurd (false≢true h)
by_test closure.Must h = absurd (false≢true h)
by_test closure.Labels h = absurd (false≢true h)
by_test closure.Total h = absurd (false≢true h)
by_test closure.InPlace h = absurd (false≢true h)
by_test closure.Refused h = absurd (false≢true h)

pub set_has_name : (k : OpRow) → IsRowOf k row.Set → k.closure ≡ closure.Name
set_has_name k h = by_test k.closure (ap (λ o. names_if o k.closure) (sym h.operator) ∙ found names h.name operator_rows k all_name h.listed)
