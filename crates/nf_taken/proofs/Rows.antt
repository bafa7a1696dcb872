-- What the rows of the table of operators have in common.
use Rattle.std.proofs.Common.{◌≡◌, ◌∙◌, ◌≤◌, ◌+◌, ℕ, zero, suc, Bool, true, false, List, [], ◌∷◌, Option, Some, None, refl, sym, ap, subst, cond, true≢false, lit≤, arith, eq-eqb}
use Rattle.std.proofs.lemmas.Bool.{false≢true, leb-true, le-leb}
use Rattle.std.specs.Prelude.{◌&&◌, ◌==◌, nat_le, not, if◌then◌else◌}
use Rattle.std.specs.Str.{bytes_eq}
use Rattle.nf_bag.specs.declared.rows.Row.{Row}
use Rattle.nf_bag.specs.declared.rows.Row.TheVariants as row
use Rattle.nf_bodies.specs.Means.{IsApplied}
use Rattle.nf_operator.specs.Row as rows
use Rattle.nf_operator.specs.Row.{takes_more, takes_ports}
use Rattle.nf_optable.specs.Operator.{operator_name}
use Rattle.nf_optable.specs.Rows.{operator_rows, row_of}
use Rattle.nf_optable.specs.declared.operator.Operator.{Operator}
use Rattle.nf_optable.specs.declared.operator.Operator.TheVariants.{Bag, Arrival}
use Rattle.nf_optable.specs.declared.rows.Args.{Args}
use Rattle.nf_optable.specs.declared.rows.Args.TheVariants as args
use Rattle.nf_optable.specs.declared.rows.ClosureUse.{ClosureUse}
use Rattle.nf_optable.specs.declared.rows.ClosureUse.TheVariants as closure
use Rattle.nf_optable.specs.declared.rows.OpRow.{OpRow}
use Rattle.nf_meaning.specs.Taken.{args_ports, ports_of, takes}
use Rattle.nf_taken.specs.Rows.{IsRowOf}
use Rattle.nf_taken.specs.Taken.{is_labelled}

-- ---- each row, by tests

abbrev pub is_labels : ClosureUse → Bool
is_labels closure.Labels = true
is_labels _ = false

abbrev pub is_never : ClosureUse → Bool
is_never closure.Never = true
is_never _ = false

abbrev pub is_two : ℕ → Bool
is_two (suc (suc zero)) = true
is_two _ = false

abbrev pub is_one : ℕ → Bool
is_one (suc zero) = true
is_one _ = false

abbrev same_test : Bool → Bool → Bool
same_test true b = b
same_test false b = not b

-- the operator's inputs are those that its arguments give it; only where it takes no closure do they give any
abbrev pub fits_args : Row → ClosureUse → Args → Bool
fits_args r u args.Channel = is_never u && (not (takes_more r) && is_two (rows.ports_of r))
fits_args r u args.Channels = is_never u && (takes_more r && is_two (rows.ports_of r))
fits_args r u _ = not (takes_more r) && is_one (rows.ports_of r)

abbrev pub fits_row : OpRow → Operator → Bool
fits_row k (Bag r) = same_test (is_labels k.closure) (is_labelled r) && fits_args r k.closure k.args
fits_row k (Arrival o) = true

abbrev pub fits : OpRow → Bool
fits k = fits_row k k.operator

abbrev each : (OpRow → Bool) → List OpRow → Bool
each p [] = true
each p (k ∷ ks) = p k && each p ks

all_fit : each fits operator_rows ≡ true
all_fit = refl

left : (a b : Bool) → (a && b) ≡ true → a ≡ true
left true b h = refl
left false b h = absurd (false≢true h)

right : (a b : Bool) → (a && b) ≡ true → b ≡ true
right true b h = h
right false b h = absurd (false≢true h)

found_or : (p : OpRow → Bool) (x k : OpRow) (later : Option OpRow) (b : Bool) → p x ≡ true → (later ≡ Some k → p k ≡ true) → (if b then Some x else later) ≡ Some k → p k ≡ true
found_or p x k later true h more is = let same : x ≡ k = (let q : ◌≡◌ {A = Option OpRow} (Some x) (Some k) = is in cc) in ap p (sym same) ∙ h
found_or p x k later false h more is = more is

found_fits : (p : OpRow → Bool) (n : List ℕ) (ks : List OpRow) (k : OpRow) → each p ks ≡ true → row_of n ks ≡ Some k → p k ≡ true
found_fits p n [] k h is = absurd (let e : ◌≡◌ {A = Option OpRow} None (Some k) = is in cc)
found_fits p n (x ∷ ks) k h is = found_or p x k (row_of n ks) (bytes_eq (operator_name x.operator) n) (left (p x) (each p ks) h) (λ e. found_fits p n ks k (right (p x) (each p ks) h) e) is

module _ (k : OpRow) (r : Row) (h : IsRowOf k r) where
  row_fits : fits_row k (Bag r) ≡ true
  row_fits = ap (fits_row k) (sym h.operator) ∙ found_fits fits h.name operator_rows k all_fit h.listed

  labels_fit : same_test (is_labels k.closure) (is_labelled r) ≡ true
  labels_fit = left (same_test (is_labels k.closure) (is_labelled r)) (fits_args r k.closure k.args) row_fits

  args_fit : fits_args r k.closure k.args ≡ true
  args_fit = right (same_test (is_labels k.closure) (is_labelled r)) (fits_args r k.closure k.args) row_fits

  -- ---- labels

  pub has_labels : k.closure ≡ closure.Labels → is_labelled r ≡ true
  has_labels is = ap (λ u. same_test (is_labels u) (is_labelled r)) (sym is) ∙ labels_fit

  pub has_none : (u : ClosureUse) → k.closure ≡ u → is_labels u ≡ false → is_labelled r ≡ false
  has_none u is apart = by (is_labelled r) (ap (λ b. same_test b (is_labelled r)) (sym (ap is_labels is ∙ apart)) ∙ labels_fit)
    where
      by : (b : Bool) → not b ≡ true → b ≡ false
      by true e = absurd (false≢true e)
      by false e = refl

  -- ---- channels

  -- where it takes a closure, no argument is a channel
  pub no_port : (u : ClosureUse) → k.closure ≡ u → is_never u ≡ false → 0 ≡ args_ports k.args 1
  no_port u is apart = by k.args (ap (λ v. fits_args r v k.args) (sym is) ∙ args_fit)
    where
      never : (b : Bool) → (is_never u && b) ≡ true → ◌≡◌ {A = ℕ} 0 1
      never b e = absurd (false≢true (sym apart ∙ left (is_never u) b e))

      by : (x : Args) → fits_args r u x ≡ true → 0 ≡ args_ports x 1
      by args.Channel e = never (not (takes_more r) && is_two (rows.ports_of r)) e
      by args.Channels e = never (takes_more r && is_two (rows.ports_of r)) e
      by args.Nothing e = refl
      by args.Value e = refl
      by args.MaybeValue e = refl
      by args.Values e = refl

-- ---- inputs

two : (n : ℕ) → is_two n ≡ true → n ≡ 2
two (suc (suc zero)) h = refl
two (suc (suc (suc n))) h = absurd (false≢true h)
two (suc zero) h = absurd (false≢true h)
two zero h = absurd (false≢true h)

one : (n : ℕ) → is_one n ≡ true → n ≡ 1
one (suc zero) h = refl
one (suc (suc n)) h = absurd (false≢true h)
one zero h = absurd (false≢true h)

exactly : (more : Bool) (m n : ℕ) → not more ≡ true → n ≡ m → cond more (nat_le m n) (n == m) ≡ true
exactly true m n h is = absurd (false≢true h)
exactly false m n h is = eq-eqb n m is

at_least : (more : Bool) (m n : ℕ) → more ≡ true → m ≤ n → cond more (nat_le m n) (n == m) ≡ true
at_least true m n h le = le-leb m n le
at_least false m n h le = absurd (false≢true h)

never_is : (u : ClosureUse) → is_never u ≡ true → u ≡ closure.Never
never_is closure.Never h = refl
never_is closure.May h = absurd (false≢true h)
never_is closure.Must h = absurd (false≢true h)
never_is closure.InPlace h = absurd (false≢true h)
never_is closure.Labels h = absurd (false≢true h)
never_is closure.Name h = absurd (false≢true h)
never_is closure.Total h = absurd (false≢true h)
never_is closure.Refused h = absurd (false≢true h)

abbrev row_with : OpRow → ClosureUse → Args → OpRow
row_with k u x = record k { closure = u; args = x }

by_args : (k : OpRow) (r : Row) (u : ClosureUse) (x : Args) (n : ℕ) → fits_args r u x ≡ true → takes (row_with k u x) n ≡ true → takes_ports r (1 + args_ports x n) ≡ true
by_args k r u args.Channel n h t =
    let never : u ≡ closure.Never = never_is u (left (is_never u) (not (takes_more r) && is_two (rows.ports_of r)) h) in
    let rest = right (is_never u) (not (takes_more r) && is_two (rows.ports_of r)) h in
    let taken : (nat_le 1 n && nat_le n 1) ≡ true = ap (λ v. takes (row_with k v args.Channel) n) (sym never) ∙ t in
    let low : 1 ≤ n = leb-true 1 n (left (nat_le 1 n) (nat_le n 1) taken) in
    let high : n ≤ 1 = leb-true n 1 (right (nat_le 1 n) (nat_le n 1) taken) in
    let count : rows.ports_of r ≡ 2 = two (rows.ports_of r) (right (not (takes_more r)) (is_two (rows.ports_of r)) rest) in
    exactly (takes_more r) (rows.ports_of r) (1 + n) (left (not (takes_more r)) (is_two (rows.ports_of r)) rest) (omega (arith, low, high, count))
by_args k r u args.Channels n h t =
    let never : u ≡ closure.Never = never_is u (left (is_never u) (takes_more r && is_two (rows.ports_of r)) h) in
    let rest = right (is_never u) (takes_more r && is_two (rows.ports_of r)) h in
    let taken : (nat_le 1 n && true) ≡ true = ap (λ v. takes (row_with k v args.Channels) n) (sym never) ∙ t in
    let low : 1 ≤ n = leb-true 1 n (left (nat_le 1 n) true taken) in
    let count : rows.ports_of r ≡ 2 = two (rows.ports_of r) (right (takes_more r) (is_two (rows.ports_of r)) rest) in
    at_least (takes_more r) (rows.ports_of r) (1 + n) (left (takes_more r) (is_two (rows.ports_of r)) rest) (omega (arith, low, count))
by_args k r u args.Nothing n h t = exactly (takes_more r) (rows.ports_of r) 1 (left (not (takes_more r)) (is_one (rows.ports_of r)) h) (sym (one (rows.ports_of r) (right (not (takes_more r)) (is_one (rows.ports_of r)) h)))
by_args k r u args.Value n h t = exactly (takes_more r) (rows.ports_of r) 1 (left (not (takes_more r)) (is_one (rows.ports_of r)) h) (sym (one (rows.ports_of r) (right (not (takes_more r)) (is_one (rows.ports_of r)) h)))
by_args k r u args.MaybeValue n h t = exactly (takes_more r) (rows.ports_of r) 1 (left (not (takes_more r)) (is_one (rows.ports_of r)) h) (sym (one (rows.ports_of r) (right (not (takes_more r)) (is_one (rows.ports_of r)) h)))
by_args k r u args.Values n h t = exactly (takes_more r) (rows.ports_of r) 1 (left (not (takes_more r)) (is_one (rows.ports_of r)) h) (sym (one (rows.ports_of r) (right (not (takes_more r)) (is_one (rows.ports_of r)) h)))

pub inputs_fit : (k : OpRow) (r : Row) → IsRowOf k r → (n : ℕ) → takes k n ≡ true → takes_ports r (ports_of k n) ≡ true
inputs_fit k r h n t = by_args k r k.closure k.args n (args_fit k r h) t

-- ---- operators

pub applied : (r : Row) → is_labelled r ≡ false → IsApplied r
applied row.Branch h = absurd (true≢false h)
applied row.MultiMap h = absurd (true≢false h)
applied _ h = tt

pub other_label : (r : Row) → is_labelled r ≡ true → (r ≡ row.Branch → ⊥) → r ≡ row.MultiMap
other_label row.Branch h apart = absurd (apart refl)
other_label row.MultiMap h apart = refl
other_label _ h apart = absurd (false≢true h)
