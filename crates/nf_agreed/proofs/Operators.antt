-- What calls of operators give, and which of them depend on arrival.
use Rattle.std.proofs.Common.{◌≡◌, ℕ, Bool, true, false, ◌&&◌, ◌||◌, List, [], ◌∷◌, ◌++◌, Option, Some, None, refl, sym, ◌∙◌, subst, true≢false}
use Rattle.std.specs.Prelude.{if◌then◌else◌, not}
use Rattle.std.specs.List.{list_all}
use Rattle.std.specs.Str.{bytes_eq}
use Rattle.nf_value.specs.Plain.{Plain}
use Rattle.nf_value.specs.declared.place.Place.{Place}
use Rattle.nf_bag.specs.declared.rows.Row.{Row}
use Rattle.nf_bag.specs.declared.rows.Row.TheVariants as row
use Rattle.nf_operator.specs.Row.{output_kind}
use Rattle.nf_operator.specs.declared.kinds.OutputKind.{OutputKind}
use Rattle.nf_operator.specs.declared.kinds.OutputKind.TheVariants as output
use Rattle.nf_optable.specs.declared.operator.Operator.{Operator}
use Rattle.nf_optable.specs.declared.operator.Operator.TheVariants.{Bag, Arrival}
use Rattle.nf_optable.specs.declared.rows.OpRow.{OpRow}
use Rattle.nf_optable.specs.declared.rows.Gives.{Gives}
use Rattle.nf_optable.specs.declared.rows.Gives.TheVariants as gives
use Rattle.nf_optable.specs.declared.rows.Args.{Args}
use Rattle.nf_optable.specs.declared.rows.ClosureUse.{ClosureUse}
use Rattle.nf_optable.specs.Operator.{operator_name}
use Rattle.nf_optable.specs.Rows.{operator_rows, row_of}
use Rattle.nf_kinds.specs.declared.kinds.Kinds.{Kinds}
use Rattle.nf_kinds.specs.declared.fault.OrderRule.{OrderRule}
use Rattle.nf_kinds.specs.declared.fault.Broken.{Broken}
use Rattle.nf_kinds.specs.declared.args.Given.{Given}
use Rattle.nf_kinds.specs.Fault.{breaks_if}
use Rattle.nf_kinds.specs.Args.{any_queue}
use Rattle.nf_opkinds.specs.Operators.{breaks_arrival, rules_of, is_queue_given, kind_given}
use Rattle.nf_meaning.specs.Things.{Channel, are_values}
use Rattle.nf_meaning.specs.Operators.{is_value_kind}
use Rattle.nf_agreed.specs.Fits.{MayFlow, MayBeChannel}
use Rattle.nf_agreed.proofs.Either.{or_left, or_right}
use Rattle.nf_agreed.proofs.Uses.{binds_none, is_no_args}

-- ---- the table of operators says the same of their outputs as their rows

is_given_as : Gives → OutputKind → Bool
is_given_as gives.ValueChannel output.Value = true
is_given_as gives.ValueChannel k = false
is_given_as gives.Queue output.Queue = true
is_given_as gives.Queue k = false
is_given_as gives.AsInputs output.AsInputs = true
is_given_as gives.AsInputs k = false

agrees : Gives → Operator → Bool
agrees g (Bag b) = is_given_as g (output_kind b)
agrees g (Arrival a) = true

table : list_all (λ r. agrees r.gives r.operator) operator_rows ≡ true
unfolding agrees is_given_as
table = refl

of_all : (a b : Bool) → (a && b) ≡ true → (a ≡ true) × (b ≡ true)
of_all true b h = (refl, h)
of_all false b h = absurd (true≢false (sym h))

pub in_table : (P : OpRow → Bool) (n : List ℕ) (rs : List OpRow) (r : OpRow) → list_all P rs ≡ true → row_of n rs ≡ Some r → P r ≡ true
in_table P n [] r h is = absurd (let e : ◌≡◌ {A = Option OpRow} None (Some r) = is in cc)
in_table P n (q ∷ rs) r h is = by (bytes_eq (operator_name q.operator) n) is (in_table P n rs r (of_all (P q) (list_all P rs) h).1)
  where
    by : (b : Bool) → (if b then Some q else row_of n rs) ≡ Some r → (row_of n rs ≡ Some r → P r ≡ true) → P r ≡ true
    by true is rest = subst (λ z. P z ≡ true) (let e : ◌≡◌ {A = Option OpRow} (Some q) (Some r) = is in cc) (of_all (P q) (list_all P rs) h).0
    by false is rest = rest is

-- ---- the table says of each row whose closure has no labels and is no name that it has one output, and that `first` and `last` take nothing

unfoldable pub is_single : Row → Bool
is_single row.Branch = false
is_single row.MultiMap = false
is_single row.Set = false
is_single r = true

unfoldable pub takes_none : Row → Args → Bool
takes_none row.First w = is_no_args w
takes_none row.Last w = is_no_args w
takes_none r w = true

single_of : ClosureUse → Operator → Bool
single_of u (Bag b) = not (binds_none u) || is_single b
single_of u (Arrival o) = true

none_of : Args → Operator → Bool
none_of w (Bag b) = takes_none b w
none_of w (Arrival o) = true

singles : list_all (λ r. single_of r.closure r.operator) operator_rows ≡ true
unfolding single_of binds_none is_single
singles = refl

nones : list_all (λ r. none_of r.args r.operator) operator_rows ≡ true
unfolding none_of takes_none is_no_args
nones = refl

or_second : (u v : Bool) → (not u || v) ≡ true → u ≡ true → v ≡ true
or_second true v h e = h
or_second false v h e = absurd (true≢false (sym e))

pub single_row : (n : List ℕ) (r : OpRow) (b : Row) → row_of n operator_rows ≡ Some r → r.operator ≡ Bag b → binds_none r.closure ≡ true → is_single b ≡ true
unfolding single_of
single_row n r b found is e =
    or_second (binds_none r.closure) (is_single b)
    (let h : single_of r.closure r.operator ≡ true = in_table (λ z. single_of z.closure z.operator) n operator_rows r singles found in subst (λ o. single_of r.closure o ≡ true) is h) e

pub takes_none_row : (n : List ℕ) (r : OpRow) (b : Row) → row_of n operator_rows ≡ Some r → r.operator ≡ Bag b → takes_none b r.args ≡ true
unfolding none_of
takes_none_row n r b found is = let h : none_of r.args r.operator ≡ true = in_table (λ z. none_of z.args z.operator) n operator_rows r nones found in subst (λ o. none_of r.args o ≡ true) is h

-- ---- what is given is a queue where it may be one

queue_seen : (g : Gives) (o : OutputKind) (k : Kinds) (gs : List Given) (c : Channel) (cs : List Channel) → is_given_as g o ≡ true → MayFlow k c → (any_queue gs ≡ false → are_values cs ≡ true)
    → is_value_kind o (c ∷ cs) ≡ false → is_queue_given g k gs ≡ true
unfolding is_given_as
queue_seen gives.ValueChannel output.Value k gs c cs same h seen q = absurd (true≢false q)
queue_seen gives.ValueChannel output.Queue k gs c cs same h seen q = absurd (true≢false (sym same))
queue_seen gives.ValueChannel output.AsInputs k gs c cs same h seen q = absurd (true≢false (sym same))
queue_seen gives.Queue o k gs c cs same h seen q = refl
queue_seen gives.AsInputs output.Value k gs c cs same h seen q = absurd (true≢false (sym same))
queue_seen gives.AsInputs output.Queue k gs c cs same h seen q = absurd (true≢false (sym same))
queue_seen gives.AsInputs output.AsInputs k gs c cs same h seen q = by c.is_value h.queue (any_queue gs) seen q
  where
    by : (v : Bool) → (v ≡ false → k.queue ≡ true) → (any : Bool) → (any ≡ false → are_values cs ≡ true) → (v && are_values cs) ≡ false → (k.queue || any) ≡ true
    by false f any seen q = or_left k.queue any (f refl)
    by true f true seen q = or_right k.queue true refl
    by true f false seen q = absurd (true≢false (sym (seen refl) ∙ q))

one_of_two : (q : Bool) → (not q || q) ≡ true
one_of_two true = refl
one_of_two false = refl

-- the output of an operator's call
pub given_fits : (n : List ℕ) (r : OpRow) (b : Row) (k : Kinds) (gs : List Given) (c : Channel) (cs : List Channel) (bag : List Plain) → row_of n operator_rows ≡ Some r → r.operator ≡ Bag b
    → MayFlow k c → (any_queue gs ≡ false → are_values cs ≡ true)
    → MayBeChannel (kind_given r k gs) (record { is_value = is_value_kind (output_kind b) (c ∷ cs); bag = bag })
unfolding agrees
given_fits n r b k gs c cs bag found is h seen = record {
  flows = record {
    known = refl;
    queue = queue_seen r.gives (output_kind b) k gs c cs
        (let e : agrees r.gives r.operator ≡ true = in_table (λ z. agrees z.gives z.operator) n operator_rows r table found in subst (λ o. agrees r.gives o ≡ true) is e)
        h seen;
  };
  channel = one_of_two (is_queue_given r.gives k gs);
}

-- ---- the second rule

none_broken : (b : Bool) (rule : OrderRule) (p : Place) (more : List Broken) → breaks_if b rule p ++ more ≡ [] → b ≡ false
none_broken true rule p more h = absurd (let e : ◌≡◌ {A = List Broken} (record { rule = rule; place = p } ∷ more) [] = h in cc)
none_broken false rule p more h = refl

no_arrival : (r : OpRow) (p : Place) (k : Kinds) (gs : List Given) → rules_of r p k gs ≡ [] → breaks_arrival r.operator k ≡ false
no_arrival r p k gs h = none_broken (breaks_arrival r.operator k) _ p _ h

only_value : (k : Kinds) (c : Channel) → MayFlow k c → k.queue ≡ false → c.is_value ≡ true
only_value k c h none = by c.is_value h.queue
  where
    by : (v : Bool) → (v ≡ false → k.queue ≡ true) → v ≡ true
    by true f = refl
    by false f = absurd (true≢false (sym (f refl) ∙ none))

-- `first` and `last` of what breaks no rule are of a value channel
pub first_of_value : (r : OpRow) (p : Place) (k : Kinds) (gs : List Given) (c : Channel) → r.operator ≡ Bag row.First → MayFlow k c → rules_of r p k gs ≡ [] → c.is_value ≡ true
first_of_value r p k gs c is h none = only_value k c h (let e = no_arrival r p k gs none in subst (λ o. breaks_arrival o k ≡ false) is e)

pub last_of_value : (r : OpRow) (p : Place) (k : Kinds) (gs : List Given) (c : Channel) → r.operator ≡ Bag row.Last → MayFlow k c → rules_of r p k gs ≡ [] → c.is_value ≡ true
last_of_value r p k gs c is h none = only_value k c h (let e = no_arrival r p k gs none in subst (λ o. breaks_arrival o k ≡ false) is e)
