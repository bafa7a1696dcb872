-- What calls of operators give, and which rules they break.
use Rattle.std.specs.Prelude.{ℕ, Bool, true, false, ◌&&◌, ◌||◌, not, List, [], ◌++◌, map, codes, Option, Some, None, is_some, if◌then◌else◌}
use Rattle.nf_value.specs.declared.place.Place.{Place}
use Rattle.nf_bag.specs.declared.rows.Row.TheVariants as row
use Rattle.nf_optable.specs.declared.operator.Operator.{Operator}
use Rattle.nf_optable.specs.declared.operator.Operator.TheVariants as operator
use Rattle.nf_optable.specs.declared.operator.Arrival as declared_arrival
use Rattle.nf_optable.specs.declared.operator.Arrival.TheVariants as arrival
use Rattle.nf_optable.specs.declared.rows.OpRow.{OpRow}
use Rattle.nf_optable.specs.declared.rows.ClosureUse.{ClosureUse}
use Rattle.nf_optable.specs.declared.rows.ClosureUse.TheVariants as use_of
use Rattle.nf_optable.specs.declared.rows.Gives as declared_gives
use Rattle.nf_optable.specs.declared.rows.Gives.TheVariants as g
use Rattle.nf_optable.specs.Operator.{arrival_of}
use Rattle.nf_optable.specs.Rows.{operator_rows, row_of}
use Rattle.nf_kinds.specs.declared.kinds.Kinds.{Kinds}
use Rattle.nf_kinds.specs.declared.fault.OrderRule.TheVariants as rule
use Rattle.nf_kinds.specs.declared.fault.Broken.{Broken}
use Rattle.nf_kinds.specs.Fault.{breaks_if}
use Rattle.nf_kinds.specs.Kinds.{Shaped, alone, known, unknown_kind, is_channel, plain_unless}
use Rattle.nf_kinds.specs.Scope.{Scope, assigned, after_both}
use Rattle.nf_kinds.specs.Walk.{Walk, came, gives}
use Rattle.nf_kinds.specs.declared.args.Given.{Given}
use Rattle.nf_kinds.specs.Args.{any_unknown, any_queue}
use Rattle.nf_opkinds.specs.Results.{shape_of, all_of_kind, or_plain}
use Rattle.nf_opkinds.specs.Closures.{has_closure, has_other_closure, has_option, first_closure, labels_by, name_by}

-- the result is the order of arrival
abbrev pub is_arrival : declared_arrival.Arrival → Kinds → Bool
is_arrival arrival.Never k = false
is_arrival arrival.OfQueue k = k.queue
is_arrival arrival.Always k = true

abbrev pub breaks_arrival : Operator → Kinds → Bool
breaks_arrival o k = is_arrival (arrival_of o) k

abbrev pub wants_total : ClosureUse → Bool
wants_total use_of.Total = true
wants_total u = false

abbrev pub is_name_use : ClosureUse → Bool
is_name_use use_of.Name = true
is_name_use u = false

abbrev pub refuses_closure : ClosureUse → Bool
refuses_closure use_of.Refused = true
refuses_closure u = false

abbrev pub groups : Operator → Bool
groups (operator.Bag row.GroupTuple) = true
groups o = false

-- the rules that an operator's call breaks, at its name
abbrev pub rules_of : OpRow → Place → Kinds → List Given → List Broken
rules_of r p k args =
    breaks_if (breaks_arrival r.operator k) rule.Arrival p
    ++ (breaks_if (wants_total r.closure && has_other_closure args) rule.ReduceClosure p
    ++ (breaks_if (refuses_closure r.closure && has_closure args) rule.ComparingClosure p
    ++ breaks_if (groups r.operator && has_option (codes "size") args) rule.GroupSize p))

abbrev pub is_queue_given : declared_gives.Gives → Kinds → List Given → Bool
is_queue_given g.ValueChannel k args = false
is_queue_given g.Queue k args = true
is_queue_given g.AsInputs k args = k.queue || any_queue args

abbrev pub kind_given : OpRow → Kinds → List Given → Kinds
kind_given r k args = known k.plain (not (is_queue_given r.gives k args)) (is_queue_given r.gives k args)

-- an output for each label; what may be a plain value too may have a method of that name
abbrev pub labelled : Kinds → List Given → Shaped
labelled k args = or_plain k.plain (shape_of (all_of_kind k (map Some (labels_by (first_closure args)))))

-- labels are outputs
abbrev pub given_by_use : ClosureUse → Kinds → List Given → Shaped
given_by_use use_of.Labels k args = labelled k args
given_by_use u k args = alone k

-- what a call gives, and the rules that it breaks
pub record Call : Type 0 where
  pub gives : Shaped
  pub broken : List Broken

abbrev pub breaks_none : Kinds → Call
breaks_none k = record { gives = alone k; broken = [] }

-- A name that no operator has is unknown. What may be a plain value too may have a method of that name.
abbrev pub operated : Option OpRow → Place → Kinds → List Given → Call
operated None p k args = breaks_none (plain_unless (not k.plain))
operated (Some r) p k args = record {
  gives = given_by_use r.closure (kind_given r k args) args;
  broken = rules_of r p k args;
}

-- an operator of a channel, and else a method
abbrev pub operator_or_method : Place → List ℕ → Kinds → List Given → Call
operator_or_method p n k args =
    if is_channel k then operated (row_of n operator_rows) p k args
    else breaks_none (known k.plain false false)

-- what an expression with something unknown gives is unknown
abbrev pub other_call : Place → List ℕ → Kinds → List Given → Call
other_call p n k args =
    if k.unknown || any_unknown args then breaks_none unknown_kind
    else operator_or_method p n k args

-- `set { name }` gives what it is called on, and the name stands for all of it. If that may be a plain value too, the
-- name may also stay what it was, as after `false && x.set { name }`.
abbrev pub is_setting : Option OpRow → Bool
is_setting None = false
is_setting (Some r) = is_name_use r.closure

abbrev pub set_to : Bool → List ℕ → Shaped → Scope → Scope
set_to true n v s = after_both s (assigned n v s)
set_to false n v s = assigned n v s

abbrev pub named_by : Option (List ℕ) → Shaped → Walk Shaped
named_by None v s = came v s []
named_by (Some n) v s = came v (set_to v.kinds.plain n v s) []

-- of a plain value it is a method
abbrev pub can_be_set : Shaped → Bool
can_be_set v = is_some v.outputs || (v.kinds.unknown || is_channel v.kinds)

abbrev pub set_call : Shaped → List Given → Walk Shaped
set_call v args =
    if can_be_set v then named_by (name_by (first_closure args)) v
    else gives (alone (known v.kinds.plain false false))

-- `v.name(..)`
abbrev pub member_call : Place → List ℕ → Shaped → List Given → Walk Shaped
member_call p n v args =
    if is_setting (row_of n operator_rows) then set_call v args
    else (λ s. came (other_call p n v.kinds args).gives s (other_call p n v.kinds args).broken)
