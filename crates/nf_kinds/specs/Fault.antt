-- Broken rules, and which of them is answered.
use Rattle.std.specs.Prelude.{◌≡◌, ℕ, ◌==◌, nat_lt, Bool, true, ◌&&◌, ◌||◌, List, [], ◌∷◌, All, Contains, Option, Some, None, if◌then◌else◌}
use Rattle.nf_value.specs.declared.place.Place.{Place}
use Rattle.nf_kinds.specs.declared.fault.OrderRule.{OrderRule}
use Rattle.nf_kinds.specs.declared.fault.OrderRule.TheVariants as rule
use Rattle.nf_kinds.specs.declared.fault.Broken.{Broken}

abbrev pub rule_number : OrderRule → ℕ
rule_number rule.ProcessQueues = 1
rule_number rule.Arrival = 2
rule_number rule.ReduceClosure = 3
rule_number rule.ComparingClosure = 4
rule_number rule.GroupSize = 5
rule_number rule.SharedState = 6

abbrev pub breaks : OrderRule → Place → Broken
breaks r p = record { rule = r; place = p }

-- the rule is broken there, if this is so
abbrev pub breaks_if : Bool → OrderRule → Place → List Broken
breaks_if b r p = if b then breaks r p ∷ [] else []

-- the first in the text, and at one place the smaller rule, comes before
abbrev pub is_before : Broken → Broken → Bool
is_before a b =
    nat_lt a.place.line b.place.line || ((a.place.line == b.place.line)
    && (nat_lt a.place.col b.place.col
    || ((a.place.col == b.place.col) && nat_lt (rule_number a.rule) (rule_number b.rule))))

-- none of these comes before it
abbrev pub IsFirst : Broken → List Broken → Type 0
IsFirst f all = Contains all f × All (λ g. is_before g f ≡ true → ⊥) all

abbrev pub earlier_of : Option Broken → Broken → Broken
earlier_of None g = g
earlier_of (Some f) g = if is_before g f then g else f

-- the first of these and of one before them
abbrev pub first_from : Option Broken → List Broken → Option Broken
first_from o [] = o
first_from o (g ∷ gs) = first_from (Some (earlier_of o g)) gs

-- the first of these, if there is one
abbrev pub first_of : List Broken → Option Broken
first_of all = first_from None all
