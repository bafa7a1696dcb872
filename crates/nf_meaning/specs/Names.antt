-- Whether all names of an expression stand for what the expression may use.
use Rattle.std.specs.Prelude.{ℕ, Bool, true, false, ◌||◌, List, [], ◌∷◌, codes, bytes_eq, is_some, if◌then◌else◌, Option, Some, None}
use Rattle.nf_value.specs.Plain.{Plain}
use Rattle.nf_value.specs.declared.place.Place.{Place}
use Rattle.nf_names_used.specs.Natives.{is_among}
use Rattle.nf_ast.specs.Tree.{Tree}
use Rattle.nf_names_used.specs.declared.uses.Use.{Use}
use Rattle.nf_names_used.specs.declared.uses.UseKind.{UseKind}
use Rattle.nf_names_used.specs.declared.uses.UseKind.TheVariants as kind
use Rattle.nf_optable.specs.declared.rows.OpRow.{OpRow}
use Rattle.nf_optable.specs.Rows.{operator_rows, row_of}
use Rattle.nf_meaning.specs.declared.fault.LowerFault.{LowerFault}
use Rattle.nf_meaning.specs.declared.fault.LowerFault.TheVariants.{UnknownName, TwiceDefined, BadOption, PatternRefused, PatternTooLarge}
use Rattle.nf_meaning.specs.Lowered.{or_else, fault_if}
use Rattle.nf_meaning.specs.Things.{Thing, a_value, a_channel, outputs, holds_file, thing_named}
use Rattle.nf_meaning.specs.Given.{Given, Definitions, tree_named, function_named}

-- ---- what a name is where it is called

pub data Called : Type 0 where
  a_process : Tree → Called
  a_workflow : Tree → Called
  -- a function of the script or of the program
  a_function : Called
  -- the word `file`
  a_file : Called
  an_operator : OpRow → Called
  unknown : Called

abbrev pub by_operator : Option OpRow → Called
by_operator (Some r) = an_operator r
by_operator None = unknown

abbrev pub by_word : List ℕ → Called
by_word n = if bytes_eq n (codes "file") then a_file else by_operator (row_of n operator_rows)

abbrev pub by_function : Bool → Called → Called
by_function true c = a_function
by_function false c = c

abbrev pub by_workflow : Option Tree → Called → Called
by_workflow (Some t) c = a_workflow t
by_workflow None c = c

abbrev pub by_process : Option Tree → Called → Called
by_process (Some t) c = a_process t
by_process None c = c

-- a function of the script or of the program
abbrev pub is_function : Definitions → List (List ℕ) → List ℕ → Bool
is_function d titles n = is_some (function_named n d.functions) || is_among n titles

-- the script's own names come before the language's
abbrev pub called_by : Definitions → List (List ℕ) → List ℕ → Called
called_by d titles n =
    by_process (tree_named n d.processes) (by_workflow (tree_named n d.workflows)
    (by_function (is_function d titles n) (by_word n)))

-- `channel` or `Channel`
abbrev pub is_channel_word : List ℕ → Bool
is_channel_word n = bytes_eq n (codes "channel") || bytes_eq n (codes "Channel")

-- a name that leads to channels: that word, a process or a workflow
abbrev pub leads_to_channels : Definitions → List ℕ → Bool
leads_to_channels d n = is_channel_word n || (is_some (tree_named n d.processes) || is_some (tree_named n d.workflows))

-- ---- what a name may stand for

pub data Reading : Type 0 where
  -- in an expression that is evaluated before the run: no channel, and no file
  before_run : Reading
  -- in a closure that is applied to items, or an expression of a process: no channel
  in_run : Reading
  -- in an expression that is only read: anything
  unread : Reading

-- the names around an expression, and those that stand for values everywhere, as `params`
pub record Known : Type 0 where
  pub things : List (List ℕ × Thing)
  pub everywhere : List (List ℕ)

abbrev pub channel_fault : Reading → Place → Option LowerFault
channel_fault before_run p = Some (BadOption p)
channel_fault in_run p = Some (BadOption p)
channel_fault unread p = None

abbrev pub value_fault : Reading → Place → Plain → Option LowerFault
value_fault before_run p v = fault_if (holds_file v) (BadOption p)
value_fault in_run p v = None
value_fault unread p v = None

abbrev pub thing_fault : Reading → Place → Thing → Option LowerFault
thing_fault r p (a_value v) = value_fault r p v
thing_fault r p (a_channel c) = channel_fault r p
thing_fault r p (outputs os) = channel_fault r p

abbrev pub free_fault : Bool → Reading → Place → Option LowerFault
free_fault true r p = channel_fault r p
free_fault false r p = Some (UnknownName p)

abbrev pub unbound_fault : Bool → Bool → Reading → Place → Option LowerFault
unbound_fault true leads r p = None
unbound_fault false leads r p = free_fault leads r p

abbrev pub bound_fault : Option Thing → Bool → Bool → Reading → Place → Option LowerFault
bound_fault (Some t) everywhere leads r p = thing_fault r p t
bound_fault None everywhere leads r p = unbound_fault everywhere leads r p

-- a name that stands for something, but for no value
abbrev pub is_no_value : Definitions → List (List ℕ) → List ℕ → Bool
is_no_value d titles n = leads_to_channels d n || is_function d titles n

abbrev pub name_fault : Definitions → List (List ℕ) → Known → Reading → Place → List ℕ → Option LowerFault
name_fault d titles k r p n = bound_fault (thing_named n k.things) (is_among n k.everywhere) (is_no_value d titles n) r p

-- an expression calls functions alone
abbrev pub call_fault : Called → Place → Option LowerFault
call_fault a_function p = None
call_fault (a_process t) p = Some (BadOption p)
call_fault (a_workflow t) p = Some (BadOption p)
call_fault a_file p = Some (BadOption p)
call_fault (an_operator r) p = Some (BadOption p)
call_fault unknown p = Some (UnknownName p)

abbrev pub pattern_fault : Given → Place → List ℕ → Option LowerFault
pattern_fault g p s =
    if is_among s g.patterns then None
    else if is_among s g.large then Some (PatternTooLarge p)
    else Some (PatternRefused p)

abbrev pub use_fault : Given → Definitions → Known → Reading → UseKind → Place → List ℕ → Option LowerFault
use_fault g d k r kind.Name p n = name_fault d g.program.titles k r p n
use_fault g d k r kind.Assigned p n = Some (UnknownName p)
use_fault g d k r kind.Again p n = Some (TwiceDefined p)
use_fault g d k r kind.Function p n = call_fault (called_by d g.program.titles n) p
use_fault g d k r kind.Pattern p n = pattern_fault g p n

-- the fault of the first of these uses that has one
abbrev pub uses_fault : Given → Definitions → Known → Reading → List Use → Option LowerFault
uses_fault g d k r [] = None
uses_fault g d k r (u ∷ us) = or_else (use_fault g d k r u.kind u.place u.text) (uses_fault g d k r us)
