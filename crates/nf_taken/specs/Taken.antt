-- What an operator took from its arguments, in memory and in the meaning of scripts.
use Rattle.std.specs.Prelude.{◌≡◌, ℕ, Bool, true, false, List, [], ◌∷◌, ◌++◌, length, Option, Some, None, Result}
use Rattle.std.specs.Option.{option_map}
use Rattle.std.specs.Global.{Vec}
use Rattle.nf_value.specs.Plain.{Plain}
use Rattle.nf_value.specs.View.{plain_of}
use Rattle.nf_bag.specs.declared.options.OpOpts.{OpOpts}
use Rattle.nf_bag.specs.declared.options.Total.{Total}
use Rattle.nf_bag.specs.declared.rows.Row.{Row}
use Rattle.nf_bag.specs.declared.rows.Row.TheVariants as row
use Rattle.nf_graph.specs.Meaning.{Bags}
use Rattle.nf_eval.specs.Evaluation as eval
use Rattle.nf_eval.specs.declared.closures.Closure.{Closure}
use Rattle.nf_tasks.specs.Memory.{Program}
use Rattle.nf_bodies.specs.Labels.{HasLabels, Label}
use Rattle.nf_bodies.specs.Means.{GiveLabels, GivesAs}
use Rattle.nf_meaning.specs.Closures.{labels_in}
use Rattle.nf_meaning.specs.Nodes.{PortsStand}
use Rattle.nf_meaning.specs.Taken as meaning
use Rattle.nf_meaning.specs.Things.{Channel}
use Rattle.nf_taken.specs.declared.taken.Closing.{Closing}
use Rattle.nf_taken.specs.declared.taken.Closing.TheVariants as closing
use Rattle.nf_taken.specs.declared.taken.Taken.{Taken}

-- ---- closures

-- a closure was taken, and the one in memory gives what it gives
pub record IsWhole (n : Program) (stored : Closure) (o : Option eval.Closing) : Type 0 where
  pub closure : eval.Closing
  pub taken : o ≡ Some closure
  pub gives : GivesAs n stored closure

-- a closure of labels was taken, and those in memory give what it gives label by label
pub record AreByLabels (n : Program) (stored : List Closure) (o : Option eval.Closing) : Type 0 where
  pub closure : eval.Closing
  pub taken : o ≡ Some closure
  pub first : Label
  pub more : List Label
  pub has : HasLabels closure first more
  pub give : GiveLabels n stored closure (first ∷ more)

abbrev pub IsClosing : Program → Closing → Option eval.Closing → Type 0
IsClosing n closing.Nothing o = o ≡ None
IsClosing n (closing.Whole stored) o = IsWhole n stored o
IsClosing n (closing.ByLabels stored) o = AreByLabels n stored.items o

-- `branch` and `multiMap` have labels
abbrev pub is_labelled : Row → Bool
is_labelled row.Branch = true
is_labelled row.MultiMap = true
is_labelled _ = false

-- a closure of labels is one of an operator that has labels
abbrev pub FitsClosing : Row → Closing → Type 0
FitsClosing r closing.Nothing = Unit {0}
FitsClosing r (closing.Whole stored) = is_labelled r ≡ false
FitsClosing r (closing.ByLabels stored) = is_labelled r ≡ true

-- ---- all that was taken

abbrev pub with_outs : ℕ → OpOpts → OpOpts
with_outs k o = record o { outs = k }

pub record IsTaken (n : Program) (bags : Bags) (x : Taken) (t : meaning.Taken) : Type 0 where
  pub channels : PortsStand bags x.ports.items t.channels
  pub literal : option_map plain_of x.literal ≡ t.literal
  pub pattern : x.pattern ≡ t.pattern
  pub start : option_map plain_of x.start ≡ t.start
  pub closing : IsClosing n x.closing t.closing
  pub labels : x.labels.items ≡ t.labels
  pub word : x.word ≡ t.word
  pub options : with_outs (length x.labels.items) x.opts ≡ t.options

-- nothing but a channel is more, and what the closure fits, it fits
pub record Keeps (r : Row) (old new : Taken) : Type 0 where
  pub ports : new.ports.items ≡ old.ports.items
  pub closing : FitsClosing r old.closing → FitsClosing r new.closing

-- ---- one thing more

abbrev pub with_channel : Channel → meaning.Taken → meaning.Taken
with_channel c t = record t { channels = t.channels ++ c ∷ [] }

abbrev pub with_start : Plain → meaning.Taken → meaning.Taken
with_start v t = record t { start = Some v }

abbrev pub with_literal : Plain → meaning.Taken → meaning.Taken
with_literal v t = record t { literal = Some v }

abbrev pub with_pattern : List ℕ → meaning.Taken → meaning.Taken
with_pattern s t = record t { pattern = Some s }

abbrev pub with_closure : eval.Closing → meaning.Taken → meaning.Taken
with_closure c t = record t { closing = Some c }

abbrev pub with_labels : eval.Closing → meaning.Taken → meaning.Taken
with_labels c t =
    record t {
      closing = Some c;
      labels = labels_in c.body;
      options = with_outs (length (labels_in c.body)) t.options;
    }

abbrev pub with_word : List ℕ → meaning.Taken → meaning.Taken
with_word w t = record t { word = w }

abbrev pub with_total : Total → meaning.Taken → meaning.Taken
with_total k t = record t { options = record t.options { total = k } }

abbrev pub with_options : OpOpts → meaning.Taken → meaning.Taken
with_options o t = record t { options = o }
