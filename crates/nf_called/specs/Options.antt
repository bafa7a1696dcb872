-- The options of outputs in memory.
use Rattle.std.specs.Prelude.{◌≡◌, ℕ, List, [], ◌∷◌}
use Rattle.nf_tasks.specs.declared.process.Output.{Output}
use Rattle.nf_meaning.specs.Processes as process
use Rattle.nf_meaning.specs.Processes.{and_label, with_option}
use Rattle.nf_called.specs.declared.options.OutputOptions.{OutputOptions}

abbrev pub options_of : OutputOptions → process.OutputOptions
options_of o = record { label = o.label; optional = o.optional }

abbrev pub AreOptions : OutputOptions → process.OutputOptions → Type 0
AreOptions o m = options_of o ≡ m

-- the names of outputs behind these, the latest first
abbrev pub labels_from : List (List ℕ) → List Output → List (List ℕ)
labels_from before [] = before
labels_from before (o ∷ os) = labels_from (and_label o.emit before) os

abbrev pub labels_of : List Output → List (List ℕ)
labels_of os = labels_from [] os
