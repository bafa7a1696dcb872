-- Where a list of targets in their order has two of one name.
use Rattle.std.specs.Prelude.{ℕ, List, ◌∷◌, bytes_eq, if◌then◌else◌, None, Some}
use Rattle.std.specs.declared.option.Option.{Option}
use Rattle.nf_value.specs.declared.file.Digest.{Digest}
use Rattle.nf_value.specs.Plain.{Plain, file}
use Rattle.nf_tasks.specs.declared.target_list.Target.{Target}
use Rattle.nf_publish.specs.declared.fault.Clash.{Clash}

-- a target as a file of no length
abbrev pub target_plain : Target → Plain
target_plain t = file t.name t.digest.0 0

abbrev pub clash_of : List ℕ → Digest → Digest → Clash
clash_of name first second = record { target = name; first = first; second = second }

-- after a file of this name and digest
abbrev pub clash_after : List ℕ → Digest → List Plain → Option Clash
clash_after name digest (file m e l ∷ more) =
    if bytes_eq name m then Some (clash_of name digest (record { 0 = e })) else clash_after m (record { 0 = e }) more
clash_after name digest _ = None

abbrev pub clash_in : List Plain → Option Clash
clash_in (file n d l ∷ more) = clash_after n (record { 0 = d }) more
clash_in _ = None
