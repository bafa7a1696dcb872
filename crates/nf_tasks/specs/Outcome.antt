-- What the report of an attempt amounts to.
use Rattle.std.specs.Prelude.{ℕ, List, [], length, take, Option, None, Some, Ok}
use Rattle.nf_value.specs.Plain.{Plain}
use Rattle.nf_job.specs.declared.fault.TaskFault.{TaskFault}
use Rattle.nf_job.specs.declared.report.Report.{Report}
use Rattle.nf_job.specs.declared.emitted.Outputs.{Outputs}
use Rattle.nf_job.specs.declared.emitted.Outputs.TheVariants.{Emits}
use Rattle.nf_tasks.specs.declared.prepared.Prepared.{Prepared}
use Rattle.nf_tasks.specs.declared.outputs.Done.{Done}
use Rattle.nf_tasks.specs.declared.target_list.Target.{Target}
use Rattle.nf_tasks.specs.Judged.{Judged, ◌>>=◌}
use Rattle.nf_tasks.specs.Meaning.{ProcessMeaning, options_in, wants_stdout}
use Rattle.nf_tasks.specs.Prepared.{prepared_of}
use Rattle.nf_tasks.specs.Failure.{failure_of, outputs_at}
use Rattle.nf_tasks.specs.Emission.{values_of}
use Rattle.nf_tasks.specs.Publishing.{published}

-- first the outputs are judged, then the publish directives
abbrev pub done_by : ProcessMeaning → Prepared → Report → Judged Done
done_by p x r =
    values_of (record { seen = x.seen; captured = r.captured }) p.outputs r.found >>= λ values.
    published p.publishes x.seen (take (length (options_in p.outputs)) r.found) >>= λ targets.
    Ok (record { values = values; targets = targets })

abbrev pub failure_in : ProcessMeaning → Prepared → Report → Option TaskFault
failure_in p x r =
    failure_of (record { options = options_in p.outputs; texts = x.patterns; stdout = wants_stdout p.outputs }) r

abbrev pub outputs_by : ProcessMeaning → ℕ → Judged Done → Option TaskFault → Judged Outputs
outputs_by p attempt done (Some f) = Ok (outputs_at p.strategy attempt f)
outputs_by p attempt done None = done >>= λ d. Ok (Emits d.values)

-- a failing report publishes nothing
abbrev pub targets_by : Judged Done → Option TaskFault → Judged (List Target)
targets_by done (Some f) = Ok []
targets_by done None = done >>= λ d. Ok d.targets

-- what the report of an attempt amounts to; or the fault, if the attempt has no job, or an output or directive no value
abbrev pub outputs_of : ProcessMeaning → List Plain → ℕ → Report → Judged Outputs
outputs_of p inputs attempt r =
    prepared_of p inputs attempt >>= λ x. outputs_by p attempt (done_by p x r) (failure_in p x r)

-- the files that it publishes, or the fault
abbrev pub targets_of : ProcessMeaning → List Plain → ℕ → Report → Judged (List Target)
targets_of p inputs attempt r = prepared_of p inputs attempt >>= λ x. targets_by (done_by p x r) (failure_in p x r)
