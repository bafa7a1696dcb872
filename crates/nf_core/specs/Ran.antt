-- A job that a lane ran.
use Rattle.std.specs.Prelude.{◌≡◌, ℕ, List}
use Rattle.std.specs.declared.option.Option.{Option}
use Rattle.nf_job.specs.declared.parts.JobParts.{JobParts}
use Rattle.nf_job.specs.declared.report.Report.{Report}
use Rattle.nf_graph.specs.Rules.{Rules, Outs}
use Rattle.nf_flight.specs.declared.ticket.Ticket.{Ticket}
use Rattle.nf_flight.specs.Ticket.{node_of, inputs_of, attempt_of}
use Rattle.nf_core.specs.declared.ran.Ran.{Ran}
use Rattle.nf_core.specs.Records.{is_recorded}
use Rattle.nf_core.specs.Kept.{IsRecordFor}

module _ {D : Type 0} where
  abbrev pub done_of : Ran D → D
  done_of x = x.done

  abbrev pub report_of : Ran D → Report
  report_of x = x.report

  abbrev pub outs_of : Ran D → Outs
  outs_of x = x.outs

  abbrev pub bytes_of : Ran D → Option (List ℕ)
  bytes_of x = x.bytes

-- what a lane gave for the ticket's job, with what the rules make of its report, and the record that is kept of it
pub record IsRan (R : Rules) (t : Ticket) (job : JobParts) {D : Type 0} (done : D) (told : Report) (x : Ran D) : Type 0 where
  pub done_is : done_of x ≡ done
  pub report_is : report_of x ≡ told
  pub outs_are : outs_of x ≡ R.outputs (node_of t) (inputs_of t) (attempt_of t) told
  pub bytes_are : IsRecordFor (is_recorded (outs_of x)) job told (bytes_of x)
