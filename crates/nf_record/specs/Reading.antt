-- The record that bytes are.
use Rattle.std.specs.Prelude.{ℕ, List, [], ◌∷◌, Ok, Err, None, Some}
use Rattle.std.specs.declared.option.Option.{Option}
use Rattle.std.specs.Option.{option_and_then}
use Rattle.nf_value.specs.Plain.{Plain}
use Rattle.nf_codec.specs.Reading.{Reading, read}
use Rattle.nf_record.specs.declared.stored.Record.{Record}
use Rattle.nf_record.specs.Parts.{three_in, form_in, job_in, report_in}

-- the value, if no bytes follow it
abbrev pub if_last : Plain → List ℕ → Option Plain
if_last v [] = Some v
if_last v (b ∷ bs) = None

abbrev pub whole_in : Reading Plain → Option Plain
whole_in (Ok p) = if_last p.0 p.1
whole_in (Err e) = None

abbrev pub record_from : Plain × Plain × Plain → Option Record
record_from p = option_and_then (λ f. option_and_then (λ j. option_and_then (λ r. Some (record { form = f; job = j; report = r })) (report_in p.2)) (job_in p.1)) (form_in p.0)

abbrev pub record_of : Plain → Option Record
record_of v = option_and_then record_from (three_in v)

-- the record whose code the bytes are
unfoldable pub record_in : List ℕ → Option Record
record_in bytes = option_and_then record_of (whole_in (read 64 bytes))
