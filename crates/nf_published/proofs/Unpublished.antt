-- A process without a directive that publishes publishes no file.
use Rattle.std.proofs.Common.{◌≡◌, ℕ, List, [], map, length, Bool, true, false, ap, subst, sym, take, refl}
use Rattle.std.specs.Prelude.{Option, Some, None, Ok, Err, not, ◌==◌}
use Rattle.std.proofs.lemmas.Bool.{eqb-true}
use Rattle.std.proofs.lemmas.List.{nil_from_length}
use Rattle.nf_value.specs.Plain.{Plain}
use Rattle.nf_job.specs.declared.fault.TaskFault.{TaskFault}
use Rattle.nf_job.specs.declared.report.Report.{Report}
use Rattle.nf_tasks.specs.declared.prepared.Prepared.{Prepared}
use Rattle.nf_tasks.specs.Judged.{Judged, ◌>>=◌}
use Rattle.nf_tasks.specs.Meaning.{ProcessMeaning, PublishMeaning, options_in}
use Rattle.nf_tasks.specs.Memory.{Program, process_of, publish_of}
use Rattle.nf_tasks.specs.Prepared.{prepared_of}
use Rattle.nf_tasks.specs.Emission.{values_of}
use Rattle.nf_tasks.specs.Outcome.{done_by, failure_in, targets_by}
use Rattle.nf_tasks.specs.Publishing.{published}
use Rattle.nf_bodies.specs.declared.body.NodeBody.{NodeBody}
use Rattle.nf_bodies.specs.declared.body.NodeBody.TheVariants as body
use Rattle.nf_bodies.specs.declared.body.NodeInfo.{NodeInfo}
use Rattle.nf_bodies.specs.Bodies.{body_in, published_of}
use Rattle.nf_published.specs.declared.reading.Tried.{Tried}
use Rattle.nf_published.specs.Published.{publishing_of}
use Rattle.nf_published.specs.Reading.{judged_targets, may_publish_body, published_at}

by_values : (v : Judged (List (Option Plain))) (f : Option TaskFault) → judged_targets (targets_by (v >>= λ values. Ok (record { values = values; targets = [] })) f) ≡ []
by_values (Ok vs) None = refl
by_values (Ok vs) (Some f) = refl
by_values (Err e) None = refl
by_values (Err e) (Some f) = refl

module _ (p : ProcessMeaning) (r : Report) (none : p.publishes ≡ []) where
  by_done : (x : Prepared) → judged_targets (targets_by (done_by p x r) (failure_in p x r)) ≡ []
  by_done x =
      let values = values_of (record { seen = x.seen; captured = r.captured }) p.outputs r.found in
      let lists = take (length (options_in p.outputs)) r.found in
      let P : List PublishMeaning → Type 0 =
      λ ps. judged_targets (targets_by (values >>= λ vs. published ps x.seen lists >>= λ targets. Ok (record { values = vs; targets = targets })) (failure_in p x r)) ≡ [] in
      subst P (sym none) (by_values values (failure_in p x r))

  by_prepared : (x : Judged Prepared) → judged_targets (x >>= λ y. targets_by (done_by p y r) (failure_in p y r)) ≡ []
  by_prepared (Ok y) = by_done y
  by_prepared (Err f) = refl

no_directive : (n : ℕ) → not (n == 0) ≡ false → n ≡ 0
no_directive n h = by (n == 0) refl h
  where
    by : (b : Bool) → (n == 0) ≡ b → not b ≡ false → n ≡ 0
    by true e h = eqb-true n 0 e
    by false e h = absurd cc

by_body : (n : Program) (b : NodeBody) → may_publish_body b ≡ false → (inputs : List Plain) (attempt : ℕ) (r : Report) → judged_targets (published_of n b inputs attempt r) ≡ []
by_body n (body.Process s) h inputs attempt r =
    let p = process_of n s in
    let none : p.publishes ≡ [] = ap (map (publish_of n)) (nil_from_length s.publishes.items (no_directive (length s.publishes.items) h)) in
    by_prepared p r none (prepared_of p inputs attempt)
by_body n body.Source h inputs attempt r = refl
by_body n body.Item h inputs attempt r = refl
by_body n (body.Literal v) h inputs attempt r = refl
by_body n (body.Pattern re) h inputs attempt r = refl
by_body n (body.Applied c) h inputs attempt r = refl
by_body n (body.Branch cs) h inputs attempt r = refl
by_body n (body.MultiMap cs) h inputs attempt r = refl

pub publishes_none : (n : Program) (infos : List NodeInfo) (x : Tried) (inputs : Option (List Plain)) (r : Report) → may_publish_body (body_in infos x.node) ≡ false → published_at (publishing_of n infos) r x inputs ≡ []
publishes_none n infos x None r h = refl
publishes_none n infos x (Some inputs) r h = by_body n (body_in infos x.node) h inputs x.attempt r
