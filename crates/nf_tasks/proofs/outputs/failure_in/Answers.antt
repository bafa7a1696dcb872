use Rattle.std.proofs.Common.{◌≡◌, map, ◌∙◌}
use Rattle.nf_tasks.specs.Meaning.{options_in}
use Rattle.std.specs.List.{list_any}
use Rattle.nf_tasks.specs.Memory.{has_stored_stdout, output_of}
use Rattle.nf_tasks.specs.Failure.{failure_of}
use Rattle.nf_tasks.proofs.Stored.{wants_same, failing}
use Rattle.nf_tasks.proofs.outputs.failure_in.Goals as goal

pub returns : goal.returns
returns c =
    failing c.failure_of.result _ _
    (λ n i. failure_of (record {
      options = (c.deref-3.ensures.value ∙ c.in_ok-options.ensures n ∙ (λ j. options_in (map (output_of n) (c.deref.ensures.value j)))) i;
      texts = c.items.ensures i;
      stdout = (c.wants_stdout-stdout.ensures ∙ (λ j. list_any has_stored_stdout (c.deref-2.ensures.value j)) ∙ wants_same n c.args.spec.now.outputs.items) i;
    }) c.args.report.now)
    c.failure_of.ensures
