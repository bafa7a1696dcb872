use Rattle.std.proofs.Common.{◌∙◌, ap, subst}
use Rattle.std.proofs.lemmas.Result.{on_ok_weaker}
use Rattle.nf_known.specs.Patterns.{HasTexts}
use Rattle.nf_meaning.specs.Functions.{in_order, names_of}
use Rattle.nf_library.specs.Stages.{defined_by}
use Rattle.nf_library.proofs.order.add_in_order.Goals as goal

pub add_rounds-requires-clause-names : goal.add_rounds-requires-clause-names
add_rounds-requires-clause-names c = subst (λ ws. HasTexts c.in_ok-names.names.keys (names_of (defined_by ws))) c.deref.ensures.value c.in_ok-names.ensures

pub returns-clause-functions : goal.returns-clause-functions
returns-clause-functions c = on_ok_weaker c.add_rounds.result (λ same. same ∙ ap in_order c.in_ok-left.ensures) c.add_rounds.ensures.functions
