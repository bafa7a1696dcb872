use Rattle.std.proofs.Common.{[], ap, rules}
use Rattle.nf_ast.specs.Tops.{maybe, view_outputs}
use Rattle.nf_meaning.specs.Processes.{outputs_in}
use Rattle.nf_called.proofs.outputs.outputs_in.Goals as goal

pub returns-in-None-clause-means : goal.returns-in-None-clause-means
returns-in-None-clause-means g c =
    let x = g.F.Formulas.inside c.args.formulas.now in
    record {
      value = [];
      is = ap (λ o. outputs_in x [] (maybe view_outputs o)) c.in-None.is;
      fits = record { labels = search rules; outputs = search rules };
    }
