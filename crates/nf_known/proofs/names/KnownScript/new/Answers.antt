use Rattle.std.proofs.Common.{◌∙◌, map, sym, ap}
use Rattle.nf_ast.specs.Tops.{view_top}
use Rattle.nf_ast.specs.View.{trees}
use Rattle.nf_known.proofs.names.KnownScript.new.Goals as goal

pub returns : goal.returns
returns g c given script = record {
  tops = script.tops ∙ ap (λ ts. trees (map view_top ts)) (sym c.in_ok-new.ensures);
  program = record { titles = script.titles; patterns = script.patterns };
  judged = c.in_ok-judged.ensures.judged given (record { titles = script.titles; patterns = script.patterns });
  whole = c.in_ok-judged.ensures.whole;
}
