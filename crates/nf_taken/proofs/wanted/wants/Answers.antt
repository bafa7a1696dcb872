use Rattle.std.proofs.Common.{◌∙◌, ap, refl}
use Rattle.nf_arguments.specs.Args.{written_arg}
use Rattle.nf_optable.specs.declared.rows.ClosureUse.TheVariants as closure
use Rattle.nf_meaning.specs.Taken.{with_unnamed}
use Rattle.nf_taken.specs.declared.wanted.Alone.TheVariants as alone
use Rattle.nf_taken.proofs.Rows.{has_labels, has_none, no_port}
use Rattle.nf_taken.proofs.Wanting.{last_fits, last_ports, must_walk, total_walk}
use Rattle.nf_taken.proofs.wanted.wants.Goals as goal

pub returns-in-Never : goal.returns-in-Never
returns-in-Never c =
    let x = written_arg c.args.arg in
    record {
      walk = ap (λ u. with_unnamed u c.args.operator c.args.row.args c.args.is_last x) c.in-Never.is ∙ c.plain.ensures.walk x;
      ports = c.plain.ensures.ports;
      fits = c.plain.ensures.fits c.args.operator;
    }

pub returns-in-Labels : goal.returns-in-Labels
returns-in-Labels c =
    let x = written_arg c.args.arg in
    record {
      walk = ap (λ u. with_unnamed u c.args.operator c.args.row.args c.args.is_last x) c.in-Labels.is;
      ports = no_port c.args.row c.args.operator c.requires closure.Labels c.in-Labels.is refl;
      fits = has_labels c.args.row c.args.operator c.requires c.in-Labels.is;
    }

pub returns-in-Name : goal.returns-in-Name
returns-in-Name c =
    let x = written_arg c.args.arg in
    record {
      walk = ap (λ u. with_unnamed u c.args.operator c.args.row.args c.args.is_last x) c.in-Name.is;
      ports = no_port c.args.row c.args.operator c.requires closure.Name c.in-Name.is refl;
      fits = tt;
    }

pub returns-in-May : goal.returns-in-May
returns-in-May c =
    let x = written_arg c.args.arg in
    record {
      walk = ap (λ u. with_unnamed u c.args.operator c.args.row.args c.args.is_last x) c.in-May.is;
      ports = no_port c.args.row c.args.operator c.requires closure.May c.in-May.is refl;
      fits = has_none c.args.row c.args.operator c.requires closure.May c.in-May.is refl;
    }

pub returns-in-Refused : goal.returns-in-Refused
returns-in-Refused c =
    let x = written_arg c.args.arg in
    record {
      walk = ap (λ u. with_unnamed u c.args.operator c.args.row.args c.args.is_last x) c.in-Refused.is;
      ports = no_port c.args.row c.args.operator c.requires closure.Refused c.in-Refused.is refl;
      fits = tt;
    }

pub returns-in-Must : goal.returns-in-Must
returns-in-Must c =
    let x = written_arg c.args.arg in
    let h = c.last_or_plain.ensures in
    record {
      walk = ap (λ u. with_unnamed u c.args.operator c.args.row.args c.args.is_last x) c.in-Must.is ∙ must_walk c.args.operator c.args.row.args x c.args.is_last c.last_or_plain.result h;
      ports = last_ports alone.Closure c.args.row.args c.args.is_last c.last_or_plain.result h (no_port c.args.row c.args.operator c.requires closure.Must c.in-Must.is refl);
      fits = last_fits alone.Closure c.args.row.args c.args.is_last c.last_or_plain.result c.args.operator h (has_none c.args.row c.args.operator c.requires closure.Must c.in-Must.is refl);
    }

pub returns-in-Total : goal.returns-in-Total
returns-in-Total c =
    let x = written_arg c.args.arg in
    let h = c.last_or_plain-in-Total.ensures in
    record {
      walk = ap (λ u. with_unnamed u c.args.operator c.args.row.args c.args.is_last x) c.in-Total.is ∙ total_walk c.args.operator c.args.row.args x c.args.is_last c.last_or_plain-in-Total.result h;
      ports = last_ports alone.Total c.args.row.args c.args.is_last c.last_or_plain-in-Total.result h (no_port c.args.row c.args.operator c.requires closure.Total c.in-Total.is refl);
      fits = last_fits alone.Total c.args.row.args c.args.is_last c.last_or_plain-in-Total.result c.args.operator h tt;
    }

pub returns-in-InPlace : goal.returns-in-InPlace
returns-in-InPlace c =
    let x = written_arg c.args.arg in
    record {
      walk = ap (λ u. with_unnamed u c.args.operator c.args.row.args c.args.is_last x) c.in-InPlace.is ∙ c.in_place.ensures.walk;
      ports = c.in_place.ensures.ports ∙ no_port c.args.row c.args.operator c.requires closure.InPlace c.in-InPlace.is refl;
      fits = c.in_place.ensures.fits (has_none c.args.row c.args.operator c.requires closure.InPlace c.in-InPlace.is refl);
    }
