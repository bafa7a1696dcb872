use Rattle.std.proofs.Common.{◌∙◌, ap, rules}
use Rattle.std.specs.Prelude.{Some}
use Rattle.nf_called.specs.Leaves.{leaf_emit, view_leaf}
use Rattle.nf_called.specs.Options.{labels_of, options_of}
use Rattle.nf_called.proofs.Labels.{label_twice, label_once}
use Rattle.nf_called.proofs.options.emitted.Goals as goal

pub returns-then-is_known : goal.returns-then-is_known
returns-then-is_known c =
    let before = labels_of c.args.before.now in
    let o = options_of c.args.so_far in
    ap (λ l. leaf_emit before c.args.place (view_leaf l) o) c.in-Name.is ∙ label_twice before c.args.place c.in-Name.name_place c.in-Name.name.now o c.is_known.result c.is_known.ensures c.if-is_known.true

pub returns : goal.returns
returns c =
    let before = labels_of c.args.before.now in
    let o = options_of c.args.so_far in
    record {
      value = record o { label = Some c.in-Name.name.now };
      is = ap (λ l. leaf_emit before c.args.place (view_leaf l) o) c.in-Name.is ∙ label_once before c.args.place c.in-Name.name_place c.in-Name.name.now o c.is_known.result c.is_known.ensures c.if-is_known.false;
      fits = search rules;
    }
