use Rattle.std.proofs.Common.{◌≡◌, ◌∙◌, option_map, sym, ap}
use Rattle.std.specs.Str.{chars}
use Rattle.std.proofs.lemmas.Result.{IfOk-weaker}
use Rattle.nf_paths.specs.Groups.{pairs_in}
use Rattle.nf_paths.specs.Pairs as pairs
use Rattle.nf_paths.specs.Pairs.{keyed, pairs_by}
use Rattle.nf_paths.specs.Texts.{pattern_of}
use Rattle.nf_paths.proofs.Pairing.{grouped_pairs, pairs_due}
use Rattle.nf_paths.proofs.pairs.pairs_of.Goals as goal

pub returns-in_ok-groups-in-Some : goal.returns-in_ok-groups-in-Some
returns-in_ok-groups-in-Some c =
    let fs = c.args.files.now in
    let path = chars c.args.path.now in
    let es = c.in_ok-groups-in-Some.groups.entries in
    let is : pairs_in es ≡ pairs.pairs_of path fs =
    grouped_pairs (keyed (pattern_of c.in-Some.pattern) fs) es c.in_ok-groups-in-Some.ensures ∙ ap (λ r. pairs_by (option_map pattern_of r) fs) (sym c.in-Some.is)
    ∙ pairs_due path (chars c.name_at.result.now) fs c.pair_pattern.result c.name_at.ensures c.pair_pattern.ensures in
    IfOk-weaker c.paired.result (λ v. v ≡ pairs_in es) (λ v. v ≡ pairs.pairs_of path fs) (λ v e. e ∙ is) c.paired.ensures
