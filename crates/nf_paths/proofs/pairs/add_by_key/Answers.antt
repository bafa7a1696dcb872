use Rattle.std.proofs.Common.{◌≡◌, ◌∙◌, ◌++◌, None, Some, option_map, sym, ap, subst}
use Rattle.std.specs.Str.{chars}
use Rattle.std.proofs.lemmas.List.{append-nil}
use Rattle.std.proofs.lemmas.Result.{on_ok_weaker}
use Rattle.nf_paths.specs.Pairs as pairs
use Rattle.nf_paths.specs.Pairs.{Keyed, with_key}
use Rattle.nf_paths.specs.Groups.{IsGrouped}
use Rattle.nf_paths.specs.Texts.{text_of, pattern_of}
use Rattle.nf_paths.proofs.pairs.add_by_key.Goals as goal

pub returns-in-Some : goal.returns-in-Some
returns-in-Some c =
    let f = c.args.file.now in
    let p = pattern_of c.args.pattern.now in
    let key : pairs.key_of p (chars f.name) ≡ Some (chars c.in-Some.key.now) =
    ap (λ t. pairs.key_of p (chars t)) (sym c.as_str.ensures) ∙ sym c.key_of.ensures ∙ ap (option_map text_of) c.in-Some.is in
    on_ok_weaker c.add_file.result (λ more xs m. subst (λ k. IsGrouped (xs ++ with_key f k) c.add_file.new.groups.entries) (sym key) (more xs m)) c.add_file.ensures

pub returns-in-None : goal.returns-in-None
returns-in-None c xs m =
    let f = c.args.file.now in
    let p = pattern_of c.args.pattern.now in
    let none : pairs.key_of p (chars f.name) ≡ None =
    ap (λ t. pairs.key_of p (chars t)) (sym c.as_str.ensures) ∙ sym c.key_of.ensures ∙ ap (option_map text_of) c.in-None.is in
    let same : xs ++ with_key f (pairs.key_of p (chars f.name)) ≡ xs = ap (λ k. xs ++ with_key f k) none ∙ append-nil xs in
    subst (λ ys. IsGrouped ys c.args.groups.now.entries) (sym same) m
