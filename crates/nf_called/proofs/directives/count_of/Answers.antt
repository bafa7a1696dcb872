use Rattle.std.proofs.Common.{◌≡◌, ◌∙◌, ℤ, ap, refl, sym, rules}
use Rattle.std.proofs.lemmas.Int.{to_z-of_z}
use mir.Syntax.{w64}
use mir.Val.{SFits, of_z, to_z}
use Rattle.nf_meaning.specs.declared.fault.LowerFault.TheVariants.{BadOption}
use Rattle.nf_meaning.specs.Lowered.{wanted}
use Rattle.nf_called.specs.Leaves.{leaf_count, times_in, view_leaf}
use Rattle.nf_called.proofs.directives.count_of.Goals as goal

pub returns-in-Some : goal.returns-in-Some
returns-in-Some c =
    let z = c.in-Number.number in
    let fits : SFits w64 z = search rules in
    let back : to_z w64 (of_z w64 z) ≡ z = to_z-of_z w64 z fits in
    record {
      value = c.in-Some.times;
      is =
          ap (λ l. leaf_count c.args.place (view_leaf l)) c.in-Number.is ∙ ap (λ (n : ℤ). wanted (times_in n) (BadOption c.args.place)) (sym back)
          ∙ ap (λ o. wanted o (BadOption c.args.place)) (sym c.in-Some.ensures);
      fits = refl;
    }

pub returns-in-None : goal.returns-in-None
returns-in-None c =
    let z = c.in-Number.number in
    let fits : SFits w64 z = search rules in
    let back : to_z w64 (of_z w64 z) ≡ z = to_z-of_z w64 z fits in
    ap (λ l. leaf_count c.args.place (view_leaf l)) c.in-Number.is ∙ ap (λ (n : ℤ). wanted (times_in n) (BadOption c.args.place)) (sym back)
    ∙ ap (λ o. wanted o (BadOption c.args.place)) (sym c.in-None.ensures)
