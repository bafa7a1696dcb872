use Rattle.std.proofs.Common.{◌≡◌, ◌^◌, ◌≤◌, ◌∷◌, [], ◌++◌, min, arith, rules}
use Rattle.nf_value.specs.View.{plain_of}
use Rattle.nf_infix.specs.Gathering.{weight_of_all}
use Rattle.nf_infix.proofs.Gathering.{one_heavier, one_kept}
use Rattle.nf_infix.proofs.gathered.Gathered.push.Goals as goal

pub returns-in_ok-push : goal.returns-in_ok-push
returns-in_ok-push c = λ vs w.
    (let v = plain_of c.args.value in
    let counted : c.min-self.result ≡ min (weight_of_all (vs ++ v ∷ [])) (2 ^ 32) = omega (arith, w.0, one_heavier vs v, c.weight.ensures, c.saturating_add.ensures, c.min-self.ensures) in
    let before : c.args.self.now.weight ≤ 2 ^ 24 = omega (arith, c.if-self-le-MOST_WEIGHT.true, c.weight.ensures, c.saturating_add.ensures, c.min-self.ensures) in
    (counted, (λ small. one_kept vs c.args.self.now.values.items c.push.new.self.items c.args.value (w.1 before) c.in_ok-push.ensures.items), λ large. absurd (omega (arith, large, c.if-self-le-MOST_WEIGHT.true))))

pub returns-else-self-le-MOST_WEIGHT : goal.returns-else-self-le-MOST_WEIGHT
returns-else-self-le-MOST_WEIGHT c = λ vs w.
    (let v = plain_of c.args.value in
    let counted : c.min-self.result ≡ min (weight_of_all (vs ++ v ∷ [])) (2 ^ 32) = omega (arith, w.0, one_heavier vs v, c.weight.ensures, c.saturating_add.ensures, c.min-self.ensures) in
    (counted, (λ small. absurd (omega (arith, small, c.if-self-le-MOST_WEIGHT.false))), λ large. search rules))
