use Rattle.nf_stored.proofs.laws.texts_tell_apart.Goals as goal

pub returns : goal.returns
returns c = λ R path named. record { apart = λ x y p q a b h. c.attempts_are_told_apart.ensures R path x y p q named a b h }
