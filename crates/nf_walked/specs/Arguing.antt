-- What is due of the arguments of a call.
use Rattle.std.specs.Prelude.{◌++◌, ◌∷◌, List, []}
use Rattle.nf_meaning.specs.Arguments as meaning
use Rattle.nf_meaning.specs.Arguments.{unnamed_channel}
use Rattle.nf_meaning.specs.Things.{Channel}
use Rattle.nf_meaning.specs.Walk.{Walk, ◌>>=◌, gives}
use Rattle.nf_plan.specs.Runs.{bags_of}
use Rattle.nf_arguments.specs.declared.one.One.{One}
use Rattle.nf_arguments.specs.Args.{IsOne}
use Rattle.nf_walked.specs.Steps.{Due, Form}

-- ---- walks

-- one argument, with what was made of those before it
abbrev pub of_step : {A B : Type 0} → One → A → Form A B → (meaning.Arg → B → Walk B) → Due (B × meaning.Arg) A B
of_step x made f w = record {
  In = λ p z j. f.Stands p.run z.plan made j.0 × IsOne (bags_of p.run z.plan) x j.1;
  walk = λ j. w j.1 j.0;
  form = f;
}

-- the channel of one that has no name, as a list
abbrev pub one_channel : meaning.Arg → Walk (List Channel)
one_channel x = unnamed_channel x.label x >>= λ c. gives (c ∷ [])

-- what one argument gives, behind what was given before
abbrev pub and_more : {A : Type 0} → (meaning.Arg → Walk (List A)) → meaning.Arg → List A → Walk (List A)
and_more one x so_far = one x >>= λ more. gives (so_far ++ more)
