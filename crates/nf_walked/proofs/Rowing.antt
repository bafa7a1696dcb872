-- Loops over arguments each of which gives some things.
use Rattle.std.proofs.Common.{◌≡◌, ◌∙◌, List, [], ◌∷◌, ◌++◌, Ok, Err, refl, sym, ap, append_assoc}
use Rattle.nf_meaning.specs.Arguments.{Arg, channel_args, unnamed_channel}
use Rattle.nf_meaning.specs.Lowered.{Lowered}
use Rattle.nf_meaning.specs.Things.{Channel}
use Rattle.nf_meaning.specs.Walk.{Around, State, Walk, ◌>>=◌, gives, then_by}
use Rattle.nf_walked.specs.Arguing.{and_more, one_channel}

-- with what was given before
abbrev pub behind : {C : Type 0} → (List Arg → Walk (List C)) → List Arg → List C → Walk (List C)
behind each ys so_far = each ys >>= λ more. gives (so_far ++ more)

-- what is given first and what is given after it
abbrev pub both : {C : Type 0} → (Arg → Walk (List C)) → (List Arg → Walk (List C)) → Arg → List Arg → Walk (List C)
both one each y ys = one y >>= λ first. each ys >>= λ more. gives (first ++ more)

module _ {C : Type 0} (each : List Arg → Walk (List C)) where
  pub from_nothing : (ys : List Arg) (a : Around) (s : State) → each ys a s ≡ behind each ys [] a s
  from_nothing ys a s = same (each ys a s)
    where
      same : (v : Lowered (List C × State)) → v ≡ then_by a (λ more. gives ([] ++ more)) v
      same (Ok x) = refl
      same (Err e) = refl

  rest_behind : (a : Around) (so_far first : List C) (v : Lowered (List C × State))
      → then_by a (λ more. gives (so_far ++ more)) (then_by a (λ more. gives (first ++ more)) v) ≡ then_by a (λ more. gives ((so_far ++ first) ++ more)) v
  rest_behind a so_far first (Ok x) = ap (λ zs. Ok (zs, x.1)) (sym (append_assoc so_far first x.0))
  rest_behind a so_far first (Err e) = refl

  first_behind : (ys : List Arg) (a : Around) (so_far : List C) (u : Lowered (List C × State))
      → then_by a (λ more. gives (so_far ++ more)) (then_by a (λ first. each ys >>= λ more. gives (first ++ more)) u)
      ≡ then_by a (behind each ys) (then_by a (λ more. gives (so_far ++ more)) u)
  first_behind ys a so_far (Ok x) = rest_behind a so_far x.0 (each ys a x.1)
  first_behind ys a so_far (Err e) = refl

  pub goes_behind : (one : Arg → Walk (List C)) (y : Arg) (ys : List Arg) (a : Around) (s : State) → each (y ∷ ys) a s ≡ both one each y ys a s
      → (so_far : List C) → behind each (y ∷ ys) so_far a s ≡ then_by a (behind each ys) (and_more one y so_far a s)
  goes_behind one y ys a s cons so_far = ap (then_by a (λ more. gives (so_far ++ more))) cons ∙ first_behind ys a so_far (one y a s)

-- ---- channels

one_more : (ys : List Arg) (a : Around) (u : Lowered (Channel × State))
    → then_by a (λ c. channel_args ys >>= λ cs. gives (c ∷ cs)) u ≡ then_by a (λ first. channel_args ys >>= λ more. gives (first ++ more)) (then_by a (λ c. gives (c ∷ [])) u)
one_more ys a (Ok x) = refl
one_more ys a (Err e) = refl

pub channels_both : (y : Arg) (ys : List Arg) (a : Around) (s : State) → channel_args (y ∷ ys) a s ≡ both one_channel channel_args y ys a s
channels_both y ys a s = one_more ys a (unnamed_channel y.label y a s)
