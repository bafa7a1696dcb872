-- What `set` takes: a name, and nothing else.
use Rattle.std.proofs.Common.{◌≡◌, ◌∙◌, ℕ, Bool, List, [], ◌∷◌, Option, Some, None, Ok, Err, sym, ap, subst}
use Rattle.std.specs.Prelude.{◌==◌}
use Rattle.nf_value.specs.declared.place.Place.{Place}
use Rattle.nf_bag.specs.declared.rows.Row.{Row}
use Rattle.nf_optable.specs.declared.rows.ClosureUse.TheVariants as closure
use Rattle.nf_optable.specs.declared.rows.OpRow.{OpRow}
use Rattle.nf_meaning.specs.Arguments.{Arg, unnamed}
use Rattle.nf_meaning.specs.Closures.{word_arg}
use Rattle.nf_meaning.specs.Lowered.{Lowered}
use Rattle.nf_meaning.specs.Options.{with_option}
use Rattle.nf_meaning.specs.Taken.{Taken, take_arg, take_args, with_unnamed}
use Rattle.nf_meaning.specs.Walk.{Around, State, Walk, gives, then_by}
use Rattle.nf_taken.specs.Calls.{TookName}
use Rattle.nf_taken.specs.Taken.{with_options, with_word}

kept : {B : Type 0} (f : B → Taken) (a : Around) (v : Lowered (B × State)) (z : Taken × State) → ((b : B) → TookName (f b)) → then_by a (λ b. gives (f b)) v ≡ Ok z → TookName z.0
kept f a (Ok x) z h is = let same : (f x.0, x.1) ≡ z = (let e : ◌≡◌ {A = Lowered (Taken × State)} (Ok (f x.0, x.1)) (Ok z) = is in cc) in subst (λ q. TookName q.0) same (h x.0)
kept f a (Err e) z h is = absurd (let q : ◌≡◌ {A = Lowered (Taken × State)} (Err e) (Ok z) = is in cc)

module _ (k : OpRow) (r : Row) (name : k.closure ≡ closure.Name) (a : Around) where
  one : (l : Bool) (n : Option (Place × List ℕ)) (x : Arg) (t : Taken) (s : State) (z : Taken × State) → TookName t → take_arg k r l n x t a s ≡ Ok z → TookName z.0
  one l None x t s z h is =
      kept (λ w. with_word w t) a (word_arg x.tree a s) z (λ w. record { nothing = record { closing = h.nothing.closing; pattern = h.nothing.pattern; literal = h.nothing.literal }; labels = h.labels })
      (ap (λ u. with_unnamed u r k.args l x t a s) (sym name) ∙ is)
  one l (Some n) x t s z h is =
      kept (λ o. with_options o t) a (with_option k.options n x t.options a s) z (λ o. record { nothing = record { closing = h.nothing.closing; pattern = h.nothing.pattern; literal = h.nothing.literal }; labels = h.labels }) is

  then_all : (xs : List Arg) (v : Lowered (Taken × State)) (z : Taken × State) → ((y : Taken × State) → v ≡ Ok y → TookName y.0)
      → ((t : Taken) (s : State) → TookName t → take_args k r xs t a s ≡ Ok z → TookName z.0) → then_by a (take_args k r xs) v ≡ Ok z → TookName z.0
  then_all xs (Ok y) z h more is = more y.0 y.1 (h y (λ i. Ok y)) is
  then_all xs (Err e) z h more is = absurd (let q : ◌≡◌ {A = Lowered (Taken × State)} (Err e) (Ok z) = is in cc)

  pub takes_a_name : (xs : List Arg) (t : Taken) (s : State) (z : Taken × State) → TookName t → take_args k r xs t a s ≡ Ok z → TookName z.0
  takes_a_name [] t s z h is = let same : (t, s) ≡ z = (let e : ◌≡◌ {A = Lowered (Taken × State)} (Ok (t, s)) (Ok z) = is in cc) in subst (λ q. TookName q.0) same h
  takes_a_name (x ∷ xs) t s z h is =
      then_all xs (take_arg k r (unnamed xs == 0) x.label x t a s) z (λ y e. one (unnamed xs == 0) x.label x t s y h e) (λ u q k. takes_a_name xs u q z k) is
