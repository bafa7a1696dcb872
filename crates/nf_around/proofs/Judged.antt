-- What is only judged, and options that are true or false.
use Rattle.std.proofs.Common.{◌≡◌, ◌∙◌, Bool, Result, Ok, Err, Option, Some, None, refl, sym, ap, subst}
use Rattle.nf_value.specs.Plain.{Plain}
use Rattle.nf_value.specs.View.{plain_of}
use Rattle.nf_value.specs.declared.place.Place.{Place}
use Rattle.nf_value.specs.declared.value.Value.{Value}
use Rattle.nf_ast.specs.Tree.{Tree}
use Rattle.nf_lowered.specs.Given.{Gives, HasFault, HasValue}
use Rattle.nf_lowered.proofs.Joining.{fault_by}
use Rattle.nf_meaning.specs.declared.fault.LowerFault.{LowerFault}
use Rattle.nf_meaning.specs.Arguments.{Arg, flag_arg, flag_in, option_value}
use Rattle.nf_meaning.specs.Lowered.{Lowered, unless}
use Rattle.nf_meaning.specs.Walk.{Around, State, Walk, unless_fault}
use Rattle.nf_around.specs.Gives.{IsFlag, IsUnit, IsValue, Judges, Reads}
use Rattle.nf_around.proofs.Evaluated.{on_fault, on_value}
use Rattle.nf_around.proofs.Walks.{is_none}

only_moved : (a : Around) (s : State) (f : Option LowerFault) (e : LowerFault) → unless {A = Unit {0}} f (Ok tt) ≡ Err e → unless_fault f a s ≡ Err e
only_moved a s None e h = absurd (let q : ◌≡◌ {A = Lowered (Unit {0})} (Ok tt) (Err e) = h in cc)
only_moved a s (Some g) e h = let q : ◌≡◌ {A = Lowered (Unit {0})} (Err g) (Err e) = h in let same : g ≡ e = cc in λ i. Err (same i)

pub only_judged : (a : Around) (s : State) (f : Option LowerFault) (r : Result (Unit {0}) LowerFault) → Judges f r → Reads IsUnit (unless_fault f) a s r
only_judged a s f (Ok u) h = record { value = (tt, s); is = ap (λ g. unless_fault g a s) (is_none f u h); fits = (tt, refl) }
only_judged a s f (Err e) h = fault_by (unless f (Ok tt)) (unless_fault f a s) e (only_moved a s f e) h

-- the walk gives this value
value_read : (w : Walk Plain) (a : Around) (s : State) (v : Value) → Reads IsValue w a s (Ok v) → w a s ≡ Ok (plain_of v, s)
value_read w a s v h = h.is ∙ (λ i. Ok (sym h.fits.0 i, h.fits.1 i))

module _ (p : Place) (t : Tree) (x : Arg) (is : x.tree ≡ t) (a : Around) (s : State) where
  pub flag_wrong : (e : LowerFault) → HasFault (option_value p t a s) e → HasFault (flag_arg p x a s) e
  flag_wrong e h = on_fault (option_value p x.tree) (flag_in p) a s e (subst (λ u. HasFault (option_value p u a s) e) (sym is) h)

  pub flag_right : (v : Value) (r : Result Bool LowerFault) → Reads IsValue (option_value p t) a s (Ok v) → Reads IsFlag (flag_in p (plain_of v)) a s r → Reads IsFlag (flag_arg p x) a s r
  flag_right v r h k =
      on_value (λ b z. IsFlag b z.0 × (z.1 ≡ s)) (option_value p x.tree) (flag_in p) a s (plain_of v) r
      (value_read (option_value p x.tree) a s v (subst (λ u. Reads IsValue (option_value p u) a s (Ok v)) (sym is) h)) k
