-- Sources by their names, and paths.
use Rattle.std.proofs.Common.{◌≡◌, ◌∙◌, ℕ, Bool, true, false, List, Some, None, Result, Ok, Err, refl, sym, ap, subst}
use Rattle.std.specs.Prelude.{codes, if◌then◌else◌}
use Rattle.std.specs.Str.{bytes_eq}
use Rattle.nf_value.specs.Plain.{Plain}
use Rattle.nf_value.specs.declared.place.Place.{Place}
use Rattle.nf_around.specs.Gives.{IsFlag, Reads}
use Rattle.nf_opargs.specs.Sources.{source_of}
use Rattle.nf_opargs.specs.declared.sources.Source.{Source}
use Rattle.nf_meaning.specs.declared.fault.LowerFault.{LowerFault}
use Rattle.nf_meaning.specs.declared.fault.LowerFault.TheVariants.{BadOption, UnknownName, WrongArity}
use Rattle.nf_meaning.specs.Arguments.{Arg, flag_arg, unnamed}
use Rattle.nf_meaning.specs.Sources as meaning
use Rattle.nf_meaning.specs.Sources.{source_by, source_call, source_named, source_within}
use Rattle.nf_meaning.specs.Things.{Thing}
use Rattle.nf_meaning.specs.Walk.{Around, State, Walk, ◌>>=◌, gives, refused}
use Rattle.nf_taken.specs.declared.paths.PathArgs.{PathArgs}
use Rattle.nf_taken.specs.Bodies.{IsPathArgs, IsSame, path_args_of}
use Rattle.nf_taken.specs.Paths.{path_walk}
use Rattle.nf_taken.specs.Sources.{IsMadeBy, IsRefused, IsSourceWanted, IsTaking, made_by}
use Rattle.nf_taken.proofs.Walks.{by_walk, fails_first, goes_on, is_given}

module _ (p : Place) (x : Source) (count : ℕ) where
  abbrev within_if : Bool → List Arg → Walk Thing
  within_if b xs = if b then made_by p x xs else refused (WrongArity p)

  pub takes_it : true ≡ meaning.takes (source_of x) count → IsMadeBy (source_within p (source_of x)) p count x
  takes_it h = record {
    takes_it = sym h;
    goes_on = λ xs is. ap (λ n. within_if (meaning.takes (source_of x) n) xs) is ∙ ap (λ b. within_if b xs) (sym h);
  }

  pub takes_other : false ≡ meaning.takes (source_of x) count → IsRefused (source_within p (source_of x)) count (WrongArity p)
  takes_other h xs is = ap (λ n. within_if (meaning.takes (source_of x) n) xs) is ∙ ap (λ b. within_if b xs) (sym h)

module _ (p : Place) (n : List ℕ) (count : ℕ) where
  pub no_source : None ≡ source_named n → IsSourceWanted p n count (Err (UnknownName p))
  no_source is xs h = ap (λ q. source_by p q xs) (sym is)

  pub a_source : (x : Source) → Some (source_of x) ≡ source_named n → (r : Result Source LowerFault) → IsTaking p x count r → IsSourceWanted p n count r
  a_source x is (Ok y) h = record { takes_it = h.takes_it; goes_on = λ xs k. ap (λ q. source_by p q xs) (sym is) ∙ h.goes_on xs k }
  a_source x is (Err e) h = λ xs k. ap (λ q. source_by p q xs) (sym is) ∙ h xs k

-- ---- whether there has to be a file

module _ (p : Place) (n : List ℕ) (x : Arg) (so_far : PathArgs) (a : Around) (s : State) where
  abbrev must_if : Bool → Walk meaning.PathArgs
  must_if b = if b then (flag_arg p x >>= λ f. gives (record (path_args_of so_far) { must = f })) else refused (BadOption p)

  pub no_must : false ≡ bytes_eq n (codes "checkIfExists") → Reads IsPathArgs (meaning.must_exist (p, n) x (path_args_of so_far)) a s (Err (BadOption p))
  no_must h = ap (λ b. must_if b a s) (sym h)

  pub must_fail : true ≡ bytes_eq n (codes "checkIfExists") → (e : LowerFault) → Reads IsFlag (flag_arg p x) a s (Err e) → Reads IsPathArgs (meaning.must_exist (p, n) x (path_args_of so_far)) a s (Err e)
  must_fail h e k =
      by_walk IsPathArgs (meaning.must_exist (p, n) x (path_args_of so_far)) (must_if true) a s (Err e) (ap must_if (sym h))
      (fails_first IsFlag IsPathArgs (flag_arg p x) (λ f. gives (record (path_args_of so_far) { must = f })) a s e k)

  pub must_be : true ≡ bytes_eq n (codes "checkIfExists") → (b : Bool) → Reads IsFlag (flag_arg p x) a s (Ok b)
      → Reads IsPathArgs (meaning.must_exist (p, n) x (path_args_of so_far)) a s (Ok (record so_far { must = b }))
  must_be h b k =
      by_walk IsPathArgs (meaning.must_exist (p, n) x (path_args_of so_far)) (must_if true) a s (Ok (record so_far { must = b })) (ap must_if (sym h))
      (goes_on IsFlag IsPathArgs (flag_arg p x) (λ f. gives (record (path_args_of so_far) { must = f })) a s b (Ok (record so_far { must = b })) k
      (λ y q. is_given IsPathArgs (record so_far { must = b }) (record (path_args_of so_far) { must = y }) a s (λ i. record (path_args_of so_far) { must = q i })))

-- ---- a path that a value is

pub path_given : (fits : List ℕ → Bool) (p : Place) (v : Plain) (so_far : PathArgs) (a : Around) (s : State) (t : List ℕ) → Reads IsSame (meaning.path_wanted fits p v) a s (Ok t)
    → Reads IsPathArgs (path_walk fits p v (path_args_of so_far)) a s (Ok (record so_far { path = t }))
path_given fits p v so_far a s t h =
    goes_on IsSame IsPathArgs (meaning.path_wanted fits p v) (λ u. gives (record (path_args_of so_far) { path = u })) a s t (Ok (record so_far { path = t })) h
    (λ y q. is_given IsPathArgs (record so_far { path = t }) (record (path_args_of so_far) { path = y }) a s (λ i. record (path_args_of so_far) { path = q i }))

pub no_path : (fits : List ℕ → Bool) (p : Place) (v : Plain) (so_far : PathArgs) (a : Around) (s : State) (e : LowerFault) → Reads (IsSame {A = List ℕ}) (meaning.path_wanted fits p v) a s (Err e)
    → Reads IsPathArgs (path_walk fits p v (path_args_of so_far)) a s (Err e)
no_path fits p v so_far a s e h = fails_first IsSame IsPathArgs (meaning.path_wanted fits p v) (λ u. gives (record (path_args_of so_far) { path = u })) a s e h
