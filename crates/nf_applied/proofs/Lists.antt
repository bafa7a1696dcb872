-- The items of sources, as lists.
use Rattle.std.proofs.Common.{◌≡◌, ◌∙◌, ◌≢◌, ◌≤◌, ◌++◌, ℕ, List, [], ◌∷◌, length, map, Result, Ok, Err, refl, sym, ap, arith}
use Rattle.std.proofs.lemmas.List.{map-append}
use Rattle.std.specs.Global.{Vec}
use Rattle.nf_value.specs.Plain.{Plain}
use Rattle.nf_value.specs.View.{plain_of}
use Rattle.nf_value.specs.declared.place.Place.{Place}
use Rattle.nf_value.specs.declared.value.Value.{Value}
use Rattle.nf_ast.specs.Tree.{Tree}
use Rattle.nf_meaning.specs.declared.fault.LowerFault.{LowerFault}
use Rattle.nf_meaning.specs.Sources.{list_items, list_wanted}
use Rattle.nf_meaning.specs.Walk.{Around, State, gives, then_by}
use Rattle.nf_lowered.specs.Given.{Gives}
use Rattle.nf_lowered.proofs.Joining.{fault_by, fault_is}
use Rattle.nf_opargs.specs.Still.{IsStill}
use Rattle.nf_walked.specs.Gives.{Reads}
use Rattle.nf_lowering.specs.declared.state.Lowering.{Lowering}
use Rattle.nf_lowering.specs.State.{IsLowering}
use Rattle.nf_taken.specs.Bodies.{IsIn, IsSame, range_walk}
use Rattle.nf_taken.specs.declared.body.Body.{Body}
use Rattle.nf_walked.specs.declared.walker.Walker.{Walker}
use Rattle.nf_walked.specs.Around.{Knows}
use Rattle.nf_walked.specs.Forms.{values}
use Rattle.nf_walked.specs.Steps.{Here, Walked, from}
use Rattle.nf_walked.proofs.Stills.{still_in}
use Rattle.nf_applied.specs.Sources.{plain_pair, range_more}
use Rattle.std.specs.Prelude.{Option}

-- ---- a range

module _ {N : Type 0} (titles_of : N → List (List ℕ)) (answer_of : N → ℕ → List Plain → Option Plain) (x : Walker N) (body : Body N) (z : Lowering) (e : Tree) (items : Vec Value)
    (keeps : IsLowering z) (here : Here (Knows titles_of answer_of x) z (λ p. IsIn titles_of answer_of body p.around p.state)) where
  abbrev ReadsRange : Result (List Plain) LowerFault → Type 0
  ReadsRange r = (a : Around) (s : State) → IsIn titles_of answer_of body a s → Reads IsSame (range_walk e) a s r

  pub range_given : (list : List Plain) (more new : Vec Value) → ReadsRange (Ok list) → map plain_of more.items ≡ list → new.items ≡ items.items ++ more.items
      → Walked (Knows titles_of answer_of x) (from values items values (range_more e)) z z (Ok new)
  range_given list more new reads is added =
      still_in (Knows titles_of answer_of x) (from values items values (range_more e)) z (Ok new) keeps tt
      (λ p so_far stands was.
      (let it = reads p.around p.state (here p stands) in
      record {
        value = (so_far ++ it.value.0, it.value.1);
        is = ap (then_by p.around (λ vs. gives (so_far ++ vs))) it.is;
        fits = (
          ap (map plain_of) added ∙ map-append plain_of items.items more.items ∙ ap (λ ys. ys ++ map plain_of more.items) was ∙ ap (λ ys. so_far ++ ys) (is ∙ it.fits.0),
          it.fits.1,
        );
      }))

  pub range_fails : (f : LowerFault) → ReadsRange (Err f) → Walked (Knows titles_of answer_of x) (from values items values (range_more e)) z z (Err f)
  range_fails f reads =
      still_in (Knows titles_of answer_of x) (from values items values (range_more e)) z (Err f) keeps tt
      (λ p so_far stands was.
      fault_by (range_walk e p.around p.state) (range_more e so_far p.around p.state) f (λ k. ap (then_by p.around (λ vs. gives (so_far ++ vs))) k) (reads p.around p.state (here p stands)))

-- ---- a list

abbrev pub GivesList : List (Place × Value) → Result (Vec Value) LowerFault → Type 0
GivesList vs r = (a : Around) (s : State) → Gives (λ (us : Vec Value) z. (map plain_of us.items ≡ z.0) × (z.1 ≡ s)) (list_items (map plain_pair vs) a s) r

-- more or fewer than one: the arity is at fault, and no item is given
pub not_one : (vs : List (Place × Value)) (us : Vec Value) → length vs ≢ 1 → us.items ≡ [] → GivesList vs (Ok us)
not_one [] us h none a s = record { value = ([], s); is = refl; fits = (ap (map plain_of) none, refl) }
not_one (v ∷ []) us h none a s = absurd (h (omega arith))
not_one (v ∷ w ∷ vs) us h none a s = record { value = ([], s); is = refl; fits = (ap (map plain_of) none, refl) }

pub one_given : (v : Place × Value) (list : List Plain) (us : Vec Value) → IsStill (list_wanted v.0 (plain_of v.1)) (Ok list) → map plain_of us.items ≡ list → GivesList (v ∷ []) (Ok us)
one_given v list us still is a s = record { value = (list, s); is = still a s; fits = (is, refl) }

pub one_fails : (v : Place × Value) (e : LowerFault) → IsStill (list_wanted v.0 (plain_of v.1)) (Err e) → GivesList (v ∷ []) (Err e)
one_fails v e still a s = fault_is (list_wanted v.0 (plain_of v.1) a s) e (still a s)

-- the last of one
pub only_last : {A : Type 0} (xs ys : List A) (x : A) → length xs ≡ 1 → xs ≡ ys ++ x ∷ [] → xs ≡ x ∷ []
only_last {A} xs [] x n is = is
only_last {A} xs (y ∷ ys) x n is =
    let k : length xs ≡ length ((y ∷ ys) ++ x ∷ []) = ap (λ (zs : List A). length zs) is in
    absurd (let m : length ((y ∷ ys) ++ x ∷ []) ≡ 1 = sym k ∙ n in let l : 2 ≤ length ((y ∷ ys) ++ x ∷ []) = two ys in omega (arith, m, l))
  where
    two : (zs : List A) → 2 ≤ length ((y ∷ zs) ++ x ∷ [])
    two [] = omega arith
    two (z ∷ zs) = omega arith
