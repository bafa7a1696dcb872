-- What is wanted of a thing: a value, or no file.
use Rattle.std.proofs.Common.{◌≡◌, Bool, true, false, List, Result, Ok, Err, refl, sym, subst}
use Rattle.std.specs.Prelude.{map}
use Rattle.nf_value.specs.Plain.{Plain}
use Rattle.nf_value.specs.View.{plain_of}
use Rattle.nf_value.specs.declared.place.Place.{Place}
use Rattle.nf_value.specs.declared.value.Value.{Value}
use Rattle.nf_graph.specs.declared.port.Port.{Port}
use Rattle.nf_graph.specs.Meaning.{Bags}
use Rattle.nf_meaning.specs.declared.fault.LowerFault.{LowerFault}
use Rattle.nf_meaning.specs.declared.fault.LowerFault.TheVariants.{BadOption}
use Rattle.nf_meaning.specs.Expressions as expressions
use Rattle.nf_meaning.specs.Expressions.{file_fault}
use Rattle.nf_meaning.specs.Stands.{OutputsStand}
use Rattle.std.specs.Global.{Vec}
use Rattle.nf_meaning.specs.Things as meaning
use Rattle.nf_meaning.specs.Things.{a_value, a_channel, outputs}
use Rattle.nf_meaning.specs.Walk.{Walk, unless_fault}
use Rattle.nf_scopes.specs.declared.things.CallOutput.{CallOutput}
use Rattle.nf_scopes.specs.declared.things.Thing.{Thing}
use Rattle.nf_scopes.specs.declared.things.Thing.TheVariants as thing
use Rattle.nf_scopes.specs.Things.{output_of}
use Rattle.nf_meaning.specs.Lowered.{fault_if}
use Rattle.nf_leading.specs.Stays.{Stays}
use Rattle.nf_leading.specs.Wanted.{AnswersFor, HasNoFile, IsUnit, IsValue, WantsValue, fault_or_none}

-- of a thing in memory that is this one
pub for_the : {A B : Type 0} (t u : Thing) (stands : Bags → A → B → Type 0) (w : meaning.Thing → Walk B) (r : Result A LowerFault) → t ≡ u → AnswersFor u stands w r → AnswersFor t stands w r
for_the t u stands w r is h = let P : Thing → Type 0 = λ v. AnswersFor v stands w r in subst P (sym is) h

-- ---- by the three kinds of things

-- a value, with an answer for each that it may stand for
pub of_known : {A B : Type 0} (v : Value) (stands : Bags → A → B → Type 0) (w : meaning.Thing → Walk B) (r : Result A LowerFault)
    → ((bags : Bags) (y : Plain) → plain_of v ≡ y → Stays (stands bags) (w (a_value y)) r) → AnswersFor (thing.Known v) stands w r
of_known v stands w r go bags (a_value y) h = go bags y h
of_known v stands w r go bags (a_channel c) h = absurd h
of_known v stands w r go bags (outputs qs) h = absurd h

pub of_port : {A B : Type 0} (p : Port) (stands : Bags → A → B → Type 0) (w : meaning.Thing → Walk B) (r : Result A LowerFault)
    → ((bags : Bags) (c : meaning.Channel) → Stays (stands bags) (w (a_channel c)) r) → AnswersFor (thing.Channel p) stands w r
of_port p stands w r go bags (a_channel c) h = go bags c
of_port p stands w r go bags (a_value y) h = absurd h
of_port p stands w r go bags (outputs qs) h = absurd h

pub of_results : {A B : Type 0} (os : Vec CallOutput) (stands : Bags → A → B → Type 0) (w : meaning.Thing → Walk B) (r : Result A LowerFault)
    → ((bags : Bags) (qs : List meaning.Output) → OutputsStand bags (map output_of os.items) qs → Stays (stands bags) (w (outputs qs)) r) → AnswersFor (thing.Outputs os) stands w r
of_results os stands w r go bags (outputs qs) h = go bags qs h
of_results os stands w r go bags (a_value y) h = absurd h
of_results os stands w r go bags (a_channel c) h = absurd h

-- ---- a value is wanted

pub known_wanted : (p : Place) (t : Thing) (v : Value) → t ≡ thing.Known v → WantsValue p t (Ok v)
known_wanted p t v is =
    for_the t (thing.Known v) IsValue (expressions.value_wanted p) (Ok v) is
    (of_known v IsValue (expressions.value_wanted p) (Ok v) (λ bags y h a s. record { value = (y, s); is = refl; fits = (h, refl) }))

pub port_refused : (p : Place) (t : Thing) (q : Port) → t ≡ thing.Channel q → WantsValue p t (Err (BadOption p))
port_refused p t q is =
    for_the t (thing.Channel q) IsValue (expressions.value_wanted p) (Err (BadOption p)) is
    (of_port q IsValue (expressions.value_wanted p) (Err (BadOption p)) (λ bags c a s. refl))

pub results_refused : (p : Place) (t : Thing) (os : Vec CallOutput) → t ≡ thing.Outputs os → WantsValue p t (Err (BadOption p))
results_refused p t os is =
    for_the t (thing.Outputs os) IsValue (expressions.value_wanted p) (Err (BadOption p)) is
    (of_results os IsValue (expressions.value_wanted p) (Err (BadOption p)) (λ bags qs h a s. refl))

-- ---- no file is wanted

unless_stays : (p : Place) (b : Bool) (bags : Bags) → Stays (IsUnit bags) (unless_fault (fault_if b (BadOption p))) (fault_or_none (fault_if b (BadOption p)))
unless_stays p false bags a s = record { value = (tt, s); is = refl; fits = (tt, refl) }
unless_stays p true bags a s = refl

pub known_no_file : (p : Place) (t : Thing) (v : Value) (r : Result (Unit {0}) LowerFault) → t ≡ thing.Known v → r ≡ fault_or_none (file_fault p (plain_of v)) → HasNoFile p t r
known_no_file p t v r is h =
    for_the t (thing.Known v) IsUnit (expressions.not_tied_to_file p) r is
    (of_known v IsUnit (expressions.not_tied_to_file p) r
    (λ bags y same.
    (let P : Plain → Type 0 = λ x. Stays (IsUnit bags) (unless_fault (file_fault p x)) r in
    let Q : Result (Unit {0}) LowerFault → Type 0 = λ x. Stays (IsUnit bags) (unless_fault (file_fault p (plain_of v))) x in
    subst P same (subst Q (sym h) (unless_stays p (meaning.holds_file (plain_of v)) bags)))))

pub port_no_file : (p : Place) (t : Thing) (q : Port) → t ≡ thing.Channel q → HasNoFile p t (Ok tt)
port_no_file p t q is =
    for_the t (thing.Channel q) IsUnit (expressions.not_tied_to_file p) (Ok tt) is
    (of_port q IsUnit (expressions.not_tied_to_file p) (Ok tt) (λ bags c a s. record { value = (tt, s); is = refl; fits = (tt, refl) }))

pub results_no_file : (p : Place) (t : Thing) (os : Vec CallOutput) → t ≡ thing.Outputs os → HasNoFile p t (Ok tt)
results_no_file p t os is =
    for_the t (thing.Outputs os) IsUnit (expressions.not_tied_to_file p) (Ok tt) is
    (of_results os IsUnit (expressions.not_tied_to_file p) (Ok tt) (λ bags qs h a s. record { value = (tt, s); is = refl; fits = (tt, refl) }))
