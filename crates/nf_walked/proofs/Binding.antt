-- `def` of several names.
use Rattle.std.proofs.Common.{◌≡◌, ◌<◌, ◌≤◌, ◌+◌, ℕ, Bool, true, false, ◌||◌, Result, Ok, Err, List, [], ◌∷◌, ◌++◌, map, length, get_or, drop, take, refl, sym, ap, ◌∙◌}
use Rattle.std.specs.Prelude.{bytes_eq}
use Rattle.std.proofs.lemmas.List.{drop_all, map-append, take_more}
use Rattle.nf_value.specs.Plain.{Plain}
use Rattle.nf_value.specs.View.{pair_of, plain_of}
use Rattle.nf_value.specs.declared.place.Place.{Place}
use Rattle.nf_value.specs.declared.value.Value.{Value}
use Rattle.nf_ast.specs.View.{names}
use Rattle.nf_builtins.specs.Natives.{is_among}
use Rattle.nf_lowered.specs.Given.{Gives}
use Rattle.nf_lowered.proofs.Joining.{fault_by}
use Rattle.nf_meaning.specs.declared.fault.LowerFault.{LowerFault}
use Rattle.nf_meaning.specs.declared.fault.LowerFault.TheVariants.{TwiceDefined}
use Rattle.nf_meaning.specs.Lowered.{Lowered, fault_if}
use Rattle.nf_meaning.specs.Things as meaning
use Rattle.nf_meaning.specs.Walk.{◌>>=◌, Walk, at_state, defining, lifted, then_by, unless_fault, with_scope}
use Rattle.nf_meaning.specs.Workflow.{bind_all, new_names}
use Rattle.nf_scopes.specs.declared.things.Thing.TheVariants as thing
use Rattle.nf_lowering.specs.declared.state.Lowering.{Lowering}
use Rattle.nf_lowering.specs.State.{IsLowering}
use Rattle.nf_walked.specs.Forms.{a_thing, a_value, nothing}
use Rattle.nf_walked.specs.Parts.{new_names_at}
use Rattle.nf_walked.specs.Steps.{Form, Known, Point, StandsAt, Walked, due, from}
use Rattle.nf_walked.proofs.Bodies.{NoIn}
use Rattle.nf_walked.proofs.Leads.{Leads, begins, fails, goes_further, is_given}
use Rattle.nf_walked.proofs.Rows.{left}
use Rattle.nf_walked.proofs.Stills.{alike, given, refused_here, still}

-- ---- names and values, one after the other

abbrev pub BindLeads : Known → List (List ℕ × Value) → List (List ℕ × Value) → Lowering → Lowering → Type 0
BindLeads K all rest old now = Leads K NoIn (λ y. bind_all (map pair_of all)) NoIn (λ y. bind_all (map pair_of rest)) old now

module _ (K : Known) (all : List (List ℕ × Value)) (old : Lowering) where
  pub binds_begin : IsLowering old → BindLeads K all all old old
  binds_begin keeps = begins K NoIn (λ y. bind_all (map pair_of all)) old keeps

  abbrev one : List ℕ → meaning.Thing → Walk (Unit {0})
  one n t = with_scope (defining n t)

  pub binds_go : (n : List ℕ) (v : Value) (rest more : List (List ℕ × Value)) (mid new : Lowering) (m : Unit {0}) → rest ≡ (n, v) ∷ more → BindLeads K all rest old mid
      → Walked K (from a_thing (thing.Known v) nothing (λ t. with_scope (defining n t))) mid new (Ok m) → BindLeads K all more old new
  binds_go n v rest more mid new m is so_far step =
      goes_further K NoIn (λ y. bind_all (map pair_of all)) NoIn (λ y. bind_all (map pair_of rest)) old mid (from a_thing (thing.Known v) nothing (λ t. with_scope (defining n t))) NoIn
      (λ y. bind_all (map pair_of more)) new m so_far step
      (λ p j stands it. record {
        first = meaning.a_value (plain_of v);
        stands = refl;
        goes = λ y s there out came. (
          tt,
          tt,
          ap (λ bs. bind_all (map pair_of bs) p.around p.state) is ∙ ap (then_by p.around (λ u. bind_all (map pair_of more))) came,
        );
      })

  pub binds_fail : (n : List ℕ) (v : Value) (rest more : List (List ℕ × Value)) (mid new : Lowering) (e : LowerFault) → rest ≡ (n, v) ∷ more → BindLeads K all rest old mid
      → Walked K (from a_thing (thing.Known v) nothing (λ t. with_scope (defining n t))) mid new (Err e) → Walked K (due nothing (bind_all (map pair_of all))) old new (Err e)
  binds_fail n v rest more mid new e is so_far step =
      fails K NoIn (λ y. bind_all (map pair_of all)) NoIn (λ y. bind_all (map pair_of rest)) old mid (from a_thing (thing.Known v) nothing (λ t. with_scope (defining n t))) nothing new e so_far step
      (λ p j stands it. record {
        first = meaning.a_value (plain_of v);
        stands = refl;
        rest = λ u. bind_all (map pair_of more);
        same = ap (λ bs. bind_all (map pair_of bs) p.around p.state) is;
      })

  pub binds_end : (rest : List (List ℕ × Value)) (now : Lowering) → rest ≡ [] → BindLeads K all rest old now → Walked K (due nothing (bind_all (map pair_of all))) old now (Ok tt)
  binds_end rest now none so_far =
      is_given K NoIn (λ y. bind_all (map pair_of all)) NoIn (λ y. bind_all (map pair_of rest)) old now nothing tt tt so_far
      (λ p j stands it. (tt, tt, ap (λ bs. bind_all (map pair_of bs) p.around p.state) none))

-- ---- each for the first time

abbrev pub Named : Type 0
Named = List (Place × List ℕ)

abbrev pub texts : Named → List (List ℕ)
texts ns = map (λ n. n.1) ns

taken_one : {X : Type 0} (xs : List X) (i : ℕ) (x : X) → i < length xs → x ≡ get_or xs i x → take (i + 1) xs ≡ take i xs ++ x ∷ []
taken_one xs i x h is = take_more xs i x h ∙ ap (λ l. take i xs ++ l) (ap (λ y. y ∷ []) (sym is))

-- after so many names, of which none stands twice, at a point
pub record IsNew (ns : Named) (i : ℕ) (p : Point) : Type 0 where
  pub before : List (List ℕ)
  pub among : (m : List ℕ) → is_among m before ≡ (is_among m (texts (take i ns)) || is_among m p.state.scope.defined)
  pub same : new_names_at (names ns) p.around p.state ≡ new_names before (names (drop i ns)) p.around p.state

abbrev pub AreNew : Known → Named → ℕ → Lowering → Type 0
AreNew K ns i z = (p : Point) → StandsAt K p z → IsNew ns i p

pub new_begin : (K : Known) (ns : Named) (z : Lowering) → AreNew K ns 0 z
new_begin K ns z p h = record { before = p.state.scope.defined; among = λ m. refl; same = refl }

or_assoc : (a b c : Bool) → (a || (b || c)) ≡ ((a || b) || c)
or_assoc true b c = refl
or_assoc false b c = refl

or_swap : (a b c : Bool) → (a || (b || c)) ≡ (b || (a || c))
or_swap true true c = refl
or_swap true false c = refl
or_swap false b c = refl

among_last : (m n : List ℕ) (ns : List (List ℕ)) → is_among m (ns ++ n ∷ []) ≡ (bytes_eq n m || is_among m ns)
among_last m n [] = refl
among_last m n (k ∷ ns) = ap (λ b. bytes_eq k m || b) (among_last m n ns) ∙ or_swap (bytes_eq k m) (bytes_eq n m) (is_among m ns)

-- whether the next name stands before, or is bound between the braces
abbrev pub TellsBound : Known → Named → ℕ → List ℕ → Lowering → Bool → Type 0
TellsBound K ns i n z b = (p : Point) → StandsAt K p z → b ≡ (is_among n (texts (take i ns)) || is_among n p.state.scope.defined)

module _ (K : Known) (ns : Named) (i : ℕ) (n : Place × List ℕ) (z : Lowering) (h : i < length ns) (is : n ≡ get_or ns i n) where
  abbrev rest : Bool → List (List ℕ) → Walk (Unit {0})
  rest b before = unless_fault (fault_if b (TwiceDefined n.0)) >>= λ v. new_names (n.1 ∷ before) (names (drop (i + 1) ns))

  next : (p : Point) (t : IsNew ns i p) (b : Bool) → b ≡ (is_among n.1 (texts (take i ns)) || is_among n.1 p.state.scope.defined)
      → new_names_at (names ns) p.around p.state ≡ rest b t.before p.around p.state
  next p t b e =
      t.same ∙ ap (λ l. new_names t.before (names l) p.around p.state) (left ns i n h is) ∙ ap (λ c. rest c t.before p.around p.state) (t.among n.1 ∙ sym e)

  pub new_more : (b : Bool) → TellsBound K ns i n.1 z b → b ≡ false → AreNew K ns i z → AreNew K ns (i + 1) z
  new_more b tells fresh so_far p stands =
      let t = so_far p stands in
      record {
        before = n.1 ∷ t.before;
        among = λ m.
            ap (λ c. bytes_eq n.1 m || c) (t.among m) ∙ or_assoc (bytes_eq n.1 m) (is_among m (texts (take i ns))) (is_among m p.state.scope.defined)
            ∙ ap (λ c. c || is_among m p.state.scope.defined)
            (sym (among_last m n.1 (texts (take i ns))) ∙ ap (λ l. is_among m l) (sym (ap texts (taken_one ns i n h is) ∙ map-append (λ k. k.1) (take i ns) (n ∷ []))));
        same = next p t b (tells p stands) ∙ ap (λ c. rest c t.before p.around p.state) fresh;
      }

  pub new_twice : (b : Bool) → IsLowering z → TellsBound K ns i n.1 z b → b ≡ true → AreNew K ns i z → Walked K (due nothing (new_names_at (names ns))) z z (Err (TwiceDefined n.0))
  new_twice b keeps tells twice so_far =
      refused_here K (due nothing (new_names_at (names ns))) z (TwiceDefined n.0) keeps
      (λ p y stands is. (let t = so_far p stands in next p t b (tells p stands) ∙ ap (λ c. rest c t.before p.around p.state) twice))

pub new_all : (K : Known) (ns : Named) (i : ℕ) (z : Lowering) → IsLowering z → length ns ≤ i → AreNew K ns i z → Walked K (due nothing (new_names_at (names ns))) z z (Ok tt)
new_all K ns i z keeps h so_far =
    given K (due nothing (new_names_at (names ns))) z tt keeps tt
    (λ p y stands is.
    (let t = so_far p stands in
    (tt, t.same ∙ ap (λ l. new_names t.before (names l) p.around p.state) (drop_all i ns h), tt)))

-- ---- what is known before the run

pub known_still : {A B : Type 0} (K : Known) (f : Form A B) (x : Lowered B) (z : Lowering) (r : Result A LowerFault) → IsLowering z
    → ((v : A) → f.Fits z.plan v) → (stands : A → B → Type 0) → ((q : Point) (v : A) (b : B) → stands v b → f.Stands q.run z.plan v b) → Gives stands x r → Walked K (due f (lifted x)) z z r
known_still K f x z (Ok v) keeps fits stands weakens h =
    still K f (lifted x) z (Ok v) keeps (fits v) (λ p here. record { value = (h.value, p.state); is = ap (at_state p.state) h.is; fits = (weakens p v h.value h.fits, refl) })
known_still K f x z (Err e) keeps fits stands weakens h =
    still K f (lifted x) z (Err e) keeps tt (λ p here. fault_by x (lifted x p.around p.state) e (λ k. ap (at_state p.state) k) h)

-- a step of what a value is, from the value
pub from_value : {D : Type 0} {C : Type 0} (K : Known) (m : Value) (g : Form C D) (u : Plain → Walk D) (old new : Lowering) (r : Result C LowerFault) → Walked K (due g (u (plain_of m))) old new r
    → Walked K (from a_value m g u) old new r
from_value K m g u old new r h =
    alike K (due g (u (plain_of m))) (λ p z y. plain_of m ≡ y) u old new r h (λ p y stands is. (tt, tt, ap (λ v. u v p.around p.state) is))
