-- What is kept of a whole history.
use Rattle.std.proofs.Common.{◌≡◌, ℕ, suc, ◌+◌, ◌<◌, ◌≤◌, List, [], ◌∷◌, ◌++◌, map, length, get_or, drop, replicate, Bool, true, false, refl, ap, sym, ◌∙◌, subst, arith, inl, inr, append-nil}
use Rattle.std.proofs.lemmas.List.{append_assoc, drop_more, drop_all, get_or_past, get_or-replicate, length-replicate}
use Rattle.std.proofs.lemmas.Bool.Decides.{nat_tests}
use Rattle.std.proofs.lemmas.Bool.{cases_Bool}
use Rattle.std.specs.Prelude.{nat_lt}
use Rattle.nf_value.specs.Plain.{Plain}
use Rattle.nf_graph.specs.Rules.{Rules}
use Rattle.nf_machine.specs.declared.event.Event.{Event}
use Rattle.nf_machine.specs.Event.{event_of}
use Rattle.nf_machine.specs.State.{State, opening}
use Rattle.nf_machine.specs.Step.{step}
use Rattle.nf_machine.specs.History.{IsLawful}
use Rattle.nf_core.specs.Told.{told_from}
use Rattle.nf_flow.specs.Seen.{Seen, plain_of, events_of}
use Rattle.nf_shown.specs.declared.reading.Reading.{Reading}
use Rattle.nf_shown.specs.Shown.{HasRead, IsLawfulRun, ReadsOn, and_printed, chosen_from, kept_if, printed_by, printed_in, views_from, views_of}

-- What was kept of the events before these: with what they print it is all that the run printed
pub record KeepsSoFar (z : Seen) (are : List Bool) (rest : List Event) (takers : List ℕ) (lists : List (List Plain)) : Type 0 where
  pub rules : Rules
  pub now : State
  pub printed : ℕ → List Plain
  pub read : HasRead are printed now takers lists
  pub lawful : IsLawful (plain_of z) rules now (map (event_of (plain_of z)) rest)
  pub whole : (i : ℕ) → printed i ++ told_from (printed_by i) (plain_of z) now (map (event_of (plain_of z)) rest) ≡ printed_in (plain_of z) (events_of z) i

kept_none : (b : Bool) → kept_if b [] ≡ []
kept_none true = refl
kept_none false = refl

-- of so many empty lists each is empty
empty_at : (n i : ℕ) → get_or {A = List Plain} (replicate n []) i [] ≡ []
empty_at n i = elim (cases_Bool (nat_lt i n)) [
  | inl e ↦ get_or-replicate n i [] [] (grind (arith, nat_tests))
  | inr e ↦ get_or_past (replicate n []) i [] (let l = length-replicate {A = List Plain} n [] in let m : n ≤ i = grind (arith, nat_tests) in omega (arith, l, m))
]

pub keeps_first : (z : Seen) (are : List Bool) (history : List Event) (takers : List ℕ) (lists : List (List Plain)) (nodes : ℕ) → IsLawfulRun z → history ≡ z.history
    → nodes ≡ length are → length takers ≡ 1 → lists ≡ replicate nodes [] → KeepsSoFar z are (drop 0 history) takers lists
keeps_first z are history takers lists nodes run is many one none =
    subst (λ (h : List Event). KeepsSoFar z are (drop 0 h) takers lists) (sym is) (record {
      rules = run.rules;
      now = opening (plain_of z);
      printed = λ i. [];
      read = record {
        next = one;
        each = tt;
        number = ap length none ∙ length-replicate nodes [] ∙ many;
        lists_are = λ i. ap (λ (v : List (List Plain)). get_or v i []) none ∙ empty_at nodes i ∙ sym (kept_none (get_or are i false));
      };
      lawful = run.lawful;
      whole = λ i. refl;
    })

keeps_on : (z : Seen) (are : List Bool) (x : Event) (rest : List Event) (old new : Reading) → KeepsSoFar z are (x ∷ rest) old.takers.items old.lists.items → ReadsOn are x old new
    → KeepsSoFar z are rest new.takers.items new.lists.items
keeps_on z are x rest old new k reads = record {
  rules = k.rules;
  now = step (plain_of z) k.now (event_of (plain_of z) x);
  printed = and_printed k.printed k.now (event_of (plain_of z) x);
  read = reads (plain_of z) k.rules k.now k.printed k.read k.lawful.0;
  lawful = k.lawful.1;
  whole = λ i.
      append_assoc (k.printed i) (printed_by i k.now (event_of (plain_of z) x)) (told_from (printed_by i) (plain_of z) (step (plain_of z) k.now (event_of (plain_of z) x)) (map (event_of (plain_of z)) rest))
      ∙ k.whole i;
}

pub keeps_next : (z : Seen) (are : List Bool) (history : List Event) (i : ℕ) (x : Event) (old new : Reading) → i < length history → x ≡ get_or history i x
    → KeepsSoFar z are (drop i history) old.takers.items old.lists.items → ReadsOn are x old new → KeepsSoFar z are (drop (i + 1) history) new.takers.items new.lists.items
keeps_next z are history i x old new l is k reads =
    let split : drop i history ≡ x ∷ drop (i + 1) history = drop_more history i x l ∙ ap (λ y. y ∷ drop (i + 1) history) (sym is) in
    keeps_on z are x (drop (i + 1) history) old new (subst (λ (h : List Event). KeepsSoFar z are h old.takers.items old.lists.items) split k) reads

-- the views' lists, in their order
chosen_is : (p : ℕ → List Plain) (are : List Bool) (xs : List (List Plain)) (i : ℕ) → length xs ≡ length are
    → ((j : ℕ) → get_or xs j [] ≡ kept_if (get_or are j false) (p (i + j))) → chosen_from are xs ≡ views_from p i are
chosen_is p [] xs i many is = refl
chosen_is p (b ∷ bs) [] i many is = absurd (let l : 0 ≡ suc (length bs) = many in omega (arith, l))
chosen_is p (true ∷ bs) (x ∷ xs) i many is =
    let first : x ≡ p i = is 0 ∙ ap p (omega arith) in
    let rest : chosen_from bs xs ≡ views_from p (suc i) bs = chosen_is p bs xs (suc i) (omega (arith, many)) (λ j. is (suc j) ∙ ap (λ n. kept_if (get_or bs j false) (p n)) (omega arith)) in
    ap (λ y. y ∷ chosen_from bs xs) first ∙ ap (λ ys. p i ∷ ys) rest
chosen_is p (false ∷ bs) (x ∷ xs) i many is = chosen_is p bs xs (suc i) (omega (arith, many)) (λ j. is (suc j) ∙ ap (λ n. kept_if (get_or bs j false) (p n)) (omega arith))

pub keeps_all : (z : Seen) (are : List Bool) (history : List Event) (i : ℕ) (takers : List ℕ) (lists : List (List Plain)) → length history ≤ i
    → KeepsSoFar z are (drop i history) takers lists → chosen_from are lists ≡ views_of z are
keeps_all z are history i takers lists l k =
    let last : KeepsSoFar z are [] takers lists = subst (λ (h : List Event). KeepsSoFar z are h takers lists) (drop_all i history l) k in
    chosen_is (printed_in (plain_of z) (events_of z)) are lists 0 last.read.number
    (λ j. last.read.lists_are j ∙ ap (kept_if (get_or are j false)) (sym (append-nil (last.printed j)) ∙ last.whole j ∙ ap (printed_in (plain_of z) (events_of z)) (omega arith)))
