-- Rounds that go on until nothing is left, or none is ready.
use Rattle.std.proofs.Common.{◌≡◌, ◌∙◌, ◌<◌, ◌≤◌, ℕ, zero, suc, Bool, true, false, not, List, [], ◌∷◌, length, refl, sym, ap, ap₂, arith}
use Rattle.std.proofs.lemmas.List.Filters.{length-filter_both}
use Rattle.std.specs.List.{filter}
use Rattle.nf_eval.specs.Evaluation.{Definition}
use Rattle.nf_meaning.specs.Functions.{in_order, in_rounds, is_ready, names_of, with_ready}
use Rattle.nf_library.specs.Stages.{Rounds, added}

module _ (ready : Definition → Bool) where
  abbrev rest_of : List Definition → List Definition
  rest_of ds = filter (λ d. not (ready d)) ds

  pub fewer_left : (ds : List Definition) → 0 < length (filter ready ds) → length (rest_of ds) < length ds
  fewer_left ds h = omega (arith, h, length-filter_both ready (λ d. not (ready d)) (λ d. refl) ds)

  left_by : (b : Bool) (d : Definition) (ds : List Definition) → ready d ≡ b → (filter ready ds ≡ [] → rest_of ds ≡ ds) → filter ready (d ∷ ds) ≡ [] → rest_of (d ∷ ds) ≡ d ∷ ds
  left_by true d ds is more none =
      let one : filter ready (d ∷ ds) ≡ d ∷ filter ready ds = rw is refl in
      let two : d ∷ filter ready ds ≡ [] = sym one ∙ none in
      absurd cc
  left_by false d ds is more none =
      let one : filter ready (d ∷ ds) ≡ filter ready ds = rw is refl in
      let two : rest_of (d ∷ ds) ≡ d ∷ rest_of ds = rw is refl in
      two ∙ ap (λ es. d ∷ es) (more (sym one ∙ none))

  -- none is ready: all are left
  pub all_left : (ds : List Definition) → filter ready ds ≡ [] → rest_of ds ≡ ds
  all_left [] none = refl
  all_left (d ∷ ds) none = left_by (ready d) d ds refl (all_left ds) none

  with_one : (b : Bool) (d : Definition) (ds placed : List Definition) → ready d ≡ b → ((ps : List Definition) → with_ready ready ds ps ≡ added (filter ready ds) ps)
      → with_ready ready (d ∷ ds) placed ≡ added (filter ready (d ∷ ds)) placed
  with_one true d ds placed is more = rw is (more (d ∷ placed))
  with_one false d ds placed is more = rw is (more placed)

  -- those that are ready are added in their order
  pub with_those : (ds placed : List Definition) → with_ready ready ds placed ≡ added (filter ready ds) placed
  with_those [] placed = refl
  with_those (d ∷ ds) placed = with_one (ready d) d ds placed refl (with_those ds)

module _ (all : List (List ℕ)) where
  pub none_left : (n : ℕ) (placed : List Definition) → in_rounds n all [] placed ≡ placed
  none_left zero placed = refl
  none_left (suc n) placed = none_left n placed

  -- one round
  pub next_round : (n : ℕ) (left placed : List Definition) → in_rounds (suc n) all left placed
      ≡ in_rounds n all (rest_of (is_ready all (names_of placed)) left) (added (filter (is_ready all (names_of placed)) left) placed)
  next_round n left placed = ap (in_rounds n all (rest_of (is_ready all (names_of placed)) left)) (with_those (is_ready all (names_of placed)) left placed)

  -- rounds in which none is ready
  pub no_more : (n : ℕ) (left placed : List Definition) → filter (is_ready all (names_of placed)) left ≡ [] → in_rounds n all left placed ≡ placed
  no_more zero left placed none = refl
  no_more (suc n) left placed none =
      next_round n left placed
      ∙ ap₂ (λ ds es. in_rounds n all ds (added es placed)) (all_left (is_ready all (names_of placed)) left none) none
      ∙ no_more n left placed none

pub begun : (ds : List Definition) → Rounds ds ds []
begun ds = record { more = length ds; enough = omega arith; same = refl }

module _ (ds left placed : List Definition) (r : Rounds ds left placed) where
  abbrev ready_now : Definition → Bool
  ready_now = is_ready (names_of ds) (names_of placed)

  go : (n : ℕ) → length left ≤ n → in_order ds ≡ in_rounds n (names_of ds) left placed → 0 < length (filter ready_now left)
      → Rounds ds (filter (λ d. not (ready_now d)) left) (added (filter ready_now left) placed)
  go zero enough same some = absurd (omega (arith, enough, some, fewer_left ready_now left some))
  go (suc n) enough same some = record {
    more = n;
    enough = omega (arith, enough, fewer_left ready_now left some);
    same = same ∙ next_round (names_of ds) n left placed;
  }

  pub goes_on : 0 < length (filter ready_now left) → Rounds ds (filter (λ d. not (ready_now d)) left) (added (filter ready_now left) placed)
  goes_on some = go r.more r.enough r.same some

  pub stuck : filter ready_now left ≡ [] → placed ≡ in_order ds
  stuck none = sym (r.same ∙ no_more (names_of ds) r.more left placed none)

pub all_placed : (ds placed : List Definition) → Rounds ds [] placed → placed ≡ in_order ds
all_placed ds placed r = sym (r.same ∙ none_left (names_of ds) r.more placed)
