-- The report depends on the bags of views and of targets alone, and the charge on the bags of deliveries.
use Rattle.std.proofs.Common.{◌≡◌, ℕ, List, [], ◌∷◌, ◌++◌, map, sum_by, refl, ap, ◌∙◌, arith}
use Rattle.std.proofs.lemmas.List.Sums.{sum_by-cons}
use Rattle.std.specs.List.{flat_map}
use Rattle.nf_value.specs.Plain.{Plain}
use Rattle.nf_value.specs.Text.{value_text}
use Rattle.nf_bag.specs.Bag.{IsSameBag}
use Rattle.nf_bag.specs.Sorted.{sorted_of, distinct_of}
use Rattle.nf_meaning.specs.Meaning.{ScriptMeaning}
use Rattle.nf_meaning.specs.Report.{view_lines, publish_texts, bag_cost, report_of, AreSameBags, ShowsSame}

-- a function of lists depends on their bag alone
abbrev pub ByBag : {A : Type 0} → (List Plain → A) → Type 0
ByBag f = (a b : List Plain) → IsSameBag a b → f a ≡ f b

views_alike : (as_bags bs : List (List Plain)) → ByBag sorted_of → AreSameBags as_bags bs → flat_map view_lines as_bags ≡ flat_map view_lines bs
views_alike [] [] h s = refl
views_alike (a ∷ more) (b ∷ others) h s =
    ap (λ z. map value_text z ++ flat_map view_lines more) (h a b s.0) ∙ ap (λ z. view_lines b ++ z) (views_alike more others h s.1)
views_alike [] (b ∷ others) h s = absurd s
views_alike (a ∷ more) [] h s = absurd s

pub report_alike : (m n : ScriptMeaning) → ByBag sorted_of → ByBag distinct_of → ShowsSame m n → report_of m ≡ report_of n
report_alike m n h k s =
    ap (λ z. flat_map (λ (line : List ℕ). line ++ 10 ∷ []) (z ++ map value_text (distinct_of (publish_texts m.targets)))) (views_alike m.views n.views h s.views)
    ∙ ap (λ z. flat_map (λ (line : List ℕ). line ++ 10 ∷ []) (flat_map view_lines n.views ++ map value_text z)) (k (publish_texts m.targets) (publish_texts n.targets) s.targets)

pub costs_alike : (as_bags bs : List (List Plain)) → ByBag bag_cost → AreSameBags as_bags bs → sum_by bag_cost as_bags ≡ sum_by bag_cost bs
costs_alike [] [] h s = refl
costs_alike (a ∷ more) (b ∷ others) h s =
    omega (arith, sum_by-cons bag_cost a more, sum_by-cons bag_cost b others, h a b s.0, costs_alike more others h s.1)
costs_alike [] (b ∷ others) h s = absurd s
costs_alike (a ∷ more) [] h s = absurd s
