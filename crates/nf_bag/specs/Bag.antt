-- Lists of values up to order.
use Rattle.std.specs.Prelude.{◌≡◌, ℕ, ◌≤◌, List, count_by}
use Rattle.std.specs.Ordering.{eq_by_cmp}
use Rattle.nf_value.specs.Plain.{Plain}
use Rattle.nf_value.specs.Order.{value_cmp}

-- how often v occurs
abbrev pub count : Plain → List Plain → ℕ
count v xs = count_by (λ x. eq_by_cmp value_cmp x v) xs

-- no value occurs more often in a than in b
pub record IsSubBag (a b : List Plain) : Type 0 where
  pub at : (v : Plain) → count v a ≤ count v b

-- every value occurs in a as often as in b
pub record IsSameBag (a b : List Plain) : Type 0 where
  pub at : (v : Plain) → count v a ≡ count v b
