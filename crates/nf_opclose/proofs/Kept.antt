-- The states after one more push.
use Rattle.std.proofs.Common.{◌≡◌, ℕ, ◌+◌, ◌≤◌, ◌^◌, w64, List, [], ◌∷◌, ◌++◌, map, length, Bool, true, false, refl, ap, ◌∙◌, arith}
use Rattle.std.specs.Prelude.{pos, Option, Some, Result, Ok}
use Rattle.std.specs.Option.{option_map}
use Rattle.std.proofs.lemmas.List.{map-append}
use Rattle.std.proofs.lemmas.Int.{ints}
use mir.Val.{to_z}
use Rattle.nf_value.specs.Plain.{Plain}
use Rattle.nf_value.specs.View.{plain_of}
use Rattle.nf_value.specs.declared.value.Value.{Value}
use Rattle.nf_bag.specs.Sorted.{IsRising, inserted, sorted_of}
use Rattle.nf_opstream.specs.Push.{Push}
use Rattle.nf_opstream.specs.Fault.{Fault}
use Rattle.nf_opstream.specs.Rows.{items_in}
use Rattle.nf_opclose.specs.Gathered.{parts_of, collected, if_any, first_of, last_of}
use Rattle.nf_opclose.specs.Closing.{single}
use Rattle.nf_opclose.specs.Rows.{if_none}
use Rattle.nf_opclose.specs.Kept.{IsCountAfter, is_none_pushed, IsToListAfter, IsCollectAfter, IsMinAfter, IsMaxAfter}
use Rattle.nf_opclose.specs.declared.collect.CollectState.{CollectState}
use Rattle.nf_opclose.specs.declared.count.CountState.{CountState}
use Rattle.nf_opclose.specs.declared.max.MaxState.{MaxState}
use Rattle.nf_opclose.specs.declared.min.MinState.{MinState}
use Rattle.nf_opclose.specs.declared.to_list.ToListState.{ToListState}
use Rattle.nf_opclose.proofs.Bags.{same_turned}

pub count_more : (p : List Push) (s t : CountState) → IsCountAfter p s → (x : Push) → t.count ≡ s.count + 1 → IsCountAfter (x ∷ p) t
count_more p s t after x e = record { fine = (refl, after.fine); count = omega (arith, after.count) }

-- the number is written as it is
pub count_number : (p : List Push) (s : CountState) → IsCountAfter p s → s.count ≤ 2 ^ 32 → to_z w64 s.count ≡ pos (length p)
count_number p s after few = omega (arith, ints, after.count)

-- the close emits the value if there was no item
pub none_due : (v : Plain) (p : List Push) → is_none_pushed p ≡ true → single v ≡ if_none v p
none_due v [] h = refl
none_due v (x ∷ p) h = cc

pub some_due : (v : Plain) (p : List Push) → is_none_pushed p ≡ false → if_none v p ≡ Ok []
some_due v [] h = cc
some_due v (x ∷ p) h = refl

pub to_list_more : (p : List Push) (s t : ToListState) → IsToListAfter p s → (x : Push) (item : Value) → x.item ≡ plain_of item → t.items.items ≡ s.items.items ++ item ∷ [] → IsToListAfter (x ∷ p) t
to_list_more p s t after x item same e = record {
  fine = (refl, after.fine);
  items = same_turned _ (map plain_of s.items.items) (plain_of item ∷ []) (items_in p) _ (ap (map plain_of) e ∙ map-append plain_of s.items.items (item ∷ [])) after.items (ap (λ v. v ∷ items_in p) same);
}

pub collect_more : (opened : Bool) (p : List Push) (s t : CollectState) → IsCollectAfter opened p s → (x : Push) → t.flat ≡ s.flat → t.none ≡ false → map plain_of t.parts.items ≡ map plain_of s.parts.items ++ parts_of s.flat x.answer → IsCollectAfter opened (x ∷ p) t
collect_more opened p s t after x kept some e = record {
  fine = (refl, after.fine);
  flat = kept ∙ after.flat;
  none = some;
  parts = same_turned _ (map plain_of s.parts.items) (parts_of opened x.answer) (collected opened p) _ (e ∙ ap (λ b. map plain_of s.parts.items ++ parts_of b x.answer) after.flat) after.parts refl;
}

pub any_due : (p : List Push) (r : Result (List (ℕ × Plain)) Fault) → is_none_pushed p ≡ false → r ≡ if_any p r
any_due [] r h = cc
any_due (x ∷ p) r h = refl

pub none_any : (p : List Push) (r : Result (List (ℕ × Plain)) Fault) → is_none_pushed p ≡ true → if_any p r ≡ Ok []
none_any [] r h = refl
none_any (x ∷ p) r h = cc

pub min_more : (p : List Push) (s t : MinState) → IsMinAfter p s → (x : Push) (old : Option Value) → old ≡ s.least → (new : Value) → t.least ≡ Some new
    → ((vs : List Plain) → option_map plain_of old ≡ first_of vs → Some (plain_of new) ≡ first_of (inserted x.item vs)) → IsMinAfter (x ∷ p) t
min_more p s t after x old was new is h = record {
  fine = (refl, after.fine);
  least = ap (option_map plain_of) is ∙ h (sorted_of (items_in p)) (ap (option_map plain_of) was ∙ after.least);
}

pub max_more : ((a : List Plain) → IsRising (sorted_of a)) → (p : List Push) (s t : MaxState) → IsMaxAfter p s → (x : Push) (old : Option Value) → old ≡ s.greatest → (new : Value) → t.greatest ≡ Some new
    → ((vs : List Plain) → IsRising vs → option_map plain_of old ≡ last_of vs → Some (plain_of new) ≡ last_of (inserted x.item vs)) → IsMaxAfter (x ∷ p) t
max_more rising p s t after x old was new is h = record {
  fine = (refl, after.fine);
  greatest = ap (option_map plain_of) is ∙ h (sorted_of (items_in p)) (rising (items_in p)) (ap (option_map plain_of) was ∙ after.greatest);
}
