-- The members of lists and maps, taken out of them again.
use Rattle.std.proofs.Common.{◌≡◌, ℕ, ◌+◌, ◌<◌, Bool, ◌||◌, List, [], ◌∷◌, ◌++◌, length, drop, map, get_or, Result, Ok, IfOk, true, false, filter, refl, sym, ap, subst, add-one, drop-cons}
use Rattle.std.specs.List.{list_any}
use Rattle.nf_value.specs.Plain.{Plain, truth, table, plains_of, plain_pairs_of}
use Rattle.nf_value.specs.View.{pair_of}
use Rattle.nf_value.specs.declared.value.Value.{Value}
use Rattle.nf_texts.specs.declared.fault.CallFault.{CallFault}
use Rattle.nf_value.specs.declared.mem.Mem.{Mem}
use Rattle.nf_texts.specs.Args.{items_of}
use Rattle.nf_builtins.specs.Lists.{list_of}
use Rattle.nf_texts.specs.Outcome.{Outcome, Gives}
use Rattle.nf_infix.specs.Pairs.{pairs_in}

pub items_of-plains_of : (vs : List Plain) → items_of (plains_of vs) ≡ vs
items_of-plains_of [] = refl
items_of-plains_of (v ∷ vs) = ap (λ ws. v ∷ ws) (items_of-plains_of vs)

pub pairs_in-plain_pairs_of : (ps : List (List ℕ × Plain)) → pairs_in (plain_pairs_of ps) ≡ ps
pairs_in-plain_pairs_of [] = refl
pairs_in-plain_pairs_of (p ∷ ps) = ap (λ qs. p ∷ qs) (pairs_in-plain_pairs_of ps)

pub list_gives : (vs : List Plain) (g : List Plain → Outcome) (r : Result Value CallFault) → Gives (g vs) r → Gives (g (items_of (plains_of vs))) r
list_gives vs g r h = subst (λ (ws : List Plain). Gives (g ws) r) (sym (items_of-plains_of vs)) h

pub any_map : {A B : Type 0} (p : B → Bool) (f : A → B) (xs : List A) → list_any p (map f xs) ≡ list_any (λ x. p (f x)) xs
any_map p f [] = refl
any_map p f (x ∷ xs) = ap (λ b. p (f x) || b) (any_map p f xs)

-- what is left of the pairs of a map from a place on
pub pairs_left_at : (xs : List (List ℕ × Value)) (i : ℕ) (x : List ℕ × Value) → i < length xs → x ≡ get_or xs i x → map pair_of (drop i xs) ≡ pair_of x ∷ map pair_of (drop (i + 1) xs)
pairs_left_at xs i x h is = rw (add-one, drop-cons xs i x, ← is) refl

pub with_list : (vs ws : List Plain) (r : Result (List Plain) Mem) → IfOk r (λ v. v ≡ vs ++ ws) → IfOk r (λ v. v ≡ vs ++ items_of (plains_of ws))
with_list vs ws r h = subst (λ (us : List Plain). IfOk r (λ v. v ≡ vs ++ us)) (sym (items_of-plains_of ws)) h

pub same_gives : (vs ws : List Plain) (r : Result Value CallFault) → vs ≡ ws → Gives (Ok (list_of vs)) r → Gives (Ok (list_of ws)) r
same_gives vs ws r e h = subst (λ (us : List Plain). Gives (Ok (list_of us)) r) e h

pub filter-map : {A B : Type 0} (p : B → Bool) (f : A → B) (xs : List A) → filter p (map f xs) ≡ map f (filter (λ x. p (f x)) xs)
filter-map p f [] = refl
filter-map p f (x ∷ xs) = of (p (f x)) refl (filter-map p f xs)
  where
    of : (b : Bool) → p (f x) ≡ b → filter p (map f xs) ≡ map f (filter (λ y. p (f y)) xs) → filter p (map f (x ∷ xs)) ≡ map f (filter (λ y. p (f y)) (x ∷ xs))
    of true e more = rw e (ap (λ l. f x ∷ l) more)
    of false e more = rw e more

pub truth_gives : (a b : Bool) (r : Result Value CallFault) → a ≡ b → Gives (Ok (truth a)) r → Gives (Ok (truth b)) r
truth_gives a b r e h = subst (λ (c : Bool). Gives (Ok (truth c)) r) e h

pub map_gives : (ps qs : List (List ℕ × Plain)) (g : List (List ℕ × Plain) → List (List ℕ × Plain) → Outcome) (r : Result Value CallFault) → Gives (g ps qs) r → Gives (g (pairs_in (plain_pairs_of ps)) (pairs_in (plain_pairs_of qs))) r
map_gives ps qs g r h = subst (λ (a : List (List ℕ × Plain)). Gives (g a (pairs_in (plain_pairs_of qs))) r) (sym (pairs_in-plain_pairs_of ps)) (subst (λ (b : List (List ℕ × Plain)). Gives (g ps b) r) (sym (pairs_in-plain_pairs_of qs)) h)

pub pairs_gives : (ps qs : List (List ℕ × Plain)) (r : Result Value CallFault) → ps ≡ qs → Gives (Ok (table (plain_pairs_of ps))) r → Gives (Ok (table (plain_pairs_of qs))) r
pairs_gives ps qs r e h = subst (λ (a : List (List ℕ × Plain)). Gives (Ok (table (plain_pairs_of a))) r) e h
