-- The value of a name in a body, by what the name stands for.
use Rattle.std.proofs.Common.{◌≡◌, ℕ, Bool, true, false, List, [], ◌∷◌, ◌++◌, map, Option, Some, None, refl, sym, ◌∙◌, ap}
use Rattle.std.specs.Str.{bytes_eq}
use Rattle.nf_value.specs.Plain.{Plain}
use Rattle.std.specs.Borrow.{Bor}
use Rattle.nf_value.specs.declared.value.Value.{Value}
use Rattle.nf_placed.specs.Scope.{value_in}
use Rattle.nf_graph.specs.Meaning.{Bags}
use Rattle.nf_meaning.specs.Closures.{env_for}
use Rattle.nf_meaning.specs.Names.{Reading, before_run, in_run, unread}
use Rattle.nf_meaning.specs.Stands.{ThingStands}
use Rattle.nf_meaning.specs.Things.{Thing, thing_named}
use Rattle.nf_meaning.specs.Walk as walk
use Rattle.nf_meaning.specs.Walk.{things_in}
use Rattle.nf_scopes.specs.Tables.{FoundStands}
use Rattle.nf_scopes.specs.Things.{thing_of}
use Rattle.nf_scopes.specs.declared.things.Thing.{Thing as Stored}
use Rattle.nf_around.specs.Values.{or_null, seen_as}

abbrev Names : Type 0
Names = List (List ℕ × Thing)

abbrev seen_or : Reading → Option Thing → Plain → Plain
seen_or r (Some t) later = seen_as r t
seen_or r None later = later

abbrev all_seen : Reading → Names → List (List ℕ × Plain)
all_seen r bs = map (λ b. (b.0, seen_as r b.1)) bs

seen_by : (r : Reading) (n : List ℕ) (b : List ℕ × Thing) (bs : Names) (es : List (List ℕ × Plain)) → value_in n (all_seen r bs ++ es) ≡ seen_or r (thing_named n bs) (value_in n es)
    → (t : Bool) → bytes_eq b.0 n ≡ t → value_in n (all_seen r (b ∷ bs) ++ es) ≡ seen_or r (thing_named n (b ∷ bs)) (value_in n es)
seen_by r n b bs es rest true e = rw e refl
seen_by r n b bs es rest false e = rw e rest

-- names before those everywhere
named : (r : Reading) (n : List ℕ) (bs : Names) (es : List (List ℕ × Plain)) → value_in n (all_seen r bs ++ es) ≡ seen_or r (thing_named n bs) (value_in n es)
named r n [] es = refl
named r n (b ∷ bs) es = seen_by r n b bs es (named r n bs es) (bytes_eq b.0 n) refl

here : (r : Reading) (n : List ℕ) (a : walk.Around) (s : walk.Scope) → value_in n (env_for r a s).captured ≡ seen_or r (thing_named n (things_in s)) (value_in n a.everywhere)
here before_run n a s = named before_run n (things_in s) a.everywhere
here in_run n a s = named in_run n (things_in s) a.everywhere
here unread n a s = named unread n (things_in s) a.everywhere

module _ (r : Reading) (n : List ℕ) (a : walk.Around) (s : walk.Scope) (bags : Bags) (v : Option (Bor Value)) where
  by_thing : (t : Stored) (found : Option Thing) → FoundStands bags (Some t) found → ((u : Thing) → ThingStands bags (thing_of t) u → or_null v ≡ seen_as r u)
      → seen_or r found (value_in n a.everywhere) ≡ or_null v
  by_thing t (Some u) h gives = sym (gives u h)
  by_thing t None h gives = absurd h

  -- the body has the name
  pub in_body : (t : Stored) → FoundStands bags (Some t) (thing_named n (things_in s)) → ((u : Thing) → ThingStands bags (thing_of t) u → or_null v ≡ seen_as r u)
      → value_in n (env_for r a s).captured ≡ or_null v
  in_body t h gives = here r n a s ∙ by_thing t (thing_named n (things_in s)) h gives

  by_nothing : (found : Option Thing) → FoundStands bags None found → value_in n a.everywhere ≡ or_null v → seen_or r found (value_in n a.everywhere) ≡ or_null v
  by_nothing None h e = e
  by_nothing (Some u) h e = absurd h

  -- the body hasn't
  pub around_body : FoundStands bags None (thing_named n (things_in s)) → value_in n a.everywhere ≡ or_null v → value_in n (env_for r a s).captured ≡ or_null v
  around_body h e = here r n a s ∙ by_nothing (thing_named n (things_in s)) h e
