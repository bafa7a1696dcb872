-- Names that lead to channels.
use Rattle.std.proofs.Common.{◌≡◌, ◌∙◌, Bool, true, refl, sym, ap}
use Rattle.std.specs.Prelude.{is_some, Option, Some, None, option_map}
use Rattle.nf_graph.specs.Meaning.{Bags}
use Rattle.nf_meaning.specs.Expressions.{is_tied, name_leads}
use Rattle.nf_meaning.specs.Stands.{PortThing, ThingStands, known, read, results}
use Rattle.nf_meaning.specs.Things as meaning
use Rattle.nf_meaning.specs.Things.{a_value, a_channel, outputs, holds_file}
use Rattle.nf_scopes.specs.Tables.{FoundStands}
use Rattle.nf_scopes.specs.Things.{thing_of}
use Rattle.nf_scopes.specs.declared.things.Thing.{Thing}

pub some_mapped : {A B : Type 0} (f : A → B) (o : Option A) → is_some (option_map f o) ≡ is_some o
some_mapped f None = refl
some_mapped f (Some x) = refl

-- ---- what is tied to channels or files

abbrev pub tied : PortThing → Bool
tied (known v) = holds_file v
tied (read p) = true
tied (results os) = true

tied_alike : (bags : Bags) (x : PortThing) (t : meaning.Thing) → ThingStands bags x t → tied x ≡ is_tied t
tied_alike bags (known v) (a_value w) h = ap holds_file h
tied_alike bags (known v) (a_channel c) h = absurd h
tied_alike bags (known v) (outputs qs) h = absurd h
tied_alike bags (read p) (a_value w) h = absurd h
tied_alike bags (read p) (a_channel c) h = refl
tied_alike bags (read p) (outputs qs) h = refl
tied_alike bags (results os) (a_value w) h = absurd h
tied_alike bags (results os) (a_channel c) h = refl
tied_alike bags (results os) (outputs qs) h = refl

-- of a thing in memory that is this one
pub tied_as : (x : Thing) (y : Thing) (b : Bool) (bags : Bags) (t : meaning.Thing) → x ≡ y → b ≡ tied (thing_of y) → ThingStands bags (thing_of x) t → b ≡ is_tied t
tied_as x y b bags t is h stands = h ∙ ap (λ z. tied (thing_of z)) (sym is) ∙ tied_alike bags (thing_of x) t stands

-- ---- a name

found_some : (bags : Bags) (t : Thing) (o : Option meaning.Thing) → FoundStands bags (Some t) o → (u : meaning.Thing) × (o ≡ Some u) × ThingStands bags (thing_of t) u
found_some bags t (Some u) h = (u, refl, h)
found_some bags t None h = absurd h

found_none : (bags : Bags) (o : Option meaning.Thing) → FoundStands bags None o → o ≡ None
found_none bags (Some u) h = absurd h
found_none bags None h = refl

pub bound_leads : (bags : Bags) (t : Thing) (o : Option meaning.Thing) (b free : Bool) → FoundStands bags (Some t) o
    → ((u : meaning.Thing) → ThingStands bags (thing_of t) u → b ≡ is_tied u) → b ≡ name_leads o free
bound_leads bags t o b free found h = let it = found_some bags t o found in h it.0 it.2 ∙ ap (λ p. name_leads p free) (sym it.1)

pub free_leads : (bags : Bags) (o : Option meaning.Thing) (b free : Bool) → FoundStands bags None o → b ≡ free → b ≡ name_leads o free
free_leads bags o b free found h = h ∙ ap (λ p. name_leads p free) (sym (found_none bags o found))
