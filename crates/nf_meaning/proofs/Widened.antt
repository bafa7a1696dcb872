-- Values that are the same but for the digests and lengths of their files.
use Rattle.std.proofs.Common.{◌≡◌, ℕ, suc, List, [], ◌∷◌, length, Bool, true, false, ◌||◌, refl, ap, sym, ◌∙◌, if◌then◌else◌}
use Rattle.nf_value.specs.Plain.{Plain, null, truth, int, text, file, list, table, Plains, no_items, item, plains_of}
use Rattle.nf_names_used.specs.Args.{items_of}
use Rattle.nf_names_used.specs.Lists.{list_of}
use Rattle.nf_meaning.specs.Things.{holds_file, one_holds_file, widened, all_widened}

abbrev pub Alike : Plain → Plain → Type 0
Alike v w = widened v ≡ widened w

abbrev pub AllAlike : List Plain → List Plain → Type 0
AllAlike [] [] = Unit {0}
AllAlike (v ∷ vs) (w ∷ ws) = Alike v w × AllAlike vs ws
AllAlike [] (w ∷ ws) = ⊥
AllAlike (v ∷ vs) [] = ⊥

first_false : (a b : Bool) → (a || b) ≡ false → a ≡ false
first_false true b h = h
first_false false b h = refl

second_false : (a b : Bool) → (a || b) ≡ false → b ≡ false
second_false true b h = absurd (let f : true ≡ false = h in cc)
second_false false b h = h

mutual
  holds_widened : (v : Plain) → holds_file (widened v) ≡ holds_file v
  holds_widened (file n d l) = refl
  holds_widened (list vs) = all_hold vs
  holds_widened null = refl
  holds_widened (truth b) = refl
  holds_widened (int i) = refl
  holds_widened (text t) = refl
  holds_widened (table ps) = refl

  all_hold : (vs : Plains) → one_holds_file (all_widened vs) ≡ one_holds_file vs
  all_hold no_items = refl
  all_hold (item v vs) = ap (λ b. b || one_holds_file (all_widened vs)) (holds_widened v) ∙ ap (λ b. holds_file v || b) (all_hold vs)

mutual
  unwidened : (v : Plain) → holds_file v ≡ false → widened v ≡ v
  unwidened (file n d l) h = absurd (let f : true ≡ false = h in cc)
  unwidened (list vs) h = ap list (all_unwidened vs h)
  unwidened null h = refl
  unwidened (truth b) h = refl
  unwidened (int i) h = refl
  unwidened (text t) h = refl
  unwidened (table ps) h = refl

  all_unwidened : (vs : Plains) → one_holds_file vs ≡ false → all_widened vs ≡ vs
  all_unwidened no_items h = refl
  all_unwidened (item v vs) h =
      ap (λ z. item z (all_widened vs)) (unwidened v (first_false (holds_file v) (one_holds_file vs) h)) ∙ ap (item v) (all_unwidened vs (second_false (holds_file v) (one_holds_file vs) h))

pub holds_alike : (v w : Plain) → Alike v w → holds_file v ≡ holds_file w
holds_alike v w h = sym (holds_widened v) ∙ ap holds_file h ∙ holds_widened w

pub hidden_alike : (v w : Plain) → Alike v w → (if holds_file v then null else v) ≡ (if holds_file w then null else w)
hidden_alike v w h = by (holds_file v) (holds_file w) refl refl (holds_alike v w h)
  where
    by : (c d : Bool) → holds_file v ≡ c → holds_file w ≡ d → c ≡ d → (if c then null else v) ≡ (if d then null else w)
    by true true i j e = refl
    by false false i j e = sym (unwidened v i) ∙ h ∙ unwidened w j
    by true false i j e = absurd cc
    by false true i j e = absurd cc

-- ---- kinds

abbrev pub is_list : Plain → Bool
is_list (list vs) = true
is_list _ = false

abbrev pub is_text : Plain → Bool
is_text (text t) = true
is_text _ = false

list_widened : (v : Plain) → is_list (widened v) ≡ is_list v
list_widened (list vs) = refl
list_widened _ = refl

text_widened : (v : Plain) → is_text (widened v) ≡ is_text v
text_widened (text t) = refl
text_widened _ = refl

pub lists_alike : (v w : Plain) → Alike v w → is_list v ≡ is_list w
lists_alike v w h = sym (list_widened v) ∙ ap is_list h ∙ list_widened w

pub texts_alike : (v w : Plain) → Alike v w → is_text v ≡ is_text w
texts_alike v w h = sym (text_widened v) ∙ ap is_text h ∙ text_widened w

abbrev text_in : Plain → List ℕ
text_in (text t) = t
text_in _ = []

pub same_text : (t u : List ℕ) → Alike (text t) (text u) → t ≡ u
same_text t u h = ap text_in h

-- ---- items of lists

abbrev items_widened : Plain → Plains
items_widened (list vs) = vs
items_widened _ = no_items

abbrev first_of : Plains → Plain
first_of (item v vs) = v
first_of no_items = null

abbrev rest_of : Plains → Plains
rest_of (item v vs) = vs
rest_of no_items = no_items

abbrev is_none : Plains → Bool
is_none no_items = true
is_none (item v vs) = false

items_alike : (vs ws : Plains) → all_widened vs ≡ all_widened ws → AllAlike (items_of vs) (items_of ws)
items_alike no_items no_items h = tt
items_alike (item v vs) (item w ws) h = (ap first_of h, items_alike vs ws (ap rest_of h))
items_alike no_items (item w ws) h = absurd (let f : true ≡ false = ap is_none h in cc)
items_alike (item v vs) no_items h = absurd (let f : false ≡ true = ap is_none h in cc)

pub list_items_alike : (vs ws : Plains) → Alike (list vs) (list ws) → AllAlike (items_of vs) (items_of ws)
list_items_alike vs ws h = items_alike vs ws (ap items_widened h)

pub length_alike : (vs ws : List Plain) → AllAlike vs ws → length vs ≡ length ws
length_alike [] [] h = refl
length_alike (v ∷ vs) (w ∷ ws) h = ap suc (length_alike vs ws h.1)
length_alike [] (w ∷ ws) h = absurd h
length_alike (v ∷ vs) [] h = absurd h

plains_alike : (vs ws : List Plain) → AllAlike vs ws → all_widened (plains_of vs) ≡ all_widened (plains_of ws)
plains_alike [] [] h = refl
plains_alike (v ∷ vs) (w ∷ ws) h = ap (λ z. item z (all_widened (plains_of vs))) h.0 ∙ ap (item (widened w)) (plains_alike vs ws h.1)
plains_alike [] (w ∷ ws) h = absurd h
plains_alike (v ∷ vs) [] h = absurd h

-- the lists of values that are alike
pub made_alike : (vs ws : List Plain) → AllAlike vs ws → Alike (list_of vs) (list_of ws)
made_alike vs ws h = ap list (plains_alike vs ws h)
