-- How the lexer reads the front of what is left of a text.
use Rattle.std.specs.Prelude.{◌≡◌, ℕ, List, [], ◌∷◌, length, drop}
use Rattle.nf_lexer.specs.declared.open.Open.{Open}
use Rattle.nf_lexer.specs.declared.open.Change.{Change}
use Rattle.nf_lexer.specs.Front.{Item, passes}
use Rattle.nf_lexer.specs.First.{first}
use Rattle.nf_lexer.specs.Joined.{Placed, at}
use Rattle.nf_lexer.specs.Open.{changed}
use Rattle.nf_lexer.specs.Place.{place_of}

-- from what is open and the bytes left, the lexer comes by these items to what is open and left after them
pub data Leads (text : List ℕ) : List Open → List ℕ → List Placed → List Open → List ℕ → Type 0 where
  stays : {o : List Open} {bs : List ℕ} → Leads text o bs [] o bs
  goes : {o p : List Open} {bs rest : List ℕ} {v : List Placed} {item : Item} {change : Change} {n : ℕ} → first o (place_of text (length bs)) bs ≡ passes item change n → Leads text (changed change o) (drop n bs) v p rest → Leads text o bs (at item (place_of text (length bs)) ∷ v) p rest
