-- The tokens of a text, or the rule that it breaks first.
use Rattle.std.specs.Prelude.{◌≡◌, ℕ, ◌≤◌, ◌<◌, List, [], ◌∷◌, length, drop, nat_eq, codes, Option, Some, None, if◌then◌else◌}
use Rattle.std.specs.List.{starts_with}
use Rattle.nf_value.specs.declared.place.Place.{Place}
use Rattle.nf_lexer.specs.declared.fault.LexFault.{LexFault}
use Rattle.nf_lexer.specs.declared.fault.LexFault.TheVariants.{ScriptTooLong, Mem}
use Rattle.nf_token.specs.declared.token.Lexeme.{Lexeme}
use Rattle.nf_lexer.specs.declared.open.Open.{Open}
use Rattle.nf_lexer.specs.declared.open.Open.TheVariants.{LineComment}
use Rattle.nf_lexer.specs.declared.open.Change.{Change}
use Rattle.nf_lexer.specs.Front.{Item, passes, finished, broken}
use Rattle.nf_lexer.specs.First.{first}
use Rattle.nf_lexer.specs.Joined.{Placed, at, nothing, joined}
use Rattle.nf_lexer.specs.Open.{changed}
use Rattle.nf_lexer.specs.Place.{place_after, place_of}
use Rattle.nf_lexer.specs.Separators.{settled}

-- `Reads text o bytes items fault`: with o open, the rest of the text from these bytes on is read as these items, up to its end or up to
-- the rule that it breaks
pub data Reads (text : List ℕ) : List Open → List ℕ → List Placed → Option LexFault → Type 0 where
  ends : {o : List Open} {bs : List ℕ} → first o (place_of text (length bs)) bs ≡ finished → Reads text o bs [] None
  breaks : {o : List Open} {bs : List ℕ} {fault : LexFault} → first o (place_of text (length bs)) bs ≡ broken fault → Reads text o bs [] (Some fault)
  goes : {o : List Open} {bs : List ℕ} {v : List Placed} {e : Option LexFault} {item : Item} {change : Change} {n : ℕ} → first o (place_of text (length bs)) bs ≡ passes item change n → Reads text (changed change o) (drop n bs) v e → Reads text o bs (at item (place_of text (length bs)) ∷ v) e

-- a first line that begins with `#!` is a comment
unfoldable pub at_start : List ℕ → List Open
at_start text = if starts_with nat_eq text (codes "#!") then LineComment ∷ [] else []

-- the most bytes of a script
abbrev pub most_bytes : ℕ
most_bytes = 1048576

-- the tokens of a text, and the place of its end
pub record IsTokensOf (text : List ℕ) (t : List Lexeme × Place) : Type 0 where
  pub within : length text ≤ most_bytes
  pub items : List Placed
  pub reads : Reads text (at_start text) text items None
  pub tokens : t.0 ≡ settled [] (joined nothing items)
  pub end : t.1 ≡ place_after text

-- the rule that a text breaks first, where it is broken
pub data Breaks (text : List ℕ) : LexFault → Type 0 where
  too_long : most_bytes < length text → Breaks text ScriptTooLong
  breaks_at : {fault : LexFault} {items : List Placed} → length text ≤ most_bytes → Reads text (at_start text) text items (Some fault) → Breaks text fault

-- an error names the rule that is broken first, or is want of memory
abbrev pub Refuses : List ℕ → LexFault → Type 0
Refuses text Mem = Unit {0}
Refuses text fault = Breaks text fault
