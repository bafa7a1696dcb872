-- What contracts see of the lexer's own types.
use Rattle.std.specs.Prelude.{◌≡◌, List, [], ◌∷◌, ◌++◌, reverse, Option, Some, None, ℕ, map}
use Rattle.std.specs.String.{string_bytes}
use Rattle.std.specs.Char.{encode_utf8}
use Rattle.nf_value.specs.declared.place.Place.{Place}
use Rattle.nf_token.specs.declared.token.Token.{Token}
use Rattle.nf_token.specs.declared.token.Token.TheVariants as t
use Rattle.nf_token.specs.declared.token.Lexeme.{Lexeme}
use Rattle.nf_lexer.specs.declared.open.Open.{Open}
use Rattle.nf_lexer.specs.declared.open.Frame.{Frame}
use Rattle.nf_lexer.specs.declared.front.Front.{Front}
use Rattle.nf_lexer.specs.declared.front.Front.TheVariants as v
use Rattle.nf_lexer.specs.declared.front.Part.{Part}
use Rattle.nf_lexer.specs.declared.front.Part.TheVariants as p
use Rattle.nf_lexer.specs.declared.front.Bit.{Bit}
use Rattle.nf_lexer.specs.declared.front.Bit.TheVariants as b
use Rattle.nf_lexer.specs.declared.front.Raw.{Raw}
use Rattle.nf_lexer.specs.declared.front.Raw.TheVariants as r
use Rattle.nf_lexer.specs.declared.settler.Settler.{Settler}
use Rattle.nf_lexer.specs.declared.joiner.Joiner.{Joiner}
use Rattle.nf_lexer.specs.declared.joiner.Holding.{Holding}
use Rattle.nf_lexer.specs.Front.{Item, silent, line_end, written, lexed, string_end, pattern_end, First, passes, finished, broken}
use Rattle.nf_lexer.specs.Joined.{Placed, Held, nothing, text, joined}
use Rattle.nf_lexer.specs.Open.{outermost, line_fault, end_fault, nearest}
use Rattle.nf_lexer.specs.Separators.{Segment, line_end_at, settled}
use Rattle.nf_lexer.specs.Word.{word_token}

-- ---- what stands first

abbrev pub raw_view : Raw → Token
raw_view (r.Word w) = word_token w.now
raw_view (r.Number n) = t.Number n
raw_view (r.Mark m) = t.Mark m
raw_view r.Separator = t.Separator
raw_view (r.OpenTemplate k) = t.OpenTemplate k
raw_view (r.CloseTemplate k) = t.CloseTemplate k
raw_view r.OpenHole = t.OpenHole
raw_view r.CloseHole = t.CloseHole

abbrev pub bit_view : Bit → List ℕ
bit_view b.Nothing = []
bit_view (b.Run s) = s.now
bit_view (b.Char c) = encode_utf8 c

abbrev pub bits_view : Option Bit → Option (List ℕ)
bits_view None = None
bits_view (Some b) = Some (bit_view b)

abbrev pub part_view : Part → Item
part_view p.Silent = silent
part_view p.LineEnd = line_end
part_view (p.Written b) = written (bit_view b)
part_view (p.Lexed x) = lexed (raw_view x)
part_view (p.StringEnd k) = string_end k
part_view p.PatternEnd = pattern_end

abbrev pub front_view : Front → First
front_view (v.Passes part change n) = passes (part_view part) change n
front_view v.Finished = finished
front_view (v.Broken fault) = broken fault

-- ---- what is open

abbrev pub opens : List Frame → List Open
opens fs = map (λ f. f.thing) fs

-- each frame knows what is to be known of all that is open from it outwards
abbrev pub IsSummed : List Frame → Type 0
IsSummed [] = Unit {0}
IsSummed (f ∷ fs) = (f.line ≡ outermost line_fault (f.thing ∷ opens fs)) × (f.end ≡ outermost end_fault (f.thing ∷ opens fs)) × (f.nearest ≡ nearest (f.thing ∷ opens fs)) × IsSummed fs

-- ---- what comes of the segments

-- the line end that isn't settled yet
abbrev pub waiting_pieces : Option Place → List Segment
waiting_pieces None = []
waiting_pieces (Some place) = line_end_at place ∷ []

-- the tokens of what the settler took and of these segments after it
abbrev pub outcome : Settler → List Segment → List Lexeme
outcome s rest = s.out.items ++ settled (reverse s.out.items) (waiting_pieces s.waiting ++ rest)

abbrev pub held_view : Option Holding → Held
held_view None = nothing
held_view (Some h) = text h.start (string_bytes h.text)

-- the tokens of what the joiner took and of these items after it
abbrev pub joined_outcome : Joiner → List Placed → List Lexeme
joined_outcome j rest = outcome j.settler (joined (held_view j.held) rest)
