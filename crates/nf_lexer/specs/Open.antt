-- What is open: brackets, holes, strings, templates and comments; the innermost stands first.
use Rattle.std.specs.Prelude.{Bool, true, false, List, [], ◌∷◌, Option, Some, None, if◌then◌else◌}
use Rattle.nf_lexer.specs.declared.fault.LexFault.{LexFault}
use Rattle.nf_lexer.specs.declared.fault.LexFault.TheVariants.{OpenString, OpenComment}
use Rattle.nf_token.specs.declared.token.PlainKind.TheVariants.{TripleSingle}
use Rattle.nf_token.specs.declared.token.TemplateKind.TheVariants.{TripleDouble}
use Rattle.nf_token.specs.declared.token.TextKind.{TextKind}
use Rattle.nf_token.specs.declared.token.TextKind.TheVariants.{Plain, Template}
use Rattle.nf_lexer.specs.declared.open.Open.{Open}
use Rattle.nf_lexer.specs.declared.open.Open.TheVariants.{Brace, Hole, Text, Comment}
use Rattle.nf_lexer.specs.declared.open.Change.{Change}
use Rattle.nf_lexer.specs.declared.open.Change.TheVariants.{Keep, Enter, Leave, LeaveBrace}

abbrev pub innermost : List Open → Option Open
innermost [] = None
innermost (x ∷ o) = Some x

-- all but the innermost
abbrev pub around : List Open → List Open
around [] = []
around (x ∷ o) = o

-- a line end may separate: the innermost is a brace, or nothing is open
abbrev pub lets_lines_end : List Open → Bool
lets_lines_end [] = true
lets_lines_end (Brace ∷ o) = true
lets_lines_end _ = false

-- ---- what must not be open

-- a string, pattern or template that ends on its line
abbrev pub is_one_line : TextKind → Bool
is_one_line (Plain TripleSingle) = false
is_one_line (Template TripleDouble) = false
is_one_line _ = true

-- the rule that is broken where a line ends while this is open
abbrev pub line_fault : Open → Option LexFault
line_fault (Text k place) = if is_one_line k then Some (OpenString place) else None
line_fault _ = None

-- the rule that is broken where the text ends while this is open
abbrev pub end_fault : Open → Option LexFault
end_fault (Text k place) = Some (OpenString place)
end_fault (Comment place) = Some (OpenComment place)
end_fault _ = None

abbrev pub rather : Option LexFault → Option LexFault → Option LexFault
rather (Some f) g = Some f
rather None g = g

-- the rule of the outermost that has one
abbrev pub outermost : (Open → Option LexFault) → List Open → Option LexFault
outermost fault [] = None
outermost fault (x ∷ o) = rather (outermost fault o) (fault x)

-- ---- what a token opens or closes

abbrev pub is_brace_or_hole : Open → Bool
is_brace_or_hole Brace = true
is_brace_or_hole Hole = true
is_brace_or_hole _ = false

-- the nearest `{` or `${` that is open
abbrev pub nearest : List Open → Option Open
nearest [] = None
nearest (x ∷ o) = if is_brace_or_hole x then Some x else nearest o

-- what is open around it
abbrev pub around_nearest : List Open → List Open
around_nearest [] = []
around_nearest (x ∷ o) = if is_brace_or_hole x then o else around_nearest o

-- a `}` closes the nearest `{` or `${` and all that is open in it; with none open it closes nothing
abbrev pub after_brace : Option Open → List Open → List Open
after_brace None o = o
after_brace (Some x) o = around_nearest o

abbrev pub changed : Change → List Open → List Open
changed Keep o = o
changed (Enter x) o = x ∷ o
changed Leave o = around o
changed LeaveBrace o = after_brace (nearest o) o
