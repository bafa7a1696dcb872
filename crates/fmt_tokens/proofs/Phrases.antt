-- How the inks of each expression and statement are read, from how those of its parts are.
use Rattle.std.proofs.Common.{◌≡◌, ℕ, Bool, true, false, List, [], ◌∷◌, ◌++◌, refl, ap}
use Rattle.std.specs.Prelude.{not, codes}
use Rattle.nf_token.specs.declared.token.Keyword.{Keyword}
use Rattle.nf_token.specs.declared.token.Keyword.TheVariants as k
use Rattle.nf_token.specs.declared.token.Mark.{Mark}
use Rattle.nf_token.specs.declared.token.Mark.TheVariants as m
use Rattle.nf_lexer.specs.declared.open.Open.{Open}
use Rattle.nf_ast.specs.declared.operators.InfixOperator.{InfixOperator}
use Rattle.nf_ast.specs.declared.operators.InfixOperator.TheVariants as i
use Rattle.nf_ast.specs.declared.operators.PrefixOperator.{PrefixOperator}
use Rattle.nf_ast.specs.declared.operators.PrefixOperator.TheVariants as f
use Rattle.nf_ast.specs.Tree as tree
use Rattle.nf_ast.specs.Tree.{Tree}
use Rattle.nf_writer.specs.Ink as ink
use Rattle.nf_writer.specs.Ink.{Ink, inked, mark, keyword, blank, spaced}
use Rattle.nf_writer.specs.Lines.{Layout, lines, inline, deeper, between}
use Rattle.nf_printer.specs.Bodies.{first_before, closure_last}
use Rattle.nf_printer.specs.Exprs.{infix_inks, prefix_ink, comma, colon, equals, truth_ink, colon_alone, blank_after, else_before, inks, listed, parts}
use Rattle.fmt_tokens.specs.Fits.{IsName, IsNameTree}
use Rattle.fmt_tokens.proofs.Marks.{goes_on}
use Rattle.fmt_tokens.proofs.InkLists.{Reads, on, weaker, none}
use Rattle.fmt_tokens.proofs.Stands.{Stand, Lined, deeper_lined, Any, Apart}
use Rattle.fmt_tokens.proofs.Begins.{Begins, Starts, Fronts, apart_starts, starts_not, starts_minus, name_after_dot}
use Rattle.fmt_tokens.proofs.Inks.{is_bracket, mark_reads, lone_reads, keyword_reads, name_reads, blank_reads}
use Rattle.fmt_tokens.proofs.Enclosed.{apart, square_reads}

-- two lists of inks, where anything may follow the first
pub after : {P : List Open → Type 0} {R : List ℕ → Type 0} {xs ys : List Ink} → Reads P Any xs → Reads P R ys → Reads P R (xs ++ ys)
after a b = on (λ rest r. tt) a b

-- ---- operators and marks with the blanks round them

pub spaced_reads : {l : Layout} {Q : List ℕ → Type 0} (x : Ink) → ((rest : List ℕ) → Q (32 ∷ rest)) → Reads (Stand l) Q (x ∷ []) → Reads (Stand l) Any (spaced x)
spaced_reads x f a = after blank_reads (on (λ rest r. f rest) a blank_reads)

pub spaced_mark : {l : Layout} (x : Mark) → is_bracket x ≡ false → goes_on x 32 ≡ false → Reads (Stand l) Any (spaced (mark x))
spaced_mark x h e = spaced_reads (mark x) (λ rest. ap not e) (mark_reads x h)

pub spaced_keyword : {l : Layout} (x : Keyword) → Reads (Stand l) Any (spaced (keyword x))
spaced_keyword x = spaced_reads (keyword x) (λ rest. refl) (keyword_reads x)

infix_reads : {l : Layout} (x : InfixOperator) → Reads (Stand l) Any (infix_inks x)
infix_reads i.Or = spaced_mark m.Or refl refl
infix_reads i.And = spaced_mark m.And refl refl
infix_reads i.Pipe = spaced_mark m.Pipe refl refl
infix_reads i.Same = spaced_mark m.Same refl refl
infix_reads i.Differs = spaced_mark m.Differs refl refl
infix_reads i.Matches = spaced_mark m.Matches refl refl
infix_reads i.Less = spaced_mark m.Less refl refl
infix_reads i.AtMost = spaced_mark m.AtMost refl refl
infix_reads i.Greater = spaced_mark m.Greater refl refl
infix_reads i.AtLeast = spaced_mark m.AtLeast refl refl
infix_reads i.In = spaced_keyword k.In
infix_reads i.Range = lone_reads m.DotDot refl refl
infix_reads i.Plus = spaced_mark m.Plus refl refl
infix_reads i.Minus = spaced_mark m.Minus refl refl
infix_reads i.Times = spaced_mark m.Times refl refl
infix_reads i.Remainder = spaced_mark m.Percent refl refl

infix_begins : (x : InfixOperator) (rest : List ℕ) → Apart (inked (infix_inks x) ++ rest)
infix_begins i.Range rest = refl
infix_begins _ rest = refl

pub infix_fronts : (x : InfixOperator) → Fronts (infix_inks x)
infix_fronts x = record { fronts = λ rest. apart_starts (inked (infix_inks x) ++ rest) (infix_begins x rest) }

pub operator_reads : {l : Layout} {xs ys : List Ink} (x : InfixOperator) → Reads (Stand l) Apart xs → Reads (Stand l) Apart ys → Reads (Stand l) Apart (xs ++ infix_inks x ++ ys)
operator_reads {l} {xs} {ys} x a b = after (on (λ rest r. infix_begins x rest) a (infix_reads x)) b

-- an operand with the operator before it
pub prefixed_reads : {l : Layout} {xs : List Ink} (x : PrefixOperator) → Starts xs → Reads (Stand l) Apart xs → Reads (Stand l) Apart (prefix_ink x ∷ xs)
prefixed_reads {l} {xs} f.Not h a = on (λ rest r. starts_not (inked xs ++ rest) (h.starts rest (apart_starts rest r))) (mark_reads m.Not refl) a
prefixed_reads {l} {xs} f.Minus h a = on (λ rest r. starts_minus (inked xs ++ rest) (h.starts rest (apart_starts rest r))) (mark_reads m.Minus refl) a

pub prefix_starts : (x : PrefixOperator) (xs : List Ink) → Starts (prefix_ink x ∷ xs)
prefix_starts f.Not xs = record { starts = λ rest a. refl }
prefix_starts f.Minus xs = record { starts = λ rest a. refl }

-- ---- conditions

pub conditional_reads : {l : Layout} {xs ys zs : List Ink} → Reads (Stand l) Apart xs → Reads (Stand l) Apart ys → Reads (Stand l) Apart zs → Reads (Stand l) Apart (xs ++ spaced (mark m.Question) ++ ys ++ spaced (mark m.Colon) ++ zs)
conditional_reads a b c = after (on (λ rest r. refl) (after (on (λ rest r. refl) a (spaced_mark m.Question refl refl)) b) (spaced_mark m.Colon refl refl)) c

pub elvis_reads : {l : Layout} {xs ys : List Ink} → Reads (Stand l) Apart xs → Reads (Stand l) Apart ys → Reads (Stand l) Apart (xs ++ spaced (mark m.Elvis) ++ ys)
elvis_reads a b = after (on (λ rest r. refl) a (spaced_mark m.Elvis refl refl)) b

-- ---- small parts

pub comma_reads : {l : Layout} → Reads (Stand l) Any comma
comma_reads = after (lone_reads m.Comma refl refl) blank_reads

pub colon_reads : {l : Layout} {xs ys : List Ink} → Reads (Stand l) Apart xs → Reads (Stand l) Apart ys → Reads (Stand l) Apart (xs ++ colon ++ ys)
colon_reads a b = after (on (λ rest r. refl) a (after (lone_reads m.Colon refl refl) blank_reads)) b

pub equals_reads : {l : Layout} {xs ys : List Ink} → Reads (Stand l) Apart xs → Reads (Stand l) Apart ys → Reads (Stand l) Apart (xs ++ equals ++ ys)
equals_reads a b = after (on (λ rest r. refl) a (spaced_mark m.Equals refl refl)) b

-- a keyword and a blank
pub word_reads : {l : Layout} {xs : List Ink} (x : Keyword) → Reads (Stand l) Apart xs → Reads (Stand l) Apart (keyword x ∷ blank ∷ xs)
word_reads x a = on (λ rest r. refl) (keyword_reads x) (after blank_reads a)

pub blank_before : {l : Layout} {xs : List Ink} → Reads (Stand l) Apart xs → Reads (Stand l) Apart (blank ∷ xs)
blank_before a = after blank_reads a

pub truth_reads : {l : Layout} (b : Bool) → Reads (Stand l) Apart (truth_ink b ∷ [])
truth_reads true = keyword_reads k.True
truth_reads false = keyword_reads k.False

pub truth_starts : (b : Bool) → Starts (truth_ink b ∷ [])
truth_starts true = record { starts = λ rest a. refl }
truth_starts false = record { starts = λ rest a. refl }

colon_alone_reads : {l : Layout} (t : Tree) → Reads (Stand l) Any (colon_alone t)
colon_alone_reads tree.empty = lone_reads m.Colon refl refl
colon_alone_reads _ = none

-- a map with its brackets
pub map_reads : {l : Layout} {xs : List Ink} (t : Tree) → Reads (Stand l) Apart xs → Reads (Stand l) Apart (mark m.OpenSquare ∷ colon_alone t ++ xs ++ mark m.CloseSquare ∷ [])
map_reads t a = apart (square_reads (after (colon_alone_reads t) a))

-- parameters before an arrow
pub params_reads : {l : Layout} (t : Tree) → Reads (Stand l) Apart (listed t l []) → Reads (Stand l) Apart (blank ∷ listed t l [] ++ blank_after t ++ mark m.Arrow ∷ [])
params_reads tree.empty a = blank_before (apart (lone_reads m.Arrow refl refl))
params_reads _ a = blank_before (after (on (λ rest r. refl) a blank_reads) (apart (lone_reads m.Arrow refl refl)))

-- `else` and what stands after it
else_reads : {l : Layout} {xs : List Ink} (t : Tree) → Reads (Stand l) Apart xs → Reads (Stand l) Apart (inks t l false) → Reads (Stand l) Apart (xs ++ else_before t ++ inks t l false)
else_reads tree.empty a b = on (λ rest r. r) (on (λ rest r. r) a none) b
else_reads _ a b = after (on (λ rest r. refl) a (spaced_keyword k.Else)) b

-- an `if`: its condition in brackets, its block, and what stands after it
pub choice_reads : {l : Layout} {xs ys : List Ink} (t : Tree) → Reads (Stand l) Any xs → Reads (Stand l) Apart ys → Reads (Stand l) Apart (inks t l false) → Reads (Stand l) Apart (keyword k.If ∷ blank ∷ xs ++ blank ∷ ys ++ else_before t ++ inks t l false)
choice_reads t a b c = word_reads k.If (else_reads t (after a (blank_before b)) c)

-- ---- the name after a `.`

pub dot_name : {l : Layout} (s : List ℕ) → IsName s → Reads (Stand l) Apart (mark m.Dot ∷ ink.name s ∷ [])
dot_name s h = on (λ rest r. name_after_dot s rest h) (mark_reads m.Dot refl) (name_reads s h)

pub dot_reads : {l : Layout} (n : Tree) → IsNameTree n → Reads (Stand l) Apart (mark m.Dot ∷ inks n l false)
dot_reads (tree.name p s) h = dot_name s h
dot_reads _ h = absurd h

pub question_dot_reads : {l : Layout} (n : Tree) → IsNameTree n → Reads (Stand l) Apart (mark m.QuestionDot ∷ inks n l false)
question_dot_reads (tree.name p s) h = after (lone_reads m.QuestionDot refl refl) (name_reads s h)
question_dot_reads _ h = absurd h

-- ---- words that are names

pub println_reads : {l : Layout} {xs : List Ink} → Reads (Stand l) Apart xs → Reads (Stand l) Apart (ink.name (codes "println") ∷ blank ∷ xs)
println_reads a = on (λ rest r. refl) (name_reads (codes "println") (record { word = refl; no_keyword = refl })) (blank_before a)

pub log_reads : {l : Layout} {xs : List Ink} (n : Tree) → IsNameTree n → Reads (Stand l) Apart xs → Reads (Stand l) Apart (ink.name (codes "log") ∷ mark m.Dot ∷ inks n l false ++ (blank ∷ xs))
log_reads n h a = on (λ rest r. refl) (name_reads (codes "log") (record { word = refl; no_keyword = refl })) (on (λ rest r. refl) (dot_reads n h) (blank_before a))

-- ---- what lists begin with

pub listed_begins : (t : Tree) (l : Layout) → Begins (listed t l comma)
listed_begins (tree.cons x xs) l rest a = refl
listed_begins _ l rest a = a

pub parts_begin : (t : Tree) (l : Layout) → Begins (parts t l (between l))
parts_begin (tree.cons x xs) (lines n) rest a = refl
parts_begin (tree.cons x xs) inline rest a = refl
parts_begin _ l rest a = a

pub first_begins : (t : Tree) (short : Bool) (l : Layout) → Begins (parts t l (first_before short l))
first_begins (tree.cons x xs) true l rest a = refl
first_begins (tree.cons x xs) false (lines n) rest a = refl
first_begins (tree.cons x xs) false inline rest a = refl
first_begins _ short l rest a = a

pub last_begins : (short : Bool) (l : Layout) → Begins (closure_last short l)
last_begins true l rest a = refl
last_begins false (lines n) rest a = refl
last_begins false inline rest a = refl

-- a body, indented once more
pub shallower : {l : Layout} {Q : List ℕ → Type 0} {xs : List Ink} → Reads (Lined (deeper l)) Q xs → Reads (Lined l) Q xs
shallower {l} a = weaker (λ o s. deeper_lined l o s) (λ rest q. q) a
