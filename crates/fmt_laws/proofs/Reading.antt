-- What the lexer and the parser give for the canonical text of a script that some text spells.
use Rattle.std.proofs.Common.{◌≡◌, ◌≢◌, ◌≤◌, ◌<◌, ◌↔◌, ℕ, List, length, Result, Ok, Err, IfOk, sym, subst, ap, ◌∙◌, refl}
use Rattle.nf_value.specs.declared.place.Place.{Place}
use Rattle.nf_token.specs.declared.token.Lexeme.{Lexeme}
use Rattle.nf_lexer.specs.declared.fault.LexFault.{LexFault}
use Rattle.nf_lexer.specs.declared.fault.LexFault.TheVariants as lex
use Rattle.nf_lexer.specs.Tokens.{IsTokensOf, Breaks, too_long, breaks_at, Refuses, most_bytes}
use Rattle.nf_ast.specs.Tree.{Tree}
use Rattle.nf_printer.specs.Tops.{canonical}
use Rattle.nf_parser.specs.Spells.{Spells}
use Rattle.fmt_trees.specs.Bare.{bare}
use Rattle.fmt_trees.specs.Again.{SpellsAgain}
use Rattle.nf_value.specs.declared.mem.Mem.{Mem}
use Rattle.fmt_laws.specs.declared.again.Again.{Again}
use Rattle.fmt_laws.specs.Again.{IsSpelled, IsSame, IsReadAgain, IsLexLimit, IsWithinLimits, Formats}
use Rattle.fmt_laws.proofs.Printed.{is_spelled_again}
use Rattle.fmt_laws.proofs.TopPlaces.{same_text}

-- a text has one list of tokens, and none where it breaks a rule
abbrev pub OneList : Type 0
OneList = (text : List ℕ) (t u : List Lexeme × Place) → IsTokensOf text t → IsTokensOf text u → t ≡ u

abbrev pub NeverBoth : Type 0
NeverBoth = (text : List ℕ) (t : List Lexeme × Place) (f : LexFault) → IsTokensOf text t → Breaks text f → ⊥

abbrev pub OneTree : Type 0
OneTree = (ts : List Lexeme) (v w : Tree) → Spells ts v → Spells ts w → v ≡ w

-- the tokens that the lexer lists of the canonical text spell the tree
pub spelled_again : OneList → (tree : Tree) → IsSpelled tree → (found : List Lexeme × Place) → IsTokensOf (canonical tree) found → SpellsAgain found.0 tree
spelled_again one tree s found lexed =
    let told = is_spelled_again tree s lexed.within in
    subst (λ (z : List Lexeme × Place). SpellsAgain z.0 tree) (one (canonical tree) (told.tokens, told.end) found told.lexed lexed) told.spells

-- a canonical text that isn't too long breaks no rule of the tokens
pub breaks_none : NeverBoth → (tree : Tree) → IsSpelled tree → length (canonical tree) ≤ most_bytes → (f : LexFault) → Breaks (canonical tree) f → ⊥
breaks_none both tree s small f b = let told = is_spelled_again tree s small in both (canonical tree) (told.tokens, told.end) f told.lexed b

small : {text : List ℕ} {f : LexFault} → Breaks text f → (f ≡ lex.ScriptTooLong → ⊥) → length text ≤ most_bytes
small (too_long h) n = absurd (n refl)
small (breaks_at h r) n = h

-- so the lexer refuses it for a limit alone
pub lex_limit : NeverBoth → (tree : Tree) → IsSpelled tree → (f : LexFault) → Refuses (canonical tree) f → IsLexLimit f
lex_limit both tree s (lex.BadByte p) b = breaks_none both tree s (small b (λ e. cc)) (lex.BadByte p) b
lex_limit both tree s (lex.OpenString p) b = breaks_none both tree s (small b (λ e. cc)) (lex.OpenString p) b
lex_limit both tree s (lex.OpenComment p) b = breaks_none both tree s (small b (λ e. cc)) (lex.OpenComment p) b
lex_limit both tree s (lex.BadEscape p) b = breaks_none both tree s (small b (λ e. cc)) (lex.BadEscape p) b
lex_limit both tree s (lex.BigNumber p) b = breaks_none both tree s (small b (λ e. cc)) (lex.BigNumber p) b
lex_limit both tree s lex.ScriptTooLong b = tt
lex_limit both tree s lex.Mem b = tt

-- the parser reads these tokens as the tree, places aside, or they are too deep
pub read_of : (r : Result Again Mem) (tree : Tree) (found : List Lexeme × Place) → IfOk r (λ a. (t : Tree) → IsTokensOf (canonical t) found → SpellsAgain found.0 t → IsReadAgain t a) → IsTokensOf (canonical tree) found → SpellsAgain found.0 tree → IfOk r (IsReadAgain tree)
read_of (Ok a) tree found h lexed told = h tree lexed told
read_of (Err e) tree found h lexed told = tt

pub same_as : (tree u v : Tree) → u ≡ v → bare u ≡ bare tree → IsSame tree v
same_as tree u v e h = let parts : bare v ≡ bare tree = ap bare (sym e) ∙ h in record { parts = parts; text = same_text v tree parts }

formatted_from : {text out : List ℕ} → (f : Formats text out) → IsSpelled f.tree
formatted_from {text} f = record { text = text; tokens = f.tokens; end = f.end; lexed = f.lexed; whole = f.spelled.whole }

-- a canonical text within the limits is its own canonical text
pub fixed : (text out : List ℕ) → Formats text out → IsWithinLimits out → Formats out out
fixed text out f h =
    let told = is_spelled_again f.tree (formatted_from f) (subst (λ z. length z ≤ most_bytes) f.printed h.bytes) in
    let lexed : IsTokensOf out (told.tokens, told.end) = subst (λ z. IsTokensOf z (told.tokens, told.end)) (sym f.printed) told.lexed in
    record {
      tokens = told.tokens;
      end = told.end;
      tree = told.spells.tree;
      lexed = lexed;
      spelled = record { whole = told.spells.reads; shallow = h.shallow told.tokens told.end lexed };
      printed = f.printed ∙ sym (same_text told.spells.tree f.tree told.spells.same);
    }

pub once : OneList → OneTree → (text out again : List ℕ) → Formats text out → Formats out again → again ≡ out
once one tree text out again f g =
    let lexed : IsTokensOf (canonical f.tree) (g.tokens, g.end) = subst (λ z. IsTokensOf z (g.tokens, g.end)) f.printed g.lexed in
    let told = spelled_again one f.tree (formatted_from f) (g.tokens, g.end) lexed in
    let same : told.tree ≡ g.tree = tree g.tokens told.tree g.tree (record { whole = told.reads; shallow = g.spelled.shallow }) g.spelled in
    g.printed ∙ (same_as f.tree told.tree g.tree same told.same).text ∙ sym f.printed
