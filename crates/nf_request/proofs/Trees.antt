-- The one tree of a text, or its one fault.
use Rattle.std.proofs.Common.{◌≡◌, ℕ, ◌<◌, List, length, refl, ap, subst, arith}
use Rattle.nf_value.specs.declared.place.Place.{Place}
use Rattle.nf_ast.specs.Tree.{Tree}
use Rattle.nf_token.specs.declared.token.Lexeme.{Lexeme}
use Rattle.nf_lexer.specs.declared.fault.LexFault.{LexFault}
use Rattle.nf_lexer.specs.declared.fault.LexFault.TheVariants.{BadByte, OpenString, OpenComment, BadEscape, BigNumber, ScriptTooLong}
use Rattle.nf_lexer.specs.declared.fault.LexFault.TheVariants as lex
use Rattle.nf_lexer.specs.Tokens.{IsTokensOf, Breaks, too_long, breaks_at, most_bytes}
use Rattle.nf_lexer.specs.Tokens.{Refuses as LexRefuses}
use Rattle.nf_exprs.specs.declared.fault.ParseFault.{ParseFault}
use Rattle.nf_exprs.specs.declared.fault.ParseFault.TheVariants as parse
use Rattle.nf_parser.specs.Spells.{Spells, Whole, IsUnexpected, IsTooDeep, Refuses}
use Rattle.nf_ends.specs.Causes.{end_of_lex, end_of_parse}
use Rattle.nf_request.specs.Script.{SpellNone, IsOnlyScript, IsOnlyBreak, IsOnlyFault}
use Rattle.nf_request.specs.Steps.{LacksTree}

-- a text that is too long breaks no other rule
only_long : {text : List ℕ} → most_bytes < length text → {f : LexFault} → Breaks text f → f ≡ ScriptTooLong
only_long h (too_long k) = refl
only_long h (breaks_at k r) = absurd (omega arith)

pub too_long_only : (text : List ℕ) → most_bytes < length text → IsOnlyFault text ScriptTooLong
too_long_only text h = record {
  is = too_long h;
  only = λ other k. only_long h k;
  none = λ tokens k. omega (arith, k.within);
}

-- a text has one list of tokens
abbrev pub OneList : Type 0
OneList = (text : List ℕ) (t u : List Lexeme × Place) → IsTokensOf text t → IsTokensOf text u → t ≡ u

-- a text breaks one rule first
abbrev pub OneBreak : Type 0
OneBreak = (text : List ℕ) (f g : LexFault) → Breaks text f → Breaks text g → f ≡ g

-- a text that has tokens breaks no rule
abbrev pub NeverBoth : Type 0
NeverBoth = (text : List ℕ) (t : List Lexeme × Place) (f : LexFault) → IsTokensOf text t → Breaks text f → ⊥

-- the laws of the grammar: at most one tree, one unexpected place and one too deep place, and no two of these together
pub record Laws : Type 0 where
  pub one_unexpected : (ts : List Lexeme) (end p q : Place) → IsUnexpected ts end p → IsUnexpected ts end q → p ≡ q
  pub one_too_deep : (ts : List Lexeme) (end p q : Place) → IsTooDeep ts end p → IsTooDeep ts end q → p ≡ q
  pub unexpected_none : (ts : List Lexeme) (end p : Place) (v : Tree) → IsUnexpected ts end p → Spells ts v → ⊥
  pub too_deep_none : (ts : List Lexeme) (end p : Place) (v : Tree) → IsTooDeep ts end p → Spells ts v → ⊥
  pub not_both : (ts : List Lexeme) (end p q : Place) → IsUnexpected ts end p → IsTooDeep ts end q → ⊥

none_spelled : Laws → (ts : List Lexeme) (end : Place) (fault : ParseFault) (v : Tree) → SpellNone ts end fault → Spells ts v → ⊥
none_spelled laws ts end (parse.Unexpected p) v h k = laws.unexpected_none ts end p v h k
none_spelled laws ts end (parse.TooDeep p) v h k = laws.too_deep_none ts end p v h k
none_spelled laws ts end parse.Mem v h k = h

one_reason : Laws → (ts : List Lexeme) (end : Place) (f g : ParseFault) → SpellNone ts end f → SpellNone ts end g → f ≡ g
one_reason laws ts end (parse.Unexpected p) (parse.Unexpected q) h k = ap parse.Unexpected (laws.one_unexpected ts end p q h k)
one_reason laws ts end (parse.TooDeep p) (parse.TooDeep q) h k = ap parse.TooDeep (laws.one_too_deep ts end p q h k)
one_reason laws ts end (parse.Unexpected p) (parse.TooDeep q) h k = absurd (laws.not_both ts end p q h k)
one_reason laws ts end (parse.TooDeep p) (parse.Unexpected q) h k = absurd (laws.not_both ts end q p k h)
one_reason laws ts end parse.Mem g h k = absurd h
one_reason laws ts end (parse.Unexpected p) parse.Mem h k = absurd k
one_reason laws ts end (parse.TooDeep p) parse.Mem h k = absurd k

only_script : Laws → OneList → NeverBoth → (text : List ℕ) (t : List Lexeme × Place) (tree : Tree) → IsTokensOf text t → Spells t.0 tree → ((v : Tree) → Whole t.0 v → v ≡ tree) → IsOnlyScript text tree
only_script laws one never text t tree of spelled only = record {
  is = record { tokens = t; tokens_of = of; spelled = spelled };
  only = λ other h. only other (subst (λ (u : List Lexeme × Place). Spells u.0 other) (one text h.tokens t h.tokens_of of) h.spelled).whole;
  whole = λ fault h. none_spelled laws h.tokens.0 h.tokens.1 fault tree h.none (subst (λ (u : List Lexeme × Place). Spells u.0 tree) (one text t h.tokens of h.tokens_of) spelled);
  lexed = λ fault h. never text t fault of h;
}

only_break : Laws → OneList → NeverBoth → (text : List ℕ) (t : List Lexeme × Place) (fault : ParseFault) → IsTokensOf text t → SpellNone t.0 t.1 fault → IsOnlyBreak text fault
only_break laws one never text t fault of broken = record {
  is = record { tokens = t; tokens_of = of; none = broken };
  only = λ other h. one_reason laws t.0 t.1 other fault (subst (λ (u : List Lexeme × Place). SpellNone u.0 u.1 other) (one text h.tokens t h.tokens_of of) h.none) broken;
  none = λ tree h. none_spelled laws t.0 t.1 fault tree broken (subst (λ (u : List Lexeme × Place). Spells u.0 tree) (one text h.tokens t h.tokens_of of) h.spelled);
  lexed = λ other h. never text t other of h;
}

only_fault : OneBreak → NeverBoth → (text : List ℕ) (fault : LexFault) → Breaks text fault → IsOnlyFault text fault
only_fault one never text fault breaks = record {
  is = breaks;
  only = λ other h. one text other fault h breaks;
  none = λ tokens h. never text tokens fault h breaks;
}

pub tree_read : Laws → OneList → NeverBoth → (text : List ℕ) (t : List Lexeme × Place) (tree : Tree) → IsTokensOf text t → Spells t.0 tree → ((v : Tree) → Whole t.0 v → v ≡ tree) → IsOnlyScript text tree
tree_read laws one never text t tree of spelled only = only_script laws one never text t tree of spelled only

pub parse_read : Laws → OneList → NeverBoth → (text : List ℕ) (t : List Lexeme × Place) (fault : ParseFault) → IsTokensOf text t → Refuses t.0 t.1 fault → LacksTree text (end_of_parse fault)
parse_read laws one never text t parse.Mem of broken = tt
parse_read laws one never text t (parse.Unexpected p) of broken = only_break laws one never text t (parse.Unexpected p) of broken
parse_read laws one never text t (parse.TooDeep p) of broken = only_break laws one never text t (parse.TooDeep p) of broken

pub lex_read : OneBreak → NeverBoth → (text : List ℕ) (fault : LexFault) → LexRefuses text fault → LacksTree text (end_of_lex fault)
lex_read one never text (BadByte place) h = only_fault one never text (BadByte place) h
lex_read one never text (OpenString place) h = only_fault one never text (OpenString place) h
lex_read one never text (OpenComment place) h = only_fault one never text (OpenComment place) h
lex_read one never text (BadEscape place) h = only_fault one never text (BadEscape place) h
lex_read one never text (BigNumber place) h = only_fault one never text (BigNumber place) h
lex_read one never text ScriptTooLong h = only_fault one never text ScriptTooLong h
lex_read one never text lex.Mem h = tt
