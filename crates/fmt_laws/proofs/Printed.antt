-- The canonical text of a script that some text spells has tokens, and they spell that script.
use Rattle.std.proofs.Common.{◌≤◌, ℕ, List, [], length, refl}
use Rattle.nf_token.specs.declared.token.Lexeme.{Lexeme}
use Rattle.nf_lexer.specs.Place.{place_after}
use Rattle.nf_lexer.specs.Tokens.{IsTokensOf, most_bytes}
use Rattle.nf_ast.specs.Tree.{Tree}
use Rattle.nf_exprs.specs.Level as level
use Rattle.nf_printer.specs.Tops.{canonical}
use Rattle.fmt_tokens.specs.Lexed.{IsLexed}
use Rattle.fmt_tokens.proofs.Whole.{canonical_tokens}
use Rattle.fmt_trees.proofs.Again.{spells_again}
use Rattle.fmt_spellable.proofs.Lexed.{lexed_are_fit}
use Rattle.fmt_spellable.proofs.Whole.{spelled_is_made}
use Rattle.fmt_laws.specs.Again.{IsSpelled, IsSpelledAgain, IsSpelledAgainAtLength}

pub is_spelled_again_at_length : (tree : Tree) → IsSpelled tree → IsSpelledAgainAtLength tree
is_spelled_again_at_length tree s =
    let made = spelled_is_made level.Script s.tokens tree [] s.whole (lexed_are_fit s.text (s.tokens, s.end) s.lexed) in
    let told = canonical_tokens tree made.fits in
    record { tokens = told.0; lexed = told.1; spells = spells_again made.shaped told.0 told.2 }

-- where it isn't too long, they are those that the lexer lists
lexed_within : {text : List ℕ} {ts : List Lexeme} → IsLexed text ts → length text ≤ most_bytes → IsTokensOf text (ts, place_after text)
lexed_within l small = record { within = small; items = l.items; reads = l.reads; tokens = l.tokens; end = refl }

pub is_spelled_again : (tree : Tree) → IsSpelled tree → length (canonical tree) ≤ most_bytes → IsSpelledAgain tree
is_spelled_again tree s small =
    let told = is_spelled_again_at_length tree s in
    record { tokens = told.tokens; end = place_after (canonical tree); lexed = lexed_within told.lexed small; spells = told.spells }
