-- How what stands in brackets and braces is read.
use Rattle.std.proofs.Common.{Bool, true, false, List, [], ◌∷◌, ◌++◌, refl}
use Rattle.nf_token.specs.declared.token.Mark.TheVariants as m
use Rattle.nf_lexer.specs.declared.open.Open.{Open}
use Rattle.nf_lexer.specs.declared.open.Open.TheVariants.{Round, Square, Brace}
use Rattle.nf_writer.specs.Ink.{Ink, inked, mark}
use Rattle.nf_printer.specs.Levels.{round, within}
use Rattle.nf_writer.specs.Lines.{Layout}
use Rattle.fmt_tokens.proofs.InkLists.{told_on, Reads, weaker}
use Rattle.fmt_tokens.proofs.Stands.{Stand, Lined, in_round, in_square, in_brace, Any, Apart, ends_any}
use Rattle.fmt_tokens.proofs.Inks.{mark_told}

pub round_reads : {l : Layout} {xs : List Ink} → Reads (Stand l) Apart xs → Reads (Stand l) Any (round xs)
round_reads {l} {xs} a = record {
  told = λ source o rest s q.
      told_on {xs = mark m.OpenRound ∷ []} {ys = xs ++ mark m.CloseRound ∷ []} (mark_told source o (Round ∷ o) m.OpenRound (inked (xs ++ mark m.CloseRound ∷ []) ++ rest) s.code (ends_any _) refl refl)
      (told_on (a.told source (Round ∷ o) (inked (mark m.CloseRound ∷ []) ++ rest) (in_round l o s) refl) (mark_told source (Round ∷ o) o m.CloseRound rest refl (ends_any rest) refl refl));
}

pub square_reads : {l : Layout} {xs : List Ink} → Reads (Stand l) Apart xs → Reads (Stand l) Any (mark m.OpenSquare ∷ xs ++ mark m.CloseSquare ∷ [])
square_reads {l} {xs} a = record {
  told = λ source o rest s q.
      told_on {xs = mark m.OpenSquare ∷ []} {ys = xs ++ mark m.CloseSquare ∷ []} (mark_told source o (Square ∷ o) m.OpenSquare (inked (xs ++ mark m.CloseSquare ∷ []) ++ rest) s.code (ends_any _) refl refl)
      (told_on (a.told source (Square ∷ o) (inked (mark m.CloseSquare ∷ []) ++ rest) (in_square l o s) refl) (mark_told source (Square ∷ o) o m.CloseSquare rest refl (ends_any rest) refl refl));
}

pub brace_reads : {l : Layout} {xs : List Ink} → Reads (Lined l) Apart xs → Reads (Stand l) Any (mark m.OpenBrace ∷ xs ++ mark m.CloseBrace ∷ [])
brace_reads {l} {xs} a = record {
  told = λ source o rest s q.
      told_on {xs = mark m.OpenBrace ∷ []} {ys = xs ++ mark m.CloseBrace ∷ []} (mark_told source o (Brace ∷ o) m.OpenBrace (inked (xs ++ mark m.CloseBrace ∷ []) ++ rest) s.code (ends_any _) refl refl)
      (told_on (a.told source (Brace ∷ o) (inked (mark m.CloseBrace ∷ []) ++ rest) (in_brace l o s) refl) (mark_told source (Brace ∷ o) o m.CloseBrace rest refl (ends_any rest) refl refl));
}

pub apart : {P : List Open → Type 0} {xs : List Ink} → Reads P Any xs → Reads P Apart xs
apart a = weaker (λ o p. p) (λ rest q. tt) a

pub within_reads : {l : Layout} {xs : List Ink} (b : Bool) → Reads (Stand l) Apart xs → Reads (Stand l) Apart (within b xs)
within_reads true a = apart (round_reads a)
within_reads false a = a
