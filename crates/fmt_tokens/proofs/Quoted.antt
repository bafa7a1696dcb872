-- How an ink that is a string or a pattern is read.
use Rattle.std.proofs.Common.{◌≡◌, ℕ, Bool, true, false, List, [], ◌∷◌, ◌++◌, Option, None, refl, ap, arith}
use Rattle.std.specs.Prelude.{◌==◌}
use Rattle.std.specs.List.{list_all}
use Rattle.std.specs.Str.{IsUtf8}
use Rattle.std.proofs.lemmas.Bool.Decides.{nat_tests}
use Rattle.nf_value.specs.declared.place.Place.{Place}
use Rattle.nf_lexer.specs.declared.fault.LexFault.{LexFault}
use Rattle.nf_token.specs.declared.token.PlainKind.{PlainKind}
use Rattle.nf_token.specs.declared.token.PlainKind.TheVariants.{Single, TripleSingle, Slashes}
use Rattle.nf_token.specs.declared.token.TemplateKind.{TemplateKind}
use Rattle.nf_token.specs.declared.token.TemplateKind.TheVariants.{Double, TripleDouble}
use Rattle.nf_token.specs.declared.token.TextKind.{TextKind}
use Rattle.nf_token.specs.declared.token.TextKind.TheVariants.{Plain, Pattern, Template}
use Rattle.nf_lexer.specs.declared.open.Open.{Open}
use Rattle.nf_lexer.specs.declared.open.Open.TheVariants.{Text}
use Rattle.nf_lexer.specs.Bytes.{is_not_line_feed}
use Rattle.nf_lexer.specs.Open.{rather, outermost, line_fault}
use Rattle.nf_lexer.specs.First.{has_escapes}
use Rattle.nf_writer.specs.Ink as ink
use Rattle.nf_writer.specs.Ink.{Ink, ink_text, letter}
use Rattle.nf_writer.specs.Lines.{Layout, is_inline}
use Rattle.fmt_tokens.specs.InkTokens.{ink_bits}
use Rattle.fmt_tokens.specs.Fits.{IsPlain, IsSlashed, ends_well}
use Rattle.fmt_tokens.proofs.Tests.{both}
use Rattle.fmt_tokens.proofs.Strings.{Calm}
use Rattle.fmt_tokens.proofs.Plain.{ReadAs, begins_well, plain_read}
use Rattle.fmt_tokens.proofs.Patterns.{pattern_read}
use Rattle.fmt_tokens.proofs.InkLists.{Told, Reads}
use Rattle.fmt_tokens.proofs.Stands.{Stand, Apart, ends_single}
use Rattle.fmt_tokens.proofs.Inks.{told_one}

-- ---- no line that mustn't end ends in it

calm_all : (k : TextKind) (l : Bool) (f : Option LexFault) (w : List ℕ) → ((b : ℕ) → (b == 10) ≡ true → letter k l b ≡ None → f ≡ None) → Calm k l f w
calm_all k l f [] h = tt
calm_all k l f (b ∷ w) h = (h b, calm_all k l f w h)

no_end : (f : Option LexFault) (b : ℕ) → is_not_line_feed b ≡ true → (b == 10) ≡ true → f ≡ None
no_end f b h e = absurd (grind (arith, nat_tests))

calm_on_line : (k : TextKind) (l : Bool) (f : Option LexFault) (w : List ℕ) → list_all is_not_line_feed w ≡ true → Calm k l f w
calm_on_line k l f [] h = tt
calm_on_line k l f (b ∷ w) h =
    let e = both (is_not_line_feed b) (list_all is_not_line_feed w) h in
    (λ t n. no_end f b e.0 t, calm_on_line k l f w e.1)

single_letter : (l : Bool) (f : Option LexFault) (b : ℕ) → (b == 10) ≡ true → letter (Plain Single) l b ≡ None → f ≡ None
single_letter l f b t n = absurd (grind (arith, nat_tests))

double_letter : (l : Bool) (f : Option LexFault) (b : ℕ) → (b == 10) ≡ true → letter (Template Double) l b ≡ None → f ≡ None
double_letter l f b t n = absurd (grind (arith, nat_tests))

triple_single_letter : (f : Option LexFault) (b : ℕ) → (b == 10) ≡ true → letter (Plain TripleSingle) true b ≡ None → f ≡ None
triple_single_letter f b t n = absurd (grind (arith, nat_tests))

triple_double_letter : (f : Option LexFault) (b : ℕ) → (b == 10) ≡ true → letter (Template TripleDouble) true b ≡ None → f ≡ None
triple_double_letter f b t n = absurd (grind (arith, nat_tests))

triple_single_calm : (l : Bool) (f : Option LexFault) (w : List ℕ) → (l ≡ false → f ≡ None) → Calm (Plain TripleSingle) l f w
triple_single_calm true f w h = calm_all (Plain TripleSingle) true f w (triple_single_letter f)
triple_single_calm false f w h = calm_all (Plain TripleSingle) false f w (λ b t n. h refl)

triple_double_calm : (l : Bool) (f : Option LexFault) (w : List ℕ) → (l ≡ false → f ≡ None) → Calm (Template TripleDouble) l f w
triple_double_calm true f w h = calm_all (Template TripleDouble) true f w (triple_double_letter f)
triple_double_calm false f w h = calm_all (Template TripleDouble) false f w (λ b t n. h refl)

still : (o : List Open) → outermost line_fault o ≡ None → rather (outermost line_fault o) None ≡ None
still o h = ap (λ z. rather z None) h

pub plain_calm : {l : Layout} {o : List Open} (q : PlainKind) (w : List ℕ) → IsPlain q w → Stand l o → (place : Place) → Calm (Plain q) (is_inline l) (outermost line_fault (Text (Plain q) place ∷ o)) w
plain_calm {l} {o} Single w h s place = calm_all (Plain Single) (is_inline l) _ w (single_letter (is_inline l) _)
plain_calm {l} {o} TripleSingle w h s place = triple_single_calm (is_inline l) _ w (λ n. still o (s.quiet n))
plain_calm {l} {o} Slashes w h s place = calm_on_line (Plain Slashes) (is_inline l) _ w h.slashed.on_line

pub template_calm : {l : Layout} {o : List Open} (q : TemplateKind) (w : List ℕ) → Stand l o → (place : Place) → Calm (Template q) (is_inline l) (outermost line_fault (Text (Template q) place ∷ o)) w
template_calm {l} {o} Double w s place = calm_all (Template Double) (is_inline l) _ w (double_letter (is_inline l) _)
template_calm {l} {o} TripleDouble w s place = triple_double_calm (is_inline l) _ w (λ n. still o (s.quiet n))

-- ---- the whole

plain_utf8 : (q : PlainKind) (w : List ℕ) → IsPlain q w → IsUtf8 w
plain_utf8 Single w h = h
plain_utf8 TripleSingle w h = h
plain_utf8 Slashes w h = h.slashed.utf8

plain_ends : (q : PlainKind) (w : List ℕ) → IsPlain q w → has_escapes (Plain q) ≡ false → ends_well w ≡ true
plain_ends Single w h e = absurd cc
plain_ends TripleSingle w h e = absurd cc
plain_ends Slashes w h e = h.slashed.ends

plain_begins : (q : PlainKind) (w : List ℕ) → IsPlain q w → begins_well q w ≡ true
plain_begins Single w h = refl
plain_begins TripleSingle w h = refl
plain_begins Slashes w h = h.begins

told_read : (source : List ℕ) (o : List Open) (x : Ink) (rest : List ℕ) → ReadAs source o (ink_text x ++ rest) rest (ink_bits x) → Told source o o (x ∷ []) rest
told_read source o x rest r = told_one source o o x rest r.0 r.1 r.2

pub plain_reads : {l : Layout} (q : PlainKind) (w : List ℕ) → IsPlain q w → Reads (Stand l) Apart (ink.plain q (is_inline l) w ∷ [])
plain_reads {l} q w h = record { told = λ source o rest s a. told_read source o (ink.plain q (is_inline l) w) rest (plain_read source q (is_inline l) o w rest s.code (plain_utf8 q w h) (plain_calm q w h s) (plain_ends q w h) (plain_begins q w h) (ends_single rest a)) }

pub pattern_reads : {l : Layout} (w : List ℕ) → IsSlashed w → Reads (Stand l) Apart (ink.pattern w ∷ [])
pattern_reads w h = record { told = λ source o rest s a. told_read source o (ink.pattern w) rest (pattern_read source true o w rest s.code h.utf8 (λ place. calm_on_line Pattern true _ w h.on_line) h.ends) }
