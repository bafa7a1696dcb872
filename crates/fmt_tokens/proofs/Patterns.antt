-- How a printed pattern is read, from its `~/` to its `/`.
use Rattle.std.proofs.Common.{◌≡◌, ℕ, Bool, true, List, [], ◌∷◌, ◌++◌, length, refl, sym, ◌∙◌, subst}
use Rattle.std.specs.Str.{IsUtf8}
use Rattle.std.proofs.lemmas.List.{append_assoc}
use Rattle.nf_value.specs.declared.place.Place.{Place}
use Rattle.nf_token.specs.declared.token.Token.TheVariants as t
use Rattle.nf_token.specs.declared.token.TextKind.TheVariants.{Pattern}
use Rattle.nf_lexer.specs.declared.open.Open.{Open}
use Rattle.nf_lexer.specs.declared.open.Open.TheVariants.{Text}
use Rattle.nf_lexer.specs.declared.open.Change.TheVariants.{Enter}
use Rattle.nf_lexer.specs.Front.{written}
use Rattle.nf_lexer.specs.Joined.{at}
use Rattle.nf_lexer.specs.Open.{outermost, line_fault}
use Rattle.nf_lexer.specs.Place.{place_of}
use Rattle.nf_lexer.specs.First.{opens, in_code}
use Rattle.nf_writer.specs.Ink.{escaped, quoted}
use Rattle.fmt_tokens.specs.Leads.{Leads}
use Rattle.fmt_tokens.specs.Fits.{ends_well}
use Rattle.fmt_tokens.specs.Bits.{token, Gives}
use Rattle.fmt_tokens.proofs.Fronts.{leads_on}
use Rattle.fmt_tokens.proofs.Cuts.{drop_nothing}
use Rattle.fmt_tokens.proofs.Strings.{no_fault, Calm, string_found}
use Rattle.fmt_tokens.proofs.Codes.{is_code, first_in_code, item_leads}
use Rattle.fmt_tokens.proofs.Plain.{ReadAs, end_leads, pattern_gives}

pattern_code : (o : List Open) (place : Place) (bs : List ℕ) → in_code o place 126 (47 ∷ bs) ≡ opens Pattern place 2
unfolding in_code
pattern_code o place bs = refl

begin_leads : (source : List ℕ) (o : List Open) (bs : List ℕ) → is_code o ≡ true → (place : Place) × Leads source o (126 ∷ 47 ∷ bs) (at (written []) place ∷ []) (Text Pattern place ∷ o) bs
begin_leads source o bs i =
    let place = place_of source (length (126 ∷ 47 ∷ bs)) in
    (place, item_leads source (126 ∷ 47 ∷ bs) bs o (written []) (Enter (Text Pattern place)) 2 (first_in_code o place 126 (47 ∷ bs) i (no_fault 126 o refl) ∙ pattern_code o place bs) (drop_nothing bs))

-- a pattern as it is printed is read as the pattern
pub pattern_read : (source : List ℕ) (l : Bool) (o : List Open) (w rest : List ℕ) → is_code o ≡ true → IsUtf8 w → ((place : Place) → Calm Pattern l (outermost line_fault (Text Pattern place ∷ o)) w) → ends_well w ≡ true → ReadAs source o (126 ∷ (quoted Pattern l w ++ rest)) rest (token (t.Pattern w) ∷ [])
pattern_read source l o w rest i u calm e =
    let begun = begin_leads source o (escaped Pattern l w ++ 47 ∷ rest) i in
    let inner = string_found source Pattern l begun.0 o w rest u (calm begun.0) (λ n. e) in
    let end = end_leads source Pattern begun.0 o rest in
    let items = at (written []) begun.0 ∷ (inner.0 ++ end.0) in
    let leads = leads_on begun.1 (leads_on inner.1 end.1) in
    let gives = pattern_gives inner.0 w begun.0 end.2.0 inner.2 in
    (items, subst (λ z. Leads source o (126 ∷ 47 ∷ z) items o rest) (sym (append_assoc (escaped Pattern l w) (47 ∷ []) rest)) leads, subst (λ z. Gives (at (written []) begun.0 ∷ (inner.0 ++ z)) (token (t.Pattern w) ∷ [])) (sym end.2.1) gives)
