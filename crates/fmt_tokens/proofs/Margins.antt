-- How a line end with its margin is read, and what stands before, between and after the parts of a body.
use Rattle.std.proofs.Common.{◌≡◌, ℕ, Bool, true, false, cond, List, [], ◌∷◌, ◌++◌, length, None, refl, sym, ap, ◌∙◌, subst}
use Rattle.std.specs.Prelude.{◌==◌, ◌&&◌, codes}
use Rattle.std.specs.List.{list_all}
use Rattle.std.proofs.lemmas.List.Folds.{list_all-append}
use Rattle.std.proofs.lemmas.Bool.Decides.{Decides-eqb}
use Rattle.nf_value.specs.declared.place.Place.{Place}
use Rattle.nf_lexer.specs.declared.open.Open.{Open}
use Rattle.nf_lexer.specs.Front.{Item, silent, line_end}
use Rattle.nf_lexer.specs.Joined.{Placed, at}
use Rattle.nf_lexer.specs.Separators as s
use Rattle.nf_lexer.specs.Open.{outermost, line_fault, lets_lines_end}
use Rattle.nf_lexer.specs.Place.{place_of}
use Rattle.nf_lexer.specs.First.{line_item}
use Rattle.nf_writer.specs.Ink.{Ink, line}
use Rattle.nf_writer.specs.Lines.{Layout, lines, inline, deeper, before_first, between}
use Rattle.nf_printer.specs.Bodies.{first_before, closure_last}
use Rattle.fmt_tokens.specs.Leads.{Leads, stays}
use Rattle.fmt_tokens.specs.Bits.{ending, Gives}
use Rattle.fmt_tokens.proofs.Tests.{both}
use Rattle.fmt_tokens.proofs.Fronts.{leads_on}
use Rattle.fmt_tokens.proofs.Codes.{is_code}
use Rattle.fmt_tokens.proofs.Marks.{blank_leads, end_leads}
use Rattle.fmt_tokens.proofs.InkLists.{Told, gives_on, Reads, on, weaker}
use Rattle.fmt_tokens.proofs.Stands.{Stand, Lined, Any}
use Rattle.fmt_tokens.proofs.Inks.{told_one, silent_gives, separator_reads, blank_reads}

abbrev pub is_space : ℕ → Bool
is_space b = b == 32

-- a margin has blanks alone
abbrev pub IsMargin : Layout → Type 0
IsMargin (lines m) = list_all is_space m ≡ true
IsMargin inline = Unit {0}

pub deeper_margin : (l : Layout) → IsMargin l → IsMargin (deeper l)
deeper_margin (lines m) h = list_all-append is_space m (codes "    ") ∙ ap (λ t. t && list_all is_space (codes "    ")) h
deeper_margin inline h = tt

blank_at : (source : List ℕ) (o : List Open) (b : ℕ) (bs : List ℕ) → is_code o ≡ true → b ≡ 32 → (place : Place) × Leads source o (b ∷ bs) (at silent place ∷ []) o bs
blank_at source o b bs i e = subst (λ z. (place : Place) × Leads source o (z ∷ bs) (at silent place ∷ []) o bs) (sym e) (place_of source (length (32 ∷ bs)), blank_leads source bs o i)

margin_leads : (source : List ℕ) (o : List Open) (m rest : List ℕ) → is_code o ≡ true → list_all is_space m ≡ true → (v : List Placed) × Leads source o (m ++ rest) v o rest × Gives v []
margin_leads source o [] rest i h = ([], stays, record { segments = []; joins = λ tail. refl; are = refl })
margin_leads source o (b ∷ m) rest i h =
    let e = both (b == 32) (list_all is_space m) h in
    let here = blank_at source o b (m ++ rest) i ((Decides-eqb b 32).0 e.0) in
    let more = margin_leads source o m rest i e.1 in
    (at silent here.0 ∷ more.0, leads_on here.1 more.1, gives_on (silent_gives here.0) more.2)

end_gives : (o : List Open) (place : Place) → lets_lines_end o ≡ true → Gives (at (line_item o) place ∷ []) (ending ∷ [])
end_gives o place h = subst (λ (z : Item). Gives (at z place ∷ []) (ending ∷ [])) (sym (ap (λ t. cond t line_end silent) h)) (record { segments = s.line_end_at place ∷ []; joins = λ tail. refl; are = refl })

line_told : (source : List ℕ) (o : List Open) (m rest : List ℕ) → is_code o ≡ true → outermost line_fault o ≡ None → lets_lines_end o ≡ true → list_all is_space m ≡ true → Told source o o (line m ∷ []) rest
line_told source o m rest i q n h =
    let place = place_of source (length (10 ∷ (m ++ rest))) in
    let blanks = margin_leads source o m rest i h in
    told_one source o o (line m) rest (at (line_item o) place ∷ blanks.0) (leads_on (end_leads source (m ++ rest) o i q) blanks.1) (gives_on (end_gives o place n) blanks.2)

pub line_reads : {n : List ℕ} (m : List ℕ) → list_all is_space m ≡ true → Reads (Lined (lines n)) Any (line m ∷ [])
line_reads m h = record { told = λ source o rest s a. line_told source o m rest s.stand.code (s.stand.quiet refl) s.ends h }

pub lined : {l : Layout} {Q : List ℕ → Type 0} {xs : List Ink} → Reads (Stand l) Q xs → Reads (Lined l) Q xs
lined a = weaker (λ o s. s.stand) (λ rest q. q) a

-- ---- round the parts of a body

pub before_reads : (l : Layout) → IsMargin l → Reads (Lined l) Any (before_first l)
before_reads (lines m) h = line_reads m h
before_reads inline h = lined blank_reads

pub between_reads : (l : Layout) → IsMargin l → Reads (Lined l) Any (between l)
between_reads (lines m) h = line_reads m h
between_reads inline h = lined (on (λ rest r. tt) separator_reads blank_reads)

pub first_reads : (short : Bool) (l : Layout) → IsMargin l → Reads (Lined l) Any (first_before short l)
first_reads true l h = lined blank_reads
first_reads false l h = before_reads l h

pub last_reads : (short : Bool) (l : Layout) → IsMargin l → Reads (Lined l) Any (closure_last short l)
last_reads true l h = lined blank_reads
last_reads false l h = before_reads l h
