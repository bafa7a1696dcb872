-- How a printed string without holes is read, from its first quote to its last.
use Rattle.std.proofs.Common.{◌≡◌, ℕ, Bool, true, false, List, [], ◌∷◌, ◌++◌, length, take, drop, Option, Some, None, refl, sym, ap, ◌∙◌, subst, arith}
use Rattle.std.specs.Prelude.{nat_eq, not, ◌==◌, ◌||◌}
use Rattle.std.specs.List.{starts_with}
use Rattle.std.specs.Str.{IsUtf8}
use lib.Pointwise.{bytes_decides}
use Rattle.std.proofs.lemmas.Bool.Decides.{nat_tests}
use Rattle.std.proofs.lemmas.List.{append_assoc, append-nil, take_at, drop_at}
use Rattle.nf_value.specs.declared.place.Place.{Place}
use Rattle.nf_token.specs.declared.token.PlainKind.{PlainKind}
use Rattle.nf_token.specs.declared.token.PlainKind.TheVariants.{Single, TripleSingle, Slashes}
use Rattle.nf_token.specs.declared.token.Token.TheVariants as t
use Rattle.nf_token.specs.declared.token.TextKind.{TextKind}
use Rattle.nf_token.specs.declared.token.TextKind.TheVariants.{Plain, Pattern, Template}
use Rattle.nf_lexer.specs.declared.open.Open.{Open}
use Rattle.nf_lexer.specs.declared.open.Open.TheVariants.{Text}
use Rattle.nf_lexer.specs.declared.open.Change.TheVariants.{Enter, Leave}
use Rattle.nf_lexer.specs.Front.{written, passes}
use Rattle.nf_lexer.specs.Joined.{Placed, at, text, joined, lexeme}
use Rattle.nf_lexer.specs.Separators as s
use Rattle.nf_lexer.specs.Open.{outermost, line_fault}
use Rattle.nf_lexer.specs.Place.{place_of}
use Rattle.nf_token.specs.Spellings.{closing}
use Rattle.nf_lexer.specs.First.{opens, slash, in_code, ended, has_escapes, in_text}
use Rattle.nf_writer.specs.Ink.{letter, with_letter, byte_text, escaped, quoted}
use Rattle.fmt_tokens.specs.Leads.{Leads}
use Rattle.fmt_tokens.specs.Fits.{ends_well, begins_slashed}
use Rattle.fmt_tokens.specs.Bits.{Bit, token, Gives}
use Rattle.fmt_tokens.proofs.Tests.{if_true, if_false, neither, not_not}
use Rattle.fmt_tokens.proofs.Fronts.{leads_on}
use Rattle.fmt_tokens.proofs.Written.{quote, more_quotes, closing_is, none_quote}
use Rattle.fmt_tokens.proofs.Strings.{Writes, writes_none, writes_more, first_in_text, no_fault, Calm, string_found}
use Rattle.fmt_tokens.proofs.Codes.{is_code, fails_first, first_in_code, item_leads}

-- ---- where it ends

pub closes_front : (w rest : List ℕ) → starts_with nat_eq (w ++ rest) w ≡ true
closes_front w rest = (bytes_decides w (take (length w) (w ++ rest))).1 (sym (take_at w rest (length w) refl))

quote_no_end : (k : TextKind) → (quote k == 10) ≡ false
quote_no_end (Plain Single) = refl
quote_no_end (Plain TripleSingle) = refl
quote_no_end (Plain Slashes) = refl
quote_no_end Pattern = refl
quote_no_end (Template k) = refl

end_read : (k : TextKind) (place : Place) (rest : List ℕ) → in_text k place (quote k) (more_quotes k ++ rest) ≡ passes (ended k) Leave (length (closing k))
unfolding in_text
end_read k place rest =
    if_true (starts_with nat_eq (quote k ∷ (more_quotes k ++ rest)) (closing k)) _ _
    (ap (λ z. starts_with nat_eq (z ++ rest) (closing k)) (sym (closing_is k)) ∙ closes_front (closing k) rest)

-- the last quotes
pub end_leads : (source : List ℕ) (k : TextKind) (p : Place) (o : List Open) (rest : List ℕ) → (v : List Placed) × Leads source (Text k p ∷ o) (closing k ++ rest) v o rest × ((place : Place) × (v ≡ at (ended k) place ∷ []))
end_leads source k p o rest =
    let bs = quote k ∷ (more_quotes k ++ rest) in
    let place = place_of source (length bs) in
    let d : drop (length (closing k)) bs ≡ rest = ap (λ z. drop (length (closing k)) (z ++ rest)) (sym (closing_is k)) ∙ drop_at (closing k) rest (length (closing k)) refl in
    let leads = item_leads source bs rest (Text k p ∷ o) (ended k) Leave (length (closing k)) (first_in_text k p place o (quote k) (more_quotes k ++ rest) (no_fault (quote k) (Text k p ∷ o) (quote_no_end k)) ∙ end_read k place rest) d in
    (at (ended k) place ∷ [], subst (λ z. Leads source (Text k p ∷ o) (z ++ rest) (at (ended k) place ∷ []) o rest) (sym (closing_is k)) leads, (place, refl))

-- ---- what the parts come to

pub writes_join : (v : List Placed) (w : List ℕ) → Writes v w → (start : Place) (u : List ℕ) (tail : List Placed) → joined (text start u) (v ++ tail) ≡ joined (text start (u ++ w)) tail
writes_join _ _ writes_none start u tail = ap (λ z. joined (text start z) tail) (sym (append-nil u))
writes_join _ _ (writes_more x place {v} {bs} r) start u tail = writes_join v bs r start (u ++ x) tail ∙ ap (λ z. joined (text start z) tail) (append_assoc u x bs)

plain_gives : (k : PlainKind) (v : List Placed) (w : List ℕ) (start place : Place) → Writes v w → Gives (at (written []) start ∷ (v ++ at (ended (Plain k)) place ∷ [])) (token (t.Plain k w) ∷ [])
plain_gives k v w start place r = record {
  segments = s.lexed (lexeme (t.Plain k w) start) ∷ [];
  joins = λ tail. ap (λ z. joined (text start []) z) (append_assoc v (at (ended (Plain k)) place ∷ []) tail) ∙ writes_join v w r start [] (at (ended (Plain k)) place ∷ tail);
  are = refl;
}

pub pattern_gives : (v : List Placed) (w : List ℕ) (start place : Place) → Writes v w → Gives (at (written []) start ∷ (v ++ at (ended Pattern) place ∷ [])) (token (t.Pattern w) ∷ [])
pattern_gives v w start place r = record {
  segments = s.lexed (lexeme (t.Pattern w) start) ∷ [];
  joins = λ tail. ap (λ z. joined (text start []) z) (append_assoc v (at (ended Pattern) place ∷ []) tail) ∙ writes_join v w r start [] (at (ended Pattern) place ∷ tail);
  are = refl;
}

-- ---- where it begins

-- one quote alone: two more of it don't follow
abbrev pub differs : ℕ → List ℕ → Bool
differs q [] = true
differs q (c ∷ bs) = not (c == q) || fails_first (λ b. b == q) bs

-- what may follow the first `/`
abbrev pub no_comment : List ℕ → Bool
no_comment [] = true
no_comment (c ∷ bs) = not (c == 47 || c == 42)

abbrev pub opens_well : PlainKind → List ℕ → Bool
opens_well Single bs = differs 39 bs
opens_well TripleSingle bs = true
opens_well Slashes bs = no_comment bs

abbrev second_of : List ℕ → ℕ
second_of [] = 0
second_of (a ∷ []) = 0
second_of (a ∷ b ∷ w) = b

abbrev third_of : List ℕ → ℕ
third_of [] = 0
third_of (a ∷ []) = 0
third_of (a ∷ b ∷ []) = 0
third_of (a ∷ b ∷ c ∷ w) = c

three_by : (q : ℕ) (bs : List ℕ) (t : Bool) → differs q bs ≡ true → starts_with nat_eq (q ∷ bs) (q ∷ q ∷ q ∷ []) ≡ t → t ≡ false
three_by q bs false d h = refl
three_by q [] true d h = let n : 3 ≡ 1 = ap (λ (z : List ℕ). length z) ((bytes_decides (q ∷ q ∷ q ∷ []) (take 3 (q ∷ []))).0 h) in absurd (omega (arith, n))
three_by q (c ∷ []) true d h = let n : 3 ≡ 2 = ap (λ (z : List ℕ). length z) ((bytes_decides (q ∷ q ∷ q ∷ []) (take 3 (q ∷ c ∷ []))).0 h) in absurd (omega (arith, n))
three_by q (c ∷ e ∷ bs) true d h =
    let same = (bytes_decides (q ∷ q ∷ q ∷ []) (take 3 (q ∷ c ∷ e ∷ bs))).0 h in
    let one : q ≡ c = ap second_of same in
    let two : q ≡ e = ap third_of same in
    absurd (grind (arith, nat_tests))

pub not_three : (q : ℕ) (bs : List ℕ) → differs q bs ≡ true → starts_with nat_eq (q ∷ bs) (q ∷ q ∷ q ∷ []) ≡ false
not_three q bs d = three_by q bs (starts_with nat_eq (q ∷ bs) (q ∷ q ∷ q ∷ [])) d refl

slash_opens : (place : Place) (bs : List ℕ) → no_comment bs ≡ true → slash place bs ≡ opens (Plain Slashes) place 1
slash_opens place [] h = refl
slash_opens place (c ∷ bs) h =
    let e = neither (c == 47) (c == 42) (not_not (c == 47 || c == 42) h) in
    if_false (c == 47) _ _ e.0 ∙ if_false (c == 42) _ _ e.1

plain_code : (k : PlainKind) (o : List Open) (place : Place) (bs : List ℕ) → opens_well k bs ≡ true → in_code o place (quote (Plain k)) (more_quotes (Plain k) ++ bs) ≡ opens (Plain k) place (length (closing (Plain k)))
unfolding in_code
plain_code Single o place bs h = if_false (starts_with nat_eq (39 ∷ bs) (39 ∷ 39 ∷ 39 ∷ [])) _ _ (not_three 39 bs h)
plain_code TripleSingle o place bs h = if_true (starts_with nat_eq (39 ∷ 39 ∷ 39 ∷ bs) (39 ∷ 39 ∷ 39 ∷ [])) (opens (Plain TripleSingle) place 3) (opens (Plain Single) place 1) (closes_front (39 ∷ 39 ∷ 39 ∷ []) bs)
plain_code Slashes o place bs h = slash_opens place bs h

-- the first quotes
begin_leads : (source : List ℕ) (k : PlainKind) (o : List Open) (bs : List ℕ) → is_code o ≡ true → opens_well k bs ≡ true → (place : Place) × Leads source o (closing (Plain k) ++ bs) (at (written []) place ∷ []) (Text (Plain k) place ∷ o) bs
begin_leads source k o bs i h =
    let all = quote (Plain k) ∷ (more_quotes (Plain k) ++ bs) in
    let place = place_of source (length all) in
    let d : drop (length (closing (Plain k))) all ≡ bs = ap (λ z. drop (length (closing (Plain k))) (z ++ bs)) (sym (closing_is (Plain k))) ∙ drop_at (closing (Plain k)) bs (length (closing (Plain k))) refl in
    let leads = item_leads source all bs o (written []) (Enter (Text (Plain k) place)) (length (closing (Plain k))) (first_in_code o place (quote (Plain k)) (more_quotes (Plain k) ++ bs) i (no_fault (quote (Plain k)) o (quote_no_end (Plain k))) ∙ plain_code k o place bs h) d in
    (place, subst (λ z. Leads source o (z ++ bs) (at (written []) place ∷ []) (Text (Plain k) place ∷ o) bs) (sym (closing_is (Plain k))) leads)

-- ---- the whole

-- what is asked of a string that a text can spell: of its bytes, its first and its last
abbrev pub begins_well : PlainKind → List ℕ → Bool
begins_well Slashes w = begins_slashed w
begins_well _ w = true

first_single : (l : Bool) (b : ℕ) (bs : List ℕ) (x : Option ℕ) → letter (Plain Single) l b ≡ x → differs 39 (with_letter b x ++ bs) ≡ true
first_single l b bs (Some c) e = refl
first_single l b bs None e = ap (λ t. not t || fails_first (λ c. c == 39) bs) (none_quote (Plain Single) l b e)

first_slash : (l : Bool) (b : ℕ) (bs : List ℕ) (x : Option ℕ) → letter (Plain Slashes) l b ≡ x → not (b == 42) ≡ true → no_comment (with_letter b x ++ bs) ≡ true
first_slash l b bs (Some c) e h = refl
first_slash l b bs None e h = ap (λ t. not (t || b == 42)) (none_quote (Plain Slashes) l b e) ∙ h

opening_fits : (k : PlainKind) (l : Bool) (w rest : List ℕ) → begins_well k w ≡ true → fails_first (λ c. c == 39) rest ≡ true → opens_well k (escaped (Plain k) l w ++ (closing (Plain k) ++ rest)) ≡ true
opening_fits Single l [] rest b h = h
opening_fits Single l (c ∷ w) rest b h =
    ap (differs 39) (append_assoc (byte_text (Plain Single) l c) (escaped (Plain Single) l w) (39 ∷ rest))
    ∙ first_single l c (escaped (Plain Single) l w ++ 39 ∷ rest) (letter (Plain Single) l c) refl
opening_fits TripleSingle l w rest b h = refl
opening_fits Slashes l [] rest b h = absurd cc
opening_fits Slashes l (c ∷ w) rest b h =
    ap no_comment (append_assoc (byte_text (Plain Slashes) l c) (escaped (Plain Slashes) l w) (47 ∷ rest))
    ∙ first_slash l c (escaped (Plain Slashes) l w ++ 47 ∷ rest) (letter (Plain Slashes) l c) refl b

-- outside strings, these bytes are read as items that come to these bits
abbrev pub ReadAs : List ℕ → List Open → List ℕ → List ℕ → List Bit → Type 0
ReadAs source o bs rest bits = (v : List Placed) × Leads source o bs v o rest × Gives v bits

quoted_parts : (k : PlainKind) (l : Bool) (w rest : List ℕ) → closing (Plain k) ++ (escaped (Plain k) l w ++ (closing (Plain k) ++ rest)) ≡ quoted (Plain k) l w ++ rest
quoted_parts k l w rest =
    sym (append_assoc (closing (Plain k)) (escaped (Plain k) l w) (closing (Plain k) ++ rest))
    ∙ sym (append_assoc (closing (Plain k) ++ escaped (Plain k) l w) (closing (Plain k)) rest)

-- a string as it is printed is read as the string
pub plain_read : (source : List ℕ) (k : PlainKind) (l : Bool) (o : List Open) (w rest : List ℕ) → is_code o ≡ true → IsUtf8 w → ((place : Place) → Calm (Plain k) l (outermost line_fault (Text (Plain k) place ∷ o)) w) → (has_escapes (Plain k) ≡ false → ends_well w ≡ true) → begins_well k w ≡ true → fails_first (λ c. c == 39) rest ≡ true → ReadAs source o (quoted (Plain k) l w ++ rest) rest (token (t.Plain k w) ∷ [])
plain_read source k l o w rest i u calm e b f =
    let begun = begin_leads source k o (escaped (Plain k) l w ++ (closing (Plain k) ++ rest)) i (opening_fits k l w rest b f) in
    let inner = string_found source (Plain k) l begun.0 o w rest u (calm begun.0) e in
    let end = end_leads source (Plain k) begun.0 o rest in
    let items = at (written []) begun.0 ∷ (inner.0 ++ end.0) in
    let leads = leads_on begun.1 (leads_on inner.1 end.1) in
    let gives = plain_gives k inner.0 w begun.0 end.2.0 inner.2 in
    (items, subst (λ z. Leads source o z items o rest) (quoted_parts k l w rest) leads, subst (λ z. Gives (at (written []) begun.0 ∷ (inner.0 ++ z)) (token (t.Plain k w) ∷ [])) (sym end.2.1) gives)
