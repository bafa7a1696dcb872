-- How what is printed between the quotes of a string is read.
use Rattle.std.proofs.Common.{◌≡◌, ℕ, ◌<◌, Bool, true, false, cond, List, [], ◌∷◌, ◌++◌, length, drop, Option, Some, None, refl, sym, ap, ◌∙◌, subst, arith}
use Rattle.std.specs.Prelude.{not, ◌==◌, ◌&&◌}
use Rattle.std.specs.List.{list_all}
use Rattle.std.specs.Option.{is_none}
use Rattle.std.specs.Str.{IsUtf8}
use Rattle.std.proofs.lemmas.Bool.Decides.{nat_tests, Decides-eqb}
use Rattle.std.proofs.lemmas.List.{append_assoc, append-nil, drop_at}
use Rattle.std.proofs.lemmas.List.Concat.{flat_map-append}
use Rattle.std.proofs.lemmas.Str.{is_utf8-from_IsUtf8}
use Rattle.nf_value.specs.declared.place.Place.{Place}
use Rattle.nf_lexer.specs.declared.fault.LexFault.{LexFault}
use Rattle.nf_token.specs.declared.token.PlainKind.TheVariants.{Single, TripleSingle, Slashes}
use Rattle.nf_token.specs.declared.token.TemplateKind.TheVariants.{Double, TripleDouble}
use Rattle.nf_token.specs.declared.token.TextKind.{TextKind}
use Rattle.nf_token.specs.declared.token.TextKind.TheVariants.{Plain, Pattern, Template}
use Rattle.nf_lexer.specs.declared.open.Open.{Open}
use Rattle.nf_lexer.specs.declared.open.Open.TheVariants.{Text}
use Rattle.nf_lexer.specs.declared.open.Change.TheVariants.{Keep}
use Rattle.nf_lexer.specs.Bytes.{is_special, is_ordinary}
use Rattle.nf_lexer.specs.Front.{written, passes}
use Rattle.nf_lexer.specs.Joined.{Placed, at}
use Rattle.nf_lexer.specs.Open.{outermost, line_fault}
use Rattle.nf_lexer.specs.Place.{place_of}
use Rattle.nf_token.specs.Spellings.{closing}
use Rattle.nf_lexer.specs.First.{has_escapes, in_text, broken_or, fault_at, first}
use Rattle.nf_writer.specs.Ink.{letter, with_letter, byte_text, escaped}
use Rattle.fmt_tokens.specs.Leads.{Leads, stays, goes}
use Rattle.fmt_tokens.specs.Fits.{ends_well}
use Rattle.fmt_tokens.proofs.Tests.{both, is_nothing}
use Rattle.fmt_tokens.proofs.Cuts.{Cut, done, more, cut, run_before, utf8_before, utf8_from, utf8_after, drop_nothing}
use Rattle.fmt_tokens.proofs.Written.{quote, more_quotes, closing_is, no_slash_next, none_quote, run_read, letter_read, special_read}

-- these items are the bytes of a text, all of them
pub data Writes : List Placed → List ℕ → Type 0 where
  writes_none : Writes [] []
  writes_more : (w : List ℕ) (place : Place) {v : List Placed} {bs : List ℕ} → Writes v bs → Writes (at (written w) place ∷ v) (w ++ bs)

-- inside this string, the bytes before the rest are read as this text
abbrev pub Found : List ℕ → List Open → List ℕ → List ℕ → List ℕ → Type 0
Found text o bs rest w = (v : List Placed) × Leads text o bs v o rest × Writes v w

-- ---- one step

pub first_in_text : (k : TextKind) (p place : Place) (o : List Open) (b : ℕ) (bs : List ℕ) → fault_at b (Text k p ∷ o) ≡ None → first (Text k p ∷ o) place (b ∷ bs) ≡ in_text k place b bs
unfolding first
first_in_text k p place o b bs h = ap (λ z. broken_or z (in_text k place b bs)) h

step : (text bs next rest x w : List ℕ) (o : List Open) (n : ℕ) → first o (place_of text (length bs)) bs ≡ passes (written x) Keep n → drop n bs ≡ next → Found text o next rest w → Found text o bs rest (x ++ w)
step text bs next rest x w o n e d f =
    (at (written x) (place_of text (length bs)) ∷ f.0, goes e (subst (λ z. Leads text o z f.0 o rest) (sym d) f.1), writes_more x (place_of text (length bs)) f.2)

pub no_fault : (b : ℕ) (o : List Open) → (b == 10) ≡ false → fault_at b o ≡ None
no_fault b o h = ap (λ t. cond t (outermost line_fault o) None) h

-- ---- runs

abbrev pub stands : TextKind → Bool → ℕ → Bool
stands k l b = is_none (letter k l b) && is_ordinary b

ordinary : (b : ℕ) → is_ordinary b ≡ true → is_special b ≡ false
ordinary b h = grind (arith, nat_tests)

all_ordinary : (k : TextKind) (l : Bool) (w : List ℕ) → list_all (stands k l) w ≡ true → list_all is_ordinary w ≡ true
all_ordinary k l [] h = refl
all_ordinary k l (b ∷ w) h =
    let e = both (stands k l b) (list_all (stands k l) w) h in
    let d = both (is_none (letter k l b)) (is_ordinary b) e.0 in
    ap (λ t. t && list_all is_ordinary w) d.1 ∙ all_ordinary k l w e.1

not_ten : (b : ℕ) → is_special b ≡ false → (b == 10) ≡ false
not_ten b h = grind (arith, nat_tests)

special_ends : (c : ℕ) → is_special c ≡ true → is_ordinary c ≡ false
special_ends c h = ap not h

-- a run of bytes that are printed as they are, before one that may mean something
run_found : (text : List ℕ) (k : TextKind) (l : Bool) (p : Place) (o : List Open) (run : List ℕ) (x : ℕ) (bs rest w : List ℕ) → list_all (stands k l) run ≡ true → IsUtf8 run → is_special x ≡ true → Found text (Text k p ∷ o) (x ∷ bs) rest w → Found text (Text k p ∷ o) (run ++ x ∷ bs) rest (run ++ w)
run_found text k l p o [] x bs rest w h u s f = f
run_found text k l p o (b ∷ run) x bs rest w h u s f =
    let plain = all_ordinary k l (b ∷ run) h in
    let own = ordinary b (both (is_ordinary b) (list_all is_ordinary run) plain).0 in
    let place = place_of text (length (b ∷ (run ++ x ∷ bs))) in
    step text (b ∷ (run ++ x ∷ bs)) (x ∷ bs) rest (b ∷ run) w (Text k p ∷ o) (length (b ∷ run))
    (first_in_text k p place o b (run ++ x ∷ bs) (no_fault b (Text k p ∷ o) (not_ten b own))
    ∙ run_read k place b (run ++ x ∷ bs) (b ∷ run) own (run_before is_ordinary (b ∷ run) x bs plain (special_ends x s)) (is_utf8-from_IsUtf8 (b ∷ run) u))
    (drop_at (b ∷ run) (x ∷ bs) (length (b ∷ run)) refl)
    f

-- ---- a byte that doesn't stand for itself, or may mean something

-- no byte that stands for itself ends a line that mustn't end
abbrev pub Calm : TextKind → Bool → Option LexFault → List ℕ → Type 0
Calm k l f [] = Unit {0}
Calm k l f (b ∷ w) = ((b == 10) ≡ true → letter k l b ≡ None → f ≡ None) × Calm k l f w

fault_by : (b : ℕ) (o : List Open) (t : Bool) → (b == 10) ≡ t → ((b == 10) ≡ true → outermost line_fault o ≡ None) → fault_at b o ≡ None
fault_by b o true e h = ap (λ t. cond t (outermost line_fault o) None) e ∙ h e
fault_by b o false e h = no_fault b o e

none_is : (k : TextKind) (l : Bool) (b : ℕ) (x : Option ℕ) → letter k l b ≡ x → stands k l b ≡ false → x ≡ None → is_special b ≡ true
none_is k l b x e h n = by_special (is_special b) refl (sym (ap (λ z. is_none z && is_ordinary b) (e ∙ n)) ∙ h)
  where
    by_special : (t : Bool) → is_special b ≡ t → is_ordinary b ≡ false → t ≡ true
    by_special true s i = refl
    by_special false s i = absurd (grind (arith, nat_tests))

letter_small : (k : TextKind) (l : Bool) (b c : ℕ) → letter k l b ≡ Some c → b < 128
letter_small (Plain Single) l b c h = grind (arith, nat_tests)
letter_small (Plain TripleSingle) l b c h = grind (arith, nat_tests)
letter_small (Plain Slashes) l b c h = grind (arith, nat_tests)
letter_small Pattern l b c h = grind (arith, nat_tests)
letter_small (Template Double) l b c h = grind (arith, nat_tests)
letter_small (Template TripleDouble) l b c h = grind (arith, nat_tests)

special_small : (b : ℕ) → is_special b ≡ true → b < 128
special_small b h = grind (arith, nat_tests)

small_by : (k : TextKind) (l : Bool) (b : ℕ) (x : Option ℕ) → letter k l b ≡ x → stands k l b ≡ false → b < 128
small_by k l b (Some c) e h = letter_small k l b c e
small_by k l b None e h = special_small b (none_is k l b None e h refl)

-- ---- what is printed for a run

plain_escaped : (k : TextKind) (l : Bool) (run : List ℕ) → list_all (stands k l) run ≡ true → escaped k l run ≡ run
plain_escaped k l [] h = refl
plain_escaped k l (b ∷ run) h =
    let e = both (stands k l b) (list_all (stands k l) run) h in
    let n = is_nothing (letter k l b) (both (is_none (letter k l b)) (is_ordinary b) e.0).0 in
    ap (λ x. with_letter b x ++ escaped k l run) n ∙ ap (λ z. b ∷ z) (plain_escaped k l run e.1)

escaped_parts : (k : TextKind) (l : Bool) (run w rest : List ℕ) (c : ℕ) → list_all (stands k l) run ≡ true → run ++ (byte_text k l c ++ (escaped k l w ++ rest)) ≡ escaped k l (run ++ c ∷ w) ++ rest
escaped_parts k l run w rest c h =
    ap (λ z. run ++ z) (sym (append_assoc (byte_text k l c) (escaped k l w) rest))
    ∙ sym (append_assoc run (byte_text k l c ++ escaped k l w) rest)
    ∙ ap (λ z. (z ++ (byte_text k l c ++ escaped k l w)) ++ rest) (sym (plain_escaped k l run h))
    ∙ ap (λ z. z ++ rest) (sym (flat_map-append (byte_text k l) run (c ∷ w)))

-- ---- what is asked of a backslash and of a line end in a string

ends_after : (run : List ℕ) (c : ℕ) (w : List ℕ) → ends_well (run ++ c ∷ w) ≡ true → ends_well (c ∷ w) ≡ true
ends_after [] c w h = h
ends_after (b ∷ []) c w h = h
ends_after (b ∷ d ∷ run) c w h = ends_after (d ∷ run) c w h

ends_tail : (c : ℕ) (w : List ℕ) → ends_well (c ∷ w) ≡ true → ends_well w ≡ true
ends_tail c [] h = refl
ends_tail c (d ∷ w) h = h

calm_after : (k : TextKind) (l : Bool) (f : Option LexFault) (run : List ℕ) (c : ℕ) (w : List ℕ) → Calm k l f (run ++ c ∷ w) → Calm k l f (c ∷ w)
calm_after k l f [] c w h = h
calm_after k l f (b ∷ run) c w h = calm_after k l f run c w h.1

slash_quote : (k : TextKind) → has_escapes k ≡ false → quote k ≡ 47
slash_quote (Plain Single) h = absurd cc
slash_quote (Plain TripleSingle) h = absurd cc
slash_quote (Plain Slashes) h = refl
slash_quote Pattern h = refl
slash_quote (Template k) h = absurd cc

no_slash_by : (k : TextKind) (l : Bool) (d : ℕ) (bs : List ℕ) (x : Option ℕ) → letter k l d ≡ x → has_escapes k ≡ false → no_slash_next (with_letter d x ++ bs) ≡ true
no_slash_by k l d bs (Some c) e h = refl
no_slash_by k l d bs None e h = ap not (ap (λ z. d == z) (sym (slash_quote k h)) ∙ none_quote k l d e)

no_slash_comes : (k : TextKind) (l : Bool) (w rest : List ℕ) → has_escapes k ≡ false → ends_well (92 ∷ w) ≡ true → no_slash_next (escaped k l w ++ rest) ≡ true
no_slash_comes k l [] rest h e = absurd cc
no_slash_comes k l (d ∷ w) rest h e =
    ap no_slash_next (append_assoc (byte_text k l d) (escaped k l w) rest)
    ∙ no_slash_by k l d (escaped k l w ++ rest) (letter k l d) refl h

no_slash_after : (k : TextKind) (l : Bool) (c : ℕ) (w rest : List ℕ) → (has_escapes k ≡ false → ends_well (c ∷ w) ≡ true) → (c == 92) ≡ true → has_escapes k ≡ false → no_slash_next (escaped k l w ++ rest) ≡ true
no_slash_after k l c w rest e i h = no_slash_comes k l w rest h (subst (λ z. ends_well (z ∷ w) ≡ true) ((Decides-eqb c 92).0 i) (e h))

-- ---- the whole

piece_found : (text : List ℕ) (k : TextKind) (l : Bool) (p : Place) (o : List Open) (run : List ℕ) (c : ℕ) (w bs rest : List ℕ) (x : Option ℕ) → letter k l c ≡ x → list_all (stands k l) run ≡ true → stands k l c ≡ false → IsUtf8 run → ((c == 10) ≡ true → letter k l c ≡ None → outermost line_fault (Text k p ∷ o) ≡ None) → ((c == 92) ≡ true → has_escapes k ≡ false → no_slash_next bs ≡ true) → Found text (Text k p ∷ o) bs rest w → Found text (Text k p ∷ o) (run ++ (with_letter c x ++ bs)) rest (run ++ c ∷ w)
piece_found text k l p o run c w bs rest (Some d) e h s u calm m f =
    let place = place_of text (length (92 ∷ d ∷ bs)) in
    run_found text k l p o run 92 (d ∷ bs) rest (c ∷ w) h u refl
    (step text (92 ∷ d ∷ bs) bs rest (c ∷ []) w (Text k p ∷ o) 2
    (first_in_text k p place o 92 (d ∷ bs) refl ∙ letter_read k l place c d bs e)
    (drop_nothing bs) f)
piece_found text k l p o run c w bs rest None e h s u calm m f =
    let place = place_of text (length (c ∷ bs)) in
    let own = none_is k l c None e s refl in
    run_found text k l p o run c bs rest (c ∷ w) h u own
    (step text (c ∷ bs) bs rest (c ∷ []) w (Text k p ∷ o) 1
    (first_in_text k p place o c bs (fault_by c (Text k p ∷ o) (c == 10) refl (λ t. calm t e)) ∙ special_read k l place c bs e own m)
    (drop_nothing bs) f)

last_found : (text : List ℕ) (k : TextKind) (l : Bool) (p : Place) (o : List Open) (run : List ℕ) (x : ℕ) (bs : List ℕ) → list_all (stands k l) run ≡ true → IsUtf8 run → is_special x ≡ true → Found text (Text k p ∷ o) (escaped k l run ++ x ∷ bs) (x ∷ bs) run
last_found text k l p o run x bs h u s =
    let found = run_found text k l p o run x bs (x ∷ bs) [] h u s ([], stays, writes_none) in
    let whole = subst (λ z. Found text (Text k p ∷ o) (run ++ x ∷ bs) (x ∷ bs) z) (append-nil run) found in
    subst (λ z. Found text (Text k p ∷ o) (z ++ x ∷ bs) (x ∷ bs) run) (sym (plain_escaped k l run h)) whole

found_by : (text : List ℕ) (k : TextKind) (l : Bool) (p : Place) (o : List Open) (w : List ℕ) (x : ℕ) (bs : List ℕ) → Cut (stands k l) w → is_special x ≡ true → IsUtf8 w → Calm k l (outermost line_fault (Text k p ∷ o)) w → (has_escapes k ≡ false → ends_well w ≡ true) → Found text (Text k p ∷ o) (escaped k l w ++ x ∷ bs) (x ∷ bs) w
found_by text k l p o w x bs (done run h) i u calm e = last_found text k l p o run x bs h u i
found_by text k l p o w x bs (more run c v h s tail) i u calm e =
    let small = small_by k l c (letter k l c) refl s in
    let here = calm_after k l (outermost line_fault (Text k p ∷ o)) run c v calm in
    let well = λ (n : has_escapes k ≡ false). ends_after run c v (e n) in
    let later = utf8_after c v small (utf8_from run c v small u) in
    let left = found_by text k l p o v x bs tail i later here.1 (λ n. ends_tail c v (well n)) in
    subst (λ z. Found text (Text k p ∷ o) z (x ∷ bs) (run ++ c ∷ v)) (escaped_parts k l run v (x ∷ bs) c h)
    (piece_found text k l p o run c v (escaped k l v ++ x ∷ bs) (x ∷ bs) (letter k l c) refl h s (utf8_before run c v small u) here.0 (no_slash_after k l c v (x ∷ bs) well) left)

-- what is printed of a text in a string is read as that text, before a byte that may mean something
pub text_found : (text : List ℕ) (k : TextKind) (l : Bool) (p : Place) (o : List Open) (w : List ℕ) (x : ℕ) (bs : List ℕ) → is_special x ≡ true → IsUtf8 w → Calm k l (outermost line_fault (Text k p ∷ o)) w → (has_escapes k ≡ false → ends_well w ≡ true) → Found text (Text k p ∷ o) (escaped k l w ++ x ∷ bs) (x ∷ bs) w
text_found text k l p o w x bs i u calm e = found_by text k l p o w x bs (cut (stands k l) w) i u calm e

quote_special : (k : TextKind) → is_special (quote k) ≡ true
quote_special (Plain Single) = refl
quote_special (Plain TripleSingle) = refl
quote_special (Plain Slashes) = refl
quote_special Pattern = refl
quote_special (Template k) = refl

-- the same up to the last quotes
pub string_found : (text : List ℕ) (k : TextKind) (l : Bool) (p : Place) (o : List Open) (w rest : List ℕ) → IsUtf8 w → Calm k l (outermost line_fault (Text k p ∷ o)) w → (has_escapes k ≡ false → ends_well w ≡ true) → Found text (Text k p ∷ o) (escaped k l w ++ (closing k ++ rest)) (closing k ++ rest) w
string_found text k l p o w rest u calm e =
    subst (λ z. Found text (Text k p ∷ o) (escaped k l w ++ (z ++ rest)) (z ++ rest) w) (sym (closing_is k))
    (text_found text k l p o w (quote k) (more_quotes k ++ rest) (quote_special k) u calm e)
