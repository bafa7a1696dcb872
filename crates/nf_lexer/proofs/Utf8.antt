-- What stands first takes whole characters, so that a text that has tokens is UTF-8.
use Rattle.std.proofs.Common.{◌≡◌, ℕ, ◌<◌, Bool, true, false, cond, List, [], ◌∷◌, ◌++◌, length, take, drop, Option, Some, None, refl, sym, ap, ◌∙◌, subst, arith}
use Rattle.std.specs.Prelude.{nat_lt, nat_eq, ◌==◌, ◌&&◌, take_while}
use Rattle.std.specs.List.{starts_with, prefix_len, list_all}
use Rattle.std.specs.Char.{is_ascii_digit, is_ascii_hexdigit}
use Rattle.std.specs.Str.{IsUtf8, IsAscii, is_utf8}
use Rattle.std.specs.Str.Parse.{digits_value}
use lib.Pointwise.{bytes_decides}
use Rattle.std.proofs.lemmas.Bool.Decides.{nat_tests, Decides-eqb}
use Rattle.std.proofs.lemmas.List.{take-append-drop, length-take-le, take_at}
use Rattle.std.proofs.lemmas.List.Sums.{prefix_len-le-length}
use Rattle.std.proofs.lemmas.Str.{IsUtf8-append, IsUtf8-nil, IsUtf8-from_ascii, IsUtf8-from_is_utf8}
use Rattle.nf_value.specs.declared.place.Place.{Place}
use Rattle.nf_lexer.specs.declared.fault.LexFault.{LexFault}
use Rattle.nf_token.specs.declared.token.Mark.{Mark}
use Rattle.nf_token.specs.declared.token.Lexeme.{Lexeme}
use Rattle.nf_token.specs.declared.token.PlainKind.TheVariants.{Single, TripleSingle, Slashes}
use Rattle.nf_token.specs.declared.token.TemplateKind.TheVariants.{Double, TripleDouble}
use Rattle.nf_token.specs.declared.token.TextKind.{TextKind}
use Rattle.nf_token.specs.declared.token.TextKind.TheVariants.{Plain, Pattern, Template}
use Rattle.nf_lexer.specs.declared.open.Open.{Open}
use Rattle.nf_lexer.specs.declared.open.Open.TheVariants.{Round, Square, Brace, Hole, NamedHole, Text, Comment, LineComment}
use Rattle.nf_lexer.specs.declared.open.Change.{Change}
use Rattle.nf_lexer.specs.declared.open.Change.TheVariants.{Keep}
use Rattle.nf_lexer.specs.Bytes.{is_blank, begins_name, is_in_name, is_not_line_feed, is_special, is_ordinary, is_in_comment}
use Rattle.nf_lexer.specs.Front.{Item, silent, First, passes, finished, broken, checked}
use Rattle.nf_lexer.specs.Joined.{Placed}
use Rattle.nf_lexer.specs.Open.{innermost, outermost, end_fault}
use Rattle.nf_lexer.specs.Place.{place_of}
use Rattle.nf_token.specs.Spellings.{marks, closing}
use Rattle.nf_lexer.specs.Word.{word, number, limit, begins_property}
use Rattle.nf_lexer.specs.Mark.{past, mark_or, mark_in, mark, marked}
use Rattle.nf_lexer.specs.Escape.{escaped, hex_number, character, written_or_bad, escape, kept}
use Rattle.nf_lexer.specs.First.{quote, slash, tilde, in_code, has_escapes, has_holes, hole, in_text, in_named_hole, star, in_comment, in_open, broken_or, fault_at, first}
use Rattle.nf_lexer.specs.Tokens.{Reads, ends, breaks, goes, IsTokensOf}
use Rattle.nf_lexer.proofs.Runs.{all_of_run, ascii_cons, name_ascii}

abbrev Clean : List ℕ → First → Type 0
Clean bs (passes item change n) = IsUtf8 (take n bs)
Clean bs finished = bs ≡ []
Clean bs (broken fault) = Unit {0}

if_clean : (bs : List ℕ) (c : Bool) (x y : First) → (c ≡ true → Clean bs x) → (c ≡ false → Clean bs y) → Clean bs (cond c x y)
if_clean bs true x y h k = h refl
if_clean bs false x y h k = k refl

-- ---- a few bytes of ASCII

nil_ascii : IsAscii []
nil_ascii = λ i. omega arith

take_one : (b : ℕ) (bs : List ℕ) → take 1 (b ∷ bs) ≡ b ∷ []
take_one b [] = refl
take_one b (c ∷ bs) = refl

take_two : (b c : ℕ) (bs : List ℕ) → take 2 (b ∷ c ∷ bs) ≡ b ∷ c ∷ []
take_two b c bs = ap (λ z. b ∷ z) (take_one c bs)

take_nothing : (bs : List ℕ) → take 0 bs ≡ []
take_nothing [] = refl
take_nothing (b ∷ bs) = refl

one : (b : ℕ) (bs : List ℕ) → b < 128 → Clean (b ∷ bs) (passes silent Keep 1)
one b bs h = subst IsUtf8 (sym (take_one b bs)) (IsUtf8-from_ascii (b ∷ []) (ascii_cons b [] h nil_ascii))

two : (b c : ℕ) (bs : List ℕ) → b < 128 → c < 128 → Clean (b ∷ c ∷ bs) (passes silent Keep 2)
two b c bs h k = subst IsUtf8 (sym (take_two b c bs)) (IsUtf8-from_ascii (b ∷ c ∷ []) (ascii_cons b (c ∷ []) h (ascii_cons c [] k nil_ascii)))

-- ---- runs

taken : (p : ℕ → Bool) (bs : List ℕ) → take (length (take_while p bs)) bs ≡ take_while p bs
taken p bs = ap (λ (n : ℕ). take n bs) (length-take-le (prefix_len p bs) bs (prefix_len-le-length p bs))

checked_clean : (p : ℕ → Bool) (bs : List ℕ) (place : Place) (item : Item) (change : Change) → Clean bs (checked place (take_while p bs) item change)
checked_clean p bs place item change =
    if_clean bs (is_utf8 (take_while p bs)) _ _
    (λ h. subst IsUtf8 (sym (taken p bs)) (IsUtf8-from_is_utf8 (take_while p bs) h))
    (λ _. tt)

abbrev is_small : ℕ → Bool
is_small b = nat_lt b 128

small_below : (b : ℕ) → is_small b ≡ true → b < 128
small_below b h = grind (arith, nat_tests)

both : (a b : Bool) → (a && b) ≡ true → (a ≡ true) × (b ≡ true)
both true b h = (refl, h)
both false b h = absurd cc

all_ascii : (w : List ℕ) → list_all is_small w ≡ true → IsAscii w
all_ascii [] h = nil_ascii
all_ascii (b ∷ w) h =
    let k = both (is_small b) (list_all is_small w) h in
    ascii_cons b w (small_below b k.0) (all_ascii w k.1)

digit_small : (b : ℕ) → is_ascii_digit b ≡ true → is_small b ≡ true
digit_small b h = grind (arith, nat_tests)

word_clean : (bs : List ℕ) → Clean bs (word bs)
word_clean bs = subst IsUtf8 (sym (taken is_in_name bs)) (IsUtf8-from_ascii (take_while is_in_name bs) (name_ascii bs))

number_clean : (place : Place) (bs : List ℕ) → Clean bs (number place bs)
unfolding number
number_clean place bs =
    if_clean bs (nat_lt limit (digits_value 10 (take_while is_ascii_digit bs))) _ _ (λ _. tt)
    (λ _. subst IsUtf8 (sym (taken is_ascii_digit bs)) (IsUtf8-from_ascii (take_while is_ascii_digit bs) (all_ascii (take_while is_ascii_digit bs) (all_of_run is_ascii_digit is_small digit_small bs))))

-- ---- marks

past_if : (c : Bool) (b x : ℕ) (w bs rest : List ℕ) → (c ≡ true → b ≡ x) → (past w bs ≡ Some rest → bs ≡ w ++ rest) → cond c (past w bs) None ≡ Some rest → b ∷ bs ≡ x ∷ (w ++ rest)
past_if true b x w bs rest h k e = ap (λ z. z ∷ bs) (h refl) ∙ ap (λ z. x ∷ z) (k e)
past_if false b x w bs rest h k e = absurd cc

past_is : (w bs rest : List ℕ) → past w bs ≡ Some rest → bs ≡ w ++ rest
past_is [] bs rest e = cc
past_is (x ∷ w) [] rest e = absurd cc
past_is (x ∷ w) (b ∷ bs) rest e = past_if (b == x) b x w bs rest (Decides-eqb b x).0 (past_is w bs rest) e

abbrev CleanMark : List ℕ → Option (Mark × ℕ) → Type 0
CleanMark bs None = Unit {0}
CleanMark bs (Some x) = IsUtf8 (take x.1 bs)

abbrev are_small : List (List ℕ × Mark) → Bool
are_small [] = true
are_small (x ∷ xs) = list_all is_small x.0 && are_small xs

front_clean : (w bs rest : List ℕ) → list_all is_small w ≡ true → bs ≡ w ++ rest → IsUtf8 (take (length w) bs)
front_clean w bs rest h e =
    let f : take (length w) bs ≡ w = ap (take (length w)) e ∙ take_at w rest (length w) refl in
    subst IsUtf8 (sym f) (IsUtf8-from_ascii w (all_ascii w h))

or_clean : (o : Option (List ℕ)) (m : Mark) (w bs : List ℕ) (other : Option (Mark × ℕ)) → list_all is_small w ≡ true → past w bs ≡ o → CleanMark bs other → CleanMark bs (mark_or o m (length w) other)
or_clean (Some rest) m w bs other h e k = front_clean w bs rest h (past_is w bs rest e)
or_clean None m w bs other h e k = k

marks_clean : (ms : List (List ℕ × Mark)) (bs : List ℕ) → are_small ms ≡ true → CleanMark bs (mark_in ms bs)
marks_clean [] bs h = tt
marks_clean (x ∷ ms) bs h =
    let k = both (list_all is_small x.0) (are_small ms) h in
    or_clean (past x.0 bs) x.1 x.0 bs (mark_in ms bs) k.0 refl (marks_clean ms bs k.1)

mark_clean : (bs : List ℕ) → CleanMark bs (mark bs)
unfolding mark
mark_clean bs = marks_clean marks bs refl

marked_clean : (o : List Open) (place : Place) (bs : List ℕ) (x : Option (Mark × ℕ)) → CleanMark bs x → Clean bs (marked o place x)
marked_clean o place bs (Some x) k = k
marked_clean o place bs None k = tt

-- ---- between tokens

starts_clean : (bs w : List ℕ) → list_all is_small w ≡ true → starts_with nat_eq bs w ≡ true → IsUtf8 (take (length w) bs)
starts_clean bs w h k =
    let e : w ≡ take (length w) bs = (bytes_decides w (take (length w) bs)).0 k in
    subst IsUtf8 e (IsUtf8-from_ascii w (all_ascii w h))

closing_small : (k : TextKind) → list_all is_small (closing k) ≡ true
closing_small (Plain Single) = refl
closing_small (Plain TripleSingle) = refl
closing_small (Plain Slashes) = refl
closing_small Pattern = refl
closing_small (Template Double) = refl
closing_small (Template TripleDouble) = refl

quote_clean : (triple single : TextKind) (place : Place) (b : ℕ) (bs : List ℕ) → length (closing triple) ≡ 3 → b < 128 → Clean (b ∷ bs) (quote triple single place (b ∷ bs))
quote_clean triple single place b bs three h =
    if_clean (b ∷ bs) (starts_with nat_eq (b ∷ bs) (closing triple)) _ _
    (λ k. subst (λ (n : ℕ). IsUtf8 (take n (b ∷ bs))) three (starts_clean (b ∷ bs) (closing triple) (closing_small triple) k))
    (λ _. one b bs h)

is_that : (b n : ℕ) → (b == n) ≡ true → n < 128 → b < 128
is_that b n h k = let e : b ≡ n = (Decides-eqb b n).0 h in omega arith

slash_clean : (place : Place) (b : ℕ) (bs : List ℕ) → b < 128 → Clean (b ∷ bs) (slash place bs)
slash_clean place b [] h = one b [] h
slash_clean place b (c ∷ bs) h =
    if_clean (b ∷ c ∷ bs) (c == 47) _ _ (λ k. two b c bs h (is_that c 47 k (omega arith))) (λ _.
    if_clean (b ∷ c ∷ bs) (c == 42) _ _ (λ k. two b c bs h (is_that c 42 k (omega arith))) (λ _. one b (c ∷ bs) h))

tilde_clean : (place : Place) (b : ℕ) (bs : List ℕ) → b < 128 → Clean (b ∷ bs) (tilde place bs)
tilde_clean place b [] h = tt
tilde_clean place b (c ∷ bs) h = if_clean (b ∷ c ∷ bs) (c == 47) _ _ (λ k. two b c bs h (is_that c 47 k (omega arith))) (λ _. tt)

blank_small : (b : ℕ) → is_blank b ≡ true → b < 128
blank_small b h = grind (arith, nat_tests)

code_clean : (o : List Open) (place : Place) (b : ℕ) (bs : List ℕ) → Clean (b ∷ bs) (in_code o place b bs)
unfolding in_code
code_clean o place b bs =
    if_clean (b ∷ bs) (is_blank b) _ _ (λ h. one b bs (blank_small b h)) (λ _.
    if_clean (b ∷ bs) (b == 10) _ _ (λ h. one b bs (is_that b 10 h (omega arith))) (λ _.
    if_clean (b ∷ bs) (b == 59) _ _ (λ h. one b bs (is_that b 59 h (omega arith))) (λ _.
    if_clean (b ∷ bs) (begins_name b) _ _ (λ _. word_clean (b ∷ bs)) (λ _.
    if_clean (b ∷ bs) (is_ascii_digit b) _ _ (λ _. number_clean place (b ∷ bs)) (λ _.
    if_clean (b ∷ bs) (b == 39) _ _ (λ h. quote_clean (Plain TripleSingle) (Plain Single) place b bs refl (is_that b 39 h (omega arith))) (λ _.
    if_clean (b ∷ bs) (b == 34) _ _ (λ h. quote_clean (Template TripleDouble) (Template Double) place b bs refl (is_that b 34 h (omega arith))) (λ _.
    if_clean (b ∷ bs) (b == 47) _ _ (λ h. slash_clean place b bs (is_that b 47 h (omega arith))) (λ _.
    if_clean (b ∷ bs) (b == 126) _ _ (λ h. tilde_clean place b bs (is_that b 126 h (omega arith))) (λ _.
    marked_clean o place (b ∷ bs) (mark (b ∷ bs)) (mark_clean (b ∷ bs)))))))))))

-- ---- in strings

written_clean : (place : Place) (bs : List ℕ) (w : Option (List ℕ)) (n : ℕ) → ((v : List ℕ) → w ≡ Some v → IsUtf8 (take n bs)) → Clean bs (written_or_bad place w n)
written_clean place bs (Some w) n h = h w refl
written_clean place bs None n h = tt

escaped_small : (c : ℕ) (v : List ℕ) → escaped c ≡ Some v → c < 128
escaped_small c v e = grind (arith, nat_tests)

hex_small : (c : ℕ) → is_ascii_hexdigit c ≡ true → c < 128
hex_small c h = grind (arith, nat_tests)

take_six : (b u x y z w : ℕ) (bs : List ℕ) → take 6 (b ∷ u ∷ x ∷ y ∷ z ∷ w ∷ bs) ≡ b ∷ u ∷ x ∷ y ∷ z ∷ w ∷ []
take_six b u x y z w bs = ap (λ t. b ∷ u ∷ x ∷ y ∷ t) (take_two z w bs)

six_utf8 : (b u x y z w : ℕ) (bs : List ℕ) → b < 128 → u < 128 → x < 128 → y < 128 → z < 128 → w < 128 → IsUtf8 (take 6 (b ∷ u ∷ x ∷ y ∷ z ∷ w ∷ bs))
six_utf8 b u x y z w bs hb hu hx hy hz hw =
    subst IsUtf8 (sym (take_six b u x y z w bs)) (IsUtf8-from_ascii (b ∷ u ∷ x ∷ y ∷ z ∷ w ∷ [])
    (ascii_cons b (u ∷ x ∷ y ∷ z ∷ w ∷ []) hb (ascii_cons u (x ∷ y ∷ z ∷ w ∷ []) hu (ascii_cons x (y ∷ z ∷ w ∷ []) hx (ascii_cons y (z ∷ w ∷ []) hy (ascii_cons z (w ∷ []) hz (ascii_cons w [] hw nil_ascii)))))))

digits_if : (c : Bool) (n : ℕ) (v : List ℕ) → character (cond c (Some n) None) ≡ Some v → c ≡ true
digits_if true n v e = refl
digits_if false n v e = absurd cc

unicode_clean : (place : Place) (b u : ℕ) (bs : List ℕ) → b < 128 → u < 128 → Clean (b ∷ u ∷ bs) (written_or_bad place (character (hex_number bs)) 6)
unicode_clean place b u [] h k = tt
unicode_clean place b u (x ∷ []) h k = tt
unicode_clean place b u (x ∷ y ∷ []) h k = tt
unicode_clean place b u (x ∷ y ∷ z ∷ []) h k = tt
unicode_clean place b u (x ∷ y ∷ z ∷ w ∷ bs) h k =
    written_clean place (b ∷ u ∷ x ∷ y ∷ z ∷ w ∷ bs) (character (hex_number (x ∷ y ∷ z ∷ w ∷ bs))) 6 (λ v e.
    let d = digits_if ((is_ascii_hexdigit x && is_ascii_hexdigit y) && (is_ascii_hexdigit z && is_ascii_hexdigit w)) (digits_value 16 (x ∷ y ∷ z ∷ w ∷ [])) v e in
    let p = both (is_ascii_hexdigit x && is_ascii_hexdigit y) (is_ascii_hexdigit z && is_ascii_hexdigit w) d in
    let q = both (is_ascii_hexdigit x) (is_ascii_hexdigit y) p.0 in
    let r = both (is_ascii_hexdigit z) (is_ascii_hexdigit w) p.1 in
    six_utf8 b u x y z w bs h k (hex_small x q.0) (hex_small y q.1) (hex_small z r.0) (hex_small w r.1))

escape_clean : (place : Place) (b : ℕ) (bs : List ℕ) → b < 128 → Clean (b ∷ bs) (escape place bs)
escape_clean place b [] h = tt
escape_clean place b (c ∷ bs) h =
    if_clean (b ∷ c ∷ bs) (c == 117) _ _ (λ k. unicode_clean place b c bs h (is_that c 117 k (omega arith)))
    (λ _. written_clean place (b ∷ c ∷ bs) (escaped c) 2 (λ v e. two b c bs h (escaped_small c v e)))

kept_clean : (b : ℕ) (bs : List ℕ) → b < 128 → Clean (b ∷ bs) (kept bs)
kept_clean b [] h = one b [] h
kept_clean b (c ∷ bs) h = if_clean (b ∷ c ∷ bs) (c == 47) _ _ (λ k. two b c bs h (is_that c 47 k (omega arith))) (λ _. one b (c ∷ bs) h)

hole_clean : (b : ℕ) (bs : List ℕ) → b < 128 → Clean (b ∷ bs) (hole bs)
hole_clean b [] h = one b [] h
hole_clean b (c ∷ bs) h =
    if_clean (b ∷ c ∷ bs) (c == 123) _ _ (λ k. two b c bs h (is_that c 123 k (omega arith))) (λ _.
    if_clean (b ∷ c ∷ bs) (begins_name c) _ _ (λ _. one b (c ∷ bs) h) (λ _. one b (c ∷ bs) h))

special_small : (b : ℕ) → is_special b ≡ true → b < 128
special_small b h = grind (arith, nat_tests)

text_clean : (k : TextKind) (place : Place) (b : ℕ) (bs : List ℕ) → Clean (b ∷ bs) (in_text k place b bs)
unfolding in_text
text_clean k place b bs =
    if_clean (b ∷ bs) (starts_with nat_eq (b ∷ bs) (closing k)) _ _ (λ h. starts_clean (b ∷ bs) (closing k) (closing_small k) h) (λ _.
    if_clean (b ∷ bs) (b == 92) _ _ (λ h. if_clean (b ∷ bs) (has_escapes k) _ _ (λ _. escape_clean place b bs (is_that b 92 h (omega arith))) (λ _. kept_clean b bs (is_that b 92 h (omega arith)))) (λ _.
    if_clean (b ∷ bs) (b == 36 && has_holes k) _ _ (λ h. hole_clean b bs (is_that b 36 (both (b == 36) (has_holes k) h).0 (omega arith))) (λ _.
    if_clean (b ∷ bs) (is_special b) _ _ (λ h. one b bs (special_small b h)) (λ _.
    checked_clean is_ordinary (b ∷ bs) place _ _))))

-- ---- in comments and holes

named_clean : (b : ℕ) (bs : List ℕ) → Clean (b ∷ bs) (in_named_hole b bs)
named_clean b bs =
    if_clean (b ∷ bs) (begins_name b) _ _ (λ _. word_clean (b ∷ bs)) (λ _.
    if_clean (b ∷ bs) (b == 46 && begins_property bs) _ _ (λ h. one b bs (is_that b 46 (both (b == 46) (begins_property bs) h).0 (omega arith)))
    (λ _. subst IsUtf8 (sym (take_nothing (b ∷ bs))) IsUtf8-nil))

star_clean : (b : ℕ) (bs : List ℕ) → b < 128 → Clean (b ∷ bs) (star bs)
star_clean b [] h = one b [] h
star_clean b (c ∷ bs) h = if_clean (b ∷ c ∷ bs) (c == 47) _ _ (λ k. two b c bs h (is_that c 47 k (omega arith))) (λ _. one b (c ∷ bs) h)

comment_clean : (place : Place) (b : ℕ) (bs : List ℕ) → Clean (b ∷ bs) (in_comment place b bs)
comment_clean place b bs =
    if_clean (b ∷ bs) (b == 42) _ _ (λ h. star_clean b bs (is_that b 42 h (omega arith))) (λ _.
    if_clean (b ∷ bs) (b == 10) _ _ (λ h. one b bs (is_that b 10 h (omega arith))) (λ _.
    checked_clean is_in_comment (b ∷ bs) place _ _))

-- ---- the whole

open_clean : (o : List Open) (place : Place) (b : ℕ) (bs : List ℕ) → Clean (b ∷ bs) (in_open (innermost o) o place b bs)
open_clean [] place b bs = code_clean [] place b bs
open_clean (Round ∷ o) place b bs = code_clean (Round ∷ o) place b bs
open_clean (Square ∷ o) place b bs = code_clean (Square ∷ o) place b bs
open_clean (Brace ∷ o) place b bs = code_clean (Brace ∷ o) place b bs
open_clean (Hole ∷ o) place b bs = code_clean (Hole ∷ o) place b bs
open_clean (NamedHole ∷ o) place b bs = named_clean b bs
open_clean (Text k p ∷ o) place b bs = text_clean k place b bs
open_clean (Comment p ∷ o) place b bs = comment_clean place b bs
open_clean (LineComment ∷ o) place b bs = checked_clean is_not_line_feed (b ∷ bs) place _ _

broken_or_clean : (bs : List ℕ) (f : Option LexFault) (x : First) → Clean bs x → Clean bs (broken_or f x)
broken_or_clean bs (Some f) x h = tt
broken_or_clean bs None x h = h

first_clean : (o : List Open) (place : Place) (bs : List ℕ) → Clean bs (first o place bs)
unfolding first
first_clean o place [] = broken_or_clean [] (outermost end_fault o) finished refl
first_clean o place (b ∷ bs) = broken_or_clean (b ∷ bs) (fault_at b o) (in_open (innermost o) o place b bs) (open_clean o place b bs)

clean_of : (o : List Open) (place : Place) (bs : List ℕ) (x : First) → first o place bs ≡ x → Clean bs x
clean_of o place bs x e = subst (Clean bs) e (first_clean o place bs)

some_none : (f : LexFault) → Some f ≡ None → ⊥
some_none f e = cc

read_utf8 : {text : List ℕ} {o : List Open} {bs : List ℕ} {v : List Placed} {e : Option LexFault} → Reads text o bs v e → e ≡ None → IsUtf8 bs
read_utf8 {text} {o} {bs} (ends e) h = subst IsUtf8 (sym (clean_of o (place_of text (length bs)) bs finished e)) IsUtf8-nil
read_utf8 (breaks {fault = f} e) h = absurd (some_none f h)
read_utf8 {text} {o} {bs} (goes {item = i} {change = c} {n = n} e p) h =
    subst IsUtf8 (take-append-drop n bs) (IsUtf8-append (take n bs) (drop n bs) (clean_of o (place_of text (length bs)) bs (passes i c n) e) (read_utf8 p h))

pub tokens_utf8 : (text : List ℕ) (t : List Lexeme × Place) → IsTokensOf text t → IsUtf8 text
tokens_utf8 text t p = read_utf8 p.reads refl
