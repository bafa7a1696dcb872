-- What stands first takes a byte or closes something, and no more bytes than are left; or a rule is broken at a place.
use Rattle.std.proofs.Common.{◌≡◌, ℕ, suc, ◌+◌, ◌*◌, ◌≤◌, ◌<◌, ◌⊎◌, inl, inr, Bool, true, false, cond, List, [], ◌∷◌, length, take, drop, Option, Some, None, refl, sym, ap, subst, arith}
use Rattle.std.specs.Prelude.{nat_lt, nat_eq, ◌==◌, ◌&&◌, take_while}
use Rattle.std.specs.List.{starts_with}
use Rattle.std.specs.Char.{is_ascii_digit}
use Rattle.std.specs.Str.{is_utf8}
use Rattle.std.specs.Str.Parse.{digits_value}
use lib.Pointwise.{pointwise_long}
use Rattle.std.proofs.lemmas.Bool.Decides.{nat_tests}
use Rattle.std.proofs.lemmas.List.{length-take, length-drop}
use Rattle.nf_value.specs.declared.place.Place.{Place}
use Rattle.nf_lexer.specs.declared.fault.LexFault.{LexFault}
use Rattle.nf_lexer.specs.declared.fault.LexFault.TheVariants.{BadByte, OpenString, OpenComment, BadEscape, BigNumber, ScriptTooLong, Mem}
use Rattle.nf_token.specs.declared.token.Mark.{Mark}
use Rattle.nf_token.specs.declared.token.PlainKind.TheVariants.{Single, TripleSingle, Slashes}
use Rattle.nf_token.specs.declared.token.TemplateKind.TheVariants.{Double, TripleDouble}
use Rattle.nf_token.specs.declared.token.TextKind.{TextKind}
use Rattle.nf_token.specs.declared.token.TextKind.TheVariants.{Plain, Pattern, Template}
use Rattle.nf_lexer.specs.declared.open.Open.{Open}
use Rattle.nf_lexer.specs.declared.open.Open.TheVariants.{Round, Square, Brace, Hole, NamedHole, Text, Comment, LineComment}
use Rattle.nf_lexer.specs.declared.open.Change.{Change}
use Rattle.nf_lexer.specs.declared.open.Change.TheVariants.{Keep, Enter, Leave, LeaveBrace}
use Rattle.nf_lexer.specs.Bytes.{is_blank, begins_name, is_in_name, is_not_line_feed, is_special, is_ordinary, is_in_comment}
use Rattle.nf_lexer.specs.Front.{Item, silent, First, passes, finished, broken, checked}
use Rattle.nf_lexer.specs.Open.{around, around_nearest, after_brace, nearest, changed, is_brace_or_hole, innermost, outermost, is_one_line, line_fault, end_fault, rather}
use Rattle.nf_token.specs.Spellings.{marks, closing}
use Rattle.nf_lexer.specs.Word.{word, number, limit, begins_property}
use Rattle.nf_lexer.specs.Mark.{past, mark_or, mark_in, mark, marked}
use Rattle.nf_lexer.specs.Escape.{escaped, hex_number, character, written_or_bad, escape, kept}
use Rattle.nf_lexer.specs.First.{quote, slash, tilde, in_code, has_escapes, has_holes, hole, in_text, in_named_hole, in_line_comment, star, in_comment, in_open, broken_or, fault_at, first}
use Rattle.nf_lexer.proofs.Runs.{run_le, run_some}

-- a rule that is broken at a place of the text
abbrev pub IsPlaced : LexFault → Type 0
IsPlaced (BadByte p) = Unit {0}
IsPlaced (OpenString p) = Unit {0}
IsPlaced (OpenComment p) = Unit {0}
IsPlaced (BadEscape p) = Unit {0}
IsPlaced (BigNumber p) = Unit {0}
IsPlaced ScriptTooLong = ⊥
IsPlaced Mem = ⊥

abbrev pub IsPlacedIfAny : Option LexFault → Type 0
IsPlacedIfAny (Some fault) = IsPlaced fault
IsPlacedIfAny None = Unit {0}

abbrev pub Steps : List Open → List ℕ → First → Type 0
Steps o bs (passes item change n) = (n ≤ length bs) × ((0 < n) ⊎ ((change ≡ Leave) × (0 < length o)))
Steps o bs finished = bs ≡ []
Steps o bs (broken fault) = IsPlaced fault

if_steps : (o : List Open) (bs : List ℕ) (c : Bool) (x y : First) → (c ≡ true → Steps o bs x) → (c ≡ false → Steps o bs y) → Steps o bs (cond c x y)
if_steps o bs true x y h k = h refl
if_steps o bs false x y h k = k refl

some : (o : List Open) (bs : List ℕ) (change : Change) (n : ℕ) → n ≤ length bs → 0 < n → Steps o bs (passes silent change n)
some o bs change n h k = (h, inl k)

one : (o : List Open) (b : ℕ) (bs : List ℕ) (change : Change) → Steps o (b ∷ bs) (passes silent change 1)
one o b bs change = some o (b ∷ bs) change 1 (omega arith) (omega arith)

two : (o : List Open) (b c : ℕ) (bs : List ℕ) (change : Change) → Steps o (b ∷ c ∷ bs) (passes silent change 2)
two o b c bs change = some o (b ∷ c ∷ bs) change 2 (omega arith) (omega arith)

checked_steps : (o : List Open) (bs : List ℕ) (place : Place) (w : List ℕ) (item : Item) (change : Change) → length w ≤ length bs → (0 < length w) ⊎ ((change ≡ Leave) × (0 < length o)) → Steps o bs (checked place w item change)
checked_steps o bs place w item change h k = if_steps o bs (is_utf8 w) _ _ (λ _. (h, k)) (λ _. tt)

-- ---- words, numbers and marks

begins_in_name : (b : ℕ) → begins_name b ≡ true → is_in_name b ≡ true
begins_in_name b h = grind (arith, nat_tests)

word_steps : (o : List Open) (b : ℕ) (bs : List ℕ) → begins_name b ≡ true → Steps o (b ∷ bs) (word (b ∷ bs))
word_steps o b bs h = (run_le is_in_name (b ∷ bs), inl (run_some is_in_name b bs (begins_in_name b h)))

number_steps : (o : List Open) (place : Place) (b : ℕ) (bs : List ℕ) → is_ascii_digit b ≡ true → Steps o (b ∷ bs) (number place (b ∷ bs))
unfolding number
number_steps o place b bs h = if_steps o (b ∷ bs) (nat_lt limit (digits_value 10 (take_while is_ascii_digit (b ∷ bs)))) _ _ (λ _. tt) (λ _. (run_le is_ascii_digit (b ∷ bs), inl (run_some is_ascii_digit b bs h)))

past_if : (c : Bool) (w bs rest : List ℕ) → (past w bs ≡ Some rest → length w ≤ length bs) → cond c (past w bs) None ≡ Some rest → suc (length w) ≤ suc (length bs)
past_if true w bs rest h e = omega (arith, h e)
past_if false w bs rest h e = absurd cc

past_le : (w bs rest : List ℕ) → past w bs ≡ Some rest → length w ≤ length bs
past_le [] bs rest e = omega arith
past_le (x ∷ w) [] rest e = absurd cc
past_le (x ∷ w) (b ∷ bs) rest e = past_if (b == x) w bs rest (past_le w bs rest) e

abbrev Fits : List ℕ → Option (Mark × ℕ) → Type 0
Fits bs None = Unit {0}
Fits bs (Some x) = (x.1 ≤ length bs) × (0 < x.1)

abbrev has_byte : List ℕ → Bool
has_byte [] = false
has_byte (b ∷ w) = true

abbrev have_bytes : List (List ℕ × Mark) → Bool
have_bytes [] = true
have_bytes (x ∷ xs) = has_byte x.0 && have_bytes xs

both : (a b : Bool) → (a && b) ≡ true → (a ≡ true) × (b ≡ true)
both true b h = (refl, h)
both false b h = absurd cc

byte_some : (w : List ℕ) → has_byte w ≡ true → 0 < length w
byte_some [] h = absurd cc
byte_some (b ∷ w) h = omega arith

or_fits : (o : Option (List ℕ)) (m : Mark) (w bs : List ℕ) (other : Option (Mark × ℕ)) → has_byte w ≡ true → past w bs ≡ o → Fits bs other → Fits bs (mark_or o m (length w) other)
or_fits (Some rest) m w bs other h e k = (past_le w bs rest e, byte_some w h)
or_fits None m w bs other h e k = k

marks_fit : (ms : List (List ℕ × Mark)) (bs : List ℕ) → have_bytes ms ≡ true → Fits bs (mark_in ms bs)
marks_fit [] bs h = tt
marks_fit (x ∷ ms) bs h =
    let k = both (has_byte x.0) (have_bytes ms) h in
    or_fits (past x.0 bs) x.1 x.0 bs (mark_in ms bs) k.0 refl (marks_fit ms bs k.1)

mark_fits : (bs : List ℕ) → Fits bs (mark bs)
unfolding mark
mark_fits bs = marks_fit marks bs refl

marked_steps : (o : List Open) (place : Place) (bs : List ℕ) (x : Option (Mark × ℕ)) → Fits bs x → Steps o bs (marked o place x)
marked_steps o place bs (Some x) k = (k.0, inl k.1)
marked_steps o place bs None k = tt

-- ---- between tokens

starts_le : (bs w : List ℕ) → starts_with nat_eq bs w ≡ true → length w ≤ length bs
starts_le bs w h = omega (arith, pointwise_long nat_eq w (take (length w) bs) h, length-take (length w) bs)

quote_steps : (o : List Open) (triple single : TextKind) (place : Place) (b : ℕ) (bs : List ℕ) → length (closing triple) ≡ 3 → Steps o (b ∷ bs) (quote triple single place (b ∷ bs))
quote_steps o triple single place b bs h =
    if_steps o (b ∷ bs) (starts_with nat_eq (b ∷ bs) (closing triple)) _ _
    (λ k. some o (b ∷ bs) _ 3 (omega (arith, h, starts_le (b ∷ bs) (closing triple) k)) (omega arith))
    (λ _. one o b bs _)

slash_steps : (o : List Open) (place : Place) (b : ℕ) (bs : List ℕ) → Steps o (b ∷ bs) (slash place bs)
slash_steps o place b [] = one o b [] _
slash_steps o place b (c ∷ bs) =
    if_steps o (b ∷ c ∷ bs) (c == 47) _ _ (λ _. two o b c bs _) (λ _.
    if_steps o (b ∷ c ∷ bs) (c == 42) _ _ (λ _. two o b c bs _) (λ _. one o b (c ∷ bs) _))

tilde_steps : (o : List Open) (place : Place) (b : ℕ) (bs : List ℕ) → Steps o (b ∷ bs) (tilde place bs)
tilde_steps o place b [] = tt
tilde_steps o place b (c ∷ bs) = if_steps o (b ∷ c ∷ bs) (c == 47) _ _ (λ _. two o b c bs _) (λ _. tt)

code_steps : (o : List Open) (place : Place) (b : ℕ) (bs : List ℕ) → Steps o (b ∷ bs) (in_code o place b bs)
unfolding in_code
code_steps o place b bs =
    if_steps o (b ∷ bs) (is_blank b) _ _ (λ _. one o b bs _) (λ _.
    if_steps o (b ∷ bs) (b == 10) _ _ (λ _. one o b bs _) (λ _.
    if_steps o (b ∷ bs) (b == 59) _ _ (λ _. one o b bs _) (λ _.
    if_steps o (b ∷ bs) (begins_name b) _ _ (λ h. word_steps o b bs h) (λ _.
    if_steps o (b ∷ bs) (is_ascii_digit b) _ _ (λ h. number_steps o place b bs h) (λ _.
    if_steps o (b ∷ bs) (b == 39) _ _ (λ _. quote_steps o (Plain TripleSingle) (Plain Single) place b bs refl) (λ _.
    if_steps o (b ∷ bs) (b == 34) _ _ (λ _. quote_steps o (Template TripleDouble) (Template Double) place b bs refl) (λ _.
    if_steps o (b ∷ bs) (b == 47) _ _ (λ _. slash_steps o place b bs) (λ _.
    if_steps o (b ∷ bs) (b == 126) _ _ (λ _. tilde_steps o place b bs) (λ _.
    marked_steps o place (b ∷ bs) (mark (b ∷ bs)) (mark_fits (b ∷ bs)))))))))))

-- ---- in strings

written_steps : (o : List Open) (place : Place) (bs : List ℕ) (w : Option (List ℕ)) (n : ℕ) → n ≤ length bs → 0 < n → Steps o bs (written_or_bad place w n)
written_steps o place bs (Some w) n h k = (h, inl k)
written_steps o place bs None n h k = tt

unicode_steps : (o : List Open) (place : Place) (b u : ℕ) (bs : List ℕ) → Steps o (b ∷ u ∷ bs) (written_or_bad place (character (hex_number bs)) 6)
unicode_steps o place b u [] = tt
unicode_steps o place b u (x ∷ []) = tt
unicode_steps o place b u (x ∷ y ∷ []) = tt
unicode_steps o place b u (x ∷ y ∷ z ∷ []) = tt
unicode_steps o place b u (x ∷ y ∷ z ∷ w ∷ bs) = written_steps o place (b ∷ u ∷ x ∷ y ∷ z ∷ w ∷ bs) (character (hex_number (x ∷ y ∷ z ∷ w ∷ bs))) 6 (omega arith) (omega arith)

escape_steps : (o : List Open) (place : Place) (b : ℕ) (bs : List ℕ) → Steps o (b ∷ bs) (escape place bs)
escape_steps o place b [] = tt
escape_steps o place b (c ∷ bs) = if_steps o (b ∷ c ∷ bs) (c == 117) _ _ (λ _. unicode_steps o place b c bs) (λ _. written_steps o place (b ∷ c ∷ bs) (escaped c) 2 (omega arith) (omega arith))

kept_steps : (o : List Open) (b : ℕ) (bs : List ℕ) → Steps o (b ∷ bs) (kept bs)
kept_steps o b [] = one o b [] _
kept_steps o b (c ∷ bs) = if_steps o (b ∷ c ∷ bs) (c == 47) _ _ (λ _. two o b c bs _) (λ _. one o b (c ∷ bs) _)

hole_steps : (o : List Open) (b : ℕ) (bs : List ℕ) → Steps o (b ∷ bs) (hole bs)
hole_steps o b [] = one o b [] _
hole_steps o b (c ∷ bs) =
    if_steps o (b ∷ c ∷ bs) (c == 123) _ _ (λ _. two o b c bs _) (λ _.
    if_steps o (b ∷ c ∷ bs) (begins_name c) _ _ (λ _. one o b (c ∷ bs) _) (λ _. one o b (c ∷ bs) _))

closing_some : (k : TextKind) → 0 < length (closing k)
closing_some (Plain Single) = omega arith
closing_some (Plain TripleSingle) = omega arith
closing_some (Plain Slashes) = omega arith
closing_some Pattern = omega arith
closing_some (Template Double) = omega arith
closing_some (Template TripleDouble) = omega arith

ordinary : (b : ℕ) → is_special b ≡ false → is_ordinary b ≡ true
ordinary b h = rw h refl

text_steps : (o : List Open) (k : TextKind) (place : Place) (b : ℕ) (bs : List ℕ) → Steps o (b ∷ bs) (in_text k place b bs)
unfolding in_text
text_steps o k place b bs =
    if_steps o (b ∷ bs) (starts_with nat_eq (b ∷ bs) (closing k)) _ _ (λ h. some o (b ∷ bs) _ (length (closing k)) (starts_le (b ∷ bs) (closing k) h) (closing_some k)) (λ _.
    if_steps o (b ∷ bs) (b == 92) _ _ (λ _. if_steps o (b ∷ bs) (has_escapes k) _ _ (λ _. escape_steps o place b bs) (λ _. kept_steps o b bs)) (λ _.
    if_steps o (b ∷ bs) (b == 36 && has_holes k) _ _ (λ _. hole_steps o b bs) (λ _.
    if_steps o (b ∷ bs) (is_special b) _ _ (λ _. one o b bs _) (λ h.
    checked_steps o (b ∷ bs) place _ _ _ (run_le is_ordinary (b ∷ bs)) (inl (run_some is_ordinary b bs (ordinary b h)))))))

-- ---- in comments and holes

named_steps : (o : List Open) (b : ℕ) (bs : List ℕ) → 0 < length o → Steps o (b ∷ bs) (in_named_hole b bs)
named_steps o b bs k =
    if_steps o (b ∷ bs) (begins_name b) _ _ (λ h. word_steps o b bs h) (λ _.
    if_steps o (b ∷ bs) (b == 46 && begins_property bs) _ _ (λ _. one o b bs _) (λ _. (omega arith, inr (refl, k))))

line_comment_steps : (o : List Open) (place : Place) (bs : List ℕ) → 0 < length o → Steps o bs (in_line_comment place bs)
line_comment_steps o place bs k = checked_steps o bs place _ _ _ (run_le is_not_line_feed bs) (inr (refl, k))

star_steps : (o : List Open) (b : ℕ) (bs : List ℕ) → Steps o (b ∷ bs) (star bs)
star_steps o b [] = one o b [] _
star_steps o b (c ∷ bs) = if_steps o (b ∷ c ∷ bs) (c == 47) _ _ (λ _. two o b c bs _) (λ _. one o b (c ∷ bs) _)

neither : (b : ℕ) → (b == 42) ≡ false → (b == 10) ≡ false → is_in_comment b ≡ true
neither b h k = rw (k, h) refl

comment_steps : (o : List Open) (place : Place) (b : ℕ) (bs : List ℕ) → Steps o (b ∷ bs) (in_comment place b bs)
comment_steps o place b bs =
    if_steps o (b ∷ bs) (b == 42) _ _ (λ _. star_steps o b bs) (λ h.
    if_steps o (b ∷ bs) (b == 10) _ _ (λ _. one o b bs _) (λ k.
    checked_steps o (b ∷ bs) place _ _ _ (run_le is_in_comment (b ∷ bs)) (inl (run_some is_in_comment b bs (neither b h k)))))

-- ---- the whole

open_steps : (o : List Open) (place : Place) (b : ℕ) (bs : List ℕ) → Steps o (b ∷ bs) (in_open (innermost o) o place b bs)
open_steps [] place b bs = code_steps [] place b bs
open_steps (Round ∷ o) place b bs = code_steps (Round ∷ o) place b bs
open_steps (Square ∷ o) place b bs = code_steps (Square ∷ o) place b bs
open_steps (Brace ∷ o) place b bs = code_steps (Brace ∷ o) place b bs
open_steps (Hole ∷ o) place b bs = code_steps (Hole ∷ o) place b bs
open_steps (NamedHole ∷ o) place b bs = named_steps (NamedHole ∷ o) b bs (omega arith)
open_steps (Text k p ∷ o) place b bs = text_steps (Text k p ∷ o) k place b bs
open_steps (Comment p ∷ o) place b bs = comment_steps (Comment p ∷ o) place b bs
open_steps (LineComment ∷ o) place b bs = line_comment_steps (LineComment ∷ o) place (b ∷ bs) (omega arith)

-- ---- what is open breaks a rule at a place

if_placed : (c : Bool) (x y : Option LexFault) → IsPlacedIfAny x → IsPlacedIfAny y → IsPlacedIfAny (cond c x y)
if_placed true x y h k = h
if_placed false x y h k = k

line_placed : (x : Open) → IsPlacedIfAny (line_fault x)
line_placed (Text k place) = if_placed (is_one_line k) (Some (OpenString place)) None tt tt
line_placed Round = tt
line_placed Square = tt
line_placed Brace = tt
line_placed Hole = tt
line_placed NamedHole = tt
line_placed (Comment place) = tt
line_placed LineComment = tt

end_placed : (x : Open) → IsPlacedIfAny (end_fault x)
end_placed (Text k place) = tt
end_placed (Comment place) = tt
end_placed Round = tt
end_placed Square = tt
end_placed Brace = tt
end_placed Hole = tt
end_placed NamedHole = tt
end_placed LineComment = tt

rather_placed : (f g : Option LexFault) → IsPlacedIfAny f → IsPlacedIfAny g → IsPlacedIfAny (rather f g)
rather_placed (Some f) g h k = h
rather_placed None g h k = k

outermost_placed : (fault : Open → Option LexFault) → ((x : Open) → IsPlacedIfAny (fault x)) → (o : List Open) → IsPlacedIfAny (outermost fault o)
outermost_placed fault h [] = tt
outermost_placed fault h (x ∷ o) = rather_placed (outermost fault o) (fault x) (outermost_placed fault h o) (h x)

fault_at_placed : (b : ℕ) (o : List Open) → IsPlacedIfAny (fault_at b o)
fault_at_placed b o = if_placed (b == 10) (outermost line_fault o) None (outermost_placed line_fault line_placed o) tt

broken_or_steps : (o : List Open) (bs : List ℕ) (f : Option LexFault) (x : First) → IsPlacedIfAny f → Steps o bs x → Steps o bs (broken_or f x)
broken_or_steps o bs (Some f) x p h = p
broken_or_steps o bs None x p h = h

pub first_steps : (o : List Open) (place : Place) (bs : List ℕ) → Steps o bs (first o place bs)
unfolding first
first_steps o place [] = broken_or_steps o [] (outermost end_fault o) finished (outermost_placed end_fault end_placed o) refl
first_steps o place (b ∷ bs) = broken_or_steps o (b ∷ bs) (fault_at b o) (in_open (innermost o) o place b bs) (fault_at_placed b o) (open_steps o place b bs)

pub steps_of : (o : List Open) (place : Place) (bs : List ℕ) (x : First) → x ≡ first o place bs → Steps o bs x
steps_of o place bs x e = subst (Steps o bs) (sym e) (first_steps o place bs)

-- ---- so a text is read to its end

if_le : (c : Bool) (x y : List Open) (n : ℕ) → length x ≤ n → length y ≤ n → length (cond c x y) ≤ n
if_le true x y n h k = h
if_le false x y n h k = k

around_le : (o : List Open) → length (around o) ≤ length o
around_le [] = omega arith
around_le (x ∷ o) = omega arith

around_nearest_le : (o : List Open) → length (around_nearest o) ≤ length o
around_nearest_le [] = omega arith
around_nearest_le (x ∷ o) = if_le (is_brace_or_hole x) o (around_nearest o) (length (x ∷ o)) (omega arith) (omega (arith, around_nearest_le o))

after_brace_le : (x : Option Open) (o : List Open) → length (after_brace x o) ≤ length o
after_brace_le None o = omega arith
after_brace_le (Some x) o = around_nearest_le o

changed_le : (c : Change) (o : List Open) → length (changed c o) ≤ length o + 1
changed_le Keep o = omega arith
changed_le (Enter x) o = omega arith
changed_le Leave o = omega (arith, around_le o)
changed_le LeaveBrace o = omega (arith, after_brace_le (nearest o) o)

around_less : (o : List Open) → 0 < length o → length (around o) < length o
around_less [] h = absurd (omega arith)
around_less (x ∷ o) h = omega arith

pub less_left : (o : List Open) (bs : List ℕ) (item : Item) (c : Change) (n : ℕ) → Steps o bs (passes item c n) → 2 * length (drop n bs) + length (changed c o) < 2 * length bs + length o
less_left o bs item c n s =
    elim s.1 [
      | inl k ↦ omega (arith, length-drop n bs, changed_le c o, s.0)
      | inr k ↦
          let e : length (changed c o) ≡ length (around o) = ap (λ (x : Change). length (changed x o)) k.0 in
          omega (arith, length-drop n bs, e, around_less o k.1)
    ]

pub less_after : (o now : List Open) (bs after : List ℕ) (item : Item) (c : Change) (n : ℕ) → Steps o bs (passes item c n) → now ≡ changed c o → after ≡ drop n bs → 2 * length after + length now < 2 * length bs + length o
less_after o now bs after item c n s k a =
    let less = less_left o bs item c n s in
    let k1 : length now ≡ length (changed c o) = ap (λ (x : List Open). length x) k in
    let a1 : length after ≡ length (drop n bs) = ap (λ (x : List ℕ). length x) a in
    omega (arith, less, k1, a1)
