-- How each token outside strings is read.
use Rattle.std.proofs.Common.{◌≡◌, ℕ, ◌≤◌, ◌<◌, Bool, true, false, cond, List, [], ◌∷◌, ◌++◌, length, drop, Option, Some, None, refl, sym, ap, ◌∙◌, subst, arith}
use Rattle.std.specs.Prelude.{not, ◌==◌, ◌&&◌, nat_lt, take_while, pos}
use Rattle.std.specs.List.{list_all}
use Rattle.std.specs.Char.{is_ascii_digit}
use Rattle.std.specs.Fmt.{decimal}
use Rattle.std.specs.Option.{is_none}
use Rattle.std.specs.Str.Parse.{AllDigits, digits_value}
use Rattle.std.proofs.lemmas.Bool.Decides.{nat_tests}
use Rattle.std.proofs.lemmas.Fmt.{decimal_is_IsNumeral}
use Rattle.std.proofs.lemmas.List.{append-nil, drop_at}
use Rattle.std.proofs.lemmas.List.Sums.{take_while-cons}
use Rattle.std.proofs.lemmas.Str.Parse.{digit_from_value}
use Rattle.nf_value.specs.declared.place.Place.{Place}
use Rattle.nf_token.specs.declared.token.Keyword.{Keyword}
use Rattle.nf_token.specs.declared.token.Keyword.TheVariants as k
use Rattle.nf_token.specs.declared.token.Token.TheVariants as t
use Rattle.nf_lexer.specs.declared.open.Open.{Open}
use Rattle.nf_lexer.specs.declared.open.Open.TheVariants.{Round, Square, Brace, Hole, NamedHole, Text, Comment, LineComment}
use Rattle.nf_lexer.specs.declared.open.Change.{Change}
use Rattle.nf_lexer.specs.declared.open.Change.TheVariants.{Keep}
use Rattle.nf_lexer.specs.Bytes.{is_blank, begins_name, is_in_name}
use Rattle.nf_lexer.specs.Front.{Item, lexed, passes}
use Rattle.nf_lexer.specs.Joined.{at}
use Rattle.nf_lexer.specs.Open.{innermost, changed}
use Rattle.nf_lexer.specs.Place.{place_of}
use Rattle.nf_token.specs.Spellings.{keywords}
use Rattle.nf_lexer.specs.Word.{keyword_in, keyword_or_name, word_token, limit, number}
use Rattle.nf_lexer.specs.First.{in_code, in_open, broken_or, fault_at, first}
use Rattle.nf_writer.specs.Ink.{keyword_text}
use Rattle.fmt_tokens.specs.Leads.{Leads, stays, goes}
use Rattle.fmt_tokens.specs.Fits.{is_word}
use Rattle.fmt_tokens.proofs.Strings.{no_fault}
use Rattle.fmt_tokens.proofs.Tests.{if_true, if_false, both, not_not, is_nothing}
use Rattle.fmt_tokens.proofs.Cuts.{run_before}

-- ---- between strings and comments

abbrev pub is_code_in : Option Open → Bool
is_code_in None = true
is_code_in (Some Round) = true
is_code_in (Some Square) = true
is_code_in (Some Brace) = true
is_code_in (Some Hole) = true
is_code_in _ = false

abbrev pub is_code : List Open → Bool
is_code o = is_code_in (innermost o)

in_code_of : (x : Option Open) (o : List Open) (place : Place) (b : ℕ) (bs : List ℕ) → is_code_in x ≡ true → in_open x o place b bs ≡ in_code o place b bs
in_code_of None o place b bs h = refl
in_code_of (Some Round) o place b bs h = refl
in_code_of (Some Square) o place b bs h = refl
in_code_of (Some Brace) o place b bs h = refl
in_code_of (Some Hole) o place b bs h = refl
in_code_of (Some NamedHole) o place b bs h = absurd cc
in_code_of (Some (Text k p)) o place b bs h = absurd cc
in_code_of (Some (Comment p)) o place b bs h = absurd cc
in_code_of (Some LineComment) o place b bs h = absurd cc

pub first_in_code : (o : List Open) (place : Place) (b : ℕ) (bs : List ℕ) → is_code o ≡ true → fault_at b o ≡ None → first o place (b ∷ bs) ≡ in_code o place b bs
unfolding first
first_in_code o place b bs h f = ap (λ z. broken_or z (in_open (innermost o) o place b bs)) f ∙ in_code_of (innermost o) o place b bs h

-- one item of so many bytes
pub item_leads : (text bs rest : List ℕ) (o : List Open) (item : Item) (change : Change) (n : ℕ) → first o (place_of text (length bs)) bs ≡ passes item change n → drop n bs ≡ rest → Leads text o bs (at item (place_of text (length bs)) ∷ []) (changed change o) rest
item_leads text bs rest o item change n e d = goes e (subst (λ z. Leads text (changed change o) z [] (changed change o) rest) (sym d) stays)

-- ---- runs up to what follows

-- the first byte, if any, doesn't pass
abbrev pub fails_first : (ℕ → Bool) → List ℕ → Bool
fails_first p [] = true
fails_first p (c ∷ bs) = not (p c)

run_alone : (p : ℕ → Bool) (w : List ℕ) → list_all p w ≡ true → take_while p w ≡ w
run_alone p [] h = refl
run_alone p (b ∷ w) h =
    let e = both (p b) (list_all p w) h in
    take_while-cons p b w ∙ ap (λ t. cond t (b ∷ take_while p w) []) e.0 ∙ ap (λ v. b ∷ v) (run_alone p w e.1)

pub run_stops : (p : ℕ → Bool) (w rest : List ℕ) → list_all p w ≡ true → fails_first p rest ≡ true → take_while p (w ++ rest) ≡ w
run_stops p w [] h f = ap (take_while p) (append-nil w) ∙ run_alone p w h
run_stops p w (c ∷ rest) h f = run_before p w c rest h (not_not (p c) f)

-- ---- names and keywords

begins_in : (b : ℕ) → begins_name b ≡ true → is_in_name b ≡ true
begins_in b h = grind (arith, nat_tests)

name_no_blank : (b : ℕ) → begins_name b ≡ true → is_blank b ≡ false
name_no_blank b h = grind (arith, nat_tests)

name_no_end : (b : ℕ) → begins_name b ≡ true → (b == 10) ≡ false
name_no_end b h = grind (arith, nat_tests)

name_no_separator : (b : ℕ) → begins_name b ≡ true → (b == 59) ≡ false
name_no_separator b h = grind (arith, nat_tests)

word_code : (o : List Open) (place : Place) (b : ℕ) (bs w : List ℕ) → begins_name b ≡ true → take_while is_in_name (b ∷ bs) ≡ w → in_code o place b bs ≡ passes (lexed (word_token w)) Keep (length w)
unfolding in_code
word_code o place b bs w h e =
    if_false (is_blank b) _ _ (name_no_blank b h)
    ∙ if_false (b == 10) _ _ (name_no_end b h)
    ∙ if_false (b == 59) _ _ (name_no_separator b h)
    ∙ if_true (begins_name b) _ _ h
    ∙ ap (λ (z : List ℕ). passes (lexed (word_token z)) Keep (length z)) e

-- a word, before what can't be a part of it
pub word_leads : (text w rest : List ℕ) (o : List Open) → is_code o ≡ true → is_word w ≡ true → fails_first is_in_name rest ≡ true → Leads text o (w ++ rest) (at (lexed (word_token w)) (place_of text (length (w ++ rest))) ∷ []) o rest
word_leads text [] rest o i h f = absurd cc
word_leads text (b ∷ w) rest o i h f =
    let e = both (begins_name b) (list_all is_in_name w) h in
    let all : list_all is_in_name (b ∷ w) ≡ true = ap (λ t. t && list_all is_in_name w) (begins_in b e.0) ∙ e.1 in
    item_leads text (b ∷ (w ++ rest)) rest o (lexed (word_token (b ∷ w))) Keep (length (b ∷ w))
    (first_in_code o (place_of text (length (b ∷ (w ++ rest)))) b (w ++ rest) i (no_fault b o (name_no_end b e.0))
    ∙ word_code o (place_of text (length (b ∷ (w ++ rest)))) b (w ++ rest) (b ∷ w) e.0 (run_stops is_in_name (b ∷ w) rest all f))
    (drop_at (b ∷ w) rest (length (b ∷ w)) refl)

pub keyword_is_word : (x : Keyword) → is_word (keyword_text x) ≡ true
keyword_is_word k.Def = refl
keyword_is_word k.Else = refl
keyword_is_word k.False = refl
keyword_is_word k.If = refl
keyword_is_word k.In = refl
keyword_is_word k.Null = refl
keyword_is_word k.Return = refl
keyword_is_word k.True = refl

pub keyword_token : (x : Keyword) → word_token (keyword_text x) ≡ t.Keyword x
unfolding word_token
keyword_token k.Def = refl
keyword_token k.Else = refl
keyword_token k.False = refl
keyword_token k.If = refl
keyword_token k.In = refl
keyword_token k.Null = refl
keyword_token k.Return = refl
keyword_token k.True = refl

pub name_token : (w : List ℕ) → is_none (keyword_in keywords w) ≡ true → word_token w ≡ t.Name w
unfolding word_token
name_token w h = ap (λ x. keyword_or_name x w) (is_nothing (keyword_in keywords w) h)

-- ---- numbers

pub digits_pass : (ds : List ℕ) → AllDigits 10 ds → list_all is_ascii_digit ds ≡ true
digits_pass [] h = refl
digits_pass (c ∷ ds) h =
    let d = digit_from_value c h.0 in
    let one : is_ascii_digit c ≡ true = grind (arith, nat_tests) in
    ap (λ t. t && list_all is_ascii_digit ds) one ∙ digits_pass ds h.1

digit_no_blank : (b : ℕ) → is_ascii_digit b ≡ true → is_blank b ≡ false
digit_no_blank b h = grind (arith, nat_tests)

digit_no_end : (b : ℕ) → is_ascii_digit b ≡ true → (b == 10) ≡ false
digit_no_end b h = grind (arith, nat_tests)

digit_no_separator : (b : ℕ) → is_ascii_digit b ≡ true → (b == 59) ≡ false
digit_no_separator b h = grind (arith, nat_tests)

digit_no_name : (b : ℕ) → is_ascii_digit b ≡ true → begins_name b ≡ false
digit_no_name b h = grind (arith, nat_tests)

number_code : (o : List Open) (place : Place) (b : ℕ) (bs w : List ℕ) (n : ℕ) → is_ascii_digit b ≡ true → take_while is_ascii_digit (b ∷ bs) ≡ w → digits_value 10 w ≡ n → n ≤ limit → in_code o place b bs ≡ passes (lexed (t.Number (pos n))) Keep (length w)
unfolding in_code number
number_code o place b bs w n h e v small =
    let fits : nat_lt limit (digits_value 10 (take_while is_ascii_digit (b ∷ bs))) ≡ false = ap (λ z. nat_lt limit (digits_value 10 z)) e ∙ ap (nat_lt limit) v ∙ grind (arith, nat_tests) in
    if_false (is_blank b) _ _ (digit_no_blank b h)
    ∙ if_false (b == 10) _ _ (digit_no_end b h)
    ∙ if_false (b == 59) _ _ (digit_no_separator b h)
    ∙ if_false (begins_name b) _ _ (digit_no_name b h)
    ∙ if_true (is_ascii_digit b) _ _ h
    ∙ if_false (nat_lt limit (digits_value 10 (take_while is_ascii_digit (b ∷ bs)))) _ _ fits
    ∙ ap (λ (z : List ℕ). passes (lexed (t.Number (pos (digits_value 10 z)))) Keep (length z)) e
    ∙ ap (λ z. passes (lexed (t.Number (pos z))) Keep (length w)) v

digits_leads : (text w rest : List ℕ) (n : ℕ) (o : List Open) → is_code o ≡ true → 0 < length w → list_all is_ascii_digit w ≡ true → digits_value 10 w ≡ n → n ≤ limit → fails_first is_ascii_digit rest ≡ true → Leads text o (w ++ rest) (at (lexed (t.Number (pos n))) (place_of text (length (w ++ rest))) ∷ []) o rest
digits_leads text [] rest n o i some all v small f = absurd (omega arith)
digits_leads text (b ∷ w) rest n o i some all v small f =
    let e = both (is_ascii_digit b) (list_all is_ascii_digit w) all in
    item_leads text (b ∷ (w ++ rest)) rest o (lexed (t.Number (pos n))) Keep (length (b ∷ w))
    (first_in_code o (place_of text (length (b ∷ (w ++ rest)))) b (w ++ rest) i (no_fault b o (digit_no_end b e.0))
    ∙ number_code o (place_of text (length (b ∷ (w ++ rest)))) b (w ++ rest) (b ∷ w) n e.0 (run_stops is_ascii_digit (b ∷ w) rest all f) v small)
    (drop_at (b ∷ w) rest (length (b ∷ w)) refl)

-- a number within the limit, before what is no digit
pub number_leads : (text rest : List ℕ) (n : ℕ) (o : List Open) → is_code o ≡ true → n ≤ limit → fails_first is_ascii_digit rest ≡ true → Leads text o (decimal n ++ rest) (at (lexed (t.Number (pos n))) (place_of text (length (decimal n ++ rest))) ∷ []) o rest
number_leads text rest n o i small f =
    let whole = decimal_is_IsNumeral n (omega arith) in
    digits_leads text (decimal n) rest n o i whole.0.0 (digits_pass (decimal n) whole.0.1) whole.1 small f
