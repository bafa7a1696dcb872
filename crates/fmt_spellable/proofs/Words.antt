-- The names, numbers and marks that the lexer reads are fit tokens.
use Rattle.std.proofs.Common.{◌≡◌, ℕ, ◌≤◌, Bool, true, false, cond, List, [], ◌∷◌, Option, Some, None, refl, ap, ◌∙◌, arith}
use Rattle.std.specs.Prelude.{nat_lt, take_while}
use Rattle.std.specs.List.{list_all}
use Rattle.std.specs.Option.{is_none}
use Rattle.std.specs.Char.{is_ascii_digit}
use Rattle.std.specs.Str.Parse.{digits_value}
use Rattle.std.proofs.lemmas.Bool.Decides.{nat_tests}
use Rattle.std.proofs.lemmas.List.Sums.{take_while-cons}
use Rattle.nf_value.specs.declared.place.Place.{Place}
use Rattle.nf_token.specs.declared.token.Keyword.{Keyword}
use Rattle.nf_token.specs.declared.token.Mark.{Mark}
use Rattle.nf_token.specs.declared.token.Mark.TheVariants as m
use Rattle.nf_token.specs.declared.token.Token.{Token}
use Rattle.nf_lexer.specs.declared.open.Open.{Open}
use Rattle.nf_lexer.specs.declared.open.Open.TheVariants.{Round, Square, Hole}
use Rattle.nf_lexer.specs.Bytes.{begins_name, is_in_name}
use Rattle.nf_lexer.specs.Joined.{nothing}
use Rattle.nf_lexer.specs.Open.{innermost, around_nearest, after_brace, nearest, changed, is_brace_or_hole}
use Rattle.nf_token.specs.Spellings.{keywords}
use Rattle.nf_lexer.specs.Word.{keyword_in, keyword_or_name, word_token, word, limit, number}
use Rattle.nf_lexer.specs.Mark.{brace_token, mark_token, leaves_round, leaves_square, mark_change, marked}
use Rattle.nf_lexer.proofs.Runs.{all_of_run}
use Rattle.fmt_tokens.specs.Fits.{is_word}
use Rattle.fmt_spellable.specs.Fit.{FitToken, is_text}
use Rattle.fmt_spellable.proofs.Endings.{join}
use Rattle.fmt_spellable.proofs.Keeps.{no_strings, Goes, if_goes, strings_around}

-- a fit token that is no text of a template
abbrev FitAlone : Token → Type 0
FitAlone x = FitToken x × (is_text x ≡ false)

-- ---- names and keywords

fit_by : (w : List ℕ) (x : Option Keyword) → keyword_in keywords w ≡ x → is_word w ≡ true → FitAlone (keyword_or_name x w)
fit_by w (Some k) e h = (tt, refl)
fit_by w None e h = (record { word = h; no_keyword = ap is_none e }, refl)

word_fits : (w : List ℕ) → is_word w ≡ true → FitAlone (word_token w)
unfolding word_token
word_fits w h = fit_by w (keyword_in keywords w) refl h

begins_in : (b : ℕ) → begins_name b ≡ true → is_in_name b ≡ true
begins_in b h = grind (arith, nat_tests)

run_is_word : (b : ℕ) (bs : List ℕ) → begins_name b ≡ true → is_word (take_while is_in_name (b ∷ bs)) ≡ true
run_is_word b bs h =
    let e : take_while is_in_name (b ∷ bs) ≡ b ∷ take_while is_in_name bs = take_while-cons is_in_name b bs ∙ ap (λ t. cond t (b ∷ take_while is_in_name bs) []) (begins_in b h) in
    ap is_word e ∙ join (begins_name b) (list_all is_in_name (take_while is_in_name bs)) h (all_of_run is_in_name is_in_name (λ c k. k) bs)

pub word_goes : (o : List Open) (b : ℕ) (bs : List ℕ) (place : Place) → no_strings o ≡ true → begins_name b ≡ true → Goes o (b ∷ bs) nothing place (word (b ∷ bs))
word_goes o b bs place g h = (word_fits (take_while is_in_name (b ∷ bs)) (run_is_word b bs h), g)

-- ---- numbers

not_over : (n : ℕ) → nat_lt limit n ≡ false → n ≤ limit
not_over n h = grind (arith, nat_tests)

pub number_goes : (o : List Open) (bs : List ℕ) (place : Place) → no_strings o ≡ true → Goes o bs nothing place (number place bs)
unfolding number
number_goes o bs place g =
    if_goes o bs nothing place (nat_lt limit (digits_value 10 (take_while is_ascii_digit bs))) _ _ (λ _. tt)
    (λ h. ((not_over (digits_value 10 (take_while is_ascii_digit bs)) h, refl), g))

-- ---- marks

brace_fits : (x : Option Open) → FitAlone (brace_token x)
brace_fits (Some Hole) = (tt, refl)
brace_fits _ = (tt, refl)

mark_fits : (x : Mark) (o : List Open) → FitAlone (mark_token x o)
mark_fits m.CloseBrace o = brace_fits (nearest o)
mark_fits _ o = (tt, refl)

nearest_strings : (o : List Open) → no_strings o ≡ true → no_strings (around_nearest o) ≡ true
nearest_strings [] h = refl
nearest_strings (x ∷ o) h =
    let g = strings_around (x ∷ o) h in
    by (is_brace_or_hole x) g (nearest_strings o g)
  where
    by : (c : Bool) → no_strings o ≡ true → no_strings (around_nearest o) ≡ true → no_strings (cond c o (around_nearest o)) ≡ true
    by true k l = k
    by false k l = l

brace_strings : (x : Option Open) (o : List Open) → no_strings o ≡ true → no_strings (after_brace x o) ≡ true
brace_strings None o h = h
brace_strings (Some x) o h = nearest_strings o h

round_strings : (x : Option Open) (o : List Open) → no_strings o ≡ true → no_strings (changed (leaves_round x) o) ≡ true
round_strings (Some Round) o h = strings_around o h
round_strings _ o h = h

square_strings : (x : Option Open) (o : List Open) → no_strings o ≡ true → no_strings (changed (leaves_square x) o) ≡ true
square_strings (Some Square) o h = strings_around o h
square_strings _ o h = h

mark_strings : (x : Mark) (o : List Open) → no_strings o ≡ true → no_strings (changed (mark_change x o) o) ≡ true
mark_strings m.OpenRound o h = h
mark_strings m.OpenSquare o h = h
mark_strings m.OpenBrace o h = h
mark_strings m.CloseRound o h = round_strings (innermost o) o h
mark_strings m.CloseSquare o h = square_strings (innermost o) o h
mark_strings m.CloseBrace o h = brace_strings (nearest o) o h
mark_strings _ o h = h

pub marked_goes : (o : List Open) (bs : List ℕ) (place : Place) (x : Option (Mark × ℕ)) → no_strings o ≡ true → Goes o bs nothing place (marked o place x)
marked_goes o bs place (Some x) g = (mark_fits x.0 o, mark_strings x.0 o g)
marked_goes o bs place None g = tt
