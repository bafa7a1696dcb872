-- What is known of the bytes that the lexer holds stays true outside strings, in holes and in comments.
use Rattle.std.proofs.Common.{◌≡◌, ℕ, Bool, true, false, cond, List, [], ◌∷◌, drop, refl, sym, subst}
use Rattle.std.specs.Prelude.{nat_eq, not, ◌==◌, ◌&&◌, ◌||◌, take_while}
use Rattle.std.specs.List.{starts_with}
use Rattle.std.specs.Char.{is_ascii_digit}
use Rattle.std.specs.Str.{is_utf8}
use Rattle.std.proofs.lemmas.Str.{IsUtf8-nil}
use Rattle.nf_value.specs.declared.place.Place.{Place}
use Rattle.nf_token.specs.declared.token.PlainKind.TheVariants.{Single, TripleSingle, Slashes}
use Rattle.nf_token.specs.declared.token.TemplateKind.TheVariants.{Double, TripleDouble}
use Rattle.nf_token.specs.declared.token.TextKind.{TextKind}
use Rattle.nf_token.specs.declared.token.TextKind.TheVariants.{Plain, Pattern, Template}
use Rattle.nf_lexer.specs.declared.open.Open.{Open}
use Rattle.nf_lexer.specs.declared.open.Change.{Change}
use Rattle.nf_lexer.specs.declared.open.Change.TheVariants.{Keep}
use Rattle.nf_lexer.specs.Bytes.{is_blank, begins_name, is_not_line_feed, is_in_comment}
use Rattle.nf_lexer.specs.Front.{silent, line_end, passes, checked}
use Rattle.nf_lexer.specs.Joined.{nothing}
use Rattle.nf_lexer.specs.Open.{changed, lets_lines_end}
use Rattle.nf_token.specs.Spellings.{closing}
use Rattle.nf_lexer.specs.Word.{begins_property}
use Rattle.nf_lexer.specs.Mark.{mark}
use Rattle.nf_lexer.specs.First.{opens, quote, slash, tilde, in_code, in_named_hole, in_line_comment, star, in_comment}
use Rattle.fmt_tokens.proofs.Cuts.{drop_nothing}
use Rattle.fmt_spellable.proofs.Endings.{is_no_comment}
use Rattle.fmt_spellable.proofs.Keeps.{no_strings, Within, Goes, if_goes, strings_around}
use Rattle.fmt_spellable.proofs.Words.{word_goes, number_goes, marked_goes}

-- ---- where strings begin

-- a string or pattern opens, with no byte of it held yet
opens_goes : (k : TextKind) (o : List Open) (bs : List ℕ) (place : Place) (n : ℕ) → no_strings o ≡ true → Within k (drop n bs) [] → Goes o bs nothing place (opens k place n)
opens_goes (Plain k) o bs place n g h = (tt, (g, IsUtf8-nil, h))
opens_goes Pattern o bs place n g h = (tt, (g, IsUtf8-nil, h))
opens_goes (Template k) o bs place n g h = ((tt, refl), g)

quote_goes : (triple single : TextKind) (o : List Open) (bs : List ℕ) (place : Place) → no_strings o ≡ true → ((rest : List ℕ) → Within triple rest []) → ((rest : List ℕ) → Within single rest []) → Goes o bs nothing place (quote triple single place bs)
quote_goes triple single o bs place g h k =
    if_goes o bs nothing place (starts_with nat_eq bs (closing triple)) _ _ (λ _. opens_goes triple o bs place 3 g (h (drop 3 bs))) (λ _. opens_goes single o bs place 1 g (k (drop 1 bs)))

neither : (c d : Bool) → c ≡ false → d ≡ false → not (c || d) ≡ true
neither true d h k = absurd cc
neither false true h k = absurd cc
neither false false h k = refl

-- what comes after its first quote
begins : (b : ℕ) (bs : List ℕ) → is_no_comment bs ≡ true → Within (Plain Slashes) (drop 1 (b ∷ bs)) []
begins b bs h = subst (λ z. Within (Plain Slashes) z []) (sym (drop_nothing bs)) ((refl, λ _. refl), h)

slash_goes : (o : List Open) (b : ℕ) (bs : List ℕ) (place : Place) → no_strings o ≡ true → Goes o (b ∷ bs) nothing place (slash place bs)
slash_goes o b [] place g = opens_goes (Plain Slashes) o (b ∷ []) place 1 g (begins b [] refl)
slash_goes o b (c ∷ bs) place g =
    if_goes o (b ∷ c ∷ bs) nothing place (c == 47) _ _ (λ _. (tt, g)) (λ h.
    if_goes o (b ∷ c ∷ bs) nothing place (c == 42) _ _ (λ _. (tt, g)) (λ k.
    opens_goes (Plain Slashes) o (b ∷ c ∷ bs) place 1 g (begins b (c ∷ bs) (neither (c == 47) (c == 42) h k))))

tilde_goes : (o : List Open) (b : ℕ) (bs : List ℕ) (place : Place) → no_strings o ≡ true → Goes o (b ∷ bs) nothing place (tilde place bs)
tilde_goes o b [] place g = tt
tilde_goes o b (c ∷ bs) place g = if_goes o (b ∷ c ∷ bs) nothing place (c == 47) _ _ (λ _. opens_goes Pattern o (b ∷ c ∷ bs) place 2 g (refl, λ _. refl)) (λ _. tt)

-- ---- between tokens

line_goes : (c : Bool) (o : List Open) (bs : List ℕ) (place : Place) → no_strings o ≡ true → Goes o bs nothing place (passes (cond c line_end silent) Keep 1)
line_goes true o bs place g = (tt, g)
line_goes false o bs place g = (tt, g)

pub code_goes : (o : List Open) (place : Place) (b : ℕ) (bs : List ℕ) → no_strings o ≡ true → Goes o (b ∷ bs) nothing place (in_code o place b bs)
unfolding in_code
code_goes o place b bs g =
    if_goes o (b ∷ bs) nothing place (is_blank b) _ _ (λ _. (tt, g)) (λ _.
    if_goes o (b ∷ bs) nothing place (b == 10) _ _ (λ _. line_goes (lets_lines_end o) o (b ∷ bs) place g) (λ _.
    if_goes o (b ∷ bs) nothing place (b == 59) _ _ (λ _. ((tt, refl), g)) (λ _.
    if_goes o (b ∷ bs) nothing place (begins_name b) _ _ (λ h. word_goes o b bs place g h) (λ _.
    if_goes o (b ∷ bs) nothing place (is_ascii_digit b) _ _ (λ _. number_goes o (b ∷ bs) place g) (λ _.
    if_goes o (b ∷ bs) nothing place (b == 39) _ _ (λ _. quote_goes (Plain TripleSingle) (Plain Single) o (b ∷ bs) place g (λ _. tt) (λ _. tt)) (λ _.
    if_goes o (b ∷ bs) nothing place (b == 34) _ _ (λ _. quote_goes (Template TripleDouble) (Template Double) o (b ∷ bs) place g (λ _. tt) (λ _. tt)) (λ _.
    if_goes o (b ∷ bs) nothing place (b == 47) _ _ (λ _. slash_goes o b bs place g) (λ _.
    if_goes o (b ∷ bs) nothing place (b == 126) _ _ (λ _. tilde_goes o b bs place g) (λ _.
    marked_goes o (b ∷ bs) place (mark (b ∷ bs)) g)))))))))

-- ---- in holes and comments

pub named_goes : (o : List Open) (place : Place) (b : ℕ) (bs : List ℕ) → no_strings o ≡ true → Goes o (b ∷ bs) nothing place (in_named_hole b bs)
named_goes o place b bs g =
    if_goes o (b ∷ bs) nothing place (begins_name b) _ _ (λ h. word_goes o b bs place g h) (λ _.
    if_goes o (b ∷ bs) nothing place (b == 46 && begins_property bs) _ _ (λ _. ((tt, refl), g)) (λ _. ((tt, refl), strings_around o g)))

checked_goes : (o : List Open) (bs : List ℕ) (place : Place) (w : List ℕ) (change : Change) → no_strings (changed change o) ≡ true → Goes o bs nothing place (checked place w silent change)
checked_goes o bs place w change g = if_goes o bs nothing place (is_utf8 w) _ _ (λ _. (tt, g)) (λ _. tt)

pub line_comment_goes : (o : List Open) (place : Place) (bs : List ℕ) → no_strings o ≡ true → Goes o bs nothing place (in_line_comment place bs)
line_comment_goes o place bs g = checked_goes o bs place (take_while is_not_line_feed bs) _ (strings_around o g)

star_goes : (o : List Open) (b : ℕ) (bs : List ℕ) (place : Place) → no_strings o ≡ true → Goes o (b ∷ bs) nothing place (star bs)
star_goes o b [] place g = (tt, g)
star_goes o b (c ∷ bs) place g = if_goes o (b ∷ c ∷ bs) nothing place (c == 47) _ _ (λ _. (tt, strings_around o g)) (λ _. (tt, g))

pub comment_goes : (o : List Open) (place : Place) (b : ℕ) (bs : List ℕ) → no_strings o ≡ true → Goes o (b ∷ bs) nothing place (in_comment place b bs)
comment_goes o place b bs g =
    if_goes o (b ∷ bs) nothing place (b == 42) _ _ (λ _. star_goes o b bs place g) (λ _.
    if_goes o (b ∷ bs) nothing place (b == 10) _ _ (λ _. (tt, g)) (λ _.
    checked_goes o (b ∷ bs) place (take_while is_in_comment (b ∷ bs)) Keep g))
