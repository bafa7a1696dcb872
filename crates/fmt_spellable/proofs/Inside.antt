-- What is known of the bytes that the lexer holds stays true inside strings, patterns and templates.
use Rattle.std.proofs.Common.{◌≡◌, ℕ, ◌<◌, true, false, cond, List, [], ◌∷◌, ◌++◌, length, drop, Option, Some, None, refl, sym, ap, ◌∙◌, subst, arith}
use Rattle.std.specs.Prelude.{nat_eq, not, ◌==◌, ◌&&◌, ◌||◌, take_while}
use Rattle.std.specs.List.{starts_with, list_all}
use Rattle.std.specs.Str.{IsUtf8, is_utf8}
use Rattle.std.proofs.lemmas.Bool.Decides.{nat_tests}
use Rattle.std.proofs.lemmas.List.Sums.{take_while-cons}
use Rattle.std.proofs.lemmas.Str.{IsUtf8-from_is_utf8}
use Rattle.nf_value.specs.declared.place.Place.{Place}
use Rattle.nf_token.specs.declared.token.PlainKind.TheVariants.{Single, TripleSingle, Slashes}
use Rattle.nf_token.specs.declared.token.TemplateKind.{TemplateKind}
use Rattle.nf_token.specs.declared.token.TextKind.{TextKind}
use Rattle.nf_token.specs.declared.token.TextKind.TheVariants.{Plain, Pattern, Template}
use Rattle.nf_lexer.specs.declared.open.Open.{Open}
use Rattle.nf_lexer.specs.declared.open.Open.TheVariants.{Text}
use Rattle.nf_lexer.specs.declared.open.Change.TheVariants.{Keep, Leave}
use Rattle.nf_lexer.specs.Bytes.{begins_name, is_special, is_ordinary}
use Rattle.nf_lexer.specs.Front.{written, passes}
use Rattle.nf_lexer.specs.Joined.{Held, nothing, text}
use Rattle.nf_token.specs.Spellings.{closing}
use Rattle.nf_lexer.specs.Escape.{escaped, hex_number, character, written_or_bad, escape, kept}
use Rattle.nf_lexer.specs.First.{ended, has_escapes, has_holes, hole, in_text}
use Rattle.nf_lexer.proofs.Runs.{all_of_run}
use Rattle.fmt_tokens.specs.Fits.{ends_well, begins_slashed, IsSlashed}
use Rattle.fmt_tokens.proofs.Tests.{both}
use Rattle.fmt_spellable.proofs.Endings.{join, ends_on, run_ends, run_line, line_on, is_one_line, one_line, is_slash_next, is_no_comment, slash_first}
use Rattle.fmt_spellable.proofs.Keeps.{Holding, Sound, is_begun, Within, Goes, if_goes, held_around, adds}
use Rattle.fmt_spellable.proofs.Escapes.{byte_utf8, escaped_utf8, character_utf8}

-- ---- what bytes ask for that are added

-- nothing is asked of strings that have escapes
free : (k : TextKind) → has_escapes k ≡ true → (bs w : List ℕ) → Within k bs w
free (Plain Single) h bs w = tt
free (Plain TripleSingle) h bs w = tt
free (Plain Slashes) h bs w = absurd cc
free Pattern h bs w = absurd cc
free (Template q) h bs w = tt

begun_on : (bs rest : List ℕ) (c : ℕ) (x w : List ℕ) → (is_no_comment bs ≡ true → not (c == 42) ≡ true) → is_begun bs w ≡ true → is_begun rest (w ++ c ∷ x) ≡ true
begun_on bs rest c x [] h g = h g
begun_on bs rest c x (d ∷ w) h g = g

within_on : (k : TextKind) (bs rest : List ℕ) (c : ℕ) (x : List ℕ) → (has_escapes k ≡ false → is_one_line (c ∷ x) ≡ true) → (is_slash_next rest ≡ true → ends_well (c ∷ x) ≡ true) → (is_no_comment bs ≡ true → not (c == 42) ≡ true) → (w : List ℕ) → Within k bs w → Within k rest (w ++ c ∷ x)
within_on (Plain Single) bs rest c x l e b w g = tt
within_on (Plain TripleSingle) bs rest c x l e b w g = tt
within_on (Plain Slashes) bs rest c x l e b w g = ((line_on w (c ∷ x) g.0.0 (l refl), λ s. ends_on w c x (e s)), begun_on bs rest c x w b g.1)
within_on Pattern bs rest c x l e b w g = (line_on w (c ∷ x) g.0 (l refl), λ s. ends_on w c x (e s))
within_on (Template q) bs rest c x l e b w g = tt

-- ---- what closes it

no_slash : (b : ℕ) → (b == 47) ≡ true → not (b == 47 || b == 42) ≡ true → ⊥
no_slash b h g = absurd (grind (arith, nat_tests))

begins_by : (b : ℕ) (bs w : List ℕ) → (b == 47) ≡ true → is_begun (b ∷ bs) w ≡ true → begins_slashed w ≡ true
begins_by b bs [] h g = absurd (no_slash b h g)
begins_by b bs (c ∷ w) h g = g

-- what is between slashes, where a slash comes
slashed : (w : List ℕ) (b : ℕ) (bs : List ℕ) → IsUtf8 w → Sound (b ∷ bs) w → starts_with nat_eq (b ∷ bs) (47 ∷ []) ≡ true → IsSlashed w
slashed w b bs u s e = record { utf8 = u; on_line = s.0; ends = s.1 (slash_first b bs e) }

close_goes : (k : TextKind) (p : Place) (o : List Open) (b : ℕ) (bs : List ℕ) (held : Held) (place : Place) → Holding (Text k p ∷ o) (b ∷ bs) held → starts_with nat_eq (b ∷ bs) (closing k) ≡ true → Goes (Text k p ∷ o) (b ∷ bs) held place (passes (ended k) Leave (length (closing k)))
close_goes (Plain Single) p o b bs nothing place g e = absurd cc
close_goes (Plain Single) p o b bs (text start w) place g e = (g.1, g.0)
close_goes (Plain TripleSingle) p o b bs nothing place g e = absurd cc
close_goes (Plain TripleSingle) p o b bs (text start w) place g e = (g.1, g.0)
close_goes (Plain Slashes) p o b bs nothing place g e = absurd cc
close_goes (Plain Slashes) p o b bs (text start w) place g e =
    (record { slashed = slashed w b bs g.1 g.2.0 e; begins = begins_by b bs w (slash_first b bs e) g.2.1 }, g.0)
close_goes Pattern p o b bs nothing place g e = absurd cc
close_goes Pattern p o b bs (text start w) place g e = (slashed w b bs g.1 g.2 e, g.0)
close_goes (Template q) p o b bs held place g e = ((tt, refl), held_around (Text (Template q) p ∷ o) (b ∷ bs) held g)

-- ---- escapes

written_goes : (k : TextKind) (p : Place) (o : List Open) (bs : List ℕ) (held : Held) (place : Place) (x : Option (List ℕ)) (n : ℕ) → has_escapes k ≡ true → ((v : List ℕ) → x ≡ Some v → IsUtf8 v) → Holding (Text k p ∷ o) bs held → Goes (Text k p ∷ o) bs held place (written_or_bad place x n)
written_goes k p o bs held place (Some x) n h u g = (tt, adds k p o bs (drop n bs) x held place (u x refl) (λ w _. free k h (drop n bs) (w ++ x)) g)
written_goes k p o bs held place None n h u g = tt

escape_goes : (k : TextKind) (p : Place) (o : List Open) (b : ℕ) (bs : List ℕ) (held : Held) (place : Place) → has_escapes k ≡ true → Holding (Text k p ∷ o) (b ∷ bs) held → Goes (Text k p ∷ o) (b ∷ bs) held place (escape place bs)
escape_goes k p o b [] held place h g = tt
escape_goes k p o b (c ∷ bs) held place h g =
    if_goes (Text k p ∷ o) (b ∷ c ∷ bs) held place (c == 117) _ _
    (λ _. written_goes k p o (b ∷ c ∷ bs) held place (character (hex_number bs)) 6 h (character_utf8 bs) g)
    (λ _. written_goes k p o (b ∷ c ∷ bs) held place (escaped c) 2 h (escaped_utf8 c) g)

-- ---- a backslash that stands for itself

no_next : (c : ℕ) → (c == 47) ≡ false → (c == 47) ≡ true → ends_well (92 ∷ []) ≡ true
no_next c h k = absurd (grind (arith, nat_tests))

kept_goes : (k : TextKind) (p : Place) (o : List Open) (b : ℕ) (bs : List ℕ) (held : Held) (place : Place) → Holding (Text k p ∷ o) (b ∷ bs) held → Goes (Text k p ∷ o) (b ∷ bs) held place (kept bs)
kept_goes k p o b [] held place g = (tt, adds k p o (b ∷ []) [] (92 ∷ []) held place (byte_utf8 92 (omega arith)) (within_on k (b ∷ []) [] 92 [] (λ _. refl) (λ s. absurd cc) (λ _. refl)) g)
kept_goes k p o b (c ∷ bs) held place g =
    if_goes (Text k p ∷ o) (b ∷ c ∷ bs) held place (c == 47) _ _
    (λ h. (tt, adds k p o (b ∷ c ∷ bs) (drop 2 (b ∷ c ∷ bs)) (47 ∷ []) held place (byte_utf8 47 (omega arith)) (within_on k (b ∷ c ∷ bs) (drop 2 (b ∷ c ∷ bs)) 47 [] (λ _. refl) (λ _. refl) (λ _. refl)) g))
    (λ h. (tt, adds k p o (b ∷ c ∷ bs) (c ∷ bs) (92 ∷ []) held place (byte_utf8 92 (omega arith)) (within_on k (b ∷ c ∷ bs) (c ∷ bs) 92 [] (λ _. refl) (no_next c h) (λ _. refl)) g))

-- ---- holes

template_hole : (q : TemplateKind) (p : Place) (o : List Open) (b : ℕ) (bs : List ℕ) (held : Held) (place : Place) → Holding (Text (Template q) p ∷ o) (b ∷ bs) held → Goes (Text (Template q) p ∷ o) (b ∷ bs) held place (hole bs)
template_hole q p o b [] held place g = (tt, adds (Template q) p o (b ∷ []) [] (36 ∷ []) held place (byte_utf8 36 (omega arith)) (λ _ _. tt) g)
template_hole q p o b (c ∷ bs) held place g =
    let around = held_around (Text (Template q) p ∷ o) (b ∷ c ∷ bs) held g in
    if_goes (Text (Template q) p ∷ o) (b ∷ c ∷ bs) held place (c == 123) _ _ (λ _. ((tt, refl), around)) (λ _.
    if_goes (Text (Template q) p ∷ o) (b ∷ c ∷ bs) held place (begins_name c) _ _ (λ _. ((tt, refl), around))
    (λ _. (tt, adds (Template q) p o (b ∷ c ∷ bs) (c ∷ bs) (36 ∷ []) held place (byte_utf8 36 (omega arith)) (λ _ _. tt) g)))

hole_goes : (k : TextKind) (p : Place) (o : List Open) (b : ℕ) (bs : List ℕ) (held : Held) (place : Place) → has_holes k ≡ true → Holding (Text k p ∷ o) (b ∷ bs) held → Goes (Text k p ∷ o) (b ∷ bs) held place (hole bs)
hole_goes (Plain q) p o b bs held place h g = absurd cc
hole_goes Pattern p o b bs held place h g = absurd cc
hole_goes (Template q) p o b bs held place h g = template_hole q p o b bs held place g

-- ---- bytes that stand for themselves

special_small : (b : ℕ) → is_special b ≡ true → b < 128
special_small b h = grind (arith, nat_tests)

special_no_star : (b : ℕ) → is_special b ≡ true → not (b == 42) ≡ true
special_no_star b h = grind (arith, nat_tests)

special_goes : (k : TextKind) (p : Place) (o : List Open) (b : ℕ) (bs : List ℕ) (held : Held) → (has_escapes k ≡ false → (b == 10) ≡ false) → (b == 92) ≡ false → is_special b ≡ true → (place : Place) → Holding (Text k p ∷ o) (b ∷ bs) held → Goes (Text k p ∷ o) (b ∷ bs) held place (passes (written (b ∷ [])) Keep 1)
special_goes k p o b bs held l e s place g =
    (tt, adds k p o (b ∷ bs) (drop 1 (b ∷ bs)) (b ∷ []) held place (byte_utf8 b (special_small b s)) (within_on k (b ∷ bs) (drop 1 (b ∷ bs)) b [] (λ h. one_line b (l h)) (λ _. ap not e) (λ _. special_no_star b s)) g)

no_star : (b : ℕ) → not (b == 47 || b == 42) ≡ true → not (b == 42) ≡ true
no_star b h = grind (arith, nat_tests)

run_goes : (k : TextKind) (p : Place) (o : List Open) (b : ℕ) (bs : List ℕ) (held : Held) (place : Place) → is_special b ≡ false → IsUtf8 (take_while is_ordinary (b ∷ bs)) → Holding (Text k p ∷ o) (b ∷ bs) held → Goes (Text k p ∷ o) (b ∷ bs) held place (passes (written (take_while is_ordinary (b ∷ bs))) Keep (length (take_while is_ordinary (b ∷ bs))))
run_goes k p o b bs held place s u g =
    let run = take_while is_ordinary (b ∷ bs) in
    let rest = drop (length run) (b ∷ bs) in
    let e : run ≡ b ∷ take_while is_ordinary bs = take_while-cons is_ordinary b bs ∙ ap (λ t. cond (not t) (b ∷ take_while is_ordinary bs) []) s in
    let all : list_all is_ordinary (b ∷ take_while is_ordinary bs) ≡ true = join (is_ordinary b) (list_all is_ordinary (take_while is_ordinary bs)) (ap not s) (all_of_run is_ordinary is_ordinary (λ c h. h) bs) in
    let on = within_on k (b ∷ bs) rest b (take_while is_ordinary bs) (λ _. run_line (b ∷ take_while is_ordinary bs) all) (λ _. run_ends (b ∷ take_while is_ordinary bs) all) (no_star b) in
    (tt, adds k p o (b ∷ bs) rest run held place u (λ w h. subst (λ z. Within k rest (w ++ z)) (sym e) (on w h)) g)

-- ---- the whole

pub text_goes : (k : TextKind) (p : Place) (o : List Open) (place : Place) (b : ℕ) (bs : List ℕ) (held : Held) → (has_escapes k ≡ false → (b == 10) ≡ false) → Holding (Text k p ∷ o) (b ∷ bs) held → Goes (Text k p ∷ o) (b ∷ bs) held place (in_text k place b bs)
unfolding in_text
text_goes k p o place b bs held l g =
    if_goes (Text k p ∷ o) (b ∷ bs) held place (starts_with nat_eq (b ∷ bs) (closing k)) _ _ (λ h. close_goes k p o b bs held place g h) (λ _.
    if_goes (Text k p ∷ o) (b ∷ bs) held place (b == 92) _ _
    (λ _. if_goes (Text k p ∷ o) (b ∷ bs) held place (has_escapes k) _ _ (λ h. escape_goes k p o b bs held place h g) (λ _. kept_goes k p o b bs held place g)) (λ e.
    if_goes (Text k p ∷ o) (b ∷ bs) held place (b == 36 && has_holes k) _ _ (λ h. hole_goes k p o b bs held place (both (b == 36) (has_holes k) h).1 g) (λ _.
    if_goes (Text k p ∷ o) (b ∷ bs) held place (is_special b) _ _ (λ s. special_goes k p o b bs held l e s place g) (λ s.
    if_goes (Text k p ∷ o) (b ∷ bs) held place (is_utf8 (take_while is_ordinary (b ∷ bs))) _ _ (λ u. run_goes k p o b bs held place s (IsUtf8-from_is_utf8 (take_while is_ordinary (b ∷ bs)) u) g) (λ _. tt)))))
