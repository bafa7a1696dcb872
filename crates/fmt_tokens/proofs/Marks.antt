-- How each mark, blank and line end is read.
use Rattle.std.proofs.Common.{◌≡◌, ℕ, Bool, true, false, cond, List, [], ◌∷◌, ◌++◌, length, drop, Some, None, refl, sym, ap, ◌∙◌}
use Rattle.std.specs.Prelude.{◌==◌, ◌||◌}
use Rattle.std.proofs.lemmas.List.{drop_at}
use Rattle.nf_value.specs.declared.place.Place.{Place}
use Rattle.nf_token.specs.declared.token.Mark.{Mark}
use Rattle.nf_token.specs.declared.token.Mark.TheVariants as m
use Rattle.nf_lexer.specs.declared.open.Open.{Open}
use Rattle.nf_lexer.specs.declared.open.Change.TheVariants.{Keep}
use Rattle.nf_token.specs.declared.token.Token.TheVariants as t
use Rattle.nf_lexer.specs.Front.{silent, lexed, passes}
use Rattle.nf_lexer.specs.Joined.{at}
use Rattle.nf_lexer.specs.Open.{outermost, line_fault, changed}
use Rattle.nf_lexer.specs.Place.{place_of}
use Rattle.nf_lexer.specs.Mark.{past, mark_or, mark, mark_token, mark_change, marked}
use Rattle.nf_lexer.specs.First.{line_item, in_code}
use Rattle.nf_writer.specs.Ink.{mark_text}
use Rattle.fmt_tokens.specs.Leads.{Leads}
use Rattle.fmt_tokens.proofs.Strings.{no_fault}
use Rattle.fmt_tokens.proofs.Tests.{neither, not_not}
use Rattle.fmt_tokens.proofs.Cuts.{drop_nothing}
use Rattle.fmt_tokens.proofs.Codes.{is_code, fails_first, first_in_code, item_leads}

-- the bytes that make a longer mark of this one
abbrev pub goes_on : Mark → ℕ → Bool
goes_on m.Dot b = b == 46
goes_on m.Minus b = b == 62
goes_on m.Equals b = b == 61
goes_on m.Same b = b == 126
goes_on m.Less b = b == 61
goes_on m.Greater b = b == 61
goes_on m.Not b = b == 61
goes_on m.Pipe b = b == 124
goes_on m.Question b = b == 46 || b == 58
goes_on _ b = false

mark_read : (x : Mark) (rest : List ℕ) → fails_first (goes_on x) rest ≡ true → mark (mark_text x ++ rest) ≡ Some (x, length (mark_text x))
unfolding mark
mark_read m.OpenRound rest h = refl
mark_read m.CloseRound rest h = refl
mark_read m.OpenSquare rest h = refl
mark_read m.CloseSquare rest h = refl
mark_read m.OpenBrace rest h = refl
mark_read m.CloseBrace rest h = refl
mark_read m.Comma rest h = refl
mark_read m.Colon rest h = refl
mark_read m.QuestionDot rest h = refl
mark_read m.DotDot rest h = refl
mark_read m.Arrow rest h = refl
mark_read m.Plus rest h = refl
mark_read m.Times rest h = refl
mark_read m.Percent rest h = refl
mark_read m.AtMost rest h = refl
mark_read m.AtLeast rest h = refl
mark_read m.Differs rest h = refl
mark_read m.Matches rest h = refl
mark_read m.And rest h = refl
mark_read m.Or rest h = refl
mark_read m.Elvis rest h = refl
mark_read m.Dot [] h = refl
mark_read m.Dot (c ∷ rest) h = ap (λ t. mark_or (cond t (Some rest) None) m.DotDot 2 (Some (m.Dot, 1))) (not_not (c == 46) h)
mark_read m.Minus [] h = refl
mark_read m.Minus (c ∷ rest) h = ap (λ t. mark_or (cond t (Some rest) None) m.Arrow 2 (Some (m.Minus, 1))) (not_not (c == 62) h)
mark_read m.Equals [] h = refl
mark_read m.Equals (c ∷ rest) h = ap (λ t. mark_or (cond t (past (126 ∷ []) rest) None) m.Matches 3 (mark_or (cond t (Some rest) None) m.Same 2 (Some (m.Equals, 1)))) (not_not (c == 61) h)
mark_read m.Same [] h = refl
mark_read m.Same (c ∷ rest) h = ap (λ t. mark_or (cond t (Some rest) None) m.Matches 3 (Some (m.Same, 2))) (not_not (c == 126) h)
mark_read m.Less [] h = refl
mark_read m.Less (c ∷ rest) h = ap (λ t. mark_or (cond t (Some rest) None) m.AtMost 2 (Some (m.Less, 1))) (not_not (c == 61) h)
mark_read m.Greater [] h = refl
mark_read m.Greater (c ∷ rest) h = ap (λ t. mark_or (cond t (Some rest) None) m.AtLeast 2 (Some (m.Greater, 1))) (not_not (c == 61) h)
mark_read m.Not [] h = refl
mark_read m.Not (c ∷ rest) h = ap (λ t. mark_or (cond t (Some rest) None) m.Differs 2 (Some (m.Not, 1))) (not_not (c == 61) h)
mark_read m.Pipe [] h = refl
mark_read m.Pipe (c ∷ rest) h = ap (λ t. mark_or (cond t (Some rest) None) m.Or 2 (Some (m.Pipe, 1))) (not_not (c == 124) h)
mark_read m.Question [] h = refl
mark_read m.Question (c ∷ rest) h =
    let e = neither (c == 46) (c == 58) (not_not (c == 46 || c == 58) h) in
    ap (λ t. mark_or (cond t (Some rest) None) m.QuestionDot 2 (mark_or (cond (c == 58) (Some rest) None) m.Elvis 2 (Some (m.Question, 1)))) e.0
    ∙ ap (λ t. mark_or (cond t (Some rest) None) m.Elvis 2 (Some (m.Question, 1))) e.1

-- ---- as a token

mark_code : (x : Mark) (o : List Open) (place : Place) (b : ℕ) (bs rest : List ℕ) → b ∷ bs ≡ mark_text x ++ rest → in_code o place b bs ≡ marked o place (mark (b ∷ bs)) → fails_first (goes_on x) rest ≡ true → in_code o place b bs ≡ passes (lexed (mark_token x o)) (mark_change x o) (length (mark_text x))
mark_code x o place b bs rest e h f = h ∙ ap (λ z. marked o place (mark z)) e ∙ ap (marked o place) (mark_read x rest f)

leads_by : (text : List ℕ) (x : Mark) (o : List Open) (b : ℕ) (w rest : List ℕ) → b ∷ w ≡ mark_text x → (b == 10) ≡ false → ((place : Place) → in_code o place b (w ++ rest) ≡ marked o place (mark (b ∷ (w ++ rest)))) → is_code o ≡ true → fails_first (goes_on x) rest ≡ true → Leads text o (b ∷ (w ++ rest)) (at (lexed (mark_token x o)) (place_of text (length (b ∷ (w ++ rest)))) ∷ []) (changed (mark_change x o) o) rest
leads_by text x o b w rest e n h i f =
    let place = place_of text (length (b ∷ (w ++ rest))) in
    let long : length (b ∷ w) ≡ length (mark_text x) = ap (λ (z : List ℕ). length z) e in
    item_leads text (b ∷ (w ++ rest)) rest o (lexed (mark_token x o)) (mark_change x o) (length (mark_text x))
    (first_in_code o place b (w ++ rest) i (no_fault b o n) ∙ mark_code x o place b (w ++ rest) rest (ap (λ z. z ++ rest) e) (h place) f)
    (ap (λ z. drop z (b ∷ (w ++ rest))) (sym long) ∙ drop_at (b ∷ w) rest (length (b ∷ w)) refl)

-- a mark, before a byte that makes no longer mark of it
pub mark_leads : (text : List ℕ) (x : Mark) (rest : List ℕ) (o : List Open) → is_code o ≡ true → fails_first (goes_on x) rest ≡ true → Leads text o (mark_text x ++ rest) (at (lexed (mark_token x o)) (place_of text (length (mark_text x ++ rest))) ∷ []) (changed (mark_change x o) o) rest
unfolding in_code
mark_leads text m.OpenRound rest o i f = leads_by text m.OpenRound o 40 [] rest refl refl (λ place. refl) i f
mark_leads text m.CloseRound rest o i f = leads_by text m.CloseRound o 41 [] rest refl refl (λ place. refl) i f
mark_leads text m.OpenSquare rest o i f = leads_by text m.OpenSquare o 91 [] rest refl refl (λ place. refl) i f
mark_leads text m.CloseSquare rest o i f = leads_by text m.CloseSquare o 93 [] rest refl refl (λ place. refl) i f
mark_leads text m.OpenBrace rest o i f = leads_by text m.OpenBrace o 123 [] rest refl refl (λ place. refl) i f
mark_leads text m.CloseBrace rest o i f = leads_by text m.CloseBrace o 125 [] rest refl refl (λ place. refl) i f
mark_leads text m.Comma rest o i f = leads_by text m.Comma o 44 [] rest refl refl (λ place. refl) i f
mark_leads text m.Colon rest o i f = leads_by text m.Colon o 58 [] rest refl refl (λ place. refl) i f
mark_leads text m.Dot rest o i f = leads_by text m.Dot o 46 [] rest refl refl (λ place. refl) i f
mark_leads text m.QuestionDot rest o i f = leads_by text m.QuestionDot o 63 (46 ∷ []) rest refl refl (λ place. refl) i f
mark_leads text m.DotDot rest o i f = leads_by text m.DotDot o 46 (46 ∷ []) rest refl refl (λ place. refl) i f
mark_leads text m.Arrow rest o i f = leads_by text m.Arrow o 45 (62 ∷ []) rest refl refl (λ place. refl) i f
mark_leads text m.Equals rest o i f = leads_by text m.Equals o 61 [] rest refl refl (λ place. refl) i f
mark_leads text m.Plus rest o i f = leads_by text m.Plus o 43 [] rest refl refl (λ place. refl) i f
mark_leads text m.Minus rest o i f = leads_by text m.Minus o 45 [] rest refl refl (λ place. refl) i f
mark_leads text m.Times rest o i f = leads_by text m.Times o 42 [] rest refl refl (λ place. refl) i f
mark_leads text m.Percent rest o i f = leads_by text m.Percent o 37 [] rest refl refl (λ place. refl) i f
mark_leads text m.Less rest o i f = leads_by text m.Less o 60 [] rest refl refl (λ place. refl) i f
mark_leads text m.AtMost rest o i f = leads_by text m.AtMost o 60 (61 ∷ []) rest refl refl (λ place. refl) i f
mark_leads text m.Greater rest o i f = leads_by text m.Greater o 62 [] rest refl refl (λ place. refl) i f
mark_leads text m.AtLeast rest o i f = leads_by text m.AtLeast o 62 (61 ∷ []) rest refl refl (λ place. refl) i f
mark_leads text m.Same rest o i f = leads_by text m.Same o 61 (61 ∷ []) rest refl refl (λ place. refl) i f
mark_leads text m.Differs rest o i f = leads_by text m.Differs o 33 (61 ∷ []) rest refl refl (λ place. refl) i f
mark_leads text m.Matches rest o i f = leads_by text m.Matches o 61 (61 ∷ 126 ∷ []) rest refl refl (λ place. refl) i f
mark_leads text m.And rest o i f = leads_by text m.And o 38 (38 ∷ []) rest refl refl (λ place. refl) i f
mark_leads text m.Or rest o i f = leads_by text m.Or o 124 (124 ∷ []) rest refl refl (λ place. refl) i f
mark_leads text m.Pipe rest o i f = leads_by text m.Pipe o 124 [] rest refl refl (λ place. refl) i f
mark_leads text m.Not rest o i f = leads_by text m.Not o 33 [] rest refl refl (λ place. refl) i f
mark_leads text m.Question rest o i f = leads_by text m.Question o 63 [] rest refl refl (λ place. refl) i f
mark_leads text m.Elvis rest o i f = leads_by text m.Elvis o 63 (58 ∷ []) rest refl refl (λ place. refl) i f

-- ---- between tokens

separator_code : (o : List Open) (place : Place) (bs : List ℕ) → in_code o place 59 bs ≡ passes (lexed t.Separator) Keep 1
unfolding in_code
separator_code o place bs = refl

pub separator_leads : (text rest : List ℕ) (o : List Open) → is_code o ≡ true → Leads text o (59 ∷ rest) (at (lexed t.Separator) (place_of text (length (59 ∷ rest))) ∷ []) o rest
separator_leads text rest o i =
    let place = place_of text (length (59 ∷ rest)) in
    item_leads text (59 ∷ rest) rest o (lexed t.Separator) Keep 1 (first_in_code o place 59 rest i refl ∙ separator_code o place rest) (drop_nothing rest)

blank_code : (o : List Open) (place : Place) (bs : List ℕ) → in_code o place 32 bs ≡ passes silent Keep 1
unfolding in_code
blank_code o place bs = refl

pub blank_leads : (text rest : List ℕ) (o : List Open) → is_code o ≡ true → Leads text o (32 ∷ rest) (at silent (place_of text (length (32 ∷ rest))) ∷ []) o rest
blank_leads text rest o i =
    let place = place_of text (length (32 ∷ rest)) in
    item_leads text (32 ∷ rest) rest o silent Keep 1 (first_in_code o place 32 rest i refl ∙ blank_code o place rest) (drop_nothing rest)

end_code : (o : List Open) (place : Place) (bs : List ℕ) → in_code o place 10 bs ≡ passes (line_item o) Keep 1
unfolding in_code
end_code o place bs = refl

pub end_leads : (text rest : List ℕ) (o : List Open) → is_code o ≡ true → outermost line_fault o ≡ None → Leads text o (10 ∷ rest) (at (line_item o) (place_of text (length (10 ∷ rest))) ∷ []) o rest
end_leads text rest o i calm =
    let place = place_of text (length (10 ∷ rest)) in
    item_leads text (10 ∷ rest) rest o (line_item o) Keep 1 (first_in_code o place 10 rest i calm ∙ end_code o place rest) (drop_nothing rest)
