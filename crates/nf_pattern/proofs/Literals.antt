-- Whether a path is literal, character by character.
use Rattle.std.proofs.Common.{◌≡◌, ℕ, Bool, true, false, not, ◌==◌, ◌||◌, ◌&&◌, List, [], ◌∷◌, refl, sym, ◌∙◌, ap, cond}
use Rattle.std.specs.List.{list_all, slice_split, onto_first}
use Rattle.nf_pattern.specs.Parting.{has}
use Rattle.nf_pattern.specs.Glob.{star, question, opening, closing}
use Rattle.nf_pattern.specs.Literal.{slash, has_alternatives, is_literal_component, is_literal_path}

-- whether a character stands for itself (`,` and `{` too), where a `{` was met in its component or not
abbrev is_plain : Bool → ℕ → Bool
is_plain opened c = not (c == star) && not (c == question) && not (opened && (c == closing))

-- the rest of a path, likewise
abbrev pub literal_from : Bool → List ℕ → Bool
literal_from opened [] = true
literal_from opened (c ∷ cs) = cond (c == slash) (literal_from false cs) (is_plain opened c && literal_from (opened || (c == opening)) cs)

-- the rest of a component, and what stands after it
abbrev component_from : Bool → List ℕ → Bool
component_from opened cs = not (has star cs) && not (has question cs) && not (has_alternatives cs) && not (opened && has closing cs)

abbrev components_from : Bool → List (List ℕ) → Bool
components_from opened [] = component_from opened [] && true
components_from opened (part ∷ parts) = component_from opened part && list_all is_literal_component parts

-- braces: the rest of the component has a closing one, or alternatives; the character is an opening or a closing one
braces : (plain opened is_opening is_closing closings alternatives rest : Bool) →
    (plain && not ((is_opening && closings) || alternatives) && not (opened && (is_closing || closings)) && rest)
    ≡ (not (opened && is_closing) && (plain && not alternatives && not ((opened || is_opening) && closings) && rest))
braces plain false false is_closing closings alternatives rest = refl
braces plain false true is_closing false alternatives rest = refl
braces false false true is_closing true alternatives rest = refl
braces true false true is_closing true false rest = refl
braces true false true is_closing true true rest = refl
braces false true is_opening true closings alternatives rest = refl
braces true true false true closings false rest = refl
braces true true false true closings true rest = refl
braces true true true true true alternatives rest = refl
braces true true true true false false rest = refl
braces true true true true false true rest = refl
braces plain true false false closings alternatives rest = refl
braces plain true true false false alternatives rest = refl
braces false true true false true alternatives rest = refl
braces true true true false true false rest = refl
braces true true true false true true rest = refl

one_more : (opened is_star is_question is_opening is_closing stars questions closings alternatives rest : Bool) →
    (not (is_star || stars) && not (is_question || questions) && not ((is_opening && closings) || alternatives) && not (opened && (is_closing || closings)) && rest)
    ≡ (not is_star && not is_question && not (opened && is_closing) && (not stars && not questions && not alternatives && not ((opened || is_opening) && closings) && rest))
one_more opened true is_question is_opening is_closing stars questions closings alternatives rest = refl
one_more opened false true is_opening is_closing true questions closings alternatives rest = refl
one_more opened false true is_opening is_closing false questions closings alternatives rest = refl
one_more opened false false is_opening is_closing stars questions closings alternatives rest = braces (not stars && not questions) opened is_opening is_closing closings alternatives rest

in_front : (opened : Bool) (c : ℕ) (parts : List (List ℕ)) → components_from opened (onto_first c parts) ≡ (is_plain opened c && components_from (opened || (c == opening)) parts)
in_front opened c [] = one_more opened (c == star) (c == question) (c == opening) (c == closing) false false false false true
in_front opened c (part ∷ parts) = one_more opened (c == star) (c == question) (c == opening) (c == closing) (has star part) (has question part) (has closing part) (has_alternatives part) (list_all is_literal_component parts)

empty : (opened rest : Bool) → (component_from opened [] && rest) ≡ rest
empty true rest = refl
empty false rest = refl

and_true : (a : Bool) → (a && true) ≡ a
and_true true = refl
and_true false = refl

unopened : (parts : List (List ℕ)) → components_from false parts ≡ list_all is_literal_component parts
unopened [] = refl
unopened (part ∷ parts) = rw (and_true (is_literal_component part)) refl

at_slash : (opened : Bool) (c : ℕ) (cs : List ℕ) → ((o : Bool) → literal_from o cs ≡ components_from o (slice_split (λ c. c == slash) cs)) → (b : Bool) → (c == slash) ≡ b
    → literal_from opened (c ∷ cs) ≡ components_from opened (slice_split (λ c. c == slash) (c ∷ cs))
at_slash opened c cs rest true e = rw e (rest false ∙ unopened (slice_split (λ c. c == slash) cs) ∙ sym (empty opened (list_all is_literal_component (slice_split (λ c. c == slash) cs))))
at_slash opened c cs rest false e = rw e (ap (λ r. is_plain opened c && r) (rest (opened || (c == opening))) ∙ sym (in_front opened c (slice_split (λ c. c == slash) cs)))

by_components : (opened : Bool) (cs : List ℕ) → literal_from opened cs ≡ components_from opened (slice_split (λ c. c == slash) cs)
by_components opened [] = sym (empty opened true)
by_components opened (c ∷ cs) = at_slash opened c cs (λ o. by_components o cs) (c == slash) refl

pub literal_same : (path : List ℕ) → is_literal_path path ≡ literal_from false path
literal_same path = sym (by_components false path ∙ unopened (slice_split (λ c. c == slash) path))
