-- Texts without a front or an end of theirs, by their characters.
use Rattle.std.proofs.Common.{◌≡◌, ◌≢◌, ℕ, Bool, true, false, ◌==◌, ◌-◌, if◌then◌else◌, List, [], ◌∷◌, ◌++◌, length, reverse, Option, None, Some, MatchOption, Bor, option_map, IsUtf8, refl, sym, ◌∙◌, ap}
use Rattle.std.specs.Str.{chars, encode_utf8_all}
use Rattle.std.specs.Str.Pattern.{FindsTextPrefix, FindsTextSuffix, StripsPrefix, StripsSuffix}
use Rattle.std.proofs.lemmas.Str.{chars-append, encodes-append, encodes-chars, IsUtf8-take}
use Rattle.std.proofs.lemmas.Bool.{eq-eqb, eqb-true}
use Rattle.std.proofs.lemmas.List.{reverse-append, reverse-reverse}
use Rattle.nf_paths.specs.Pairs.{stripped, end_stripped}
use Rattle.nf_paths.specs.Texts.{text_of}

some_is : {A : Type 0} {x y : A} → Some x ≡ Some y → x ≡ y
some_is e = cc

stripped_front : (ps cs : List ℕ) → stripped ps (ps ++ cs) ≡ Some cs
stripped_front [] cs = refl
stripped_front (p ∷ ps) cs = rw (eq-eqb p p refl) (stripped_front ps cs)

front_by : (p c : ℕ) (ps cs rest : List ℕ) → (stripped ps cs ≡ Some rest → cs ≡ ps ++ rest) → (b : Bool) → (p == c) ≡ b → (if b then stripped ps cs else None) ≡ Some rest → c ∷ cs ≡ p ∷ (ps ++ rest)
front_by p c ps cs rest later true e k = ap (λ x. x ∷ cs) (sym (eqb-true p c e)) ∙ ap (λ xs. p ∷ xs) (later k)
front_by p c ps cs rest later false e k = absurd (cc)

front_is : (ps cs rest : List ℕ) → stripped ps cs ≡ Some rest → cs ≡ ps ++ rest
front_is [] cs rest h = some_is h
front_is (p ∷ ps) [] rest h = absurd (cc)
front_is (p ∷ ps) (c ∷ cs) rest h = front_by p c ps cs rest (front_is ps cs rest) (p == c) refl h

-- ---- a front

bytes_of : (xs ys : List ℕ) (text front : List ℕ) → IsUtf8 text → IsUtf8 front → chars text ≡ chars front ++ ys → text ≡ front ++ encode_utf8_all ys
bytes_of xs ys text front u v e =
    sym (encodes-chars text u) ∙ ap encode_utf8_all e ∙ encodes-append (chars front) ys ∙ ap (λ bs. bs ++ encode_utf8_all ys) (encodes-chars front v)

no_front : (text front : List ℕ) → IsUtf8 text → IsUtf8 front → ((rest : List ℕ) → text ≢ front ++ rest) → (o : Option (List ℕ)) → stripped (chars front) (chars text) ≡ o → None ≡ o
no_front text front u v h None e = refl
no_front text front u v h (Some ys) e = absurd (h (encode_utf8_all ys) (bytes_of [] ys text front u v (front_is (chars front) (chars text) ys e)))

pub front_same : (text front : List ℕ) (r : Option (Bor (List ℕ))) → IsUtf8 text → IsUtf8 front
    → MatchOption r ((rest : List ℕ) → text ≢ front ++ rest) (λ x. text ≡ front ++ x.now) → option_map text_of r ≡ stripped (chars front) (chars text)
front_same text front None u v h = no_front text front u v h (stripped (chars front) (chars text)) refl
front_same text front (Some x) u v h =
    sym (ap (stripped (chars front)) (ap chars h ∙ chars-append front x.now v) ∙ stripped_front (chars front) (chars x.now))

-- ---- an end

end_by : (end cs rest : List ℕ) (o : Option (List ℕ)) → stripped (reverse end) (reverse cs) ≡ o → option_map reverse o ≡ Some rest → cs ≡ rest ++ end
end_by end cs rest None e k = absurd (cc)
end_by end cs rest (Some ys) e k =
    sym (reverse-reverse cs) ∙ ap reverse (front_is (reverse end) (reverse cs) ys e) ∙ reverse-append (reverse end) ys
    ∙ ap (λ xs. reverse ys ++ xs) (reverse-reverse end) ∙ ap (λ xs. xs ++ end) (some_is k)

end_is : (end cs rest : List ℕ) → end_stripped end cs ≡ Some rest → cs ≡ rest ++ end
end_is end cs rest h = end_by end cs rest (stripped (reverse end) (reverse cs)) refl h

stripped_end : (end cs : List ℕ) → end_stripped end (cs ++ end) ≡ Some cs
stripped_end end cs =
    ap (λ xs. option_map reverse (stripped (reverse end) xs)) (reverse-append cs end) ∙ ap (option_map reverse) (stripped_front (reverse end) (reverse cs))
    ∙ ap Some (reverse-reverse cs)

end_bytes : (ys : List ℕ) (text end : List ℕ) → IsUtf8 text → IsUtf8 end → chars text ≡ ys ++ chars end → text ≡ encode_utf8_all ys ++ end
end_bytes ys text end u v e =
    sym (encodes-chars text u) ∙ ap encode_utf8_all e ∙ encodes-append ys (chars end) ∙ ap (λ bs. encode_utf8_all ys ++ bs) (encodes-chars end v)

no_end : (text end : List ℕ) → IsUtf8 text → IsUtf8 end → ((front : List ℕ) → text ≢ front ++ end) → (o : Option (List ℕ)) → end_stripped (chars end) (chars text) ≡ o → None ≡ o
no_end text end u v h None e = refl
no_end text end u v h (Some ys) e = absurd (h (encode_utf8_all ys) (end_bytes ys text end u v (end_is (chars end) (chars text) ys e)))

-- what stands before an end of a text is text
pub record EndsSo (text end front : List ℕ) : Type 0 where
  pub whole : text ≡ front ++ end
  pub is_text : IsUtf8 front

pub end_same : (text end : List ℕ) (r : Option (Bor (List ℕ))) → IsUtf8 text → IsUtf8 end
    → MatchOption r ((front : List ℕ) → text ≢ front ++ end) (λ x. EndsSo text end x.now) → option_map text_of r ≡ end_stripped (chars end) (chars text)
end_same text end None u v h = no_end text end u v h (end_stripped (chars end) (chars text)) refl
end_same text end (Some x) u v h =
    sym (ap (end_stripped (chars end)) (ap chars h.whole ∙ chars-append x.now end h.is_text) ∙ stripped_end (chars end) (chars x.now))

-- ---- the clauses of `strip_prefix` and `strip_suffix`

pub prefix_is : (text front : List ℕ) (r : Option (Bor (List ℕ))) → MatchOption r (FindsTextPrefix front text None) (λ x. StripsPrefix (FindsTextPrefix front) text x.now)
    → MatchOption r ((rest : List ℕ) → text ≢ front ++ rest) (λ x. text ≡ front ++ x.now)
prefix_is text front None h = h
prefix_is text front (Some x) (n, found, is, len) = found.1 ∙ ap (λ xs. front ++ xs) (sym is)

pub suffix_is : (text end : List ℕ) (r : Option (Bor (List ℕ))) → IsUtf8 text → MatchOption r (FindsTextSuffix end text None) (λ x. StripsSuffix (FindsTextSuffix end) text x.now)
    → MatchOption r ((front : List ℕ) → text ≢ front ++ end) (λ x. EndsSo text end x.now)
suffix_is text end None u h = h
suffix_is text end (Some x) u (n, found, is, len) = record {
  whole = found.1 ∙ ap (λ xs. xs ++ end) (sym is);
  is_text = rw is (IsUtf8-take text (length text - n) u (rw found.0 found.2));
}
