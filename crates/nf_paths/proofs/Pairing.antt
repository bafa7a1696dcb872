-- Pairs of files, from their keys on.
use Rattle.std.proofs.Common.{◌≡◌, ◌<◌, ℕ, ◌+◌, List, [], ◌∷◌, ◌++◌, length, take, get_or, string_bytes, Option, option_map, refl, sym, ◌∙◌, ap, append_assoc, add-one, arith}
use Rattle.std.specs.Prelude.{String}
use Rattle.std.specs.Global.{Global}
use Rattle.std.specs.List.{flat_map}
use Rattle.std.specs.Str.{chars}
use Rattle.std.proofs.Math.Seq.{take-suc}
use Rattle.std.proofs.lemmas.List.{append-nil}
use Rattle.nf_value.specs.Plain.{Plain}
use Rattle.nf_value.specs.declared.file.FileRef.{FileRef}
use Rattle.nf_paths.specs.Paths.{name_at}
use Rattle.nf_paths.specs.Pairs.{PairPattern, Keyed, key_of, with_key, keyed, pair_pattern, pair_if_two, pairs_among, pairs_by, pairs_of}
use Rattle.nf_paths.specs.Texts.{pattern_of}
use Rattle.nf_paths.specs.Groups.{IsMembers, AreMembers, IsGrouped, pair_in, pairs_in}
use Rattle.nf_paths.specs.declared.groups.Members.{Members}
use Rattle.nf_paths.specs.declared.groups.Members.TheVariants.{One, Two, More}
use Rattle.nf_paths.specs.declared.pattern.PairPattern.{PairPattern as Stored}

abbrev Entries : Type 0
Entries = List (String Global × Members)

-- ---- the files with their keys, one file more

keyed_push : (p : PairPattern) (fs : List FileRef) (f : FileRef) → keyed p (fs ++ f ∷ []) ≡ keyed p fs ++ with_key f (key_of p (chars f.name))
keyed_push p [] f = append-nil (with_key f (key_of p (chars f.name)))
keyed_push p (g ∷ gs) f =
    ap (λ xs. with_key g (key_of p (chars g.name)) ++ xs) (keyed_push p gs f)
    ∙ sym (append_assoc (with_key g (key_of p (chars g.name))) (keyed p gs) (with_key f (key_of p (chars f.name))))

pub keyed_more : (p : PairPattern) (fs : List FileRef) (i : ℕ) (f : FileRef) → i < length fs → f ≡ get_or fs i f
    → keyed p (take (i + 1) fs) ≡ keyed p (take i fs) ++ with_key f (key_of p (chars f.name))
keyed_more p fs i f h is =
    ap (λ k. keyed p (take k fs)) (add-one i) ∙ ap (keyed p) (take-suc fs i f h ∙ ap (λ g. take i fs ++ g ∷ []) (sym is)) ∙ keyed_push p (take i fs) f

-- ---- the pairs of the keys

-- a key that hasn't two files
two_alone : (key : List ℕ) (fs : List FileRef) → 2 < length fs → pair_if_two key fs ≡ []
two_alone key [] h = refl
two_alone key (f ∷ []) h = refl
two_alone key (f ∷ g ∷ []) h = absurd (omega (arith, h))
two_alone key (f ∷ g ∷ k ∷ more) h = refl

pair_is : (key : List ℕ) (m : Members) (fs : List FileRef) → IsMembers m fs → pair_in key m ≡ pair_if_two key fs
pair_is key (One f) fs h = ap (pair_if_two key) (sym h)
pair_is key (Two f g) fs h = ap (pair_if_two key) (sym h)
pair_is key More fs h = sym (two_alone key fs h)

pairs_are : (files : List ℕ → List FileRef) (ks : List (List ℕ)) (es : Entries) → AreMembers files ks es → pairs_in es ≡ flat_map (λ k. pair_if_two k (files k)) ks
pairs_are files [] [] h = refl
pairs_are files [] (e ∷ es) h = absurd h
pairs_are files (k ∷ ks) [] h = absurd h
pairs_are files (k ∷ ks) (e ∷ es) h =
    ap (λ ps. ps ++ pairs_in es) (ap (λ n. pair_in n e.1) h.0 ∙ pair_is k e.1 (files k) h.1) ∙ ap (λ ps. pair_if_two k (files k) ++ ps) (pairs_are files ks es h.2)

pub grouped_pairs : (xs : List Keyed) (es : Entries) → IsGrouped xs es → pairs_in es ≡ pairs_among xs
grouped_pairs xs es h = pairs_are _ _ es h

-- one pair more
pub paired_on : (old new : List Plain) (e : String Global × Members) (es rest : Entries) (text : List ℕ) (all : List Plain) → text ≡ string_bytes e.0 → new ≡ old ++ pair_in text e.1 → es ≡ e ∷ rest
    → old ++ pairs_in es ≡ all → new ++ pairs_in rest ≡ all
paired_on old new e es rest text all same put left h =
    ap (λ xs. xs ++ pairs_in rest) (put ∙ ap (λ t. old ++ pair_in t e.1) same) ∙ append_assoc old (pair_in (string_bytes e.0) e.1) (pairs_in rest)
    ∙ ap (λ xs. old ++ pairs_in xs) (sym left) ∙ h

-- ---- the whole

pub pairs_due : (path component : List ℕ) (fs : List FileRef) (r : Option Stored) → component ≡ name_at path → option_map pattern_of r ≡ pair_pattern component
    → pairs_by (option_map pattern_of r) fs ≡ pairs_of path fs
pairs_due path component fs r name is = ap (λ p. pairs_by p fs) is ∙ ap (λ c. pairs_by (pair_pattern c) fs) name
