-- The names that workflows take.
use Rattle.std.proofs.Common.{◌≡◌, ◌<◌, ◌≤◌, ◌+◌, ℕ, Bool, true, false, Ok, Err, Option, Some, None, List, [], ◌∷◌, ◌++◌, map, length, get_or, drop, take, refl, sym, ap, subst, ◌∙◌, add-one, drop-cons}
use Rattle.std.specs.Prelude.{bytes_eq, ◌||◌}
use Rattle.std.proofs.lemmas.List.{drop_all, map-append, take_more}
use Rattle.nf_value.specs.declared.place.Place.{Place}
use Rattle.nf_ast.specs.Tops.{maybe, view_parts, view_take}
use Rattle.nf_ast.specs.declared.tops.Parts.{Parts}
use Rattle.nf_ast.specs.declared.tops.Take.{Take}
use Rattle.nf_ast.specs.Tree.{Tree}
use Rattle.nf_ast.specs.View.{name_tree, trees}
use Rattle.nf_builtins.specs.Natives.{is_among}
use Rattle.nf_meaning.specs.declared.fault.LowerFault.{LowerFault}
use Rattle.nf_meaning.specs.declared.fault.LowerFault.TheVariants.{TwiceDefined}
use Rattle.nf_meaning.specs.Calls.{names_taken}
use Rattle.nf_meaning.specs.Lowered.{fault_if, or_else}
use Rattle.nf_meaning.specs.Script.{take_in, taken_twice}
use Rattle.nf_takes.specs.Takes.{FaultIs}

abbrev pub Names : Type 0
Names = List (Place × List ℕ)

-- ---- in the tree

pub taken_in : (ns : Names) → map name_tree ns ≡ names_taken (trees (map name_tree ns))
taken_in [] = refl
taken_in (n ∷ ns) = ap (λ ms. name_tree n ∷ ms) (taken_in ns)

pub none_taken : (ts : List Tree) → [] ≡ take_in (trees ts)
none_taken [] = refl
none_taken (t ∷ ts) = refl

pub taken_some : (p : Parts) (t : Take) → p.take ≡ Some t → map name_tree t.names.items ≡ take_in (view_parts p)
taken_some p t e = taken_in t.names.items ∙ ap (λ (o : Option Take). names_taken (maybe view_take o)) (sym e)

-- ---- each once

or_swap : (a b c : Bool) → a || (b || c) ≡ b || (a || c)
or_swap true true c = refl
or_swap true false c = refl
or_swap false true c = refl
or_swap false false c = refl

among_last : (m n : List ℕ) (ns : List (List ℕ)) → is_among m (ns ++ n ∷ []) ≡ is_among m (n ∷ ns)
among_last m n [] = refl
among_last m n (k ∷ ns) = ap (λ b. bytes_eq k m || b) (among_last m n ns) ∙ or_swap (bytes_eq k m) (bytes_eq n m) (is_among m ns)

pub taken_one : {X : Type 0} (xs : List X) (i : ℕ) (x : X) → i < length xs → x ≡ get_or xs i x → take (i + 1) xs ≡ take i xs ++ x ∷ []
taken_one xs i x h is = take_more xs i x h ∙ ap (λ l. take i xs ++ l) (ap (λ y. y ∷ []) (sym is))

left : {X : Type 0} (xs : List X) (i : ℕ) (x : X) → i < length xs → x ≡ get_or xs i x → drop i xs ≡ x ∷ drop (i + 1) xs
left xs i x h is = rw (add-one, drop-cons xs i x, ← is) refl

abbrev pub texts : Names → List (List ℕ)
texts ns = map (λ n. n.1) ns

-- after so many names, of which none stands twice
pub record IsTaking (ns : Names) (i : ℕ) : Type 0 where
  pub before : List (List ℕ)
  pub among : (m : List ℕ) → is_among m before ≡ is_among m (texts (take i ns))
  pub same : taken_twice [] (map name_tree ns) ≡ taken_twice before (map name_tree (drop i ns))

pub takes_none : (ns : Names) → IsTaking ns 0
takes_none ns = record { before = []; among = λ m. refl; same = refl }

-- what is wrong, from the next name on
next : (ns : Names) (i : ℕ) (n : Place × List ℕ) (t : IsTaking ns i) (b : Bool) → i < length ns → n ≡ get_or ns i n → b ≡ is_among n.1 (texts (take i ns))
    → taken_twice [] (map name_tree ns) ≡ or_else (fault_if b (TwiceDefined n.0)) (taken_twice (n.1 ∷ t.before) (map name_tree (drop (i + 1) ns)))
next ns i n t b h is e =
    t.same ∙ ap (λ l. taken_twice t.before (map name_tree l)) (left ns i n h is)
    ∙ ap (λ c. or_else (fault_if c (TwiceDefined n.0)) (taken_twice (n.1 ∷ t.before) (map name_tree (drop (i + 1) ns)))) (t.among n.1 ∙ sym e)

pub takes_more : (ns : Names) (i : ℕ) (n : Place × List ℕ) (b : Bool) → i < length ns → n ≡ get_or ns i n → b ≡ is_among n.1 (texts (take i ns)) → b ≡ false → IsTaking ns i → IsTaking ns (i + 1)
takes_more ns i n b h is e fresh t = record {
  before = n.1 ∷ t.before;
  among = λ m.
      ap (λ c. bytes_eq n.1 m || c) (t.among m) ∙ sym (among_last m n.1 (texts (take i ns)))
      ∙ ap (λ l. is_among m l) (sym (ap texts (taken_one ns i n h is) ∙ map-append (λ k. k.1) (take i ns) (n ∷ [])));
  same = next ns i n t b h is e ∙ ap (λ c. or_else (fault_if c (TwiceDefined n.0)) (taken_twice (n.1 ∷ t.before) (map name_tree (drop (i + 1) ns)))) fresh;
}

pub takes_twice : (ns : Names) (i : ℕ) (n : Place × List ℕ) (b : Bool) → i < length ns → n ≡ get_or ns i n → b ≡ is_among n.1 (texts (take i ns)) → b ≡ true → IsTaking ns i
    → FaultIs (taken_twice [] (map name_tree ns)) (Err (TwiceDefined n.0))
takes_twice ns i n b h is e twice t =
    let same : taken_twice [] (map name_tree ns) ≡ Some (TwiceDefined n.0) =
    next ns i n t b h is e ∙ ap (λ c. or_else (fault_if c (TwiceDefined n.0)) (taken_twice (n.1 ∷ t.before) (map name_tree (drop (i + 1) ns)))) twice in
    let P : Option LowerFault → Type 0 = λ o. FaultIs o (Err (TwiceDefined n.0)) in
    subst P (sym same) refl

pub takes_all : (ns : Names) (i : ℕ) → length ns ≤ i → IsTaking ns i → FaultIs (taken_twice [] (map name_tree ns)) (Ok tt)
takes_all ns i h t =
    let same : taken_twice [] (map name_tree ns) ≡ None = t.same ∙ ap (λ l. taken_twice t.before (map name_tree l)) (drop_all i ns h) in
    let P : Option LowerFault → Type 0 = λ o. FaultIs o (Ok tt) in
    subst P (sym same) (record { value = tt; is = refl; fits = tt })
