-- The ports that read each node, one port after the other.
use Rattle.std.proofs.Common.{◌≡◌, ℕ, ◌+◌, ◌<◌, List, [], ◌∷◌, ◌++◌, length, get_or, set, refl, ap, sym, ◌∙◌, subst, arith, inl, inr, length-set}
use Rattle.std.specs.List.{Contains}
use Rattle.std.proofs.lemmas.Bool.{cases_eq}
use Rattle.std.proofs.lemmas.List.{get_or-set_same, get_or-set_other, get_or_default, get_or_append_left, get_or_push, length-append}
use Rattle.std.proofs.lemmas.List.Elements.{Contains-append_left, Contains-append_right, Contains-append_cases, Contains-get_or}
use Rattle.nf_graph.specs.declared.node.Node.{Node}
use Rattle.nf_wiring.specs.Places.{port_numbered, readers_at, AreReaders, IsRising}

pub none_read : (nodes : List Node) (lists : List (List ℕ)) → length lists ≡ length nodes → ((i : ℕ) → get_or lists i [] ≡ []) → AreReaders nodes 0 lists
none_read nodes lists e h = record {
  len = e;
  each = λ n l. absurd (omega arith);
  numbers = λ i n c. absurd (let m : Contains {X = ℕ} [] n = subst (λ xs. Contains xs n) (h i) c in let l = m.1 in omega arith);
  only = λ i n c. absurd (let m : Contains {X = ℕ} [] n = subst (λ xs. Contains xs n) (h i) c in let l = m.1 in omega arith);
  rising = λ i a b l m. absurd (let k : b < length {A = ℕ} [] = subst (λ xs. b < length xs) (h i) m in omega arith);
}

one_only : (x n : ℕ) → Contains (x ∷ []) n → n ≡ x
one_only x n c = by c.0 c.1 c.2
  where
    by : (k : ℕ) → k < length (x ∷ []) → get_or (x ∷ []) k n ≡ n → n ≡ x
    by k l e = let z : k ≡ 0 = omega arith in sym (subst (λ m. get_or (x ∷ []) m n ≡ n) z e)

has_own : (x : ℕ) → Contains (x ∷ []) x
has_own x = (0, omega arith, refl)

-- a number above all before it
rises : (ns : List ℕ) (number : ℕ) → IsRising ns → ((n : ℕ) → Contains ns n → n < number) → IsRising (ns ++ number ∷ [])
rises ns number h below a b l m =
    let len = length-append ns (number ∷ []) in
    let pa : a < length ns = omega (arith, l, m, len) in
    let ea : get_or (ns ++ number ∷ []) a 0 ≡ get_or ns a 0 = get_or_append_left ns (number ∷ []) 0 a pa in
    elim (cases_eq b (length ns)) [
      | inl e ↦ (let eb : get_or (ns ++ number ∷ []) b 0 ≡ number = get_or_push ns number 0 b (sym e) in
          let w = below (get_or ns a 0) (Contains-get_or ns a 0 pa) in omega (arith, ea, eb, w))
      | inr ne ↦ (let pb : b < length ns = less b ne (omega (arith, m, len)) in
          let eb : get_or (ns ++ number ∷ []) b 0 ≡ get_or ns b 0 = get_or_append_left ns (number ∷ []) 0 b pb in
          let w = h a b l pb in omega (arith, ea, eb, w))
    ]
  where
    less : (b : ℕ) → (b ≡ length ns → ⊥) → b < length ns + 1 → b < length ns
    less b ne k = grind arith

-- `was` is what the code read before it added the number to it
pub one_reads : (nodes : List Node) (number from : ℕ) (before after : List (List ℕ)) (was : List ℕ) → AreReaders nodes number before → from ≡ (port_numbered nodes number).from → from < length before
    → was ≡ get_or before from was → after ≡ set before from (was ++ number ∷ []) → AreReaders nodes (number + 1) after
one_reads nodes number from before after was h own l w a = record {
  len = ap length a ∙ length-set before from (was ++ number ∷ []) ∙ h.len;
  each = λ n m. elim (cases_eq n number) [
    | inl e ↦ subst (λ j. Contains (readers_at after (port_numbered nodes j).from) j) (sym e) (subst (λ j. Contains (readers_at after j) number) own (subst (λ xs. Contains xs number) (sym here) (Contains-append_right was (number ∷ []) number (has_own number))))
    | inr ne ↦ (let o : n < number = less n m ne in kept (port_numbered nodes n).from n (h.each n o))
  ];
  numbers = λ i n c. elim (cases_eq i from) [
    | inl e ↦ (let d : Contains (was ++ number ∷ []) n = subst (λ xs. Contains xs n) here (subst (λ j. Contains (readers_at after j) n) e c) in
        elim (Contains-append_cases was (number ∷ []) n d) [
          | inl x ↦ (let b = h.numbers from n (subst (λ xs. Contains xs n) old x) in omega arith)
          | inr x ↦ (let b = one_only number n x in omega arith)
        ])
    | inr ne ↦ (let b = h.numbers i n (subst (λ xs. Contains xs n) (there i ne) c) in omega arith)
  ];
  only = λ i n c. elim (cases_eq i from) [
    | inl e ↦ (let d : Contains (was ++ number ∷ []) n = subst (λ xs. Contains xs n) here (subst (λ j. Contains (readers_at after j) n) e c) in
        elim (Contains-append_cases was (number ∷ []) n d) [
          | inl x ↦ h.only from n (subst (λ xs. Contains xs n) old x) ∙ sym e
          | inr x ↦ ap (λ j. (port_numbered nodes j).from) (one_only number n x) ∙ sym own ∙ sym e
        ])
    | inr ne ↦ h.only i n (subst (λ xs. Contains xs n) (there i ne) c)
  ];
  rising = λ i. elim (cases_eq i from) [
    | inl e ↦ subst (λ j. IsRising (readers_at after j)) (sym e) (subst IsRising (sym here)
        (rises was number (subst IsRising (sym old) (h.rising from)) (λ n x. h.numbers from n (subst (λ xs. Contains xs n) old x))))
    | inr ne ↦ subst IsRising (sym (there i ne)) (h.rising i)
  ];
}
  where
    old : was ≡ readers_at before from
    old = w ∙ get_or_default before from was [] l

    here : readers_at after from ≡ was ++ number ∷ []
    here = ap (λ ls. readers_at ls from) a ∙ get_or-set_same before from (was ++ number ∷ []) [] l

    there : (i : ℕ) → (i ≡ from → ⊥) → readers_at after i ≡ readers_at before i
    there i ne = ap (λ ls. readers_at ls i) a ∙ get_or-set_other before from i (was ++ number ∷ []) [] ne

    less : (n : ℕ) → n < number + 1 → (n ≡ number → ⊥) → n < number
    less n m ne = grind arith

    kept : (i n : ℕ) → Contains (readers_at before i) n → Contains (readers_at after i) n
    kept i n c = elim (cases_eq i from) [
      | inl e ↦ subst (λ j. Contains (readers_at after j) n) (sym e) (subst (λ xs. Contains xs n) (sym here) (Contains-append_left was (number ∷ []) n (subst (λ xs. Contains xs n) (sym old) (subst (λ j. Contains (readers_at before j) n) e c))))
      | inr ne ↦ subst (λ xs. Contains xs n) (sym (there i ne)) c
    ]
