-- The order of values.
use Rattle.std.specs.Prelude.{◌≡◌, ℕ, ℤ, pos, List, [], ◌∷◌, ◌++◌, Bool, true, false, refl, ◌<◌, ◌<ℤ◌}
use Rattle.std.specs.declared.cmp.Ordering.{Ordering}
use Rattle.std.specs.declared.cmp.Ordering.TheVariants.{Less, Equal, Greater}
use Rattle.std.specs.Ordering.{nat_cmp, int_cmp, bool_cmp, ordering_then, on, MatchOrdering}
use Rattle.std.specs.Cmp.{IsTotalOrder, one_rank}
use Rattle.std.proofs.lemmas.Int.{ints}
use Rattle.std.specs.Cmp.Lexicographic.{slice_cmp, lists_total}
use Rattle.std.proofs.Common.{sym, ◌∙◌, ap, subst, append_assoc, append-nil, arith}
use Rattle.std.proofs.lemmas.Cmp.{on_total, int_cmp_total, ranked, int_ranked}
use Rattle.nf_value.specs.Plain.{Plain, null, truth, int, text, file, list, table, Plains, no_items, item, PlainPairs, no_pairs, pair}

-- the order of kinds
abbrev pub rank : Plain → ℕ
rank null = 0
rank (truth b) = 1
rank (int i) = 2
rank (text t) = 3
rank (file n d l) = 4
rank (list vs) = 5
rank (table ps) = 6

abbrev mutual
  pub value_cmp : Plain → Plain → Ordering
  value_cmp (truth a) (truth b) = bool_cmp a b
  value_cmp (int i) (int j) = int_cmp i j
  value_cmp (text t) (text u) = slice_cmp nat_cmp t u
  value_cmp (file n d l) (file m e k) = ordering_then (slice_cmp nat_cmp n m) (ordering_then (slice_cmp nat_cmp d e) (nat_cmp l k))
  value_cmp (list vs) (list ws) = items_cmp vs ws
  value_cmp (table ps) (table qs) = pairs_cmp ps qs
  value_cmp a b = nat_cmp (rank a) (rank b)

  pub items_cmp : Plains → Plains → Ordering
  items_cmp no_items no_items = Equal
  items_cmp no_items (item w ws) = Less
  items_cmp (item v vs) no_items = Greater
  items_cmp (item v vs) (item w ws) = ordering_then (value_cmp v w) (items_cmp vs ws)

  pub pairs_cmp : PlainPairs → PlainPairs → Ordering
  pairs_cmp no_pairs no_pairs = Equal
  pairs_cmp no_pairs (pair l w qs) = Less
  pairs_cmp (pair k v ps) no_pairs = Greater
  pairs_cmp (pair k v ps) (pair l w qs) = ordering_then (slice_cmp nat_cmp k l) (ordering_then (value_cmp v w) (pairs_cmp ps qs))

-- a value as a list of numbers: values are in the order of their lists
abbrev flat_bytes : List ℕ → List ℤ
flat_bytes [] = pos 0 ∷ []
flat_bytes (b ∷ bs) = pos 1 ∷ pos b ∷ flat_bytes bs

abbrev bit_of : Bool → ℕ
bit_of false = 0
bit_of true = 1

abbrev mutual
  flat : Plain → List ℤ
  flat null = pos 0 ∷ []
  flat (truth b) = pos 1 ∷ pos (bit_of b) ∷ []
  flat (int i) = pos 2 ∷ i ∷ []
  flat (text t) = pos 3 ∷ flat_bytes t
  flat (file n d l) = pos 4 ∷ (flat_bytes n ++ (flat_bytes d ++ (pos l ∷ [])))
  flat (list vs) = pos 5 ∷ flats vs
  flat (table ps) = pos 6 ∷ flat_pairs ps

  flats : Plains → List ℤ
  flats no_items = pos 0 ∷ []
  flats (item v vs) = pos 1 ∷ (flat v ++ flats vs)

  flat_pairs : PlainPairs → List ℤ
  flat_pairs no_pairs = pos 0 ∷ []
  flat_pairs (pair k v ps) = pos 1 ∷ (flat_bytes k ++ (flat v ++ flat_pairs ps))

abbrev lex : List ℤ → List ℤ → Ordering
lex = slice_cmp int_cmp

then_assoc : (a b c : Ordering) → ordering_then (ordering_then a b) c ≡ ordering_then a (ordering_then b c)
then_assoc Less b c = refl
then_assoc Equal b c = refl
then_assoc Greater b c = refl

weaker : (o : Ordering) (a b : ℕ) → MatchOrdering o (pos a <ℤ pos b) (pos a ≡ pos b) (pos b <ℤ pos a) → MatchOrdering o (a < b) (a ≡ b) (b < a)
weaker Less a b h = omega (arith, ints, h)
weaker Equal a b h = omega (arith, ints, h)
weaker Greater a b h = omega (arith, ints, h)

int_nat : (a b : ℕ) → int_cmp (pos a) (pos b) ≡ nat_cmp a b
int_nat a b =
    one_rank (λ x y. x < y) (λ x h. absurd (omega arith)) (λ x y z h k. omega arith) a b (int_cmp (pos a) (pos b)) (nat_cmp a b)
    (weaker (int_cmp (pos a) (pos b)) a b (int_ranked (pos a) (pos b) (int_cmp (pos a) (pos b)) refl)) (ranked a b (nat_cmp a b) refl)

bits : (a b : Bool) → int_cmp (pos (bit_of a)) (pos (bit_of b)) ≡ bool_cmp a b
bits true true = refl
bits true false = refl
bits false true = refl
bits false false = refl

pre_bytes : (t u : List ℕ) (r s : List ℤ) → lex (flat_bytes t ++ r) (flat_bytes u ++ s) ≡ ordering_then (slice_cmp nat_cmp t u) (lex r s)
pre_bytes [] [] r s = refl
pre_bytes [] (y ∷ u) r s = refl
pre_bytes (x ∷ t) [] r s = refl
pre_bytes (x ∷ t) (y ∷ u) r s =
    ap (λ o. ordering_then o (lex (flat_bytes t ++ r) (flat_bytes u ++ s))) (int_nat x y)
    ∙ ap (ordering_then (nat_cmp x y)) (pre_bytes t u r s) ∙ sym (then_assoc (nat_cmp x y) (slice_cmp nat_cmp t u) (lex r s))

-- a part of a value, and then the rest
pre_part : (x y a b r s : List ℤ) (o p q : Ordering) → lex (x ++ (a ++ r)) (y ++ (b ++ s)) ≡ ordering_then o (lex (a ++ r) (b ++ s)) → lex (a ++ r) (b ++ s) ≡ ordering_then p q → lex ((x ++ a) ++ r) ((y ++ b) ++ s) ≡ ordering_then (ordering_then o p) q
pre_part x y a b r s o p q first rest =
    (λ i. lex (append_assoc x a r i) (append_assoc y b s i)) ∙ first ∙ ap (ordering_then o) rest ∙ sym (then_assoc o p q)

pre_file : (n d : List ℕ) (l : ℕ) (m e : List ℕ) (k : ℕ) (r s : List ℤ) → lex ((flat_bytes n ++ (flat_bytes d ++ (pos l ∷ []))) ++ r) ((flat_bytes m ++ (flat_bytes e ++ (pos k ∷ []))) ++ s)
    ≡ ordering_then (ordering_then (slice_cmp nat_cmp n m) (ordering_then (slice_cmp nat_cmp d e) (nat_cmp l k))) (lex r s)
pre_file n d l m e k r s =
    pre_part (flat_bytes n) (flat_bytes m) (flat_bytes d ++ (pos l ∷ [])) (flat_bytes e ++ (pos k ∷ [])) r s _ _ _ (pre_bytes n m _ _)
    (pre_part (flat_bytes d) (flat_bytes e) (pos l ∷ []) (pos k ∷ []) r s _ _ _ (pre_bytes d e _ _) (ap (λ o. ordering_then o (lex r s)) (int_nat l k)))

mutual
  pre : (a b : Plain) (r s : List ℤ) → lex (flat a ++ r) (flat b ++ s) ≡ ordering_then (value_cmp a b) (lex r s)
  pre null null r s = refl
  pre null (truth y0) r s = refl
  pre null (int y0) r s = refl
  pre null (text y0) r s = refl
  pre null (file y0 y1 y2) r s = refl
  pre null (list y0) r s = refl
  pre null (table y0) r s = refl
  pre (truth x0) null r s = refl
  pre (truth x0) (truth y0) r s = ap (λ o. ordering_then o (lex r s)) (bits x0 y0)
  pre (truth x0) (int y0) r s = refl
  pre (truth x0) (text y0) r s = refl
  pre (truth x0) (file y0 y1 y2) r s = refl
  pre (truth x0) (list y0) r s = refl
  pre (truth x0) (table y0) r s = refl
  pre (int x0) null r s = refl
  pre (int x0) (truth y0) r s = refl
  pre (int x0) (int y0) r s = refl
  pre (int x0) (text y0) r s = refl
  pre (int x0) (file y0 y1 y2) r s = refl
  pre (int x0) (list y0) r s = refl
  pre (int x0) (table y0) r s = refl
  pre (text x0) null r s = refl
  pre (text x0) (truth y0) r s = refl
  pre (text x0) (int y0) r s = refl
  pre (text x0) (text y0) r s = pre_bytes x0 y0 r s
  pre (text x0) (file y0 y1 y2) r s = refl
  pre (text x0) (list y0) r s = refl
  pre (text x0) (table y0) r s = refl
  pre (file x0 x1 x2) null r s = refl
  pre (file x0 x1 x2) (truth y0) r s = refl
  pre (file x0 x1 x2) (int y0) r s = refl
  pre (file x0 x1 x2) (text y0) r s = refl
  pre (file x0 x1 x2) (file y0 y1 y2) r s = pre_file x0 x1 x2 y0 y1 y2 r s
  pre (file x0 x1 x2) (list y0) r s = refl
  pre (file x0 x1 x2) (table y0) r s = refl
  pre (list x0) null r s = refl
  pre (list x0) (truth y0) r s = refl
  pre (list x0) (int y0) r s = refl
  pre (list x0) (text y0) r s = refl
  pre (list x0) (file y0 y1 y2) r s = refl
  pre (list x0) (list y0) r s = pre_all x0 y0 r s
  pre (list x0) (table y0) r s = refl
  pre (table x0) null r s = refl
  pre (table x0) (truth y0) r s = refl
  pre (table x0) (int y0) r s = refl
  pre (table x0) (text y0) r s = refl
  pre (table x0) (file y0 y1 y2) r s = refl
  pre (table x0) (list y0) r s = refl
  pre (table x0) (table y0) r s = pre_pairs x0 y0 r s

  pre_all : (vs ws : Plains) (r s : List ℤ) → lex (flats vs ++ r) (flats ws ++ s) ≡ ordering_then (items_cmp vs ws) (lex r s)
  pre_all no_items no_items r s = refl
  pre_all no_items (item w ws) r s = refl
  pre_all (item v vs) no_items r s = refl
  pre_all (item v vs) (item w ws) r s = pre_part (flat v) (flat w) (flats vs) (flats ws) r s _ _ _ (pre v w _ _) (pre_all vs ws r s)

  pre_pairs : (ps qs : PlainPairs) (r s : List ℤ) → lex (flat_pairs ps ++ r) (flat_pairs qs ++ s) ≡ ordering_then (pairs_cmp ps qs) (lex r s)
  pre_pairs no_pairs no_pairs r s = refl
  pre_pairs no_pairs (pair l w qs) r s = refl
  pre_pairs (pair k v ps) no_pairs r s = refl
  pre_pairs (pair k v ps) (pair l w qs) r s =
      pre_part (flat_bytes k) (flat_bytes l) (flat v ++ flat_pairs ps) (flat w ++ flat_pairs qs) r s _ _ _ (pre_bytes k l _ _)
      (pre_part (flat v) (flat w) (flat_pairs ps) (flat_pairs qs) r s _ _ _ (pre v w _ _) (pre_pairs ps qs r s))

then_Equal : (o : Ordering) → ordering_then o Equal ≡ o
then_Equal Less = refl
then_Equal Equal = refl
then_Equal Greater = refl

pub cmp_flat : (a b : Plain) → on flat lex a b ≡ value_cmp a b
cmp_flat a b = (λ i. lex (sym (append-nil (flat a)) i) (sym (append-nil (flat b)) i)) ∙ pre a b [] [] ∙ then_Equal (value_cmp a b)

pub value_cmp_total : IsTotalOrder value_cmp
value_cmp_total = subst IsTotalOrder (λ i a b. cmp_flat a b i) (on_total flat (lists_total int_cmp_total))
