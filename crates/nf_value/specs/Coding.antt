-- Values as trees of numbers, of which no two are equal. A list or a map in memory that contracts see as plain values needs this.
use Rattle.std.specs.Prelude.{◌≡◌, ℕ, zero, suc, pos, negsuc, List, [], ◌∷◌, true, false, refl}
use Rattle.std.proofs.Common.{sym, ◌∙◌, ap}
use base.Stored.{Gv, gnil, gnum, gcons, Coded}
use Rattle.nf_value.specs.Plain.{Plain, null, truth, int, text, file, list, table, Plains, no_items, item, PlainPairs, no_pairs, pair}

abbrev bytes_to : List ℕ → Gv
bytes_to [] = gnil
bytes_to (x ∷ xs) = gcons (gnum x) (bytes_to xs)

abbrev bytes_from : Gv → List ℕ
bytes_from (gcons (gnum x) r) = x ∷ bytes_from r
bytes_from _ = []

abbrev mutual
  to : Plain → Gv
  to null = gnil
  to (truth true) = gnum 1
  to (truth false) = gnum 0
  to (int (pos n)) = gcons (gnum 0) (gnum n)
  to (int (negsuc n)) = gcons (gnum 1) (gnum n)
  to (text t) = gcons (gnum 2) (bytes_to t)
  to (file n d l) = gcons (gnum 3) (gcons (bytes_to n) (gcons (bytes_to d) (gnum l)))
  to (list vs) = gcons (gnum 4) (all_to vs)
  to (table ps) = gcons (gnum 5) (pairs_to ps)

  all_to : Plains → Gv
  all_to no_items = gnil
  all_to (item v vs) = gcons (to v) (all_to vs)

  pairs_to : PlainPairs → Gv
  pairs_to no_pairs = gnil
  pairs_to (pair k v ps) = gcons (bytes_to k) (gcons (to v) (pairs_to ps))

abbrev mutual
  from : Gv → Plain
  from (gnum zero) = truth false
  from (gnum (suc n)) = truth true
  from (gcons (gnum zero) (gnum n)) = int (pos n)
  from (gcons (gnum (suc zero)) (gnum n)) = int (negsuc n)
  from (gcons (gnum (suc (suc zero))) r) = text (bytes_from r)
  from (gcons (gnum (suc (suc (suc zero)))) (gcons n (gcons d (gnum l)))) = file (bytes_from n) (bytes_from d) l
  from (gcons (gnum (suc (suc (suc (suc zero))))) r) = list (all_from r)
  from (gcons (gnum (suc (suc (suc (suc (suc n)))))) r) = table (pairs_from r)
  from _ = null

  all_from : Gv → Plains
  all_from (gcons v r) = item (from v) (all_from r)
  all_from _ = no_items

  pairs_from : Gv → PlainPairs
  pairs_from (gcons k (gcons v r)) = pair (bytes_from k) (from v) (pairs_from r)
  pairs_from _ = no_pairs

pub bytes_back : (t : List ℕ) → bytes_from (bytes_to t) ≡ t
bytes_back [] = refl
bytes_back (x ∷ xs) = ap (λ r. x ∷ r) (bytes_back xs)

mutual
  pub back : (v : Plain) → from (to v) ≡ v
  back null = refl
  back (truth true) = refl
  back (truth false) = refl
  back (int (pos n)) = refl
  back (int (negsuc n)) = refl
  back (text t) = ap text (bytes_back t)
  back (file n d l) = λ i. file (bytes_back n i) (bytes_back d i) l
  back (list vs) = ap list (all_back vs)
  back (table ps) = ap table (pairs_back ps)

  all_back : (vs : Plains) → all_from (all_to vs) ≡ vs
  all_back no_items = refl
  all_back (item v vs) = λ i. item (back v i) (all_back vs i)

  pairs_back : (ps : PlainPairs) → pairs_from (pairs_to ps) ≡ ps
  pairs_back no_pairs = refl
  pairs_back (pair k v ps) = λ i. pair (bytes_back k i) (back v i) (pairs_back ps i)

abbrev pub plain_coding : Coded Plain
plain_coding = record { code = to; inj = λ x y p. sym (back x) ∙ ap from p ∙ back y }
