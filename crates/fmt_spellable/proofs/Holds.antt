-- What it is for something to hold of every reading of a part of the grammar, by an induction for all rules at once.
use Rattle.std.proofs.Common.{◌≡◌, ℕ, zero, suc, ◌≤◌, Bool, List, ◌∷◌, max, Option, Some, arith}
use Rattle.nf_grammar.specs.Gram.{Gram, token, gives, bind, either, only_where, many, rule}
use Rattle.nf_grammar.specs.Reads.{Reads, reads_token, reads_gives, reads_bind, reads_left, reads_right, reads_where, reads_end, reads_more, reads_rule}

-- how many rules stand inside each other
abbrev pub height : {T V L : Type 0} {rules : L → Gram T V L} {g : Gram T V L} {ts r : List T} {v : V} → Reads rules g ts v r → ℕ
height (reads_token e) = 0
height reads_gives = 0
height (reads_bind x y) = max (height x) (height y)
height (reads_left x) = height x
height (reads_right x) = height x
height (reads_where e x) = height x
height (reads_end e) = 0
height (reads_more x y) = max (height x) (height y)
height (reads_rule x) = suc (height x)

-- where the first holds of the tokens, the second holds of what a reading of at most this height gives, and of its rest
pub record Holds {T V L : Type 0} (rules : L → Gram T V L) (n : ℕ) (P : List T → Type 0) (g : Gram T V L) (Q : V → List T → Type 0) : Type 0 where
  pub holds : (ts : List T) (v : V) (r : List T) (x : Reads rules g ts v r) → height x ≤ n → P ts → Q v r

of_token : {T V L : Type 0} {rules : L → Gram T V L} {b : Bool} {p : T → Option V} (P : List T → Type 0) (Q : V → List T → Type 0) → ((t : T) (ts : List T) (v : V) → p t ≡ Some v → P (t ∷ ts) → Q v ts) → (ts : List T) (v : V) (r : List T) (x : Reads rules (token b p) ts v r) → P ts → Q v r
of_token P Q h ts v r (reads_token {t = t} e) c = h t r v e c

of_gives : {T V L : Type 0} {rules : L → Gram T V L} {a : V} (P : List T → Type 0) (Q : V → List T → Type 0) → ((ts : List T) → P ts → Q a ts) → (ts : List T) (v : V) (r : List T) (x : Reads rules (gives a) ts v r) → P ts → Q v r
of_gives P Q h ts v r reads_gives c = h ts c

module _ {T V L : Type 0} {rules : L → Gram T V L} {n : ℕ} where
  pub holds_token : {b : Bool} {p : T → Option V} {P : List T → Type 0} {Q : V → List T → Type 0} → ((t : T) (ts : List T) (v : V) → p t ≡ Some v → P (t ∷ ts) → Q v ts) → Holds rules n P (token b p) Q
  holds_token {P = P} {Q = Q} h = record { holds = λ ts v r x i c. of_token P Q h ts v r x c }

  pub holds_gives : {a : V} {P : List T → Type 0} {Q : V → List T → Type 0} → ((ts : List T) → P ts → Q a ts) → Holds rules n P (gives a) Q
  holds_gives {P = P} {Q = Q} h = record { holds = λ ts v r x i c. of_gives P Q h ts v r x c }

  of_bind : {g : Gram T V L} {k : V → Gram T V L} {P : List T → Type 0} {R Q : V → List T → Type 0} → Holds rules n P g R → ((a : V) → Holds rules n (R a) (k a) Q) → (ts : List T) (v : V) (r : List T) (x : Reads rules (bind g k) ts v r) → height x ≤ n → P ts → Q v r
  of_bind h j ts v r (reads_bind {mid = mid} {a = a} x y) i c = (j a).holds mid v r y (omega (arith, i)) (h.holds ts a mid x (omega (arith, i)) c)

  pub holds_bind : {g : Gram T V L} {k : V → Gram T V L} {P : List T → Type 0} {R Q : V → List T → Type 0} → Holds rules n P g R → ((a : V) → Holds rules n (R a) (k a) Q) → Holds rules n P (bind g k) Q
  holds_bind h j = record { holds = of_bind h j }

  of_either : {g h : Gram T V L} {P : List T → Type 0} {Q : V → List T → Type 0} → Holds rules n P g Q → Holds rules n P h Q → (ts : List T) (v : V) (r : List T) (x : Reads rules (either g h) ts v r) → height x ≤ n → P ts → Q v r
  of_either a b ts v r (reads_left x) i c = a.holds ts v r x i c
  of_either a b ts v r (reads_right x) i c = b.holds ts v r x i c

  pub holds_either : {g h : Gram T V L} {P : List T → Type 0} {Q : V → List T → Type 0} → Holds rules n P g Q → Holds rules n P h Q → Holds rules n P (either g h) Q
  holds_either a b = record { holds = of_either a b }

  of_where : {f : List T → Bool} {g : Gram T V L} {P : List T → Type 0} {Q : V → List T → Type 0} → Holds rules n P g Q → (ts : List T) (v : V) (r : List T) (x : Reads rules (only_where f g) ts v r) → height x ≤ n → P ts → Q v r
  of_where a ts v r (reads_where e x) i c = a.holds ts v r x i c

  pub holds_where : {f : List T → Bool} {g : Gram T V L} {P : List T → Type 0} {Q : V → List T → Type 0} → Holds rules n P g Q → Holds rules n P (only_where f g) Q
  holds_where a = record { holds = of_where a }

  of_many : {f : List T → Bool} {q : ℕ → V → Gram T V L} {k : ℕ} {a : V} {Q : V → List T → Type 0} → ((i : ℕ) (b : V) → Holds rules n (Q b) (q i b) Q) → (ts : List T) (v : V) (r : List T) (x : Reads rules (many f q k a) ts v r) → height x ≤ n → Q a ts → Q v r
  of_many h ts v r (reads_end e) i c = c
  of_many {k = k} {a = a} h ts v r (reads_more {b = b} {mid = mid} x y) i c = of_many h mid v r y (omega (arith, i)) ((h k a).holds ts b mid x (omega (arith, i)) c)

  pub holds_many : {f : List T → Bool} {q : ℕ → V → Gram T V L} {k : ℕ} {a : V} {Q : V → List T → Type 0} → ((i : ℕ) (b : V) → Holds rules n (Q b) (q i b) Q) → Holds rules n (Q a) (many f q k a) Q
  holds_many h = record { holds = of_many h }

  -- where less is asked, and more is known
  pub holds_more : {g : Gram T V L} {P S : List T → Type 0} {Q R : V → List T → Type 0} → ((ts : List T) → P ts → S ts) → ((v : V) (r : List T) → R v r → Q v r) → Holds rules n S g R → Holds rules n P g Q
  holds_more s q h = record { holds = λ ts v r x i c. q v r (h.holds ts v r x i (s ts c)) }

-- what holds of each rule, where it follows for its row from what holds of all
module _ {T V L : Type 0} {rules : L → Gram T V L} {P : L → List T → Type 0} {Q : L → V → List T → Type 0} where
  of_rule : ((n : ℕ) → ((l : L) → Holds rules n (P l) (rule l) (Q l)) → (l : L) → Holds rules n (P l) (rules l) (Q l)) → (n : ℕ) (l : L) (ts : List T) (v : V) (r : List T) (x : Reads rules (rule l) ts v r) → height x ≤ n → P l ts → Q l v r
  of_rule rows zero l ts v r (reads_rule x) i c = absurd (omega (arith, i))
  of_rule rows (suc n) l ts v r (reads_rule x) i c = (rows n (λ k. record { holds = of_rule rows n k }) l).holds ts v r x (omega (arith, i)) c

  pub holds_rule : ((n : ℕ) → ((l : L) → Holds rules n (P l) (rule l) (Q l)) → (l : L) → Holds rules n (P l) (rules l) (Q l)) → (n : ℕ) (l : L) → Holds rules n (P l) (rule l) (Q l)
  holds_rule rows n l = record { holds = of_rule rows n l }
