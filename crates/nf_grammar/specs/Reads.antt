-- By the rules of a grammar: what tokens spell, which tokens a reading may reach, and where one passes a limit.
use Rattle.std.specs.Prelude.{◌≡◌, ℕ, suc, Bool, true, List, ◌∷◌, Option, Some}
use Rattle.nf_grammar.specs.Gram.{Gram, token, gives, bind, either, only_where, many, rule}

-- `Reads g tokens tree rest`: g spells the tree by the tokens before the rest
pub data Reads {T V L : Type 0} (rules : L → Gram T V L) : Gram T V L → List T → V → List T → Type 0 where
  reads_token : {past : Bool} {p : T → Option V} {t : T} {ts : List T} {v : V} → p t ≡ Some v → Reads rules (token past p) (t ∷ ts) v ts
  reads_gives : {v : V} {ts : List T} → Reads rules (gives v) ts v ts
  reads_bind : {g : Gram T V L} {k : V → Gram T V L} {ts mid rest : List T} {a b : V} → Reads rules g ts a mid → Reads rules (k a) mid b rest → Reads rules (bind g k) ts b rest
  reads_left : {g h : Gram T V L} {ts rest : List T} {v : V} → Reads rules g ts v rest → Reads rules (either g h) ts v rest
  reads_right : {g h : Gram T V L} {ts rest : List T} {v : V} → Reads rules h ts v rest → Reads rules (either g h) ts v rest
  reads_where : {c : List T → Bool} {g : Gram T V L} {ts rest : List T} {v : V} → c ts ≡ true → Reads rules g ts v rest → Reads rules (only_where c g) ts v rest
  reads_end : {c : List T → Bool} {f : ℕ → V → Gram T V L} {n : ℕ} {a : V} {ts : List T} → c ts ≡ true → Reads rules (many c f n a) ts a ts
  reads_more : {c : List T → Bool} {f : ℕ → V → Gram T V L} {n : ℕ} {a b v : V} {ts mid rest : List T} → Reads rules (f n a) ts b mid → Reads rules (many c f (suc n) b) mid v rest → Reads rules (many c f n a) ts v rest
  reads_rule : {l : L} {ts rest : List T} {v : V} → Reads rules (rules l) ts v rest → Reads rules (rule l) ts v rest

-- `Stands g tokens rest`: a reading of g has read exactly the tokens before the rest
pub data Stands {T V L : Type 0} (rules : L → Gram T V L) : Gram T V L → List T → List T → Type 0 where
  stands_before : {past : Bool} {p : T → Option V} {ts : List T} → Stands rules (token past p) ts ts
  stands_after : {past : Bool} {p : T → Option V} {t : T} {ts : List T} {v : V} → p t ≡ Some v → Stands rules (token past p) (t ∷ ts) ts
  stands_gives : {v : V} {ts : List T} → Stands rules (gives v) ts ts
  stands_first : {g : Gram T V L} {k : V → Gram T V L} {ts r : List T} → Stands rules g ts r → Stands rules (bind g k) ts r
  stands_second : {g : Gram T V L} {k : V → Gram T V L} {ts mid r : List T} {a : V} → Reads rules g ts a mid → Stands rules (k a) mid r → Stands rules (bind g k) ts r
  stands_left : {g h : Gram T V L} {ts r : List T} → Stands rules g ts r → Stands rules (either g h) ts r
  stands_right : {g h : Gram T V L} {ts r : List T} → Stands rules h ts r → Stands rules (either g h) ts r
  stands_where : {c : List T → Bool} {g : Gram T V L} {ts r : List T} → c ts ≡ true → Stands rules g ts r → Stands rules (only_where c g) ts r
  stands_end : {c : List T → Bool} {f : ℕ → V → Gram T V L} {n : ℕ} {a : V} {ts : List T} → c ts ≡ true → Stands rules (many c f n a) ts ts
  stands_part : {c : List T → Bool} {f : ℕ → V → Gram T V L} {n : ℕ} {a : V} {ts r : List T} → Stands rules (f n a) ts r → Stands rules (many c f n a) ts r
  stands_more : {c : List T → Bool} {f : ℕ → V → Gram T V L} {n : ℕ} {a b : V} {ts mid r : List T} → Reads rules (f n a) ts b mid → Stands rules (many c f (suc n) b) mid r → Stands rules (many c f n a) ts r
  stands_rule : {l : L} {ts r : List T} → Stands rules (rules l) ts r → Stands rules (rule l) ts r

-- `Deep g tokens rest`: a reading of g stands before the rest, and goes past a limit there
pub data Deep {T V L : Type 0} (rules : L → Gram T V L) : Gram T V L → List T → List T → Type 0 where
  deep_here : {p : T → Option V} {t : T} {ts : List T} {v : V} → p t ≡ Some v → Deep rules (token true p) (t ∷ ts) (t ∷ ts)
  deep_first : {g : Gram T V L} {k : V → Gram T V L} {ts r : List T} → Deep rules g ts r → Deep rules (bind g k) ts r
  deep_second : {g : Gram T V L} {k : V → Gram T V L} {ts mid r : List T} {a : V} → Reads rules g ts a mid → Deep rules (k a) mid r → Deep rules (bind g k) ts r
  deep_left : {g h : Gram T V L} {ts r : List T} → Deep rules g ts r → Deep rules (either g h) ts r
  deep_right : {g h : Gram T V L} {ts r : List T} → Deep rules h ts r → Deep rules (either g h) ts r
  deep_where : {c : List T → Bool} {g : Gram T V L} {ts r : List T} → c ts ≡ true → Deep rules g ts r → Deep rules (only_where c g) ts r
  deep_part : {c : List T → Bool} {f : ℕ → V → Gram T V L} {n : ℕ} {a : V} {ts r : List T} → Deep rules (f n a) ts r → Deep rules (many c f n a) ts r
  deep_more : {c : List T → Bool} {f : ℕ → V → Gram T V L} {n : ℕ} {a b : V} {ts mid r : List T} → Reads rules (f n a) ts b mid → Deep rules (many c f (suc n) b) mid r → Deep rules (many c f n a) ts r
  deep_rule : {l : L} {ts r : List T} → Deep rules (rules l) ts r → Deep rules (rule l) ts r
