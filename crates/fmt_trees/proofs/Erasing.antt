-- No reading depends on places: what tokens without places spell, the same tokens with places spell, places aside.
use Rattle.std.proofs.Common.{◌≡◌, ℕ, Bool, List, [], ◌∷◌, map, Option, Some, None, refl, sym, subst, ap, ◌∙◌}
use Rattle.std.specs.Prelude.{option_map}
use Rattle.nf_token.specs.declared.token.Lexeme.{Lexeme}
use Rattle.nf_grammar.specs.Gram.{token, gives, bind, either, only_where, many, rule}
use Rattle.nf_grammar.specs.Reads.{Reads, reads_token, reads_gives, reads_bind, reads_left, reads_right, reads_where, reads_end, reads_more, reads_rule}
use Rattle.nf_ast.specs.Tree.{Tree}
use Rattle.nf_exprs.specs.Level.{Level, Closure, Gram}
use Rattle.nf_exprs.specs.Tokens.{Kind}
use Rattle.nf_exprs.specs.Rules.{rules}
use Rattle.fmt_trees.specs.Bare.{bare, nowhere}
use Rattle.fmt_trees.proofs.TreeTokens.{lx}

abbrev pub erase : Lexeme → Lexeme
erase x = lx x.token

abbrev pub erased : List Lexeme → List Lexeme
erased ts = map erase ts

abbrev pub bare_level : Level → Level
bare_level (Closure d p) = Closure d nowhere
bare_level l = l

-- what a token stands for is the same without its place, places aside
abbrev pub KindErases : Kind → Type 0
KindErases p = (x : Lexeme) → p (erase x) ≡ option_map bare (p x)

-- a test on tokens doesn't depend on their places
abbrev pub Blind : (List Lexeme → Bool) → Type 0
Blind c = (ts : List Lexeme) → c ts ≡ c (erased ts)

-- the second part of the grammar is the first without places
pub data Erases : Gram → Gram → Type 0 where
  er_token : {b : Bool} {p : Kind} → KindErases p → Erases (token b p) (token b p)
  er_gives : {v w : Tree} → bare v ≡ w → Erases (gives v) (gives w)
  er_bind : {g h : Gram} {k l : Tree → Gram} → Erases g h → ((a : Tree) → Erases (k a) (l (bare a))) → Erases (bind g k) (bind h l)
  er_either : {g h i j : Gram} → Erases g h → Erases i j → Erases (either g i) (either h j)
  er_where : {c : List Lexeme → Bool} {g h : Gram} → Blind c → Erases g h → Erases (only_where c g) (only_where c h)
  er_many : {c : List Lexeme → Bool} {f q : ℕ → Tree → Gram} {n : ℕ} {a b : Tree} → Blind c → ((i : ℕ) (x : Tree) → Erases (f i x) (q i (bare x))) → bare a ≡ b → Erases (many c f n a) (many c q n b)
  er_rule : {l m : Level} → bare_level l ≡ m → Erases (rule l) (rule m)

-- tokens with places spell this tree too, places aside
pub record Placed (g : Gram) (ts : List Lexeme) (w : Tree) (rest : List Lexeme) : Type 0 where
  pub value : Tree
  pub left : List Lexeme
  pub reads : Reads rules g ts value left
  pub same : bare value ≡ w
  pub after : erased left ≡ rest

some_erased : (o : Option Tree) (w : Tree) → option_map bare o ≡ Some w → (v : Tree) × (o ≡ Some v) × (bare v ≡ w)
some_erased None w e = absurd (let f : None ≡ Some w = e in cc)
some_erased (Some v) w e = (v, refl, cc)

first_erased : (x y : Lexeme) (xs ys : List Lexeme) → x ∷ xs ≡ y ∷ ys → x ≡ y
first_erased x y xs ys e = cc

rest_erased : (x y : Lexeme) (xs ys : List Lexeme) → x ∷ xs ≡ y ∷ ys → xs ≡ ys
rest_erased x y xs ys e = cc

token_placed : {b : Bool} {p : Kind} {x : Lexeme} {us : List Lexeme} {w : Tree} → KindErases p → p x ≡ Some w → (ts : List Lexeme) → erased ts ≡ x ∷ us → Placed (token b p) ts w us
token_placed {x = x} {us = us} k e [] f = absurd (let g : [] ≡ x ∷ us = f in cc)
token_placed {b = b} {p = p} {x = x} {us = us} {w = w} k e (y ∷ ys) f =
    let s = some_erased (p y) w (sym (k y) ∙ ap p (first_erased (erase y) x (erased ys) us f) ∙ e) in
    record { value = s.0; left = ys; reads = reads_token s.1; same = s.2; after = rest_erased (erase y) x (erased ys) us f }

module _ (rows : (l : Level) → Erases (rules l) (rules (bare_level l))) where
  pub placed : {h : Gram} {us rest : List Lexeme} {w : Tree} → Reads rules h us w rest → {g : Gram} → Erases g h → (ts : List Lexeme) → erased ts ≡ us → Placed g ts w rest
  placed (reads_token e) (er_token k) ts f = token_placed k e ts f
  placed reads_gives (er_gives {v = v} e) ts f = record { value = v; left = ts; reads = reads_gives; same = e; after = f }
  placed (reads_bind x y) (er_bind {k = k} {l = l} g h) ts f =
      let a = placed x g ts f in
      let b = placed y (subst (λ v. Erases (k a.value) (l v)) a.same (h a.value)) a.left a.after in
      record { value = b.value; left = b.left; reads = reads_bind a.reads b.reads; same = b.same; after = b.after }
  placed (reads_left x) (er_either g h) ts f = let a = placed x g ts f in record { value = a.value; left = a.left; reads = reads_left a.reads; same = a.same; after = a.after }
  placed (reads_right x) (er_either g h) ts f = let a = placed x h ts f in record { value = a.value; left = a.left; reads = reads_right a.reads; same = a.same; after = a.after }
  placed (reads_where {c = c} e x) (er_where b g) ts f = let a = placed x g ts f in record { value = a.value; left = a.left; reads = reads_where (b ts ∙ ap c f ∙ e) a.reads; same = a.same; after = a.after }
  placed (reads_end {c = c} e) (er_many {a = a} b g s) ts f = record { value = a; left = ts; reads = reads_end (b ts ∙ ap c f ∙ e); same = s; after = f }
  placed (reads_more x y) (er_many {f = p} {q = q} {n = n} {a = a} b g s) ts f =
      let i = placed x (subst (λ v. Erases (p n a) (q n v)) s (g n a)) ts f in
      let j = placed y (er_many b g i.same) i.left i.after in
      record { value = j.value; left = j.left; reads = reads_more i.reads j.reads; same = j.same; after = j.after }
  placed (reads_rule x) (er_rule {l = l} e) ts f =
      let a = placed x (subst (λ m. Erases (rules l) (rules m)) e (rows l)) ts f in
      record { value = a.value; left = a.left; reads = reads_rule a.reads; same = a.same; after = a.after }
