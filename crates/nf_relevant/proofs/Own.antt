-- The names that stand in an expression are all that it reads.
use Rattle.std.proofs.Common.{◌≡◌, ℕ, Bool, true, false, ◌||◌, List, [], ◌∷◌, ◌++◌, refl, sym, subst}
use Rattle.std.specs.Str.{bytes_eq}
use Rattle.std.proofs.lemmas.Slice.Eq.{bytes_eq-Decides}
use Rattle.nf_builtins.specs.Natives.{is_among}
use Rattle.nf_ast.specs.Tree as tree
use Rattle.nf_ast.specs.Tree.{Tree, cons}
use Rattle.nf_relevant.specs.Names.{names_read}
use Rattle.nf_relevant.specs.Reads.{Reads}

abbrev Within : List (List ℕ) → List (List ℕ) → Type 0
Within xs ys = (n : List ℕ) → is_among n xs ≡ true → is_among n ys ≡ true

or_left : (a b : Bool) → a ≡ true → (a || b) ≡ true
or_left true b h = refl
or_left false b h = absurd (cc)

or_right : (a b : Bool) → b ≡ true → (a || b) ≡ true
or_right true b h = refl
or_right false b h = h

within_cons : (m : List ℕ) (xs : List (List ℕ)) → Within xs (m ∷ xs)
within_cons m xs n h = or_right (bytes_eq m n) (is_among n xs) h

in_front : (xs ys : List (List ℕ)) → Within xs (xs ++ ys)
in_front [] ys n h = absurd (cc)
in_front (x ∷ xs) ys n h = by_first (bytes_eq x n) refl h (in_front xs ys n)
  where
    by_first : (b : Bool) → bytes_eq x n ≡ b → (b || is_among n xs) ≡ true → (is_among n xs ≡ true → is_among n (xs ++ ys) ≡ true) → (bytes_eq x n || is_among n (xs ++ ys)) ≡ true
    by_first true e k rest = or_left (bytes_eq x n) (is_among n (xs ++ ys)) e
    by_first false e k rest = or_right (bytes_eq x n) (is_among n (xs ++ ys)) (rest k)

behind : (xs ys : List (List ℕ)) → Within ys (xs ++ ys)
behind [] ys n h = h
behind (x ∷ xs) ys n h = or_right (bytes_eq x n) (is_among n (xs ++ ys)) (behind xs ys n h)

-- more names
more : (xs ys : List (List ℕ)) → Within xs ys → (e : Tree) → Reads xs e → Reads ys e
more xs ys w (cons a b) h = (more xs ys w a h.0, more xs ys w b h.1)
more xs ys w (tree.name p n) h = w n h
more xs ys w (tree.template p k b) h = more xs ys w b h
more xs ys w (tree.hole p e) h = more xs ys w e h
more xs ys w (tree.list p b) h = more xs ys w b h
more xs ys w (tree.map p b) h = more xs ys w b h
more xs ys w (tree.pair k e) h = more xs ys w e h
more xs ys w (tree.closure p ps b) h = more xs ys w b h
more xs ys w (tree.label n e) h = more xs ys w e h
more xs ys w (tree.prefix p k e) h = more xs ys w e h
more xs ys w (tree.binary p k a b) h = (more xs ys w a h.0, more xs ys w b h.1)
more xs ys w (tree.conditional p c a b) h = (more xs ys w c h.0, more xs ys w a h.1, more xs ys w b h.2)
more xs ys w (tree.elvis p a b) h = (more xs ys w a h.0, more xs ys w b h.1)
more xs ys w (tree.property e n) h = more xs ys w e h
more xs ys w (tree.safe_property e n) h = more xs ys w e h
more xs ys w (tree.index p e i) h = (more xs ys w e h.0, more xs ys w i h.1)
more xs ys w (tree.call p f b) h = (more xs ys w f h.0, more xs ys w b h.1)
more xs ys w (tree.named n e) h = more xs ys w e h
more xs ys w (tree.call_with f c) h = (more xs ys w f h.0, more xs ys w c h.1)
more xs ys w (tree.define p n e) h = more xs ys w e h
more xs ys w (tree.define_all p ns e) h = more xs ys w e h
more xs ys w (tree.assign n e) h = more xs ys w e h
more xs ys w (tree.return_ p e) h = more xs ys w e h
more xs ys w (tree.choice p c b last) h = (more xs ys w c h.0, more xs ys w b h.1, more xs ys w last h.2)
more xs ys w (tree.statements b) h = more xs ys w b h
more xs ys w _ h = tt

two : (a b : Tree) → Reads (names_read a) a → Reads (names_read b) b → Reads (names_read a ++ names_read b) a × Reads (names_read a ++ names_read b) b
two a b h k = (
  more (names_read a) (names_read a ++ names_read b) (in_front (names_read a) (names_read b)) a h,
  more (names_read b) (names_read a ++ names_read b) (behind (names_read a) (names_read b)) b k,
)

three : (c a b : Tree) → Reads (names_read c) c → Reads (names_read a) a → Reads (names_read b) b
    → Reads (names_read c ++ (names_read a ++ names_read b)) c × Reads (names_read c ++ (names_read a ++ names_read b)) a × Reads (names_read c ++ (names_read a ++ names_read b)) b
three c a b h k l =
    let ab : List (List ℕ) = names_read a ++ names_read b in
    let all : List (List ℕ) = names_read c ++ ab in
    let both : Reads ab a × Reads ab b = two a b k l in
    (more (names_read c) all (in_front (names_read c) ab) c h, more ab all (behind (names_read c) ab) a both.0, more ab all (behind (names_read c) ab) b both.1)

pub own : (e : Tree) → Reads (names_read e) e
own (cons a b) = two a b (own a) (own b)
own (tree.name p n) = or_left (bytes_eq n n) false ((bytes_eq-Decides n n).1 refl)
own (tree.template p k b) = own b
own (tree.hole p e) = own e
own (tree.list p b) = own b
own (tree.map p b) = own b
own (tree.pair k e) = own e
own (tree.closure p ps b) = own b
own (tree.label n e) = own e
own (tree.prefix p k e) = own e
own (tree.binary p k a b) = two a b (own a) (own b)
own (tree.conditional p c a b) = three c a b (own c) (own a) (own b)
own (tree.elvis p a b) = two a b (own a) (own b)
own (tree.property e n) = own e
own (tree.safe_property e n) = own e
own (tree.index p e i) = two e i (own e) (own i)
own (tree.call p f b) = two f b (own f) (own b)
own (tree.named n e) = own e
own (tree.call_with f c) = two f c (own f) (own c)
own (tree.define p n e) = own e
own (tree.define_all p ns e) = own e
own (tree.assign n e) = own e
own (tree.return_ p e) = own e
own (tree.choice p c b last) = three c b last (own c) (own b) (own last)
own (tree.statements b) = own b
own _ = tt

-- a list that is that of the names
pub listed : (ns : List (List ℕ)) (e : Tree) → ns ≡ [] ++ names_read e → Reads ns e
listed ns e h = subst (λ xs. Reads xs e) (sym h) (own e)
