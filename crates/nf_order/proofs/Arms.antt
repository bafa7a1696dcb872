-- Two arms, and what stands between braces.
use Rattle.std.proofs.Common.{◌≡◌, ℕ, ◌<◌, ◌-◌, length, drop, take, arith, false, List, [], ◌∷◌, ◌++◌, map, refl, sym, ap, ◌∙◌, subst, append_assoc}
use Rattle.std.proofs.lemmas.List.{append-nil}
use Rattle.std.specs.Prelude.{◌||◌, if◌then◌else◌, Result, IfOk}
use Rattle.nf_value.specs.declared.place.Place.{Place}
use Rattle.nf_ast.specs.declared.operators.BranchOperator.{BranchOperator}
use Rattle.nf_ast.specs.declared.operators.BranchOperator.TheVariants.{Then, Else, Elvis}
use Rattle.nf_ast.specs.declared.expr.Branch.{Branch}
use Rattle.nf_ast.specs.Tree as tree
use Rattle.nf_ast.specs.Tree.{Tree, empty}
use Rattle.nf_ast.specs.View.{BranchTree, Frame, asked, answered, preferred, conditional, ended, framed, names, view_branch}
use Rattle.nf_placed.specs.Body.{names_in}
use Rattle.nf_kinds.specs.declared.fault.Broken.{Broken}
use Rattle.nf_kinds.specs.declared.kinds.Kinds.{Kinds}
use Rattle.nf_kinds.specs.Kinds.{Shaped, alone, merged, plain_kind, plain_unless, unknown_kind}
use Rattle.nf_kinds.specs.Scope.{Scope, after_both, all_defined, left_by}
use Rattle.nf_kinds.specs.Walk.{Out, came, Walk, after, ◌>>=◌, gives, with_scope}
use Rattle.nf_slips.proofs.Expressions.{framed_some}
use Rattle.nf_order.specs.declared.around.State.{State}
use Rattle.nf_order.specs.declared.subject.Head.TheVariants as head
use Rattle.nf_order.specs.Callees.{Around}
use Rattle.nf_order.specs.Parts.{both, both_ends, braces_end, chosen, in_braces, part_of, plain_by}
use Rattle.nf_order.specs.Standing.{Chain, Gives, IsElse, IsEnd, IsLeft, IsRead, IsSecond, Stands, Turned, arms_of, chain_of, uncalled}
use Rattle.nf_order.proofs.Walks.{given, goes, if_ok, maps, moves, still}
use Rattle.nf_order.proofs.Rows.{after_first}
use Rattle.nf_order.proofs.Standing.{expression_stands}

-- ---- what a part came to

abbrev given_in : {A : Type 0} → Out A → A
given_in (came x s fs) = x

abbrev scope_in : {A : Type 0} → Out A → Scope
scope_in (came x s fs) = s

abbrev broken_in : {A : Type 0} → Out A → List Broken
broken_in (came x s fs) = fs

-- ---- both arms

both_come : {A B : Type 0} (before mid all : List Broken) (o : Out A) (u : Out B) (x : A) (y : B) (s t : Scope) → after before o ≡ came x s mid → after mid u ≡ came y t all → after before (both_ends o u) ≡ came (x, y) (after_both s t) all
both_come before mid all (came x s fs) (came y t gs) z w q r h k =
    ap (λ l. came (x, y) (after_both s t) l) (sym (append_assoc before fs gs) ∙ ap (λ m. m ++ gs) (ap broken_in h) ∙ ap broken_in k)
    ∙ ap (λ v. came (v, y) (after_both s t) all) (ap given_in h)
    ∙ ap (λ v. came (z, v) (after_both s t) all) (ap given_in k)
    ∙ ap (λ v. came (z, w) (after_both v t) all) (ap scope_in h)
    ∙ ap (λ v. came (z, w) (after_both q v) all) (ap scope_in k)

-- Each arm begins in the scope before both, and the second with the rules that are broken after the first.
pub both_give : {A B : Type 0} (m : Walk A) (n : Walk B) (x : A) (y : B) (old mid start late new : State) → Gives m old x mid → start.scope ≡ old.scope → start.broken.items ≡ mid.broken.items → Gives n start y late → new.scope ≡ after_both mid.scope late.scope → new.broken.items ≡ late.broken.items → Gives (both m n) old (x, y) new
both_give m n x y old mid start late new e s b f t c =
    let second : after mid.broken.items (n old.scope) ≡ came y late.scope late.broken.items = ap (λ l. after l (n old.scope)) (sym b) ∙ ap (λ q. after start.broken.items (n q)) (sym s) ∙ f in
    both_come old.broken.items mid.broken.items late.broken.items (m old.scope) (n old.scope) x y mid.scope late.scope e second
    ∙ ap (λ q. came (x, y) q late.broken.items) (sym t)
    ∙ ap (λ l. came (x, y) new.scope l) (sym c)

pub chosen_gives : (c m n : Walk Shaped) (k x y : Shaped) (old mid new : State) → Gives c old k mid → Gives (both m n) mid (x, y) new → Gives (chosen c m n) old (if k.kinds.unknown then alone unknown_kind else merged x y) new
chosen_gives c m n k x y old mid new e f =
    goes c (λ k. both m n >>= λ x. gives (if k.kinds.unknown then alone unknown_kind else merged x.0 x.1)) k old mid e
    ∙ maps (both m n) (λ x. if k.kinds.unknown then alone unknown_kind else merged x.0 x.1) (x, y) mid new f

-- what an `if` with these arms does
abbrev both_done : Walk Shaped → Walk (Unit {0}) → Walk (Unit {0}) → Walk (Unit {0})
both_done c m n = c >>= λ v. both m n >>= λ t. gives tt

pub choice_gives : (c : Walk Shaped) (m n : Walk (Unit {0})) (k : Shaped) (x : Unit {0} × Unit {0}) (old mid new : State) → Gives c old k mid → Gives (both m n) mid x new → Gives (both_done c m n) old tt new
choice_gives c m n k x old mid new e f =
    let w : Walk (Unit {0}) = both m n >>= λ t. gives tt in
    let on : Shaped → Walk (Unit {0}) = λ v. w in
    let none : Unit {0} × Unit {0} → Unit {0} = λ t. tt in
    goes c on k old mid e ∙ maps (both m n) none x mid new f

-- ---- braces

braces_come : {A : Type 0} (s : Scope) (o : Out A) (before all : List Broken) (x : A) (r : Scope) → after before o ≡ came x r all → after before (braces_end s o) ≡ came x (left_by s r) all
braces_come s (came x r fs) before all y q h =
    ap (λ v. came v (left_by s r) (before ++ fs)) (ap given_in h)
    ∙ ap (λ v. came y (left_by s v) (before ++ fs)) (ap scope_in h)
    ∙ ap (λ l. came y (left_by s q) l) (ap broken_in h)

pub braces_give : {A : Type 0} (w : Walk A) (x : A) (old mid new : State) → Gives w old x mid → new.scope ≡ left_by old.scope mid.scope → new.broken.items ≡ mid.broken.items → Gives (in_braces w) old x new
braces_give w x old mid new e s b =
    braces_come old.scope (w old.scope) old.broken.items mid.broken.items x mid.scope e
    ∙ ap (λ q. came x q mid.broken.items) (sym s)
    ∙ ap (λ l. came x new.scope l) (sym b)

-- ---- conditional expressions

preferred_else : (p q : Place) (e t y : Tree) (fs : List Frame) (xs : List BranchTree) (m : BranchOperator) → IsElse m → conditional (framed q m (preferred p e ∷ fs) t) y xs ≡ conditional (framed q m fs (tree.elvis p e t)) y xs
preferred_else p q e t y fs xs Else h = refl
preferred_else p q e t y fs xs Then h = absurd h
preferred_else p q e t y fs xs Elvis h = absurd h

-- at its end a left operand is done
preferred_end : (p : Place) (e t : Tree) (fs : List Frame) (ls : List BranchTree) → IsEnd ls → conditional (preferred p e ∷ fs) t ls ≡ conditional fs (tree.elvis p e t) ls
preferred_end p e t fs [] h = refl
preferred_end p e t fs (x ∷ xs) h = preferred_else p x.place e t x.expr fs xs x.operator h

answered_else : (p q : Place) (c e t y : Tree) (fs : List Frame) (xs : List BranchTree) (m : BranchOperator) → IsElse m → conditional (framed q m (answered p c e ∷ fs) t) y xs ≡ conditional (framed q m fs (tree.conditional p c e t)) y xs
answered_else p q c e t y fs xs Else h = refl
answered_else p q c e t y fs xs Then h = absurd h
answered_else p q c e t y fs xs Elvis h = absurd h

answered_end : (p : Place) (c e t : Tree) (fs : List Frame) (ls : List BranchTree) → IsEnd ls → conditional (answered p c e ∷ fs) t ls ≡ conditional fs (tree.conditional p c e t) ls
answered_end p c e t fs [] h = refl
answered_end p c e t fs (x ∷ xs) h = answered_else p x.place c e t x.expr fs xs x.operator h

-- a `:` for which no condition waits
else_opens : (q : Place) (t y : Tree) (xs : List BranchTree) (m : BranchOperator) → IsElse m → conditional (framed q m [] t) y xs ≡ conditional (preferred q t ∷ []) y xs
else_opens q t y xs Else h = refl
else_opens q t y xs Then h = absurd h
else_opens q t y xs Elvis h = absurd h

-- a `:` after what a true condition gives
else_answers : (p q : Place) (c e y : Tree) (fs : List Frame) (xs : List BranchTree) (m : BranchOperator) → IsElse m → conditional (framed q m (asked p c ∷ fs) e) y xs ≡ conditional (answered p c e ∷ fs) y xs
else_answers p q c e y fs xs Else h = refl
else_answers p q c e y fs xs Then h = absurd h
else_answers p q c e y fs xs Elvis h = absurd h

pub turn_alone : (a : Around) (e : Tree) (bs : List BranchTree) (v : Shaped) (old new : State) → IsEnd bs → Gives (part_of a e).thing old v new → Turned a (chain_of e bs) v bs old new
turn_alone a e bs v old new h g = record { whole = e; same = λ fs. refl; gives = g; ends = h }

elvis_gives : (a : Around) (p : Place) (x y : Tree) (v w : Shaped) (old mid new : State) → Gives (part_of a x).thing old v mid → Gives (part_of a y).thing mid w new → Gives (part_of a (tree.elvis p x y)).thing old (alone (plain_unless (v.kinds.unknown || w.kinds.unknown))) new
elvis_gives a p x y v w old mid new e f =
    goes (part_of a x).thing (λ v. (part_of a y).thing >>= λ w. plain_by (v.kinds.unknown || w.kinds.unknown)) v old mid e
    ∙ maps (part_of a y).thing (λ w. alone (plain_unless (v.kinds.unknown || w.kinds.unknown))) w mid new f

pub turn_elvis : (a : Around) (p : Place) (e y : Tree) (xs ls : List BranchTree) (v w : Shaped) (old mid new : State) → Gives (part_of a e).thing old v mid → Turned a (chain_of y xs) w ls mid new → Turned a (chain_of e (record { place = p; operator = Elvis; expr = y } ∷ xs)) (alone (plain_unless (v.kinds.unknown || w.kinds.unknown))) ls old new
turn_elvis a p e y xs ls v w old mid new g t = record {
  whole = tree.elvis p e t.whole;
  same = λ fs. t.same (preferred p e ∷ fs) ∙ preferred_end p e t.whole fs ls t.ends;
  gives = elvis_gives a p e t.whole v w old mid new g t.gives;
  ends = t.ends;
}

pub turn_then : (a : Around) (p : Place) (e y : Tree) (xs ls : List BranchTree) (v : Shaped) (old new : State) → Turned a (arms_of p e y xs) v ls old new → Turned a (chain_of e (record { place = p; operator = Then; expr = y } ∷ xs)) v ls old new
turn_then a p e y xs ls v old new t = record { whole = t.whole; same = t.same; gives = t.gives; ends = t.ends }

pub arms_turn : (a : Around) (p : Place) (c e : Tree) (bs mids ls : List BranchTree) (k one other v : Shaped) (condition : Kinds) (first old mid start late new : State) → k.kinds ≡ condition → Gives (part_of a c).thing first k old → Turned a (chain_of e bs) one mids old mid → start.scope ≡ old.scope → start.broken.items ≡ mid.broken.items → IsSecond a mids other ls start late → new.scope ≡ after_both mid.scope late.scope → new.broken.items ≡ late.broken.items → v ≡ (if condition.unknown then alone unknown_kind else merged one other) → Turned a (arms_of p c e bs) v ls first new
arms_turn a p c e bs mids ls k one other v condition first old mid start late new is g t s b u r d w =
    let arms : Gives (both (part_of a t.whole).thing (part_of a u.whole).thing) old (one, other) new = both_give (part_of a t.whole).thing (part_of a u.whole).thing one other old mid start late new t.gives s b u.gives r d in
    let due : (if k.kinds.unknown then alone unknown_kind else merged one other) ≡ v = ap (λ (i : Kinds). if i.unknown then alone unknown_kind else merged one other) is ∙ sym w in
    record {
      whole = tree.conditional p c t.whole u.whole;
      same = λ fs. t.same (asked p c ∷ fs) ∙ u.same p c t.whole fs;
      gives = chosen_gives (part_of a c).thing (part_of a t.whole).thing (part_of a u.whole).thing k one other first old new g arms ∙ ap (λ i. came i new.scope new.broken.items) due;
      ends = u.ends;
    }

pub second_some : (a : Around) (x : BranchTree) (xs ls : List BranchTree) (v : Shaped) (old new : State) → IsEnd (x ∷ xs) → Turned a (chain_of x.expr xs) v ls old new → IsSecond a (x ∷ xs) v ls old new
second_some a x xs ls v old new h t = record {
  whole = t.whole;
  same = λ p c e fs. else_answers p x.place c e x.expr fs xs x.operator h ∙ t.same (answered p c e ∷ fs) ∙ answered_end p c e t.whole fs ls t.ends;
  gives = t.gives;
  ends = t.ends;
}

nothing_second : (a : Around) (s : State) → IsSecond a [] (alone plain_kind) [] s s
nothing_second a s = record { whole = empty; same = λ p c e fs. refl; gives = still (plain_by false) (alone plain_kind) s refl; ends = tt }

pub second_none : (a : Around) (bs : List BranchTree) (v : Shaped) (s : State) → bs ≡ [] → v ≡ alone plain_kind → IsSecond a bs v bs s s
second_none a bs v s none is =
    subst (λ (cs : List BranchTree). IsSecond a cs v cs s s) (sym none) (subst (λ (w : Shaped). IsSecond a [] w [] s s) (sym is) (nothing_second a s))

-- what is read after a `:`, as it lies in memory
pub second_result : {E T : Type 0} (a : Around) (bs xs : List BranchTree) (x : BranchTree) (r : Result T E) (v : T → Shaped) (f : T → List BranchTree) (old new : State) → bs ≡ x ∷ xs → IsEnd bs → IfOk r (λ y. Turned a (chain_of x.expr xs) (v y) (f y) old new) → IfOk r (λ y. IsSecond a bs (v y) (f y) old new)
second_result a bs xs x r v f old new is h g =
    if_ok r (λ y. Turned a (chain_of x.expr xs) (v y) (f y) old new) (λ y. IsSecond a bs (v y) (f y) old new)
    (λ y t. subst (λ (cs : List BranchTree). IsSecond a cs (v y) (f y) old new) (sym is) (second_some a x xs (f y) (v y) old new (subst IsEnd is h) t)) g

-- arms that are read after a condition
pub arms_result : {E T : Type 0} (a : Around) (e : Tree) (bs xs : List BranchTree) (p : Place) (y : Tree) (k : Shaped) (i : Kinds) (r : Result T E) (v : T → Shaped) (f : T → List BranchTree) (start old new : State) → bs ≡ record { place = p; operator = Then; expr = y } ∷ xs → k.kinds ≡ i → Gives (part_of a e).thing start k old → IfOk r (λ z. (p : Place) (c : Tree) (q : Shaped) (first : State) → q.kinds ≡ i → Gives (part_of a c).thing first q old → Turned a (arms_of p c y xs) (v z) (f z) first new) → IfOk r (λ z. Turned a (chain_of e bs) (v z) (f z) start new)
arms_result a e bs xs p y k i r v f start old new is same g h =
    if_ok r (λ z. (p : Place) (c : Tree) (q : Shaped) (first : State) → q.kinds ≡ i → Gives (part_of a c).thing first q old → Turned a (arms_of p c y xs) (v z) (f z) first new) (λ z. Turned a (chain_of e bs) (v z) (f z) start new)
    (λ z t. subst (λ (cs : List BranchTree). Turned a (chain_of e cs) (v z) (f z) start new) (sym is) (turn_then a p e y xs (f z) (v z) start new (t p e k start same g))) h

pub turned_as : (a : Around) (e : Tree) (bs cs ls : List BranchTree) (v u : Shaped) (old new : State) → bs ≡ cs → v ≡ u → Turned a (chain_of e cs) u ls old new → Turned a (chain_of e bs) v ls old new
turned_as a e bs cs ls v u old new is eq t =
    subst (λ (ds : List BranchTree). Turned a (chain_of e ds) v ls old new) (sym is) (subst (λ (w : Shaped). Turned a (chain_of e cs) w ls old new) (sym eq) t)

pub read_as : (a : Around) (c : Chain) (ms ls : List BranchTree) (v u : Shaped) (old new : State) → ms ≡ ls → v ≡ u → IsRead a c u ls old new → IsRead a c v ms old new
read_as a c ms ls v u old new is eq t =
    subst (λ (ds : List BranchTree). IsRead a c v ds old new) (sym is) (subst (λ (w : Shaped). IsRead a c w ls old new) (sym eq) t)

-- operands that are left of those after the first
later_left : (xs ys bs : List Branch) → IsLeft xs (drop 1 ys) → IsLeft ys bs → IsLeft xs bs
later_left xs [] bs f g = record { fewer = omega (arith, f.fewer, g.fewer); smaller = omega (arith, f.smaller, g.smaller) }
later_left xs (y ∷ ys) bs f g = record { fewer = omega (arith, f.fewer, g.fewer); smaller = omega (arith, f.smaller, g.smaller) }

pub left_on : (xs ys bs : List Branch) → IsLeft xs (take (length ys - 1) (drop 1 ys)) → IsLeft ys bs → IsLeft xs bs
left_on xs ys bs f g = later_left xs ys bs (subst (λ (zs : List Branch). IsLeft xs zs) (after_first ys) f) g

pub read_begins : (a : Around) (e : Tree) (bs ls : List BranchTree) (v : Shaped) (old new : State) → Turned a (chain_of e bs) v ls old new → IsRead a (chain_of e bs) v ls old new
read_begins a e bs ls v old new t = record { whole = t.whole; same = t.same []; gives = t.gives; ends = t.ends }

pub read_goes : (a : Around) (c : Chain) (x : BranchTree) (xs ls : List BranchTree) (v w : Shaped) (old mid new : State) → IsRead a c v (x ∷ xs) old mid → Turned a (chain_of x.expr xs) w ls mid new → IsRead a c (alone (plain_unless (v.kinds.unknown || w.kinds.unknown))) ls old new
read_goes a c x xs ls v w old mid new r t = record {
  whole = tree.elvis x.place r.whole t.whole;
  same = r.same ∙ else_opens x.place r.whole x.expr xs x.operator r.ends ∙ t.same (preferred x.place r.whole ∷ []) ∙ preferred_end x.place r.whole t.whole [] ls t.ends;
  gives = elvis_gives a x.place r.whole t.whole v w old mid new r.gives t.gives;
  ends = t.ends;
}

pub read_ends : (a : Around) (e : Tree) (bs : List BranchTree) (v : Shaped) (old new : State) → IsRead a (chain_of e bs) v [] old new → Gives (part_of a (conditional [] e bs)).thing old v new
read_ends a e bs v old new r = ap (λ t. after old.broken.items ((part_of a t).thing old.scope)) r.same ∙ r.gives

-- ---- what a conditional expression is

abbrev IsTurn : Tree → Type 0
IsTurn (tree.conditional p c x y) = Unit {0}
IsTurn (tree.elvis p x y) = Unit {0}
IsTurn t = ⊥

ended_turn : (fs : List Frame) (e : Tree) → IsTurn e → IsTurn (ended fs e)
ended_turn [] e h = h
ended_turn (asked p c ∷ fs) e h = ended_turn fs (tree.conditional p c e empty) tt
ended_turn (answered p c a ∷ fs) e h = ended_turn fs (tree.conditional p c a e) tt
ended_turn (preferred p a ∷ fs) e h = ended_turn fs (tree.elvis p a e) tt

one_ended : (f : Frame) (fs : List Frame) (e : Tree) → IsTurn (ended (f ∷ fs) e)
one_ended (asked p c) fs e = ended_turn fs (tree.conditional p c e empty) tt
one_ended (answered p c a) fs e = ended_turn fs (tree.conditional p c a e) tt
one_ended (preferred p a) fs e = ended_turn fs (tree.elvis p a e) tt

held_turn : (xs : List BranchTree) (f : Frame) (fs : List Frame) (e : Tree) → IsTurn (conditional (f ∷ fs) e xs)
held_turn [] f fs e = one_ended f fs e
held_turn (x ∷ xs) f fs e = framed_some (λ gs. IsTurn (conditional gs x.expr xs)) (λ g gs. held_turn xs g gs x.expr) x.place x.operator (f ∷ fs) e

turn_stands : (a : Around) (t : Tree) (v : Shaped) (old new : State) → IsTurn t → Gives (part_of a t).thing old v new → Stands (part_of a t) (uncalled a (head.Value v)) old new
turn_stands a (tree.conditional p c x y) v old new h g = expression_stands (tree.conditional p c x y) empty (part_of a (tree.conditional p c x y)).thing (gives v) old new (given (part_of a (tree.conditional p c x y)).thing v old new g)
turn_stands a (tree.elvis p x y) v old new h g = expression_stands (tree.elvis p x y) empty (part_of a (tree.elvis p x y)).thing (gives v) old new (given (part_of a (tree.elvis p x y)).thing v old new g)
turn_stands a _ v old new h g = absurd h

pub turns_stand : (a : Around) (e : Tree) (x : BranchTree) (xs : List BranchTree) (v : Shaped) (old new : State) → Gives (part_of a (conditional [] e (x ∷ xs))).thing old v new → Stands (part_of a (conditional [] e (x ∷ xs))) (uncalled a (head.Value v)) old new
turns_stand a e x xs v old new g =
    turn_stands a (conditional [] e (x ∷ xs)) v old new (framed_some (λ gs. IsTurn (conditional gs x.expr xs)) (λ h gs. held_turn xs h gs x.expr) x.place x.operator [] e) g

-- ---- statements

-- a statement that changes the scope alone, by what an expression gives
pub scope_gives : (w : Walk Shaped) (f : Shaped → Scope → Scope) (v : Shaped) (old mid new : State) → Gives w old v mid → new.scope ≡ f v mid.scope → new.broken.items ≡ mid.broken.items → Gives (w >>= λ v. with_scope (f v)) old tt new
scope_gives w f v old mid new g s b =
    goes w (λ v. with_scope (f v)) v old mid g
    ∙ moves (with_scope (f v)) tt [] mid new (ap (λ q. came tt q []) (sym s)) (b ∙ sym (append-nil mid.broken.items))

pub choice_stands : (a : Around) (p : Place) (c b last : Tree) (k : Shaped) (old mid armed start late new : State) → Gives (part_of a c).thing old k mid → Gives (in_braces (part_of a b).body) mid tt armed → start.scope ≡ mid.scope → start.broken.items ≡ armed.broken.items → Gives (part_of a last).done start tt late → new.scope ≡ after_both armed.scope late.scope → new.broken.items ≡ late.broken.items → Gives (part_of a (tree.choice p c (tree.statements b) last)).done old tt new
choice_stands a p c b last k old mid armed start late new g h s r l t d =
    choice_gives (part_of a c).thing (in_braces (part_of a b).body) (part_of a last).done k (tt, tt) old mid new g
    (both_give (in_braces (part_of a b).body) (part_of a last).done tt tt mid armed start late new h s r l t d)

pub names_told : (ns : List (Place × List ℕ)) → names_in (names ns) ≡ map (λ n. n.1) ns
names_told [] = refl
names_told (n ∷ ns) = ap (λ ms. n.1 ∷ ms) (names_told ns)

pub define_all_gives : (a : Around) (p : Place) (t e : Tree) (ns : List (Place × List ℕ)) (v : Shaped) (k : Kinds) (old mid new : State) → t ≡ tree.define_all p (names ns) e → Gives (part_of a e).thing old v mid → k ≡ plain_unless v.kinds.unknown → new.scope ≡ all_defined (map (λ n. n.1) ns) (alone k) mid.scope → new.broken.items ≡ mid.broken.items → Gives (part_of a t).done old tt new
define_all_gives a p t e ns v k old mid new is g h s b =
    let due : new.scope ≡ all_defined (names_in (names ns)) (alone (plain_unless v.kinds.unknown)) mid.scope =
    s ∙ ap (λ l. all_defined l (alone k) mid.scope) (sym (names_told ns)) ∙ ap (λ i. all_defined (names_in (names ns)) (alone i) mid.scope) h in
    ap (λ u. after old.broken.items ((part_of a u).done old.scope)) is
    ∙ scope_gives (part_of a e).thing (λ v. all_defined (names_in (names ns)) (alone (plain_unless v.kinds.unknown))) v old mid new g due b

pub turns_some : (a : Around) (e : Tree) (ys : List Branch) (v : Shaped) (old new : State) → 0 < length ys → Gives (part_of a (conditional [] e (map view_branch ys))).thing old v new → Stands (part_of a (conditional [] e (map view_branch ys))) (uncalled a (head.Value v)) old new
turns_some a e [] v old new h g = absurd (omega arith)
turns_some a e (y ∷ ys) v old new h g = turns_stand a e (view_branch y) (map view_branch ys) v old new g
