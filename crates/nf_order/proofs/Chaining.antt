-- What chains come to that stand in one list, and arms.
use Rattle.std.proofs.Common.{◌≡◌, ℕ, ◌+◌, ◌<◌, ◌≤◌, Bool, true, false, List, [], ◌∷◌, map, length, get_or, drop, refl, sym, ap, ◌∙◌, subst, arith}
use Rattle.std.proofs.lemmas.List.{drop_all}
use Rattle.std.specs.Prelude.{◌||◌, Result, IfOk}
use Rattle.nf_ast.specs.declared.operators.InfixOperator.{InfixOperator}
use Rattle.nf_ast.specs.declared.operators.InfixOperator.TheVariants as infix_operator
use Rattle.nf_ast.specs.Tree as tree
use Rattle.nf_ast.specs.Tree.{Tree, empty, place_of}
use Rattle.nf_ast.specs.declared.expr.Prefix.{Prefix}
use Rattle.nf_ast.specs.declared.expr.Operand.{Operand}
use Rattle.nf_ast.specs.declared.expr.Postfix.{Postfix}
use Rattle.nf_ast.specs.declared.expr.ClosureBody.TheOpen as o
use Rattle.nf_ast.specs.View.{applied, operands, postfix, postfix_step, prefixes, trees, view_operand, view_postfix}
use Rattle.nf_placed.specs.Body.{name_in}
use Rattle.nf_kinds.specs.Kinds.{Shaped, alone, plain_unless}
use Rattle.nf_kinds.specs.Walk.{Walk, came, ◌>>=◌, gives}
use Rattle.nf_slips.proofs.Layers.{Layer, of_part}
use Rattle.nf_order.specs.declared.around.State.{State}
use Rattle.nf_order.specs.declared.subject.Head.TheVariants as head
use Rattle.nf_order.specs.declared.subject.Subject.{Subject}
use Rattle.nf_order.specs.Callees.{Around}
use Rattle.nf_order.specs.Parts.{Part, handed, of_binary, part_of, plain_by, indexed}
use Rattle.nf_order.specs.Standing.{Gives, Stands, after_part, after_parts, after_operand, after_operands, rest, uncalled}
use Rattle.nf_order.proofs.Walks.{given, goes, if_ok, leads_on, maps}
use Rattle.nf_order.proofs.Rows.{left}
use Rattle.nf_order.proofs.Standing.{call_stands, closed_stands, expression_stands, property_stands, safe_property_stands, stands_on, stands_still}

-- ---- parts

-- what an index after this gives
abbrev index_thing : Around → Part → Tree → Walk Shaped
index_thing a p i = p.thing >>= λ v. (part_of a i).thing >>= λ k. gives (alone (indexed i v k.kinds))

-- a part after an expression is what the whole is
one_part : (a : Around) (e : Tree) (s : State) (z : Layer) → Stands (part_of a (applied e (postfix_step z))) (after_part a (part_of a e) (postfix_step z)) s s
one_part a e s (o.Property p n) = property_stands (tree.property e (tree.name p n)) empty (part_of a e) (part_of a e) p n s s (stands_still (part_of a e) s)
one_part a e s (o.SafeProperty p n) = safe_property_stands (tree.safe_property e (tree.name p n)) empty (part_of a e) (part_of a e) p n s s (stands_still (part_of a e) s)
one_part a e s (o.Index p i) = expression_stands (tree.index p e i) empty (index_thing a (part_of a e) i) (index_thing a (part_of a e) i) s s refl
one_part a e s (o.Call p xs) = call_stands (tree.call p e (trees xs.items)) empty (part_of a e) (part_of a e) _ s s (stands_still (part_of a e) s)
one_part a e s (o.With c) = closed_stands (tree.call_with e c) empty (part_of a e) (part_of a e) _ s s (stands_still (part_of a e) s)

-- what follows goes on alike
part_stands : (a : Around) (p q : Part) (t : Tree) (old new : State) → Stands p q old new → Stands (after_part a p t) (after_part a q t) old new
part_stands a p q (tree.property e n) old new s = property_stands empty empty p q (place_of n) (name_in n) old new s
part_stands a p q (tree.safe_property e n) old new s = safe_property_stands empty empty p q (place_of n) (name_in n) old new s
part_stands a p q (tree.index r e i) old new s =
    expression_stands empty empty (index_thing a p i) (index_thing a q i) old new (leads_on p.thing q.thing (λ v. (part_of a i).thing >>= λ k. gives (alone (indexed i v k.kinds))) old new s.thing)
part_stands a p q (tree.call r e xs) old new s = call_stands empty empty p q (part_of a xs).arguments old new s
part_stands a p q (tree.call_with e c) old new s = closed_stands empty empty p q (part_of a c).argument old new s
part_stands a p q _ old new s = s

pub parts_stand : (a : Around) (p q : Part) (ts : List Tree) (old new : State) → Stands p q old new → Stands (after_parts a p ts) (after_parts a q ts) old new
parts_stand a p q [] old new s = s
parts_stand a p q (t ∷ ts) old new s = parts_stand a (after_part a p t) (after_part a q t) ts old new (part_stands a p q t old new s)

pub parts_judged : (a : Around) (e : Tree) (ys : List Postfix) (s : State) → Stands (part_of a (postfix e (map view_postfix ys))) (after_parts a (part_of a e) (map view_postfix ys)) s s
parts_judged a e [] s = stands_still (part_of a e) s
parts_judged a e (y ∷ ys) s =
    let v = view_postfix y in
    let ts = map view_postfix ys in
    stands_on (part_of a (postfix (applied e v) ts)) (after_parts a (part_of a (applied e v)) ts) (after_parts a (after_part a (part_of a e) v) ts) s s s
    (parts_judged a (applied e v) ys s)
    (parts_stand a (part_of a (applied e v)) (after_part a (part_of a e) v) ts s s (of_part (λ w. Stands (part_of a (applied e w)) (after_part a (part_of a e) w) s s) (one_part a e s) y))

-- ---- operands

-- what a pipe gives, and what two operands give
abbrev pipe_thing : Part → Part → Walk Shaped
pipe_thing p b = p.head >>= λ v. b.piped (handed v)

abbrev two_things : Part → Part → Walk Shaped
two_things p b = p.thing >>= λ v. b.thing >>= λ w. plain_by (v.kinds.unknown || w.kinds.unknown)

binary_stands : (k : InfixOperator) (t t' : Tree) (p q b : Part) (old new : State) → Stands p q old new → Stands (of_binary k t p b) (of_binary k t' q b) old new
binary_stands infix_operator.Pipe t t' p q b old new s = expression_stands t t' (pipe_thing p b) (pipe_thing q b) old new (leads_on p.head q.head (λ v. b.piped (handed v)) old new s.head)
binary_stands _ t t' p q b old new s =
    expression_stands t t' (two_things p b) (two_things q b) old new (leads_on p.thing q.thing (λ v. b.thing >>= λ w. plain_by (v.kinds.unknown || w.kinds.unknown)) old new s.thing)

operand_stands : (a : Around) (p q : Part) (t : Tree) (old new : State) → Stands p q old new → Stands (after_operand a p t) (after_operand a q t) old new
operand_stands a p q (tree.binary r k x b) old new s = binary_stands k empty empty p q (part_of a b) old new s
operand_stands a p q _ old new s = s

pub operands_stand : (a : Around) (p q : Part) (ts : List Tree) (old new : State) → Stands p q old new → Stands (after_operands a p ts) (after_operands a q ts) old new
operands_stand a p q [] old new s = s
operands_stand a p q (t ∷ ts) old new s = operands_stand a (after_operand a p t) (after_operand a q t) ts old new (operand_stands a p q t old new s)

pub operands_judged : (a : Around) (e : Tree) (ts : List Tree) (s : State) → Stands (part_of a (operands e ts)) (after_operands a (part_of a e) ts) s s
operands_judged a e [] s = stands_still (part_of a e) s
operands_judged a e (tree.binary r k x b ∷ ts) s =
    stands_on (part_of a (operands (tree.binary r k e b) ts)) (after_operands a (part_of a (tree.binary r k e b)) ts) (after_operands a (of_binary k empty (part_of a e) (part_of a b)) ts) s s s
    (operands_judged a (tree.binary r k e b) ts s)
    (operands_stand a (part_of a (tree.binary r k e b)) (of_binary k empty (part_of a e) (part_of a b)) ts s s
    (binary_stands k (tree.binary r k e b) empty (part_of a e) (part_of a e) (part_of a b) s s (stands_still (part_of a e) s)))
operands_judged a e (_ ∷ ts) s = operands_judged a e ts s

-- an operand after a pipe
pub piped_stands : (a : Around) (p r : Part) (b : Part) (t : Tree) (v x : Shaped) (old mid late new : State) → Gives p.head old v mid → Stands b r mid late → Gives (r.piped (handed v)) late x new → Stands (of_binary infix_operator.Pipe t p b) (uncalled a (head.Value x)) old new
piped_stands a p r b t v x old mid late new e s f =
    expression_stands t empty (pipe_thing p b) (gives x) old new
    (goes p.head (λ v. b.piped (handed v)) v old mid e ∙ s.piped (handed v) ∙ given (r.piped (handed v)) x late new f)

-- an operand after any other operator
abbrev pub IsNoPipe : InfixOperator → Type 0
IsNoPipe infix_operator.Pipe = ⊥
IsNoPipe k = Unit {0}

pub joined_stands : (a : Around) (k : InfixOperator) (p b : Part) (t : Tree) (v w : Shaped) (old mid new : State) → IsNoPipe k → Gives p.thing old v mid → Gives b.thing mid w new → Stands (of_binary k t p b) (uncalled a (head.Value (alone (plain_unless (v.kinds.unknown || w.kinds.unknown))))) old new
joined_stands a infix_operator.Pipe p b t v w old mid new i e f = absurd i
joined_stands a _ p b t v w old mid new i e f =
    expression_stands t empty (two_things p b) (plain_by (v.kinds.unknown || w.kinds.unknown)) old new
    (goes p.thing (λ v. b.thing >>= λ w. plain_by (v.kinds.unknown || w.kinds.unknown)) v old mid e
    ∙ goes b.thing (λ w. plain_by (v.kinds.unknown || w.kinds.unknown)) w mid new f)

-- ---- marks before an expression

plain_again : (u : Bool) → (plain_unless u).unknown ≡ u
plain_again true = refl
plain_again false = refl

prefix_gives : (a : Around) (m : Prefix) (ms : List Prefix) (e : Tree) (v : Shaped) (old new : State) → Gives (part_of a e).thing old v new → Gives (part_of a (prefixes (m ∷ ms) e)).thing old (alone (plain_unless v.kinds.unknown)) new
prefix_gives a m [] e v old new h = maps (part_of a e).thing (λ v. alone (plain_unless v.kinds.unknown)) v old new h
prefix_gives a m (n ∷ ms) e v old new h =
    maps (part_of a (prefixes (n ∷ ms) e)).thing (λ v. alone (plain_unless v.kinds.unknown)) (alone (plain_unless v.kinds.unknown)) old new (prefix_gives a n ms e v old new h)
    ∙ ap (λ u. came (alone (plain_unless u)) new.scope new.broken.items) (plain_again v.kinds.unknown)

pub prefix_stands : (a : Around) (m : Prefix) (ms : List Prefix) (e : Tree) (v : Shaped) (old new : State) → Gives (part_of a e).thing old v new → Stands (part_of a (prefixes (m ∷ ms) e)) (uncalled a (head.Value (alone (plain_unless v.kinds.unknown)))) old new
prefix_stands a m ms e v old new h =
    let w = (part_of a (prefixes (m ∷ ms) e)).thing in
    expression_stands (prefixes (m ∷ ms) e) empty w (gives (alone (plain_unless v.kinds.unknown))) old new (given w (alone (plain_unless v.kinds.unknown)) old new (prefix_gives a m ms e v old new h))

-- ---- loops over chains: one turn, and the end

pub operands_step : (a : Around) (p q r : Part) (xs : List Operand) (i : ℕ) (x : Operand) (start old new : State) → i < length xs → x ≡ get_or xs i x → Stands (after_operand a q (view_operand x)) r old new → Stands p (after_operands a q (map view_operand (drop i xs))) start old → Stands p (after_operands a r (map view_operand (drop (i + 1) xs))) start new
operands_step a p q r xs i x start old new h is s inv =
    let now = subst (λ (ys : List Operand). Stands p (after_operands a q (map view_operand ys)) start old) (left xs i x h is) inv in
    stands_on p (after_operands a (after_operand a q (view_operand x)) (map view_operand (drop (i + 1) xs))) (after_operands a r (map view_operand (drop (i + 1) xs))) start old new now (operands_stand a (after_operand a q (view_operand x)) r (map view_operand (drop (i + 1) xs)) old new s)

pub operands_finish : (a : Around) (p q : Part) (xs : List Operand) (i : ℕ) (start new : State) → length xs ≤ i → Stands p (after_operands a q (map view_operand (drop i xs))) start new → Stands p q start new
operands_finish a p q xs i start new h inv = subst (λ (ys : List Operand). Stands p (after_operands a q (map view_operand ys)) start new) (drop_all i xs h) inv

pub parts_step : (a : Around) (p q r : Part) (xs : List Postfix) (i : ℕ) (x : Postfix) (start old new : State) → i < length xs → x ≡ get_or xs i x → Stands (after_part a q (view_postfix x)) r old new → Stands p (after_parts a q (map view_postfix (drop i xs))) start old → Stands p (after_parts a r (map view_postfix (drop (i + 1) xs))) start new
parts_step a p q r xs i x start old new h is s inv =
    let now = subst (λ (ys : List Postfix). Stands p (after_parts a q (map view_postfix ys)) start old) (left xs i x h is) inv in
    stands_on p (after_parts a (after_part a q (view_postfix x)) (map view_postfix (drop (i + 1) xs))) (after_parts a r (map view_postfix (drop (i + 1) xs))) start old new now (parts_stand a (after_part a q (view_postfix x)) r (map view_postfix (drop (i + 1) xs)) old new s)

pub parts_finish : (a : Around) (p q : Part) (xs : List Postfix) (i : ℕ) (start new : State) → length xs ≤ i → Stands p (after_parts a q (map view_postfix (drop i xs))) start new → Stands p q start new
parts_finish a p q xs i start new h inv = subst (λ (ys : List Postfix). Stands p (after_parts a q (map view_postfix ys)) start new) (drop_all i xs h) inv

-- ---- a chain, where its first part stands

pub infix_stands : (a : Around) (e : Tree) (ts : List Tree) (p q : Part) (old mid new : State) → Stands (part_of a e) p old mid → Stands (after_operands a p ts) q mid new → Stands (part_of a (operands e ts)) q old new
infix_stands a e ts p q old mid new s u =
    stands_on (part_of a (operands e ts)) (after_operands a (part_of a e) ts) q old old new (operands_judged a e ts old)
    (stands_on (after_operands a (part_of a e) ts) (after_operands a p ts) q old mid new (operands_stand a (part_of a e) p ts old mid s) u)

pub postfix_stands : (a : Around) (e : Tree) (ys : List Postfix) (p q : Part) (old mid new : State) → Stands (part_of a e) p old mid → Stands (after_parts a p (map view_postfix ys)) q mid new → Stands (part_of a (postfix e (map view_postfix ys))) q old new
postfix_stands a e ys p q old mid new s u =
    stands_on (part_of a (postfix e (map view_postfix ys))) (after_parts a (part_of a e) (map view_postfix ys)) q old old new (parts_judged a e ys old)
    (stands_on (after_parts a (part_of a e) (map view_postfix ys)) (after_parts a p (map view_postfix ys)) q old mid new (parts_stand a (part_of a e) p (map view_postfix ys) old mid s) u)

-- the same of an expression in memory, with the subject that it is read as
pub infix_result : {E : Type 0} (a : Around) (t e : Tree) (ts : List Tree) (p : Part) (r : Result Subject E) (old mid new : State) → t ≡ operands e ts → Stands (part_of a e) p old mid → IfOk r (λ x. Stands (after_operands a p ts) (rest a x) mid new) → IfOk r (λ x. Stands (part_of a t) (rest a x) old new)
infix_result a t e ts p r old mid new is s u =
    if_ok r (λ x. Stands (after_operands a p ts) (rest a x) mid new) (λ x. Stands (part_of a t) (rest a x) old new)
    (λ x v. subst (λ (w : Tree). Stands (part_of a w) (rest a x) old new) (sym is) (infix_stands a e ts p (rest a x) old mid new s v)) u

pub postfix_result : {E : Type 0} (a : Around) (t e : Tree) (ys : List Postfix) (p : Part) (r : Result Subject E) (old mid new : State) → t ≡ postfix e (map view_postfix ys) → Stands (part_of a e) p old mid → IfOk r (λ x. Stands (after_parts a p (map view_postfix ys)) (rest a x) mid new) → IfOk r (λ x. Stands (part_of a t) (rest a x) old new)
postfix_result a t e ys p r old mid new is s u =
    if_ok r (λ x. Stands (after_parts a p (map view_postfix ys)) (rest a x) mid new) (λ x. Stands (part_of a t) (rest a x) old new)
    (λ x v. subst (λ (w : Tree). Stands (part_of a w) (rest a x) old new) (sym is) (postfix_stands a e ys p (rest a x) old mid new s v)) u

pub same_result : {E : Type 0} (a : Around) (t e : Tree) (r : Result Subject E) (old new : State) → t ≡ e → IfOk r (λ x. Stands (part_of a e) (rest a x) old new) → IfOk r (λ x. Stands (part_of a t) (rest a x) old new)
same_result a t e r old new is u =
    if_ok r (λ x. Stands (part_of a e) (rest a x) old new) (λ x. Stands (part_of a t) (rest a x) old new)
    (λ x v. subst (λ (w : Tree). Stands (part_of a w) (rest a x) old new) (sym is) v) u

pub prefix_some : (a : Around) (ms : List Prefix) (e : Tree) (v : Shaped) (old new : State) → 0 < length ms → Gives (part_of a e).thing old v new → Stands (part_of a (prefixes ms e)) (uncalled a (head.Value (alone (plain_unless v.kinds.unknown)))) old new
prefix_some a [] e v old new h g = absurd (omega arith)
prefix_some a (m ∷ ms) e v old new h g = prefix_stands a m ms e v old new g

pub operand_as : (a : Around) (p q : Part) (t u : Tree) (old new : State) → t ≡ u → Stands (after_operand a p u) q old new → Stands (after_operand a p t) q old new
operand_as a p q t u old new is s = subst (λ (w : Tree). Stands (after_operand a p w) q old new) (sym is) s

pub no_pipe : (k : InfixOperator) → (k ≡ infix_operator.Pipe → ⊥) → IsNoPipe k
no_pipe infix_operator.Pipe h = h refl
no_pipe _ h = tt
