-- The text of the parts after an expression: from the list in memory to the tree.
use Rattle.std.proofs.Common.{◌≡◌, ℕ, Bool, true, false, List, [], ◌∷◌, ◌++◌, map, refl, sym, ap, ◌∙◌, subst}
use Rattle.std.specs.Prelude.{◌&&◌, ◌||◌, not, codes, nat_lt, if◌then◌else◌}
use Rattle.std.proofs.lemmas.List.{append_assoc, append-nil}
use Rattle.nf_ast.specs.Tree.{Tree}
use Rattle.nf_ast.specs.declared.expr.Postfix.{Postfix}
use Rattle.nf_ast.specs.declared.expr.ClosureBody.TheOpen as o
use Rattle.nf_ast.specs.declared.expr.ClosureBody.TheOpen.{Postfix-F}
use Rattle.nf_ast.specs.declared.expr.ClosureBody.TheFolds.{fold_out-Postfix}
use Rattle.nf_ast.specs.View.{BranchTree, ArmTree, applied, postfix, view_postfix, body_step, expr_step, piece_step, postfix_step, stmt_step, arg_step, arm_step, branch_step, closure_step, label_step, operand_step, pair_step}
use Rattle.nf_printer.specs.Levels.{level, postfix_level, needs, within, prints, is_name, begins_round}
use Rattle.nf_writer.specs.Lines.{Layout}
use Rattle.nf_printer.specs.Bodies.{is_expr}
use Rattle.nf_printer.specs.Exprs.{inks}
use Rattle.nf_printer.specs.Chains.{is_nil, part_inks, parts_inks}
use Rattle.nf_printer.specs.Leading.{is_property, is_opening, begins_property, after_first, next_begins}
use Rattle.nf_printer.proofs.Lists.{and_true, and_false}

-- a part with the trees of what is in it
abbrev Layer : Type 0
Layer = Postfix-F Tree Tree Tree Tree Tree Tree ArmTree BranchTree Tree Tree Tree Tree

of_part : (P : Tree → Type 0) → ((z : Layer) → P (postfix_step z)) → (y : Postfix) → P (view_postfix y)
of_part P h y =
    subst P (sym (fold_out-Postfix Tree Tree Tree Tree Tree Tree ArmTree BranchTree Tree Tree Tree Tree body_step expr_step piece_step postfix_step stmt_step arg_step arm_step branch_step closure_step label_step operand_step pair_step y)) (h _)

-- ---- one part

one_level : (e : Tree) (z : Layer) → level (applied e (postfix_step z)) ≡ postfix_level
one_level e (o.Property p n) = refl
one_level e (o.SafeProperty p n) = refl
one_level e (o.Index p i) = refl
one_level e (o.Call p xs) = refl
one_level e (o.With c) = refl

one_text : (l : Layout) (g : Bool) (e : Tree) (z : Layer) → inks (applied e (postfix_step z)) l g ≡ within (needs postfix_level e) (inks e l (g && not (needs postfix_level e))) ++ part_inks (postfix_step z) l
one_text l g e (o.Property p n) = refl
one_text l g e (o.SafeProperty p n) = refl
one_text l g e (o.Index p i) = refl
one_text l g e (o.Call p xs) = refl
one_text l g e (o.With c) = refl

-- what one more part begins with, before a token
abbrev pub part_prints : Tree → Tree → Bool → Bool
part_prints e x next = not (needs postfix_level e) && (if is_property x && is_name (codes "log") e then next else prints e (is_opening x))

one_prints : (next : Bool) (e : Tree) (z : Layer) → prints (applied e (postfix_step z)) next ≡ part_prints e (postfix_step z) next
one_prints next e (o.Property p n) = refl
one_prints next e (o.SafeProperty p n) = refl
one_prints next e (o.Index p i) = refl
one_prints next e (o.Call p xs) = refl
one_prints next e (o.With c) = refl

one_begins : (e : Tree) (z : Layer) → begins_round (applied e (postfix_step z)) ≡ needs postfix_level e || begins_round e
one_begins e (o.Property p n) = refl
one_begins e (o.SafeProperty p n) = refl
one_begins e (o.Index p i) = refl
one_begins e (o.Call p xs) = refl
one_begins e (o.With c) = refl

one_name : (w : List ℕ) (e : Tree) (z : Layer) → is_name w (applied e (postfix_step z)) ≡ false
one_name w e (o.Property p n) = refl
one_name w e (o.SafeProperty p n) = refl
one_name w e (o.Index p i) = refl
one_name w e (o.Call p xs) = refl
one_name w e (o.With c) = refl

one_expr : (e : Tree) (z : Layer) → is_expr (applied e (postfix_step z)) ≡ true
one_expr e (o.Property p n) = refl
one_expr e (o.SafeProperty p n) = refl
one_expr e (o.Index p i) = refl
one_expr e (o.Call p xs) = refl
one_expr e (o.With c) = refl

-- ---- the same of a part in memory

module _ (e : Tree) (y : Postfix) where
  level_of : level (applied e (view_postfix y)) ≡ postfix_level
  level_of = of_part (λ v. level (applied e v) ≡ postfix_level) (one_level e) y

  bound : needs postfix_level (applied e (view_postfix y)) ≡ false
  bound = ap (λ n. nat_lt n postfix_level) level_of

  text_of : (l : Layout) (g : Bool) → inks (applied e (view_postfix y)) l g ≡ within (needs postfix_level e) (inks e l (g && not (needs postfix_level e))) ++ part_inks (view_postfix y) l
  text_of l g = of_part (λ v. inks (applied e v) l g ≡ within (needs postfix_level e) (inks e l (g && not (needs postfix_level e))) ++ part_inks v l) (one_text l g e) y

  prints_of : (next : Bool) → prints (applied e (view_postfix y)) next ≡ part_prints e (view_postfix y) next
  prints_of next = of_part (λ v. prints (applied e v) next ≡ part_prints e v next) (one_prints next e) y

  begins_of : begins_round (applied e (view_postfix y)) ≡ needs postfix_level e || begins_round e
  begins_of = of_part (λ v. begins_round (applied e v) ≡ needs postfix_level e || begins_round e) (one_begins e) y

  name_of : (w : List ℕ) → is_name w (applied e (view_postfix y)) ≡ false
  name_of w = of_part (λ v. is_name w (applied e v) ≡ false) (one_name w e) y

-- ---- several parts

rest_text : (ys : List Postfix) (e : Tree) (l : Layout) (g : Bool) → needs postfix_level e ≡ false → inks (postfix e (map view_postfix ys)) l g ≡ inks e l g ++ parts_inks (map view_postfix ys) l
rest_text [] e l g h = sym (append-nil (inks e l g))
rest_text (y ∷ ys) e l g h =
    let v = view_postfix y in
    let bare : within (needs postfix_level e) (inks e l (g && not (needs postfix_level e))) ≡ inks e l g = ap (λ b. within b (inks e l (g && not b))) h ∙ ap (inks e l) (and_true g) in
    rest_text ys (applied e v) l g (bound e y) ∙ ap (λ x. x ++ parts_inks (map view_postfix ys) l) (text_of e y l g ∙ ap (λ x. x ++ part_inks v l) bare) ∙ append_assoc (inks e l g) (part_inks v l) (parts_inks (map view_postfix ys) l)

-- an expression before parts
abbrev pub held : List Postfix → Tree → Bool
held ys e = not (is_nil (map view_postfix ys)) && needs postfix_level e

pub parts_text : (ys : List Postfix) (e : Tree) (l : Layout) (g : Bool) → inks (postfix e (map view_postfix ys)) l g ≡ within (held ys e) (inks e l (g && not (held ys e))) ++ parts_inks (map view_postfix ys) l
parts_text [] e l g = sym (append-nil (inks e l (g && true)) ∙ ap (inks e l) (and_true g))
parts_text (y ∷ ys) e l g =
    let v = view_postfix y in
    rest_text ys (applied e v) l g (bound e y) ∙ ap (λ x. x ++ parts_inks (map view_postfix ys) l) (text_of e y l g) ∙ append_assoc (within (needs postfix_level e) (inks e l (g && not (needs postfix_level e)))) (part_inks v l) (parts_inks (map view_postfix ys) l)

-- the level of an expression with parts after it, and what it begins with
some_level : (e : Tree) (y : Postfix) (ys : List Postfix) → level (postfix e (map view_postfix (y ∷ ys))) ≡ postfix_level
some_level e y [] = level_of e y
some_level e y (z ∷ zs) = some_level (applied e (view_postfix y)) z zs

pub parts_level : (e : Tree) (ys : List Postfix) → level (postfix e (map view_postfix ys)) ≡ (if is_nil (map view_postfix ys) then level e else postfix_level)
parts_level e [] = refl
parts_level e (y ∷ ys) = some_level e y ys

some_name : (w : List ℕ) (e : Tree) (y : Postfix) (ys : List Postfix) → is_name w (postfix e (map view_postfix (y ∷ ys))) ≡ false
some_name w e y [] = name_of e y w
some_name w e y (z ∷ zs) = some_name w (applied e (view_postfix y)) z zs

pub parts_name : (w : List ℕ) (e : Tree) (ys : List Postfix) → is_name w (postfix e (map view_postfix ys)) ≡ is_nil (map view_postfix ys) && is_name w e
parts_name w e [] = refl
parts_name w e (y ∷ ys) = some_name w e y ys

some_begin : (e : Tree) (y : Postfix) (ys : List Postfix) → begins_round (postfix e (map view_postfix (y ∷ ys))) ≡ needs postfix_level e || begins_round e
some_begin e y [] = begins_of e y
some_begin e y (z ∷ zs) =
    let x = applied e (view_postfix y) in
    some_begin x z zs ∙ ap (λ b. b || begins_round x) (bound e y) ∙ begins_of e y

pub parts_begin : (e : Tree) (ys : List Postfix) → begins_round (postfix e (map view_postfix ys)) ≡ (not (is_nil (map view_postfix ys)) && needs postfix_level e) || begins_round e
parts_begin e [] = refl
parts_begin e (y ∷ ys) = some_begin e y ys

later : (x v : Tree) (next other : Bool) → needs postfix_level x ≡ false → is_name (codes "log") x ≡ false → not (needs postfix_level x) && (if is_property v && is_name (codes "log") x then other else prints x next) ≡ prints x next
later x v next other h k = ap (λ b. not b && (if is_property v && is_name (codes "log") x then other else prints x next)) h ∙ ap (λ b. if is_property v && b then other else prints x next) k ∙ ap (λ b. if b then other else prints x next) (and_false (is_property v))

-- with a first part, before a token
abbrev pub prints_with : Tree → List Tree → Bool → Bool
prints_with e xs next = not (needs postfix_level e) && (if begins_property xs && is_name (codes "log") e then next_begins (after_first xs) next else prints e (next_begins xs false))

some_print : (e : Tree) (y : Postfix) (ys : List Postfix) (next : Bool) → prints (postfix e (map view_postfix (y ∷ ys))) next ≡ prints_with e (map view_postfix (y ∷ ys)) next
some_print e y [] next = prints_of e y next
some_print e y (z ∷ zs) next =
    let x = applied e (view_postfix y) in
    let v = view_postfix z in
    some_print x z zs next ∙ later x v (is_opening v) (next_begins (map view_postfix zs) next) (bound e y) (name_of e y (codes "log")) ∙ prints_of e y (is_opening v)

pub parts_print : (e : Tree) (ys : List Postfix) (next : Bool) → prints (postfix e (map view_postfix ys)) next ≡ (if is_nil (map view_postfix ys) then prints e next else prints_with e (map view_postfix ys) next)
parts_print e [] next = refl
parts_print e (y ∷ ys) next = some_print e y ys next

pub parts_expr : (e : Tree) (ys : List Postfix) → is_expr e ≡ true → is_expr (postfix e (map view_postfix ys)) ≡ true
parts_expr e [] h = h
parts_expr e (y ∷ ys) h = parts_expr (applied e (view_postfix y)) ys (of_part (λ v. is_expr (applied e v) ≡ true) (one_expr e) y)
