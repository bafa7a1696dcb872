-- What is broken by parts after an expression.
use Rattle.std.proofs.Common.{◌≡◌, ℕ, Bool, true, false, List, [], ◌∷◌, ◌++◌, map, refl, sym, ap, ◌∙◌}
use Rattle.std.specs.Prelude.{if◌then◌else◌}
use Rattle.std.proofs.lemmas.Bool.{false≢true}
use Rattle.std.proofs.lemmas.List.{append_assoc, append-nil}
use Rattle.nf_ast.specs.Tree as tree
use Rattle.nf_ast.specs.Tree.{Tree}
use Rattle.nf_ast.specs.declared.expr.Postfix.{Postfix}
use Rattle.nf_ast.specs.declared.expr.ClosureBody.TheOpen as o
use Rattle.nf_ast.specs.View.{applied, postfix, trees, view_postfix, postfix_step}
use Rattle.nf_placed.specs.Body.{name_in}
use Rattle.nf_slips.specs.Forms.{FormTree, name, extreme, row, other, form_of, of_two, member_form, pair_form, called_form}
use Rattle.nf_slips.specs.Slips.{slips, read_of, part_slips_of, parts_slips}
use Rattle.nf_slips.proofs.Layers.{Layer, of_part}

-- ---- only a name is read as `task`

abbrev is_named : FormTree → Bool
is_named (name p n) = true
is_named f = false

read_unnamed : (f : FormTree) (n : List ℕ) → is_named f ≡ false → read_of f n ≡ []
read_unnamed (name p m) n h = absurd (false≢true (sym h))
read_unnamed _ n h = refl

part_plain : (f : FormTree) (w : Tree) → is_named f ≡ false → part_slips_of f w ≡ part_slips_of other w
part_plain f (tree.property x n) h = read_unnamed f (name_in n) h
part_plain f (tree.safe_property x n) h = read_unnamed f (name_in n) h
part_plain f _ h = refl

chain_plain : (f : FormTree) (ws : List Tree) → is_named f ≡ false → parts_slips f ws ≡ parts_slips other ws
chain_plain f [] h = refl
chain_plain f (w ∷ ws) h = ap (λ v. v ++ parts_slips other ws) (part_plain f w h)

-- ---- no expression with parts is a name

either_unnamed : (b : Bool) → is_named (if b then extreme else other) ≡ false
either_unnamed true = refl
either_unnamed false = refl

member_unnamed : (f : FormTree) (n : List ℕ) → is_named (member_form f n) ≡ false
member_unnamed (name p m) n = either_unnamed _
member_unnamed _ n = refl

two_unnamed : (x y : FormTree) → is_named (of_two true x y) ≡ false
two_unnamed (name p m) (name q n) = refl
two_unnamed (name p m) _ = refl
two_unnamed _ y = refl

pair_unnamed : (xs : FormTree) → is_named (pair_form xs) ≡ false
pair_unnamed (row x (row y other)) = two_unnamed x y
pair_unnamed (row x (row y _)) = refl
pair_unnamed (row x _) = refl
pair_unnamed _ = refl

called_unnamed : (f xs : FormTree) → is_named (called_form f xs) ≡ false
called_unnamed extreme xs = pair_unnamed xs
called_unnamed _ xs = refl

unnamed : (e : Tree) (z : Layer) → is_named (form_of (applied e (postfix_step z))) ≡ false
unnamed e (o.Property p n) = member_unnamed (form_of e) n
unnamed e (o.SafeProperty p n) = refl
unnamed e (o.Index p i) = refl
unnamed e (o.Call p xs) = called_unnamed (form_of e) (form_of (trees xs.items))
unnamed e (o.With c) = refl

-- ---- the whole list

one_part : (e : Tree) (z : Layer) → slips (applied e (postfix_step z)) ≡ slips e ++ part_slips_of (form_of e) (postfix_step z)
one_part e (o.Property p n) = refl
one_part e (o.SafeProperty p n) = refl
one_part e (o.Index p i) = refl
one_part e (o.Call p xs) = refl
one_part e (o.With c) = refl

pub parts_broken : (e : Tree) (ys : List Postfix) → slips (postfix e (map view_postfix ys)) ≡ slips e ++ parts_slips (form_of e) (map view_postfix ys)
parts_broken e [] = sym (append-nil (slips e))
parts_broken e (y ∷ ys) =
    let v = view_postfix y in
    let ws = map view_postfix ys in
    let f = applied e v in
    parts_broken f ys
    ∙ ap (λ us. slips f ++ us) (chain_plain (form_of f) ws (of_part (λ w. is_named (form_of (applied e w)) ≡ false) (unnamed e) y))
    ∙ ap (λ us. us ++ parts_slips other ws) (of_part (λ w. slips (applied e w) ≡ slips e ++ part_slips_of (form_of e) w) (one_part e) y)
    ∙ append_assoc (slips e) (part_slips_of (form_of e) v) (parts_slips other ws)
