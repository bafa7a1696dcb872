-- The tokens of the canonical text of a script spell the script, places aside.
use Rattle.std.proofs.Common.{◌≡◌, List, [], ◌∷◌, map, refl, sym, subst, ap, ◌∙◌}
use Rattle.nf_token.specs.declared.token.Lexeme.{Lexeme}
use Rattle.nf_grammar.specs.Gram.{rule}
use Rattle.nf_grammar.specs.Reads.{Reads}
use Rattle.nf_ast.specs.Tree.{Tree}
use Rattle.nf_exprs.specs.Level.{Script}
use Rattle.nf_exprs.specs.Rules.{rules}
use Rattle.nf_printer.specs.Tops.{script}
use Rattle.fmt_tokens.specs.Bits.{token_of}
use Rattle.fmt_tokens.specs.InkTokens.{ink_tokens}
use Rattle.fmt_trees.specs.Bare.{bare}
use Rattle.fmt_trees.specs.Shape as sort
use Rattle.fmt_trees.specs.Shape.{Shaped}
use Rattle.fmt_trees.specs.Again.{SpellsAgain}
use Rattle.fmt_trees.proofs.TreeTokens.{lx}
use Rattle.fmt_trees.proofs.Tops.{script_read}
use Rattle.fmt_trees.proofs.Readable.{holds}
use Rattle.fmt_trees.proofs.SettledTops.{script_told}
use Rattle.fmt_trees.proofs.SettledTrees.{settles}
use Rattle.fmt_trees.proofs.Erasing.{erased, Placed, placed, er_rule}
use Rattle.fmt_trees.proofs.Placeless.{er_rules}

-- the tokens without places spell the tree without places
read_nowhere : {xs : Tree} → Shaped (sort.row sort.top) xs → Reads rules (rule Script) (map lx (ink_tokens (script xs))) (bare xs) []
read_nowhere {xs} h = subst (λ ts. Reads rules (rule Script) ts (bare xs) []) (sym (script_told (settles h))) (script_read h (holds h))

erased_tokens : (ts : List Lexeme) → erased ts ≡ map lx (map token_of ts)
erased_tokens [] = refl
erased_tokens (x ∷ ts) = ap (λ us. lx x.token ∷ us) (erased_tokens ts)

nothing_left : (ts : List Lexeme) → erased ts ≡ [] → ts ≡ []
nothing_left [] e = refl
nothing_left (x ∷ ts) e = absurd (let f : lx x.token ∷ erased ts ≡ [] = e in cc)

whole_again : {ts : List Lexeme} {xs : Tree} → Placed (rule Script) ts (bare xs) [] → SpellsAgain ts xs
whole_again {ts} p = record { tree = p.value; reads = subst (λ r. Reads rules (rule Script) ts p.value r) (nothing_left p.left p.after) p.reads; same = p.same }

pub spells_again : {xs : Tree} → Shaped (sort.row sort.top) xs → (ts : List Lexeme) → map token_of ts ≡ ink_tokens (script xs) → SpellsAgain ts xs
spells_again h ts e = whole_again (placed er_rules (read_nowhere h) (er_rule refl) ts (erased_tokens ts ∙ ap (map lx) e))
