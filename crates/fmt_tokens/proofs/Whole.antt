-- The tokens of the canonical text of a script are those of its inks.
use Rattle.std.proofs.Common.{◌≡◌, ℕ, true, false, List, [], ◌∷◌, ◌++◌, None, refl, sym, ap, ◌∙◌, subst, arith}
use Rattle.std.specs.Prelude.{not, ◌==◌, map, nat_eq, codes}
use Rattle.std.specs.List.{starts_with}
use Rattle.std.proofs.lemmas.Bool.Decides.{nat_tests}
use Rattle.std.proofs.lemmas.List.{append-nil}
use Rattle.nf_token.specs.declared.token.Lexeme.{Lexeme}
use Rattle.nf_lexer.specs.First.{first}
use Rattle.nf_lexer.specs.Joined.{nothing, joined}
use Rattle.nf_lexer.specs.Separators.{settled}
use Rattle.nf_lexer.specs.Tokens.{Reads, ends, at_start}
use Rattle.nf_ast.specs.Tree as tree
use Rattle.nf_ast.specs.Tree.{Tree}
use Rattle.nf_writer.specs.Ink.{Ink, inked}
use Rattle.nf_printer.specs.Tops.{script, canonical}
use Rattle.fmt_tokens.specs.Leads.{Leads}
use Rattle.fmt_tokens.specs.Lexed.{IsLexed}
use Rattle.fmt_tokens.specs.Bits.{token_of}
use Rattle.fmt_tokens.specs.InkTokens as r
use Rattle.fmt_tokens.specs.InkTokens.{ink_tokens}
use Rattle.fmt_tokens.specs.Fits.{Fits}
use Rattle.fmt_tokens.proofs.Tests.{if_false}
use Rattle.fmt_tokens.proofs.Written.{no_front}
use Rattle.fmt_tokens.proofs.Fronts.{leads_reads}
use Rattle.fmt_tokens.proofs.InkLists.{Told}
use Rattle.fmt_tokens.proofs.Stands.{Ends}
use Rattle.fmt_tokens.proofs.Begins.{is_never_first}
use Rattle.fmt_tokens.proofs.Scripts.{script_reads, script_fronts}
use Rattle.fmt_tokens.proofs.Settling.{settled_bits}

-- ---- where a text begins

no_hash : (b : ℕ) → not (is_never_first b) ≡ true → (b == 35) ≡ false
no_hash b h = grind (arith, nat_tests)

no_comment : (text : List ℕ) → Ends is_never_first text → at_start text ≡ []
unfolding at_start
no_comment [] h = refl
no_comment (b ∷ bs) h = if_false (starts_with nat_eq (b ∷ bs) (codes "#!")) _ _ (no_front b 35 bs (33 ∷ []) (no_hash b h))

begun : (xs : Tree) → Fits xs → at_start (canonical xs) ≡ []
begun (tree.cons x xs) f = no_comment (canonical (tree.cons x xs)) (subst (Ends is_never_first) (append-nil (canonical (tree.cons x xs))) ((script_fronts x xs f.0).fronts []))
begun _ f = no_comment [] refl

-- ---- the whole

at_end : (text : List ℕ) → Reads text [] [] [] None
unfolding first
at_end text = ends refl

told_reads : (text : List ℕ) (xs : List Ink) → (a : Told text [] [] xs []) → inked xs ≡ text → at_start text ≡ [] → Reads text (at_start text) text (a.items ++ []) None
told_reads text xs a e b =
    let whole : Leads text [] text a.items [] [] = subst (λ z. Leads text [] z a.items [] []) (append-nil (inked xs) ∙ e) a.leads in
    subst (λ z. Reads text z text (a.items ++ []) None) (sym b) (leads_reads whole (at_end text))

told_tokens : (text : List ℕ) (xs : List Ink) → (a : Told text [] [] xs []) → map token_of (settled [] (joined nothing (a.items ++ []))) ≡ ink_tokens xs
told_tokens text xs a =
    ap (λ z. map token_of (settled [] z)) (a.gives.joins [] ∙ append-nil a.gives.segments)
    ∙ settled_bits a.gives.segments []
    ∙ ap (λ z. r.settled [] z) a.gives.are

-- the canonical text of a script that fits has the tokens of its inks, however long it is
pub canonical_tokens : (xs : Tree) → Fits xs → (ts : List Lexeme) × IsLexed (canonical xs) ts × (map token_of ts ≡ ink_tokens (script xs))
canonical_tokens xs f =
    let told : Told (canonical xs) [] [] (script xs) [] = (script_reads xs f).told (canonical xs) [] [] (record { stand = record { code = refl; quiet = λ n. refl }; ends = refl }) refl in (
      settled [] (joined nothing (told.items ++ [])),
      record {
        items = told.items ++ [];
        reads = told_reads (canonical xs) (script xs) told refl (begun xs f);
        tokens = refl;
      },
      told_tokens (canonical xs) (script xs) told,
    )
