-- The definitions of a tree whose names are words have names without a colon.
use Rattle.std.proofs.Common.{◌≡◌, ℕ, ◌==◌, List, [], ◌∷◌, Bool, true, false, not, refl, ap, sym, ◌∙◌, inl, inr}
use Rattle.std.specs.List.{list_all}
use Rattle.std.proofs.lemmas.Bool.{and_from, and_parts, true≢false}
use Rattle.std.proofs.lemmas.Bool.Decides.{eqb_tells}
use Rattle.nf_value.specs.declared.place.Place.{Place}
use Rattle.nf_token.specs.declared.token.Lexeme.{Lexeme}
use Rattle.nf_lexer.specs.Bytes.{begins_name, is_in_name}
use Rattle.nf_lexer.specs.Tokens.{IsTokensOf}
use Rattle.nf_ast.specs.Tree.{Tree}
use Rattle.nf_exprs.specs.Level as level
use Rattle.nf_parser.specs.Spells.{Whole}
use Rattle.nf_placed.specs.Body.{name_in}
use Rattle.nf_meaning.specs.Given.{Definitions}
use Rattle.nf_meaning.specs.CallPaths.{NamesArePlain, is_plain_name}
use Rattle.nf_meaning.specs.Script.{and_definition, definitions_of}
use Rattle.fmt_tokens.specs.Fits.{Fits, is_word}
use Rattle.fmt_trees.specs.Shape.{Shaped}
use Rattle.fmt_trees.specs.Shape as shape
use Rattle.fmt_spellable.proofs.Lexed.{lexed_are_fit}
use Rattle.fmt_spellable.proofs.Whole.{spelled_is_made}

-- a byte that a test takes, which takes no colon
no_colon : (test : ℕ → Bool) → test 58 ≡ false → (b : ℕ) → test b ≡ true → not (b == 58) ≡ true
no_colon test never b h = elim (eqb_tells b 58) [
  | inl e ↦ absurd (true≢false (sym h ∙ ap test e.1 ∙ never))
  | inr n ↦ ap not n.0
]

plain_rest : (w : List ℕ) → list_all is_in_name w ≡ true → is_plain_name w ≡ true
plain_rest [] h = refl
plain_rest (b ∷ w) h =
    let hs = and_parts (is_in_name b) (list_all is_in_name w) h in
    and_from (not (b == 58)) (is_plain_name w) (no_colon is_in_name refl b hs.0) (plain_rest w hs.1)

plain_word : (w : List ℕ) → is_word w ≡ true → is_plain_name w ≡ true
plain_word [] h = absurd (true≢false (sym h))
plain_word (b ∷ w) h =
    let hs = and_parts (begins_name b) (list_all is_in_name w) h in
    and_from (not (b == 58)) (is_plain_name w) (no_colon begins_name refl b hs.0) (plain_rest w hs.1)

plain_name : (n : Tree) → Shaped shape.a_name n → Fits n → is_plain_name (name_in n) ≡ true
plain_name n (shape.named {p = p} {s = s}) f = plain_word s f.word

and_process : (x : Tree) (d : Definitions) → Shaped shape.top x → Fits x → list_all (λ b. is_plain_name b.0) d.processes ≡ true
    → list_all (λ b. is_plain_name b.0) (and_definition x d).processes ≡ true
and_process x d (shape.a_process {n = n} s ds xs ys t u) f h = and_from (is_plain_name (name_in n)) (list_all (λ b. is_plain_name b.0) d.processes) (plain_name n s f.0) h
and_process x d (shape.a_workflow shape.absent b) f h = h
and_process x d (shape.a_workflow (shape.present shape.named) b) f h = h
and_process x d (shape.a_function n ps b) f h = h
and_process x d (shape.a_parameter n e) f h = h
and_process x d (shape.a_println e) f h = h
and_process x d (shape.a_log n e) f h = h
and_process x d shape.a_dsl f h = h

and_workflow : (x : Tree) (d : Definitions) → Shaped shape.top x → Fits x → list_all (λ b. is_plain_name b.0) d.workflows ≡ true
    → list_all (λ b. is_plain_name b.0) (and_definition x d).workflows ≡ true
and_workflow x d (shape.a_process s ds xs ys t u) f h = h
and_workflow x d (shape.a_workflow shape.absent b) f h = h
and_workflow x d (shape.a_workflow (shape.present (shape.named {s = w})) b) f h = and_from (is_plain_name w) (list_all (λ b. is_plain_name b.0) d.workflows) (plain_word w f.0.word) h
and_workflow x d (shape.a_function n ps b) f h = h
and_workflow x d (shape.a_parameter n e) f h = h
and_workflow x d (shape.a_println e) f h = h
and_workflow x d (shape.a_log n e) f h = h
and_workflow x d shape.a_dsl f h = h

plain_tops : (t : Tree) → Shaped (shape.row shape.top) t → Fits t → NamesArePlain (definitions_of t)
plain_tops t shape.no_more f = record { processes = refl; workflows = refl }
plain_tops t (shape.one_more {x = x} {xs = xs} s more) f =
    let rest = plain_tops xs more f.1 in
    record {
      processes = and_process x (definitions_of xs) s f.0 rest.processes;
      workflows = and_workflow x (definitions_of xs) s f.0 rest.workflows;
    }

pub spelled_plain : (text : List ℕ) (tokens : List Lexeme × Place) (tree : Tree) → IsTokensOf text tokens → Whole tokens.0 tree → NamesArePlain (definitions_of tree)
spelled_plain text tokens tree lexed whole =
    let made = spelled_is_made level.Script tokens.0 tree [] whole (lexed_are_fit text tokens lexed) in
    plain_tops tree made.shaped made.fits
