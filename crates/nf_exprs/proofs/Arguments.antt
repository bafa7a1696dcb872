-- Arguments.
use Rattle.std.proofs.Common.{◌≡◌, ℕ, suc, ◌≤◌, Bool, true, false, List, [], ◌∷◌, length, refl, subst, arith, ap}
use Rattle.std.specs.Prelude.{not, ◌&&◌}
use Rattle.nf_value.specs.declared.place.Place.{Place}
use Rattle.nf_token.specs.declared.token.Mark.TheVariants as m
use Rattle.nf_token.specs.declared.token.Token.{Token}
use Rattle.nf_token.specs.declared.token.Token.TheVariants as t
use Rattle.nf_token.specs.declared.token.Lexeme.{Lexeme}
use Rattle.nf_grammar.specs.Gram.{rule, gives, only_where, ◌>>=◌}
use Rattle.nf_grammar.specs.Parts.{no_next}
use Rattle.nf_grammar.specs.Outcome.{Out, got, unexpected}
use Rattle.nf_grammar.proofs.Outcomes.{either_right_got, where_yes, stands_reaches}
use Rattle.nf_grammar.proofs.Short.{at, ret, takes, seq, seq_far, off, ruled, stop, maybe_not, maybe_is, IsStop}
use Rattle.nf_grammar.specs.Reads.{stands_first}
use Rattle.nf_ast.specs.Tree as tree
use Rattle.nf_ast.specs.Tree.{Tree, empty}
use Rattle.nf_exprs.specs.Level.{Expr, Args, Arg}
use Rattle.nf_exprs.specs.Tokens.{name_of, colon, is_next, after, labels, no_start}
use Rattle.nf_exprs.specs.Rules.{rules, kind, mark, listed, no_comma, with_name}
use Rattle.nf_exprs.specs.Parses.{Outcome, TakesTwo}
use Rattle.nf_exprs.proofs.Are.{lexeme}
use Rattle.nf_exprs.proofs.Rows.{expr_misses, nothing_starts}
use Rattle.nf_exprs.proofs.Parameters.{two_labels}
use Rattle.nf_exprs.proofs.Whole.{name_stands}

pub args_not : (d : ℕ) (us : List Lexeme) (o : Out Lexeme Tree) → IsStop o → Outcome (rule (Arg d)) us o → Outcome (rule (Args d)) us o
unfolding rules
args_not d us o s p = ruled (stop o s p)

pub args_end : (d : ℕ) (us : List Lexeme) (o : Out Lexeme Tree) → Outcome (listed no_comma (rule (Arg d))) us o → Outcome (rule (Args d)) us o
unfolding rules
args_end d us o p = ruled p

-- ---- an argument

-- with its name
named_then : (d : ℕ) (ts us : List Lexeme) (v : Tree) (o : Out Lexeme Tree) → TakesTwo name_of colon ts v us → Outcome (rule (Expr d 0) >>= λ x. gives (with_name v x)) us o → Outcome (rule (Arg d)) ts o
unfolding rules
named_then d ts us v o e p =
    let is = two_labels ts us v e in
    let off_here : not (labels (e.0 ∷ e.1 ∷ us)) ≡ false = ap not (subst (λ l. labels l ≡ true) e.5 is) in
    at e.5 (ruled (seq (maybe_is off_here (seq (takes refl e.3) (seq (takes refl e.4) ret))) p))

pub arg_named : (d : ℕ) (ts us : List Lexeme) (p : Place) (n : List ℕ) (v : Tree) (rest : List Lexeme) → TakesTwo name_of colon ts (tree.name p n) us → Outcome (rule (Expr d 0)) us (got v rest (length rest)) → Outcome (rule (Arg d)) ts (got (tree.named (tree.name p n) v) rest (length rest))
arg_named d ts us p n v rest e q = named_then d ts us (tree.name p n) (got (tree.named (tree.name p n) v) rest (length rest)) e (seq q ret)

pub arg_named_stop : (d : ℕ) (ts us : List Lexeme) (v : Tree) (o : Out Lexeme Tree) → TakesTwo name_of colon ts v us → IsStop o → Outcome (rule (Expr d 0)) us o → Outcome (rule (Arg d)) ts o
arg_named_stop d ts us v o e s q = named_then d ts us v o e (stop o s q)

-- without one
not_there : (b : Bool) → not b ≡ false → b ≡ true
not_there true e = refl
not_there false e = absurd cc

bare_at : (d : ℕ) (x : Token) (p : Place) (us : List Lexeme) (o : Out Lexeme Tree) → labels (lexeme x p ∷ us) ≡ false → Outcome (rule (Expr d 0) >>= λ v. gives (with_name empty v)) (lexeme x p ∷ us) o → Outcome (rule (Arg d)) (lexeme x p ∷ us) o
unfolding rules
bare_at d (t.Name n) p us o e q =
    let ts : List Lexeme = lexeme (t.Name n) p ∷ us in
    let no_colon : no_next colon us ≡ true = not_there (no_next colon us) e in
    let le : length us ≤ suc (length us) = omega arith in
    ruled (seq_far (either_right_got (kind name_of >>= λ k. mark m.Colon >>= λ c. gives k) (only_where (λ l. not (labels l)) (gives empty)) ts empty ts (suc (length us)) (length us) (seq (takes refl refl) (off no_colon)) (where_yes (λ l. not (labels l)) (gives empty) ts (got empty ts (suc (length us))) (ap not e) ret) le) q (stands_reaches (rule (Expr d 0) >>= λ v. gives (with_name empty v)) ts us o (stands_first (name_stands d 0 n p us)) q))
bare_at d (t.Keyword w) p us o e q = ruled (seq (maybe_not refl (off refl)) q)
bare_at d (t.Number w) p us o e q = ruled (seq (maybe_not refl (off refl)) q)
bare_at d (t.Plain w z) p us o e q = ruled (seq (maybe_not refl (off refl)) q)
bare_at d (t.Pattern z) p us o e q = ruled (seq (maybe_not refl (off refl)) q)
bare_at d (t.OpenTemplate w) p us o e q = ruled (seq (maybe_not refl (off refl)) q)
bare_at d (t.TemplateText z) p us o e q = ruled (seq (maybe_not refl (off refl)) q)
bare_at d t.OpenHole p us o e q = ruled (seq (maybe_not refl (off refl)) q)
bare_at d t.CloseHole p us o e q = ruled (seq (maybe_not refl (off refl)) q)
bare_at d (t.CloseTemplate w) p us o e q = ruled (seq (maybe_not refl (off refl)) q)
bare_at d (t.Mark w) p us o e q = ruled (seq (maybe_not refl (off refl)) q)
bare_at d t.Separator p us o e q = ruled (seq (maybe_not refl (off refl)) q)

bare_then : (d : ℕ) (ts : List Lexeme) (o : Out Lexeme Tree) → labels ts ≡ false → Outcome (rule (Expr d 0) >>= λ v. gives (with_name empty v)) ts o → Outcome (rule (Arg d)) ts o
unfolding rules
bare_then d [] o e q = ruled (seq (maybe_not refl (off refl)) q)
bare_then d (x ∷ us) o e q = bare_at d x.token x.place us o e q

pub arg_bare : (d : ℕ) (ts : List Lexeme) (v : Tree) (rest : List Lexeme) → labels ts ≡ false → Outcome (rule (Expr d 0)) ts (got v rest (length rest)) → Outcome (rule (Arg d)) ts (got v rest (length rest))
arg_bare d ts v rest e q = bare_then d ts (got v rest (length rest)) e (seq q ret)

pub arg_bare_stop : (d : ℕ) (ts : List Lexeme) (o : Out Lexeme Tree) → labels ts ≡ false → IsStop o → Outcome (rule (Expr d 0)) ts o → Outcome (rule (Arg d)) ts o
arg_bare_stop d ts o e s q = bare_then d ts o e (stop o s q)

pub args_miss : (d : ℕ) (ts : List Lexeme) → no_start ts ≡ true → Outcome (rule (Args d)) ts (unexpected (length ts))
args_miss d ts e =
    let f : labels ts ≡ false = ap (λ b. not b && is_next colon (after ts)) (nothing_starts ts e).name in
    args_not d ts (unexpected (length ts)) tt (arg_bare_stop d ts (unexpected (length ts)) f tt (expr_misses d 0 ts e))
