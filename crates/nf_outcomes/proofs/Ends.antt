-- Each list of tokens and each text comes to one outcome.
use Rattle.std.proofs.Common.{◌≡◌, ℕ, ◌-◌, List, length, ◌⊎◌, inl, inr, refl, subst, ap, arith}
use Rattle.nf_value.specs.declared.place.Place.{Place}
use Rattle.nf_token.specs.declared.token.Lexeme.{Lexeme}
use Rattle.nf_lexer.specs.declared.fault.LexFault.{LexFault}
use Rattle.nf_lexer.specs.Tokens.{IsTokensOf, Breaks}
use Rattle.nf_grammar.specs.Reads.{stands_before, stands_first, stands_left, stands_rule}
use Rattle.nf_grammar.proofs.Outcomes.{stands_le, deep_stands}
use Rattle.nf_ast.specs.Tree.{Tree}
use Rattle.nf_exprs.specs.Rules.{rules}
use Rattle.nf_exprs.specs.Spells.{first_place}
use Rattle.nf_parser.specs.Spells.{Whole, Reaches, Passes, Spells, IsUnexpected, IsTooDeep}
use Rattle.nf_outcomes.specs.Outcome.{ScriptOutcome, spelled, unexpected, too_deep, IsOutcome, TextOutcome, broken, lexed, IsTextOutcome}
use Rattle.nf_outcomes.proofs.Search.{Least, least_from}
use Rattle.nf_outcomes.proofs.Sights.{searched_stands, searched_deep, searched_whole}
use Rattle.nf_outcomes.proofs.Every.{searched_script}

-- ---- tokens

begins : (ts : List Lexeme) → Reaches ts ts
unfolding rules
begins ts = stands_rule (stands_first (stands_left (stands_first stands_before)))

too_deep_outcome : (ts : List Lexeme) (end : Place) → Least (Passes ts) (λ r. length ts - length r) → (o : ScriptOutcome) × IsOutcome ts end o
too_deep_outcome ts end e = (
  too_deep (first_place end e.it),
  record {
    rest = e.it;
    deep = e.holds;
    earliest = λ r d. omega (arith, e.least r d, stands_le (deep_stands d), stands_le (deep_stands e.holds));
    place = refl;
  },
)

unexpected_outcome : (ts : List Lexeme) (end : Place) → ((v : Tree) → Whole ts v → ⊥) → ((r : List Lexeme) → Passes ts r → ⊥) → Least (Reaches ts) length → (o : ScriptOutcome) × IsOutcome ts end o
unexpected_outcome ts end none shallow e = (
  unexpected (first_place end e.it),
  record {
    none = none;
    shallow = shallow;
    rest = e.it;
    stands = e.holds;
    farthest = e.least;
    place = refl;
  },
)

-- where no reading passes a limit
outcome_within_limits : (ts : List Lexeme) (end : Place) → ((r : List Lexeme) → Passes ts r → ⊥) → (o : ScriptOutcome) × IsOutcome ts end o
outcome_within_limits ts end shallow = elim ((searched_whole (searched_script ts)).search (λ v. Unit {0}) (λ v x. yes tt)) [
  | yes q ↦ (spelled q.0, record { whole = q.1; shallow = shallow })
  | no n ↦ unexpected_outcome ts end (λ v x. n (v, x, tt)) shallow (least_from (searched_stands (searched_script ts)) length (length ts) ts (begins ts) (omega arith))
]

pub some_outcome : (ts : List Lexeme) (end : Place) → (o : ScriptOutcome) × IsOutcome ts end o
some_outcome ts end = elim ((searched_deep (searched_script ts)).search (λ r. Unit {0}) (λ r d. yes tt)) [
  | yes q ↦ too_deep_outcome ts end (least_from (searched_deep (searched_script ts)) (λ r. length ts - length r) (length ts) q.0 q.1 (omega arith))
  | no n ↦ outcome_within_limits ts end (λ r d. n (r, d, tt))
]

-- the laws of one tree and of one place
pub record Alone : Type 0 where
  pub one_tree : (ts : List Lexeme) (v w : Tree) → Spells ts v → Spells ts w → v ≡ w
  pub one_unexpected : (ts : List Lexeme) (end p q : Place) → IsUnexpected ts end p → IsUnexpected ts end q → p ≡ q
  pub one_too_deep : (ts : List Lexeme) (end p q : Place) → IsTooDeep ts end p → IsTooDeep ts end q → p ≡ q

pub one_outcome : Alone → (ts : List Lexeme) (end : Place) (o p : ScriptOutcome) → IsOutcome ts end o → IsOutcome ts end p → o ≡ p
one_outcome l ts end (spelled v) (spelled w) a b = ap spelled (l.one_tree ts v w a b)
one_outcome l ts end (spelled v) (unexpected q) a b = absurd (b.none v a.whole)
one_outcome l ts end (spelled v) (too_deep q) a b = absurd (a.shallow b.rest b.deep)
one_outcome l ts end (unexpected p) (spelled w) a b = absurd (a.none w b.whole)
one_outcome l ts end (unexpected p) (unexpected q) a b = ap unexpected (l.one_unexpected ts end p q a b)
one_outcome l ts end (unexpected p) (too_deep q) a b = absurd (a.shallow b.rest b.deep)
one_outcome l ts end (too_deep p) (spelled w) a b = absurd (b.shallow a.rest a.deep)
one_outcome l ts end (too_deep p) (unexpected q) a b = absurd (b.shallow a.rest a.deep)
one_outcome l ts end (too_deep p) (too_deep q) a b = ap too_deep (l.one_too_deep ts end p q a b)

-- ---- texts

pub some_text_outcome : ((text : List ℕ) → ((t : List Lexeme × Place) × IsTokensOf text t) ⊎ ((f : LexFault) × Breaks text f)) → (text : List ℕ) → (o : TextOutcome) × IsTextOutcome text o
some_text_outcome answer text = elim (answer text) [
  | inl q ↦ (let o = some_outcome q.0.0 q.0.1 in (lexed o.0, (q.0, q.1, o.1)))
  | inr q ↦ (broken q.0, q.1)
]

-- the laws of one list of tokens and of one broken rule
pub record AloneInText : Type 0 where
  pub one_list : (text : List ℕ) (t u : List Lexeme × Place) → IsTokensOf text t → IsTokensOf text u → t ≡ u
  pub one_break : (text : List ℕ) (f g : LexFault) → Breaks text f → Breaks text g → f ≡ g
  pub never_both : (text : List ℕ) (t : List Lexeme × Place) (f : LexFault) → IsTokensOf text t → Breaks text f → ⊥
  pub one_end : (ts : List Lexeme) (end : Place) (o p : ScriptOutcome) → IsOutcome ts end o → IsOutcome ts end p → o ≡ p

pub one_text_outcome : AloneInText → (text : List ℕ) (o p : TextOutcome) → IsTextOutcome text o → IsTextOutcome text p → o ≡ p
one_text_outcome l text (broken f) (broken g) a b = ap broken (l.one_break text f g a b)
one_text_outcome l text (broken f) (lexed p) a b = absurd (l.never_both text b.0 f b.1 a)
one_text_outcome l text (lexed o) (broken g) a b = absurd (l.never_both text a.0 g a.1 b)
one_text_outcome l text (lexed o) (lexed p) a b =
    let e : a.0 ≡ b.0 = l.one_list text a.0 b.0 a.1 b.1 in
    ap lexed (l.one_end b.0.0 b.0.1 o p (subst (λ t. IsOutcome t.0 t.1 o) e a.2) b.2)
