-- From how a script ends to what is answered.
use Rattle.std.proofs.Common.{◌≡◌, ℕ, ◌-◌, ◌≤◌, List, [], ◌∷◌, length, drop, refl, sym, subst, ap, ◌∙◌, arith}
use Rattle.nf_value.specs.declared.place.Place.{Place}
use Rattle.nf_token.specs.declared.token.Lexeme.{Lexeme}
use Rattle.nf_grammar.specs.Gram.{rule}
use Rattle.nf_grammar.specs.Reads.{Reads}
use Rattle.nf_grammar.specs.Outcome.{got}
use Rattle.nf_grammar.proofs.Outcomes.{stands_le, deep_stands}
use Rattle.nf_ast.specs.Tree.{Tree}
use Rattle.nf_exprs.specs.declared.fault.Fault.{Fault}
use Rattle.nf_exprs.specs.declared.fault.Fault.TheVariants.{Unexpected, TooDeep, Mem}
use Rattle.nf_exprs.specs.Level.{Script}
use Rattle.nf_exprs.specs.Rules.{rules}
use Rattle.nf_exprs.specs.Parses.{Outcome, Fails}
use Rattle.nf_exprs.specs.Spells.{first_place}
use Rattle.nf_exprs.proofs.Rests.{stands_drop}
use Rattle.nf_parser.specs.Spells.{Whole, Spells, Reaches, IsUnexpected, IsTooDeep, StopsAt, SinksAt, Stops}

same_rest : (ts a b : List Lexeme) → Reaches ts a → Reaches ts b → length a ≡ length b → a ≡ b
same_rest ts a b s u n = stands_drop (rule Script) ts a s ∙ ap (λ k. drop (length ts - k) ts) n ∙ sym (stands_drop (rule Script) ts b u)

-- ---- by the number of tokens left

pub refused : (ts : List Lexeme) (e : Fault) → Fails (rule Script) ts e → Stops ts e
refused ts Mem p = tt
refused ts (Unexpected n) p = record { none = λ v r. p.ends.none v [] r; shallow = p.ends.shallow; stands = p.ends.stands; farthest = p.ends.farthest }
refused ts (TooDeep n) p = record { deep = p.ends.deep; earliest = p.ends.earliest }

pub left_over : (ts : List Lexeme) (v : Tree) (rest : List Lexeme) → (length rest ≡ 0 → ⊥) → Outcome (rule Script) ts (got v rest (length rest)) → Stops ts (Unexpected (length rest))
left_over ts v [] h p = absurd (h refl)
left_over ts v (x ∷ rest) h p = record { none = λ w r. (let e = (p.ends.only w [] r).1 in absurd cc); shallow = p.ends.shallow; stands = p.ends.stands; farthest = p.ends.farthest }

pub spelled : (ts : List Lexeme) (v : Tree) (rest : List Lexeme) → rest ≡ [] → Outcome (rule Script) ts (got v rest (length rest)) → Spells ts v × ((w : Tree) → Whole ts w → w ≡ v)
spelled ts v rest e p = (record { whole = subst (λ (r : List Lexeme). Reads rules (rule Script) ts v r) e p.ends.reads; shallow = p.ends.shallow }, λ w r. (p.ends.only w [] r).0)

-- ---- places

pub stops_of : (ts us : List Lexeme) (e : Fault) (left : ℕ) → ts ≡ us → e ≡ Unexpected left → Stops ts e → StopsAt us left
stops_of ts us e left same is p = subst (λ x. StopsAt x left) same (subst (Stops ts) is p)

pub sinks_of : (ts us : List Lexeme) (e : Fault) (left : ℕ) → ts ≡ us → e ≡ TooDeep left → Stops ts e → SinksAt us left
sinks_of ts us e left same is p = subst (λ x. SinksAt x left) same (subst (Stops ts) is p)

pub stops_le : (ts : List Lexeme) (left : ℕ) → StopsAt ts left → left ≤ length ts
stops_le ts left p = omega (arith, stands_le p.stands.1, p.stands.2)

pub sinks_le : (ts : List Lexeme) (left : ℕ) → SinksAt ts left → left ≤ length ts
sinks_le ts left p = omega (arith, stands_le (deep_stands p.deep.1), p.deep.2)

place_of_rest : (ts : List Lexeme) (end place : Place) (left : ℕ) (r : List Lexeme) → Reaches ts r → length r ≡ left → place ≡ first_place end (drop (length ts - left) ts) → place ≡ first_place end r
place_of_rest ts end place left r s n e = e ∙ ap (first_place end) (ap (λ k. drop (length ts - k) ts) (sym n) ∙ sym (stands_drop (rule Script) ts r s))

pub unexpected_at : (ts : List Lexeme) (end place : Place) (left : ℕ) → place ≡ first_place end (drop (length ts - left) ts) → StopsAt ts left → IsUnexpected ts end place
unexpected_at ts end place left e p = record {
  none = p.none;
  shallow = p.shallow;
  rest = p.stands.0;
  stands = p.stands.1;
  farthest = λ q s. omega (arith, p.farthest q s, p.stands.2);
  place = place_of_rest ts end place left p.stands.0 p.stands.1 p.stands.2 e;
}

pub too_deep_at : (ts : List Lexeme) (end place : Place) (left : ℕ) → place ≡ first_place end (drop (length ts - left) ts) → SinksAt ts left → IsTooDeep ts end place
too_deep_at ts end place left e p = record {
  rest = p.deep.0;
  deep = p.deep.1;
  earliest = λ q d. omega (arith, p.earliest q d, p.deep.2);
  place = place_of_rest ts end place left p.deep.0 (deep_stands p.deep.1) p.deep.2 e;
}

-- ---- laws

pub one_unexpected : (ts : List Lexeme) (end p q : Place) → IsUnexpected ts end p → IsUnexpected ts end q → p ≡ q
one_unexpected ts end p q a b =
    let n : length a.rest ≡ length b.rest = omega (arith, a.farthest b.rest b.stands, b.farthest a.rest a.stands) in
    a.place ∙ ap (first_place end) (same_rest ts a.rest b.rest a.stands b.stands n) ∙ sym b.place

pub one_too_deep : (ts : List Lexeme) (end p q : Place) → IsTooDeep ts end p → IsTooDeep ts end q → p ≡ q
one_too_deep ts end p q a b =
    let n : length a.rest ≡ length b.rest = omega (arith, a.earliest b.rest b.deep, b.earliest a.rest a.deep) in
    a.place ∙ ap (first_place end) (same_rest ts a.rest b.rest (deep_stands a.deep) (deep_stands b.deep) n) ∙ sym b.place
