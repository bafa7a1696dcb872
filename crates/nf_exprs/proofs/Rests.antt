-- Where a reading stands, the rest is an end of the tokens.
use Rattle.std.proofs.Common.{◌≡◌, ℕ, ◌-◌, ◌≤◌, List, [], ◌∷◌, ◌++◌, length, drop, take, refl, sym, subst, ap, ◌∙◌, arith, append_assoc, length-append}
use Rattle.std.proofs.Math.Seq.{drop-append_seam}
use Rattle.std.proofs.lemmas.List.{take-append-drop}
use Rattle.nf_value.specs.declared.place.Place.{Place}
use Rattle.nf_token.specs.declared.token.Lexeme.{Lexeme}
use Rattle.nf_grammar.specs.Gram.{rule}
use Rattle.nf_grammar.specs.Reads.{Reads, reads_token, reads_gives, reads_bind, reads_left, reads_right, reads_where, reads_end, reads_more, reads_rule, Stands, stands_before, stands_after, stands_gives, stands_first, stands_second, stands_left, stands_right, stands_where, stands_end, stands_part, stands_more, stands_rule}
use Rattle.nf_grammar.specs.Outcome.{got}
use Rattle.nf_grammar.proofs.Outcomes.{deep_stands}
use Rattle.nf_ast.specs.Tree.{Tree}
use Rattle.nf_exprs.specs.declared.fault.Fault.{Fault}
use Rattle.nf_exprs.specs.declared.fault.Fault.TheVariants.{Unexpected, TooDeep}
use Rattle.nf_exprs.specs.Level.{Gram, Expr}
use Rattle.nf_exprs.specs.Rules.{rules}
use Rattle.nf_exprs.specs.Parses.{Outcome, Fails}
use Rattle.nf_exprs.specs.Spells.{IsExpr, IsUnexpected, IsTooDeep, first_place}

-- ---- the rest is an end of the tokens

pub record IsRest (ts r : List Lexeme) : Type 0 where
  pub front : List Lexeme
  pub parts : ts ≡ front ++ r

pub all : (ts : List Lexeme) → IsRest ts ts
all ts = record { front = []; parts = refl }

pub rest_of : (ts mid r : List Lexeme) → IsRest ts mid → IsRest mid r → IsRest ts r
rest_of ts mid r a b = record { front = a.front ++ b.front; parts = a.parts ∙ ap (λ x. a.front ++ x) b.parts ∙ sym (append_assoc a.front b.front r) }

pub reads_rest : {g : Gram} {ts r : List Lexeme} {v : Tree} → Reads rules g ts v r → IsRest ts r
reads_rest (reads_token {t = t} {ts = ts} e) = record { front = t ∷ []; parts = refl }
reads_rest (reads_gives {ts = ts}) = all ts
reads_rest (reads_bind {ts = ts} {mid = mid} {rest = r} p q) = rest_of ts mid r (reads_rest p) (reads_rest q)
reads_rest (reads_left p) = reads_rest p
reads_rest (reads_right p) = reads_rest p
reads_rest (reads_where c p) = reads_rest p
reads_rest (reads_end {ts = ts} c) = all ts
reads_rest (reads_more {ts = ts} {mid = mid} {rest = r} p q) = rest_of ts mid r (reads_rest p) (reads_rest q)
reads_rest (reads_rule p) = reads_rest p

pub stands_rest : {g : Gram} {ts r : List Lexeme} → Stands rules g ts r → IsRest ts r
stands_rest (stands_before {ts = ts}) = all ts
stands_rest (stands_after {t = t} {ts = ts} e) = record { front = t ∷ []; parts = refl }
stands_rest (stands_gives {ts = ts}) = all ts
stands_rest (stands_first p) = stands_rest p
stands_rest (stands_second {ts = ts} {mid = mid} {r = r} p q) = rest_of ts mid r (reads_rest p) (stands_rest q)
stands_rest (stands_left p) = stands_rest p
stands_rest (stands_right p) = stands_rest p
stands_rest (stands_where c p) = stands_rest p
stands_rest (stands_end {ts = ts} c) = all ts
stands_rest (stands_part p) = stands_rest p
stands_rest (stands_more {ts = ts} {mid = mid} {r = r} p q) = rest_of ts mid r (reads_rest p) (stands_rest q)
stands_rest (stands_rule p) = stands_rest p

-- an end of the tokens, from how many they are
pub rest_drop : (ts r : List Lexeme) → IsRest ts r → r ≡ drop (length ts - length r) ts
rest_drop ts r p =
    let n : length ts - length r ≡ length p.front = omega (arith, ap length p.parts, length-append p.front r) in
    sym (drop-append_seam p.front r) ∙ ap (λ x. drop (length p.front) x) (sym p.parts) ∙ ap (λ k. drop k ts) (sym n)

pub stands_drop : (g : Gram) (ts r : List Lexeme) → Stands rules g ts r → r ≡ drop (length ts - length r) ts
stands_drop g ts r s = rest_drop ts r (stands_rest s)

pub dropped : (n : ℕ) (ts : List Lexeme) → IsRest ts (drop n ts)
dropped n ts = record { front = take n ts; parts = sym (take-append-drop n ts) }

rest_le : (ts r : List Lexeme) → IsRest ts r → length r ≤ length ts
rest_le ts r p = omega (arith, ap length p.parts, length-append p.front r)

-- ---- an expression in the tokens from one of them on

place_of_rest : (all : List Lexeme) (n left : ℕ) (end place : Place) (r : List Lexeme) → IsRest (drop n all) r → length r ≡ left → place ≡ first_place end (drop (length all - left) all) → place ≡ first_place end r
place_of_rest all n left end place r p e f =
    let q = rest_drop all r (rest_of all (drop n all) r (dropped n all) p) in
    f ∙ ap (first_place end) (ap (λ k. drop (length all - k) all) (sym e) ∙ sym q)

pub unexpected_at : (all : List Lexeme) (n left : ℕ) (end place : Place) → place ≡ first_place end (drop (length all - left) all) → Fails (rule (Expr 0 0)) (drop n all) (Unexpected left) → IsUnexpected (drop n all) end place
unexpected_at all n left end place e p = record {
  none = p.ends.none;
  shallow = p.ends.shallow;
  rest = p.ends.stands.0;
  stands = p.ends.stands.1;
  farthest = λ q s. omega (arith, p.ends.farthest q s, p.ends.stands.2);
  place = place_of_rest all n left end place p.ends.stands.0 (stands_rest p.ends.stands.1) p.ends.stands.2 e;
}

pub too_deep_at : (all : List Lexeme) (n left : ℕ) (end place : Place) → place ≡ first_place end (drop (length all - left) all) → Fails (rule (Expr 0 0)) (drop n all) (TooDeep left) → IsTooDeep (drop n all) end place
too_deep_at all n left end place e p = record {
  rest = p.ends.deep.0;
  deep = p.ends.deep.1;
  earliest = λ q d. omega (arith, p.ends.earliest q d, p.ends.deep.2);
  place = place_of_rest all n left end place p.ends.deep.0 (stands_rest (deep_stands p.ends.deep.1)) p.ends.deep.2 e;
}

pub left_le : (all : List Lexeme) (n left : ℕ) (r : List Lexeme) → IsRest (drop n all) r → length r ≡ left → left ≤ length all
left_le all n left r p e = omega (arith, rest_le all r (rest_of all (drop n all) r (dropped n all) p), e)

pub spelled : (all : List Lexeme) (n m : ℕ) (v : Tree) (rest : List Lexeme) → m ≡ length all - length rest → Outcome (rule (Expr 0 0)) (drop n all) (got v rest (length rest)) → IsExpr (drop n all) v (drop m all)
spelled all n m v rest e p =
    let q : rest ≡ drop m all = rest_drop all rest (rest_of all (drop n all) rest (dropped n all) (reads_rest p.ends.reads)) ∙ ap (λ k. drop k all) (sym e) in
    subst (IsExpr (drop n all) v) q (record { reads = p.ends.reads; only = p.ends.only; shallow = p.ends.shallow })

-- ---- the same, from what the reading of an expression answers

pub moved : (ts us : List Lexeme) (e f : Fault) → ts ≡ us → e ≡ f → Fails (rule (Expr 0 0)) ts e → Fails (rule (Expr 0 0)) us f
moved ts us e f same is p = subst (λ x. Fails (rule (Expr 0 0)) x f) same (subst (Fails (rule (Expr 0 0)) ts) is p)

pub unexpected_le : (all : List Lexeme) (n left : ℕ) → Fails (rule (Expr 0 0)) (drop n all) (Unexpected left) → left ≤ length all
unexpected_le all n left p = left_le all n left p.ends.stands.0 (stands_rest p.ends.stands.1) p.ends.stands.2

pub too_deep_le : (all : List Lexeme) (n left : ℕ) → Fails (rule (Expr 0 0)) (drop n all) (TooDeep left) → left ≤ length all
too_deep_le all n left p = left_le all n left p.ends.deep.0 (stands_rest (deep_stands p.ends.deep.1)) p.ends.deep.2
