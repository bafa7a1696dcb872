-- Every part that begins with rules of lower rank can be searched, on any tokens.
use Rattle.std.proofs.Common.{◌≡◌, ℕ, zero, suc, ◌<◌, ◌≤◌, Bool, true, List, length, refl, subst, arith}
use Rattle.nf_token.specs.declared.token.Lexeme.{Lexeme}
use Rattle.nf_grammar.specs.Gram.{token, rule}
use Rattle.nf_grammar.specs.Reads.{Reads, reads_token, reads_gives, reads_bind, reads_left, reads_right, reads_where, reads_end, reads_more, reads_rule}
use Rattle.nf_grammar.proofs.Outcomes.{reads_le}
use Rattle.nf_ast.specs.Tree.{Tree}
use Rattle.nf_exprs.specs.Level.{Level, Expr, Operands, Pre, Post, Prim, Args, Arg, Pair, Closure, Body, Stmt, Choice, Script, Top, Process, Directive, Input, Inputs, Output, Outputs, Task, Workflow, Parts, Function, Gram}
use Rattle.nf_exprs.specs.Tokens.{Kind}
use Rattle.nf_exprs.specs.Rules.{rules}
use Rattle.nf_outcomes.proofs.Sights.{Searched, searched_token, searched_gives, searched_bind, searched_either, searched_where, searched_many, searched_rule}
use Rattle.nf_outcomes.proofs.Descends.{rank, takes, top, Descends, down_token, down_gives, down_after, down_first, down_second, down_either, down_where, down_many, down_rule, down_taking, down_listed, down_series, down_token_expr}
use Rattle.nf_outcomes.proofs.Exprs.{down_operand, down_after_operand, down_or_more, down_prefixed, down_post_part, down_key, down_prim, down_closure, down_statement, down_choice}
use Rattle.nf_outcomes.proofs.Tops.{down_script, down_top, down_process, down_directive, down_input, down_inputs, down_output, down_outputs, down_task, down_workflow, down_parts, down_function}

-- ---- the rules

row : (l : Level) → Descends (takes l) (rank l) (rules l)
unfolding rules
row (Expr d n) = down_first (down_taking refl (omega arith)) (λ a. down_or_more d n a)
row (Operands d x) = down_first (down_operand d x (omega arith)) (λ a. down_after_operand d x a)
row (Pre d n) = down_either (down_prefixed d n) (down_taking refl (omega arith))
row (Post d) = down_first (down_taking refl (omega arith)) (λ a. down_many (λ i x. down_post_part d i x))
row (Prim d) = down_prim d
row (Args d) = down_listed (down_taking refl (omega arith)) (down_taking refl (omega arith))
row (Arg d) = down_second (down_either (down_after (λ n. down_after (λ c. down_gives))) (down_where down_gives)) (λ n. down_first (down_taking refl (omega arith)) (λ x. down_gives))
row (Pair d) = down_first down_key (λ n. down_token_expr)
row (Closure d p) = down_closure d p
row (Body d) = down_series (down_taking refl (omega arith))
row (Stmt d) = down_statement d
row (Choice d n) = down_choice d n
row Script = down_script
row Top = down_top
row Process = down_process
row Directive = down_directive
row Input = down_input
row Inputs = down_inputs
row Output = down_output
row Outputs = down_outputs
row Task = down_task
row Workflow = down_workflow
row Parts = down_parts
row Function = down_function

taking_row : (l : Level) → takes l ≡ true → Descends true (rank l) (rules l)
taking_row l e = subst (λ b. Descends b (rank l) (rules l)) e (row l)

-- ---- what takes a token leaves fewer

token_takes : {past : Bool} {p : Kind} {ts r : List Lexeme} {v : Tree} → Reads rules (token past p) ts v r → length r < length ts
token_takes (reads_token e) = omega arith

takes_one : {g : Gram} {ts r : List Lexeme} {v : Tree} → Reads rules g ts v r → {n : ℕ} → Descends true n g → length r < length ts
takes_one (reads_token e) down_token = omega arith
takes_one reads_gives d = elim d [ ]
takes_one (reads_bind x y) (down_after h) = omega (arith, token_takes x, reads_le y)
takes_one (reads_bind x y) (down_first d h) = omega (arith, takes_one x d, reads_le y)
takes_one (reads_bind {a = a} x y) (down_second d h) = omega (arith, reads_le x, takes_one y (h a))
takes_one (reads_left x) (down_either d e) = takes_one x d
takes_one (reads_right x) (down_either d e) = takes_one x e
takes_one (reads_where c x) (down_where d) = takes_one x d
takes_one (reads_end e) d = elim d [ ]
takes_one (reads_more x y) d = elim d [ ]
takes_one (reads_rule {l = l} x) (down_taking e h) = takes_one x (taking_row l e)

-- ---- by the number of tokens, the rank, and what the part is made of

-- each part on fewer tokens
abbrev Shorter : ℕ → Type 1
Shorter m = (b : Bool) (n : ℕ) (g : Gram) → Descends b n g → (ts : List Lexeme) → length ts < m → Searched rules g ts

-- each rule of a rank below n, on no more tokens
abbrev Lower : ℕ → ℕ → Type 1
Lower m n = (l : Level) → rank l < n → (ts : List Lexeme) → length ts ≤ m → Searched rules (rule l) ts

part : {b : Bool} {n : ℕ} {g : Gram} → Descends b n g → (m : ℕ) → Shorter m → Lower m n → (ts : List Lexeme) → length ts ≤ m → Searched rules g ts
part (down_token {past = past} {p = p}) m shorter lower ts le = searched_token past p ts
part (down_gives {v = v}) m shorter lower ts le = searched_gives v ts
part (down_after {past = past} {p = p} h) m shorter lower ts le = searched_bind (searched_token past p ts) (λ a mid x. shorter _ _ _ (h a) mid (omega (arith, token_takes x, le)))
part (down_first d h) m shorter lower ts le = searched_bind (part d m shorter lower ts le) (λ a mid x. part (h a) m shorter lower mid (omega (arith, reads_le x, le)))
part (down_second d h) m shorter lower ts le = searched_bind (part d m shorter lower ts le) (λ a mid x. part (h a) m shorter lower mid (omega (arith, reads_le x, le)))
part (down_either d e) m shorter lower ts le = searched_either (part d m shorter lower ts le) (part e m shorter lower ts le)
part (down_where d) m shorter lower ts le = searched_where (part d m shorter lower ts le)
part (down_many {i = i} {a = a} h) m shorter lower ts le = searched_many (searched_bind (part (h i a) m shorter lower ts le) (λ b mid x. shorter _ _ _ (down_many h) mid (omega (arith, takes_one x (h i a), le))))
part (down_rule {l = l} h) m shorter lower ts le = lower l h ts le
part (down_taking {l = l} e h) m shorter lower ts le = lower l h ts le

lower_rules : (m : ℕ) → Shorter m → (n : ℕ) → Lower m n
lower_rules m shorter zero l h ts le = absurd (omega (arith, h))
lower_rules m shorter (suc n) l h ts le = searched_rule (part (row l) m shorter (λ k j. lower_rules m shorter n k (omega (arith, j, h))) ts le)

shorter_parts : (m : ℕ) → Shorter m
shorter_parts zero b n g d ts h = absurd (omega (arith, h))
shorter_parts (suc m) b n g d ts h = part d m (shorter_parts m) (lower_rules m (shorter_parts m) n) ts (omega (arith, h))

pub searched_script : (ts : List Lexeme) → Searched rules (rule Script) ts
searched_script ts = lower_rules (length ts) (shorter_parts (length ts)) top Script (omega arith) ts (omega arith)
