-- Conditional expressions, whose operands stand in one list.
use Rattle.std.proofs.Common.{◌≡◌, ℕ, suc, ◌≤◌, ◌<◌, Bool, true, false, List, [], ◌∷◌, ◌++◌, length, map, refl, sym, subst, arith, ap, ◌∙◌}
use Rattle.std.specs.Prelude.{◌&&◌}
use Rattle.std.proofs.lemmas.Bool.{leb-false, leb-true}
use Rattle.nf_value.specs.declared.place.Place.{Place}
use Rattle.nf_token.specs.declared.token.Mark.TheVariants as m
use Rattle.nf_token.specs.declared.token.Lexeme.{Lexeme}
use Rattle.nf_grammar.specs.Gram.{rule, gives, either, only_where, ◌>>=◌}
use Rattle.nf_grammar.specs.Parts.{no_next}
use Rattle.nf_grammar.specs.Outcome.{Out, got, unexpected, too_deep}
use Rattle.nf_grammar.proofs.Outcomes.{arms_first, grouped, alone, ruled_first, maybe_is_then}
use Rattle.nf_grammar.proofs.Short.{ret, seq, fails, dives, off, first_arm, second_arm, ruled, maybe_not, maybe_is, stop, IsStop}
use Rattle.nf_ast.specs.declared.operators.BranchOperator.{BranchOperator}
use Rattle.nf_ast.specs.declared.operators.BranchOperator.TheVariants.{Then, Else, Elvis}
use Rattle.nf_ast.specs.declared.expr.Branch.{Branch}
use Rattle.nf_ast.specs.Tree as tree
use Rattle.nf_ast.specs.Tree.{Tree, empty, point}
use Rattle.nf_ast.specs.View.{Frame, asked, answered, preferred, ended, turned, framed, BranchTree, conditional, view_branch}
use Rattle.nf_exprs.specs.declared.band.Band.TheVariants as band
use Rattle.nf_exprs.specs.Level.{Expr, Operands, Gram}
use Rattle.nf_exprs.specs.Tokens.{colon}
use Rattle.nf_exprs.specs.Rules as row
use Rattle.nf_exprs.specs.Rules.{rules, mark, or_more, question, elvis, no_question}
use Rattle.nf_exprs.specs.Nested.{Nests, past_branch}
use Rattle.nf_exprs.specs.Parses.{Outcome, Takes, NoBranch, TakesBranch}
use Rattle.nf_exprs.proofs.Are.{a_mark}
use Rattle.nf_exprs.proofs.Steps.{Going, short, long, took, sunk, comes}

-- what is left after an operand inside these
abbrev pub rest : ℕ → List Frame → Tree → Gram
rest d [] v = gives v
rest d (asked p c ∷ fs) v = (mark m.Colon >>= λ k. rule (Expr d (suc (length fs))) >>= λ b. gives (tree.conditional p c v b)) >>= rest d fs
rest d (answered p c a ∷ fs) v = gives (tree.conditional p c a v) >>= rest d fs
rest d (preferred p a ∷ fs) v = gives (tree.elvis p a v) >>= rest d fs

-- the operand was read
abbrev pub after_operand : ℕ → List Frame → Tree → Gram
after_operand d fs e = or_more d (length fs) e >>= rest d fs

-- an operand, and what is left
abbrev pub operand_then : ℕ → List Frame → Gram
operand_then d fs = rule (Operands d band.Or) >>= after_operand d fs

pub begins : (d : ℕ) (e : Tree) (ts us : List Lexeme) → Outcome (rule (Operands d band.Or)) us (got e ts (length ts)) → Going (after_operand d [] e) ts (rule (Expr d 0)) us
unfolding rules
begins d e ts us p o q = ruled (seq p (alone q))

-- where no operand begins the expression
pub begins_not : (d : ℕ) (us : List Lexeme) (o : Out Lexeme Tree) → IsStop o → Outcome (rule (Operands d band.Or)) us o → Outcome (rule (Expr d 0)) us o
unfolding rules
begins_not d us o s p = ruled (stop o s p)

-- an expression inside of others is an operand and what is left of it
inside : (d : ℕ) (fs : List Frame) (k : Tree → Gram) (ts : List Lexeme) (o : Out Lexeme Tree) → Outcome (rule (Operands d band.Or) >>= λ a. or_more d (suc (length fs)) a >>= k) ts o → Outcome (rule (Expr d (suc (length fs))) >>= k) ts o
unfolding rules
inside d fs k ts o p = ruled_first (grouped p)

module _ (d : ℕ) (fs : List Frame) (e : Tree) (ts after : List Lexeme) (p : Place) where
  -- ---- at a `?`

  no_elvis : Takes question ts (point p) after → no_next elvis ts ≡ true
  no_elvis k = subst (λ x. no_next elvis x ≡ true) (sym (a_mark m.Question k)) refl

  asking : Takes question ts (point p) after → no_question ts ≡ false
  asking k = ap (λ b. b && no_next elvis ts) (comes k)

  other_arms : Takes question ts (point p) after → Outcome (either (row.otherwise d (length fs) e) (only_where no_question (gives e)) >>= rest d fs) ts (unexpected (length ts))
  other_arms k = fails (maybe_is (asking k) (off (no_elvis k)))

  pub then_goes : Takes question ts (point p) after → length fs < 256 → (o : Out Lexeme Tree) → Outcome (operand_then d (asked p e ∷ fs)) after o → Outcome (after_operand d fs e) ts o
  then_goes k h o q = arms_first (row.conditional d (length fs) e) (either (row.otherwise d (length fs) e) (only_where no_question (gives e))) (rest d fs) ts o (first_arm (grouped (took (short (length fs) h) k (grouped (inside d fs (rest d (asked p e ∷ fs)) after o q)))) (other_arms k))

  pub then_dives : Takes question ts (point p) after → 256 ≤ length fs → Outcome (after_operand d fs e) ts (too_deep (length ts))
  then_dives k h = arms_first (row.conditional d (length fs) e) (either (row.otherwise d (length fs) e) (only_where no_question (gives e))) (rest d fs) ts (too_deep (length ts)) (first_arm (dives (sunk (long (length fs) h) k)) (other_arms k))

  -- ---- at a `?:`

  no_then : Takes elvis ts (point p) after → no_next question ts ≡ true
  no_then k = subst (λ x. no_next question x ≡ true) (sym (a_mark m.Elvis k)) refl

  preferring : Takes elvis ts (point p) after → no_question ts ≡ false
  preferring k = ap (λ b. b && no_next elvis ts) (no_then k) ∙ comes k

  pub elvis_goes : Takes elvis ts (point p) after → length fs < 256 → (o : Out Lexeme Tree) → Outcome (operand_then d (preferred p e ∷ fs)) after o → Outcome (after_operand d fs e) ts o
  elvis_goes k h o q = arms_first (row.conditional d (length fs) e) (either (row.otherwise d (length fs) e) (only_where no_question (gives e))) (rest d fs) ts o (second_arm (fails (off (no_then k))) (maybe_is_then (preferring k) (grouped (took (short (length fs) h) k (grouped (inside d fs (rest d (preferred p e ∷ fs)) after o q))))))

  pub elvis_dives : Takes elvis ts (point p) after → 256 ≤ length fs → Outcome (after_operand d fs e) ts (too_deep (length ts))
  elvis_dives k h = arms_first (row.conditional d (length fs) e) (either (row.otherwise d (length fs) e) (only_where no_question (gives e))) (rest d fs) ts (too_deep (length ts)) (second_arm (fails (off (no_then k))) (maybe_is_then (preferring k) (dives (sunk (long (length fs) h) k))))

-- where neither comes
quiet : (d : ℕ) (fs : List Frame) (e : Tree) (ts : List Lexeme) (o : Out Lexeme Tree) → no_next question ts ≡ true → no_next elvis ts ≡ true → Outcome (rest d fs e) ts o → Outcome (after_operand d fs e) ts o
quiet d fs e ts o f g q = seq (second_arm (off f) (maybe_not (ap (λ b. b && no_next elvis ts) f ∙ g) (off g))) q

-- ---- at a `:`

-- how many stand round what is on both sides of each `:` that is to come, the outermost first
abbrev pub waits : List Frame → List ℕ
waits [] = []
waits (asked p c ∷ fs) = waits fs ++ suc (length fs) ∷ []
waits (answered p c a ∷ fs) = waits fs
waits (preferred p a ∷ fs) = waits fs

push_not_nil : (xs : List ℕ) (x : ℕ) → xs ++ x ∷ [] ≡ [] → ⊥
push_not_nil [] x e = absurd cc
push_not_nil (y ∷ ys) x e = absurd cc

record LastAt (xs ys : List ℕ) (x y : ℕ) : Type 0 where
  pub front : xs ≡ ys
  pub last : x ≡ y

last_at : (xs ys : List ℕ) (x y : ℕ) → xs ++ x ∷ [] ≡ ys ++ y ∷ [] → LastAt xs ys x y
last_at [] [] x y e = record { front = refl; last = cc }
last_at [] (b ∷ ys) x y e = absurd (push_not_nil ys y (let f : [] ≡ ys ++ y ∷ [] = cc in sym f))
last_at (a ∷ xs) [] x y e = absurd (push_not_nil xs x (let f : xs ++ x ∷ [] ≡ [] = cc in f))
last_at (a ∷ xs) (b ∷ ys) x y e = let r = last_at xs ys x y (let f : xs ++ x ∷ [] ≡ ys ++ y ∷ [] = cc in f) in record { front = (let g : a ≡ b = cc in ap (λ z. z ∷ xs) g ∙ ap (λ l. b ∷ l) r.front); last = r.last }

pub record TurnedAt (fs : List Frame) (xs : List ℕ) (n : ℕ) : Type 0 where
  pub left : waits fs ≡ xs
  pub nested : length fs ≡ n

pub turned_at : (q : Place) (fs : List Frame) (e : Tree) (xs : List ℕ) (n : ℕ) → waits fs ≡ xs ++ n ∷ [] → TurnedAt (turned q fs e) xs n
turned_at q [] e xs n h = absurd (push_not_nil xs n (sym h))
turned_at q (asked p c ∷ fs) e xs n h = let r = last_at (waits fs) xs (suc (length fs)) n h in record { left = r.front; nested = r.last }
turned_at q (answered p c a ∷ fs) e xs n h = turned_at q fs (tree.conditional p c a e) xs n h
turned_at q (preferred p a ∷ fs) e xs n h = turned_at q fs (tree.elvis p a e) xs n h

turns : (d : ℕ) (fs : List Frame) (e : Tree) (xs : List ℕ) (n : ℕ) (ts after : List Lexeme) (p : Place) (o : Out Lexeme Tree) → waits fs ≡ xs ++ n ∷ [] → Takes colon ts (point p) after → Outcome (operand_then d (turned p fs e)) after o → Outcome (rest d fs e) ts o
turns d [] e xs n ts after p o h k q = absurd (push_not_nil xs n (sym h))
turns d (asked r c ∷ fs) e xs n ts after p o h k q = grouped (took refl k (grouped (inside d fs (rest d (answered r c e ∷ fs)) after o q)))
turns d (answered r c a ∷ fs) e xs n ts after p o h k q = seq ret (turns d fs (tree.conditional r c a e) xs n ts after p o h k q)
turns d (preferred r a ∷ fs) e xs n ts after p o h k q = seq ret (turns d fs (tree.elvis r a e) xs n ts after p o h k q)

pub else_goes : (d : ℕ) (fs : List Frame) (e : Tree) (xs : List ℕ) (n : ℕ) (ts after : List Lexeme) (p : Place) → waits fs ≡ xs ++ n ∷ [] → Takes colon ts (point p) after → Going (operand_then d (turned p fs e)) after (after_operand d fs e) ts
else_goes d fs e xs n ts after p h k o q =
    let f : no_next question ts ≡ true = subst (λ x. no_next question x ≡ true) (sym (a_mark m.Colon k)) refl in
    let g : no_next elvis ts ≡ true = subst (λ x. no_next elvis x ≡ true) (sym (a_mark m.Colon k)) refl in
    quiet d fs e ts o f g (turns d fs e xs n ts after p o h k q)

-- ---- the end

all_ended : (d : ℕ) (fs : List Frame) (e : Tree) (ts : List Lexeme) → waits fs ≡ [] → Outcome (rest d fs e) ts (got (ended fs e) ts (length ts))
all_ended d [] e ts h = ret
all_ended d (asked p c ∷ fs) e ts h = absurd (push_not_nil (waits fs) (suc (length fs)) h)
all_ended d (answered p c a ∷ fs) e ts h = seq ret (all_ended d fs (tree.conditional p c a e) ts h)
all_ended d (preferred p a ∷ fs) e ts h = seq ret (all_ended d fs (tree.elvis p a e) ts h)

still_asked : (d : ℕ) (fs : List Frame) (e : Tree) (ts : List Lexeme) → (waits fs ≡ [] → ⊥) → no_next colon ts ≡ true → Outcome (rest d fs e) ts (unexpected (length ts))
still_asked d [] e ts h k = absurd (h refl)
still_asked d (asked p c ∷ fs) e ts h k = fails (off k)
still_asked d (answered p c a ∷ fs) e ts h k = seq ret (still_asked d fs (tree.conditional p c a e) ts h k)
still_asked d (preferred p a ∷ fs) e ts h k = seq ret (still_asked d fs (tree.elvis p a e) ts h k)

-- ---- over the list in memory

pub record State : Type 0 where
  pub frames : List Frame
  pub expr : Tree

abbrev pub state : List Frame → Tree → List BranchTree → State
state fs e [] = record { frames = fs; expr = e }
state fs e (x ∷ xs) = state (framed x.place x.operator fs e) x.expr xs

abbrev pub with_branch : BranchTree → State → State
with_branch x s = record { frames = framed x.place x.operator s.frames s.expr; expr = x.expr }

state_push : (fs : List Frame) (e : Tree) (xs : List BranchTree) (x : BranchTree) → state fs e (xs ++ x ∷ []) ≡ with_branch x (state fs e xs)
state_push fs e [] x = refl
state_push fs e (y ∷ ys) x = state_push (framed y.place y.operator fs e) y.expr ys x

state_ends : (fs : List Frame) (e : Tree) (xs : List BranchTree) → conditional fs e xs ≡ ended (state fs e xs).frames (state fs e xs).expr
state_ends fs e [] = refl
state_ends fs e (x ∷ xs) = state_ends (framed x.place x.operator fs e) x.expr xs

-- what was read so far, the numbers that were kept, and what is left
pub record Reading (d : ℕ) (s : State) (nested : ℕ) (kept : List ℕ) (ts us : List Lexeme) : Type 0 where
  pub leads : Going (after_operand d s.frames s.expr) ts (rule (Expr d 0)) us
  pub waiting : waits s.frames ≡ kept
  pub depth : length s.frames ≡ nested

pub first_read : (d : ℕ) (e : Tree) (ts us : List Lexeme) → Outcome (rule (Operands d band.Or)) us (got e ts (length ts)) → Reading d (state [] e []) 0 [] ts us
first_read d e ts us p = record { leads = begins d e ts us p; waiting = refl; depth = refl }

within : (n : ℕ) → row.past_chain n ≡ false → n < 256
within n e = leb-false 256 n e

beyond : (n : ℕ) → row.past_chain n ≡ true → 256 ≤ n
beyond n e = leb-true 256 n e

-- what comes after the operator leads to how the whole ends
module _ (d : ℕ) (fs : List Frame) (e : Tree) (nested : ℕ) (kept : List ℕ) (ts after us : List Lexeme) (p : Place) where
  abbrev pub here : ℕ → Type 0
  here n = Reading d (record { frames = fs; expr = e }) n kept ts us

  pub branch_goes : (next : ℕ) (left : List ℕ) (operator : BranchOperator) (due : Bool) → past_branch operator nested ≡ false → (due ≡ true → kept ≡ [] → ⊥) → TakesBranch due operator ts p after → Nests operator kept nested left next → here nested → Going (operand_then d (framed p operator fs e)) after (rule (Expr d 0)) us
  branch_goes next left Then due few some k n r o q = r.leads o (then_goes d fs e ts after p k.0 (subst (λ x. x < 256) (sym r.depth) (within nested few)) o q)
  branch_goes next left Elvis due few some k n r o q = r.leads o (elvis_goes d fs e ts after p k.0 (subst (λ x. x < 256) (sym r.depth) (within nested few)) o q)
  branch_goes next left Else due few some k n r o q = r.leads o (else_goes d fs e left next ts after p (r.waiting ∙ pending kept (some k.1) n) k.0 o q)
    where
      pending : (xs : List ℕ) → (xs ≡ [] → ⊥) → Nests Else xs nested left next → xs ≡ left ++ next ∷ []
      pending [] h g = absurd (h refl)
      pending (x ∷ xs) h g = g

  pub branch_dives : (operator : BranchOperator) (due : Bool) → past_branch operator nested ≡ true → TakesBranch due operator ts p after → here nested → Outcome (rule (Expr d 0)) us (too_deep (length ts))
  branch_dives Then due many k r = r.leads (too_deep (length ts)) (then_dives d fs e ts after p k.0 (subst (λ x. 256 ≤ x) (sym r.depth) (beyond nested many)))
  branch_dives Elvis due many k r = r.leads (too_deep (length ts)) (elvis_dives d fs e ts after p k.0 (subst (λ x. 256 ≤ x) (sym r.depth) (beyond nested many)))
  branch_dives Else due many k r = absurd cc

  -- with the next operand
  pub branch_read : (next : ℕ) (left : List ℕ) (operator : BranchOperator) (due : Bool) (x : Tree) (r2 : List Lexeme) → past_branch operator nested ≡ false → (due ≡ true → kept ≡ [] → ⊥) → TakesBranch due operator ts p after → Nests operator kept nested left next → here nested → Outcome (rule (Operands d band.Or)) after (got x r2 (length r2)) → Reading d (record { frames = framed p operator fs e; expr = x }) next left r2 us
  branch_read next left Then due x r2 few some k n r q = record { leads = λ o g. branch_goes next left Then due few some k n r o (seq q g); waiting = ap (λ l. l ++ suc (length fs) ∷ []) r.waiting ∙ ap (λ i. kept ++ suc i ∷ []) r.depth ∙ sym n.0; depth = ap suc r.depth ∙ sym n.1 }
  branch_read next left Elvis due x r2 few some k n r q = record { leads = λ o g. branch_goes next left Elvis due few some k n r o (seq q g); waiting = r.waiting ∙ sym n.0; depth = ap suc r.depth ∙ sym n.1 }
  branch_read next left Else due x r2 few some k n r q =
      let h = turned_at p fs e left next (r.waiting ∙ pending kept (some k.1) n) in
      record { leads = λ o g. branch_goes next left Else due few some k n r o (seq q g); waiting = h.left; depth = h.nested }
    where
      pending : (xs : List ℕ) → (xs ≡ [] → ⊥) → Nests Else xs nested left next → xs ≡ left ++ next ∷ []
      pending [] h g = absurd (h refl)
      pending (x ∷ xs) h g = g

  pub branches_end : (due : Bool) → kept ≡ [] → NoBranch due ts → here nested → Outcome (rule (Expr d 0)) us (got (ended fs e) ts (length ts))
  branches_end due f n r = r.leads (got (ended fs e) ts (length ts)) (quiet d fs e ts (got (ended fs e) ts (length ts)) n.0 n.1 (all_ended d fs e ts (r.waiting ∙ f)))

  pub branch_missing : (due : Bool) → (kept ≡ [] → ⊥) → due ≡ true → NoBranch due ts → here nested → Outcome (rule (Expr d 0)) us (unexpected (length ts))
  branch_missing due f g n r = r.leads (unexpected (length ts)) (quiet d fs e ts (unexpected (length ts)) n.0 n.1 (still_asked d fs e ts (λ h. f (sym r.waiting ∙ h)) (n.2 g)))

-- ---- what was read, by the list in memory

abbrev pub seen : Tree → List Branch → State
seen a xs = state [] a (map view_branch xs)

seen_push : (a : Tree) (xs ys : List Branch) (y : Branch) → ys ≡ xs ++ y ∷ [] → seen a ys ≡ with_branch (view_branch y) (seen a xs)
seen_push a xs ys y e = ap (seen a) e ∙ ap (state [] a) (map_pushed xs) ∙ state_push [] a (map view_branch xs) (view_branch y)
  where
    map_pushed : (zs : List Branch) → map view_branch (zs ++ y ∷ []) ≡ map view_branch zs ++ view_branch y ∷ []
    map_pushed [] = refl
    map_pushed (z ∷ zs) = ap (λ l. view_branch z ∷ l) (map_pushed zs)

pub seen_none : (d : ℕ) (a : Tree) (xs : List Branch) (kept : List ℕ) (ts us : List Lexeme) → xs ≡ [] → kept ≡ [] → Outcome (rule (Operands d band.Or)) us (got a ts (length ts)) → Reading d (seen a xs) 0 kept ts us
seen_none d a xs kept ts us e f p = subst (λ l. Reading d (seen a l) 0 kept ts us) (sym e) (subst (λ k. Reading d (seen a []) 0 k ts us) (sym f) (first_read d a ts us p))

pub seen_next : (d : ℕ) (a : Tree) (xs ys : List Branch) (y : Branch) (nested next : ℕ) (kept left : List ℕ) (ts after r2 us : List Lexeme) (p : Place) (operator : BranchOperator) (due : Bool) (x : Tree) → past_branch operator nested ≡ false → (due ≡ true → kept ≡ [] → ⊥) → TakesBranch due operator ts p after → Nests operator kept nested left next → ys ≡ xs ++ y ∷ [] → view_branch y ≡ record { place = p; operator = operator; expr = x } → Outcome (rule (Operands d band.Or)) after (got x r2 (length r2)) → Reading d (seen a xs) nested kept ts us → Reading d (seen a ys) next left r2 us
seen_next d a xs ys y nested next kept left ts after r2 us p operator due x few some k n e f q r =
    let s = seen a xs in
    subst (λ z. Reading d z next left r2 us) (sym (seen_push a xs ys y e ∙ ap (λ z. with_branch z s) f))
    (branch_read d s.frames s.expr nested kept ts after us p next left operator due x r2 few some k n r q)

pub seen_ends : (d : ℕ) (a e : Tree) (xs : List Branch) (nested : ℕ) (kept : List ℕ) (ts us : List Lexeme) (due : Bool) → kept ≡ [] → NoBranch due ts → e ≡ conditional [] a (map view_branch xs) → Reading d (seen a xs) nested kept ts us → Outcome (rule (Expr d 0)) us (got e ts (length ts))
seen_ends d a e xs nested kept ts us due f n g r =
    let s = seen a xs in
    subst (λ z. Outcome (rule (Expr d 0)) us (got z ts (length ts))) (sym (g ∙ state_ends [] a (map view_branch xs))) (branches_end d s.frames s.expr nested kept ts [] us (record { line = 0; col = 0 }) due f n r)

turned_le : (q : Place) (fs : List Frame) (e : Tree) → length fs ≤ 256 → length (turned q fs e) ≤ 256
turned_le q [] e few = omega arith
turned_le q (asked p c ∷ fs) e few = few
turned_le q (answered p c a ∷ fs) e few = turned_le q fs (tree.conditional p c a e) (omega (arith, few))
turned_le q (preferred p a ∷ fs) e few = turned_le q fs (tree.elvis p a e) (omega (arith, few))

-- so many stand round what comes after an operator within the limit
pub next_within : (d : ℕ) (a : Tree) (xs ys : List Branch) (y : Branch) (nested next : ℕ) (kept left : List ℕ) (ts r2 us : List Lexeme) (p : Place) (operator : BranchOperator) (x : Tree) → past_branch operator nested ≡ false → nested ≤ 256 → ys ≡ xs ++ y ∷ [] → view_branch y ≡ record { place = p; operator = operator; expr = x } → Reading d (seen a xs) nested kept ts us → Reading d (seen a ys) next left r2 us → next ≤ 256
next_within d a xs ys y nested next kept left ts r2 us p operator x few le e f old new =
    let s = seen a xs in
    let h : length (framed p operator s.frames s.expr) ≡ next = subst (λ z. length z.frames ≡ next) (seen_push a xs ys y e ∙ ap (λ z. with_branch z s) f) new.depth in
    by_mark operator s.frames s.expr few old.depth h
  where
    by_mark : (k : BranchOperator) (fs : List Frame) (v : Tree) → past_branch k nested ≡ false → length fs ≡ nested → length (framed p k fs v) ≡ next → next ≤ 256
    by_mark Then fs v g h i = let j = within nested g in omega (arith, h, i, j)
    by_mark Elvis fs v g h i = let j = within nested g in omega (arith, h, i, j)
    by_mark Else fs v g h i = let j = turned_le p fs v (omega (arith, h, le)) in omega (arith, i, j)

pub missing_at : (d : ℕ) (a : Tree) (xs : List Branch) (nested : ℕ) (kept : List ℕ) (ts us : List Lexeme) (due : Bool) → (due ≡ false → kept ≡ []) → (kept ≡ [] → ⊥) → NoBranch due ts → Reading d (seen a xs) nested kept ts us → Outcome (rule (Expr d 0)) us (unexpected (length ts))
missing_at d a xs nested kept ts us false f g n r = absurd (g (f refl))
missing_at d a xs nested kept ts us true f g n r = branch_missing d (seen a xs).frames (seen a xs).expr nested kept ts [] us (record { line = 0; col = 0 }) true g refl n r

-- ---- the same, by the list in memory

pub seen_goes : (d : ℕ) (a : Tree) (xs : List Branch) (nested next : ℕ) (kept left : List ℕ) (ts after us : List Lexeme) (p : Place) (operator : BranchOperator) (due : Bool) → past_branch operator nested ≡ false → (due ≡ true → kept ≡ [] → ⊥) → TakesBranch due operator ts p after → Nests operator kept nested left next → Reading d (seen a xs) nested kept ts us → (o : Out Lexeme Tree) → IsStop o → Outcome (rule (Operands d band.Or)) after o → Outcome (rule (Expr d 0)) us o
seen_goes d a xs nested next kept left ts after us p operator due few some k n r o s q = branch_goes d (seen a xs).frames (seen a xs).expr nested kept ts after us p next left operator due few some k n r o (stop o s q)

pub seen_dives : (d : ℕ) (a : Tree) (xs : List Branch) (nested : ℕ) (kept : List ℕ) (ts after us : List Lexeme) (p : Place) (operator : BranchOperator) (due : Bool) → past_branch operator nested ≡ true → TakesBranch due operator ts p after → Reading d (seen a xs) nested kept ts us → Outcome (rule (Expr d 0)) us (too_deep (length ts))
seen_dives d a xs nested kept ts after us p operator due many k r = branch_dives d (seen a xs).frames (seen a xs).expr nested kept ts after us p operator due many k r

-- an operator is one token
pub branch_shorter : (due : Bool) (operator : BranchOperator) (ts after : List Lexeme) (p : Place) → TakesBranch due operator ts p after → length ts ≡ suc (length after)
branch_shorter due Then ts after p k = ap length k.0.2
branch_shorter due Else ts after p k = ap length k.0.2
branch_shorter due Elvis ts after p k = ap length k.0.2
