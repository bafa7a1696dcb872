-- The text of a conditional expression: from the list in memory to the tree.
use Rattle.std.proofs.Common.{◌≡◌, ℕ, zero, suc, Bool, true, false, List, [], ◌∷◌, ◌++◌, refl, sym, ap, ◌∙◌}
use Rattle.std.specs.Prelude.{◌&&◌, not}
use Rattle.std.proofs.lemmas.List.{append_assoc, append-nil}
use Rattle.nf_value.specs.declared.place.Place.{Place}
use Rattle.nf_token.specs.declared.token.Mark.TheVariants as m
use Rattle.nf_ast.specs.declared.operators.BranchOperator.{BranchOperator}
use Rattle.nf_ast.specs.declared.operators.BranchOperator.TheVariants.{Then, Else, Elvis}
use Rattle.nf_ast.specs.Tree as tree
use Rattle.nf_ast.specs.Tree.{Tree}
use Rattle.nf_ast.specs.View.{Frame, asked, answered, preferred, ended, turned, framed, BranchTree, conditional}
use Rattle.nf_writer.specs.Ink.{Ink, mark, spaced}
use Rattle.nf_printer.specs.Levels.{needs, within}
use Rattle.nf_writer.specs.Lines.{Layout}
use Rattle.nf_printer.specs.Exprs.{inks}
use Rattle.nf_printer.specs.Chains.{bracket, is_late, asked_after, opens_late, none_late, colons, is_held, branches_inks}
use Rattle.nf_printer.proofs.Lists.{and_true, and_false, shift}

-- how many conditions wait for their `:`
abbrev pub waiting : List Frame → ℕ
waiting [] = zero
waiting (asked p c ∷ fs) = suc (waiting fs)
waiting (answered p c a ∷ fs) = waiting fs
waiting (preferred p a ∷ fs) = waiting fs

abbrev pub begun : List Frame → Bool
begun [] = false
begun (f ∷ fs) = true

-- the first name of all stands in the outermost frame
abbrev pub inner_guard : List Frame → Bool → Bool
inner_guard [] g = g
inner_guard (f ∷ fs) g = false

-- an operand before an operator
abbrev pub held_inks : Bool → Tree → Layout → Bool → List Ink
held_inks held e l g = within held (inks e l (g && not held))

-- the text up to the operand that comes
abbrev pub before : List Frame → Layout → Bool → List Ink
before [] l g = []
before (asked p c ∷ fs) l g = before fs l g ++ (held_inks (needs 1 c) c l (inner_guard fs g) ++ spaced (mark m.Question))
before (answered p c a ∷ fs) l g = before fs l g ++ (held_inks (needs 1 c) c l (inner_guard fs g) ++ spaced (mark m.Question) ++ inks a l false ++ spaced (mark m.Colon))
before (preferred p a ∷ fs) l g = before fs l g ++ (held_inks (needs 1 a) a l (inner_guard fs g) ++ spaced (mark m.Elvis))

ended_text : (fs : List Frame) (e : Tree) (l : Layout) (g : Bool) → inks (ended fs e) l g ≡ before fs l g ++ inks e l (inner_guard fs g) ++ colons (waiting fs)
ended_text [] e l g = sym (append-nil (inks e l g))
ended_text (asked p c ∷ fs) e l g =
    let h = held_inks (needs 1 c) c l (inner_guard fs g) in
    let q = spaced (mark m.Question) in
    let k = spaced (mark m.Colon) in
    let all : before fs l g ++ (h ++ q ++ inks e l false ++ k ++ []) ++ colons (waiting fs) ≡ before fs l g ++ (h ++ q) ++ inks e l false ++ (k ++ colons (waiting fs)) = simp (append_assoc, append-nil) in
    ended_text fs (tree.conditional p c e tree.empty) l g ∙ all
ended_text (answered p c a ∷ fs) e l g =
    let h = held_inks (needs 1 c) c l (inner_guard fs g) in
    let q = spaced (mark m.Question) in
    let k = spaced (mark m.Colon) in
    let all : before fs l g ++ (h ++ q ++ inks a l false ++ k ++ inks e l false) ++ colons (waiting fs) ≡ before fs l g ++ (h ++ q ++ inks a l false ++ k) ++ inks e l false ++ colons (waiting fs) = simp append_assoc in
    ended_text fs (tree.conditional p c a e) l g ∙ all
ended_text (preferred p a ∷ fs) e l g =
    let h = held_inks (needs 1 a) a l (inner_guard fs g) in
    let q = spaced (mark m.Elvis) in
    let all : before fs l g ++ (h ++ q ++ inks e l false) ++ colons (waiting fs) ≡ before fs l g ++ (h ++ q) ++ inks e l false ++ colons (waiting fs) = simp append_assoc in
    ended_text fs (tree.elvis p a e) l g ∙ all

-- ---- a `:` that a condition waits for

pub record Turned (q : Place) (fs : List Frame) (e : Tree) (n : ℕ) : Type 0 where
  pub text : (l : Layout) (g : Bool) → before (turned q fs e) l g ≡ before fs l g ++ (inks e l (inner_guard fs g) ++ spaced (mark m.Colon))
  pub waits : waiting (turned q fs e) ≡ n
  pub goes : begun (turned q fs e) ≡ true
  pub guard : (g : Bool) → inner_guard (turned q fs e) g ≡ false

pub turns : (q : Place) (fs : List Frame) (e : Tree) (n : ℕ) → waiting fs ≡ suc n → Turned q fs e n
turns q [] e n h = absurd cc
turns q (asked p c ∷ fs) e n h = record {
  text = λ l g. simp append_assoc;
  waits = (let k : waiting fs ≡ n = cc in k);
  goes = refl;
  guard = λ g. refl;
}
turns q (answered p c a ∷ fs) e n h =
    let r = turns q fs (tree.conditional p c a e) n h in
    record { text = λ l g. r.text l g ∙ simp append_assoc; waits = r.waits; goes = r.goes; guard = r.guard }
turns q (preferred p a ∷ fs) e n h =
    let r = turns q fs (tree.elvis p a e) n h in
    record { text = λ l g. r.text l g ∙ simp append_assoc; waits = r.waits; goes = r.goes; guard = r.guard }

-- ---- a `:` that no condition waits for

pub turned_late : (q : Place) (fs : List Frame) (e : Tree) → waiting fs ≡ zero → turned q fs e ≡ preferred q (ended fs e) ∷ []
turned_late q [] e h = refl
turned_late q (asked p c ∷ fs) e h = absurd cc
turned_late q (answered p c a ∷ fs) e h = turned_late q fs (tree.conditional p c a e) h
turned_late q (preferred p a ∷ fs) e h = turned_late q fs (tree.elvis p a e) h

pub ended_needs : (f : Frame) (fs : List Frame) (e : Tree) → needs 1 (ended (f ∷ fs) e) ≡ true
ended_needs (asked p c) [] e = refl
ended_needs (answered p c a) [] e = refl
ended_needs (preferred p a) [] e = refl
ended_needs (asked p c) (f ∷ fs) e = ended_needs f fs (tree.conditional p c e tree.empty)
ended_needs (answered p c a) (f ∷ fs) e = ended_needs f fs (tree.conditional p c a e)
ended_needs (preferred p a) (f ∷ fs) e = ended_needs f fs (tree.elvis p a e)

-- ---- the whole

-- what stands from an operand on
abbrev pub from_operand : Tree → List BranchTree → ℕ → Bool → Layout → Bool → List Ink
from_operand e xs n b l g = held_inks (is_held e xs n b) e l g ++ branches_inks xs n b l

late_one : (xs : List BranchTree) (n : ℕ) (b : Bool) → opens_late xs n b ++ mark m.OpenRound ∷ [] ≡ mark m.OpenRound ∷ opens_late xs n b
late_one [] n b = refl
late_one (x ∷ xs) n b = one (is_late x.operator n b) (opens_late xs (asked_after x.operator n) true) (late_one xs (asked_after x.operator n) true)
  where
    one : (c : Bool) (ys : List Ink) → ys ++ mark m.OpenRound ∷ [] ≡ mark m.OpenRound ∷ ys → bracket c m.OpenRound ++ ys ++ mark m.OpenRound ∷ [] ≡ mark m.OpenRound ∷ (bracket c m.OpenRound ++ ys)
    one true ys h = ap (λ v. mark m.OpenRound ∷ v) h
    one false ys h = h

-- the text of a conditional expression from its frames on
abbrev pub IsText : List BranchTree → List Frame → Tree → Tree → ℕ → Bool → Layout → Bool → Type 0
IsText xs fs e whole n b l g = inks whole l g ≡ opens_late xs n b ++ before fs l (g && none_late xs n b) ++ from_operand e xs n b l (inner_guard fs (g && none_late xs n b))

-- the operator belongs to what stands before the next operand
joined : (o b h q w t : List Ink) → o ++ (b ++ (h ++ q)) ++ (w ++ t) ≡ o ++ b ++ (h ++ (q ++ w ++ t))
joined o b h q w t = simp append_assoc

module _ (p : Place) (t : Tree) (xs : List BranchTree) (fs : List Frame) (e : Tree) (l : Layout) (g : Bool) (ih : (fs : List Frame) (n : ℕ) (b : Bool) → waiting fs ≡ n → begun fs ≡ b → IsText xs fs t (conditional fs t xs) n b l g) where
  after_then : (n : ℕ) (b : Bool) → waiting fs ≡ n → IsText (record { place = p; operator = Then; expr = t } ∷ xs) fs e (conditional (asked p e ∷ fs) t xs) n b l g
  after_then n b h =
      let k = g && none_late xs (suc n) true in
      ih (asked p e ∷ fs) (suc n) true (ap suc h) refl ∙ joined (opens_late xs (suc n) true) (before fs l k) (held_inks (needs 1 e) e l (inner_guard fs k)) (spaced (mark m.Question)) (held_inks (is_held t xs (suc n) true) t l false) (branches_inks xs (suc n) true l)

  after_elvis : (n : ℕ) (b : Bool) → waiting fs ≡ n → IsText (record { place = p; operator = Elvis; expr = t } ∷ xs) fs e (conditional (preferred p e ∷ fs) t xs) n b l g
  after_elvis n b h =
      let k = g && none_late xs n true in
      ih (preferred p e ∷ fs) n true h refl ∙ joined (opens_late xs n true) (before fs l k) (held_inks (needs 1 e) e l (inner_guard fs k)) (spaced (mark m.Elvis)) (held_inks (is_held t xs n true) t l false) (branches_inks xs n true l)

  after_else : (n : ℕ) (b : Bool) → waiting fs ≡ suc n → IsText (record { place = p; operator = Else; expr = t } ∷ xs) fs e (conditional (turned p fs e) t xs) (suc n) b l g
  after_else n b h =
      let r = turns p fs e n h in
      let k = g && none_late xs n true in
      let o = opens_late xs n true in
      let w = held_inks (is_held t xs n true) t l false in
      let c = spaced (mark m.Colon) in
      ih (turned p fs e) n true r.waits r.goes
      ∙ ap (λ v. o ++ v ++ from_operand t xs n true l (inner_guard (turned p fs e) k)) (r.text l k)
      ∙ ap (λ v. o ++ (before fs l k ++ (inks e l (inner_guard fs k) ++ c)) ++ from_operand t xs n true l v) (r.guard k)
      ∙ joined o (before fs l k) (inks e l (inner_guard fs k)) c w (branches_inks xs n true l)
      ∙ ap (λ v. o ++ before fs l k ++ (inks e l v ++ (c ++ w ++ branches_inks xs n true l))) (sym (and_true (inner_guard fs k)))

late_text : (p : Place) (t : Tree) (xs : List BranchTree) (fs : List Frame) (e : Tree) (l : Layout) (g b : Bool) → ((fs : List Frame) (n : ℕ) (b : Bool) → waiting fs ≡ n → begun fs ≡ b → IsText xs fs t (conditional fs t xs) n b l g) → waiting fs ≡ zero → begun fs ≡ b → IsText (record { place = p; operator = Else; expr = t } ∷ xs) fs e (conditional (turned p fs e) t xs) zero b l g
late_text p t xs [] e l g true ih h k = absurd cc
late_text p t xs [] e l g false ih h k =
    let j = g && none_late xs zero true in
    ih (preferred p e ∷ []) zero true refl refl ∙ joined (opens_late xs zero true) [] (held_inks (needs 1 e) e l j) (spaced (mark m.Elvis)) (held_inks (is_held t xs zero true) t l false) (branches_inks xs zero true l)
late_text p t xs (f ∷ fs) e l g false ih h k = absurd cc
late_text p t xs (f ∷ fs) e l g true ih h k =
    let j = g && none_late xs zero true in
    let o = opens_late xs zero true in
    let q = spaced (mark m.Elvis) in
    let w = held_inks (is_held t xs zero true) t l false in
    let r = branches_inks xs zero true l in
    let whole = ended (f ∷ fs) e in
    let b = before (f ∷ fs) l false in
    let i = inks e l false in
    let inner : inks whole l (j && false) ≡ b ++ i = ap (inks whole l) (and_false j) ∙ ended_text (f ∷ fs) e l false ∙ ap (λ n. b ++ i ++ colons n) h ∙ append-nil (b ++ i) in
    let open_ = mark m.OpenRound in
    let close = mark m.CloseRound in
    let last : (o ++ ((open_ ∷ (b ++ i) ++ close ∷ []) ++ q)) ++ (w ++ r) ≡ o ++ open_ ∷ (b ++ (i ++ ((close ∷ q) ++ w ++ r))) = simp append_assoc in
    let due : (open_ ∷ o) ++ b ++ (i ++ ((close ∷ q) ++ w ++ r)) ≡ open_ ∷ (o ++ (b ++ (i ++ ((close ∷ q) ++ w ++ r)))) = ap (λ v. open_ ∷ v) (append_assoc o b (i ++ ((close ∷ q) ++ w ++ r))) in
    let guard : g && false ≡ false = and_false g in
    ap (λ fs. inks (conditional fs t xs) l g) (turned_late p (f ∷ fs) e h)
    ∙ ih (preferred p whole ∷ []) zero true refl refl
    ∙ ap (λ v. o ++ (within v (inks whole l (j && not v)) ++ q) ++ (w ++ r)) (ended_needs f fs e)
    ∙ ap (λ v. o ++ ((open_ ∷ v ++ close ∷ []) ++ q) ++ (w ++ r)) inner
    ∙ last
    ∙ shift o (b ++ (i ++ ((close ∷ q) ++ w ++ r))) open_ (late_one xs zero true)
    ∙ sym due
    ∙ ap (λ v. (open_ ∷ o) ++ before (f ∷ fs) l v ++ (i ++ ((close ∷ q) ++ w ++ r))) (sym guard)

step : (p : Place) (k : BranchOperator) (t : Tree) (xs : List BranchTree) (fs : List Frame) (e : Tree) (n : ℕ) (b : Bool) (l : Layout) (g : Bool) → ((fs : List Frame) (n : ℕ) (b : Bool) → waiting fs ≡ n → begun fs ≡ b → IsText xs fs t (conditional fs t xs) n b l g) → waiting fs ≡ n → begun fs ≡ b → IsText (record { place = p; operator = k; expr = t } ∷ xs) fs e (conditional (framed p k fs e) t xs) n b l g
step p Then t xs fs e n b l g ih h k = after_then p t xs fs e l g ih n b h
step p Elvis t xs fs e n b l g ih h k = after_elvis p t xs fs e l g ih n b h
step p Else t xs fs e zero b l g ih h k = late_text p t xs fs e l g b ih h k
step p Else t xs fs e (suc n) b l g ih h k = after_else p t xs fs e l g ih n b h

all_text : (xs : List BranchTree) (fs : List Frame) (e : Tree) (n : ℕ) (b : Bool) (l : Layout) (g : Bool) → waiting fs ≡ n → begun fs ≡ b → IsText xs fs e (conditional fs e xs) n b l g
all_text [] fs e n b l g h k =
    let one : before fs l g ++ inks e l (inner_guard fs g) ++ colons n ≡ before fs l g ++ (inks e l (inner_guard fs g && true) ++ colons n) = append_assoc (before fs l g) (inks e l (inner_guard fs g)) (colons n) ∙ ap (λ v. before fs l g ++ (inks e l v ++ colons n)) (sym (and_true (inner_guard fs g))) in
    ended_text fs e l g ∙ ap (λ v. before fs l g ++ inks e l (inner_guard fs g) ++ colons v) h ∙ one ∙ ap (λ v. before fs l v ++ (inks e l (inner_guard fs v && true) ++ colons n)) (sym (and_true g))
all_text (x ∷ xs) fs e n b l g h k = step x.place x.operator x.expr xs fs e n b l g (λ fs n b. all_text xs fs x.expr n b l g) h k

pub branches_text : (e : Tree) (xs : List BranchTree) (l : Layout) (g : Bool) → inks (conditional [] e xs) l g ≡ opens_late xs zero false ++ (within (is_held e xs zero false) (inks e l ((g && none_late xs zero false) && not (is_held e xs zero false))) ++ branches_inks xs zero false l)
branches_text e xs l g = all_text xs [] e zero false l g refl refl ∙ simp append-nil
