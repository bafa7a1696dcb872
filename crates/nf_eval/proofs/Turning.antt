-- How a conditional expression is read from the left.
use Rattle.std.proofs.Common.{◌≡◌, ◌∙◌, ℕ, suc, Bool, true, false, List, [], ◌∷◌, Ok, Err, refl, sym, ap, subst}
use Rattle.std.specs.Prelude.{Option, Some, None, if◌then◌else◌}
use Rattle.nf_value.specs.Plain.{Plain}
use Rattle.nf_value.specs.Truth.{truth_of}
use Rattle.nf_value.specs.declared.place.Place.{Place}
use Rattle.nf_value.specs.declared.value.Value.{Value}
use Rattle.nf_value.specs.declared.fault.EvalFault.{EvalFault}
use Rattle.nf_value.specs.declared.fault.EvalKind.TheVariants.{WrongKind}
use Rattle.nf_ast.specs.declared.operators.BranchOperator.{BranchOperator}
use Rattle.nf_ast.specs.declared.operators.BranchOperator.TheVariants as branch
use Rattle.nf_ast.specs.Tree as tree
use Rattle.nf_ast.specs.Tree.{Tree}
use Rattle.nf_ast.specs.View.{BranchTree, Frame, asked, answered, preferred, ended, turned, framed, conditional}
use Rattle.nf_placed.specs.Placed.{Placed, ◌>>=◌, fault, Evaluates}
use Rattle.nf_placed.specs.Scope.{Env}
use Rattle.nf_eval.specs.Evaluation.{meaning_of, nowhere}
use Rattle.std.specs.Prelude.{Result}
use Rattle.nf_value.specs.declared.fault.EvalRefusal.{EvalRefusal}
use Rattle.nf_value.specs.declared.fault.EvalRefusal.TheVariants as refusal
use Rattle.nf_eval.specs.declared.turns.Turn.{Turn}
use Rattle.nf_eval.specs.Gives.{IsRefused}
use Rattle.nf_eval.specs.Turns.{Steps, IsTrueThere, IsFalseThere, Open, nothing_waits, true_asked, false_answered, false_preferred, Shut, chose_answer, chose_preferred, false_asked, more_asked, more_answered, more_preferred}

module _ (env : Env) where
  abbrev gives : Tree → Placed Plain
  gives e = (meaning_of e).value env

  chosen_by : Bool → Placed Plain → Placed Plain → Placed Plain
  chosen_by b x y = if b then x else y

  -- ---- one condition

  when_true : (p : Place) (c a b : Tree) → IsTrueThere c env → gives (tree.conditional p c a b) ≡ gives a
  when_true p c a b h = ap (λ (r : Placed Plain). r >>= λ v. if truth_of v then gives a else gives b) h.gives ∙ ap (λ (t : Bool). if t then gives a else gives b) h.holds

  when_false : (p : Place) (c a b : Tree) → IsFalseThere c env → gives (tree.conditional p c a b) ≡ gives b
  when_false p c a b h = ap (λ (r : Placed Plain). r >>= λ v. if truth_of v then gives a else gives b) h.gives ∙ ap (λ (t : Bool). if t then gives a else gives b) h.fails

  when_fault : (p : Place) (c a b : Tree) (x : EvalFault) → gives c ≡ Err x → gives (tree.conditional p c a b) ≡ Err x
  when_fault p c a b x h = ap (λ (r : Placed Plain). r >>= λ v. if truth_of v then gives a else gives b) h

  left_true : (p : Place) (a b : Tree) (v : Plain) → gives a ≡ Ok v → truth_of v ≡ true → gives (tree.elvis p a b) ≡ Ok v
  left_true p a b v h t = ap (λ (r : Placed Plain). r >>= λ v. if truth_of v then Ok v else gives b) h ∙ ap (λ (t : Bool). if t then Ok v else gives b) t

  left_false : (p : Place) (a b : Tree) → IsFalseThere a env → gives (tree.elvis p a b) ≡ gives b
  left_false p a b h = ap (λ (r : Placed Plain). r >>= λ v. if truth_of v then Ok v else gives b) h.gives ∙ ap (λ (t : Bool). if t then Ok h.of else gives b) h.fails

  left_fault : (p : Place) (a b : Tree) (x : EvalFault) → gives a ≡ Err x → gives (tree.elvis p a b) ≡ Err x
  left_fault p a b x h = ap (λ (r : Placed Plain). r >>= λ v. if truth_of v then Ok v else gives b) h

  -- ---- the end

  pub open_ends : (n : ℕ) (fs : List Frame) (e : Tree) → Open env n fs → gives (ended fs e) ≡ gives e
  open_ends n fs e nothing_waits = refl
  open_ends n fs e (true_asked m gs p c t h) = open_ends m gs (tree.conditional p c e tree.empty) h ∙ when_true p c e tree.empty t
  open_ends n fs e (false_answered m gs p c a t h) = open_ends m gs (tree.conditional p c a e) h ∙ when_false p c a e t
  open_ends n fs e (false_preferred m gs p a t h) = open_ends m gs (tree.elvis p a e) h ∙ left_false p a e t

  abbrev outcome : Option Plain → Placed Plain
  outcome (Some v) = Ok v
  outcome None = fault WrongKind nowhere

  pub shut_ends : (k : ℕ) (o : Option Plain) (n : ℕ) (fs : List Frame) (e : Tree) → Shut env k o n fs → gives (ended fs e) ≡ outcome o
  shut_ends k o n fs e (chose_answer m gs p c a v t is h) = open_ends m gs (tree.conditional p c a e) h ∙ when_true p c a e t ∙ is
  shut_ends k o n fs e (chose_preferred m gs p a v is t h) = open_ends m gs (tree.elvis p a e) h ∙ left_true p a e v is t
  shut_ends k o n fs e (false_asked m gs p c t h) = open_ends m gs (tree.conditional p c e tree.empty) h ∙ when_false p c e tree.empty t
  shut_ends k o n fs e (more_asked j q m gs p c h) = shut_ends j q m gs (tree.conditional p c e tree.empty) h
  shut_ends k o n fs e (more_answered j q m gs p c a h) = shut_ends j q m gs (tree.conditional p c a e) h
  shut_ends k o n fs e (more_preferred j q m gs p a h) = shut_ends j q m gs (tree.elvis p a e) h

  -- ---- `:`

  pub turn_open : (n : ℕ) (fs : List Frame) (q : Place) (e : Tree) (v : Plain) → gives e ≡ Ok v → Open env (suc n) fs → Shut env 0 (Some v) n (turned q fs e)
  turn_open n fs q e v is (true_asked m gs p c t h) = chose_answer m gs p c e v t is h
  turn_open n fs q e v is (false_answered m gs p c a t h) = turn_open n gs q (tree.conditional p c a e) v (when_false p c a e t ∙ is) h
  turn_open n fs q e v is (false_preferred m gs p a t h) = turn_open n gs q (tree.elvis p a e) v (left_false p a e t ∙ is) h

  -- at the bottom, where it stands for `?:`
  pub turn_true : (fs : List Frame) (q : Place) (e : Tree) (v : Plain) → gives e ≡ Ok v → truth_of v ≡ true → Open env 0 fs → Shut env 0 (Some v) 0 (turned q fs e)
  turn_true fs q e v is t nothing_waits = chose_preferred 0 [] q e v is t nothing_waits
  turn_true fs q e v is t (false_answered m gs p c a f h) = turn_true gs q (tree.conditional p c a e) v (when_false p c a e f ∙ is) t h
  turn_true fs q e v is t (false_preferred m gs p a f h) = turn_true gs q (tree.elvis p a e) v (left_false p a e f ∙ is) t h

  pub turn_false : (fs : List Frame) (q : Place) (e : Tree) (v : Plain) → gives e ≡ Ok v → truth_of v ≡ false → Open env 0 fs → Open env 0 (turned q fs e)
  turn_false fs q e v is t nothing_waits = false_preferred 0 [] q e (record { of = v; gives = is; fails = t }) nothing_waits
  turn_false fs q e v is t (false_answered m gs p c a f h) = turn_false gs q (tree.conditional p c a e) v (when_false p c a e f ∙ is) t h
  turn_false fs q e v is t (false_preferred m gs p a f h) = turn_false gs q (tree.elvis p a e) v (left_false p a e f ∙ is) t h

  pub turn_inner : (k : ℕ) (o : Option Plain) (n : ℕ) (fs : List Frame) (q : Place) (e : Tree) → Shut env (suc k) o n fs → Shut env k o n (turned q fs e)
  turn_inner k o n fs q e (more_asked j u m gs p c h) = more_answered j u m gs p c e h
  turn_inner k o n fs q e (more_answered j u m gs p c a h) = turn_inner k o n gs q (tree.conditional p c a e) h
  turn_inner k o n fs q e (more_preferred j u m gs p a h) = turn_inner k o n gs q (tree.elvis p a e) h

  pub turn_skipped : (n : ℕ) (fs : List Frame) (q : Place) (e : Tree) → Shut env 0 None n fs → Open env n (turned q fs e)
  turn_skipped n fs q e (false_asked m gs p c t h) = false_answered m gs p c e t h
  turn_skipped n fs q e (more_answered j u m gs p c a h) = turn_skipped n gs q (tree.conditional p c a e) h
  turn_skipped n fs q e (more_preferred j u m gs p a h) = turn_skipped n gs q (tree.elvis p a e) h

  -- a value that was chosen comes to the `:` as one that is needed
  pub record Back (v : Plain) (n : ℕ) (q : Place) (all : List Frame) : Type 0 where
    pub frames : List Frame
    pub expr : Tree
    pub waiting : Open env n frames
    pub is : gives expr ≡ Ok v
    pub same : all ≡ turned q frames expr

  pub turn_chosen : (v : Plain) (n : ℕ) (fs : List Frame) (q : Place) (e : Tree) → Shut env 0 (Some v) n fs → Back v n q (turned q fs e)
  turn_chosen v n fs q e (chose_answer m gs p c a w t is h) = record { frames = gs; expr = tree.conditional p c a e; waiting = h; is = when_true p c a e t ∙ is; same = refl }
  turn_chosen v n fs q e (chose_preferred m gs p a w is t h) = record { frames = gs; expr = tree.elvis p a e; waiting = h; is = left_true p a e v is t; same = refl }
  turn_chosen v n fs q e (more_answered j u m gs p c a h) = turn_chosen v n gs q (tree.conditional p c a e) h
  turn_chosen v n fs q e (more_preferred j u m gs p a h) = turn_chosen v n gs q (tree.elvis p a e) h

  -- ---- a fault of an operand that is needed

  data Spoilt (x : EvalFault) : List Frame → Type 0 where
    spoilt_asked : (n : ℕ) (fs : List Frame) (p : Place) (c : Tree) → gives c ≡ Err x → Open env n fs → Spoilt x (asked p c ∷ fs)
    spoilt_answered : (n : ℕ) (fs : List Frame) (p : Place) (c a : Tree) → gives c ≡ Err x → Open env n fs → Spoilt x (answered p c a ∷ fs)
    spoilt_answer : (n : ℕ) (fs : List Frame) (p : Place) (c a : Tree) → IsTrueThere c env → gives a ≡ Err x → Open env n fs → Spoilt x (answered p c a ∷ fs)
    spoilt_preferred : (n : ℕ) (fs : List Frame) (p : Place) (a : Tree) → gives a ≡ Err x → Open env n fs → Spoilt x (preferred p a ∷ fs)
    then_asked : (fs : List Frame) (p : Place) (c : Tree) → Spoilt x fs → Spoilt x (asked p c ∷ fs)
    then_answered : (fs : List Frame) (p : Place) (c a : Tree) → Spoilt x fs → Spoilt x (answered p c a ∷ fs)
    then_preferred : (fs : List Frame) (p : Place) (a : Tree) → Spoilt x fs → Spoilt x (preferred p a ∷ fs)

  spoilt_ends : (x : EvalFault) (fs : List Frame) (e : Tree) → Spoilt x fs → gives (ended fs e) ≡ Err x
  spoilt_ends x fs e (spoilt_asked n gs p c is h) = open_ends n gs (tree.conditional p c e tree.empty) h ∙ when_fault p c e tree.empty x is
  spoilt_ends x fs e (spoilt_answered n gs p c a is h) = open_ends n gs (tree.conditional p c a e) h ∙ when_fault p c a e x is
  spoilt_ends x fs e (spoilt_answer n gs p c a t is h) = open_ends n gs (tree.conditional p c a e) h ∙ when_true p c a e t ∙ is
  spoilt_ends x fs e (spoilt_preferred n gs p a is h) = open_ends n gs (tree.elvis p a e) h ∙ left_fault p a e x is
  spoilt_ends x fs e (then_asked gs p c s) = spoilt_ends x gs (tree.conditional p c e tree.empty) s
  spoilt_ends x fs e (then_answered gs p c a s) = spoilt_ends x gs (tree.conditional p c a e) s
  spoilt_ends x fs e (then_preferred gs p a s) = spoilt_ends x gs (tree.elvis p a e) s

  turn_fault : (x : EvalFault) (n : ℕ) (fs : List Frame) (q : Place) (e : Tree) → gives e ≡ Err x → Open env n fs → Spoilt x (turned q fs e)
  turn_fault x n fs q e is nothing_waits = spoilt_preferred 0 [] q e is nothing_waits
  turn_fault x n fs q e is (true_asked m gs p c t h) = spoilt_answer m gs p c e t is h
  turn_fault x n fs q e is (false_answered m gs p c a t h) = turn_fault x m gs q (tree.conditional p c a e) (when_false p c a e t ∙ is) h
  turn_fault x n fs q e is (false_preferred m gs p a t h) = turn_fault x m gs q (tree.elvis p a e) (left_false p a e t ∙ is) h

  turn_spoilt : (x : EvalFault) (fs : List Frame) (q : Place) (e : Tree) → Spoilt x fs → Spoilt x (turned q fs e)
  turn_spoilt x fs q e (spoilt_asked n gs p c is h) = spoilt_answered n gs p c e is h
  turn_spoilt x fs q e (spoilt_answered n gs p c a is h) = turn_fault x n gs q (tree.conditional p c a e) (when_fault p c a e x is) h
  turn_spoilt x fs q e (spoilt_answer n gs p c a t is h) = turn_fault x n gs q (tree.conditional p c a e) (when_true p c a e t ∙ is) h
  turn_spoilt x fs q e (spoilt_preferred n gs p a is h) = turn_fault x n gs q (tree.elvis p a e) (left_fault p a e x is) h
  turn_spoilt x fs q e (then_asked gs p c s) = then_answered gs p c e s
  turn_spoilt x fs q e (then_answered gs p c a s) = turn_spoilt x gs q (tree.conditional p c a e) s
  turn_spoilt x fs q e (then_preferred gs p a s) = turn_spoilt x gs q (tree.elvis p a e) s

  frame_spoilt : (x : EvalFault) (p : Place) (k : BranchOperator) (fs : List Frame) (e : Tree) → Spoilt x fs → Spoilt x (framed p k fs e)
  frame_spoilt x p branch.Then fs e s = then_asked fs p e s
  frame_spoilt x p branch.Else fs e s = turn_spoilt x fs p e s
  frame_spoilt x p branch.Elvis fs e s = then_preferred fs p e s

  frame_fault : (x : EvalFault) (n : ℕ) (p : Place) (k : BranchOperator) (fs : List Frame) (e : Tree) → gives e ≡ Err x → Open env n fs → Spoilt x (framed p k fs e)
  frame_fault x n p branch.Then fs e is h = spoilt_asked n fs p e is h
  frame_fault x n p branch.Else fs e is h = turn_fault x n fs p e is h
  frame_fault x n p branch.Elvis fs e is h = spoilt_preferred n fs p e is h

  spoilt_all : (x : EvalFault) (fs : List Frame) (e : Tree) (bs : List BranchTree) → Spoilt x fs → gives (conditional fs e bs) ≡ Err x
  spoilt_all x fs e [] s = spoilt_ends x fs e s
  spoilt_all x fs e (b ∷ bs) s = spoilt_all x (framed b.place b.operator fs e) b.expr bs (frame_spoilt x b.place b.operator fs e s)

  -- whatever comes after it
  pub fault_all : (x : EvalFault) (n : ℕ) (fs : List Frame) (e : Tree) (bs : List BranchTree) → gives e ≡ Err x → Open env n fs → gives (conditional fs e bs) ≡ Err x
  fault_all x n fs e [] is h = open_ends n fs e h ∙ is
  fault_all x n fs e (b ∷ bs) is h = spoilt_all x (framed b.place b.operator fs e) b.expr bs (frame_fault x n b.place b.operator fs e is h)

  -- ---- the state that the code keeps

  pub asked_true : (n m : ℕ) (v : Plain) (fs : List Frame) (p : Place) (e : Tree) → m ≡ suc n → truth_of v ≡ true → Open env n fs × (gives e ≡ Ok v) → Open env m (asked p e ∷ fs)
  asked_true n m v fs p e is t h = subst (λ (k : ℕ). Open env k (asked p e ∷ fs)) (sym is) (true_asked n fs p e (record { of = v; gives = h.1; holds = t }) h.0)

  pub asked_false : (n : ℕ) (v : Plain) (fs : List Frame) (p : Place) (e : Tree) → truth_of v ≡ false → Open env n fs × (gives e ≡ Ok v) → Shut env 0 None n (asked p e ∷ fs)
  asked_false n v fs p e t h = false_asked n fs p e (record { of = v; gives = h.1; fails = t }) h.0

  pub preferred_true : (n : ℕ) (v : Plain) (fs : List Frame) (p : Place) (e : Tree) → truth_of v ≡ true → Open env n fs × (gives e ≡ Ok v) → Shut env 0 (Some v) n (preferred p e ∷ fs)
  preferred_true n v fs p e t h = chose_preferred n fs p e v h.1 t h.0

  pub preferred_false : (n : ℕ) (v : Plain) (fs : List Frame) (p : Place) (e : Tree) → truth_of v ≡ false → Open env n fs × (gives e ≡ Ok v) → Open env n (preferred p e ∷ fs)
  preferred_false n v fs p e t h = false_preferred n fs p e (record { of = v; gives = h.1; fails = t }) h.0

  pub answered_open : (n m : ℕ) (v : Plain) (fs : List Frame) (p : Place) (e : Tree) → n ≡ suc m → Open env n fs × (gives e ≡ Ok v) → Shut env 0 (Some v) m (turned p fs e)
  answered_open n m v fs p e is h = turn_open m fs p e v h.1 (subst (λ (k : ℕ). Open env k fs) is h.0)

  pub answered_true : (n : ℕ) (v : Plain) (fs : List Frame) (p : Place) (e : Tree) → n ≡ 0 → truth_of v ≡ true → Open env n fs × (gives e ≡ Ok v) → Shut env 0 (Some v) 0 (turned p fs e)
  answered_true n v fs p e is t h = turn_true fs p e v h.1 t (subst (λ (k : ℕ). Open env k fs) is h.0)

  pub answered_false : (n : ℕ) (v : Plain) (fs : List Frame) (p : Place) (e : Tree) → n ≡ 0 → truth_of v ≡ false → Open env n fs × (gives e ≡ Ok v) → Open env 0 (turned p fs e)
  answered_false n v fs p e is t h = turn_false fs p e v h.1 t (subst (λ (k : ℕ). Open env k fs) is h.0)

  pub inner_turned : (k j : ℕ) (o : Option Plain) (n : ℕ) (fs : List Frame) (p : Place) (e : Tree) → k ≡ suc j → Shut env k o n fs → Shut env j o n (turned p fs e)
  inner_turned k j o n fs p e is h = turn_inner j o n fs p e (subst (λ (i : ℕ). Shut env i o n fs) is h)

  pub inner_asked : (k j : ℕ) (o : Option Plain) (n : ℕ) (fs : List Frame) (p : Place) (e : Tree) → j ≡ suc k → Shut env k o n fs → Shut env j o n (asked p e ∷ fs)
  inner_asked k j o n fs p e is h = subst (λ (i : ℕ). Shut env i o n (asked p e ∷ fs)) (sym is) (more_asked k o n fs p e h)

  pub skipped_turned : (k n : ℕ) (fs : List Frame) (p : Place) (e : Tree) → k ≡ 0 → Shut env k None n fs → Open env n (turned p fs e)
  skipped_turned k n fs p e is h = turn_skipped n fs p e (subst (λ (i : ℕ). Shut env i None n fs) is h)

  pub chosen_back : (k : ℕ) (v : Plain) (n : ℕ) (fs : List Frame) (p : Place) (e : Tree) → k ≡ 0 → Shut env k (Some v) n fs → Back v n p (turned p fs e)
  chosen_back k v n fs p e is h = turn_chosen v n fs p e (subst (λ (i : ℕ). Shut env i (Some v) n fs) is h)

  pub steps_refused : (n : ℕ) (fs : List Frame) (e : Tree) (r : EvalRefusal) (x : Result Turn EvalRefusal) → x ≡ Err r → Open env n fs → IsRefused (gives e) r → Steps env fs e x
  steps_refused n fs e (refusal.Fault y) x is o h = subst (Steps env fs e) (sym is) (λ bs. fault_all y n fs e bs h o)
  steps_refused n fs e refusal.Mem x is o h = subst (Steps env fs e) (sym is) tt

  pub steps_fault : (fs : List Frame) (e : Tree) (bs : List BranchTree) (t : Tree) (r : EvalRefusal) (x : Result Value EvalRefusal) → x ≡ Err r → t ≡ conditional fs e bs → Steps env fs e (Err r) → Evaluates (gives t) x
  steps_fault fs e bs t (refusal.Fault y) x is same h = subst (Evaluates (gives t)) (sym is) (ap gives same ∙ h bs)
  steps_fault fs e bs t refusal.Mem x is same h = subst (Evaluates (gives t)) (sym is) tt
