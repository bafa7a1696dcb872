-- What a name is where it is called.
use Rattle.std.proofs.Common.{◌≡◌, ◌∙◌, ◌&&◌, ℕ, Bool, true, false, cond, List, [], ◌∷◌, Result, Err, Option, Some, None, refl, sym, ap, subst, ◌⊎◌, inl, inr}
use Rattle.std.specs.Prelude.{bytes_eq, codes}
use Rattle.std.specs.List.{list_all}
use Rattle.std.proofs.lemmas.Bool.{cases_Bool, false≢true}
use Rattle.std.proofs.lemmas.Slice.Eq.{bytes_eq-Decides}
use Rattle.nf_value.specs.Plain.{Plain}
use Rattle.nf_value.specs.declared.place.Place.{Place}
use Rattle.nf_ast.specs.Tree.{Tree}
use Rattle.nf_optable.specs.Rows.{operator_rows, row_of}
use Rattle.nf_optable.specs.declared.rows.OpRow.{OpRow}
use Rattle.nf_meaning.specs.declared.fault.LowerFault.{LowerFault}
use Rattle.nf_meaning.specs.Arguments.{Arg}
use Rattle.nf_meaning.specs.CallPaths.{NamesArePlain, is_plain_name}
use Rattle.nf_meaning.specs.Calls.{call_of, named_call}
use Rattle.nf_meaning.specs.Given.{Definitions, tree_named}
use Rattle.nf_meaning.specs.Names.{Called, a_file, a_function, a_process, a_workflow, an_operator, by_function, by_operator, by_process, by_word, by_workflow, called_by, is_function, unknown}
use Rattle.nf_scopes.specs.declared.things.Thing.{Thing}
use Rattle.nf_plan.specs.Runs.{bags_of}
use Rattle.nf_callees.specs.Found.{defined_in}
use Rattle.nf_arguments.specs.declared.args.Args.{Args}
use Rattle.nf_arguments.specs.Args.{AreArgs}
use Rattle.nf_lowering.specs.declared.state.Lowering.{Lowering}
use Rattle.nf_lowering.specs.State.{IsLowering}
use Rattle.nf_walked.specs.declared.walker.Walker.{Walker}
use Rattle.nf_walked.specs.Around.{Knows}
use Rattle.nf_walked.specs.Forms.{a_thing}
use Rattle.nf_walked.specs.Parts.{of_args}
use Rattle.nf_walked.specs.Steps.{Known, Point, Walked}
use Rattle.nf_walked.proofs.Stills.{alike, refused_here}
use Rattle.nf_calling.proofs.Heads.{called_at}

-- ---- a name that is called has no colon

no_word : (b : Bool) (o : Option OpRow) (c : Called) → cond b a_file (by_operator o) ≡ c → ((c ≡ a_file) ⊎ ((k : OpRow) × (c ≡ an_operator k))) ⊎ (c ≡ unknown)
no_word true o c e = inl (inl (sym e))
no_word false (Some k) c e = inl (inr (k, sym e))
no_word false None c e = inr (sym e)

not_process : (c : Called) (t : Tree) → ((c ≡ a_file) ⊎ ((k : OpRow) × (c ≡ an_operator k))) ⊎ (c ≡ unknown) → c ≡ a_process t → ⊥
not_process c t (inl (inl f)) e = cc
not_process c t (inl (inr (k, f))) e = cc
not_process c t (inr f) e = cc

not_workflow : (c : Called) (t : Tree) → ((c ≡ a_file) ⊎ ((k : OpRow) × (c ≡ an_operator k))) ⊎ (c ≡ unknown) → c ≡ a_workflow t → ⊥
not_workflow c t (inl (inl f)) e = cc
not_workflow c t (inl (inr (k, f))) e = cc
not_workflow c t (inr f) e = cc

is_process : (o w : Option Tree) (b : Bool) (c : Called) (t : Tree) → (c ≡ a_process t → ⊥) → by_process o (by_workflow w (by_function b c)) ≡ a_process t → o ≡ Some t
is_process (Some u) w b c t other e = let q : ◌≡◌ {A = Called} (a_process u) (a_process t) = e in let r : u ≡ t = cc in ap (λ v. Some v) r
is_process None (Some u) b c t other e = absurd (let q : ◌≡◌ {A = Called} (a_workflow u) (a_process t) = e in cc)
is_process None None true c t other e = absurd (let q : ◌≡◌ {A = Called} a_function (a_process t) = e in cc)
is_process None None false c t other e = absurd (other e)

is_workflow : (o w : Option Tree) (b : Bool) (c : Called) (t : Tree) → (c ≡ a_workflow t → ⊥) → by_process o (by_workflow w (by_function b c)) ≡ a_workflow t → w ≡ Some t
is_workflow (Some u) w b c t other e = absurd (let q : ◌≡◌ {A = Called} (a_process u) (a_workflow t) = e in cc)
is_workflow None (Some u) b c t other e = let q : ◌≡◌ {A = Called} (a_workflow u) (a_workflow t) = e in let r : u ≡ t = cc in ap (λ v. Some v) r
is_workflow None None true c t other e = absurd (let q : ◌≡◌ {A = Called} a_function (a_workflow t) = e in cc)
is_workflow None None false c t other e = absurd (other e)

both : (a b : Bool) → (a && b) ≡ true → (a ≡ true) × (b ≡ true)
both true b h = (refl, h)
both false b h = absurd (false≢true h)

plain_named : (bs : List (List ℕ × Tree)) (n : List ℕ) (t : Tree) → list_all (λ b. is_plain_name b.0) bs ≡ true → tree_named n bs ≡ Some t → is_plain_name n ≡ true
plain_named [] n t h e = absurd (let q : ◌≡◌ {A = Option Tree} None (Some t) = e in cc)
plain_named (b ∷ bs) n t h e = by (cases_Bool (bytes_eq b.0 n)) (plain_named bs n t (both (is_plain_name b.0) (list_all (λ c. is_plain_name c.0) bs) h).1)
  where
    by : (bytes_eq b.0 n ≡ true) ⊎ (bytes_eq b.0 n ≡ false) → (tree_named n bs ≡ Some t → is_plain_name n ≡ true) → is_plain_name n ≡ true
    by (inl y) later = subst (λ (m : List ℕ). is_plain_name m ≡ true) ((bytes_eq-Decides b.0 n).0 y) (both (is_plain_name b.0) (list_all (λ c. is_plain_name c.0) bs) h).0
    by (inr f) later = later (sym (ap (λ (c : Bool). cond c (Some b.1) (tree_named n bs)) f) ∙ e)

word_cases : (n : List ℕ) → ((by_word n ≡ a_file) ⊎ ((k : OpRow) × (by_word n ≡ an_operator k))) ⊎ (by_word n ≡ unknown)
word_cases n = no_word (bytes_eq n (codes "file")) (row_of n operator_rows) (by_word n) refl

pub process_plain : (d : Definitions) (titles : List (List ℕ)) (n : List ℕ) (t : Tree) → NamesArePlain d → a_process t ≡ called_by d titles n → is_plain_name n ≡ true
process_plain d titles n t h e =
    plain_named d.processes n t h.processes
    (is_process (tree_named n d.processes) (tree_named n d.workflows) (is_function d titles n) (by_word n) t (not_process (by_word n) t (word_cases n)) (sym e))

pub workflow_plain : (d : Definitions) (titles : List (List ℕ)) (n : List ℕ) (t : Tree) → NamesArePlain d → a_workflow t ≡ called_by d titles n → is_plain_name n ≡ true
workflow_plain d titles n t h e =
    plain_named d.workflows n t h.workflows
    (is_workflow (tree_named n d.processes) (tree_named n d.workflows) (is_function d titles n) (by_word n) t (not_workflow (by_word n) t (word_cases n)) (sym e))

-- a workflow that is called is the one that the script defines by its name
pub workflow_defined : (d : Definitions) (titles : List (List ℕ)) (n : List ℕ) (t : Tree) → a_workflow t ≡ called_by d titles n → tree_named n d.workflows ≡ Some t
workflow_defined d titles n t e =
    is_workflow (tree_named n d.processes) (tree_named n d.workflows) (is_function d titles n) (by_word n) t (not_workflow (by_word n) t (word_cases n)) (sym e)

is_operator : (o w : Option Tree) (b : Bool) (c : Called) (k : OpRow) → by_process o (by_workflow w (by_function b c)) ≡ an_operator k → c ≡ an_operator k
is_operator (Some u) w b c k e = absurd (let q : ◌≡◌ {A = Called} (a_process u) (an_operator k) = e in cc)
is_operator None (Some u) b c k e = absurd (let q : ◌≡◌ {A = Called} (a_workflow u) (an_operator k) = e in cc)
is_operator None None true c k e = absurd (let q : ◌≡◌ {A = Called} a_function (an_operator k) = e in cc)
is_operator None None false c k e = e

row_is : (b : Bool) (o : Option OpRow) (k : OpRow) → cond b a_file (by_operator o) ≡ an_operator k → o ≡ Some k
row_is true o k e = absurd (let q : ◌≡◌ {A = Called} a_file (an_operator k) = e in cc)
row_is false (Some j) k e = let q : ◌≡◌ {A = Called} (an_operator j) (an_operator k) = e in let r : j ≡ k = cc in ap (λ z. Some z) r
row_is false None k e = absurd (let q : ◌≡◌ {A = Called} unknown (an_operator k) = e in cc)

-- an operator that is called is that of the table's row of its name
pub operator_listed : (d : Definitions) (titles : List (List ℕ)) (n : List ℕ) (k : OpRow) → an_operator k ≡ called_by d titles n → row_of n operator_rows ≡ Some k
operator_listed d titles n k e =
    row_is (bytes_eq n (codes "file")) (row_of n operator_rows) k (is_operator (tree_named n d.processes) (tree_named n d.workflows) (is_function d titles n) (by_word n) k (sym e))

-- the same name
pub under_name : (K : Known) (args : Args) (q : Place) (m n : List ℕ) (old new : Lowering) (r : Result Thing LowerFault) → m ≡ n → Walked K (of_args args a_thing (named_call q m)) old new r
    → Walked K (of_args args a_thing (named_call q n)) old new r
under_name K args q m n old new r same h = let P : List ℕ → Type 0 = λ z. Walked K (of_args args a_thing (named_call q z)) old new r in subst P same h

-- ---- at every point

module _ {N : Type 0} (titles_of : N → List (List ℕ)) (answer_of : N → ℕ → List Plain → Option Plain) (x : Walker N) (n : List ℕ) (c : Called)
    (is : c ≡ called_by (defined_in x.definitions.now) (titles_of x.around.now.natives.now) n) where
  abbrev K : Known
  K = Knows titles_of answer_of x

  module _ (args : Args) (q : Place) where
    pub named_as : (old new : Lowering) (r : Result Thing LowerFault) → Walked K (of_args args a_thing (call_of c q n)) old new r → Walked K (of_args args a_thing (named_call q n)) old new r
    named_as old new r h =
        alike K (of_args args a_thing (call_of c q n)) (λ p z ys. AreArgs (bags_of p.run z.plan) args ys) (named_call q n) old new r h
        (λ p ys stands are. (ys, are, sym (ap (λ k. call_of k q n ys p.around p.state) (called_at titles_of answer_of x n c is old p stands))))

    pub call_refused : (z : Lowering) (e : LowerFault) → IsLowering z → ((p : Point) (ys : List Arg) → call_of c q n ys p.around p.state ≡ Err e) → Walked K (of_args args a_thing (named_call q n)) z z (Err e)
    call_refused z e keeps refused =
        refused_here K (of_args args a_thing (named_call q n)) z e keeps
        (λ p ys stands are. ap (λ k. call_of k q n ys p.around p.state) (called_at titles_of answer_of x n c is z p stands) ∙ refused p ys)
