-- The call of a process or a workflow begins.
use Rattle.std.proofs.Common.{◌≡◌, ℕ, Bool, true, false, cond, ◌||◌, List, [], ◌∷◌, ◌++◌, map, Ok, string_bytes, refl, sym, ap, ◌∙◌, subst, inl, inr}
use Rattle.std.specs.Prelude.{String}
use Rattle.std.specs.Global.{Global}
use Rattle.std.specs.HashSet.{HashSet, UpdatesBy, contains_text}
use Rattle.std.specs.List.{list_any}
use Rattle.std.specs.Str.{bytes_eq}
use Rattle.std.specs.String.{string_eq}
use Rattle.std.proofs.lemmas.Bool.{cases_Bool}
use Rattle.std.proofs.lemmas.List.{append-nil}
use Rattle.std.proofs.lemmas.Map.Text.{hash_set_updates_text}
use Rattle.std.proofs.lemmas.Slice.Eq.{bytes_eq-Decides}
use Rattle.nf_builtins.specs.Natives.{is_among}
use Rattle.nf_meaning.specs.CallPaths.{is_plain_name, BodyCalls, GoesOn, HasNoPath, PathsAreCalled, Within}
use Rattle.nf_meaning.specs.Walk.{State}
use Rattle.nf_plan.specs.Runs.{Run}
use Rattle.nf_follows.specs.Extends.{Extends}
use Rattle.nf_follows.specs.Lowers.{Lowers}
use Rattle.nf_lowering.specs.declared.state.Lowering.{Lowering}
use Rattle.nf_lowering.specs.State.{IsLowering, StandsIn, calls_in, lowering}
use Rattle.nf_lowering.specs.Steps.{begins, begins_process}
use Rattle.nf_lowering.proofs.Planned.{extends_same, plan_scope}

-- ---- the names that are called

turned : (a b : List ℕ) → bytes_eq a b ≡ bytes_eq b a
turned a b = elim (cases_Bool (bytes_eq a b)) [
  | inl t ↦ t ∙ sym ((bytes_eq-Decides b a).1 (sym ((bytes_eq-Decides a b).0 t)))
  | inr f ↦ elim (cases_Bool (bytes_eq b a)) [
    | inl t ↦ absurd (let e : true ≡ false = sym ((bytes_eq-Decides a b).1 (sym ((bytes_eq-Decides b a).0 t))) ∙ f in cc)
    | inr g ↦ f ∙ sym g
  ]
]

any_turned : (n : List ℕ) (ks : List (String Global)) → list_any (λ k. bytes_eq n (string_bytes k)) ks ≡ is_among n (map string_bytes ks)
any_turned n [] = refl
any_turned n (k ∷ ks) =
    ap (λ b. b || list_any (λ (q : String Global). bytes_eq n (string_bytes q)) ks) (turned n (string_bytes k)) ∙ ap (λ b. bytes_eq (string_bytes k) n || b) (any_turned n ks)

-- as the set has them, and as the list of the body's calls has them
pub contains_is : {S : Type 0} (s : HashSet (String Global) S) (n : List ℕ) → contains_text s n ≡ is_among n (map string_bytes s.keys)
contains_is s n = any_turned n s.keys

or_cond : (b x : Bool) → cond b true x ≡ (b || x)
or_cond true x = refl
or_cond false x = refl

pub sets_of : {S : Type 0} (old new : HashSet (String Global) S) (k : String Global) (n : List ℕ) → string_bytes k ≡ n → UpdatesBy string_eq (string_eq k) old new true
    → (m : List ℕ) → contains_text new m ≡ (bytes_eq n m || contains_text old m)
sets_of old new k n same h m =
    hash_set_updates_text (string_bytes k) old new true h m ∙ or_cond (bytes_eq (string_bytes k) m) (contains_text old m) ∙ ap (λ b. bytes_eq b m || contains_text old m) same

or_later : (b c : Bool) → c ≡ true → (b || c) ≡ true
or_later true c e = refl
or_later false c e = e

or_first : (b c : Bool) → b ≡ true → (b || c) ≡ true
or_first true c e = refl
or_first false c e = absurd (let f : false ≡ true = e in cc)

-- ---- a law of paths

abbrev pub NoneYet : Type 0
NoneYet = (s : BodyCalls) (n : List ℕ) → PathsAreCalled s → is_plain_name n ≡ true → is_among n s.called ≡ false → HasNoPath s n

-- ---- the step

-- the new state differs from the old one in the names that are called alone, which are one more
module _ (old new : Lowering) (n : List ℕ) (same : (record old { called = new.called }) ≡ new) (sets : (m : List ℕ) → contains_text new.called m ≡ (bytes_eq n m || contains_text old.called m)) where
  abbrev there : Lowering
  there = record old { called = new.called }

  still_called : Within (calls_in old).called (calls_in there).called
  still_called m e = sym (contains_is new.called m) ∙ sets m ∙ or_later (bytes_eq n m) (contains_text old.called m) (contains_is old.called m ∙ e)

  pub begin_called : is_among n (calls_in new).called ≡ true
  begin_called = sym (contains_is new.called n) ∙ sets n ∙ or_first (bytes_eq n n) (contains_text old.called n) ((bytes_eq-Decides n n).1 refl)

  pub begin_goes : GoesOn (calls_in old) (calls_in new)
  begin_goes = subst (λ (z : Lowering). GoesOn (calls_in old) (calls_in z)) same
      (record { path = refl; called = still_called; added = []; paths = sym (append-nil (calls_in old).paths); belong = tt })

  pub begin_keeps : IsLowering old → IsLowering new
  begin_keeps k = subst IsLowering same (record {
    plan = k.plan;
    names = k.names;
    calls = k.calls;
    free = record { called = λ p m rest a plain ends is. still_called m (k.free.called p m rest a plain ends is) };
  })

  pub begin_none : NoneYet → IsLowering old → is_plain_name n ≡ true → contains_text old.called n ≡ false → HasNoPath (calls_in new) n
  begin_none law k plain fresh =
      let none : HasNoPath (calls_in old) n = law (calls_in old) n k.free plain (sym (contains_is old.called n) ∙ fresh) in
      subst (λ (z : Lowering). HasNoPath (calls_in z) n) same (record { none = none.none })

  pub begin_extends : Extends old.plan new.plan
  begin_extends = subst (λ (z : Lowering). Extends old.plan z.plan) same (extends_same old.plan old.plan refl refl)

  -- in the walk these paths are kept
  abbrev pub begun : List (List ℕ) → State → State
  begun paths s = record s { scope = record s.scope { called = n ∷ s.scope.called }; paths = s.paths ++ paths }

  stands_begun : (braces : List (List (List ℕ))) (x : Run) (s : State) (paths : List (List ℕ)) → StandsIn braces x old s → StandsIn braces x new (begun paths s)
  stands_begun braces x s paths h = subst (λ (z : Lowering). StandsIn braces x z (begun paths s)) same (record {
    plan = plan_scope x old.plan s (begun paths s) refl refl refl h.plan;
    names = record { braces = h.names.braces; names = h.names.names };
    called = λ m. sets m ∙ ap (λ b. bytes_eq n m || b) (h.called m);
    calls = h.calls;
    path = h.path;
    within = h.within;
  })

  pub workflow_walks : (braces : List (List (List ℕ))) → Lowers (lowering braces) (begins n) old new (Ok tt)
  workflow_walks braces = record {
    extends = begin_extends;
    follows = λ x a s y runs stands is. record {
      value = (tt, begun [] s);
      is = refl;
      fits = record { stands = stands_begun braces x s [] stands; out = tt };
    };
  }

  pub process_walks : (braces : List (List (List ℕ))) → Lowers (lowering braces) (begins_process n) old new (Ok tt)
  process_walks braces = record {
    extends = begin_extends;
    follows = λ x a s y runs stands is. record {
      value = (tt, begun ((s.scope.path ++ n) ∷ []) s);
      is = refl;
      fits = record { stands = stands_begun braces x s ((s.scope.path ++ n) ∷ []) stands; out = tt };
    };
  }
