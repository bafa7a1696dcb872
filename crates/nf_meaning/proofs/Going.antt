-- From one point of a body to a later one, the paths of calls stay apart.
use Rattle.std.proofs.Common.{◌≡◌, ℕ, List, [], ◌∷◌, ◌++◌, Bool, true, false, ◌||◌, refl, ap, sym, subst, ◌∙◌, ◌⊎◌, inl, inr}
use Rattle.std.specs.Str.{bytes_eq}
use Rattle.std.proofs.lemmas.Bool.{cases_Bool}
use Rattle.std.proofs.lemmas.List.{append-nil, append_assoc, append_cancel_left}
use Rattle.std.proofs.lemmas.Slice.Eq.{bytes_eq-Decides}
use Rattle.nf_names_used.specs.Natives.{is_among}
use Rattle.nf_meaning.specs.CallPaths.{is_plain_name, EndsName, Belongs, AllBelong, Within, BodyCalls, GoesOn, PathsAreCalled, HasNoPath, inside}
use Rattle.nf_meaning.proofs.Growth.{same_name, both_belong, all_still, belongs_of}

clash : {A : Type 0} (b : Bool) → b ≡ true → b ≡ false → A
clash b t f = absurd (let e : true ≡ false = sym t ∙ f in cc)

-- ---- among the paths of both

either_of : (a b c d : Bool) → (a || c) ≡ true → (c ≡ true → (b ≡ true) ⊎ (d ≡ true)) → ((a || b) ≡ true) ⊎ (d ≡ true)
either_of true b c d e f = inl refl
either_of false b c d e f = f e

among_either : (n : List ℕ) (ps qs : List (List ℕ)) → is_among n (ps ++ qs) ≡ true → (is_among n ps ≡ true) ⊎ (is_among n qs ≡ true)
among_either n [] qs e = inr e
among_either n (p ∷ ps) qs e = either_of (bytes_eq p n) (is_among n ps) (is_among n (ps ++ qs)) (is_among n qs) e (among_either n ps qs)

-- a path of the later point is one of the earlier point, or belongs to a call in between
path_of : (s t : BodyCalls) → GoesOn s t → (p : List ℕ) → is_among p t.paths ≡ true → (is_among p s.paths ≡ true) ⊎ Belongs s.path s.called t.called p
path_of s t g p a = elim (among_either p s.paths g.added (subst (λ z. is_among p z ≡ true) g.paths a)) [
  | inl b ↦ inl b
  | inr b ↦ inr (belongs_of s.path s.called t.called p g.added g.belong b)
]

-- the name that a path belongs to
name_is : (s t : BodyCalls) (p n rest : List ℕ) (b : Belongs s.path s.called t.called p) → is_plain_name n ≡ true → EndsName rest → p ≡ s.path ++ (n ++ rest) → n ≡ b.name
name_is s t p n rest b plain ends is =
    same_name n b.name rest b.rest plain b.plain ends b.ends (append_cancel_left s.path (n ++ rest) (b.name ++ b.rest) (sym is ∙ b.is))

here_by : (s t : BodyCalls) (p n rest : List ℕ) → GoesOn s t → p ≡ t.path ++ (n ++ rest) → p ≡ s.path ++ (n ++ rest)
here_by s t p n rest g is = is ∙ ap (λ z. z ++ (n ++ rest)) g.path

-- ---- parts of a body

pub goes_again : (s t u : BodyCalls) → GoesOn s t → GoesOn t u → GoesOn s u
goes_again s t u g h =
    let second : AllBelong s.path t.called u.called h.added = subst (λ z. AllBelong z t.called u.called h.added) g.path h.belong in
    record {
      path = h.path ∙ g.path;
      called = λ n e. h.called n (g.called n e);
      added = g.added ++ h.added;
      paths = h.paths ∙ ap (λ z. z ++ h.added) g.paths ∙ append_assoc s.paths g.added h.added;
      belong =
          both_belong s.path s.called u.called g.added h.added
          (all_still s.path s.called t.called s.called u.called g.added (λ n e. e) h.called g.belong)
          (all_still s.path t.called u.called s.called u.called h.added g.called (λ n e. e) second);
    }

pub more_called : (s t : BodyCalls) → t.path ≡ s.path → t.paths ≡ s.paths → Within s.called t.called → GoesOn s t
more_called s t path paths called = record { path = path; called = called; added = []; paths = paths ∙ sym (append-nil s.paths); belong = tt }

pub called_later : (s t : BodyCalls) → GoesOn s t → PathsAreCalled s → PathsAreCalled t
called_later s t g h = record { called = of }
  where
    of : (p n rest : List ℕ) → is_among p t.paths ≡ true → is_plain_name n ≡ true → EndsName rest → p ≡ t.path ++ (n ++ rest) → is_among n t.called ≡ true
    of p n rest a plain ends is = elim (path_of s t g p a) [
      | inl b ↦ g.called n (h.called p n rest b plain ends (here_by s t p n rest g is))
      | inr b ↦ subst (λ m. is_among m t.called ≡ true) (sym (name_is s t p n rest b plain ends (here_by s t p n rest g is))) b.now
    ]

-- ---- a name that isn't called yet

pub none_yet : (s : BodyCalls) (n : List ℕ) → PathsAreCalled s → is_plain_name n ≡ true → is_among n s.called ≡ false → HasNoPath s n
none_yet s n h plain fresh = record { none = λ p rest a ends is. clash (is_among n s.called) (h.called p n rest a plain ends is) fresh }

pub none_still : (s t : BodyCalls) (n : List ℕ) → GoesOn s t → is_plain_name n ≡ true → is_among n s.called ≡ true → HasNoPath s n → HasNoPath t n
none_still s t n g plain called h = record { none = of }
  where
    of : (p rest : List ℕ) → is_among p t.paths ≡ true → EndsName rest → p ≡ t.path ++ (n ++ rest) → ⊥
    of p rest a ends is = elim (path_of s t g p a) [
      | inl b ↦ h.none p rest b ends (here_by s t p n rest g is)
      | inr b ↦ clash (is_among n s.called) called
          (subst (λ m. is_among m s.called ≡ false) (sym (name_is s t p n rest b plain ends (here_by s t p n rest g is))) b.new)
    ]

pub path_is_new : (s : BodyCalls) (n : List ℕ) → HasNoPath s n → is_among (s.path ++ n) s.paths ≡ false
path_is_new s n h = elim (cases_Bool (is_among (s.path ++ n) s.paths)) [
  | inl t ↦ absurd (h.none (s.path ++ n) [] t tt (ap (λ z. s.path ++ z) (sym (append-nil n))))
  | inr f ↦ f
]

-- ---- whole calls

called_kept : (t u : BodyCalls) → u.called ≡ t.called → Within t.called u.called
called_kept t u same m e = subst (λ z. is_among m z ≡ true) (sym same) e

-- of a process
pub process_goes : (s t u : BodyCalls) (n : List ℕ) → GoesOn s t → is_plain_name n ≡ true → is_among n s.called ≡ false → is_among n t.called ≡ true
    → u.path ≡ t.path → u.called ≡ t.called → u.paths ≡ t.paths ++ (s.path ++ n) ∷ [] → GoesOn s u
process_goes s t u n g plain fresh now path same paths = record {
  path = path ∙ g.path;
  called = λ m e. called_kept t u same m (g.called m e);
  added = g.added ++ (s.path ++ n) ∷ [];
  paths = paths ∙ ap (λ z. z ++ (s.path ++ n) ∷ []) g.paths ∙ append_assoc s.paths g.added ((s.path ++ n) ∷ []);
  belong =
      both_belong s.path s.called u.called g.added ((s.path ++ n) ∷ [])
      (all_still s.path s.called t.called s.called u.called g.added (λ m e. e) (called_kept t u same) g.belong) (
        record {
          name = n;
          rest = [];
          is = ap (λ z. s.path ++ z) (sym (append-nil n));
          plain = plain;
          ends = tt;
          new = fresh;
          now = called_kept t u same n now;
        },
        tt,
      );
}

-- the path of a process is kept whose name is called
only_bytes : (a : Bool) → (a || false) ≡ true → a ≡ true
only_bytes true e = refl
only_bytes false e = e

pub path_added : (s t : BodyCalls) (n : List ℕ) → PathsAreCalled s → is_plain_name n ≡ true → is_among n s.called ≡ true → t.path ≡ s.path → t.called ≡ s.called
    → t.paths ≡ s.paths ++ (s.path ++ n) ∷ [] → PathsAreCalled t
path_added s t n h plain now path called paths = record { called = of }
  where
    here_too : (p m rest : List ℕ) → is_plain_name m ≡ true → EndsName rest → p ≡ t.path ++ (m ++ rest) → is_among p ((s.path ++ n) ∷ []) ≡ true → m ≡ n
    here_too p m rest pm ends is a =
        let same : s.path ++ n ≡ p = (bytes_eq-Decides (s.path ++ n) p).0 (only_bytes (bytes_eq (s.path ++ n) p) a) in
        let left : n ≡ m ++ rest = append_cancel_left s.path n (m ++ rest) (same ∙ is ∙ ap (λ z. z ++ (m ++ rest)) path) in
        same_name m n rest [] pm plain ends tt (sym left ∙ sym (append-nil n))

    of : (p m rest : List ℕ) → is_among p t.paths ≡ true → is_plain_name m ≡ true → EndsName rest → p ≡ t.path ++ (m ++ rest) → is_among m t.called ≡ true
    of p m rest a pm ends is = elim (among_either p s.paths ((s.path ++ n) ∷ []) (subst (λ z. is_among p z ≡ true) paths a)) [
      | inl b ↦ subst (λ z. is_among m z ≡ true) (sym called) (h.called p m rest b pm ends (is ∙ ap (λ z. z ++ (m ++ rest)) path))
      | inr b ↦ subst (λ z. is_among m z ≡ true) (sym called) (subst (λ z. is_among z s.called ≡ true) (sym (here_too p m rest pm ends is b)) now)
    ]

-- of a workflow: what is known in its body, and after it
pub inside_called : (s : BodyCalls) (n : List ℕ) → HasNoPath s n → PathsAreCalled (inside n s)
inside_called s n h = record {
  called = λ p m rest a plain ends is. absurd (h.none p (58 ∷ (m ++ rest)) a refl
      (is ∙ append_assoc (s.path ++ n) (58 ∷ []) (m ++ rest) ∙ append_assoc s.path n (58 ∷ (m ++ rest))));
}

all_inside : (body n : List ℕ) (before after first last ps : List (List ℕ)) → is_plain_name n ≡ true → is_among n before ≡ false → is_among n after ≡ true
    → AllBelong (body ++ n ++ (58 ∷ [])) first last ps → AllBelong body before after ps
all_inside body n before after first last [] plain fresh now b = tt
all_inside body n before after first last (p ∷ ps) plain fresh now b = (
  record {
    name = n;
    rest = 58 ∷ (b.0.name ++ b.0.rest);
    is = b.0.is ∙ append_assoc (body ++ n) (58 ∷ []) (b.0.name ++ b.0.rest) ∙ append_assoc body n (58 ∷ (b.0.name ++ b.0.rest));
    plain = plain;
    ends = refl;
    new = fresh;
    now = now;
  },
  all_inside body n before after first last ps plain fresh now b.1,
)

pub workflow_goes : (s t i u : BodyCalls) (n : List ℕ) → GoesOn s t → is_plain_name n ≡ true → is_among n s.called ≡ false → is_among n t.called ≡ true → GoesOn (inside n t) i
    → u.path ≡ t.path → u.called ≡ t.called → u.paths ≡ i.paths → GoesOn s u
workflow_goes s t i u n g plain fresh now h path same paths =
    let inner : AllBelong (s.path ++ n ++ (58 ∷ [])) [] i.called h.added = subst (λ z. AllBelong (z ++ n ++ (58 ∷ [])) [] i.called h.added) g.path h.belong in
    record {
      path = path ∙ g.path;
      called = λ m e. called_kept t u same m (g.called m e);
      added = g.added ++ h.added;
      paths = paths ∙ h.paths ∙ ap (λ z. z ++ h.added) g.paths ∙ append_assoc s.paths g.added h.added;
      belong =
          both_belong s.path s.called u.called g.added h.added
          (all_still s.path s.called t.called s.called u.called g.added (λ m e. e) (called_kept t u same) g.belong)
          (all_inside s.path n s.called u.called [] i.called h.added plain fresh (called_kept t u same n now) inner);
    }
