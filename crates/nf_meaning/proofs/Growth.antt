-- What the paths of calls grow by: each path that is added belongs to a call that wasn't made before.
use Rattle.std.proofs.Common.{◌≡◌, ℕ, List, [], ◌∷◌, ◌++◌, Bool, true, false, ◌&&◌, ◌||◌, refl, ap, sym, subst, ◌∙◌, inl, inr, ◌≤◌, ◌+◌, arith}
use Rattle.std.specs.Prelude.{◌==◌}
use Rattle.std.specs.List.{IsDistinct, AllByRecursion}
use Rattle.std.specs.Str.{bytes_eq}
use Rattle.std.proofs.lemmas.Bool.{cases_Bool}
use Rattle.std.proofs.lemmas.List.{append-nil, append_assoc, append_cancel_left}
use Rattle.std.proofs.lemmas.Slice.Eq.{bytes_eq-Decides}
use Rattle.nf_names_used.specs.Natives.{is_among}
use Rattle.nf_meaning.specs.Walk.{State}
use Rattle.nf_meaning.specs.Meaning.{Instance}
use Rattle.nf_graph.specs.Meaning.{same_inputs}
use Rattle.nf_graph.proofs.Tally.{one_if, passes, tally-append}
use Rattle.nf_meaning.specs.CallPaths.{is_plain_name, MadeBy, is_same_task, EndsName, Belongs, AllBelong, Within}

-- ---- the call that a path belongs to

no_colon : (m : List ℕ) → is_plain_name (58 ∷ m) ≡ true → ⊥
no_colon m h = let f : false ≡ true = h in absurd cc

ends_before : (y : ℕ) (r m q : List ℕ) → EndsName r → is_plain_name (y ∷ m) ≡ true → r ≡ y ∷ (m ++ q) → ⊥
ends_before y [] m q ends plain e = absurd cc
ends_before y (c ∷ cs) m q ends plain e =
    let same : c ≡ y = cc in no_colon m (subst (λ z. is_plain_name (z ∷ m) ≡ true) (sym same ∙ ends) plain)

second_true : (a b : Bool) → (a && b) ≡ true → b ≡ true
second_true true b h = h
second_true false true h = refl
second_true false false h = h

later_plain : (x : ℕ) (n : List ℕ) → is_plain_name (x ∷ n) ≡ true → is_plain_name n ≡ true
later_plain x n h = second_true _ (is_plain_name n) h

-- a path has one name before its first colon
pub same_name : (n m r q : List ℕ) → is_plain_name n ≡ true → is_plain_name m ≡ true → EndsName r → EndsName q → n ++ r ≡ m ++ q → n ≡ m
same_name [] [] r q pn pm er eq e = refl
same_name [] (y ∷ m) r q pn pm er eq e = absurd (ends_before y r m q er pm e)
same_name (x ∷ n) [] r q pn pm er eq e = absurd (ends_before x q n r eq pn (sym e))
same_name (x ∷ n) (y ∷ m) r q pn pm er eq e =
    let first : x ≡ y = cc in
    let more : n ++ r ≡ m ++ q = cc in
    let rest : n ≡ m = same_name n m r q (later_plain x n pn) (later_plain y m pm) er eq more in
    ap (λ z. z ∷ n) first ∙ ap (λ z. y ∷ z) rest

not_before : (ns ms : List (List ℕ)) → Within ns ms → (n : List ℕ) → is_among n ms ≡ false → is_among n ns ≡ false
not_before ns ms h n e = elim (cases_Bool (is_among n ns)) [
  | inl t ↦ absurd (let f : true ≡ false = sym (h n t) ∙ e in cc)
  | inr f ↦ f
]

pub belongs_still : (body : List ℕ) (before after earlier later : List (List ℕ)) (p : List ℕ) → Within earlier before → Within after later
    → Belongs body before after p → Belongs body earlier later p
belongs_still body before after earlier later p h k b = record {
  name = b.name;
  rest = b.rest;
  is = b.is;
  plain = b.plain;
  ends = b.ends;
  new = not_before earlier before h b.name b.new;
  now = k b.name b.now;
}

pub all_still : (body : List ℕ) (before after earlier later ps : List (List ℕ)) → Within earlier before → Within after later
    → AllBelong body before after ps → AllBelong body earlier later ps
all_still body before after earlier later [] h k b = tt
all_still body before after earlier later (p ∷ ps) h k b =
    (belongs_still body before after earlier later p h k b.0, all_still body before after earlier later ps h k b.1)

pub both_belong : (body : List ℕ) (before after ps qs : List (List ℕ)) → AllBelong body before after ps → AllBelong body before after qs → AllBelong body before after (ps ++ qs)
both_belong body before after [] qs b c = c
both_belong body before after (p ∷ ps) qs b c = (b.0, both_belong body before after ps qs b.1 c)

-- ---- paths that are apart

-- of calls before and after a point
told_apart : (body : List ℕ) (first middle last : List (List ℕ)) (p q : List ℕ) → Belongs body first middle p → Belongs body middle last q → bytes_eq p q ≡ false
told_apart body first middle last p q b c = elim (cases_Bool (bytes_eq p q)) [
  | inl t ↦ (let same : p ≡ q = (bytes_eq-Decides p q).0 t in
      let names : b.name ≡ c.name =
      same_name b.name c.name b.rest c.rest b.plain c.plain b.ends c.ends (append_cancel_left body (b.name ++ b.rest) (c.name ++ c.rest) (sym b.is ∙ same ∙ c.is)) in
      absurd (let f : true ≡ false = sym b.now ∙ ap (λ n. is_among n middle) names ∙ c.new in cc))
  | inr f ↦ f
]

one_apart : (body : List ℕ) (first middle last : List (List ℕ)) (p : List ℕ) (qs : List (List ℕ)) → Belongs body first middle p → AllBelong body middle last qs
    → AllByRecursion (λ q. bytes_eq p q ≡ false) qs
one_apart body first middle last p [] b c = tt
one_apart body first middle last p (q ∷ qs) b c = (told_apart body first middle last p q b c.0, one_apart body first middle last p qs b c.1)

both_all : (P : List ℕ → Type 0) (xs ys : List (List ℕ)) → AllByRecursion P xs → AllByRecursion P ys → AllByRecursion P (xs ++ ys)
both_all P [] ys h k = k
both_all P (x ∷ xs) ys h k = (h.0, both_all P xs ys h.1 k)

both_apart : (body : List ℕ) (first middle last ps qs : List (List ℕ)) → AllBelong body first middle ps → AllBelong body middle last qs
    → IsDistinct bytes_eq ps → IsDistinct bytes_eq qs → IsDistinct bytes_eq (ps ++ qs)
unfolding IsDistinct
both_apart body first middle last [] qs b c d e = e
both_apart body first middle last (p ∷ ps) qs b c d e =
    (both_all (λ q. bytes_eq p q ≡ false) ps qs d.0 (one_apart body first middle last p qs b.0 c), both_apart body first middle last ps qs b.1 c d.1 e)

-- ---- tasks and the paths of their calls

pub made_still : (ps qs : List (List ℕ)) (xs ys : List Instance) → qs ≡ ps → ys ≡ xs → MadeBy ps xs → MadeBy qs ys
made_still ps qs xs ys e f h = subst (λ z. MadeBy z ys) (sym e) (subst (λ z. MadeBy ps z) (sym f) h)

or_first : (b c : Bool) → b ≡ true → (b || c) ≡ true
or_first true c e = refl
or_first false c e = absurd (let f : false ≡ true = e in cc)

or_second : (b c : Bool) → c ≡ true → (b || c) ≡ true
or_second true c e = refl
or_second false c e = e

or_same : (a b c : Bool) → (b ≡ true → c ≡ true) → (a || b) ≡ true → (a || c) ≡ true
or_same true b c h e = refl
or_same false b c h e = h e

among_more : (n : List ℕ) (ps qs : List (List ℕ)) → is_among n ps ≡ true → is_among n (ps ++ qs) ≡ true
among_more n [] qs e = absurd (let f : false ≡ true = e in cc)
among_more n (p ∷ ps) qs e = or_same (bytes_eq p n) (is_among n ps) (is_among n (ps ++ qs)) (among_more n ps qs) e

made_more : (ps qs : List (List ℕ)) (xs : List Instance) → MadeBy ps xs → MadeBy (ps ++ qs) xs
made_more ps qs [] h = tt
made_more ps qs (x ∷ xs) h = (among_more x.call ps qs h.0, made_more ps qs xs h.1)

both_made : (ps : List (List ℕ)) (xs ys : List Instance) → MadeBy ps xs → MadeBy ps ys → MadeBy ps (xs ++ ys)
both_made ps [] ys h k = k
both_made ps (x ∷ xs) ys h k = (h.0, both_made ps xs ys h.1 k)

among_after : (n : List ℕ) (ps qs : List (List ℕ)) → is_among n qs ≡ true → is_among n (ps ++ qs) ≡ true
among_after n [] qs e = e
among_after n (p ∷ ps) qs e = or_second (bytes_eq p n) (is_among n (ps ++ qs)) (among_after n ps qs e)

made_after : (ps qs : List (List ℕ)) (xs : List Instance) → MadeBy qs xs → MadeBy (ps ++ qs) xs
made_after ps qs [] h = tt
made_after ps qs (x ∷ xs) h = (among_after x.call ps qs h.0, made_after ps qs xs h.1)

-- ---- tasks that are made once

abbrev pub Once : List Instance → Type 0
Once zs = (z : Instance) → passes (is_same_task z) zs ≤ 1

-- no path of the one is a path of the other
abbrev pub Disjoint : List (List ℕ) → List (List ℕ) → Type 0
Disjoint ps qs = (c : List ℕ) → is_among c ps ≡ true → is_among c qs ≡ true → ⊥

not_true : (b : Bool) → (b ≡ true → ⊥) → b ≡ false
not_true true h = absurd (h refl)
not_true false h = refl

-- of another path
none_of : (ps : List (List ℕ)) (zs : List Instance) (z : Instance) → MadeBy ps zs → is_among z.call ps ≡ false → passes (is_same_task z) zs ≡ 0
none_of ps [] z h e = refl
none_of ps (w ∷ zs) z h e =
    let more : passes (is_same_task z) zs ≡ 0 = none_of ps zs z h.1 e in
    elim (cases_Bool (bytes_eq z.call w.call)) [
      | inl t ↦ absurd (let f : true ≡ false = sym h.0 ∙ ap (λ c. is_among c ps) (sym ((bytes_eq-Decides z.call w.call).0 t)) ∙ e in cc)
      | inr f ↦ subst (λ b. one_if (b && (same_inputs z.inputs w.inputs && (z.n == w.n))) + passes (is_same_task z) zs ≡ 0) (sym f) (omega (arith, more))
    ]

once_both : (ps qs : List (List ℕ)) (xs ys : List Instance) → Disjoint ps qs → MadeBy ps xs → MadeBy qs ys → Once xs → Once ys → Once (xs ++ ys)
once_both ps qs xs ys d h k o q z =
    let sum = tally-append (λ (w : Instance). one_if (is_same_task z w)) xs ys in
    elim (cases_Bool (is_among z.call qs)) [
      | inl t ↦ (let zero : passes (is_same_task z) xs ≡ 0 = none_of ps xs z h (not_true (is_among z.call ps) (λ i. d z.call i t)) in omega (arith, sum, zero, q z))
      | inr f ↦ (let zero : passes (is_same_task z) ys ≡ 0 = none_of qs ys z k f in omega (arith, sum, zero, o z))
    ]

-- the tasks that are added between two states, which are of these paths
pub record NewTasks (s t : State) (added : List (List ℕ)) : Type 0 where
  pub tasks : List Instance
  pub meant : t.meant.instances ≡ s.meant.instances ++ tasks
  pub of : MadeBy added tasks
  pub once : Once tasks

no_new : (s t : State) (added : List (List ℕ)) → t.meant.instances ≡ s.meant.instances → NewTasks s t added
no_new s t added i = record { tasks = []; meant = i ∙ sym (append-nil s.meant.instances); of = tt; once = λ z. omega arith }

both_new : (s t u : State) (ps qs : List (List ℕ)) → Disjoint ps qs → NewTasks s t ps → NewTasks t u qs → NewTasks s u (ps ++ qs)
both_new s t u ps qs d g h = record {
  tasks = g.tasks ++ h.tasks;
  meant = h.meant ∙ ap (λ z. z ++ h.tasks) g.meant ∙ append_assoc s.meant.instances g.tasks h.tasks;
  of = both_made (ps ++ qs) g.tasks h.tasks (made_more ps qs g.tasks g.of) (made_after ps qs h.tasks h.of);
  once = once_both ps qs g.tasks h.tasks d g.of h.of g.once h.once;
}

new_between : (s r t u : State) (ps : List (List ℕ)) → r.meant.instances ≡ s.meant.instances → u.meant.instances ≡ t.meant.instances → NewTasks r t ps → NewTasks s u ps
new_between s r t u ps i k g = record { tasks = g.tasks; meant = k ∙ g.meant ∙ ap (λ z. z ++ g.tasks) i; of = g.of; once = g.once }

pub belongs_of : (body : List ℕ) (before after : List (List ℕ)) (c : List ℕ) (ps : List (List ℕ)) → AllBelong body before after ps → is_among c ps ≡ true → Belongs body before after c
belongs_of body before after c [] b e = absurd (let f : false ≡ true = e in cc)
belongs_of body before after c (p ∷ ps) b e = elim (cases_Bool (bytes_eq p c)) [
  | inl t ↦ subst (λ z. Belongs body before after z) ((bytes_eq-Decides p c).0 t) b.0
  | inr f ↦ belongs_of body before after c ps b.1 (subst (λ z. (z || is_among c ps) ≡ true) f e)
]

disjoint : (body : List ℕ) (first middle last ps qs : List (List ℕ)) → AllBelong body first middle ps → AllBelong body middle last qs → Disjoint ps qs
disjoint body first middle last ps qs b c n i j =
    let f : true ≡ false = sym ((bytes_eq-Decides n n).1 refl)
    ∙ told_apart body first middle last n n (belongs_of body first middle n ps b i) (belongs_of body middle last n qs c j) in
    absurd cc

-- ---- growth

pub record Grows (s t : State) : Type 0 where
  pub path : t.scope.path ≡ s.scope.path
  pub called : Within s.scope.called t.scope.called
  pub added : List (List ℕ)
  pub paths : t.paths ≡ s.paths ++ added
  pub belong : AllBelong s.scope.path s.scope.called t.scope.called added
  pub apart : IsDistinct bytes_eq added
  pub new : NewTasks s t added

pub same_calls : (s t : State) → t.scope.path ≡ s.scope.path → t.scope.called ≡ s.scope.called → t.paths ≡ s.paths → t.meant.instances ≡ s.meant.instances → Grows s t
unfolding IsDistinct
same_calls s t p c q i = record {
  path = p;
  called = λ n e. subst (λ z. is_among n z ≡ true) (sym c) e;
  added = [];
  paths = q ∙ sym (append-nil s.paths);
  belong = tt;
  apart = tt;
  new = no_new s t [] i;
}

pub grows_none : (s : State) → Grows s s
grows_none s = same_calls s s refl refl refl refl

pub grows_on : (s t u : State) → Grows s t → Grows t u → Grows s u
grows_on s t u g h =
    let second : AllBelong s.scope.path t.scope.called u.scope.called h.added =
    subst (λ z. AllBelong z t.scope.called u.scope.called h.added) g.path h.belong in
    record {
      path = h.path ∙ g.path;
      called = λ n e. h.called n (g.called n e);
      added = g.added ++ h.added;
      paths = h.paths ∙ ap (λ z. z ++ h.added) g.paths ∙ append_assoc s.paths g.added h.added;
      belong =
          both_belong s.scope.path s.scope.called u.scope.called g.added h.added
          (all_still s.scope.path s.scope.called t.scope.called s.scope.called u.scope.called g.added (λ n e. e) h.called g.belong)
          (all_still s.scope.path t.scope.called u.scope.called s.scope.called u.scope.called h.added g.called (λ n e. e) second);
      apart = both_apart s.scope.path s.scope.called t.scope.called u.scope.called g.added h.added g.belong second g.apart h.apart;
      new = both_new s t u g.added h.added (disjoint s.scope.path s.scope.called t.scope.called u.scope.called g.added h.added g.belong second) g.new h.new;
    }

-- ---- the call of a workflow

-- paths in the body of a call of this name
abbrev pub AllInside : List ℕ → List ℕ → List (List ℕ) → Type 0
AllInside body n [] = Unit {0}
AllInside body n (p ∷ ps) = ((rest : List ℕ) × (p ≡ body ++ (n ++ (58 ∷ rest)))) × AllInside body n ps

pub record GrowsInside (n : List ℕ) (s t : State) : Type 0 where
  pub path : t.scope.path ≡ s.scope.path
  pub called : t.scope.called ≡ s.scope.called
  pub added : List (List ℕ)
  pub paths : t.paths ≡ s.paths ++ added
  pub inside : AllInside s.scope.path n added
  pub apart : IsDistinct bytes_eq added
  pub new : NewTasks s t added

inside_belong : (body n : List ℕ) (before after ps : List (List ℕ)) → is_plain_name n ≡ true → is_among n before ≡ false → is_among n after ≡ true → AllInside body n ps
    → AllBelong body before after ps
inside_belong body n before after [] plain new now h = tt
inside_belong body n before after (p ∷ ps) plain new now h =
    (record { name = n; rest = 58 ∷ h.0.0; is = h.0.1; plain = plain; ends = refl; new = new; now = now }, inside_belong body n before after ps plain new now h.1)

other_way : (p q : List ℕ) → bytes_eq p q ≡ false → bytes_eq q p ≡ false
other_way p q h = elim (cases_Bool (bytes_eq q p)) [
  | inl t ↦ absurd (let f : true ≡ false = sym ((bytes_eq-Decides p q).1 (sym ((bytes_eq-Decides q p).0 t))) ∙ h in cc)
  | inr f ↦ f
]

one_later : (body : List ℕ) (first middle last : List (List ℕ)) (q : List ℕ) (ps : List (List ℕ)) → AllBelong body first middle ps → Belongs body middle last q
    → AllByRecursion (λ p. bytes_eq q p ≡ false) ps
one_later body first middle last q [] b c = tt
one_later body first middle last q (p ∷ ps) b c = (other_way p q (told_apart body first middle last p q b.0 c), one_later body first middle last q ps b.1 c)

-- later ones before the earlier ones
turned_apart : (body : List ℕ) (first middle last ps qs : List (List ℕ)) → AllBelong body first middle ps → AllBelong body middle last qs
    → IsDistinct bytes_eq ps → IsDistinct bytes_eq qs → IsDistinct bytes_eq (qs ++ ps)
unfolding IsDistinct
turned_apart body first middle last ps [] b c d e = d
turned_apart body first middle last ps (q ∷ qs) b c d e =
    (both_all (λ p. bytes_eq q p ≡ false) qs ps e.0 (one_later body first middle last q ps b c.0), turned_apart body first middle last ps qs b c.1 d e.1)

-- a call of a workflow: at its name, after its arguments, after its body
pub workflow_grows : (n : List ℕ) (s r t u : State) → is_plain_name n ≡ true → is_among n s.scope.called ≡ false → r.scope.path ≡ s.scope.path
    → r.scope.called ≡ n ∷ s.scope.called → r.paths ≡ s.paths → r.meant.instances ≡ s.meant.instances → Grows r t → GrowsInside n t u → Grows s u
workflow_grows n s r t u plain new path called paths meant g h =
    let body : t.scope.path ≡ s.scope.path = g.path ∙ path in
    let here : is_among n r.scope.called ≡ true = subst (λ z. is_among n z ≡ true) (sym called) (named_first n s.scope.called) in
    let still : Within s.scope.called r.scope.called = λ m e. subst (λ z. is_among m z ≡ true) (sym called) (still_there n m s.scope.called e) in
    let args : AllBelong s.scope.path r.scope.called t.scope.called g.added = subst (λ z. AllBelong z r.scope.called t.scope.called g.added) path g.belong in
    let inner : AllInside s.scope.path n h.added = subst (λ z. AllInside z n h.added) body h.inside in
    let last : Within t.scope.called u.scope.called = λ m e. subst (λ z. is_among m z ≡ true) (sym h.called) e in
    record {
      path = h.path ∙ body;
      called = λ m e. last m (g.called m (still m e));
      added = g.added ++ h.added;
      paths = h.paths ∙ ap (λ z. z ++ h.added) (g.paths ∙ ap (λ z. z ++ g.added) paths) ∙ append_assoc s.paths g.added h.added;
      belong =
          both_belong s.scope.path s.scope.called u.scope.called g.added h.added
          (all_still s.scope.path r.scope.called t.scope.called s.scope.called u.scope.called g.added still last args)
          (inside_belong s.scope.path n s.scope.called u.scope.called h.added plain new (last n (g.called n here)) inner);
      apart = turned_apart s.scope.path s.scope.called r.scope.called t.scope.called h.added g.added
          (inside_belong s.scope.path n s.scope.called r.scope.called h.added plain new here inner) args h.apart g.apart;
      new = both_new s t u g.added h.added
          (λ c i j. disjoint s.scope.path s.scope.called r.scope.called t.scope.called h.added g.added
          (inside_belong s.scope.path n s.scope.called r.scope.called h.added plain new here inner) args c j i)
          (new_between s r t t g.added meant refl g.new) h.new;
    }
  where
    or_true : (b : Bool) → (b || true) ≡ true
    or_true true = refl
    or_true false = refl

    same_text : (n : List ℕ) → bytes_eq n n ≡ true
    same_text n = (bytes_eq-Decides n n).1 refl

    by_first : (b c : Bool) → b ≡ true → (b || c) ≡ true
    by_first true c e = refl
    by_first false c e = absurd (let f : false ≡ true = e in cc)

    named_first : (n : List ℕ) (ms : List (List ℕ)) → is_among n (n ∷ ms) ≡ true
    named_first n ms = by_first (bytes_eq n n) (is_among n ms) (same_text n)

    by_second : (b c : Bool) → c ≡ true → (b || c) ≡ true
    by_second true c e = refl
    by_second false c e = e

    still_there : (n m : List ℕ) (ms : List (List ℕ)) → is_among m ms ≡ true → is_among m (n ∷ ms) ≡ true
    still_there n m ms e = by_second (bytes_eq n m) (is_among m ms) e

-- a scope of its own, whose body's path ends with the name and a colon
pub inside_grows : (n : List ℕ) (s r t u : State) → r.scope.path ≡ s.scope.path ++ n ++ (58 ∷ []) → r.paths ≡ s.paths → r.meant.instances ≡ s.meant.instances → Grows r t
    → u.scope.path ≡ s.scope.path → u.scope.called ≡ s.scope.called → u.paths ≡ t.paths → u.meant.instances ≡ t.meant.instances → GrowsInside n s u
inside_grows n s r t u path paths meant g path_u called_u paths_u meant_u = record {
  path = path_u;
  called = called_u;
  added = g.added;
  paths = paths_u ∙ g.paths ∙ ap (λ z. z ++ g.added) paths;
  inside = all_inside r.scope.called t.scope.called g.added (subst (λ z. AllBelong z r.scope.called t.scope.called g.added) path g.belong);
  apart = g.apart;
  new = new_between s r t u g.added meant meant_u g.new;
}
  where
    all_inside : (before after ps : List (List ℕ)) → AllBelong (s.scope.path ++ n ++ (58 ∷ [])) before after ps → AllInside s.scope.path n ps
    all_inside before after [] b = tt
    all_inside before after (p ∷ ps) b = (
      (
        b.0.name ++ b.0.rest,
        b.0.is ∙ append_assoc (s.scope.path ++ n) (58 ∷ []) (b.0.name ++ b.0.rest) ∙ append_assoc s.scope.path n (58 ∷ (b.0.name ++ b.0.rest)),
      ),
      all_inside before after ps b.1,
    )

-- ---- tasks of a call

abbrev pub AllOf : List ℕ → List Instance → Type 0
AllOf path [] = Unit {0}
AllOf path (z ∷ zs) = (z.call ≡ path) × AllOf path zs

of_path : (path : List ℕ) (ps : List (List ℕ)) (zs : List Instance) → is_among path ps ≡ true → AllOf path zs → MadeBy ps zs
of_path path ps [] e h = tt
of_path path ps (z ∷ zs) e h = (subst (λ c. is_among c ps ≡ true) (sym h.0) e, of_path path ps zs e h.1)

-- the path of the call itself
own_path : (n : List ℕ) (s : State) → is_plain_name n ≡ true → is_among n s.scope.called ≡ false → (after : List (List ℕ)) → is_among n after ≡ true
    → Belongs s.scope.path s.scope.called after (s.scope.path ++ n)
own_path n s plain fresh after now = record {
  name = n;
  rest = [];
  is = ap (λ z. s.scope.path ++ z) (sym (append-nil n));
  plain = plain;
  ends = tt;
  new = fresh;
  now = now;
}

-- a call of a process: at its name, after its arguments, and with its tasks
pub process_grows : (n : List ℕ) (s r t u : State) → is_plain_name n ≡ true → is_among n s.scope.called ≡ false → r.scope.path ≡ s.scope.path
    → r.scope.called ≡ n ∷ s.scope.called → r.paths ≡ s.paths ++ (s.scope.path ++ n) ∷ [] → r.meant.instances ≡ s.meant.instances → Grows r t
    → u.scope.path ≡ t.scope.path → u.scope.called ≡ t.scope.called → u.paths ≡ t.paths → (zs : List Instance) → u.meant.instances ≡ t.meant.instances ++ zs
    → AllOf (s.scope.path ++ n) zs → Once zs → Grows s u
unfolding IsDistinct
process_grows n s r t u plain fresh path called paths meant g path_u called_u paths_u zs meant_u of_zs once_zs =
    let here : is_among n r.scope.called ≡ true = subst (λ z. is_among n z ≡ true) (sym called) (or_first (bytes_eq n n) (is_among n s.scope.called) ((bytes_eq-Decides n n).1 refl)) in
    let still : Within s.scope.called r.scope.called = λ m e. subst (λ z. is_among m z ≡ true) (sym called) (or_second (bytes_eq n m) (is_among m s.scope.called) e) in
    let last : Within t.scope.called u.scope.called = λ m e. subst (λ z. is_among m z ≡ true) (sym called_u) e in
    let args : AllBelong s.scope.path r.scope.called t.scope.called g.added = subst (λ z. AllBelong z r.scope.called t.scope.called g.added) path g.belong in
    let one : is_among (s.scope.path ++ n) ((s.scope.path ++ n) ∷ g.added) ≡ true =
    or_first (bytes_eq (s.scope.path ++ n) (s.scope.path ++ n)) (is_among (s.scope.path ++ n) g.added) ((bytes_eq-Decides (s.scope.path ++ n) (s.scope.path ++ n)).1 refl) in
    let alone : is_among (s.scope.path ++ n) ((s.scope.path ++ n) ∷ []) ≡ true =
    or_first (bytes_eq (s.scope.path ++ n) (s.scope.path ++ n)) false ((bytes_eq-Decides (s.scope.path ++ n) (s.scope.path ++ n)).1 refl) in
    record {
      path = path_u ∙ g.path ∙ path;
      called = λ m e. last m (g.called m (still m e));
      added = (s.scope.path ++ n) ∷ g.added;
      paths = paths_u ∙ g.paths ∙ ap (λ z. z ++ g.added) paths ∙ append_assoc s.paths ((s.scope.path ++ n) ∷ []) g.added;
      belong = (
        own_path n s plain fresh u.scope.called (last n (g.called n here)),
        all_still s.scope.path r.scope.called t.scope.called s.scope.called u.scope.called g.added still last args,
      );
      apart = (
        one_apart s.scope.path s.scope.called r.scope.called t.scope.called (s.scope.path ++ n) g.added (own_path n s plain fresh r.scope.called here) args,
        g.apart,
      );
      new = record {
        tasks = g.new.tasks ++ zs;
        meant = meant_u ∙ ap (λ z. z ++ zs) (g.new.meant ∙ ap (λ z. z ++ g.new.tasks) meant) ∙ append_assoc s.meant.instances g.new.tasks zs;
        of = both_made ((s.scope.path ++ n) ∷ g.added) g.new.tasks zs (made_after ((s.scope.path ++ n) ∷ []) g.added g.new.tasks g.new.of)
            (of_path (s.scope.path ++ n) ((s.scope.path ++ n) ∷ g.added) zs one of_zs);
        once = once_both g.added ((s.scope.path ++ n) ∷ []) g.new.tasks zs
            (λ c i j. disjoint s.scope.path s.scope.called r.scope.called t.scope.called ((s.scope.path ++ n) ∷ []) g.added (own_path n s plain fresh r.scope.called here, tt) args c j i)
            g.new.of (of_path (s.scope.path ++ n) ((s.scope.path ++ n) ∷ []) zs alone of_zs) g.new.once once_zs;
      };
    }
