-- What is called, and with what.
use Rattle.std.proofs.Common.{◌≡◌, List, [], ◌∷◌, ◌++◌, refl, sym, ap, ◌∙◌, subst, append_assoc}
use Rattle.std.specs.Str.{bytes_eq}
use Rattle.std.specs.Prelude.{ℕ, ◌||◌, Bool, true, false, Option, Some, None, option_map, codes, if◌then◌else◌, Result, IfOk}
use Rattle.nf_value.specs.declared.place.Place.{Place}
use Rattle.nf_ast.specs.Tree.{Tree, empty}
use Rattle.nf_kinds.specs.declared.args.Given.{Given}
use Rattle.nf_kinds.specs.declared.kinds.Key.TheVariants as key
use Rattle.nf_kinds.specs.declared.kinds.Kinds.{Kinds}
use Rattle.nf_kinds.specs.Kinds.{Shaped, alone, merged, output_of, unknown_kind}
use Rattle.nf_kinds.specs.Scope.{Scope, bound_in, bound_or, shape_in}
use Rattle.nf_kinds.specs.Args.{any_unknown}
use Rattle.nf_kinds.specs.Walk.{Walk, came, after, then_by, ◌>>=◌, gives}
use Rattle.nf_opkinds.specs.Operators.{member_call}
use Rattle.nf_opkinds.specs.Calls.{source_call}
use Rattle.nf_opkinds.specs.Results.{or_plain}
use Rattle.nf_order.specs.declared.around.State.{State}
use Rattle.nf_order.specs.declared.subject.Free.{Free}
use Rattle.nf_order.specs.declared.subject.Free.TheVariants as free
use Rattle.nf_order.specs.declared.subject.Head.{Head}
use Rattle.nf_order.specs.declared.subject.Head.TheVariants as head
use Rattle.nf_order.specs.declared.subject.Subject.{Subject}
use Rattle.nf_order.specs.Callees.{Around, call_of}
use Rattle.nf_order.specs.Memory.{of_member}
use Rattle.nf_order.specs.Parts.{Arg, Part, all_given, beside, called_out, called_thing, expression, free_kind, free_member, free_method, is_channel_word, may_be_free, member_of, method_of, name_member, name_method, of_call, of_closed, of_name, of_property, or_part, out_or_method, part_of, plain_by, indexed, with_method}
use Rattle.nf_order.specs.Standing.{Gives, IsCalledBy, Leads, Stands, args_or_none, call_now, called_by, called_with, after_index, free_head, free_now, free_part, half_now, IsFree, named_by, piped_now, rest, rest_by, uncalled}
use Rattle.nf_order.proofs.Walks.{after_none, alike, given_back, goes, if_ok, leads_on, regroups, still, then_alike, then_gives, then_twice}
use Rattle.nf_order.proofs.Standing.{beside_leads, expression_stands, method_stands, stands_on, stands_still}
use Rattle.nf_order.proofs.Ways.{either_alike}

-- ---- arguments in a row

-- what is given at once
gives_on : {A B : Type 0} (x : A) (f : A → Walk B) (s : Scope) → (gives x >>= f) s ≡ f x s
gives_on x f s = after_none (f x s)

abbrev put_first : Given → Walk (List Given) → Walk (List Given)
put_first g w = w >>= λ gs. gives (g ∷ gs)

abbrev put_before : List Arg → List Given → Walk (List Given)
put_before ys gs = all_given ys >>= λ hs. gives (gs ++ hs)

abbrev both_rows : List Arg → List Arg → Given → Walk (List Given)
both_rows xs ys g = all_given xs >>= λ gs. put_before ys (g ∷ gs)

first_on : (ys : List Arg) (g : Given) (gs : List Given) (s : Scope) → put_first g (put_before ys gs) s ≡ put_before ys (g ∷ gs) s
first_on ys g gs s =
    then_twice (λ hs. gives (gs ++ hs)) (λ hs. gives (g ∷ hs)) (all_given ys s)
    ∙ then_alike (λ hs. gives (gs ++ hs) >>= λ zs. gives (g ∷ zs)) (λ hs. gives (g ∷ (gs ++ hs))) (all_given ys s) (λ hs r. refl)

row_left : (xs ys : List Arg) (g : Given) (s : Scope) → all_given (xs ++ ys) s ≡ (all_given xs >>= put_before ys) s → put_first g (all_given (xs ++ ys)) s ≡ both_rows xs ys g s
row_left xs ys g s h =
    ap (then_by (λ gs. gives (g ∷ gs))) h
    ∙ then_twice (put_before ys) (λ gs. gives (g ∷ gs)) (all_given xs s)
    ∙ then_alike (λ gs. put_first g (put_before ys gs)) (λ gs. put_before ys (g ∷ gs)) (all_given xs s) (λ gs r. first_on ys g gs r)

row_right : (xs ys : List Arg) (g : Given) (s : Scope) → (put_first g (all_given xs) >>= put_before ys) s ≡ both_rows xs ys g s
row_right xs ys g s =
    then_twice (λ gs. gives (g ∷ gs)) (put_before ys) (all_given xs s)
    ∙ then_alike (λ gs. gives (g ∷ gs) >>= put_before ys) (λ gs. put_before ys (g ∷ gs)) (all_given xs s) (λ gs r. gives_on (g ∷ gs) (put_before ys) r)

-- those of two rows
more_given : (xs ys : List Arg) (s : Scope) → all_given (xs ++ ys) s ≡ (all_given xs >>= put_before ys) s
more_given [] ys s = sym (gives_on [] (put_before ys) s ∙ then_gives (all_given ys s))
more_given (x ∷ xs) ys s =
    then_alike (λ g. put_first g (all_given (xs ++ ys))) (both_rows xs ys) (x s) (λ g r. row_left xs ys g r (more_given xs ys r))
    ∙ sym (then_twice (λ g. put_first g (all_given xs)) (put_before ys) (x s)
    ∙ then_alike (λ g. put_first g (all_given xs) >>= put_before ys) (both_rows xs ys) (x s) (λ g r. row_right xs ys g r))

-- what follows two rows, where the first gives this
rows_on : (xs ys : List Arg) (f : List Given → Walk Shaped) (gs : List Given) (old new : State) → Gives (all_given xs) old gs new → Leads (all_given (xs ++ ys) >>= f) (all_given ys >>= λ hs. f (gs ++ hs)) old new
rows_on xs ys f gs old new h =
    ap (λ o. after old.broken.items (then_by f o)) (more_given xs ys old.scope)
    ∙ regroups (all_given xs) (put_before ys) f old
    ∙ goes (all_given xs) (λ gs. put_before ys gs >>= f) gs old new h
    ∙ regroups (all_given ys) (λ hs. gives (gs ++ hs)) f new
    ∙ alike (all_given ys) (λ hs. gives (gs ++ hs) >>= f) (λ hs. f (gs ++ hs)) new (λ hs r. gives_on (gs ++ hs) f r)

-- one argument
pub one_given : (x : Arg) (g : Given) (old new : State) → Gives x old g new → Gives (all_given (x ∷ [])) old (g ∷ []) new
one_given x g old new h =
    given_back (all_given (x ∷ [])) (g ∷ []) old new
    (goes x (λ g. all_given [] >>= λ gs. gives (g ∷ gs)) g old new h ∙ ap (after new.broken.items) (gives_on [] (λ gs. gives (g ∷ gs)) new.scope))

-- ---- what is called by arguments

beside_row : (a : Around) (h : Head) (g : Given) (xs : List Arg) (s : State) → Leads (beside g (called_by a h xs)) (all_given xs >>= λ gs. beside g (call_now a h gs)) s s
beside_row a h g xs s = regroups (all_given xs) (call_now a h) (λ v. plain_by (g.shape.kinds.unknown || v.kinds.unknown)) s

thing_called : (a : Around) (w : Walk Shaped) (v : Shaped) (old new : State) (xs : List Arg) → Gives w old v new → Leads (called_thing w xs) (called_by a (head.Value v) xs) old new
thing_called a w v old new xs h = goes w (λ v. all_given xs >>= λ gs. plain_by (v.kinds.unknown || any_unknown gs)) v old new h

thing_named : (a : Around) (w : Walk Shaped) (v : Shaped) (old new : State) (g : Given) (xs : List Arg) → Gives w old v new → Leads (beside g (called_thing w xs)) (named_by a (head.Value v) g xs) old new
thing_named a w v old new g xs h =
    leads_on (called_thing w xs) (called_by a (head.Value v) xs) (λ v. plain_by (g.shape.kinds.unknown || v.kinds.unknown)) old new (thing_called a w v old new xs h)
    ∙ beside_row a (head.Value v) g xs new

name_named : (a : Around) (p : Place) (n : List ℕ) (g : Given) (xs : List Arg) (s : State) → Leads (put_first g (all_given xs) >>= call_of (a.callee n) p n) (named_by a (head.Name p n) g xs) s s
name_named a p n g xs s =
    regroups (all_given xs) (λ gs. gives (g ∷ gs)) (call_of (a.callee n) p n) s
    ∙ alike (all_given xs) (λ gs. gives (g ∷ gs) >>= call_of (a.callee n) p n) (λ gs. call_of (a.callee n) p n (g ∷ gs)) s (λ gs r. gives_on (g ∷ gs) (call_of (a.callee n) p n) r)

pub here : (v : Shaped) (s : State) → Gives (gives v) s v s
here v s = still (gives v) v s refl

pub uncalled_called : (a : Around) (h : Head) (s : State) → IsCalledBy a (uncalled a h) h s s
uncalled_called a (head.Value v) s = record {
  called = λ xs. thing_called a (gives v) v s s xs (here v s);
  named = λ g xs. thing_named a (gives v) v s s g xs (here v s);
}
uncalled_called a (head.Name p n) s = record { called = λ xs. refl; named = λ g xs. name_named a p n g xs s }
uncalled_called a (head.Member v p n) s = record { called = λ xs. refl; named = λ g xs. beside_row a (head.Member v p n) g xs s }
uncalled_called a (head.Source n) s = record { called = λ xs. refl; named = λ g xs. beside_row a (head.Source n) g xs s }
uncalled_called a (head.HalfBound v f p n) s = record { called = λ xs. refl; named = λ g xs. beside_row a (head.HalfBound v f p n) g xs s }

pub result_called : (a : Around) (h : Head) (gs : List Given) (v : Shaped) (old new : State) → Gives (call_now a h gs) old v new → IsCalledBy a (called_with a h gs) (head.Value v) old new
result_called a h gs v old new e = record {
  called = λ xs. thing_called a (call_now a h gs) v old new xs e;
  named = λ g xs. thing_named a (call_now a h gs) v old new g xs e;
}

-- what is called, as it lies in memory
pub rest_uncalled : (a : Around) (h : Head) (o : Option (List Given)) (s : State) → o ≡ None → IsCalledBy a (rest_by a h o) h s s
rest_uncalled a h o s is = subst (λ (u : Option (List Given)). IsCalledBy a (rest_by a h u) h s s) (sym is) (uncalled_called a h s)

pub rest_result : (a : Around) (h : Head) (o : Option (List Given)) (gs : List Given) (v : Shaped) (old new : State) → o ≡ Some gs → Gives (call_now a h gs) old v new → IsCalledBy a (rest_by a h o) (head.Value v) old new
rest_result a h o gs v old new is e = subst (λ (u : Option (List Given)). IsCalledBy a (rest_by a h u) (head.Value v) old new) (sym is) (result_called a h gs v old new e)

-- a subject that is known
pub is_subject : (a : Around) (p : Part) (x y : Subject) (old new : State) → Stands p (rest a x) old new → y ≡ x → Stands p (rest a y) old new
is_subject a p x y old new s is = subst (λ (z : Subject). Stands p (rest a z) old new) (sym is) s

pub is_result : {E : Type 0} (a : Around) (p : Part) (x : Subject) (r : Result Subject E) (old new : State) → Stands p (rest a x) old new → IfOk r (λ y. y ≡ x) → IfOk r (λ y. Stands p (rest a y) old new)
is_result a p x r old new s is = if_ok r (λ y. y ≡ x) (λ y. Stands p (rest a y) old new) (λ y e. is_subject a p x y old new s e) is

-- an expression with its arguments
pub args_stand : (a : Around) (p : Part) (h : Head) (xs : List Arg) (gs : List Given) (old mid new : State) → IsCalledBy a p h old mid → Gives (all_given xs) mid gs new → Stands (of_call empty p xs) (called_with a h gs) old new
args_stand a p h xs gs old mid new c e =
    let thing : Leads (p.called xs) (call_now a h gs) old new = c.called xs ∙ goes (all_given xs) (call_now a h) gs mid new e in
    let s = expression_stands empty empty (p.called xs) (call_now a h gs) old new thing in
    record {
      thing = s.thing;
      head = s.head;
      member = s.member;
      method = s.method;
      called = s.called;
      closed = λ ys. c.called (xs ++ ys) ∙ rows_on xs ys (call_now a h) gs mid new e;
      named = s.named;
      piped = λ g. c.named g xs ∙ goes (all_given xs) (piped_now a h g) gs mid new e;
      piped_closed = λ g ys. c.named g (xs ++ ys) ∙ rows_on xs ys (piped_now a h g) gs mid new e;
      done = s.done;
    }

-- ---- closures after an expression

-- closures after a part are arguments after these
record IsClosedBy (a : Around) (p : Part) (h : Head) (gs : List Given) (s : State) : Type 0 where
  closed : (xs : List Arg) → Leads (p.closed xs) (all_given xs >>= λ hs. call_now a h (gs ++ hs)) s s
  piped_closed : (g : Given) (xs : List Arg) → Leads (p.piped_closed g xs) (all_given xs >>= λ hs. piped_now a h g (gs ++ hs)) s s

uncalled_closed : (a : Around) (h : Head) (s : State) → IsClosedBy a (uncalled a h) h [] s
uncalled_closed a (head.Value v) s = let c = uncalled_called a (head.Value v) s in record { closed = c.called; piped_closed = c.named }
uncalled_closed a (head.Name p n) s = let c = uncalled_called a (head.Name p n) s in record { closed = c.called; piped_closed = c.named }
uncalled_closed a (head.Member v p n) s = let c = uncalled_called a (head.Member v p n) s in record { closed = c.called; piped_closed = c.named }
uncalled_closed a (head.Source n) s = let c = uncalled_called a (head.Source n) s in record { closed = c.called; piped_closed = c.named }
uncalled_closed a (head.HalfBound v f p n) s = let c = uncalled_called a (head.HalfBound v f p n) s in record { closed = c.called; piped_closed = c.named }

rest_closed : (a : Around) (h : Head) (o : Option (List Given)) (s : State) → IsClosedBy a (rest_by a h o) h (args_or_none o) s
rest_closed a h None s = uncalled_closed a h s
rest_closed a h (Some gs) s = record { closed = λ xs. refl; piped_closed = λ g xs. refl }

-- one more argument, and what follows it
last_on : (x : Arg) (ys : List Arg) (f : List Given → Walk Shaped) (gs : List Given) (g : Given) (old new : State) → Gives x old g new → Leads (all_given (x ∷ ys) >>= λ hs. f (gs ++ hs)) (all_given ys >>= λ hs. f ((gs ++ g ∷ []) ++ hs)) old new
last_on x ys f gs g old new e =
    rows_on (x ∷ []) ys (λ hs. f (gs ++ hs)) (g ∷ []) old new (one_given x g old new e)
    ∙ alike (all_given ys) (λ hs. f (gs ++ (g ∷ hs))) (λ hs. f ((gs ++ g ∷ []) ++ hs)) new (λ hs r. ap (λ l. f l r) (sym (append_assoc gs (g ∷ []) hs)))

pub last_stands : (a : Around) (h : Head) (o : Option (List Given)) (x : Arg) (g : Given) (gs : List Given) (old new : State) → gs ≡ args_or_none o ++ g ∷ [] → Gives x old g new → Stands (of_closed empty (rest_by a h o) x) (called_with a h gs) old new
last_stands a h o x g gs old new is e =
    let before = args_or_none o in
    let p = rest_by a h o in
    let c = rest_closed a h o old in
    let after_one : (f : List Given → Walk Shaped) → Leads (all_given (x ∷ []) >>= λ hs. f (before ++ hs)) (f (before ++ g ∷ [])) old new = λ f. goes (all_given (x ∷ [])) (λ hs. f (before ++ hs)) (g ∷ []) old new (one_given x g old new e) in
    let thing : Leads (p.closed (x ∷ [])) (call_now a h (before ++ g ∷ [])) old new = c.closed (x ∷ []) ∙ after_one (call_now a h) in
    let s = expression_stands empty empty (p.closed (x ∷ [])) (call_now a h (before ++ g ∷ [])) old new thing in
    let all : Stands (of_closed empty p x) (called_with a h (before ++ g ∷ [])) old new = record {
      thing = s.thing;
      head = s.head;
      member = s.member;
      method = s.method;
      called = s.called;
      closed = λ ys. c.closed (x ∷ ys) ∙ last_on x ys (call_now a h) before g old new e;
      named = s.named;
      piped = λ k. c.piped_closed k (x ∷ []) ∙ after_one (piped_now a h k);
      piped_closed = λ k ys. c.piped_closed k (x ∷ ys) ∙ last_on x ys (piped_now a h k) before g old new e;
      done = s.done;
    } in
    subst (λ (l : List Given). Stands (of_closed empty p x) (called_with a h l) old new) (sym is) all

-- ---- parts of an expression

-- a part of what a walk gives
pub member_stands : (a : Around) (w : Walk Shaped) (v : Shaped) (p : Place) (n : List ℕ) (old new : State) → Gives w old v new → Stands (with_method (method_of w p n) (expression empty (member_of w n))) (uncalled a (head.Member v p n)) old new
member_stands a w v p n old new e =
    method_stands (expression empty (member_of w n)) (expression empty (gives (alone (output_of (key.Called n) v)))) (method_of w p n) (called_by a (head.Member v p n)) old new
    (λ xs. goes w (λ v. all_given xs >>= λ gs. member_call p n v gs) v old new e)
    (expression_stands empty empty (member_of w n) (gives (alone (output_of (key.Called n) v))) old new (goes w (λ v. gives (alone (output_of (key.Called n) v))) v old new e))

-- a head that isn't a name
abbrev pub IsNoName : Head → Type 0
IsNoName (head.Name p n) = ⊥
IsNoName h = Unit {0}

pub head_member : (a : Around) (h : Head) (v : Shaped) (p : Place) (n : List ℕ) (s : State) → IsNoName h → (uncalled a h).thing s.scope ≡ came v s.scope [] → Stands (of_property empty (uncalled a h) p n) (uncalled a (head.Member v p n)) s s
head_member a (head.Value u) v p n s i e = member_stands a (gives u) v p n s s (still (gives u) v s e)
head_member a (head.Name q m) v p n s i e = absurd i
head_member a (head.Member u q m) v p n s i e = let w = (uncalled a (head.Member u q m)).thing in member_stands a w v p n s s (still w v s e)
head_member a (head.Source m) v p n s i e = let w = (uncalled a (head.Source m)).thing in member_stands a w v p n s s (still w v s e)
head_member a (head.HalfBound u f q m) v p n s i e = let w = (uncalled a (head.HalfBound u f q m)).thing in member_stands a w v p n s s (still w v s e)

-- ---- a part of what is a name

value_called : (a : Around) (v : Shaped) (s : State) → Stands (with_method (called_by a (head.Value v)) (expression empty (gives v))) (uncalled a (head.Value v)) s s
value_called a v s =
    let m = called_by a (head.Value v) in
    let c : (xs : List Arg) → Leads (m xs) (called_thing (gives v) xs) s s = λ xs. sym (thing_called a (gives v) v s s xs (here v s)) in
    let e = stands_still (expression empty (gives v)) s in
    record {
      thing = e.thing;
      head = e.head;
      member = e.member;
      method = e.method;
      called = c;
      closed = c;
      named = λ g xs. beside_leads g (m xs) (called_thing (gives v) xs) s s (c xs);
      piped = e.piped;
      piped_closed = λ g xs. beside_leads g (m xs) (called_thing (gives v) xs) s s (c xs);
      done = e.done;
    }

-- what nothing binds
abbrev free_word : Around → Free → Place → List ℕ → Part
free_word a f p n = with_method (called_by a (free_head f p n)) (expression empty (gives (free_part f n)))

free_called : (a : Around) (f : Free) (p : Place) (n : List ℕ) (s : State) → Stands (free_word a f p n) (uncalled a (free_head f p n)) s s
free_called a free.Channel p n s = stands_still (free_word a free.Channel p n) s
free_called a (free.Output v) p n s = value_called a v s
free_called a (free.Word v) p n s = stands_still (free_word a (free.Word v) p n) s

free_call_now : (a : Around) (f : Free) (p : Place) (n : List ℕ) (gs : List Given) → call_now a (free_head f p n) gs ≡ free_now f p n gs
free_call_now a free.Channel p n gs = refl
free_call_now a (free.Output v) p n gs = refl
free_call_now a (free.Word v) p n gs = refl

-- a part that is this in the scope where it stands, and is called so
word_stands : (a : Around) (h : Head) (q p : Place) (m n : List ℕ) (k : Shaped) (s : State) → (of_name a q m).member n s.scope ≡ came k s.scope [] → ((xs : List Arg) → (of_name a q m).method p n xs s.scope ≡ called_by a h xs s.scope) → Stands (of_property empty (of_name a q m) p n) (with_method (called_by a h) (expression empty (gives k))) s s
word_stands a h q p m n k s thing method =
    method_stands (expression empty ((of_name a q m).member n)) (expression empty (gives k)) ((of_name a q m).method p n) (called_by a h) s s
    (λ xs. ap (after s.broken.items) (method xs))
    (expression_stands empty empty ((of_name a q m).member n) (gives k) s s (ap (after s.broken.items) thing))

pub free_stands : (a : Around) (q p : Place) (m n : List ℕ) (f : Free) (s : State) → bound_in m s.scope ≡ None → IsFree s.scope m n f → Stands (of_property empty (of_name a q m) p n) (uncalled a (free_head f p n)) s s
free_stands a q p m n f s none is =
    let half = may_be_free m s.scope in
    let h = free_head f p n in
    let thing : (of_name a q m).member n s.scope ≡ came (free_part f n) s.scope [] =
    ap (λ b. came (name_member half b s.scope m n) s.scope []) none ∙ ap (λ v. came v s.scope []) is.part in
    let method : (xs : List Arg) → (of_name a q m).method p n xs s.scope ≡ called_by a h xs s.scope = λ xs.
    ap (λ b. (all_given xs >>= name_method half b s.scope m p n) s.scope) none
    ∙ then_alike (name_method half None s.scope m p n) (call_now a h) (all_given xs s.scope) (λ gs r. is.call p gs r ∙ ap (λ w. w r) (sym (free_call_now a f p n gs))) in
    stands_on (of_property empty (of_name a q m) p n) (free_word a f p n) (uncalled a h) s s s (word_stands a h q p m n (free_part f n) s thing method) (free_called a f p n s)

-- what is bound
pub bound_stands : (a : Around) (q p : Place) (m n : List ℕ) (v : Shaped) (s : State) → bound_in m s.scope ≡ Some v → may_be_free m s.scope ≡ false → Stands (of_property empty (of_name a q m) p n) (uncalled a (head.Member v p n)) s s
bound_stands a q p m n v s some whole =
    let k = alone (output_of (key.Called n) v) in
    let thing : (of_name a q m).member n s.scope ≡ came k s.scope [] =
    ap (λ b. came (name_member (may_be_free m s.scope) b s.scope m n) s.scope []) some ∙ ap (λ h. came (bound_or h k (free_member s.scope m n)) s.scope []) whole in
    let method : (xs : List Arg) → (of_name a q m).method p n xs s.scope ≡ called_by a (head.Member v p n) xs s.scope = λ xs.
    ap (λ b. (all_given xs >>= name_method (may_be_free m s.scope) b s.scope m p n) s.scope) some
    ∙ ap (λ h. (all_given xs >>= name_method h (Some v) s.scope m p n) s.scope) whole in
    word_stands a (head.Member v p n) q p m n k s thing method

-- what may be free too
pub half_stands : (a : Around) (q p : Place) (m n : List ℕ) (v : Shaped) (f : Free) (s : State) → bound_in m s.scope ≡ Some v → may_be_free m s.scope ≡ true → IsFree s.scope m n f → Stands (of_property empty (of_name a q m) p n) (uncalled a (head.HalfBound v f p n)) s s
half_stands a q p m n v f s some half is =
    let k = alone (output_of (key.Called n) v) in
    let thing : (of_name a q m).member n s.scope ≡ came (merged k (free_part f n)) s.scope [] =
    ap (λ b. came (name_member (may_be_free m s.scope) b s.scope m n) s.scope []) some
    ∙ ap (λ h. came (bound_or h k (free_member s.scope m n)) s.scope []) half
    ∙ ap (λ u. came (merged k u) s.scope []) is.part in
    let method : (xs : List Arg) → (of_name a q m).method p n xs s.scope ≡ called_by a (head.HalfBound v f p n) xs s.scope = λ xs.
    ap (λ b. (all_given xs >>= name_method (may_be_free m s.scope) b s.scope m p n) s.scope) some
    ∙ ap (λ h. (all_given xs >>= name_method h (Some v) s.scope m p n) s.scope) half
    ∙ then_alike (name_method true (Some v) s.scope m p n) (half_now v f p n) (all_given xs s.scope)
    (λ gs r. either_alike (member_call p n v gs) (free_method s.scope m p n gs) (free_now f p n gs) r (is.call p gs r)) in
    word_stands a (head.HalfBound v f p n) q p m n (merged k (free_part f n)) s thing method

-- ---- what nothing binds before a dot

none_or : {A : Type 0} (b : Bool) (o : Option A) → o ≡ None → (if b then o else None) ≡ None
none_or true o h = h
none_or false o h = refl

pub no_call : (s : Scope) (m n : List ℕ) → shape_in m s.calls ≡ None → called_out s m n ≡ None
no_call s m n h =
    let f = option_map (or_plain (free_kind m).plain) in
    none_or (bytes_eq n (codes "out")) (f (shape_in m s.calls)) (ap f h)

pub not_out : (s : Scope) (m n : List ℕ) → bytes_eq n (codes "out") ≡ false → called_out s m n ≡ None
not_out s m n h = ap (λ b. if b then option_map (or_plain (free_kind m).plain) (shape_in m s.calls) else None) h

pub channel_is_free : (s : Scope) (m n : List ℕ) → is_channel_word m ≡ true → IsFree s m n free.Channel
channel_is_free s m n word = record {
  part = ap (λ b. if b then alone unknown_kind else or_part (called_out s m n) m n) word;
  call = λ p gs r. ap (λ b. (if b then gives (alone (source_call n gs)) else out_or_method (called_out s m n) m p n gs) r) word;
}

pub output_is_free : (s : Scope) (m n : List ℕ) (v : Shaped) → is_channel_word m ≡ false → called_out s m n ≡ Some v → IsFree s m n (free.Output v)
output_is_free s m n v word out = record {
  part = ap (λ b. if b then alone unknown_kind else or_part (called_out s m n) m n) word ∙ ap (λ o. or_part o m n) out;
  call = λ p gs r. ap (λ b. (if b then gives (alone (source_call n gs)) else out_or_method (called_out s m n) m p n gs) r) word ∙ ap (λ o. out_or_method o m p n gs r) out;
}

pub called_is_free : {E : Type 0} (s : Scope) (m n : List ℕ) (v : Shaped) (r : Result Free E) → is_channel_word m ≡ false → bytes_eq n (codes "out") ≡ true → shape_in m s.calls ≡ Some v → IfOk r (λ f. f ≡ free.Output (or_plain (free_kind m).plain v)) → IfOk r (λ f. IsFree s m n f)
called_is_free s m n v r word out some g =
    let w = or_plain (free_kind m).plain v in
    let is : called_out s m n ≡ Some w =
    ap (λ b. if b then option_map (or_plain (free_kind m).plain) (shape_in m s.calls) else None) out ∙ ap (option_map (or_plain (free_kind m).plain)) some in
    if_ok r (λ f. f ≡ free.Output w) (λ f. IsFree s m n f)
    (λ f e. subst (λ (k : Free). IsFree s m n k) (sym e) (output_is_free s m n w word is)) g

pub word_is_free : (s : Scope) (m n : List ℕ) (v : Shaped) → is_channel_word m ≡ false → called_out s m n ≡ None → v ≡ alone (free_kind m) → IsFree s m n (free.Word v)
word_is_free s m n v word out is = record {
  part = ap (λ b. if b then alone unknown_kind else or_part (called_out s m n) m n) word ∙ ap (λ o. or_part o m n) out ∙ ap (λ u. alone (output_of (key.Called n) u)) (sym is);
  call = λ p gs r. ap (λ b. (if b then gives (alone (source_call n gs)) else out_or_method (called_out s m n) m p n gs) r) word ∙ ap (λ o. out_or_method o m p n gs r) out ∙ ap (λ u. member_call p n u gs r) (sym is);
}

-- ---- an index

pub index_stands : (a : Around) (p : Part) (i : Tree) (v k : Shaped) (x : Kinds) (old mid new : State) → Gives p.thing old v mid → Gives (part_of a i).thing mid k new → indexed i v k.kinds ≡ x → Stands (after_index a p i) (uncalled a (head.Value (alone x))) old new
index_stands a p i v k x old mid new e f is =
    expression_stands empty empty (p.thing >>= λ v. (part_of a i).thing >>= λ k. gives (alone (indexed i v k.kinds))) (gives (alone x)) old new
    (goes p.thing (λ v. (part_of a i).thing >>= λ k. gives (alone (indexed i v k.kinds))) v old mid e
    ∙ goes (part_of a i).thing (λ k. gives (alone (indexed i v k.kinds))) k mid new f
    ∙ ap (λ y. after new.broken.items (gives (alone y) new.scope)) is)

pub result_member : (a : Around) (h : Head) (o : Option (List Given)) (gs : List Given) (v : Shaped) (p : Place) (n : List ℕ) (old new : State) → o ≡ Some gs → Gives (call_now a h gs) old v new → Stands (of_property empty (rest_by a h o) p n) (uncalled a (head.Member v p n)) old new
result_member a h o gs v p n old new is e = subst (λ (u : Option (List Given)). Stands (of_property empty (rest_by a h u) p n) (uncalled a (head.Member v p n)) old new) (sym is) (member_stands a (call_now a h gs) v p n old new e)

pub no_name : (h : Head) → ((p : Place) (n : List ℕ) → h ≡ head.Name p n → ⊥) → IsNoName h
no_name (head.Value v) f = tt
no_name (head.Name p n) f = f p n refl
no_name (head.Member v p n) f = tt
no_name (head.Source n) f = tt
no_name (head.HalfBound v g p n) f = tt

pub named_head : {E : Type 0} (a : Around) (h : Head) (q : Place) (m : List ℕ) (p : Place) (n : List ℕ) (r : Result Subject E) (s : State) → h ≡ head.Name q m → IfOk r (λ x. Stands (of_member a m p n) (rest a x) s s) → IfOk r (λ x. Stands (of_property empty (uncalled a h) p n) (rest a x) s s)
named_head a h q m p n r s is g =
    if_ok r (λ x. Stands (of_member a m p n) (rest a x) s s) (λ x. Stands (of_property empty (uncalled a h) p n) (rest a x) s s)
    (λ x t. subst (λ (k : Head). Stands (of_property empty (uncalled a k) p n) (rest a x) s s) (sym is) t) g
