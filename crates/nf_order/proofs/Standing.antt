-- What stands for an expression in each place.
use Rattle.std.proofs.Common.{ℕ, List, [], ◌∷◌, ◌++◌, refl, ◌∙◌}
use Rattle.std.specs.Prelude.{◌||◌}
use Rattle.nf_value.specs.declared.place.Place.{Place}
use Rattle.nf_ast.specs.Tree.{Tree}
use Rattle.nf_kinds.specs.declared.args.Given.{Given}
use Rattle.nf_kinds.specs.declared.kinds.Key.TheVariants as key
use Rattle.nf_kinds.specs.Kinds.{Shaped, alone, output_of}
use Rattle.nf_kinds.specs.Args.{any_unknown}
use Rattle.nf_kinds.specs.Walk.{Walk, ◌>>=◌, gives}
use Rattle.nf_opkinds.specs.Operators.{member_call}
use Rattle.nf_order.specs.declared.around.State.{State}
use Rattle.nf_order.specs.Parts.{Arg, Part, all_given, plain_by, beside, called_thing, expression, member_of, method_of, of_call, of_closed, of_property, of_safe_property, with_method}
use Rattle.nf_order.specs.Standing.{Leads, Stands}
use Rattle.nf_order.proofs.Walks.{leads_on}

pub beside_leads : (g : Given) (w u : Walk Shaped) (old new : State) → Leads w u old new → Leads (beside g w) (beside g u) old new
beside_leads g w u old new h = leads_on w u (λ v. plain_by (g.shape.kinds.unknown || v.kinds.unknown)) old new h

called_leads : (w u : Walk Shaped) (xs : List Arg) (old new : State) → Leads w u old new → Leads (called_thing w xs) (called_thing u xs) old new
called_leads w u xs old new h = leads_on w u (λ v. all_given xs >>= λ gs. plain_by (v.kinds.unknown || any_unknown gs)) old new h

-- an expression that isn't called by a name
pub expression_stands : (t t' : Tree) (w u : Walk Shaped) (old new : State) → Leads w u old new → Stands (expression t w) (expression t' u) old new
expression_stands t t' w u old new h = record {
  thing = h;
  head = h;
  member = λ n. leads_on w u (λ v. gives (alone (output_of (key.Called n) v))) old new h;
  method = λ r n xs. leads_on w u (λ v. all_given xs >>= λ gs. member_call r n v gs) old new h;
  called = λ xs. called_leads w u xs old new h;
  closed = λ xs. called_leads w u xs old new h;
  named = λ g xs. beside_leads g (called_thing w xs) (called_thing u xs) old new (called_leads w u xs old new h);
  piped = λ g. beside_leads g w u old new h;
  piped_closed = λ g xs. beside_leads g (called_thing w xs) (called_thing u xs) old new (called_leads w u xs old new h);
  done = leads_on w u (λ v. gives tt) old new h;
}

pub method_stands : (p q : Part) (m m' : List Arg → Walk Shaped) (old new : State) → ((xs : List Arg) → Leads (m xs) (m' xs) old new) → Stands p q old new → Stands (with_method m p) (with_method m' q) old new
method_stands p q m m' old new h s = record {
  thing = s.thing;
  head = s.head;
  member = s.member;
  method = s.method;
  called = h;
  closed = h;
  named = λ g xs. beside_leads g (m xs) (m' xs) old new (h xs);
  piped = s.piped;
  piped_closed = λ g xs. beside_leads g (m xs) (m' xs) old new (h xs);
  done = s.done;
}

pub property_stands : (t t' : Tree) (p q : Part) (r : Place) (n : List ℕ) (old new : State) → Stands p q old new → Stands (of_property t p r n) (of_property t' q r n) old new
property_stands t t' p q r n old new s =
    method_stands (expression t (p.member n)) (expression t' (q.member n)) (p.method r n) (q.method r n) old new (s.method r n) (expression_stands t t' (p.member n) (q.member n) old new (s.member n))

pub safe_property_stands : (t t' : Tree) (p q : Part) (r : Place) (n : List ℕ) (old new : State) → Stands p q old new → Stands (of_safe_property t p r n) (of_safe_property t' q r n) old new
safe_property_stands t t' p q r n old new s =
    method_stands (expression t (member_of p.thing n)) (expression t' (member_of q.thing n)) (method_of p.thing r n) (method_of q.thing r n) old new
    (λ xs. leads_on p.thing q.thing (λ v. all_given xs >>= λ gs. member_call r n v gs) old new s.thing)
    (expression_stands t t' (member_of p.thing n) (member_of q.thing n) old new (leads_on p.thing q.thing (λ v. gives (alone (output_of (key.Called n) v))) old new s.thing))

pub call_stands : (t t' : Tree) (p q : Part) (xs : List Arg) (old new : State) → Stands p q old new → Stands (of_call t p xs) (of_call t' q xs) old new
call_stands t t' p q xs old new s =
    let e = expression_stands t t' (p.called xs) (q.called xs) old new (s.called xs) in
    record {
      thing = e.thing;
      head = e.head;
      member = e.member;
      method = e.method;
      called = e.called;
      closed = λ more. s.called (xs ++ more);
      named = e.named;
      piped = λ g. s.named g xs;
      piped_closed = λ g more. s.named g (xs ++ more);
      done = e.done;
    }

pub closed_stands : (t t' : Tree) (p q : Part) (x : Arg) (old new : State) → Stands p q old new → Stands (of_closed t p x) (of_closed t' q x) old new
closed_stands t t' p q x old new s =
    let e = expression_stands t t' (p.closed (x ∷ [])) (q.closed (x ∷ [])) old new (s.closed (x ∷ [])) in
    record {
      thing = e.thing;
      head = e.head;
      member = e.member;
      method = e.method;
      called = e.called;
      closed = λ more. s.closed (x ∷ more);
      named = e.named;
      piped = λ g. s.piped_closed g (x ∷ []);
      piped_closed = λ g more. s.piped_closed g (x ∷ more);
      done = e.done;
    }

-- ---- one after the other

pub stands_on : (p q r : Part) (old mid new : State) → Stands p q old mid → Stands q r mid new → Stands p r old new
stands_on p q r old mid new a b = record {
  thing = a.thing ∙ b.thing;
  head = a.head ∙ b.head;
  member = λ n. a.member n ∙ b.member n;
  method = λ s n xs. a.method s n xs ∙ b.method s n xs;
  called = λ xs. a.called xs ∙ b.called xs;
  closed = λ xs. a.closed xs ∙ b.closed xs;
  named = λ g xs. a.named g xs ∙ b.named g xs;
  piped = λ g. a.piped g ∙ b.piped g;
  piped_closed = λ g xs. a.piped_closed g xs ∙ b.piped_closed g xs;
  done = a.done ∙ b.done;
}

pub stands_still : (p : Part) (s : State) → Stands p p s s
stands_still p s = record {
  thing = refl;
  head = refl;
  member = λ n. refl;
  method = λ r n xs. refl;
  called = λ xs. refl;
  closed = λ xs. refl;
  named = λ g xs. refl;
  piped = λ g. refl;
  piped_closed = λ g xs. refl;
  done = refl;
}
