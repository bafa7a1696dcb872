-- What comes of a closure where none is taken.
use Rattle.std.proofs.Common.{◌≡◌, ◌^◌, ℕ, Bool, true, false, List, length, replicate, None, Result, Ok, Err, IfOk, refl, sym, ◌∙◌, ap, subst}
use Rattle.std.specs.Prelude.{nat_lt, if◌then◌else◌}
use Rattle.std.proofs.lemmas.Result.{IfOk-weaker}
use Rattle.nf_value.specs.Plain.{Plain, null}
use Rattle.nf_value.specs.Code.{code}
use Rattle.nf_value.specs.Depth.{depth_of}
use Rattle.nf_value.specs.declared.value.Value.{Value}
use Rattle.nf_value.specs.declared.place.Place.{Place}
use Rattle.nf_value.specs.declared.mem.Mem.{Mem}
use Rattle.nf_value.specs.declared.fault.EvalKind.{EvalKind}
use Rattle.nf_value.specs.declared.fault.EvalKind.TheVariants.{WrongKind, TooLarge, TooDeep}
use Rattle.nf_value.specs.declared.fault.EvalRefusal.{EvalRefusal}
use Rattle.nf_value.specs.declared.fault.EvalRefusal.TheVariants as refusal
use Rattle.nf_texts.specs.declared.fault.CallFault.{CallFault}
use Rattle.nf_texts.specs.declared.fault.CallFault.TheVariants as call
use Rattle.nf_texts.specs.Outcome.{Outcome, Gives}
use Rattle.nf_builtins.specs.declared.method.Method.{Method}
use Rattle.nf_builtins.specs.declared.rows.Form.{Form}
use Rattle.nf_builtins.specs.declared.rows.Form.TheVariants as form
use Rattle.nf_builtins.specs.Call.{answer_of}
use Rattle.nf_placed.specs.Placed.{fault, made}
use Rattle.nf_placed.specs.Calls.{Argument, values_in, by_values, before_kinds, closure_kind, unfit, by_form}
use Rattle.nf_placed.specs.Blocks.{IsClosureKind, IsFaultOfBlocks}

-- a limit is no fault that comes before the kinds of arguments
past_limit : (a b : Bool) (v : Plain) (k : EvalKind) → (if a then Err TooLarge else if b then Err TooDeep else Ok v) ≡ Err k → before_kinds k ≡ WrongKind
past_limit true b v k h = let e : TooLarge ≡ k = cc in ap before_kinds (sym e)
past_limit false true v k h = let e : TooDeep ≡ k = cc in ap before_kinds (sym e)
past_limit false false v k h = absurd (cc)

with_fault : (o : Outcome) (k : EvalKind) → Gives o (Err (call.Kind k)) → before_kinds k ≡ closure_kind o
with_fault (Ok v) k h = past_limit (nat_lt (2 ^ 24) (length (code v))) (nat_lt 64 (depth_of v)) v k h
with_fault (Err l) k h = let e : l ≡ k = cc in ap before_kinds (sym e)

of_value : (o : Outcome) (v : Value) → Gives o (Ok v) → WrongKind ≡ closure_kind o
of_value (Ok w) v h = refl
of_value (Err k) v h = absurd (cc)

of_fault : (o : Outcome) (f : CallFault) (l : EvalKind) → Gives o (Err f) → IsClosureKind l f → l ≡ closure_kind o
of_fault o (call.Kind k) l h e = e ∙ with_fault o k h
of_fault o call.Mem l h e = absurd e

-- a row is told by what it gives for nulls
module _ (m : Method) (recv : Plain) (n : ℕ) (args : List Plain) (nulls : args ≡ replicate n null) where
  pub unfit_of_value : (v : Value) → Gives (answer_of m recv args) (Ok v) → WrongKind ≡ unfit m recv n
  unfit_of_value v h = of_value (answer_of m recv args) v h ∙ ap (λ vs. closure_kind (answer_of m recv vs)) nulls

  pub unfit_of_fault : (f : CallFault) (r : Result EvalKind Mem) → Gives (answer_of m recv args) (Err f) → IfOk r (λ l. IsClosureKind l f) → IfOk r (λ l. l ≡ unfit m recv n)
  unfit_of_fault f r h k = IfOk-weaker r (λ l. IsClosureKind l f) (λ l. l ≡ unfit m recv n) (λ l e. of_fault (answer_of m recv args) f l h e ∙ ap (λ vs. closure_kind (answer_of m recv vs)) nulls) k

-- ---- at a place

unfit_due : (p : Place) (m : Method) (recv : Plain) (n : ℕ) (l : EvalKind) (args : List Argument) → l ≡ unfit m recv n → length args ≡ n → values_in args ≡ None → by_form form.Call p m recv args ≡ fault l p
unfit_due p m recv n l args e len none = ap (λ vs. by_values p (unfit m recv (length args)) vs (λ ws. made p (answer_of m recv ws))) none ∙ ap (λ k. fault {A = Plain} (unfit m recv k) p) len ∙ ap (λ k. fault {A = Plain} k p) (sym e)

pub unfit_there : (p : Place) (f : Form) (m : Method) (recv : Plain) (n : ℕ) (l : EvalKind) (args : List Argument) → f ≡ form.Call → l ≡ unfit m recv n → length args ≡ n → values_in args ≡ None → by_form f p m recv args ≡ fault l p
unfit_there p f m recv n l args is e len none = ap (λ g. by_form g p m recv args) is ∙ unfit_due p m recv n l args e len none

pub unfit_call : (p : Place) (f : Form) (m : Method) (recv : Plain) (n : ℕ) (l : EvalKind) (r : EvalRefusal) → f ≡ form.Call → l ≡ unfit m recv n → r ≡ refusal.Fault (record { kind = l; place = p }) → IsFaultOfBlocks (by_form f p m recv) n r
unfit_call p f m recv n l r is e same = subst (IsFaultOfBlocks (by_form f p m recv) n) (sym same) (λ args len none. unfit_there p f m recv n l args is e len none)

pub unfit_math : (f : Form) (m : Method) (recv : Plain) (n : ℕ) (r : Result EvalKind Mem) → f ≡ form.Call → IfOk r (λ l. l ≡ unfit m recv n) → IfOk r (λ l. (p : Place) (args : List Argument) → length args ≡ n → values_in args ≡ None → by_form f p m recv args ≡ fault l p)
unfit_math f m recv n r is h = IfOk-weaker r (λ l. l ≡ unfit m recv n) (λ l. (p : Place) (args : List Argument) → length args ≡ n → values_in args ≡ None → by_form f p m recv args ≡ fault l p) (λ l e p args len none. unfit_there p f m recv n l args is e len none) h
