-- What comes of a part and what comes after it.
use Rattle.std.proofs.Common.{◌≡◌, ◌∙◌, Result, Ok, Err, sym, ap, subst}
use Rattle.nf_value.specs.Plain.{Plain}
use Rattle.nf_value.specs.View.{plain_of}
use Rattle.nf_value.specs.declared.value.Value.{Value}
use Rattle.nf_value.specs.declared.fault.EvalRefusal.{EvalRefusal}
use Rattle.nf_value.specs.declared.fault.EvalRefusal.TheVariants as refusal
use Rattle.nf_placed.specs.Placed.{Placed, ◌>>=◌, Evaluates}
use Rattle.nf_eval.specs.Gives.{IsRefused}

pub refused : (o : Placed Plain) (r : EvalRefusal) → Evaluates o (Err r) → IsRefused o r
refused o (refusal.Fault e) h = h
refused o refusal.Mem h = tt

pub evaluates : (o : Placed Plain) (r : EvalRefusal) → IsRefused o r → Evaluates o (Err r)
evaluates o (refusal.Fault e) h = h
evaluates o refusal.Mem h = tt

pub refused_on : {A B : Type 0} (o : Placed A) (f : A → Placed B) (r : EvalRefusal) → IsRefused o r → IsRefused (o >>= f) r
refused_on o f (refusal.Fault e) h = ap (λ x. x >>= f) h
refused_on o f refusal.Mem h = tt

pub refused_at : {A : Type 0} (o p : Placed A) (r : EvalRefusal) → o ≡ p → IsRefused p r → IsRefused o r
refused_at o p (refusal.Fault e) is h = is ∙ h
refused_at o p refusal.Mem is h = tt

-- a part has a fault, and all has it
pub fault_first : (all o : Placed Plain) (f : Plain → Placed Plain) (r : EvalRefusal) (s : Result Value EvalRefusal) → all ≡ (o >>= f) → s ≡ Err r → Evaluates o (Err r) → Evaluates all s
fault_first all o f r s is e h = subst (Evaluates all) (sym e) (evaluates all r (refused_at all (o >>= f) r is (refused_on o f r (refused o r h))))

-- a part has a value, and all is what comes after it
pub value_first : (all o : Placed Plain) (f : Plain → Placed Plain) (v : Value) (s : Result Value EvalRefusal) → all ≡ (o >>= f) → o ≡ Ok (plain_of v) → Evaluates (f (plain_of v)) s → Evaluates all s
value_first all o f v s is e h = subst (λ (p : Placed Plain). Evaluates p s) (sym (is ∙ ap (λ x. x >>= f) e)) h

pub same : (all o : Placed Plain) (s : Result Value EvalRefusal) → all ≡ o → Evaluates o s → Evaluates all s
same all o s is h = subst (λ (p : Placed Plain). Evaluates p s) (sym is) h

-- the same of parts that give no value
pub fault_of : {A : Type 0} (all : Placed Plain) (o : Placed A) (f : A → Placed Plain) (r : EvalRefusal) (s : Result Value EvalRefusal) → all ≡ (o >>= f) → s ≡ Err r → IsRefused o r → Evaluates all s
fault_of all o f r s is e h = subst (Evaluates all) (sym e) (evaluates all r (refused_at all (o >>= f) r is (refused_on o f r h)))

pub value_of : {A : Type 0} (all : Placed Plain) (o : Placed A) (f : A → Placed Plain) (x : A) (s : Result Value EvalRefusal) → all ≡ (o >>= f) → o ≡ Ok x → Evaluates (f x) s → Evaluates all s
value_of all o f x s is e h = subst (λ (p : Placed Plain). Evaluates p s) (sym (is ∙ ap (λ y. y >>= f) e)) h
