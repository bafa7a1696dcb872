-- The items of a list, one after the other.
use Rattle.std.proofs.Common.{◌≡◌, ◌<◌, ◌≤◌, ◌+◌, ℕ, Ok, Err, List, [], ◌∷◌, ◌++◌, map, length, get_or, drop, refl, sym, ap, ◌∙◌, append_assoc}
use Rattle.std.proofs.lemmas.List.{append-nil, drop_all, map-append}
use Rattle.std.specs.Global.{Vec}
use Rattle.nf_value.specs.Plain.{Plain}
use Rattle.nf_value.specs.View.{plain_of}
use Rattle.nf_value.specs.declared.value.Value.{Value}
use Rattle.nf_ast.specs.View.{view, views}
use Rattle.nf_ast.specs.declared.expr.Expr.{Expr}
use Rattle.nf_meaning.specs.declared.fault.LowerFault.{LowerFault}
use Rattle.nf_meaning.specs.Lowered.{Lowered}
use Rattle.nf_meaning.specs.Walk.{◌>>=◌, Around, State, Walk, gives, then_by}
use Rattle.nf_meaning.specs.Workflow.{part_of}
use Rattle.nf_lowering.specs.declared.state.Lowering.{Lowering}
use Rattle.nf_lowering.specs.State.{IsLowering}
use Rattle.nf_walked.specs.Forms.{a_value, values}
use Rattle.nf_walked.specs.Parts.{value_thing_of}
use Rattle.nf_walked.specs.Steps.{Known, Walked, due}
use Rattle.nf_walked.proofs.Bodies.{NoIn}
use Rattle.nf_walked.proofs.Leads.{Ins, Leads, begins, fails, goes_further, is_given}
use Rattle.nf_walked.proofs.Rows.{left}

-- ---- rows that give lists

-- what was given so far, and what the rest gives
abbrev pub with_more : {A : Type 0} → List A → Walk (List A) → Walk (List A)
with_more ys w = w >>= λ os. gives (ys ++ os)

abbrev pub one_then : {A : Type 0} → Walk A → Walk (List A) → Walk (List A)
one_then w more = w >>= λ o. more >>= λ os. gives (o ∷ os)

pub none_before : {A : Type 0} (a : Around) (r : Lowered (List A × State)) → then_by a (λ os. gives ([] ++ os)) r ≡ r
none_before a (Ok x) = refl
none_before a (Err e) = refl

pub one_before : {A : Type 0} (a : Around) (ys : List A) (y : A) (r : Lowered (List A × State))
    → then_by a (λ os. gives (ys ++ os)) (then_by a (λ os. gives (y ∷ os)) r) ≡ then_by a (λ os. gives ((ys ++ y ∷ []) ++ os)) r
one_before a ys y (Ok x) = ap (λ l. Ok (l, x.1)) (sym (append_assoc ys (y ∷ []) x.0))
one_before a ys y (Err e) = refl

-- ---- the items of a list

abbrev pub items_of : List Expr → Walk (List Plain)
items_of xs = (part_of (views xs)).items

-- values in memory that were gathered
abbrev pub AreValues : Vec Value → Ins (List Plain)
AreValues vs p z ys = map plain_of vs.items ≡ ys

abbrev pub ItemLeads : Known → List Expr → ℕ → Vec Value → Lowering → Lowering → Type 0
ItemLeads K xs i vs old now = Leads K NoIn (λ y. items_of xs) (AreValues vs) (λ ys. with_more ys (items_of (drop i xs))) old now

module _ (K : Known) (xs : List Expr) (old : Lowering) where
  pub items_begin : (vs : Vec Value) → vs.items ≡ [] → IsLowering old → ItemLeads K xs 0 vs old old
  items_begin vs none keeps = record {
    later = b.later;
    goes = b.goes;
    left = λ p y runs stands is. record {
      state = p.state;
      stands = stands;
      item = [];
      is = ap (map plain_of) none;
      same = sym (none_before p.around (items_of xs p.around p.state));
    };
  }
    where
      b : Leads K NoIn (λ y. items_of xs) NoIn (λ y. items_of xs) old old
      b = begins K NoIn (λ y. items_of xs) old keeps

  split : (i : ℕ) (x : Expr) → i < length xs → x ≡ get_or xs i x → items_of (drop i xs) ≡ one_then (value_thing_of (view x)) (items_of (drop (i + 1) xs))
  split i x h is = ap items_of (left xs i x h is)

  pub items_go : (i : ℕ) (x : Expr) (vs ws : Vec Value) (v : Value) (mid new : Lowering) → i < length xs → x ≡ get_or xs i x → ws.items ≡ vs.items ++ v ∷ []
      → ItemLeads K xs i vs old mid → Walked K (due a_value (value_thing_of (view x))) mid new (Ok v) → ItemLeads K xs (i + 1) ws old new
  items_go i x vs ws v mid new h is more so_far step =
      goes_further K NoIn (λ y. items_of xs) (AreValues vs) (λ ys. with_more ys (items_of (drop i xs))) old mid (due a_value (value_thing_of (view x)))
      (AreValues ws) (λ ys. with_more ys (items_of (drop (i + 1) xs))) new v so_far step
      (λ p ys stands it. record {
        first = tt;
        stands = tt;
        goes = λ y s there out came. (
          ys ++ y ∷ [],
          ap (map plain_of) more ∙ map-append plain_of vs.items (v ∷ []) ∙ ap (λ l. l ++ plain_of v ∷ []) it ∙ ap (λ u. ys ++ u ∷ []) out,
          ap (λ w. with_more ys w p.around p.state) (split i x h is)
              ∙ ap (λ r. then_by p.around (λ os. gives (ys ++ os)) (then_by p.around (λ o. items_of (drop (i + 1) xs) >>= λ os. gives (o ∷ os)) r)) came
              ∙ one_before p.around ys y (items_of (drop (i + 1) xs) p.around s),
        );
      })

  pub items_fail : (i : ℕ) (x : Expr) (vs : Vec Value) (mid new : Lowering) (e : LowerFault) → i < length xs → x ≡ get_or xs i x
      → ItemLeads K xs i vs old mid → Walked K (due a_value (value_thing_of (view x))) mid new (Err e) → Walked K (due values (items_of xs)) old new (Err e)
  items_fail i x vs mid new e h is so_far step =
      fails K NoIn (λ y. items_of xs) (AreValues vs) (λ ys. with_more ys (items_of (drop i xs))) old mid (due a_value (value_thing_of (view x))) values new e so_far step
      (λ p ys stands it. record {
        first = tt;
        stands = tt;
        rest = λ o a s. then_by a (λ os. gives (ys ++ os)) ((items_of (drop (i + 1) xs) >>= λ os. gives (o ∷ os)) a s);
        same = ap (λ w. with_more ys w p.around p.state) (split i x h is) ∙ twice p.around ys i (value_thing_of (view x) p.around p.state);
      })
    where
      twice : (a : Around) (ys : List Plain) (i : ℕ) (r : Lowered (Plain × State))
          → then_by a (λ os. gives (ys ++ os)) (then_by a (λ o. items_of (drop (i + 1) xs) >>= λ os. gives (o ∷ os)) r)
          ≡ then_by a (λ o b s. then_by b (λ os. gives (ys ++ os)) ((items_of (drop (i + 1) xs) >>= λ os. gives (o ∷ os)) b s)) r
      twice a ys i (Ok x) = refl
      twice a ys i (Err e) = refl

  pub items_end : (i : ℕ) (vs : Vec Value) (now : Lowering) → length xs ≤ i → ItemLeads K xs i vs old now → Walked K (due values (items_of xs)) old now (Ok vs)
  items_end i vs now h so_far =
      is_given K NoIn (λ y. items_of xs) (AreValues vs) (λ ys. with_more ys (items_of (drop i xs))) old now values vs tt so_far
      (λ p ys stands it. (ys, it, ap (λ zs. with_more ys (items_of zs) p.around p.state) (drop_all i xs h) ∙ ap (λ l. Ok (l, p.state)) (append-nil ys)))
