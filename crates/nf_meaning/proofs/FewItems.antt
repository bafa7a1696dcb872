-- What operators and processes give to value channels is at most one item.
use Rattle.std.proofs.Common.{◌≡◌, ℕ, suc, ◌+◌, ◌<◌, ◌≤◌, List, [], ◌∷◌, ◌++◌, map, length, get_or, Bool, true, false, ◌&&◌, cond, Option, Some, None, Ok, Err, refl, ap, sym, subst, ◌∙◌, arith, inl, inr, length-append, if◌then◌else◌}
use Rattle.std.specs.Prelude.{◌==◌, count_by, unwrap_or}
use Rattle.std.specs.List.{AllByRecursion, flat_map}
use Rattle.std.proofs.lemmas.Bool.{cases_Bool}
use Rattle.std.proofs.lemmas.Bool.Decides.{nat_tests}
use Rattle.std.proofs.lemmas.List.{length-map}
use Rattle.nf_value.specs.Plain.{Plain, null}
use Rattle.nf_names_used.specs.Placed.{Placed}
use Rattle.nf_job.specs.declared.emitted.Outputs.TheVariants.{Emits, Ignored, Failed, Again}
use Rattle.nf_bag.specs.declared.options.OpOpts.{OpOpts}
use Rattle.nf_bag.specs.declared.rows.Row.{Row}
use Rattle.nf_bag.specs.declared.rows.Row.TheVariants as row
use Rattle.nf_graph.specs.Push.{Push}
use Rattle.nf_graph.specs.Operator.{Operator, oks}
use Rattle.nf_graph.specs.Fault.{Fault, not_a_number}
use Rattle.nf_graph.specs.OpstreamRows.{items_in}
use Rattle.nf_graph.proofs.Tally.{tally, one_if, passes, tally-append, tally-map, count_is_passes}
use Rattle.nf_graph.specs.Reduce.{refuses, taken, reduced}
use Rattle.nf_graph.specs.Row.{output_kind, ports_of}
use Rattle.nf_graph.specs.Outputs.{IsOneEach, IsOfKind}
use Rattle.nf_graph.specs.OutputKind.{OutputKind}
use Rattle.nf_graph.specs.OutputKind.TheVariants as output
use Rattle.nf_graph.proofs.Table.{is_of_kind}
use Rattle.nf_graph.proofs.Few.{closing_closes, if_empty_keeps}
use Rattle.nf_graph.proofs.OperatorSingles.{reduced_few}
use Rattle.nf_graph.specs.Rules.{Outs, list_of, emit_at, emitted_by}
use Rattle.nf_graph.specs.Meaning.{answered, numbered, same_inputs}
use Rattle.nf_graph.proofs.Bags.{count_all}
use Rattle.nf_meaning.specs.Things.{Channel, are_values}
use Rattle.nf_meaning.specs.Meaning.{Instance}
use Rattle.nf_meaning.specs.Operators as operators
use Rattle.nf_meaning.specs.Operators.{Call, answer, operator_with, operator_in, delivered, pushes_of, is_value_kind}
use Rattle.nf_meaning.specs.Tasks as tasks
use Rattle.nf_meaning.specs.Tasks.{TaskCall, input_list, queue_items, is_lacking, input_lists, instances_of, decided_in, emits}
use Rattle.nf_meaning.specs.Few.{HoldsFew}

abbrev pub AllFew : List Channel → Type 0
AllFew [] = Unit {0}
AllFew (c ∷ cs) = HoldsFew c × AllFew cs

-- ---- what comes to an operator all of whose channels are value channels

all_values : (c : Channel) (cs : List Channel) → are_values (c ∷ cs) ≡ true → (c.is_value ≡ true) × (are_values cs ≡ true)
all_values c cs h = by c.is_value h
  where
    by : (b : Bool) → (b && are_values cs) ≡ true → (b ≡ true) × (are_values cs ≡ true)
    by true h = (refl, h)
    by false h = absurd (let f : false ≡ true = h in cc)

flat_map_long : {A : Type 0} (f : A → List Plain) → ((x : A) → length (f x) ≤ 1) → (xs : List A) → length (flat_map f xs) ≤ length xs
flat_map_long f h [] = omega arith
flat_map_long f h (x ∷ xs) = omega (arith, h x, flat_map_long f h xs, length-append (f x) (flat_map f xs))

-- ---- tasks

list_one : {A : Type 0} (o : Option A) → length (list_of o) ≤ 1
list_one None = omega arith
list_one (Some x) = omega arith

emit_one : (outs : Outs) (out : ℕ) → length (emit_at outs out) ≤ 1
emit_one (Ok (Emits vs)) out = list_one (get_or vs out None)
emit_one (Ok Ignored) out = omega arith
emit_one (Ok (Failed f)) out = omega arith
emit_one (Ok Again) out = omega arith
emit_one (Err f) out = omega arith

emits_one : (d : Option Outs) (out : ℕ) → length (emitted_by d out) ≤ 1
emits_one None out = omega arith
emits_one (Some outs) out = emit_one outs out

numbered_long : (xs : List (List Plain)) → length (numbered same_inputs xs) ≡ length xs
numbered_long [] = refl
numbered_long (x ∷ xs) = ap suc (numbered_long xs)

one_queue : (cs : List Channel) → are_values cs ≡ true → queue_items cs ≡ null ∷ []
one_queue [] h = refl
one_queue (c ∷ cs) h = ap (λ b. if b then queue_items cs else c.bag) (all_values c cs h).0 ∙ one_queue cs (all_values c cs h).1

lists_one : (cs : List Channel) → are_values cs ≡ true → length (input_lists cs) ≤ 1
lists_one cs h = subst (λ z. length (if is_lacking cs then [] else map (input_list cs) z) ≤ 1) (sym (one_queue cs h)) (by (is_lacking cs))
  where
    by : (b : Bool) → length (if b then [] else (input_list cs null ∷ [])) ≤ 1
    by true = omega arith
    by false = omega arith

abbrev pub instance_at : TaskCall → List Plain × ℕ → Instance
instance_at c z = record { call = c.path; inputs = z.0; n = z.1 }

pub tasks_few : (c : TaskCall) (k : ℕ) → HoldsFew (tasks.given_at c k)
tasks_few c k h = omega (
  arith,
  flat_map_long (emits c k) (λ z. emits_one (decided_in c z) k) (instances_of c),
  length-map (numbered same_inputs (input_lists c.channels)) (instance_at c),
  numbered_long (input_lists c.channels),
  lists_one c.channels h,
)

-- ---- operators

none_refused : (b : Bool) (f : Fault) → oks (cond b (Err f) (Ok [])) ≡ []
none_refused true f = refl
none_refused false f = refl

operator_kind : (r : Row) (o : OpOpts) (start : Option Plain) → IsOfKind (output_kind r) (ports_of r) (operator_with r o start)
operator_kind row.IfEmpty o start = if_empty_keeps (unwrap_or start null)
operator_kind row.Reduce o start =
    closing_closes (taken o.total) (λ q. reduced o.total start (items_in q)) (λ x. none_refused (refuses o.total x.item) (not_a_number x.item))
    (λ q. (reduced_few o.total start (items_in q)).few)
operator_kind r o start = is_of_kind r o

abbrev AllShort : List Channel → Type 0
AllShort [] = Unit {0}
AllShort (c ∷ cs) = (length c.bag ≤ 1) × AllShort cs

all_short : (cs : List Channel) → AllFew cs → are_values cs ≡ true → AllShort cs
all_short [] f h = tt
all_short (c ∷ cs) f h = (f.0 (all_values c cs h).0, all_short cs f.1 (all_values c cs h).1)

pub tally_zero : {A : Type 0} (xs : List A) → tally (λ x. cond false 1 0) xs ≡ 0
tally_zero [] = refl
tally_zero (x ∷ xs) = omega (arith, tally_zero xs)

-- of each channel at most one item is delivered
delivered_one : (k : ℕ) (cs : List Channel) (m : ℕ) → AllShort cs
    → (passes (λ (d : ℕ × Plain). d.0 == m) (delivered k cs) ≤ 1) × (m < k → passes (λ (d : ℕ × Plain). d.0 == m) (delivered k cs) ≡ 0)
delivered_one k [] m h = (omega arith, λ l. refl)
delivered_one k (p ∷ ps) m h =
    let r = delivered_one (suc k) ps m h.1 in
    let one : length p.bag ≤ 1 = h.0 in
    let a = tally-append (λ (d : ℕ × Plain). one_if (d.0 == m)) (map (λ (x : Plain). (k, x)) p.bag) (delivered (suc k) ps) in
    let b = tally-map (λ (d : ℕ × Plain). one_if (d.0 == m)) (λ (x : Plain). (k, x)) p.bag in
    elim (cases_Bool (k == m)) [
      | inl e ↦ (let is : k ≡ m = grind (arith, nat_tests) in
          let c : tally (λ (x : Plain). one_if (k == m)) p.bag ≡ length p.bag = rw e (count_all p.bag) in
          let z = r.1 (omega arith) in (omega (arith, a, b, c, z), λ l. absurd (omega arith)))
      | inr n ↦ (let c : tally (λ (x : Plain). one_if (k == m)) p.bag ≡ 0 = rw n (tally_zero p.bag) in
          let f = r.0 in let q = r.1 in (omega (arith, a, b, c, f), λ l. (let z = q (omega arith) in omega (arith, a, b, c, z))))
    ]

pushes_few : (f : Plain → Placed Plain) (k : ℕ) (ds : List (ℕ × Plain))
    → passes (λ (x : Push). x.port == k) (flat_map (λ (d : ℕ × Plain). answered d.0 d.1 (f d.1)) ds) ≤ passes (λ (d : ℕ × Plain). d.0 == k) ds
pushes_few f k [] = omega arith
pushes_few f k (d ∷ ds) =
    omega (arith, pushes_few f k ds, one d (f d.1), tally-append (λ (x : Push). one_if (x.port == k)) (answered d.0 d.1 (f d.1)) (flat_map (λ (d : ℕ × Plain). answered d.0 d.1 (f d.1)) ds))
  where
    one : (d : ℕ × Plain) (r : Placed Plain) → passes (λ (x : Push). x.port == k) (answered d.0 d.1 r) ≤ one_if (d.0 == k)
    one d (Ok a) = omega arith
    one d (Err f) = omega arith

all_append : {A : Type 0} (P : A → Type 0) (xs ys : List A) → AllByRecursion P xs → AllByRecursion P ys → AllByRecursion P (xs ++ ys)
all_append P [] ys h k = k
all_append P (x ∷ xs) ys h k = (h.0, all_append P xs ys h.1 k)

all_map : {A B : Type 0} (P : B → Type 0) (f : A → B) (xs : List A) → ((x : A) → P (f x)) → AllByRecursion P (map f xs)
all_map P f [] h = tt
all_map P f (x ∷ xs) h = (h x, all_map P f xs h)

delivered_within : (n k : ℕ) (cs : List Channel) → k + length cs ≤ n → AllByRecursion (λ d. d.0 < n) (delivered k cs)
delivered_within n k [] l = tt
delivered_within n k (c ∷ cs) l = all_append (λ (d : ℕ × Plain). d.0 < n) (map (λ (x : Plain). (k, x)) c.bag) (delivered (suc k) cs)
    (all_map (λ (d : ℕ × Plain). d.0 < n) (λ (x : Plain). (k, x)) c.bag (λ x. omega arith)) (delivered_within n (suc k) cs (omega arith))

pushes_within : (f : Plain → Placed Plain) (n : ℕ) (ds : List (ℕ × Plain)) → AllByRecursion (λ d. d.0 < n) ds
    → AllByRecursion (λ x. x.port < n) (flat_map (λ (d : ℕ × Plain). answered d.0 d.1 (f d.1)) ds)
pushes_within f n [] h = tt
pushes_within f n (d ∷ ds) h =
    all_append (λ (x : Push). x.port < n) (answered d.0 d.1 (f d.1)) (flat_map (λ (d : ℕ × Plain). answered d.0 d.1 (f d.1)) ds) (one (f d.1)) (pushes_within f n ds h.1)
  where
    one : (r : Placed Plain) → AllByRecursion (λ x. x.port < n) (answered d.0 d.1 r)
    one (Ok a) = (h.0, tt)
    one (Err f) = tt

one_each : (f : Plain → Placed Plain) (n : ℕ) (cs : List Channel) → AllShort cs → length cs ≤ n
    → IsOneEach n (flat_map (λ (d : ℕ × Plain). answered d.0 d.1 (f d.1)) (delivered 0 cs))
one_each f n cs h l = record {
  at = λ k. (
      let p = flat_map (λ (d : ℕ × Plain). answered d.0 d.1 (f d.1)) (delivered 0 cs) in
      let c : count_by (λ (x : Push). x.port == k) p ≡ passes (λ (x : Push). x.port == k) p = count_is_passes (λ (x : Push). x.port == k) p in
      omega (arith, pushes_few f k (delivered 0 cs), (delivered_one 0 cs k h).0, c));
  ports = pushes_within f n (delivered 0 cs) (delivered_within n 0 cs (omega (arith, l)));
}

-- an operator whose outputs are as its inputs reads no more channels than it has inputs
abbrev pub FewPorts : OutputKind → ℕ → ℕ → Type 0
FewPorts output.Value ports most = Unit {0}
FewPorts output.Queue ports most = Unit {0}
FewPorts output.AsInputs ports most = ports ≤ most

kinds_few : (kind : OutputKind) (f : Plain → Placed Plain) (n : ℕ) (op : Operator) (cs : List Channel) (k : ℕ) → IsOfKind kind n op → FewPorts kind (length cs) n → AllFew cs
    → is_value_kind kind cs ≡ true → length (op.items (flat_map (λ (d : ℕ × Plain). answered d.0 d.1 (f d.1)) (delivered 0 cs)) k) ≤ 1
kinds_few output.Value f n op cs k h l few v = h.at _ k
kinds_few output.Queue f n op cs k h l few v = absurd (let e : false ≡ true = v in cc)
kinds_few output.AsInputs f n op cs k h l few v = h.at _ k (one_each f n cs (all_short cs few v) l)

pub call_few : (c : Call) → FewPorts (output_kind c.row) (length c.channels) (ports_of c.row) → AllFew c.channels → (k : ℕ) → HoldsFew (operators.given_at c k)
call_few c l few k v =
    kinds_few (output_kind c.row) (answer c.row c.taken) (ports_of c.row) (operator_in c) c.channels k (operator_kind c.row c.taken.options c.taken.start) l few v
