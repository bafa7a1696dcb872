-- What a workflow emits, one after the other.
use Rattle.std.proofs.Common.{◌≡◌, ◌<◌, ◌≤◌, ◌+◌, ℕ, Ok, Err, Option, Some, None, List, [], ◌∷◌, ◌++◌, map, length, get_or, drop, refl, sym, ap, subst, ◌∙◌}
use Rattle.std.proofs.lemmas.List.{append-nil, drop_all, map-append}
use Rattle.std.specs.Global.{Vec}
use Rattle.nf_ast.specs.Tops.{view_emit}
use Rattle.nf_ast.specs.Tree.{Tree, cons}
use Rattle.nf_ast.specs.View.{trees}
use Rattle.nf_ast.specs.declared.tops.Emit.{Emit}
use Rattle.nf_graph.specs.Meaning.{Bags}
use Rattle.nf_graph.specs.declared.port.Port.{Port}
use Rattle.nf_meaning.specs.declared.fault.LowerFault.{LowerFault}
use Rattle.nf_meaning.specs.Lowered.{Lowered}
use Rattle.nf_meaning.specs.Script as script
use Rattle.nf_meaning.specs.Script.{emit_label, emit_value, emits_of, label_fault, label_of}
use Rattle.nf_meaning.specs.Stands.{OutputsStand, OutputStands, PortOutput, StandsFor, results}
use Rattle.nf_meaning.specs.Things.{Channel, Output, outputs as given_outputs}
use Rattle.nf_meaning.specs.Walk.{◌>>=◌, Around, State, Walk, gives, then_by, unless_fault}
use Rattle.nf_scopes.specs.declared.things.CallOutput.{CallOutput}
use Rattle.nf_scopes.specs.Things.{output_of}
use Rattle.nf_plan.specs.declared.builder.PlanBuilder.{PlanBuilder}
use Rattle.nf_plan.specs.Runs.{bags_of}
use Rattle.nf_follows.specs.Things.{OutputsRead, PortReads}
use Rattle.nf_lowering.specs.declared.state.Lowering.{Lowering}
use Rattle.nf_lowering.specs.State.{IsLowering}
use Rattle.nf_walked.specs.Forms.{a_port, an_output, outputs}
use Rattle.nf_walked.specs.Steps.{Known, Later, Walked, due, from}
use Rattle.nf_takes.specs.Takes.{and_label, labels_after, labels_of}
use Rattle.nf_walked.specs.Emits.{emit_after, emitted_thing}
use Rattle.nf_walked.proofs.Bodies.{NoIn}
use Rattle.nf_walked.proofs.Items.{none_before, one_before, with_more}
use Rattle.nf_walked.proofs.Leads.{Ins, Leads, begins, fails, goes_further, is_given}
use Rattle.nf_walked.proofs.Rows.{left}
use Rattle.nf_walked.proofs.Stills.{given}

-- ---- one

-- what is emitted, after its name is judged
module _ (a : Around) (F : Output → Walk (List Output)) (mk : Channel → Output) where
  after_channel : (r : Lowered (Channel × State)) → then_by a (λ c. F (mk c)) r ≡ then_by a F (then_by a (λ c. gives (mk c)) r)
  after_channel (Ok x) = refl
  after_channel (Err e) = refl

  after_name : (o : Option LowerFault) (w : Walk Channel) (s : State)
      → then_by a (λ u. w >>= λ c. F (mk c)) (unless_fault o a s) ≡ then_by a F (then_by a (λ u. w >>= λ c. gives (mk c)) (unless_fault o a s))
  after_name None w s = after_channel (w a s)
  after_name (Some f) w s = refl

-- the label of an output, before those
abbrev pub labels_on : List (List ℕ) → Tree → List (List ℕ)
labels_on ns x = script.and_label (emit_label x) ns

-- the first that is emitted, and then the others
pub emits_split : (a : Around) (s : State) (ns : List (List ℕ)) (x more : Tree)
    → emits_of ns (cons x more) a s ≡ then_by a (λ o. emits_of (labels_on ns x) more >>= λ os. gives (o ∷ os)) (emit_after ns x a s)
emits_split a s ns x more =
    after_name a (λ o. emits_of (labels_on ns x) more >>= λ os. gives (o ∷ os)) (λ c. record { label = label_of (emit_label x); channel = c })
    (label_fault ns (emit_label x)) (emitted_thing (emit_value x)) s

-- a name for it as the output keeps it
pub labels_same : (ns : List (List ℕ)) (o : Option Tree) → and_label (label_of o) ns ≡ script.and_label o ns
labels_same ns (Some n) = refl
labels_same ns None = refl

pub labels_more : (ns : List (List ℕ)) (os : List CallOutput) (o : CallOutput) → labels_after ns (os ++ o ∷ []) ≡ and_label o.label (labels_after ns os)
labels_more ns [] o = refl
labels_more ns (q ∷ os) o = labels_more (and_label q.label ns) os o

-- ---- outputs so far

pub reads_more : (b : PlanBuilder) (os : List PortOutput) (o : PortOutput) → OutputsRead b os → PortReads b o.port → OutputsRead b (os ++ o ∷ [])
reads_more b [] o r h = (h, tt)
reads_more b (q ∷ os) o r h = (r.0, reads_more b os o r.1 h)

pub stands_more : (bags : Bags) (os : List PortOutput) (o : PortOutput) (qs : List Output) (q : Output) → OutputsStand bags os qs → OutputStands bags o q → OutputsStand bags (os ++ o ∷ []) (qs ++ q ∷ [])
stands_more bags [] o [] q s h = (h, tt)
stands_more bags (p ∷ os) o (r ∷ qs) q s h = (s.0, stands_more bags os o qs q s.1 h)
stands_more bags [] o (r ∷ qs) q s h = absurd s
stands_more bags (p ∷ os) o [] q s h = absurd s

-- those in memory read the plan
abbrev pub OutputsFit : Lowering → Vec CallOutput → Type 0
OutputsFit z os = OutputsRead z.plan (map output_of os.items)

pub fit_more : (old new : Lowering) (os : Vec CallOutput) (o : CallOutput) (ws : Vec CallOutput) → Later old.plan new.plan → OutputsFit old os → PortReads new.plan o.port → ws.items ≡ os.items ++ o ∷ [] → OutputsFit new ws
fit_more old new os o ws later r h e =
    subst (λ us. OutputsRead new.plan us) (sym (ap (map output_of) e ∙ map-append output_of os.items (o ∷ [])))
    (reads_more new.plan (map output_of os.items) (output_of o) (later.reads (results (map output_of os.items)) r) h)

-- ---- all

abbrev pub emits_from : List (List ℕ) → List Emit → Walk (List Output)
emits_from ns xs = emits_of ns (trees (map view_emit xs))

abbrev pub AreOutputs : Vec CallOutput → Ins (List Output)
AreOutputs os p z qs = OutputsStand (bags_of p.run z.plan) (map output_of os.items) qs

abbrev pub rest_from : List Emit → ℕ → Vec CallOutput → List Output → Walk (List Output)
rest_from xs i os qs = with_more qs (emits_from (labels_of os.items) (drop i xs))

abbrev pub EmitLeads : Known → List Emit → ℕ → Vec CallOutput → Lowering → Lowering → Type 0
EmitLeads K xs i os old now = Leads K NoIn (λ y. emits_from [] xs) (AreOutputs os) (rest_from xs i os) old now

module _ (K : Known) (xs : List Emit) (old : Lowering) where
  pub emits_begin : (os : Vec CallOutput) → os.items ≡ [] → IsLowering old → EmitLeads K xs 0 os old old
  emits_begin os none keeps = record {
    later = b.later;
    goes = b.goes;
    left = λ p y runs stands is. record {
      state = p.state;
      stands = stands;
      item = [];
      is = (let P : List CallOutput → Type 0 = λ l. OutputsStand (bags_of p.run old.plan) (map output_of l) [] in subst P (sym none) tt);
      same =
          sym (ap (λ (l : List CallOutput). with_more [] (emits_from (labels_of l) xs) p.around p.state) none ∙ none_before p.around (emits_from [] xs p.around p.state));
    };
  }
    where
      b : Leads K NoIn (λ y. emits_from [] xs) NoIn (λ y. emits_from [] xs) old old
      b = begins K NoIn (λ y. emits_from [] xs) old keeps

  split : (i : ℕ) (x : Emit) (ns : List (List ℕ)) → i < length xs → x ≡ get_or xs i x → (a : Around) (s : State)
      → emits_from ns (drop i xs) a s ≡ then_by a (λ o. emits_from (labels_on ns (view_emit x)) (drop (i + 1) xs) >>= λ os. gives (o ∷ os)) (emit_after ns (view_emit x) a s)
  split i x ns h is a s = ap (λ ys. emits_from ns ys a s) (left xs i x h is) ∙ emits_split a s ns (view_emit x) (trees (map view_emit (drop (i + 1) xs)))

  pub emits_go : (i : ℕ) (x : Emit) (os ws : Vec CallOutput) (o : CallOutput) (mid new : Lowering) → i < length xs → x ≡ get_or xs i x → ws.items ≡ os.items ++ o ∷ []
      → o.label ≡ label_of (emit_label (view_emit x)) → OutputsFit mid os → EmitLeads K xs i os old mid → Walked K (due an_output (emit_after (labels_of os.items) (view_emit x))) mid new (Ok o)
      → EmitLeads K xs (i + 1) ws old new
  emits_go i x os ws o mid new h is more label fit so_far step =
      goes_further K NoIn (λ y. emits_from [] xs) (AreOutputs os) (rest_from xs i os) old mid (due an_output (emit_after (labels_of os.items) (view_emit x)))
      (AreOutputs ws) (rest_from xs (i + 1) ws) new o so_far step
      (λ p qs stands it. record {
        first = tt;
        stands = tt;
        goes = λ q s there out came. (
          qs ++ q ∷ [],
          subst (λ us. OutputsStand (bags_of p.run new.plan) us (qs ++ q ∷ [])) (sym (ap (map output_of) more ∙ map-append output_of os.items (o ∷ [])))
              (stands_more (bags_of p.run new.plan) (map output_of os.items) (output_of o) qs q
              (step.later.stands p.run (results (map output_of os.items)) (given_outputs qs) fit it) out),
          ap (then_by p.around (λ us. gives (qs ++ us))) (split i x (labels_of os.items) h is p.around p.state)
              ∙ ap (λ r. then_by p.around (λ us. gives (qs ++ us)) (then_by p.around (λ q. emits_from (labels_on (labels_of os.items) (view_emit x)) (drop (i + 1) xs) >>= λ us. gives (q ∷ us)) r)) came
              ∙ one_before p.around qs q (emits_from (labels_on (labels_of os.items) (view_emit x)) (drop (i + 1) xs) p.around s)
              ∙ ap (λ ns. with_more (qs ++ q ∷ []) (emits_from ns (drop (i + 1) xs)) p.around s) (sym labels),
        );
      })
    where
      labels : labels_of ws.items ≡ labels_on (labels_of os.items) (view_emit x)
      labels =
          ap labels_of more ∙ labels_more [] os.items o ∙ ap (λ l. and_label l (labels_of os.items)) label ∙ labels_same (labels_of os.items) (emit_label (view_emit x))

  pub emits_fail : (i : ℕ) (x : Emit) (os : Vec CallOutput) (mid new : Lowering) (e : LowerFault) → i < length xs → x ≡ get_or xs i x → EmitLeads K xs i os old mid
      → Walked K (due an_output (emit_after (labels_of os.items) (view_emit x))) mid new (Err e) → Walked K (due outputs (emits_from [] xs)) old new (Err e)
  emits_fail i x os mid new e h is so_far step =
      fails K NoIn (λ y. emits_from [] xs) (AreOutputs os) (rest_from xs i os) old mid (due an_output (emit_after (labels_of os.items) (view_emit x))) outputs new e so_far step
      (λ p qs stands it. record {
        first = tt;
        stands = tt;
        rest = λ o a s. then_by a (λ us. gives (qs ++ us)) ((others >>= λ us. gives (o ∷ us)) a s);
        same =
            ap (then_by p.around (λ us. gives (qs ++ us))) (split i x (labels_of os.items) h is p.around p.state)
            ∙ twice p.around qs (emit_after (labels_of os.items) (view_emit x) p.around p.state);
      })
    where
      others : Walk (List Output)
      others = emits_from (labels_on (labels_of os.items) (view_emit x)) (drop (i + 1) xs)

      twice : (a : Around) (qs : List Output) (r : Lowered (Output × State))
          → then_by a (λ us. gives (qs ++ us)) (then_by a (λ o. others >>= λ us. gives (o ∷ us)) r)
          ≡ then_by a (λ o b s. then_by b (λ us. gives (qs ++ us)) ((others >>= λ us. gives (o ∷ us)) b s)) r
      twice a qs (Ok x) = refl
      twice a qs (Err e) = refl

  pub emits_end : (i : ℕ) (os : Vec CallOutput) (now : Lowering) → length xs ≤ i → OutputsFit now os → EmitLeads K xs i os old now → Walked K (due outputs (emits_from [] xs)) old now (Ok os)
  emits_end i os now h fit so_far =
      is_given K NoIn (λ y. emits_from [] xs) (AreOutputs os) (rest_from xs i os) old now outputs os fit so_far
      (λ p qs stands it.
      (qs, it, ap (λ zs. with_more qs (emits_from (labels_of os.items) zs) p.around p.state) (drop_all i xs h) ∙ ap (λ l. Ok (l, p.state)) (append-nil qs)))

-- ---- one, from its channel

pub emitted_given : (K : Known) (port : Port) (label : Option (List ℕ)) (o : CallOutput) (z : Lowering) → IsLowering z → PortReads z.plan port → o.port ≡ port → o.label ≡ label
    → Walked K (from a_port port an_output (λ c. gives (record { label = label; channel = c }))) z z (Ok o)
emitted_given K port label o z keeps reads is named =
    given K (from a_port port an_output (λ c. gives (record { label = label; channel = c }))) z o keeps (subst (λ p. PortReads z.plan p) (sym is) reads)
    (λ p c stands h. (
      record { label = label; channel = c },
      refl,
      record { label = named; channel = subst (λ q. StandsFor (bags_of p.run z.plan) q c) (sym is) h },
    ))
