-- A plan that grew, under the names of a body.
use Rattle.std.proofs.Common.{◌≡◌, ℕ, List, [], ◌∷◌, ◌++◌, map, string_bytes, true, Result, Err, sym, ap, ◌∙◌, subst}
use Rattle.std.proofs.lemmas.List.{append-nil}
use Rattle.nf_builtins.specs.Natives.{is_among}
use Rattle.nf_plan.specs.NodeInfo.{NodeInfo}
use Rattle.nf_meaning.specs.declared.fault.LowerFault.{LowerFault}
use Rattle.nf_meaning.specs.declared.fault.LowerFault.TheVariants.{Mem}
use Rattle.nf_meaning.specs.CallPaths.{BodyCalls}
use Rattle.nf_meaning.specs.Meaning.{ScriptMeaning}
use Rattle.nf_meaning.specs.Walk.{Sizes, State, Want}
use Rattle.nf_scopes.specs.Things.{thing_of}
use Rattle.nf_plan.specs.declared.builder.PlanBuilder.{PlanBuilder}
use Rattle.nf_plan.specs.Plans.{IsPlan, is_process}
use Rattle.nf_plan.specs.Runs.{Run, PlanStands}
use Rattle.nf_follows.specs.Extends.{Extends}
use Rattle.nf_follows.specs.Lowers.{Lowers, Owed}
use Rattle.nf_lowering.specs.declared.state.Lowering.{Lowering}
use Rattle.nf_lowering.specs.State.{IsLowering, StandsIn, calls_in, lowering, path_if, process_paths}
use Rattle.nf_lowering.proofs.Lasting.{ReadsOn, StandsOn, table_last, names_last}

pub extends_same : (old new : PlanBuilder) → new.nodes.items ≡ old.nodes.items → new.infos.items ≡ old.infos.items → Extends old new
extends_same old new nodes infos = record {
  added = [];
  known = [];
  nodes = nodes ∙ sym (append-nil old.nodes.items);
  infos = infos ∙ sym (append-nil old.infos.items);
}

-- a node more that is no process's adds no path
pub no_path : (xs : List NodeInfo) (x : NodeInfo) → path_if (is_process x.body) x.name ≡ [] → process_paths (xs ++ x ∷ []) ≡ process_paths xs
no_path [] x h = ap (λ ps. ps ++ []) h
no_path (y ∷ xs) x h = ap (λ ps. path_if (is_process y.body) y.name ++ ps) (no_path xs x h)

pub keeps_plan : ReadsOn → (old : Lowering) (b : PlanBuilder) → IsLowering old → Extends old.plan b → process_paths b.infos.items ≡ process_paths old.plan.infos.items → IsPlan b
    → IsLowering (record old { plan = b })
keeps_plan law old b k e same plan = record {
  plan = plan;
  names = λ n t h. law old.plan b e (thing_of t) (k.names n t h);
  calls = λ n t h. law old.plan b e (thing_of t) (k.calls n t h);
  free = record { called = λ p n rest a plain ends is. k.free.called p n rest (subst (λ ps. is_among p ps ≡ true) same a) plain ends is };
}

abbrev calls_with : Lowering → List (List ℕ) → BodyCalls
calls_with z paths = record { path = z.path; called = map string_bytes z.called.keys; paths = paths }

-- the same is called
pub calls_same : (old : Lowering) (b : PlanBuilder) → process_paths b.infos.items ≡ process_paths old.plan.infos.items → calls_in (record old { plan = b }) ≡ calls_in old
calls_same old b same = ap (calls_with old) same

-- the state with other sizes, wants and meaning
abbrev pub grown_state : State → Sizes → List Want → ScriptMeaning → State
grown_state s sizes wants meant = record s { sizes = sizes; wants = wants; meant = meant }

pub stands_plan : StandsOn → (braces : List (List (List ℕ))) (x : Run) (old : Lowering) (b : PlanBuilder) (s : State) (sizes : Sizes) (wants : List Want) (meant : ScriptMeaning)
    → IsLowering old → Extends old.plan b → PlanStands x b (grown_state s sizes wants meant) → StandsIn braces x old s → StandsIn braces x (record old { plan = b }) (grown_state s sizes wants meant)
stands_plan law braces x old b s sizes wants meant k e plan h = record {
  plan = plan;
  names = names_last law x old.plan b e braces old.names s.scope k.names h.names;
  called = h.called;
  calls = table_last law x old.plan b e old.calls.entries s.scope.calls k.calls h.calls;
  path = h.path;
  within = h.within;
}

-- another scope, whose calls and path stay
pub plan_scope : (x : Run) (b : PlanBuilder) (s t : State) → t.sizes ≡ s.sizes → t.wants ≡ s.wants → t.meant ≡ s.meant → PlanStands x b s → PlanStands x b t
plan_scope x b s t sizes wants meant h = record {
  calls = h.calls;
  nodes = h.nodes;
  count = h.count;
  meant = h.meant ∙ sym meant;
  sizes = h.sizes ∙ sym sizes;
  wants = h.wants ∙ sym wants;
}

-- there was no memory for a step
pub lost : {I A B : Type 0} (owed : Owed I A B) (old new : Lowering) (braces : List (List (List ℕ))) (r : Result A LowerFault) (e : LowerFault) → r ≡ Err e → e ≡ Mem → Extends old.plan new.plan
    → Lowers (lowering braces) owed old new r
lost owed old new braces r e is mem extends =
    subst (λ q. Lowers (lowering braces) owed old new q) (sym is)
    (subst (λ (f : LowerFault). Lowers (lowering braces) owed old new (Err f)) (sym mem) (record { extends = extends; follows = λ x a s y runs stands h. tt }))
