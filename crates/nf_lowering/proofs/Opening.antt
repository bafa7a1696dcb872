-- Where the entry of a script begins.
use Rattle.std.proofs.Common.{◌≡◌, ℕ, true, false, List, [], None, Some, ap, ◌∙◌, sym, subst}
use Rattle.std.specs.Prelude.{String}
use Rattle.std.specs.Global.{Global}
use Rattle.std.specs.HashSet.{HashSet, IsEmpty, contains_text}
use Rattle.std.specs.Prelude.{bytes_eq, string_bytes}
use Rattle.std.specs.List.{list_any}
use Rattle.nf_builtins.specs.Natives.{is_among}
use Rattle.nf_plan.specs.NodeInfo.{NodeInfo}
use Rattle.nf_meaning.specs.Script.{opening}
use Rattle.nf_scopes.specs.declared.things.Thing.{Thing}
use Rattle.nf_scopes.specs.Held.{Holds}
use Rattle.nf_scopes.specs.Standing.{NamesStand}
use Rattle.nf_scopes.specs.Tables.{Table, TableStands, held}
use Rattle.nf_graph.specs.Meaning.{Bags}
use Rattle.nf_plan.specs.Plans.{IsPlan}
use Rattle.nf_plan.specs.Runs.{Run, PlanStands, bags_of}
use Rattle.nf_lowering.specs.declared.state.Lowering.{Lowering}
use Rattle.nf_lowering.specs.State.{IsLowering, StandsIn, process_paths}

pub nothing_held : {A : Type 0} (es : Table) (n : List ℕ) (t : Thing) → es ≡ [] → held n es ≡ Some t → A
nothing_held es n t none h = absurd (let f : None ≡ Some t = ap (held n) (sym none) ∙ h in cc)

pub empty_stands : (bags : Bags) (es : Table) → es ≡ [] → TableStands bags es []
empty_stands bags es none = subst (λ ys. TableStands bags ys []) (sym none) (λ n. tt)

pub none_called : {S : Type 0} (s : HashSet (String Global) S) → IsEmpty s → (n : List ℕ) → contains_text s n ≡ false
none_called s none n = ap (list_any (λ (k : String Global). bytes_eq n (string_bytes k))) none

-- what a body holds that knew only the names of a table without names
none_among : {A : Type 0} (n : List ℕ) (ps : List (List ℕ)) → ps ≡ [] → is_among n ps ≡ true → A
none_among n ps none h = absurd (let f : false ≡ true = ap (is_among n) (sym none) ∙ h in cc)

pub opened_keeps : (z : Lowering) (es : Table) → IsPlan z.plan → es ≡ [] → ((n : List ℕ) (t : Thing) → Holds z.names n t → held n es ≡ Some t) → z.calls.entries ≡ []
    → z.plan.infos.items ≡ [] → IsLowering z
opened_keeps z es plan none own calls infos = record {
  plan = plan;
  names = λ n t h. nothing_held es n t none (own n t h);
  calls = λ n t h. nothing_held z.calls.entries n t calls h;
  free = record { called = λ p n rest a plain ends is. none_among p (process_paths z.plan.infos.items) (ap (λ (xs : List NodeInfo). process_paths xs) infos) a };
}

pub opened_stands : (z : Lowering) (x : Run) → PlanStands x z.plan opening → NamesStand (bags_of x z.plan) [] z.names opening.scope → ((n : List ℕ) → contains_text z.called n ≡ false) → z.calls.entries ≡ []
    → z.path ≡ [] → z.within.items ≡ [] → StandsIn [] x z opening
opened_stands z x plan names called calls path within = record {
  plan = plan;
  names = names;
  called = called;
  calls = empty_stands (bags_of x z.plan) z.calls.entries calls;
  path = path;
  within = within;
}
