-- A script that is lowered with some files.
use Rattle.std.proofs.Common.{◌≡◌, ℕ, List, [], Option, Some, None, Result, Ok, Err, subst, ap, ◌∙◌}
use Rattle.nf_ast.specs.Tree.{Tree}
use Rattle.nf_meaning.specs.declared.fault.LowerFault.{LowerFault}
use Rattle.nf_meaning.specs.declared.fault.LowerFault.TheVariants as fault
use Rattle.nf_meaning.specs.Given.{Found, Given, Outcomes}
use Rattle.nf_meaning.specs.Lowered.{Lowered}
use Rattle.nf_meaning.specs.Meaning.{ScriptMeaning}
use Rattle.nf_meaning.specs.Outside.{fault_of, in_run}
use Rattle.nf_meaning.specs.Script.{meaning_of, wants_of}
use Rattle.nf_lowered.specs.Given.{HasFault}
use Rattle.nf_plan.specs.declared.plan.Plan.{Plan}
use Rattle.nf_lower.specs.Script.{LowersTo, OverPatterns}
use Rattle.nf_cli.specs.Scripts.{Script, Patterns, given_with}
use Rattle.nf_cli.specs.Planned.{Lowers}

-- the outcomes of tasks of which none ran
abbrev pub none_ran : Outcomes
none_ran = λ path inputs number. []

-- ---- a fault that one of two meanings has, where they have the same

has_fault : (v w : Lowered ScriptMeaning) (e : LowerFault) → (w ≡ Err e → v ≡ Err e) → HasFault w e → HasFault v e
has_fault v w fault.Mem f h = tt
has_fault v w e f h = f h

same_fault : (u : Lowered ScriptMeaning) (f : LowerFault) → fault_of u ≡ Some f → u ≡ Err f
same_fault (Ok y) f k = absurd (let q : ◌≡◌ {A = Option LowerFault} None (Some f) = k in cc)
same_fault (Err d) f k = (let q : ◌≡◌ {A = Option LowerFault} (Some d) (Some f) = k in let r : d ≡ f = cc in ap (λ z. Err z) r)

fault_moves : (v w : Lowered ScriptMeaning) (e : LowerFault) → fault_of v ≡ fault_of w → HasFault w e → HasFault v e
fault_moves v w e same h = has_fault v w e (λ k. same_fault v e (same ∙ ap fault_of k)) h

-- ---- what is lowered

abbrev pub FaultAlone : Type 0
FaultAlone = (g : Given) (found : List Found) (o : Outcomes) → fault_of (meaning_of (in_run g found o)) ≡ fault_of (meaning_of g)

abbrev pub WantsAlone : Type 0
WantsAlone = (g : Given) (found : List Found) (o : Outcomes) → wants_of (in_run g found o) ≡ wants_of g

module _ (faults : FaultAlone) (wants : WantsAlone) (x : Script) (files : List Found) where
  with_patterns : (p : Patterns x.tree) (r : Result Plan LowerFault) → LowersTo (given_with x p files none_ran) r → Lowers x files r
  with_patterns p (Ok plan) it = record {
    patterns = p;
    made = it.made;
    is_made = record { is_plan = it.plan_is; graph_is = it.is.graph; infos_are = ap (λ v. v.items) it.is.infos };
    means = it.means;
    reads = λ found o. wants (given_with x p files none_ran) found o ∙ it.wants;
  }
  with_patterns p (Err e) it = record {
    patterns = p;
    has = λ found o.
        fault_moves (meaning_of (given_with x p found o)) (meaning_of (given_with x p files none_ran)) e
        (faults (given_with x p files none_ran) found o) (it none_ran);
  }

  abbrev given_at : (tree : Tree) (folder : List ℕ) → List (List ℕ) → List (List ℕ) → Given
  given_at tree folder built large = record {
    tops = tree;
    params = x.params;
    folder = folder;
    found = files;
    program = x.program;
    patterns = built;
    large = large;
    outcomes = none_ran;
  }

  -- as lowering says it
  abbrev pub DidLower : Tree → List ℕ → Result Plan LowerFault → Type 0
  DidLower tree folder r = OverPatterns tree (λ built large. LowersTo (given_at tree folder built large) r)

  lowers_here : (r : Result Plan LowerFault) → DidLower x.tree x.folder r → Lowers x files r
  lowers_here r it =
      let p : Patterns x.tree = record { built = it.built; large = it.large; split = it.split } in
      with_patterns p r it.holds_of

  -- the patterns are those of which lowering speaks
  pub lowers : (tree : Tree) (folder : List ℕ) (r : Result Plan LowerFault) → tree ≡ x.tree → folder ≡ x.folder → DidLower tree folder r → Lowers x files r
  lowers tree folder r same_tree same_folder it =
      lowers_here r (subst (λ (at : Tree × List ℕ). DidLower at.0 at.1 r) (λ i. (same_tree i, same_folder i)) it)
