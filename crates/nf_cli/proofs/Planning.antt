-- The plan of a script over the files that its sources read, from what lowering and the search for files gave.
use Rattle.std.proofs.Common.{◌≡◌, ℕ, List, [], map, Result, Err, refl, sym, subst}
use Rattle.std.specs.declared.option.Option.{Option}
use Rattle.nf_host.specs.Files.{Files}
use Rattle.nf_meaning.specs.Given.{Found}
use Rattle.nf_meaning.specs.Walk.{Want}
use Rattle.nf_plan.specs.declared.plan.Plan.{Plan}
use Rattle.nf_plan.specs.declared.want.Want as want
use Rattle.nf_plan.specs.Plans.{want_of}
use Rattle.nf_found.specs.All.{AreAllFound}
use Rattle.nf_ends.specs.declared.end.End.{End}
use Rattle.nf_ends.specs.declared.end.End.TheVariants as end
use Rattle.nf_cli.specs.Scripts.{Script}
use Rattle.nf_cli.specs.Planned.{GivesUp, IsLowered, IsPlanFor, LacksFiles, Plans}

-- ---- files that weren't found

-- the first lowering tells which paths are read
pub files_give_up : (x : Script) (told : Option Files) (plan : Plan) → IsLowered x [] plan → (e : End) → LacksFiles x.work told (map want_of plan.wants.items) e → GivesUp x told e
files_give_up x told plan it (end.NoFile path) h = record { patterns = it.patterns; wants = map want_of plan.wants.items; read = it.reads; first = h }
files_give_up x told plan it (end.FileTooLong path) h = record { patterns = it.patterns; wants = map want_of plan.wants.items; read = it.reads; first = h }
files_give_up x told plan it end.HostFault h = tt
files_give_up x told plan it end.Mem h = tt
files_give_up x told plan it e h = absurd h

-- ---- the plan

pub plan_for : (x : Script) (told : Option Files) (files : List Found) (ws : List Want) (plan : Plan) → IsLowered x files plan → map want_of plan.wants.items ≡ ws
    → AreAllFound x.work told ws files → IsPlanFor x told plan
plan_for x told files ws plan it same found = record {
  sources = record {
    patterns = it.patterns;
    wants = map want_of plan.wants.items;
    read = it.reads;
    found = files;
    are_found = subst (λ (vs : List Want). AreAllFound x.work told vs files) (sym same) found;
  };
  made = it.made;
  is_made = it.is_made;
  means = it.means;
}

-- ---- as the steps of a call give them

module _ (x : Script) (told : Option Files) (plan : Plan) where
  -- the files of the paths that the first lowering tells weren't found
  pub files_lacked : (work : List ℕ) (wants : List want.Want) (r : Result Plan End) (e : End) → work ≡ x.work → wants ≡ plan.wants.items → r ≡ Err e
      → IsLowered x [] plan → LacksFiles work told (map want_of wants) e → Plans x told r
  files_lacked work wants r e same_work same_wants is it h =
      let here : LacksFiles x.work told (map want_of plan.wants.items) e =
      subst (λ (at : List ℕ × List want.Want). LacksFiles at.0 told (map want_of at.1) e) (λ i. (same_work i, same_wants i)) h in
      subst (Plans x told) (sym is) (files_give_up x told plan it e here)

  -- they were found: a script without sources needs no more than its first plan
  pub plan_alone : (work : List ℕ) (wants : List want.Want) (files : List Found) → work ≡ x.work → wants ≡ plan.wants.items → files ≡ []
      → IsLowered x [] plan → AreAllFound work told (map want_of wants) files → IsPlanFor x told plan
  plan_alone work wants files same_work same_wants none it h =
      let here : AreAllFound x.work told (map want_of plan.wants.items) [] =
      subst (λ (at : List ℕ × (List want.Want × List Found)). AreAllFound at.0 told (map want_of at.1.0) at.1.1) (λ i. (same_work i, (same_wants i, none i))) h in
      plan_for x told [] (map want_of plan.wants.items) plan it refl here

  -- with them it was lowered again, and reads the same paths
  pub plan_again : (work : List ℕ) (wants : List want.Want) (found files : List Found) (again : Plan) → work ≡ x.work → wants ≡ plan.wants.items → files ≡ found
      → map want_of plan.wants.items ≡ map want_of again.wants.items → IsLowered x files again → AreAllFound work told (map want_of wants) found → IsPlanFor x told again
  plan_again work wants found files again same_work same_wants same_files same it h =
      let here : AreAllFound x.work told (map want_of plan.wants.items) files =
      subst (λ (at : List ℕ × (List want.Want × List Found)). AreAllFound at.0 told (map want_of at.1.0) at.1.1) (λ i. (same_work i, (same_wants i, sym same_files i))) h in
      plan_for x told files (map want_of plan.wants.items) again it (sym same) here
