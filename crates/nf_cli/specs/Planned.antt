-- The plan of a script, or why nothing is run of it.
use Rattle.std.specs.Prelude.{◌≡◌, ℕ, List, map, Result, Ok, Err, Vec}
use Rattle.std.specs.Global.{Global}
use Rattle.std.specs.declared.option.Option.{Option}
use Rattle.nf_ast.specs.Tops.{view_script}
use Rattle.nf_host.specs.Files.{Files}
use Rattle.nf_tasks.specs.Memory.{Program}
use Rattle.nf_sources.specs.declared.fault.SourceRefusal.{SourceRefusal}
use Rattle.nf_sources.specs.declared.fault.SourceRefusal.TheVariants as source
use Rattle.nf_meaning.specs.declared.fault.LowerFault.{LowerFault}
use Rattle.nf_meaning.specs.declared.fault.LowerFault.TheVariants as fault
use Rattle.nf_meaning.specs.Given.{Found, Outcomes}
use Rattle.nf_meaning.specs.Script.{meaning_of}
use Rattle.nf_meaning.specs.Walk.{Want}
use Rattle.nf_plan.specs.declared.builder.PlanBuilder.{PlanBuilder}
use Rattle.nf_plan.specs.declared.plan.Plan.{Plan}
use Rattle.nf_plan.specs.Plans.{want_of}
use Rattle.nf_found.specs.All.{AreAllFound, IsFirst, found_of}
use Rattle.nf_found.specs.Found.{LacksFile, HasLongFile}
use Rattle.nf_found.specs.declared.found.Found as files
use Rattle.nf_found.specs.declared.refusal.FoundRefusal.{FoundRefusal}
use Rattle.nf_found.specs.declared.refusal.FoundRefusal.TheVariants as found
use Rattle.nf_ends.specs.Causes.{end_of_host}
use Rattle.nf_ends.specs.declared.end.End.{End}
use Rattle.nf_ends.specs.declared.end.End.TheVariants as end
use Rattle.nf_carried.specs.Run.{run_of}
use Rattle.nf_carried.specs.Ran.{IsMade}
use Rattle.nf_asked.specs.declared.answer.AskedRun.{AskedRun}
use Rattle.nf_cli.specs.Scripts.{Script, Patterns, Reads, Sources, IsAtSource, IsRunOf, HasFirstFault, given_with}

-- what is asked to be run
abbrev pub script_of : Program → AskedRun → Script
script_of n run = record {
  tree = view_script run.script;
  params = run.params;
  folder = run.folder;
  work = run.work;
  program = n;
}

-- ---- a script that is lowered with these files

-- the plan's graph means what the script means with them, and the plan has the paths that its sources read
pub record IsLowered (x : Script) (files : List Found) (plan : Plan) : Type 0 where
  pub patterns : Patterns x.tree
  pub made : PlanBuilder
  pub is_made : IsMade made plan.graph plan.infos.items
  pub means : (o : Outcomes) → meaning_of (given_with x patterns files o) ≡ Ok ((run_of x.program made).meaning o)
  pub reads : Reads x patterns (map want_of plan.wants.items)

abbrev pub Lowers : Script → List Found → Result Plan LowerFault → Type 0
Lowers x files (Ok plan) = IsLowered x files plan
Lowers x files (Err f) = HasFirstFault x f

-- ---- the files of its sources

-- the end of a call of which a source isn't read
abbrev pub end_of_source : SourceRefusal → End
end_of_source (source.FileTooLong path) = end.FileTooLong path
end_of_source (source.Host e) = end_of_host e

abbrev pub end_of_found : FoundRefusal → End
end_of_found (found.NoFile path) = end.NoFile path
end_of_found (found.Source r) = end_of_source r

-- why the first of these paths that has no files has none; the host may fail, and memory run out, at any of them
abbrev pub LacksFiles : List ℕ → Option Files → List Want → End → Type 0
LacksFiles work told ws (end.NoFile path) = IsFirst work told ws (λ w. LacksFile work told w path)
LacksFiles work told ws (end.FileTooLong path) = IsFirst work told ws (λ w. HasLongFile work told w path)
LacksFiles work told ws end.HostFault = Unit {0}
LacksFiles work told ws end.Mem = Unit {0}
LacksFiles work told ws _ = ⊥

-- what was found for each of these paths, or the end of the call
abbrev pub Finds : List ℕ → Option Files → List Want → Result (Vec files.Found Global) End → Type 0
Finds work told ws (Ok fs) = AreAllFound work told ws (map found_of fs.items)
Finds work told ws (Err e) = LacksFiles work told ws e

-- ---- a script over the files that its sources read

pub record IsPlanFor (x : Script) (told : Option Files) (plan : Plan) : Type 0 where
  pub sources : Sources x told
  pub made : PlanBuilder
  pub is_made : IsMade made plan.graph plan.infos.items
  pub means : IsRunOf x sources (run_of x.program made)

-- Why nothing is run of it: a source has no file, or one that is too long; or the script has a fault
abbrev pub RefusesScript : Script → Option Files → End → Type 0
RefusesScript x told (end.NoFile path) = IsAtSource x told (λ w. LacksFile x.work told w path)
RefusesScript x told (end.FileTooLong path) = IsAtSource x told (λ w. HasLongFile x.work told w path)
RefusesScript x told (end.Lower fault.Mem) = ⊥
RefusesScript x told (end.Lower f) = HasFirstFault x f
RefusesScript x told _ = ⊥

-- the same, or the host failed, or memory ran out
abbrev pub GivesUp : Script → Option Files → End → Type 0
GivesUp x told end.HostFault = Unit {0}
GivesUp x told end.Mem = Unit {0}
GivesUp x told e = RefusesScript x told e

abbrev pub Plans : Script → Option Files → Result Plan End → Type 0
Plans x told (Ok plan) = IsPlanFor x told plan
Plans x told (Err e) = GivesUp x told e
