-- The body of a workflow.
use Rattle.std.proofs.Common.{◌≡◌, Ok, Err, List, [], ◌∷◌, map, refl, sym, subst}
use Rattle.std.specs.Global.{Vec}
use Rattle.nf_ast.specs.Tree.{Tree}
use Rattle.nf_ast.specs.View.{trees}
use Rattle.nf_graph.specs.Meaning.{Bags}
use Rattle.nf_meaning.specs.declared.fault.LowerFault.{LowerFault}
use Rattle.nf_meaning.specs.Script.{workflow_walk}
use Rattle.nf_meaning.specs.Stands.{OutputsStand}
use Rattle.nf_meaning.specs.Walk.{◌>>=◌, gives}
use Rattle.nf_meaning.specs.Workflow.{part_of}
use Rattle.nf_scopes.specs.declared.things.CallOutput.{CallOutput}
use Rattle.nf_scopes.specs.Things.{output_of}
use Rattle.nf_plan.specs.declared.builder.PlanBuilder.{PlanBuilder}
use Rattle.nf_plan.specs.Runs.{bags_of}
use Rattle.nf_follows.specs.Things.{OutputsRead}
use Rattle.nf_lowering.specs.declared.state.Lowering.{Lowering}
use Rattle.nf_lowering.specs.State.{IsLowering}
use Rattle.nf_walked.specs.Forms.{nothing, outputs}
use Rattle.nf_walked.specs.Steps.{Known, Walked, due}
use Rattle.nf_walked.proofs.Joins.{fails_first, then_due}
use Rattle.nf_walked.proofs.Stills.{as_walk, given}

-- no outputs
no_outputs_read : (b : PlanBuilder) (os : List CallOutput) → os ≡ [] → OutputsRead b (map output_of os)
no_outputs_read b os none = subst (λ us. OutputsRead b (map output_of us)) (sym none) tt

no_outputs_stand : (bags : Bags) (os : List CallOutput) → os ≡ [] → OutputsStand bags (map output_of os) []
no_outputs_stand bags os none = subst (λ us. OutputsStand bags (map output_of us) []) (sym none) tt

pub nothing_given : (K : Known) (z : Lowering) (os : Vec CallOutput) → IsLowering z → os.items ≡ [] → Walked K (due outputs (gives [])) z z (Ok os)
nothing_given K z os keeps none =
    given K (due outputs (gives [])) z os keeps (no_outputs_read z.plan os.items none) (λ p y stands is. ([], refl, no_outputs_stand (bags_of p.run z.plan) os.items none))

-- statements alone emit nothing
pub alone : (ts : List Tree) → workflow_walk (trees ts) ≡ ((part_of (trees ts)).body >>= λ v. gives [])
alone [] = refl
alone (t ∷ ts) = refl

pub alone_emits : {K : Known} {old new : Lowering} {u : Unit {0}} (ts : List Tree) (os : Vec CallOutput) → IsLowering old → os.items ≡ [] → Walked K (due nothing (part_of (trees ts)).body) old new (Ok u)
    → Walked K (due outputs (workflow_walk (trees ts))) old new (Ok os)
alone_emits {K} {old} {new} {u} ts os keeps none h = as_walk (then_due keeps h (nothing_given K new os h.goes.keeps none)) (sym (alone ts))

pub alone_fails : {K : Known} {old new : Lowering} {e : LowerFault} (ts : List Tree) → IsLowering old → Walked K (due nothing (part_of (trees ts)).body) old new (Err e)
    → Walked K (due outputs (workflow_walk (trees ts))) old new (Err e)
alone_fails {K} {old} {new} {e} ts keeps h = as_walk (fails_first outputs (λ v. gives []) keeps h) (sym (alone ts))
