use Rattle.std.proofs.Common.{◌≡◌, ℕ, ◌<◌, ◌≤◌, [], ◌++◌, get_or}
use Rattle.std.specs.Prelude.{Ok}
use Rattle.nf_job.specs.declared.emitted.Outputs.TheVariants.{Emits}
use Rattle.nf_graph.specs.Rules.{emit_at}
use Rattle.nf_spot.proofs.node_state.put_outputs.Given as goal

abbrev pub invariant-loop-out : goal.invariant-loop-out
invariant-loop-out l = record {
  done : (o : ℕ) → o < l.out → get_or l.outlets o [] ≡ get_or l.initial.outlets o [] ++ emit_at (Ok (Emits l.values)) o;
  rest : (o : ℕ) → l.out ≤ o → get_or l.outlets o [] ≡ get_or l.initial.outlets o [];
}
