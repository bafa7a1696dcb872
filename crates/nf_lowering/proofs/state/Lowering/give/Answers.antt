use Rattle.std.proofs.Common.{◌≡◌, ◌<◌, ◌∙◌, ℕ, List, Option, ap, length, map, subst, sym}
use Rattle.nf_meaning.specs.Stands.{PortThing, results}
use Rattle.nf_scopes.specs.Things.{output_of}
use Rattle.nf_lowering.specs.Nodes.{KeepsCall, outputs_from}
use Rattle.nf_lowering.proofs.state.Lowering.give.Goals as goal

pub outputs_from-requires : goal.outputs_from-requires
outputs_from-requires c = subst (λ (ls : List (Option (List ℕ))). length ls < 4294967296) (sym c.as_slice.ensures.value) c.requires

pub returns : goal.returns
returns c =
    let is : results (map output_of c.in_ok-outputs.outputs.items) ≡ results (outputs_from c.args.first 0 c.args.labels.items) =
    ap results (c.in_ok-outputs.ensures ∙ ap (outputs_from c.args.first 0) c.as_slice.ensures.value) in
    record {
      given = c.in_ok-thing.ensures.given ∙ is;
      kept = subst (λ (q : PortThing). KeepsCall c.args.name.now q c.args.self.now c.keep_call.new.self) is c.in_ok-thing.ensures.kept;
      others = c.in_ok-thing.ensures.others;
      fault = tt;
    }
