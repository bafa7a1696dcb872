use Rattle.std.proofs.Common.{◌≡◌, ◌∙◌, List, ap, map, refl, rules, string_bytes}
use Rattle.nf_meaning.specs.Stands.{results}
use Rattle.nf_scopes.specs.declared.things.CallOutput.{CallOutput}
use Rattle.nf_scopes.specs.declared.things.Thing.TheVariants as thing
use Rattle.nf_scopes.specs.Things.{output_of}
use Rattle.nf_scopes.proofs.Places.{puts_of}
use Rattle.nf_lowering.proofs.state.Lowering.keep_call.Goals as goal

pub returns : goal.returns
returns c =
    let n = c.args.name.now in
    let same : string_bytes c.in_ok-key.key ≡ n = search rules in
    record {
      given = ap results (c.in_ok-given.ensures ∙ ap (λ (xs : List CallOutput). map output_of xs) c.as_slice.ensures.value);
      kept = record {
        thing = thing.Outputs c.args.outputs;
        is = refl;
        puts = puts_of c.args.self.now.calls c.insert.new.self c.in_ok-key.key n (thing.Outputs c.args.outputs) same c.in_ok-insert.ensures.updates;
      };
      others = refl;
    }
