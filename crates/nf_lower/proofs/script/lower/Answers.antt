use Rattle.std.proofs.Common.{◌≡◌, [], Err, ap, map, refl, rules, subst, sym}
use Rattle.nf_ast.specs.Tops.{view_script, view_top}
use Rattle.nf_ast.specs.View.{trees}
use Rattle.nf_eval.specs.Memory.{patterns_of}
use Rattle.nf_library.specs.Patterns.{pattern_texts}
use Rattle.nf_library.specs.Shelves.{AreSplit, large_in}
use Rattle.nf_meaning.specs.declared.fault.LowerFault.TheVariants.{Mem}
use Rattle.nf_tasks.specs.Memory.{program}
use Rattle.nf_lower.specs.Script.{given_of}
use Rattle.nf_lower.proofs.Splitting.{split_of}
use Rattle.nf_lower.proofs.script.lower.Goals as goal

pub returns-in_err-library : goal.returns-in_err-library
returns-in_err-library g c =
    let err : c.from_residual.result ≡ Err Mem = search rules in
    let it = split_of (pattern_texts (view_script c.args.script.now)) in
    rw err (record { built = []; large = it.large; split = it.are; holds_of = λ o. tt })

pub plan_in-requires-clause-given : goal.plan_in-requires-clause-given
plan_in-requires-clause-given g c =
    let n = program (g.N.Natives.titles c.args.natives.now) (g.N.Natives.answer c.args.natives.now) in (
      given_of c.args.script.now c.args.outside.now n (patterns_of c.in_ok-library.field-0.library) (large_in c.in_ok-library.field-0.texts),
      record {
        tops = ap (λ ts. trees (map view_top ts)) (sym c.deref-2.ensures.value);
        params = refl;
        folder = refl;
        program = refl;
        texts = record { built = c.in_ok-library.ensures.built; large = c.in_ok-library.ensures.large };
        patterns = refl;
      },
    )

pub returns : goal.returns
returns g c =
    let n = program (g.N.Natives.titles c.args.natives.now) (g.N.Natives.answer c.args.natives.now) in
    record {
      built = patterns_of c.in_ok-library.field-0.library;
      large = large_in c.in_ok-library.field-0.texts;
      split = subst (λ ts. AreSplit (pattern_texts (trees (map view_top ts))) (patterns_of c.in_ok-library.field-0.library) (large_in c.in_ok-library.field-0.texts)) c.deref.ensures.value c.in_ok-library.ensures.split;
      holds_of = c.plan_in.ensures (given_of c.args.script.now c.args.outside.now n (patterns_of c.in_ok-library.field-0.library) (large_in c.in_ok-library.field-0.texts))
          (record {
            tops = ap (λ ts. trees (map view_top ts)) (sym c.deref-2.ensures.value);
            params = refl;
            folder = refl;
            program = refl;
            texts = record { built = c.in_ok-library.ensures.built; large = c.in_ok-library.ensures.large };
            patterns = refl;
          })
          refl;
    }
