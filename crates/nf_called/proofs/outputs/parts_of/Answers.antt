use Rattle.std.proofs.Common.{◌≡◌, ◌+◌, ◌∙◌, ◌∷◌, ◌++◌, List, [], Err, ap, map, refl, rules}
use Rattle.std.proofs.lemmas.List.{map_push}
use Rattle.nf_ast.specs.Tops.{view_output_part}
use Rattle.nf_tasks.specs.Memory.{part_of}
use Rattle.nf_tasks.specs.declared.process.OutputPart.{OutputPart}
use Rattle.nf_meaning.specs.Processes.{output_part, output_parts}
use Rattle.nf_called.proofs.Turns.{behind, behind_none, rest, thing_end, thing_fault, thing_turn}
use Rattle.nf_called.proofs.outputs.parts_of.Goals as goal

pub loop-part-init : goal.loop-part-init
loop-part-init g c =
    let x = g.F.Formulas.inside c.args.formulas.now in
    let n = g.F.Formulas.program c.args.formulas.now in
    let all = output_parts x (rest view_output_part c.args.parts.now 0) in
    let none : c.new-list.result.items ≡ [] = search rules in
    ap (λ (ys : List OutputPart). behind (map (part_of n) ys) all) none ∙ behind_none all

pub returns-in_err-part_of : goal.returns-in_err-part_of
returns-in_err-part_of g c =
    let x = g.F.Formulas.inside c.args.formulas.now in
    let n = g.F.Formulas.program c.args.formulas.now in
    let e = c.in_err-part_of.field-0.0 in
    let err : c.from_residual.result ≡ Err e = search rules in
    rw err (thing_fault view_output_part (output_parts x) (output_part x) (λ a more. refl) c.args.parts.now c.loop-part.part-index c.part-item.result (map (part_of n) c.loop-part.list.items) _ e c.loop-part-test.true c.part-item.is c.loop-part.invariant c.in_err-part_of.ensures)

pub loop-part-preserved : goal.loop-part-preserved
loop-part-preserved g c =
    let x = g.F.Formulas.inside c.args.formulas.now in
    let n = g.F.Formulas.program c.args.formulas.now in
    let v = c.in_ok-part_of.ensures in
    let y = c.in_ok-part_of.field-0 in
    let pushed : c.push.new.self.items ≡ c.loop-part.list.items ++ y ∷ [] = search rules in
    let all : map (part_of n) c.push.new.self.items ≡ map (part_of n) c.loop-part.list.items ++ v.value ∷ [] =
    ap (map (part_of n)) pushed ∙ map_push (part_of n) c.loop-part.list.items y ∙ ap (λ z. map (part_of n) c.loop-part.list.items ++ z ∷ []) v.fits in
    ap (λ l. behind l (output_parts x (rest view_output_part c.args.parts.now (c.loop-part.part-index + 1)))) all
    ∙ thing_turn view_output_part (output_parts x) (output_part x) (λ a more. refl) c.args.parts.now c.loop-part.part-index c.part-item.result (map (part_of n) c.loop-part.list.items) v.value _ c.loop-part-test.true c.part-item.is v.is c.loop-part.invariant

pub returns : goal.returns
returns g c =
    let x = g.F.Formulas.inside c.args.formulas.now in
    let n = g.F.Formulas.program c.args.formulas.now in
    record {
      value = map (part_of n) c.loop-part.list.items;
      is = thing_end view_output_part (output_parts x) refl c.args.parts.now c.loop-part.part-index (map (part_of n) c.loop-part.list.items) _ c.loop-part-test.false c.loop-part.invariant;
      fits = refl;
    }
