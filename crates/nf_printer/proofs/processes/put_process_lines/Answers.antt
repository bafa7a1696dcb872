use Rattle.std.proofs.Common.{◌≡◌, [], ◌∷◌, ◌++◌, map, refl, ap, ◌∙◌, rules}
use Rattle.std.proofs.lemmas.Result.{on_ok_weaker}
use Rattle.nf_token.specs.declared.token.Mark.TheVariants as m
use Rattle.nf_ast.specs.View.{trees}
use Rattle.nf_ast.specs.Tops.{maybe, view_directive, view_inputs, view_outputs, view_task, view_section}
use Rattle.nf_writer.specs.Ink.{inked, mark}
use Rattle.nf_writer.specs.Lines.{before_first, outside}
use Rattle.nf_printer.specs.Tops.{process_head, process_parts}
use Rattle.nf_writer.specs.Styles.{layout_of}
use Rattle.nf_printer.proofs.Lists.{inked_more}
use Rattle.nf_printer.proofs.Puts.{three}
use Rattle.nf_printer.proofs.Bodies.{process_text}
use Rattle.nf_printer.proofs.processes.put_process_lines.Goals as goal

pub returns : goal.returns
returns c =
    let o = c.args.out.now in
    let x = c.args.process.now in
    let head = process_head x.name in
    let body = process_parts (trees (map view_directive x.directives.items)) (maybe view_inputs x.inputs) (maybe view_outputs x.outputs) (view_task x.task) (maybe view_section x.stub) in
    let last = before_first outside in
    let p : c.put_process_head.new.out ≡ o ++ inked head = search rules in
    let q : c.put_process_parts.new.out ≡ c.put_process_head.new.out ++ inked body = search rules in
    let r : c.after_last.new.out ≡ c.put_process_parts.new.out ++ inked (before_first (layout_of c.args.margin.now)) = search rules in
    let s = r ∙ ap (λ k. c.put_process_parts.new.out ++ inked (before_first k)) c.requires.around in
    let all = three o c.put_process_head.new.out c.put_process_parts.new.out c.after_last.new.out head body last (head ++ body ++ last) p q refl s in
    on_ok_weaker c.mark.result (λ z. inked_more o c.after_last.new.out c.mark.new.self (head ++ body ++ last) (mark m.CloseBrace ∷ []) all z ∙ ap (λ v. o ++ inked v) (process_text x.name body)) (search rules)
