use Rattle.std.proofs.Common.{◌≡◌, List, ℕ, None, Some, rules}
use Rattle.nf_value.specs.declared.place.Place.{Place}
use Rattle.nf_ast.specs.Tops.{view_workflow_body}
use Rattle.nf_declared.proofs.Named.{entry_goes, named_goes}
use Rattle.nf_declared.proofs.names.TopNames.workflow.Goals as goal

pub returns-in-Some : goal.returns-in-Some
returns-in-Some c =
    let w = c.args.workflow.now in
    let n : Place × List ℕ = (c.in-Some.place, c.in-Some.name) in
    let is : w.name ≡ Some n = search rules in
    named_goes w.place (view_workflow_body w.body) c.args.self.now c.new_name.new.self c.new_name.result w.name n is c.new_name.ensures

pub returns-in-None : goal.returns-in-None
returns-in-None c =
    let w = c.args.workflow.now in
    let is : w.name ≡ None = search rules in
    entry_goes w.place (view_workflow_body w.body) c.args.self.now c.new_entry.new.self c.new_entry.result w.name is c.new_entry.ensures
