use Rattle.std.proofs.Common.{refl}
use Rattle.nf_names_used.specs.declared.uses.UseKind.TheVariants as kind
use Rattle.std.proofs.lemmas.Result.{on_ok_weaker}
use Rattle.nf_library.proofs.Shelved.{adds_other, adds_use}
use Rattle.nf_library.proofs.shelf.Shelf.add_use.Goals as goal

pub returns-in-Pattern : goal.returns-in-Pattern
returns-in-Pattern c = on_ok_weaker c.add_text.result (λ a. adds_use c.args.one.now c.args.self.now c.add_text.new.self c.in-Pattern.is a) c.add_text.ensures

pub returns-in-Name : goal.returns-in-Name
returns-in-Name c = adds_other c.args.one.now c.args.self.now kind.Name c.in-Name.is refl

pub returns-in-Assigned : goal.returns-in-Assigned
returns-in-Assigned c = adds_other c.args.one.now c.args.self.now kind.Assigned c.in-Assigned.is refl

pub returns-in-Again : goal.returns-in-Again
returns-in-Again c = adds_other c.args.one.now c.args.self.now kind.Again c.in-Again.is refl

pub returns-in-Function : goal.returns-in-Function
returns-in-Function c = adds_other c.args.one.now c.args.self.now kind.Function c.in-Function.is refl
