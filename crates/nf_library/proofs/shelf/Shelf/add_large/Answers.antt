use Rattle.std.proofs.Common.{refl}
use Rattle.std.proofs.lemmas.Result.{on_ok_weaker}
use Rattle.nf_library.proofs.Shelved.{adds_large}
use Rattle.nf_library.proofs.shelf.Shelf.add_large.Goals as goal

pub returns : goal.returns
returns c = on_ok_weaker c.add_key.result (λ more. adds_large c.args.text.now c.args.self.now _ c.requires refl more refl) c.add_key.ensures
