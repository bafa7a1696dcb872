use Rattle.std.proofs.Common.{◌≡◌, ◌++◌, ◌∷◌, [], refl, rules}
use Rattle.nf_eval.specs.Memory.{patterns_of}
use Rattle.nf_library.proofs.Shelved.{adds_built}
use Rattle.nf_library.proofs.shelf.Shelf.add_built.Goals as goal

pub returns : goal.returns
returns c =
    let patterns : patterns_of c.add_pattern.new.self ≡ patterns_of c.args.self.now.library ++ c.args.text.now ∷ [] = search rules in
    adds_built c.args.text.now c.args.self.now _ c.requires.pattern c.in_ok-add_pattern.ensures.functions patterns c.in_ok-add_key.ensures refl
