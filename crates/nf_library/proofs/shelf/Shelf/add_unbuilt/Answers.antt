use Rattle.nf_library.proofs.Shelved.{fault_large, fault_none, known_none}
use Rattle.nf_library.proofs.shelf.Shelf.add_unbuilt.Goals as goal

pub returns-in-NoPattern : goal.returns-in-NoPattern
returns-in-NoPattern c = known_none c.args.self.now c.args.text.now (fault_none c.args.text.now c.args.fault c.requires c.in-NoPattern.is)

pub add_large-requires : goal.add_large-requires
add_large-requires c = fault_large c.args.text.now c.args.fault c.requires c.in-TooLarge.is
