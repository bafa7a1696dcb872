use Rattle.std.specs.Str.{chars}
use Rattle.nf_paths.proofs.Components.{parts, folder, falls}
use Rattle.nf_paths.proofs.paths.first_folder.Goals as goal

pub returns-clause-components : goal.returns-clause-components
returns-clause-components c = parts (chars c.args.path.now) c.parted.result c.parted.ensures

pub returns-clause-folder : goal.returns-clause-folder
returns-clause-folder c = folder (chars c.args.path.now) c.parted.result c.parted.ensures

pub returns-clause-shorter : goal.returns-clause-shorter
returns-clause-shorter c = falls (chars c.args.path.now) c.parted.result c.parted.ensures
