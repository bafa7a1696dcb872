-- Sources and the paths of files in memory.
use Rattle.std.specs.Prelude.{ℕ, Bool, List}
use Rattle.nf_pattern.specs.Literal.{is_literal_path}
use Rattle.nf_paths.specs.Paths.{is_source_path}
use Rattle.nf_paths.specs.Pairs.{is_pair_path}
use Rattle.nf_meaning.specs.Sources as meaning
use Rattle.nf_opargs.specs.declared.sources.Source.{Source}
use Rattle.nf_opargs.specs.declared.sources.Source.TheVariants as source
use Rattle.nf_opargs.specs.declared.sources.PathKind.{PathKind}
use Rattle.nf_opargs.specs.declared.sources.PathKind.TheVariants as kind

abbrev pub source_of : Source → meaning.Source
source_of source.Of = meaning.of
source_of source.FromList = meaning.from_list
source_of source.Value = meaning.of_value
source_of source.Empty = meaning.of_nothing
source_of source.FromPath = meaning.from_path
source_of source.FromFilePairs = meaning.from_pairs

abbrev pub fits_kind : PathKind → List ℕ → Bool
fits_kind kind.Files cs = is_source_path cs
fits_kind kind.Pairs cs = is_pair_path cs
fits_kind kind.File cs = is_literal_path cs
