use Rattle.std.proofs.Common.{◌≡◌, map}
use Rattle.nf_value.specs.Plain.{plains_of}
use Rattle.nf_value.specs.View.{plain_of}
use Rattle.nf_record.specs.Parts.{all_in, files_in}
use Rattle.nf_record.proofs.Listing.{ahead, found_from}
use Rattle.nf_record.proofs.read.all_files.Given as goal

abbrev pub invariant-loop-item : goal.invariant-loop-item
invariant-loop-item l = all_in files_in (plains_of (map plain_of l.items)) ≡ ahead l.lists.items (found_from files_in l.items l.item-index)
