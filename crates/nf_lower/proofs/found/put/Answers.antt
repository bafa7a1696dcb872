use Rattle.std.proofs.Common.{◌≡◌, string_bytes, rules}
use Rattle.nf_callees.proofs.Puts.{puts_of}
use Rattle.nf_found.specs.All.{found_of}
use Rattle.nf_lower.proofs.Finding.{put_before}
use Rattle.nf_lower.proofs.found.put.Goals as goal

pub returns : goal.returns
returns c later has =
    let one = c.args.one.now in
    let same : string_bytes c.in_ok-path.path ≡ one.path = search rules in
    let files : c.as_slice.result.now ≡ one.files.items = search rules in
    put_before c.args.table.now.entries c.insert.new.self.entries (found_of one) c.as_slice.result later (puts_of c.args.table.now c.insert.new.self c.in_ok-path.path one.path c.as_slice.result same c.in_ok-insert.ensures.updates) files has
