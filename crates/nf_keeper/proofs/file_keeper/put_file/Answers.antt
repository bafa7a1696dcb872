use Rattle.std.proofs.Common.{◌≡◌, ◌∙◌, sym, ap, le-leb, length}
use Rattle.nf_keeper.specs.declared.file_keeper.TheConstants.{RECORD_LIMIT}
use Rattle.nf_keeper.specs.FileKeeper.{HasPut, MayHavePut}
use Rattle.nf_keeper.specs.Held.{Both}
use Rattle.nf_keeper.proofs.Records.{Writes, if_err, ok_then, not_written, placed_at, renamed, maybe_renamed, written_at}
use Rattle.nf_keeper.proofs.file_keeper.put_file.Goals as goal

pub returns-in_err-write_file-clause-err : goal.returns-in_err-write_file-clause-err
returns-in_err-write_file-clause-err g c =
    if_err _ _ (not_written _ _ _ c.args.folder.now c.args.key.now c.args.bytes.now c.as_str.result.now (c.as_str.ensures.value ∙ c.in_ok-scratch.ensures) c.in_ok-make_dir.ensures.same
    c.in_err-write_file.ensures.others)

pub returns-clause-ok : goal.returns-clause-ok
returns-clause-ok g c =
    let before = g.H.Host.files c.args.host.now in
    let between = g.H.Host.files c.write_file.new.host in
    let after = g.H.Host.files c.rename.new.self in
    let folder = c.args.folder.now in
    let key = c.args.key.now in
    let bytes = c.args.bytes.now in
    let from = c.as_str-2.result.now in
    let to = c.as_str-3.result.now in
    let writes : Writes folder key bytes before between from to = record {
      key_is = c.in_ok-path.ensures.bytes;
      fits = le-leb (length bytes) RECORD_LIMIT c.requires;
      scratch_is = c.as_str-2.ensures.value ∙ c.in_ok-scratch.ensures;
      path_is = c.as_str-3.ensures.value ∙ c.in_ok-path.ensures.path;
      written_is = c.in_ok-write_file.ensures.written ∙ ap (written_at c.as_str.result.now bytes) c.in_ok-make_dir.ensures.same
          ∙ ap (λ x. written_at x bytes before) (c.as_str.ensures.value ∙ sym c.as_str-2.ensures.value);
    } in
    ok_then c.rename.result (after ≡ placed_at from to between) (Both before after (HasPut folder key bytes)) (renamed folder key bytes before between after from to writes) c.rename.ensures.renamed

pub returns-clause-err : goal.returns-clause-err
returns-clause-err g c =
    let before = g.H.Host.files c.args.host.now in
    let between = g.H.Host.files c.write_file.new.host in
    let after = g.H.Host.files c.rename.new.self in
    let folder = c.args.folder.now in
    let key = c.args.key.now in
    let bytes = c.args.bytes.now in
    let from = c.as_str-2.result.now in
    let to = c.as_str-3.result.now in
    let writes : Writes folder key bytes before between from to = record {
      key_is = c.in_ok-path.ensures.bytes;
      fits = le-leb (length bytes) RECORD_LIMIT c.requires;
      scratch_is = c.as_str-2.ensures.value ∙ c.in_ok-scratch.ensures;
      path_is = c.as_str-3.ensures.value ∙ c.in_ok-path.ensures.path;
      written_is = c.in_ok-write_file.ensures.written ∙ ap (written_at c.as_str.result.now bytes) c.in_ok-make_dir.ensures.same
          ∙ ap (λ x. written_at x bytes before) (c.as_str.ensures.value ∙ sym c.as_str-2.ensures.value);
    } in
    if_err c.rename.result (Both before after (MayHavePut folder key bytes)) (maybe_renamed folder key bytes before between after from to writes c.rename.ensures.in_one_step)
