use Rattle.std.proofs.Common.{◌≡◌, ◌∙◌, List, ℕ, option_map, codes, subst}
use Rattle.nf_host.specs.Files.{put}
use Rattle.nf_host.specs.Folders.{path_in}
use Rattle.nf_host.specs.Told.{Both}
use Rattle.nf_value.specs.declared.file.FileRef.{FileRef}
use Rattle.nf_shell.specs.Folder.{EndsWith, Readies, stdin_of}
use Rattle.nf_shell.proofs.Ready.{both_outside, made_outside, prepared_told, written_outside}
use Rattle.nf_shell.proofs.folder.prepare.Goals as goal

pub returns-in_err-write_script-clause-others : goal.returns-in_err-write_script-clause-others
returns-in_err-write_script-clause-others g c =
    let old = g.H.Host.files c.args.host.now in
    let made = g.H.Host.files c.make_dir.new.self in
    written_outside old made (g.H.Host.files c.write_script.new.host) c.args.dir.now (codes ".command.sh") (made_outside old (g.H.Host.files c.clear_dir.new.self) made c.args.dir.now c.clear_dir.ensures.others c.make_dir.ensures.same) c.write_script.ensures.others

pub returns-in_err-write_in-clause-others : goal.returns-in_err-write_in-clause-others
returns-in_err-write_in-clause-others g c =
    let old = g.H.Host.files c.args.host.now in
    let made = g.H.Host.files c.make_dir.new.self in
    let script = g.H.Host.files c.write_script.new.host in
    written_outside old script (g.H.Host.files c.write_in.new.host) c.args.dir.now (codes ".command.in")
    (written_outside old made script c.args.dir.now (codes ".command.sh") (made_outside old (g.H.Host.files c.clear_dir.new.self) made c.args.dir.now c.clear_dir.ensures.others c.make_dir.ensures.same) c.write_script.ensures.others)
    c.write_in.ensures.others

pub returns-clause-others : goal.returns-clause-others
returns-clause-others g c =
    let old = g.H.Host.files c.args.host.now in
    let made = g.H.Host.files c.make_dir.new.self in
    let script = g.H.Host.files c.write_script.new.host in
    let written = g.H.Host.files c.write_in.new.host in
    both_outside old written (g.H.Host.files c.stage_all.new.host) c.args.dir.now
    (written_outside old script written c.args.dir.now (codes ".command.in")
    (written_outside old made script c.args.dir.now (codes ".command.sh") (made_outside old (g.H.Host.files c.clear_dir.new.self) made c.args.dir.now c.clear_dir.ensures.others c.make_dir.ensures.same) c.write_script.ensures.others)
    c.write_in.ensures.others)
    c.stage_all.ensures.others

pub returns-clause-ends : goal.returns-clause-ends
returns-clause-ends g c =
    let dir = c.args.dir.now in
    let parts = c.args.parts.now in
    let script = g.H.Host.files c.write_script.new.host in
    let input = g.H.Host.files c.write_in.new.host in
    let last = g.H.Host.files c.stage_all.new.host in
    let written : input ≡ option_map (λ f. put f (path_in dir (codes ".command.in")) (stdin_of parts.stdin)) script =
    subst (λ (v : List ℕ). input ≡ option_map (λ f. put f (path_in dir (codes ".command.in")) v) script) (c.as_bytes.ensures.value ∙ c.stdin_text-stdin.ensures) c.in_ok-write_in.ensures.written in
    prepared_told (g.H.Host.files c.args.host.now) (g.H.Host.files c.clear_dir.new.self) (g.H.Host.files c.make_dir.new.self) script input last c.args.work.now dir parts c.stage_all.result
    c.in_ok-clear_dir.ensures.gone c.make_dir.ensures.same c.in_ok-write_script.ensures.written written
    (subst (λ (v : List FileRef). Both input last (λ f h. EndsWith c.args.work.now h c.stage_all.result (Readies dir v f h))) c.items.ensures c.stage_all.ensures.ends)
