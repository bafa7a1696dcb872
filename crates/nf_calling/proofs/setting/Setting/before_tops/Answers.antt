use Rattle.std.proofs.Common.{sym, subst, rules}
use Rattle.nf_eval.specs.declared.library.Library.{Library}
use Rattle.nf_around.specs.Around.{HasGiven}
use Rattle.nf_calling.proofs.Beginning.{has_folders, has_given}
use Rattle.nf_calling.proofs.setting.Setting.before_tops.Goals as goal

pub returns-clause-stands : goal.returns-clause-stands
returns-clause-stands g c f h =
    let x = c.args.self.now in
    let titles_of = g.N.Natives.titles in
    let answer_of = g.N.Natives.answer in
    let P : Library → Type 0 = λ l. HasGiven titles_of answer_of c.in_ok-known.known x.natives.now l f in
    let given = subst P (sym c.in_ok-library.ensures.ok) (has_given titles_of answer_of x c.args.library f h c.in_ok-known.known c.in_ok-known.ensures c.requires) in
    let folders = has_folders titles_of answer_of x c.args.library f h _ c.in_ok-folder.folder c.in_ok-launch.launch (search rules) c.in_ok-folder.ensures c.in_ok-launch.ensures in
    c.new-made.ensures.around f f.params given folders
