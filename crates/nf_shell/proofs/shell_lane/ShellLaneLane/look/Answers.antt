use Rattle.std.proofs.Common.{None, Some}
use Rattle.nf_shell.proofs.Looking.{all_in, look_told, one_out}
use Rattle.nf_shell.proofs.shell_lane.ShellLaneLane.look.Goals as goal

pub returns-in-Some-clause-looked : goal.returns-in-Some-clause-looked
returns-in-Some-clause-looked g c =
    let told = g.H.Host.files c.args.self.now.host in
    let work = c.args.self.now.work in
    let found = c.args.report.now.found in
    one_out told work found c.in-Some.name (look_told told c.as_str-work.result.now work c.items.result.now found c.in_ok-name.field-0 (Some c.in-Some.name) c.as_str-work.ensures c.items.ensures c.in-Some.is c.in_ok-name.ensures.content)

pub returns-in_ok-of-in-None-clause-looked : goal.returns-in_ok-of-in-None-clause-looked
returns-in_ok-of-in-None-clause-looked g c =
    let told = g.H.Host.files c.args.self.now.host in
    let work = c.args.self.now.work in
    let found = c.args.report.now.found in
    all_in told work found (look_told told c.as_str-work.result.now work c.items.result.now found c.in_ok-name.field-0 None c.as_str-work.ensures c.items.ensures c.in-None.is c.in_ok-name.ensures.content)
