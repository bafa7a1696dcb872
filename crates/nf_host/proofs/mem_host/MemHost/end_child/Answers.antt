use Rattle.std.proofs.Common.{◌≡◌, Some, None, pos, codes, sym, ap, ◌∙◌, arith, rules, w32, to_z, of_z}
use Rattle.nf_host.specs.Children.{child_by, child_at, status_by, files_after}
use Rattle.nf_host.specs.Folders.{path_in}
use Rattle.nf_host.specs.MemFiles.{written}
use Rattle.nf_host.specs.MemHost.{children_of, files_of}
use Rattle.nf_host.proofs.Ends.{child_is}
use Rattle.nf_host.proofs.mem_host.MemHost.end_child.Goals as goal

pub returns-in-Some-clause-status : goal.returns-in-Some-clause-status
returns-in-Some-clause-status c =
    let is : to_z w32 (of_z w32 c.from.result) ≡ pos c.in-Some.child.now.status = search rules in
    (c.in-Some.child.now.status, omega arith, is)

pub returns-in-Some-clause-ends : goal.returns-in-Some-clause-ends
returns-in-Some-clause-ends c =
    let self = c.args.self.now in
    let dir = c.args.dir.now in
    let here : c.as_str.result.now ≡ path_in dir (codes ".command.sh") = c.as_str.ensures.value ∙ c.in_ok-path.ensures in
    let found : Some c.in-Some.child.now ≡ child_by (children_of self) (files_of self c.as_str.result.now) = first_of (search rules, cc) in
    let child : child_at (children_of self) (files_of self) dir ≡ Some c.in-Some.child.now = child_is (children_of self) (files_of self) dir c.as_str.result.now (Some c.in-Some.child.now) here found in
    let is : to_z w32 (of_z w32 c.from.result) ≡ pos c.in-Some.child.now.status = search rules in
    is ∙ sym (ap status_by child)

pub returns-in-Some-clause-writes : goal.returns-in-Some-clause-writes
returns-in-Some-clause-writes c =
    let self = c.args.self.now in
    let dir = c.args.dir.now in
    let here : c.as_str.result.now ≡ path_in dir (codes ".command.sh") = c.as_str.ensures.value ∙ c.in_ok-path.ensures in
    let found : Some c.in-Some.child.now ≡ child_by (children_of self) (files_of self c.as_str.result.now) = first_of (search rules, cc) in
    let child : child_at (children_of self) (files_of self) dir ≡ Some c.in-Some.child.now = child_is (children_of self) (files_of self) dir c.as_str.result.now (Some c.in-Some.child.now) here found in
    c.in_ok-write_all-in-Some.ensures.ok ∙ ap (written (files_of self) dir) c.deref-in-Some.ensures.value ∙ sym (ap (λ o. files_after o (files_of self) dir) child)

pub returns-clause-status : goal.returns-clause-status
returns-clause-status c =
    let is : to_z w32 (of_z w32 c.from-in-None.result) ≡ pos 127 = search rules in
    (127, omega arith, is)

pub returns-clause-ends : goal.returns-clause-ends
returns-clause-ends c =
    let self = c.args.self.now in
    let dir = c.args.dir.now in
    let here : c.as_str.result.now ≡ path_in dir (codes ".command.sh") = c.as_str.ensures.value ∙ c.in_ok-path.ensures in
    let found : None ≡ child_by (children_of self) (files_of self c.as_str.result.now) = first_of (search rules, cc) in
    let child : child_at (children_of self) (files_of self) dir ≡ None = child_is (children_of self) (files_of self) dir c.as_str.result.now (None) here found in
    let is : to_z w32 (of_z w32 c.from-in-None.result) ≡ pos 127 = search rules in
    is ∙ sym (ap status_by child)

pub returns-clause-writes : goal.returns-clause-writes
returns-clause-writes c =
    let self = c.args.self.now in
    let dir = c.args.dir.now in
    let here : c.as_str.result.now ≡ path_in dir (codes ".command.sh") = c.as_str.ensures.value ∙ c.in_ok-path.ensures in
    let found : None ≡ child_by (children_of self) (files_of self c.as_str.result.now) = first_of (search rules, cc) in
    let child : child_at (children_of self) (files_of self) dir ≡ None = child_is (children_of self) (files_of self) dir c.as_str.result.now (None) here found in
    sym (ap (λ o. files_after o (files_of self) dir) child)
