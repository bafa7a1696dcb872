use Rattle.std.proofs.Common.{◌≡◌, ◌-◌, ◌++◌, ℕ, List, length, string_bytes, OnOk, Some, sym, subst}
use Rattle.std.specs.Prelude.{slice_get}
use Rattle.nf_trace.specs.declared.task.Attempt.{Attempt}
use Rattle.nf_trace.proofs.Tasks.{one_line}
use Rattle.nf_trace.proofs.write.push_task.Goals as goal

pub returns-in-Some : goal.returns-in-Some
returns-in-Some c =
    let task = c.args.task.now in
    let a = c.in-Some.attempt.now in
    let last : Some a ≡ slice_get task.attempts (length task.attempts - 1) = subst (λ (l : List Attempt). Some a ≡ slice_get l (length l - 1)) c.items.ensures c.in-Some.ensures.value in
    subst (λ (t : List ℕ). OnOk c.push_line.result (string_bytes c.push_line.new.out ≡ string_bytes c.args.out.now ++ t)) (sym (one_line c.args.id task.name task.attempts task.status a last)) c.push_line.ensures
