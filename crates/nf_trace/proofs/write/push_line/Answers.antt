use Rattle.std.proofs.Common.{◌++◌, string_bytes, decimal, codes, ◌∙◌, ap}
use Rattle.nf_trace.specs.Task.{hash_of, name_of}
use Rattle.nf_trace.specs.Status.{status_name, exit_column}
use Rattle.nf_trace.proofs.Tasks.{line_pushed}
use Rattle.nf_trace.proofs.write.push_line.Goals as goal

pub returns : goal.returns
returns c =
    let out = string_bytes c.args.out.now in
    let task = c.args.task.now in
    let attempt = c.args.attempt.now in
    line_pushed (string_bytes c.args.out.now) (decimal c.args.id) (codes "\t") (hash_of attempt.key.0) (name_of task.name attempt.tag) (status_name task.status) (exit_column task.status) (codes "\n") _ _ _ _ _ _ _ _ _ _
    (c.in_ok-push_str.ensures.bytes ∙ ap (λ x. string_bytes c.args.out.now ++ x) c.format.ensures.text)
    c.in_ok-push_str-2.ensures.bytes c.in_ok-push_hash.ensures c.in_ok-push_str-3.ensures.bytes c.in_ok-push_name.ensures c.in_ok-push_str-4.ensures.bytes
    (c.in_ok-push_str-5.ensures.bytes ∙ ap (λ x. string_bytes c.push_str-4.new.self ++ x) c.name.ensures)
    c.in_ok-push_str-6.ensures.bytes c.in_ok-push_exit.ensures c.in_ok-push_str-7.ensures.bytes
