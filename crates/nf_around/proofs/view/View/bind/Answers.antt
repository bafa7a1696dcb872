use Rattle.std.proofs.Common.{◌≡◌, ◌∙◌, true, sym, subst, rules}
use Rattle.nf_value.specs.View.{plain_of}
use Rattle.nf_builtins.specs.Natives.{is_among}
use Rattle.nf_placed.specs.Scope.{names_in_scope, value_in}
use Rattle.nf_eval.specs.Memory.{IsChangedBy, env_of, with_name}
use Rattle.nf_meaning.specs.Closures.{env_for}
use Rattle.nf_known.specs.Reading.{reading_of}
use Rattle.nf_around.proofs.Views.{bound_before, bound_now}
use Rattle.nf_around.proofs.view.View.bind.Goals as goal

pub returns-then-has_name : goal.returns-then-has_name
returns-then-has_name c n a s h ns k =
    let same : c.as_str.result.now ≡ c.args.name.now = search rules in
    bound_before n.titles n.answer (env_for (reading_of c.args.self.now.reading) a s) ns c.args.name.now c.args.env.now
    (subst (λ m. is_among m (names_in_scope (env_of c.args.env.now n.titles n.answer)) ≡ true) same (sym (c.has_name.ensures n.titles n.answer) ∙ c.if-has_name.true)) k

pub returns : goal.returns
returns c n a s h ns k =
    let v = plain_of c.in_ok-value.value in
    let all = env_for (reading_of c.args.self.now.reading) a s in
    let read : c.as_str-2.result.now ≡ c.args.name.now = search rules in
    let same : c.in_ok-copy.field-0 ≡ c.args.name.now = search rules in
    bound_now n.titles n.answer all ns c.args.name.now v c.args.env.now c.define.new.self (subst (λ m. value_in m all.captured ≡ v) read (c.in_ok-value.ensures n a s h))
    (subst (λ m. IsChangedBy (with_name m v) c.args.env.now c.define.new.self) same c.in_ok-define.ensures) k
