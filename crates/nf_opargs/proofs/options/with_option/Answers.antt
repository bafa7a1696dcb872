use Rattle.std.proofs.Common.{◌≡◌, ◌∙◌, true, sym, ap}
use Rattle.std.specs.Prelude.{if◌then◌else◌, codes, bytes_eq}
use Rattle.nf_value.specs.View.{plain_of}
use Rattle.nf_meaning.specs.Arguments.{flag_in}
use Rattle.nf_meaning.specs.Options.{key_in, with_flag}
use Rattle.nf_meaning.specs.Walk.{◌>>=◌, gives}
use Rattle.nf_opargs.proofs.options.with_option.Goals as goal

pub returns-then-eq : goal.returns-then-eq
returns-then-eq c a s =
    let n = c.args.name.now in
    let v = plain_of c.args.value.now in
    let is : bytes_eq n (codes "by") ≡ true = sym c.eq.ensures ∙ c.if-eq.true in
    ap (λ b. (if b then key_in c.args.row c.args.place v c.args.opts else (flag_in c.args.place v >>= λ f. gives (with_flag n f c.args.opts))) a s) is
    ∙ c.with_key.ensures a s
