use Rattle.std.proofs.Common.{◌∙◌, subst}
use Rattle.nf_lexer.specs.Tokens.{IsTokensOf, Refuses}
use Rattle.nf_ast.specs.Tops.{view_script}
use Rattle.nf_printer.specs.Tops.{canonical}
use Rattle.fmt_laws.proofs.Reading.{spelled_again, lex_limit, read_of}
use Rattle.fmt_laws.proofs.again.read_again.Goals as goal

pub read-requires : goal.read-requires
read-requires c =
    let tree = view_script c.args.script.now in
    let lexed : IsTokensOf (canonical tree) c.in-Ok.found = subst (λ z. IsTokensOf z c.in-Ok.found) (c.as_slice.ensures.value ∙ c.in_ok-text.ensures) c.in-Ok.ensures.gives in
    let told = spelled_again c.one_list.ensures tree c.requires.spelled c.in-Ok.found lexed in
    record { spelled = (told.tree, told.reads) }

pub returns-in-Ok : goal.returns-in-Ok
returns-in-Ok c =
    let tree = view_script c.args.script.now in
    let lexed : IsTokensOf (canonical tree) c.in-Ok.found = subst (λ z. IsTokensOf z c.in-Ok.found) (c.as_slice.ensures.value ∙ c.in_ok-text.ensures) c.in-Ok.ensures.gives in
    let told = spelled_again c.one_list.ensures tree c.requires.spelled c.in-Ok.found lexed in
    record { again = read_of c.read.result tree c.in-Ok.found c.read.ensures.again lexed told }

pub not_lexed-requires : goal.not_lexed-requires
not_lexed-requires c =
    let tree = view_script c.args.script.now in
    let refuses : Refuses (canonical tree) c.in-Err.fault = subst (λ z. Refuses z c.in-Err.fault) (c.as_slice.ensures.value ∙ c.in_ok-text.ensures) c.in-Err.ensures.gives in
    record { limit = lex_limit c.never_both.ensures tree c.requires.spelled c.in-Err.fault refuses }
