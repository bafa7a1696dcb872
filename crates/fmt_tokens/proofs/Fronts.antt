-- Two fronts of a text, read one after the other, are one front.
use Rattle.std.proofs.Common.{ℕ, List, ◌++◌, Option}
use Rattle.nf_lexer.specs.declared.fault.LexFault.{LexFault}
use Rattle.nf_lexer.specs.declared.open.Open.{Open}
use Rattle.nf_lexer.specs.Joined.{Placed}
use Rattle.nf_lexer.specs.Tokens as t
use Rattle.nf_lexer.specs.Tokens.{Reads}
use Rattle.fmt_tokens.specs.Leads.{Leads, stays, goes}

pub leads_on : {text : List ℕ} {o p q : List Open} {bs mid rest : List ℕ} {v w : List Placed} → Leads text o bs v p mid → Leads text p mid w q rest → Leads text o bs (v ++ w) q rest
leads_on stays b = b
leads_on (goes e a) b = goes e (leads_on a b)

pub leads_reads : {text : List ℕ} {o p : List Open} {bs rest : List ℕ} {v w : List Placed} {e : Option LexFault} → Leads text o bs v p rest → Reads text p rest w e → Reads text o bs (v ++ w) e
leads_reads stays b = b
leads_reads (goes e a) b = t.goes e (leads_reads a b)
