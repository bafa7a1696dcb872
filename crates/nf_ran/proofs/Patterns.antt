-- What a built pattern holds may go to another thread, and be shared by threads.
use denote.Param.Send.{IsSend, IsSync, sendable}
use Rattle.std.proofs.Crossing.{crosses}
use Rattle.std.proofs.MapsCrossing as maps
use Rattle.regex_hir.specs.contracts.hir.Hir as Hir
use Rattle.regex_hir.proofs.hir.Hir.TheLaws.TheKnot as knot
use Rattle.regex_literal.proofs.prefilter.Prefilter.TheSendSync as prefilter
use Rattle.regex_literal.proofs.ladder.Ladder.TheSendSync as ladder
use Rattle.regex_literal.proofs.caseless.Caseless.TheSendSync as caseless
use Rattle.regex_literal.proofs.byte_set.ByteSet.TheSendSync as byte_set
use Rattle.regex_extract.proofs.frames.Frame.TheSendSync as frame
use Rattle.regex_dfa.proofs.dfa.Dfa.TheSendSync as dfa
use Rattle.regex_syntax.proofs.Config.TheSendSync as config
use Rattle.regex_meta.specs.contracts.plan.Plan as Plan
use Rattle.regex_meta.specs.contracts.plan.Plans as Plans
use Rattle.regex_meta.specs.contracts.signs.Signs as Signs
use Rattle.regex_meta.specs.contracts.program.Program as Program
use Rattle.regex.specs.contracts.pattern.Pattern as Pattern
use Rattle.regex.specs.contracts.string.regex.Regex as Regex
use Rattle.nf_pattern.specs.contracts.whole.WholeRe as WholeRe

-- ---- sharing

hir : IsSync (Hir.the_field).row
hir = knot.sync-Hir (search (crosses, sendable) depth 40) (search (crosses, sendable) depth 40) (search (crosses, sendable) depth 40) (search (crosses, sendable) depth 40) (search (crosses, sendable) depth 40) (search (crosses, sendable) depth 40) (search (crosses, sendable) depth 40) (search (crosses, sendable) depth 40)

plan : IsSync (Plan.the_field).row
plan = search (hir, prefilter.the_sync, ladder.the_field_sync, frame.the_field_sync, crosses, sendable) depth 40

plans : IsSync (Plans.the_field).row
plans = search (plan, crosses, sendable) depth 40

signs : IsSync (Signs.the_field).row
signs = search (hir, caseless.the_sync, crosses, sendable) depth 40

program : IsSync (Program.the_field).row
program = search (hir, plans, signs, dfa.the_field_sync, byte_set.the_sync, crosses, sendable) depth 40

pattern : IsSync (Pattern.the_field).row
pattern = search (program, config.the_field_sync, maps.String-sync, crosses, sendable) depth 40

regex : IsSync (Regex.the_field).row
regex = search (pattern, crosses, sendable) depth 40

pub whole : IsSync WholeRe.the_row
whole = search (regex, crosses, sendable) depth 40

-- ---- going

hir_send : IsSend (Hir.the_field).row
hir_send = knot.send-Hir (search (crosses, sendable) depth 40) (search (crosses, sendable) depth 40) (search (crosses, sendable) depth 40) (search (crosses, sendable) depth 40) (search (crosses, sendable) depth 40) (search (crosses, sendable) depth 40) (search (crosses, sendable) depth 40) (search (crosses, sendable) depth 40)

plan_send : IsSend (Plan.the_field).row
plan_send = search (hir_send, prefilter.the_send, ladder.the_field_send, frame.the_field_send, crosses, sendable) depth 40

plans_send : IsSend (Plans.the_field).row
plans_send = search (plan_send, crosses, sendable) depth 40

signs_send : IsSend (Signs.the_field).row
signs_send = search (hir_send, caseless.the_send, crosses, sendable) depth 40

program_send : IsSend (Program.the_field).row
program_send = search (hir_send, plans_send, signs_send, dfa.the_field_send, byte_set.the_send, crosses, sendable) depth 40

pattern_send : IsSend (Pattern.the_field).row
pattern_send = search (program_send, config.the_field_send, maps.String-send, crosses, sendable) depth 40

regex_send : IsSend (Regex.the_field).row
regex_send = search (pattern_send, crosses, sendable) depth 40

pub whole_send : IsSend WholeRe.the_row
whole_send = search (regex_send, crosses, sendable) depth 40
