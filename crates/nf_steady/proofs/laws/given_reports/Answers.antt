use Rattle.nf_steady.proofs.Words.{given_reports}
use Rattle.nf_steady.proofs.laws.given_reports.Goals as goal

pub returns : goal.returns
returns c = given_reports
