use Rattle.nf_taken.proofs.Rows as rows
use Rattle.nf_taken.proofs.laws.inputs_fit.Goals as goal

pub returns : goal.returns
returns c = λ k r n h t. rows.inputs_fit k r h n t
