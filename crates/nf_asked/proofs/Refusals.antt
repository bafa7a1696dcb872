-- Refusals as ends, and whom they blame.
use Rattle.std.proofs.Common.{◌≡◌, ◌≤◌, ℕ, List, Option, Some, None, Result, Ok, Err, IfErr, refl, sym, subst, arith}
use Rattle.nf_host.specs.Faults.{Rose}
use Rattle.nf_ast.specs.Tree.{Tree}
use Rattle.nf_command.specs.declared.command.Command.{Command}
use Rattle.nf_ends.specs.declared.end.End.{End}
use Rattle.nf_ends.specs.declared.end.End.TheVariants as end
use Rattle.nf_request.specs.Held.{OnHostFault}
use Rattle.nf_request.specs.Words.{Asks, IsMisuse, text_for}
use Rattle.nf_request.specs.Wishes.{Params, HasParams, wish_for, IsBadFile, LacksParams}
use Rattle.nf_request.specs.Steps.{LacksText, LacksTree, IsRefused}
use Rattle.nf_asked.specs.CommandLine.{CommandLine}
use Rattle.nf_asked.specs.Request.{Request, refused, HasText, RunComes, CheckComes, Comes}
use Rattle.nf_asked.specs.Answers.{IsOnly, Refuses}
use Rattle.nf_asked.proofs.Rows.{only_absent, only_long, only_bad, only_disordered, only_fails}
use Rattle.nf_asked.proofs.Lines.{only_misused, only_no_script, only_unlexed, only_unparsed}

-- ---- what a request alone is, any request of the same work is

pub carries : {P Q : Request → Type 0} → ((r : Request) → IsOnly P r → IsOnly Q r) → (e : End) → Refuses P e → Refuses Q e
carries f end.Ok h = f _ h
carries f (end.TaskFailed p i n t) h = f _ h
carries f (end.ItemFault p v) h = f _ h
carries f (end.PublishClash v) h = f _ h
carries f (end.Charge s) h = f _ h
carries f (end.Usage u) h = f _ h
carries f end.NoScript h = f _ h
carries f (end.NoFile p) h = f _ h
carries f (end.FileTooLong p) h = f _ h
carries f (end.Lex u) h = f _ h
carries f (end.Parse u) h = f _ h
carries f (end.Lower u) h = f _ h
carries f (end.Order b) h = f _ h
carries f (end.BadParams p) h = f _ h
carries f end.HostFault h = tt
carries f end.LaneFault h = f _ h
carries f end.KeeperFault h = f _ h
carries f end.SinkFault h = f _ h
carries f (end.Damaged d u) h = f _ h
carries f end.Mem h = tt

-- ---- words

pub misuse_refused : (x : CommandLine) (e : End) → IsMisuse x.words e → Refuses (Comes x) e
misuse_refused x end.Ok h = absurd h
misuse_refused x (end.TaskFailed p i n f) h = absurd h
misuse_refused x (end.ItemFault p v) h = absurd h
misuse_refused x (end.PublishClash v) h = absurd h
misuse_refused x (end.Charge s) h = absurd h
misuse_refused x (end.Usage f) h = only_misused x h
misuse_refused x end.NoScript h = absurd h
misuse_refused x (end.NoFile p) h = absurd h
misuse_refused x (end.FileTooLong p) h = absurd h
misuse_refused x (end.Lex f) h = absurd h
misuse_refused x (end.Parse f) h = absurd h
misuse_refused x (end.Lower f) h = absurd h
misuse_refused x (end.Order b) h = absurd h
misuse_refused x (end.BadParams p) h = absurd h
misuse_refused x end.HostFault h = tt
misuse_refused x end.LaneFault h = absurd h
misuse_refused x end.KeeperFault h = absurd h
misuse_refused x end.SinkFault h = absurd h
misuse_refused x (end.Damaged d f) h = absurd h
misuse_refused x end.Mem h = tt

pub misuse_blames : (words : List (List ℕ)) (P : Type 0) (e : End) → IsMisuse words e → OnHostFault e P
misuse_blames words P end.Ok h = tt
misuse_blames words P (end.TaskFailed p i n f) h = tt
misuse_blames words P (end.ItemFault p v) h = tt
misuse_blames words P (end.PublishClash v) h = tt
misuse_blames words P (end.Charge s) h = tt
misuse_blames words P (end.Usage f) h = tt
misuse_blames words P end.NoScript h = tt
misuse_blames words P (end.NoFile p) h = tt
misuse_blames words P (end.FileTooLong p) h = tt
misuse_blames words P (end.Lex f) h = tt
misuse_blames words P (end.Parse f) h = tt
misuse_blames words P (end.Lower f) h = tt
misuse_blames words P (end.Order b) h = tt
misuse_blames words P (end.BadParams p) h = tt
misuse_blames words P end.HostFault h = absurd h
misuse_blames words P end.LaneFault h = tt
misuse_blames words P end.KeeperFault h = tt
misuse_blames words P end.SinkFault h = tt
misuse_blames words P (end.Damaged d f) h = tt
misuse_blames words P end.Mem h = tt

-- ---- texts and trees

pub text_refused : (x : CommandLine) (c : Command) → Asks x.words c → (e : End) → LacksText (text_for c x.script) e → Refuses (Comes x) e
text_refused x c asks end.Ok h = absurd h
text_refused x c asks (end.TaskFailed p i n f) h = absurd h
text_refused x c asks (end.ItemFault p v) h = absurd h
text_refused x c asks (end.PublishClash v) h = absurd h
text_refused x c asks (end.Charge s) h = absurd h
text_refused x c asks (end.Usage f) h = absurd h
text_refused x c asks end.NoScript h = only_no_script x c asks h
text_refused x c asks (end.NoFile p) h = absurd h
text_refused x c asks (end.FileTooLong p) h = absurd h
text_refused x c asks (end.Lex f) h = only_unlexed x c h.0 (record { asks = asks; there = h.1 }) h.2
text_refused x c asks (end.Parse f) h = absurd h
text_refused x c asks (end.Lower f) h = absurd h
text_refused x c asks (end.Order b) h = absurd h
text_refused x c asks (end.BadParams p) h = absurd h
text_refused x c asks end.HostFault h = tt
text_refused x c asks end.LaneFault h = absurd h
text_refused x c asks end.KeeperFault h = absurd h
text_refused x c asks end.SinkFault h = absurd h
text_refused x c asks (end.Damaged d f) h = absurd h
text_refused x c asks end.Mem h = tt

pub tree_refused : (x : CommandLine) (c : Command) (text : List ℕ) → HasText x c text → (e : End) → LacksTree text e → Refuses (Comes x) e
tree_refused x c text has end.Ok h = absurd h
tree_refused x c text has (end.TaskFailed p i n f) h = absurd h
tree_refused x c text has (end.ItemFault p v) h = absurd h
tree_refused x c text has (end.PublishClash v) h = absurd h
tree_refused x c text has (end.Charge s) h = absurd h
tree_refused x c text has (end.Usage f) h = absurd h
tree_refused x c text has end.NoScript h = absurd h
tree_refused x c text has (end.NoFile p) h = absurd h
tree_refused x c text has (end.FileTooLong p) h = absurd h
tree_refused x c text has (end.Lex f) h = only_unlexed x c text has h
tree_refused x c text has (end.Parse f) h = only_unparsed x c text has h
tree_refused x c text has (end.Lower f) h = absurd h
tree_refused x c text has (end.Order b) h = absurd h
tree_refused x c text has (end.BadParams p) h = absurd h
tree_refused x c text has end.HostFault h = absurd h
tree_refused x c text has end.LaneFault h = absurd h
tree_refused x c text has end.KeeperFault h = absurd h
tree_refused x c text has end.SinkFault h = absurd h
tree_refused x c text has (end.Damaged d f) h = absurd h
tree_refused x c text has end.Mem h = tt

pub tree_blames : (text : List ℕ) (P : Type 0) (e : End) → LacksTree text e → OnHostFault e P
tree_blames text P end.Ok h = tt
tree_blames text P (end.TaskFailed p i n f) h = tt
tree_blames text P (end.ItemFault p v) h = tt
tree_blames text P (end.PublishClash v) h = tt
tree_blames text P (end.Charge s) h = tt
tree_blames text P (end.Usage f) h = tt
tree_blames text P end.NoScript h = tt
tree_blames text P (end.NoFile p) h = tt
tree_blames text P (end.FileTooLong p) h = tt
tree_blames text P (end.Lex f) h = tt
tree_blames text P (end.Parse f) h = tt
tree_blames text P (end.Lower f) h = tt
tree_blames text P (end.Order b) h = tt
tree_blames text P (end.BadParams p) h = tt
tree_blames text P end.HostFault h = absurd h
tree_blames text P end.LaneFault h = tt
tree_blames text P end.KeeperFault h = tt
tree_blames text P end.SinkFault h = tt
tree_blames text P (end.Damaged d f) h = tt
tree_blames text P end.Mem h = tt

-- ---- parameters

file_refused : (c : Command) (t : Tree) (held : Option (List ℕ)) (path : List ℕ) → (wish_for c).params_file ≡ Some path → (e : End) → IsBadFile path held e → Refuses (RunComes c t held) e
file_refused c t held path at end.Ok h = absurd h
file_refused c t held path at (end.TaskFailed p i n f) h = absurd h
file_refused c t held path at (end.ItemFault p v) h = absurd h
file_refused c t held path at (end.PublishClash v) h = absurd h
file_refused c t held path at (end.Charge s) h = absurd h
file_refused c t held path at (end.Usage f) h = absurd h
file_refused c t held path at end.NoScript h = absurd h
file_refused c t held path at (end.NoFile p) h = subst (λ (q : List ℕ). IsOnly (RunComes c t held) (refused (end.NoFile q))) (sym h.0) (only_absent c t held at h.1)
file_refused c t held path at (end.FileTooLong p) h = subst (λ (q : List ℕ). IsOnly (RunComes c t held) (refused (end.FileTooLong q))) (sym h.0) (only_long c t held at h.1)
file_refused c t held path at (end.Lex f) h = absurd h
file_refused c t held path at (end.Parse f) h = absurd h
file_refused c t held path at (end.Lower f) h = absurd h
file_refused c t held path at (end.Order b) h = absurd h
file_refused c t held path at (end.BadParams p) h = only_bad c t held at h.1 h.2
file_refused c t held path at end.HostFault h = tt
file_refused c t held path at end.LaneFault h = absurd h
file_refused c t held path at end.KeeperFault h = absurd h
file_refused c t held path at end.SinkFault h = absurd h
file_refused c t held path at (end.Damaged d f) h = absurd h
file_refused c t held path at end.Mem h = tt

by_file : (c : Command) (t : Tree) (held file : Option (List ℕ)) → (wish_for c).params_file ≡ file → (e : End) → LacksParams file held e → Refuses (RunComes c t held) e
by_file c t held None at e h = subst (Refuses (RunComes c t held)) (sym h) tt
by_file c t held (Some path) at e h = file_refused c t held path at e h

pub params_refused : (c : Command) (t : Tree) (held : Option (List ℕ)) → (e : End) → LacksParams (wish_for c).params_file held e → Refuses (RunComes c t held) e
params_refused c t held e h = by_file c t held (wish_for c).params_file refl e h

-- ---- the rules of order

pub order_refused : (c : Command) (t : Tree) (held : Option (List ℕ)) (ps : Params) → HasParams (wish_for c) held ps → (e : End) → IsRefused t e → Refuses (RunComes c t held) e
order_refused c t held ps has end.Ok h = absurd h
order_refused c t held ps has (end.TaskFailed p i n f) h = absurd h
order_refused c t held ps has (end.ItemFault p v) h = absurd h
order_refused c t held ps has (end.PublishClash v) h = absurd h
order_refused c t held ps has (end.Charge s) h = absurd h
order_refused c t held ps has (end.Usage f) h = absurd h
order_refused c t held ps has end.NoScript h = absurd h
order_refused c t held ps has (end.NoFile p) h = absurd h
order_refused c t held ps has (end.FileTooLong p) h = absurd h
order_refused c t held ps has (end.Lex f) h = absurd h
order_refused c t held ps has (end.Parse f) h = absurd h
order_refused c t held ps has (end.Lower f) h = absurd h
order_refused c t held ps has (end.Order b) h = only_disordered c t held has h
order_refused c t held ps has (end.BadParams p) h = absurd h
order_refused c t held ps has end.HostFault h = absurd h
order_refused c t held ps has end.LaneFault h = absurd h
order_refused c t held ps has end.KeeperFault h = absurd h
order_refused c t held ps has end.SinkFault h = absurd h
order_refused c t held ps has (end.Damaged d f) h = absurd h
order_refused c t held ps has end.Mem h = tt

pub check_refused : (t : Tree) (e : End) → IsRefused t e → Refuses (CheckComes t) e
check_refused t end.Ok h = absurd h
check_refused t (end.TaskFailed p i n f) h = absurd h
check_refused t (end.ItemFault p v) h = absurd h
check_refused t (end.PublishClash v) h = absurd h
check_refused t (end.Charge s) h = absurd h
check_refused t (end.Usage f) h = absurd h
check_refused t end.NoScript h = absurd h
check_refused t (end.NoFile p) h = absurd h
check_refused t (end.FileTooLong p) h = absurd h
check_refused t (end.Lex f) h = absurd h
check_refused t (end.Parse f) h = absurd h
check_refused t (end.Lower f) h = absurd h
check_refused t (end.Order b) h = only_fails h
check_refused t (end.BadParams p) h = absurd h
check_refused t end.HostFault h = absurd h
check_refused t end.LaneFault h = absurd h
check_refused t end.KeeperFault h = absurd h
check_refused t end.SinkFault h = absurd h
check_refused t (end.Damaged d f) h = absurd h
check_refused t end.Mem h = tt

pub order_blames : (t : Tree) (P : Type 0) (e : End) → IsRefused t e → OnHostFault e P
order_blames t P end.Ok h = tt
order_blames t P (end.TaskFailed p i n f) h = tt
order_blames t P (end.ItemFault p v) h = tt
order_blames t P (end.PublishClash v) h = tt
order_blames t P (end.Charge s) h = tt
order_blames t P (end.Usage f) h = tt
order_blames t P end.NoScript h = tt
order_blames t P (end.NoFile p) h = tt
order_blames t P (end.FileTooLong p) h = tt
order_blames t P (end.Lex f) h = tt
order_blames t P (end.Parse f) h = tt
order_blames t P (end.Lower f) h = tt
order_blames t P (end.Order b) h = tt
order_blames t P (end.BadParams p) h = tt
order_blames t P end.HostFault h = absurd h
order_blames t P end.LaneFault h = tt
order_blames t P end.KeeperFault h = tt
order_blames t P end.SinkFault h = tt
order_blames t P (end.Damaged d f) h = tt
order_blames t P end.Mem h = tt

-- ---- counts of failures

rose_before : (a b d : ℕ) → a ≤ b → Rose b d → Rose a d
rose_before a b d le h = omega arith

blames_on : {P Q : Type 0} → (P → Q) → (e : End) → OnHostFault e P → OnHostFault e Q
blames_on f end.Ok h = tt
blames_on f (end.TaskFailed p i n t) h = tt
blames_on f (end.ItemFault p v) h = tt
blames_on f (end.PublishClash v) h = tt
blames_on f (end.Charge s) h = tt
blames_on f (end.Usage u) h = tt
blames_on f end.NoScript h = tt
blames_on f (end.NoFile p) h = tt
blames_on f (end.FileTooLong p) h = tt
blames_on f (end.Lex u) h = tt
blames_on f (end.Parse u) h = tt
blames_on f (end.Lower u) h = tt
blames_on f (end.Order b) h = tt
blames_on f (end.BadParams p) h = tt
blames_on f end.HostFault h = f h
blames_on f end.LaneFault h = tt
blames_on f end.KeeperFault h = tt
blames_on f end.SinkFault h = tt
blames_on f (end.Damaged d u) h = tt
blames_on f end.Mem h = tt

-- a host that failed later failed
pub later_blames : {T : Type 0} (a b d : ℕ) (r : Result T End) → a ≤ b → IfErr r (λ e. OnHostFault e (Rose b d)) → IfErr r (λ e. OnHostFault e (Rose a d))
later_blames a b d (Ok x) le h = tt
later_blames a b d (Err e) le h = blames_on (rose_before a b d le) e h
