-- How a run of a job ends: what stays, and what its report is of.
use Rattle.std.proofs.Common.{◌≡◌, ℕ, List, Bool, true, All, Option, None, Some, option_map, inl, inr, codes, refl, sym, ap, ◌∙◌, subst}
use Rattle.std.specs.Prelude.{ℤ, IfSome}
use Rattle.std.specs.Fmt.{signed_decimal}
use Rattle.nf_job.specs.declared.parts.JobParts.{JobParts}
use Rattle.nf_job.specs.declared.report.Captured.{Captured}
use Rattle.nf_job.specs.declared.report.Report.{Report}
use Rattle.nf_host.specs.Files.{Files, KeepsOthers, put}
use Rattle.nf_host.specs.Folders.{path_in, folder_of, KeepsOutside}
use Rattle.nf_host.specs.Starts.{Start, start_of, and_start}
use Rattle.nf_host.specs.Told.{Both}
use Rattle.nf_host.specs.Whole.{IsWhole}
use Rattle.nf_host.specs.declared.whole.Whole.{Whole}
use Rattle.nf_lane.specs.declared.child.TheConstants.{OUTPUT_LIMIT}
use Rattle.nf_host.proofs.Copying.{both_same, both_then, put_here}
use Rattle.nf_host.proofs.Paths.{same_name}
use Rattle.nf_shell.specs.Folder.{IsReadyFor}
use Rattle.nf_shell.specs.Outputs.{AreFoundIn, AreStored, IsOutputOf, scratch_in}
use Rattle.nf_shell.specs.Places.{IsApart, KeepsOrStores, StoresBeside, StoresOutside, job_dir, task_dir}
use Rattle.nf_shell.specs.Runs.{EndsIn, IsReportIn, IsReportOf, StartsAtMostOne, StartsIn, StartsOne}
use Rattle.nf_shell.proofs.Apart.{apart}
use Rattle.nf_shell.proofs.Listed.{Shows, all_found, folder_shows, inside_stays, not_status}
use Rattle.nf_shell.proofs.Stores.{outside_all, outside_kept, outside_stores, outside_then, keeps_others, weaken}

-- ---- what stays

pub child_kept : (o0 o1 : Option Files) (work dir : List ℕ) → Both o0 o1 (KeepsOutside dir) → Both o0 o1 (StoresOutside work dir)
child_kept o0 o1 work dir k = weaken o0 o1 (KeepsOutside dir) (StoresOutside work dir) (outside_kept work dir) k

pub then_kept : (o0 o1 o2 : Option Files) (work dir : List ℕ) → Both o0 o1 (StoresOutside work dir) → Both o1 o2 (StoresOutside work dir) → Both o0 o2 (StoresOutside work dir)
then_kept o0 o1 o2 work dir a b = both_then o0 o1 o2 (StoresOutside work dir) (StoresOutside work dir) (StoresOutside work dir) (outside_then work dir) a b

written_kept : (o0 o1 : Option Files) (work dir name : List ℕ) → Both o0 o1 (KeepsOthers (path_in dir name)) → Both o0 o1 (StoresOutside work dir)
written_kept o0 o1 work dir name k =
    weaken o0 o1 (KeepsOthers (path_in dir name)) (StoresOutside work dir) (λ f g h. outside_stores work dir name f g (keeps_others work (path_in dir name) f g h)) k

stored_kept : (o0 o1 : Option Files) (work dir : List ℕ) → Both o0 o1 (KeepsOrStores work (scratch_in dir)) → Both o0 o1 (StoresOutside work dir)
stored_kept o0 o1 work dir k =
    weaken o0 o1 (KeepsOrStores work (scratch_in dir)) (StoresOutside work dir) (outside_stores work dir (codes ".command.new")) k

-- after the child ended and its exit status was written
pub exit_kept : (o0 o1 o2 : Option Files) (work dir : List ℕ) → Both o0 o1 (KeepsOutside dir) → Both o1 o2 (KeepsOthers (path_in dir (codes ".exitcode"))) → Both o0 o2 (StoresOutside work dir)
exit_kept o0 o1 o2 work dir a b = then_kept o0 o1 o2 work dir (child_kept o0 o1 work dir a) (written_kept o1 o2 work dir (codes ".exitcode") b)

-- after its standard output was read
pub read_kept : (o0 o1 o2 o3 : Option Files) (work dir : List ℕ) → Both o0 o1 (KeepsOutside dir) → Both o1 o2 (KeepsOthers (path_in dir (codes ".exitcode"))) → o3 ≡ o2 → Both o0 o3 (StoresOutside work dir)
read_kept o0 o1 o2 o3 work dir a b same = subst (λ (o : Option Files). Both o0 o (StoresOutside work dir)) (sym same) (exit_kept o0 o1 o2 work dir a b)

-- after its outputs were stored
pub all_kept : (o0 o1 o2 o3 o4 : Option Files) (work dir : List ℕ) → Both o0 o1 (KeepsOutside dir) → Both o1 o2 (KeepsOthers (path_in dir (codes ".exitcode"))) → o3 ≡ o2 → Both o3 o4 (KeepsOrStores work (scratch_in dir)) → Both o0 o4 (StoresOutside work dir)
all_kept o0 o1 o2 o3 o4 work dir a b same k = then_kept o0 o3 o4 work dir (read_kept o0 o1 o2 o3 work dir a b same) (stored_kept o3 o4 work dir k)

-- ---- the standard output

pub captured_told : (told : Option Files) (path at : List ℕ) (wants : Bool) (output : Whole) (r : Captured) → wants ≡ true → path ≡ at → ((file : Option (List ℕ)) → IsWhole file OUTPUT_LIMIT output → IsOutputOf true file r) → IfSome told (λ f. IsWhole (f path) OUTPUT_LIMIT output) → IfSome told (λ f. IsOutputOf wants (f at) r)
captured_told None path at wants output r wanted same step h = tt
captured_told (Some f) path at wants output r wanted same step h =
    subst (λ (w : Bool). IsOutputOf w (f at) r) (sym wanted) (subst (λ (p : List ℕ). IsOutputOf true (f p) r) same (step (f path) h))

-- ---- the report

-- a folder's files after its exit status was written are the same, but for names with a dot in front
status_shows : (f : Files) (dir status : List ℕ) → Shows (folder_of (put f (path_in dir (codes ".exitcode")) status) dir) (folder_of f dir)
status_shows f dir status name s = sym (rw (same_name dir name (codes ".exitcode") ∙ not_status name s) refl)

output_stays : (f : Files) (dir status : List ℕ) → put f (path_in dir (codes ".exitcode")) status (path_in dir (codes ".command.out")) ≡ f (path_in dir (codes ".command.out"))
output_stays f dir status = rw (same_name dir (codes ".command.out") (codes ".exitcode")) refl

-- what was found after it was written is of what the child left
pub left_report : (o1 o2 o3 : Option Files) (dir status : List ℕ) (p : JobParts) (r : Report) → o2 ≡ option_map (λ f. put f (path_in dir (codes ".exitcode")) status) o1 → o3 ≡ o2
    → IfSome o2 (λ f. IsOutputOf p.wants_stdout (f (path_in dir (codes ".command.out"))) r.captured) → IfSome o3 (λ f. AreFoundIn f dir p r.found) → IfSome o1 (λ f. IsReportOf p (folder_of f dir) r)
left_report o1 o2 o3 dir status p r e same said found =
    at o1 (subst (λ (o : Option Files). IfSome o (λ f. IsOutputOf p.wants_stdout (f (path_in dir (codes ".command.out"))) r.captured)) e said) (subst (λ (o : Option Files). IfSome o (λ f. AreFoundIn f dir p r.found)) (same ∙ e) found)
  where
    at : (o : Option Files) → IfSome (option_map (λ f. put f (path_in dir (codes ".exitcode")) status) o) (λ f. IsOutputOf p.wants_stdout (f (path_in dir (codes ".command.out"))) r.captured)
        → IfSome (option_map (λ f. put f (path_in dir (codes ".exitcode")) status) o) (λ f. AreFoundIn f dir p r.found) → IfSome o (λ f. IsReportOf p (folder_of f dir) r)
    at None s2 f2 = tt
    at (Some f) s2 f2 = record {
      captured = subst (λ (o : Option (List ℕ)). IsOutputOf p.wants_stdout o r.captured) (output_stays f dir status) s2;
      found = all_found (put f (path_in dir (codes ".exitcode")) status) dir p r.found (folder_of f dir) (status_shows f dir status) f2;
    }

pub report_told : (o1 o2 o3 o4 : Option Files) (work dir : List ℕ) (p : JobParts) (r : Report) → IsApart work dir
    → o2 ≡ option_map (λ f. put f (path_in dir (codes ".exitcode")) (signed_decimal r.exit)) o1 → o3 ≡ o2 → IfSome o2 (λ f. IsOutputOf p.wants_stdout (f (path_in dir (codes ".command.out"))) r.captured)
    → Both o3 o4 (KeepsOrStores work (scratch_in dir)) → IfSome o3 (λ f. AreFoundIn f dir p r.found) → IfSome o4 (λ g. All (AreStored work g) r.found)
    → IfSome o4 (λ g. IsReportIn work dir p g r)
report_told o1 o2 o3 o4 work dir p r apart e same said k found stored =
    at o1 o4 (subst (λ (o : Option Files). Both o o4 (KeepsOrStores work (scratch_in dir))) (same ∙ e) k) (subst (λ (o : Option Files). IfSome o (λ f. IsOutputOf p.wants_stdout (f (path_in dir (codes ".command.out"))) r.captured)) e said)
    (subst (λ (o : Option Files). IfSome o (λ f. AreFoundIn f dir p r.found)) (same ∙ e) found) stored
  where
    at : (o q : Option Files) → Both (option_map (λ f. put f (path_in dir (codes ".exitcode")) (signed_decimal r.exit)) o) q (KeepsOrStores work (scratch_in dir)) → IfSome (option_map (λ f. put f (path_in dir (codes ".exitcode")) (signed_decimal r.exit)) o) (λ f. IsOutputOf p.wants_stdout (f (path_in dir (codes ".command.out"))) r.captured)
        → IfSome (option_map (λ f. put f (path_in dir (codes ".exitcode")) (signed_decimal r.exit)) o) (λ f. AreFoundIn f dir p r.found) → IfSome q (λ g. All (AreStored work g) r.found) → IfSome q (λ g. IsReportIn work dir p g r)
    at o None k2 s2 f2 t2 = tt
    at None (Some g) k2 s2 f2 t2 = absurd k2
    at (Some f) (Some g) k2 s2 f2 t2 =
        let written = put f (path_in dir (codes ".exitcode")) (signed_decimal r.exit) in record {
          exit = inside_stays work dir (codes ".exitcode") written g apart k2 refl ∙ put_here f (path_in dir (codes ".exitcode")) (signed_decimal r.exit);
          of_folder = record {
            captured = subst (λ (o : Option (List ℕ)). IsOutputOf p.wants_stdout o r.captured) (sym (inside_stays work dir (codes ".command.out") written g apart k2 refl)) s2;
            found = all_found written dir p r.found (folder_of g dir) (folder_shows work dir written g apart k2) f2;
          };
          stored = t2;
        }

-- ---- the start

-- a child that ended, whatever came then
pub started_in : (o0 o1 : Option Files) (dir : List ℕ) (z : ℤ) (s0 s1 s2 : Option (List Start)) → s2 ≡ s1 → Both o0 o1 (λ f g. s1 ≡ and_start s0 (start_of f g dir z)) → IfSome o0 (λ f. StartsIn dir f s0 s2)
started_in None o1 dir z s0 s1 s2 e h = tt
started_in (Some f) None dir z s0 s1 s2 e h = absurd h
started_in (Some f) (Some g) dir z s0 s1 s2 e h = inr (g, z, e ∙ h)

-- no child
pub none_in : (o0 : Option Files) (dir : List ℕ) (s0 s1 : Option (List Start)) → s1 ≡ s0 → IfSome o0 (λ f. StartsIn dir f s0 s1)
none_in None dir s0 s1 e = tt
none_in (Some f) dir s0 s1 e = inl e

-- a child whose report was read
pub ended_in : (o0 o1 : Option Files) (dir : List ℕ) (p : JobParts) (r : Report) (z : ℤ) (s0 s1 s2 : Option (List Start)) → r.exit ≡ z → s2 ≡ s1 → Both o0 o1 (λ f g. s1 ≡ and_start s0 (start_of f g dir z)) → IfSome o1 (λ g. IsReportOf p (folder_of g dir) r) → IfSome o0 (λ f. EndsIn dir p f r s0 s2)
ended_in None o1 dir p r z s0 s1 s2 is e h report = tt
ended_in (Some f) None dir p r z s0 s1 s2 is e h report = absurd h
ended_in (Some f) (Some g) dir p r z s0 s1 s2 is e h report = (g, e ∙ h ∙ ap (λ (v : ℤ). and_start s0 (start_of f g dir v)) (sym is), report)

-- the same of a job's own folder, which was ready
pub at_most_one : (o0 o1 : Option Files) (work dir : List ℕ) (p : JobParts) (s0 s1 s2 : Option (List Start)) → dir ≡ task_dir work p → Both o0 o1 (KeepsOutside dir) → s1 ≡ s0 → IfSome o1 (λ g. IsReadyFor p (folder_of g dir)) → IfSome o1 (λ g. StartsIn dir g s1 s2) → IfSome o0 (λ _. StartsAtMostOne work p s0 s2)
at_most_one None o1 work dir p s0 s1 s2 here k e ready h = tt
at_most_one (Some f) None work dir p s0 s1 s2 here k e ready h = absurd k
at_most_one (Some f) (Some g) work dir p s0 s1 s2 here k e ready (inl same) = inl (same ∙ e)
at_most_one (Some f) (Some g) work dir p s0 s1 s2 here k e ready (inr h) =
    inr (start_of g h.0 dir h.1, h.2 ∙ ap (λ (s : Option (List Start)). and_start s (start_of g h.0 dir h.1)) e, record { folder = here; ready = ready })

pub no_one : (o0 : Option Files) (work : List ℕ) (p : JobParts) (s0 s1 : Option (List Start)) → s1 ≡ s0 → IfSome o0 (λ _. StartsAtMostOne work p s0 s1)
no_one None work p s0 s1 e = tt
no_one (Some f) work p s0 s1 e = inl e

pub just_one : (o0 o1 : Option Files) (work dir : List ℕ) (p : JobParts) (r : Report) (s0 s1 s2 : Option (List Start)) → dir ≡ task_dir work p → Both o0 o1 (KeepsOutside dir) → s1 ≡ s0 → IfSome o1 (λ g. IsReadyFor p (folder_of g dir)) → IfSome o1 (λ g. EndsIn dir p g r s1 s2) → IfSome o0 (λ _. StartsOne work p r s0 s2)
just_one None o1 work dir p r s0 s1 s2 here k e ready h = tt
just_one (Some f) None work dir p r s0 s1 s2 here k e ready h = absurd k
just_one (Some f) (Some g) work dir p r s0 s1 s2 here k e ready h =
    (start_of g h.0 dir r.exit, h.1 ∙ ap (λ (s : Option (List Start)). and_start s (start_of g h.0 dir r.exit)) e, record { own = record { folder = here; ready = ready }; status = refl; report = h.2 })

-- ---- in a job's own folder

pub apart_at : (work key dir : List ℕ) → dir ≡ job_dir work key → IsApart work dir
apart_at work key dir e = subst (IsApart work) (sym e) (λ digest name. apart work key digest name)

pub nothing_kept : (o0 : Option Files) (work : List ℕ) (p : JobParts) → Both o0 o0 (StoresBeside work p)
nothing_kept o0 work p = both_same o0 o0 (StoresBeside work p) (outside_all work (task_dir work p)) refl
