-- What is left to do of a call.
use Rattle.std.proofs.Common.{◌≡◌, ℕ, Ok, sym, subst, inr}
use Rattle.std.specs.declared.option.Option.{Option}
use Rattle.nf_host.specs.Files.{Files}
use Rattle.nf_tasks.specs.Memory.{Program}
use Rattle.nf_ends.specs.declared.end.End.{End}
use Rattle.nf_ends.specs.declared.end.End.TheVariants as end
use Rattle.nf_ends.specs.Writes.{IsRefusal}
use Rattle.nf_asked.specs.declared.answer.Asked.{Asked}
use Rattle.nf_asked.specs.declared.answer.Asked.TheVariants as asked
use Rattle.nf_asked.specs.declared.answer.AskedRun.{AskedRun}
use Rattle.nf_asked.specs.CommandLine.{CommandLine}
use Rattle.nf_asked.specs.Request.{Comes}
use Rattle.nf_asked.specs.Answers.{Answers, Refuses, Runs}
use Rattle.nf_command.specs.declared.command.Command.{Command}
use Rattle.nf_carried.specs.declared.work.Work.{Work}
use Rattle.nf_carried.specs.declared.work.Work.TheVariants as work
use Rattle.nf_cli.specs.Scripts.{Script}
use Rattle.nf_cli.specs.Planned.{IsPlanFor, RefusesScript, script_of}
use Rattle.nf_cli.specs.Calls.{AsksFor, Call, GivesUpAs, HasPlainNames, IsRefused, IsRunWork, IsWorkAsked, IsWorkOf, KeepsAsked, call_of, lanes_for, script_in}
use Rattle.nf_cli.proofs.Requests.{PlainNames, request_names, request_refuses}

-- ---- the host is blamed in a longer time, too

blames : (x : Script) (told : Option Files) (failed later : Type 0) (e : End) → (failed → later) → GivesUpAs x told failed e → GivesUpAs x told later e
blames x told failed later end.HostFault longer h = longer h
blames x told failed later end.Mem longer h = tt
blames x told failed later e longer h = h

run_blames : (x : Script) (told : Option Files) (failed later : Type 0) (c : Command) (w : Work) → (failed → later) → IsRunWork x told failed c w → IsRunWork x told later c w
run_blames x told failed later c (work.Write text) longer h = h
run_blames x told failed later c (work.Refuse e) longer h = blames x told failed later e longer h
run_blames x told failed later c (work.Run plan way) longer h = h

pub asked_blames : (n : Program) (told : Option Files) (failed later : Type 0) (a : Asked) (w : Work) (queue : ℕ) → (failed → later)
    → IsWorkAsked n told failed a w queue → IsWorkAsked n told later a w queue
asked_blames n told failed later (asked.Write text) w queue longer h = h
asked_blames n told failed later (asked.Run run) w queue longer h = (run_blames (script_of n run) told failed later run.command w longer h.0, h.1)

refused_blames : (x : Call) (failed later : Type 0) (e : End) → (failed → later) → IsRefused x failed e → IsRefused x later e
refused_blames x failed later end.HostFault longer h = longer h
refused_blames x failed later end.Mem longer h = tt
refused_blames x failed later e longer h = h

pub work_blames : (x : Call) (failed later : Type 0) (w : Work) → (failed → later) → IsWorkOf x failed w → IsWorkOf x later w
work_blames x failed later (work.Write text) longer h = h
work_blames x failed later (work.Refuse e) longer h = refused_blames x failed later e longer h
work_blames x failed later (work.Run plan way) longer h = h

-- ---- what a command line asks for

module _ (plain : PlainNames) where
  pub asked_names : (x : CommandLine) (a : Asked) → Answers (Comes x) (Ok a) → HasPlainNames a
  asked_names x (asked.Write text) h = tt
  asked_names x (asked.Run run) h = request_names plain h.is.is

module _ (n : Program) (told : Option Files) (x : CommandLine) (queue : ℕ) (failed : Type 0) where
  abbrev asks_for : (run : AskedRun) → Runs (Comes x) run → AsksFor (call_of told n x queue)
  asks_for run h = record { command = run.command; tree = (script_of n run).tree; params = run.params; only = h.is }

  same_script : (run : AskedRun) (h : Runs (Comes x) run) → script_of n run ≡ script_in (call_of told n x queue) (asks_for run h)
  same_script run h = λ i. record {
    tree = (script_of n run).tree;
    params = run.params;
    folder = h.wish.folder i;
    work = h.wish.work i;
    program = n;
  }

  -- a refusal of the script is one of the call
  refusal_of_run : (run : AskedRun) (h : Runs (Comes x) run) (e : End) → GivesUpAs (script_of n run) told failed e → IsRefused (call_of told n x queue) failed e
  refusal_of_run run h end.HostFault g = g
  refusal_of_run run h end.Mem g = tt
  refusal_of_run run h e g = inr (record { asks = asks_for run h; why = subst (λ (s : Script). RefusesScript s told e) (same_script run h) g })

  work_of_run : (run : AskedRun) (h : Runs (Comes x) run) (w : Work) → IsRunWork (script_of n run) told failed run.command w → queue ≡ lanes_for run.command
      → IsWorkOf (call_of told n x queue) failed w
  work_of_run run h (work.Write text) k lanes = absurd k
  work_of_run run h (work.Refuse e) k lanes = refusal_of_run run h e k
  work_of_run run h (work.Run plan way) k lanes = (
    asks_for run h,
    subst (λ (s : Script). IsPlanFor s told plan) (same_script run h) k.0,
    k.1,
    lanes,
  )

  pub work_answers : (a : Asked) (w : Work) → Answers (Comes x) (Ok a) → IsWorkAsked n told failed a w queue → IsWorkOf (call_of told n x queue) failed w
  work_answers (asked.Write text) w h k = subst (IsWorkOf (call_of told n x queue) failed) (sym k) h
  work_answers (asked.Run run) w h k = work_of_run run h w k.0 k.1

pub asked_wish : (x : CommandLine) (a : Asked) → Answers (Comes x) (Ok a) → KeepsAsked a
asked_wish x (asked.Write text) h = tt
asked_wish x (asked.Run run) h = h.wish

-- what the words and files come to is no end of a call that wrote an output
pub refusal_is_one : (x : CommandLine) (e : End) → Refuses (Comes x) e → IsRefusal e
refusal_is_one x end.HostFault h = tt
refusal_is_one x end.Mem h = tt
refusal_is_one x e h = request_refuses h.is
