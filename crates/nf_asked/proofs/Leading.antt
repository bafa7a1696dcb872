-- From the answer of a part of the work to that of the whole.
use Rattle.std.proofs.Common.{◌≡◌, ℕ, List, [], Option, Some, None, Result, Ok, Err, IfErr, IsErrAnd, refl, sym, subst}
use Rattle.nf_ast.specs.Tree.{Tree}
use Rattle.nf_ast.specs.Tops.{view_script}
use Rattle.nf_ast.specs.declared.tops.Script.{Script}
use Rattle.nf_host.specs.Files.{Files}
use Rattle.nf_printer.specs.Tops.{canonical}
use Rattle.nf_command.specs.declared.command.Command.{Command}
use Rattle.nf_command.specs.declared.command.Command.TheVariants.{Run, Fmt, Check, Gen}
use Rattle.nf_command.specs.declared.fault.UsageFault.{UsageFault}
use Rattle.nf_command.specs.Commands.{command_of}
use Rattle.nf_ends.specs.declared.end.End.{End}
use Rattle.nf_ends.specs.declared.end.End.TheVariants as end
use Rattle.nf_request.specs.Held.{IsAtPath, OnHostFault}
use Rattle.nf_request.specs.Words.{Asks, IsMisuse, script_path, text_for}
use Rattle.nf_request.specs.Wishes.{Params, Wish, wish_for, plain_wish}
use Rattle.nf_request.specs.Script.{IsOnlyScript}
use Rattle.nf_request.specs.Steps.{LacksText, LacksTree, GivesParams, IsOrdered, IsRefused}
use Rattle.nf_asked.specs.declared.answer.Asked.{Asked}
use Rattle.nf_asked.specs.declared.answer.Asked.TheVariants as asked
use Rattle.nf_asked.specs.declared.answer.AskedRun.{AskedRun}
use Rattle.nf_asked.specs.CommandLine.{CommandLine, AreAt, IsOver}
use Rattle.nf_asked.specs.Request.{Request, formats, accepts, runs, RunComes, CheckComes, TreeComes, Comes}
use Rattle.nf_asked.specs.Answers.{IsOnly, Refuses, Answers, AnswersRun, AnswersTree, AnswersFor, line_of, request_of}
use Rattle.nf_asked.specs.Steps.{GivesText, GivesChecked, IsRunOf}
use Rattle.nf_asked.proofs.Rows.{one_ok, only_formats, only_accepts, only_run}
use Rattle.nf_asked.proofs.Lines.{only_with_tree}
use Rattle.nf_asked.proofs.Refusals.{carries, misuse_refused, text_refused, tree_refused, params_refused, order_refused, check_refused, order_blames}

-- what a `?` hands on
pub err_is : {T : Type 0} (r : Result T End) (e : End) → IsErrAnd r (λ x. x ≡ e) → r ≡ Err e
err_is (Ok x) e h = absurd h
err_is (Err x) e h = λ i. Err (h i)

-- of a host that tells its files, what stands at a path; else nothing need be known
pub some_at : (told : Option Files) (path : Option (List ℕ)) → (held : Option (List ℕ)) × IsAtPath told path held
some_at told None = (None, tt)
some_at None (Some p) = (None, tt)
some_at (Some f) (Some p) = (f p, refl)

-- what answers where requests come to P answers where they come to Q
pub carried : {P Q : Request → Type 0} → ((r : Request) → IsOnly P r → IsOnly Q r) → (r : Result Asked End) → Answers P r → Answers Q r
carried {P} {Q} f (Ok (asked.Write text)) h = record { request = h.request; is = f h.request h.is; text_is = h.text_is }
carried {P} {Q} f (Ok (asked.Run run)) h = record { is = f (request_of run) h.is; wish = h.wish }
carried {P} {Q} f (Err e) h = carries {P = P} {Q = Q} f e h

-- ---- `fmt`

written : (t : Tree) (r : Result Asked End) → GivesText (canonical t) r → Answers (λ q. q ≡ formats t) r
written t (Ok a) h =
    let P : Asked → Type 0 = λ v. Answers (λ q. q ≡ formats t) (Ok v) in
    subst P (sym h) (record { request = formats t; is = only_formats t; text_is = refl })
written t (Err e) h =
    let P : End → Type 0 = λ v. Refuses (λ q. q ≡ formats t) v in
    subst P (sym h) tt

pub fmt_answers : (told : Option Files) (c : Command) (file : List ℕ) (t : Tree) (r : Result Asked End) → c ≡ Fmt file → GivesText (canonical t) r → AnswersTree told c t r
fmt_answers told c file t r is h = subst (λ (d : Command). AnswersTree told d t r) (sym is) (None, tt, written t r h)

pub text_blames : (text : List ℕ) (P : Type 0) (r : Result Asked End) → GivesText text r → IfErr r (λ e. OnHostFault e P)
text_blames text P (Ok a) h = tt
text_blames text P (Err e) h = subst (λ (v : End). OnHostFault v P) (sym h) tt

-- ---- `check`

accepted_line : (t : Tree) (r : Result Asked End) → GivesChecked t r → Answers (CheckComes t) r
accepted_line t (Ok a) h =
    let P : Asked → Type 0 = λ v. Answers (CheckComes t) (Ok v) in
    subst P (sym h.1) (record { request = accepts; is = only_accepts h.0; text_is = refl })
accepted_line t (Err e) h = check_refused t e h

pub check_answers : (told : Option Files) (c : Command) (file : List ℕ) (t : Tree) (r : Result Asked End) → c ≡ Check file → GivesChecked t r → AnswersTree told c t r
check_answers told c file t r is h = subst (λ (d : Command). AnswersTree told d t r) (sym is) (None, tt, accepted_line t r h)

pub check_blames : (t : Tree) (P : Type 0) (r : Result Asked End) → GivesChecked t r → IfErr r (λ e. OnHostFault e P)
check_blames t P (Ok a) h = tt
check_blames t P (Err e) h = order_blames t P e h

-- ---- a script that is run

-- what a command that runs its script comes to, it comes to with its tree
pub run_answers : (told : Option Files) (c : Command) (w : _) (t : Tree) (r : Result Asked End) → c ≡ Run w → AnswersRun told c t r → AnswersTree told c t r
run_answers told c w t r is h =
    let k : AnswersRun told (Run w) t r = subst (λ (d : Command). AnswersRun told d t r) is h in
    subst (λ (d : Command). AnswersTree told d t r) (sym is) k

pub gen_answers : (told : Option Files) (c : Command) (n start : ℕ) (t : Tree) (r : Result Asked End) → c ≡ Gen n start → AnswersRun told c t r → AnswersTree told c t r
gen_answers told c n start t r is h =
    let k : AnswersRun told (Gen n start) t r = subst (λ (d : Command). AnswersRun told d t r) is h in
    subst (λ (d : Command). AnswersTree told d t r) (sym is) k

-- parameters that were read, or why they weren't
abbrev pub SomeParams : Option Files → Command → Result Params End → Type 0
SomeParams told c r = (held : Option (List ℕ)) × IsAtPath told (wish_for c).params_file held × GivesParams (wish_for c) held r

pub params_fail : (told : Option Files) (c : Command) (t : Tree) (e : End) → SomeParams told c (Err e) → AnswersRun told c t (Err e)
params_fail told c t e s = (s.0, s.1, params_refused c t s.0 e s.2)

pub order_fails : (told : Option Files) (c : Command) (t : Tree) (ps : Params) (e : End) → SomeParams told c (Ok ps) → IsRefused t e → AnswersRun told c t (Err e)
order_fails told c t ps e s h = (s.0, s.1, order_refused c t s.0 ps s.2 e h)

pub memory_fails : (told : Option Files) (c : Command) (t : Tree) → AnswersRun told c t (Err end.Mem)
memory_fails told c t = let s = some_at told (wish_for c).params_file in (s.0, s.1, tt)

-- the run is that of this command, this script and these parameters
run_is : (c : Command) (script : Script) (ps : Params) (run : AskedRun) → IsRunOf c script ps run → request_of run ≡ runs c (view_script script) ps
run_is c script ps run h = λ i. runs (h.command i) (view_script (h.is_script i)) (h.params i)

pub run_goes : (told : Option Files) (c : Command) (script : Script) (ps : Params) (run : AskedRun) → SomeParams told c (Ok ps) → IsOrdered (view_script script) → IsRunOf c script ps run → AnswersRun told c (view_script script) (Ok (asked.Run run))
run_goes told c script ps run s ordered h =
    let t = view_script script in
    let P : Request → Type 0 = IsOnly (RunComes c t s.0) in (
      s.0,
      s.1,
      record {
        is = subst P (sym (run_is c script ps run h)) (only_run c t s.0 s.2 ordered);
        wish = h.wish;
      },
    )

-- without a parameter file and without words there are no parameters
pub no_params_given : (told : Option Files) (c : Command) (ps : Params) → wish_for c ≡ plain_wish → ps ≡ [] → SomeParams told c (Ok ps)
no_params_given told c ps is none =
    let P : Wish → Type 0 = λ w. (held : Option (List ℕ)) × IsAtPath told w.params_file held × GivesParams w held (Ok []) in
    let given : SomeParams told c (Ok []) = subst P (sym is) (None, tt, ([], refl, refl)) in
    subst (λ (qs : Params). SomeParams told c (Ok qs)) (sym none) given

-- ---- a script's text and tree

pub tree_answers : (told : Option Files) (c : Command) (script : Option (List ℕ)) (text : List ℕ) (t : Tree) (r : Result Asked End) → IsAtPath told (script_path c) script → text_for c script ≡ Some text → IsOnlyScript text t → AnswersTree told c t r → AnswersFor told c r
tree_answers told c script text t r at there only h = record {
  script = script;
  params = h.0;
  script_at = at;
  params_at = h.1;
  answers = λ words asks. carried {P = TreeComes c t h.0} {Q = Comes (line_of words script h.0)} (λ q one. only_with_tree (line_of words script h.0) c text (record { asks = asks; there = there }) only one) r h.2;
}

pub text_fails : (told : Option Files) (c : Command) (script : Option (List ℕ)) (e : End) → IsAtPath told (script_path c) script → LacksText (text_for c script) e → AnswersFor told c (Err e)
text_fails told c script e at h =
    let s = some_at told (wish_for c).params_file in
    record {
      script = script;
      params = s.0;
      script_at = at;
      params_at = s.1;
      answers = λ words asks. text_refused (line_of words script s.0) c asks e h;
    }

pub tree_fails : (told : Option Files) (c : Command) (script : Option (List ℕ)) (text : List ℕ) (e : End) → IsAtPath told (script_path c) script → text_for c script ≡ Some text → LacksTree text e → AnswersFor told c (Err e)
tree_fails told c script text e at there h =
    let s = some_at told (wish_for c).params_file in
    record {
      script = script;
      params = s.0;
      script_at = at;
      params_at = s.1;
      answers = λ words asks. tree_refused (line_of words script s.0) c text (record { asks = asks; there = there }) e h;
    }

-- ---- words

-- a command line with its answer
abbrev pub AnswersWords : List (List ℕ) → Option Files → Result Asked End → Type 0
AnswersWords words told r = (x : CommandLine) × IsOver words told x × Answers (Comes x) r

pub command_answers : (words : List (List ℕ)) (told : Option Files) (c : Command) (r : Result Asked End) → Asks words c → AnswersFor told c r → AnswersWords words told r
command_answers words told c r asks h =
    let x : CommandLine = line_of words h.script h.params in
    let at : AreAt told x c = record { script = h.script_at; params = h.params_at } in
    (x, record { same = refl; at = λ d other. subst (AreAt told x) (one_ok asks other) at }, h.answers words asks)

-- the path of the script, and that of the parameter file, if the words are a command
abbrev script_of : Result Command UsageFault → Option (List ℕ)
script_of (Ok c) = script_path c
script_of (Err f) = None

abbrev params_of : Result Command UsageFault → Option (List ℕ)
params_of (Ok c) = (wish_for c).params_file
params_of (Err f) = None

pub misuse_answers : (words : List (List ℕ)) (told : Option Files) (e : End) → IsMisuse words e → AnswersWords words told (Err e)
misuse_answers words told e h =
    let s = some_at told (script_of (command_of words)) in
    let p = some_at told (params_of (command_of words)) in
    let x : CommandLine = line_of words s.0 p.0 in
    let script_at : (c : Command) → Asks words c → IsAtPath told (script_path c) s.0 =
    λ c asks. subst (λ (d : Result Command UsageFault). IsAtPath told (script_of d) s.0) asks s.1 in
    let params_at : (c : Command) → Asks words c → IsAtPath told (wish_for c).params_file p.0 =
    λ c asks. subst (λ (d : Result Command UsageFault). IsAtPath told (params_of d) p.0) asks p.1 in
    (x, record { same = refl; at = λ c asks. record { script = script_at c asks; params = params_at c asks } }, misuse_refused x e h)
