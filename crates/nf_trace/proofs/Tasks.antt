-- The lines of tasks, one after another.
use Rattle.std.proofs.Common.{◌≡◌, ℕ, suc, ◌+◌, ◌-◌, ◌<◌, List, [], ◌∷◌, ◌++◌, length, drop, get_or, refl, sym, ◌∙◌, ap, arith, append_assoc, add-one, drop-cons}
use Rattle.std.specs.Prelude.{Option, Some, None, slice_get}
use Rattle.std.proofs.lemmas.Grind.{flat_map-append}
use Rattle.std.proofs.lemmas.List.{append-nil}
use Rattle.nf_trace.specs.declared.task.Attempt.{Attempt}
use Rattle.nf_trace.specs.declared.task.TaskStatus.{TaskStatus}
use Rattle.nf_trace.specs.declared.task.TracedTask.{TracedTask}
use Rattle.nf_trace.specs.Last.{last_of}
use Rattle.nf_trace.specs.Line.{line_text, lines_text}
use Rattle.nf_trace.specs.Task.{line_of, lines_by, task_lines, lines_from}
use Rattle.nf_trace.proofs.Last.{get-last_of}

-- a task with a job has one line, of its last attempt
pub one_line : (id : ℕ) (name : List ℕ) (attempts : List Attempt) (status : TaskStatus) (a : Attempt) → Some a ≡ slice_get attempts (length attempts - 1) → lines_text (lines_by id name attempts status) ≡ line_text (line_of id name a status)
one_line id name [] status a h = cc
one_line id name (x ∷ xs) status a h =
    let e : Some a ≡ Some (last_of x xs) = h ∙ get-last_of x xs in
    let f : last_of x xs ≡ a = cc in
    append-nil (line_text (line_of id name (last_of x xs) status)) ∙ ap (λ (y : Attempt). line_text (line_of id name y status)) f

-- a task without a job has none
pub no_line : (out : List ℕ) (id : ℕ) (name : List ℕ) (attempts : List Attempt) (status : TaskStatus) → length attempts ≡ 0 → out ≡ out ++ lines_text (lines_by id name attempts status)
no_line out id name [] status h = sym (append-nil out)
no_line out id name (x ∷ xs) status h = absurd (omega arith)

pub next_task : (out new all : List ℕ) (tasks : List TracedTask) (i : ℕ) (t : TracedTask) → i < length tasks → t ≡ get_or tasks i t → new ≡ out ++ lines_text (task_lines (i + 1) t) → out ++ lines_text (lines_from (i + 1) (drop i tasks)) ≡ all → new ++ lines_text (lines_from (i + 1 + 1) (drop (i + 1) tasks)) ≡ all
next_task out new all tasks i t lt is n inv =
    let left : drop i tasks ≡ t ∷ drop (i + 1) tasks = rw (add-one, drop-cons tasks i t, ← is) refl in
    let one : suc (i + 1) ≡ i + 1 + 1 = omega arith in
    ap (λ xs. xs ++ lines_text (lines_from (i + 1 + 1) (drop (i + 1) tasks))) n
    ∙ append_assoc out (lines_text (task_lines (i + 1) t)) (lines_text (lines_from (i + 1 + 1) (drop (i + 1) tasks)))
    ∙ ap (λ xs. out ++ xs) (sym (flat_map-append line_text (task_lines (i + 1) t) (lines_from (i + 1 + 1) (drop (i + 1) tasks))))
    ∙ ap (λ k. out ++ lines_text (task_lines (i + 1) t ++ lines_from k (drop (i + 1) tasks))) (sym one)
    ∙ ap (λ ts. out ++ lines_text (lines_from (i + 1) ts)) (sym left)
    ∙ inv

-- the columns of a line, pushed one after another
pieces : (out a t h n s e l : List ℕ) → (((((((((out ++ a) ++ t) ++ h) ++ t) ++ n) ++ t) ++ s) ++ t) ++ e) ++ l ≡ out ++ (((((((((a ++ t) ++ h) ++ t) ++ n) ++ t) ++ s) ++ t) ++ e) ++ l)
pieces out a t h n s e l = simp append_assoc

pub line_pushed : (out a t h n s e l o1 o2 o3 o4 o5 o6 o7 o8 o9 o10 : List ℕ) → o1 ≡ out ++ a → o2 ≡ o1 ++ t → o3 ≡ o2 ++ h → o4 ≡ o3 ++ t → o5 ≡ o4 ++ n → o6 ≡ o5 ++ t → o7 ≡ o6 ++ s → o8 ≡ o7 ++ t → o9 ≡ o8 ++ e → o10 ≡ o9 ++ l → o10 ≡ out ++ (((((((((a ++ t) ++ h) ++ t) ++ n) ++ t) ++ s) ++ t) ++ e) ++ l)
line_pushed out a t h n s e l o1 o2 o3 o4 o5 o6 o7 o8 o9 o10 e1 e2 e3 e4 e5 e6 e7 e8 e9 e10 =
    e10 ∙ ap (λ x. x ++ l) (e9 ∙ ap (λ x. x ++ e) (e8 ∙ ap (λ x. x ++ t) (e7 ∙ ap (λ x. x ++ s) (e6 ∙ ap (λ x. x ++ t) (e5 ∙ ap (λ x. x ++ n) (e4 ∙ ap (λ x. x ++ t) (e3 ∙ ap (λ x. x ++ h) (e2 ∙ ap (λ x. x ++ t) e1))))))))
    ∙ pieces out a t h n s e l
