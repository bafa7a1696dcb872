-- The text of a job determines its task and attempt.
use Rattle.std.proofs.Common.{◌≡◌, ℕ, ◌<◌, ◌^◌, List, [], ◌∷◌, ◌++◌, refl, ap, sym, subst, ◌∙◌, arith, append_assoc, append-nil, codes}
use Rattle.std.specs.Fmt.{decimal}
use Rattle.std.proofs.lemmas.Fmt.{decimal_injective}
use Rattle.std.proofs.lemmas.List.{append_cancel_left, append_cancel_right}
use Rattle.nf_value.specs.Plain.{Plain, truth, list, plains_of}
use Rattle.nf_value.specs.Code.{code, text_code, int_code, head_code}
use Rattle.nf_job.specs.declared.parts.JobParts.{JobParts}
use Rattle.nf_job.specs.JobText.{job_text, nine_items, five_items, stdin_plain, files_plain, texts_plain, inputs_text}
use Rattle.nf_job.specs.Sizes.{IsSized, IsFit, SameAttempt, SameInstance}
use Rattle.nf_job.proofs.Codes.{head_is, tail_is, Lacks, decimal_lacks, text_apart, inputs_apart}

lacks_mid : (e : ℕ) (xs ys : List ℕ) → Lacks e (xs ++ e ∷ ys) → ⊥
lacks_mid e [] ys a = a.0 refl
lacks_mid e (x ∷ xs) ys a = lacks_mid e xs ys a.1

lacks_ended : (e : ℕ) (ds : List ℕ) → 59 < e → Lacks e ds → Lacks e (ds ++ 59 ∷ [])
lacks_ended e [] h a = ((λ same. omega arith), tt)
lacks_ended e (d ∷ ds) h a = (a.0, lacks_ended e ds h a.1)

-- of two lists that end alike the parts after the last `e` are equal
last_part : (e : ℕ) (a b ds es : List ℕ) → Lacks e ds → Lacks e es → a ++ e ∷ ds ≡ b ++ e ∷ es → (a ≡ b) × (ds ≡ es)
last_part e [] [] ds es f g h = (refl, tail_is h)
last_part e [] (y ∷ b) ds es f g h = absurd (lacks_mid e b es (subst (Lacks e) (tail_is h) f))
last_part e (x ∷ a) [] ds es f g h = absurd (lacks_mid e a ds (subst (Lacks e) (sym (tail_is h)) g))
last_part e (x ∷ a) (y ∷ b) ds es f g h = let q = last_part e a b ds es f g (tail_is h) in ((λ k. head_is h k ∷ q.0 k), q.1)

last_number : (a b : List ℕ) (m n : ℕ) → m < 2 ^ 64 → n < 2 ^ 64 → a ++ int_code (decimal m) ≡ b ++ int_code (decimal n) → (a ≡ b) × (m ≡ n)
last_number a b m n f g h =
    let q = last_part 105 a b (decimal m ++ 59 ∷ []) (decimal n ++ 59 ∷ []) (lacks_ended 105 (decimal m) (omega arith) (decimal_lacks 105 m (omega arith) f)) (lacks_ended 105 (decimal n) (omega arith) (decimal_lacks 105 n (omega arith) g)) h in
    (q.0, decimal_injective m n f g (append_cancel_right (decimal m) (decimal n) (59 ∷ []) q.1))

-- what stands between the inputs and the two numbers
abbrev middle : JobParts → List ℕ
middle p = ((code (stdin_plain p.stdin) ++ code (files_plain p.staged)) ++ code (texts_plain p.patterns)) ++ code (truth p.wants_stdout)

abbrev tail_of : JobParts → List ℕ
tail_of p = (middle p ++ int_code (decimal p.n)) ++ int_code (decimal p.attempt)

regroup : (a b c d m n : List ℕ) → a ++ (b ++ (c ++ (d ++ (m ++ (n ++ []))))) ≡ ((((a ++ b) ++ c) ++ d) ++ m) ++ n
regroup a b c d m n = simp (append_assoc, append-nil)

-- the text of a job after what all jobs begin with
abbrev spelled : JobParts → List ℕ
spelled p = text_code p.process ++ (text_code p.script ++ (text_code p.inputs ++ tail_of p))

begins : (p : JobParts) → job_text p ≡ head_code (codes "l") 10 ++ (text_code (codes "nfjob2") ++ spelled p)
unfolding job_text nine_items five_items
begins p = ap (λ t. head_code (codes "l") 10 ++ (text_code (codes "nfjob2") ++ (text_code p.process ++ (text_code p.script ++ (text_code p.inputs ++ t))))) (regroup (code (stdin_plain p.stdin)) (code (files_plain p.staged)) (code (texts_plain p.patterns)) (code (truth p.wants_stdout)) (int_code (decimal p.n)) (int_code (decimal p.attempt)))

pub jobs_apart : (p q : JobParts) → IsSized p → IsSized q → job_text p ≡ job_text q → SameAttempt p q
jobs_apart p q f g h =
    let a = append_cancel_left (text_code (codes "nfjob2")) (spelled p) (spelled q) (append_cancel_left (head_code (codes "l") 10) (text_code (codes "nfjob2") ++ spelled p) (text_code (codes "nfjob2") ++ spelled q) (sym (begins p) ∙ h ∙ begins q)) in
    let b = text_apart p.process q.process (text_code p.script ++ (text_code p.inputs ++ tail_of p)) (text_code q.script ++ (text_code q.inputs ++ tail_of q)) f.process g.process a in
    let c = text_apart p.script q.script (text_code p.inputs ++ tail_of p) (text_code q.inputs ++ tail_of q) f.script g.script b.1 in
    let d = text_apart p.inputs q.inputs (tail_of p) (tail_of q) f.inputs g.inputs c.1 in
    let k = last_number (middle p ++ int_code (decimal p.n)) (middle q ++ int_code (decimal q.n)) p.attempt q.attempt f.attempt g.attempt d.1 in
    let j = last_number (middle p) (middle q) p.n q.n f.n g.n k.0 in
    record { process = b.0; script = c.0; inputs = d.0; n = j.1; attempt = k.1 }

pub instances_apart : (p q : JobParts) (vs ws : List Plain) → IsSized p → IsSized q → IsFit (list (plains_of vs)) → IsFit (list (plains_of ws)) → p.inputs ≡ inputs_text vs → q.inputs ≡ inputs_text ws → job_text p ≡ job_text q
    → SameInstance p q vs ws
instances_apart p q vs ws f g v w i j h =
    let s = jobs_apart p q f g h in
    record { process = s.process; inputs = inputs_apart vs ws v w (sym i ∙ s.inputs ∙ j); n = s.n; attempt = s.attempt }
