-- Lists that grow by what is judged.
use Rattle.std.proofs.Common.{◌≡◌, ℕ, List, [], ◌∷◌, ◌++◌, refl, ap, sym, ◌∙◌, append_assoc, append-nil, Ok, Err}
use Rattle.nf_job.specs.declared.fault.TaskFault.{TaskFault}
use Rattle.nf_job.specs.declared.fault.TaskRefusal.{TaskRefusal}
use Rattle.nf_job.specs.declared.fault.TaskRefusal.TheVariants as refusal
use Rattle.nf_tasks.specs.Judged.{Judged, ◌>>=◌, Adds, Answers, AnswersBy, added}
use Rattle.nf_tasks.specs.Meaning.{PatternMeaning}
use Rattle.nf_value.specs.Plain.{Plain}
use Rattle.nf_tasks.specs.Prepared.{texts_of, named_by}

pub ok_is : {A : Type 0} {x y : A} → ◌≡◌ {A = Judged A} (Ok x) (Ok y) → x ≡ y
ok_is h = cc

pub one_more : {A : Type 0} (xs : List A) (first : Judged A) (rest : Judged (List A)) (v : A) → first ≡ Ok v → added xs (first >>= λ w. rest >>= λ ws. Ok (w ∷ ws)) ≡ added (xs ++ v ∷ []) rest
one_more xs (Err e) rest v h = cc
one_more xs (Ok w) (Err e) v h = refl
one_more xs (Ok w) (Ok ws) v h = ap Ok (ap (λ z. xs ++ (z ∷ ws)) (ok_is h) ∙ sym (append_assoc xs (v ∷ []) ws))

pub fault_kept : {A B : Type 0} (xs : List B) (first : Judged A) (f : A → Judged (List B)) (e : TaskFault) → first ≡ Err e → added xs (first >>= f) ≡ Err e
fault_kept xs (Err d) f e h = cc
fault_kept xs (Ok w) f e h = cc

pub list_more : {A : Type 0} (xs ys : List A) (first rest : Judged (List A)) → added xs first ≡ Ok ys → added xs (first >>= λ ts. rest >>= λ us. Ok (ts ++ us)) ≡ added ys rest
list_more xs ys (Err e) rest h = cc
list_more xs ys (Ok ts) (Err e) h = refl
list_more xs ys (Ok ts) (Ok us) h = ap Ok (sym (append_assoc xs ts us) ∙ ap (λ z. z ++ us) (ok_is h))

pub added_nothing : {A : Type 0} (xs : List A) → added xs (Ok []) ≡ Ok xs
added_nothing xs = ap Ok (append-nil xs)

pub nothing_added : {A : Type 0} (due : Judged (List A)) → added [] due ≡ due
nothing_added (Err e) = refl
nothing_added (Ok xs) = refl

-- patterns of two lists in a row
pub texts_of-append : (xs ys : List PatternMeaning) (seen : List Plain) → texts_of (xs ++ ys) seen ≡ (texts_of xs seen >>= λ ts. texts_of ys seen >>= λ us. Ok (ts ++ us))
texts_of-append [] ys seen = by_rest (texts_of ys seen)
  where
    by_rest : (due : Judged (List (List ℕ))) → due ≡ (due >>= λ us. Ok us)
    by_rest (Err e) = refl
    by_rest (Ok us) = refl
texts_of-append (x ∷ xs) ys seen = by_first (named_by x.place x.of seen) (texts_of xs seen) (texts_of ys seen) (texts_of (xs ++ ys) seen) (texts_of-append xs ys seen)
  where
    by_first : (first : Judged (List ℕ)) (more rest all : Judged (List (List ℕ))) → all ≡ (more >>= λ ts. rest >>= λ us. Ok (ts ++ us)) → (first >>= λ t. all >>= λ ts. Ok (t ∷ ts)) ≡ ((first >>= λ t. more >>= λ ts. Ok (t ∷ ts)) >>= λ ts. rest >>= λ us. Ok (ts ++ us))
    by_first (Err e) more rest all h = refl
    by_first (Ok t) (Err e) rest all h = ap (λ d. d >>= λ ts. Ok (t ∷ ts)) h
    by_first (Ok t) (Ok ts) (Err e) all h = ap (λ d. d >>= λ ts. Ok (t ∷ ts)) h
    by_first (Ok t) (Ok ts) (Ok us) all h = ap (λ d. d >>= λ ts. Ok (t ∷ ts)) h

-- a call's fault is that of the whole; want of memory is free
pub refused : {A B C : Type 0} (shown : C → B) (part : Judged B) (due : Judged A) (e : TaskRefusal) → ((f : TaskFault) → part ≡ Err f → due ≡ Err f) → AnswersBy shown part (Err e) → Answers due (Err e)
refused shown part due (refusal.Fault f) go h = go f h
refused shown part due refusal.Mem go h = tt

pub refused_by : {A B C D : Type 0} (shown : C → B) (show : D → A) (part : Judged B) (due : Judged A) (e : TaskRefusal) → ((f : TaskFault) → part ≡ Err f → due ≡ Err f) → AnswersBy shown part (Err e) → AnswersBy show due (Err e)
refused_by shown show part due (refusal.Fault f) go h = go f h
refused_by shown show part due refusal.Mem go h = tt

pub refused_here : {A B : Type 0} (part : Judged B) (due : Judged A) (e : TaskRefusal) → ((f : TaskFault) → part ≡ Err f → due ≡ Err f) → Answers part (Err e) → Answers due (Err e)
refused_here part due (refusal.Fault f) go h = go f h
refused_here part due refusal.Mem go h = tt

pub first_fault : {A B : Type 0} (first : Judged A) (more : A → Judged B) (f : TaskFault) → first ≡ Err f → (first >>= more) ≡ Err f
first_fault (Err e) more f h = cc
first_fault (Ok x) more f h = cc

pub first_value : {A B : Type 0} (first : Judged A) (more : A → Judged B) (x : A) → first ≡ Ok x → (first >>= more) ≡ more x
first_value (Err e) more x h = cc
first_value (Ok y) more x h = ap more (ok_is h)

pub adds_refused : {A B : Type 0} (before after : List B) (part : Judged (List B)) (due : Judged A) (e : TaskRefusal) → ((f : TaskFault) → part ≡ Err f → due ≡ Err f) → Adds before part after (Err e) → Answers due (Err e)
adds_refused before after part due (refusal.Fault f) go h = go f h
adds_refused before after part due refusal.Mem go h = tt

-- a fault of what is added is that of what was due
pub fault_due : {A : Type 0} (before : List A) (due : Judged (List A)) (f : TaskFault) → added before due ≡ Err f → due ≡ Err f
fault_due before (Err e) f h = cc
fault_due before (Ok xs) f h = cc

-- a call's fault is that of a call around it; want of memory is free
pub adds_refused_by : {A B : Type 0} (before after : List B) (start now : List A) (part : Judged (List B)) (due : Judged (List A)) (e : TaskRefusal)
    → ((f : TaskFault) → part ≡ Err f → due ≡ Err f) → Adds before part after (Err e) → Adds start due now (Err e)
adds_refused_by before after start now part due (refusal.Fault f) go h = go f h
adds_refused_by before after start now part due refusal.Mem go h = tt
