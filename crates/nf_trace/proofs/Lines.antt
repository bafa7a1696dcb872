-- The lines of a trace, one after another.
use Rattle.std.proofs.Common.{◌≡◌, ℕ, suc, ◌+◌, ◌-◌, ◌<◌, ◌==◌, Bool, true, false, ◌&&◌, List, [], ◌∷◌, ◌++◌, length, refl, sym, ◌∙◌, ap, subst, arith, append_assoc, if◌then◌else◌}
use Rattle.std.specs.Prelude.{Option, Some, None, is_some, MatchOption, IfOk, Result, Ok, Err, slice_get}
use denote.Bor.{Bor}
use Rattle.std.specs.Str.{is_utf8, IsUtf8}
use Rattle.std.proofs.lemmas.Str.{is_utf8-from_IsUtf8, IsUtf8-from_is_utf8}
use Rattle.nf_value.specs.declared.mem.Mem.{Mem}
use Rattle.std.proofs.lemmas.Bool.{false≢true}
use Rattle.std.proofs.lemmas.List.{append-nil, length-append}
use Rattle.nf_trace.specs.declared.line.TraceLine.{TraceLine}
use Rattle.nf_trace.specs.Last.{last_of}
use Rattle.nf_trace.specs.Reading.{is_line_end, between_line_ends, columns, is_number, is_below, line_after, line_in, with_line, after_line, lines_in, after_first, lines_after_header, reading, Reads, IsNumberOrNone, last_number}
use Rattle.nf_trace.specs.declared.fault.TraceFault.{TraceFault}
use Rattle.std.specs.Global.{Vec}
use Rattle.nf_trace.proofs.Splits.{some_part}
use Rattle.nf_trace.proofs.Last.{get-last_of, last_of-push}

-- ---- numbers

tested : (a b : Bool) (x l : TraceLine) → (if a && b then Some x else None) ≡ Some l → (a ≡ true) × (x ≡ l)
tested true true x l h = (refl, cc)
tested true false x l h = cc
tested false b x l h = cc

-- a line begins with a number
numbered : (last : List ℕ) (parts : List (List ℕ)) (l : TraceLine) → line_after last parts ≡ Some l → is_number l.task_id ≡ true
numbered last [] l h = cc
numbered last (a ∷ []) l h = cc
numbered last (a ∷ b ∷ []) l h = cc
numbered last (a ∷ b ∷ c ∷ []) l h = cc
numbered last (a ∷ b ∷ c ∷ d ∷ []) l h = cc
numbered last (a ∷ b ∷ c ∷ d ∷ e ∷ []) l h =
    let t = tested (is_number a) (is_below last a) (record { task_id = a; hash = b; name = c; status = d; exit = e }) l h in
    subst (λ (x : TraceLine). is_number x.task_id ≡ true) t.1 t.0
numbered last (a ∷ b ∷ c ∷ d ∷ e ∷ f ∷ more) l h = cc

pub numbered_line : (last text : List ℕ) (l : TraceLine) → line_in last text ≡ Some l → is_number l.task_id ≡ true
numbered_line last text l h = of (is_utf8 text) refl
  where
    of : (b : Bool) → is_utf8 text ≡ b → is_number l.task_id ≡ true
    of true e = numbered last (columns text) l (rw e at h)
    of false e = let f : None ≡ Some l = rw e at h in cc

bound : (ds : List ℕ) → is_number ds ≡ true → IsNumberOrNone ds
bound [] h = tt
bound (d ∷ ds) h = h

pub last_number-push : (ls : List TraceLine) (l : TraceLine) → last_number (ls ++ l ∷ []) ≡ l.task_id
last_number-push [] l = refl
last_number-push (x ∷ xs) l = ap (λ (y : TraceLine). y.task_id) (last_of-push x l xs)

pub last_is : (ls : List TraceLine) (l : TraceLine) → Some l ≡ slice_get ls (length ls - 1) → l.task_id ≡ last_number ls
last_is [] l h = cc
last_is (x ∷ xs) l h = let e : Some l ≡ Some (last_of x xs) = h ∙ get-last_of x xs in let f : l ≡ last_of x xs = cc in ap (λ (y : TraceLine). y.task_id) f

-- ---- columns

-- there are more than five columns
pub too_many : (last a b c d e left : List ℕ) → None ≡ line_after last (a ∷ b ∷ c ∷ d ∷ e ∷ columns left)
too_many last a b c d e left =
    let s = some_part (λ x. x == 9) left in
    let P : List (List ℕ) → Type 0 = λ ps. None ≡ line_after last (a ∷ b ∷ c ∷ d ∷ e ∷ ps) in
    subst P (sym s.2) refl

pub more_columns : (last text a t b u c v d exit : List ℕ) (r : Option (Bor (List ℕ) × Bor (List ℕ))) → columns text ≡ a ∷ columns t → columns t ≡ b ∷ columns u → columns u ≡ c ∷ columns v → columns v ≡ d ∷ columns exit → MatchOption r (columns exit ≡ exit ∷ []) (λ p. columns exit ≡ p.0.now ∷ columns p.1.now) → is_some r ≡ true → None ≡ line_after last (columns text)
more_columns last text a t b u c v d exit None e f g h parts found = cc
more_columns last text a t b u c v d exit (Some p) e f g h parts found =
    too_many last a b c d p.0.now p.1.now
    ∙ ap (line_after last) (sym (e ∙ ap (λ l. a ∷ l) (f ∙ ap (λ l. b ∷ l) (g ∙ ap (λ l. c ∷ l) (h ∙ ap (λ l. d ∷ l) parts)))))

-- ---- bytes

pub line_in_text : (last bytes text : List ℕ) (r : Result (Option TraceLine) Mem) → text ≡ bytes → IsUtf8 bytes → IfOk r (λ o. o ≡ line_after last (columns text)) → IfOk r (λ o. o ≡ line_in last bytes)
line_in_text last bytes text (Ok o) same u h =
    let e : is_utf8 bytes ≡ true = is_utf8-from_IsUtf8 bytes u in
    let f : line_in last bytes ≡ line_after last (columns bytes) = rw e refl in
    h ∙ ap (λ l. line_after last (columns l)) same ∙ sym f
line_in_text last bytes text (Err m) same u h = tt

pub no_text : (last bytes : List ℕ) → (IsUtf8 bytes → ⊥) → None ≡ line_in last bytes
no_text last bytes never = of (is_utf8 bytes) refl
  where
    of : (b : Bool) → is_utf8 bytes ≡ b → None ≡ line_in last bytes
    of true e = absurd (never (IsUtf8-from_is_utf8 bytes e))
    of false e = rw e refl

-- ---- what was read so far

abbrev pub with_lines : List TraceLine → Result (List TraceLine) ℕ → Result (List TraceLine) ℕ
with_lines ls (Ok ms) = Ok (ls ++ ms)
with_lines ls (Err at) = Err at

-- these lines were read, and the rest is left
pub record IsReadTo (all : List ℕ) (ls : List TraceLine) (rest : List ℕ) : Type 0 where
  pub same : lines_in 2 [] (between_line_ends all) ≡ with_lines ls (lines_in (length ls + 2) (last_number ls) (between_line_ends rest))
  pub number : IsNumberOrNone (last_number ls)

with_none : (r : Result (List TraceLine) ℕ) → r ≡ with_lines [] r
with_none (Ok ms) = refl
with_none (Err at) = refl

with_one_more : (ls : List TraceLine) (l : TraceLine) (r : Result (List TraceLine) ℕ) → with_lines ls (with_line l r) ≡ with_lines (ls ++ l ∷ []) r
with_one_more ls l (Ok ms) = ap (λ (xs : List TraceLine). Ok xs) (sym (append_assoc ls (l ∷ []) ms))
with_one_more ls l (Err at) = refl

-- the part before a line end is judged as a line
judged : (at : ℕ) (last text left : List ℕ) → lines_in at last (text ∷ between_line_ends left) ≡ after_line at (line_in last text) (λ l. lines_in (suc at) l.task_id (between_line_ends left))
judged at last text left =
    let s = some_part is_line_end left in
    let P : List (List ℕ) → Type 0 = λ ps. lines_in at last (text ∷ ps) ≡ after_line at (line_in last text) (λ l. lines_in (suc at) l.task_id ps) in
    subst P (sym s.2) refl

pub read_nothing : (all : List ℕ) → IsReadTo all [] all
read_nothing all = record { same = with_none (lines_in 2 [] (between_line_ends all)); number = tt }

pub read_line : (all rest text left : List ℕ) (ls : List TraceLine) (l : TraceLine) → between_line_ends rest ≡ text ∷ between_line_ends left → Some l ≡ line_in (last_number ls) text → IsReadTo all ls rest → IsReadTo all (ls ++ l ∷ []) left
read_line all rest text left ls l parts is inv =
    let at : ℕ = length ls + 2 in
    let one : suc (length ls + 2) ≡ length (ls ++ l ∷ []) + 2 = omega (arith, length-append ls (l ∷ [])) in
    let last : l.task_id ≡ last_number (ls ++ l ∷ []) = sym (last_number-push ls l) in
    let r : Result (List TraceLine) ℕ = lines_in (suc (length ls + 2)) l.task_id (between_line_ends left) in
    let number : IsNumberOrNone (last_number (ls ++ l ∷ [])) = subst (λ (ds : List ℕ). IsNumberOrNone ds) last (bound l.task_id (numbered_line (last_number ls) text l (sym is))) in
    record {
      same =
          inv.same
          ∙ ap (λ (ps : List (List ℕ)). with_lines ls (lines_in (length ls + 2) (last_number ls) ps)) parts
          ∙ ap (with_lines ls) (judged (length ls + 2) (last_number ls) text left ∙ ap (λ (o : Option TraceLine). after_line (length ls + 2) o (λ l. lines_in (suc (length ls + 2)) l.task_id (between_line_ends left))) (sym is))
          ∙ with_one_more ls l (lines_in (suc (length ls + 2)) l.task_id (between_line_ends left))
          ∙ (λ j. with_lines (ls ++ l ∷ []) (lines_in (one j) (last j) (between_line_ends left)));
      number = number;
    }

-- a part that is no line
pub read_no_line : (all rest text left : List ℕ) (ls : List TraceLine) (n : ℕ) → between_line_ends rest ≡ text ∷ between_line_ends left → None ≡ line_in (last_number ls) text → length ls ≡ n → IsReadTo all ls rest → lines_in 2 [] (between_line_ends all) ≡ Err (n + 2)
read_no_line all rest text left ls n parts is count inv =
    inv.same
    ∙ ap (λ (ps : List (List ℕ)). with_lines ls (lines_in (length ls + 2) (last_number ls) ps)) parts
    ∙ ap (with_lines ls) (judged (length ls + 2) (last_number ls) text left ∙ ap (λ (o : Option TraceLine). after_line (length ls + 2) o (λ l. lines_in (suc (length ls + 2)) l.task_id (between_line_ends left))) (sym is))
    ∙ ap (λ (k : ℕ). Err (k + 2)) count

-- nothing is left
pub read_all : (all rest : List ℕ) (ls : List TraceLine) → length rest ≡ 0 → IsReadTo all ls rest → lines_in 2 [] (between_line_ends all) ≡ Ok ls
read_all all [] ls none inv = inv.same ∙ ap (λ (xs : List TraceLine). Ok xs) (append-nil ls)
read_all all (b ∷ bs) ls none inv = absurd (omega arith)

-- a line has no line end
pub read_no_end : (all rest : List ℕ) (ls : List TraceLine) (n : ℕ) → between_line_ends rest ≡ rest ∷ [] → 0 < length rest → length ls ≡ n → IsReadTo all ls rest → lines_in 2 [] (between_line_ends all) ≡ Err (n + 2)
read_no_end all [] ls n parts some count inv = absurd (omega arith)
read_no_end all (b ∷ bs) ls n parts some count inv = inv.same ∙ ap (λ (ps : List (List ℕ)). with_lines ls (lines_in (length ls + 2) (last_number ls) ps)) parts ∙ ap (λ (k : ℕ). Err (k + 2)) count

-- ---- the first line

pub trace_split : (bytes first rest : List ℕ) → between_line_ends bytes ≡ first ∷ between_line_ends rest → after_first first (between_line_ends rest) ≡ reading bytes
unfolding reading
trace_split bytes first rest parts =
    let s = some_part is_line_end rest in
    let P : List (List ℕ) → Type 0 = λ ps. after_first first ps ≡ lines_after_header (first ∷ ps) in
    let e : after_first first (between_line_ends rest) ≡ lines_after_header (first ∷ between_line_ends rest) = subst P (sym s.2) refl in
    e ∙ ap lines_after_header (sym parts)

pub no_first : (bytes : List ℕ) → between_line_ends bytes ≡ bytes ∷ [] → reading bytes ≡ Err 1
unfolding reading
no_first bytes parts = ap lines_after_header parts

pub same_due : (d e : Result (List TraceLine) ℕ) (r : Result (Vec TraceLine) TraceFault) → d ≡ e → Reads d r → Reads e r
same_due d e r h g = subst (λ (x : Result (List TraceLine) ℕ). Reads x r) h g
