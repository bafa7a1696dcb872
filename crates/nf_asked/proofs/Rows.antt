-- A command with a tree comes to one request.
use Rattle.std.proofs.Common.{◌≡◌, ℕ, ◌<◌, ◌≤◌, List, length, Option, Some, None, Result, Ok, Err, refl, sym, ap, subst, ◌∙◌, arith}
use Rattle.nf_ast.specs.Tree.{Tree}
use Rattle.nf_kinds.specs.declared.fault.Broken.{Broken}
use Rattle.nf_pairs.specs.Pairs.{put_all}
use Rattle.nf_params.specs.Params.{params_in}
use Rattle.nf_command.specs.declared.command.Command.{Command}
use Rattle.nf_ends.specs.declared.end.End.TheVariants as end
use Rattle.nf_request.specs.Held.{IsLonger}
use Rattle.nf_request.specs.Wishes.{Params, Wish, params_limit, wish_for, HasParamsFile, HasParams, AreInFile}
use Rattle.nf_request.specs.Steps.{IsOrdered, IsDisordered}
use Rattle.nf_asked.specs.Request.{Request, refused, formats, accepts, runs, HasParamsPath, RunComes, CheckComes}
use Rattle.nf_asked.specs.Request as row
use Rattle.nf_asked.specs.Answers.{IsOnly}

-- ---- options and results

pub one_some : {A : Type 0} {o : Option A} {a b : A} → o ≡ Some a → o ≡ Some b → a ≡ b
one_some {o = o} {a} {b} h k = let e : Some a ≡ Some b = sym h ∙ k in cc

pub some_none : {A : Type 0} {o : Option A} {a : A} → o ≡ Some a → o ≡ None → ⊥
some_none {o = o} {a} h k = let e : Some a ≡ None = sym h ∙ k in cc

pub one_ok : {A E : Type 0} {r : Result A E} {a b : A} → r ≡ Ok a → r ≡ Ok b → a ≡ b
one_ok {r = r} {a} {b} h k = let e : Ok a ≡ Ok b = sym h ∙ k in cc

pub one_err : {A E : Type 0} {r : Result A E} {a b : E} → r ≡ Err a → r ≡ Err b → a ≡ b
one_err {r = r} {a} {b} h k = let e : Err a ≡ Err b = sym h ∙ k in cc

pub ok_err : {A E : Type 0} {r : Result A E} {a : A} {e : E} → r ≡ Ok a → r ≡ Err e → ⊥
ok_err {r = r} {a} {e} h k = let d : Ok a ≡ Err e = sym h ∙ k in cc

-- ---- the parameter file

longer_none : {held : Option (List ℕ)} → IsLonger params_limit held → held ≡ None → ⊥
longer_none h k = subst (IsLonger params_limit) k h

longer_file : {held : Option (List ℕ)} {bytes : List ℕ} → IsLonger params_limit held → HasParamsFile held bytes → ⊥
longer_file {held} {bytes} h k =
    let long : params_limit < length bytes = subst (IsLonger params_limit) k.there h in
    let short : length bytes ≤ params_limit = k.short in
    omega arith

file_none : {held : Option (List ℕ)} {bytes : List ℕ} → HasParamsFile held bytes → held ≡ None → ⊥
file_none k h = some_none k.there h

one_file : {held : Option (List ℕ)} {a b : List ℕ} → HasParamsFile held a → HasParamsFile held b → a ≡ b
one_file h k = one_some h.there k.there

-- the bytes of the file of parameters that were read
pub record IsReadFrom (held : Option (List ℕ)) : Type 0 where
  pub bytes : List ℕ
  pub file : HasParamsFile held bytes
  pub params : Params
  pub read : params_in bytes ≡ Ok params

read_from : (w : Wish) {path : List ℕ} {held : Option (List ℕ)} {ps : Params} → w.params_file ≡ Some path → HasParams w held ps → IsReadFrom held
read_from w {path} {held} {ps} at h =
    let k : AreInFile (Some path) held h.0 = subst (λ (file : Option (List ℕ)). AreInFile file held h.0) at h.1 in
    record { bytes = k.0; file = k.1; params = h.0; read = k.2 }

one_in_file : (file held : Option (List ℕ)) (a b : Params) → AreInFile file held a → AreInFile file held b → a ≡ b
one_in_file None held a b h k = h ∙ sym k
one_in_file (Some path) held a b h k =
    let same : h.0 ≡ k.0 = one_file h.1 k.1 in
    one_ok h.2 (subst (λ (bytes : List ℕ). params_in bytes ≡ Ok b) (sym same) k.2)

one_params : (w : Wish) (held : Option (List ℕ)) {a b : Params} → HasParams w held a → HasParams w held b → a ≡ b
one_params w held {a} {b} h k =
    h.2 ∙ ap (put_all w.params) (one_in_file w.params_file held h.0 k.0 h.1 k.1) ∙ sym k.2

-- ---- the rules of order

one_broken : {t : Tree} {a b : Broken} → IsDisordered t a → IsDisordered t b → a ≡ b
one_broken h k = one_some h.first k.first

ordered_broken : {t : Tree} {b : Broken} → IsOrdered t → IsDisordered t b → ⊥
ordered_broken h k = some_none k.first h.none

-- ---- one request

no_file_end : {p q : List ℕ} → p ≡ q → refused (end.NoFile p) ≡ refused (end.NoFile q)
no_file_end e = ap (λ v. refused (end.NoFile v)) e

long_file_end : {p q : List ℕ} → p ≡ q → refused (end.FileTooLong p) ≡ refused (end.FileTooLong q)
long_file_end e = ap (λ v. refused (end.FileTooLong v)) e

bad_params_end : {p q : List ℕ} → p ≡ q → refused (end.BadParams p) ≡ refused (end.BadParams q)
bad_params_end e = ap (λ v. refused (end.BadParams v)) e

order_end : {a b : Broken} → a ≡ b → refused (end.Order a) ≡ refused (end.Order b)
order_end e = ap (λ v. refused (end.Order v)) e

one_pointer : {held : Option (List ℕ)} {a b p q : List ℕ} → HasParamsFile held a → HasParamsFile held b → params_in a ≡ Err p → params_in b ≡ Err q → p ≡ q
one_pointer {held} {a} {b} {p} {q} h k x y =
    let same : a ≡ b = one_file h k in
    one_err x (subst (λ (bytes : List ℕ). params_in bytes ≡ Err q) (sym same) y)

bad_read : {held : Option (List ℕ)} {bytes pointer : List ℕ} → HasParamsFile held bytes → params_in bytes ≡ Err pointer → IsReadFrom held → ⊥
bad_read {held} {bytes} {pointer} h x r =
    let same : bytes ≡ r.bytes = one_file h r.file in
    ok_err r.read (subst (λ (b : List ℕ). params_in b ≡ Err pointer) same x)

module _ (c : Command) (t : Tree) (held : Option (List ℕ)) where
  absent_alone : {path : List ℕ} → HasParamsPath c path → held ≡ None → {o : Request} → RunComes c t held o → o ≡ refused (end.NoFile path)
  absent_alone at none (row.no_params path w n) = no_file_end (one_some w at)
  absent_alone at none (row.long_params path w l) = absurd (longer_none l none)
  absent_alone at none (row.bad_params path bytes pointer w f b) = absurd (file_none f none)
  absent_alone at none (row.disordered ps b h d) = absurd (file_none (read_from (wish_for c) at h).file none)
  absent_alone at none (row.run ps h d) = absurd (file_none (read_from (wish_for c) at h).file none)

  long_alone : {path : List ℕ} → HasParamsPath c path → IsLonger params_limit held → {o : Request} → RunComes c t held o → o ≡ refused (end.FileTooLong path)
  long_alone at long (row.no_params path w n) = absurd (longer_none long n)
  long_alone at long (row.long_params path w l) = long_file_end (one_some w at)
  long_alone at long (row.bad_params path bytes pointer w f b) = absurd (longer_file long f)
  long_alone at long (row.disordered ps b h d) = absurd (longer_file long (read_from (wish_for c) at h).file)
  long_alone at long (row.run ps h d) = absurd (longer_file long (read_from (wish_for c) at h).file)

  bad_alone : {path bytes pointer : List ℕ} → HasParamsPath c path → HasParamsFile held bytes → params_in bytes ≡ Err pointer → {o : Request} → RunComes c t held o → o ≡ refused (end.BadParams pointer)
  bad_alone at file bad (row.no_params path w n) = absurd (file_none file n)
  bad_alone at file bad (row.long_params path w l) = absurd (longer_file l file)
  bad_alone at file bad (row.bad_params path bytes pointer w f b) = bad_params_end (one_pointer f file b bad)
  bad_alone at file bad (row.disordered ps b h d) = absurd (bad_read file bad (read_from (wish_for c) at h))
  bad_alone at file bad (row.run ps h d) = absurd (bad_read file bad (read_from (wish_for c) at h))

  disordered_alone : {ps : Params} {b : Broken} → HasParams (wish_for c) held ps → IsDisordered t b → {o : Request} → RunComes c t held o → o ≡ refused (end.Order b)
  disordered_alone has broken (row.no_params path w n) = absurd (file_none (read_from (wish_for c) w has).file n)
  disordered_alone has broken (row.long_params path w l) = absurd (longer_file l (read_from (wish_for c) w has).file)
  disordered_alone has broken (row.bad_params path bytes pointer w f b) = absurd (bad_read f b (read_from (wish_for c) w has))
  disordered_alone has broken (row.disordered ps b h d) = order_end (one_broken d broken)
  disordered_alone has broken (row.run ps h d) = absurd (ordered_broken d broken)

  run_alone : {ps : Params} → HasParams (wish_for c) held ps → IsOrdered t → {o : Request} → RunComes c t held o → o ≡ runs c t ps
  run_alone has keeps (row.no_params path w n) = absurd (file_none (read_from (wish_for c) w has).file n)
  run_alone has keeps (row.long_params path w l) = absurd (longer_file l (read_from (wish_for c) w has).file)
  run_alone has keeps (row.bad_params path bytes pointer w f b) = absurd (bad_read f b (read_from (wish_for c) w has))
  run_alone has keeps (row.disordered ps b h d) = absurd (ordered_broken keeps d)
  run_alone has keeps (row.run ps h d) = ap (runs c t) (one_params (wish_for c) held h has)

  -- ---- each row stands alone

  pub only_absent : {path : List ℕ} → HasParamsPath c path → held ≡ None → IsOnly (RunComes c t held) (refused (end.NoFile path))
  only_absent {path} at none = record { is = row.no_params path at none; only = λ o h. absent_alone at none h }

  pub only_long : {path : List ℕ} → HasParamsPath c path → IsLonger params_limit held → IsOnly (RunComes c t held) (refused (end.FileTooLong path))
  only_long {path} at long = record { is = row.long_params path at long; only = λ o h. long_alone at long h }

  pub only_bad : {path bytes pointer : List ℕ} → HasParamsPath c path → HasParamsFile held bytes → params_in bytes ≡ Err pointer → IsOnly (RunComes c t held) (refused (end.BadParams pointer))
  only_bad {path} {bytes} {pointer} at file bad = record { is = row.bad_params path bytes pointer at file bad; only = λ o h. bad_alone at file bad h }

  pub only_disordered : {ps : Params} {b : Broken} → HasParams (wish_for c) held ps → IsDisordered t b → IsOnly (RunComes c t held) (refused (end.Order b))
  only_disordered {ps} {b} has broken = record { is = row.disordered ps b has broken; only = λ o h. disordered_alone has broken h }

  pub only_run : {ps : Params} → HasParams (wish_for c) held ps → IsOrdered t → IsOnly (RunComes c t held) (runs c t ps)
  only_run {ps} has keeps = record { is = row.run ps has keeps; only = λ o h. run_alone has keeps h }

-- ---- `fmt` and `check`

fails_alone : {t : Tree} {b : Broken} → IsDisordered t b → {o : Request} → CheckComes t o → o ≡ refused (end.Order b)
fails_alone broken (row.check_fails b d) = order_end (one_broken d broken)
fails_alone broken (row.check d) = absurd (ordered_broken d broken)

accepts_alone : {t : Tree} → IsOrdered t → {o : Request} → CheckComes t o → o ≡ accepts
accepts_alone keeps (row.check_fails b d) = absurd (ordered_broken keeps d)
accepts_alone keeps (row.check d) = refl

pub only_fails : {t : Tree} {b : Broken} → IsDisordered t b → IsOnly (CheckComes t) (refused (end.Order b))
only_fails {t} {b} broken = record { is = row.check_fails b broken; only = λ o h. fails_alone broken h }

pub only_accepts : {t : Tree} → IsOrdered t → IsOnly (CheckComes t) accepts
only_accepts keeps = record { is = row.check keeps; only = λ o h. accepts_alone keeps h }

pub only_formats : (t : Tree) → IsOnly (λ r. r ≡ formats t) (formats t)
only_formats t = record { is = refl; only = λ o h. h }
