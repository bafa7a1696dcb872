-- What one or two writes leave in a sink.
use Rattle.std.proofs.Common.{◌≡◌, ◌≢◌, ℕ, suc, true, false, ◌+◌, List, [], ◌∷◌, ◌++◌, length, take, Option, Some, None, Result, Ok, Err, IsSome, IfSome, OnOk, OnErr, ◌↔◌, ◌⊎◌, inl, inr, refl, sym, ap, ◌∙◌, subst, arith, append_assoc, length-append}
use Rattle.nf_host.specs.Sink.{GrowsByFront}
use Rattle.nf_host.specs.declared.sink.SinkFailed.{SinkFailed}
use Rattle.nf_ends.specs.declared.end.End.{End}
use Rattle.nf_ends.specs.declared.end.End.TheVariants as end
use Rattle.nf_ends.specs.Ends.{error_line}
use Rattle.nf_ends.specs.Writes.{WroteLine, IsRefusal, IsKept}

-- P holds of the bytes before and after, if the sink reveals both
abbrev pub Grew : Option (List ℕ) → Option (List ℕ) → (List ℕ → List ℕ → Type 0) → Type 0
Grew old new P = IfSome old (λ before. IfSome new (λ after. P before after))

front_and : (p q : List ℕ) (n : ℕ) → take (length p + n) (p ++ q) ≡ p ++ take n q
front_and [] q n = ap (λ m. take m q) (let e : 0 + n ≡ n = omega arith in e)
front_and (x ∷ p) q n = ap (λ m. take m (x ∷ (p ++ q))) (let e : length (x ∷ p) + n ≡ suc (length p + n) = omega arith in e) ∙ ap (λ r. x ∷ r) (front_and p q n)

pub two_written : (a b c : Option (List ℕ)) (p q : List ℕ) → IsSome b ↔ IsSome a → Grew a b (λ x y. y ≡ x ++ p) → Grew b c (λ x y. y ≡ x ++ q) → Grew a c (λ x y. y ≡ x ++ (p ++ q))
two_written None b c p q told first second = tt
two_written (Some x) None c p q told first second = absurd (let h : false ≡ true = told.1 refl in cc)
two_written (Some x) (Some y) None p q told first second = tt
two_written (Some x) (Some y) (Some z) p q told first second = second ∙ ap (λ m. m ++ q) first ∙ append_assoc x p q

pub two_front : (a b c : Option (List ℕ)) (p q : List ℕ) → IsSome b ↔ IsSome a → Grew a b (λ x y. y ≡ x ++ p) → Grew b c (λ x y. GrowsByFront x q y) → Grew a c (λ x y. GrowsByFront x (p ++ q) y)
two_front None b c p q told first second = tt
two_front (Some x) None c p q told first second = absurd (let h : false ≡ true = told.1 refl in cc)
two_front (Some x) (Some y) None p q told first second = tt
two_front (Some x) (Some y) (Some z) p q told first second =
    let n = second.0 in
    (length p + n, omega (arith, length-append p q, second.1), second.2 ∙ ap (λ m. m ++ take n q) first ∙ append_assoc x p (take n q) ∙ ap (λ r. x ++ r) (sym (front_and p q n)))

pub kept : (e : End) → IsKept e e
kept end.Ok = refl
kept (end.TaskFailed p i n f) = refl
kept (end.ItemFault p f) = refl
kept (end.PublishClash c) = refl
kept (end.Charge n) = refl
kept (end.Usage f) = refl
kept end.NoScript = refl
kept (end.NoFile p) = refl
kept (end.FileTooLong p) = refl
kept (end.Lex p) = refl
kept (end.Parse p) = refl
kept (end.Lower p) = refl
kept (end.Order o) = refl
kept (end.BadParams p) = refl
kept end.HostFault = refl
kept end.LaneFault = refl
kept end.KeeperFault = refl
kept end.SinkFault = refl
kept (end.Damaged d f) = refl
kept end.Mem = tt

module _ (a b : Option (List ℕ)) (line : List ℕ) (rose : Type 0) where
  came : (r : Result (Unit {0}) SinkFailed) → OnErr r rose → Grew a b (λ x y. GrowsByFront x line y) → Grew a b (λ x y. OnOk r (y ≡ x ++ line)) → Grew a b (λ x y. (y ≡ x ++ line) ⊎ (rose × GrowsByFront x line y))
  came r cause front all = went a b r cause front all
    where
      went : (a b : Option (List ℕ)) (r : Result (Unit {0}) SinkFailed) → OnErr r rose → Grew a b (λ x y. GrowsByFront x line y) → Grew a b (λ x y. OnOk r (y ≡ x ++ line)) → Grew a b (λ x y. (y ≡ x ++ line) ⊎ (rose × GrowsByFront x line y))
      went None b r cause front all = tt
      went (Some x) None r cause front all = tt
      went (Some x) (Some y) (Ok u) cause front all = inl all
      went (Some x) (Some y) (Err e) cause front all = inr (cause, front)

pub wrote_line : (a b : Option (List ℕ)) (e : End) (rose : Type 0) (r : Result (Unit {0}) SinkFailed) → IsRefusal e → e ≢ end.Mem → OnErr r rose → Grew a b (λ x y. GrowsByFront x (error_line e) y) → Grew a b (λ x y. OnOk r (y ≡ x ++ error_line e)) → Grew a b (WroteLine e rose)
wrote_line a b end.Ok rose r refusal other cause front all = absurd refusal
wrote_line a b (end.TaskFailed p i n f) rose r refusal other cause front all =
    came a b (error_line (end.TaskFailed p i n f)) rose r cause front all
wrote_line a b (end.ItemFault p f) rose r refusal other cause front all =
    came a b (error_line (end.ItemFault p f)) rose r cause front all
wrote_line a b (end.PublishClash c) rose r refusal other cause front all =
    came a b (error_line (end.PublishClash c)) rose r cause front all
wrote_line a b (end.Charge n) rose r refusal other cause front all =
    came a b (error_line (end.Charge n)) rose r cause front all
wrote_line a b (end.Usage f) rose r refusal other cause front all =
    came a b (error_line (end.Usage f)) rose r cause front all
wrote_line a b end.NoScript rose r refusal other cause front all =
    came a b (error_line end.NoScript) rose r cause front all
wrote_line a b (end.NoFile p) rose r refusal other cause front all =
    came a b (error_line (end.NoFile p)) rose r cause front all
wrote_line a b (end.FileTooLong p) rose r refusal other cause front all =
    came a b (error_line (end.FileTooLong p)) rose r cause front all
wrote_line a b (end.Lex p) rose r refusal other cause front all =
    came a b (error_line (end.Lex p)) rose r cause front all
wrote_line a b (end.Parse p) rose r refusal other cause front all =
    came a b (error_line (end.Parse p)) rose r cause front all
wrote_line a b (end.Lower p) rose r refusal other cause front all =
    came a b (error_line (end.Lower p)) rose r cause front all
wrote_line a b (end.Order o) rose r refusal other cause front all =
    came a b (error_line (end.Order o)) rose r cause front all
wrote_line a b (end.BadParams p) rose r refusal other cause front all =
    came a b (error_line (end.BadParams p)) rose r cause front all
wrote_line a b end.HostFault rose r refusal other cause front all =
    came a b (error_line end.HostFault) rose r cause front all
wrote_line a b end.LaneFault rose r refusal other cause front all =
    came a b (error_line end.LaneFault) rose r cause front all
wrote_line a b end.KeeperFault rose r refusal other cause front all =
    came a b (error_line end.KeeperFault) rose r cause front all
wrote_line a b end.SinkFault rose r refusal other cause front all = absurd refusal
wrote_line a b (end.Damaged d f) rose r refusal other cause front all =
    came a b (error_line (end.Damaged d f)) rose r cause front all
wrote_line a b end.Mem rose r refusal other cause front all = absurd (other refl)

pub wrote_text : (a b : Option (List ℕ)) (e : End) (rose : Type 0) (r : Result (Unit {0}) SinkFailed) (line : List ℕ) → line ≡ error_line e → IsRefusal e → e ≢ end.Mem → OnErr r rose → Grew a b (λ x y. GrowsByFront x line y) → Grew a b (λ x y. OnOk r (y ≡ x ++ line)) → Grew a b (WroteLine e rose)
wrote_text a b e rose r line is refusal other cause front all =
    wrote_line a b e rose r refusal other cause (subst (λ l. Grew a b (λ x y. GrowsByFront x l y)) is front) (subst (λ l. Grew a b (λ x y. OnOk r (y ≡ x ++ l))) is all)
