-- Lists with the same files, each as often, clash alike.
use Rattle.std.proofs.Common.{◌≡◌, ℕ, ◌≤◌, List, [], ◌∷◌, Bool, true, false, ap, sym, ◌∙◌, arith, inl, inr}
use Rattle.std.specs.Prelude.{◌||◌, ◌&&◌, bytes_eq, Option}
use Rattle.std.specs.List.{list_any}
use Rattle.std.proofs.lemmas.Bool.{cases_Bool, true≢false}
use Rattle.nf_bag.specs.Bag.{IsSameBag}
use Rattle.nf_bag.specs.Tests.{IsSameByTests}
use Rattle.nf_opstream.proofs.Pushes.{same_bag}
use Rattle.nf_opstream.proofs.Tally.{Same, count_is_passes, one_if, passes, same_map}
use Rattle.nf_value.specs.Plain.{text}
use Rattle.nf_tasks.specs.declared.target_list.Target.{Target}
use Rattle.nf_meaning.specs.Report.{publish_line, publish_texts}
use Rattle.nf_publish.specs.declared.fault.Clash.{Clash}
use Rattle.nf_host.specs.Files.{Files}
use Rattle.nf_publish.specs.Copies.{AreCopied, IsTrueOf, KeepsRest, is_target}
use Rattle.nf_publish.specs.declared.fault.CopyRefusal.{CopyRefusal}
use Rattle.nf_publish.specs.declared.fault.CopyRefusal.TheVariants as copy
use Rattle.nf_publish.specs.Targets.{HaveOneContent, IsFirstClash, IsPublished}

pub by_tests : {A : Type 0} (a z : List A) → IsSameByTests a z → Same a z
by_tests a z h = record { at = λ p. sym (count_is_passes p a) ∙ h.at p ∙ count_is_passes p z }

any_passes : {A : Type 0} (p : A → Bool) (xs : List A) → list_any p xs ≡ true → 1 ≤ passes p xs
any_passes p [] h = absurd cc
any_passes p (x ∷ xs) h = elim (cases_Bool (p x)) [
  | inl e ↦ (let a : one_if (p x) ≡ 1 = ap one_if e in omega (arith, a))
  | inr e ↦ (let rest : list_any p xs ≡ true = sym (ap (λ b. b || list_any p xs) e) ∙ h in let z = any_passes p xs rest in omega (arith, z))
]

passes_any : {A : Type 0} (p : A → Bool) (xs : List A) → 1 ≤ passes p xs → list_any p xs ≡ true
passes_any p [] h = absurd (omega (arith, h))
passes_any p (x ∷ xs) h = elim (cases_Bool (p x)) [
  | inl e ↦ ap (λ b. b || list_any p xs) e
  | inr e ↦ (let a : one_if (p x) ≡ 0 = ap one_if e in ap (λ b. b || list_any p xs) e ∙ passes_any p xs (omega (arith, a, h)))
]

module _ (ts us : List Target) (same : Same ts us) where
  there : (path d : List ℕ) → IsPublished ts path d → IsPublished us path d
  there path d h =
      let p : Target → Bool = λ t. bytes_eq t.name path && bytes_eq t.digest.0 d in
      let some = any_passes p ts h in
      let at = same.at p in
      passes_any p us (omega (arith, some, at))

  back : (path d : List ℕ) → IsPublished us path d → IsPublished ts path d
  back path d h =
      let p : Target → Bool = λ t. bytes_eq t.name path && bytes_eq t.digest.0 d in
      let some = any_passes p us h in
      let at = same.at p in
      passes_any p ts (omega (arith, some, at))

  pub first_there : (c : Clash) → IsFirstClash ts c → IsFirstClash us c
  first_there c h = record {
    first = there c.target c.first.0 h.first;
    second = there c.target c.second.0 h.second;
    apart = h.apart;
    least = λ d p. h.least d (back c.target d p);
    earliest = λ path d e p q l. h.earliest path d e (back path d p) (back path e q) l;
  }

  pub one_there : HaveOneContent ts → HaveOneContent us
  one_there h = λ path d e p q. h path d e (back path d p) (back path e q)

  is_there : (path : List ℕ) → is_target ts path ≡ true → is_target us path ≡ true
  is_there path h =
      let p : Target → Bool = λ t. bytes_eq t.name path in
      let some = any_passes p ts h in
      let at = same.at p in
      passes_any p us (omega (arith, some, at))

  no_target : (path : List ℕ) → is_target us path ≡ false → is_target ts path ≡ false
  no_target path h = elim (cases_Bool (is_target ts path)) [
    | inl e ↦ absurd (true≢false (sym (is_there path e) ∙ h))
    | inr e ↦ e
  ]

  copied_there : (g : Files) → AreCopied ts g → AreCopied us g
  copied_there g copied one path d p = copied (λ q a z x y. one q a z (there q a x) (there q z y)) path d (back path d p)

  rest_there : (f g : Files) → KeepsRest ts f g → KeepsRest us f g
  rest_there f g keeps path h = keeps path (no_target path h)

  true_there : (work : List ℕ) (now : Option Files) (e : CopyRefusal) → IsTrueOf work ts now e → IsTrueOf work us now e
  true_there work now (copy.Host h) is = tt
  true_there work now (copy.Damaged due found) is = ((is.0.0, there is.0.0 due.0 is.0.1), is.1)

  pub texts_same : IsSameBag (publish_texts ts) (publish_texts us)
  texts_same = same_bag (same_map (λ (t : Target). text (publish_line t)) same)

-- ---- what copying says of them

pub copied_alike : (ts us : List Target) (g : Files) → IsSameByTests ts us → AreCopied ts g → AreCopied us g
copied_alike ts us g same = copied_there ts us (by_tests ts us same) g

pub rest_alike : (ts us : List Target) (f g : Files) → IsSameByTests ts us → KeepsRest ts f g → KeepsRest us f g
rest_alike ts us f g same = rest_there ts us (by_tests ts us same) f g

pub true_alike : (ts us : List Target) (work : List ℕ) (now : Option Files) (e : CopyRefusal) → IsSameByTests ts us → IsTrueOf work ts now e → IsTrueOf work us now e
true_alike ts us work now e same = true_there ts us (by_tests ts us same) work now e
