-- An operator whose close depends on the bag of its input meets `IsOperator`.
use Rattle.std.proofs.Common.{◌≡◌, ℕ, List, [], ◌∷◌, ◌++◌, refl, ap, sym, ◌∙◌, subst, arith, append-nil}
use Rattle.std.specs.Prelude.{Result, Err, count_by}
use Rattle.std.specs.List.{Contains, flat_map}
use Rattle.std.proofs.lemmas.List.Elements.{Contains-append_left, Contains-append_right}
use Rattle.nf_value.specs.Plain.{Plain}
use Rattle.nf_bag.specs.Bag.{IsSubBag, IsSameBag}
use Rattle.nf_opstream.specs.Push.{Push, IsSameInput}
use Rattle.nf_opstream.specs.Fault.{Fault}
use Rattle.nf_opstream.specs.Operator.{to_out, oks, errs, emitted, AreFine, IsOperator}
use Rattle.nf_opstream.specs.Alone.{each}
use Rattle.nf_opclose.specs.Closing.{closing}
use Rattle.nf_opclose.proofs.Bags.{count_by-append, same_both, sub_more}

module _ (f : Push → Result (List (ℕ × Plain)) Fault) (g : List Push → Result (List (ℕ × Plain)) Fault) where
  emitted_alike : (p : List Push) (out : ℕ) → emitted (closing f g) p out ≡ emitted (each f) p out
  emitted_alike [] out = refl
  emitted_alike (x ∷ p) out = ap (λ vs. vs ++ to_out out (oks (f x))) (emitted_alike p out)

  fine_alike : (p : List Push) → AreFine (closing f g) p → AreFine (each f) p
  fine_alike [] h = tt
  fine_alike (x ∷ p) h = (h.0, fine_alike p h.1)

  emitted_by : (op out : ℕ) (es : List (ℕ × Plain)) (p : List Push) → emitted (closing f g) p out ++ to_out out es ≡ (emitted (each f) p out ++ []) ++ to_out out es
  emitted_by op out es p = (λ i. (emitted_alike p out ∙ sym (append-nil (emitted (each f) p out))) i ++ to_out out es)

  pub closing_law : IsOperator (each f) → ((p q : List Push) → IsSameInput p q → g p ≡ g q) → IsOperator (closing f g)
  closing_law law alike = record {
    items_by_bag = λ p q out s. (
        let e = ap (λ r. to_out out (oks r)) (alike p q s) in
        same_both _ _ _ _ (law.items_by_bag p q out s) e);
    faults_by_bag = λ p q test s. (
        let e = ap (λ r. count_by test (errs r)) (alike p q s) in
        omega (arith, count_by-append test (flat_map (λ x. errs (f x)) p) (errs (g p)), count_by-append test (flat_map (λ x. errs (f x)) q) (errs (g q)), law.faults_by_bag p q test s, e));
    sound = λ p q out fine w. (
        let s : IsSubBag (emitted (each f) p out) (flat_map (λ x. to_out out (oks (f x))) q) = law.sound p q out (fine_alike p fine) w in
        subst (λ vs. IsSubBag vs (flat_map (λ x. to_out out (oks (f x))) q ++ to_out out (oks (g q)))) (sym (emitted_alike p out)) (sub_more _ _ (to_out out (oks (g q))) s));
    whole = λ p q es out fine e s. (
        let k : to_out out es ≡ to_out out (oks (g q)) = ap (λ r. to_out out (oks r)) (sym e ∙ alike p q s) in
        let w : IsSameBag (emitted (each f) p out ++ []) (flat_map (λ x. to_out out (oks (f x))) q) = law.whole p q [] out (fine_alike p fine) refl s in
        subst (λ vs. IsSameBag vs (flat_map (λ x. to_out out (oks (f x))) q ++ to_out out (oks (g q)))) (sym (emitted_by 0 out es p)) (same_both _ _ _ _ w k));
    faultless = λ p q es fine e s. (
        let k : flat_map (λ x. errs (f x)) q ≡ [] = law.faultless p q [] (fine_alike p fine) refl s in
        let m : errs (g q) ≡ [] = ap errs (sym (alike p q s) ∙ e) in
        (λ i. k i ++ m i));
    push_fault = λ p q x h fine e w. Contains-append_left (flat_map (λ x. errs (f x)) q) (errs (g q)) h (law.push_fault p q x h (fine_alike p fine) e w);
    close_fault = λ p q h fine e s. (
        let k : g q ≡ Err h = sym (alike p q s) ∙ e in
        Contains-append_right (flat_map (λ x. errs (f x)) q) (errs (g q)) h (subst (λ r. Contains (errs r) h) (sym k) (0, omega arith, refl)));
  }
