-- An operator that looks at each item by itself meets `IsOperator`.
use Rattle.std.proofs.Common.{◌≡◌, ℕ, List, [], ◌∷◌, true, false, cond, refl, sym, ◌∙◌, arith, inl, append-nil}
use Rattle.std.specs.Prelude.{Result, Ok, Err, is_ok}
use Rattle.std.specs.List.{flat_map}
use Rattle.std.proofs.lemmas.Bool.{true≢false}
use Rattle.nf_value.specs.Plain.{Plain}
use Rattle.nf_opstream.specs.Push.{Push}
use Rattle.nf_opstream.specs.Fault.{Fault}
use Rattle.nf_opstream.specs.Operator.{to_out, oks, errs, emitted, AreFine, IsOperator}
use Rattle.nf_value.specs.Truth.{truth_of}
use Rattle.nf_opstream.specs.Alone.{judged, each, alone}
use Rattle.nf_opstream.specs.Columns.{transposed}
use Rattle.nf_opstream.specs.Nested.{opened, leaves}
use Rattle.nf_opstream.specs.Rows.{first_out, pass_row, map_row, filter_row, flat_map_row, flatten_row, branched, branch_row, labelled, multi_map_row, transpose_row}
use Rattle.nf_opstream.proofs.Tally.{one_if, Same, tally-append, sub_flat_map, same_flat_map, sub_trans, sub_of_same, same_refl, same_trans, same_of_eq, count_is_passes}
use Rattle.nf_opstream.proofs.Members.{In, contains, in_flat_map}
use Rattle.nf_opstream.proofs.Pushes.{within_sub, input_same, in_input, sub_bag, same_bag, none_of_same}

abbrev sent : (Push → Result (List (ℕ × Plain)) Fault) → ℕ → Push → List Plain
sent f out x = to_out out (oks (f x))

each_emitted : (f : Push → Result (List (ℕ × Plain)) Fault) (p : List Push) (out : ℕ) → Same (emitted (each f) p out) (flat_map (sent f out) p)
each_emitted f [] out = same_refl []
each_emitted f (x ∷ p) out = record {
  at = λ t. omega (
    arith,
    (each_emitted f p out).at t,
    tally-append (λ y. one_if (t y)) (emitted (each f) p out) (sent f out x),
    tally-append (λ y. one_if (t y)) (sent f out x) (flat_map (sent f out) p),
  );
}

no_errs : (r : Result (List (ℕ × Plain)) Fault) → is_ok r ≡ true → errs r ≡ []
no_errs (Ok es) h = refl
no_errs (Err g) h = absurd (true≢false (sym h))

fine_faults : (f : Push → Result (List (ℕ × Plain)) Fault) (p : List Push) → AreFine (each f) p → flat_map (λ x. errs (f x)) p ≡ []
fine_faults f [] h = refl
fine_faults f (x ∷ p) h = rw (no_errs (f x) h.0) (fine_faults f p h.1)

pub each_law : (f : Push → Result (List (ℕ × Plain)) Fault) → IsOperator (each f)
each_law f = record {
  items_by_bag = λ p q out s. same_bag (same_flat_map (sent f out) (input_same s));
  faults_by_bag = λ p q test s. (
      let g = λ (x : Push). errs (f x) in
      count_is_passes test (flat_map g p) ∙ (same_flat_map g (input_same s)).at test ∙ sym (count_is_passes test (flat_map g q)));
  sound = λ p q out fine w. sub_bag (sub_trans (sub_of_same (each_emitted f p out)) (sub_flat_map (sent f out) (within_sub w)));
  whole = λ p q es out fine e s. (
      let z : [] ≡ es = cc in
      same_bag (rw (← z) (same_trans (same_of_eq (append-nil (emitted (each f) p out))) (same_trans (each_emitted f p out) (same_flat_map (sent f out) (input_same s))))));
  faultless = λ p q es fine e s. none_of_same (flat_map (λ x. errs (f x)) p) (flat_map (λ x. errs (f x)) q) (same_flat_map (λ x. errs (f x)) (input_same s)) (fine_faults f p fine);
  push_fault = λ p q x g fine e w. (
      let h : In g (errs (f x)) = rw e (inl refl) in
      contains g (flat_map (λ x. errs (f x)) q) (in_flat_map (λ x. errs (f x)) x g q (in_input x p q w) h));
  close_fault = λ p q g fine e s. cc;
}

pub alone_law : (f : Push → List (ℕ × Plain)) → IsOperator (alone f)
alone_law f = each_law (λ x. judged (f x))

pub pass_law : IsOperator pass_row
pass_law = alone_law (λ x. (0, x.item) ∷ [])

pub map_law : IsOperator map_row
map_law = alone_law (λ x. (0, x.answer) ∷ [])

pub filter_law : IsOperator filter_row
filter_law = alone_law (λ x. cond (truth_of x.answer) ((0, x.item) ∷ []) [])

pub flat_map_law : IsOperator flat_map_row
flat_map_law = alone_law (λ x. first_out (opened x.answer))

pub flatten_law : IsOperator flatten_row
flatten_law = alone_law (λ x. first_out (leaves x.item))

pub filtered_out : (x : Push) → truth_of x.answer ≡ false → judged (cond (truth_of x.answer) ((0, x.item) ∷ []) []) ≡ Ok []
filtered_out x h = rw h refl

pub filtered_in : (x : Push) → truth_of x.answer ≡ true → ◌≡◌ {A = List (ℕ × Plain)} ((0, x.item) ∷ []) (cond (truth_of x.answer) ((0, x.item) ∷ []) [])
filtered_in x h = rw h refl

pub branch_law : (outs : ℕ) → IsOperator (branch_row outs)
branch_law outs = alone_law (λ x. branched outs x.answer x.item)

pub multi_map_law : (outs : ℕ) → IsOperator (multi_map_row outs)
multi_map_law outs = alone_law (λ x. labelled outs x.answer)

pub transpose_law : IsOperator transpose_row
transpose_law = each_law (λ x. transposed x.item)
