-- For each row, that there is no such method exactly where it isn't read.
use Rattle.std.proofs.Common.{◌≡◌, ℕ, ℤ, false, not, ◌&&◌, List, [], ◌∷◌, Option, Some, None, Ok, Err, refl, sym}
use Rattle.std.specs.Prelude.{if◌then◌else◌, int_le, int_div, pos, nat_le, take, drop, length, ◌-◌, All}
use Rattle.std.proofs.lemmas.Bool.{false≢true}
use Rattle.std.proofs.lemmas.List.Elements.{All-from_recursion}
use Rattle.nf_value.specs.Plain.{Plain, null, truth, int, text, file, list, table}
use Rattle.nf_value.specs.declared.fault.EvalKind.TheVariants.{WrongKind, DivZero}
use Rattle.nf_builtins.specs.declared.rows.On.TheVariants as on
use Rattle.nf_texts.specs.Outcome.{Outcome, ◌>>=◌}
use Rattle.nf_builtins.specs.Rows.{is_on}
use Rattle.nf_builtins.specs.Call.{builtin_rows}
use Rattle.nf_builtins.specs.Reading.{is_no_method, IsReadAsSaid}
use Rattle.nf_texts.specs.Args.{no_args, one_arg, text_arg, int_arg, text_args, int_args, text_or, int_or}
use Rattle.nf_builtins.specs.Numbers.{number, size_of, quotient, integer_or_fault, to_integer}
use Rattle.nf_texts.specs.Texts.{count_arg, count_or_fault, part_from, part_between, substring_of, tokenize_of, replaced_or_fault, text_of}
use Rattle.nf_builtins.specs.Lists.{first_of, total_of, sum_of}
use Rattle.nf_texts.specs.Joined.{to_text}
use Rattle.nf_builtins.proofs.Read.{then_free, either_free, text_free, int_free, no_args_free, one_arg_free, text_arg_free, int_arg_free, count_arg_free, count_or_fault_free, text_args_free, int_args_free, number_free, int_row, text_row, list_row, file_row, map_row, text_list_row, text_list_map_row}

-- calls without arguments, and with some
bare : (args : List Plain) (o : Outcome) → is_no_method o ≡ false → is_no_method (no_args args >>= λ _. o) ≡ false
bare args o h = then_free (no_args args) (λ _. o) (no_args_free args) (λ _. h)

plain : (args : List Plain) (v : Plain) → is_no_method (no_args args >>= λ _. Ok v) ≡ false
plain args v = bare args (Ok v) refl

with_one : (args : List Plain) (g : Plain → Plain) → is_no_method (one_arg args >>= λ v. Ok (g v)) ≡ false
with_one args g = then_free (one_arg args) (λ v. Ok (g v)) (one_arg_free args) (λ v. refl)

with_text : (args : List Plain) (g : List ℕ → Plain) → is_no_method (text_arg args >>= λ t. Ok (g t)) ≡ false
with_text args g = then_free (text_arg args) (λ t. Ok (g t)) (text_arg_free args) (λ t. refl)

with_count : (args : List Plain) (g : ℕ → Plain) → is_no_method (count_arg args >>= λ n. Ok (g n)) ≡ false
with_count args g = then_free (count_arg args) (λ n. Ok (g n)) (count_arg_free args) (λ n. refl)

quotient_free : (a b : ℤ) → is_no_method (quotient a b) ≡ false
quotient_free a b = either_free {A = Plain} (int_le b (pos 0) && int_le (pos 0) b) (Err DivZero) (number (int_div a b)) refl (number_free (int_div a b))

first_free : (vs : List Plain) → is_no_method (first_of vs) ≡ false
first_free [] = refl
first_free (v ∷ vs) = refl

integer_free : (o : Option ℤ) → is_no_method (integer_or_fault o) ≡ false
integer_free (Some n) = refl
integer_free None = refl

total_free : (vs : List Plain) → is_no_method (total_of vs) ≡ false
total_free [] = refl
total_free (v ∷ vs) = then_free (int_or WrongKind v) _ (int_free v) (λ n. then_free (total_of vs) _ (total_free vs) (λ m. refl))

sum_free : (vs : List Plain) → is_no_method (sum_of vs) ≡ false
sum_free [] = refl
sum_free (v ∷ vs) = then_free (total_of (v ∷ vs)) number (total_free (v ∷ vs)) number_free

from_free : (cs : List ℕ) (i : ℕ) → is_no_method (part_from cs i) ≡ false
from_free cs i = either_free _ (Ok _) (Err WrongKind) refl refl

between_free : (cs : List ℕ) (i j : ℕ) → is_no_method (part_between cs i j) ≡ false
between_free cs i j =
    let inner = text_of (take (j - i) (drop i cs)) in
    either_free {A = Plain} (nat_le i j) (if nat_le j (length cs) then Ok inner else Err WrongKind) (Err WrongKind) (either_free {A = Plain} (nat_le j (length cs)) (Ok inner) (Err WrongKind) refl refl) refl

substring_free : (cs : List ℕ) (args : List Plain) → is_no_method (substring_of cs args) ≡ false
substring_free cs [] = refl
substring_free cs (i ∷ []) = then_free (count_or_fault i) (part_from cs) (count_or_fault_free i) (from_free cs)
substring_free cs (i ∷ j ∷ []) = then_free (count_or_fault i) _ (count_or_fault_free i) (λ m. then_free (count_or_fault j) _ (count_or_fault_free j) (λ n. between_free cs m n))
substring_free cs (i ∷ j ∷ k ∷ more) = refl

tokenize_free : (t : List ℕ) (args : List Plain) → is_no_method (tokenize_of t args) ≡ false
tokenize_free t [] = refl
tokenize_free t (a ∷ []) = then_free (text_or WrongKind a) _ (text_free a) (λ separators. refl)
tokenize_free t (a ∷ b ∷ more) = refl

replaced_free : (t a b : List ℕ) → is_no_method (replaced_or_fault t a b) ≡ false
replaced_free t a b = either_free _ (Err WrongKind) (Ok _) refl refl

integer_row : (v : Plain) (args : List Plain) → is_no_method (to_integer v args) ≡ not (is_on on.IntOrText v)
integer_row null args = refl
integer_row (truth b) args = refl
integer_row (int i) args = plain args (int i)
integer_row (text t) args = bare args _ (integer_free _)
integer_row (file n d l) args = refl
integer_row (list vs) args = refl
integer_row (table ps) args = refl

shown_row : (v : Plain) (args : List Plain) → is_no_method (to_text v args) ≡ not (is_on on.AnyButNull v)
shown_row null args = refl
shown_row (truth b) args = plain args _
shown_row (int i) args = plain args _
shown_row (text t) args = plain args _
shown_row (file n d l) args = plain args _
shown_row (list vs) args = plain args _
shown_row (table ps) args = plain args _

pub read_as_said : All IsReadAsSaid builtin_rows
read_as_said = All-from_recursion IsReadAsSaid builtin_rows (
  λ h recv args. then_free (int_arg args) _ (int_arg_free args) (λ n. number_free (size_of n)),
  (
    λ h recv args. then_free (int_args args) _ (int_args_free args) (λ p. refl),
    (
      λ h recv args. then_free (int_args args) _ (int_args_free args) (λ p. refl),
      (
        λ h. absurd (false≢true (sym h)),
        (
          λ h recv args. file_row _ (λ n. plain args _) recv,
          (
            λ h. absurd (false≢true (sym h)),
            (
              λ h recv args. text_list_row _ _ (λ t. with_text args _) (λ vs. with_one args _) recv,
              (
                λ h recv args. map_row _ (λ ps. with_text args _) recv,
                (
                  λ h recv args. text_list_row _ _ (λ t. with_count args _) (λ vs. with_count args _) recv,
                  (
                    λ h recv args. text_row _ (λ t. with_text args _) recv,
                    (
                      λ h. absurd (false≢true (sym h)),
                      (
                        λ h recv args. file_row _ (λ n. plain args _) recv,
                        (
                          λ h. absurd (false≢true (sym h)),
                          (
                            λ h. absurd (false≢true (sym h)),
                            (
                              λ h recv args. list_row _ (λ vs. bare args _ (first_free _)) recv,
                              (
                                λ h recv args. list_row _ (λ vs. plain args _) recv,
                                (
                                  λ h recv args. file_row _ (λ n. plain args _) recv,
                                  (
                                    λ h recv args. file_row _ (λ n. plain args _) recv,
                                    (
                                      λ h recv args. file_row _ (λ n. plain args _) recv,
                                      (
                                        λ h recv args. file_row _ (λ n. plain args _) recv,
                                        (
                                          λ h recv args. text_list_row _ _ (λ t. with_text args _) (λ vs. with_one args _) recv,
                                          (
                                            λ h recv args. int_row _ (λ a. then_free (int_arg args) _ (int_arg_free args) (λ b. quotient_free a b)) recv,
                                            (
                                              λ h recv args. text_list_map_row _ _ _ (λ t. plain args _) (λ vs. plain args _) (λ ps. plain args _) recv,
                                              (
                                                λ h recv args. text_row _ (λ t. plain args _) recv,
                                                (
                                                  λ h recv args. list_row _ (λ vs. with_text args _) recv,
                                                  (
                                                    λ h recv args. map_row _ (λ ps. plain args _) recv,
                                                    (
                                                      λ h recv args. list_row _ (λ vs. bare args _ (first_free _)) recv,
                                                      (
                                                        λ h recv args. text_row _ (λ t. plain args _) recv,
                                                        (
                                                          λ h recv args. list_row _ (λ vs. plain args _) recv,
                                                          (
                                                            λ h recv args. list_row _ (λ vs. plain args _) recv,
                                                            (
                                                              λ h recv args. file_row _ (λ n. plain args _) recv,
                                                              (
                                                                λ h recv args. text_row _ (λ t. then_free (text_args args) _ (text_args_free args) (λ p. replaced_free t p.0 p.1)) recv,
                                                                (
                                                                  λ h recv args. text_list_row _ _ (λ t. plain args _) (λ vs. plain args _) recv,
                                                                  (
                                                                    λ h recv args. file_row _ (λ n. plain args _) recv,
                                                                    (
                                                                      λ h recv args. text_list_map_row _ _ _ (λ t. plain args _) (λ vs. plain args _) (λ ps. plain args _) recv,
                                                                      (
                                                                        λ h recv args. list_row _ (λ vs. plain args _) recv,
                                                                        (
                                                                          λ h recv args. text_row _ (λ t. with_text args _) recv,
                                                                          (
                                                                            λ h recv args. text_row _ (λ t. substring_free _ args) recv,
                                                                            (
                                                                              λ h recv args. list_row _ (λ vs. bare args _ (sum_free vs)) recv,
                                                                              (
                                                                                λ h recv args. text_list_row _ _ (λ t. with_count args _) (λ vs. with_count args _) recv,
                                                                                (
                                                                                  λ h recv args. integer_row recv args,
                                                                                  (
                                                                                    λ h recv args. text_row _ (λ t. plain args _) recv,
                                                                                    (
                                                                                      λ h recv args. shown_row recv args,
                                                                                      (
                                                                                        λ h recv args. text_row _ (λ t. plain args _) recv,
                                                                                        (
                                                                                          λ h recv args. text_row _ (λ t. tokenize_free t args) recv,
                                                                                          (
                                                                                            λ h recv args. text_row _ (λ t. plain args _) recv,
                                                                                            (
                                                                                              λ h recv args. list_row _ (λ vs. plain args _) recv,
                                                                                              (λ h recv args. map_row _ (λ ps. plain args _) recv, tt),
                                                                                            ),
                                                                                          ),
                                                                                        ),
                                                                                      ),
                                                                                    ),
                                                                                  ),
                                                                                ),
                                                                              ),
                                                                            ),
                                                                          ),
                                                                        ),
                                                                      ),
                                                                    ),
                                                                  ),
                                                                ),
                                                              ),
                                                            ),
                                                          ),
                                                        ),
                                                      ),
                                                    ),
                                                  ),
                                                ),
                                              ),
                                            ),
                                          ),
                                        ),
                                      ),
                                    ),
                                  ),
                                ),
                              ),
                            ),
                          ),
                        ),
                      ),
                    ),
                  ),
                ),
              ),
            ),
          ),
        ),
      ),
    ),
  ),
)
