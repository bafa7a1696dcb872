-- No file of the store lies in a job's folder, and no digest has another's place.
use Rattle.std.proofs.Common.{◌≡◌, ℕ, zero, suc, ◌==◌, ◌/◌, List, [], ◌∷◌, ◌++◌, drop, true, false, Option, None, Some, is_some, codes, bytes_eq, refl, sym, ap, ◌∙◌, true≢false, append_assoc, slice_index}
use Rattle.hex.specs.Hex.{encode_lower, encode_with, lower_digits}
use Rattle.nf_job.specs.JobText.{work_path}
use Rattle.nf_host.specs.Folders.{path_in, name_in, is_in}
use Rattle.nf_host.proofs.Paths.{same_name, path_of_name, text_itself}
use Rattle.nf_shell.specs.Places.{job_dir, stored_at}

-- no digit is a dot
no_dot : (n : ℕ) → (46 == slice_index lower_digits n) ≡ false
no_dot zero = refl
no_dot (suc zero) = refl
no_dot (suc (suc zero)) = refl
no_dot (suc (suc (suc zero))) = refl
no_dot (suc (suc (suc (suc zero)))) = refl
no_dot (suc (suc (suc (suc (suc zero))))) = refl
no_dot (suc (suc (suc (suc (suc (suc zero)))))) = refl
no_dot (suc (suc (suc (suc (suc (suc (suc zero))))))) = refl
no_dot (suc (suc (suc (suc (suc (suc (suc (suc zero)))))))) = refl
no_dot (suc (suc (suc (suc (suc (suc (suc (suc (suc zero))))))))) = refl
no_dot (suc (suc (suc (suc (suc (suc (suc (suc (suc (suc zero)))))))))) = refl
no_dot (suc (suc (suc (suc (suc (suc (suc (suc (suc (suc (suc zero))))))))))) = refl
no_dot (suc (suc (suc (suc (suc (suc (suc (suc (suc (suc (suc (suc zero)))))))))))) = refl
no_dot (suc (suc (suc (suc (suc (suc (suc (suc (suc (suc (suc (suc (suc zero))))))))))))) = refl
no_dot (suc (suc (suc (suc (suc (suc (suc (suc (suc (suc (suc (suc (suc (suc zero)))))))))))))) = refl
no_dot (suc (suc (suc (suc (suc (suc (suc (suc (suc (suc (suc (suc (suc (suc (suc zero))))))))))))))) = refl
no_dot (suc (suc (suc (suc (suc (suc (suc (suc (suc (suc (suc (suc (suc (suc (suc (suc n)))))))))))))))) = refl

-- a path in a folder in a folder
nested : (w : List ℕ) (c : ℕ) (a b : List ℕ) → path_in (path_in w (c ∷ a)) b ≡ path_in w ((c ∷ a) ++ (47 ∷ b))
nested [] c a b = refl
nested (d ∷ w) c a b = append_assoc (d ∷ w) (47 ∷ c ∷ a) (47 ∷ b)

dotted : (k r s : List ℕ) → bytes_eq (46 ∷ s) (work_path k ++ r) ≡ false
unfolding encode_with
dotted [] r s = refl
dotted (x ∷ k) r s = rw (no_dot (x / 16)) refl

work_path_head : (k r : List ℕ) (w : List ℕ) (s : List ℕ) → bytes_eq (path_in w (46 ∷ s)) (path_in w (work_path k ++ r)) ≡ false
work_path_head k r w s = same_name w (46 ∷ s) (work_path k ++ r) ∙ dotted k r s

-- what follows the work folder in the path of a job's file
below_job : (w k name : List ℕ) → path_in (job_dir w k) name ≡ path_in w (work_path k ++ (47 ∷ name))
unfolding encode_with
below_job w [] name = nested w 47 (encode_lower (drop 1 [])) name
below_job w (x ∷ k) name =
    nested w (slice_index lower_digits (x / 16)) (drop 1 (work_path (x ∷ k))) name

-- what follows it in the path of a stored file
below_store : (w d : List ℕ) → stored_at w d ≡ path_in w (codes ".files" ++ (47 ∷ work_path d))
below_store w d = nested w 46 (drop 1 (codes ".files")) (work_path d)

pub apart : (w k d name : List ℕ) → bytes_eq (stored_at w d) (path_in (job_dir w k) name) ≡ false
apart w k d name =
    ap (λ p. bytes_eq p (path_in (job_dir w k) name)) (below_store w d)
    ∙ ap (bytes_eq (path_in w (codes ".files" ++ (47 ∷ work_path d)))) (below_job w k name)
    ∙ work_path_head k (47 ∷ name) w (drop 1 (codes ".files") ++ (47 ∷ work_path d))

-- the store lies outside of each job's folder
pub outside : (w k d : List ℕ) → is_in (job_dir w k) (stored_at w d) ≡ false
outside w k d = at (name_in (job_dir w k) (stored_at w d)) refl
  where
    at : (o : Option (List ℕ)) → name_in (job_dir w k) (stored_at w d) ≡ o → is_some o ≡ false
    at None e = refl
    at (Some name) e =
        let same : bytes_eq (stored_at w d) (path_in (job_dir w k) name) ≡ true = ap (bytes_eq (stored_at w d)) (sym (path_of_name (job_dir w k) (stored_at w d) name e)) ∙ text_itself (stored_at w d) in
        absurd (true≢false (sym same ∙ apart w k d name))
