-- Writing files in a folder, one after another.
use Rattle.std.proofs.Common.{◌≡◌, ℕ, ◌+◌, ◌<◌, ◌≤◌, List, length, get_or, drop, String, Global, string_bytes, true, false, bytes_eq, refl, sym, ap, ◌∙◌, add-one, true≢false}
use Rattle.std.proofs.Math.Seq.{drop-cons}
use Rattle.std.proofs.lemmas.List.{drop_all}
use Rattle.nf_host.specs.Files.{Files, put}
use Rattle.nf_host.specs.Folders.{path_in, is_in, KeepsOutside}
use Rattle.nf_host.specs.MemFiles.{written, removed, without}
use Rattle.nf_host.proofs.Paths.{in_folder, text_same}

pub write_more : (m n : Files) (dir : List ℕ) (items : List (List ℕ × List ℕ)) (i : ℕ) (e : List ℕ × List ℕ) → i < length items → e ≡ get_or items i e → n ≡ put m (path_in dir e.0) e.1 → written n dir (drop (i + 1) items) ≡ written m dir (drop i items)
write_more m n dir items i e h is p =
    ap (λ f. written f dir (drop (i + 1) items)) p ∙ sym (rw (drop-cons items i e, ← is, add-one))

pub write_none : (m : Files) (dir : List ℕ) (items : List (List ℕ × List ℕ)) (i : ℕ) → length items ≤ i → written m dir (drop i items) ≡ m
write_none m dir items i h = rw drop_all

-- a path outside of the folder is none of its names'
other_path : (dir name q : List ℕ) → is_in dir q ≡ false → bytes_eq q (path_in dir name) ≡ false
other_path dir name q out =
    elim (bytes_eq q (path_in dir name)) as (λ b. bytes_eq q (path_in dir name) ≡ b → b ≡ false) [
      | true ↦ λ t. absurd (true≢false (sym (in_folder dir name) ∙ ap (is_in dir) (sym (text_same q (path_in dir name) t)) ∙ out))
      | false ↦ λ f. refl
    ] refl

pub put_inside : (f g : Files) (dir name bytes : List ℕ) → g ≡ put f (path_in dir name) bytes → KeepsOutside dir f g
put_inside f g dir name bytes e q out = ap (λ h. h q) e ∙ rw (other_path dir name q out) refl

pub same_outside : (f g : Files) (dir : List ℕ) → g ≡ f → KeepsOutside dir f g
same_outside f g dir e q out = ap (λ h. h q) e

-- ---- removing files, one after another

pub remove_more : (m n : Files) (paths : List (String Global)) (i : ℕ) (e : String Global) → i < length paths → e ≡ get_or paths i e → n ≡ removed m (string_bytes e) → without n (drop (i + 1) paths) ≡ without m (drop i paths)
remove_more m n paths i e h is p =
    ap (λ f. without f (drop (i + 1) paths)) p ∙ sym (rw (drop-cons paths i e, ← is, add-one))

pub remove_none : (m : Files) (paths : List (String Global)) (i : ℕ) → length paths ≤ i → without m (drop i paths) ≡ m
remove_none m paths i h = rw drop_all
