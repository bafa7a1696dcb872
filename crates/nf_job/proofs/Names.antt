-- The pieces of a folder's name.
use Rattle.std.proofs.Common.{◌≡◌, ℕ, List, [], ◌∷◌, ◌++◌, length, take, drop, Result, Ok, Err, ◌==◌, true, Some, eq-eqb, ap, sym, append_assoc}
use Rattle.std.specs.Result.{OnOk, IsOk}
use Rattle.std.proofs.lemmas.List.{take_rest}
use Rattle.hex.specs.Hex.{encode_lower}
use Rattle.nf_job.specs.JobText.{work_path, old_text, old_text_of}
use Rattle.nf_job.specs.declared.parts.JobParts.{JobParts}

pub when_ok : {T E : Type 0} {P : Type 0} (r : Result T E) → OnOk r P → IsOk r → P
when_ok (Ok x) h k = h
when_ok (Err e) h k = absurd (cc)

pub old_here : (p : JobParts) (t : List ℕ) → p.attempt ≡ 1 → t ≡ old_text p → Some t ≡ old_text_of p
old_here p t one is = let b : (p.attempt == 1) ≡ true = eq-eqb p.attempt 1 one in rw b (ap Some is)

rest_of : (k : List ℕ) → length k ≡ 32 → take 31 (drop 1 k) ≡ drop 1 k
rest_of k size = let e = take_rest k 1 in rw size at e

pub named : (k first slash others : List ℕ) → length k ≡ 32 → first ≡ encode_lower (take 1 k) → slash ≡ 47 ∷ [] → others ≡ encode_lower (take 31 (drop 1 k)) → first ++ (slash ++ others) ≡ work_path k
named k first slash others size p q r = rw (p, q, r, rest_of k size) (sym (append_assoc (encode_lower (take 1 k)) (47 ∷ []) (encode_lower (drop 1 k))))
