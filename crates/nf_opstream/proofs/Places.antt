-- Values with their places.
use Rattle.std.proofs.Common.{◌≡◌, ℕ, suc, ◌+◌, ◌-◌, ◌<◌, List, [], ◌∷◌, ◌++◌, map, take, refl, ap, sym, ◌∙◌, arith, append_assoc, append-nil}
use Rattle.std.specs.List.{enumerate_from}
use Rattle.std.proofs.lemmas.List.{map-append}
use Rattle.std.proofs.Math.Seq.{take-nil}
use Rattle.nf_value.specs.Plain.{Plain}
use Rattle.nf_value.specs.View.{plain_of}
use Rattle.nf_value.specs.declared.value.Value.{Value}
use Rattle.nf_opstream.specs.Promise.{emit_of, emits_of}

step : (out outs : ℕ) (v : Plain) (vs : List Plain) → out < outs → enumerate_from out (take (outs - out) (v ∷ vs)) ≡ (out, v) ∷ enumerate_from (out + 1) (take (outs - (out + 1)) vs)
step out outs v vs h = let e : outs - out ≡ suc (outs - (out + 1)) = omega arith in rw e refl

pub place_more : (es new : List (ℕ × Value)) (out outs : ℕ) (v : Value) (rest left : List Value) (whole : List (ℕ × Plain)) → new ≡ es ++ (out, v) ∷ [] → left ≡ v ∷ rest → out < outs
    → emits_of es ++ enumerate_from out (take (outs - out) (map plain_of left)) ≡ whole → emits_of new ++ enumerate_from (out + 1) (take (outs - (out + 1)) (map plain_of rest)) ≡ whole
place_more es new out outs v rest left whole is front h k =
    let more = enumerate_from (out + 1) (take (outs - (out + 1)) (map plain_of rest)) in
    ap (λ z. emits_of z ++ more) is ∙ ap (λ z. z ++ more) (map-append emit_of es ((out, v) ∷ [])) ∙ append_assoc (emits_of es) ((out, plain_of v) ∷ []) more
    ∙ ap (λ z. emits_of es ++ z) (sym (step out outs (plain_of v) (map plain_of rest) h)) ∙ ap (λ z. emits_of es ++ enumerate_from out (take (outs - out) (map plain_of z))) (sym front) ∙ k

pub place_full : (es whole : List (ℕ × Plain)) (out outs : ℕ) (vs : List Plain) → out ≡ outs → es ++ enumerate_from out (take (outs - out) vs) ≡ whole → es ≡ whole
place_full es whole out outs vs h k = let e : outs - out ≡ 0 = omega arith in sym (append-nil es) ∙ ap (λ n. es ++ enumerate_from out (take n vs)) (sym e) ∙ k

pub place_end : (es whole : List (ℕ × Plain)) (out n : ℕ) (vs : List Plain) → vs ≡ [] → es ++ enumerate_from out (take n vs) ≡ whole → es ≡ whole
place_end es whole out n vs h k = sym (append-nil es) ∙ ap (λ z. es ++ enumerate_from out z) (sym (take-nil n)) ∙ ap (λ z. es ++ enumerate_from out (take n z)) (sym h) ∙ k
