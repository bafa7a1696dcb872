-- Names that are called, as a set in memory has them and as the list of a body's calls has them.
use Rattle.std.proofs.Common.{◌≡◌, ℕ, true, false, ◌||◌, List, [], ◌∷◌, map, string_bytes, refl, sym, ap, ◌∙◌, inl, inr}
use Rattle.std.specs.Prelude.{String}
use Rattle.std.specs.Global.{Global}
use Rattle.std.specs.HashSet.{HashSet, contains_text}
use Rattle.std.specs.List.{list_any}
use Rattle.std.specs.Str.{bytes_eq}
use Rattle.std.proofs.lemmas.Bool.{cases_Bool}
use Rattle.std.proofs.lemmas.Slice.Eq.{bytes_eq-Decides}
use Rattle.nf_builtins.specs.Natives.{is_among}

turned : (a b : List ℕ) → bytes_eq a b ≡ bytes_eq b a
turned a b = elim (cases_Bool (bytes_eq a b)) [
  | inl t ↦ t ∙ sym ((bytes_eq-Decides b a).1 (sym ((bytes_eq-Decides a b).0 t)))
  | inr f ↦ elim (cases_Bool (bytes_eq b a)) [
    | inl t ↦ absurd (let e : true ≡ false = sym ((bytes_eq-Decides a b).1 (sym ((bytes_eq-Decides b a).0 t))) ∙ f in cc)
    | inr g ↦ f ∙ sym g
  ]
]

any_turned : (n : List ℕ) (ks : List (String Global)) → list_any (λ k. bytes_eq n (string_bytes k)) ks ≡ is_among n (map string_bytes ks)
any_turned n [] = refl
any_turned n (k ∷ ks) =
    ap (λ b. b || list_any (λ (q : String Global). bytes_eq n (string_bytes q)) ks) (turned n (string_bytes k)) ∙ ap (λ b. bytes_eq (string_bytes k) n || b) (any_turned n ks)

pub contains_is : {S : Type 0} (s : HashSet (String Global) S) (n : List ℕ) → contains_text s n ≡ is_among n (map string_bytes s.keys)
contains_is s n = any_turned n s.keys
