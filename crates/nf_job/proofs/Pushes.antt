-- Items pushed one after another.
use Rattle.std.proofs.Common.{◌≡◌, List, [], ◌∷◌, ◌++◌, append_assoc}

pub five_pushed : {A : Type 0} (u v w x y z : List A) (a b c d e p q r : A) → v ≡ u ++ a ∷ [] → w ≡ v ++ b ∷ [] → x ≡ w ++ c ∷ [] → y ≡ x ++ d ∷ [] → z ≡ y ++ e ∷ [] → a ≡ p → b ≡ q → c ≡ r
    → z ≡ u ++ (p ∷ q ∷ r ∷ d ∷ e ∷ [])
five_pushed u v w x y z a b c d e p q r s1 s2 s3 s4 s5 f g h = rw (s5, s4, s3, s2, s1, f, g, h) (simp append_assoc)

pub four_pushed : {A : Type 0} (u v w x y z more : List A) (a b c d : A) → u ≡ [] → v ≡ u ++ a ∷ [] → w ≡ v ++ b ∷ [] → x ≡ w ++ c ∷ [] → y ≡ x ++ d ∷ [] → z ≡ y ++ more
    → z ≡ a ∷ b ∷ c ∷ d ∷ more
four_pushed u v w x y z more a b c d s0 s1 s2 s3 s4 s5 = rw (s5, s4, s3, s2, s1, s0)
