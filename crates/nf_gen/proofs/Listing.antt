-- The items of a script, one after the other.
use Rattle.std.proofs.Common.{◌≡◌, ◌≢◌, ℕ, suc, ◌+◌, ◌-◌, ◌<◌, List, ◌∷◌, ◌++◌, codes, decimal, sym, ◌∙◌, ap, arith, append_assoc}
use Rattle.std.specs.Prelude.{flat_map}
use Rattle.nf_gen.specs.Script.{next, item_of, items, listed}

-- items, with `, ` before each
abbrev pub more : List ℕ → List ℕ
more = flat_map (λ i. codes ", " ++ decimal i)

-- the items after x, if there is one, by the number y after it
items_after : (n m x y : ℕ) → n ≡ suc m → y ≡ next x → items n x ≡ item_of y ∷ items m y
items_after n m x y e ey = ap (λ k. items k x) e ∙ ap (λ z. item_of z ∷ items m z) (sym ey)

-- one item more was written
pub next_item : (n d x y : ℕ) (a b c whole : List ℕ) → d < n → y ≡ next x → b ≡ a ++ codes ", " → c ≡ b ++ decimal (item_of y) →
    a ++ more (items (n - d) x) ≡ whole → c ++ more (items (n - (d + 1)) y) ≡ whole
next_item n d x y a b c whole lt ey eb ec h =
    let mark = codes ", " in
    let item = decimal (item_of y) in
    let rest = more (items (n - (d + 1)) y) in
    let one_less : n - d ≡ suc (n - (d + 1)) = omega arith in
    ap (λ t. t ++ rest) (ec ∙ ap (λ t. t ++ item) eb) ∙ append_assoc (a ++ mark) item rest ∙ append_assoc a mark (item ++ rest)
    ∙ ap (λ t. a ++ t) (sym (append_assoc mark item rest)) ∙ ap (λ is. a ++ more is) (sym (items_after (n - d) (n - (d + 1)) x y one_less ey)) ∙ h

-- the first item and those after it are all of them
pub first_then : (n x y : ℕ) (a b : List ℕ) → n ≢ 0 → y ≡ next x → b ≡ a ++ decimal (item_of y) → b ++ more (items (n - 1) y) ≡ a ++ listed (items n x)
first_then n x y a b some ey eb =
    let one_less : n ≡ suc (n - 1) = omega arith in
    ap (λ t. t ++ more (items (n - 1) y)) eb ∙ append_assoc a (decimal (item_of y)) (more (items (n - 1) y)) ∙ ap (λ is. a ++ listed is) (sym (items_after n (n - 1) x y one_less ey))
