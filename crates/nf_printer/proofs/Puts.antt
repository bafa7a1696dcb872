-- What several calls print, one after another.
use Rattle.std.proofs.Common.{◌≡◌, ℕ, Bool, List, ◌++◌, refl, sym, ap, ◌∙◌}
use Rattle.nf_token.specs.declared.token.Mark.TheVariants as m
use Rattle.nf_writer.specs.Ink.{Ink, inked}
use Rattle.nf_printer.specs.Levels.{within}
use Rattle.nf_printer.specs.Chains.{bracket}
use Rattle.nf_printer.proofs.Lists.{inked_more, within_split}

pub three : (o a b c : List ℕ) (xs ys zs ws : List Ink) → a ≡ o ++ inked xs → b ≡ a ++ inked ys → ws ≡ xs ++ ys ++ zs → c ≡ b ++ inked zs → c ≡ o ++ inked ws
three o a b c xs ys zs ws p q e r = inked_more o b c (xs ++ ys) zs (inked_more o a b xs ys p q) r ∙ ap (λ v. o ++ inked v) (sym e)

-- in brackets where there have to be some, and more after it
pub held : (o a b c d : List ℕ) (h : Bool) (x ys ws : List Ink) → a ≡ o ++ inked (bracket h m.OpenRound) → b ≡ a ++ inked x → c ≡ b ++ inked (bracket h m.CloseRound) → ws ≡ within h x ++ ys → d ≡ c ++ inked ys → d ≡ o ++ inked ws
held o a b c d h x ys ws p q r e s =
    let k = inked_more o b c (bracket h m.OpenRound ++ x) (bracket h m.CloseRound) (inked_more o a b (bracket h m.OpenRound) x p q) r in
    inked_more o c d (within h x) ys (k ∙ ap (λ v. o ++ inked v) (sym (within_split h x))) s ∙ ap (λ v. o ++ inked v) (sym e)

-- one part more of what a loop prints
pub moves : (a b t : List ℕ) (s r w : List Ink) → b ≡ a ++ inked s → a ++ inked w ≡ t → w ≡ s ++ r → b ++ inked r ≡ t
moves a b t s r w p q e = inked_more a b (b ++ inked r) s r p refl ∙ ap (λ v. a ++ inked v) (sym e) ∙ q

-- with what stands before the brackets
pub before_held : (o a b c d : List ℕ) (h : Bool) (k x ws : List Ink) → a ≡ o ++ inked k → b ≡ a ++ inked (bracket h m.OpenRound) → c ≡ b ++ inked x → ws ≡ k ++ within h x → d ≡ c ++ inked (bracket h m.CloseRound) → d ≡ o ++ inked ws
before_held o a b c d h k x ws p q r e s =
    let inside = inked_more a c d (bracket h m.OpenRound ++ x) (bracket h m.CloseRound) (inked_more a b c (bracket h m.OpenRound) x q r) s in
    inked_more o a d k (within h x) p (inside ∙ ap (λ v. a ++ inked v) (sym (within_split h x))) ∙ ap (λ v. o ++ inked v) (sym e)

-- with what stands on both sides
pub round_held : (o a b c d f : List ℕ) (h : Bool) (k x ys ws : List Ink) → a ≡ o ++ inked k → b ≡ a ++ inked (bracket h m.OpenRound) → c ≡ b ++ inked x → d ≡ c ++ inked (bracket h m.CloseRound) → ws ≡ k ++ (within h x ++ ys) → f ≡ d ++ inked ys → f ≡ o ++ inked ws
round_held o a b c d f h k x ys ws p q r s e t = inked_more o a f k (within h x ++ ys) p (held a b c d f h x ys (within h x ++ ys) q r s refl t) ∙ ap (λ v. o ++ inked v) (sym e)
