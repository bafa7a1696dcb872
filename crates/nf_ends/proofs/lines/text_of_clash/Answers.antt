use Rattle.std.proofs.Common.{◌≡◌, ◌∙◌, ℕ, List, ◌++◌, ap, codes, sym, append_assoc}
use Rattle.hex.specs.Hex.{encode_lower}
use Rattle.nf_ends.proofs.lines.text_of_clash.Goals as goal

spelled : (t f g : List ℕ) → codes "PublishClash " ++ (t ++ (codes " " ++ (f ++ (codes " " ++ g)))) ≡ codes "PublishClash " ++ t ++ codes " " ++ f ++ codes " " ++ g
spelled t f g = sym (
    append_assoc (codes "PublishClash " ++ t ++ codes " " ++ f) (codes " ") g
    ∙ append_assoc (codes "PublishClash " ++ t ++ codes " ") f (codes " " ++ g)
    ∙ append_assoc (codes "PublishClash " ++ t) (codes " ") (f ++ (codes " " ++ g))
    ∙ append_assoc (codes "PublishClash ") t (codes " " ++ (f ++ (codes " " ++ g)))
    )

told : (s t t' f f' g g' : List ℕ) → s ≡ codes "PublishClash " ++ (t' ++ (codes " " ++ (f' ++ (codes " " ++ g')))) → t' ≡ t → f' ≡ f → g' ≡ g → s ≡ codes "PublishClash " ++ t ++ codes " " ++ f ++ codes " " ++ g
told s t t' f f' g g' is a b d =
    is ∙ ap (λ x. codes "PublishClash " ++ (x ++ (codes " " ++ (f' ++ (codes " " ++ g'))))) a ∙ ap (λ x. codes "PublishClash " ++ (t ++ (codes " " ++ (x ++ (codes " " ++ g'))))) b
    ∙ ap (λ x. codes "PublishClash " ++ (t ++ (codes " " ++ (f ++ (codes " " ++ x))))) d ∙ spelled t f g

pub returns : goal.returns
returns c =
    told _ c.args.clash.now.target c.as_str-target.result.now (encode_lower c.args.clash.now.first.0) _ (encode_lower c.args.clash.now.second.0) _ c.in_ok-format.ensures.ok c.as_str-target.ensures c.in_ok-first.ensures c.in_ok-second.ensures
