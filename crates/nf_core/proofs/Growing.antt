-- What a history tells when it grows by one event.
use Rattle.std.proofs.Common.{◌≡◌, ℕ, List, [], ◌∷◌, ◌++◌, ap, sym, subst, ◌∙◌}
use Rattle.std.specs.Prelude.{fold}
use Rattle.std.specs.declared.option.Option.TheVariants.{Some}
use Rattle.std.proofs.lemmas.List.{append_assoc, append-nil}
use Rattle.std.proofs.lemmas.List.Sums.{fold-append}
use Rattle.nf_graph.specs.Node.{PlainNode}
use Rattle.nf_machine.specs.Event.{PlainEvent}
use Rattle.nf_machine.specs.State.{State}
use Rattle.nf_machine.specs.Step.{step, replay}
use Rattle.nf_keeper.specs.Held.{Held}
use Rattle.nf_core.specs.Opening.{Opening}
use Rattle.nf_core.specs.Told.{told_from, Match}
use Rattle.nf_core.specs.Records.{Write, writes_by, known, known_after}
use Rattle.nf_core.specs.Causes.{IsWarranted, WarrantedFrom}

pub told_grows : {A : Type 0} (f : State → PlainEvent → List A) (g : List PlainNode) (s : State) (h : List PlainEvent) (e : PlainEvent)
    → told_from f g s (h ++ e ∷ []) ≡ told_from f g s h ++ f (replay g s h) e
told_grows f g s [] e = append-nil (f s e)
told_grows f g s (x ∷ h) e =
    ap (λ zs. f s x ++ zs) (told_grows f g (step g s x) h e)
    ∙ sym (append_assoc (f s x) (told_from f g (step g s x) h) (f (replay g (step g s x) h) e))

pub match_more : {A B : Type 0} (P : A → B → Type 0) (xs zs : List A) (ys ws : List B) → Match P xs ys → Match P zs ws → Match P (xs ++ zs) (ys ++ ws)
match_more P [] zs [] ws m n = n
match_more P [] zs (y ∷ ys) ws m n = absurd m
match_more P (x ∷ xs) zs [] ws m n = absurd m
match_more P (x ∷ xs) zs (y ∷ ys) ws m n = (m.0, match_more P xs zs ys ws m.1 n)

pub warranted_grows : (F : Opening) (g : List PlainNode) (s : State) (ws : List Write) (h : List PlainEvent) (e : PlainEvent) → WarrantedFrom F g s ws h
    → IsWarranted F (replay g s h) (ws ++ told_from (writes_by F.rules) g s h) e → WarrantedFrom F g s ws (h ++ e ∷ [])
warranted_grows F g s ws [] e w i = (subst (λ v. IsWarranted F s v e) (append-nil ws) i, tt)
warranted_grows F g s ws (x ∷ h) e w i = (
  w.0,
  warranted_grows F g (step g s x) (ws ++ writes_by F.rules s x) h e w.1
      (rw (append_assoc ws (writes_by F.rules s x) (told_from (writes_by F.rules) g (step g s x) h)) i),
)

pub known_grows : (m : Held) (ws vs : List Write) (q : List ℕ) → known m (ws ++ vs) q ≡ fold (known_after q) (known m ws q) vs
known_grows m ws vs q = fold-append (known_after q) (Some (m q)) ws vs
