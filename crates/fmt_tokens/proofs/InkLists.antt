-- What it is for a list of inks to be read as its bits, and that two such lists, one after the other, are one such list.
use Rattle.std.proofs.Common.{◌≡◌, ℕ, List, [], ◌++◌, refl, sym, ap, ◌∙◌, subst}
use Rattle.std.specs.Prelude.{map}
use Rattle.std.proofs.lemmas.List.{append_assoc, map-append}
use Rattle.std.proofs.lemmas.Grind.{flat_map-append}
use Rattle.nf_lexer.specs.declared.open.Open.{Open}
use Rattle.nf_lexer.specs.Joined.{Placed, nothing, joined}
use Rattle.nf_writer.specs.Ink.{Ink, ink_text, inked}
use Rattle.fmt_tokens.specs.Leads.{Leads, stays}
use Rattle.fmt_tokens.specs.Bits.{Bit, bit_of, Gives}
use Rattle.fmt_tokens.specs.InkTokens.{ink_bits, inks_bits}
use Rattle.fmt_tokens.proofs.Fronts.{leads_on}

-- before this rest the inks are read as their bits, from what is open to what is open after them
pub record Told (source : List ℕ) (o p : List Open) (xs : List Ink) (rest : List ℕ) : Type 0 where
  pub items : List Placed
  pub leads : Leads source o (inked xs ++ rest) items p rest
  pub gives : Gives items (inks_bits xs)

pub gives_on : {v w : List Placed} {a b : List Bit} → Gives v a → Gives w b → Gives (v ++ w) (a ++ b)
gives_on {v} {w} {a} {b} x y = record {
  segments = x.segments ++ y.segments;
  joins = λ tail. ap (joined nothing) (append_assoc v w tail) ∙ x.joins (w ++ tail) ∙ ap (λ z. x.segments ++ z) (y.joins tail) ∙ sym (append_assoc x.segments y.segments (joined nothing tail));
  are = map-append bit_of x.segments y.segments ∙ ap (λ z. z ++ map bit_of y.segments) x.are ∙ ap (λ z. a ++ z) y.are;
}

pub inked_on : (xs ys : List Ink) (rest : List ℕ) → inked xs ++ (inked ys ++ rest) ≡ inked (xs ++ ys) ++ rest
inked_on xs ys rest = sym (append_assoc (inked xs) (inked ys) rest) ∙ ap (λ z. z ++ rest) (sym (flat_map-append ink_text xs ys))

pub told_on : {source : List ℕ} {o p q : List Open} {xs ys : List Ink} {rest : List ℕ} → Told source o p xs (inked ys ++ rest) → Told source p q ys rest → Told source o q (xs ++ ys) rest
told_on {source} {o} {p} {q} {xs} {ys} {rest} a b = record {
  items = a.items ++ b.items;
  leads = subst (λ z. Leads source o z (a.items ++ b.items) q rest) (inked_on xs ys rest) (leads_on a.leads b.leads);
  gives = subst (λ z. Gives (a.items ++ b.items) z) (sym (flat_map-append ink_bits xs ys)) (gives_on a.gives b.gives);
}

-- ---- the inks are read as their bits wherever what is open meets P, before each rest that meets Q

pub record Reads (P : List Open → Type 0) (Q : List ℕ → Type 0) (xs : List Ink) : Type 0 where
  pub told : (source : List ℕ) (o : List Open) (rest : List ℕ) → P o → Q rest → Told source o o xs rest

-- two lists, where the second may follow the first
pub on : {P : List Open → Type 0} {Q R : List ℕ → Type 0} {xs ys : List Ink} → ((rest : List ℕ) → R rest → Q (inked ys ++ rest)) → Reads P Q xs → Reads P R ys → Reads P R (xs ++ ys)
on {P} {Q} {R} {xs} {ys} f a b = record { told = λ source o rest p r. told_on (a.told source o (inked ys ++ rest) p (f rest r)) (b.told source o rest p r) }

pub weaker : {P P' : List Open → Type 0} {Q Q' : List ℕ → Type 0} {xs : List Ink} → ((o : List Open) → P' o → P o) → ((rest : List ℕ) → Q' rest → Q rest) → Reads P Q xs → Reads P' Q' xs
weaker f g a = record { told = λ source o rest p q. a.told source o rest (f o p) (g rest q) }

pub none : {P : List Open → Type 0} {Q : List ℕ → Type 0} → Reads P Q []
none = record { told = λ source o rest p q. record { items = []; leads = stays; gives = record { segments = []; joins = λ tail. refl; are = refl } } }
