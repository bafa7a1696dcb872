-- What may be the one or the other fits what is either.
use Rattle.std.proofs.Common.{◌≡◌, Bool, true, false, ◌||◌, List, Option, Some, None, refl, sym, subst, true≢false}
use Rattle.std.specs.Prelude.{if◌then◌else◌, not}
use Rattle.nf_kinds.specs.declared.kinds.Kinds.{Kinds}
use Rattle.nf_kinds.specs.Kinds.{known, either, plain_unless, part_by}
use Rattle.nf_kinds.specs.declared.kinds.Output as kinds
use Rattle.nf_meaning.specs.Things.{Channel}
use Rattle.nf_agreed.specs.Fits.{MayBeValue, MayBeChannel}

-- ---- tests

pub or_left : (a b : Bool) → a ≡ true → (a || b) ≡ true
or_left true b h = refl
or_left false b h = absurd (true≢false (sym h))

pub or_right : (a b : Bool) → b ≡ true → (a || b) ≡ true
or_right true b h = refl
or_right false b h = h

pub ors_left : (v q w r : Bool) → (v || q) ≡ true → ((v || w) || (q || r)) ≡ true
ors_left true q w r h = refl
ors_left false q w r h = or_right w (q || r) (or_left q r h)

pub ors_right : (v q w r : Bool) → (w || r) ≡ true → ((v || w) || (q || r)) ≡ true
ors_right true q w r h = refl
ors_right false q true r h = refl
ors_right false q false r h = or_right q r h

-- ---- either kind

-- where the first is known, it is the first or both
of_first : (P : Kinds → Type 0) (a b : Kinds) → a.unknown ≡ false → P a → P (known (a.plain || b.plain) (a.value || b.value) (a.queue || b.queue)) → P (either a b)
of_first P a b h x y = by a.unknown b.unknown h
  where
    by : (u w : Bool) → u ≡ false → P (if u then b else (if w then a else known (a.plain || b.plain) (a.value || b.value) (a.queue || b.queue)))
    by true w e = absurd (true≢false e)
    by false true e = x
    by false false e = y

of_second : (P : Kinds → Type 0) (a b : Kinds) → b.unknown ≡ false → P b → P (known (a.plain || b.plain) (a.value || b.value) (a.queue || b.queue)) → P (either a b)
of_second P a b h x y = by a.unknown b.unknown h
  where
    by : (u w : Bool) → w ≡ false → P (if u then b else (if w then a else known (a.plain || b.plain) (a.value || b.value) (a.queue || b.queue)))
    by true w e = x
    by false true e = absurd (true≢false e)
    by false false e = y

pub known_left : (a b : Kinds) → a.unknown ≡ false → (either a b).unknown ≡ false
known_left a b h = of_first (λ k. k.unknown ≡ false) a b h h refl

pub known_right : (a b : Kinds) → b.unknown ≡ false → (either a b).unknown ≡ false
known_right a b h = of_second (λ k. k.unknown ≡ false) a b h h refl

pub value_left : (a b : Kinds) → MayBeValue a → MayBeValue (either a b)
value_left a b h = of_first MayBeValue a b h.known h (record { known = refl; plain = or_left a.plain b.plain h.plain })

pub value_right : (a b : Kinds) → MayBeValue b → MayBeValue (either a b)
value_right a b h = of_second MayBeValue a b h.known h (record { known = refl; plain = or_right a.plain b.plain h.plain })

pub channel_left : (a b : Kinds) (c : Channel) → MayBeChannel a c → MayBeChannel (either a b) c
channel_left a b c h = of_first (λ k. MayBeChannel k c) a b h.flows.known h (record {
  flows = record { known = refl; queue = λ q. or_left a.queue b.queue (h.flows.queue q) };
  channel = ors_left a.value a.queue b.value b.queue h.channel;
})

pub channel_right : (a b : Kinds) (c : Channel) → MayBeChannel b c → MayBeChannel (either a b) c
channel_right a b c h = of_second (λ k. MayBeChannel k c) a b h.flows.known h (record {
  flows = record { known = refl; queue = λ q. or_right a.queue b.queue (h.flows.queue q) };
  channel = ors_right a.value a.queue b.value b.queue h.channel;
})

-- ---- parts of values

plain_part : (p : Bool) → p ≡ true → MayBeValue (plain_unless (not p))
plain_part true h = record { known = refl; plain = refl }
plain_part false h = absurd (true≢false (sym h))

-- a part of a plain value is one, whatever outputs it may have besides
pub part_of_value : (f : List kinds.Output → Kinds) (o : Option (List kinds.Output)) (k : Kinds) → MayBeValue k → MayBeValue (part_by f o k)
part_of_value f None k h = subst (λ u. MayBeValue (plain_unless u)) (sym h.known) (record { known = refl; plain = refl })
part_of_value f (Some os) k h = value_right (f os) (plain_unless (not k.plain)) (plain_part k.plain h.plain)
