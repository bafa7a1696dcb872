-- What calls may give, by their outputs.
use Rattle.std.proofs.Common.{◌≡◌, Bool, true, false, List, [], ◌∷◌, Option, Some, None, IfSome, subst, true≢false}
use Rattle.std.specs.Prelude.{if◌then◌else◌, not}
use Rattle.nf_kinds.specs.declared.kinds.Kinds.{Kinds}
use Rattle.nf_kinds.specs.declared.kinds.Key.{Key}
use Rattle.nf_kinds.specs.declared.kinds.Output as kinds
use Rattle.nf_kinds.specs.Kinds.{Shaped, either, is_key, plain_unless, part_by, output_in, some_output, output_of, some_output_of, alone}
use Rattle.nf_meaning.specs.Things.{a_channel, outputs, Channel, Output}
use Rattle.nf_agreed.specs.Fits.{MayBeValue, MayBeChannel, output_by, ResultFits, Fits}
use Rattle.nf_agreed.proofs.Either.{channel_left, channel_right, part_of_value}

-- ---- an output of a call's result

output_part : (k : Key) (o : Option (List kinds.Output)) (p : Kinds) (os : List Output) (c : Channel) → ResultFits o os → output_by k os ≡ Some c → MayBeChannel (part_by (output_in k) o p) c
output_part k None p os c h at = absurd h
output_part k (Some ks) p os c h at =
    channel_left (output_in k ks) (plain_unless (not p.plain)) c
    (let here = subst (λ o. IfSome o (λ d. MayBeChannel (output_in k ks) d)) at (h k) in here)

-- `.NAME`, or an index that is known before the run
pub output_fits : (k : Key) (s : Shaped) (os : List Output) (c : Channel) → Fits s (outputs os) → output_by k os ≡ Some c → Fits (alone (output_of k s)) (a_channel c)
output_fits k s os c h at = output_part k s.outputs s.kinds os c h.each at

-- one of them, whichever it is
some_fits : (k : Key) (ks : List kinds.Output) (c : Channel) → MayBeChannel (output_in k ks) c → MayBeChannel (some_output ks) c
some_fits k [] c h = absurd (true≢false h.flows.known)
some_fits k (o ∷ ks) c h = by (is_key o.key k) h (some_fits k ks c)
  where
    by : (b : Bool) → MayBeChannel (if b then o.kinds else output_in k ks) c → (MayBeChannel (output_in k ks) c → MayBeChannel (some_output ks) c) → MayBeChannel (either o.kinds (some_output ks)) c
    by true h rest = channel_left o.kinds (some_output ks) c h
    by false h rest = channel_right o.kinds (some_output ks) c (rest h)

some_part : (k : Key) (o : Option (List kinds.Output)) (p : Kinds) (os : List Output) (c : Channel) → ResultFits o os → output_by k os ≡ Some c → MayBeChannel (part_by some_output o p) c
some_part k None p os c h at = absurd h
some_part k (Some ks) p os c h at =
    channel_left (some_output ks) (plain_unless (not p.plain)) c
    (some_fits k ks c (let here = subst (λ o. IfSome o (λ d. MayBeChannel (output_in k ks) d)) at (h k) in here))

-- an index that isn't known before the run
pub some_output_fits : (k : Key) (s : Shaped) (os : List Output) (c : Channel) → Fits s (outputs os) → output_by k os ≡ Some c → Fits (alone (some_output_of s)) (a_channel c)
some_output_fits k s os c h at = some_part k s.outputs s.kinds os c h.each at

-- a part of a plain value
pub value_part_fits : (f : List kinds.Output → Kinds) (s : Shaped) → MayBeValue s.kinds → MayBeValue (part_by f s.outputs s.kinds)
value_part_fits f s h = part_of_value f s.outputs s.kinds h
