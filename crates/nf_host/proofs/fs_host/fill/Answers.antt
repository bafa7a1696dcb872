use Rattle.std.proofs.Common.{◌≡◌, ℕ, ◌+◌, ◌-◌, ◌≤◌, List, ◌++◌, length, take, None, Some, ap, sym, ◌∙◌, arith, append_assoc, length-append}
use Rattle.std.specs.declared.option.Option.{Option}
use Rattle.std.specs.Io.KnownBytes.{Consumes, Keeps}
use Rattle.std.proofs.lemmas.List.{take-append-le, length-take-le}
use Rattle.std.proofs.lemmas.Slice.{take-put_mid_below}
use Rattle.std.proofs.Math.Seq.{take-append-add}
use borrow.Rule.Slice.PartMut.{put_mid, post_of}
use Rattle.nf_host.proofs.fs_host.fill.Goals as goal
use Rattle.nf_host.proofs.fs_host.fill.Goals.{in-Ok, in-Err}

-- the front of the room after a read into the rest of it
front_is : (room part : List ℕ) (len count k : ℕ) → len ≤ length room → count ≤ length part → take (len + count) (put_mid len k room part) ≡ take len room ++ take count part
front_is room part len count k h l =
    let before = take len room in
    let rest = part ++ post_of len k room in
    ap (λ n. take (n + count) (before ++ rest)) (sym (length-take-le len room h)) ∙ take-append-add before rest count ∙ ap (λ v. before ++ v) (take-append-le count part (post_of len k room) l)

consumed : (o p r : Option (List ℕ)) (room part : List ℕ) (len count k n : ℕ) → n ≡ len + count → len ≤ length room → count ≤ length part → Consumes o p (take len room) → Consumes p r (take count part) → Consumes o r (take n (put_mid len k room part))
consumed None p r room part len count k n e h l a b = tt
consumed (Some xs) None r room part len count k n e h l a b = absurd a
consumed (Some xs) (Some ys) None room part len count k n e h l a b = absurd b
consumed (Some xs) (Some ys) (Some zs) room part len count k n e h l a b =
    a ∙ ap (λ v. take len room ++ v) b ∙ sym (append_assoc (take len room) (take count part) zs)
    ∙ ap (λ v. v ++ zs) (sym (ap (λ m. take m (put_mid len k room part)) e ∙ front_is room part len count k h l))

kept : (o p r : Option (List ℕ)) (room part : List ℕ) (len k n : ℕ) → n ≡ len → len ≤ length room → Consumes o p (take len room) → Keeps p r → Consumes o r (take n (put_mid len k room part))
kept None p r room part len k n e h a b = tt
kept (Some xs) None r room part len k n e h a b = absurd a
kept (Some xs) (Some ys) None room part len k n e h a b = absurd b
kept (Some xs) (Some ys) (Some zs) room part len k n e h a b =
    a ∙ ap (λ v. take len room ++ v) (sym b)
    ∙ ap (λ v. v ++ zs) (sym (ap (λ m. take m (put_mid len k room part)) e ∙ take-put_mid_below len k room part len (omega arith) h))

-- the room is as long as it was, at the least
long : (room part : List ℕ) (len count k : ℕ) → len ≤ length room → count ≤ length part → len + count ≤ length (put_mid len k room part)
long room part len count k h l =
    omega (arith, length-append (take len room) (part ++ post_of len k room), length-append part (post_of len k room), length-take-le len room h)

pub loop-preserved : goal.loop-preserved
loop-preserved g c =
    elim c.match-read.branch [
      | in-Ok w ↦ (
        let all = long c.loop.room c.read.new.buf c.loop.len w.in-Ok.count (length c.loop.room - c.loop.len) c.loop.invariant.0 w.in-Ok.ensures.bound.0 in omega (arith, all, w.len-is),
        consumed (g.F.Read.remaining c.args.file.now) (g.F.Read.remaining c.loop.file) (g.F.Read.remaining c.read.new.self) c.loop.room c.read.new.buf c.loop.len w.in-Ok.count (length c.loop.room - c.loop.len) c.match-read.len
            w.len-is c.loop.invariant.0 w.in-Ok.ensures.bound.0 c.loop.invariant.1 w.in-Ok.ensures.bytes.0,
      )
      | in-Err w ↦ (
        let all = long c.loop.room c.read.new.buf c.loop.len 0 (length c.loop.room - c.loop.len) c.loop.invariant.0 (omega arith) in omega (arith, all, w.len-is),
        kept (g.F.Read.remaining c.args.file.now) (g.F.Read.remaining c.loop.file) (g.F.Read.remaining c.read.new.self) c.loop.room c.read.new.buf c.loop.len (length c.loop.room - c.loop.len) c.match-read.len
            w.len-is c.loop.invariant.0 c.loop.invariant.1 w.in-Err.ensures.bytes,
      )
    ]
