-- How a digest and a copy of a file grow, piece by piece.
use Rattle.std.proofs.Common.{◌≡◌, ℕ, ◌+◌, ◌-◌, ◌<◌, ◌≤◌, ◌==◌, List, [], ◌++◌, length, Bool, true, false, Option, None, Some, option_map, unwrap_or, bytes_eq, refl, ap, sym, subst, ◌∙◌, arith, length-append, true≢false}
use Rattle.std.specs.Prelude.{IfSome, if◌then◌else◌}
use Rattle.sha2.specs.Hashers.{Holds256}
use Rattle.sha2.specs.Sha256.{sha256}
use Rattle.sha2.specs.declared.Sha256.{Sha256}
use Rattle.nf_value.specs.declared.file.Digest.{Digest}
use Rattle.nf_host.specs.Copies.{IsDigested, IsCopied, grown}
use Rattle.nf_host.specs.Files.{Files, IsPiece, KeepsOthers, put, appended}
use Rattle.nf_host.specs.Told.{Both}
use Rattle.nf_host.specs.Whole.{IsWhole}
use Rattle.nf_host.specs.declared.host.TheConstants.{PIECE_LEN}
use Rattle.nf_host.specs.declared.host.Piece.{Piece}
use Rattle.nf_host.specs.declared.host.Piece.TheVariants as piece
use Rattle.nf_host.specs.declared.whole.Whole.TheVariants as whole
use Rattle.nf_host.specs.declared.copies.Digested.TheVariants as digested
use Rattle.std.proofs.lemmas.Bool.Decides.{Decides-eqb}
use Rattle.std.proofs.lemmas.List.{nil_from_length}
use Rattle.nf_host.proofs.Paths.{by_each, text_itself}
use Rattle.nf_host.proofs.Reading.{IsFront, too_long_told, ended_told, further_told}

-- the hasher holds these bytes, the front of the file up to byte `at`, if the file is told
pub record HashedBy (told : Option Files) (path : List ℕ) (limit at : ℕ) (h : Sha256) (bytes : List ℕ) : Type 0 where
  pub holds : Holds256 h bytes
  pub len : at ≡ length bytes
  pub within : at ≤ limit
  pub front : IfSome told (λ f. IsFront (f path) bytes)

-- the same of some bytes
pub record Hashed (told : Option Files) (path : List ℕ) (limit at : ℕ) (h : Sha256) : Type 0 where
  pub bytes : List ℕ
  pub by : HashedBy told path limit at h bytes

-- nothing was read yet
front_first : (told : Option Files) (path : List ℕ) → IfSome told (λ f. IsFront (f path) [])
front_first None path = tt
front_first (Some f) path = of_file (f path)
  where
    of_file : (m : Option (List ℕ)) → IsFront m []
    of_file None = refl
    of_file (Some b) = refl

by_first : (told : Option Files) (path : List ℕ) (limit : ℕ) (h : Sha256) → Holds256 h [] → HashedBy told path limit 0 h []
by_first told path limit h holds = record {
  holds = holds;
  len = refl;
  within = omega arith;
  front = front_first told path;
}

pub hashed_first : (told : Option Files) (path : List ℕ) (limit : ℕ) (h : Sha256) → Holds256 h [] → Hashed told path limit 0 h
hashed_first told path limit h holds = record { bytes = []; by = by_first told path limit h holds }

-- one more piece
by_more : {told o : Option Files} {path : List ℕ} {limit at : ℕ} {h : Sha256} {bytes : List ℕ} (z : HashedBy told path limit at h bytes) (g : Sha256) (ys : List ℕ) (w : Piece) (n : ℕ) → o ≡ told → w ≡ piece.Bytes ys → (length ys ≤ limit - at) → n ≡ at + length ys → ((m : List ℕ) → Holds256 h m → Holds256 g (m ++ ys)) → IfSome o (λ f. IsPiece (f path) at w) → HashedBy told path limit n g (bytes ++ ys)
by_more {told = told} {o = o} {path = path} {limit = limit} {at = at} {bytes = bytes} z g ys w n same is fits len step r = record {
  holds = step bytes z.holds;
  len = let l = length-append bytes ys in let k = z.len in omega arith;
  within = let k = z.within in omega arith;
  front = further_told told o path bytes ys (bytes ++ ys) w at same is z.len refl z.front r;
}

pub hashed_more : {told o : Option Files} {path : List ℕ} {limit at : ℕ} {h : Sha256} (z : Hashed told path limit at h) (g : Sha256) (ys : List ℕ) (w : Piece) (n : ℕ) → o ≡ told → w ≡ piece.Bytes ys → (length ys ≤ limit - at) → n ≡ at + length ys → ((m : List ℕ) → Holds256 h m → Holds256 g (m ++ ys)) → IfSome o (λ f. IsPiece (f path) at w) → Hashed told path limit n g
hashed_more {o = o} z g ys w n same is fits len step r = record { bytes = z.bytes ++ ys; by = by_more {o = o} z.by g ys w n same is fits len step r }

long_of : (m : Option (List ℕ)) (limit : ℕ) → IsWhole m limit whole.TooLong → IsDigested limit m digested.TooLong
long_of None limit h = absurd (cc)
long_of (Some b) limit h = h

whole_of : (m : Option (List ℕ)) (limit n : ℕ) (d : Digest) (zs : List ℕ) → d.0 ≡ sha256 zs → n ≡ length zs → IsWhole m limit (whole.Bytes zs) → IsDigested limit m (digested.Whole d n)
whole_of None limit n d zs e l h = absurd (cc)
whole_of (Some b) limit n d zs e l h = (h.0, e ∙ ap sha256 h.1, l ∙ ap length h.1)

on_told : (o : Option Files) (P Q : Files → Type 0) → ((f : Files) → P f → Q f) → IfSome o P → IfSome o Q
on_told None P Q step h = tt
on_told (Some f) P Q step h = step f h

pub digested_absent : (told o : Option Files) (path : List ℕ) (limit at : ℕ) (w : Piece) → o ≡ told → w ≡ piece.Absent → IfSome o (λ f. IsPiece (f path) at w) → IfSome told (λ f. IsDigested limit (f path) digested.Absent)
digested_absent told o path limit at w same is r =
    on_told told (λ f. IsPiece (f path) at piece.Absent) (λ f. IsDigested limit (f path) digested.Absent) (λ f. none_at (f path))
    (subst (λ (v : Option Files). IfSome v (λ f. IsPiece (f path) at piece.Absent)) same (subst (λ (v : Piece). IfSome o (λ f. IsPiece (f path) at v)) is r))
  where
    none_at : (m : Option (List ℕ)) → IsPiece m at piece.Absent → IsDigested limit m digested.Absent
    none_at None h = refl
    none_at (Some b) h = h

pub digested_long : {told o : Option Files} {path : List ℕ} {limit at : ℕ} {h : Sha256} (z : Hashed told path limit at h) (ys : List ℕ) (w : Piece) → o ≡ told → w ≡ piece.Bytes ys → limit - at < length ys → IfSome o (λ f. IsPiece (f path) at w) → IfSome told (λ f. IsDigested limit (f path) digested.TooLong)
digested_long {told = told} {o = o} {path = path} {limit = limit} {at = at} z ys w same is past r =
    on_told told (λ f. IsWhole (f path) limit whole.TooLong) (λ f. IsDigested limit (f path) digested.TooLong) (λ f. long_of (f path) limit)
    (too_long_told told o path z.bytes ys w at limit same is z.by.len z.by.within past z.by.front r)

pub digested_whole : {told o : Option Files} {path : List ℕ} {limit at : ℕ} {h : Sha256} (z : Hashed told path limit at h) (g : Sha256) (d : Digest) (ys : List ℕ) (w : Piece) (n : ℕ) → o ≡ told → w ≡ piece.Bytes ys → (length ys ≤ limit - at) → n ≡ at + length ys → length ys < PIECE_LEN → ((m : List ℕ) → Holds256 h m → Holds256 g (m ++ ys)) → ((m : List ℕ) → Holds256 g m → d.0 ≡ sha256 m) → IfSome o (λ f. IsPiece (f path) at w) → IfSome told (λ f. IsDigested limit (f path) (digested.Whole d n))
digested_whole {told = told} {o = o} {path = path} {limit = limit} {at = at} z g d ys w n same is fits len short step ends r =
    let zs = z.bytes ++ ys in
    let count : n ≡ length zs = let l = length-append z.bytes ys in let k = z.by.len in omega arith in
    on_told told (λ f. IsWhole (f path) limit (whole.Bytes zs)) (λ f. IsDigested limit (f path) (digested.Whole d n))
    (λ f. whole_of (f path) limit n d zs (ends zs (step z.bytes z.by.holds)) count)
    (ended_told told o path z.bytes ys zs w at limit same is z.by.len z.by.within fits short refl z.by.front r)

-- ---- the copy

-- two writes at one path: the second counts
put_twice : (f : Files) (path xs ys : List ℕ) → put (put f path xs) path ys ≡ put f path ys
put_twice f path xs ys = by_each (put (put f path xs) path ys) (put f path ys) (λ q. at_q (bytes_eq q path) (f q))
  where
    at_q : (b : Bool) (m : Option (List ℕ)) → (if b then Some ys else if b then Some xs else m) ≡ (if b then Some ys else m)
    at_q true m = refl
    at_q false m = refl

pub put_here : (f : Files) (path xs : List ℕ) → put f path xs path ≡ Some xs
put_here f path xs = rw (text_itself path) refl

-- the first piece
pub grown_first : (f : Files) (path piece : List ℕ) (at : ℕ) → at ≡ 0 → appended (put f path []) path piece ≡ grown at f path piece
grown_first f path piece at e =
    rw (put_here f path []) (put_twice f path [] piece ∙ ap (λ n. grown n f path piece) (sym e))

-- a later piece
pub grown_later : (f : Files) (path piece : List ℕ) (at : ℕ) → (at == 0) ≡ false → appended f path piece ≡ grown at f path piece
grown_later f path piece at e = rw e refl

pub grown_first_told : (o o' o'' : Option Files) (path piece : List ℕ) (at : ℕ) → at ≡ 0 → o' ≡ option_map (λ f. put f path []) o → o'' ≡ option_map (λ f. appended f path piece) o' → o'' ≡ option_map (λ f. grown at f path piece) o
grown_first_told None o' o'' path piece at e p q = q ∙ ap (option_map (λ f. appended f path piece)) p
grown_first_told (Some f) o' o'' path piece at e p q =
    q ∙ ap (option_map (λ f. appended f path piece)) p ∙ ap (λ g. Some g) (grown_first f path piece at e)

pub grown_later_told : (o o'' : Option Files) (path piece : List ℕ) (at : ℕ) → (at == 0) ≡ false → o'' ≡ option_map (λ f. appended f path piece) o → o'' ≡ option_map (λ f. grown at f path piece) o
grown_later_told None o'' path piece at e q = q
grown_later_told (Some f) o'' path piece at e q = q ∙ ap (λ g. Some g) (grown_later f path piece at e)

-- a fact of each, then of the two
pub both_then : {A : Type 0} (a b c : Option A) (P Q R : A → A → Type 0) → ((x y z : A) → P x y → Q y z → R x z) → Both a b P → Both b c Q → Both a c R
both_then None None None P Q R step p q = tt
both_then None None (Some z) P Q R step p q = absurd q
both_then None (Some y) c P Q R step p q = absurd p
both_then (Some x) None c P Q R step p q = absurd p
both_then (Some x) (Some y) None P Q R step p q = absurd q
both_then (Some x) (Some y) (Some z) P Q R step p q = step x y z p q

with_itself : {A : Type 0} (o : Option A) (P : A → A → Type 0) → ((x : A) → P x x) → Both o o P
with_itself None P all = tt
with_itself (Some x) P all = all x

pub both_same : {A : Type 0} (a b : Option A) (P : A → A → Type 0) → ((x : A) → P x x) → b ≡ a → Both a b P
both_same {A = A} a b P all e = subst (λ (v : Option A). Both a v P) (sym e) (with_itself a P all)

pub both_map : {A : Type 0} (a b : Option A) (s : A → A) (P : A → A → Type 0) → ((x : A) → P x (s x)) → b ≡ option_map s a → Both a b P
both_map {A = A} None b s P all e = subst (λ (v : Option A). Both None v P) (sym e) tt
both_map {A = A} (Some x) b s P all e = subst (λ (v : Option A). Both (Some x) v P) (sym e) (all x)

pub keeps_all : (path : List ℕ) (f : Files) → KeepsOthers path f f
keeps_all path f q other = refl

pub keeps_then : (path : List ℕ) (f g h : Files) → KeepsOthers path f g → KeepsOthers path g h → KeepsOthers path f h
keeps_then path f g h p r q other = r q other ∙ p q other

pub keeps_put : (path bytes : List ℕ) (f : Files) → KeepsOthers path f (put f path bytes)
keeps_put path bytes f q other = rw other refl

-- what was copied so far: the front up to byte `at`, once there is any
pub record Copied (told now : Option Files) (from to : List ℕ) (limit at : ℕ) (h : Sha256) : Type 0 where
  pub bytes : List ℕ
  pub by : HashedBy told from limit at h bytes
  pub others : Both told now (KeepsOthers to)
  pub made : Both told now (λ f g. (at == 0) ≡ false → g to ≡ Some bytes)

pub hashed_of : {told now : Option Files} {from to : List ℕ} {limit at : ℕ} {h : Sha256} → Copied told now from to limit at h → Hashed told from limit at h
hashed_of z = record { bytes = z.bytes; by = z.by }

-- a piece that was read of the file, which the copy doesn't change
pub of_source : (told now : Option Files) (from to : List ℕ) (at : ℕ) (w : Piece) → bytes_eq from to ≡ false → Both told now (KeepsOthers to) → IfSome now (λ g. IsPiece (g from) at w) → IfSome told (λ f. IsPiece (f from) at w)
of_source None now from to at w apart k r = tt
of_source (Some f) None from to at w apart k r = absurd k
of_source (Some f) (Some g) from to at w apart k r = subst (λ (m : Option (List ℕ)). IsPiece m at w) (k from apart) r

empty_of : (xs : List ℕ) (n : ℕ) → n ≡ length xs → (n == 0) ≡ true → xs ≡ []
empty_of xs n e z = nil_from_length xs (sym e ∙ (Decides-eqb n 0).0 z)

grown_here : (g : Files) (to xs ys : List ℕ) (at : ℕ) (b : Bool) → (at == 0) ≡ b → at ≡ length xs → ((at == 0) ≡ false → g to ≡ Some xs) → grown at g to ys to ≡ Some (xs ++ ys)
grown_here g to xs ys at true is len made =
    rw (text_itself to) (rw is (ap (λ v. Some (v ++ ys)) (sym (empty_of xs at len is))))
grown_here g to xs ys at false is len made =
    rw (text_itself to) (rw is (ap (λ m. Some (unwrap_or m [] ++ ys)) (made is)))

pub made_more : (told now next : Option Files) (to xs ys : List ℕ) (at : ℕ) → at ≡ length xs → Both told now (λ f g. (at == 0) ≡ false → g to ≡ Some xs) → next ≡ option_map (λ f. grown at f to ys) now → Both told next (λ f g. g to ≡ Some (xs ++ ys))
made_more None None next to xs ys at len made e = subst (λ (v : Option Files). Both None v (λ f g. g to ≡ Some (xs ++ ys))) (sym e) tt
made_more None (Some g) next to xs ys at len made e = absurd made
made_more (Some f) None next to xs ys at len made e = absurd made
made_more (Some f) (Some g) next to xs ys at len made e =
    subst (λ (v : Option Files). Both (Some f) v (λ f g. g to ≡ Some (xs ++ ys))) (sym e) (grown_here g to xs ys at (at == 0) refl len made)

pub others_more : (told now next : Option Files) (to ys : List ℕ) (at : ℕ) → Both told now (KeepsOthers to) → next ≡ option_map (λ f. grown at f to ys) now → Both told next (KeepsOthers to)
others_more told now next to ys at k e =
    both_then told now next (KeepsOthers to) (KeepsOthers to) (KeepsOthers to) (keeps_then to) k
    (both_map now next (λ f. grown at f to ys) (KeepsOthers to) (λ f. keeps_put to ((if at == 0 then [] else unwrap_or (f to) []) ++ ys) f) e)

weaken : {A : Type 0} (a b : Option A) (P Q : A → A → Type 0) → ((x y : A) → P x y → Q x y) → Both a b P → Both a b Q
weaken None None P Q step h = tt
weaken None (Some y) P Q step h = h
weaken (Some x) None P Q step h = h
weaken (Some x) (Some y) P Q step h = step x y h

pub copied_first : (told : Option Files) (from to : List ℕ) (limit : ℕ) (h : Sha256) → Holds256 h [] → Copied told told from to limit 0 h
copied_first told from to limit h holds = record {
  bytes = [];
  by = by_first told from limit h holds;
  others = both_same told told (KeepsOthers to) (keeps_all to) refl;
  made = both_same told told (λ f g. (0 == 0) ≡ false → g to ≡ Some []) (λ f e. absurd (true≢false e)) refl;
}

pub copied_more : {told now : Option Files} {from to : List ℕ} {limit at : ℕ} {h : Sha256} (z : Copied told now from to limit at h) (o next : Option Files) (g : Sha256) (ys : List ℕ) (w : Piece) (n : ℕ) → bytes_eq from to ≡ false → o ≡ now → w ≡ piece.Bytes ys → (length ys ≤ limit - at) → n ≡ at + length ys → ((m : List ℕ) → Holds256 h m → Holds256 g (m ++ ys)) → IfSome now (λ f. IsPiece (f from) at w) → next ≡ option_map (λ f. grown at f to ys) o → Copied told next from to limit n g
copied_more {told = told} {now = now} {from = from} {to = to} {limit = limit} {at = at} z o next g ys w n apart same is fits len step r e =
    let e2 : next ≡ option_map (λ f. grown at f to ys) now = e ∙ ap (option_map (λ f. grown at f to ys)) same in record {
      bytes = z.bytes ++ ys;
      by = by_more {o = told} z.by g ys w n refl is fits len step (of_source told now from to at w apart z.others r);
      others = others_more told now next to ys at z.others e2;
      made = weaken told next (λ f g. g to ≡ Some (z.bytes ++ ys)) (λ f g. (n == 0) ≡ false → g to ≡ Some (z.bytes ++ ys)) (λ f g q later. q) (made_more told now next to z.bytes ys at z.by.len z.made e2);
    }

same_bytes : (m k : Option (List ℕ)) (limit n : ℕ) (d : Digest) (zs : List ℕ) → IsWhole m limit (whole.Bytes zs) → k ≡ Some zs → IsCopied m k (digested.Whole d n)
same_bytes None k limit n d zs h e = absurd (cc)
same_bytes (Some b) k limit n d zs h e = e ∙ ap (λ v. Some v) h.1

all_copied : (told next : Option Files) (from to : List ℕ) (limit n : ℕ) (d : Digest) (zs : List ℕ) → IfSome told (λ f. IsWhole (f from) limit (whole.Bytes zs)) → Both told next (λ f g. g to ≡ Some zs) → Both told next (λ f g. IsCopied (f from) (g to) (digested.Whole d n))
all_copied None None from to limit n d zs h p = tt
all_copied None (Some g) from to limit n d zs h p = p
all_copied (Some f) None from to limit n d zs h p = p
all_copied (Some f) (Some g) from to limit n d zs h p = same_bytes (f from) (g to) limit n d zs h p

pub copied_whole : {told now : Option Files} {from to : List ℕ} {limit at : ℕ} {h : Sha256} (z : Copied told now from to limit at h) (o next : Option Files) (d : Digest) (ys : List ℕ) (w : Piece) (n : ℕ) → bytes_eq from to ≡ false → o ≡ now → w ≡ piece.Bytes ys → (length ys ≤ limit - at) → length ys < PIECE_LEN → IfSome now (λ f. IsPiece (f from) at w) → next ≡ option_map (λ f. grown at f to ys) o → Both told next (λ f g. IsCopied (f from) (g to) (digested.Whole d n))
copied_whole {told = told} {now = now} {from = from} {to = to} {limit = limit} {at = at} z o next d ys w n apart same is fits short r e =
    let e2 : next ≡ option_map (λ f. grown at f to ys) now = e ∙ ap (option_map (λ f. grown at f to ys)) same in
    let zs = z.bytes ++ ys in
    all_copied told next from to limit n d zs
    (ended_told told told from z.bytes ys zs w at limit refl is z.by.len z.by.within fits short refl z.by.front (of_source told now from to at w apart z.others r))
    (made_more told now next to z.bytes ys at z.by.len z.made e2)

-- nothing was copied
pub copied_none : (told now : Option Files) (from to : List ℕ) → Both told now (KeepsOthers to) → Both told now (λ f g. IsCopied (f from) (g to) digested.Absent) × Both told now (λ f g. IsCopied (f from) (g to) digested.TooLong)
copied_none told now from to k = (
  weaken told now (KeepsOthers to) (λ f g. IsCopied (f from) (g to) digested.Absent) (λ f g q. tt) k,
  weaken told now (KeepsOthers to) (λ f g. IsCopied (f from) (g to) digested.TooLong) (λ f g q. tt) k,
)
