-- How the front of a file grows to the whole.
use Rattle.std.proofs.Common.{◌≡◌, ℕ, ◌-◌, ◌<◌, ◌≤◌, List, [], ◌++◌, length, take, drop, None, Some, ap, sym, subst, ◌∙◌, arith, append_assoc, length-append}
use Rattle.std.specs.Prelude.{IfSome}
use Rattle.std.specs.declared.option.Option.{Option}
use Rattle.std.proofs.lemmas.List.{take-append-drop, length-take, take_all}
use Rattle.std.proofs.Math.Seq.{drop-append_seam}
use Rattle.nf_host.specs.Files.{Files, IsPiece}
use Rattle.nf_host.specs.Whole.{IsWhole}
use Rattle.nf_host.specs.declared.host.TheConstants.{PIECE_LEN}
use Rattle.nf_host.specs.declared.host.Piece.{Piece}
use Rattle.nf_host.specs.declared.host.Piece.TheVariants as piece
use Rattle.nf_host.specs.declared.whole.Whole.TheVariants as whole

-- these bytes are the front of the file
abbrev pub IsFront : Option (List ℕ) → List ℕ → Type 0
IsFront None xs = xs ≡ []
IsFront (Some b) xs = xs ++ drop (length xs) b ≡ b

-- the same of the file at a path, if the host reveals its files
at_path : (o : Option Files) (q : List ℕ) (P Q R : Option (List ℕ) → Type 0) → ((m : Option (List ℕ)) → P m → Q m → R m) → IfSome o (λ f. P (f q)) → IfSome o (λ f. Q (f q)) → IfSome o (λ f. R (f q))
at_path None q P Q R step p r = tt
at_path (Some f) q P Q R step p r = step (f q) p r

-- the bytes of a piece, by the front before it
piece_is : (xs ys b : List ℕ) (n : ℕ) → n ≡ length xs → ys ≡ take PIECE_LEN (drop n b) → ys ≡ take PIECE_LEN (drop (length xs) b)
piece_is xs ys b n e q = q ∙ ap (λ k. take PIECE_LEN (drop k b)) e

too_long : (xs ys : List ℕ) (n limit : ℕ) → n ≡ length xs → n ≤ limit → limit - n < length ys → (m : Option (List ℕ)) → IsFront m xs → IsPiece m n (piece.Bytes ys) → IsWhole m limit whole.TooLong
too_long xs ys n limit e h l None p q = absurd (cc)
too_long xs ys n limit e h l (Some b) p q =
    omega (arith, ap length p, length-append xs (drop (length xs) b), ap length (piece_is xs ys b n e q), length-take PIECE_LEN (drop (length xs) b))

ended : (xs ys : List ℕ) (n limit : ℕ) → n ≡ length xs → n ≤ limit → length ys ≤ limit - n → length ys < PIECE_LEN → (m : Option (List ℕ)) → IsFront m xs → IsPiece m n (piece.Bytes ys) → IsWhole m limit (whole.Bytes (xs ++ ys))
ended xs ys n limit e h l s None p q = absurd (cc)
ended xs ys n limit e h l s (Some b) p q =
    let d = drop (length xs) b in
    let is = piece_is xs ys b n e q in
    let few : length d ≤ PIECE_LEN = omega (arith, ap length is, length-take PIECE_LEN d) in
    let all : xs ++ ys ≡ b = ap (λ v. xs ++ v) (is ∙ take_all PIECE_LEN d few) ∙ p in
    (omega (arith, ap length all, length-append xs ys), all)

front : (xs zs b : List ℕ) → xs ++ zs ≡ b → IsFront (Some b) xs
front xs zs b e =
    ap (λ v. xs ++ drop (length xs) v) (sym e) ∙ ap (λ v. xs ++ v) (drop-append_seam xs zs) ∙ e

further : (xs ys : List ℕ) (n : ℕ) → n ≡ length xs → (m : Option (List ℕ)) → IsFront m xs → IsPiece m n (piece.Bytes ys) → IsFront m (xs ++ ys)
further xs ys n e None p q = absurd (cc)
further xs ys n e (Some b) p q =
    let d = drop (length xs) b in
    front (xs ++ ys) (drop PIECE_LEN d) b
    (append_assoc xs ys (drop PIECE_LEN d) ∙ ap (λ v. xs ++ (v ++ drop PIECE_LEN d)) (piece_is xs ys b n e q) ∙ ap (λ v. xs ++ v) (take-append-drop PIECE_LEN d) ∙ p)

-- a piece that was read, over the files as they were at first
told : (o o' : Option Files) (q ys : List ℕ) (w : Piece) (n : ℕ) → o' ≡ o → w ≡ piece.Bytes ys → IfSome o' (λ f. IsPiece (f q) n w) → IfSome o (λ f. IsPiece (f q) n (piece.Bytes ys))
told o o' q ys w n same is r =
    subst (λ (v : Option Files). IfSome v (λ f. IsPiece (f q) n (piece.Bytes ys))) same (subst (λ (v : Piece). IfSome o' (λ f. IsPiece (f q) n v)) is r)

pub too_long_told : (o o' : Option Files) (q xs ys : List ℕ) (w : Piece) (n limit : ℕ) → o' ≡ o → w ≡ piece.Bytes ys → n ≡ length xs → n ≤ limit → limit - n < length ys → IfSome o (λ f. IsFront (f q) xs) → IfSome o' (λ f. IsPiece (f q) n w) → IfSome o (λ f. IsWhole (f q) limit whole.TooLong)
too_long_told o o' q xs ys w n limit same is e h l p r =
    at_path o q (λ m. IsFront m xs) (λ m. IsPiece m n (piece.Bytes ys)) (λ m. IsWhole m limit whole.TooLong) (too_long xs ys n limit e h l) p
    (told o o' q ys w n same is r)

pub ended_told : (o o' : Option Files) (q xs ys zs : List ℕ) (w : Piece) (n limit : ℕ) → o' ≡ o → w ≡ piece.Bytes ys → n ≡ length xs → n ≤ limit → length ys ≤ limit - n → length ys < PIECE_LEN → zs ≡ xs ++ ys → IfSome o (λ f. IsFront (f q) xs) → IfSome o' (λ f. IsPiece (f q) n w) → IfSome o (λ f. IsWhole (f q) limit (whole.Bytes zs))
ended_told o o' q xs ys zs w n limit same is e h l s z p r =
    at_path o q (λ m. IsFront m xs) (λ m. IsPiece m n (piece.Bytes ys)) (λ m. IsWhole m limit (whole.Bytes zs)) (λ m a b. subst (λ v. IsWhole m limit (whole.Bytes v)) (sym z) (ended xs ys n limit e h l s m a b)) p
    (told o o' q ys w n same is r)

pub further_told : (o o' : Option Files) (q xs ys zs : List ℕ) (w : Piece) (n : ℕ) → o' ≡ o → w ≡ piece.Bytes ys → n ≡ length xs → zs ≡ xs ++ ys → IfSome o (λ f. IsFront (f q) xs) → IfSome o' (λ f. IsPiece (f q) n w) → IfSome o (λ f. IsFront (f q) zs)
further_told o o' q xs ys zs w n same is e z p r =
    at_path o q (λ m. IsFront m xs) (λ m. IsPiece m n (piece.Bytes ys)) (λ m. IsFront m zs) (λ m a b. subst (λ v. IsFront m v) (sym z) (further xs ys n e m a b)) p
    (told o o' q ys w n same is r)
