-- The parameters of a run, by what was read of their file.
use Rattle.std.proofs.Common.{◌≡◌, ◌≤◌, ℕ, List, length, Option, Some, None, Result, Ok, Err, IfSome, refl, subst}
use Rattle.nf_host.specs.Files.{Files}
use Rattle.nf_host.specs.Whole.{IsWhole, IsWithin}
use Rattle.nf_host.specs.declared.host.HostRefusal.{HostRefusal}
use Rattle.nf_host.specs.declared.host.HostRefusal.TheVariants as host
use Rattle.nf_host.specs.declared.whole.Whole.{Whole}
use Rattle.nf_host.specs.declared.whole.Whole.TheVariants as whole
use Rattle.nf_ends.specs.declared.end.End.{End}
use Rattle.nf_ends.specs.declared.end.End.TheVariants as end
use Rattle.nf_ends.specs.Causes.{end_of_host}
use Rattle.nf_request.specs.Held.{IsAt, IsLonger}
use Rattle.nf_request.specs.Wishes.{Params, params_limit, IsBadFile, LacksFile, HasLongFile, LacksParams}
use Rattle.nf_request.specs.Steps.{GivesInFile, GivesOfBytes}
use Rattle.nf_request.proofs.Reading.{absent_there, bytes_there, long_there, some_there}

-- what is given over the file at the path, or over some file if the host tells none
abbrev pub SomeParams : Option Files → List ℕ → Result Params End → Type 0
SomeParams told path r = (held : Option (List ℕ)) × IsAt told path held × GivesInFile (Some path) held r

pub host_params : (told : Option Files) (path : List ℕ) (f : HostRefusal) → SomeParams told path (Err (end_of_host f))
host_params told path host.Failed = let s = some_there told path in (s.0, s.1, tt)
host_params told path host.Mem = let s = some_there told path in (s.0, s.1, tt)

-- want of memory is no fault of a file
pub no_memory : (path held : Option (List ℕ)) → LacksParams path held end.Mem
no_memory None held = refl
no_memory (Some p) held = tt

lacking : (path : List ℕ) (held : Option (List ℕ)) (e : End) → held ≡ None → LacksFile path e → IsBadFile path held e
lacking path held end.Ok none h = absurd h
lacking path held (end.TaskFailed p i n f) none h = absurd h
lacking path held (end.ItemFault p c) none h = absurd h
lacking path held (end.PublishClash c) none h = absurd h
lacking path held (end.Charge s) none h = absurd h
lacking path held (end.Usage f) none h = absurd h
lacking path held end.NoScript none h = absurd h
lacking path held (end.NoFile p) none h = (h, none)
lacking path held (end.FileTooLong p) none h = absurd h
lacking path held (end.Lex f) none h = absurd h
lacking path held (end.Parse f) none h = absurd h
lacking path held (end.Lower f) none h = absurd h
lacking path held (end.Order b) none h = absurd h
lacking path held (end.BadParams p) none h = absurd h
lacking path held end.HostFault none h = absurd h
lacking path held end.LaneFault none h = absurd h
lacking path held end.KeeperFault none h = absurd h
lacking path held end.SinkFault none h = absurd h
lacking path held (end.Damaged d f) none h = absurd h
lacking path held end.Mem none h = tt

longer : (path : List ℕ) (held : Option (List ℕ)) (e : End) → IsLonger params_limit held → HasLongFile path e → IsBadFile path held e
longer path held end.Ok long h = absurd h
longer path held (end.TaskFailed p i n f) long h = absurd h
longer path held (end.ItemFault p c) long h = absurd h
longer path held (end.PublishClash c) long h = absurd h
longer path held (end.Charge s) long h = absurd h
longer path held (end.Usage f) long h = absurd h
longer path held end.NoScript long h = absurd h
longer path held (end.NoFile p) long h = absurd h
longer path held (end.FileTooLong p) long h = (h, long)
longer path held (end.Lex f) long h = absurd h
longer path held (end.Parse f) long h = absurd h
longer path held (end.Lower f) long h = absurd h
longer path held (end.Order b) long h = absurd h
longer path held (end.BadParams p) long h = absurd h
longer path held end.HostFault long h = absurd h
longer path held end.LaneFault long h = absurd h
longer path held end.KeeperFault long h = absurd h
longer path held end.SinkFault long h = absurd h
longer path held (end.Damaged d f) long h = absurd h
longer path held end.Mem long h = tt

pub absent_params : (told : Option Files) (path : List ℕ) (w : Whole) (e : End) → w ≡ whole.Absent → IfSome told (λ f. IsWhole (f path) params_limit w) → LacksFile path e → SomeParams told path (Err e)
absent_params told path w e is h named =
    let s = absent_there told path params_limit (subst (λ v. IfSome told (λ f. IsWhole (f path) params_limit v)) is h) in
    (s.0, s.1, lacking path s.0 e s.2 named)

pub long_params : (told : Option Files) (path : List ℕ) (w : Whole) (e : End) → w ≡ whole.TooLong → IfSome told (λ f. IsWhole (f path) params_limit w) → HasLongFile path e → SomeParams told path (Err e)
long_params told path w e is h named =
    let s = long_there told path params_limit (subst (λ v. IfSome told (λ f. IsWhole (f path) params_limit v)) is h) in
    (s.0, s.1, longer path s.0 e s.2 named)

given_end : (path bytes : List ℕ) (held : Option (List ℕ)) (e : End) → held ≡ Some bytes → length bytes ≤ params_limit → GivesOfBytes bytes (Err e) → IsBadFile path held e
given_end path bytes held end.Ok there short h = absurd h
given_end path bytes held (end.TaskFailed p i n f) there short h = absurd h
given_end path bytes held (end.ItemFault p c) there short h = absurd h
given_end path bytes held (end.PublishClash c) there short h = absurd h
given_end path bytes held (end.Charge s) there short h = absurd h
given_end path bytes held (end.Usage f) there short h = absurd h
given_end path bytes held end.NoScript there short h = absurd h
given_end path bytes held (end.NoFile p) there short h = absurd h
given_end path bytes held (end.FileTooLong p) there short h = absurd h
given_end path bytes held (end.Lex f) there short h = absurd h
given_end path bytes held (end.Parse f) there short h = absurd h
given_end path bytes held (end.Lower f) there short h = absurd h
given_end path bytes held (end.Order b) there short h = absurd h
given_end path bytes held (end.BadParams p) there short h = (bytes, record { there = there; short = short }, h)
given_end path bytes held end.HostFault there short h = absurd h
given_end path bytes held end.LaneFault there short h = absurd h
given_end path bytes held end.KeeperFault there short h = absurd h
given_end path bytes held end.SinkFault there short h = absurd h
given_end path bytes held (end.Damaged d f) there short h = absurd h
given_end path bytes held end.Mem there short h = tt

given : (path bytes : List ℕ) (held : Option (List ℕ)) (r : Result Params End) → held ≡ Some bytes → length bytes ≤ params_limit → GivesOfBytes bytes r → GivesInFile (Some path) held r
given path bytes held (Ok ps) there short h = (bytes, record { there = there; short = short }, h)
given path bytes held (Err e) there short h = given_end path bytes held e there short h

pub bytes_params : (told : Option Files) (path : List ℕ) (w : Whole) (bytes : List ℕ) (r : Result Params End) → w ≡ whole.Bytes bytes → IsWithin params_limit w → IfSome told (λ f. IsWhole (f path) params_limit w) → GivesOfBytes bytes r → SomeParams told path r
bytes_params told path w bytes r is within h gives =
    let s = bytes_there told path params_limit bytes (subst (λ v. IfSome told (λ f. IsWhole (f path) params_limit v)) is h) in
    (s.0, s.1, given path bytes s.0 r s.2 (subst (IsWithin params_limit) is within) gives)
